use Rattle.std.proofs.Common.{◌≡◌, ◌<◌, ℕ, false, get_or}
use Rattle.resource_pack.specs.Packing.{PackedLink, is_link}
use Rattle.resource_pack.proofs.pack.place_of.Given as goal

abbrev pub invariant-loop-at : goal.invariant-loop-at
invariant-loop-at l = (k : ℕ) (d : PackedLink) → k < l.at → is_link l.link.0 (get_or l.links k d) ≡ false
