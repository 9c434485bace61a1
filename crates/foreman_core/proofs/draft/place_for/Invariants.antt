use Rattle.std.proofs.Common.{◌≡◌, ◌<◌, ℕ, false, get_or}
use Rattle.foreman_core.specs.declared.links.Below.{Below}
use Rattle.foreman_core.specs.Foremen.{fits_among}
use Rattle.foreman_core.proofs.draft.place_for.Given as goal

abbrev pub invariant-loop-at : goal.invariant-loop-at
invariant-loop-at l = (k : ℕ) (d : Below) → k < l.at → fits_among l.cache.rows l.attempts l.task (get_or l.links k d) ≡ false
