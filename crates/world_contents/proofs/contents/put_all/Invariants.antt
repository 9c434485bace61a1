use Rattle.std.proofs.Common.{◌≡◌, ◌<◌, ◌≤◌, ℕ, drop, length, map}
use Rattle.std.specs.Prelude.{All}
use Rattle.flow_types.specs.Serial.{with_contents}
use Rattle.world_contents.specs.Holdings.{held_in}
use Rattle.world_contents.proofs.contents.put_all.Given as goal

-- the later ones are put
abbrev pub invariant-files : goal.invariant-files
invariant-files l = record {
  within : l.at ≤ length l.files;
  places : length l.contents.items ≡ length l.fn.contents.items;
  put : All (λ file. file.0 < length l.fn.contents.items) l.files → (f : ℕ)
      → held_in l.contents.items f ≡ with_contents (held_in l.fn.contents.items) (map (λ file. file.0) (drop l.at l.files)) (drop l.at l.outs) f;
}

abbrev pub decreases-files : goal.decreases-files
decreases-files l = l.at
