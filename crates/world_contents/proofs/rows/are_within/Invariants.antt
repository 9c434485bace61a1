use Rattle.std.proofs.Common.{◌≡◌, drop, length}
use Rattle.flow_types.specs.Plans.{files_of}
use Rattle.run_history.specs.Legal.{are_within}
use Rattle.world_contents.proofs.rows.are_within.Given as goal

-- what is left decides
abbrev pub invariant-loop-at : goal.invariant-loop-at
invariant-loop-at l = record {
  alike : length l.ports ≡ length l.rows;
  left : are_within l.plan (files_of (drop l.at l.ports)) (drop l.at l.rows) ≡ are_within l.plan (files_of l.ports) l.rows;
}
