use Rattle.std.proofs.Common.{◌≡◌, ◌≤◌, take, drop}
use Rattle.run_history.specs.History.{part}
use Rattle.log_text.proofs.part.part_start.Given as goal

abbrev pub invariant-loop-at : goal.invariant-loop-at
invariant-loop-at l = record {
  inside : l.start ≤ l.at;
  part : drop l.start (take l.at l.history) ≡ part (take l.at l.history);
}
