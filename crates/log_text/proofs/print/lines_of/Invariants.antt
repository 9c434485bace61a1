use Rattle.std.proofs.Common.{◌≡◌, ◌++◌, [], take, drop, length}
use Rattle.log_text.specs.Lines.{lines_behind}
use Rattle.log_text.specs.Tallies.{IsTally, Tells}
use Rattle.log_text.proofs.print.lines_of.Given as goal

abbrev pub invariant-loop-entry : goal.invariant-loop-entry
invariant-loop-entry l = record {
  counted : IsTally (length l.plan.rules) l.tally;
  records : l.tally.records ≡ l.entry-index;
  tells : Tells l.tally (take l.entry-index l.part);
  text : l.out.items ++ lines_behind l.plan (take l.entry-index l.part) (drop l.entry-index l.part) ≡ lines_behind l.plan [] l.part;
}
