use Rattle.std.proofs.Common.{◌≡◌, ◌+◌, ◌++◌, length, drop}
use Rattle.std.specs.Str.Lines.{lines}
use Rattle.mf_text.specs.Lines.{joined, finished}
use Rattle.mf_text.proofs.lines.joined_lines.Given as goal

abbrev pub invariant-loop-line : goal.invariant-loop-line
invariant-loop-line l = record {
  counted : l.number ≡ length l.yielded + 1;
  whole : l.done.items ++ finished l.pending (joined l.number (drop (length l.yielded) (lines l.source))) ≡ joined 1 (lines l.source);
}
