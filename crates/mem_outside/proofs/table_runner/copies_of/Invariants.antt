use Rattle.std.proofs.Common.{◌≡◌, take}
use Rattle.mem_outside.proofs.table_runner.copies_of.Given as goal

abbrev pub invariant-loop-content : goal.invariant-loop-content
invariant-loop-content l = l.copies ≡ take l.content-index l.contents
