use Rattle.std.proofs.Common.{◌≡◌, replicate}
use Rattle.mem_commands.proofs.contents.copies_of.Given as goal

abbrev pub invariant-loop : goal.invariant-loop
invariant-loop l = l.contents ≡ replicate l.counter l.content
