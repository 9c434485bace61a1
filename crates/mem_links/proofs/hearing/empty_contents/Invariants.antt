use Rattle.std.proofs.Common.{◌≡◌, [], replicate}
use Rattle.mem_links.proofs.hearing.empty_contents.Given as goal

abbrev pub invariant-loop : goal.invariant-loop
invariant-loop l = l.contents ≡ replicate l.counter []
