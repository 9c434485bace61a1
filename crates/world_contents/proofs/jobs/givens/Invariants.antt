use Rattle.std.proofs.Common.{◌≡◌, ◌++◌, map}
use Rattle.world_contents.specs.Holdings.{given_at, held_in}
use Rattle.world_contents.proofs.jobs.givens.Given as goal

-- what is left decides
abbrev pub invariant-loop-file : goal.invariant-loop-file
invariant-loop-file l = l.givens.items ++ map (given_at (held_in l.contents)) l.file-iterator.rest.items ≡ map (given_at (held_in l.contents)) l.fn.ports
