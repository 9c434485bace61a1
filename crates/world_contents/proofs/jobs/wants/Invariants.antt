use Rattle.std.proofs.Common.{◌≡◌, ◌++◌, map}
use Rattle.world_laws.specs.Worlds.{want_at}
use Rattle.world_contents.proofs.jobs.wants.Given as goal

-- what is left decides
abbrev pub invariant-loop-file : goal.invariant-loop-file
invariant-loop-file l = l.wants.items ++ map (want_at l.plan) l.file-iterator.rest.items ≡ map (want_at l.plan) l.fn.ports
