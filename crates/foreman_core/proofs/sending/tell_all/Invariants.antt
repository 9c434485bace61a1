use Rattle.std.proofs.Common.{◌≡◌, ◌++◌, map, take}
use Rattle.foreman_core.specs.Steps.{not_run}
use Rattle.foreman_core.proofs.sending.tell_all.Given as goal

abbrev pub invariant-loop-u : goal.invariant-loop-u
invariant-loop-u l = l.up ≡ l.initial.up ++ map not_run (take l.u-index l.gone)
