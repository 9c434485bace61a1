use Rattle.std.proofs.Common.{◌≡◌, ◌++◌, drop, map}
use Rattle.jx_flow.specs.Variables.{replaced_by}
use Rattle.jx_flow.proofs.variables.all_replaced.Given as goal

-- what is left decides
abbrev pub invariant-loop-pair : goal.invariant-loop-pair
invariant-loop-pair l = l.pairs.items ++ map (replaced_by l.own) (drop l.pair-index l.general) ≡ map (replaced_by l.own) l.general
