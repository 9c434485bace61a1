use Rattle.std.proofs.Common.{◌≡◌, drop}
use Rattle.jx_flow.specs.Variables.{value_in}
use Rattle.jx_flow.proofs.variables.value_in.Given as goal

-- what is left decides
abbrev pub invariant-loop-pair : goal.invariant-loop-pair
invariant-loop-pair l = value_in l.name (drop l.pair-index l.pairs) ≡ value_in l.name l.pairs
