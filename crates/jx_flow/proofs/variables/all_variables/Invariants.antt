use Rattle.std.proofs.Common.{◌≡◌, drop, map}
use Rattle.jx_values.specs.Kinds.{plain_pair}
use Rattle.jx_flow.specs.Reading.{each}
use Rattle.jx_flow.specs.Variables.{variable_of}
use Rattle.jx_flow.proofs.Each.{behind}
use Rattle.jx_flow.proofs.variables.all_variables.Given as goal

-- what is left decides
abbrev pub invariant-loop-pair : goal.invariant-loop-pair
invariant-loop-pair l = behind l.variables.items (each (variable_of l.rule) (map plain_pair (drop l.pair-index l.pairs))) ≡ each (variable_of l.rule) (map plain_pair l.pairs)
