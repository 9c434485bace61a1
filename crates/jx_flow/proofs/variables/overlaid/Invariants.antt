use Rattle.std.proofs.Common.{◌≡◌, ◌++◌, filter}
use Rattle.jx_flow.specs.Variables.{is_new, overlaid}
use Rattle.jx_flow.proofs.variables.overlaid.Given as goal

-- what is left decides
abbrev pub invariant-loop-pair : goal.invariant-loop-pair
invariant-loop-pair l = l.pairs.items ++ filter (is_new l.general) l.pair-iterator.rest.items ≡ overlaid l.fn.own l.general
