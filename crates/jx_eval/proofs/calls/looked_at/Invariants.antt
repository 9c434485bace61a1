use Rattle.std.proofs.Common.{◌≡◌, map, take}
use Rattle.jx_meaning.specs.Values.{plain}
use Rattle.jx_eval.proofs.calls.looked_at.Given as goal

abbrev pub invariant-loop-operand : goal.invariant-loop-operand
invariant-loop-operand l = map (λ v. plain v.now) l.given.items ≡ map plain (take l.operand-index l.operands)
