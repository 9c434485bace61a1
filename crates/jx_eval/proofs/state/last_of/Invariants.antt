use Rattle.std.proofs.Common.{◌≡◌, take, option_map, option_copied}
use Rattle.jx_meaning.specs.Values.{plain, find}
use Rattle.jx_meaning.specs.Meaning.{Scope}
use Rattle.jx_meaning.specs.Operations.{or_other}
use Rattle.jx_eval.specs.Operands.{seen_value}
use Rattle.jx_eval.specs.Machine.{bound_on}
use Rattle.jx_eval.proofs.state.last_of.Given as goal

abbrev pub invariant-loop-binding : goal.invariant-loop-binding
invariant-loop-binding l = (s : Scope) → find l.fn.name (bound_on (take l.binding-index l.bindings) s) ≡ or_other (option_map (λ b. plain (seen_value b)) (option_copied l.found)) (find l.fn.name s)
