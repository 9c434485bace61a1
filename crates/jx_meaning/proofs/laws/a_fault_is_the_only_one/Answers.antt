use Rattle.std.proofs.Common.{◌≡◌, sym, ◌∙◌, Err}
use Rattle.jx_meaning.specs.declared.fault.EvalFault.{EvalFault}
use Rattle.jx_meaning.specs.Values.{Value}
use Rattle.jx_meaning.specs.Meaning.{Outcome}
use Rattle.jx_meaning.proofs.laws.a_fault_is_the_only_one.Goals as goal

one : (e f : EvalFault) → (let r : Outcome Value = Err e in r) ≡ Err f → e ≡ f
one e f h = cc

pub returns : goal.returns
returns c = λ s t e f h k. one e f (sym h ∙ k)
