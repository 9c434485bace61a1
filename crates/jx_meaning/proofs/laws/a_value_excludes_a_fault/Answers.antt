use Rattle.std.proofs.Common.{◌≡◌, ℕ, sym, ◌∙◌, Ok, Err}
use Rattle.jx_meaning.specs.declared.fault.EvalFault.{EvalFault}
use Rattle.jx_meaning.specs.Values.{Value}
use Rattle.jx_meaning.specs.Meaning.{Outcome}
use Rattle.jx_meaning.proofs.laws.a_value_excludes_a_fault.Goals as goal

none : (p : Value × ℕ) (e : EvalFault) → (let r : Outcome Value = Ok p in r) ≡ Err e → ⊥
none p e h = cc

pub returns : goal.returns
returns c = λ s t v n e h k. none (v, n) e (sym h ∙ k)
