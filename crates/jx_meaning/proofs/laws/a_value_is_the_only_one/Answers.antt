use Rattle.std.proofs.Common.{◌≡◌, ℕ, sym, ◌∙◌, ap, Ok}
use Rattle.jx_meaning.specs.Values.{Value}
use Rattle.jx_meaning.specs.Meaning.{Outcome}
use Rattle.jx_meaning.proofs.laws.a_value_is_the_only_one.Goals as goal

one : (a b : Value × ℕ) → (let r : Outcome Value = Ok a in r) ≡ Ok b → (a.0 ≡ b.0) × (a.1 ≡ b.1)
one a b h = let e : a ≡ b = cc in (ap (λ (p : Value × ℕ). p.0) e, ap (λ (p : Value × ℕ). p.1) e)

pub returns : goal.returns
returns c = λ s t v w n m h k. one (v, n) (w, m) (sym h ∙ k)
