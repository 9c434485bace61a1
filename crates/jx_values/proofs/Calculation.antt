-- Operators on values of each kind.
use Rattle.std.proofs.Common.{◌≡◌, ℕ, Option, Some, Err, refl}
use Rattle.std.specs.Prelude.{ℤ}
use Rattle.jx_syntax.specs.declared.operator.Operator.{Operator}
use Rattle.jx_meaning.specs.declared.fault.EvalFault.TheVariants.{WrongKind}
use Rattle.jx_meaning.specs.Values.{Value, null, truth, number, text, list, object}
use Rattle.jx_meaning.specs.Numbers.{Answer, arithmetic}
use Rattle.jx_meaning.specs.Operations.{calculated}
use Rattle.jx_values.specs.Kinds.{number_in}
use Rattle.jx_values.proofs.Plain.{plain-number}

-- what two numbers give
abbrev pub of_two : ℕ → Option ℤ → Option ℤ → (ℤ → ℤ → Answer) → Answer
of_two at (Some x) (Some y) f = f x y
of_two at x y f = Err (WrongKind at)

pub calculated-views : (o : Operator) (at : ℕ) (a b : Value) → calculated o at a b ≡ of_two at (number_in a) (number_in b) (arithmetic o at)
calculated-views o at null null = refl
calculated-views o at null (truth u) = refl
calculated-views o at null (number y) = refl
calculated-views o at null (text y) = refl
calculated-views o at null (list ws) = refl
calculated-views o at null (object qs) = refl
calculated-views o at (truth t) null = refl
calculated-views o at (truth t) (truth u) = refl
calculated-views o at (truth t) (number y) = refl
calculated-views o at (truth t) (text y) = refl
calculated-views o at (truth t) (list ws) = refl
calculated-views o at (truth t) (object qs) = refl
calculated-views o at (number x) null = refl
calculated-views o at (number x) (truth u) = refl
calculated-views o at (number x) (number y) = refl
calculated-views o at (number x) (text y) = refl
calculated-views o at (number x) (list ws) = refl
calculated-views o at (number x) (object qs) = refl
calculated-views o at (text x) null = refl
calculated-views o at (text x) (truth u) = refl
calculated-views o at (text x) (number y) = refl
calculated-views o at (text x) (text y) = refl
calculated-views o at (text x) (list ws) = refl
calculated-views o at (text x) (object qs) = refl
calculated-views o at (list vs) null = refl
calculated-views o at (list vs) (truth u) = refl
calculated-views o at (list vs) (number y) = refl
calculated-views o at (list vs) (text y) = refl
calculated-views o at (list vs) (list ws) = refl
calculated-views o at (list vs) (object qs) = refl
calculated-views o at (object ps) null = refl
calculated-views o at (object ps) (truth u) = refl
calculated-views o at (object ps) (number y) = refl
calculated-views o at (object ps) (text y) = refl
calculated-views o at (object ps) (list ws) = refl
calculated-views o at (object ps) (object qs) = refl

pub ruleset operators = (calculated-views, plain-number)
