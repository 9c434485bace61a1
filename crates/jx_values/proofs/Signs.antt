-- Signs before values of each kind.
use Rattle.std.proofs.Common.{◌≡◌, ℕ, not, Option, Some, None, Ok, Err, refl}
use Rattle.jx_syntax.specs.declared.operator.Sign.TheVariants as sign
use Rattle.jx_meaning.specs.declared.fault.EvalFault.TheVariants.{WrongKind}
use Rattle.jx_meaning.specs.Values.{Value, null, truth, number, text, list, object}
use Rattle.jx_meaning.specs.Numbers.{Answer, in_range}
use Rattle.jx_meaning.specs.Operations.{signed}
use Rattle.jx_values.specs.Kinds.{truth_in, number_in}
use Rattle.jx_values.proofs.Plain.{views, plain-number, plain-truth}
use Rattle.std.specs.Prelude.{neg_ℤ}

abbrev pub or_wrong : {A : Type 0} → ℕ → Option A → (A → Answer) → Answer
or_wrong at None f = Err (WrongKind at)
or_wrong at (Some x) f = f x

pub minus : (at : ℕ) (v : Value) → signed at sign.Minus v ≡ or_wrong at (number_in v) (λ z. in_range at (neg_ℤ z))
minus at null = refl
minus at (truth t) = refl
minus at (number z) = refl
minus at (text t) = refl
minus at (list vs) = refl
minus at (object ps) = refl

pub plus : (at : ℕ) (v : Value) → signed at sign.Plus v ≡ or_wrong at (number_in v) (λ z. Ok (number z))
plus at null = refl
plus at (truth t) = refl
plus at (number z) = refl
plus at (text t) = refl
plus at (list vs) = refl
plus at (object ps) = refl

pub negated : (at : ℕ) (v : Value) → signed at sign.Not v ≡ or_wrong at (truth_in v) (λ t. Ok (truth (not t)))
negated at null = refl
negated at (truth t) = refl
negated at (number z) = refl
negated at (text t) = refl
negated at (list vs) = refl
negated at (object ps) = refl

pub ruleset signs = (minus, plus, negated, plain-number, plain-truth)
