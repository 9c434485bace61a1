-- Sums of values of each kind.
use Rattle.std.proofs.Common.{◌≡◌, ℕ, List, ◌++◌, map, Option, Err, refl, ap, ◌∙◌}
use Rattle.std.specs.Prelude.{ℤ}
use Rattle.jx_syntax.specs.declared.value.JxValue.{JxValue}
use Rattle.jx_syntax.specs.declared.value.JxValue.TheVariants as value
use Rattle.jx_syntax.specs.declared.operator.Operator.TheVariants as op
use Rattle.jx_meaning.specs.declared.fault.EvalFault.TheVariants.{WrongKind}
use Rattle.jx_meaning.specs.Values.{Value, Values, null, truth, number, text, list, object, items, values, plain}
use Rattle.jx_meaning.specs.Numbers.{arithmetic}
use Rattle.jx_meaning.specs.Lists.{limited}
use Rattle.jx_meaning.specs.Operations.{added}
use Rattle.jx_values.specs.Kinds.{number_in, text_in, items_in}
use Rattle.jx_values.proofs.Plain.{Kind, is_null, is_truth, is_number, is_text, is_list, is_object, kind, plain-null, plain-truth, plain-number, plain-text, plain-list, plain-object, items-values, no_text, no_items, no_number}
use Rattle.jx_values.proofs.Signs.{or_wrong}

pub to_number : (at : ℕ) (x : ℤ) (w : Value) → added at (number x) w ≡ or_wrong at (number_in w) (arithmetic op.Add at x)
to_number at x null = refl
to_number at x (truth u) = refl
to_number at x (number y) = refl
to_number at x (text y) = refl
to_number at x (list ws) = refl
to_number at x (object qs) = refl

pub to_text : (at : ℕ) (x : List ℕ) (w : Value) → added at (text x) w ≡ or_wrong at (text_in w) (λ y. limited at (text (x ++ y)))
to_text at x null = refl
to_text at x (truth u) = refl
to_text at x (number y) = refl
to_text at x (text y) = refl
to_text at x (list ws) = refl
to_text at x (object qs) = refl

pub to_list : (at : ℕ) (vs : Values) (w : Value) → added at (list vs) w ≡ or_wrong at (items_in w) (λ ws. limited at (list (values (items vs ++ ws))))
to_list at vs null = refl
to_list at vs (truth u) = refl
to_list at vs (number y) = refl
to_list at vs (text y) = refl
to_list at vs (list ws) = refl
to_list at vs (object qs) = refl

-- what a text gives with a value of another kind, and with a text
pub text_wrong : (at : ℕ) (x : List ℕ) (b : JxValue) → ((t : List ℕ) → b ≡ value.Text t → ⊥) → added at (text x) (plain b) ≡ Err (WrongKind at)
text_wrong at x b h = to_text at x (plain b) ∙ ap (λ (o : Option (List ℕ)). or_wrong at o (λ y. limited at (text (x ++ y)))) (no_text b h)

pub text_right : (at : ℕ) (x y : List ℕ) (b : JxValue) → b ≡ value.Text y → added at (text x) (plain b) ≡ limited at (text (x ++ y))
text_right at x y b e = ap (λ (v : JxValue). added at (text x) (plain v)) e ∙ ap (added at (text x)) (plain-text y)

pub list_wrong : (at : ℕ) (vs : List Value) (b : JxValue) → ((l : List JxValue) → b ≡ value.List l → ⊥) → added at (list (values vs)) (plain b) ≡ Err (WrongKind at)
list_wrong at vs b h = to_list at (values vs) (plain b) ∙ ap (λ (o : Option (List Value)). or_wrong at o (λ ws. limited at (list (values (items (values vs) ++ ws))))) (no_items b h)

pub list_right : (at : ℕ) (vs : List Value) (ys : List JxValue) (b : JxValue) → b ≡ value.List ys → added at (list (values vs)) (plain b) ≡ limited at (list (values (vs ++ map plain ys)))
list_right at vs ys b e =
    ap (λ (v : JxValue). added at (list (values vs)) (plain v)) e ∙ ap (added at (list (values vs))) (plain-list ys)
    ∙ ap (λ (l : List Value). limited at (list (values (l ++ items (values (map plain ys)))))) (items-values vs)
    ∙ ap (λ (l : List Value). limited at (list (values (vs ++ l)))) (items-values (map plain ys))

wrong_by : (at : ℕ) (a : JxValue) (w : Value) → Kind a → ((z : ℤ) → a ≡ value.Number z → ⊥) → ((t : List ℕ) → a ≡ value.Text t → ⊥) → ((l : List JxValue) → a ≡ value.List l → ⊥) → added at (plain a) w ≡ Err (WrongKind at)
wrong_by at a w (is_null e) hn ht hl = ap (λ (v : JxValue). added at (plain v) w) e ∙ ap (λ (v : Value). added at v w) plain-null
wrong_by at a w (is_truth t e) hn ht hl = ap (λ (v : JxValue). added at (plain v) w) e ∙ ap (λ (v : Value). added at v w) (plain-truth t)
wrong_by at a w (is_number z e) hn ht hl = absurd (hn z e)
wrong_by at a w (is_text t e) hn ht hl = absurd (ht t e)
wrong_by at a w (is_list vs e) hn ht hl = absurd (hl vs e)
wrong_by at a w (is_object ps e) hn ht hl = ap (λ (v : JxValue). added at (plain v) w) e ∙ ap (λ (v : Value). added at v w) (plain-object ps)

pub wrong : (at : ℕ) (a : JxValue) (w : Value) → ((z : ℤ) → a ≡ value.Number z → ⊥) → ((t : List ℕ) → a ≡ value.Text t → ⊥) → ((l : List JxValue) → a ≡ value.List l → ⊥) → added at (plain a) w ≡ Err (WrongKind at)
wrong at a w = wrong_by at a w (kind a)

pub first_number : (at : ℕ) (x : ℤ) (a : JxValue) (w : Value) → a ≡ value.Number x → added at (plain a) w ≡ or_wrong at (number_in w) (arithmetic op.Add at x)
first_number at x a w e = ap (λ (v : JxValue). added at (plain v) w) e ∙ ap (λ (v : Value). added at v w) (plain-number x) ∙ to_number at x w

pub first_text : (at : ℕ) (x : List ℕ) (a : JxValue) (w : Value) → a ≡ value.Text x → added at (plain a) w ≡ added at (text x) w
first_text at x a w e = ap (λ (v : JxValue). added at (plain v) w) e ∙ ap (λ (v : Value). added at v w) (plain-text x)

pub first_list : (at : ℕ) (xs : List JxValue) (a : JxValue) (w : Value) → a ≡ value.List xs → added at (plain a) w ≡ added at (list (values (map plain xs))) w
first_list at xs a w e = ap (λ (v : JxValue). added at (plain v) w) e ∙ ap (λ (v : Value). added at v w) (plain-list xs)

pub ruleset sums = (text_wrong, text_right, list_wrong, list_right, wrong, first_number, first_text, first_list, plain-number)
