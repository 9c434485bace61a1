-- Functions of values by the kinds of their arguments.
use Rattle.std.proofs.Common.{◌≡◌, ℕ, List, [], ◌∷◌, ◌++◌, length, map, Option, Some, None, Ok, Err, refl, sym, ap, ◌∙◌}
use Rattle.std.specs.Prelude.{ℤ, pos}
use Rattle.std.specs.Str.{chars}
use Rattle.std.proofs.lemmas.List.{length-map}
use Rattle.jx_syntax.specs.declared.value.JxValue.{JxValue}
use Rattle.jx_syntax.specs.declared.value.JxValue.TheVariants as value
use Rattle.jx_meaning.specs.declared.fault.EvalFault.TheVariants.{WrongKind}
use Rattle.jx_meaning.specs.Values.{Value, Values, Entry, items, null, truth, number, text, list, object, entries, plain, find}
use Rattle.jx_meaning.specs.Numbers.{Answer, ranged}
use Rattle.jx_meaning.specs.Texts.{texts_of, join_texts, made, filled, outside}
use Rattle.jx_meaning.specs.Operations.{range_of, join_of, len_of, or_other, template_of}
use Rattle.jx_values.specs.Kinds.{number_in, text_in, items_in, entries_in}
use Rattle.jx_values.proofs.Plain.{plain-number}
use Rattle.jx_values.proofs.Signs.{or_wrong}
use Rattle.jx_functions.proofs.Finding.{find-append}
use mathlib.Core.Path.{fun_ext}

-- ---- `len`

abbrev pub measured : ℕ → Option (List Value) → Option (List ℕ) → Answer
measured at (Some vs) t = Ok (number (pos (length vs)))
measured at None (Some t) = Ok (number (pos (length (chars t))))
measured at None None = Err (WrongKind at)

pub len-views : (at : ℕ) (v : Value) → len_of at (v ∷ []) ≡ measured at (items_in v) (text_in v)
len-views at null = refl
len-views at (truth t) = refl
len-views at (number z) = refl
len-views at (text t) = refl
len-views at (list vs) = refl
len-views at (object ps) = refl

pub list_len : (at : ℕ) (v : Value) (vs : List JxValue) (z : ℤ) → items_in v ≡ Some (map plain vs) → z ≡ pos (length vs) → len_of at (v ∷ []) ≡ Ok (plain (value.Number z))
list_len at v vs z h e =
    len-views at v ∙ ap (λ (o : Option (List Value)). measured at o (text_in v)) h ∙ ap (λ (n : ℕ). Ok (number (pos n))) (length-map vs plain) ∙ ap (λ (n : ℤ). Ok (number n)) (sym e) ∙ ap Ok (sym (plain-number z))

pub text_len : (at : ℕ) (v : Value) (t : List ℕ) (z : ℤ) → items_in v ≡ None → text_in v ≡ Some t → z ≡ pos (length (chars t)) → len_of at (v ∷ []) ≡ Ok (plain (value.Number z))
text_len at v t z h k e =
    len-views at v ∙ ap (λ (o : Option (List Value)). measured at o (text_in v)) h ∙ ap (measured at None) k ∙ ap (λ (n : ℤ). Ok (number n)) (sym e) ∙ ap Ok (sym (plain-number z))

-- ---- `template`

pub template-one : (at : ℕ) (s : List Entry) (v : Value) → template_of at s (v ∷ []) ≡ or_wrong at (text_in v) (λ t. made at (filled at (λ x. find x s) outside t))
template-one at s null = refl
template-one at s (truth t) = refl
template-one at s (number z) = refl
template-one at s (text t) = refl
template-one at s (list vs) = refl
template-one at s (object ps) = refl

keys_first : (at : ℕ) (s : List Entry) (t : List ℕ) (es : List Entry) → made at (filled at (λ x. or_other (find x es) (find x s)) outside t) ≡ made at (filled at (λ x. find x (es ++ s)) outside t)
keys_first at s t es = ap (λ (look : List ℕ → Option Value). made at (filled at look outside t)) (fun_ext (λ x. sym (find-append x es s)))

with_text : (at : ℕ) (s : List Entry) (t : List ℕ) (w : Value) → template_of at s (text t ∷ w ∷ []) ≡ or_wrong at (entries_in w) (λ es. made at (filled at (λ x. find x (es ++ s)) outside t))
with_text at s t null = refl
with_text at s t (truth b) = refl
with_text at s t (number z) = refl
with_text at s t (text u) = refl
with_text at s t (list vs) = refl
with_text at s t (object ps) = keys_first at s t (entries ps)

pub template-two : (at : ℕ) (s : List Entry) (v w : Value) → template_of at s (v ∷ w ∷ []) ≡ or_wrong at (text_in v) (λ t. or_wrong at (entries_in w) (λ es. made at (filled at (λ x. find x (es ++ s)) outside t)))
template-two at s null w = refl
template-two at s (truth t) w = refl
template-two at s (number z) w = refl
template-two at s (text t) w = with_text at s t w
template-two at s (list vs) w = refl
template-two at s (object ps) w = refl

-- ---- `range`

pub range-one : (at : ℕ) (v : Value) → range_of at (v ∷ []) ≡ or_wrong at (number_in v) (λ b. ranged at (pos 0) b (pos 1))
range-one at null = refl
range-one at (truth t) = refl
range-one at (number z) = refl
range-one at (text t) = refl
range-one at (list vs) = refl
range-one at (object ps) = refl

number_two : (at : ℕ) (a : ℤ) (w : Value) → range_of at (number a ∷ w ∷ []) ≡ or_wrong at (number_in w) (λ b. ranged at a b (pos 1))
number_two at a null = refl
number_two at a (truth t) = refl
number_two at a (number z) = refl
number_two at a (text t) = refl
number_two at a (list vs) = refl
number_two at a (object ps) = refl

pub range-two : (at : ℕ) (v w : Value) → range_of at (v ∷ w ∷ []) ≡ or_wrong at (number_in v) (λ a. or_wrong at (number_in w) (λ b. ranged at a b (pos 1)))
range-two at null w = refl
range-two at (truth t) w = refl
range-two at (number z) w = number_two at z w
range-two at (text t) w = refl
range-two at (list vs) w = refl
range-two at (object ps) w = refl

numbers_three : (at : ℕ) (a b : ℤ) (x : Value) → range_of at (number a ∷ number b ∷ x ∷ []) ≡ or_wrong at (number_in x) (λ s. ranged at a b s)
numbers_three at a b null = refl
numbers_three at a b (truth t) = refl
numbers_three at a b (number z) = refl
numbers_three at a b (text t) = refl
numbers_three at a b (list vs) = refl
numbers_three at a b (object ps) = refl

number_three : (at : ℕ) (a : ℤ) (w x : Value) → range_of at (number a ∷ w ∷ x ∷ []) ≡ or_wrong at (number_in w) (λ b. or_wrong at (number_in x) (λ s. ranged at a b s))
number_three at a null x = refl
number_three at a (truth t) x = refl
number_three at a (number z) x = numbers_three at a z x
number_three at a (text t) x = refl
number_three at a (list vs) x = refl
number_three at a (object ps) x = refl

pub range-three : (at : ℕ) (v w x : Value) → range_of at (v ∷ w ∷ x ∷ []) ≡ or_wrong at (number_in v) (λ a. or_wrong at (number_in w) (λ b. or_wrong at (number_in x) (λ s. ranged at a b s)))
range-three at null w x = refl
range-three at (truth t) w x = refl
range-three at (number z) w x = number_three at z w x
range-three at (text t) w x = refl
range-three at (list vs) w x = refl
range-three at (object ps) w x = refl

-- ---- `join`

pub join-one : (at : ℕ) (v : Value) → join_of at (v ∷ []) ≡ or_wrong at (items_in v) (λ vs. join_texts at (32 ∷ []) (texts_of vs))
join-one at null = refl
join-one at (truth t) = refl
join-one at (number z) = refl
join-one at (text t) = refl
join-one at (list vs) = refl
join-one at (object ps) = refl

list_two : (at : ℕ) (vs : Values) (w : Value) → join_of at (list vs ∷ w ∷ []) ≡ or_wrong at (text_in w) (λ sep. join_texts at sep (texts_of (items vs)))
list_two at vs null = refl
list_two at vs (truth t) = refl
list_two at vs (number z) = refl
list_two at vs (text t) = refl
list_two at vs (list ws) = refl
list_two at vs (object ps) = refl

pub join-two : (at : ℕ) (v w : Value) → join_of at (v ∷ w ∷ []) ≡ or_wrong at (items_in v) (λ vs. or_wrong at (text_in w) (λ sep. join_texts at sep (texts_of vs)))
join-two at null w = refl
join-two at (truth t) w = refl
join-two at (number z) w = refl
join-two at (text t) w = refl
join-two at (list vs) w = list_two at vs w
join-two at (object ps) w = refl

pub ruleset calls = (len-views, plain-number, template-one, template-two, range-one, range-two, range-three, join-one, join-two)
