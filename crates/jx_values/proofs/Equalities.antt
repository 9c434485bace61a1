-- What equality comes to, where one of the values is of a known kind.
use Rattle.std.proofs.Common.{◌≡◌, ℕ, suc, ◌+◌, ◌<◌, ◌≤◌, Bool, true, false, ◌&&◌, ◌==◌, List, [], ◌∷◌, length, drop, map, get_or, Option, Some, None, refl, sym, ap, ◌∙◌, arith}
use Rattle.std.specs.Prelude.{ℤ}
use Rattle.std.specs.Bool.{beq}
use Rattle.std.specs.Ordering.{int_eq}
use Rattle.std.specs.Str.{bytes_eq}
use Rattle.std.proofs.lemmas.List.{drop_more, drop_all, length-map}
use Rattle.std.proofs.lemmas.Bool.{eq-eqb}
use Rattle.jx_syntax.specs.declared.value.JxValue.{JxValue}
use Rattle.jx_syntax.specs.declared.value.JxValue.TheVariants as value
use Rattle.jx_syntax.specs.declared.value.JxPair.{JxPair}
use Rattle.jx_meaning.specs.Values.{Value, Values, Pairs, Entry, null, truth, number, text, list, object, values, entries, pairs, plain, find, found_and, equal, all_equal, all_found}
use Rattle.jx_values.specs.Kinds.{plain_pair, truth_in, number_in, text_in, items_in, entries_in}
use Rattle.jx_values.specs.Kinds as kinds
use Rattle.jx_values.proofs.Plain.{plain-null, plain-truth, plain-number, plain-text, plain-list, plain-object, values-items, entries-pairs}

-- there is such a thing, and it passes
abbrev pub holds : {A : Type 0} → Option A → (A → Bool) → Bool
holds None f = false
holds (Some x) f = f x

with_null : (w : Value) → equal null w ≡ kinds.is_null w
unfolding equal
with_null null = refl
with_null (truth u) = refl
with_null (number y) = refl
with_null (text u) = refl
with_null (list ws) = refl
with_null (object qs) = refl

with_truth : (t : Bool) (w : Value) → equal (truth t) w ≡ holds (truth_in w) (beq t)
unfolding equal
with_truth t null = refl
with_truth t (truth u) = refl
with_truth t (number y) = refl
with_truth t (text u) = refl
with_truth t (list ws) = refl
with_truth t (object qs) = refl

with_number : (x : ℤ) (w : Value) → equal (number x) w ≡ holds (number_in w) (int_eq x)
unfolding equal
with_number x null = refl
with_number x (truth u) = refl
with_number x (number y) = refl
with_number x (text u) = refl
with_number x (list ws) = refl
with_number x (object qs) = refl

with_text : (t : List ℕ) (w : Value) → equal (text t) w ≡ holds (text_in w) (bytes_eq t)
unfolding equal
with_text t null = refl
with_text t (truth u) = refl
with_text t (number y) = refl
with_text t (text u) = refl
with_text t (list ws) = refl
with_text t (object qs) = refl

with_list : (vs : Values) (w : Value) → equal (list vs) w ≡ holds (items_in w) (λ ws. all_equal vs (values ws))
unfolding equal
with_list vs null = refl
with_list vs (truth u) = refl
with_list vs (number y) = refl
with_list vs (text u) = refl
with_list vs (list ws) = ap (all_equal vs) (sym (values-items ws))
with_list vs (object qs) = refl

with_object : (ps : Pairs) (w : Value) → equal (object ps) w ≡ holds (entries_in w) (λ es. (length (entries ps) == length es) && all_found ps es)
unfolding equal
with_object ps null = refl
with_object ps (truth u) = refl
with_object ps (number y) = refl
with_object ps (text u) = refl
with_object ps (list ws) = refl
with_object ps (object qs) = refl

pub of_truth : (a b : JxValue) (t : Bool) → a ≡ value.Truth t → equal (plain a) (plain b) ≡ holds (truth_in (plain b)) (beq t)
of_truth a b t e = ap (λ (v : JxValue). equal (plain v) (plain b)) e ∙ ap (λ (v : Value). equal v (plain b)) (plain-truth t) ∙ with_truth t (plain b)

pub of_number : (a b : JxValue) (x : ℤ) → a ≡ value.Number x → equal (plain a) (plain b) ≡ holds (number_in (plain b)) (int_eq x)
of_number a b x e = ap (λ (v : JxValue). equal (plain v) (plain b)) e ∙ ap (λ (v : Value). equal v (plain b)) (plain-number x) ∙ with_number x (plain b)

pub of_text : (a b : JxValue) (t : List ℕ) → a ≡ value.Text t → equal (plain a) (plain b) ≡ holds (text_in (plain b)) (bytes_eq t)
of_text a b t e = ap (λ (v : JxValue). equal (plain v) (plain b)) e ∙ ap (λ (v : Value). equal v (plain b)) (plain-text t) ∙ with_text t (plain b)

pub of_null : (a b : JxValue) → a ≡ value.Null → equal (plain a) (plain b) ≡ kinds.is_null (plain b)
of_null a b e = ap (λ (v : JxValue). equal (plain v) (plain b)) e ∙ ap (λ (v : Value). equal v (plain b)) plain-null ∙ with_null (plain b)

pub of_list : (a b : JxValue) (vs : List JxValue) → a ≡ value.List vs → equal (plain a) (plain b) ≡ holds (items_in (plain b)) (λ ws. all_equal (values (map plain vs)) (values ws))
of_list a b vs e = ap (λ (v : JxValue). equal (plain v) (plain b)) e ∙ ap (λ (v : Value). equal v (plain b)) (plain-list vs) ∙ with_list (values (map plain vs)) (plain b)

pub of_object : (a b : JxValue) (ps : List JxPair) → a ≡ value.Object ps
    → equal (plain a) (plain b) ≡ holds (entries_in (plain b)) (λ es. (length (entries (pairs (map plain_pair ps))) == length es) && all_found (pairs (map plain_pair ps)) es)
of_object a b ps e = ap (λ (v : JxValue). equal (plain v) (plain b)) e ∙ ap (λ (v : Value). equal v (plain b)) (plain-object ps) ∙ with_object (pairs (map plain_pair ps)) (plain b)

-- ---- item by item

pub lengths_differ : (vs ws : List JxValue) → (length vs ≡ length ws → ⊥) → all_equal (values (map plain vs)) (values (map plain ws)) ≡ false
unfolding equal
lengths_differ [] [] h = absurd (h refl)
lengths_differ [] (w ∷ ws) h = refl
lengths_differ (v ∷ vs) [] h = refl
lengths_differ (v ∷ vs) (w ∷ ws) h = and_false (equal (plain v) (plain w)) (all_equal (values (map plain vs)) (values (map plain ws))) (lengths_differ vs ws (λ e. h (ap (λ n. suc n) e)))
  where
    and_false : (a b : Bool) → b ≡ false → (a && b) ≡ false
    and_false true b e = e
    and_false false b e = refl

pub one_item : (vs ws : List JxValue) (i : ℕ) (v w : JxValue) → i < length vs → i < length ws → v ≡ get_or vs i v → w ≡ get_or ws i w
    → all_equal (values (map plain (drop i vs))) (values (map plain (drop i ws))) ≡ (equal (plain v) (plain w) && all_equal (values (map plain (drop (i + 1) vs))) (values (map plain (drop (i + 1) ws))))
unfolding equal
one_item vs ws i v w lv lw iv iw =
    let a : drop i vs ≡ v ∷ drop (i + 1) vs = drop_more vs i v lv ∙ ap (λ (x : JxValue). x ∷ drop (i + 1) vs) (sym iv) in
    let b : drop i ws ≡ w ∷ drop (i + 1) ws = drop_more ws i w lw ∙ ap (λ (x : JxValue). x ∷ drop (i + 1) ws) (sym iw) in
    rw (a, b) refl

pub none_left : (vs ws : List JxValue) (i : ℕ) → length vs ≤ i → length ws ≤ i → all_equal (values (map plain (drop i vs))) (values (map plain (drop i ws))) ≡ true
unfolding equal
none_left vs ws i lv lw = let a : drop i vs ≡ [] = drop_all i vs lv in let b : drop i ws ≡ [] = drop_all i ws lw in rw (a, b) refl

pub one_pair : (ps : List JxPair) (es : List Entry) (i : ℕ) (p : JxPair) → i < length ps → p ≡ get_or ps i p
    → all_found (pairs (map plain_pair (drop i ps))) es ≡ (found_and (equal (plain p.value)) (find p.key es) && all_found (pairs (map plain_pair (drop (i + 1) ps))) es)
unfolding equal
one_pair ps es i p lt is =
    let a : drop i ps ≡ p ∷ drop (i + 1) ps = drop_more ps i p lt ∙ ap (λ (x : JxPair). x ∷ drop (i + 1) ps) (sym is) in
    rw a refl

pub no_pair_left : (ps : List JxPair) (es : List Entry) (i : ℕ) → length ps ≤ i → all_found (pairs (map plain_pair (drop i ps))) es ≡ true
unfolding equal
no_pair_left ps es i le = let a : drop i ps ≡ [] = drop_all i ps le in rw a refl

pub item_differs : (vs ws : List JxValue) (i k : ℕ) (v w : JxValue) (b : Bool) (all : Bool) → i < length vs → length vs ≡ length ws → k ≡ i → v ≡ get_or vs i v → w ≡ get_or ws k w
    → all_equal (values (map plain (drop i vs))) (values (map plain (drop i ws))) ≡ all → b ≡ equal (plain v) (plain w) → b ≡ false → false ≡ all
item_differs vs ws i k v w b all lt same at iv iw rest is no_ =
    let e : equal (plain v) (plain w) ≡ false = sym is ∙ no_ in
    let jw : w ≡ get_or ws i w = iw ∙ ap (λ n. get_or ws n w) at in
    ap (λ x. x && all_equal (values (map plain (drop (i + 1) vs))) (values (map plain (drop (i + 1) ws)))) (sym e)
    ∙ sym (one_item vs ws i v w lt (omega arith) iv jw) ∙ rest

pub item_agrees : (vs ws : List JxValue) (i k : ℕ) (v w : JxValue) (b : Bool) (all : Bool) → i < length vs → length vs ≡ length ws → k ≡ i → v ≡ get_or vs i v → w ≡ get_or ws k w
    → all_equal (values (map plain (drop i vs))) (values (map plain (drop i ws))) ≡ all → b ≡ equal (plain v) (plain w) → b ≡ true
    → all_equal (values (map plain (drop (i + 1) vs))) (values (map plain (drop (i + 1) ws))) ≡ all
item_agrees vs ws i k v w b all lt same at iv iw rest is yes_ =
    let e : equal (plain v) (plain w) ≡ true = sym is ∙ yes_ in
    let jw : w ≡ get_or ws i w = iw ∙ ap (λ n. get_or ws n w) at in
    ap (λ x. x && all_equal (values (map plain (drop (i + 1) vs))) (values (map plain (drop (i + 1) ws)))) (sym e)
    ∙ sym (one_item vs ws i v w lt (omega arith) iv jw) ∙ rest

-- what a pair of one object gives in the other
pub pair_is : (ps : List JxPair) (es : List Entry) (i : ℕ) (p : JxPair) (o : Option Value) (b : Bool) (all : Bool) → i < length ps → p ≡ get_or ps i p
    → (o ≡ find p.key es) → found_and (equal (plain p.value)) o ≡ b → all_found (pairs (map plain_pair (drop i ps))) es ≡ all → (b && all_found (pairs (map plain_pair (drop (i + 1) ps))) es) ≡ all
pair_is ps es i p o b all lt is f h rest =
    ap (λ x. x && all_found (pairs (map plain_pair (drop (i + 1) ps))) es) (sym (ap (found_and (equal (plain p.value))) (sym f) ∙ h))
    ∙ sym (one_pair ps es i p lt is) ∙ rest

pub same_lengths : (ps qs : List JxPair) → (length (entries (pairs (map plain_pair ps))) == length (map plain_pair qs)) ≡ (length ps == length qs)
same_lengths ps qs =
    let a : length (entries (pairs (map plain_pair ps))) ≡ length ps = ap (λ (l : List Entry). length l) (entries-pairs (map plain_pair ps)) ∙ length-map ps plain_pair in
    let b : length (map plain_pair qs) ≡ length qs = length-map qs plain_pair in
    rw (a, b) refl

counted : (n m : ℕ) → n ≡ m → (n == m) ≡ true
counted n m e = eq-eqb n m e

-- where there are as many pairs, what is found decides
pub found_decides : (ps qs : List JxPair) (b : Bool) → length ps ≡ length qs → all_found (pairs (map plain_pair ps)) (map plain_pair qs) ≡ b
    → b ≡ ((length ps == length qs) && all_found (pairs (map plain_pair ps)) (map plain_pair qs))
found_decides ps qs b e h = sym (ap (λ (x : Bool). x && all_found (pairs (map plain_pair ps)) (map plain_pair qs)) (counted (length ps) (length qs) e) ∙ h)
