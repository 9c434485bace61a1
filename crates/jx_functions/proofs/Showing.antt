-- Values within texts.
use Rattle.std.proofs.Common.{◌≡◌, ℕ, ◌+◌, ◌<◌, ◌≤◌, Bool, true, false, List, [], ◌∷◌, ◌++◌, length, get_or, drop, map, Option, Some, None, refl, sym, ap, ◌∙◌, append_assoc}
use Rattle.std.specs.Prelude.{ℤ, codes, if◌then◌else◌}
use Rattle.std.specs.Fmt.{signed_decimal}
use Rattle.std.proofs.lemmas.List.{drop_more, drop_all}
use Rattle.jx_syntax.specs.declared.value.JxValue.{JxValue}
use Rattle.jx_syntax.specs.declared.value.JxPair.{JxPair}
use Rattle.jx_syntax.specs.declared.value.JxValue.TheVariants as value
use Rattle.jx_syntax.specs.Written.{quoted}
use Rattle.jx_meaning.specs.Values.{Value, Values, Pairs, null, truth, number, text, list, object, item, pair, no_values, no_pairs, values, pairs, plain}
use Rattle.jx_meaning.specs.Texts.{comma, written, written_items, written_pairs, shown}
use Rattle.jx_values.specs.Kinds.{plain_pair, text_in}
use Rattle.jx_functions.specs.Drafts.{extended}
use Rattle.jx_values.proofs.Plain.{plain-null, plain-truth, plain-number, plain-text, plain-list, plain-object}
use Rattle.jx_functions.proofs.Drafting.{twice}

-- ---- the text of each kind

by_null : written null ≡ codes "null"
unfolding written
by_null = refl

by_truth : (t : Bool) → written (truth t) ≡ (if t then codes "true" else codes "false")
unfolding written
by_truth t = refl

by_number : (z : ℤ) → written (number z) ≡ signed_decimal z
unfolding written
by_number z = refl

by_text : (t : List ℕ) → written (text t) ≡ quoted t
unfolding written
by_text t = refl

by_list : (vs : Values) → written (list vs) ≡ 91 ∷ (written_items true vs ++ 93 ∷ [])
unfolding written
by_list vs = refl

by_object : (ps : Pairs) → written (object ps) ≡ 123 ∷ (written_pairs true ps ++ 125 ∷ [])
unfolding written
by_object ps = refl

by_no_items : (first : Bool) → written_items first no_values ≡ []
unfolding written
by_no_items first = refl

by_item : (first : Bool) (v : Value) (vs : Values) → written_items first (item v vs) ≡ comma first (written v ++ written_items false vs)
unfolding written
by_item first v vs = refl

by_no_pairs : (first : Bool) → written_pairs first no_pairs ≡ []
unfolding written
by_no_pairs first = refl

by_pair : (first : Bool) (k : List ℕ) (v : Value) (ps : Pairs) → written_pairs first (pair k v ps) ≡ comma first (quoted k ++ 58 ∷ (written v ++ written_pairs false ps))
unfolding written
by_pair first k v ps = refl

pub of_null : (v : JxValue) → v ≡ value.Null → written (plain v) ≡ codes "null"
of_null v e = ap (λ (w : JxValue). written (plain w)) e ∙ ap written plain-null ∙ by_null

pub of_truth : (v : JxValue) (t b : Bool) → v ≡ value.Truth t → t ≡ b → written (plain v) ≡ (if b then codes "true" else codes "false")
of_truth v t b e f = ap (λ (w : JxValue). written (plain w)) e ∙ ap written (plain-truth t) ∙ by_truth t ∙ ap (λ (b : Bool). if b then codes "true" else codes "false") f

pub of_number : (v : JxValue) (z : ℤ) → v ≡ value.Number z → written (plain v) ≡ signed_decimal z
of_number v z e = ap (λ (w : JxValue). written (plain w)) e ∙ ap written (plain-number z) ∙ by_number z

pub of_text : (v : JxValue) (t : List ℕ) → v ≡ value.Text t → written (plain v) ≡ quoted t
of_text v t e = ap (λ (w : JxValue). written (plain w)) e ∙ ap written (plain-text t) ∙ by_text t

pub of_list : (v : JxValue) (vs : List JxValue) → v ≡ value.List vs → written (plain v) ≡ 91 ∷ (written_items true (values (map plain vs)) ++ 93 ∷ [])
of_list v vs e = ap (λ (w : JxValue). written (plain w)) e ∙ ap written (plain-list vs) ∙ by_list (values (map plain vs))

pub of_object : (v : JxValue) (ps : List JxPair) → v ≡ value.Object ps → written (plain v) ≡ 123 ∷ (written_pairs true (pairs (map plain_pair ps)) ++ 125 ∷ [])
of_object v ps e = ap (λ (w : JxValue). written (plain w)) e ∙ ap written (plain-object ps) ∙ by_object (pairs (map plain_pair ps))

-- ---- piece by piece

behind_comma : (first : Bool) (w r t : List ℕ) → comma first [] ++ (w ++ (r ++ t)) ≡ comma first (w ++ r) ++ t
behind_comma true w r t = sym (append_assoc w r t)
behind_comma false w r t = ap (λ (l : List ℕ). 44 ∷ l) (sym (append_assoc w r t))

one_piece : (d d1 d2 whole : Option (List ℕ)) (first : Bool) (w r t all : List ℕ) → d1 ≡ extended d (comma first []) → d2 ≡ extended d1 w → all ≡ comma first (w ++ r)
    → extended d (all ++ t) ≡ whole → extended d2 (r ++ t) ≡ whole
one_piece d d1 d2 whole first w r t all e f is h =
    ap (λ (o : Option (List ℕ)). extended o (r ++ t)) f ∙ twice d1 w (r ++ t) ∙ ap (λ (o : Option (List ℕ)). extended o (w ++ (r ++ t))) e ∙ twice d (comma first []) (w ++ (r ++ t))
    ∙ ap (extended d) (behind_comma first w r t) ∙ ap (λ (l : List ℕ). extended d (l ++ t)) (sym is) ∙ h

pub one_item : (d d1 d2 whole : Option (List ℕ)) (first : Bool) (vs : List JxValue) (i : ℕ) (v : JxValue) (t : List ℕ) → i < length vs → v ≡ get_or vs i v
    → d1 ≡ extended d (comma first []) → d2 ≡ extended d1 (written (plain v)) → extended d (written_items first (values (map plain (drop i vs))) ++ t) ≡ whole
    → extended d2 (written_items false (values (map plain (drop (i + 1) vs))) ++ t) ≡ whole
one_item d d1 d2 whole first vs i v t lt is e f h =
    let rest = drop (i + 1) vs in
    let more : drop i vs ≡ v ∷ rest = drop_more vs i v lt ∙ ap (λ (x : JxValue). x ∷ rest) (sym is) in
    one_piece d d1 d2 whole first (written (plain v)) (written_items false (values (map plain rest))) t (written_items first (values (map plain (drop i vs)))) e f
    (ap (λ (l : List JxValue). written_items first (values (map plain l))) more ∙ by_item first (plain v) (values (map plain rest))) h

pub no_item : (d whole : Option (List ℕ)) (first : Bool) (vs : List JxValue) (i : ℕ) (t : List ℕ) → length vs ≤ i
    → extended d (written_items first (values (map plain (drop i vs))) ++ t) ≡ whole → extended d t ≡ whole
no_item d whole first vs i t le h =
    ap (λ (l : List ℕ). extended d (l ++ t)) (sym (ap (λ (l : List JxValue). written_items first (values (map plain l))) (drop_all i vs le) ∙ by_no_items first)) ∙ h

pair_at_once : (d d1 d2 d3 : Option (List ℕ)) (k w : List ℕ) → d1 ≡ extended d k → d2 ≡ extended d1 (58 ∷ []) → d3 ≡ extended d2 w → d3 ≡ extended d (k ++ 58 ∷ w)
pair_at_once d d1 d2 d3 k w e f g =
    g ∙ ap (λ (o : Option (List ℕ)). extended o w) f ∙ twice d1 (58 ∷ []) w ∙ ap (λ (o : Option (List ℕ)). extended o (58 ∷ w)) e ∙ twice d k (58 ∷ w)

pub one_pair : (d d1 d2 d3 d4 whole : Option (List ℕ)) (first : Bool) (ps : List JxPair) (i : ℕ) (p : JxPair) (k t : List ℕ) → i < length ps → p ≡ get_or ps i p → k ≡ p.key
    → d1 ≡ extended d (comma first []) → d2 ≡ extended d1 (quoted k) → d3 ≡ extended d2 (58 ∷ []) → d4 ≡ extended d3 (written (plain p.value))
    → extended d (written_pairs first (pairs (map plain_pair (drop i ps))) ++ t) ≡ whole → extended d4 (written_pairs false (pairs (map plain_pair (drop (i + 1) ps))) ++ t) ≡ whole
one_pair d d1 d2 d3 d4 whole first ps i p k t lt is key e f g j h =
    let rest = drop (i + 1) ps in
    let r = written_pairs false (pairs (map plain_pair rest)) in
    let w = written (plain p.value) in
    let more : drop i ps ≡ p ∷ rest = drop_more ps i p lt ∙ ap (λ (x : JxPair). x ∷ rest) (sym is) in
    one_piece d d1 d4 whole first (quoted p.key ++ 58 ∷ w) r t (written_pairs first (pairs (map plain_pair (drop i ps)))) e
    (pair_at_once d1 d2 d3 d4 (quoted p.key) w (f ∙ ap (λ (l : List ℕ). extended d1 (quoted l)) key) g j)
    (ap (λ (l : List JxPair). written_pairs first (pairs (map plain_pair l))) more ∙ by_pair first p.key (plain p.value) (pairs (map plain_pair rest))
    ∙ ap (comma first) (sym (append_assoc (quoted p.key) (58 ∷ w) r))) h

pub no_pair : (d whole : Option (List ℕ)) (first : Bool) (ps : List JxPair) (i : ℕ) (t : List ℕ) → length ps ≤ i
    → extended d (written_pairs first (pairs (map plain_pair (drop i ps))) ++ t) ≡ whole → extended d t ≡ whole
no_pair d whole first ps i t le h =
    ap (λ (l : List ℕ). extended d (l ++ t)) (sym (ap (λ (l : List JxPair). written_pairs first (pairs (map plain_pair l))) (drop_all i ps le) ∙ by_no_pairs first)) ∙ h

-- what stands behind a mark, with the mark
pub marked : (d d1 now : Option (List ℕ)) (mark rest all : List ℕ) → d1 ≡ extended d mark → now ≡ extended d1 rest → mark ++ rest ≡ all → now ≡ extended d all
marked d d1 now mark rest all e f is = f ∙ ap (λ (o : Option (List ℕ)). extended o rest) e ∙ twice d mark rest ∙ ap (extended d) is

-- ---- a text as it is

pub shown_text : (v : Value) (t : List ℕ) → Some t ≡ text_in v → shown v ≡ t
shown_text (text x) t h = let e : x ≡ t = cc in e
shown_text null t h = absurd (let o : Option (List ℕ) = None in let e : o ≡ Some t = sym h in cc)
shown_text (truth b) t h = absurd (let o : Option (List ℕ) = None in let e : o ≡ Some t = sym h in cc)
shown_text (number z) t h = absurd (let o : Option (List ℕ) = None in let e : o ≡ Some t = sym h in cc)
shown_text (list vs) t h = absurd (let o : Option (List ℕ) = None in let e : o ≡ Some t = sym h in cc)
shown_text (object ps) t h = absurd (let o : Option (List ℕ) = None in let e : o ≡ Some t = sym h in cc)

pub shown_other : (v : Value) → None ≡ text_in v → shown v ≡ written v
shown_other (text x) h = absurd (let o : Option (List ℕ) = None in let e : o ≡ Some x = h in cc)
shown_other null h = refl
shown_other (truth b) h = refl
shown_other (number z) h = refl
shown_other (list vs) h = refl
shown_other (object ps) h = refl
