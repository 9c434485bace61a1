-- The size of a list and of an object, item by item.
use Rattle.std.proofs.Common.{◌≡◌, ℕ, suc, ◌+◌, ◌<◌, ◌≤◌, min, max, List, [], ◌∷◌, ◌++◌, take, map, length, get_or, refl, sym, ap, ◌∙◌, arith}
use Rattle.std.proofs.lemmas.List.{take_more, take_all, map-append}
use Rattle.jx_syntax.specs.declared.value.JxValue.{JxValue}
use Rattle.jx_syntax.specs.declared.value.JxPair.{JxPair}
use Rattle.jx_syntax.specs.declared.value.JxValue.TheVariants as value
use Rattle.jx_meaning.specs.Values.{no_values, no_pairs, list, object, Value, Values, Pairs, Entry, values, pairs, plain, depth, items_depth, pairs_depth, count, items_count, pairs_count}
use Rattle.jx_values.specs.declared.size.Size.{Size}
use Rattle.jx_values.specs.Kinds.{plain_pair}
use Rattle.jx_values.proofs.Plain.{plain-null, plain-truth, plain-number, plain-text, plain-list, plain-object, Kind, is_null, is_truth, is_number, is_text, is_list, is_object, kind}
use Rattle.jx_values.specs.Sizes.{sized, size_of, items_size, pairs_size}

-- a size beside another
abbrev pub beside : Size → Size → Size
beside a b = record { depth = max a.depth b.depth; count = min (a.count + b.count) 10000001 }

pub sized-beside : (a b c d : ℕ) → beside (sized a b) (sized c d) ≡ sized (max a c) (b + d)
sized-beside a b c d =
    let e : max (min a 129) (min c 129) ≡ min (max a c) 129 = omega arith in
    let f : min (min b 10000001 + min d 10000001) 10000001 ≡ min (b + d) 10000001 = omega arith in
    rw (e, f) refl

items_depth-push : (vs : List Value) (v : Value) → items_depth (values (vs ++ v ∷ [])) ≡ max (items_depth (values vs)) (depth v)
unfolding depth
items_depth-push [] v = omega arith
items_depth-push (w ∷ vs) v = let h = items_depth-push vs v in omega (arith, h)

items_count-push : (vs : List Value) (v : Value) → items_count (values (vs ++ v ∷ [])) ≡ items_count (values vs) + count v
unfolding count
items_count-push [] v = omega arith
items_count-push (w ∷ vs) v = let h = items_count-push vs v in omega (arith, h)

pairs_depth-push : (es : List Entry) (e : Entry) → pairs_depth (pairs (es ++ e ∷ [])) ≡ max (pairs_depth (pairs es)) (depth e.1)
unfolding depth
pairs_depth-push [] e = omega arith
pairs_depth-push (f ∷ es) e = let h = pairs_depth-push es e in omega (arith, h)

pairs_count-push : (es : List Entry) (e : Entry) → pairs_count (pairs (es ++ e ∷ [])) ≡ pairs_count (pairs es) + count e.1
unfolding count
pairs_count-push [] e = omega arith
pairs_count-push (f ∷ es) e = let h = pairs_count-push es e in omega (arith, h)

pub items_size-push : (vs : List Value) (v : Value) → items_size (values (vs ++ v ∷ [])) ≡ beside (items_size (values vs)) (size_of v)
items_size-push vs v = rw (items_depth-push vs v, items_count-push vs v) (sym (sized-beside (items_depth (values vs)) (items_count (values vs)) (depth v) (count v)))

pub pairs_size-push : (es : List Entry) (e : Entry) → pairs_size (pairs (es ++ e ∷ [])) ≡ beside (pairs_size (pairs es)) (size_of e.1)
pairs_size-push es e = rw (pairs_depth-push es e, pairs_count-push es e) (sym (sized-beside (pairs_depth (pairs es)) (pairs_count (pairs es)) (depth e.1) (count e.1)))

map-take : {A B : Type 0} (f : A → B) (xs : List A) (i : ℕ) (x : A) → i < length xs → x ≡ get_or xs i x → map f (take (i + 1) xs) ≡ map f (take i xs) ++ f x ∷ []
map-take f xs i x lt is = ap (map f) (take_more xs i x lt ∙ ap (λ y. take i xs ++ y ∷ []) (sym is)) ∙ map-append f (take i xs) (x ∷ [])

-- one item more
pub items_more : (vs : List JxValue) (i : ℕ) (v : JxValue) → i < length vs → v ≡ get_or vs i v
    → items_size (values (map plain (take (i + 1) vs))) ≡ beside (items_size (values (map plain (take i vs)))) (size_of (plain v))
items_more vs i v lt is = ap (λ (l : List Value). items_size (values l)) (map-take plain vs i v lt is) ∙ items_size-push (map plain (take i vs)) (plain v)

-- one pair more
pub pairs_more : (ps : List JxPair) (i : ℕ) (p : JxPair) → i < length ps → p ≡ get_or ps i p
    → pairs_size (pairs (map plain_pair (take (i + 1) ps))) ≡ beside (pairs_size (pairs (map plain_pair (take i ps)))) (size_of (plain p.value))
pairs_more ps i p lt is = ap (λ (l : List Entry). pairs_size (pairs l)) (map-take plain_pair ps i p lt is) ∙ pairs_size-push (map plain_pair (take i ps)) (plain_pair p)

-- ---- what a size says of a value

abbrev pub around : Size → Size
around a = record { depth = min (a.depth + 1) 129; count = min (a.count + 1) 10000001 }

sized-around : (d c : ℕ) → around (sized d c) ≡ sized (suc d) (suc c)
sized-around d c =
    let e : min (min d 129 + 1) 129 ≡ min (suc d) 129 = omega arith in
    let f : min (min c 10000001 + 1) 10000001 ≡ min (suc c) 10000001 = omega arith in
    rw (e, f) refl

pub list-around : (vs : Values) → size_of (list vs) ≡ around (items_size vs)
unfolding depth count
list-around vs = sym (sized-around (items_depth vs) (items_count vs))

pub object-around : (ps : Pairs) → size_of (object ps) ≡ around (pairs_size ps)
unfolding depth count
object-around ps = sym (sized-around (pairs_depth ps) (pairs_count ps))

pub nothing : sized 0 0 ≡ items_size no_values
unfolding depth count
nothing = refl

pub nothing_paired : sized 0 0 ≡ pairs_size no_pairs
unfolding depth count
nothing_paired = refl

pub item_step : (vs : List JxValue) (i : ℕ) (v : JxValue) (inside s r : Size) → i < length vs → v ≡ get_or vs i v → inside ≡ items_size (values (map plain (take i vs)))
    → s ≡ size_of (plain v) → r ≡ beside inside s → r ≡ items_size (values (map plain (take (i + 1) vs)))
item_step vs i v inside s r lt is h k e = e ∙ ap (λ (x : Size). beside x s) h ∙ ap (beside (items_size (values (map plain (take i vs))))) k ∙ sym (items_more vs i v lt is)

pub pair_step : (ps : List JxPair) (i : ℕ) (p : JxPair) (inside s r : Size) → i < length ps → p ≡ get_or ps i p → inside ≡ pairs_size (pairs (map plain_pair (take i ps)))
    → s ≡ size_of (plain p.value) → r ≡ beside inside s → r ≡ pairs_size (pairs (map plain_pair (take (i + 1) ps)))
pair_step ps i p inside s r lt is h k e = e ∙ ap (λ (x : Size). beside x s) h ∙ ap (beside (pairs_size (pairs (map plain_pair (take i ps))))) k ∙ sym (pairs_more ps i p lt is)

pub list_ends : (v : JxValue) (vs : List JxValue) (i : ℕ) (inside r : Size) → length vs ≤ i → v ≡ value.List vs → inside ≡ items_size (values (map plain (take i vs))) → r ≡ around inside → r ≡ size_of (plain v)
list_ends v vs i inside r le is h e = e ∙ ap around (h ∙ ap (λ (l : List JxValue). items_size (values (map plain l))) (take_all i vs le)) ∙ sym (list-around (values (map plain vs))) ∙ ap size_of (sym (plain-list vs) ∙ ap plain (sym is))

pub object_ends : (v : JxValue) (ps : List JxPair) (i : ℕ) (inside r : Size) → length ps ≤ i → v ≡ value.Object ps → inside ≡ pairs_size (pairs (map plain_pair (take i ps))) → r ≡ around inside → r ≡ size_of (plain v)
object_ends v ps i inside r le is h e = e ∙ ap around (h ∙ ap (λ (l : List JxPair). pairs_size (pairs (map plain_pair l))) (take_all i ps le)) ∙ sym (object-around (pairs (map plain_pair ps))) ∙ ap size_of (sym (plain-object ps) ∙ ap plain (sym is))

by_kind : (v : JxValue) → Kind v → ((vs : List JxValue) → v ≡ value.List vs → ⊥) → ((ps : List JxPair) → v ≡ value.Object ps → ⊥) → sized 0 1 ≡ size_of (plain v)
unfolding depth count
by_kind v (is_null e) h k = ap size_of (sym plain-null ∙ ap plain (sym e))
by_kind v (is_truth t e) h k = ap size_of (sym (plain-truth t) ∙ ap plain (sym e))
by_kind v (is_number z e) h k = ap size_of (sym (plain-number z) ∙ ap plain (sym e))
by_kind v (is_text t e) h k = ap size_of (sym (plain-text t) ∙ ap plain (sym e))
by_kind v (is_list vs e) h k = absurd (h vs e)
by_kind v (is_object ps e) h k = absurd (k ps e)

pub single : (v : JxValue) → ((vs : List JxValue) → v ≡ value.List vs → ⊥) → ((ps : List JxPair) → v ≡ value.Object ps → ⊥) → sized 0 1 ≡ size_of (plain v)
single v = by_kind v (kind v)
