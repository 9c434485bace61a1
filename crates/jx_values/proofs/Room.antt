-- When a list, an object or a text may be built.
use Rattle.std.proofs.Common.{◌≡◌, ℕ, ◌+◌, ◌<◌, ◌≤◌, min, max, Bool, true, false, ◌&&◌, nat_le, List, [], ◌∷◌, ◌++◌, length, map, Ok, Err, refl, sym, ap, ◌∙◌, arith, inl, inr, ◌⊎◌}
use Rattle.std.proofs.lemmas.Bool.{le-leb, lt-leb}
use Rattle.std.proofs.lemmas.Bool.Decides.{leb_tells}
use Rattle.std.proofs.lemmas.List.{map-append, length-map, length-append}
use Rattle.jx_syntax.specs.declared.value.JxValue.{JxValue}
use Rattle.jx_syntax.specs.declared.value.JxValue.TheVariants as value
use Rattle.jx_meaning.specs.declared.fault.EvalFault.TheVariants.{TooMuch}
use Rattle.jx_meaning.specs.Values.{Value, list, items, values, plain, depth, items_depth, count, items_count, may_be}
use Rattle.jx_meaning.specs.Lists.{limited, with_item}
use Rattle.jx_values.specs.declared.size.Size.{Size}
use Rattle.jx_values.specs.Sizes.{sized, size_of, items_size}
use Rattle.jx_values.proofs.Plain.{items-values, plain-list}
use Rattle.jx_values.proofs.SizeLemmas.{beside, sized-beside, around, list-around, items_size-push}

-- a size within the limits
abbrev pub small : Size → Bool
small s = nat_le s.depth 128 && nat_le s.count 10000000

pub below_stop : (n limit : ℕ) → nat_le (min n (limit + 1)) limit ≡ nat_le n limit
below_stop n limit = by (leb_tells n limit)
  where
    by : ((nat_le n limit ≡ true) × (n ≤ limit)) ⊎ ((nat_le n limit ≡ false) × (limit < n)) → nat_le (min n (limit + 1)) limit ≡ nat_le n limit
    by (inl p) = let h = p.1 in le-leb (min n (limit + 1)) limit (omega arith) ∙ sym p.0
    by (inr p) = let h = p.1 in lt-leb (min n (limit + 1)) limit (omega arith) ∙ sym p.0

pub small-sized : (d c : ℕ) → small (sized d c) ≡ (nat_le d 128 && nat_le c 10000000)
small-sized d c = ap (λ (b : Bool). b && nat_le (min c 10000001) 10000000) (below_stop d 128) ∙ ap (λ (b : Bool). nat_le d 128 && b) (below_stop c 10000000)

pub list_may_be : (vs : List Value) → may_be (list (values vs)) ≡ (nat_le (length vs) 1000000 && small (size_of (list (values vs))))
list_may_be vs =
    ap (λ (l : List Value). (nat_le (length l) 1000000 && nat_le (depth (list (values vs))) 128) && nat_le (count (list (values vs))) 10000000) (items-values vs)
    ∙ shift (nat_le (length vs) 1000000) (nat_le (depth (list (values vs))) 128) (nat_le (count (list (values vs))) 10000000)
    ∙ ap (λ (b : Bool). nat_le (length vs) 1000000 && b) (sym (small-sized (depth (list (values vs))) (count (list (values vs)))))
  where
    shift : (a b c : Bool) → ((a && b) && c) ≡ (a && (b && c))
    shift true b c = refl
    shift false b c = refl

-- whether a list may have one item more
pub one_fits : (xs : List JxValue) (v : JxValue) (inside r s : Size) → inside ≡ items_size (values (map plain xs)) → s ≡ size_of (plain v) → r ≡ around (beside inside s)
    → may_be (list (values (map plain xs ++ plain v ∷ []))) ≡ (nat_le (length xs + 1) 1000000 && small r)
one_fits xs v inside r s h k e =
    let vs = map plain xs in
    let size : size_of (list (values (vs ++ plain v ∷ []))) ≡ r = list-around (values (vs ++ plain v ∷ [])) ∙ ap around (items_size-push vs (plain v) ∙ ap (λ (x : Size). beside x (size_of (plain v))) (sym h) ∙ ap (beside inside) (sym k)) ∙ sym e in
    let len : length (vs ++ plain v ∷ []) ≡ length xs + 1 = length-append vs (plain v ∷ []) ∙ ap (λ (n : ℕ). n + 1) (length-map xs plain) in
    list_may_be (vs ++ plain v ∷ []) ∙ ap (λ (n : ℕ). nat_le n 1000000 && small (size_of (list (values (vs ++ plain v ∷ []))))) len ∙ ap (λ (x : Size). nat_le (length xs + 1) 1000000 && small x) size

pub refused : (at : ℕ) (vs : List Value) (v : Value) → may_be (list (values (vs ++ v ∷ []))) ≡ false → with_item at vs v ≡ Err (TooMuch at)
refused at vs v h = rw h refl

pub taken : (at : ℕ) (vs : List Value) (v : Value) → may_be (list (values (vs ++ v ∷ []))) ≡ true → with_item at vs v ≡ Ok (vs ++ v ∷ [])
taken at vs v h = rw h refl

pub grown : (xs news : List JxValue) (v : JxValue) (inside s r : Size) → inside ≡ items_size (values (map plain xs)) → s ≡ size_of (plain v) → r ≡ beside inside s
    → news ≡ xs ++ v ∷ [] → r ≡ items_size (values (map plain news))
grown xs news v inside s r h k e n =
    e ∙ ap (λ (x : Size). beside x s) h ∙ ap (beside (items_size (values (map plain xs)))) k ∙ sym (items_size-push (map plain xs) (plain v))
    ∙ ap (λ (l : List Value). items_size (values l)) (sym (ap (map plain) n ∙ map-append plain xs (v ∷ [])))

pub pushed_items : (xs news : List JxValue) (v : JxValue) → news ≡ xs ++ v ∷ [] → map plain xs ++ plain v ∷ [] ≡ map plain news
pushed_items xs news v n = sym (ap (map plain) n ∙ map-append plain xs (v ∷ []))

-- ---- two lists

items_depth-append : (vs ws : List Value) → items_depth (values (vs ++ ws)) ≡ max (items_depth (values vs)) (items_depth (values ws))
unfolding depth
items_depth-append [] ws = omega arith
items_depth-append (v ∷ vs) ws = let h = items_depth-append vs ws in omega (arith, h)

items_count-append : (vs ws : List Value) → items_count (values (vs ++ ws)) ≡ items_count (values vs) + items_count (values ws)
unfolding count
items_count-append [] ws = omega arith
items_count-append (v ∷ vs) ws = let h = items_count-append vs ws in omega (arith, h)

items_size-append : (vs ws : List Value) → items_size (values (vs ++ ws)) ≡ beside (items_size (values vs)) (items_size (values ws))
items_size-append vs ws = rw (items_depth-append vs ws, items_count-append vs ws) (sym (sized-beside (items_depth (values vs)) (items_count (values vs)) (items_depth (values ws)) (items_count (values ws))))

-- whether two lists may stand one behind the other
pub both_fit : (xs ys : List JxValue) (a b s r : Size) → a ≡ items_size (values (map plain xs)) → b ≡ items_size (values (map plain ys)) → s ≡ beside a b → r ≡ around s
    → may_be (list (values (map plain xs ++ map plain ys))) ≡ (nat_le (length xs + length ys) 1000000 && small r)
both_fit xs ys a b s r ha hb hs hr =
    let vs = map plain xs in
    let ws = map plain ys in
    let size : size_of (list (values (vs ++ ws))) ≡ r = list-around (values (vs ++ ws)) ∙ ap around (items_size-append vs ws ∙ ap (λ (x : Size). beside x (items_size (values ws))) (sym ha) ∙ ap (beside a) (sym hb) ∙ sym hs) ∙ sym hr in
    let len : length (vs ++ ws) ≡ length xs + length ys = omega (arith, length-append vs ws, length-map xs plain, length-map ys plain) in
    list_may_be (vs ++ ws) ∙ ap (λ (n : ℕ). nat_le n 1000000 && small (size_of (list (values (vs ++ ws))))) len ∙ ap (λ (x : Size). nat_le (length xs + length ys) 1000000 && small x) size

pub too_large : (at : ℕ) (v : Value) → may_be v ≡ false → limited at v ≡ Err (TooMuch at)
too_large at v h = rw h refl

pub fits : (at : ℕ) (v : Value) → may_be v ≡ true → limited at v ≡ Ok v
fits at v h = rw h refl

pub joined_list : (xs ys items : List JxValue) → items ≡ xs ++ ys → list (values (map plain xs ++ map plain ys)) ≡ plain (value.List items)
joined_list xs ys items e = ap (λ (l : List Value). list (values l)) (sym (ap (map plain) e ∙ map-append plain xs ys)) ∙ sym (plain-list items)
