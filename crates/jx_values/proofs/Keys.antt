-- The first pair of a key.
use Rattle.std.proofs.Common.{◌≡◌, ℕ, zero, suc, ◌+◌, ◌<◌, ◌≤◌, Bool, true, false, List, [], ◌∷◌, ◌++◌, length, get_or, set, take, drop, map, Ok, Err, refl, sym, ap, subst, ◌∙◌, arith, append_assoc}
use Rattle.std.specs.Str.{bytes_eq}
use Rattle.std.proofs.lemmas.List.{map-append, drop_more, take_more, take_all, drop_all}
use Rattle.jx_syntax.specs.declared.value.JxValue.{JxValue}
use Rattle.jx_syntax.specs.declared.value.JxPair.{JxPair}
use Rattle.jx_meaning.specs.declared.fault.EvalFault.TheVariants.{TooMuch}
use Rattle.jx_meaning.specs.Values.{Value, Entry, object, pairs, plain, depth, count, may_be}
use Rattle.jx_meaning.specs.Lists.{put, put_if, with_key}
use Rattle.jx_values.specs.declared.size.Size.{Size}
use Rattle.jx_values.specs.Kinds.{plain_pair}
use Rattle.jx_values.specs.Sizes.{size_of, pairs_size}
use Rattle.jx_values.proofs.SizeLemmas.{beside, around, object-around, pairs_size-push}
use Rattle.jx_values.proofs.Room.{small, small-sized}

left_from : (ps : List JxPair) (i : ℕ) (p : JxPair) → i < length ps → p ≡ get_or ps i p → drop i ps ≡ p ∷ drop (i + 1) ps
left_from ps i p lt is = drop_more ps i p lt ∙ ap (λ (x : JxPair). x ∷ drop (i + 1) ps) (sym is)

-- the pairs so far have other keys
abbrev pub IsPassed : List JxPair → List ℕ → ℕ → Type 0
IsPassed ps key i = (v : Value) → put key v (map plain_pair ps) ≡ map plain_pair (take i ps) ++ put key v (map plain_pair (drop i ps))

pub none_passed : (ps : List JxPair) (key : List ℕ) → IsPassed ps key 0
none_passed ps key = λ v. refl

pub one_passed : (ps : List JxPair) (key : List ℕ) (i : ℕ) (p : JxPair) → i < length ps → p ≡ get_or ps i p → IsPassed ps key i → bytes_eq p.key key ≡ false → IsPassed ps key (i + 1)
one_passed ps key i p lt is before f = λ v.
    let rest = put key v (map plain_pair (drop (i + 1) ps)) in
    let here : put key v (map plain_pair (drop i ps)) ≡ plain_pair p ∷ rest = ap (λ (l : List JxPair). put key v (map plain_pair l)) (left_from ps i p lt is) ∙ ap (λ (b : Bool). put_if b v (plain_pair p) (map plain_pair (drop (i + 1) ps)) rest) f in
    let longer : map plain_pair (take (i + 1) ps) ≡ map plain_pair (take i ps) ++ plain_pair p ∷ [] =
    ap (map plain_pair) (take_more ps i p lt ∙ ap (λ (x : JxPair). take i ps ++ x ∷ []) (sym is)) ∙ map-append plain_pair (take i ps) (p ∷ []) in
    before v ∙ ap (λ (l : List Entry). map plain_pair (take i ps) ++ l) here
    ∙ sym (append_assoc (map plain_pair (take i ps)) (plain_pair p ∷ []) rest) ∙ ap (λ (l : List Entry). l ++ rest) (sym longer)

pub put_found : (ps : List JxPair) (key : List ℕ) (i : ℕ) (p : JxPair) → i < length ps → p ≡ get_or ps i p → IsPassed ps key i → bytes_eq p.key key ≡ true
    → (v : Value) (q : JxPair) → q ≡ get_or ps i q → put key v (map plain_pair ps) ≡ map plain_pair (take i ps) ++ (q.key, v) ∷ map plain_pair (drop (i + 1) ps)
put_found ps key i p lt is before t v q same =
    let left : drop i ps ≡ q ∷ drop (i + 1) ps = left_from ps i q lt same in
    let one : p ≡ q = ap first (sym (left_from ps i p lt is) ∙ left) in
    let hit : bytes_eq q.key key ≡ true = ap (λ (x : JxPair). bytes_eq x.key key) (sym one) ∙ t in
    before v ∙ ap (λ (l : List Entry). map plain_pair (take i ps) ++ l)
    (ap (λ (l : List JxPair). put key v (map plain_pair l)) left
    ∙ ap (λ (b : Bool). put_if b v (plain_pair q) (map plain_pair (drop (i + 1) ps)) (put key v (map plain_pair (drop (i + 1) ps)))) hit)
  where
    first : List JxPair → JxPair
    first [] = p
    first (x ∷ xs) = x

pub put_absent : (ps : List JxPair) (key : List ℕ) (i : ℕ) → length ps ≤ i → IsPassed ps key i → (v : Value) → put key v (map plain_pair ps) ≡ map plain_pair ps ++ (key, v) ∷ []
put_absent ps key i le before v =
    before v ∙ ap (λ (l : List JxPair). map plain_pair l ++ put key v (map plain_pair (drop i ps))) (take_all i ps le)
    ∙ ap (λ (l : List JxPair). map plain_pair ps ++ put key v (map plain_pair l)) (drop_all i ps le)

set_is : (ps : List JxPair) (i : ℕ) (p : JxPair) → i < length ps → map plain_pair (set ps i p) ≡ map plain_pair (take i ps) ++ plain_pair p ∷ map plain_pair (drop (i + 1) ps)
set_is [] i p lt = absurd (omega arith)
set_is (q ∷ ps) zero p lt = refl
set_is (q ∷ ps) (suc i) p lt = let n : suc i + 1 ≡ suc (i + 1) = omega arith in rw n (ap (λ (l : List Entry). plain_pair q ∷ l) (set_is ps i p (omega arith)))

pub replaced : (ps new : List JxPair) (key : List ℕ) (i : ℕ) (v : JxValue) (p : JxPair) → i < length ps → p ≡ get_or ps i p → new ≡ set ps i (record p { value = v })
    → (put key (plain v) (map plain_pair ps) ≡ map plain_pair (take i ps) ++ (p.key, plain v) ∷ map plain_pair (drop (i + 1) ps)) → map plain_pair new ≡ put key (plain v) (map plain_pair ps)
replaced ps new key i v p lt is e h = ap (map plain_pair) e ∙ set_is ps i (record p { value = v }) lt ∙ sym h

pub appended : (ps new : List JxPair) (p : JxPair) → new ≡ ps ++ p ∷ [] → put p.key (plain p.value) (map plain_pair ps) ≡ map plain_pair ps ++ (p.key, plain p.value) ∷ []
    → map plain_pair new ≡ put p.key (plain p.value) (map plain_pair ps)
appended ps new p e h = ap (map plain_pair) e ∙ map-append plain_pair ps (p ∷ []) ∙ sym h

pub grown_pairs : (ps new : List JxPair) (p : JxPair) (inside s r : Size) → inside ≡ pairs_size (pairs (map plain_pair ps)) → s ≡ size_of (plain p.value) → r ≡ beside inside s
    → new ≡ ps ++ p ∷ [] → r ≡ pairs_size (pairs (map plain_pair new))
grown_pairs ps new p inside s r h k e n =
    e ∙ ap (λ (x : Size). beside x s) h ∙ ap (beside (pairs_size (pairs (map plain_pair ps)))) k ∙ sym (pairs_size-push (map plain_pair ps) (plain_pair p))
    ∙ ap (λ (l : List Entry). pairs_size (pairs l)) (sym (ap (map plain_pair) n ∙ map-append plain_pair ps (p ∷ [])))

object_may_be : (es : List Entry) (inside r : Size) → inside ≡ pairs_size (pairs es) → r ≡ around inside → may_be (object (pairs es)) ≡ small r
object_may_be es inside r h e =
    sym (small-sized (depth (object (pairs es))) (count (object (pairs es)))) ∙ ap small (object-around (pairs es) ∙ ap around (sym h) ∙ sym e)

pub key_refused : (at : ℕ) (key : List ℕ) (v : Value) (es : List Entry) (new : List JxPair) (inside r : Size) → inside ≡ pairs_size (pairs (map plain_pair new)) → r ≡ around inside
    → map plain_pair new ≡ put key v es → small r ≡ false → with_key at key v es ≡ Err (TooMuch at)
key_refused at key v es new inside r h e n f =
    let no_ : may_be (object (pairs (put key v es))) ≡ false = ap (λ (l : List Entry). may_be (object (pairs l))) (sym n) ∙ object_may_be (map plain_pair new) inside r h e ∙ f in
    rw no_ refl

pub key_taken : (at : ℕ) (key : List ℕ) (v : Value) (es : List Entry) (new : List JxPair) (inside r : Size) → inside ≡ pairs_size (pairs (map plain_pair new)) → r ≡ around inside
    → map plain_pair new ≡ put key v es → small r ≡ true → with_key at key v es ≡ Ok (map plain_pair new)
key_taken at key v es new inside r h e n f =
    let yes_ : may_be (object (pairs (put key v es))) ≡ true = ap (λ (l : List Entry). may_be (object (pairs l))) (sym n) ∙ object_may_be (map plain_pair new) inside r h e ∙ f in
    rw yes_ (ap Ok (sym n))

-- where the key stands, putting it changes this pair
abbrev pub IsFound : List JxPair → List ℕ → ℕ → Type 0
IsFound ps key i = (v : Value) (q : JxPair) → q ≡ get_or ps i q → put key v (map plain_pair ps) ≡ map plain_pair (take i ps) ++ (q.key, v) ∷ map plain_pair (drop (i + 1) ps)

pub replaced_where_found : (ps seen new : List JxPair) (key named : List ℕ) (i : ℕ) (v : JxValue) (p : JxPair) → seen ≡ ps → named ≡ key → i < length ps → p ≡ get_or ps i p
    → new ≡ set ps i (record p { value = v }) → IsFound seen named i → map plain_pair new ≡ put key (plain v) (map plain_pair ps)
replaced_where_found ps seen new key named i v p s k lt is e h =
    let moved : IsFound ps named i = subst (λ (l : List JxPair). IsFound l named i) s h in
    let found : IsFound ps key i = subst (λ (x : List ℕ). IsFound ps x i) k moved in
    replaced ps new key i v p lt is e (found (plain v) p is)
