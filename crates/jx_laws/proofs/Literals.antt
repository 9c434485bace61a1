-- An expression of literals has the value that it says.
use Rattle.std.proofs.Common.{◌≡◌, ℕ, zero, suc, ◌+◌, ◌≤◌, nat_le, ℤ, pos, negsuc, Bool, true, false, ◌&&◌, List, [], ◌∷◌, ◌++◌, length, map, Option, Some, None, Ok, Err, refl, sym, ap, subst, ◌∙◌, append_assoc, append-nil, arith, rules}
use Rattle.std.proofs.lemmas.Bool.Decides.{nat_tests}
use Rattle.std.proofs.lemmas.Slice.Eq.{bytes_eq-Decides}
use Rattle.std.specs.Prelude.{option_map, is_none, neg_ℤ, if◌then◌else◌}
use Rattle.std.specs.Str.{bytes_eq, is_utf8}
use Rattle.jx_syntax.specs.declared.operator.Sign.TheVariants as sign
use Rattle.jx_syntax.specs.declared.value.JxValue.{JxValue}
use Rattle.jx_syntax.specs.declared.value.JxValue.TheVariants as value
use Rattle.jx_syntax.specs.declared.value.JxValue.TheFolds.{the_lemmas}
use Rattle.jx_syntax.specs.declared.value.JxPair.{JxPair}
use Rattle.jx_syntax.specs.Tree.{Tree, Entries, Fields, no_entries, entry, no_loops, loop, no_fields, field}
use Rattle.jx_syntax.specs.Tree as tree
use Rattle.jx_syntax.specs.Values.{value_of, items_of, pairs_of, joined, paired, negated, behind_minus, is_held, pair_is_held, all_hold, in_range}
use Rattle.jx_meaning.specs.declared.fault.EvalFault.TheVariants.{Overflow}
use Rattle.jx_meaning.specs.Values.{Value, Values, Pairs, null, truth, number, text, list, object, no_values, item, no_pairs, pair, items, values, Entry, entries, pairs, plain, find, or_else, may_be, depth, items_depth, pairs_depth, count, items_count, pairs_count}
use Rattle.jx_meaning.specs.Numbers as numbers
use Rattle.jx_meaning.specs.Numbers.{Answer}
use Rattle.jx_meaning.specs.Lists.{put, put_if, with_item, with_key}
use Rattle.jx_meaning.specs.Operations.{signed}
use Rattle.jx_meaning.specs.Meaning.{Scope, Outcome, and_then, with_count, begun, evaluate, evaluate_entries, evaluate_fields}
use Rattle.jx_values.specs.Kinds.{plain_pair}
use Rattle.jx_values.proofs.Plain.{plain-null, plain-truth, plain-number, plain-text, plain-list, plain-object, entries-pairs}
use Rattle.jx_values.proofs.Room.{taken}
use Rattle.jx_laws.specs.Literals.{lists_fit, items_fit, pairs_fit, is_new, keys_differ, items_differ, pairs_differ, nodes, entries_nodes, fields_nodes}
use Rattle.jx_eval.proofs.Steps.{begin-is}

-- ---- options and tests

pub no_value : {A : Type 0} (a : A) → (let o : Option A = None in o) ≡ Some a → ⊥
no_value a h = cc

pub same_value : {A : Type 0} (a b : A) → (let o : Option A = Some a in o) ≡ Some b → a ≡ b
same_value a b h = cc

pub mapped : {A B : Type 0} (f : A → B) (o : Option A) (b : B) → option_map f o ≡ Some b → (a : A) × (o ≡ Some a) × (f a ≡ b)
mapped f None b h = absurd (no_value b h)
mapped f (Some a) b h = (a, refl, same_value (f a) b h)

pub joined-some : {A : Type 0} (o : Option A) (m : Option (List A)) (xs : List A) → joined o m ≡ Some xs → (x : A) × (ys : List A) × (o ≡ Some x) × (m ≡ Some ys) × (x ∷ ys ≡ xs)
joined-some None m xs h = absurd (no_value xs h)
joined-some (Some x) None xs h = absurd (no_value xs h)
joined-some (Some x) (Some ys) xs h = (x, ys, refl, refl, same_value (x ∷ ys) xs h)

pub both : (a b : Bool) → (a && b) ≡ true → (a ≡ true) × (b ≡ true)
both true b h = (refl, h)
both false b h = absurd (let e : false ≡ true = h in cc)

of_both : (a b : Bool) → a ≡ true → b ≡ true → (a && b) ≡ true
of_both true b g h = h
of_both false b g h = absurd (let e : false ≡ true = g in cc)

within : (a b : ℕ) → nat_le a b ≡ true → a ≤ b
within a b h = grind (arith, nat_tests)

is_within : (a b : ℕ) → a ≤ b → nat_le a b ≡ true
is_within a b h = grind (arith, nat_tests)

lesser : (a b c : ℕ) → a ≤ b → nat_le b c ≡ true → nat_le a c ≡ true
lesser a b c le h = let k = within b c h in is_within a c (omega arith)

-- ---- the values of a list, one by one

held-list : (vs : List JxValue) → is_held (value.List vs) ≡ all_hold (map is_held vs)
held-list vs = search (rules, the_lemmas)

held-object : (ps : List JxPair) → is_held (value.Object ps) ≡ all_hold (map pair_is_held ps)
held-object ps = search (rules, the_lemmas)

held-pair : (p : JxPair) → pair_is_held p ≡ (is_utf8 p.key && is_held p.value)
held-pair p = search (rules, the_lemmas)

held-number : (z : ℤ) → is_held (value.Number z) ≡ in_range z
held-number z = search (rules, the_lemmas)

-- ---- what can be made

-- each list and each object in it may be built, and no object has a key twice
mutual
  pub can_be_made : Value → Bool
  can_be_made (list vs) = may_be (list vs) && items_can_be_made vs
  can_be_made (object ps) = may_be (object ps) && pairs_can_be_made ps
  can_be_made v = true

  items_can_be_made : Values → Bool
  items_can_be_made no_values = true
  items_can_be_made (item v vs) = can_be_made v && items_can_be_made vs

  pairs_can_be_made : Pairs → Bool
  pairs_can_be_made no_pairs = true
  pairs_can_be_made (pair key v ps) = (is_new key (entries ps) && can_be_made v) && pairs_can_be_made ps

mutual
  unfolding can_be_made lists_fit keys_differ depth count

  pub is_made : (v : Value) → lists_fit v ≡ true → keys_differ v ≡ true → depth v ≤ 128 → count v ≤ 10000000 → can_be_made v ≡ true
  is_made null fit differ d c = refl
  is_made (truth b) fit differ d c = refl
  is_made (number z) fit differ d c = refl
  is_made (text t) fit differ d c = refl
  is_made (list vs) fit differ d c =
      let f = both (nat_le (length (items vs)) 1000000) (items_fit vs) fit in
      of_both (may_be (list vs)) (items_can_be_made vs)
      (of_both (nat_le (length (items vs)) 1000000 && nat_le (depth (list vs)) 128) (nat_le (count (list vs)) 10000000)
      (of_both (nat_le (length (items vs)) 1000000) (nat_le (depth (list vs)) 128) f.0 (is_within _ 128 d)) (is_within _ 10000000 c))
      (are_made vs f.1 differ (omega (arith, d)) (omega (arith, c)))
  is_made (object ps) fit differ d c =
      of_both (may_be (object ps)) (pairs_can_be_made ps)
      (of_both (nat_le (depth (object ps)) 128) (nat_le (count (object ps)) 10000000) (is_within _ 128 d) (is_within _ 10000000 c))
      (pairs_are_made ps fit differ (omega (arith, d)) (omega (arith, c)))

  are_made : (vs : Values) → items_fit vs ≡ true → items_differ vs ≡ true → items_depth vs ≤ 128 → items_count vs ≤ 10000000 → items_can_be_made vs ≡ true
  are_made no_values fit differ d c = refl
  are_made (item v vs) fit differ d c =
      let f = both (lists_fit v) (items_fit vs) fit in
      let k = both (keys_differ v) (items_differ vs) differ in
      of_both (can_be_made v) (items_can_be_made vs) (is_made v f.0 k.0 (omega (arith, d)) (omega (arith, c))) (are_made vs f.1 k.1 (omega (arith, d)) (omega (arith, c)))

  pairs_are_made : (ps : Pairs) → pairs_fit ps ≡ true → pairs_differ ps ≡ true → pairs_depth ps ≤ 128 → pairs_count ps ≤ 10000000 → pairs_can_be_made ps ≡ true
  pairs_are_made no_pairs fit differ d c = refl
  pairs_are_made (pair key v ps) fit differ d c =
      let f = both (lists_fit v) (pairs_fit ps) fit in
      let k = both (is_new key (entries ps) && keys_differ v) (pairs_differ ps) differ in
      let l = both (is_new key (entries ps)) (keys_differ v) k.0 in
      of_both (is_new key (entries ps) && can_be_made v) (pairs_can_be_made ps)
      (of_both (is_new key (entries ps)) (can_be_made v) l.0 (is_made v f.0 l.1 (omega (arith, d)) (omega (arith, c)))) (pairs_are_made ps f.1 k.1 (omega (arith, d)) (omega (arith, c)))

-- ---- a part of a list may be built where the whole may

items_depth-part : (a b : List Value) → items_depth (values a) ≤ items_depth (values (a ++ b))
unfolding depth
items_depth-part [] b = omega arith
items_depth-part (v ∷ a) b = let h = items_depth-part a b in omega (arith, h)

items_count-part : (a b : List Value) → items_count (values a) ≤ items_count (values (a ++ b))
unfolding count
items_count-part [] b = omega arith
items_count-part (v ∷ a) b = let h = items_count-part a b in omega (arith, h)

pairs_depth-part : (a b : List Entry) → pairs_depth (pairs a) ≤ pairs_depth (pairs (a ++ b))
unfolding depth
pairs_depth-part [] b = omega arith
pairs_depth-part (e ∷ a) b = let h = pairs_depth-part a b in omega (arith, h)

pairs_count-part : (a b : List Entry) → pairs_count (pairs a) ≤ pairs_count (pairs (a ++ b))
unfolding count
pairs_count-part [] b = omega arith
pairs_count-part (e ∷ a) b = let h = pairs_count-part a b in omega (arith, h)

items_length-part : (a b : List Value) → length (items (values a)) ≤ length (items (values (a ++ b)))
items_length-part [] b = omega arith
items_length-part (v ∷ a) b = let h = items_length-part a b in omega (arith, h)

list-part : (a b : List Value) → may_be (list (values (a ++ b))) ≡ true → may_be (list (values a)) ≡ true
unfolding depth count
list-part a b h =
    let all = list (values (a ++ b)) in
    let part = list (values a) in
    let p = both (nat_le (length (items (values (a ++ b)))) 1000000 && nat_le (depth all) 128) (nat_le (count all) 10000000) h in
    let q = both (nat_le (length (items (values (a ++ b)))) 1000000) (nat_le (depth all) 128) p.0 in
    let d : depth part ≤ depth all = omega (arith, items_depth-part a b) in
    let c : count part ≤ count all = omega (arith, items_count-part a b) in
    of_both (nat_le (length (items (values a))) 1000000 && nat_le (depth part) 128) (nat_le (count part) 10000000)
    (of_both (nat_le (length (items (values a))) 1000000) (nat_le (depth part) 128) (lesser _ _ 1000000 (items_length-part a b) q.0) (lesser _ _ 128 d q.1))
    (lesser _ _ 10000000 c p.1)

object-part : (a b : List Entry) → may_be (object (pairs (a ++ b))) ≡ true → may_be (object (pairs a)) ≡ true
unfolding depth count
object-part a b h =
    let all = object (pairs (a ++ b)) in
    let part = object (pairs a) in
    let p = both (nat_le (depth all) 128) (nat_le (count all) 10000000) h in
    let d : depth part ≤ depth all = omega (arith, pairs_depth-part a b) in
    let c : count part ≤ count all = omega (arith, pairs_count-part a b) in
    of_both (nat_le (depth part) 128) (nat_le (count part) 10000000) (lesser _ _ 128 d p.0) (lesser _ _ 10000000 c p.1)

-- ---- new keys

none-else : (b : Bool) (v : Value) (o : Option Value) → or_else b v o ≡ None → (b ≡ false) × (o ≡ None)
none-else true v o h = absurd (no_value v (sym h))
none-else false v o h = (refl, h)

none-by : (o : Option Value) → is_none o ≡ true → o ≡ None
none-by None h = refl
none-by (Some v) h = absurd (let e : false ≡ true = h in cc)

-- a new key is put last
put-new : (key : List ℕ) (v : Value) (es : List Entry) → find key es ≡ None → put key v es ≡ es ++ (key, v) ∷ []
put-new key v [] h = refl
put-new key v (e ∷ es) h =
    let c = none-else (bytes_eq e.0 key) e.1 (find key es) h in
    ap (λ (b : Bool). put_if b v e es (put key v es)) c.0 ∙ ap (λ (l : List Entry). e ∷ l) (put-new key v es c.1)

find-last : (x key : List ℕ) (v : Value) (es : List Entry) → find x es ≡ None → bytes_eq key x ≡ false → find x (es ++ (key, v) ∷ []) ≡ None
find-last x key v [] h f = ap (λ (b : Bool). or_else b v None) f
find-last x key v (e ∷ es) h f =
    let c = none-else (bytes_eq e.0 x) e.1 (find x es) h in
    ap (λ (b : Bool). or_else b e.1 (find x (es ++ (key, v) ∷ []))) c.0 ∙ find-last x key v es c.1 f

other_way : (a b : List ℕ) → bytes_eq a b ≡ false → bytes_eq b a ≡ false
other_way a b f = pick (bytes_eq b a) refl
  where
    pick : (t : Bool) → bytes_eq b a ≡ t → bytes_eq b a ≡ false
    pick true e = absurd (let g : bytes_eq a b ≡ true = (bytes_eq-Decides a b).1 (sym ((bytes_eq-Decides b a).0 e)) in let x : false ≡ true = sym f ∙ g in cc)
    pick false e = e

-- none of these keys is among those so far
abbrev AreNew : List Entry → List JxPair → Type 0
AreNew done [] = Unit {0}
AreNew done (p ∷ ps) = (find p.key done ≡ None) × AreNew done ps

are_new : (ps : List JxPair) → AreNew [] ps
are_new [] = tt
are_new (p ∷ ps) = (refl, are_new ps)

still_new : (done : List Entry) (key : List ℕ) (v : Value) (ps : List JxPair) → AreNew done ps → find key (map plain_pair ps) ≡ None → AreNew (done ++ (key, v) ∷ []) ps
still_new done key v [] n h = tt
still_new done key v (p ∷ ps) n h =
    let c = none-else (bytes_eq p.key key) (plain p.value) (find key (map plain_pair ps)) h in
    (find-last p.key key v done n.0 (other_way p.key key c.0), still_new done key v ps n.1 c.1)

-- ---- one expression

-- the expression has this value
abbrev pub TreeAnswers : Tree → JxValue → Scope → Type 0
TreeAnswers t v s = (n : ℕ) → is_held v ≡ true → can_be_made (plain v) ≡ true → n + nodes t ≤ 10000000 → evaluate t s n ≡ Ok (plain v, n + nodes t)

-- the items are these, behind any so far
abbrev EntriesAnswer : ℕ → Entries → List JxValue → Scope → Type 0
EntriesAnswer at es vs s = (done : List Value) (n : ℕ) → all_hold (map is_held vs) ≡ true → may_be (list (values (done ++ map plain vs))) ≡ true
    → items_can_be_made (values (map plain vs)) ≡ true → n + entries_nodes es ≤ 10000000 → evaluate_entries at es done s n ≡ Ok (done ++ map plain vs, n + entries_nodes es)

-- the keys and their values are these, behind any so far that have other keys
abbrev FieldsAnswer : ℕ → Fields → List JxPair → Scope → Type 0
FieldsAnswer at fs ps s = (done : List Entry) (n : ℕ) → AreNew done ps → all_hold (map pair_is_held ps) ≡ true → may_be (object (pairs (done ++ map plain_pair ps))) ≡ true
    → pairs_can_be_made (pairs (map plain_pair ps)) ≡ true → n + fields_nodes fs ≤ 10000000 → evaluate_fields at fs done s n ≡ Ok (done ++ map plain_pair ps, n + fields_nodes fs)

answer : {A : Type 0} (a b : A) (n m : ℕ) → a ≡ b → n ≡ m → (let o : Outcome A = Ok (a, n) in o) ≡ Ok (b, m)
answer a b n m e f = rw (e, f) refl

-- a literal
leaf : (w v : JxValue) (x : Value) (at n : ℕ) → (let o : Option JxValue = Some w in o) ≡ Some v → plain w ≡ x → n + 1 ≤ 10000000
    → begun at n (λ n. let o : Outcome Value = Ok (x, n) in o) ≡ Ok (plain v, n + 1)
leaf w v x at n h e fit =
    begin-is at n (n + 1) (λ n. let o : Outcome Value = Ok (x, n) in o) (omega (arith, fit)) refl
    ∙ answer x (plain v) (n + 1) (n + 1) (sym e ∙ ap plain (same_value w v h)) refl

-- ---- a minus before a number

negated-is : (k : ℕ) → neg_ℤ (pos k) ≡ negated k
negated-is zero = refl
negated-is (suc k) = refl

ranged : (at : ℕ) (z : ℤ) → in_range z ≡ true → numbers.in_range at z ≡ Ok (number z)
ranged at (pos n) h = ap (λ (b : Bool). let a : Answer = if b then Ok (number (pos n)) else Err (Overflow at) in a) h
ranged at (negsuc n) h = ap (λ (b : Bool). let a : Answer = if b then Ok (number (negsuc n)) else Err (Overflow at) in a) h

minus-is : (at k : ℕ) → is_held (value.Number (negated k)) ≡ true → signed at sign.Minus (number (pos k)) ≡ Ok (number (negated k))
minus-is at k h = ap (numbers.in_range at) (negated-is k) ∙ ranged at (negated k) (sym (held-number (negated k)) ∙ h)

-- what stands behind the minus
pub behind : (t : Tree) (v : JxValue) → behind_minus t ≡ Some v → (q : ℕ) × (k : ℕ) × (tree.number q (pos k) ≡ t) × (value.Number (negated k) ≡ v)
behind (tree.number q (pos k)) v h = (q, k, refl, same_value (value.Number (negated k)) v h)
behind (tree.number q (negsuc k)) v h = absurd (no_value v h)
behind (tree.null q) v h = absurd (no_value v h)
behind (tree.truth q b) v h = absurd (no_value v h)
behind (tree.text q t) v h = absurd (no_value v h)
behind (tree.name q x) v h = absurd (no_value v h)
behind (tree.call q x ts) v h = absurd (no_value v h)
behind (tree.list q es) v h = absurd (no_value v h)
behind (tree.object q fs) v h = absurd (no_value v h)
behind (tree.index q a i) v h = absurd (no_value v h)
behind (tree.slice q a x y) v h = absurd (no_value v h)
behind (tree.signed q o a) v h = absurd (no_value v h)
behind (tree.operation q o a b) v h = absurd (no_value v h)

minus-answers : (at q k : ℕ) (s : Scope) → TreeAnswers (tree.signed at sign.Minus (tree.number q (pos k))) (value.Number (negated k)) s
unfolding evaluate nodes
minus-answers at q k s n held made fit =
    let m = n + 1 in
    let inner : evaluate (tree.number q (pos k)) s m ≡ Ok (number (pos k), m + 1) = begin-is q m (m + 1) (λ n. let o : Outcome Value = Ok (number (pos k), n) in o) (omega (arith, fit)) refl in
    begin-is at n m (λ n. and_then (evaluate (tree.number q (pos k)) s n) (λ v n. with_count n (signed at sign.Minus v))) (omega (arith, fit)) refl
    ∙ ap (λ (o : Outcome Value). and_then o (λ v n. with_count n (signed at sign.Minus v))) inner
    ∙ ap (with_count (m + 1)) (minus-is at k held)
    ∙ answer (number (negated k)) (plain (value.Number (negated k))) (m + 1) (n + 2) (sym (plain-number (negated k))) (omega arith)

signed-answers : (at : ℕ) (t : Tree) (v : JxValue) (s : Scope) → behind_minus t ≡ Some v → TreeAnswers (tree.signed at sign.Minus t) v s
signed-answers at t v s h =
    let b = behind t v h in
    subst (λ (w : JxValue). TreeAnswers (tree.signed at sign.Minus t) w s) b.3
    (subst (λ (u : Tree). TreeAnswers (tree.signed at sign.Minus u) (value.Number (negated b.1)) s) b.2 (minus-answers at b.0 b.1 s))

-- ---- lists

no_items-answer : (at : ℕ) (s : Scope) → EntriesAnswer at no_entries [] s
unfolding evaluate_entries nodes
no_items-answer at s done n held may made fit = answer done (done ++ []) n (n + 0) (sym (append-nil done)) (omega arith)

item-answers : (at : ℕ) (t : Tree) (es : Entries) (x : JxValue) (ys : List JxValue) (s : Scope) → TreeAnswers t x s → EntriesAnswer at es ys s → EntriesAnswer at (entry t no_loops es) (x ∷ ys) s
unfolding evaluate_entries nodes can_be_made
item-answers at t es x ys s one more done n held may made fit =
    let h = both (is_held x) (all_hold (map is_held ys)) held in
    let m = both (can_be_made (plain x)) (items_can_be_made (values (map plain ys))) made in
    let next = done ++ plain x ∷ [] in
    let all : next ++ map plain ys ≡ done ++ map plain (x ∷ ys) = append_assoc done (plain x ∷ []) (map plain ys) in
    let whole : may_be (list (values (next ++ map plain ys))) ≡ true = ap (λ (l : List Value). may_be (list (values l))) all ∙ may in
    ap (λ (o : Outcome Value). and_then (and_then o (λ v n. with_count n (with_item at done v))) (λ done n. evaluate_entries at es done s n)) (one n h.0 m.0 (omega (arith, fit)))
    ∙ ap (λ a. and_then (with_count (n + nodes t) a) (λ done n. evaluate_entries at es done s n)) (taken at done (plain x) (list-part next (map plain ys) whole))
    ∙ more next (n + nodes t) h.1 whole m.1 (omega (arith, fit))
    ∙ answer (next ++ map plain ys) (done ++ map plain (x ∷ ys)) (n + nodes t + entries_nodes es) (n + (nodes t + entries_nodes es)) all (omega arith)

list-answers : (at : ℕ) (es : Entries) (vs : List JxValue) (s : Scope) → EntriesAnswer at es vs s → TreeAnswers (tree.list at es) (value.List vs) s
unfolding evaluate nodes can_be_made
list-answers at es vs s all n held made fit =
    let m = both (may_be (list (values (map plain vs)))) (items_can_be_made (values (map plain vs))) (sym (ap can_be_made (plain-list vs)) ∙ made) in
    begin-is at n (n + 1) (λ n. and_then (evaluate_entries at es [] s n) (λ vs n. let o : Outcome Value = Ok (list (values vs), n) in o)) (omega (arith, fit)) refl
    ∙ ap (λ (o : Outcome (List Value)). and_then o (λ vs n. let o : Outcome Value = Ok (list (values vs), n) in o)) (all [] (n + 1) (sym (held-list vs) ∙ held) m.0 m.1 (omega (arith, fit)))
    ∙ answer (list (values (map plain vs))) (plain (value.List vs)) (n + 1 + entries_nodes es) (n + suc (entries_nodes es)) (sym (plain-list vs)) (omega arith)

-- ---- objects

no_pairs-answer : (at : ℕ) (s : Scope) → FieldsAnswer at no_fields [] s
unfolding evaluate_fields nodes
no_pairs-answer at s done n new held may made fit = answer done (done ++ []) n (n + 0) (sym (append-nil done)) (omega arith)

key-put : (at : ℕ) (key : List ℕ) (v : Value) (done : List Entry) → find key done ≡ None → may_be (object (pairs (done ++ (key, v) ∷ []))) ≡ true → with_key at key v done ≡ Ok (done ++ (key, v) ∷ [])
key-put at key v done new may = rw (put-new key v done new) (rw may refl)

field-answers : (at : ℕ) (key : List ℕ) (t : Tree) (fs : Fields) (x : JxValue) (ps : List JxPair) (s : Scope) → TreeAnswers t x s → FieldsAnswer at fs ps s
    → FieldsAnswer at (field key t fs) (record { key = key; value = x } ∷ ps) s
unfolding evaluate_fields nodes can_be_made
field-answers at key t fs x ps s one more done n new held may made fit =
    let p : JxPair = record { key = key; value = x } in
    let h = both (pair_is_held p) (all_hold (map pair_is_held ps)) held in
    let k = both (is_utf8 key) (is_held x) (sym (held-pair p) ∙ h.0) in
    let m = both (is_new key (entries (pairs (map plain_pair ps))) && can_be_made (plain x)) (pairs_can_be_made (pairs (map plain_pair ps))) made in
    let i = both (is_new key (entries (pairs (map plain_pair ps)))) (can_be_made (plain x)) m.0 in
    let later : find key (map plain_pair ps) ≡ None = ap (find key) (sym (entries-pairs (map plain_pair ps))) ∙ none-by (find key (entries (pairs (map plain_pair ps)))) i.0 in
    let next = done ++ (key, plain x) ∷ [] in
    let all : next ++ map plain_pair ps ≡ done ++ map plain_pair (p ∷ ps) = append_assoc done ((key, plain x) ∷ []) (map plain_pair ps) in
    let whole : may_be (object (pairs (next ++ map plain_pair ps))) ≡ true = ap (λ (l : List Entry). may_be (object (pairs l))) all ∙ may in
    ap (λ (o : Outcome Value). and_then o (λ v n. and_then (with_count n (with_key at key v done)) (λ done n. evaluate_fields at fs done s n))) (one n k.1 i.1 (omega (arith, fit)))
    ∙ ap (λ a. and_then (with_count (n + nodes t) a) (λ done n. evaluate_fields at fs done s n)) (key-put at key (plain x) done new.0 (object-part next (map plain_pair ps) whole))
    ∙ more next (n + nodes t) (still_new done key (plain x) ps new.1 later) h.1 whole m.1 (omega (arith, fit))
    ∙ answer (next ++ map plain_pair ps) (done ++ map plain_pair (p ∷ ps)) (n + nodes t + fields_nodes fs) (n + (nodes t + fields_nodes fs)) all (omega arith)

object-answers : (at : ℕ) (fs : Fields) (ps : List JxPair) (s : Scope) → FieldsAnswer at fs ps s → TreeAnswers (tree.object at fs) (value.Object ps) s
unfolding evaluate nodes can_be_made
object-answers at fs ps s all n held made fit =
    let m = both (may_be (object (pairs (map plain_pair ps)))) (pairs_can_be_made (pairs (map plain_pair ps))) (sym (ap can_be_made (plain-object ps)) ∙ made) in
    begin-is at n (n + 1) (λ n. and_then (evaluate_fields at fs [] s n) (λ es n. let o : Outcome Value = Ok (object (pairs es), n) in o)) (omega (arith, fit)) refl
    ∙ ap (λ (o : Outcome (List Entry)). and_then o (λ es n. let o : Outcome Value = Ok (object (pairs es), n) in o)) (all [] (n + 1) (are_new ps) (sym (held-object ps) ∙ held) m.0 m.1 (omega (arith, fit)))
    ∙ answer (object (pairs (map plain_pair ps))) (plain (value.Object ps)) (n + 1 + fields_nodes fs) (n + suc (fields_nodes fs)) (sym (plain-object ps)) (omega arith)

-- ---- every expression of literals

mutual
  unfolding evaluate nodes

  pub tree-answers : (t : Tree) (v : JxValue) (s : Scope) → value_of t ≡ Some v → TreeAnswers t v s
  tree-answers (tree.null at) v s h = λ n held made fit. leaf value.Null v null at n h plain-null fit
  tree-answers (tree.truth at b) v s h = λ n held made fit. leaf (value.Truth b) v (truth b) at n h (plain-truth b) fit
  tree-answers (tree.number at z) v s h = λ n held made fit. leaf (value.Number z) v (number z) at n h (plain-number z) fit
  tree-answers (tree.text at t) v s h = λ n held made fit. leaf (value.Text t) v (text t) at n h (plain-text t) fit
  tree-answers (tree.list at es) v s h =
      let m = mapped value.List (items_of es) v h in
      subst (λ (w : JxValue). TreeAnswers (tree.list at es) w s) m.2 (list-answers at es m.0 s (entries-answer at es m.0 s m.1))
  tree-answers (tree.object at fs) v s h =
      let m = mapped value.Object (pairs_of fs) v h in
      subst (λ (w : JxValue). TreeAnswers (tree.object at fs) w s) m.2 (object-answers at fs m.0 s (fields-answer at fs m.0 s m.1))
  tree-answers (tree.signed at sign.Minus t) v s h = signed-answers at t v s h
  tree-answers (tree.signed at sign.Plus t) v s h = absurd (no_value v h)
  tree-answers (tree.signed at sign.Not t) v s h = absurd (no_value v h)
  tree-answers (tree.name at x) v s h = absurd (no_value v h)
  tree-answers (tree.call at x ts) v s h = absurd (no_value v h)
  tree-answers (tree.index at a i) v s h = absurd (no_value v h)
  tree-answers (tree.slice at a x y) v s h = absurd (no_value v h)
  tree-answers (tree.operation at o a b) v s h = absurd (no_value v h)

  entries-answer : (at : ℕ) (es : Entries) (vs : List JxValue) (s : Scope) → items_of es ≡ Some vs → EntriesAnswer at es vs s
  entries-answer at no_entries vs s h = subst (λ (l : List JxValue). EntriesAnswer at no_entries l s) (same_value [] vs h) (no_items-answer at s)
  entries-answer at (entry t no_loops es) vs s h =
      let j = joined-some (value_of t) (items_of es) vs h in
      subst (λ (l : List JxValue). EntriesAnswer at (entry t no_loops es) l s) j.4
      (item-answers at t es j.0 j.1 s (tree-answers t j.0 s j.2) (entries-answer at es j.1 s j.3))
  entries-answer at (entry t (loop p x l c ls) es) vs s h = absurd (no_value vs h)

  fields-answer : (at : ℕ) (fs : Fields) (ps : List JxPair) (s : Scope) → pairs_of fs ≡ Some ps → FieldsAnswer at fs ps s
  fields-answer at no_fields ps s h = subst (λ (l : List JxPair). FieldsAnswer at no_fields l s) (same_value [] ps h) (no_pairs-answer at s)
  fields-answer at (field key t fs) ps s h =
      let j = joined-some (paired key (value_of t)) (pairs_of fs) ps h in
      let m = mapped (λ (v : JxValue). let p : JxPair = record { key = key; value = v } in p) (value_of t) j.0 j.2 in
      subst (λ (l : List JxPair). FieldsAnswer at (field key t fs) l s) (ap (λ (p : JxPair). p ∷ j.1) m.2 ∙ j.4)
      (field-answers at key t fs m.0 j.1 s (tree-answers t m.0 s m.1) (fields-answer at fs j.1 s j.3))
