-- The first binding of a name.
use Rattle.std.proofs.Common.{◌≡◌, ℕ, zero, suc, ◌+◌, ◌<◌, Bool, true, false, cond, List, position, [], ◌∷◌, ◌++◌, length, get_or, set, Option, Some, None, Result, Ok, Err, OnOk, refl, sym, ap, ◌∙◌, arith}
use Rattle.std.specs.Str.{bytes_eq}
use Rattle.std.specs.List.{position_from}
use Rattle.std.proofs.lemmas.Iterator.Adapters.{position_from-zero}
use Rattle.std.proofs.lemmas.Slice.Eq.{bytes_eq-Decides}
use Rattle.std.proofs.lemmas.List.Quantifiers.{position-Some}
use Rattle.jx_syntax.specs.declared.value.JxValue.{JxValue}
use Rattle.jx_meaning.specs.declared.scope.Binding.{Binding}
use Rattle.jx_meaning.specs.Values.{Value, Entry, plain, or_else}
use Rattle.jx_meaning.specs.Lists.{put, put_if}
use Rattle.jx_meaning.specs.Scopes.{named, entry_of, names_of}

pub found : (bs : List Binding) (i : ℕ) (x : List ℕ) (d : Binding) → i < length bs → bytes_eq (get_or bs i d).name x ≡ true
    → ((k : ℕ) → k < i → bytes_eq (get_or bs k d).name x ≡ false) → named bs x ≡ Some (plain (get_or bs i d).value)
found [] i x d lt h below = absurd (omega arith)
found (b ∷ bs) zero x d lt h below = rw h refl
found (b ∷ bs) (suc i) x d lt h below = let z : bytes_eq b.name x ≡ false = below 0 (omega arith) in rw z (found bs i x d (omega arith) h (λ k l. below (suc k) (omega arith)))

none_at : (bs : List Binding) (x : List ℕ) (d : Binding) → ((k : ℕ) → k < length bs → bytes_eq (get_or bs k d).name x ≡ false) → named bs x ≡ None
none_at [] x d below = refl
none_at (b ∷ bs) x d below = let z : bytes_eq b.name x ≡ false = below 0 (omega arith) in rw z (none_at bs x d (λ k l. below (suc k) (omega arith)))

again : (b : Bool) (v w : Value) (o : Option Value) → or_else b v o ≡ or_else b v (or_else b w o)
again true v w o = refl
again false v w o = refl

-- two tests of which one at most holds can be made in either order
swapped : (b c : Bool) (v w : Value) (o : Option Value) → (b ≡ true → c ≡ true → ⊥) → or_else b v (or_else c w o) ≡ or_else c w (or_else b v o)
swapped true true v w o h = absurd (h refl refl)
swapped true false v w o h = refl
swapped false true v w o h = refl
swapped false false v w o h = refl

equal_texts : (x y : List ℕ) → bytes_eq x y ≡ true → x ≡ y
equal_texts x y h = (bytes_eq-Decides x y).0 h

same_text : (y : List ℕ) → bytes_eq y y ≡ true
same_text y = (bytes_eq-Decides y y).1 refl

-- no name is two
one_at_most : (a x y : List ℕ) → bytes_eq a y ≡ false → bytes_eq a x ≡ true → bytes_eq y x ≡ true → ⊥
one_at_most a x y z p q =
    let s : a ≡ y = equal_texts a x p ∙ sym (equal_texts y x q) in
    let t : bytes_eq a y ≡ true = rw s (same_text y) in
    let f : false ≡ true = sym z ∙ t in cc

pub replaced : (bs : List Binding) (i : ℕ) (x y : List ℕ) (d b : Binding) → i < length bs → bytes_eq (get_or bs i d).name y ≡ true
    → ((k : ℕ) → k < i → bytes_eq (get_or bs k d).name y ≡ false) → b.name ≡ y → named (set bs i b) x ≡ or_else (bytes_eq y x) (plain b.value) (named bs x)
replaced [] i x y d b lt h below e = absurd (omega arith)
replaced (a ∷ bs) zero x y d b lt h below e =
    let q : a.name ≡ y = equal_texts a.name y h in
    rw (e, q) (again (bytes_eq y x) (plain b.value) (plain a.value) (named bs x))
replaced (a ∷ bs) (suc i) x y d b lt h below e =
    let z : bytes_eq a.name y ≡ false = below 0 (omega arith) in
    ap (or_else (bytes_eq a.name x) (plain a.value)) (replaced bs i x y d b (omega arith) h (λ k l. below (suc k) (omega arith)) e)
    ∙ swapped (bytes_eq a.name x) (bytes_eq y x) (plain a.value) (plain b.value) (named bs x) (one_at_most a.name x y z)

pub added : (bs : List Binding) (b : Binding) (x : List ℕ) (d : Binding) → ((k : ℕ) → k < length bs → bytes_eq (get_or bs k d).name b.name ≡ false)
    → named (bs ++ b ∷ []) x ≡ or_else (bytes_eq b.name x) (plain b.value) (named bs x)
added [] b x d below = refl
added (a ∷ bs) b x d below =
    let z : bytes_eq a.name b.name ≡ false = below 0 (omega arith) in
    ap (or_else (bytes_eq a.name x) (plain a.value)) (added bs b x d (λ k l. below (suc k) (omega arith)))
    ∙ swapped (bytes_eq a.name x) (bytes_eq b.name x) (plain a.value) (plain b.value) (named bs x) (one_at_most a.name x b.name z)

cond_none : (t : Bool) (i : ℕ) (o : Option ℕ) → cond t (Some i) o ≡ None → (t ≡ false) × (o ≡ None)
cond_none true i o h = absurd (let e : (let s : Option ℕ = Some i in s) ≡ None = h in cc)
cond_none false i o h = (refl, h)

absent_from : (bs : List Binding) (x : List ℕ) (i : ℕ) (d : Binding) → position_from (λ (b : Binding). bytes_eq b.name x) i bs ≡ None
    → (k : ℕ) → k < length bs → bytes_eq (get_or bs k d).name x ≡ false
absent_from [] x i d h k lt = absurd (omega arith)
absent_from (b ∷ bs) x i d h zero lt = (cond_none (bytes_eq b.name x) i (position_from (λ (b : Binding). bytes_eq b.name x) (i + 1) bs) h).0
absent_from (b ∷ bs) x i d h (suc k) lt =
    absent_from bs x (i + 1) d (cond_none (bytes_eq b.name x) i (position_from (λ (b : Binding). bytes_eq b.name x) (i + 1) bs) h).1 k (omega arith)

-- no binding has a name that has no place
pub absent : (bs : List Binding) (x : List ℕ) (d : Binding) → position (λ (b : Binding). bytes_eq b.name x) bs ≡ None
    → (k : ℕ) → k < length bs → bytes_eq (get_or bs k d).name x ≡ false
absent bs x d h = absent_from bs x 0 d (sym (position_from-zero (λ (b : Binding). bytes_eq b.name x) bs) ∙ h)

-- a name that has no place has no value
pub none : (bs : List Binding) (x : List ℕ) → position (λ (b : Binding). bytes_eq b.name x) bs ≡ None → named bs x ≡ None
none [] x h = refl
none (b ∷ bs) x h = none_at (b ∷ bs) x b (absent (b ∷ bs) x b h)

pub value_replaced : (bs new : List Binding) (i : ℕ) (x y : List ℕ) (b : Binding) (v : JxValue) → position (λ (b : Binding). bytes_eq b.name y) bs ≡ Some i → b ≡ get_or bs i b
    → new ≡ set bs i (record b { value = v }) → named new x ≡ or_else (bytes_eq y x) (plain v) (named bs x)
value_replaced bs new i x y b v place is becomes =
    let h = position-Some (λ (b : Binding). bytes_eq b.name y) bs i b place in
    let own : bytes_eq b.name y ≡ true = ap (λ (b : Binding). bytes_eq b.name y) is ∙ h.1 in
    ap (λ (l : List Binding). named l x) becomes ∙ replaced bs i x y b (record b { value = v }) h.0 h.1 h.2 (equal_texts b.name y own)

pub value_added : (bs new : List Binding) (x y : List ℕ) (b : Binding) → position (λ (b : Binding). bytes_eq b.name y) bs ≡ None → b.name ≡ y
    → new ≡ bs ++ b ∷ [] → named new x ≡ or_else (bytes_eq y x) (plain b.value) (named bs x)
value_added bs new x y b place is becomes =
    let gone : position (λ (c : Binding). bytes_eq c.name b.name) bs ≡ None = ap (λ (z : List ℕ). position (λ (c : Binding). bytes_eq c.name z) bs) is ∙ place in
    ap (λ (l : List Binding). named l x) becomes ∙ added bs b x b (absent bs b.name b gone) ∙ ap (λ (z : List ℕ). or_else (bytes_eq z x) (plain b.value) (named bs x)) is

-- ---- the names in order

names_set : (bs : List Binding) (i : ℕ) (y : List ℕ) (b : Binding) (v : JxValue) → i < length bs → b ≡ get_or bs i b → bytes_eq b.name y ≡ true
    → ((k : ℕ) → k < i → bytes_eq (get_or bs k b).name y ≡ false) → names_of (set bs i (record b { value = v })) ≡ put y (plain v) (names_of bs)
names_set [] i y b v lt is own below = absurd (omega arith)
names_set (a ∷ bs) zero y b v lt is own below =
    let t : bytes_eq a.name y ≡ true = ap (λ (c : Binding). bytes_eq c.name y) (sym is) ∙ own in
    ap (λ (c : Binding). (c.name, plain v) ∷ names_of bs) is ∙ sym (ap (λ (t : Bool). put_if t (plain v) (entry_of a) (names_of bs) (put y (plain v) (names_of bs))) t)
names_set (a ∷ bs) (suc i) y b v lt is own below =
    let f : bytes_eq a.name y ≡ false = below 0 (omega arith) in
    ap (λ (es : List Entry). entry_of a ∷ es) (names_set bs i y b v (omega arith) is own (λ k l. below (suc k) (omega arith)))
    ∙ sym (ap (λ (t : Bool). put_if t (plain v) (entry_of a) (names_of bs) (put y (plain v) (names_of bs))) f)

names_added : (bs : List Binding) (b : Binding) (d : Binding) → ((k : ℕ) → k < length bs → bytes_eq (get_or bs k d).name b.name ≡ false)
    → names_of (bs ++ b ∷ []) ≡ put b.name (plain b.value) (names_of bs)
names_added [] b d below = refl
names_added (a ∷ bs) b d below =
    let f : bytes_eq a.name b.name ≡ false = below 0 (omega arith) in
    ap (λ (es : List Entry). entry_of a ∷ es) (names_added bs b d (λ k l. below (suc k) (omega arith)))
    ∙ sym (ap (λ (t : Bool). put_if t (plain b.value) (entry_of a) (names_of bs) (put b.name (plain b.value) (names_of bs))) f)

pub names_replaced : (bs new : List Binding) (i : ℕ) (y : List ℕ) (b : Binding) (v : JxValue) → position (λ (b : Binding). bytes_eq b.name y) bs ≡ Some i → b ≡ get_or bs i b
    → new ≡ set bs i (record b { value = v }) → names_of new ≡ put y (plain v) (names_of bs)
names_replaced bs new i y b v place is becomes =
    let h = position-Some (λ (b : Binding). bytes_eq b.name y) bs i b place in
    let own : bytes_eq b.name y ≡ true = ap (λ (b : Binding). bytes_eq b.name y) is ∙ h.1 in
    ap (λ (l : List Binding). names_of l) becomes ∙ names_set bs i y b v h.0 is own h.2

pub names_grown : (bs new : List Binding) (y : List ℕ) (b : Binding) → position (λ (b : Binding). bytes_eq b.name y) bs ≡ None → b.name ≡ y
    → new ≡ bs ++ b ∷ [] → names_of new ≡ put y (plain b.value) (names_of bs)
names_grown bs new y b place is becomes =
    let gone : position (λ (c : Binding). bytes_eq c.name b.name) bs ≡ None = ap (λ (z : List ℕ). position (λ (c : Binding). bytes_eq c.name z) bs) is ∙ place in
    ap (λ (l : List Binding). names_of l) becomes ∙ names_added bs b b (absent bs b.name b gone) ∙ ap (λ (z : List ℕ). put z (plain b.value) (names_of bs)) is

pub on_ok : {A E : Type 0} (r : Result A E) (P Q : Type 0) → (P → Q) → OnOk r P → OnOk r Q
on_ok (Ok a) P Q f p = f p
on_ok (Err e) P Q f p = p
