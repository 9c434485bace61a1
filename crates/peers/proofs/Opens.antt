-- Open attempts, and what is so of each.
use Rattle.std.proofs.Common.{◌≡◌, ℕ, zero, suc, ◌+◌, Bool, true, false, not, cond, ltb, List, [], ◌∷◌, ◌++◌, length, Option, Some, None, is_some, refl, sym, ap, subst, ◌∙◌, arith}
use Rattle.std.specs.Prelude.{slice_get, slice_set, remove}
use Rattle.std.specs.List.{AllByRecursion, position_or_len}
use Rattle.std.proofs.lemmas.Bool.{lt-ltb, le-ltb, ltb-true, ltb-false, eqb-true, eq-eqb}
use Rattle.flow_types.specs.declared.numbers.AttemptNo.{AttemptNo}
use Rattle.link_session.specs.declared.open.Open.{Open}
use Rattle.link_session.specs.Sessions.{is_of, place, is_open}

-- ---- facts of each

pub all_append : (P : Open → Type 0) (xs ys : List Open) → AllByRecursion P xs → AllByRecursion P ys → AllByRecursion P (xs ++ ys)
all_append P [] ys left right = right
all_append P (x ∷ xs) ys left right = (left.0, all_append P xs ys left.1 right)

pub all_map : (P Q : Open → Type 0) → ((o : Open) → P o → Q o) → (xs : List Open) → AllByRecursion P xs → AllByRecursion Q xs
all_map P Q step [] all = tt
all_map P Q step (x ∷ xs) all = (step x all.0, all_map P Q step xs all.1)

pub all_with : (P Q R : Open → Type 0) → ((o : Open) → P o → Q o → R o) → (xs : List Open) → AllByRecursion P xs → AllByRecursion Q xs → AllByRecursion R xs
all_with P Q R step [] all more = tt
all_with P Q R step (x ∷ xs) all more = (step x all.0 more.0, all_with P Q R step xs all.1 more.1)

pub all_of : (P : Open → Type 0) → ((o : Open) → P o) → (xs : List Open) → AllByRecursion P xs
all_of P each [] = tt
all_of P each (x ∷ xs) = (each x, all_of P each xs)

pub all_left : (P : Open → Type 0) (xs : List Open) (at : ℕ) → AllByRecursion P xs → AllByRecursion P (remove xs at)
all_left P [] zero all = tt
all_left P [] (suc at) all = tt
all_left P (x ∷ xs) zero all = all.1
all_left P (x ∷ xs) (suc at) all = (all.0, all_left P xs at all.1)

pub all_set : (P : Open → Type 0) (xs : List Open) (at : ℕ) (y : Open) → P y → AllByRecursion P xs → AllByRecursion P (slice_set xs at y)
all_set P [] zero y is all = tt
all_set P [] (suc at) y is all = tt
all_set P (x ∷ xs) zero y is all = (is, all.1)
all_set P (x ∷ xs) (suc at) y is all = (all.0, all_set P xs at y is all.1)

pub all_get : (P : Open → Type 0) (xs : List Open) (at : ℕ) (o : Open) → slice_get xs at ≡ Some o → AllByRecursion P xs → P o
all_get P [] at o is all = absurd cc
all_get P (x ∷ xs) zero o is all =
    let same : x ≡ o = cc in
    subst P same all.0
all_get P (x ∷ xs) (suc at) o is all = all_get P xs at o is all.1

-- ---- places

-- how many attempts from the front on are others
abbrev before : AttemptNo → List Open → ℕ
before attempt os = position_or_len (is_of attempt) os

here : (attempt : AttemptNo) (o : Open) (os : List Open) → is_of attempt o ≡ true → place attempt (o ∷ os) ≡ Some 0
here attempt o os e =
    let none : before attempt (o ∷ os) ≡ 0 = ap (λ (b : Bool). cond (not b) (1 + before attempt os) 0) e in
    let n = length os in
    ap (λ (k : ℕ). cond (ltb k (suc n)) (Some k) None) none ∙ ap (λ (b : Bool). cond b (Some 0) None) (lt-ltb 0 (suc n) (omega arith))

abbrev next : Option ℕ → Option ℕ
next None = None
next (Some at) = Some (suc at)

ltb_suc : (a b : ℕ) (t : Bool) → ltb a b ≡ t → ltb (1 + a) (suc b) ≡ t
ltb_suc a b true e = lt-ltb (1 + a) (suc b) (omega (arith, ltb-true a b e))
ltb_suc a b false e = le-ltb (1 + a) (suc b) (omega (arith, ltb-false a b e))

next_at : (q n : ℕ) (t : Bool) → ltb q n ≡ t → cond (ltb (1 + q) (suc n)) (Some (1 + q)) None ≡ next (cond (ltb q n) (Some q) None)
next_at q n true h = let one : 1 + q ≡ suc q = omega arith in rw (h, ltb_suc q n true h) (ap (λ (k : ℕ). Some k) one)
next_at q n false h = rw (h, ltb_suc q n false h) refl

there : (attempt : AttemptNo) (o : Open) (os : List Open) → is_of attempt o ≡ false → place attempt (o ∷ os) ≡ next (place attempt os)
there attempt o os e =
    let q = before attempt os in
    let n = length os in
    let more : before attempt (o ∷ os) ≡ 1 + q = ap (λ (b : Bool). cond (not b) (1 + q) 0) e in
    ap (λ (k : ℕ). cond (ltb k (suc n)) (Some k) None) more ∙ next_at q n (ltb q n) refl

-- ---- an attempt that isn't open

next_some : (p : Option ℕ) → is_some (next p) ≡ is_some p
next_some None = refl
next_some (Some at) = refl

none_by : (attempt : AttemptNo) (o : Open) (os : List Open) (b : Bool) → is_of attempt o ≡ b → is_open attempt (o ∷ os) ≡ false → (is_of attempt o ≡ false) × (is_open attempt os ≡ false)
none_by attempt o os true e h = absurd (let wrong : ⊥ = cc (ap (λ (p : Option ℕ). is_some p) (here attempt o os e), h) in wrong)
none_by attempt o os false e h =
    (e, sym (next_some (place attempt os)) ∙ sym (ap (λ (p : Option ℕ). is_some p) (there attempt o os e)) ∙ h)

-- it is another's
abbrev pub IsOther : AttemptNo → Open → Type 0
IsOther attempt o = o.attempt ≡ attempt → ⊥

is_other : (attempt : AttemptNo) (o : Open) → is_of attempt o ≡ false → IsOther attempt o
is_other attempt o e same =
    let wrong : ⊥ = cc (eq-eqb o.attempt.0 attempt.0 (ap (λ (a : AttemptNo). a.0) same), e) in wrong

-- An attempt that isn't open is none of these.
pub others : (attempt : AttemptNo) (os : List Open) → is_open attempt os ≡ false → AllByRecursion (IsOther attempt) os
others attempt [] h = tt
others attempt (o ∷ os) h =
    let both = none_by attempt o os (is_of attempt o) refl h in
    (is_other attempt o both.0, others attempt os both.1)

-- ---- what stands at the place of an attempt

abbrev some_at : ℕ → Option ℕ
some_at at = Some at

first_is : (at k : ℕ) → some_at k ≡ Some at → k ≡ at
first_is at k e = cc

abbrev number_as : ℕ → AttemptNo
number_as n = record { 0 = n }

is_its : (attempt : AttemptNo) (o : Open) → is_of attempt o ≡ true → o.attempt ≡ attempt
is_its attempt o e = ap number_as (eqb-true o.attempt.0 attempt.0 e)

-- an open attempt stands at its place
pub record Placed (attempt : AttemptNo) (os : List Open) (at : ℕ) : Type 0 where
  pub it : Open
  pub there_it_is : slice_get os at ≡ Some it
  pub of_it : it.attempt ≡ attempt

placed_by : (attempt : AttemptNo) (o : Open) (os : List Open) (at : ℕ) (b : Bool) (p : Option ℕ) → is_of attempt o ≡ b → place attempt os ≡ p
    → place attempt (o ∷ os) ≡ Some at → ((k : ℕ) → place attempt os ≡ Some k → Placed attempt os k) → Placed attempt (o ∷ os) at
placed_by attempt o os at true p e f is later =
    let zeroth : 0 ≡ at = first_is at 0 (sym (here attempt o os e) ∙ is) in
    subst (Placed attempt (o ∷ os)) zeroth (record { it = o; there_it_is = refl; of_it = is_its attempt o e })
placed_by attempt o os at false None e f is later =
    absurd (let wrong : ⊥ = cc (sym (there attempt o os e ∙ ap next f) ∙ is) in wrong)
placed_by attempt o os at false (Some k) e f is later =
    let same : suc k ≡ at = first_is at (suc k) (sym (there attempt o os e ∙ ap next f) ∙ is) in
    let l = later k f in
    subst (Placed attempt (o ∷ os)) same (record { it = l.it; there_it_is = l.there_it_is; of_it = l.of_it })

pub placed : (attempt : AttemptNo) (os : List Open) (at : ℕ) → place attempt os ≡ Some at → Placed attempt os at
placed attempt [] at is = absurd cc
placed attempt (o ∷ os) at is =
    placed_by attempt o os at (is_of attempt o) (place attempt os) refl refl is (λ k f. placed attempt os k f)

-- What isn't true is false.
pub is_false : (b : Bool) → (b ≡ true → ⊥) → b ≡ false
is_false true none = absurd (none refl)
is_false false none = refl
