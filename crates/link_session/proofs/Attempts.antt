-- Open attempts, of which none stands twice.
use Rattle.std.proofs.Common.{◌≡◌, ℕ, zero, suc, ◌+◌, Bool, true, false, not, cond, ltb, List, [], ◌∷◌, ◌++◌, length, Option, Some, None, is_some, refl, sym, ap, subst, ◌∙◌, arith}
use Rattle.std.specs.Prelude.{◌==◌, slice_get, slice_set, remove}
use Rattle.std.specs.List.{AllByRecursion, position_or_len}
use Rattle.std.proofs.lemmas.Bool.{lt-ltb, le-ltb, ltb-true, ltb-false, eqb-true, eq-eqb}
use Rattle.flow_types.specs.declared.numbers.AttemptNo.{AttemptNo}
use Rattle.link_session.specs.declared.open.Open.{Open}
use Rattle.link_session.specs.Sessions.{is_of, place, is_open, missed, missed_at, HasNone, AreApart}

-- ---- places

-- how many attempts from the front on are others
abbrev before : AttemptNo → List Open → ℕ
before attempt os = position_or_len (is_of attempt) os

here : (attempt : AttemptNo) (o : Open) (os : List Open) → is_of attempt o ≡ true → place attempt (o ∷ os) ≡ Some 0
here attempt o os e =
    let none : before attempt (o ∷ os) ≡ 0 = ap (λ (b : Bool). cond (not b) (1 + before attempt os) 0) e in
    let n = length os in
    ap (λ (k : ℕ). cond (ltb k (suc n)) (Some k) None) none ∙ ap (λ (b : Bool). cond b (Some 0) None) (lt-ltb 0 (suc n) (omega arith))

abbrev next : Option ℕ → Option ℕ
next None = None
next (Some at) = Some (suc at)

ltb_suc : (a b : ℕ) (t : Bool) → ltb a b ≡ t → ltb (1 + a) (suc b) ≡ t
ltb_suc a b true e = lt-ltb (1 + a) (suc b) (omega (arith, ltb-true a b e))
ltb_suc a b false e = le-ltb (1 + a) (suc b) (omega (arith, ltb-false a b e))

next_at : (q n : ℕ) (t : Bool) → ltb q n ≡ t → cond (ltb (1 + q) (suc n)) (Some (1 + q)) None ≡ next (cond (ltb q n) (Some q) None)
next_at q n true h = let one : 1 + q ≡ suc q = omega arith in rw (h, ltb_suc q n true h) (ap (λ (k : ℕ). Some k) one)
next_at q n false h = rw (h, ltb_suc q n false h) refl

there : (attempt : AttemptNo) (o : Open) (os : List Open) → is_of attempt o ≡ false → place attempt (o ∷ os) ≡ next (place attempt os)
there attempt o os e =
    let q = before attempt os in
    let n = length os in
    let more : before attempt (o ∷ os) ≡ 1 + q = ap (λ (b : Bool). cond (not b) (1 + q) 0) e in
    ap (λ (k : ℕ). cond (ltb k (suc n)) (Some k) None) more ∙ next_at q n (ltb q n) refl

-- ---- an attempt that isn't open

next_some : (p : Option ℕ) → is_some (next p) ≡ is_some p
next_some None = refl
next_some (Some at) = refl

none_by : (attempt : AttemptNo) (o : Open) (os : List Open) (b : Bool) → is_of attempt o ≡ b → is_open attempt (o ∷ os) ≡ false → (is_of attempt o ≡ false) × (is_open attempt os ≡ false)
none_by attempt o os true e h = absurd (let wrong : ⊥ = cc (ap (λ (p : Option ℕ). is_some p) (here attempt o os e), h) in wrong)
none_by attempt o os false e h =
    (e, sym (next_some (place attempt os)) ∙ sym (ap (λ (p : Option ℕ). is_some p) (there attempt o os e)) ∙ h)

pub has_none : (attempt : AttemptNo) (os : List Open) → is_open attempt os ≡ false → HasNone attempt os
has_none attempt [] h = tt
has_none attempt (o ∷ os) h =
    let both = none_by attempt o os (is_of attempt o) refl h in
    (both.0, has_none attempt os both.1)

pub not_open : (attempt : AttemptNo) (os : List Open) → HasNone attempt os → is_open attempt os ≡ false
not_open attempt [] h = refl
not_open attempt (o ∷ os) h =
    ap (λ (p : Option ℕ). is_some p) (there attempt o os h.0) ∙ next_some (place attempt os) ∙ not_open attempt os h.1

-- ---- one leaves

none_left : (attempt : AttemptNo) (os : List Open) (at : ℕ) → HasNone attempt os → HasNone attempt (remove os at)
none_left attempt [] zero h = tt
none_left attempt [] (suc at) h = tt
none_left attempt (o ∷ os) zero h = h.1
none_left attempt (o ∷ os) (suc at) h = (h.0, none_left attempt os at h.1)

pub apart_left : (os : List Open) (at : ℕ) → AreApart os → AreApart (remove os at)
apart_left [] zero h = tt
apart_left [] (suc at) h = tt
apart_left (o ∷ os) zero h = h.1
apart_left (o ∷ os) (suc at) h = (none_left o.attempt os at h.0, apart_left os at h.1)

abbrev some_at : ℕ → Option ℕ
some_at at = Some at

first_is : (at k : ℕ) → some_at k ≡ Some at → k ≡ at
first_is at k e = cc

-- the place of an attempt, and what stands there is the only one of it
closed_by : (attempt : AttemptNo) (o : Open) (os : List Open) (at : ℕ) (b : Bool) (p : Option ℕ) → is_of attempt o ≡ b → place attempt os ≡ p
    → AreApart (o ∷ os) → place attempt (o ∷ os) ≡ Some at → ((k : ℕ) → place attempt os ≡ Some k → HasNone attempt (remove os k)) → HasNone attempt (remove (o ∷ os) at)
closed_by attempt o os at true p e f h is later =
    let zeroth : 0 ≡ at = first_is at 0 (sym (here attempt o os e) ∙ is) in
    let others = subst (λ (n : ℕ). AllByRecursion (λ (other : Open). (other.attempt.0 == n) ≡ false) os) (eqb-true o.attempt.0 attempt.0 e) h.0 in
    subst (λ (k : ℕ). HasNone attempt (remove (o ∷ os) k)) zeroth others
closed_by attempt o os at false None e f h is later =
    absurd (let wrong : ⊥ = cc (sym (there attempt o os e ∙ ap next f) ∙ is) in wrong)
closed_by attempt o os at false (Some k) e f h is later =
    let same : suc k ≡ at = first_is at (suc k) (sym (there attempt o os e ∙ ap next f) ∙ is) in
    subst (λ (j : ℕ). HasNone attempt (remove (o ∷ os) j)) same (e, later k f)

left_closed : (attempt : AttemptNo) (os : List Open) (at : ℕ) → AreApart os → place attempt os ≡ Some at → HasNone attempt (remove os at)
left_closed attempt [] at h is = absurd cc
left_closed attempt (o ∷ os) at h is =
    closed_by attempt o os at (is_of attempt o) (place attempt os) refl refl h is (λ k f. left_closed attempt os k h.1 f)

pub closed : (attempt : AttemptNo) (os : List Open) (at : ℕ) → AreApart os → place attempt os ≡ Some at → is_open attempt (remove os at) ≡ false
closed attempt os at h is = not_open attempt (remove os at) (left_closed attempt os at h is)

-- ---- one comes

turned : (a b : ℕ) (t : Bool) → (b == a) ≡ t → (a == b) ≡ false → (b == a) ≡ false
turned a b true e h = absurd (let wrong : ⊥ = cc (eq-eqb a b (sym (eqb-true b a e)), h) in wrong)
turned a b false e h = e

none_more : (attempt : AttemptNo) (os : List Open) (o : Open) → HasNone attempt os → is_of attempt o ≡ false → HasNone attempt (os ++ o ∷ [])
none_more attempt [] o h e = (e, tt)
none_more attempt (x ∷ os) o h e = (h.0, none_more attempt os o h.1 e)

pub apart_more : (os : List Open) (o : Open) → AreApart os → HasNone o.attempt os → AreApart (os ++ o ∷ [])
apart_more [] o h none = (tt, tt)
apart_more (x ∷ os) o h none = (
  none_more x.attempt os o h.0 (turned x.attempt.0 o.attempt.0 (o.attempt.0 == x.attempt.0) refl none.0),
  apart_more os o h.1 none.1,
)

-- ---- one was missing inputs once more

none_missed : (attempt : AttemptNo) (os : List Open) (at : ℕ) (o : Open) → slice_get os at ≡ Some o → HasNone attempt os → HasNone attempt (slice_set os at (missed o))
none_missed attempt [] at o is h = absurd cc
none_missed attempt (x ∷ os) zero o is h =
    let same : x ≡ o = cc in
    (subst (λ (y : Open). is_of attempt y ≡ false) same h.0, h.1)
none_missed attempt (x ∷ os) (suc at) o is h = (h.0, none_missed attempt os at o is h.1)

apart_missed : (os : List Open) (at : ℕ) (o : Open) → slice_get os at ≡ Some o → AreApart os → AreApart (slice_set os at (missed o))
apart_missed [] at o is h = absurd cc
apart_missed (x ∷ os) zero o is h =
    let same : x ≡ o = cc in
    (subst (λ (y : Open). HasNone y.attempt os) same h.0, h.1)
apart_missed (x ∷ os) (suc at) o is h = (none_missed x.attempt os at o is h.0, apart_missed os at o is h.1)

pub apart_missed_at : (os : List Open) (at : ℕ) (p : Option Open) → slice_get os at ≡ p → AreApart os → AreApart (missed_at os at p)
apart_missed_at os at None is h = h
apart_missed_at os at (Some o) is h = apart_missed os at o is h
