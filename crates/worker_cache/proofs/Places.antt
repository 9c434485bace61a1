-- Where a key stands among distinct ones.
use Rattle.std.proofs.Common.{◌≡◌, ℕ, suc, ◌+◌, Bool, true, false, not, cond, ltb, [], ◌∷◌, length, Option, Some, None, ◌⊎◌, inl, inr, refl, sym, ap, subst, ◌∙◌, arith}
use Rattle.std.specs.Prelude.{slice_get, remove, ◌&&◌, ◌==◌}
use Rattle.std.specs.List.{AllByRecursion, IsDistinct, position_or_len}
use Rattle.std.specs.Map.{keys_of}
use Rattle.std.proofs.lemmas.Bool.{lt-ltb, le-ltb, ltb-true, ltb-false, eqb-true, eq-eqb}
use Rattle.flow_types.specs.declared.messages.Key.{Key}
use Rattle.worker_cache.specs.declared.held.Held.{Held}
use Rattle.worker_cache.specs.Caches.{Rows, same_key, place, pinned_in, kept_bytes, pinned_bytes, all_pinned}

-- no row has this key
abbrev pub HasNone : Key → Rows → Type 0
HasNone key rows = AllByRecursion (λ (other : Key). same_key key other ≡ false) (keys_of rows)

-- the row at the place has this key, and no other row has it
pub record StandsAt (key : Key) (rows : Rows) (at : ℕ) (row : Key × Held) : Type 0 where
  pub found : place key rows ≡ Some at
  pub got : slice_get rows at ≡ Some row
  pub same : same_key key row.0 ≡ true
  pub others : HasNone key (remove rows at)

both_true : (a b : Bool) → a && b ≡ true → (a ≡ true) × (b ≡ true)
both_true true b e = (refl, e)
both_true false b e = absurd cc

-- the key of these numbers
abbrev key_from : ℕ → ℕ → Key
key_from run file = record { run = run; file = record { 0 = file } }

pub same_is : (a b : Key) → same_key a b ≡ true → a ≡ b
same_is a b e =
    let p = both_true (a.run == b.run) (a.file.0 == b.file.0) e in
    let runs : a.run ≡ b.run = eqb-true a.run b.run p.0 in
    let files : a.file.0 ≡ b.file.0 = eqb-true a.file.0 b.file.0 p.1 in
    ap (λ (run : ℕ). key_from run a.file.0) runs ∙ ap (key_from b.run) files

pub same_self : (key : Key) → same_key key key ≡ true
same_self key = ap (λ (b : Bool). b && (key.file.0 == key.file.0)) (eq-eqb key.run key.run refl) ∙ eq-eqb key.file.0 key.file.0 refl

-- how many keys from the front on are others
abbrev before : Key → Rows → ℕ
before key rows = position_or_len (same_key key) (keys_of rows)

pub here : (key : Key) (row : Key × Held) (rows : Rows) → same_key key row.0 ≡ true → place key (row ∷ rows) ≡ Some 0
here key row rows e =
    let none : before key (row ∷ rows) ≡ 0 = ap (λ (b : Bool). cond (not b) (1 + before key rows) 0) e in
    let n = length (keys_of rows) in
    ap (λ (k : ℕ). cond (ltb k (suc n)) (Some k) None) none ∙ ap (λ (b : Bool). cond b (Some 0) None) (lt-ltb 0 (suc n) (omega arith))

abbrev pub next : Option ℕ → Option ℕ
next None = None
next (Some at) = Some (suc at)

ltb_suc : (a b : ℕ) (t : Bool) → ltb a b ≡ t → ltb (1 + a) (suc b) ≡ t
ltb_suc a b true e = lt-ltb (1 + a) (suc b) (omega (arith, ltb-true a b e))
ltb_suc a b false e = le-ltb (1 + a) (suc b) (omega (arith, ltb-false a b e))

next_at : (q n : ℕ) (t : Bool) → ltb q n ≡ t → cond (ltb (1 + q) (suc n)) (Some (1 + q)) None ≡ next (cond (ltb q n) (Some q) None)
next_at q n true h = let one : 1 + q ≡ suc q = omega arith in rw (h, ltb_suc q n true h) (ap (λ (k : ℕ). Some k) one)
next_at q n false h = rw (h, ltb_suc q n false h) refl

pub there : (key : Key) (row : Key × Held) (rows : Rows) → same_key key row.0 ≡ false → place key (row ∷ rows) ≡ next (place key rows)
there key row rows e =
    let q = before key rows in
    let n = length (keys_of rows) in
    let more : before key (row ∷ rows) ≡ 1 + q = ap (λ (b : Bool). cond (not b) (1 + q) 0) e in
    ap (λ (k : ℕ). cond (ltb k (suc n)) (Some k) None) more ∙ next_at q n (ltb q n) refl

-- A key stands nowhere, or at one place.
abbrev pub Stands : Key → Rows → Type 0
Stands key rows =
    (let none : Option ℕ = None in (place key rows ≡ none) × HasNone key rows) ⊎ ((at : ℕ) × (row : Key × Held) × StandsAt key rows at row)

step : (key : Key) (row : Key × Held) (rows : Rows) (b : Bool) → same_key key row.0 ≡ b
    → AllByRecursion (λ (other : Key). same_key row.0 other ≡ false) (keys_of rows) → Stands key rows → Stands key (row ∷ rows)
step key row rows true e first h =
    let same : key ≡ row.0 = same_is key row.0 e in
    let others : HasNone key rows = subst (λ (k : Key). HasNone k rows) (sym same) first in
    let is : StandsAt key (row ∷ rows) 0 row = record { found = here key row rows e; got = refl; same = e; others = others } in
    inr (0, row, is)
step key row rows false e first h =
    elim h [
      | inl none ↦ inl (there key row rows e ∙ ap next none.0, (e, none.1))
      | inr some ↦ inr (
        suc some.0,
        some.1,
        record {
          found = there key row rows e ∙ ap next some.2.found;
          got = some.2.got;
          same = some.2.same;
          others = (e, some.2.others);
        },
      )
    ]

pub stands : (key : Key) (rows : Rows) → IsDistinct same_key (keys_of rows) → Stands key rows
unfolding IsDistinct
stands key [] d = inl (refl, tt)
stands key (row ∷ rows) d = step key row rows (same_key key row.0) refl d.0 (stands key rows d.1)

-- ---- the pinned contents of other keys

kept_other : (key : Key) (row : Key × Held) → same_key key row.0 ≡ false → kept_bytes key row ≡ pinned_in row
kept_other key row e = ap (λ (b : Bool). cond b 0 (pinned_in row)) e

pub kept_own : (key : Key) (row : Key × Held) → same_key key row.0 ≡ true → kept_bytes key row ≡ 0
kept_own key row e = ap (λ (b : Bool). cond b 0 (pinned_in row)) e

pub kept_all : (key : Key) (rows : Rows) → HasNone key rows → pinned_bytes key rows ≡ all_pinned rows
kept_all key [] h = refl
kept_all key (row ∷ rows) h = omega (arith, kept_other key row h.0, kept_all key rows h.1)
