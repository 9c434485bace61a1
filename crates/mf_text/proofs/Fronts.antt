-- The last place up to another at which a text may be cut.
use Rattle.std.proofs.Common.{◌≡◌, ℕ, zero, suc, ◌<◌, ◌≤◌, inl, inr, cond, true, false, List, length, slice_index, refl, sym, ap, subst, ◌∙◌, arith}
use Rattle.std.proofs.lemmas.Bool.{cases_lt, lt-ltb, le-ltb, le-leb, lt-leb}
use Rattle.std.specs.Str.{IsCharBoundary}
use Rattle.std.specs.Fmt.{is_char_start}
use Rattle.std.specs.Fmt.Cut.{floor_char_boundary}

-- the method's clauses of its result
abbrev pub IsLastBoundary : List ℕ → ℕ → ℕ → Type 0
IsLastBoundary text i kept = (kept ≤ i) × IsCharBoundary text kept × ((j : ℕ) → kept < j → j ≤ i → IsCharBoundary text j → ⊥)

starts : (b : ℕ) → (128 ≤ b → 192 ≤ b) → is_char_start b ≡ true
starts b h =
    elim (cases_lt b 128) [
      | inl low ↦ rw (lt-ltb b 128 low) refl
      | inr high ↦ rw (le-ltb b 128 high, le-leb 192 b (h high)) refl
    ]

continues : (b : ℕ) → ((128 ≤ b → 192 ≤ b) → ⊥) → is_char_start b ≡ false
continues b h =
    elim (cases_lt b 128) [
      | inl low ↦ absurd (h (λ high. omega (arith, low, high)))
      | inr high ↦ elim (cases_lt b 192) [
        | inl mid ↦ rw (le-ltb b 128 high, lt-leb 192 b mid) refl
        | inr top ↦ absurd (h (λ _. top))
      ]
    ]

-- the clauses fix the result
pub last_boundary : (text : List ℕ) (i kept : ℕ) → i < length text → IsLastBoundary text i kept → floor_char_boundary text i ≡ kept
unfolding floor_char_boundary
last_boundary text zero kept within last = omega (arith, last.0)
last_boundary text (suc i) kept within last =
    elim (cases_lt kept (suc i)) [
      | inl below ↦
          ap (λ t. cond t (suc i) (floor_char_boundary text i)) (continues (slice_index text (suc i)) (λ h. last.2 (suc i) below (omega arith) (omega (arith, within), λ _. h)))
          ∙ last_boundary text i kept (omega (arith, within)) (omega (arith, below), last.1, λ j p q. last.2 j p (omega (arith, q)))
      | inr above ↦
          let same : kept ≡ suc i = omega (arith, last.0, above) in
          ap (λ t. cond t (suc i) (floor_char_boundary text i)) (starts (slice_index text (suc i)) ((subst (IsCharBoundary text) same last.1).1 within)) ∙ sym same
    ]
