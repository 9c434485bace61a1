-- What room for a content does to the bytes of all contents and of the pinned ones.
use Rattle.std.proofs.Common.{◌≡◌, ℕ, ◌+◌, ◌-◌, ◌≤◌, Bool, true, false, cond, eqb, [], ◌∷◌, ◌++◌, ◌⊎◌, inl, inr, refl, ap, arith}
use Rattle.std.proofs.lemmas.Bool.{eqb-true}
use Rattle.flow_types.specs.declared.messages.Key.{Key}
use Rattle.worker_cache.specs.declared.held.Held.{Held}
use Rattle.worker_cache.specs.Caches.{Rows, is_pinned, bytes_in, pinned_in, bytes_of, all_pinned, make_room}

in_le : (b : Bool) (n : ℕ) → cond b n 0 ≤ n
in_le true n = omega arith
in_le false n = omega arith

pub pinned_le : (rows : Rows) → all_pinned rows ≤ bytes_of rows
pinned_le [] = omega arith
pinned_le (row ∷ rows) = omega (arith, in_le (is_pinned row) (bytes_in row), pinned_le rows)

-- a row by its test
in_pinned : (row : Key × Held) → is_pinned row ≡ true → pinned_in row ≡ bytes_in row
in_pinned row p = ap (λ (b : Bool). cond b (bytes_in row) 0) p

in_loose : (row : Key × Held) → is_pinned row ≡ false → pinned_in row ≡ 0
in_loose row p = ap (λ (b : Bool). cond b (bytes_in row) 0) p

-- the rows after room was made, by the tests of the first row
abbrev pub room_by : Bool → Bool → ℕ → Key × Held → Rows → Rows
room_by none pinned excess row rows =
    cond none (row ∷ rows) (cond pinned (row ∷ make_room excess rows) (make_room (excess - bytes_in row) rows))

step_pins : (excess : ℕ) (row : Key × Held) (rows : Rows) (none pinned : Bool) → is_pinned row ≡ pinned
    → all_pinned (make_room excess rows) ≡ all_pinned rows → all_pinned (make_room (excess - bytes_in row) rows) ≡ all_pinned rows
    → all_pinned (room_by none pinned excess row rows) ≡ pinned_in row + all_pinned rows
step_pins excess row rows true pinned p h k = refl
step_pins excess row rows false true p h k = ap (λ (n : ℕ). pinned_in row + n) h
step_pins excess row rows false false p h k = omega (arith, k, in_loose row p)

-- No pinned row leaves.
pub room_pins : (excess : ℕ) (rows : Rows) → all_pinned (make_room excess rows) ≡ all_pinned rows
room_pins excess [] = refl
room_pins excess (row ∷ rows) =
    step_pins excess row rows (eqb excess 0) (is_pinned row) refl (room_pins excess rows) (room_pins (excess - bytes_in row) rows)

-- So many bytes are gone, or only pinned ones are left.
abbrev IsRoom : ℕ → Rows → Rows → Type 0
IsRoom excess rows made = (bytes_of made + excess ≤ bytes_of rows) ⊎ (bytes_of made ≤ all_pinned rows)

step_room : (excess : ℕ) (row : Key × Held) (rows : Rows) (none pinned : Bool) → eqb excess 0 ≡ none → is_pinned row ≡ pinned
    → IsRoom excess rows (make_room excess rows) → IsRoom (excess - bytes_in row) rows (make_room (excess - bytes_in row) rows)
    → IsRoom excess (row ∷ rows) (room_by none pinned excess row rows)
step_room excess row rows true pinned e p h k = inl (omega (arith, eqb-true excess 0 e))
step_room excess row rows false true e p h k =
    elim h [
      | inl gone ↦ inl (omega (arith, gone))
      | inr left ↦ inr (omega (arith, left, in_pinned row p))
    ]
step_room excess row rows false false e p h k =
    elim k [
      | inl gone ↦ inl (omega (arith, gone))
      | inr left ↦ inr (omega (arith, left))
    ]

room_is : (excess : ℕ) (rows : Rows) → IsRoom excess rows (make_room excess rows)
room_is excess [] = inr (omega arith)
room_is excess (row ∷ rows) =
    step_room excess row rows (eqb excess 0) (is_pinned row) refl refl (room_is excess rows) (room_is (excess - bytes_in row) rows)

-- What is left fits the limit, where the pinned ones fit it.
pub room_fits : (cap : ℕ) (rows : Rows) → all_pinned rows ≤ cap → bytes_of (make_room (bytes_of rows - cap) rows) ≤ cap
room_fits cap rows fits =
    elim (room_is (bytes_of rows - cap) rows) [
      | inl gone ↦ omega (arith, gone)
      | inr left ↦ omega (arith, left, fits)
    ]

-- The last row stays where the others make room enough.
abbrev Stays : ℕ → Rows → Key × Held → Type 0
Stays excess rows last = excess + all_pinned rows ≤ bytes_of rows → make_room excess (rows ++ last ∷ []) ≡ make_room excess rows ++ last ∷ []

step_last : (excess : ℕ) (row last : Key × Held) (rows : Rows) (none pinned : Bool) → is_pinned row ≡ pinned
    → Stays excess rows last → Stays (excess - bytes_in row) rows last → excess + all_pinned (row ∷ rows) ≤ bytes_of (row ∷ rows)
    → room_by none pinned excess row (rows ++ last ∷ []) ≡ room_by none pinned excess row rows ++ last ∷ []
step_last excess row last rows true pinned p h k few = refl
step_last excess row last rows false true p h k few = ap (λ (made : Rows). row ∷ made) (h (omega (arith, few, in_pinned row p)))
step_last excess row last rows false false p h k few = k (omega (arith, few, in_loose row p, pinned_le rows))

none_stays : (excess : ℕ) (last : Key × Held) → excess ≡ 0 → make_room excess (last ∷ []) ≡ last ∷ []
none_stays excess last e = ap (λ (n : ℕ). make_room n (last ∷ [])) e

pub last_stays : (excess : ℕ) (rows : Rows) (last : Key × Held) → Stays excess rows last
last_stays excess [] last few = none_stays excess last (omega (arith, few))
last_stays excess (row ∷ rows) last few =
    step_last excess row last rows (eqb excess 0) (is_pinned row) refl (last_stays excess rows last) (last_stays (excess - bytes_in row) rows last) few
