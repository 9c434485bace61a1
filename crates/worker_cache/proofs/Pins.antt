-- What a pin more or less, and a row that is unlinked, do to the counts.
use Rattle.std.proofs.Common.{◌≡◌, ℕ, zero, suc, ◌+◌, ◌-◌, ◌<◌, Bool, true, false, cond, eqb, leb, ltb, Option, Some, None, refl, ap, arith}
use Rattle.std.specs.Prelude.{slice_get, remove, ◌&&◌}
use Rattle.std.specs.Option.{option_map_or}
use Rattle.std.proofs.lemmas.Bool.{eqb-true, leb-true, lt-ltb, ne_eqb}
use Rattle.flow_types.specs.declared.messages.Key.{Key}
use Rattle.worker_cache.specs.declared.held.Held.{Held}
use Rattle.worker_cache.specs.Caches.{Rows, place, row_at, held_in, held_of, set_value_at, bytes_in, pinned_in, bytes_of, all_pinned, changed_at, with_pin, less_pin, with_mark, released, dropped, most_pins, loose_bytes, freed_bytes, gone_bytes}
use Rattle.worker_cache.specs.Tables.{at_place}
use Rattle.worker_cache.proofs.Weights.{of_removed, of_set}

-- the bytes that count where there are so many pins
abbrev counted : ℕ → ℕ → ℕ
counted bytes pins = cond (ltb 0 pins) bytes 0

positive : (bytes pins : ℕ) → 0 < pins → counted bytes pins ≡ bytes
positive bytes pins h = ap (λ (b : Bool). cond b bytes 0) (lt-ltb 0 pins h)

some_pins : (bytes n : ℕ) (b : Bool) → counted bytes (cond b (suc n + 1) (suc n)) ≡ bytes
some_pins bytes n true = positive bytes (suc n + 1) (omega arith)
some_pins bytes n false = positive bytes (suc n) (omega arith)

loose_pins : (bytes pins : ℕ) → counted bytes (cond (ltb pins most_pins) (pins + 1) pins) ≡ counted bytes pins + cond (eqb pins 0) bytes 0
loose_pins bytes zero = omega arith
loose_pins bytes (suc n) =
    let none : cond (eqb (suc n) 0) bytes 0 ≡ 0 = ap (λ (b : Bool). cond b bytes 0) (ne_eqb (suc n) 0 (λ e. omega (arith, e))) in
    omega (arith, some_pins bytes n (ltb (suc n) most_pins), positive bytes (suc n) (omega arith), none)

freed_pins : (bytes pins : ℕ) → counted bytes (pins - 1) + cond (eqb pins 1) bytes 0 ≡ counted bytes pins
freed_pins bytes zero = refl
freed_pins bytes (suc zero) = omega arith
freed_pins bytes (suc (suc n)) =
    let two = suc (suc n) in
    let none : cond (eqb two 1) bytes 0 ≡ 0 = ap (λ (b : Bool). cond b bytes 0) (ne_eqb two 1 (λ e. omega (arith, e))) in
    omega (arith, positive bytes (two - 1) (omega arith), positive bytes two (omega arith), none)

-- ---- one pin more

pin_bytes : (rows : Rows) (at : ℕ) (row : Option (Key × Held)) → slice_get rows at ≡ row → bytes_of (changed_at with_pin rows at row) ≡ bytes_of rows
pin_bytes rows at None e = refl
pin_bytes rows at (Some row) e = omega (arith, of_set bytes_in rows at row (with_pin row.1) e)

pin_pins : (rows : Rows) (at : ℕ) (row : Option (Key × Held)) → slice_get rows at ≡ row → all_pinned (changed_at with_pin rows at row) ≡ all_pinned rows + loose_bytes (held_in row)
pin_pins rows at None e = omega arith
pin_pins rows at (Some row) e =
    let more : pinned_in (row.0, with_pin row.1) ≡ pinned_in row + loose_bytes (Some row.1) = loose_pins (bytes_in row) row.1.pins in
    omega (arith, of_set pinned_in rows at row (with_pin row.1) e, more)

-- ---- one pin less

release_by : (rows : Rows) (at : ℕ) (row : Key × Held) (leaves : Bool) → slice_get rows at ≡ Some row
    → bytes_of (cond leaves (remove rows at) (set_value_at rows at (less_pin row.1))) + cond leaves (bytes_in row) 0 ≡ bytes_of rows
release_by rows at row true e = of_removed bytes_in rows at row e
release_by rows at row false e = omega (arith, of_set bytes_in rows at row (less_pin row.1) e)

release_bytes : (rows : Rows) (at : ℕ) (row : Option (Key × Held)) → slice_get rows at ≡ row → bytes_of (released rows at row) + gone_bytes (held_in row) ≡ bytes_of rows
release_bytes rows at None e = omega arith
release_bytes rows at (Some row) e = release_by rows at row (row.1.unlinked && leb row.1.pins 1) e

few_pins : (bytes pins : ℕ) → leb pins 1 ≡ true → counted bytes pins ≡ cond (eqb pins 1) bytes 0
few_pins bytes zero e = refl
few_pins bytes (suc zero) e = refl
few_pins bytes (suc (suc n)) e = absurd (omega (arith, leb-true (suc (suc n)) 1 e))

release_by_pins : (rows : Rows) (at : ℕ) (row : Key × Held) (unlinked few : Bool) → leb row.1.pins 1 ≡ few → slice_get rows at ≡ Some row
    → all_pinned (cond (unlinked && few) (remove rows at) (set_value_at rows at (less_pin row.1))) + freed_bytes (Some row.1) ≡ all_pinned rows
release_by_pins rows at row true true t e = omega (arith, of_removed pinned_in rows at row e, few_pins (bytes_in row) row.1.pins t)
release_by_pins rows at row true false t e = omega (arith, of_set pinned_in rows at row (less_pin row.1) e, freed_pins (bytes_in row) row.1.pins)
release_by_pins rows at row false few t e = omega (arith, of_set pinned_in rows at row (less_pin row.1) e, freed_pins (bytes_in row) row.1.pins)

release_pins : (rows : Rows) (at : ℕ) (row : Option (Key × Held)) → slice_get rows at ≡ row → all_pinned (released rows at row) + freed_bytes (held_in row) ≡ all_pinned rows
release_pins rows at None e = omega arith
release_pins rows at (Some row) e = release_by_pins rows at row row.1.unlinked (leb row.1.pins 1) refl e

-- ---- a row that is unlinked

leave_by : (rows : Rows) (at : ℕ) (row : Key × Held) (none : Bool) → slice_get rows at ≡ Some row
    → bytes_of (cond none (remove rows at) (set_value_at rows at (with_mark row.1))) + cond none (bytes_in row) 0 ≡ bytes_of rows
leave_by rows at row true e = of_removed bytes_in rows at row e
leave_by rows at row false e = omega (arith, of_set bytes_in rows at row (with_mark row.1) e)

leave_bytes : (rows : Rows) (at : ℕ) (row : Option (Key × Held)) → slice_get rows at ≡ row → bytes_of (dropped rows at row) + loose_bytes (held_in row) ≡ bytes_of rows
leave_bytes rows at None e = omega arith
leave_bytes rows at (Some row) e = leave_by rows at row (eqb row.1.pins 0) e

none_pins : (bytes pins : ℕ) → eqb pins 0 ≡ true → counted bytes pins ≡ 0
none_pins bytes zero e = refl
none_pins bytes (suc n) e = absurd (omega (arith, eqb-true (suc n) 0 e))

leave_by_pins : (rows : Rows) (at : ℕ) (row : Key × Held) (none : Bool) → eqb row.1.pins 0 ≡ none → slice_get rows at ≡ Some row
    → all_pinned (cond none (remove rows at) (set_value_at rows at (with_mark row.1))) ≡ all_pinned rows
leave_by_pins rows at row true t e = omega (arith, of_removed pinned_in rows at row e, none_pins (bytes_in row) row.1.pins t)
leave_by_pins rows at row false t e = omega (arith, of_set pinned_in rows at row (with_mark row.1) e)

leave_pins : (rows : Rows) (at : ℕ) (row : Option (Key × Held)) → slice_get rows at ≡ row → all_pinned (dropped rows at row) ≡ all_pinned rows
leave_pins rows at None e = refl
leave_pins rows at (Some row) e = leave_by_pins rows at row (eqb row.1.pins 0) refl e

-- ---- the same by key

placed_pin_bytes : (rows : Rows) (o : Option ℕ) → bytes_of (option_map_or (λ at. changed_at with_pin rows at (slice_get rows at)) o rows) ≡ bytes_of rows
placed_pin_bytes rows None = refl
placed_pin_bytes rows (Some at) = pin_bytes rows at (slice_get rows at) refl

pub pins_bytes : (key : Key) (rows : Rows) → bytes_of (at_place (changed_at with_pin) key rows) ≡ bytes_of rows
pins_bytes key rows = placed_pin_bytes rows (place key rows)

placed_pin_pins : (rows : Rows) (o : Option ℕ) → all_pinned (option_map_or (λ at. changed_at with_pin rows at (slice_get rows at)) o rows) ≡ all_pinned rows + loose_bytes (held_in (row_at rows o))
placed_pin_pins rows None = omega arith
placed_pin_pins rows (Some at) = pin_pins rows at (slice_get rows at) refl

pub pins_pins : (key : Key) (rows : Rows) → all_pinned (at_place (changed_at with_pin) key rows) ≡ all_pinned rows + loose_bytes (held_of key rows)
pins_pins key rows = placed_pin_pins rows (place key rows)

placed_release_bytes : (rows : Rows) (o : Option ℕ) → bytes_of (option_map_or (λ at. released rows at (slice_get rows at)) o rows) + gone_bytes (held_in (row_at rows o)) ≡ bytes_of rows
placed_release_bytes rows None = omega arith
placed_release_bytes rows (Some at) = release_bytes rows at (slice_get rows at) refl

pub releases_bytes : (key : Key) (rows : Rows) → bytes_of (at_place released key rows) + gone_bytes (held_of key rows) ≡ bytes_of rows
releases_bytes key rows = placed_release_bytes rows (place key rows)

placed_release_pins : (rows : Rows) (o : Option ℕ) → all_pinned (option_map_or (λ at. released rows at (slice_get rows at)) o rows) + freed_bytes (held_in (row_at rows o)) ≡ all_pinned rows
placed_release_pins rows None = omega arith
placed_release_pins rows (Some at) = release_pins rows at (slice_get rows at) refl

pub releases_pins : (key : Key) (rows : Rows) → all_pinned (at_place released key rows) + freed_bytes (held_of key rows) ≡ all_pinned rows
releases_pins key rows = placed_release_pins rows (place key rows)

placed_leave_bytes : (rows : Rows) (o : Option ℕ) → bytes_of (option_map_or (λ at. dropped rows at (slice_get rows at)) o rows) + loose_bytes (held_in (row_at rows o)) ≡ bytes_of rows
placed_leave_bytes rows None = omega arith
placed_leave_bytes rows (Some at) = leave_bytes rows at (slice_get rows at) refl

pub leaves_bytes : (key : Key) (rows : Rows) → bytes_of (at_place dropped key rows) + loose_bytes (held_of key rows) ≡ bytes_of rows
leaves_bytes key rows = placed_leave_bytes rows (place key rows)

placed_leave_pins : (rows : Rows) (o : Option ℕ) → all_pinned (option_map_or (λ at. dropped rows at (slice_get rows at)) o rows) ≡ all_pinned rows
placed_leave_pins rows None = refl
placed_leave_pins rows (Some at) = leave_pins rows at (slice_get rows at) refl

pub leaves_pins : (key : Key) (rows : Rows) → all_pinned (at_place dropped key rows) ≡ all_pinned rows
leaves_pins key rows = placed_leave_pins rows (place key rows)
