-- A table's words by key, as places in its rows.
use Rattle.std.proofs.Common.{◌≡◌, ℕ, zero, suc, ◌+◌, ◌-◌, ◌<◌, ◌≤◌, Bool, true, false, cond, [], ◌∷◌, ◌++◌, length, Option, Some, None, refl, sym, ap, ◌∙◌, arith}
use Rattle.std.specs.Prelude.{slice_get, insert, remove}
use Rattle.std.specs.Option.{option_map_or}
use Rattle.std.specs.Map.{lookup, remove_entry, set_value}
use Rattle.indexmap.specs.IndexMap.{move_index}
use Rattle.std.proofs.lemmas.Bool.{lt-ltb, le-ltb}
use Rattle.flow_types.specs.declared.messages.Key.{Key}
use Rattle.worker_cache.specs.declared.held.Held.{Held}
use Rattle.worker_cache.specs.Caches.{Rows, same_key, place, row_at, held_in, without, made_last, newest, set_value_at, changed_at, with_pin, most_pins}
use Rattle.worker_cache.specs.Tables.{at_place}
use Rattle.worker_cache.proofs.Places.{here, there, next}

-- ---- the row of a key

-- the row of a key
abbrev pub row_of : Key → Rows → Option (Key × Held)
row_of key rows = row_at rows (place key rows)

row_next : (row : Key × Held) (rows : Rows) (o : Option ℕ) → row_at (row ∷ rows) (next o) ≡ row_at rows o
row_next row rows None = refl
row_next row rows (Some at) = refl

pub row_here : (key : Key) (row : Key × Held) (rows : Rows) → same_key key row.0 ≡ true → row_of key (row ∷ rows) ≡ Some row
row_here key row rows e = ap (row_at (row ∷ rows)) (here key row rows e)

pub row_there : (key : Key) (row : Key × Held) (rows : Rows) → same_key key row.0 ≡ false → row_of key (row ∷ rows) ≡ row_of key rows
row_there key row rows e = ap (row_at (row ∷ rows)) (there key row rows e) ∙ row_next row rows (place key rows)

held_by : (key : Key) (row : Key × Held) (rows : Rows) (b : Bool) → same_key key row.0 ≡ b → lookup (same_key key) rows ≡ held_in (row_of key rows)
    → cond b (Some row.1) (lookup (same_key key) rows) ≡ held_in (row_of key (row ∷ rows))
held_by key row rows true e h = sym (ap held_in (row_here key row rows e))
held_by key row rows false e h = h ∙ sym (ap held_in (row_there key row rows e))

pub held_is : (key : Key) (rows : Rows) → lookup (same_key key) rows ≡ held_in (row_of key rows)
held_is key [] = refl
held_is key (row ∷ rows) = held_by key row rows (same_key key row.0) refl (held_is key rows)

-- ---- a row that leaves, or is made the newest

pub without_next : (row : Key × Held) (rows : Rows) (o : Option ℕ) → without (next o) (row ∷ rows) ≡ row ∷ without o rows
without_next row rows None = refl
without_next row rows (Some at) = refl

removed_by : (key : Key) (row : Key × Held) (rows : Rows) (b : Bool) → same_key key row.0 ≡ b → remove_entry (same_key key) rows ≡ without (place key rows) rows
    → cond b rows (row ∷ remove_entry (same_key key) rows) ≡ without (place key (row ∷ rows)) (row ∷ rows)
removed_by key row rows true e h = sym (ap (λ (o : Option ℕ). without o (row ∷ rows)) (here key row rows e))
removed_by key row rows false e h =
    ap (λ (left : Rows). row ∷ left) h ∙ sym (without_next row rows (place key rows))
    ∙ sym (ap (λ (o : Option ℕ). without o (row ∷ rows)) (there key row rows e))

pub removed_is : (key : Key) (rows : Rows) → remove_entry (same_key key) rows ≡ without (place key rows) rows
removed_is key [] = refl
removed_is key (row ∷ rows) = removed_by key row rows (same_key key row.0) refl (removed_is key rows)

-- a row goes behind the others
inserted_last : (xs : Rows) (x : Key × Held) → insert xs (length xs) x ≡ xs ++ x ∷ []
inserted_last [] x = refl
inserted_last (y ∷ ys) x = ap (λ (zs : Rows). y ∷ zs) (inserted_last ys x)

removed_len : (xs : Rows) (at : ℕ) (x : Key × Held) → slice_get xs at ≡ Some x → length (remove xs at) ≡ length xs - 1
removed_len [] at x e = absurd cc
removed_len (y ∷ ys) zero x e = omega arith
removed_len (y ∷ []) (suc at) x e = absurd cc
removed_len (y ∷ z ∷ ys) (suc at) x e = omega (arith, removed_len (z ∷ ys) at x e)

moved_at : (rows : Rows) (at last : ℕ) (found : Option (Key × Held)) → slice_get rows at ≡ found → last ≡ length rows - 1
    → option_map_or (λ x. insert (remove rows at) last x) found rows ≡ option_map_or (λ x. remove rows at ++ x ∷ []) found rows
moved_at rows at last None e n = refl
moved_at rows at last (Some x) e n =
    ap (λ (k : ℕ). insert (remove rows at) k x) (n ∙ sym (removed_len rows at x e)) ∙ inserted_last (remove rows at) x

-- the row at a place, moved to the last one
pub moved_is : (key : Key) (rows : Rows) (at last : ℕ) → place key rows ≡ Some at → last ≡ length rows - 1 → move_index rows at last ≡ newest key rows
moved_is key rows at last found n =
    moved_at rows at last (slice_get rows at) refl n ∙ sym (ap (λ (o : Option ℕ). option_map_or (made_last rows) o rows) found)

-- ---- a row with another value

abbrev set_at : Rows → Option ℕ → Held → Rows
set_at rows o held = option_map_or (λ at. set_value_at rows at held) o rows

set_next : (row : Key × Held) (rows : Rows) (o : Option ℕ) (held : Held) → set_at (row ∷ rows) (next o) held ≡ row ∷ set_at rows o held
set_next row rows None held = refl
set_next row rows (Some at) held = refl

set_by : (key : Key) (row : Key × Held) (rows : Rows) (held : Held) (b : Bool) → same_key key row.0 ≡ b → set_value (same_key key) rows held ≡ set_at rows (place key rows) held
    → cond b ((row.0, held) ∷ rows) (row ∷ set_value (same_key key) rows held) ≡ set_at (row ∷ rows) (place key (row ∷ rows)) held
set_by key row rows held true e h = sym (ap (λ (o : Option ℕ). set_at (row ∷ rows) o held) (here key row rows e))
set_by key row rows held false e h =
    ap (λ (left : Rows). row ∷ left) h ∙ sym (set_next row rows (place key rows) held)
    ∙ sym (ap (λ (o : Option ℕ). set_at (row ∷ rows) o held) (there key row rows e))

set_is : (key : Key) (rows : Rows) (held : Held) → set_value (same_key key) rows held ≡ set_at rows (place key rows) held
set_is key [] held = refl
set_is key (row ∷ rows) held = set_by key row rows held (same_key key row.0) refl (set_is key rows held)

changed_row : (change : Held → Held) (rows : Rows) (at : ℕ) (row : Option (Key × Held)) (held : Held) → slice_get rows at ≡ row → held_in row ≡ Some held
    → set_value_at rows at (change held) ≡ changed_at change rows at row
changed_row change rows at None held e h = absurd cc
changed_row change rows at (Some row) held e h =
    let same : row.1 ≡ held = cc in
    ap (λ (v : Held). set_value_at rows at (change v)) (sym same)

changed_by : (change : Held → Held) (rows : Rows) (o : Option ℕ) (held : Held) → held_in (row_at rows o) ≡ Some held
    → set_at rows o (change held) ≡ option_map_or (λ at. changed_at change rows at (slice_get rows at)) o rows
changed_by change rows None held h = absurd cc
changed_by change rows (Some at) held h = changed_row change rows at (slice_get rows at) held refl h

-- where there is a row
pub changed_is : (change : Held → Held) (key : Key) (rows : Rows) (held : Held) → lookup (same_key key) rows ≡ Some held
    → set_value (same_key key) rows (change held) ≡ at_place (changed_at change) key rows
changed_is change key rows held h =
    set_is key rows (change held) ∙ changed_by change rows (place key rows) held (sym (held_is key rows) ∙ h)

same_row : (change : Held → Held) (rows : Rows) (at : ℕ) (row : Option (Key × Held)) → (let none : Option Held = None in held_in row ≡ none) → rows ≡ changed_at change rows at row
same_row change rows at None h = refl
same_row change rows at (Some row) h = absurd cc

same_by : (change : Held → Held) (rows : Rows) (o : Option ℕ) → (let none : Option Held = None in held_in (row_at rows o) ≡ none)
    → rows ≡ option_map_or (λ at. changed_at change rows at (slice_get rows at)) o rows
same_by change rows None h = refl
same_by change rows (Some at) h = same_row change rows at (slice_get rows at) h

-- where there is none
pub unchanged_is : (change : Held → Held) (key : Key) (rows : Rows) → (let none : Option Held = None in lookup (same_key key) rows ≡ none)
    → rows ≡ at_place (changed_at change) key rows
unchanged_is change key rows h = same_by change rows (place key rows) (sym (held_is key rows) ∙ h)

-- ---- what a table does

pub changed_to : (change : Held → Held) (key : Key) (rows now made : Rows) (held new : Held) → made ≡ set_value (same_key key) rows new → Some held ≡ lookup (same_key key) rows → new ≡ change held → rows ≡ now
    → made ≡ at_place (changed_at change) key now
changed_to change key rows now made held new is h e view =
    is ∙ ap (λ (v : Held). set_value (same_key key) rows v) e ∙ changed_is change key rows held (sym h)
    ∙ ap (at_place (changed_at change) key) view

pub same_to : (change : Held → Held) (key : Key) (rows now made : Rows) → made ≡ rows → (let none : Option Held = None in none ≡ lookup (same_key key) rows) → rows ≡ now
    → made ≡ at_place (changed_at change) key now
same_to change key rows now made is none view = is ∙ unchanged_is change key rows (sym none) ∙ ap (at_place (changed_at change) key) view

abbrev of_pins : Held → ℕ → Held
of_pins held pins = record { content = held.content; pins = pins; unlinked = held.unlinked }

pub more_pins : (held : Held) → held.pins < most_pins → of_pins held (held.pins + 1) ≡ with_pin held
more_pins held h = sym (ap (λ (b : Bool). of_pins held (cond b (held.pins + 1) held.pins)) (lt-ltb held.pins most_pins h))

pub as_many_pins : (held : Held) → most_pins ≤ held.pins → held ≡ with_pin held
as_many_pins held h = sym (ap (λ (b : Bool). of_pins held (cond b (held.pins + 1) held.pins)) (le-ltb held.pins most_pins h))

-- a key that has no row has no value
pub none_held : (key : Key) (rows : Rows) → (let none : Option ℕ = None in place key rows ≡ none) → (let none : Option Held = None in lookup (same_key key) rows ≡ none)
none_held key rows none = held_is key rows ∙ ap (λ (o : Option ℕ). held_in (row_at rows o)) none
