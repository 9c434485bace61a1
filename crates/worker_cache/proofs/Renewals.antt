-- A row that takes a content.
use Rattle.std.proofs.Common.{◌≡◌, ℕ, zero, suc, true, List, [], ◌∷◌, ◌++◌, Option, Some, None, is_some, refl, sym, ap, ◌∙◌}
use Rattle.std.specs.Prelude.{slice_get, remove, position}
use Rattle.std.specs.Option.{option_map, option_map_or}
use Rattle.std.specs.Map.{keys_of}
use Rattle.flow_types.specs.declared.messages.Key.{Key}
use Rattle.worker_cache.specs.declared.held.Held.{Held}
use Rattle.worker_cache.specs.Caches.{Rows, same_key, place, newest, made_last, set_value_at, changed_at, row_at, new_row, renewed, without, row_for, placed, held_in, held_of}
use Rattle.worker_cache.specs.Tables.{at_place}

keys_set : (rows : Rows) (at : ℕ) (held : Held) → keys_of (set_value_at rows at held) ≡ keys_of rows
keys_set [] at held = refl
keys_set (row ∷ rows) zero held = refl
keys_set (row ∷ rows) (suc at) held = ap (λ (keys : List Key). row.0 ∷ keys) (keys_set rows at held)

got_set : (rows : Rows) (at : ℕ) (row : Key × Held) (held : Held) → slice_get rows at ≡ Some row → slice_get (set_value_at rows at held) at ≡ Some (row.0, held)
got_set [] at row held e = absurd cc
got_set (r ∷ rows) zero row held e = let same : r ≡ row = cc in ap (λ (q : Key × Held). Some (q.0, held)) same
got_set (r ∷ rows) (suc at) row held e = got_set rows at row held e

removed_set : (rows : Rows) (at : ℕ) (held : Held) → remove (set_value_at rows at held) at ≡ remove rows at
removed_set [] at held = refl
removed_set (row ∷ rows) zero held = refl
removed_set (row ∷ rows) (suc at) held = ap (λ (left : Rows). row ∷ left) (removed_set rows at held)

renewed_last : (key : Key) (rows : Rows) (at : ℕ) (row : Key × Held) (held : Held) → place key rows ≡ Some at → slice_get rows at ≡ Some row
    → newest key (set_value_at rows at held) ≡ remove rows at ++ (row.0, held) ∷ []
renewed_last key rows at row held found got =
    let set = set_value_at rows at held in
    let there : place key set ≡ Some at = ap (λ (keys : List Key). position (same_key key) keys) (keys_set rows at held) ∙ found in
    ap (λ (o : Option ℕ). option_map_or (made_last set) o set) there
    ∙ ap (λ (o : Option (Key × Held)). option_map_or (λ r. remove set at ++ r ∷ []) o set) (got_set rows at row held got)
    ∙ ap (λ (left : Rows). left ++ (row.0, held) ∷ []) (removed_set rows at held)

again_at : (key : Key) (content : List ℕ) (rows : Rows) (at : ℕ) (row : Key × Held) → place key rows ≡ Some at → slice_get rows at ≡ Some row
    → newest key (at_place (changed_at (renewed content)) key rows) ≡ placed key content rows
again_at key content rows at row found got =
    let changed : at_place (changed_at (renewed content)) key rows ≡ set_value_at rows at (renewed content row.1) =
    ap (λ (o : Option ℕ). option_map_or (λ n. changed_at (renewed content) rows n (slice_get rows n)) o rows) found
    ∙ ap (changed_at (renewed content) rows at) got in
    ap (newest key) changed ∙ renewed_last key rows at row (renewed content row.1) found got
    ∙ ap (λ (r : Option (Key × Held)). remove rows at ++ row_for key content r ∷ []) (sym got)
    ∙ ap (λ (f : Option ℕ). without f rows ++ row_for key content (row_at rows f) ∷ []) (sym found)

again_row : (key : Key) (content : List ℕ) (rows : Rows) (at : ℕ) (row : Option (Key × Held)) → place key rows ≡ Some at → slice_get rows at ≡ row
    → is_some (held_in row) ≡ true → newest key (at_place (changed_at (renewed content)) key rows) ≡ placed key content rows
again_row key content rows at None found got some = absurd cc
again_row key content rows at (Some row) found got some = again_at key content rows at row found got

again_by : (key : Key) (content : List ℕ) (rows : Rows) (o : Option ℕ) → place key rows ≡ o → is_some (held_in (row_at rows o)) ≡ true
    → newest key (at_place (changed_at (renewed content)) key rows) ≡ placed key content rows
again_by key content rows None found some = absurd cc
again_by key content rows (Some at) found some = again_row key content rows at (slice_get rows at) found refl some

-- the row of a key that has one
pub placed_again : (key : Key) (content : List ℕ) (rows : Rows) → is_some (held_of key rows) ≡ true
    → newest key (at_place (changed_at (renewed content)) key rows) ≡ placed key content rows
placed_again key content rows some = again_by key content rows (place key rows) refl some

-- the row of a key that has none
pub placed_new : (key : Key) (content : List ℕ) (rows : Rows) → (let none : Option ℕ = None in place key rows ≡ none)
    → rows ++ (key, new_row content) ∷ [] ≡ placed key content rows
placed_new key content rows none = sym (ap (λ (at : Option ℕ). without at rows ++ row_for key content (row_at rows at) ∷ []) none)

-- a key that is found has a row
pub some_held : {A B : Type 0} (f : A → B) (o : Option A) (x : Option B) → is_some o ≡ true → option_map f o ≡ x → is_some x ≡ true
some_held f None x e h = absurd cc
some_held f (Some a) x e h = sym (ap is_some h)
