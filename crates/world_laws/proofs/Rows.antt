-- Each step of a cache keeps a fact of every key and its content.
use Rattle.std.proofs.Common.{◌≡◌, ℕ, zero, suc, ◌-◌, Bool, true, false, cond, List, [], ◌∷◌, ◌++◌, length, take, drop, get_or, ◌<◌, arith, Option, Some, None, refl, sym, ap, ◌∙◌, subst}
use Rattle.std.specs.Prelude.{slice_get, remove, nat_le, ◌==◌, ◌&&◌}
use Rattle.std.specs.Map.{keys_of}
use Rattle.std.specs.Option.{option_map_or}
use Rattle.std.proofs.lemmas.List.Quantifiers.{position-Some}
use Rattle.std.proofs.lemmas.Map.Entries.{length-keys_of}
use Rattle.std.proofs.lemmas.Option.{slice_get-get_or}
use Rattle.flow_types.specs.declared.messages.Key.{Key}
use Rattle.worker_cache.specs.declared.held.Held.{Held}
use Rattle.worker_cache.specs.Caches.{Rows, same_key, place, held_place, row_at, made_last, touched, with_pin, set_value_at, changed_at, pinned, less_pin, released, unpinned, with_mark, dropped, unlinked, new_row, without, row_for, placed, is_pinned, make_room, put_in, bytes_of}
use Rattle.worker_cache.proofs.Places.{same_is}
use Rattle.worker_core.specs.Workers.{key_of, pinned_all, unpinned_all, touched_all}
use Rattle.flow_types.specs.declared.numbers.FileNo.{FileNo}
use Rattle.flow_types.specs.declared.plan.Port.{Port}
use Rattle.world_laws.proofs.Invariant.{AllRows}

all_append : (P : Key → List ℕ → Type 0) (xs ys : Rows) → AllRows P xs → AllRows P ys → AllRows P (xs ++ ys)
all_append P [] ys left right = right
all_append P (x ∷ xs) ys left right = (left.0, all_append P xs ys left.1 right)

all_take : (P : Key → List ℕ → Type 0) (n : ℕ) (xs : Rows) → AllRows P xs → AllRows P (take n xs)
all_take P zero xs all = tt
all_take P (suc n) [] all = tt
all_take P (suc n) (x ∷ xs) all = (all.0, all_take P n xs all.1)

all_drop : (P : Key → List ℕ → Type 0) (n : ℕ) (xs : Rows) → AllRows P xs → AllRows P (drop n xs)
all_drop P zero xs all = all
all_drop P (suc n) [] all = tt
all_drop P (suc n) (x ∷ xs) all = all_drop P n xs all.1

pub all_got : (P : Key → List ℕ → Type 0) (xs : Rows) (n : ℕ) (row : Key × Held) → slice_get xs n ≡ Some row → AllRows P xs → P row.0 row.1.content
all_got P [] n row is all = absurd (let none : ⊥ = cc in none)
all_got P (x ∷ xs) zero row is all = subst (λ (r : Key × Held). P r.0 r.1.content) (let same : x ≡ row = cc in same) all.0
all_got P (x ∷ xs) (suc n) row is all = all_got P xs n row is all.1

all_remove : (P : Key → List ℕ → Type 0) (xs : Rows) (n : ℕ) → AllRows P xs → AllRows P (remove xs n)
all_remove P xs n all = all_append P (take n xs) (drop (suc n) xs) (all_take P n xs all) (all_drop P (suc n) xs all)

made_by : (P : Key → List ℕ → Type 0) (xs : Rows) (at : ℕ) (found : Option (Key × Held)) → slice_get xs at ≡ found → AllRows P xs → AllRows P (option_map_or (λ row. remove xs at ++ row ∷ []) found xs)
made_by P xs at None is all = all
made_by P xs at (Some row) is all = all_append P (remove xs at) (row ∷ []) (all_remove P xs at all) (all_got P xs at row is all, tt)

all_made : (P : Key → List ℕ → Type 0) (xs : Rows) (at : ℕ) → AllRows P xs → AllRows P (made_last xs at)
all_made P xs at all = made_by P xs at (slice_get xs at) refl all

-- a row's value changed, and its content not
all_set : (P : Key → List ℕ → Type 0) (xs : Rows) (n : ℕ) (row : Key × Held) (value : Held) → slice_get xs n ≡ Some row → P row.0 value.content → AllRows P xs
    → AllRows P (set_value_at xs n value)
all_set P [] n row value is here all = tt
all_set P (x ∷ xs) zero row value is here all = (subst (λ (r : Key × Held). P r.0 value.content) (let same : row ≡ x = cc in same) here, all.1)
all_set P (x ∷ xs) (suc n) row value is here all = (all.0, all_set P xs n row value is here all.1)

all_changed : (P : Key → List ℕ → Type 0) (change : Held → Held) (xs : Rows) (n : ℕ) (found : Option (Key × Held)) → slice_get xs n ≡ found
    → ((row : Key × Held) → found ≡ Some row → P row.0 (change row.1).content) → AllRows P xs → AllRows P (changed_at change xs n found)
all_changed P change xs n None is here all = all
all_changed P change xs n (Some row) is here all = all_set P xs n row (change row.1) is (here row refl) all

at_place : (P : Key → List ℕ → Type 0) (step : ℕ → Rows) (found : Option ℕ) (xs : Rows) → ((n : ℕ) → AllRows P (step n)) → AllRows P xs
    → AllRows P (option_map_or step found xs)
at_place P step None xs each all = all
at_place P step (Some n) xs each all = each n

pub all_touched : (P : Key → List ℕ → Type 0) (key : Key) (xs : Rows) → AllRows P xs → AllRows P (touched key xs)
all_touched P key xs all = at_place P (made_last xs) (held_place key xs) xs (λ n. all_made P xs n all) all

pub all_pinned : (P : Key → List ℕ → Type 0) (key : Key) (xs : Rows) → AllRows P xs → AllRows P (pinned key xs)
all_pinned P key xs all =
    at_place P (λ n. changed_at with_pin xs n (slice_get xs n)) (held_place key xs) xs
    (λ n. all_changed P with_pin xs n (slice_get xs n) refl (λ row is. all_got P xs n row is all) all) all

released_by : (P : Key → List ℕ → Type 0) (xs : Rows) (n : ℕ) (row : Key × Held) (leaves : Bool) → slice_get xs n ≡ Some row → AllRows P xs
    → AllRows P (cond leaves (remove xs n) (set_value_at xs n (less_pin row.1)))
released_by P xs n row true is all = all_remove P xs n all
released_by P xs n row false is all = all_set P xs n row (less_pin row.1) is (all_got P xs n row is all) all

all_released : (P : Key → List ℕ → Type 0) (xs : Rows) (n : ℕ) (found : Option (Key × Held)) → slice_get xs n ≡ found → AllRows P xs → AllRows P (released xs n found)
all_released P xs n None is all = all
all_released P xs n (Some row) is all = released_by P xs n row (row.1.unlinked && nat_le row.1.pins 1) is all

pub all_unpinned : (P : Key → List ℕ → Type 0) (key : Key) (xs : Rows) → AllRows P xs → AllRows P (unpinned key xs)
all_unpinned P key xs all = at_place P (λ n. released xs n (slice_get xs n)) (place key xs) xs (λ n. all_released P xs n (slice_get xs n) refl all) all

dropped_by : (P : Key → List ℕ → Type 0) (xs : Rows) (n : ℕ) (row : Key × Held) (leaves : Bool) → slice_get xs n ≡ Some row → AllRows P xs
    → AllRows P (cond leaves (remove xs n) (set_value_at xs n (with_mark row.1)))
dropped_by P xs n row true is all = all_remove P xs n all
dropped_by P xs n row false is all = all_set P xs n row (with_mark row.1) is (all_got P xs n row is all) all

all_dropped : (P : Key → List ℕ → Type 0) (xs : Rows) (n : ℕ) (found : Option (Key × Held)) → slice_get xs n ≡ found → AllRows P xs → AllRows P (dropped xs n found)
all_dropped P xs n None is all = all
all_dropped P xs n (Some row) is all = dropped_by P xs n row (row.1.pins == 0) is all

pub all_unlinked : (P : Key → List ℕ → Type 0) (key : Key) (xs : Rows) → AllRows P xs → AllRows P (unlinked key xs)
all_unlinked P key xs all = at_place P (λ n. dropped xs n (slice_get xs n)) (held_place key xs) xs (λ n. all_dropped P xs n (slice_get xs n) refl all) all

room_by : (P : Key → List ℕ → Type 0) (excess : ℕ) (row : Key × Held) (rows : Rows) (fits stays : Bool) → AllRows P (row ∷ rows) → ((n : ℕ) → AllRows P (make_room n rows))
    → AllRows P (cond fits (row ∷ rows) (cond stays (row ∷ make_room excess rows) (make_room (excess - length row.1.content) rows)))
room_by P excess row rows true stays all rest = all
room_by P excess row rows false true all rest = (all.0, rest excess)
room_by P excess row rows false false all rest = rest (excess - length row.1.content)

all_room : (P : Key → List ℕ → Type 0) (excess : ℕ) (rows : Rows) → AllRows P rows → AllRows P (make_room excess rows)
all_room P excess [] all = tt
all_room P excess (row ∷ rows) all = room_by P excess row rows (excess == 0) (is_pinned row) all (λ n. all_room P n rows all.1)

key_there : (rows : Rows) (i : ℕ) (d : Key × Held) → i < length rows → get_or (keys_of rows) i d.0 ≡ (get_or rows i d).0
key_there [] i d lt = absurd (omega arith)
key_there (r ∷ rs) zero d lt = refl
key_there (r ∷ rs) (suc i) d lt = key_there rs i d (omega arith)

-- the row at a key's place is of this key
pub place_held : (key : Key) (rows : Rows) (i : ℕ) → place key rows ≡ Some i → (row : Key × Held) × (slice_get rows i ≡ Some row) × (key ≡ row.0)
place_held key rows i is =
    let d : Key × Held = (key, new_row []) in
    let found = position-Some (same_key key) (keys_of rows) i key is in
    let lt : i < length rows = omega (arith, length-keys_of rows, found.0) in
    (get_or rows i d, slice_get-get_or rows i d lt, same_is key (get_or rows i d).0 (ap (same_key key) (sym (key_there rows i d lt)) ∙ found.1))

all_without : (P : Key → List ℕ → Type 0) (found : Option ℕ) (rows : Rows) → AllRows P rows → AllRows P (without found rows)
all_without P None rows all = all
all_without P (Some at) rows all = all_remove P rows at all

row_fact : (P : Key → List ℕ → Type 0) (key : Key) (content : List ℕ) (rows : Rows) (found : Option ℕ) → place key rows ≡ found → P key content
    → P (row_for key content (row_at rows found)).0 (row_for key content (row_at rows found)).1.content
row_fact P key content rows None is here = here
row_fact P key content rows (Some i) is here =
    let held = place_held key rows i is in
    subst (λ (o : Option (Key × Held)). P (row_for key content o).0 (row_for key content o).1.content) (sym held.1) (subst (λ (k : Key). P k content) held.2 here)

pub all_put : (P : Key → List ℕ → Type 0) (cap : ℕ) (key : Key) (content : List ℕ) (rows : Rows) → P key content → AllRows P rows → AllRows P (put_in cap key content rows)
all_put P cap key content rows here all =
    let row = row_for key content (row_at rows (place key rows)) in
    all_room P (bytes_of (placed key content rows) - cap) (placed key content rows)
    (all_append P (without (place key rows) rows) (row ∷ []) (all_without P (place key rows) rows all) (row_fact P key content rows (place key rows) refl here, tt))

pub all_pinned_all : (P : Key → List ℕ → Type 0) (run : ℕ) (inputs : List Port) (rows : Rows) → AllRows P rows → AllRows P (pinned_all run inputs rows)
all_pinned_all P run [] rows all = all
all_pinned_all P run (port ∷ ports) rows all = all_pinned_all P run ports _ (all_pinned P (key_of run port.file) rows all)

pub all_unpinned_all : (P : Key → List ℕ → Type 0) (run : ℕ) (inputs : List Port) (rows : Rows) → AllRows P rows → AllRows P (unpinned_all run inputs rows)
all_unpinned_all P run [] rows all = all
all_unpinned_all P run (port ∷ ports) rows all = all_unpinned_all P run ports _ (all_unpinned P (key_of run port.file) rows all)

pub all_touched_all : (P : Key → List ℕ → Type 0) (run : ℕ) (files : List FileNo) (rows : Rows) → AllRows P rows → AllRows P (touched_all run files rows)
all_touched_all P run [] rows all = all
all_touched_all P run (file ∷ files) rows all = all_touched_all P run files _ (all_touched P (key_of run file) rows all)
