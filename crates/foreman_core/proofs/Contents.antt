-- What holds of each content goes on to hold as contents come, leave, and are pinned.
use Rattle.std.proofs.Common.{◌≡◌, inl, inr, ℕ, zero, suc, ◌-◌, Bool, true, false, cond, List, [], ◌∷◌, ◌++◌, Option, Some, None, refl, ap, sym, ◌∙◌, subst}
use Rattle.std.specs.Prelude.{◌==◌, ◌&&◌, nat_le, slice_get, remove, get_or, fold}
use Rattle.std.specs.Option.{option_map_or}
use Rattle.std.specs.Map.{keys_of}
use Rattle.std.proofs.lemmas.Option.{get_or_from_slice_get}
use Rattle.std.proofs.lemmas.List.Quantifiers.{position-Some}
use Rattle.flow_types.specs.declared.messages.Key.{Key}
use Rattle.flow_types.specs.declared.numbers.FileNo.{FileNo}
use Rattle.flow_types.specs.declared.plan.Port.{Port}
use Rattle.worker_cache.specs.declared.held.Held.{Held}
use Rattle.worker_cache.specs.Caches.{Rows, same_key, place, held_place, if_linked, is_linked, made_last, touched, content_of, content_in, row_at, with_pin, set_value_at, changed_at, pinned, less_pin, released, unpinned, with_mark, dropped, unlinked, is_pinned, bytes_in, bytes_of, without, row_for, placed, make_room, put_in}
use Rattle.worker_cache.proofs.Places.{same_is}
use Rattle.worker_core.specs.Workers.{key_of, pinned_all, unpinned_all, touched_all}
use Rattle.foreman_core.specs.declared.links.Upstream.{Upstream}
use Rattle.foreman_core.specs.Members.{Every}
use Rattle.foreman_core.specs.Steps as steps
use Rattle.foreman_core.proofs.Members.{every_append, every_cons, every_one, every_remove, get_stands}

-- what a fact says of the content in a row
abbrev pub OfRow : (Key → List ℕ → Type 0) → Key × Held → Type 0
OfRow P row = P row.0 row.1.content

every_set_value : (P : Key → List ℕ → Type 0) (rows : Rows) (at : ℕ) (row : Key × Held) (held : Held) → slice_get rows at ≡ Some row → held.content ≡ row.1.content → Every (OfRow P) rows → Every (OfRow P) (set_value_at rows at held)
every_set_value P [] at row held got same all = all
every_set_value P (first ∷ rows) zero row held got same all =
    let is : row ≡ first = cc in
    every_cons (OfRow P) (first.0, held) rows (subst (P first.0) (sym (same ∙ ap (λ r. r.1.content) is)) (all first (inl refl))) (λ r there. all r (inr there))
every_set_value P (first ∷ rows) (suc at) row held got same all =
    every_cons (OfRow P) first (set_value_at rows at held) (all first (inl refl)) (every_set_value P rows at row held got same (λ r there. all r (inr there)))

changed_kept : (P : Key → List ℕ → Type 0) (change : Held → Held) → ((held : Held) → (change held).content ≡ held.content) → (rows : Rows) (at : ℕ) (row : Option (Key × Held)) → slice_get rows at ≡ row → Every (OfRow P) rows
    → Every (OfRow P) (changed_at change rows at row)
changed_kept P change same rows at None got all = all
changed_kept P change same rows at (Some row) got all = every_set_value P rows at row (change row.1) got (same row.1) all

pinned_content : (held : Held) → (with_pin held).content ≡ held.content
pinned_content held = refl

pinned_kept : (P : Key → List ℕ → Type 0) (key : Key) (rows : Rows) → Every (OfRow P) rows → Every (OfRow P) (pinned key rows)
pinned_kept P key rows all = by (held_place key rows)
  where
    by : (found : Option ℕ) → Every (OfRow P) (option_map_or (λ at. changed_at with_pin rows at (slice_get rows at)) found rows)
    by None = all
    by (Some at) = changed_kept P with_pin pinned_content rows at (slice_get rows at) refl all

pub pinned_all_kept : (P : Key → List ℕ → Type 0) (run : ℕ) (inputs : List Port) (rows : Rows) → Every (OfRow P) rows → Every (OfRow P) (pinned_all run inputs rows)
pinned_all_kept P run [] rows all = all
pinned_all_kept P run (port ∷ ports) rows all = pinned_all_kept P run ports (pinned (key_of run port.file) rows) (pinned_kept P (key_of run port.file) rows all)

released_kept : (P : Key → List ℕ → Type 0) (rows : Rows) (at : ℕ) (row : Option (Key × Held)) → slice_get rows at ≡ row → Every (OfRow P) rows → Every (OfRow P) (released rows at row)
released_kept P rows at None got all = all
released_kept P rows at (Some row) got all = by (row.1.unlinked && nat_le row.1.pins 1)
  where
    by : (b : Bool) → Every (OfRow P) (cond b (remove rows at) (set_value_at rows at (less_pin row.1)))
    by true = every_remove (OfRow P) rows at all
    by false = every_set_value P rows at row (less_pin row.1) got refl all

unpinned_kept : (P : Key → List ℕ → Type 0) (key : Key) (rows : Rows) → Every (OfRow P) rows → Every (OfRow P) (unpinned key rows)
unpinned_kept P key rows all = by (place key rows)
  where
    by : (found : Option ℕ) → Every (OfRow P) (option_map_or (λ at. released rows at (slice_get rows at)) found rows)
    by None = all
    by (Some at) = released_kept P rows at (slice_get rows at) refl all

pub unpinned_all_kept : (P : Key → List ℕ → Type 0) (run : ℕ) (inputs : List Port) (rows : Rows) → Every (OfRow P) rows → Every (OfRow P) (unpinned_all run inputs rows)
unpinned_all_kept P run [] rows all = all
unpinned_all_kept P run (port ∷ ports) rows all = unpinned_all_kept P run ports (unpinned (key_of run port.file) rows) (unpinned_kept P (key_of run port.file) rows all)

pub all_released_kept : (P : Key → List ℕ → Type 0) (gone : List Upstream) (rows : Rows) → Every (OfRow P) rows → Every (OfRow P) (fold steps.released rows gone)
all_released_kept P [] rows all = all
all_released_kept P (u ∷ gone) rows all = all_released_kept P gone (steps.released rows u) (unpinned_all_kept P u.task.run u.task.inputs rows all)

made_last_kept : (P : Key → List ℕ → Type 0) (rows : Rows) (at : ℕ) (row : Option (Key × Held)) → slice_get rows at ≡ row → Every (OfRow P) rows → Every (OfRow P) (option_map_or (λ row. remove rows at ++ row ∷ []) row rows)
made_last_kept P rows at None got all = all
made_last_kept P rows at (Some row) got all =
    every_append (OfRow P) (remove rows at) (row ∷ []) (every_remove (OfRow P) rows at all) (every_one (OfRow P) row (all row (get_stands rows at row got)))

touched_kept : (P : Key → List ℕ → Type 0) (key : Key) (rows : Rows) → Every (OfRow P) rows → Every (OfRow P) (touched key rows)
touched_kept P key rows all = by (held_place key rows)
  where
    by : (found : Option ℕ) → Every (OfRow P) (option_map_or (made_last rows) found rows)
    by None = all
    by (Some at) = made_last_kept P rows at (slice_get rows at) refl all

pub touched_all_kept : (P : Key → List ℕ → Type 0) (run : ℕ) (files : List FileNo) (rows : Rows) → Every (OfRow P) rows → Every (OfRow P) (touched_all run files rows)
touched_all_kept P run [] rows all = all
touched_all_kept P run (file ∷ files) rows all = touched_all_kept P run files (touched (key_of run file) rows) (touched_kept P (key_of run file) rows all)

dropped_kept : (P : Key → List ℕ → Type 0) (rows : Rows) (at : ℕ) (row : Option (Key × Held)) → slice_get rows at ≡ row → Every (OfRow P) rows → Every (OfRow P) (dropped rows at row)
dropped_kept P rows at None got all = all
dropped_kept P rows at (Some row) got all = by (row.1.pins == 0)
  where
    by : (b : Bool) → Every (OfRow P) (cond b (remove rows at) (set_value_at rows at (with_mark row.1)))
    by true = every_remove (OfRow P) rows at all
    by false = every_set_value P rows at row (with_mark row.1) got refl all

pub unlinked_kept : (P : Key → List ℕ → Type 0) (key : Key) (rows : Rows) → Every (OfRow P) rows → Every (OfRow P) (unlinked key rows)
unlinked_kept P key rows all = by (held_place key rows)
  where
    by : (found : Option ℕ) → Every (OfRow P) (option_map_or (λ at. dropped rows at (slice_get rows at)) found rows)
    by None = all
    by (Some at) = dropped_kept P rows at (slice_get rows at) refl all

-- ---- the row at a key's place

key_at : (rows : Rows) (at : ℕ) (row : Key × Held) → slice_get rows at ≡ Some row → slice_get (keys_of rows) at ≡ Some row.0
key_at [] at row got = absurd (let h : ⊥ = cc in h)
key_at (first ∷ rows) zero row got = let same : first ≡ row = cc in ap (λ r. Some r.0) same
key_at (first ∷ rows) (suc at) row got = key_at rows at row got

pub row_is : (key : Key) (rows : Rows) (at : ℕ) (row : Key × Held) → place key rows ≡ Some at → slice_get rows at ≡ Some row → key ≡ row.0
row_is key rows at row found got =
    let passes : same_key key (get_or (keys_of rows) at key) ≡ true = (position-Some (same_key key) (keys_of rows) at key found).1 in
    same_is key row.0 (sym (ap (same_key key) (get_or_from_slice_get (keys_of rows) at row.0 key (key_at rows at row got))) ∙ passes)

-- ---- puts

without_kept : (P : Key → List ℕ → Type 0) (found : Option ℕ) (rows : Rows) → Every (OfRow P) rows → Every (OfRow P) (without found rows)
without_kept P None rows all = all
without_kept P (Some at) rows all = every_remove (OfRow P) rows at all

row_for_right : (P : Key → List ℕ → Type 0) (key : Key) (content : List ℕ) (rows : Rows) (found : Option ℕ) → place key rows ≡ found → P key content → OfRow P (row_for key content (row_at rows found))
row_for_right P key content rows None at is = is
row_for_right P key content rows (Some n) at is = by (slice_get rows n) refl
  where
    by : (row : Option (Key × Held)) → slice_get rows n ≡ row → OfRow P (row_for key content row)
    by None got = is
    by (Some row) got = subst (λ k. P k content) (row_is key rows n row at got) is

room_by : (P : Key × Held → Type 0) (excess : ℕ) (row : Key × Held) (rows : Rows) (fits pins : Bool) → Every P (row ∷ rows) → ((n : ℕ) → Every P (make_room n rows))
    → Every P (cond fits (row ∷ rows) (cond pins (row ∷ make_room excess rows) (make_room (excess - bytes_in row) rows)))
room_by P excess row rows true pins all rest = all
room_by P excess row rows false true all rest = every_cons P row (make_room excess rows) (all row (inl refl)) (rest excess)
room_by P excess row rows false false all rest = rest (excess - bytes_in row)

room_kept : (P : Key × Held → Type 0) (excess : ℕ) (rows : Rows) → Every P rows → Every P (make_room excess rows)
room_kept P excess [] all = all
room_kept P excess (row ∷ rows) all = room_by P excess row rows (excess == 0) (is_pinned row) all (λ n. room_kept P n rows (λ r there. all r (inr there)))

pub put_kept : (P : Key → List ℕ → Type 0) (cap : ℕ) (key : Key) (content : List ℕ) (rows : Rows) → P key content → Every (OfRow P) rows → Every (OfRow P) (put_in cap key content rows)
put_kept P cap key content rows is all =
    room_kept (OfRow P) (bytes_of (placed key content rows) - cap) (placed key content rows)
    (every_append (OfRow P) (without (place key rows) rows) (row_for key content (row_at rows (place key rows)) ∷ []) (without_kept P (place key rows) rows all)
    (every_one (OfRow P) (row_for key content (row_at rows (place key rows))) (row_for_right P key content rows (place key rows) refl is)))

-- ---- what is found

linked_at : (rows : Rows) (found : Option ℕ) (at : ℕ) → if_linked rows found ≡ Some at → found ≡ Some at
linked_at rows None at is = absurd (let h : ⊥ = cc in h)
linked_at rows (Some n) at is = by (is_linked (slice_get rows n)) is
  where
    by : (b : Bool) → cond b (Some n) None ≡ Some at → Some n ≡ Some at
    by true same = same
    by false same = absurd (let h : ⊥ = cc in h)

-- a content that is found came under its key
pub content_right : (P : Key → List ℕ → Type 0) (key : Key) (content : List ℕ) (rows : Rows) → Every (OfRow P) rows → content_of key rows ≡ Some content → P key content
content_right P key content rows all is = by (held_place key rows) refl is
  where
    at_row : (n : ℕ) (row : Option (Key × Held)) → held_place key rows ≡ Some n → slice_get rows n ≡ row → content_in row ≡ Some content → P key content
    at_row n None at got same = absurd (let h : ⊥ = cc in h)
    at_row n (Some row) at got same =
        let mine : key ≡ row.0 = row_is key rows n row (linked_at rows (place key rows) n at) got in
        let there : row.1.content ≡ content = cc in
        subst (λ k. P k content) (sym mine) (subst (P row.0) there (all row (get_stands rows n row got)))

    by : (found : Option ℕ) → held_place key rows ≡ found → content_in (row_at rows found) ≡ Some content → P key content
    by None at same = absurd (let h : ⊥ = cc in h)
    by (Some n) at same = at_row n (slice_get rows n) at refl same
