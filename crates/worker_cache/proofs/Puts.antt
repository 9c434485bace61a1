-- What putting a content does to the counts, and where the content is found.
use Rattle.std.proofs.Common.{◌≡◌, ℕ, ◌+◌, ◌-◌, ◌≤◌, Bool, true, false, not, cond, eqb, List, [], ◌∷◌, ◌++◌, length, Option, Some, None, inl, inr, Result, Ok, Err, OnOk, OnErr, refl, sym, ap, ◌∙◌, arith}
use Rattle.std.specs.Prelude.{slice_get, remove}
use Rattle.std.specs.List.{IsDistinct}
use Rattle.std.specs.Result.{is_err}
use Rattle.std.specs.Map.{keys_of}
use Rattle.std.proofs.lemmas.Bool.{ltb-false}
use Rattle.flow_types.specs.declared.messages.Key.{Key}
use Rattle.worker_cache.specs.declared.held.Held.{Held}
use Rattle.worker_cache.specs.declared.fault.PutRefused.TheVariants as refused
use Rattle.worker_cache.specs.Answers.{Puts}
use Rattle.worker_cache.specs.Caches.{Cached, Rows, same_key, place, row_at, bytes_in, is_pinned, pinned_in, kept_bytes, pinned_bytes, bytes_of, all_pinned, is_full, new_row, renewed, without, row_for, placed, make_room, put_in, content_of, content_in, is_linked, if_linked, held_in, held_of, held_bytes, has_pins}
use Rattle.worker_cache.proofs.Weights.{of_joined, of_removed}
use Rattle.worker_cache.proofs.Counts.{pinned_le, room_by, room_fits, last_stays}
use Rattle.worker_cache.proofs.Places.{same_self, HasNone, StandsAt, stands, here, there, kept_own, kept_all, next}

-- ---- the row that is put

-- What is put, as the others and one row behind them.
pub record IsPut (key : Key) (content : List ℕ) (rows : Rows) : Type 0 where
  others : Rows
  last : Key × Held
  old : Option (Key × Held)
  parts : placed key content rows ≡ others ++ last ∷ []
  none : HasNone key others
  same : same_key key last.0 ≡ true
  is : last.1.content ≡ content
  linked : last.1.unlinked ≡ false
  was : row_at rows (place key rows) ≡ old
  bytes : bytes_of others + held_bytes (held_in old) ≡ bytes_of rows
  kept : all_pinned others ≡ pinned_bytes key rows
  pins : all_pinned others + cond (has_pins (held_in old)) (held_bytes (held_in old)) 0 ≡ all_pinned rows
  pinned : pinned_in last ≡ cond (has_pins (held_in old)) (length content) 0

put_new : (key : Key) (content : List ℕ) (rows : Rows) → (let none : Option ℕ = None in place key rows ≡ none) → HasNone key rows → IsPut key content rows
put_new key content rows e none =
    let old : Option (Key × Held) = None in
    let was : row_at rows (place key rows) ≡ old = ap (row_at rows) e in
    record {
      others = rows;
      last = (key, new_row content);
      old = old;
      parts = ap (λ (at : Option ℕ). without at rows ++ row_for key content (row_at rows at) ∷ []) e;
      none = none;
      same = same_self key;
      is = refl;
      linked = refl;
      was = was;
      bytes = omega arith;
      kept = sym (kept_all key rows none);
      pins = omega arith;
      pinned = refl;
    }

put_again : (key : Key) (content : List ℕ) (rows : Rows) (at : ℕ) (row : Key × Held) → StandsAt key rows at row → IsPut key content rows
put_again key content rows at row h =
    let others = remove rows at in
    let old : Option (Key × Held) = Some row in
    let was : row_at rows (place key rows) ≡ old = ap (row_at rows) h.found ∙ h.got in
    let all = of_removed bytes_in rows at row h.got in
    let pins = of_removed pinned_in rows at row h.got in
    let kept = of_removed (kept_bytes key) rows at row h.got in
    record {
      others = others;
      last = (row.0, renewed content row.1);
      old = old;
      parts =
          ap (λ (f : Option ℕ). without f rows ++ row_for key content (row_at rows f) ∷ []) h.found
          ∙ ap (λ (r : Option (Key × Held)). others ++ row_for key content r ∷ []) h.got;
      none = h.others;
      same = h.same;
      is = refl;
      linked = refl;
      was = was;
      bytes = all;
      kept = omega (arith, kept, kept_own key row h.same, kept_all key others h.others);
      pins = pins;
      pinned = refl;
    }

pub is_put : (key : Key) (content : List ℕ) (rows : Rows) → IsDistinct same_key (keys_of rows) → IsPut key content rows
is_put key content rows d =
    elim (stands key rows d) [
      | inl none ↦ put_new key content rows none.0 none.1
      | inr some ↦ put_again key content rows some.0 some.1 some.2
    ]

-- ---- the counts

pub old_pins : (key : Key) (content : List ℕ) (rows : Rows) → IsPut key content rows
    → pinned_bytes key rows + cond (has_pins (held_of key rows)) (held_bytes (held_of key rows)) 0 ≡ all_pinned rows
old_pins key content rows p = omega (arith, p.pins, p.kept, ap (λ (r : Option (Key × Held)). cond (has_pins (held_in r)) (held_bytes (held_in r)) 0) p.was)

pub new_bytes : (key : Key) (content : List ℕ) (rows : Rows) → IsPut key content rows
    → bytes_of (placed key content rows) + held_bytes (held_of key rows) ≡ bytes_of rows + length content
new_bytes key content rows p =
    omega (arith, ap bytes_of p.parts, of_joined bytes_in p.others (p.last ∷ []), ap (λ (c : List ℕ). length c) p.is, p.bytes, ap (λ (r : Option (Key × Held)). held_bytes (held_in r)) p.was)

pub new_pins : (key : Key) (content : List ℕ) (rows : Rows) → IsPut key content rows
    → all_pinned (placed key content rows) ≡ pinned_bytes key rows + cond (has_pins (held_of key rows)) (length content) 0
new_pins key content rows p =
    omega (arith, ap all_pinned p.parts, of_joined pinned_in p.others (p.last ∷ []), p.pinned, p.kept, ap (λ (r : Option (Key × Held)). cond (has_pins (held_in r)) (length content) 0) p.was)

pub some_le : (is : Bool) (n some : ℕ) → some ≡ cond is n 0 → some ≤ n
some_le true n some e = omega (arith, e)
some_le false n some e = omega (arith, e)

-- ---- where the content is found

step_none : (key : Key) (excess : ℕ) (row : Key × Held) (rows : Rows) (none pinned : Bool) → HasNone key (row ∷ rows)
    → HasNone key (make_room excess rows) → HasNone key (make_room (excess - bytes_in row) rows) → HasNone key (room_by none pinned excess row rows)
step_none key excess row rows true pinned h a b = h
step_none key excess row rows false true h a b = (h.0, a)
step_none key excess row rows false false h a b = b

room_none : (key : Key) (excess : ℕ) (rows : Rows) → HasNone key rows → HasNone key (make_room excess rows)
room_none key excess [] h = tt
room_none key excess (row ∷ rows) h =
    step_none key excess row rows (eqb excess 0) (is_pinned row) h (room_none key excess rows h.1) (room_none key (excess - bytes_in row) rows h.1)

place_last : (key : Key) (rows : Rows) (last : Key × Held) → HasNone key rows → same_key key last.0 ≡ true → place key (rows ++ last ∷ []) ≡ Some (length rows)
place_last key [] last h e = here key last [] e
place_last key (row ∷ rows) last h e = there key row (rows ++ last ∷ []) h.0 ∙ ap next (place_last key rows last h.1 e)

pub got_last : {A : Type 0} (xs : List A) (x : A) → slice_get (xs ++ x ∷ []) (length xs) ≡ Some x
got_last [] x = refl
got_last (y ∷ ys) x = got_last ys x

found_last : (key : Key) (rows : Rows) (last : Key × Held) → HasNone key rows → same_key key last.0 ≡ true → last.1.unlinked ≡ false → content_of key (rows ++ last ∷ []) ≡ Some last.1.content
found_last key rows last h e linked =
    let all = rows ++ last ∷ [] in
    let at = place_last key rows last h e in
    let got = got_last rows last in
    let found : is_linked (slice_get all (length rows)) ≡ true = ap is_linked got ∙ ap not linked in
    ap (λ (f : Option ℕ). content_in (row_at all (if_linked all f))) at
    ∙ ap (λ (b : Bool). content_in (row_at all (cond b (Some (length rows)) None))) found
    ∙ ap content_in got

enough : (pins bytes old more content cap : ℕ) → pins + content ≤ cap → pins ≤ bytes → more ≡ bytes + content → (more - cap) + pins ≤ bytes
enough pins bytes old more content cap room le sum = omega (arith, room, le, sum)

-- The row that is put stays.
put_stays : (cap : ℕ) (key : Key) (content : List ℕ) (rows : Rows) (p : IsPut key content rows) → is_full key (length content) cap rows ≡ false
    → put_in cap key content rows ≡ make_room (bytes_of (placed key content rows) - cap) p.others ++ p.last ∷ []
put_stays cap key content rows p full =
    let all = placed key content rows in
    let excess = bytes_of all - cap in
    let room = ltb-false cap (pinned_bytes key rows + length content) full in
    let sum : bytes_of all ≡ bytes_of p.others + length content =
    omega (arith, ap bytes_of p.parts, of_joined bytes_in p.others (p.last ∷ []), ap (λ (c : List ℕ). length c) p.is) in
    let few = enough (all_pinned p.others) (bytes_of p.others) 0 (bytes_of all) (length content) cap (omega (arith, room, p.kept)) (pinned_le p.others) sum in
    ap (make_room excess) p.parts ∙ last_stays excess p.others p.last few

-- What is left fits the limit.
pub put_fits : (cap : ℕ) (key : Key) (content : List ℕ) (rows : Rows) → IsPut key content rows → is_full key (length content) cap rows ≡ false
    → bytes_of (put_in cap key content rows) ≤ cap
put_fits cap key content rows p full =
    let all = placed key content rows in
    let room = ltb-false cap (pinned_bytes key rows + length content) full in
    let pins : all_pinned all ≤ cap = omega (arith, new_pins key content rows p, some_le (has_pins (held_of key rows)) (length content) (cond (has_pins (held_of key rows)) (length content) 0) refl, room) in
    room_fits cap all pins

pub found_put : (cap : ℕ) (key : Key) (content : List ℕ) (rows : Rows) → IsPut key content rows → is_full key (length content) cap rows ≡ false
    → content_of key (put_in cap key content rows) ≡ Some content
found_put cap key content rows p full =
    let excess = bytes_of (placed key content rows) - cap in
    ap (content_of key) (put_stays cap key content rows p full)
    ∙ found_last key (make_room excess p.others) p.last (room_none key excess p.others p.none) p.same p.linked ∙ ap (λ (c : List ℕ). Some c) p.is

-- ---- what `put` counts

pub kept_is : (key : Key) (content : List ℕ) (rows : Rows) (pinned old kept some : ℕ) (is : Bool) → IsPut key content rows
    → old ≡ held_bytes (held_of key rows) → is ≡ has_pins (held_of key rows) → some ≡ cond is old 0
    → pinned ≡ all_pinned rows → kept ≡ pinned - some → kept ≡ pinned_bytes key rows
kept_is key content rows pinned old kept some is p bytes pins s all e =
    let same : some ≡ cond (has_pins (held_of key rows)) (held_bytes (held_of key rows)) 0 =
    s ∙ ap (λ (b : Bool). cond b old 0) pins ∙ ap (λ (n : ℕ). cond (has_pins (held_of key rows)) n 0) bytes in
    omega (arith, old_pins key content rows p, same, all, e)

pub total_is : (key : Key) (content : List ℕ) (rows made : Rows) (all old others n : ℕ) → IsPut key content rows
    → old ≡ held_bytes (held_of key rows) → all ≡ bytes_of rows → others ≡ all - old → n ≡ length content → made ≡ placed key content rows
    → others + n ≡ bytes_of made
total_is key content rows made all old others n p bytes sum e len is =
    let few : held_bytes (held_of key rows) ≤ bytes_of rows = omega (arith, p.bytes, ap (λ (r : Option (Key × Held)). held_bytes (held_in r)) p.was) in
    omega (arith, new_bytes key content rows p, bytes, sum, e, len, few, ap bytes_of is)

pub pins_are : (key : Key) (content : List ℕ) (rows made : Rows) (kept n some : ℕ) (is : Bool) → IsPut key content rows
    → is ≡ has_pins (held_of key rows) → kept ≡ pinned_bytes key rows → n ≡ length content → some ≡ cond is n 0 → made ≡ placed key content rows
    → all_pinned made ≡ kept + some
pins_are key content rows made kept n some is p pins k len s e =
    let same : some ≡ cond (has_pins (held_of key rows)) (length content) 0 =
    s ∙ ap (λ (b : Bool). cond b n 0) pins ∙ ap (λ (m : ℕ). cond (has_pins (held_of key rows)) m 0) len in
    omega (arith, new_pins key content rows p, k, same, ap all_pinned e)

-- ---- what `put` answers

abbrev shown : ℕ → Rows → Cached
shown cap rows = record { cap = cap; rows = rows }

pub puts_full : (key : Key) (content : List ℕ) (cap n : ℕ) (rows : Rows) → is_full key (length content) cap rows ≡ true → n ≡ length content
    → Puts (is_full key (length content) cap rows) key content (shown cap rows) (Err (refused.Full n cap)) (shown cap rows)
puts_full key content cap n rows full e = rw full (ap (λ (k : ℕ). Err (refused.Full k cap)) e, refl)

pub puts_memory : (key : Key) (content : List ℕ) (cap : ℕ) (rows made : Rows) → is_full key (length content) cap rows ≡ false → made ≡ rows
    → Puts (is_full key (length content) cap rows) key content (shown cap rows) (Err refused.Memory) (shown cap made)
puts_memory key content cap rows made full e = rw full (refl, ap (shown cap) e)

pub puts_done : (key : Key) (content : List ℕ) (cap : ℕ) (rows made : Rows) → is_full key (length content) cap rows ≡ false → made ≡ put_in cap key content rows
    → Puts (is_full key (length content) cap rows) key content (shown cap rows) (Ok tt) (shown cap made)
puts_done key content cap rows made full e = rw full (ap (shown cap) e)

pub made_is : (cap total : ℕ) (key : Key) (content : List ℕ) (rows made : Rows) → made ≡ placed key content rows → total ≡ bytes_of made
    → make_room (total - cap) made ≡ put_in cap key content rows
made_is cap total key content rows made is sum =
    ap (λ (n : ℕ). make_room (n - cap) made) sum ∙ ap (λ (r : Rows). make_room (bytes_of r - cap) r) is

pub of_err : {T E : Type 0} (r : Result T E) (A : Type 0) → is_err r ≡ true → OnErr r A → A
of_err (Ok x) A e h = absurd cc
of_err (Err x) A e h = h

pub of_ok : {T E : Type 0} (r : Result T E) (A : Type 0) → is_err r ≡ false → OnOk r A → A
of_ok (Ok x) A e h = h
of_ok (Err x) A e h = absurd cc
