-- The rows that leave to make room.
use Rattle.std.proofs.Common.{◌≡◌, ℕ, ◌+◌, ◌-◌, ◌<◌, ◌≤◌, Bool, true, false, cond, eqb, [], ◌∷◌, refl, sym, ap, ◌∙◌, arith}
use Rattle.std.specs.Map.Calls.{RetainsPairs}
use Rattle.std.proofs.lemmas.Bool.{eqb-true, eq-eqb, lt-ltb}
use Rattle.flow_types.specs.declared.messages.Key.{Key}
use Rattle.worker_cache.specs.declared.held.Held.{Held}
use Rattle.worker_cache.specs.Caches.{Rows, is_pinned, bytes_in, bytes_of, make_room}
use Rattle.worker_cache.specs.Tables.{Passes}
use Rattle.worker_cache.proofs.Counts.{room_by}

-- ---- one row

pub none_over : (excess : ℕ) (rows : Rows) → eqb excess 0 ≡ true → make_room excess rows ≡ rows
none_over excess [] e = refl
none_over excess (row ∷ rows) e = rw e refl

-- enough is gone
pub passes_none : (excess : ℕ) (row : Key × Held) (rows : Rows) → excess ≡ 0 → make_room excess (row ∷ rows) ≡ row ∷ make_room excess rows
passes_none excess row rows e =
    let none = eq-eqb excess 0 e in
    none_over excess (row ∷ rows) none ∙ sym (ap (λ (left : Rows). row ∷ left) (none_over excess rows none))

passes_by : (excess : ℕ) (row : Key × Held) (rows : Rows) (none : Bool) → eqb excess 0 ≡ none → is_pinned row ≡ true → make_room excess (row ∷ rows) ≡ row ∷ make_room excess rows
passes_by excess row rows true e p = passes_none excess row rows (eqb-true excess 0 e)
passes_by excess row rows false e p = rw (e, p) refl

-- a pinned row
pub passes_pinned : (excess : ℕ) (row : Key × Held) (rows : Rows) → 0 < row.1.pins → make_room excess (row ∷ rows) ≡ row ∷ make_room excess rows
passes_pinned excess row rows p = passes_by excess row rows (eqb excess 0) refl (lt-ltb 0 row.1.pins p)

-- ---- the walk over the rows

module _ {F : Type 0} (T : F → Key → Held → Bool → Held → F → Type 0) (left : F → ℕ)
    (says : (f : F) (key : Key) (held : Held) (stays : Bool) (after : Held) (g : F) → T f key held stays after g
    → (after ≡ held) × Passes (left f) held stays (left g)) where
  -- what the walk keeps, where each call says whether the row stays and how many bytes are to leave behind it
  pub room_retained : (f : F) (rows kept : Rows) → RetainsPairs T f rows kept → kept ≡ make_room (left f) rows
  room_retained f [] kept h = h
  room_retained f (row ∷ rows) kept h =
      let said = says f row.0 row.1 h.0 h.1 h.2 h.4 in
      let rest : h.3 ≡ make_room (left h.2) rows = room_retained h.2 rows h.3 h.5 in
      h.6 ∙ ap (λ (v : Held). cond h.0 ((row.0, v) ∷ h.3) h.3) said.0
      ∙ ap (λ (rs : Rows). cond h.0 (row ∷ rs) rs) rest
      ∙ sym (said.1 row.0 rows)

-- ---- the bytes of the rows that stay

step_le : (excess : ℕ) (row : Key × Held) (rows : Rows) (none pinned : Bool) → bytes_of (make_room excess rows) ≤ bytes_of rows → bytes_of (make_room (excess - bytes_in row) rows) ≤ bytes_of rows
    → bytes_of (room_by none pinned excess row rows) ≤ bytes_in row + bytes_of rows
step_le excess row rows true pinned h k = omega arith
step_le excess row rows false true h k = omega (arith, h)
step_le excess row rows false false h k = omega (arith, k)

room_le : (excess : ℕ) (rows : Rows) → bytes_of (make_room excess rows) ≤ bytes_of rows
room_le excess [] = omega arith
room_le excess (row ∷ rows) = step_le excess row rows (eqb excess 0) (is_pinned row) (room_le excess rows) (room_le (excess - bytes_in row) rows)

-- a row that leaves
pub step_left : (excess : ℕ) (all : Rows) (row : Key × Held) (rows : Rows) (stays : Bool) (behind total less bytes whole : ℕ) → all ≡ row ∷ rows
    → Passes excess row.1 stays behind → stays ≡ false → bytes ≡ bytes_in row → less ≡ total - bytes
    → total + bytes_of (make_room excess all) ≡ bytes_of all + whole → less + bytes_of (make_room behind rows) ≡ bytes_of rows + whole
step_left excess all row rows stays behind total less bytes whole is e s len left h =
    let gone : make_room excess all ≡ make_room behind rows = ap (make_room excess) is ∙ e row.0 rows ∙ ap (λ (b : Bool). cond b (row ∷ make_room behind rows) (make_room behind rows)) s in
    omega (arith, h, ap bytes_of gone, ap bytes_of is, len, left, room_le behind rows)
