-- A queue's peers and its hall over the parts of a round.
use Rattle.std.specs.Prelude.{◌≡◌, ◌≤◌, ◌<◌, ◌⊎◌, ℕ, Bool, true, List, [], ◌∷◌, ◌++◌, slice_get, slice_set, Option, None, Some, Result, Ok, Err, length}
use Rattle.flow_types.specs.declared.job.Failure.{Failure}
use Rattle.flow_types.specs.declared.job.Job.{Job}
use Rattle.flow_types.specs.declared.numbers.Amounts.{Amounts}
use Rattle.flow_types.specs.Serial.{Function}
use Rattle.links.specs.declared.passing.Passed.{Passed}
use Rattle.task_book.specs.declared.task.Held.{Held}
use Rattle.task_book.specs.Lines.{waiting_in}
use Rattle.wq_company.specs.declared.company.Stop.{Stop}
use Rattle.wq_company.specs.declared.company.Stop.TheVariants as stops
use Rattle.wq_seats.specs.Seats.{KeepsRuns, SeatState}
use Rattle.wq_seats.specs.Turns.{IsServed, IsQuiet, IsRead}
use Rattle.wq_seats.specs.Shown.{EndsRight}

-- The peer at a place was read, and the others stay.
pub record ReadsAt {L : Type 0} (tells : Type 0) (gives : Function)
    (may_fail : Job → Failure → Type 0) (history : L → List Passed) (honest : L → Type 0)
    (idles : L → ℕ) (at : ℕ) (old new : List Held) (seats after : List (SeatState L))
    (idle : Bool) : Type 0 where
  pub was : SeatState L
  pub is : SeatState L
  pub there : slice_get seats at ≡ Some was
  pub set : after ≡ slice_set seats at is
  pub reads : (files : List (List ℕ)) (next : ℕ) → tells
      → IsServed gives may_fail history files old next was
      → IsRead gives may_fail history files old new next is
  pub right : (files : List (List ℕ)) (next : ℕ) → tells → honest was.peer.way
      → IsServed gives may_fail history files old next was → EndsRight gives may_fail files old new
  pub honestly : honest was.peer.way → honest is.peer.way
  pub quiet : idle ≡ true → IsQuiet idles is
  pub runs : KeepsRuns old new was is

-- Nothing was placed; and where none had been refused, none is, since the task at this place doesn't
-- wait, and the next is looked at.
pub record NothingPlaced {L R : Type 0} (at : ℕ) (old new : List Held)
    (seats after : List (SeatState L)) (refused now : Option R) (goes : Bool) : Type 0 where
  pub held : new ≡ old
  pub seats_are : after ≡ seats
  pub on : refused ≡ None
      → (now ≡ None) × (goes ≡ true) × (waiting_in (slice_get old at) ≡ None)

-- This is so, unless memory was wanting.
abbrev pub UnlessWanting : {T : Type 0} → Result T Stop → Type 0 → Type 0
UnlessWanting (Ok x) fact = fact
UnlessWanting (Err stops.Hall) fact = fact
UnlessWanting (Err stops.Memory) fact = Unit {0}

-- ---- the hall

-- the most links that live at once
abbrev pub most_links : ℕ
most_links = 32

-- The hall was idle between these counts, or as many links live as may.
abbrev pub IsIdleHall : {L : Type 0} → ℕ → ℕ → List L → Type 0
IsIdleHall before now live = (before < now) ⊎ (most_links ≤ length live)

-- The hall gives a link first; or one lives, and each link that the hall still gives is sure and
-- offers at least these amounts.
abbrev pub IsMet : {L X : Type 0} → (X → Amounts → Type 0) → (X → Amounts → Type 0) → Amounts → X
    → List L → Type 0
IsMet manned staffed least hall live =
    manned hall least ⊎ (staffed hall least × (0 < length live))

-- The links are those from before, or one more that the hall gave. Where the hall's links are honest
-- it is, and the hall's further ones are.
pub record Comes {L : Type 0} (honest : L → Type 0) (fair fair_now : Type 0)
    (ways after : List L) : Type 0 where
  pub fairly : fair → fair_now
  pub links : (after ≡ ways) ⊎ ((way : L) × (after ≡ ways ++ way ∷ []) × (fair → honest way))

-- The hall's count of faults never falls, and it fails only where the count rose.
abbrev pub MeetsAs : {T : Type 0} → ℕ → ℕ → Result T Stop → Type 0
MeetsAs before now (Err stops.Hall) = before < now
MeetsAs before now _ = before ≤ now
