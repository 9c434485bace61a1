-- A peer over its part of a round.
use Rattle.std.specs.Prelude.{◌≡◌, ◌<◌, ◌⊎◌, ℕ, Bool, false, List, [], Option, None, Some, Result, Ok, Err}
use Rattle.flow_types.specs.declared.job.Failure.{Failure}
use Rattle.flow_types.specs.declared.job.Job.{Job}
use Rattle.flow_types.specs.declared.numbers.Amounts.{Amounts}
use Rattle.flow_types.specs.declared.numbers.AttemptNo.{AttemptNo}
use Rattle.flow_types.specs.Serial.{Function}
use Rattle.links.specs.declared.passing.Passed.{Passed}
use Rattle.links.specs.Honesty.{IsOfferOf}
use Rattle.resource_pack.specs.declared.occupied.Stated.{Stated}
use Rattle.task_book.specs.declared.task.Held.{Held}
use Rattle.task_book.specs.declared.task.TaskId.{TaskId}
use Rattle.task_book.specs.Stages.{RunsAs}
use Rattle.peer_health.specs.Healths.{IsRested}
use Rattle.wq_seats.specs.declared.seat.reading.Look.{Look}
use Rattle.wq_seats.specs.Seats.{IsAtWork, RunsAt, SeatState}
use Rattle.wq_seats.specs.Shown.{ShowsOn}

-- A peer that isn't gone is at work.
abbrev pub IsServed : {L : Type 0} → Function → (Job → Failure → Type 0) → (L → List Passed)
    → List (List ℕ) → List Held → ℕ → SeatState L → Type 0
IsServed gives may_fail history files held next s =
    s.gone ≡ false → IsAtWork gives may_fail history files held next s

-- Over the link of a peer that isn't gone nothing passed since it was last idle.
abbrev pub IsQuiet : {L : Type 0} → (L → ℕ) → SeatState L → Type 0
IsQuiet idles s = s.gone ≡ false → 0 < idles s.peer.way

-- a look found that what was asked is idle
abbrev pub was_idle : {E : Type 0} → Result Look E → Bool
was_idle (Ok look) = look.was_idle
was_idle (Err why) = false

-- A peer was read: it is at work unless it is gone, and its link shows what came to its end.
pub record IsRead {L : Type 0} (gives : Function) (may_fail : Job → Failure → Type 0)
    (history : L → List Passed) (files : List (List ℕ)) (old new : List Held) (next : ℕ)
    (s : SeatState L) : Type 0 where
  pub served : IsServed gives may_fail history files new next s
  pub shows : ShowsOn history old new s.peer.way

-- It is this held one, with this attempt.
abbrev pub IsOf : Option Held → AttemptNo → TaskId → AttemptNo → Type 0
IsOf None begun id attempt = ⊥
IsOf (Some h) begun id attempt = (id ≡ h.id) × (attempt ≡ begun)

-- What runs ran before, and what of it ran at the peer still does. So does this held one, which
-- runs with this attempt.
abbrev pub BeginsRun : {L : Type 0} → Option Held → AttemptNo → List Held → List Held
    → SeatState L → SeatState L → Type 0
BeginsRun one begun held new s now = (id : TaskId) (attempt : AttemptNo) → RunsAs new id attempt
    → RunsAs held id attempt × (RunsAt id attempt s ⊎ IsOf one begun id attempt
    → RunsAt id attempt now)

-- ---- links that are sure

-- The link is sure, and its peer offers at least these amounts.
pub record IsSureOf {L : Type 0} (sure : L → Type 0) (offers : L → Amounts → Type 0)
    (least : Amounts) (way : L) : Type 0 where
  pub surely : sure way
  pub offering : offers way least

-- A peer that isn't gone is at such a link.
abbrev pub IsSureAt : {L : Type 0} → (L → Type 0) → (L → Amounts → Type 0) → Amounts
    → SeatState L → Type 0
IsSureAt sure offers least s = s.gone ≡ false → IsSureOf sure offers least s.peer.way

-- It is so of this peer still, and it isn't gone unless it was.
pub record StaysSureAt {L : Type 0} (sure : L → Type 0) (offers : L → Amounts → Type 0)
    (least : Amounts) (old new : SeatState L) : Type 0 where
  pub surely : IsSureAt sure offers least new
  pub gone : new.gone ≡ old.gone

-- Nothing runs at the peer, it doesn't rest, and it offers at least these amounts and room for any
-- inputs.
pub record IsReady {L : Type 0} (least : Amounts) (s : SeatState L) : Type 0 where
  pub idle : s.runs ≡ []
  pub rested : IsRested s.health
  pub offer : Stated
  pub stated : s.stated ≡ Some offer
  pub cache : ℕ
  pub cache_is : offer.cache ≡ Some cache
  pub enough : IsOfferOf least offer.total offer.largest cache
