-- What is shown by one of the links is shown by all of them together.
use Rattle.std.proofs.Common.{◌⊎◌, inl, inr, ℕ, zero, suc, List, [], ◌∷◌, ◌++◌, take}
use Rattle.flow_types.specs.declared.job.Outcome.{Outcome}
use Rattle.flow_types.specs.declared.numbers.AttemptNo.{AttemptNo}
use Rattle.links.specs.declared.passing.Passed.{Passed}
use Rattle.task_book.specs.declared.task.Held.{Held}
use Rattle.task_book.specs.declared.task.Submission.{Submission}
use Rattle.task_book.specs.Stages.{Ends, EndsOn}
use Rattle.wq_seats.specs.Shown.{ShowsOn, IsShownBy, IsShownOn, ShowsEnds}
use Rattle.wq_company.specs.Companies.{ways_of}
use Rattle.wq_seats.specs.Seats.{SeatState}

module _ {L : Type 0} (history : L → List Passed) where
  pub shown_left : (task : Submission) (a : AttemptNo) (o : Outcome) (ways more : List L) → IsShownBy history task a o ways → IsShownBy history task a o (ways ++ more)
  shown_left task a o [] more is = absurd is
  shown_left task a o (w ∷ ways) more (inl here) = inl here
  shown_left task a o (w ∷ ways) more (inr later) = inr (shown_left task a o ways more later)

  pub shown_right : (task : Submission) (a : AttemptNo) (o : Outcome) (ways more : List L) → IsShownBy history task a o more → IsShownBy history task a o (ways ++ more)
  shown_right task a o [] more is = is
  shown_right task a o (w ∷ ways) more is = inr (shown_right task a o ways more is)

  -- one link more was read
  pub shows_next : (old mid new : List Held) (ways : List L) (way : L) → ShowsEnds history old mid ways → ShowsOn history mid new way → ShowsEnds history old new (ways ++ way ∷ [])
  shows_next old mid new ways way before now a o task end = by (now a o task end)
    where
      earlier : Ends old a o task ⊎ IsShownBy history task a o ways → Ends old a o task ⊎ IsShownBy history task a o (ways ++ way ∷ [])
      earlier (inl was) = inl was
      earlier (inr shown) = inr (shown_left task a o ways (way ∷ []) shown)

      by : Ends mid a o task ⊎ IsShownOn history task a o way → Ends old a o task ⊎ IsShownBy history task a o (ways ++ way ∷ [])
      by (inl was) = earlier (before a o task was)
      by (inr here) = inr (shown_right task a o ways (way ∷ []) (inl here))

  -- more links came
  pub shows_more : (old new : List Held) (ways more : List L) → ShowsEnds history old new ways → ShowsEnds history old new (ways ++ more)
  shows_more old new ways more shows a o task end = by (shows a o task end)
    where
      by : Ends old a o task ⊎ IsShownBy history task a o ways → Ends old a o task ⊎ IsShownBy history task a o (ways ++ more)
      by (inl was) = inl was
      by (inr shown) = inr (shown_left task a o ways more shown)

  -- nothing came to its end before that
  pub shows_after : (old mid new : List Held) (ways : List L) → EndsOn old mid → ShowsEnds history mid new ways → ShowsEnds history old new ways
  shows_after old mid new ways on shows a o task end = by (shows a o task end)
    where
      by : Ends mid a o task ⊎ IsShownBy history task a o ways → Ends old a o task ⊎ IsShownBy history task a o ways
      by (inl was) = inl (on a o task was)
      by (inr shown) = inr shown

  shown_front : (task : Submission) (a : AttemptNo) (o : Outcome) (seats : List (SeatState L)) (k : ℕ) → IsShownBy history task a o (ways_of (take k seats)) → IsShownBy history task a o (ways_of seats)
  shown_front task a o [] zero is = is
  shown_front task a o [] (suc k) is = is
  shown_front task a o (x ∷ xs) zero is = absurd is
  shown_front task a o (x ∷ xs) (suc k) (inl here) = inl here
  shown_front task a o (x ∷ xs) (suc k) (inr later) = inr (shown_front task a o xs k later)

  -- what some of the links show all of them show
  pub shows_front : (old new : List Held) (seats : List (SeatState L)) (k : ℕ) → ShowsEnds history old new (ways_of (take k seats)) → ShowsEnds history old new (ways_of seats)
  shows_front old new seats k shows a o task end = by (shows a o task end)
    where
      by : Ends old a o task ⊎ IsShownBy history task a o (ways_of (take k seats)) → Ends old a o task ⊎ IsShownBy history task a o (ways_of seats)
      by (inl was) = inl was
      by (inr shown) = inr (shown_front task a o seats k shown)
