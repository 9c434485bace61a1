-- A course that was asked and told, with what it waits for.
use Rattle.std.specs.Prelude.{◌≡◌, ◌≢◌, ◌+◌, ℕ, Bool, true, false, List, [], ◌∷◌}
use Rattle.flow_types.specs.declared.job.Job.{Job}
use Rattle.flow_types.specs.declared.job.Outcome.{Outcome}
use Rattle.flow_types.specs.declared.job.Start.{Start}
use Rattle.flow_types.specs.declared.job.Report.{Report}
use Rattle.worker_pool.specs.declared.steer.Wish.{Wish}
use Rattle.worker_pool.specs.declared.steer.Wish.TheVariants.{Given, Nothing, Last}
use Rattle.worker_pool.specs.declared.step.Step.{Step}
use Rattle.worker_pool.specs.declared.step.Event.{Event}
use Rattle.worker_pool.specs.declared.hand.Tally.{Tally}
use Rattle.worker_pool.specs.Courses.{Runs, Plays, NoneHas, heard_of}

-- Each is due, and no two have one attempt.
abbrev pub AllDue : (Start → Type 0) → List Start → Type 0
AllDue due [] = Unit {0}
AllDue due (start ∷ starts) = due start × NoneHas start.attempt starts × AllDue due starts

-- These calls took the course from old to new: they are in order, the starts in `waiting` were given and not heard, each of them is due, and `heard` is how many were heard as not run and as failed.
pub record Steered {C : Type 0} (asked : C → Step → C → Type 0) (told : C → Report → C → Type 0)
    (due : C → Start → Type 0) (fits : Job → Outcome → Type 0)
    (old new : C) (done : Bool) (waiting : List Start) (heard : Tally) : Type 0 where
  pub events : List Event
  pub runs : Runs asked told old events new
  pub plays : Plays fits false [] events done waiting
  pub heard_is : heard_of events ≡ heard
  pub each_due : AllDue (due new) waiting

-- the course wished no more
abbrev pub is_last : Wish → Bool
is_last Given = false
is_last Nothing = false
is_last Last = true
