-- Held tasks in a line, in the order of their ids.
use Rattle.std.specs.Prelude.{◌≡◌, ◌≤◌, ◌+◌, ℕ, suc, Bool, false, true, List, [], ◌∷◌, length, drop, take, Option, None, Some}
use Rattle.std.specs.List.{AllByRecursion}
use Rattle.task_book.specs.declared.task.Held.{Held}
use Rattle.task_book.specs.declared.task.Stage.{Stage}
use Rattle.task_book.specs.declared.task.Stage.TheVariants as stages
use Rattle.task_book.specs.declared.task.Submission.{Submission}
use Rattle.task_book.specs.Kept.{is_end}

-- the stage is that of a task that waits
abbrev pub is_waiting : Stage → Bool
is_waiting stages.Waits = true
is_waiting (stages.Runs attempt) = false
is_waiting (stages.Ended attempt outcome) = false

-- the task of a held one that waits
abbrev pub waiting_of : Submission → Stage → Option Submission
waiting_of task stages.Waits = Some task
waiting_of task (stages.Runs attempt) = None
waiting_of task (stages.Ended attempt outcome) = None

-- the task that waits, of a held one where there is one
abbrev pub waiting_in : Option Held → Option Submission
waiting_in None = None
waiting_in (Some h) = waiting_of h.task h.stage

-- Ids rise, from this number on.
abbrev pub AreFrom : ℕ → List Held → Type 0
AreFrom n [] = Unit {0}
AreFrom n (h ∷ held) = (n ≤ h.id.0) × AreFrom (h.id.0 + 1) held

-- No task before this place is in such a stage.
abbrev pub NoneBefore : (Stage → Bool) → ℕ → List Held → Type 0
NoneBefore test n held = AllByRecursion (λ h. test h.stage ≡ false) (take n held)

-- No task behind this place is in such a stage.
abbrev pub NoneBehind : (Stage → Bool) → ℕ → List Held → Type 0
NoneBehind test n held = AllByRecursion (λ h. test h.stage ≡ false) (drop (suc n) held)

-- Ids rise. No task before the first mark waits, none before the second came to its end, and none behind the third.
pub record IsLine (held : List Held) (waits_from ended_from ended_last : ℕ) : Type 0 where
  pub rise : AreFrom 0 held
  pub waits : NoneBefore is_waiting waits_from held
  pub waits_within : waits_from ≤ length held
  pub ended : NoneBefore is_end ended_from held
  pub ended_within : ended_from ≤ length held
  pub behind : NoneBehind is_end ended_last held
