-- What a peer told, and what that makes of the queue's tasks and of what runs there.
use Rattle.std.specs.Prelude.{◌≡◌, ◌==◌, find, List, Option, None, Some}
use Rattle.std.specs.Option.{option_map}
use Rattle.flow_types.specs.declared.job.Outcome.TheVariants as outcomes
use Rattle.flow_types.specs.declared.numbers.AttemptNo.{AttemptNo}
use Rattle.peers.specs.declared.told.Told.{Told}
use Rattle.peers.specs.declared.told.Told.TheVariants as tell
use Rattle.resource_pack.specs.declared.occupied.Stated.{Stated}
use Rattle.task_book.specs.declared.task.Held.{Held}
use Rattle.task_book.specs.declared.task.Stage.{Stage}
use Rattle.task_book.specs.declared.task.TaskId.{TaskId}
use Rattle.task_book.specs.declared.task.Stage.TheVariants as stages
use Rattle.task_book.specs.Kept.{Kept, place_running, staged_at}
use Rattle.task_book.specs.Stages.{RunsAs, Stops}
use Rattle.wq_frames.specs.Frames.{front, part}
use Rattle.wq_seats.specs.declared.run.Again.{Again}
use Rattle.wq_seats.specs.declared.run.Run.{Run}
use Rattle.peer_health.specs.Healths.{HealthState, IsRested}
use Rattle.wq_seats.specs.Seats.{HasRun, SeatState, closed_runs}

-- the task that runs with the attempt, among these runs
abbrev pub id_of : AttemptNo → List Run → Option TaskId
id_of attempt runs = option_map (λ r. r.id) (find (λ r. r.attempt.0 == attempt.0) runs)

-- a task, where there is one, is in this stage if it runs with the attempt
abbrev pub staged_where : Option TaskId → AttemptNo → Stage → Kept → Kept
staged_where None attempt stage k = k
staged_where (Some id) attempt stage k =
    record k { held = staged_at k.held (place_running id attempt k.held) stage }

-- the book once this was told by a peer at which these run: an end, or that a task waits again
abbrev pub told_book : List Run → Told → Kept → Kept
told_book runs (tell.Finish attempt outs) k = staged_where (id_of attempt runs) attempt
    (stages.Ended attempt (outcomes.Success outs)) k
told_book runs (tell.Fail attempt why) k = staged_where (id_of attempt runs) attempt
    (stages.Ended attempt (outcomes.Failed why)) k
told_book runs (tell.Lose attempt) k =
    staged_where (id_of attempt runs) attempt stages.Waits k
told_book runs tell.Nothing k = k
told_book runs (tell.Joined total largest cache) k = k
told_book runs (tell.Changed total largest cache) k = k
told_book runs (tell.PutAgain attempt files) k = k
told_book runs (tell.Stale attempt) k = k

-- what is to be asked for once more then
abbrev pub told_again : Told → Option Again → Option Again
told_again (tell.PutAgain attempt files) again =
    Some (record { attempt = attempt; files = files })
told_again tell.Nothing again = again
told_again (tell.Joined total largest cache) again = again
told_again (tell.Changed total largest cache) again = again
told_again (tell.Finish attempt outs) again = again
told_again (tell.Fail attempt why) again = again
told_again (tell.Lose attempt) again = again
told_again (tell.Stale attempt) again = again

-- what runs at a peer once it told this
abbrev pub told_runs : Told → List Run → List Run
told_runs (tell.Finish attempt outs) runs = closed_runs attempt runs
told_runs (tell.Fail attempt why) runs = closed_runs attempt runs
told_runs (tell.Lose attempt) runs = closed_runs attempt runs
told_runs tell.Nothing runs = runs
told_runs (tell.Joined total largest cache) runs = runs
told_runs (tell.Changed total largest cache) runs = runs
told_runs (tell.PutAgain attempt files) runs = runs
told_runs (tell.Stale attempt) runs = runs

-- what it offers then
abbrev pub told_stated : Told → Option Stated → Option Stated
told_stated (tell.Joined total largest cache) stated =
    Some (record { total = total; largest = largest; cache = Some cache })
told_stated (tell.Changed total largest cache) stated =
    Some (record { total = total; largest = largest; cache = Some cache })
told_stated tell.Nothing stated = stated
told_stated (tell.Finish attempt outs) stated = stated
told_stated (tell.Fail attempt why) stated = stated
told_stated (tell.Lose attempt) stated = stated
told_stated (tell.PutAgain attempt files) stated = stated
told_stated (tell.Stale attempt) stated = stated

-- A peer that was rested is still, unless it told that it lost an attempt.
abbrev pub StaysRested : Told → HealthState → HealthState → Type 0
StaysRested (tell.Lose attempt) old new = Unit {0}
StaysRested _ old new = IsRested old → IsRested new

-- The task, where there is one, runs with the attempt no more.
abbrev pub StopsWhere : Option TaskId → AttemptNo → List Held → List Held → Type 0
StopsWhere None attempt old new = new ≡ old
StopsWhere (Some id) attempt old new = Stops old new id attempt

-- What runs ran before, and is none of these runs.
abbrev pub StopsAll : List Run → List Held → List Held → Type 0
StopsAll runs old new = (id : TaskId) (attempt : AttemptNo) → RunsAs new id attempt
    → RunsAs old id attempt × (HasRun id attempt runs → ⊥)

-- Nothing changes, and nothing whole is there to be heard.
pub record IsSilent {L : Type 0} (kept kept_now : Kept) (old new : SeatState L) : Type 0 where
  pub peer_is : new ≡ old
  pub kept_is : kept_now ≡ kept
  pub part_of : front old.peer.feed.rest ≡ part
