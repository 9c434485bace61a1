-- What a course is asked and told, in order, and what it may be told.
use Rattle.std.specs.Prelude.{◌≡◌, ◌≢◌, ◌⊎◌, ◌≤◌, ◌<◌, ◌+◌, ℕ, Bool, true, false, List, [], ◌∷◌, ◌++◌, length, sum_by}
use Rattle.flow_types.specs.declared.numbers.AttemptNo.{AttemptNo}
use Rattle.flow_types.specs.declared.job.Job.{Job}
use Rattle.flow_types.specs.declared.job.Failure.{Failure}
use Rattle.flow_types.specs.declared.job.Outcome.{Outcome}
use Rattle.flow_types.specs.declared.job.Outcome.TheVariants.{Success, Failed, NotRun}
use Rattle.flow_types.specs.Serial.{Function, given_by}
use Rattle.outside.specs.Jobs.{IsShaped, IsHonest, IsSuccess}
use Rattle.flow_types.specs.declared.job.Start.{Start}
use Rattle.flow_types.specs.declared.job.Report.{Report}
use Rattle.worker_pool.specs.declared.hand.Tally.{Tally}
use Rattle.worker_pool.specs.declared.step.Step.{Step}
use Rattle.worker_pool.specs.declared.step.Step.TheVariants.{Give, Look, Done}
use Rattle.worker_pool.specs.declared.step.Event.{Event}
use Rattle.worker_pool.specs.declared.step.Event.TheVariants.{Asked, Heard}
use Rattle.worker_pool.specs.Tallies.{none, plus, tally_of}

-- a fact of what was run; a job that wasn't run has it
abbrev pub IfRun : (Outcome → Type 0) → Outcome → Type 0
IfRun fact (Success contents) = fact (Success contents)
IfRun fact (Failed why) = fact (Failed why)
IfRun fact NotRun = Unit {0}

module _ (gives : Function) (may_fail : Job → Failure → Type 0) where
  -- Where it was run, it ended as the commands say.
  abbrev pub EndsAsTold : Job → Outcome → Type 0
  EndsAsTold job outcome = IfRun (IsHonest (given_by gives job) (may_fail job)) outcome

  -- The outcome fits the job: its shape does, and where the job is trusted it is what the commands say.
  abbrev pub Fits : (Job → Type 0) → Job → Outcome → Type 0
  Fits trust job outcome = IfRun (IsShaped job) outcome × (trust job → EndsAsTold job outcome)

  -- what is reported of a job that a runner in this state was handed: as it tells, and a success where it is sure
  abbrev pub Answers : {R : Type 0} → (R → Job → Type 0) → (R → Type 0) → R → Job → Outcome → Type 0
  Answers {R} tells sure runner job outcome =
      IfRun (IsShaped job) outcome × (tells runner job → EndsAsTold job outcome) × (sure runner → IsSuccess outcome)

  -- It fits, and where the runners are sure it is a success.
  abbrev pub Heeds : (Job → Type 0) → Type 0 → Job → Outcome → Type 0
  Heeds trust sure job outcome = Fits trust job outcome × (sure → IsSuccess outcome)

  -- what is reported of this runner's jobs fits
  abbrev pub MayReport : {R : Type 0} → (R → Job → Type 0) → (R → Type 0) → (Job → Outcome → Type 0) → R → Type 0
  MayReport {R} tells sure fits runner =
      (job : Job) (outcome : Outcome) → Answers tells sure runner job outcome → fits job outcome

-- A runner goes on to tell what it told and to be sure.
abbrev pub StaysTrue : {R : Type 0} → (R → Job → Type 0) → (R → Type 0) → R → R → Type 0
StaysTrue tells sure old new = ((job : Job) → tells old job → tells new job) × (sure old → sure new)

-- What a step gives is due then, and none that was due has its attempt.
abbrev pub Gives : {C : Type 0} → (C → Start → Type 0) → C → Step → C → Type 0
Gives due old (Give start) new = due new start × ((other : Start) → due old other → other.attempt ≢ start.attempt)
Gives due old Look new = Unit {0}
Gives due old Done new = Unit {0}

-- nothing more is wished
abbrev pub IsDone : Step → Type 0
IsDone (Give start) = ⊥
IsDone Look = ⊥
IsDone Done = Unit {0}

-- These calls, in order, take the course from one state to the other.
abbrev pub Runs : {C : Type 0} → (C → Step → C → Type 0) → (C → Report → C → Type 0) → C → List Event → C → Type 0
Runs {C} asked told old [] new = old ≡ new
Runs {C} asked told old (Asked step ∷ events) new = (next : C) × asked old step next × Runs asked told next events new
Runs {C} asked told old (Heard report ∷ events) new =
    (next : C) × told old report next × Runs asked told next events new

-- the list without one place of it
abbrev pub TakesOut : {T : Type 0} → T → List T → List T → Type 0
TakesOut {T} x old new = (front : List T) × (back : List T) × (old ≡ front ++ x ∷ back) × (new ≡ front ++ back)

-- no start in the list has this attempt
abbrev pub NoneHas : AttemptNo → List Start → Type 0
NoneHas attempt [] = Unit {0}
NoneHas attempt (start ∷ starts) = (start.attempt ≢ attempt) × NoneHas attempt starts

-- The calls are in order: nothing is asked after Done, no start that is given has the attempt of one that waits, and each report is of a start that waits, whose job it fits and which waits no more.
-- The first two arguments say whether Done came before and what waited then, the last two how that is after the calls.
abbrev pub Plays : (Job → Outcome → Type 0) → Bool → List Start → List Event → Bool → List Start → Type 0
Plays fits done waiting [] last left = (done ≡ last) × (waiting ≡ left)
Plays fits done waiting (Asked (Give start) ∷ events) last left =
    (done ≡ false) × NoneHas start.attempt waiting × Plays fits false (waiting ++ start ∷ []) events last left
Plays fits done waiting (Asked Look ∷ events) last left = (done ≡ false) × Plays fits false waiting events last left
Plays fits done waiting (Asked Done ∷ events) last left = (done ≡ false) × Plays fits true waiting events last left
Plays fits done waiting (Heard report ∷ events) last left =
    (start : Start) × (rest : List Start) × TakesOut start waiting rest
    × (start.attempt ≡ report.attempt) × fits start.job report.outcome × Plays fits done rest events last left

-- how many of the jobs that were heard weren't run, and how many failed
abbrev pub heard_of : List Event → Tally
heard_of [] = none
heard_of (Asked step ∷ events) = heard_of events
heard_of (Heard report ∷ events) = plus (tally_of report.outcome) (heard_of events)
