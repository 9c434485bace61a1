-- What a run has come to while its attempts run.
use Rattle.std.specs.Prelude.{◌≡◌, ◌≢◌, ◌≤◌, ◌<◌, ◌+◌, ◌++◌, ◌∷◌, [], ℕ, true, false, List, Option, Some, None, Result, Ok, Err, IfErr, OnOk, length, map, slice_get}
use Rattle.std.specs.List.{list_any}
use Rattle.flow_types.specs.declared.plan.Plan.{Plan}
use Rattle.flow_types.specs.declared.plan.Rule.{Rule}
use Rattle.flow_types.specs.declared.numbers.AttemptNo.{AttemptNo}
use Rattle.flow_types.specs.declared.job.Job.{Job}
use Rattle.flow_types.specs.declared.job.Failure.{Failure}
use Rattle.flow_types.specs.declared.job.Outcome.{Outcome}
use Rattle.flow_types.specs.declared.job.Start.{Start}
use Rattle.flow_types.specs.declared.records.Record.{Record}
use Rattle.flow_types.specs.Serial.{Contents, Function, job_of, serial}
use Rattle.run_history.specs.declared.moves.Move.{Move}
use Rattle.run_history.specs.Admissions.{Admitting}
use Rattle.run_history.specs.Answers.{has_ended}
use Rattle.run_history.specs.declared.options.Options.{Options}
use Rattle.run_history.specs.Links.{may_run_on, names_link, records_of}
use Rattle.run_history.specs.Storage.{running_rules}
use Rattle.outside.specs.Disk.{Outcomes}
use Rattle.outside.specs.Files.{Files}
use Rattle.outside.specs.Jobs.{IsShaped, IsSuccess}
use Rattle.worker_pool.specs.declared.hand.Tally.{Tally}
use Rattle.worker_pool.specs.Courses.{EndsAsTold, IfRun}
use Rattle.desk.specs.declared.attempt.Attempt.{Attempt}
use Rattle.desk.specs.State.{DeskState, IsFine, runs_with}
use Rattle.desk.specs.Tasks.{want_at}
use Rattle.local_run.specs.Course.{Closed, GoesOn, HaltsBy, HasNothing, IsHalt}
use Rattle.local_run.specs.Ends.{IsApart, IsFoundDamaged, IsSureHalt, IsWholeHalt, LogsFailures, failed_count, records_due}
use Rattle.local_run.specs.declared.halt.Halt.{Halt}
use Rattle.local_run.specs.declared.halt.Halt.TheVariants as halts

-- ---- what a pool's outcomes tell

-- each outcome that fits has the shape of its job
abbrev pub IsShapedPool : (Job → Outcome → Type 0) → Type 0
IsShapedPool fits = (job : Job) (outcome : Outcome) → fits job outcome → IfRun (IsShaped job) outcome

-- each outcome that fits is a success
abbrev pub IsSurePool : (Job → Outcome → Type 0) → Type 0
IsSurePool fits = (job : Job) (outcome : Outcome) → fits job outcome → IsSuccess outcome

-- each outcome that fits the job is what the commands say
abbrev pub ToldOf : Function → (Job → Failure → Type 0) → (Job → Outcome → Type 0) → Job → Type 0
ToldOf gives may_fail fits job = (outcome : Outcome) → fits job outcome → EndsAsTold gives may_fail job outcome

-- ---- attempts and their starts

-- the attempts that run, and why the run stopped, if it did
pub record HeldState : Type 0 where
  pub attempts : List Attempt
  pub halt : Option Halt

-- no attempt in the list has this number
abbrev pub NoneHas : AttemptNo → List Attempt → Type 0
NoneHas number [] = Unit {0}
NoneHas number (a ∷ attempts) = (a.number ≢ number) × NoneHas number attempts

-- an attempt of this number is in the list
abbrev pub IsHeld : AttemptNo → List Attempt → Type 0
IsHeld number attempts = (front : List Attempt) × (a : Attempt) × (back : List Attempt) × (attempts ≡ front ++ a ∷ back) × (a.number ≡ number)

-- The job wants the outputs of the rule, and where there is trust it is the rule's over the serial run's contents.
pub record IsJobAt (P : Plan) (trust : Type 0) (contents : Contents) (rule : ℕ) (job : Job) : Type 0 where
  pub wants : (row : Rule) → slice_get P.rules rule ≡ Some row → job.outputs ≡ map (want_at P) row.outputs
  pub due : trust → (row : Rule) → slice_get P.rules rule ≡ Some row → job ≡ job_of P row contents

-- The outcome may be one of the rule: it has the shape of a job that wants the rule's outputs, and where there is trust it is what the commands say of the rule's job over the serial run's contents.
pub record IsOutcomeAt (P : Plan) (trust : Type 0) (gives : Function) (may_fail : Job → Failure → Type 0) (sources : Contents) (rule : ℕ) (outcome : Outcome) : Type 0 where
  pub shaped : (job : Job) × ((row : Rule) → slice_get P.rules rule ≡ Some row → job.outputs ≡ map (want_at P) row.outputs) × IfRun (IsShaped job) outcome
  pub told : trust → (row : Rule) → slice_get P.rules rule ≡ Some row → EndsAsTold gives may_fail (job_of P row (serial P gives sources)) outcome

-- The attempt is at a rule of the plan, and where the desk works it runs.
pub record RunsAt (P : Plan) (fine : Type 0) (H : List Record) (a : Attempt) : Type 0 where
  pub rule : a.rule.0 < length P.rules
  pub runs : fine → runs_with H a.rule.0 a.number.0 a.link.0 ≡ true

-- These attempts are those of the starts, in their order: each runs, no later one has its number, and the start has its number and a job of its rule.
abbrev pub Matches : Plan → Type 0 → List Record → Type 0 → Contents → List Attempt → List Start → Type 0
Matches P fine H trust contents [] [] = Unit {0}
Matches P fine H trust contents [] (start ∷ starts) = ⊥
Matches P fine H trust contents (a ∷ attempts) [] = ⊥
Matches P fine H trust contents (a ∷ attempts) (start ∷ starts) =
    RunsAt P fine H a × NoneHas a.number attempts × (a.number ≡ start.attempt)
    × IsJobAt P trust contents a.rule.0 start.job × Matches P fine H trust contents attempts starts

-- the attempt that is neither held nor closed, if there is one, runs, and no held one has its number
abbrev pub IsLoose : Plan → Type 0 → List Record → List Attempt → Option Attempt → Type 0
IsLoose P fine H held None = Unit {0}
IsLoose P fine H held (Some a) = RunsAt P fine H a × NoneHas a.number held

-- how many that is
abbrev pub loose_count : Option Attempt → ℕ
loose_count None = 0
loose_count (Some a) = 1

-- each of these attempts is at the local place, where its rule may run
abbrev pub AreHere : Plan → Options → List Attempt → Type 0
AreHere P O [] = Unit {0}
AreHere P O (a ∷ attempts) = (a.link.0 ≡ 0) × (may_run_on P O a.rule.0 0 ≡ true) × AreHere P O attempts

-- ---- attempts on links

-- What goes on on links since the run began: the attempts that run there, the moves by which links joined, changed and left, and how many attempts there failed and how many were given up.
pub record AwayState : Type 0 where
  pub attempts : List Attempt
  pub links : List Move
  pub failed : ℕ
  pub lost : ℕ

-- nothing goes on on links
abbrev pub none_away : AwayState
none_away = record { attempts = []; links = []; failed = 0; lost = 0 }

-- none of these attempts is on this link
abbrev pub NoneOn : ℕ → List Attempt → Type 0
NoneOn link [] = Unit {0}
NoneOn link (a ∷ attempts) = (a.link.0 ≢ link) × NoneOn link attempts

-- no attempt on a link failed or was given up
abbrev pub IsSmooth : AwayState → Type 0
IsSmooth away = (away.failed ≡ 0) × (away.lost ≡ 0)

-- The attempt runs on a link that joined.
pub record RunsAway (P : Plan) (fine : Type 0) (M : List Move) (a : Attempt) : Type 0 where
  pub at : RunsAt P fine (records_of M) a
  pub beyond : a.link.0 ≢ 0
  pub named : list_any (names_link a.link.0) M ≡ true

-- the attempt that is neither held nor closed, if there is one, has another number
abbrev pub IsOther : AttemptNo → Option Attempt → Type 0
IsOther number None = Unit {0}
IsOther number (Some a) = a.number ≢ number

-- Each of these attempts runs on a link, and has a number of its own, among them and among those that are held or loose.
abbrev pub AreAway : Plan → Type 0 → List Move → List Attempt → Option Attempt → List Attempt → Type 0
AreAway P fine M held loose [] = Unit {0}
AreAway P fine M held loose (a ∷ away) =
    RunsAway P fine M a × NoneHas a.number held × IsOther a.number loose × NoneHas a.number away × AreAway P fine M held loose away

-- ---- why it stopped

-- This may be why a run has stopped at this desk, with so many jobs heard.
pub record MayStop {S : Type 0} (tells kept sure : Type 0) (files : S → Files) (now : DeskState S) (heard : Tally) (why : Halt) : Type 0 where
  pub is : IsHalt now.trouble 0 heard.unrun why
  pub damage : tells → IsApart now.plan now.log → IsFoundDamaged now.plan (records_of now.moves) (files now.site) why
  pub whole : tells → kept → IsWholeHalt why
  pub never : sure → IsSureHalt why

-- Nothing stopped it and the desk works as it did, or this may be why it stopped.
abbrev pub StoppedBy : {S : Type 0} → Type 0 → Type 0 → Type 0 → (S → Files) → DeskState S → DeskState S → Tally → Option Halt → Type 0
StoppedBy tells kept sure files d now heard None = IsFine now.trouble × (now.stop ≡ d.stop)
StoppedBy tells kept sure files d now heard (Some why) = MayStop tells kept sure files now heard why

-- nothing stopped it
abbrev pub IsGoing : Option Halt → Type 0
IsGoing None = Unit {0}
IsGoing (Some why) = ⊥

-- what a call's answer makes of why a run stopped
abbrev pub halt_after : {A : Type 0} → Result A Halt → Option Halt → Option Halt
halt_after (Ok done) halt = halt
halt_after (Err why) halt = Some why

-- memory was wanting
abbrev pub IsWant : {A : Type 0} → Result A Halt → Type 0
IsWant (Ok done) = ⊥
IsWant (Err (halts.Damaged file logged found)) = ⊥
IsWant (Err halts.Runner) = ⊥
IsWant (Err halts.Site) = ⊥
IsWant (Err halts.Memory) = Unit {0}

-- the same of why a run stopped
abbrev pub IsWantHalt : Option Halt → Type 0
IsWantHalt None = ⊥
IsWantHalt (Some (halts.Damaged file logged found)) = ⊥
IsWantHalt (Some halts.Runner) = ⊥
IsWantHalt (Some halts.Site) = ⊥
IsWantHalt (Some halts.Memory) = Unit {0}

-- how a run ended that stopped for this, if it did
abbrev pub settled : Option Halt → Result (Unit {0}) Halt
settled None = Ok tt
settled (Some why) = Err why

-- What a run has come to since its desk was d: the attempts that are held are those of the starts that wait, at the local place, these, the loose one and those on links run and no others do, of those that were heard so many failed and weren't run, each failure is logged, here and on links, and where it stopped this is why.
pub record Underway {S : Type 0} (trust : Type 0) (gives : Function) (may_fail : Job → Failure → Type 0) (sources : Contents) (tells kept sure : Type 0) (files : S → Files) (may_leave : S → Outcomes) (moment : S → ℕ)
    (images_since : S → ℕ → Files → Type 0) (away : AwayState) (d now : DeskState S) (held : List Attempt) (waiting : List Start) (loose : Option Attempt) (heard : Tally) (halt : Option Halt) : Type 0 where
  pub goes : GoesOn trust gives may_fail sources tells files may_leave moment images_since away.links d now
  pub matches : Matches now.plan (IsFine now.trouble) (records_of now.moves) trust (serial now.plan gives sources) held waiting
  pub taken : IsLoose now.plan (IsFine now.trouble) (records_of now.moves) held loose
  pub here : AreHere d.plan d.options held
  pub beyond : AreAway now.plan (IsFine now.trouble) now.moves held loose away.attempts
  pub all : IsFine now.trouble → length (running_rules now.plan (records_of now.moves)) ≤ length held + loose_count loose + length away.attempts
  pub stopped : StoppedBy tells kept sure files d now heard halt
  pub failures : IsFine now.trouble → failed_count (records_of now.moves) ≡ failed_count (records_of d.moves) + heard.failed + away.failed
  pub unended : has_ended (records_of d.moves) ≡ false → has_ended (records_of now.moves) ≡ false
  pub never : sure → heard.failed ≡ 0
  pub due : IsGoing halt → sure → IsSmooth away → records_due now.plan (records_of now.moves) ≤ records_due d.plan (records_of d.moves) + length held + loose_count loose + length away.attempts

-- What a run comes to whose runners rise from these counts to those: nothing runs, a claim gives no rule, or it stopped, and this is why.
pub record ComesTo {S B : Type 0} (A : Admitting) (trust : Type 0) (gives : Function) (may_fail : Job → Failure → Type 0) (sources : Contents) (tells kept sure : Type 0) (files : S → Files) (may_leave : S → Outcomes) (moment : S → ℕ)
    (images_since : S → ℕ → Files → Type 0) (d after : DeskState S) (count count_now failures failures_now : ℕ) (result : Result B Halt) : Type 0 where
  pub goes : GoesOn trust gives may_fail sources tells files may_leave moment images_since [] d after
  pub idle : IsFine after.trouble → length (running_rules after.plan (records_of after.moves)) ≤ 0
  pub closed : Closed d after result
  pub halts : HaltsBy after.trouble count count_now result
  pub damage : IfErr result (λ why. tells → IsApart after.plan after.log → IsFoundDamaged after.plan (records_of after.moves) (files after.site) why)
  pub whole : IfErr result (λ why. tells → kept → IsWholeHalt why)
  pub never : IfErr result (λ why. sure → IsSureHalt why)
  pub later : count ≤ count_now
  pub risen : failures ≤ failures_now
  pub failed : IsFine after.trouble → (IsWant result → ⊥) → LogsFailures (records_of d.moves) (records_of after.moves) failures failures_now
  pub unended : has_ended (records_of d.moves) ≡ false → has_ended (records_of after.moves) ≡ false
  pub due : OnOk result (sure → records_due after.plan (records_of after.moves) ≤ records_due d.plan (records_of d.moves))
  pub none : OnOk result (sure → failures_now ≡ failures)
  pub rests : OnOk result (HasNothing A after)
