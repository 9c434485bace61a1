-- What holds of a run over a log.
use Rattle.std.specs.Prelude.{◌≡◌, ◌<◌, ℕ, false, List, ◌++◌, Option, Result, Ok, Err, All}
use Rattle.std.specs.List.{list_any}
use Rattle.flow_types.specs.declared.plan.Plan.{Plan}
use Rattle.flow_types.specs.declared.numbers.Content.{Content}
use Rattle.flow_types.specs.declared.job.Job.{Job}
use Rattle.flow_types.specs.declared.job.Failure.{Failure}
use Rattle.flow_types.specs.declared.records.Record.{Record}
use Rattle.flow_types.specs.Serial.{Contents, Function, serial}
use Rattle.run_history.specs.declared.answers.Check.{Check}
use Rattle.outside.specs.Disk.{IsImage, Outcomes}
use Rattle.outside.specs.Files.{Files}
use Rattle.outside.specs.declared.fault.Fault.TheVariants as devices
use Rattle.file_store.specs.Outputs.{file_name}
use Rattle.desk.specs.declared.answers.StartFault.{StartFault}
use Rattle.desk.specs.declared.answers.StartFault.TheVariants as faults
use Rattle.desk.specs.Begins.{IsCutBy}
use Rattle.desk.specs.Kept.{Holds, Keeps}
use Rattle.desk.specs.Openings.{IsNoSource}
use Rattle.local_run.specs.declared.halt.Halt.{Halt}
use Rattle.local_run.specs.declared.halt.Halt.TheVariants as halts
use Rattle.local_run.specs.declared.ended.Stopped.{Stopped}
use Rattle.local_run.specs.declared.ended.Stopped.TheVariants as stopped
use Rattle.local_run.specs.Course.{FailsHonestly, IsUnmade}
use Rattle.local_run.specs.Losses.{is_lost}

-- A file that is present holds what was logged.
abbrev pub Held : Plan → ℕ → Content → Option (List ℕ) → Type 0
Held P f content file = Holds content file

-- It holds what was logged, and what the serial run leaves.
abbrev pub SerialFits : Function → Contents → Plan → ℕ → Content → Option (List ℕ) → Type 0
SerialFits gives sources P f content file = Holds content file × (file ≡ serial P gives sources f)

-- Each image keeps these records.
abbrev pub IsKeeping : Plan → List ℕ → List Record → Outcomes → Type 0
IsKeeping P log H outcomes = (image : Files) → IsImage outcomes image → Keeps Held P log H image

-- Each image keeps these records, with the contents of the serial run.
abbrev pub IsStanding : Function → Contents → Plan → List ℕ → List Record → Outcomes → Type 0
IsStanding gives sources P log H outcomes = (image : Files) → IsImage outcomes image → Keeps (SerialFits gives sources) P log H image

-- the contents of the sources, as reads give them
abbrev pub read_sources : Plan → Files → Contents
read_sources P files f = files (file_name P f)

-- how a run ended that was started
abbrev pub ended_by : Result Check Halt → Result Check Stopped
ended_by (Ok check) = Ok check
ended_by (Err halt) = Err (stopped.Halted halt)

-- The run may have stopped in the midst of an append: its site failed, or memory was wanting.
abbrev pub IsCutRun : Result Check Stopped → Type 0
IsCutRun (Ok check) = ⊥
IsCutRun (Err (stopped.Refused why)) = IsCutBy why
IsCutRun (Err (stopped.Halted (halts.Damaged file logged found))) = ⊥
IsCutRun (Err (stopped.Halted halts.Runner)) = ⊥
IsCutRun (Err (stopped.Halted halts.Site)) = Unit {0}
IsCutRun (Err (stopped.Halted halts.Memory)) = Unit {0}
IsCutRun (Err stopped.Hall) = ⊥
IsCutRun (Err (stopped.Unheard fault)) = ⊥
IsCutRun (Err (stopped.Unopened fault)) = Unit {0}

-- The start of the run was cut short: its site failed, or memory was wanting.
abbrev pub IsCutAtStart : Result Check Stopped → Type 0
IsCutAtStart (Ok check) = ⊥
IsCutAtStart (Err (stopped.Refused why)) = IsCutBy why
IsCutAtStart (Err (stopped.Halted halt)) = ⊥
IsCutAtStart (Err stopped.Hall) = ⊥
IsCutAtStart (Err (stopped.Unheard fault)) = ⊥
IsCutAtStart (Err (stopped.Unopened fault)) = ⊥

-- The run was started, and stopped in no append.
abbrev pub IsClosedRun : Result Check Stopped → Type 0
IsClosedRun (Ok check) = Unit {0}
IsClosedRun (Err (stopped.Refused why)) = ⊥
IsClosedRun (Err (stopped.Halted (halts.Damaged file logged found))) = Unit {0}
IsClosedRun (Err (stopped.Halted halts.Runner)) = Unit {0}
IsClosedRun (Err (stopped.Halted halts.Site)) = ⊥
IsClosedRun (Err (stopped.Halted halts.Memory)) = ⊥
IsClosedRun (Err stopped.Hall) = Unit {0}
IsClosedRun (Err (stopped.Unheard fault)) = ⊥
IsClosedRun (Err (stopped.Unopened fault)) = ⊥

-- The records of the log were looked at, and nothing was wrong with them.
abbrev pub IsAdmitted : Result Check Stopped → Type 0
IsAdmitted (Ok check) = Unit {0}
IsAdmitted (Err (stopped.Refused (faults.OtherFlow logged found))) = ⊥
IsAdmitted (Err (stopped.Refused (faults.NotLegal at))) = ⊥
IsAdmitted (Err (stopped.Refused faults.Memory)) = ⊥
IsAdmitted (Err (stopped.Refused why)) = Unit {0}
IsAdmitted (Err (stopped.Halted halt)) = Unit {0}
IsAdmitted (Err stopped.Hall) = Unit {0}
IsAdmitted (Err (stopped.Unheard fault)) = Unit {0}
IsAdmitted (Err (stopped.Unopened fault)) = Unit {0}

-- The name is neither the log's nor that of a file that a rule makes. Where the start was cut short it isn't that of a source either.
abbrev pub IsSparedName : Plan → List ℕ → Result Check Stopped → List ℕ → Type 0
IsSparedName P log how m = IsUnmade P log m × (IsCutAtStart how → IsNoSource P m)

-- More records stand behind these.
abbrev pub BeginsWith : List Record → List Record → Type 0
BeginsWith H all = (more : List Record) × (all ≡ H ++ more)

-- More records stand behind these, and none of those gives an attempt up.
abbrev pub LosesNone : List Record → List Record → Type 0
LosesNone H all = (more : List Record) × (all ≡ H ++ more) × (list_any is_lost more ≡ false)

-- The records are these and more. Where there is trust each failure among those is one that the rule's job over the serial run's contents may fail with.
pub record Adds (trust : Type 0) (gives : Function) (may_fail : Job → Failure → Type 0) (sources : Contents) (P : Plan) (H all : List Record) : Type 0 where
  pub more : List Record
  pub are : all ≡ H ++ more
  pub honest : trust → All (FailsHonestly P may_fail (serial P gives sources)) more

-- A run stops by its site or its runner only where that object's count rose.
abbrev pub HasCauses : ℕ → ℕ → ℕ → ℕ → Result Check Stopped → Type 0
HasCauses site_before site_now runner_before runner_now (Ok check) = Unit {0}
HasCauses site_before site_now runner_before runner_now (Err (stopped.Refused (faults.Site before after))) = site_before < site_now
HasCauses site_before site_now runner_before runner_now (Err (stopped.Refused why)) = Unit {0}
HasCauses site_before site_now runner_before runner_now (Err (stopped.Halted (halts.Damaged file logged found))) = Unit {0}
HasCauses site_before site_now runner_before runner_now (Err (stopped.Halted halts.Runner)) = runner_before < runner_now
HasCauses site_before site_now runner_before runner_now (Err (stopped.Halted halts.Site)) = site_before < site_now
HasCauses site_before site_now runner_before runner_now (Err (stopped.Halted halts.Memory)) = Unit {0}
HasCauses site_before site_now runner_before runner_now (Err stopped.Hall) = Unit {0}
HasCauses site_before site_now runner_before runner_now (Err (stopped.Unheard fault)) = Unit {0}
HasCauses site_before site_now runner_before runner_now (Err (stopped.Unopened devices.Failed)) = site_before < site_now
HasCauses site_before site_now runner_before runner_now (Err (stopped.Unopened devices.Memory)) = Unit {0}

-- The run didn't start.
abbrev pub IsRefusedRun : Result Check Stopped → Type 0
IsRefusedRun (Ok check) = ⊥
IsRefusedRun (Err (stopped.Refused why)) = Unit {0}
IsRefusedRun (Err (stopped.Halted halt)) = ⊥
IsRefusedRun (Err stopped.Hall) = ⊥
IsRefusedRun (Err (stopped.Unheard fault)) = Unit {0}
IsRefusedRun (Err (stopped.Unopened fault)) = Unit {0}

-- The run didn't start, and no hall was asked for anything.
abbrev pub IsUnmetRun : Result Check Stopped → Type 0
IsUnmetRun (Ok check) = ⊥
IsUnmetRun (Err (stopped.Refused why)) = Unit {0}
IsUnmetRun (Err (stopped.Halted halt)) = ⊥
IsUnmetRun (Err stopped.Hall) = ⊥
IsUnmetRun (Err (stopped.Unheard fault)) = ⊥
IsUnmetRun (Err (stopped.Unopened fault)) = ⊥

-- The run didn't start, since its records are of another plan or may not stand so.
abbrev pub IsEarlyBy : StartFault → Type 0
IsEarlyBy (faults.OtherFlow logged found) = Unit {0}
IsEarlyBy (faults.NotLegal at) = Unit {0}
IsEarlyBy why = ⊥

-- The run stopped, or wasn't opened, since the place where peers come failed.
abbrev pub IsHallEnd : Result Check Stopped → Type 0
IsHallEnd (Ok check) = ⊥
IsHallEnd (Err (stopped.Refused why)) = ⊥
IsHallEnd (Err (stopped.Halted halt)) = ⊥
IsHallEnd (Err stopped.Hall) = Unit {0}
IsHallEnd (Err (stopped.Unheard devices.Failed)) = Unit {0}
IsHallEnd (Err (stopped.Unheard devices.Memory)) = ⊥
IsHallEnd (Err (stopped.Unopened fault)) = ⊥

-- the same of how a run ended
abbrev pub IsEarlyRun : Result Check Stopped → Type 0
IsEarlyRun (Ok check) = ⊥
IsEarlyRun (Err (stopped.Refused why)) = IsEarlyBy why
IsEarlyRun (Err (stopped.Halted halt)) = ⊥
IsEarlyRun (Err stopped.Hall) = ⊥
IsEarlyRun (Err (stopped.Unheard fault)) = ⊥
IsEarlyRun (Err (stopped.Unopened fault)) = ⊥
