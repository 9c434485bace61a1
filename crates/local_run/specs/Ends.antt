-- How a run ends.
use Rattle.std.specs.Prelude.{◌≡◌, ◌≢◌, ◌≤◌, ◌<◌, ◌+◌, ◌*◌, ℕ, Bool, true, false, not, List, [], ◌∷◌, ◌++◌, length, Option, Some, None, Result, Ok, Err, map, count_by}
use Rattle.flow_types.specs.declared.plan.Plan.{Plan}
use Rattle.flow_types.specs.declared.numbers.Content.{Content}
use Rattle.flow_types.specs.declared.numbers.FileNo.{FileNo}
use Rattle.flow_types.specs.declared.records.Record.{Record}
use Rattle.flow_types.specs.declared.records.Record.TheVariants as records
use Rattle.flow_types.specs.Plans.{file_numbers, is_empty, rule_numbers}
use Rattle.run_history.specs.declared.options.Options.{Options}
use Rattle.run_history.specs.declared.moves.Move.TheVariants as moves
use Rattle.run_history.specs.declared.states.Found.{Found}
use Rattle.run_history.specs.declared.answers.Check.{Check}
use Rattle.run_history.specs.declared.answers.Check.TheVariants as checks
use Rattle.run_history.specs.History.{is_opening, part, since_opening}
use Rattle.run_history.specs.States.{file_state, limit_of, retries_of}
use Rattle.run_history.specs.Storage.{is_complete}
use Rattle.run_history.specs.Laws.{IsPresent}
use Rattle.run_history.specs.Links.{amounts_on, is_at_most, needs_of}
use Rattle.run_history.specs.Answers.{first_of}
use Rattle.outside.specs.Files.{Files}
use Rattle.outside.specs.declared.fault.Fault.TheVariants as devices
use Rattle.file_store.specs.Outputs.{file_name}
use Rattle.desk.specs.declared.answers.StartFault.{StartFault}
use Rattle.desk.specs.declared.answers.StartFault.TheVariants as faults
use Rattle.desk.specs.Begins.{IsUncutBy}
use Rattle.desk.specs.Inputs.{Finds}
use Rattle.desk.specs.Openings.{early_fault, file_fault}
use Rattle.desk.specs.State.{DeskState}
use Rattle.local_run.specs.Collecting.{drops_due}
use Rattle.local_run.specs.declared.halt.Halt.{Halt}
use Rattle.local_run.specs.declared.halt.Halt.TheVariants as halts
use Rattle.local_run.specs.declared.ended.Stopped.{Stopped}
use Rattle.local_run.specs.declared.ended.Stopped.TheVariants as stopped

-- what is wrong with the least file at which something is, as a run begins over these records
abbrev pub first_file_fault : Plan → List Record → Files → Option StartFault
first_file_fault P H files = first_of (map (file_fault P (is_empty (part H)) (file_state P H) files) (file_numbers P))

-- why a run doesn't start: for its records, or else for a file
abbrev pub run_fault : Plan → Options → List Record → Files → Option StartFault
run_fault P O H files = first_of (early_fault P O H ∷ first_file_fault P H files ∷ [])

-- A run starts only where nothing stands in its way, and is refused for what does. The site's failure and want of memory may refuse it in any case.
abbrev pub StartEnds : Option StartFault → Result Check Stopped → Type 0
StartEnds expected (Ok check) = expected ≡ None
StartEnds expected (Err (stopped.Refused found)) = IsUncutBy found → expected ≡ Some found
StartEnds expected (Err (stopped.Halted halt)) = expected ≡ None
StartEnds expected (Err stopped.Hall) = expected ≡ None
StartEnds expected (Err (stopped.Unheard fault)) = expected ≡ None
StartEnds expected (Err (stopped.Unopened fault)) = expected ≡ None

-- All rules run here, and none needs more than there is here.
pub record FitsHere (P : Plan) (O : Options) : Type 0 where
  pub here : O.wq ≡ false
  pub needs : (r : ℕ) → r < length P.rules → is_at_most (amounts_on 0 O.local (needs_of P r)) O.local ≡ true

-- With no stop the end of a local run is one of these: for want of room only where there is a limit, which it names.
abbrev pub IsRunEnd : Option ℕ → Check → Type 0
IsRunEnd limit (checks.Complete collected) = Unit {0}
IsRunEnd limit (checks.CommandFailed rule why) = Unit {0}
IsRunEnd limit (checks.InputsTooLarge rule total) = Unit {0}
IsRunEnd limit (checks.LogFull records) = Unit {0}
IsRunEnd limit (checks.NoRoom rule need stored most) = limit ≡ Some most
IsRunEnd limit check = ⊥

-- All rules are complete, or there is a limit and no room.
abbrev pub IsCompleteEnd : Option ℕ → Check → Type 0
IsCompleteEnd limit (checks.Complete collected) = Unit {0}
IsCompleteEnd limit (checks.NoRoom rule need stored most) = limit ≡ Some most
IsCompleteEnd limit check = ⊥

-- no file of the plan has the log's name
abbrev pub IsApart : Plan → List ℕ → Type 0
IsApart P log = (f : ℕ) → file_name P f ≢ log

-- The records say that a file is present with a content, and this is found in its place.
abbrev pub IsDamaged : Plan → List Record → Files → FileNo → Content → Found → Type 0
IsDamaged P H files file logged found = IsPresent P H file.0 logged × Finds logged (files (file_name P file.0)) (Err found)

-- A run that stops for a damaged input has found it damaged.
abbrev pub RunDamage : Plan → List Record → Files → Result Check Stopped → Type 0
RunDamage P H files (Err (stopped.Halted (halts.Damaged file logged found))) = IsDamaged P H files file logged found
RunDamage P H files how = Unit {0}

-- It doesn't stop for a damaged input.
abbrev pub IsWholeRun : Result Check Stopped → Type 0
IsWholeRun (Err (stopped.Halted (halts.Damaged file logged found))) = ⊥
IsWholeRun how = Unit {0}

-- It ends neither by a failed command nor by the failure of its runner.
abbrev pub IsSureEnd : Result Check Stopped → Type 0
IsSureEnd (Ok (checks.CommandFailed rule why)) = ⊥
IsSureEnd (Err (stopped.Halted halts.Runner)) = ⊥
IsSureEnd how = Unit {0}

-- the command of an attempt failed
abbrev pub is_failed : Record → Bool
is_failed (records.Failed moment rule attempt why) = true
is_failed _ = false

-- how many failed commands are logged
abbrev pub failed_count : List Record → ℕ
failed_count H = count_by is_failed H

-- Of the failed commands that a runner counted, each is logged by one record more.
abbrev pub LogsFailures : List Record → List Record → ℕ → ℕ → Type 0
LogsFailures H all before now = failed_count all + before ≡ failed_count H + now

-- The count of failed commands never falls, and it rose where a run ends by one.
abbrev pub HasFailed : ℕ → ℕ → Result Check Stopped → Type 0
HasFailed before now (Ok (checks.CommandFailed rule why)) = before < now
HasFailed before now how = before ≤ now

-- The run came to its end with all rules complete, or memory was wanting, or there is a limit and no room.
abbrev pub IsDone : Option ℕ → Result Check Stopped → Type 0
IsDone limit (Ok (checks.Complete collected)) = Unit {0}
IsDone limit (Ok (checks.NoRoom rule need stored most)) = limit ≡ Some most
IsDone limit (Err (stopped.Refused faults.Memory)) = Unit {0}
IsDone limit (Err (stopped.Halted halts.Memory)) = Unit {0}
IsDone limit (Err (stopped.Unheard devices.Memory)) = Unit {0}
IsDone limit (Err (stopped.Unopened devices.Memory)) = Unit {0}
IsDone limit how = ⊥

-- The last opening of the records has these options' limit and retries.
pub record OpensBy (O : Options) (H : List Record) : Type 0 where
  pub limit : limit_of H ≡ O.limit
  pub retries : retries_of H ≡ O.retries

-- ---- of the desk of a run

-- how many rules aren't complete
abbrev pub left_count : Plan → List Record → ℕ
left_count P H = count_by (λ r. not (is_complete H r)) (rule_numbers P)

-- so many records has the log at most once each rule was started and done, and each made file dropped
abbrev pub records_due : Plan → List Record → ℕ
records_due P H = length H + 2 * left_count P H + drops_due P H

-- A run has just begun over these records, with this limit.
pub record IsFresh (limit : Option ℕ) (H : List Record) : Type 0 where
  pub since : since_opening H ≡ []
  pub limited : limit_of H ≡ limit

-- The desk was started over these records, and has one more, with which the run begins.
abbrev pub BeganOver : {S : Type 0} → DeskState S → List Record → Type 0
BeganOver d H = (d.base ≡ length H) × ((x : Record) × (is_opening x ≡ true) × (d.moves ≡ map moves.Logged (H ++ (x ∷ []))))

-- Where it is why a run stopped, a damaged input was found damaged.
abbrev pub IsFoundDamaged : Plan → List Record → Files → Halt → Type 0
IsFoundDamaged P H files (halts.Damaged file logged found) = IsDamaged P H files file logged found
IsFoundDamaged P H files halts.Runner = Unit {0}
IsFoundDamaged P H files halts.Site = Unit {0}
IsFoundDamaged P H files halts.Memory = Unit {0}

-- not that an input is damaged
abbrev pub IsWholeHalt : Halt → Type 0
IsWholeHalt (halts.Damaged file logged found) = ⊥
IsWholeHalt halts.Runner = Unit {0}
IsWholeHalt halts.Site = Unit {0}
IsWholeHalt halts.Memory = Unit {0}

-- not that the runner failed
abbrev pub IsSureHalt : Halt → Type 0
IsSureHalt (halts.Damaged file logged found) = Unit {0}
IsSureHalt halts.Runner = ⊥
IsSureHalt halts.Site = Unit {0}
IsSureHalt halts.Memory = Unit {0}

-- The runner stays sure, and counts no failed command.
pub record StaysSure (sure : Type 0) (before now : ℕ) : Type 0 where
  pub still : sure
  pub none : now ≡ before
