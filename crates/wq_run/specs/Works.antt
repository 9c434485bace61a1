-- What rounds of a run with workers come to.
use Rattle.std.specs.Prelude.{◌≡◌, ◌≤◌, ◌<◌, ◌-◌, ℕ, true, false, List, [], ◌++◌, length, Option, Some, None, Result, Ok, Err, OnOk}
use Rattle.std.specs.List.{list_all, list_any}
use Rattle.flow_types.specs.declared.job.Job.{Job}
use Rattle.flow_types.specs.declared.job.Failure.{Failure}
use Rattle.flow_types.specs.declared.records.Record.{Record}
use Rattle.flow_types.specs.Serial.{Contents, Function}
use Rattle.run_history.specs.declared.answers.Check.{Check}
use Rattle.run_history.specs.declared.answers.Stop.{Stop}
use Rattle.run_history.specs.declared.moves.Move.{Move}
use Rattle.run_history.specs.Admissions.{Admitting}
use Rattle.run_history.specs.Answers.{before_end, end_of, end_over, has_ended}
use Rattle.run_history.specs.History.{is_end}
use Rattle.run_history.specs.Links.{records_of}
use Rattle.run_history.specs.Storage.{running_rules}
use Rattle.outside.specs.Disk.{Outcomes}
use Rattle.outside.specs.Files.{Files}
use Rattle.desk.specs.State.{DeskState, IsFine}
use Rattle.local_run.specs.declared.ended.Stopped.{Stopped}
use Rattle.local_run.specs.declared.ended.Stopped.TheVariants as stopped
use Rattle.local_run.specs.declared.halt.Halt.{Halt}
use Rattle.local_run.specs.Added.{AddsBehind, RunAdds}
use Rattle.local_run.specs.Course.{GoesOn, IsHalt, begins_anew}
use Rattle.local_run.specs.Ends.{IsApart, IsFoundDamaged, IsSureHalt, IsWholeHalt}
use Rattle.local_run.specs.Links.{link_moves}
use Rattle.local_run.specs.Losses.{is_lost}
use Rattle.wq_run.specs.declared.rounds.Turn.{Turn}
use Rattle.wq_run.specs.declared.rounds.Turn.TheVariants as turns
use Rattle.wq_run.specs.Calm.{AddsWell}
use Rattle.wq_run.specs.Ends.{EndsHere, IsOver, LosesOnLinks}

-- Nothing stopped the run, and it hasn't ended.
pub record IsOn {S : Type 0} (now : DeskState S) : Type 0 where
  pub fine : IsFine now.trouble
  pub unset : now.stop ≡ None
  pub unended : has_ended (records_of now.moves) ≡ false

-- Why a run stopped, with what is known of it.
pub record HaltedBy {S : Type 0} (tells kept sure : Type 0) (files : S → Files) (now : DeskState S) (count count_now : ℕ) (why : Halt) : Type 0 where
  pub is : IsHalt now.trouble count count_now why
  pub damage : tells → IsApart now.plan now.log → IsFoundDamaged now.plan (records_of now.moves) (files now.site) why
  pub whole : tells → kept → IsWholeHalt why
  pub never : sure → IsSureHalt why

-- How a run ended, or why it stopped.
abbrev pub EndedBy : {S : Type 0} → Admitting → Type 0 → Type 0 → Type 0 → (S → Files) → ℕ → DeskState S → ℕ → ℕ → ℕ → ℕ → ℕ → ℕ → Result Check Stopped → Type 0
EndedBy A tells kept sure files limit now count count_now hall hall_now idles idles_now (Ok check) =
    IsFine now.trouble × EndsHere A now.plan now.options limit (idles_now - idles) now.moves check
EndedBy A tells kept sure files limit now count count_now hall hall_now idles idles_now (Err (stopped.Refused why)) = ⊥
EndedBy A tells kept sure files limit now count count_now hall hall_now idles idles_now (Err (stopped.Halted halt)) =
    HaltedBy tells kept sure files now count count_now halt
EndedBy A tells kept sure files limit now count count_now hall hall_now idles idles_now (Err stopped.Hall) = IsFine now.trouble × (hall < hall_now)
EndedBy A tells kept sure files limit now count count_now hall hall_now idles idles_now (Err (stopped.Unheard fault)) = ⊥
EndedBy A tells kept sure files limit now count count_now hall hall_now idles idles_now (Err (stopped.Unopened fault)) = ⊥

-- What a round of a run tells: it goes on; nobody came so often while nothing could be done; or it ended, with no stop, or stopped.
abbrev pub TurnsTo : {S : Type 0} → Admitting → Type 0 → Type 0 → Type 0 → (S → Files) → ℕ → DeskState S → ℕ → ℕ → ℕ → ℕ → ℕ → ℕ → Result Turn Stopped → Type 0
TurnsTo A tells kept sure files limit now count count_now hall hall_now idles idles_now (Ok turns.Again) = IsOn now
TurnsTo A tells kept sure files limit now count count_now hall hall_now idles idles_now (Ok (turns.Vain n)) = IsOn now × (limit ≤ n) × (n ≤ idles_now - idles)
TurnsTo {S} A tells kept sure files limit now count count_now hall hall_now idles idles_now (Ok (turns.Over check)) =
    (now.stop ≡ None) × EndedBy A tells kept sure files limit now count count_now hall hall_now idles idles_now (Ok check)
TurnsTo A tells kept sure files limit now count count_now hall hall_now idles idles_now (Err why) =
    EndedBy A tells kept sure files limit now count count_now hall hall_now idles idles_now (Err why)

-- it tells that no round follows, or none but where the run can't be stopped
abbrev pub IsLast : Turn → Type 0
IsLast turns.Again = ⊥
IsLast (turns.Vain n) = Unit {0}
IsLast (turns.Over check) = Unit {0}

-- What a round that tells this adds to these records: a run that ended adds so, and one that goes on no end.
abbrev pub TurnAdds : List Record → List Record → Result Turn Stopped → Type 0
TurnAdds H all (Ok turns.Again) = AddsBehind H all None
TurnAdds H all (Ok (turns.Vain n)) = AddsBehind H all None
TurnAdds H all (Ok (turns.Over check)) = RunAdds H all (Ok check)
TurnAdds H all (Err why) = RunAdds H all (Err why)

-- What a round of a run comes to, whose runners' and hall's counts rise so.
pub record Rounds {S : Type 0} (A : Admitting) (trust : Type 0) (gives : Function) (may_fail : Job → Failure → Type 0) (sources : Contents) (tells kept sure : Type 0) (files : S → Files) (may_leave : S → Outcomes) (moment : S → ℕ)
    (images_since : S → ℕ → Files → Type 0) (limit : ℕ) (d after : DeskState S) (count count_now failures failures_now hall hall_now idles idles_now : ℕ) (result : Result Turn Stopped) : Type 0 where
  pub links : List Move
  pub goes : GoesOn trust gives may_fail sources tells files may_leave moment images_since links d after
  pub idle : IsFine after.trouble → length (running_rules after.plan (records_of after.moves)) ≤ 0
  pub later : count ≤ count_now
  pub risen : failures ≤ failures_now
  pub met : hall ≤ hall_now
  pub looks : idles ≤ idles_now
  pub turn : TurnsTo A tells kept sure files limit after count count_now hall hall_now idles idles_now result
  pub adds : TurnAdds (records_of d.moves) (records_of after.moves) result

-- What a whole run comes to.
pub record Works {S : Type 0} (A : Admitting) (trust : Type 0) (gives : Function) (may_fail : Job → Failure → Type 0) (sources : Contents) (tells kept sure : Type 0) (files : S → Files) (may_leave : S → Outcomes) (moment : S → ℕ)
    (images_since : S → ℕ → Files → Type 0) (limit : ℕ) (d after : DeskState S) (count count_now failures failures_now hall hall_now idles idles_now : ℕ) (result : Result Check Stopped) : Type 0 where
  pub links : List Move
  pub goes : GoesOn trust gives may_fail sources tells files may_leave moment images_since links d after
  pub idle : IsFine after.trouble → length (running_rules after.plan (records_of after.moves)) ≤ 0
  pub later : count ≤ count_now
  pub risen : failures ≤ failures_now
  pub met : hall ≤ hall_now
  pub looks : idles ≤ idles_now
  pub ended : EndedBy A tells kept sure files limit after count count_now hall hall_now idles idles_now result
  pub lost : OnOk result (LosesOnLinks (records_of d.moves) (records_of after.moves))
  pub adds : RunAdds (records_of d.moves) (records_of after.moves) result

-- The answer of an end, by the moves and the stop that it found: behind it stand these moves and perhaps the end.
pub record EndsAt {S : Type 0} (after : DeskState S) (moves : List Move) (stop : Option Stop) (check : Check) : Type 0 where
  pub logged : records_of moves ≡ before_end (records_of after.moves)
  pub answer : check ≡ end_over after.plan after.options (before_end (records_of after.moves)) stop
  pub over : IsOver check
  pub more : List Move
  pub are : after.moves ≡ moves ++ more
  pub none : link_moves more ≡ []
  pub unended : has_ended (records_of moves) ≡ false
  pub ended : list_all is_end (records_of more) ≡ true
  pub same : list_any begins_anew (records_of more) ≡ false
  pub spared : list_any is_lost (records_of more) ≡ false
  pub well : AddsWell moves after.moves
  pub lost : LosesOnLinks (records_of moves) (records_of after.moves)

-- What an end made of the desk, by what it tells.
abbrev pub HasEnd : {S : Type 0} → Type 0 → Type 0 → (S → Files) → DeskState S → DeskState S → Result (Option Check) Stopped → Type 0
HasEnd tells kept files d after (Ok (Some check)) = IsFine after.trouble × (after.stop ≡ d.stop) × EndsAt after d.moves d.stop check
HasEnd tells kept files d after (Ok None) = (after ≡ d) × (IsOver (end_of d.plan d.options d.moves d.stop) → ⊥)
HasEnd tells kept files d after (Err (stopped.Refused why)) = ⊥
HasEnd tells kept files d after (Err (stopped.Halted halt)) = HaltedBy tells kept (Unit {0}) files after 0 0 halt
HasEnd tells kept files d after (Err stopped.Hall) = ⊥
HasEnd tells kept files d after (Err (stopped.Unheard fault)) = ⊥
HasEnd tells kept files d after (Err (stopped.Unopened fault)) = ⊥

-- What an end that tells this adds to these records: a run that ended adds so, and one that goes on no end.
abbrev pub EndAdds : List Record → List Record → Result (Option Check) Stopped → Type 0
EndAdds H all (Ok (Some check)) = RunAdds H all (Ok check)
EndAdds H all (Ok None) = AddsBehind H all None
EndAdds H all (Err why) = RunAdds H all (Err why)

-- What the end of a run makes of the desk: it has ended, with no stop; or nothing changed; or it stopped.
pub record EndsNow {S : Type 0} (trust : Type 0) (gives : Function) (may_fail : Job → Failure → Type 0) (sources : Contents) (tells kept : Type 0) (files : S → Files) (may_leave : S → Outcomes) (moment : S → ℕ)
    (images_since : S → ℕ → Files → Type 0) (d after : DeskState S) (result : Result (Option Check) Stopped) : Type 0 where
  pub goes : GoesOn trust gives may_fail sources tells files may_leave moment images_since [] d after
  pub idle : IsFine after.trouble → length (running_rules after.plan (records_of after.moves)) ≤ 0
  pub ends : HasEnd tells kept files d after result
  pub adds : EndAdds (records_of d.moves) (records_of after.moves) result

-- an end that was reached, as one that may be
abbrev pub with_check : Result Check Stopped → Result (Option Check) Stopped
with_check (Ok check) = Ok (Some check)
with_check (Err why) = Err why
