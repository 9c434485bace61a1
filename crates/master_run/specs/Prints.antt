-- What was printed.
use Rattle.std.specs.Prelude.{◌≡◌, ℕ, ◌<◌, Bool, true, false, List, length, ◌++◌, take, codes, Result, Ok, Err, IsErrOf, IsTrue, IsFalse, if◌then◌else◌}
use Rattle.std.specs.Fmt.{decimal}
use Rattle.flow_types.specs.declared.plan.Plan.{Plan}
use Rattle.flow_types.specs.declared.records.Record.{Record}
use Rattle.run_history.specs.Storage.{stored}
use Rattle.outside.specs.declared.fault.Fault.{Fault}
use Rattle.outside.specs.declared.fault.Fault.TheVariants as faults
use Rattle.log_text.specs.Lines.{log_lines}
use Rattle.command_words.specs.declared.options.Options.{Options}
use Rattle.report.specs.declared.cause.Cause.{Cause}
use Rattle.report.specs.declared.cause.Cause.TheVariants.{SinkFault, Memory}
use Rattle.report.specs.declared.cause.Kind.{Kind}
use Rattle.report.specs.declared.cause.Kind.TheVariants.{LogPrinted, Completed, RuleFailed, SinkBroke, WrongFile, NoMemory}
use Rattle.report.specs.Causes.{is_end, kind_of}
use Rattle.report.specs.Lines.{line_of}
use Rattle.master_run.specs.Words.{makes_up}

-- the log itself is printed
abbrev pub is_log : Kind → Bool
is_log LogPrinted = true
is_log _ = false

-- every rule is complete
abbrev pub is_completed : Kind → Bool
is_completed Completed = true
is_completed _ = false

-- the second line of a flow that is made up: how many rules it has, and how many bytes its made files have that are present by the records
abbrev pub summary_line : Plan → List Record → List ℕ
summary_line P H = codes "makeflow: generated " ++ decimal (length P.rules) ++ (codes " rules, " ++ decimal (stored P H) ++ codes " bytes\n")

-- what is to be printed of a complete run: its line, and where the words make the flow up a second one
abbrev pub end_text : Bool → Plan → List Record → Cause → List ℕ
end_text is_made_up P H cause = if is_made_up then line_of P cause ++ summary_line P H else line_of P cause

-- what is to be printed of a call by what its words choose: the lines of the log, or the line of its cause, behind which a second one stands where a flow that is made up is complete
abbrev pub text_of : Result Options Cause → Plan → List Record → Cause → List ℕ
text_of choice P H cause =
    if is_log (kind_of cause) then log_lines P H
    else (if is_completed (kind_of cause) then end_text (makes_up choice) P H cause else line_of P cause)

-- a cause whose text speaks of the plan
abbrev pub is_of_plan : Kind → Bool
is_of_plan LogPrinted = true
is_of_plan Completed = true
is_of_plan RuleFailed = true
is_of_plan WrongFile = true
is_of_plan _ = false

-- whether memory was wanting
abbrev pub is_no_memory : Kind → Bool
is_no_memory NoMemory = true
is_no_memory _ = false

-- how a call ends whose own text may not have been printed
abbrev pub is_unprinted : Kind → Bool
is_unprinted SinkBroke = true
is_unprinted NoMemory = true
is_unprinted _ = false

-- What was printed over this plan and these records: the text of the cause or that of want of memory, whole unless the sink's count rose or memory
-- was wanting, and then that of the cause that stands. The end of what was asked for stands only where its text was printed whole, and unless the
-- sink's fault or want of memory stands, no other text was begun.
pub record Told (choice : Result Options Cause) (P : Plan) (H : List Record) (count_before count_after : ℕ) (old new : List ℕ) (cause stands : Cause) : Type 0 where
  pub told : Cause
  pub is_own : IsTrue (is_of_plan (kind_of told)) → told ≡ cause
  pub is_standing : IsFalse (is_unprinted (kind_of stands)) → told ≡ stands
  pub whole : count_after ≡ count_before → IsFalse (is_no_memory (kind_of stands)) → (told ≡ stands) × (new ≡ old ++ text_of choice P H told)
  pub of_end : IsTrue (is_end (kind_of stands)) → (told ≡ stands) × (new ≡ old ++ text_of choice P H told)
  pub part : (n : ℕ) × (new ≡ old ++ take n (text_of choice P H told))

-- What was printed: the text of a cause, whole unless the sink's count rose or memory was wanting, and then the call's own. The end of what was
-- asked for is answered only where its text was printed whole, and unless the call ends by the sink's fault or want of memory, no other text was
-- begun.
pub record Prints (choice : Result Options Cause) (is_planned : Plan → Type 0) (H : List Record) (count_before count_after : ℕ) (old new : List ℕ) (cause : Cause) : Type 0 where
  pub plan : Plan
  pub told : Cause
  pub is_read : IsTrue (is_of_plan (kind_of told)) → is_planned plan
  pub is_standing : IsFalse (is_unprinted (kind_of cause)) → told ≡ cause
  pub whole : count_after ≡ count_before → IsFalse (is_no_memory (kind_of cause)) → (told ≡ cause) × (new ≡ old ++ text_of choice plan H told)
  pub of_end : IsTrue (is_end (kind_of cause)) → (told ≡ cause) × (new ≡ old ++ text_of choice plan H told)
  pub part : (n : ℕ) × (new ≡ old ++ take n (text_of choice plan H told))

-- The cause once its text was printed: want of memory stands last, and the sink's fault takes the place of the end of what was asked for alone.
abbrev pub printed_cause : ℕ → ℕ → Cause → Result (Unit {0}) Fault → Cause
printed_cause before after cause (Ok done) = cause
printed_cause before after cause (Err faults.Failed) = if is_end (kind_of cause) then SinkFault before after else cause
printed_cause before after cause (Err faults.Memory) = Memory

-- Some answer of the sink led from the one cause to the other.
pub record IsPrinted (before after : ℕ) (cause stands : Cause) : Type 0 where
  pub printed : Result (Unit {0}) Fault
  pub is_cause : stands ≡ printed_cause before after cause printed
  pub rose : IsErrOf printed faults.Failed → before < after
