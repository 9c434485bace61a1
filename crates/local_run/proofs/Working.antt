-- From the last claim of a run to its end.
use Rattle.std.proofs.Common.{◌≡◌, ◌≤◌, ◌<◌, ◌+◌, ◌∙◌, ℕ, false, List, ◌++◌, length, Option, Some, None, Result, Ok, Err, sym, ap, subst, arith}
use Rattle.std.specs.Prelude.{filter, find}
use Rattle.flow_types.specs.declared.plan.Plan.{Plan}
use Rattle.flow_types.specs.declared.job.Job.{Job}
use Rattle.flow_types.specs.declared.job.Failure.{Failure}
use Rattle.flow_types.specs.declared.records.Record.{Record}
use Rattle.flow_types.specs.Plans.{IsValid, is_empty, rule_numbers}
use Rattle.flow_types.specs.Serial.{Contents, Function}
use Rattle.run_history.specs.declared.moves.Move.{Move}
use Rattle.run_history.specs.declared.options.Options.{Options}
use Rattle.run_history.specs.declared.answers.Stop.{Stop}
use Rattle.run_history.specs.declared.answers.Check.{Check}
use Rattle.run_history.specs.declared.answers.Check.TheVariants as checks
use Rattle.run_history.specs.History.{part}
use Rattle.run_history.specs.Legal.{most_records}
use Rattle.run_history.specs.Links.{records_of}
use Rattle.run_history.specs.States.{limit_of}
use Rattle.run_history.specs.Storage.{has_failed, input_bytes, ready_rules, running_rules}
use Rattle.run_history.specs.Admissions.{Admitting, claim_by}
use Rattle.run_history.specs.Answers.{end_of, has_ended, passes_inputs, rule_no}
use Rattle.outside.specs.Disk.{Outcomes}
use Rattle.outside.specs.Files.{Files}
use Rattle.desk.specs.Ends.{Ends}
use Rattle.desk.specs.Kept.{Fits, IsLegal, Keeps}
use Rattle.desk.specs.State.{DeskState}
use Rattle.local_run.specs.declared.ended.Stopped.{Stopped}
use Rattle.local_run.specs.declared.ended.Stopped.TheVariants as stopped
use Rattle.local_run.specs.declared.halt.Halt.{Halt}
use Rattle.local_run.specs.Added.{RunAdds}
use Rattle.local_run.specs.Completing.{SerialInputsFit}
use Rattle.local_run.specs.Course.{GoesOn, HasNothing}
use Rattle.local_run.specs.Ends.{FitsHere, HasFailed, IsCompleteEnd, IsFresh, IsRunEnd, LogsFailures, records_due}
use Rattle.local_run.proofs.Added.{adds_end, adds_none, end_logs, halted_none}
use Rattle.local_run.proofs.Completed.{completes_so, inputs_fit}
use Rattle.local_run.proofs.EndKinds.{AdmitsHere, Rests, ends_so, least_says, over_says, unended_over}
use Rattle.local_run.proofs.Failures.{failed_rose}
use Rattle.local_run.proofs.Fresh.{empty_from, fresh_unended, limit_more}
use Rattle.local_run.proofs.Going.{goes_records}

module _ {S : Type 0} (trust : Type 0) (gives : Function) (may_fail : Job → Failure → Type 0) (sources : Contents) (tells : Type 0) (files : S → Files) (may_leave : S → Outcomes) (moment : S → ℕ)
    (images_since : S → ℕ → Files → Type 0) (links : List Move) (d mid : DeskState S) (goes : GoesOn trust gives may_fail sources tells files may_leave moment images_since links d mid) where
  -- the records before the end are those of the start, and more
  pub grown : records_of mid.moves ≡ records_of d.moves ++ goes.more
  grown = goes_records trust gives may_fail sources tells files may_leave moment images_since links d mid goes

  limited : IsFresh d.options.limit (records_of d.moves) → limit_of (records_of mid.moves) ≡ mid.options.limit
  limited fresh = ap limit_of grown ∙ limit_more (records_of d.moves) goes.more goes.anew ∙ fresh.limited ∙ sym (ap (λ (O : Options). O.limit) goes.options)

  pub rests_at : (A : Admitting) → AdmitsHere A mid.plan mid.options (records_of mid.moves) → IsValid d.plan → IsFresh d.options.limit (records_of d.moves) → mid.stop ≡ None → IsLegal mid.plan (records_of mid.moves) → is_empty (part (records_of mid.moves)) ≡ false
      → length (running_rules mid.plan (records_of mid.moves)) ≤ 0 → has_ended (records_of mid.moves) ≡ false → HasNothing A mid → Rests A mid.plan mid.options mid.moves
  rests_at A one valid fresh unset legal opened idle unended nothing = record {
    valid = subst IsValid (sym goes.plan) valid;
    legal = legal;
    opened = opened;
    idle = empty_from (running_rules mid.plan (records_of mid.moves)) idle;
    unended = unended;
    limited = limited fresh;
    why = nothing.0;
    none = subst (λ (stop : Option Stop). claim_by A mid.plan mid.options mid.moves stop 0 ≡ Err nothing.0) unset nothing.1;
    undropped = nothing.2;
    one = one;
  }

  fits_still : FitsHere d.plan d.options → FitsHere mid.plan mid.options
  fits_still here = subst (λ (P : Plan). FitsHere P mid.options) (sym goes.plan) (subst (λ (O : Options). FitsHere d.plan O) (sym goes.options) here)

  -- the answer of the end, without a stop
  answer_is : (count : S → ℕ) (time : ℕ) (check : Check) (after : DeskState S) → Ends count mid time (Ok check) after → mid.stop ≡ None → end_of mid.plan mid.options mid.moves None ≡ check
  answer_is count time check after h unset = sym (h.1 ∙ ap (end_of mid.plan mid.options mid.moves) unset)

  -- is one of a run's ends
  pub ending_at : (A : Admitting) (count : S → ℕ) (time : ℕ) (check : Check) (after : DeskState S) → Ends count mid time (Ok check) after → mid.stop ≡ None → Rests A mid.plan mid.options mid.moves → FitsHere d.plan d.options
      → IsRunEnd d.options.limit check
  ending_at A count time check after h unset rests here =
      subst (λ (O : Options). IsRunEnd O.limit check) goes.options (subst (IsRunEnd mid.options.limit) (answer_is count time check after h unset) (ends_so A mid.plan mid.options mid.moves rests (fits_still here)))

  rose_at : (before now : ℕ) → IsFresh d.options.limit (records_of d.moves) → LogsFailures (records_of d.moves) (records_of mid.moves) before now
      → (r : ℕ) → find (has_failed (records_of mid.moves)) (rule_numbers mid.plan) ≡ Some r → before < now
  rose_at before now fresh logs r found = failed_rose mid.plan (records_of d.moves) goes.more (records_of mid.moves) r before now fresh.since goes.anew grown logs found

  -- and is a failed command's only where the runner counted one
  pub failed_at : (count : S → ℕ) (time : ℕ) (check : Check) (after : DeskState S) (before now : ℕ) → Ends count mid time (Ok check) after → mid.stop ≡ None → IsFresh d.options.limit (records_of d.moves) → has_ended (records_of mid.moves) ≡ false
      → LogsFailures (records_of d.moves) (records_of mid.moves) before now → before ≤ now → HasFailed before now (Ok check)
  failed_at count time check after before now h unset fresh unended logs risen =
      let H = records_of mid.moves in
      let Q : Check → Type 0 = λ c. HasFailed before now (Ok c) in
      subst Q (sym (unended_over mid.plan mid.options mid.moves unended) ∙ answer_is count time check after h unset)
      (over_says Q mid.plan mid.options H mid.options.limit (limited fresh) risen (λ r found why. rose_at before now fresh logs r found) (λ wants. risen) risen
      (λ more. least_says Q (filter (passes_inputs mid.plan H) (ready_rules mid.plan H)) (λ r. checks.InputsTooLarge (rule_no r) (input_bytes mid.plan H r)) (λ r. risen)) (λ more full. risen) (λ r most is. risen))

  -- All rules are complete, or there is a limit and no room, over a sure runner, where the inputs fit and the log has room.
  pub complete_at : (A : Admitting) (count : S → ℕ) (time : ℕ) (check : Check) (after : DeskState S) (before now : ℕ) (image : Files) → Ends count mid time (Ok check) after → mid.stop ≡ None → Rests A mid.plan mid.options mid.moves → FitsHere d.plan d.options
      → IsFresh d.options.limit (records_of d.moves) → LogsFailures (records_of d.moves) (records_of mid.moves) before now → now ≡ before → trust → Keeps (Fits trust gives sources) mid.plan mid.log (records_of mid.moves) image
      → SerialInputsFit d.plan gives sources → length (running_rules mid.plan (records_of mid.moves)) ≤ 0 → records_due mid.plan (records_of mid.moves) ≤ records_due d.plan (records_of d.moves)
      → records_due d.plan (records_of d.moves) + 1 ≤ most_records → IsCompleteEnd d.options.limit check
  complete_at A count time check after before now image h unset rests here fresh logs same trusted keeps fit idle due few =
      subst (λ (O : Options). IsCompleteEnd O.limit check) goes.options
      (subst (IsCompleteEnd mid.options.limit) (answer_is count time check after h unset)
      (completes_so A mid.plan mid.options mid.moves rests (fits_still here)
      (λ r found. let rose = rose_at before now fresh logs r found in let wrong : ⊥ = omega (arith, rose, same) in wrong)
      (inputs_fit trust mid.plan gives sources mid.log (records_of mid.moves) image trusted keeps (subst (λ (P : Plan). SerialInputsFit P gives sources) (sym goes.plan) fit)) idle (omega (arith, due, few))))

  -- ---- what was added

  unended_at : IsFresh d.options.limit (records_of d.moves) → (has_ended (records_of d.moves) ≡ false → has_ended (records_of mid.moves) ≡ false) → has_ended (records_of mid.moves) ≡ false
  unended_at fresh still = still (fresh_unended d.options.limit (records_of d.moves) fresh)

  -- a run that stopped has no Ended
  pub stopped_at : (halt : Halt) (after : DeskState S) → IsFresh d.options.limit (records_of d.moves) → (has_ended (records_of d.moves) ≡ false → has_ended (records_of mid.moves) ≡ false)
      → records_of after.moves ≡ records_of mid.moves → RunAdds (records_of d.moves) (records_of after.moves) (Err (stopped.Halted halt))
  stopped_at halt after fresh still same =
      let H = records_of d.moves in
      let how : Result Check Stopped = Err (stopped.Halted halt) in
      subst (λ (G : List Record). RunAdds H G how) (sym same) (adds_none H (records_of mid.moves) goes.more how (halted_none halt) grown goes.anew (unended_at fresh still))

  -- and one that came to its end has that of its answer
  pub ended_at : (count : S → ℕ) (time : ℕ) (check : Check) (after : DeskState S) → IsFresh d.options.limit (records_of d.moves) → (has_ended (records_of d.moves) ≡ false → has_ended (records_of mid.moves) ≡ false)
      → Ends count mid time (Ok check) after → RunAdds (records_of d.moves) (records_of after.moves) (Ok check)
  ended_at count time check after fresh still h =
      let unended = unended_at fresh still in
      adds_end (records_of d.moves) (records_of mid.moves) (records_of after.moves) goes.more time check grown goes.anew unended (end_logs count mid time check after unended h)
