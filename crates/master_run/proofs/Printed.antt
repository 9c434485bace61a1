-- What is told of a cause whose line was handed to the sink.
use Rattle.std.proofs.Common.{◌≡◌, ◌∙◌, ℕ, ◌<◌, Bool, true, false, List, ◌++◌, take, Result, Ok, Err, refl, sym, subst, if◌then◌else◌, arith, IsErrOf}
use Rattle.flow_types.specs.declared.plan.Plan.{Plan}
use Rattle.flow_types.specs.declared.records.Record.{Record}
use Rattle.outside.specs.declared.fault.Fault.{Fault}
use Rattle.outside.specs.declared.fault.Fault.TheVariants as faults
use Rattle.outside.specs.Sent.{Sends}
use Rattle.command_words.specs.declared.options.Options.{Options}
use Rattle.report.specs.declared.cause.Cause.{Cause}
use Rattle.report.specs.declared.cause.Cause.TheVariants.{SinkFault}
use Rattle.report.specs.Causes.{is_end, kind_of}
use Rattle.master_run.specs.Prints.{printed_cause, text_of, Told}

true_is_false : {A : Type 0} → true ≡ false → A
true_is_false wrong = absurd (cc)

false_is_true : {A : Type 0} → false ≡ true → A
false_is_true wrong = absurd (cc)

-- the sink failed
failed_told : (C : Result Options Cause) (P : Plan) (H : List Record) (b a : ℕ) (old new : List ℕ) (cause : Cause) (ends : Bool) → is_end (kind_of cause) ≡ ends → b < a → ((n : ℕ) × (new ≡ old ++ take n (text_of C P H cause)))
    → Told C P H b a old new cause (if ends then SinkFault b a else cause)
failed_told C P H b a old new cause true is rose part = record {
  told = cause;
  is_own = λ own. refl;
  is_standing = λ printed. true_is_false printed;
  whole = λ same some. absurd (let wrong : ⊥ = omega (arith, same, rose) in wrong);
  of_end = λ run_end. false_is_true run_end;
  part = part;
}
failed_told C P H b a old new cause false is rose part = record {
  told = cause;
  is_own = λ own. refl;
  is_standing = λ printed. refl;
  whole = λ same some. absurd (let wrong : ⊥ = omega (arith, same, rose) in wrong);
  of_end = λ run_end. true_is_false (sym run_end ∙ is);
  part = part;
}

-- what is told once the sink answered
answered : (C : Result Options Cause) (P : Plan) (H : List Record) (b a : ℕ) (old new : List ℕ) (cause : Cause) (printed : Result (Unit {0}) Fault) → Sends printed (text_of C P H cause) old new → (IsErrOf printed faults.Failed → b < a)
    → Told C P H b a old new cause (printed_cause b a cause printed)
answered C P H b a old new cause (Ok done) sends rose = record {
  told = cause;
  is_own = λ own. refl;
  is_standing = λ printed. refl;
  whole = λ same some. (refl, sends.all);
  of_end = λ run_end. (refl, sends.all);
  part = sends.some;
}
answered C P H b a old new cause (Err faults.Failed) sends rose = failed_told C P H b a old new cause (is_end (kind_of cause)) refl (rose refl) sends.some
answered C P H b a old new cause (Err faults.Memory) sends rose = record {
  told = cause;
  is_own = λ own. refl;
  is_standing = λ printed. true_is_false printed;
  whole = λ same some. true_is_false some;
  of_end = λ run_end. false_is_true run_end;
  part = sends.some;
}

pub told_printed : (C : Result Options Cause) (P : Plan) (H : List Record) (b a : ℕ) (line old new : List ℕ) (cause stands : Cause) (printed : Result (Unit {0}) Fault) → line ≡ text_of C P H cause → stands ≡ printed_cause b a cause printed
    → Sends printed line old new → (IsErrOf printed faults.Failed → b < a) → Told C P H b a old new cause stands
told_printed C P H b a line old new cause stands printed is_line is sends rose =
    let whole_line : Sends printed (text_of C P H cause) old new = subst (λ (l : List ℕ). Sends printed l old new) is_line sends in
    subst (λ (s : Cause). Told C P H b a old new cause s) (sym is) (answered C P H b a old new cause printed whole_line rose)
