-- What is relied on of workers, once a run was opened.
use Rattle.std.proofs.Common.{◌≡◌, ◌∙◌, ◌-◌, ◌+◌, ℕ, true, cond, List, [], ◌∷◌, ◌++◌, ap, arith}
use Rattle.std.proofs.lemmas.List.Sums.{fold-append}
use Rattle.flow_types.specs.declared.plan.Plan.{Plan}
use Rattle.flow_types.specs.declared.job.Failure.{Failure}
use Rattle.flow_types.specs.declared.job.Job.{Job}
use Rattle.flow_types.specs.declared.records.Record.{Record}
use Rattle.flow_types.specs.Serial.{Contents, Function, serial}
use Rattle.run_history.specs.declared.options.Options.{Options}
use Rattle.run_history.specs.History.{is_opening, next_run}
use Rattle.run_history.specs.Links.{records_of}
use Rattle.desk.specs.State.{DeskState}
use Rattle.local_run.specs.Ends.{BeganOver}
use Rattle.local_run.proofs.Going.{records_more}
use Rattle.local_run.proofs.Started.{IsBegun}
use Rattle.wq_run.specs.Trusted.{IsOf}
use Rattle.flow_run.specs.Relied.{IsRelied}

-- the number of the run that was opened behind these records
run_behind : (H : List Record) (x : Record) → is_opening x ≡ true → next_run (H ++ (x ∷ [])) - 1 ≡ next_run H
run_behind H x opens =
    let more : next_run (H ++ (x ∷ [])) ≡ next_run H + cond (is_opening x) 1 0 = fold-append (λ m y. m + cond (is_opening y) 1 0) 0 H (x ∷ []) in
    let one : (let n : ℕ = cond (is_opening x) 1 0 in n) ≡ 1 = ap (λ b. let n : ℕ = cond b 1 0 in n) opens in
    omega (arith, more, one)

-- the same of a desk that began over them
pub run_begun : {S : Type 0} (d : DeskState S) (H : List Record) → BeganOver d H → next_run (records_of d.moves) - 1 ≡ next_run H
run_begun {S} d H began =
    ap (λ M. next_run (records_of M) - 1) began.1.2
    ∙ ap (λ (G : List Record). next_run G - 1) (records_more [] (H ++ (began.1.0 ∷ [])))
    ∙ run_behind H began.1.0 began.1.1

-- what was relied on over the records is so of the desk
pub of_begun : {S : Type 0} (first : ℕ) (trust : Type 0) (gives : Function) (may_fail : Job → Failure → Type 0) (sources : Contents) (tells kept holds : Type 0) (plan : Plan) (options : Options) (run : ℕ) (due : Contents) (P : Plan) (O : Options) (log : List ℕ) (H : List Record) (d : DeskState S)
    → IsBegun first P O log H may_fail (serial P gives sources) d → (trust → tells × kept) → IsRelied trust gives sources holds plan options run due P O H
    → IsOf trust gives sources tells kept holds plan options run due d.plan d.options (records_of d.moves)
of_begun {S} first trust gives may_fail sources tells kept holds plan options run due P O log H d begun base relied = record {
  relies = relied.relies;
  trusts = relied.trusts;
  base = base;
  plan_is = begun.plan ∙ relied.plan_is;
  options_is = begun.options ∙ relied.options_is;
  run_is = run_begun d H begun.over ∙ relied.run_is;
  due_is = ap (λ (Q : Plan). serial Q gives sources) begun.plan ∙ relied.due_is;
}
