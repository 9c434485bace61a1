use Rattle.std.proofs.Common.{◌≡◌, ◌∙◌, Result, Ok, ap, arith, sym}
use Rattle.flow_types.specs.declared.plan.Plan.{Plan}
use Rattle.run_history.specs.declared.options.Options.{Options as RunOptions}
use Rattle.command_words.specs.declared.options.Options.{Options}
use Rattle.report.specs.declared.cause.Cause.{Cause}
use Rattle.wq_run.specs.declared.workers.Workers.{Workers}
use Rattle.master_run.specs.declared.ask.Ask.{Ask}
use Rattle.master_run.specs.Asked.{ask_of, run_options, workers_of}
use Rattle.master_run.proofs.asking.read_ask.Goals as goal

same_options : (x y : Options) → (let one : Result Options Cause = Ok x in one ≡ Ok y) → x ≡ y
same_options x y is = cc

as_asked : (given options : Options) (P : Plan) (O : RunOptions) (W : Workers) → given ≡ options → O ≡ run_options given → W ≡ workers_of given
    → (let one : Ask = record { plan = P; work = given.work; log = given.log; options = O; workers = W; jobs = given.service.jobs } in one ≡ ask_of options P)
as_asked given options P O W same goes meets =
    let by_options : (let one : Ask = record { plan = P; work = given.work; log = given.log; options = O; workers = W; jobs = given.service.jobs } in one ≡ record { plan = P; work = given.work; log = given.log; options = run_options given; workers = W; jobs = given.service.jobs }) =
    ap (λ (o : RunOptions). let one : Ask = record { plan = P; work = given.work; log = given.log; options = o; workers = W; jobs = given.service.jobs } in one) goes in
    by_options
    ∙ ap (λ (w : Workers). let one : Ask = record { plan = P; work = given.work; log = given.log; options = run_options given; workers = w; jobs = given.service.jobs } in one) meets
    ∙ ap (λ (x : Options). ask_of x P) same

pub returns-in-Ok-plan_by-clause-asked : goal.returns-in-Ok-plan_by-clause-asked
returns-in-Ok-plan_by-clause-asked g c options chosen =
    as_asked c.in-Ok.options options c.in-Ok-plan_by.plan c.run_options-goes_by.result c.workers_of-workers.result (same_options c.in-Ok.options options (sym c.in-Ok.ensures.stage ∙ chosen)) c.run_options-goes_by.ensures c.workers_of-workers.ensures

pub returns-in-Ok-plan_by-clause-goes_by : goal.returns-in-Ok-plan_by-clause-goes_by
returns-in-Ok-plan_by-clause-goes_by g c options chosen =
    c.run_options-goes_by.ensures ∙ ap run_options (same_options c.in-Ok.options options (sym c.in-Ok.ensures.stage ∙ chosen))

pub returns-in-Ok-plan_by-clause-meets : goal.returns-in-Ok-plan_by-clause-meets
returns-in-Ok-plan_by-clause-meets g c options chosen =
    c.workers_of-workers.ensures ∙ ap workers_of (same_options c.in-Ok.options options (sym c.in-Ok.ensures.stage ∙ chosen))

pub returns-in-Ok-plan_by-clause-patient : goal.returns-in-Ok-plan_by-clause-patient
returns-in-Ok-plan_by-clause-patient g c =
    let same = ap (λ (w : Workers). w.limit) c.workers_of-workers.ensures in
    omega (arith, same, c.in-Ok.ensures.patient)
