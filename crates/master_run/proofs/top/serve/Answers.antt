use Rattle.std.proofs.Common.{◌≡◌, ◌∙◌, ◌+◌, ◌-◌, ℕ, [], map, sum_by, refl, arith, ap, rules, sym, true≢false}
use Rattle.flow_types.specs.declared.job.Job.{Job}
use Rattle.run_history.specs.declared.answers.Wait.{Wait}
use Rattle.run_history.specs.Answers.{before_end}
use Rattle.worker_pool.specs.Crews.{AllSure, AllTell}
use Rattle.command_words.specs.declared.options.Work.TheVariants as works
use Rattle.master_run.specs.Ends.{counts}
use Rattle.report.specs.Causes.{kind_of}
use Rattle.wq_run.specs.Vain.{AreVain}
use Rattle.flow_run.proofs.Dues.{due_none}
use Rattle.flow_run.proofs.Stops.{back_same}
use Rattle.master_run.specs.Headline.{WaitsInVain}
use Rattle.master_run.proofs.Waits.{still_waits}
use Rattle.master_run.proofs.Widened.{none_rises, unmet_fault, widened}
use Rattle.master_run.proofs.Works.{loses_cut}
use Rattle.master_run.proofs.top.serve.Goals as goal

pub returns-in-Clean-clause-failures : goal.returns-in-Clean-clause-failures
returns-in-Clean-clause-failures g c alone = record { later = omega arith; rose = λ failed. absurd (c.clean_flow.ensures.fails_not failed) }

pub returns-in-PrintLog-clause-failures : goal.returns-in-PrintLog-clause-failures
returns-in-PrintLog-clause-failures g c alone = record { later = omega arith; rose = λ failed. absurd (c.read_log.ensures.fails_not failed) }

pub returns-in-Clean-clause-failed : goal.returns-in-Clean-clause-failed
returns-in-Clean-clause-failed g c alone t H spelled whole = ap (λ (n : ℕ). n + sum_by g.R.Runner.failures c.args.runners.now) (c.clean_flow.ensures.fails_none t H spelled whole)

pub returns-in-Clean-clause-opened : goal.returns-in-Clean-clause-opened
returns-in-Clean-clause-opened g c ends = absurd (true≢false (sym ends ∙ c.clean_flow.ensures.runs_not))

pub returns-in-PrintLog-clause-failed : goal.returns-in-PrintLog-clause-failed
returns-in-PrintLog-clause-failed g c alone t H spelled whole = ap (λ (n : ℕ). n + sum_by g.R.Runner.failures c.args.runners.now) (c.read_log.ensures.fails_none t H spelled whole)

pub returns-in-PrintLog-clause-opened : goal.returns-in-PrintLog-clause-opened
returns-in-PrintLog-clause-opened g c ends = absurd (true≢false (sym ends ∙ c.read_log.ensures.runs_not))

pub returns-in-Clean-clause-collects : goal.returns-in-Clean-clause-collects
returns-in-Clean-clause-collects g c ends = absurd (true≢false (sym ends ∙ c.clean_flow.ensures.runs_not))

pub returns-in-PrintLog-clause-collects : goal.returns-in-PrintLog-clause-collects
returns-in-PrintLog-clause-collects g c ends = absurd (true≢false (sym ends ∙ c.read_log.ensures.runs_not))

pub returns-in-Clean-clause-serves : goal.returns-in-Clean-clause-serves
returns-in-Clean-clause-serves g c =
    widened g.Q.Made.Admission.admitted g.S.Site.tells g.S.Site.files g.S.Site.may_leave g.S.Site.moment g.S.Site.images_since g.B.Born.born g.F.Commands.gives g.F.Commands.may_fail
    (λ (job : Job). Unit {0}) (AllTell g.R.Runner.tells c.args.runners.now) (Unit {0}) (AllSure g.R.Runner.sure c.args.runners.now) (Unit {0}) (g.H.Hall.honest c.args.hall.now)
    (counts c.args.before [] 0 0 0) (counts (g.S.Site.count c.clean_flow.result.site) [] 0 0 0) (counts c.args.before (map g.R.Runner.count c.args.runners.now) (g.H.Hall.count c.args.hall.now) (g.H.Hall.idle_count c.args.hall.now) 0) (counts (g.S.Site.count c.clean_flow.result.site) (map g.R.Runner.count c.args.runners.now) (g.H.Hall.count c.args.hall.now) (g.H.Hall.idle_count c.args.hall.now) 0)
    c.args.ask c.args.site c.clean_flow.result.site c.clean_flow.result.records c.clean_flow.result.cause
    (λ job told. tt) (λ sure. tt) (λ met. tt) (unmet_fault c.args.before (g.S.Site.count c.clean_flow.result.site) (g.H.Hall.count c.args.hall.now) (g.H.Hall.idle_count c.args.hall.now) (map g.R.Runner.count c.args.runners.now) c.clean_flow.result.cause) (λ none. record { site = none.site; runners = refl; sink = refl }) (none_rises (g.H.Hall.idle_count c.args.hall.now))
    (c.clean_flow.ensures.serves g.Q.Made.Admission.admitted)

pub returns-in-PrintLog-clause-serves : goal.returns-in-PrintLog-clause-serves
returns-in-PrintLog-clause-serves g c =
    widened g.Q.Made.Admission.admitted g.S.Site.tells g.S.Site.files g.S.Site.may_leave g.S.Site.moment g.S.Site.images_since g.B.Born.born g.F.Commands.gives g.F.Commands.may_fail
    (λ (job : Job). Unit {0}) (AllTell g.R.Runner.tells c.args.runners.now) (Unit {0}) (AllSure g.R.Runner.sure c.args.runners.now) (Unit {0}) (g.H.Hall.honest c.args.hall.now)
    (counts c.args.before [] 0 0 0) (counts (g.S.Site.count c.read_log.result.site) [] 0 0 0) (counts c.args.before (map g.R.Runner.count c.args.runners.now) (g.H.Hall.count c.args.hall.now) (g.H.Hall.idle_count c.args.hall.now) 0) (counts (g.S.Site.count c.read_log.result.site) (map g.R.Runner.count c.args.runners.now) (g.H.Hall.count c.args.hall.now) (g.H.Hall.idle_count c.args.hall.now) 0)
    c.args.ask c.args.site c.read_log.result.site c.read_log.result.records c.read_log.result.cause
    (λ job told. tt) (λ sure. tt) (λ met. tt) (unmet_fault c.args.before (g.S.Site.count c.read_log.result.site) (g.H.Hall.count c.args.hall.now) (g.H.Hall.idle_count c.args.hall.now) (map g.R.Runner.count c.args.runners.now) c.read_log.result.cause) (λ none. record { site = none.site; runners = refl; sink = refl }) (none_rises (g.H.Hall.idle_count c.args.hall.now))
    (c.read_log.ensures.serves g.Q.Made.Admission.admitted)

pub returns-in-Clean-clause-back : goal.returns-in-Clean-clause-back
returns-in-Clean-clause-back g c whole = back_same (g.H.Hall.got c.args.hall.now) (g.H.Hall.given c.args.hall.now)

pub returns-in-Clean-clause-waited : goal.returns-in-Clean-clause-waited
returns-in-Clean-clause-waited g c =
    still_waits (WaitsInVain g.Q.Made.Admission.admitted c.args.ask.plan c.args.ask.options c.args.ask.workers.limit (g.H.Hall.idle_count c.args.hall.now - g.H.Hall.idle_count c.args.hall.now) c.clean_flow.result.records) c.clean_flow.result.cause c.clean_flow.ensures.runs_not

pub returns-in-PrintLog-clause-back : goal.returns-in-PrintLog-clause-back
returns-in-PrintLog-clause-back g c whole = back_same (g.H.Hall.got c.args.hall.now) (g.H.Hall.given c.args.hall.now)

pub returns-in-PrintLog-clause-waited : goal.returns-in-PrintLog-clause-waited
returns-in-PrintLog-clause-waited g c =
    still_waits (WaitsInVain g.Q.Made.Admission.admitted c.args.ask.plan c.args.ask.options c.args.ask.workers.limit (g.H.Hall.idle_count c.args.hall.now - g.H.Hall.idle_count c.args.hall.now) c.read_log.result.records) c.read_log.result.cause c.read_log.ensures.runs_not

pub returns-in-Clean-clause-due_losses : goal.returns-in-Clean-clause-due_losses
returns-in-Clean-clause-due_losses g c tells t H spelled keeps =
    due_none g.F.Commands.gives g.F.Commands.may_fail g.H.Way.Link.history g.H.Way.Link.count g.H.Way.Link.idle_count g.H.Way.Link.is_closed c.args.ask.workers.limit (g.H.Hall.got c.args.hall.now) (g.H.Hall.got c.args.hall.now) H c.clean_flow.result.records refl (c.clean_flow.ensures.loses_none t H spelled (loses_cut (kind_of c.clean_flow.result.cause) keeps))

pub returns-in-PrintLog-clause-due_losses : goal.returns-in-PrintLog-clause-due_losses
returns-in-PrintLog-clause-due_losses g c tells t H spelled keeps =
    due_none g.F.Commands.gives g.F.Commands.may_fail g.H.Way.Link.history g.H.Way.Link.count g.H.Way.Link.idle_count g.H.Way.Link.is_closed c.args.ask.workers.limit (g.H.Hall.got c.args.hall.now) (g.H.Hall.got c.args.hall.now) H c.read_log.result.records refl (c.read_log.ensures.loses_none t H spelled (loses_cut (kind_of c.read_log.result.cause) keeps))

pub returns-in-Clean-clause-vain : goal.returns-in-Clean-clause-vain
returns-in-Clean-clause-vain g c tells =
    still_waits (λ (wait : Wait). AreVain g.F.Commands.gives g.F.Commands.may_fail g.H.Way.Link.history g.H.Way.Link.count g.H.Way.Link.idle_count g.H.Way.Link.is_closed c.args.ask.workers.limit g.Q.Made.Admission.admitted c.args.ask.plan c.args.ask.options (before_end c.clean_flow.result.records) (g.H.Hall.got c.args.hall.now) (g.H.Hall.got c.args.hall.now)) c.clean_flow.result.cause c.clean_flow.ensures.runs_not

pub returns-in-PrintLog-clause-vain : goal.returns-in-PrintLog-clause-vain
returns-in-PrintLog-clause-vain g c tells =
    still_waits (λ (wait : Wait). AreVain g.F.Commands.gives g.F.Commands.may_fail g.H.Way.Link.history g.H.Way.Link.count g.H.Way.Link.idle_count g.H.Way.Link.is_closed c.args.ask.workers.limit g.Q.Made.Admission.admitted c.args.ask.plan c.args.ask.options (before_end c.read_log.result.records) (g.H.Hall.got c.args.hall.now) (g.H.Hall.got c.args.hall.now)) c.read_log.result.cause c.read_log.ensures.runs_not

pub returns-in-PrintLog-clause-results : goal.returns-in-PrintLog-clause-results
returns-in-PrintLog-clause-results g c tells t H spelled wq work keeps =
    let is : c.args.ask.work ≡ works.PrintLog = search rules in
    let wrong : works.PrintLog ≡ works.Run = sym is ∙ work in cc

pub returns-in-Clean-clause-results : goal.returns-in-Clean-clause-results
returns-in-Clean-clause-results g c tells t H spelled wq work keeps =
    let is : c.args.ask.work ≡ works.Clean = search rules in
    let wrong : works.Clean ≡ works.Run = sym is ∙ work in cc

pub returns-in-Clean-clause-sure_links : goal.returns-in-Clean-clause-sure_links
returns-in-Clean-clause-sure_links g c t H spelled wq work sure links =
    let is : c.args.ask.work ≡ works.Clean = search rules in
    let wrong : works.Clean ≡ works.Run = sym is ∙ work in cc

pub returns-in-PrintLog-clause-sure_links : goal.returns-in-PrintLog-clause-sure_links
returns-in-PrintLog-clause-sure_links g c t H spelled wq work sure links =
    let is : c.args.ask.work ≡ works.PrintLog = search rules in
    let wrong : works.PrintLog ≡ works.Run = sym is ∙ work in cc

pub returns-in-Clean-clause-leaves : goal.returns-in-Clean-clause-leaves
returns-in-Clean-clause-leaves g c work =
    let is : c.args.ask.work ≡ works.Clean = search rules in
    let wrong : works.Clean ≡ works.Run = sym is ∙ work in cc

pub returns-in-PrintLog-clause-leaves : goal.returns-in-PrintLog-clause-leaves
returns-in-PrintLog-clause-leaves g c work =
    let is : c.args.ask.work ≡ works.PrintLog = search rules in
    let wrong : works.PrintLog ≡ works.Run = sym is ∙ work in cc
