use Rattle.std.proofs.Common.{◌∙◌, [], refl, arith, subst, sym}
use Rattle.std.specs.Prelude.{sum_by}
use Rattle.flow_types.specs.Plans.{IsValid}
use Rattle.rule_graph.specs.Spelling.{plan_digest}
use Rattle.run_history.specs.Links.{records_of}
use Rattle.local_run.specs.declared.halt.Halt.TheVariants as halts
use Rattle.local_run.proofs.Added.{end_same}
use Rattle.local_run.proofs.Alone.{log_alone}
use Rattle.local_run.proofs.Closings.{ends_goes, ends_idle, ends_over}
use Rattle.local_run.proofs.Going.{goes_on}
use Rattle.local_run.proofs.Fresh.{fresh_unended}
use Rattle.local_run.proofs.Logging.{ends_failed}
use Rattle.local_run.proofs.Working.{complete_at, ended_at, ending_at, failed_at, rests_at, stopped_at}
use Rattle.local_run.proofs.course.work.Goals as goal

pub returns-in-Ok-end-clause-goes : goal.returns-in-Ok-end-clause-goes
returns-in-Ok-end-clause-goes g c =
    let mid = c.serve_all.new.desk in
    goes_on g.T.Terms.trust g.F.Commands.gives g.F.Commands.may_fail g.T.Terms.sources g.S.Site.tells g.S.Site.files g.S.Site.may_leave g.S.Site.moment g.S.Site.images_since [] c.args.desk.now mid c.end.new.self c.serve_all.ensures.came.goes
    (ends_goes g.T.Terms.trust g.F.Commands.gives g.F.Commands.may_fail g.T.Terms.sources g.S.Site.tells g.S.Site.files g.S.Site.may_leave g.S.Site.moment g.S.Site.images_since g.S.Site.count mid c.now.result c.end.result c.end.new.self
    (λ told. log_alone g.S.Site.files g.S.Site.may_leave g.S.Site.moment g.S.Site.images_since mid.plan mid.log (records_of mid.moves) mid.site c.end.new.self.site (c.end.ensures.others told) (c.end.ensures.reads told)) c.end.ensures.reply)

pub returns-in-Err-Broken-clause-goes : goal.returns-in-Err-Broken-clause-goes
returns-in-Err-Broken-clause-goes g c =
    let mid = c.serve_all.new.desk in
    goes_on g.T.Terms.trust g.F.Commands.gives g.F.Commands.may_fail g.T.Terms.sources g.S.Site.tells g.S.Site.files g.S.Site.may_leave g.S.Site.moment g.S.Site.images_since [] c.args.desk.now mid c.end.new.self c.serve_all.ensures.came.goes
    (ends_goes g.T.Terms.trust g.F.Commands.gives g.F.Commands.may_fail g.T.Terms.sources g.S.Site.tells g.S.Site.files g.S.Site.may_leave g.S.Site.moment g.S.Site.images_since g.S.Site.count mid c.now.result c.end.result c.end.new.self
    (λ told. log_alone g.S.Site.files g.S.Site.may_leave g.S.Site.moment g.S.Site.images_since mid.plan mid.log (records_of mid.moves) mid.site c.end.new.self.site (c.end.ensures.others told) (c.end.ensures.reads told)) c.end.ensures.reply)

pub returns-in-Err-Memory-clause-goes : goal.returns-in-Err-Memory-clause-goes
returns-in-Err-Memory-clause-goes g c =
    let mid = c.serve_all.new.desk in
    goes_on g.T.Terms.trust g.F.Commands.gives g.F.Commands.may_fail g.T.Terms.sources g.S.Site.tells g.S.Site.files g.S.Site.may_leave g.S.Site.moment g.S.Site.images_since [] c.args.desk.now mid c.end.new.self c.serve_all.ensures.came.goes
    (ends_goes g.T.Terms.trust g.F.Commands.gives g.F.Commands.may_fail g.T.Terms.sources g.S.Site.tells g.S.Site.files g.S.Site.may_leave g.S.Site.moment g.S.Site.images_since g.S.Site.count mid c.now.result c.end.result c.end.new.self
    (λ told. log_alone g.S.Site.files g.S.Site.may_leave g.S.Site.moment g.S.Site.images_since mid.plan mid.log (records_of mid.moves) mid.site c.end.new.self.site (c.end.ensures.others told) (c.end.ensures.reads told)) c.end.ensures.reply)

pub returns-in-Ok-end-clause-idle : goal.returns-in-Ok-end-clause-idle
returns-in-Ok-end-clause-idle g c fine =
    ends_idle g.S.Site.count c.serve_all.new.desk c.now.result c.end.result c.end.new.self (c.serve_all.ensures.came.idle c.in-Ok.ensures.came.closed.0) c.end.ensures.reply fine

pub returns-in-Err-Broken-clause-idle : goal.returns-in-Err-Broken-clause-idle
returns-in-Err-Broken-clause-idle g c fine =
    ends_idle g.S.Site.count c.serve_all.new.desk c.now.result c.end.result c.end.new.self (c.serve_all.ensures.came.idle c.in-Ok.ensures.came.closed.0) c.end.ensures.reply fine

pub returns-in-Err-Memory-clause-idle : goal.returns-in-Err-Memory-clause-idle
returns-in-Err-Memory-clause-idle g c fine =
    ends_idle g.S.Site.count c.serve_all.new.desk c.now.result c.end.result c.end.new.self (c.serve_all.ensures.came.idle c.in-Ok.ensures.came.closed.0) c.end.ensures.reply fine

pub returns-in-Ok-end-clause-ends : goal.returns-in-Ok-end-clause-ends
returns-in-Ok-end-clause-ends g c unset = ends_over g.S.Site.count c.serve_all.new.desk c.now.result c.in-Ok-end.check c.end.new.self c.in-Ok-end.ensures.reply unset

pub returns-in-Ok-end-clause-failures : goal.returns-in-Ok-end-clause-failures
returns-in-Ok-end-clause-failures g c fine unwanting =
    let first = c.in-Ok.ensures.came.failed c.in-Ok.ensures.came.closed.0 (λ wants. wants) in
    let same = ends_failed g.S.Site.count c.serve_all.new.desk c.now.result c.end.result c.end.new.self c.end.ensures.reply fine in
    omega (arith, first, same)

pub returns-in-Err-Broken-clause-failures : goal.returns-in-Err-Broken-clause-failures
returns-in-Err-Broken-clause-failures g c fine unwanting =
    let first = c.in-Ok.ensures.came.failed c.in-Ok.ensures.came.closed.0 (λ wants. wants) in
    let same = ends_failed g.S.Site.count c.serve_all.new.desk c.now.result c.end.result c.end.new.self c.end.ensures.reply fine in
    omega (arith, first, same)

pub returns-in-Err-Memory-clause-failures : goal.returns-in-Err-Memory-clause-failures
returns-in-Err-Memory-clause-failures g c fine unwanting =
    let first = c.in-Ok.ensures.came.failed c.in-Ok.ensures.came.closed.0 (λ wants. wants) in
    let same = ends_failed g.S.Site.count c.serve_all.new.desk c.now.result c.end.result c.end.new.self c.end.ensures.reply fine in
    omega (arith, first, same)

pub returns-in-Err-clause-failed : goal.returns-in-Err-clause-failed
returns-in-Err-clause-failed g c fresh unset = c.serve_all.ensures.came.risen

pub returns-in-Err-Broken-clause-failed : goal.returns-in-Err-Broken-clause-failed
returns-in-Err-Broken-clause-failed g c fresh unset = c.serve_all.ensures.came.risen

pub returns-in-Err-Memory-clause-failed : goal.returns-in-Err-Memory-clause-failed
returns-in-Err-Memory-clause-failed g c fresh unset = c.serve_all.ensures.came.risen

pub returns-in-Ok-end-clause-ending : goal.returns-in-Ok-end-clause-ending
returns-in-Ok-end-clause-ending g c fresh unset here =
    let mid = c.serve_all.new.desk in
    let same = c.serve_all.ensures.came.goes.plan in
    let one =
    (g.met.A.Admission g.world.𝓛 g.world.𝓜 g.world.𝓡 ((λ s x. x), (λ x. x), (λ x. x), λ x. x)).admits_one c.serve_all.new.admission mid.plan mid.options (plan_digest mid.plan) (records_of mid.moves)
    (subst (g.A.Admission.stands_for c.serve_all.new.admission) (sym same) (c.serve_all.ensures.stays c.args.desk.now.plan c.requires.stands)) (subst IsValid (sym same) c.requires.valid) c.works-works.ensures.legal in
    ending_at g.T.Terms.trust g.F.Commands.gives g.F.Commands.may_fail g.T.Terms.sources g.S.Site.tells g.S.Site.files g.S.Site.may_leave g.S.Site.moment g.S.Site.images_since [] c.args.desk.now c.serve_all.new.desk c.serve_all.ensures.came.goes g.A.Admission.admitted g.S.Site.count c.now.result c.in-Ok-end.check c.end.new.self c.in-Ok-end.ensures.reply (c.in-Ok.ensures.came.closed.1 ∙ unset)
    (rests_at g.T.Terms.trust g.F.Commands.gives g.F.Commands.may_fail g.T.Terms.sources g.S.Site.tells g.S.Site.files g.S.Site.may_leave g.S.Site.moment g.S.Site.images_since [] c.args.desk.now c.serve_all.new.desk c.serve_all.ensures.came.goes g.A.Admission.admitted one c.requires.valid fresh (c.in-Ok.ensures.came.closed.1 ∙ unset)
    c.works-works.ensures.legal c.works-works.ensures.opened (c.serve_all.ensures.came.idle c.in-Ok.ensures.came.closed.0) (c.serve_all.ensures.came.unended (fresh_unended c.args.desk.now.options.limit (records_of c.args.desk.now.moves) fresh)) c.in-Ok.ensures.came.rests) here

pub returns-in-Ok-end-clause-failed : goal.returns-in-Ok-end-clause-failed
returns-in-Ok-end-clause-failed g c fresh unset =
    failed_at g.T.Terms.trust g.F.Commands.gives g.F.Commands.may_fail g.T.Terms.sources g.S.Site.tells g.S.Site.files g.S.Site.may_leave g.S.Site.moment g.S.Site.images_since [] c.args.desk.now c.serve_all.new.desk c.serve_all.ensures.came.goes g.S.Site.count c.now.result c.in-Ok-end.check c.end.new.self
    (sum_by g.R.Runner.failures c.args.runners.now) (sum_by g.R.Runner.failures c.serve_all.new.runners) c.in-Ok-end.ensures.reply (c.in-Ok.ensures.came.closed.1 ∙ unset) fresh
    (c.serve_all.ensures.came.unended (fresh_unended c.args.desk.now.options.limit (records_of c.args.desk.now.moves) fresh)) (c.in-Ok.ensures.came.failed c.in-Ok.ensures.came.closed.0 (λ wants. wants)) c.serve_all.ensures.came.risen

pub returns-in-Ok-end-clause-completes : goal.returns-in-Ok-end-clause-completes
returns-in-Ok-end-clause-completes g c fresh unset here told kept trusted fit sure few =
    let mid = c.serve_all.new.desk in
    let same = c.serve_all.ensures.came.goes.plan in
    let one =
    (g.met.A.Admission g.world.𝓛 g.world.𝓜 g.world.𝓡 ((λ s x. x), (λ x. x), (λ x. x), λ x. x)).admits_one c.serve_all.new.admission mid.plan mid.options (plan_digest mid.plan) (records_of mid.moves)
    (subst (g.A.Admission.stands_for c.serve_all.new.admission) (sym same) (c.serve_all.ensures.stays c.args.desk.now.plan c.requires.stands)) (subst IsValid (sym same) c.requires.valid) c.works-works.ensures.legal in
    let image = g.S.Site.files c.serve_all.new.desk.site in
    complete_at g.T.Terms.trust g.F.Commands.gives g.F.Commands.may_fail g.T.Terms.sources g.S.Site.tells g.S.Site.files g.S.Site.may_leave g.S.Site.moment g.S.Site.images_since [] c.args.desk.now c.serve_all.new.desk c.serve_all.ensures.came.goes g.A.Admission.admitted g.S.Site.count c.now.result c.in-Ok-end.check c.end.new.self
    (sum_by g.R.Runner.failures c.args.runners.now) (sum_by g.R.Runner.failures c.serve_all.new.runners) image c.in-Ok-end.ensures.reply (c.in-Ok.ensures.came.closed.1 ∙ unset)
    (rests_at g.T.Terms.trust g.F.Commands.gives g.F.Commands.may_fail g.T.Terms.sources g.S.Site.tells g.S.Site.files g.S.Site.may_leave g.S.Site.moment g.S.Site.images_since [] c.args.desk.now c.serve_all.new.desk c.serve_all.ensures.came.goes g.A.Admission.admitted one c.requires.valid fresh (c.in-Ok.ensures.came.closed.1 ∙ unset)
    c.works-works.ensures.legal c.works-works.ensures.opened (c.serve_all.ensures.came.idle c.in-Ok.ensures.came.closed.0) (c.serve_all.ensures.came.unended (fresh_unended c.args.desk.now.options.limit (records_of c.args.desk.now.moves) fresh)) c.in-Ok.ensures.came.rests) here fresh (c.in-Ok.ensures.came.failed c.in-Ok.ensures.came.closed.0 (λ wants. wants)) (c.in-Ok.ensures.came.none sure) trusted
    (c.works-works.ensures.now told kept c.in-Ok.ensures.came.closed.0 image ((g.met.S.Site g.world.𝓛 g.world.𝓜 g.world.𝓡 ((λ s x. x), (λ x. x), (λ x. x), λ x. x)).reads_image told c.serve_all.new.desk.site))
    fit (c.serve_all.ensures.came.idle c.in-Ok.ensures.came.closed.0) (c.in-Ok.ensures.came.due sure) few

pub returns-in-Err-clause-added : goal.returns-in-Err-clause-added
returns-in-Err-clause-added g c fresh =
    stopped_at g.T.Terms.trust g.F.Commands.gives g.F.Commands.may_fail g.T.Terms.sources g.S.Site.tells g.S.Site.files g.S.Site.may_leave g.S.Site.moment g.S.Site.images_since [] c.args.desk.now c.serve_all.new.desk c.serve_all.ensures.came.goes c.in-Err.halt c.serve_all.new.desk fresh c.serve_all.ensures.came.unended refl

pub returns-in-Err-Broken-clause-added : goal.returns-in-Err-Broken-clause-added
returns-in-Err-Broken-clause-added g c fresh =
    stopped_at g.T.Terms.trust g.F.Commands.gives g.F.Commands.may_fail g.T.Terms.sources g.S.Site.tells g.S.Site.files g.S.Site.may_leave g.S.Site.moment g.S.Site.images_since [] c.args.desk.now c.serve_all.new.desk c.serve_all.ensures.came.goes halts.Site c.end.new.self fresh c.serve_all.ensures.came.unended
    (end_same g.S.Site.count c.serve_all.new.desk c.now.result _ c.end.new.self c.in-Err-Broken.ensures.reply)

pub returns-in-Err-Memory-clause-added : goal.returns-in-Err-Memory-clause-added
returns-in-Err-Memory-clause-added g c fresh =
    stopped_at g.T.Terms.trust g.F.Commands.gives g.F.Commands.may_fail g.T.Terms.sources g.S.Site.tells g.S.Site.files g.S.Site.may_leave g.S.Site.moment g.S.Site.images_since [] c.args.desk.now c.serve_all.new.desk c.serve_all.ensures.came.goes halts.Memory c.end.new.self fresh c.serve_all.ensures.came.unended
    (end_same g.S.Site.count c.serve_all.new.desk c.now.result _ c.end.new.self c.in-Err-Memory.ensures.reply)

pub returns-in-Ok-end-clause-added : goal.returns-in-Ok-end-clause-added
returns-in-Ok-end-clause-added g c fresh =
    ended_at g.T.Terms.trust g.F.Commands.gives g.F.Commands.may_fail g.T.Terms.sources g.S.Site.tells g.S.Site.files g.S.Site.may_leave g.S.Site.moment g.S.Site.images_since [] c.args.desk.now c.serve_all.new.desk c.serve_all.ensures.came.goes g.S.Site.count c.now.result c.in-Ok-end.check c.end.new.self fresh c.serve_all.ensures.came.unended c.in-Ok-end.ensures.reply
