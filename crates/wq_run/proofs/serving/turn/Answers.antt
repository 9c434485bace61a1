use Rattle.std.proofs.Common.{◌∙◌, subst, sym}
use Rattle.flow_types.specs.Plans.{IsValid}
use Rattle.run_history.specs.Links.{records_of}
use Rattle.local_run.specs.Underway.{IsSurePool, ToldOf}
use Rattle.wq_run.specs.Calm.{IsSureOf}
use Rattle.wq_run.proofs.Services.{met_then}
use Rattle.wq_run.proofs.Shares.{manned_on}
use Rattle.wq_run.proofs.Trusts.{of_goes, told_by}
use Rattle.wq_run.proofs.Earned.{unlinked_by}
use Rattle.wq_run.proofs.Duties.{due_spared, due_then}
use Rattle.wq_run.proofs.Calmly.{calm_here, calm_then, company_moved}
use Rattle.wq_run.proofs.serving.turn.Goals as goal

pub hear-ended-requires-clause-valid : goal.hear-ended-requires-clause-valid
hear-ended-requires-clause-valid g c κs within =
    let m = c.requires.served.manned in
    let n = c.start_more-started.ensures.served c.requires.served.first m in
    subst IsValid (sym (n.under.goes.plan ∙ sym m.under.goes.plan)) c.requires.valid

pub hear-ended-requires-clause-stands : goal.hear-ended-requires-clause-stands
hear-ended-requires-clause-stands g c κs within =
    let m = c.requires.served.manned in
    let n = c.start_more-started.ensures.served c.requires.served.first m in
    subst (g.A.Admission.stands_for c.start_more-started.new.admission) (sym (n.under.goes.plan ∙ sym m.under.goes.plan)) (c.start_more-started.ensures.stays c.args.desk.now.plan c.requires.stands)

pub hear-ended-requires-clause-told : goal.hear-ended-requires-clause-told
hear-ended-requires-clause-told g c κs within =
    let m = c.requires.served.manned in
    let n = c.start_more-started.ensures.served c.requires.served.first m in
    told_by c.start_more-started.new.desk.plan c.start_more-started.new.desk.options (records_of c.start_more-started.new.desk.moves) (ToldOf g.F.Commands.gives g.F.Commands.may_fail g.B.Terms.fits) (of_goes g.T.Terms.trust g.F.Commands.gives g.F.Commands.may_fail g.T.Terms.sources g.S.Site.tells g.T.Terms.kept (IsSurePool g.B.Terms.fits) g.S.Site.files g.S.Site.may_leave g.S.Site.moment g.S.Site.images_since g.T.Trust.holds g.T.Trust.plan g.T.Trust.options g.T.Trust.run g.T.Trust.due m.away.links n.away.links c.requires.served.first c.args.desk.now c.start_more-started.new.desk m.under.goes n.under.goes c.requires.of) c.requires.told

pub hear-ended-requires-clause-underway : goal.hear-ended-requires-clause-underway
hear-ended-requires-clause-underway g c κs within =
    let m = c.requires.served.manned in
    let n = c.start_more-started.ensures.served c.requires.served.first m in
    (n.away, c.requires.served.first, n.under)

pub round-told-requires-clause-valid : goal.round-told-requires-clause-valid
round-told-requires-clause-valid g c κs within =
    let m = c.requires.served.manned in
    let s = c.start_more-started.ensures.served c.requires.served.first m in
    let n = manned_on g.T.Terms.trust g.F.Commands.gives g.F.Commands.may_fail g.T.Terms.sources g.S.Site.tells g.T.Terms.kept (IsSurePool g.B.Terms.fits) g.S.Site.files g.S.Site.may_leave g.S.Site.moment g.S.Site.images_since c.requires.served.first c.start_more-started.new.desk c.hear-ended.new.desk c.start_more-started.new.held c.hear-ended.new.held c.start_more-started.new.pool.waiting c.hear-ended.new.pool.waiting c.start_more-started.new.pool.heard c.hear-ended.new.pool.heard c.start_more-started.new.company.seats s (c.hear-ended.ensures.underway s.away c.requires.served.first s.under) in
    subst IsValid (sym (n.under.goes.plan ∙ sym m.under.goes.plan)) c.requires.valid

pub round-told-requires-clause-of : goal.round-told-requires-clause-of
round-told-requires-clause-of g c κs within =
    let m = c.requires.served.manned in
    let s = c.start_more-started.ensures.served c.requires.served.first m in
    let n = manned_on g.T.Terms.trust g.F.Commands.gives g.F.Commands.may_fail g.T.Terms.sources g.S.Site.tells g.T.Terms.kept (IsSurePool g.B.Terms.fits) g.S.Site.files g.S.Site.may_leave g.S.Site.moment g.S.Site.images_since c.requires.served.first c.start_more-started.new.desk c.hear-ended.new.desk c.start_more-started.new.held c.hear-ended.new.held c.start_more-started.new.pool.waiting c.hear-ended.new.pool.waiting c.start_more-started.new.pool.heard c.hear-ended.new.pool.heard c.start_more-started.new.company.seats s (c.hear-ended.ensures.underway s.away c.requires.served.first s.under) in
    of_goes g.T.Terms.trust g.F.Commands.gives g.F.Commands.may_fail g.T.Terms.sources g.S.Site.tells g.T.Terms.kept (IsSurePool g.B.Terms.fits) g.S.Site.files g.S.Site.may_leave g.S.Site.moment g.S.Site.images_since g.T.Trust.holds g.T.Trust.plan g.T.Trust.options g.T.Trust.run g.T.Trust.due m.away.links n.away.links c.requires.served.first c.args.desk.now c.hear-ended.new.desk m.under.goes n.under.goes c.requires.of

pub round-told-requires-clause-manned : goal.round-told-requires-clause-manned
round-told-requires-clause-manned g c κs within =
    let m = c.requires.served.manned in
    let s = c.start_more-started.ensures.served c.requires.served.first m in
    let n = manned_on g.T.Terms.trust g.F.Commands.gives g.F.Commands.may_fail g.T.Terms.sources g.S.Site.tells g.T.Terms.kept (IsSurePool g.B.Terms.fits) g.S.Site.files g.S.Site.may_leave g.S.Site.moment g.S.Site.images_since c.requires.served.first c.start_more-started.new.desk c.hear-ended.new.desk c.start_more-started.new.held c.hear-ended.new.held c.start_more-started.new.pool.waiting c.hear-ended.new.pool.waiting c.start_more-started.new.pool.heard c.hear-ended.new.pool.heard c.start_more-started.new.company.seats s (c.hear-ended.ensures.underway s.away c.requires.served.first s.under) in
    record { first = c.requires.served.first; waiting = c.hear-ended.new.pool.waiting; heard = c.hear-ended.new.pool.heard; manned = n }

pub returns : goal.returns
returns g c = record {
  served = λ first m. c.round-told.ensures.manned first c.hear-ended.new.pool.waiting c.hear-ended.new.pool.heard (let s = c.start_more-started.ensures.served first m in manned_on g.T.Terms.trust g.F.Commands.gives g.F.Commands.may_fail g.T.Terms.sources g.S.Site.tells g.T.Terms.kept (IsSurePool g.B.Terms.fits) g.S.Site.files g.S.Site.may_leave g.S.Site.moment g.S.Site.images_since first c.start_more-started.new.desk c.hear-ended.new.desk c.start_more-started.new.held c.hear-ended.new.held c.start_more-started.new.pool.waiting c.hear-ended.new.pool.waiting c.start_more-started.new.pool.heard c.hear-ended.new.pool.heard c.start_more-started.new.company.seats s (c.hear-ended.ensures.underway s.away first s.under));
  line = c.hear-ended.ensures.line ∙ c.start_more-started.ensures.line;
  listens = c.round-told.ensures.listens;
  met = met_then c.start_more-started.ensures.met c.round-told.ensures.met;
  due = λ tells. due_then _ _ (due_then _ _ (c.start_more-started.ensures.due c.args.limit tells) (due_spared _ _ c.hear-ended.ensures.spares (let s = c.start_more-started.ensures.served c.requires.served.first c.requires.served.manned in unlinked_by g.T.Terms.trust g.F.Commands.gives g.F.Commands.may_fail g.T.Terms.sources g.S.Site.tells g.S.Site.files g.S.Site.may_leave g.S.Site.moment g.S.Site.images_since s.away.links c.requires.served.first c.start_more-started.new.desk c.hear-ended.new.desk s.under.goes (c.hear-ended.ensures.underway s.away c.requires.served.first s.under).goes))) (c.round-told.ensures.due tells);
  calm = λ asked tells is. calm_then (calm_then (c.start_more-started.ensures.calm asked tells is) (let s = c.start_more-started.ensures.served c.requires.served.first c.requires.served.manned in calm_here c.hear-ended.new.held c.start_more-started.new.company is s (c.hear-ended.ensures.underway s.away c.requires.served.first s.under) c.hear-ended.ensures.spares (λ same was. company_moved g.F.Commands.gives g.F.Commands.may_fail g.H.Way.Link.history g.H.Way.Link.idle_count (IsSureOf g.H.Way.Link.sure g.H.Way.Link.offers asked) same was))) (c.round-told.ensures.calm asked tells);
  stays = λ P stands. c.hear-ended.ensures.stays P (c.start_more-started.ensures.stays P stands);
}
