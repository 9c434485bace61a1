use Rattle.std.proofs.Common.{refl, subst, sym, ◌∙◌}
use Rattle.flow_types.specs.Plans.{IsValid}
use Rattle.local_run.specs.Underway.{IsSurePool}
use Rattle.wq_run.proofs.Services.{met_none, met_same, manned_same}
use Rattle.wq_run.proofs.Shares.{manned_on}
use Rattle.wq_run.proofs.Trusts.{of_goes}
use Rattle.wq_run.proofs.Earned.{unlinked_by}
use Rattle.wq_run.proofs.Duties.{due_as, due_none, due_spared, due_then}
use Rattle.wq_run.specs.Calm.{IsComing, IsSureOf, IsSureCompany, IsUnmet}
use Rattle.wq_run.proofs.Calmly.{calm_here, calm_none, calm_then, calm_to, company_moved}
use Rattle.wq_run.proofs.serving.start_more.Goals as goal

pub go_on-here-requires-clause-base : goal.go_on-here-requires-clause-base
go_on-here-requires-clause-base g c κs within trusted = c.requires.of.base trusted

pub go_on-here-requires-clause-underway : goal.go_on-here-requires-clause-underway
go_on-here-requires-clause-underway g c κs within = (c.requires.served.manned.away, c.requires.served.first, c.requires.served.manned.under)

pub ask_all-there-requires-clause-valid : goal.ask_all-there-requires-clause-valid
ask_all-there-requires-clause-valid g c κs within =
    let m = c.requires.served.manned in
    let n = manned_on g.T.Terms.trust g.F.Commands.gives g.F.Commands.may_fail g.T.Terms.sources g.S.Site.tells g.T.Terms.kept (IsSurePool g.B.Terms.fits) g.S.Site.files g.S.Site.may_leave g.S.Site.moment g.S.Site.images_since c.requires.served.first c.args.desk.now c.go_on-here.new.desk c.args.held.now c.go_on-here.new.held c.args.pool.now.waiting c.go_on-here.new.pool.waiting c.args.pool.now.heard c.go_on-here.new.pool.heard c.args.company.now.seats m (c.go_on-here.ensures.underway m.away c.requires.served.first m.under) in
    subst IsValid (sym (n.under.goes.plan ∙ sym m.under.goes.plan)) c.requires.valid

pub ask_all-there-requires-clause-stands : goal.ask_all-there-requires-clause-stands
ask_all-there-requires-clause-stands g c κs within =
    let m = c.requires.served.manned in
    let n = manned_on g.T.Terms.trust g.F.Commands.gives g.F.Commands.may_fail g.T.Terms.sources g.S.Site.tells g.T.Terms.kept (IsSurePool g.B.Terms.fits) g.S.Site.files g.S.Site.may_leave g.S.Site.moment g.S.Site.images_since c.requires.served.first c.args.desk.now c.go_on-here.new.desk c.args.held.now c.go_on-here.new.held c.args.pool.now.waiting c.go_on-here.new.pool.waiting c.args.pool.now.heard c.go_on-here.new.pool.heard c.args.company.now.seats m (c.go_on-here.ensures.underway m.away c.requires.served.first m.under) in
    subst (g.A.Admission.stands_for c.go_on-here.new.admission) (sym (n.under.goes.plan ∙ sym m.under.goes.plan)) (c.go_on-here.ensures.stays c.args.desk.now.plan c.requires.stands)

pub ask_all-there-requires-clause-of : goal.ask_all-there-requires-clause-of
ask_all-there-requires-clause-of g c κs within =
    let m = c.requires.served.manned in
    let n = manned_on g.T.Terms.trust g.F.Commands.gives g.F.Commands.may_fail g.T.Terms.sources g.S.Site.tells g.T.Terms.kept (IsSurePool g.B.Terms.fits) g.S.Site.files g.S.Site.may_leave g.S.Site.moment g.S.Site.images_since c.requires.served.first c.args.desk.now c.go_on-here.new.desk c.args.held.now c.go_on-here.new.held c.args.pool.now.waiting c.go_on-here.new.pool.waiting c.args.pool.now.heard c.go_on-here.new.pool.heard c.args.company.now.seats m (c.go_on-here.ensures.underway m.away c.requires.served.first m.under) in
    of_goes g.T.Terms.trust g.F.Commands.gives g.F.Commands.may_fail g.T.Terms.sources g.S.Site.tells g.T.Terms.kept (IsSurePool g.B.Terms.fits) g.S.Site.files g.S.Site.may_leave g.S.Site.moment g.S.Site.images_since g.T.Trust.holds g.T.Trust.plan g.T.Trust.options g.T.Trust.run g.T.Trust.due m.away.links n.away.links c.requires.served.first c.args.desk.now c.go_on-here.new.desk m.under.goes n.under.goes c.requires.of

pub ask_all-there-requires-clause-manned : goal.ask_all-there-requires-clause-manned
ask_all-there-requires-clause-manned g c κs within =
    let m = c.requires.served.manned in
    let n = manned_on g.T.Terms.trust g.F.Commands.gives g.F.Commands.may_fail g.T.Terms.sources g.S.Site.tells g.T.Terms.kept (IsSurePool g.B.Terms.fits) g.S.Site.files g.S.Site.may_leave g.S.Site.moment g.S.Site.images_since c.requires.served.first c.args.desk.now c.go_on-here.new.desk c.args.held.now c.go_on-here.new.held c.args.pool.now.waiting c.go_on-here.new.pool.waiting c.args.pool.now.heard c.go_on-here.new.pool.heard c.args.company.now.seats m (c.go_on-here.ensures.underway m.away c.requires.served.first m.under) in
    record { first = c.requires.served.first; waiting = c.go_on-here.new.pool.waiting; heard = c.go_on-here.new.pool.heard; manned = n }

pub returns-then-not-has_news : goal.returns-then-not-has_news
returns-then-not-has_news g c = record {
  served = λ first m. m;
  line = refl;
  listens = c.requires.listens;
  met = met_none;
  due = λ limit tells. due_none _ _;
  calm = λ asked tells is. calm_none;
  stays = λ P stands. stands;
}

pub returns-then-any : goal.returns-then-any
returns-then-any g c = record {
  served = λ first m. c.ask_all-there.ensures.manned first c.go_on-here.new.pool.waiting c.go_on-here.new.pool.heard (manned_on g.T.Terms.trust g.F.Commands.gives g.F.Commands.may_fail g.T.Terms.sources g.S.Site.tells g.T.Terms.kept (IsSurePool g.B.Terms.fits) g.S.Site.files g.S.Site.may_leave g.S.Site.moment g.S.Site.images_since first c.args.desk.now c.go_on-here.new.desk c.args.held.now c.go_on-here.new.held c.args.pool.now.waiting c.go_on-here.new.pool.waiting c.args.pool.now.heard c.go_on-here.new.pool.heard c.args.company.now.seats m (c.go_on-here.ensures.underway m.away first m.under));
  line = c.go_on-here.ensures.line;
  listens = c.ask_all-there.ensures.listens c.requires.listens;
  met = c.ask_all-there.ensures.met;
  due = λ limit tells. due_then _ _ (due_spared _ _ c.go_on-here.ensures.spares (unlinked_by g.T.Terms.trust g.F.Commands.gives g.F.Commands.may_fail g.T.Terms.sources g.S.Site.tells g.S.Site.files g.S.Site.may_leave g.S.Site.moment g.S.Site.images_since c.requires.served.manned.away.links c.requires.served.first c.args.desk.now c.go_on-here.new.desk c.requires.served.manned.under.goes (c.go_on-here.ensures.underway c.requires.served.manned.away c.requires.served.first c.requires.served.manned.under).goes)) (c.ask_all-there.ensures.due limit tells);
  calm = λ asked tells is. calm_then (calm_here c.go_on-here.new.held c.args.company.now is c.requires.served.manned (c.go_on-here.ensures.underway c.requires.served.manned.away c.requires.served.first c.requires.served.manned.under) c.go_on-here.ensures.spares (λ same was. company_moved g.F.Commands.gives g.F.Commands.may_fail g.H.Way.Link.history g.H.Way.Link.idle_count (IsSureOf g.H.Way.Link.sure g.H.Way.Link.offers asked) same was)) (c.ask_all-there.ensures.calm asked tells);
  stays = λ P stands. c.ask_all-there.ensures.stays P (c.go_on-here.ensures.stays P stands);
}

pub returns : goal.returns
returns g c = record {
  served = λ first m. manned_same g.T.Terms.trust g.F.Commands.gives g.F.Commands.may_fail g.T.Terms.sources g.S.Site.tells g.T.Terms.kept (IsSurePool g.B.Terms.fits) g.S.Site.files g.S.Site.may_leave g.S.Site.moment g.S.Site.images_since first c.ask_all-there.new.desk c.ask_all-there.new.held c.go_on-here.new.pool.waiting c.go_on-here.new.pool.heard c.ask_all-there.new.company c.rest_at.new.self c.rest_at.ensures (c.ask_all-there.ensures.manned first c.go_on-here.new.pool.waiting c.go_on-here.new.pool.heard (manned_on g.T.Terms.trust g.F.Commands.gives g.F.Commands.may_fail g.T.Terms.sources g.S.Site.tells g.T.Terms.kept (IsSurePool g.B.Terms.fits) g.S.Site.files g.S.Site.may_leave g.S.Site.moment g.S.Site.images_since first c.args.desk.now c.go_on-here.new.desk c.args.held.now c.go_on-here.new.held c.args.pool.now.waiting c.go_on-here.new.pool.waiting c.args.pool.now.heard c.go_on-here.new.pool.heard c.args.company.now.seats m (c.go_on-here.ensures.underway m.away first m.under)));
  line = c.go_on-here.ensures.line;
  listens = c.ask_all-there.ensures.listens c.requires.listens;
  met = met_same c.ask_all-there.new.company c.rest_at.new.self c.rest_at.ensures c.ask_all-there.ensures.met;
  due = λ limit tells. due_as _ _ (sym c.rest_at.ensures) (due_then _ _ (due_spared _ _ c.go_on-here.ensures.spares (unlinked_by g.T.Terms.trust g.F.Commands.gives g.F.Commands.may_fail g.T.Terms.sources g.S.Site.tells g.S.Site.files g.S.Site.may_leave g.S.Site.moment g.S.Site.images_since c.requires.served.manned.away.links c.requires.served.first c.args.desk.now c.go_on-here.new.desk c.requires.served.manned.under.goes (c.go_on-here.ensures.underway c.requires.served.manned.away c.requires.served.first c.requires.served.manned.under).goes)) (c.ask_all-there.ensures.due limit tells));
  calm = λ asked tells is. calm_to (λ x. IsSureCompany g.F.Commands.gives g.F.Commands.may_fail g.H.Way.Link.history g.H.Way.Link.idle_count (IsSureOf g.H.Way.Link.sure g.H.Way.Link.offers asked) (IsComing g.H.Hall.sure g.H.Hall.staffed asked c.ask_all-there.new.hall) (IsUnmet g.H.Hall.manned g.H.Hall.idle_count asked c.ask_all-there.new.hall) c.ask_all-there.new.desk.moves x) (sym c.rest_at.ensures) (calm_then (calm_here c.go_on-here.new.held c.args.company.now is c.requires.served.manned (c.go_on-here.ensures.underway c.requires.served.manned.away c.requires.served.first c.requires.served.manned.under) c.go_on-here.ensures.spares (λ same was. company_moved g.F.Commands.gives g.F.Commands.may_fail g.H.Way.Link.history g.H.Way.Link.idle_count (IsSureOf g.H.Way.Link.sure g.H.Way.Link.offers asked) same was)) (c.ask_all-there.ensures.calm asked tells));
  stays = λ P stands. c.ask_all-there.ensures.stays P (c.go_on-here.ensures.stays P stands);
}
