use Rattle.local_run.specs.Underway.{IsSurePool}
use Rattle.wq_run.proofs.Companies.{is_then, met_then, same_met, standing_then, valid_then}
use Rattle.wq_run.proofs.Trusts.{of_manned}
use Rattle.wq_run.proofs.Duties.{due_none, due_then}
use Rattle.wq_run.proofs.Calmly.{calm_none, calm_then}
use Rattle.wq_run.proofs.company.visits.ask_all.Goals as goal

pub loop-at-init : goal.loop-at-init
loop-at-init g c = record {
  manned = λ first waiting heard m. m;
  listens = λ is. is;
  met = same_met;
  due = λ limit tells. due_none _ _;
  calm = λ asked tells. calm_none;
  stays = λ P stands. stands;
}

pub ask-requires-clause-valid : goal.ask-requires-clause-valid
ask-requires-clause-valid g c κs within = valid_then c.requires.manned c.loop-at.invariant.manned c.requires.valid

pub ask-requires-clause-stands : goal.ask-requires-clause-stands
ask-requires-clause-stands g c κs within = standing_then (g.A.Admission.stands_for c.loop-at.admission) c.requires.manned c.loop-at.invariant.manned (c.loop-at.invariant.stays c.args.desk.now.plan c.requires.stands)

pub ask-requires-clause-of : goal.ask-requires-clause-of
ask-requires-clause-of g c κs within = of_manned g.T.Terms.trust g.F.Commands.gives g.F.Commands.may_fail g.T.Terms.sources g.S.Site.tells g.T.Terms.kept (IsSurePool g.B.Terms.fits) g.S.Site.files g.S.Site.may_leave g.S.Site.moment g.S.Site.images_since g.T.Trust.holds g.T.Trust.plan g.T.Trust.options g.T.Trust.run g.T.Trust.due c.args.desk.now c.loop-at.desk c.args.held.now c.loop-at.held c.args.company.now.seats c.loop-at.company.seats c.requires.manned c.loop-at.invariant.manned c.requires.of

pub ask-requires-clause-manned : goal.ask-requires-clause-manned
ask-requires-clause-manned g c κs within = is_then c.requires.manned c.loop-at.invariant.manned

pub loop-at-preserved : goal.loop-at-preserved
loop-at-preserved g c = record {
  manned = λ first waiting heard m. c.ask.ensures.manned first waiting heard (c.loop-at.invariant.manned first waiting heard m);
  listens = λ is. c.ask.ensures.listens (c.loop-at.invariant.listens is);
  met = met_then c.loop-at.invariant.met c.ask.ensures.met;
  due = λ limit tells. due_then _ _ (c.loop-at.invariant.due limit tells) (c.ask.ensures.due limit tells);
  calm = λ asked tells. calm_then (c.loop-at.invariant.calm asked tells) (c.ask.ensures.calm asked tells);
  stays = λ P stands. c.ask.ensures.stays P (c.loop-at.invariant.stays P stands);
}
