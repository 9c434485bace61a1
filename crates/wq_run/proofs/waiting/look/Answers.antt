use Rattle.std.proofs.Common.{◌∙◌, subst, sym}
use Rattle.flow_types.specs.Plans.{IsValid}
use Rattle.local_run.specs.Underway.{IsSurePool}
use Rattle.wq_run.proofs.Services.{met_none, met_then}
use Rattle.wq_run.proofs.Trusts.{of_goes}
use Rattle.wq_run.proofs.Duties.{due_none, due_then}
use Rattle.wq_run.proofs.Calmly.{calm_none, calm_then}
use Rattle.wq_run.proofs.waiting.look.Goals as goal

pub loop-init : goal.loop-init
loop-init g c = record {
  manned = λ first waiting heard m. m;
  listens = c.requires.listens;
  met = met_none;
  due = λ tells. due_none _ _;
  calm = λ asked tells. calm_none;
}

pub round-is_busy-requires-clause-valid : goal.round-is_busy-requires-clause-valid
round-is_busy-requires-clause-valid g c κs within =
    let m = c.requires.manned.manned in
    let n = c.loop.invariant.manned c.requires.manned.first c.requires.manned.waiting c.requires.manned.heard m in
    subst IsValid (sym (n.under.goes.plan ∙ sym m.under.goes.plan)) c.requires.valid

pub round-is_busy-requires-clause-of : goal.round-is_busy-requires-clause-of
round-is_busy-requires-clause-of g c κs within =
    let m = c.requires.manned.manned in
    let n = c.loop.invariant.manned c.requires.manned.first c.requires.manned.waiting c.requires.manned.heard m in
    of_goes g.T.Terms.trust g.F.Commands.gives g.F.Commands.may_fail g.T.Terms.sources g.S.Site.tells g.T.Terms.kept (IsSurePool g.B.Terms.fits) g.S.Site.files g.S.Site.may_leave g.S.Site.moment g.S.Site.images_since g.T.Trust.holds g.T.Trust.plan g.T.Trust.options g.T.Trust.run g.T.Trust.due m.away.links n.away.links c.requires.manned.first c.args.desk.now c.loop.desk m.under.goes n.under.goes c.requires.of

pub round-is_busy-requires-clause-manned : goal.round-is_busy-requires-clause-manned
round-is_busy-requires-clause-manned g c κs within =
    let m = c.requires.manned.manned in
    let n = c.loop.invariant.manned c.requires.manned.first c.requires.manned.waiting c.requires.manned.heard m in
    record { first = c.requires.manned.first; waiting = c.requires.manned.waiting; heard = c.requires.manned.heard; manned = n }

pub loop-preserved : goal.loop-preserved
loop-preserved g c = record {
  manned = λ first waiting heard m. c.round-is_busy.ensures.manned first waiting heard (c.loop.invariant.manned first waiting heard m);
  listens = c.round-is_busy.ensures.listens;
  met = met_then c.loop.invariant.met c.round-is_busy.ensures.met;
  due = λ tells. due_then _ _ (c.loop.invariant.due tells) (c.round-is_busy.ensures.due tells);
  calm = λ asked tells. calm_then (c.loop.invariant.calm asked tells) (c.round-is_busy.ensures.calm asked tells);
}

pub returns-then-not-is_going : goal.returns-then-not-is_going
returns-then-not-is_going g c = record {
  manned = λ first waiting heard m. c.round-is_busy.ensures.manned first waiting heard (c.loop.invariant.manned first waiting heard m);
  listens = c.round-is_busy.ensures.listens;
  met = met_then c.loop.invariant.met c.round-is_busy.ensures.met;
  due = λ tells. due_then _ _ (c.loop.invariant.due tells) (c.round-is_busy.ensures.due tells);
  calm = λ asked tells. calm_then (c.loop.invariant.calm asked tells) (c.round-is_busy.ensures.calm asked tells);
}

pub returns-then-moves_made-moves : goal.returns-then-moves_made-moves
returns-then-moves_made-moves g c = record {
  manned = λ first waiting heard m. c.round-is_busy.ensures.manned first waiting heard (c.loop.invariant.manned first waiting heard m);
  listens = c.round-is_busy.ensures.listens;
  met = met_then c.loop.invariant.met c.round-is_busy.ensures.met;
  due = λ tells. due_then _ _ (c.loop.invariant.due tells) (c.round-is_busy.ensures.due tells);
  calm = λ asked tells. calm_then (c.loop.invariant.calm asked tells) (c.round-is_busy.ensures.calm asked tells);
}

pub returns-then-saturating_sub-from : goal.returns-then-saturating_sub-from
returns-then-saturating_sub-from g c = record {
  manned = λ first waiting heard m. c.round-is_busy.ensures.manned first waiting heard (c.loop.invariant.manned first waiting heard m);
  listens = c.round-is_busy.ensures.listens;
  met = met_then c.loop.invariant.met c.round-is_busy.ensures.met;
  due = λ tells. due_then _ _ (c.loop.invariant.due tells) (c.round-is_busy.ensures.due tells);
  calm = λ asked tells. calm_then (c.loop.invariant.calm asked tells) (c.round-is_busy.ensures.calm asked tells);
}
