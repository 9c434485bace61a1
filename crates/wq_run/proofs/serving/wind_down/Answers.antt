use Rattle.std.proofs.Common.{◌∙◌, subst, sym, true≢false}
use Rattle.flow_types.specs.Plans.{IsValid}
use Rattle.run_history.specs.Links.{records_of}
use Rattle.local_run.specs.Underway.{IsSurePool, ToldOf}
use Rattle.wq_run.proofs.Shares.{manned_on}
use Rattle.wq_run.proofs.Trusts.{of_goes, told_by}
use Rattle.wq_run.proofs.Duties.{due_stopped, due_then, stopped_on}
use Rattle.wq_run.proofs.serving.wind_down.Goals as goal

pub dismiss-requires-clause-manned : goal.dismiss-requires-clause-manned
dismiss-requires-clause-manned g c κs within = record { first = c.requires.served.first; waiting = c.args.pool.now.waiting; heard = c.args.pool.now.heard; manned = c.requires.served.manned }

pub hear-requires-clause-valid : goal.hear-requires-clause-valid
hear-requires-clause-valid g c κs within =
    let m = c.requires.served.manned in
    let n = c.dismiss.ensures.manned c.requires.served.first c.args.pool.now.waiting c.args.pool.now.heard m in
    subst IsValid (sym (n.under.goes.plan ∙ sym m.under.goes.plan)) c.requires.valid

pub hear-requires-clause-stands : goal.hear-requires-clause-stands
hear-requires-clause-stands g c κs within =
    let m = c.requires.served.manned in
    let n = c.dismiss.ensures.manned c.requires.served.first c.args.pool.now.waiting c.args.pool.now.heard m in
    subst (g.A.Admission.stands_for c.args.admission.now) (sym (n.under.goes.plan ∙ sym m.under.goes.plan)) (c.requires.stands)

pub hear-requires-clause-told : goal.hear-requires-clause-told
hear-requires-clause-told g c κs within =
    let m = c.requires.served.manned in
    let n = c.dismiss.ensures.manned c.requires.served.first c.args.pool.now.waiting c.args.pool.now.heard m in
    told_by c.dismiss.new.desk.plan c.dismiss.new.desk.options (records_of c.dismiss.new.desk.moves) (ToldOf g.F.Commands.gives g.F.Commands.may_fail g.B.Terms.fits) (of_goes g.T.Terms.trust g.F.Commands.gives g.F.Commands.may_fail g.T.Terms.sources g.S.Site.tells g.T.Terms.kept (IsSurePool g.B.Terms.fits) g.S.Site.files g.S.Site.may_leave g.S.Site.moment g.S.Site.images_since g.T.Trust.holds g.T.Trust.plan g.T.Trust.options g.T.Trust.run g.T.Trust.due m.away.links n.away.links c.requires.served.first c.args.desk.now c.dismiss.new.desk m.under.goes n.under.goes c.requires.of) c.requires.told

pub hear-requires-clause-underway : goal.hear-requires-clause-underway
hear-requires-clause-underway g c κs within =
    let m = c.requires.served.manned in
    let n = c.dismiss.ensures.manned c.requires.served.first c.args.pool.now.waiting c.args.pool.now.heard m in
    (n.away, c.requires.served.first, n.under)

pub returns-then-out-eq0-clause-served : goal.returns-then-out-eq0-clause-served
returns-then-out-eq0-clause-served g c first m = c.dismiss.ensures.manned first c.args.pool.now.waiting c.args.pool.now.heard m

pub returns-then-not-hear : goal.returns-then-not-hear
returns-then-not-hear g c = record {
  served = λ first m. (let s = c.dismiss.ensures.manned first c.args.pool.now.waiting c.args.pool.now.heard m in manned_on g.T.Terms.trust g.F.Commands.gives g.F.Commands.may_fail g.T.Terms.sources g.S.Site.tells g.T.Terms.kept (IsSurePool g.B.Terms.fits) g.S.Site.files g.S.Site.may_leave g.S.Site.moment g.S.Site.images_since first c.dismiss.new.desk c.hear.new.desk c.dismiss.new.held c.hear.new.held c.args.pool.now.waiting c.hear.new.pool.waiting c.args.pool.now.heard c.hear.new.pool.heard c.dismiss.new.company.seats s (c.hear.ensures.underway s.away first s.under));
  line = c.hear.ensures.line;
  listens = c.dismiss.ensures.listens c.requires.listens;
  met = c.dismiss.ensures.met;
  over = λ is. absurd (true≢false (sym is));
  due = λ limit tells stopped.
      due_then _ _ (c.dismiss.ensures.due limit tells stopped) (due_stopped _ _ (λ none fine kept. stopped_on _ _ (c.dismiss.ensures.due limit tells stopped) stopped (c.hear.ensures.spares none).0 fine kept));
  stays = c.hear.ensures.stays;
}

pub returns-else-not-hear : goal.returns-else-not-hear
returns-else-not-hear g c = record {
  served = λ first m. (let s = c.dismiss.ensures.manned first c.args.pool.now.waiting c.args.pool.now.heard m in manned_on g.T.Terms.trust g.F.Commands.gives g.F.Commands.may_fail g.T.Terms.sources g.S.Site.tells g.T.Terms.kept (IsSurePool g.B.Terms.fits) g.S.Site.files g.S.Site.may_leave g.S.Site.moment g.S.Site.images_since first c.dismiss.new.desk c.hear.new.desk c.dismiss.new.held c.hear.new.held c.args.pool.now.waiting c.hear.new.pool.waiting c.args.pool.now.heard c.hear.new.pool.heard c.dismiss.new.company.seats s (c.hear.ensures.underway s.away first s.under));
  line = c.hear.ensures.line;
  listens = c.dismiss.ensures.listens c.requires.listens;
  met = c.dismiss.ensures.met;
  over = λ is. absurd (true≢false (sym is));
  due = λ limit tells stopped.
      due_then _ _ (c.dismiss.ensures.due limit tells stopped) (due_stopped _ _ (λ none fine kept. stopped_on _ _ (c.dismiss.ensures.due limit tells stopped) stopped (c.hear.ensures.spares none).0 fine kept));
  stays = c.hear.ensures.stays;
}
