use Rattle.std.proofs.Common.{Option, ap, refl, subst, sym, ◌∙◌}
use Rattle.std.specs.Prelude.{sum_by}
use Rattle.flow_types.specs.Plans.{IsValid}
use Rattle.worker_pool.specs.declared.hand.Hand.{Hand}
use Rattle.worker_pool.specs.declared.hand.Tally.{Tally}
use Rattle.worker_pool.specs.Pools.{hand_of}
use Rattle.worker_pool.specs.Tallies.{GrowsWith}
use Rattle.local_run.specs.Underway.{IsSurePool}
use Rattle.wq_run.proofs.Services.{begins_manned, came_finished, counted_more, met_none, met_then, on_want}
use Rattle.local_run.specs.declared.halt.Halt.{Halt}
use Rattle.local_run.specs.declared.halt.Halt.TheVariants as halts
use Rattle.wq_run.specs.Dues.{IsIllLink}
use Rattle.wq_run.specs.Keeping.{KeepsOn}
use Rattle.wq_run.proofs.Duties.{due_halted, due_then}
use Rattle.wq_run.specs.Calm.{IsComing, IsSureOf, IsSureCompany, IsUnmet, KeepsCalm}
use Rattle.wq_run.proofs.Calmly.{calm_halted, calm_then}
use Rattle.wq_run.proofs.serving.serve_in.Goals as goal

pub returns-in_default : goal.returns-in_default
returns-in_default g c = record {
  came = on_want g.T.Terms.trust g.F.Commands.gives g.F.Commands.may_fail g.T.Terms.sources g.S.Site.tells g.T.Terms.kept (IsSurePool g.B.Terms.fits) g.S.Site.files g.S.Site.may_leave g.S.Site.moment g.S.Site.images_since c.args.desk.now (sum_by g.R.Runner.count c.args.runners.now) (sum_by g.R.Runner.failures c.args.runners.now) (λ told image. (g.met.S.Site g.world.𝓛 g.world.𝓜 g.world.𝓡 ((λ s x. x), (λ x. x), (λ x. x), λ x. x)).only_now told c.args.desk.now.site image) c.requires.idle;
  sure = λ is. is;
  tells = λ job is. is;
  seats = c.requires.seats;
  none = c.requires.none;
  listens = c.requires.listens;
  met = met_none;
  due = λ tells. due_halted _ _ halts.Memory refl;
  calm = λ asked tells is. calm_halted halts.Memory refl;
  stays = λ P stands. stands;
}

pub serve_beside-requires-clause-served : goal.serve_beside-requires-clause-served
serve_beside-requires-clause-served g c κs within =
    record { first = c.args.desk.now; manned = begins_manned g.T.Terms.trust g.F.Commands.gives g.F.Commands.may_fail g.T.Terms.sources g.S.Site.tells g.T.Terms.kept (IsSurePool g.B.Terms.fits) g.S.Site.files g.S.Site.may_leave g.S.Site.moment g.S.Site.images_since c.args.desk.now c.new-held.result c.new-pool.result.0.waiting c.new-pool.result.0.heard c.args.company.now.seats c.new-held.ensures.attempts c.new-pool.ensures.pool.0 c.new-pool.ensures.pool.1 c.new-held.ensures.halt (λ told image. (g.met.S.Site g.world.𝓛 g.world.𝓜 g.world.𝓡 ((λ s x. x), (λ x. x), (λ x. x), λ x. x)).only_now told c.args.desk.now.site image) c.requires.fine c.requires.idle c.requires.seats c.requires.none }

pub finish-requires-clause-valid : goal.finish-requires-clause-valid
finish-requires-clause-valid g c κs within =
    let m = begins_manned g.T.Terms.trust g.F.Commands.gives g.F.Commands.may_fail g.T.Terms.sources g.S.Site.tells g.T.Terms.kept (IsSurePool g.B.Terms.fits) g.S.Site.files g.S.Site.may_leave g.S.Site.moment g.S.Site.images_since c.args.desk.now c.new-held.result c.new-pool.result.0.waiting c.new-pool.result.0.heard c.args.company.now.seats c.new-held.ensures.attempts c.new-pool.ensures.pool.0 c.new-pool.ensures.pool.1 c.new-held.ensures.halt (λ told image. (g.met.S.Site g.world.𝓛 g.world.𝓜 g.world.𝓡 ((λ s x. x), (λ x. x), (λ x. x), λ x. x)).only_now told c.args.desk.now.site image) c.requires.fine c.requires.idle c.requires.seats c.requires.none in
    let n = c.serve_beside.ensures.served c.args.desk.now m in
    subst IsValid (sym (n.under.goes.plan ∙ sym m.under.goes.plan)) c.requires.valid

pub finish-requires-clause-stands : goal.finish-requires-clause-stands
finish-requires-clause-stands g c κs within =
    let m = begins_manned g.T.Terms.trust g.F.Commands.gives g.F.Commands.may_fail g.T.Terms.sources g.S.Site.tells g.T.Terms.kept (IsSurePool g.B.Terms.fits) g.S.Site.files g.S.Site.may_leave g.S.Site.moment g.S.Site.images_since c.args.desk.now c.new-held.result c.new-pool.result.0.waiting c.new-pool.result.0.heard c.args.company.now.seats c.new-held.ensures.attempts c.new-pool.ensures.pool.0 c.new-pool.ensures.pool.1 c.new-held.ensures.halt (λ told image. (g.met.S.Site g.world.𝓛 g.world.𝓜 g.world.𝓡 ((λ s x. x), (λ x. x), (λ x. x), λ x. x)).only_now told c.args.desk.now.site image) c.requires.fine c.requires.idle c.requires.seats c.requires.none in
    let n = c.serve_beside.ensures.served c.args.desk.now m in
    subst (g.A.Admission.stands_for c.serve_beside.new.admission) (sym (n.under.goes.plan ∙ sym m.under.goes.plan)) (c.serve_beside.ensures.stays c.args.desk.now.plan c.requires.stands)

pub finish-requires-clause-manned : goal.finish-requires-clause-manned
finish-requires-clause-manned g c κs within =
    let m = begins_manned g.T.Terms.trust g.F.Commands.gives g.F.Commands.may_fail g.T.Terms.sources g.S.Site.tells g.T.Terms.kept (IsSurePool g.B.Terms.fits) g.S.Site.files g.S.Site.may_leave g.S.Site.moment g.S.Site.images_since c.args.desk.now c.new-held.result c.new-pool.result.0.waiting c.new-pool.result.0.heard c.args.company.now.seats c.new-held.ensures.attempts c.new-pool.ensures.pool.0 c.new-pool.ensures.pool.1 c.new-held.ensures.halt (λ told image. (g.met.S.Site g.world.𝓛 g.world.𝓜 g.world.𝓡 ((λ s x. x), (λ x. x), (λ x. x), λ x. x)).only_now told c.args.desk.now.site image) c.requires.fine c.requires.idle c.requires.seats c.requires.none in
    let n = c.serve_beside.ensures.served c.args.desk.now m in
    record { first = c.args.desk.now; waiting = c.serve_beside.new.pool.waiting; heard = c.serve_beside.new.pool.heard; manned = n }

pub returns : goal.returns
returns g c =
    let m = begins_manned g.T.Terms.trust g.F.Commands.gives g.F.Commands.may_fail g.T.Terms.sources g.S.Site.tells g.T.Terms.kept (IsSurePool g.B.Terms.fits) g.S.Site.files g.S.Site.may_leave g.S.Site.moment g.S.Site.images_since c.args.desk.now c.new-held.result c.new-pool.result.0.waiting c.new-pool.result.0.heard c.args.company.now.seats c.new-held.ensures.attempts c.new-pool.ensures.pool.0 c.new-pool.ensures.pool.1 c.new-held.ensures.halt (λ told image. (g.met.S.Site g.world.𝓛 g.world.𝓜 g.world.𝓡 ((λ s x. x), (λ x. x), (λ x. x), λ x. x)).only_now told c.args.desk.now.site image) c.requires.fine c.requires.idle c.requires.seats c.requires.none in
    let n = c.serve_beside.ensures.served c.args.desk.now m in
    let f = c.finish.ensures.ended c.args.desk.now c.serve_beside.new.pool.waiting c.serve_beside.new.pool.heard n in
    let put = (hand_of c.serve_beside.new.token).put in
    let more = counted_more c.serve_beside.new.pool.heard put (sum_by g.R.Runner.count c.args.runners.now) (sum_by g.R.Runner.count c.serve_beside.new.runners) (sum_by g.R.Runner.failures c.args.runners.now) (sum_by g.R.Runner.failures c.serve_beside.new.runners) c.end.ensures.within
    (subst (λ (t : Tally). GrowsWith t put (sum_by g.R.Runner.count c.args.runners.now) (sum_by g.R.Runner.count c.serve_beside.new.runners) (sum_by g.R.Runner.failures c.args.runners.now) (sum_by g.R.Runner.failures c.serve_beside.new.runners)) (ap (λ (h : Hand). h.put) c.new-pool.ensures.token.1) c.serve_beside.ensures.counted) in
    record {
      came = came_finished g.T.Terms.trust g.F.Commands.gives g.F.Commands.may_fail g.T.Terms.sources g.S.Site.tells g.T.Terms.kept (IsSurePool g.B.Terms.fits) g.S.Site.files g.S.Site.may_leave g.S.Site.moment g.S.Site.images_since c.args.desk.now c.finish.new.desk c.serve_beside.new.pool.heard c.finish.new.company.seats (sum_by g.R.Runner.count c.args.runners.now) (sum_by g.R.Runner.count c.serve_beside.new.runners) (sum_by g.R.Runner.failures c.args.runners.now) (sum_by g.R.Runner.failures c.serve_beside.new.runners) c.finish.result f more.0 more.1;
      sure = c.serve_beside.ensures.sure;
      tells = c.serve_beside.ensures.tells;
      seats = f.placed;
      none = f.empty;
      listens = c.finish.ensures.listens c.serve_beside.ensures.listens;
      met = met_then c.serve_beside.ensures.met c.finish.ensures.met;
      due = λ tells. due_then _ _ (subst (λ (h : Option Halt). KeepsOn (IsIllLink g.F.Commands.gives g.F.Commands.may_fail g.H.Way.Link.history g.H.Way.Link.count g.H.Way.Link.idle_count g.H.Way.Link.is_closed c.args.limit) g.H.Way.Link.history c.args.desk.now.moves c.serve_beside.new.desk.moves h c.serve_beside.new.held.halt c.args.company.now c.serve_beside.new.company (g.H.Hall.got c.args.hall.now) (g.H.Hall.got c.serve_beside.new.hall)) c.new-held.ensures.halt (c.serve_beside.ensures.due tells)) (c.finish.ensures.due c.args.limit tells);
      calm = λ asked tells is. calm_then (subst (λ (h : Option Halt). KeepsCalm (IsSureCompany g.F.Commands.gives g.F.Commands.may_fail g.H.Way.Link.history g.H.Way.Link.idle_count (IsSureOf g.H.Way.Link.sure g.H.Way.Link.offers asked) (IsComing g.H.Hall.sure g.H.Hall.staffed asked c.args.hall.now) (IsUnmet g.H.Hall.manned g.H.Hall.idle_count asked c.args.hall.now) c.args.desk.now.moves c.args.company.now) (IsSureCompany g.F.Commands.gives g.F.Commands.may_fail g.H.Way.Link.history g.H.Way.Link.idle_count (IsSureOf g.H.Way.Link.sure g.H.Way.Link.offers asked) (IsComing g.H.Hall.sure g.H.Hall.staffed asked c.serve_beside.new.hall) (IsUnmet g.H.Hall.manned g.H.Hall.idle_count asked c.serve_beside.new.hall) c.serve_beside.new.desk.moves c.serve_beside.new.company) c.args.desk.now.moves c.serve_beside.new.desk.moves h c.serve_beside.new.held.halt c.args.company.now c.serve_beside.new.company) c.new-held.ensures.halt (c.serve_beside.ensures.calm asked tells is)) (c.finish.ensures.calm asked tells);
      stays = λ P stands. c.finish.ensures.stays P (c.serve_beside.ensures.stays P stands);
    }
