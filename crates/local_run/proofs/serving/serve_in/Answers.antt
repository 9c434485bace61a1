use Rattle.std.proofs.Common.{ap, subst, sym}
use Rattle.std.specs.Prelude.{sum_by}
use Rattle.flow_types.specs.Plans.{IsValid}
use Rattle.worker_pool.specs.declared.hand.Hand.{Hand}
use Rattle.worker_pool.specs.declared.hand.Tally.{Tally}
use Rattle.worker_pool.specs.Pools.{hand_of}
use Rattle.worker_pool.specs.Tallies.{GrowsWith}
use Rattle.local_run.specs.Underway.{IsSurePool, none_away}
use Rattle.local_run.proofs.RunsServed.{begins_at, comes, comes_want}
use Rattle.local_run.proofs.serving.serve_in.Goals as goal

pub returns-in_default : goal.returns-in_default
returns-in_default g c = record {
  came = comes_want g.T.Terms.trust g.F.Commands.gives g.F.Commands.may_fail g.T.Terms.sources g.S.Site.tells g.T.Terms.kept (IsSurePool g.B.Terms.fits) g.S.Site.files g.S.Site.may_leave g.S.Site.moment g.S.Site.images_since g.A.Admission.admitted c.args.desk.now (sum_by g.R.Runner.count c.args.runners.now) (sum_by g.R.Runner.failures c.args.runners.now) (λ told image. (g.met.S.Site g.world.𝓛 g.world.𝓜 g.world.𝓡 ((λ s x. x), (λ x. x), (λ x. x), λ x. x)).only_now told c.args.desk.now.site image) c.requires.idle;
  stays = λ P stands. stands;
}

pub serve_beside-requires-clause-underway : goal.serve_beside-requires-clause-underway
serve_beside-requires-clause-underway g c κs within = (
  none_away,
  c.args.desk.now,
  begins_at g.T.Terms.trust g.F.Commands.gives g.F.Commands.may_fail g.T.Terms.sources g.S.Site.tells g.T.Terms.kept (IsSurePool g.B.Terms.fits) g.S.Site.files g.S.Site.may_leave g.S.Site.moment g.S.Site.images_since c.args.desk.now c.new-held.result.attempts c.new-pool.result.0.waiting c.new-pool.result.0.heard c.new-held.result.halt
      c.new-held.ensures.attempts c.new-pool.ensures.pool.0 c.new-pool.ensures.pool.1 c.new-held.ensures.halt (λ told image. (g.met.S.Site g.world.𝓛 g.world.𝓜 g.world.𝓡 ((λ s x. x), (λ x. x), (λ x. x), λ x. x)).only_now told c.args.desk.now.site image) c.requires.fine c.requires.idle,
)

pub settle-requires-clause-valid : goal.settle-requires-clause-valid
settle-requires-clause-valid g c κs within =
    let began = begins_at g.T.Terms.trust g.F.Commands.gives g.F.Commands.may_fail g.T.Terms.sources g.S.Site.tells g.T.Terms.kept (IsSurePool g.B.Terms.fits) g.S.Site.files g.S.Site.may_leave g.S.Site.moment g.S.Site.images_since c.args.desk.now c.new-held.result.attempts c.new-pool.result.0.waiting c.new-pool.result.0.heard c.new-held.result.halt
    c.new-held.ensures.attempts c.new-pool.ensures.pool.0 c.new-pool.ensures.pool.1 c.new-held.ensures.halt (λ told image. (g.met.S.Site g.world.𝓛 g.world.𝓜 g.world.𝓡 ((λ s x. x), (λ x. x), (λ x. x), λ x. x)).only_now told c.args.desk.now.site image) c.requires.fine c.requires.idle in
    subst IsValid (sym (c.serve_beside.ensures.underway none_away c.args.desk.now began).goes.plan) c.requires.valid

pub settle-requires-clause-stands : goal.settle-requires-clause-stands
settle-requires-clause-stands g c κs within =
    let began = begins_at g.T.Terms.trust g.F.Commands.gives g.F.Commands.may_fail g.T.Terms.sources g.S.Site.tells g.T.Terms.kept (IsSurePool g.B.Terms.fits) g.S.Site.files g.S.Site.may_leave g.S.Site.moment g.S.Site.images_since c.args.desk.now c.new-held.result.attempts c.new-pool.result.0.waiting c.new-pool.result.0.heard c.new-held.result.halt
    c.new-held.ensures.attempts c.new-pool.ensures.pool.0 c.new-pool.ensures.pool.1 c.new-held.ensures.halt (λ told image. (g.met.S.Site g.world.𝓛 g.world.𝓜 g.world.𝓡 ((λ s x. x), (λ x. x), (λ x. x), λ x. x)).only_now told c.args.desk.now.site image) c.requires.fine c.requires.idle in
    subst (g.A.Admission.stands_for c.serve_beside.new.admission) (sym (c.serve_beside.ensures.underway none_away c.args.desk.now began).goes.plan) (c.serve_beside.ensures.stays c.args.desk.now.plan c.requires.stands)

pub settle-requires-clause-underway : goal.settle-requires-clause-underway
settle-requires-clause-underway g c κs within =
    let began = begins_at g.T.Terms.trust g.F.Commands.gives g.F.Commands.may_fail g.T.Terms.sources g.S.Site.tells g.T.Terms.kept (IsSurePool g.B.Terms.fits) g.S.Site.files g.S.Site.may_leave g.S.Site.moment g.S.Site.images_since c.args.desk.now c.new-held.result.attempts c.new-pool.result.0.waiting c.new-pool.result.0.heard c.new-held.result.halt
    c.new-held.ensures.attempts c.new-pool.ensures.pool.0 c.new-pool.ensures.pool.1 c.new-held.ensures.halt (λ told image. (g.met.S.Site g.world.𝓛 g.world.𝓜 g.world.𝓡 ((λ s x. x), (λ x. x), (λ x. x), λ x. x)).only_now told c.args.desk.now.site image) c.requires.fine c.requires.idle in
    (none_away, c.args.desk.now, c.serve_beside.new.pool.waiting, c.serve_beside.new.pool.heard, c.serve_beside.ensures.underway none_away c.args.desk.now began)

pub returns : goal.returns
returns g c =
    let began = begins_at g.T.Terms.trust g.F.Commands.gives g.F.Commands.may_fail g.T.Terms.sources g.S.Site.tells g.T.Terms.kept (IsSurePool g.B.Terms.fits) g.S.Site.files g.S.Site.may_leave g.S.Site.moment g.S.Site.images_since c.args.desk.now c.new-held.result.attempts c.new-pool.result.0.waiting c.new-pool.result.0.heard c.new-held.result.halt
    c.new-held.ensures.attempts c.new-pool.ensures.pool.0 c.new-pool.ensures.pool.1 c.new-held.ensures.halt (λ told image. (g.met.S.Site g.world.𝓛 g.world.𝓜 g.world.𝓡 ((λ s x. x), (λ x. x), (λ x. x), λ x. x)).only_now told c.args.desk.now.site image) c.requires.fine c.requires.idle in
    let went = c.serve_beside.ensures.underway none_away c.args.desk.now began in
    let settles = c.settle.ensures.underway none_away c.args.desk.now c.serve_beside.new.pool.waiting c.serve_beside.new.pool.heard went in
    let put = (hand_of c.serve_beside.new.token).put in
    record {
      came = comes g.T.Terms.trust g.F.Commands.gives g.F.Commands.may_fail g.T.Terms.sources g.S.Site.tells g.T.Terms.kept (IsSurePool g.B.Terms.fits) g.S.Site.files g.S.Site.may_leave g.S.Site.moment g.S.Site.images_since g.A.Admission.admitted c.args.desk.now c.serve_beside.new.desk c.settle.new.desk c.serve_beside.new.held.attempts c.serve_beside.new.pool.waiting c.serve_beside.new.pool.heard put c.serve_beside.new.held.halt settles.0 c.settle.result
          (sum_by g.R.Runner.count c.args.runners.now) (sum_by g.R.Runner.count c.serve_beside.new.runners) (sum_by g.R.Runner.failures c.args.runners.now) (sum_by g.R.Runner.failures c.serve_beside.new.runners) went c.serve_beside.ensures.heard c.serve_beside.ensures.rests c.settle.ensures.same c.settle.ensures.wants settles.1 settles.2
          c.end.ensures.within c.end.ensures.even
          (subst (λ (t : Tally). GrowsWith t put (sum_by g.R.Runner.count c.args.runners.now) (sum_by g.R.Runner.count c.serve_beside.new.runners) (sum_by g.R.Runner.failures c.args.runners.now) (sum_by g.R.Runner.failures c.serve_beside.new.runners)) (ap (λ (h : Hand). h.put) c.new-pool.ensures.token.1) c.serve_beside.ensures.counted);
      stays = λ P stands. c.settle.ensures.stays P (c.serve_beside.ensures.stays P stands);
    }
