use Rattle.std.proofs.Common.{List, ap, refl, rules, subst, sym}
use Rattle.worker_pool.specs.Pools.{PoolState}
use Rattle.local_run.specs.Underway.{HeldState, IsSurePool}
use Rattle.wq_run.specs.Seats.{CompanyState}
use Rattle.run_history.specs.declared.moves.Move.{Move}
use Rattle.wq_run.proofs.Services.{manned_at, manned_left}
use Rattle.wq_run.proofs.Turns.{heard_at, line_at, may_serve_at, met_at, open_at, silent}
use Rattle.wq_run.specs.Dues.{IsIllLink}
use Rattle.wq_run.specs.Turns.{as_one}
use Rattle.wq_run.proofs.Duties.{due_at}
use Rattle.wq_run.specs.Calm.{IsComing, IsSureOf, IsSureCompany, IsUnmet}
use Rattle.wq_run.proofs.Calmly.{calm_at}
use Rattle.wq_run.proofs.serving.serve_beside.Goals as goal

pub call_with_beside-back-requires-clause-takes : goal.call_with_beside-back-requires-clause-takes
call_with_beside-back-requires-clause-takes g c κs within y same = (
  as_one (may_serve_at (g.A.Admission.stands_for c.args.admission.now) g.T.Terms.trust g.F.Commands.gives g.F.Commands.may_fail g.T.Terms.sources g.S.Site.tells g.T.Terms.kept g.S.Site.files g.S.Site.may_leave g.S.Site.moment g.S.Site.images_since g.B.Terms.fits g.T.Terms.keen g.T.Trust.holds g.T.Trust.plan g.T.Trust.options g.T.Trust.run g.T.Trust.due
      (g.H.Hall.listens c.args.hall.now) (g.H.Hall.honest c.args.hall.now) _ c.args.desk.now y.now c.args.held.now c.args.pool.now c.args.company.now _ (sym same) (sym c.replace-taken.ensures.value)
      (record {
        valid = c.requires.valid;
        stands = c.requires.stands;
        of = c.requires.of;
        told = c.requires.told;
        eager = c.requires.keen;
        shaped = c.requires.shaped;
        coming = c.requires.listens;
        some = search rules;
        few = search rules;
        served = c.requires.served;
      })),
  (
    record { owned = c.type_bounds.send-F.owned; leaving = λ k. silent (k _) },
    record { owned = c.type_bounds.send-S.owned; leaving = λ k. silent (k _) },
    record { owned = c.type_bounds.send-H.owned; leaving = λ k. silent (k _) },
    record { owned = c.type_bounds.send-C.owned; leaving = λ k. silent (k _) },
    record { owned = c.type_bounds.send-T.owned; leaving = λ k. silent (k _) },
    record { owned = c.type_bounds.send-A.owned; leaving = λ k. silent (k _) },
    record { owned = c.type_bounds.send-H-Way.owned; leaving = λ k. silent (k _) },
    record { shared = c.type_bounds.sync-F.shared },
    record { shared = c.type_bounds.sync-C.shared },
    record { shared = c.type_bounds.sync-T.shared },
  ),
)

pub returns-clause-served : goal.returns-clause-served
returns-clause-served g c first m =
    let call = c.call_with_beside-back.ensures.called in
    let began = manned_left g.T.Terms.trust g.F.Commands.gives g.F.Commands.may_fail g.T.Terms.sources g.S.Site.tells g.T.Terms.kept (IsSurePool g.B.Terms.fits) g.S.Site.files g.S.Site.may_leave g.S.Site.moment g.S.Site.images_since first call.shown.now c.args.held.now _ c.args.pool.now.waiting _ c.args.pool.now.heard _ c.args.company.now.seats c.replace-taken.result.seats refl refl refl (ap (λ (x : CompanyState g.row.H-Way.Denot). x.seats) (sym c.replace-taken.ensures.value))
    (manned_at g.T.Terms.trust g.F.Commands.gives g.F.Commands.may_fail g.T.Terms.sources g.S.Site.tells g.T.Terms.kept (IsSurePool g.B.Terms.fits) g.S.Site.files g.S.Site.may_leave g.S.Site.moment g.S.Site.images_since first _ _ c.args.held.now c.args.pool.now.waiting c.args.pool.now.heard c.args.company.now.seats (sym call.shows) m) in
    let held = c.call_with_beside-back.new.call.3.now in
    let pool = c.call_with_beside-back.new.call.4.now in
    let company = c.call_with_beside-back.result in
    manned_left g.T.Terms.trust g.F.Commands.gives g.F.Commands.may_fail g.T.Terms.sources g.S.Site.tells g.T.Terms.kept (IsSurePool g.B.Terms.fits) g.S.Site.files g.S.Site.may_leave g.S.Site.moment g.S.Site.images_since first c.call_with_beside-back.new.desk held _ pool.waiting _ pool.heard _ company.seats c.replace.new.dest.seats (sym (c.held-1.given.1 (sym call.called.met.0.3))) (ap (λ (x : PoolState). x.waiting) (sym (c.pool-1.given.1 (sym call.called.met.0.4)))) (ap (λ (x : PoolState). x.heard) (sym (c.pool-1.given.1 (sym call.called.met.0.4)))) (ap (λ (x : CompanyState g.row.H-Way.Denot). x.seats) (sym c.replace.ensures.after))
    (manned_at g.T.Terms.trust g.F.Commands.gives g.F.Commands.may_fail g.T.Terms.sources g.S.Site.tells g.T.Terms.kept (IsSurePool g.B.Terms.fits) g.S.Site.files g.S.Site.may_leave g.S.Site.moment g.S.Site.images_since first _ _ held pool.waiting pool.heard company.seats call.leaves (call.called.met.1.served first began))

pub returns-clause-line : goal.returns-clause-line
returns-clause-line g c =
    let call = c.call_with_beside-back.ensures.called in
    let pool = c.call_with_beside-back.new.call.4.now in
    line_at pool.line _ _ (ap (λ (x : PoolState). x.line) (sym (c.pool-1.given.1 (sym call.called.met.0.4)))) call.called.met.1.line

pub returns-clause-listens : goal.returns-clause-listens
returns-clause-listens g c =
    let call = c.call_with_beside-back.ensures.called in
    open_at g.T.Trust.holds g.H.Hall.listens g.H.Hall.honest c.call_with_beside-back.new.call.5.now _ (sym (c.hall-1.given.1 (sym call.called.met.0.5))) call.called.met.1.coming

pub returns-clause-met : goal.returns-clause-met
returns-clause-met g c =
    let call = c.call_with_beside-back.ensures.called in
    met_at g.H.Hall.count g.H.Hall.got g.H.Hall.given g.H.Hall.idle_count c.args.hall.now c.call_with_beside-back.new.call.5.now _ c.replace-taken.result c.args.company.now c.call_with_beside-back.result c.replace.new.dest (sym (c.hall-1.given.1 (sym call.called.met.0.5))) c.replace-taken.ensures.value (sym c.replace.ensures.after)
    call.called.met.1.met

pub returns-clause-heard : goal.returns-clause-heard
returns-clause-heard g c =
    let call = c.call_with_beside-back.ensures.called in
    let held = c.call_with_beside-back.new.call.3.now in
    let pool = c.call_with_beside-back.new.call.4.now in
    heard_at held.halt _ pool.waiting _ (ap (λ (x : HeldState). x.halt) (sym (c.held-1.given.1 (sym call.called.met.0.3)))) (ap (λ (x : PoolState). x.waiting) (sym (c.pool-1.given.1 (sym call.called.met.0.4)))) call.called.met.1.heard

pub returns-clause-due : goal.returns-clause-due
returns-clause-due g c tells =
    let call = c.call_with_beside-back.ensures.called in
    let held = c.call_with_beside-back.new.call.3.now in
    due_at (IsIllLink g.F.Commands.gives g.F.Commands.may_fail g.H.Way.Link.history g.H.Way.Link.count g.H.Way.Link.idle_count g.H.Way.Link.is_closed c.args.limit) g.H.Way.Link.history g.H.Hall.got call.shown.now c.args.desk.now call.left.now c.call_with_beside-back.new.desk c.args.held.now.halt held.halt _ c.args.hall.now c.call_with_beside-back.new.call.5.now _ c.replace-taken.result c.args.company.now c.call_with_beside-back.result c.replace.new.dest
    call.shows call.leaves (ap (λ (x : HeldState). x.halt) (sym (c.held-1.given.1 (sym call.called.met.0.3)))) (sym (c.hall-1.given.1 (sym call.called.met.0.5))) c.replace-taken.ensures.value (sym c.replace.ensures.after) (call.called.met.1.due tells)

pub returns-clause-calm : goal.returns-clause-calm
returns-clause-calm g c asked tells is =
    let call = c.call_with_beside-back.ensures.called in
    let held = c.call_with_beside-back.new.call.3.now in
    calm_at (λ (x : g.row.H.Denot) (m : List Move) (y : CompanyState g.row.H-Way.Denot). IsSureCompany g.F.Commands.gives g.F.Commands.may_fail g.H.Way.Link.history g.H.Way.Link.idle_count (IsSureOf g.H.Way.Link.sure g.H.Way.Link.offers asked) (IsComing g.H.Hall.sure g.H.Hall.staffed asked x) (IsUnmet g.H.Hall.manned g.H.Hall.idle_count asked x) m y) call.shown.now c.args.desk.now call.left.now c.call_with_beside-back.new.desk c.args.held.now.halt held.halt _ c.args.hall.now c.call_with_beside-back.new.call.5.now _ c.replace-taken.result c.args.company.now c.call_with_beside-back.result c.replace.new.dest
    call.shows call.leaves (ap (λ (x : HeldState). x.halt) (sym (c.held-1.given.1 (sym call.called.met.0.3)))) (sym (c.hall-1.given.1 (sym call.called.met.0.5))) c.replace-taken.ensures.value (sym c.replace.ensures.after) (call.called.met.1.calm asked tells is)

pub returns-clause-stays : goal.returns-clause-stays
returns-clause-stays g c P stands =
    let call = c.call_with_beside-back.ensures.called in
    subst (λ (x : g.row.A.Denot). g.A.Admission.stands_for x P) (sym (c.admission-1.given.1 (sym call.called.met.0.2))) (call.called.met.1.stays P stands)
