use Rattle.std.proofs.Common.{None, Result, ◌∙◌, ap, refl, subst, sym}
use Rattle.std.specs.Prelude.{OnOk}
use Rattle.flow_types.specs.declared.numbers.AttemptNo.{AttemptNo}
use Rattle.worker_pool.specs.Pools.{PoolState}
use Rattle.local_run.specs.declared.halt.Halt.{Halt}
use Rattle.local_run.specs.Losses.{SparesAll}
use Rattle.local_run.specs.Underway.{AreHere, HeldState, IsHeld, IsSurePool, halt_after}
use Rattle.local_run.proofs.HeldClosed.{outcome_at, same_under, start_held, taken_is, taken_may, taken_out}
use Rattle.local_run.proofs.Sparing.{here_link}
use Rattle.local_run.proofs.hearing.hear.Goals as goal

pub take-attempt-requires : goal.take-attempt-requires
take-attempt-requires g c =
    let t = c.in-Some.ensures.some in
    let u = c.requires.underway in
    record {
      held = subst (λ (n : AttemptNo). IsHeld n c.args.held.now.attempts) t.2
          (start_held g.T.Terms.trust g.F.Commands.gives g.F.Commands.may_fail g.T.Terms.sources g.S.Site.tells g.T.Terms.kept (IsSurePool g.B.Terms.fits) g.S.Site.files g.S.Site.may_leave g.S.Site.moment g.S.Site.images_since u.0 u.1 c.args.desk.now c.args.held.now.attempts c.args.pool.now.waiting c.args.pool.now.heard c.args.held.now.halt t.1.0 t.0 t.1.1 t.1.2 u.2);
    }

pub close-requires-clause-runs : goal.close-requires-clause-runs
close-requires-clause-runs g c κs within =
    let t = c.in-Some.ensures.some in
    let u = c.requires.underway in
    let h = c.take-attempt.ensures.attempts in
    (taken_is g.T.Terms.trust g.F.Commands.gives g.F.Commands.may_fail g.T.Terms.sources g.S.Site.tells g.T.Terms.kept (IsSurePool g.B.Terms.fits) g.S.Site.files g.S.Site.may_leave g.S.Site.moment g.S.Site.images_since u.0 u.1 c.args.desk.now c.args.held.now.attempts c.args.pool.now.waiting c.args.pool.now.heard c.args.held.now.halt h.0 c.take-attempt.result h.1 t.1.0 t.0 t.1.1 h.2 t.1.2 (c.take-attempt.ensures.number ∙ sym t.2) u.2).runs

pub close-requires-clause-outcome : goal.close-requires-clause-outcome
close-requires-clause-outcome g c κs within =
    let t = c.in-Some.ensures.some in
    let u = c.requires.underway in
    let h = c.take-attempt.ensures.attempts in
    outcome_at c.args.desk.now.plan c.args.desk.now.options g.F.Commands.gives g.F.Commands.may_fail g.T.Terms.sources g.T.Terms.trust g.B.Terms.fits c.take-attempt.result.rule.0 t.0.job c.in-Some.report.outcome
    (taken_is g.T.Terms.trust g.F.Commands.gives g.F.Commands.may_fail g.T.Terms.sources g.S.Site.tells g.T.Terms.kept (IsSurePool g.B.Terms.fits) g.S.Site.files g.S.Site.may_leave g.S.Site.moment g.S.Site.images_since u.0 u.1 c.args.desk.now c.args.held.now.attempts c.args.pool.now.waiting c.args.pool.now.heard c.args.held.now.halt h.0 c.take-attempt.result h.1 t.1.0 t.0 t.1.1 h.2 t.1.2 (c.take-attempt.ensures.number ∙ sym t.2) u.2).job
    (taken_may g.T.Terms.trust g.F.Commands.gives g.F.Commands.may_fail g.T.Terms.sources g.S.Site.tells g.T.Terms.kept (IsSurePool g.B.Terms.fits) g.S.Site.files g.S.Site.may_leave g.S.Site.moment g.S.Site.images_since u.0 u.1 c.args.desk.now c.args.held.now.attempts c.args.pool.now.waiting None c.args.pool.now.heard c.args.held.now.halt h.0 c.take-attempt.result h.1 h.2 u.2)
    t.3 c.requires.shaped c.requires.told

pub returns-in-Err-clause-underway : goal.returns-in-Err-clause-underway
returns-in-Err-clause-underway g c away first u =
    let t = c.in-Some.ensures.some in
    let h = c.take-attempt.ensures.attempts in
    same_under g.T.Terms.trust g.F.Commands.gives g.F.Commands.may_fail g.T.Terms.sources g.S.Site.tells g.T.Terms.kept (IsSurePool g.B.Terms.fits) g.S.Site.files g.S.Site.may_leave g.S.Site.moment g.S.Site.images_since away first c.close.new.desk _ c.stop.new.self.attempts _ c.hear.new.self.waiting None _ c.hear.new.self.heard _ c.stop.new.self.halt (ap (λ (s : HeldState). s.attempts) c.stop.ensures ∙ h.3) t.1.3 t.4 (ap (λ (s : HeldState). s.halt) c.stop.ensures ∙ sym (ap (λ (r : Result (Unit {0}) Halt). halt_after r c.args.held.now.halt) c.in-Err.is))
    (c.close.ensures.underway away first _ _ c.args.pool.now.heard c.args.held.now.halt (λ sure. sure t.0.job c.in-Some.report.outcome t.3)
    (taken_out g.T.Terms.trust g.F.Commands.gives g.F.Commands.may_fail g.T.Terms.sources g.S.Site.tells g.T.Terms.kept (IsSurePool g.B.Terms.fits) g.S.Site.files g.S.Site.may_leave g.S.Site.moment g.S.Site.images_since away first c.args.desk.now c.args.held.now.attempts c.args.pool.now.waiting c.args.pool.now.heard c.args.held.now.halt h.0 c.take-attempt.result h.1 t.1.0 t.0 t.1.1 h.2 t.1.2 (c.take-attempt.ensures.number ∙ sym t.2) u))

pub returns-in_default-close-clause-underway : goal.returns-in_default-close-clause-underway
returns-in_default-close-clause-underway g c away first u =
    let t = c.in-Some.ensures.some in
    let h = c.take-attempt.ensures.attempts in
    same_under g.T.Terms.trust g.F.Commands.gives g.F.Commands.may_fail g.T.Terms.sources g.S.Site.tells g.T.Terms.kept (IsSurePool g.B.Terms.fits) g.S.Site.files g.S.Site.may_leave g.S.Site.moment g.S.Site.images_since away first c.close.new.desk _ c.take-attempt.new.self.attempts _ c.hear.new.self.waiting None _ c.hear.new.self.heard _ c.take-attempt.new.self.halt h.3 t.1.3 t.4 (c.take-attempt.ensures.halt ∙ sym (ap (λ (r : Result (Unit {0}) Halt). halt_after r c.args.held.now.halt) c.in_default-close.is))
    (c.close.ensures.underway away first _ _ c.args.pool.now.heard c.args.held.now.halt (λ sure. sure t.0.job c.in-Some.report.outcome t.3)
    (taken_out g.T.Terms.trust g.F.Commands.gives g.F.Commands.may_fail g.T.Terms.sources g.S.Site.tells g.T.Terms.kept (IsSurePool g.B.Terms.fits) g.S.Site.files g.S.Site.may_leave g.S.Site.moment g.S.Site.images_since away first c.args.desk.now c.args.held.now.attempts c.args.pool.now.waiting c.args.pool.now.heard c.args.held.now.halt h.0 c.take-attempt.result h.1 t.1.0 t.0 t.1.1 h.2 t.1.2 (c.take-attempt.ensures.number ∙ sym t.2) u))

pub returns-in_default-clause-underway : goal.returns-in_default-clause-underway
returns-in_default-clause-underway g c away first u =
    let same = c.hear.ensures.none c.in_default.is in
    same_under g.T.Terms.trust g.F.Commands.gives g.F.Commands.may_fail g.T.Terms.sources g.S.Site.tells g.T.Terms.kept (IsSurePool g.B.Terms.fits) g.S.Site.files g.S.Site.may_leave g.S.Site.moment g.S.Site.images_since away first c.args.desk.now _ c.args.held.now.attempts _ c.hear.new.self.waiting None _ c.hear.new.self.heard _ c.args.held.now.halt refl (ap (λ (p : PoolState). p.waiting) same) (ap (λ (p : PoolState). p.heard) same) refl u

pub returns-in_default-close-clause-spares : goal.returns-in_default-close-clause-spares
returns-in_default-close-clause-spares g c none =
    let u = c.requires.underway in
    let h = c.take-attempt.ensures.attempts in
    let here = here_link u.1.plan u.1.options h.0 c.take-attempt.result h.1 (subst (AreHere u.1.plan u.1.options) h.2 u.2.here) in
    (sym c.take-attempt.ensures.halt ∙ none, subst (λ (r : Result (Unit {0}) Halt). OnOk r (SparesAll c.args.desk.now.moves c.close.new.desk.moves)) c.in_default-close.is (c.close.ensures.spares here))
