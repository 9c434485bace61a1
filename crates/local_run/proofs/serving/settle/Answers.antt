use Rattle.std.proofs.Common.{◌≡◌, ◌∙◌, [], ◌∷◌, None, Option, Some, ap, arith, length, length-append, refl, rules, subst, sym, true≢false}
use Rattle.std.specs.Prelude.{is_none}
use Rattle.flow_types.specs.Plans.{IsValid}
use Rattle.local_run.specs.declared.halt.Halt.{Halt}
use Rattle.local_run.specs.Underway.{HeldState, IsSurePool, IsWantHalt}
use Rattle.local_run.proofs.SettlesBegun.{gives_want, settles_on}
use Rattle.local_run.proofs.StandsBegun.{Under, last_loose, may_want}
use Rattle.local_run.proofs.serving.settle.Goals as goal

pub give_up-halt-requires-clause-valid : goal.give_up-halt-requires-clause-valid
give_up-halt-requires-clause-valid g c κs within =
    let began = c.requires.underway.4 in
    let now = c.loop-attempt.invariant.underway c.requires.underway.0 c.requires.underway.1 c.requires.underway.2 c.requires.underway.3 began in
    subst IsValid (sym (now.1.goes.plan ∙ sym began.goes.plan)) c.requires.valid

pub give_up-halt-requires-clause-stands : goal.give_up-halt-requires-clause-stands
give_up-halt-requires-clause-stands g c κs within =
    let began = c.requires.underway.4 in
    let now = c.loop-attempt.invariant.underway c.requires.underway.0 c.requires.underway.1 c.requires.underway.2 c.requires.underway.3 began in
    subst (g.A.Admission.stands_for c.loop-attempt.admission) (sym (now.1.goes.plan ∙ sym began.goes.plan)) (c.loop-attempt.invariant.stays c.args.desk.now.plan c.requires.stands)

pub give_up-halt-requires-clause-runs : goal.give_up-halt-requires-clause-runs
give_up-halt-requires-clause-runs g c κs within =
    let kept = c.loop-attempt.invariant.underway c.requires.underway.0 c.requires.underway.1 c.requires.underway.2 c.requires.underway.3 c.requires.underway.4 in
    let loose = last_loose g.T.Terms.trust g.F.Commands.gives g.F.Commands.may_fail g.T.Terms.sources g.S.Site.tells g.T.Terms.kept (IsSurePool g.B.Terms.fits) g.S.Site.files g.S.Site.may_leave g.S.Site.moment g.S.Site.images_since c.requires.underway.0 c.requires.underway.1 c.loop-attempt.desk c.pop.new.self.attempts kept.0 c.in-Some.attempt c.requires.underway.3 c.pop.new.self.halt
    (subst (λ (h : HeldState). Under g.T.Terms.trust g.F.Commands.gives g.F.Commands.may_fail g.T.Terms.sources g.S.Site.tells g.T.Terms.kept (IsSurePool g.B.Terms.fits) g.S.Site.files g.S.Site.may_leave g.S.Site.moment g.S.Site.images_since c.requires.underway.0 c.requires.underway.1 c.loop-attempt.desk h.attempts kept.0 None c.requires.underway.3 h.halt) c.in-Some.ensures.some kept.1) in
    loose.1.taken.0

pub loop-attempt-preserved : goal.loop-attempt-preserved
loop-attempt-preserved g c = record {
  underway = λ away first waiting heard u.
      let kept = c.loop-attempt.invariant.underway away first waiting heard u in
      let loose = last_loose g.T.Terms.trust g.F.Commands.gives g.F.Commands.may_fail g.T.Terms.sources g.S.Site.tells g.T.Terms.kept (IsSurePool g.B.Terms.fits) g.S.Site.files g.S.Site.may_leave g.S.Site.moment g.S.Site.images_since away first c.loop-attempt.desk c.pop.new.self.attempts kept.0 c.in-Some.attempt heard c.pop.new.self.halt
      (subst (λ (h : HeldState). Under g.T.Terms.trust g.F.Commands.gives g.F.Commands.may_fail g.T.Terms.sources g.S.Site.tells g.T.Terms.kept (IsSurePool g.B.Terms.fits) g.S.Site.files g.S.Site.may_leave g.S.Site.moment g.S.Site.images_since away first c.loop-attempt.desk h.attempts kept.0 None heard h.halt) c.in-Some.ensures.some kept.1) in (
        loose.0,
        subst (λ (h : HeldState). Under g.T.Terms.trust g.F.Commands.gives g.F.Commands.may_fail g.T.Terms.sources g.S.Site.tells g.T.Terms.kept (IsSurePool g.B.Terms.fits) g.S.Site.files g.S.Site.may_leave g.S.Site.moment g.S.Site.images_since away first c.give_up-halt.new.desk h.attempts loose.0 None heard h.halt) (sym c.stop.ensures)
            (c.give_up-halt.ensures.underway away first c.pop.new.self.attempts loose.0 heard c.pop.new.self.halt loose.1 (λ fine. may_want g.S.Site.tells g.T.Terms.kept (IsSurePool g.B.Terms.fits) g.S.Site.files first c.loop-attempt.desk heard)),
      );
  same = λ none.
      let are = ap (λ (h : HeldState). length h.attempts) c.in-Some.ensures.some in
      let empty = ap length (c.loop-attempt.invariant.same none).0 in
      let more = length-append c.pop.new.self.attempts (c.in-Some.attempt ∷ []) in
      let wrong : ⊥ = omega (arith, are, empty, more) in absurd wrong;
  still = λ none. absurd (true≢false (sym (ap is_none (sym (ap (λ (h : HeldState). h.halt) c.stop.ensures) ∙ none))));
  stays = λ P stands. c.give_up-halt.ensures.stays P (c.loop-attempt.invariant.stays P stands);
  wants = λ want fine. subst (λ (h : HeldState). IsWantHalt h.halt) (sym c.stop.ensures) (gives_want c.loop-attempt.desk.trouble c.give_up-halt.new.desk.trouble c.give_up-halt.result c.give_up-halt.ensures.halt fine);
}

pub returns-in-Some-end-clause-underway : goal.returns-in-Some-end-clause-underway
returns-in-Some-end-clause-underway g c away first waiting heard u =
    let kept = c.loop-attempt.invariant.underway away first waiting heard u in
    let stood : c.pop.new.self ≡ c.loop-attempt.held = search rules in
    let none : c.pop.new.self.attempts ≡ [] = search rules in
    let rest = settles_on g.T.Terms.trust g.F.Commands.gives g.F.Commands.may_fail g.T.Terms.sources g.S.Site.tells g.T.Terms.kept (IsSurePool g.B.Terms.fits) g.S.Site.files g.S.Site.may_leave g.S.Site.moment g.S.Site.images_since away first c.loop-attempt.desk c.pop.new.self.attempts kept.0 heard c.pop.new.self.halt none
    (subst (λ (h : HeldState). Under g.T.Terms.trust g.F.Commands.gives g.F.Commands.may_fail g.T.Terms.sources g.S.Site.tells g.T.Terms.kept (IsSurePool g.B.Terms.fits) g.S.Site.files g.S.Site.may_leave g.S.Site.moment g.S.Site.images_since away first c.loop-attempt.desk h.attempts kept.0 None heard h.halt) (sym stood) kept.1) in
    (Some c.in-Some-end.why, refl, subst (λ (halt : Option Halt). Under g.T.Terms.trust g.F.Commands.gives g.F.Commands.may_fail g.T.Terms.sources g.S.Site.tells g.T.Terms.kept (IsSurePool g.B.Terms.fits) g.S.Site.files g.S.Site.may_leave g.S.Site.moment g.S.Site.images_since away first c.loop-attempt.desk [] [] None heard halt) (sym c.in-Some-end.ensures) rest)

pub returns-in-None-clause-underway : goal.returns-in-None-clause-underway
returns-in-None-clause-underway g c away first waiting heard u =
    let kept = c.loop-attempt.invariant.underway away first waiting heard u in
    let stood : c.pop.new.self ≡ c.loop-attempt.held = search rules in
    let none : c.pop.new.self.attempts ≡ [] = search rules in
    let rest = settles_on g.T.Terms.trust g.F.Commands.gives g.F.Commands.may_fail g.T.Terms.sources g.S.Site.tells g.T.Terms.kept (IsSurePool g.B.Terms.fits) g.S.Site.files g.S.Site.may_leave g.S.Site.moment g.S.Site.images_since away first c.loop-attempt.desk c.pop.new.self.attempts kept.0 heard c.pop.new.self.halt none
    (subst (λ (h : HeldState). Under g.T.Terms.trust g.F.Commands.gives g.F.Commands.may_fail g.T.Terms.sources g.S.Site.tells g.T.Terms.kept (IsSurePool g.B.Terms.fits) g.S.Site.files g.S.Site.may_leave g.S.Site.moment g.S.Site.images_since away first c.loop-attempt.desk h.attempts kept.0 None heard h.halt) (sym stood) kept.1) in
    (None, refl, subst (λ (halt : Option Halt). Under g.T.Terms.trust g.F.Commands.gives g.F.Commands.may_fail g.T.Terms.sources g.S.Site.tells g.T.Terms.kept (IsSurePool g.B.Terms.fits) g.S.Site.files g.S.Site.may_leave g.S.Site.moment g.S.Site.images_since away first c.loop-attempt.desk [] [] None heard halt) (sym c.in-None.ensures) rest)
