use Rattle.std.proofs.Common.{◌∙◌, None, subst, sym}
use Rattle.flow_types.specs.declared.plan.Plan.{Plan}
use Rattle.flow_types.specs.Plans.{IsValid}
use Rattle.flow_types.specs.Serial.{serial}
use Rattle.run_history.specs.declared.options.Options.{Options}
use Rattle.local_run.specs.Course.{TellsJobs}
use Rattle.local_run.specs.Underway.{HeldState, IsSurePool, ToldOf}
use Rattle.local_run.proofs.StandsBegun.{Under, wants_on}
use Rattle.local_run.proofs.serving.serve.Goals as goal

pub returns-in_default-clause-underway : goal.returns-in_default-clause-underway
returns-in_default-clause-underway g c away first u =
    subst (λ (h : HeldState). Under g.T.Terms.trust g.F.Commands.gives g.F.Commands.may_fail g.T.Terms.sources g.S.Site.tells g.T.Terms.kept (IsSurePool g.B.Terms.fits) g.S.Site.files g.S.Site.may_leave g.S.Site.moment g.S.Site.images_since away first c.loop.desk h.attempts c.loop.pool.waiting None c.loop.pool.heard h.halt) (sym c.stop.ensures)
    (wants_on g.T.Terms.trust g.F.Commands.gives g.F.Commands.may_fail g.T.Terms.sources g.S.Site.tells g.T.Terms.kept (IsSurePool g.B.Terms.fits) g.S.Site.files g.S.Site.may_leave g.S.Site.moment g.S.Site.images_since away first c.loop.desk c.loop.held.attempts c.loop.pool.waiting None c.loop.pool.heard c.loop.held.halt (c.loop.invariant.underway away first u))

pub go_on-requires-clause-valid : goal.go_on-requires-clause-valid
go_on-requires-clause-valid g c κs within =
    let began = c.requires.underway.2 in let now = c.loop.invariant.underway c.requires.underway.0 c.requires.underway.1 began in subst IsValid (sym (now.goes.plan ∙ sym began.goes.plan)) c.requires.valid

pub go_on-requires-clause-stands : goal.go_on-requires-clause-stands
go_on-requires-clause-stands g c κs within =
    let began = c.requires.underway.2 in
    let now = c.loop.invariant.underway c.requires.underway.0 c.requires.underway.1 began in
    subst (g.A.Admission.stands_for c.loop.admission) (sym (now.goes.plan ∙ sym began.goes.plan)) (c.loop.invariant.stays c.args.desk.now.plan c.requires.stands)

pub go_on-requires-clause-underway : goal.go_on-requires-clause-underway
go_on-requires-clause-underway g c κs within = (c.requires.underway.0, c.requires.underway.1, c.loop.invariant.underway c.requires.underway.0 c.requires.underway.1 c.requires.underway.2)

pub loop-preserved-then-go_on : goal.loop-preserved-then-go_on
loop-preserved-then-go_on g c = record {
  underway = λ away first u. c.go_on.ensures.underway away first (c.loop.invariant.underway away first u);
  line = c.go_on.ensures.line ∙ c.loop.invariant.line;
  stays = λ P stands. c.go_on.ensures.stays P (c.loop.invariant.stays P stands);
}

pub returns-then-out-eq0-clause-underway : goal.returns-then-out-eq0-clause-underway
returns-then-out-eq0-clause-underway g c away first u = c.go_on.ensures.underway away first (c.loop.invariant.underway away first u)

pub hear-requires-clause-valid : goal.hear-requires-clause-valid
hear-requires-clause-valid g c κs within =
    let began = c.requires.underway.2 in
    let now = c.go_on.ensures.underway c.requires.underway.0 c.requires.underway.1 (c.loop.invariant.underway c.requires.underway.0 c.requires.underway.1 began) in
    subst IsValid (sym (now.goes.plan ∙ sym began.goes.plan)) c.requires.valid

pub hear-requires-clause-stands : goal.hear-requires-clause-stands
hear-requires-clause-stands g c κs within =
    let began = c.requires.underway.2 in
    let now = c.go_on.ensures.underway c.requires.underway.0 c.requires.underway.1 (c.loop.invariant.underway c.requires.underway.0 c.requires.underway.1 began) in
    subst (g.A.Admission.stands_for c.go_on.new.admission) (sym (now.goes.plan ∙ sym began.goes.plan)) (c.go_on.ensures.stays c.args.desk.now.plan (c.loop.invariant.stays c.args.desk.now.plan c.requires.stands))

pub hear-requires-clause-told : goal.hear-requires-clause-told
hear-requires-clause-told g c κs within =
    let began = c.requires.underway.2 in
    let now = c.go_on.ensures.underway c.requires.underway.0 c.requires.underway.1 (c.loop.invariant.underway c.requires.underway.0 c.requires.underway.1 began) in
    subst (λ (Q : Plan). g.T.Terms.trust → TellsJobs Q c.go_on.new.desk.options (ToldOf g.F.Commands.gives g.F.Commands.may_fail g.B.Terms.fits) (serial Q g.F.Commands.gives g.T.Terms.sources)) (sym (now.goes.plan ∙ sym began.goes.plan))
    (subst (λ (O : Options). g.T.Terms.trust → TellsJobs c.args.desk.now.plan O (ToldOf g.F.Commands.gives g.F.Commands.may_fail g.B.Terms.fits) (serial c.args.desk.now.plan g.F.Commands.gives g.T.Terms.sources)) (sym (now.goes.options ∙ sym began.goes.options)) c.requires.told)

pub hear-requires-clause-underway : goal.hear-requires-clause-underway
hear-requires-clause-underway g c κs within = (c.requires.underway.0, c.requires.underway.1, c.go_on.ensures.underway c.requires.underway.0 c.requires.underway.1 (c.loop.invariant.underway c.requires.underway.0 c.requires.underway.1 c.requires.underway.2))

pub loop-preserved-then-not-hear : goal.loop-preserved-then-not-hear
loop-preserved-then-not-hear g c = record {
  underway = λ away first u. c.hear.ensures.underway away first (c.go_on.ensures.underway away first (c.loop.invariant.underway away first u));
  line = c.hear.ensures.line ∙ (c.go_on.ensures.line ∙ c.loop.invariant.line);
  stays = λ P stands. c.hear.ensures.stays P (c.go_on.ensures.stays P (c.loop.invariant.stays P stands));
}

pub loop-preserved : goal.loop-preserved
loop-preserved g c = record {
  underway = λ away first u. c.hear.ensures.underway away first (c.go_on.ensures.underway away first (c.loop.invariant.underway away first u));
  line = c.hear.ensures.line ∙ (c.go_on.ensures.line ∙ c.loop.invariant.line);
  stays = λ P stands. c.hear.ensures.stays P (c.go_on.ensures.stays P (c.loop.invariant.stays P stands));
}
