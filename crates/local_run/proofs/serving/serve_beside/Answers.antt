use Rattle.std.proofs.Common.{sym, subst, rules}
use Rattle.std.specs.Prelude.{None}
use Rattle.flow_types.specs.Plans.{IsValid}
use Rattle.flow_types.specs.Serial.{serial}
use Rattle.desk.specs.State.{DeskState}
use Rattle.local_run.specs.Course.{TellsJobs}
use Rattle.local_run.specs.Underway.{IsSurePool, ToldOf, Underway}
use Rattle.local_run.proofs.RunsServed.{under_at, under_left}
use Rattle.local_run.proofs.serving.serve_beside.Goals as goal

pub call_beside-requires-clause-takes : goal.call_beside-requires-clause-takes
call_beside-requires-clause-takes g c κs within y same = (
  subst (λ (d : DeskState g.row.S.Denot). IsValid d.plan) (sym same) c.requires.valid,
  (
    subst (λ (d : DeskState g.row.S.Denot). g.A.Admission.stands_for c.args.admission.now d.plan) (sym same) c.requires.stands,
    (
      c.requires.shaped,
      (
        c.requires.base,
        (
          subst (λ (d : DeskState g.row.S.Denot). g.T.Terms.trust → TellsJobs d.plan d.options (ToldOf g.F.Commands.gives g.F.Commands.may_fail g.B.Terms.fits) (serial d.plan g.F.Commands.gives g.T.Terms.sources)) (sym same) c.requires.told,
          (
            (
              c.requires.underway.0,
              c.requires.underway.1,
              subst (λ (d : DeskState g.row.S.Denot). Underway g.T.Terms.trust g.F.Commands.gives g.F.Commands.may_fail g.T.Terms.sources g.S.Site.tells g.T.Terms.kept (IsSurePool g.B.Terms.fits) g.S.Site.files g.S.Site.may_leave g.S.Site.moment g.S.Site.images_since c.requires.underway.0 c.requires.underway.1 d c.args.held.now.attempts c.args.pool.now.waiting None c.args.pool.now.heard c.args.held.now.halt) (sym same) c.requires.underway.2,
            ),
            search rules,
          ),
        ),
      ),
    ),
  ),
)

pub returns-clause-underway : goal.returns-clause-underway
returns-clause-underway g c away first under =
    let call = c.call_beside.ensures.called in
    let began = under_at g.T.Terms.trust g.F.Commands.gives g.F.Commands.may_fail g.T.Terms.sources g.S.Site.tells g.T.Terms.kept (IsSurePool g.B.Terms.fits) g.S.Site.files g.S.Site.may_leave g.S.Site.moment g.S.Site.images_since away first _ _ c.args.held.now.attempts c.args.pool.now.waiting c.args.pool.now.heard c.args.held.now.halt (sym call.shows) under in
    let held = c.call_beside.new.call.3.now in
    let pool = c.call_beside.new.call.4.now in
    under_left g.T.Terms.trust g.F.Commands.gives g.F.Commands.may_fail g.T.Terms.sources g.S.Site.tells g.T.Terms.kept (IsSurePool g.B.Terms.fits) g.S.Site.files g.S.Site.may_leave g.S.Site.moment g.S.Site.images_since away first c.call_beside.new.desk held.attempts _ pool.waiting _ pool.heard _ held.halt _ (search rules) (search rules) (search rules) (search rules)
    (under_at g.T.Terms.trust g.F.Commands.gives g.F.Commands.may_fail g.T.Terms.sources g.S.Site.tells g.T.Terms.kept (IsSurePool g.B.Terms.fits) g.S.Site.files g.S.Site.may_leave g.S.Site.moment g.S.Site.images_since away first _ _ held.attempts pool.waiting pool.heard held.halt call.leaves (call.called.met.1.0 away first began))
