use Rattle.std.proofs.Common.{◌≡◌, None}
use Rattle.flow_types.specs.declared.plan.Plan.{Plan}
use Rattle.desk.specs.State.{DeskState}
use Rattle.local_run.specs.Underway.{AwayState, IsSurePool, Underway}
use Rattle.local_run.proofs.serving.serve.Given as goal

abbrev pub invariant-loop : goal.invariant-loop
invariant-loop g l = record {
  underway : (away : AwayState) (first : DeskState g.row.S.Denot) → Underway g.T.Terms.trust g.F.Commands.gives g.F.Commands.may_fail g.T.Terms.sources g.S.Site.tells g.T.Terms.kept (IsSurePool g.B.Terms.fits) g.S.Site.files g.S.Site.may_leave g.S.Site.moment g.S.Site.images_since away first l.fn.desk l.fn.held.attempts l.fn.pool.waiting None l.fn.pool.heard l.fn.held.halt
      → Underway g.T.Terms.trust g.F.Commands.gives g.F.Commands.may_fail g.T.Terms.sources g.S.Site.tells g.T.Terms.kept (IsSurePool g.B.Terms.fits) g.S.Site.files g.S.Site.may_leave g.S.Site.moment g.S.Site.images_since away first l.desk l.held.attempts l.pool.waiting None l.pool.heard l.held.halt;
  line : l.pool.line ≡ l.fn.pool.line;
  stays : (P : Plan) → g.A.Admission.stands_for l.fn.admission P → g.A.Admission.stands_for l.admission P;
}
