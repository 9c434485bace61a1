use Rattle.std.proofs.Common.{◌≡◌, List, [], None, length}
use Rattle.flow_types.specs.declared.job.Start.{Start}
use Rattle.flow_types.specs.declared.plan.Plan.{Plan}
use Rattle.worker_pool.specs.declared.hand.Tally.{Tally}
use Rattle.desk.specs.State.{DeskState, IsFine}
use Rattle.local_run.specs.Underway.{AwayState, IsSurePool, IsWantHalt, Underway}
use Rattle.local_run.proofs.serving.settle.Given as goal

abbrev pub invariant-loop-attempt : goal.invariant-loop-attempt
invariant-loop-attempt g l = record {
  underway : (away : AwayState) (first : DeskState g.row.S.Denot) (waiting : List Start) (heard : Tally) → Underway g.T.Terms.trust g.F.Commands.gives g.F.Commands.may_fail g.T.Terms.sources g.S.Site.tells g.T.Terms.kept (IsSurePool g.B.Terms.fits) g.S.Site.files g.S.Site.may_leave g.S.Site.moment g.S.Site.images_since away first l.fn.desk l.fn.held.attempts waiting None heard l.fn.held.halt
      → (starts : List Start) × Underway g.T.Terms.trust g.F.Commands.gives g.F.Commands.may_fail g.T.Terms.sources g.S.Site.tells g.T.Terms.kept (IsSurePool g.B.Terms.fits) g.S.Site.files g.S.Site.may_leave g.S.Site.moment g.S.Site.images_since away first l.desk l.held.attempts starts None heard l.held.halt;
  same : l.fn.held.attempts ≡ [] → (l.held.attempts ≡ []) × (l.desk ≡ l.fn.desk) × (l.held.halt ≡ l.fn.held.halt);
  still : l.held.halt ≡ None → (l.fn.held.halt ≡ None) × (l.desk ≡ l.fn.desk);
  stays : (P : Plan) → g.A.Admission.stands_for l.fn.admission P → g.A.Admission.stands_for l.admission P;
  wants : IsWantHalt l.fn.held.halt → IsFine l.desk.trouble → IsWantHalt l.held.halt;
}

abbrev pub decreases-loop-attempt : goal.decreases-loop-attempt
decreases-loop-attempt g l = length l.held.attempts
