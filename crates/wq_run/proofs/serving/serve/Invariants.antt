use Rattle.std.proofs.Common.{◌≡◌, Option}
use Rattle.flow_types.specs.declared.plan.Plan.{Plan}
use Rattle.local_run.specs.Underway.{IsSurePool}
use Rattle.wq_run.specs.Dues.{IsIllLink}
use Rattle.wq_run.specs.Keeping.{KeepsOn}
use Rattle.wq_run.specs.Seats.{KeepsServed, Meets, inside_of}
use Rattle.wq_run.specs.Trusted.{IsOpen}
use Rattle.wq_run.specs.Calm.{Asked, IsComing, IsSureOf, IsSureCompany, IsUnmet, KeepsCalm}
use Rattle.wq_run.proofs.serving.serve.Given as goal

abbrev pub invariant-loop : goal.invariant-loop
invariant-loop g l = record {
  served : KeepsServed g.T.Terms.trust g.F.Commands.gives g.F.Commands.may_fail g.T.Terms.sources g.S.Site.tells g.T.Terms.kept (IsSurePool g.B.Terms.fits) g.S.Site.files g.S.Site.may_leave g.S.Site.moment g.S.Site.images_since l.fn.desk l.desk l.fn.held l.held l.fn.pool.waiting l.pool.waiting l.fn.pool.heard l.pool.heard l.fn.company.seats l.company.seats;
  line : l.pool.line ≡ l.fn.pool.line;
  listens : IsOpen g.T.Trust.holds (g.H.Hall.listens l.hall) (g.H.Hall.honest l.hall);
  due : g.H.Way.Link.tells → KeepsOn (IsIllLink g.F.Commands.gives g.F.Commands.may_fail g.H.Way.Link.history g.H.Way.Link.count g.H.Way.Link.idle_count g.H.Way.Link.is_closed l.fn.limit) g.H.Way.Link.history l.fn.desk.moves l.desk.moves l.fn.held.halt l.held.halt l.fn.company l.company (g.H.Hall.got l.fn.hall) (g.H.Hall.got l.hall);
  calm : (asked : Option Asked) → g.H.Way.Link.tells → IsSurePool g.B.Terms.fits → KeepsCalm (IsSureCompany g.F.Commands.gives g.F.Commands.may_fail g.H.Way.Link.history g.H.Way.Link.idle_count (IsSureOf g.H.Way.Link.sure g.H.Way.Link.offers asked) (IsComing g.H.Hall.sure g.H.Hall.staffed asked l.fn.hall) (IsUnmet g.H.Hall.manned g.H.Hall.idle_count asked l.fn.hall) l.fn.desk.moves l.fn.company) (IsSureCompany g.F.Commands.gives g.F.Commands.may_fail g.H.Way.Link.history g.H.Way.Link.idle_count (IsSureOf g.H.Way.Link.sure g.H.Way.Link.offers asked) (IsComing g.H.Hall.sure g.H.Hall.staffed asked l.hall) (IsUnmet g.H.Hall.manned g.H.Hall.idle_count asked l.hall) l.desk.moves l.company) l.fn.desk.moves l.desk.moves l.fn.held.halt l.held.halt l.fn.company l.company;
  met : Meets (g.H.Hall.count l.fn.hall) (g.H.Hall.count l.hall) (g.H.Hall.got l.fn.hall) (g.H.Hall.got l.hall) (g.H.Hall.given l.fn.hall) (g.H.Hall.given l.hall) (g.H.Hall.idle_count l.fn.hall) (g.H.Hall.idle_count l.hall) (inside_of l.fn.company) (inside_of l.company) l.fn.company.failed l.company.failed l.fn.company.lost l.company.lost;
  stays : (P : Plan) → g.A.Admission.stands_for l.fn.admission P → g.A.Admission.stands_for l.admission P;
}
