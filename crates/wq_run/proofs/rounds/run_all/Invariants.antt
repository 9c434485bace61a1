use Rattle.std.proofs.Common.{◌≡◌, ◌<◌, Option, None, [], length}
use Rattle.std.specs.Prelude.{sum_by}
use Rattle.flow_types.specs.declared.plan.Plan.{Plan}
use Rattle.worker_pool.specs.Crews.{AllSure, AllTell}
use Rattle.local_run.specs.Course.{TellsJobs}
use Rattle.local_run.specs.declared.halt.Halt.{Halt}
use Rattle.wq_run.specs.Dues.{IsIllLink}
use Rattle.wq_run.specs.Keeping.{KeepsOn}
use Rattle.wq_run.specs.Seats.{AreSeats, Meets, gathered, inside_of}
use Rattle.wq_run.specs.Trusted.{IsOpen}
use Rattle.wq_run.proofs.Working.{Stands}
use Rattle.wq_run.specs.Calm.{Asked, IsComing, IsSureOf, IsSureCompany, IsUnmet, KeepsCalm}
use Rattle.wq_run.proofs.rounds.run_all.Given as goal

abbrev pub invariant-loop : goal.invariant-loop
invariant-loop g l = record {
  some : 0 < length l.runners;
  stands : Stands g.A.Admission.admitted g.T.Terms.trust g.F.Commands.gives g.F.Commands.may_fail g.T.Terms.sources g.S.Site.tells g.T.Terms.kept g.S.Site.files g.S.Site.may_leave g.S.Site.moment g.S.Site.images_since l.fn.desk l.desk (sum_by g.R.Runner.count l.fn.runners) (sum_by g.R.Runner.count l.runners) (sum_by g.R.Runner.failures l.fn.runners) (sum_by g.R.Runner.failures l.runners);
  sure : AllSure g.R.Runner.sure l.fn.runners → AllSure g.R.Runner.sure l.runners;
  told : g.T.Terms.trust → TellsJobs g.T.Trust.plan g.T.Trust.options (AllTell g.R.Runner.tells l.runners) g.T.Trust.due;
  listens : IsOpen g.T.Trust.holds (g.H.Hall.listens l.hall) (g.H.Hall.honest l.hall);
  seats : AreSeats l.desk.plan l.desk.options l.desk.moves l.company.seats;
  none : gathered l.company.seats ≡ [];
  due : g.H.Way.Link.tells → (let none : Option Halt = None in KeepsOn (IsIllLink g.F.Commands.gives g.F.Commands.may_fail g.H.Way.Link.history g.H.Way.Link.count g.H.Way.Link.idle_count g.H.Way.Link.is_closed l.fn.limit) g.H.Way.Link.history l.fn.desk.moves l.desk.moves none none l.fn.company l.company (g.H.Hall.got l.fn.hall) (g.H.Hall.got l.hall));
  calm : (asked : Option Asked) → g.H.Way.Link.tells → AllSure g.R.Runner.sure l.fn.runners → (let none : Option Halt = None in KeepsCalm (IsSureCompany g.F.Commands.gives g.F.Commands.may_fail g.H.Way.Link.history g.H.Way.Link.idle_count (IsSureOf g.H.Way.Link.sure g.H.Way.Link.offers asked) (IsComing g.H.Hall.sure g.H.Hall.staffed asked l.fn.hall) (IsUnmet g.H.Hall.manned g.H.Hall.idle_count asked l.fn.hall) l.fn.desk.moves l.fn.company) (IsSureCompany g.F.Commands.gives g.F.Commands.may_fail g.H.Way.Link.history g.H.Way.Link.idle_count (IsSureOf g.H.Way.Link.sure g.H.Way.Link.offers asked) (IsComing g.H.Hall.sure g.H.Hall.staffed asked l.hall) (IsUnmet g.H.Hall.manned g.H.Hall.idle_count asked l.hall) l.desk.moves l.company) l.fn.desk.moves l.desk.moves none none l.fn.company l.company);
  met : Meets (g.H.Hall.count l.fn.hall) (g.H.Hall.count l.hall) (g.H.Hall.got l.fn.hall) (g.H.Hall.got l.hall) (g.H.Hall.given l.fn.hall) (g.H.Hall.given l.hall) (g.H.Hall.idle_count l.fn.hall) (g.H.Hall.idle_count l.hall) (inside_of l.fn.company) (inside_of l.company) l.fn.company.failed l.company.failed l.fn.company.lost l.company.lost;
  stays : (P : Plan) → g.A.Admission.stands_for l.fn.admission P → g.A.Admission.stands_for l.admission P;
}
