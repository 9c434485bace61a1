use Rattle.std.proofs.Common.{◌≡◌, ◌+◌, length}
use Rattle.wq_company.proofs.meeting.dismiss.Given as goal

abbrev pub invariant-loop : goal.invariant-loop
invariant-loop g l = record {
  listens : g.H.Hall.listens l.fn.hall → g.H.Hall.listens l.hall;
  faults : g.H.Hall.count l.hall ≡ g.H.Hall.count l.fn.hall;
  idles : g.H.Hall.idle_count l.hall ≡ g.H.Hall.idle_count l.fn.hall;
  back : length (g.H.Hall.got l.hall) + length l.company.seats ≡ length (g.H.Hall.got l.fn.hall) + length l.fn.company.seats;
}
