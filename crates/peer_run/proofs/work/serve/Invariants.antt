use Rattle.std.proofs.Common.{◌≡◌, ℕ, false}
use Rattle.worker_core.specs.Workers.{Worker}
use Rattle.peer_run.specs.Works.{AtWork, way_of}
use Rattle.peer_run.proofs.work.serve.Given as goal

abbrev pub invariant-loop : goal.invariant-loop
invariant-loop g l = record {
  works : (first : Worker) (faults : ℕ)
      → AtWork g.F.Commands.gives g.F.Commands.may_fail g.L.Link.tells g.B.Terms.fits first faults (way_of g.L.Link.history g.L.Link.is_closed g.L.Link.count l.fn.link) l.fn.ear l.fn.core l.fn.pool.waiting l.fn.pool.heard false
      → AtWork g.F.Commands.gives g.F.Commands.may_fail g.L.Link.tells g.B.Terms.fits first faults (way_of g.L.Link.history g.L.Link.is_closed g.L.Link.count l.link) l.ear l.core l.pool.waiting l.pool.heard l.left;
  line : l.pool.line ≡ l.fn.pool.line;
}
