use Rattle.std.proofs.Common.{◌≡◌, ◌<◌}
use Rattle.crossbeam_queue.specs.Passes.{view, IsPassOf, IsSamePass}
use Rattle.worker_pool.specs.Backs.{IsBack}
use Rattle.worker_pool.proofs.line.Line.put.Given as goal

abbrev pub invariant-loop : goal.invariant-loop
invariant-loop g l =
    IsPassOf l.self.reports l.token × (0 < (view l.token).parts) × IsSamePass l.fn.token l.token × (view l.token ≡ view l.fn.token) × (l.kept ≡ l.fn.ran) × IsBack g.B.Terms.tickets g.B.Terms.fits l.kept
