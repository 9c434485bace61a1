use Rattle.crossbeam_queue.specs.Passes.{view}
use Rattle.worker_pool.specs.Tallies.{tally_of}
use Rattle.worker_pool.specs.Backs.{IsBack}
use Rattle.worker_pool.proofs.Balances.{puts}
use Rattle.worker_pool.proofs.line.Line.put.Goals as goal

pub try_push_as-requires-clause-rule : goal.try_push_as-requires-clause-rule
try_push_as-requires-clause-rule g c = puts (λ r. tally_of r.outcome) (IsBack g.B.Terms.tickets g.B.Terms.fits) _ c.loop.token.id (view c.loop.token) c.loop.kept c.loop.invariant.1 c.loop.invariant.5
