use Rattle.std.proofs.Common.{arith}
use Rattle.crossbeam_queue.specs.Passes.{view}
use Rattle.worker_pool.specs.Tallies.{tally_of}
use Rattle.worker_pool.specs.Backs.{IsBack}
use Rattle.worker_pool.proofs.Balances.{settles, takes_last}
use Rattle.worker_pool.proofs.line.Line.last.Goals as goal

pub pop_as-requires-clause-rule : goal.pop_as-requires-clause-rule
pop_as-requires-clause-rule g c = (
  takes_last (λ r. tally_of r.outcome) (IsBack g.B.Terms.tickets g.B.Terms.fits) c.args.token.now.id (view c.args.token.now) (omega arith),
  settles (λ r. tally_of r.outcome) (IsBack g.B.Terms.tickets g.B.Terms.fits) c.args.token.now.id (view c.args.token.now) c.requires.1,
)
