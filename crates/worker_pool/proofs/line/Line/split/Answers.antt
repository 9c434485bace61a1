use Rattle.crossbeam_queue.specs.Passes.{view}
use Rattle.worker_pool.specs.Tallies.{tally_of}
use Rattle.worker_pool.specs.Backs.{IsBack}
use Rattle.worker_pool.proofs.Balances.{forks}
use Rattle.worker_pool.proofs.line.Line.split.Goals as goal

pub another-requires-clause-rule : goal.another-requires-clause-rule
another-requires-clause-rule g c = forks (λ r. tally_of r.outcome) (IsBack g.B.Terms.tickets g.B.Terms.fits) c.args.token.now.id (view c.args.token.now) c.requires.1
