use Rattle.crossbeam_queue.specs.Passes.{view}
use Rattle.worker_pool.specs.Tallies.{tally_of}
use Rattle.worker_pool.specs.Backs.{IsBack}
use Rattle.worker_pool.proofs.Balances.{takes}
use Rattle.worker_pool.proofs.line.Line.take.Goals as goal

pub try_pop_as-requires-clause-rule : goal.try_pop_as-requires-clause-rule
try_pop_as-requires-clause-rule g c = takes (λ r. tally_of r.outcome) (IsBack g.B.Terms.tickets g.B.Terms.fits) c.args.token.now.id (view c.args.token.now) c.requires.1
