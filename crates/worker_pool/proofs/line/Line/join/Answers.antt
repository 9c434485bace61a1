use Rattle.crossbeam_queue.specs.Passes.{view}
use Rattle.worker_pool.specs.Tallies.{tally_of}
use Rattle.worker_pool.specs.Backs.{IsBack}
use Rattle.worker_pool.proofs.Balances.{merges}
use Rattle.worker_pool.proofs.line.Line.join.Goals as goal

pub absorb-requires-clause-rule : goal.absorb-requires-clause-rule
absorb-requires-clause-rule g c = merges (λ r. tally_of r.outcome) (IsBack g.B.Terms.tickets g.B.Terms.fits) c.args.token.now.id (view c.args.token.now) c.args.other.id (view c.args.other) c.requires.token.1
