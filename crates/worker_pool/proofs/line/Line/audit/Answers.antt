use Rattle.crossbeam_queue.specs.Passes.{view}
use Rattle.worker_pool.specs.Tallies.{tally_of}
use Rattle.worker_pool.specs.Backs.{IsBack}
use Rattle.worker_pool.proofs.Balances.{audits}
use Rattle.worker_pool.proofs.line.Line.audit.Goals as goal

pub learn_as-requires-clause-rule : goal.learn_as-requires-clause-rule
learn_as-requires-clause-rule g c = audits (λ r. tally_of r.outcome) (IsBack g.B.Terms.tickets g.B.Terms.fits) c.args.token.now.id (view c.args.token.now) c.requires.1
