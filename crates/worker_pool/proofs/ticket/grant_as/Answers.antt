use Rattle.crossbeam_queue.specs.Passes.{view}
use Rattle.worker_pool.proofs.Grants.{grants}
use Rattle.worker_pool.proofs.ticket.grant_as.Goals as goal

pub another-requires-clause-rule : goal.another-requires-clause-rule
another-requires-clause-rule g c = grants c.args.chief.now.id (view c.args.chief.now) g.N.Naming.start c.requires.chief.1
