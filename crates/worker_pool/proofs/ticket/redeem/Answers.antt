use Rattle.crossbeam_queue.specs.Passes.{view}
use Rattle.worker_pool.proofs.Grants.{redeems, learns}
use Rattle.worker_pool.proofs.ticket.redeem.Goals as goal

pub absorb-requires-clause-rule : goal.absorb-requires-clause-rule
absorb-requires-clause-rule c = redeems c.args.chief.now.id (view c.args.chief.now) c.args.ticket.id (view c.args.ticket) c.requires.ticket.1.0 c.requires.chief.1 c.requires.ticket.1.1
