use Rattle.worker_pool.proofs.Grants.{begins}
use Rattle.worker_pool.proofs.ticket.new_tickets.Goals as goal

pub ruled-requires-clause-rule : goal.ruled-requires-clause-rule
ruled-requires-clause-rule c = begins
