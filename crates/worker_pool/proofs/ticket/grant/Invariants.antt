use Rattle.worker_pool.proofs.ticket.grant.Given as goal

abbrev pub ghosts-grant_as : goal.ghosts-grant_as
ghosts-grant_as a = record { start = a.start.now }
