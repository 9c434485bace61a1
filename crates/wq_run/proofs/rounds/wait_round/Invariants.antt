use Rattle.worker_pool.specs.Tickets.{no_table}
use Rattle.wq_run.proofs.rounds.wait_round.Given as goal

-- nothing is handed to runners
abbrev pub ghosts-wait : goal.ghosts-wait
ghosts-wait g a = record {
  tickets = no_table;
  fits = λ job outcome. ⊥;
}
