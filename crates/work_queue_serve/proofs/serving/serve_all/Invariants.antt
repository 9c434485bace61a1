use Rattle.work_queue_serve.proofs.serving.serve_all.Given as goal

abbrev pub invariant-loop : goal.invariant-loop
invariant-loop g l = g.H.Hall.listens l.hall
