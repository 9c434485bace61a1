use Rattle.wq_seats.proofs.seat.Seat.serve.Goals as goal

pub returns-in-Ok-clause-works : goal.returns-in-Ok-clause-works
returns-in-Ok-clause-works g c files held next tells w = c.listen-in-Ok.ensures.works files held next tells (c.in-Ok.ensures.works files held next tells w)
