use Rattle.std.proofs.Common.{◌∙◌, ap, refl}
use Rattle.wq_seats.specs.Seats.{SeatState}
use Rattle.wq_seats.proofs.Keeping.{goes_on_same, goes_on_then, keeps_same, keeps_then}
use Rattle.wq_seats.proofs.seat.Seat.cancel_gone.Goals as goal

pub loop-init : goal.loop-init
loop-init g c = record {
  only = refl;
  works = λ files next tells w. w;
  on = goes_on_same g.L.Link.honest g.L.Link.sure g.L.Link.offers c.args.self.now.peer.way;
  keeps = keeps_same c.args.book.now.held c.args.self.now;
}

pub loop-preserved : goal.loop-preserved
loop-preserved g c = record {
  only = c.cancel_next.ensures.only ∙ ap (λ (x : SeatState g.row.L.Denot). record x { peer = c.cancel_next.new.self.peer; runs = c.cancel_next.new.self.runs }) c.loop.invariant.only;
  works = λ files next tells w. c.in-Ok-true.ensures.works files next tells (c.loop.invariant.works files next tells w);
  on = goes_on_then g.L.Link.honest g.L.Link.sure g.L.Link.offers c.args.self.now.peer.way c.loop.self.peer.way c.cancel_next.new.self.peer.way c.loop.invariant.on c.cancel_next.ensures.on;
  keeps = keeps_then c.args.book.now.held c.args.book.now.held c.args.book.now.held c.args.self.now c.loop.self c.cancel_next.new.self c.loop.invariant.keeps c.cancel_next.ensures.keeps;
}

pub returns-in-Ok-false-clause-works : goal.returns-in-Ok-false-clause-works
returns-in-Ok-false-clause-works g c files next tells w = c.in-Ok-false.ensures.works files next tells (c.loop.invariant.works files next tells w)
