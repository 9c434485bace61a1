use Rattle.std.proofs.Common.{ap, ◌∙◌}
use Rattle.wq_run.specs.Seats.{SeatState}
use Rattle.wq_run.proofs.Fares.{received_same, received_then}
use Rattle.wq_run.proofs.seat.Seat.farewell.Goals as goal

pub loop-attempt-init : goal.loop-attempt-init
loop-attempt-init g c = record {
  feed = ap (λ (s : SeatState g.row.L.Denot). s.peer.feed) c.self.view_is;
  comes = λ tells. received_same (g.L.Link.history c.args.self.now.peer.way) (g.L.Link.history c.self.inside.peer.way) (ap (λ (s : SeatState g.row.L.Denot). g.L.Link.history s.peer.way) c.self.view_is);
}

pub loop-attempt-preserved : goal.loop-attempt-preserved
loop-attempt-preserved g c = record {
  feed = c.cancel.ensures.feed ∙ c.loop-attempt.invariant.feed;
  comes = λ tells. received_then (g.L.Link.history c.args.self.now.peer.way) (g.L.Link.history c.loop-attempt.self-inside.1.0.way) (g.L.Link.history c.cancel.new.self.way)
      (c.loop-attempt.invariant.comes tells) (c.cancel.ensures.kept tells);
}

pub returns-clause-feed : goal.returns-clause-feed
returns-clause-feed g c = c.bye.ensures.feed ∙ c.loop-attempt.invariant.feed

pub returns-clause-comes : goal.returns-clause-comes
returns-clause-comes g c tells =
    received_then (g.L.Link.history c.args.self.now.peer.way) (g.L.Link.history c.loop-attempt.self-inside.1.0.way) (g.L.Link.history c.bye.new.self.way)
    (c.loop-attempt.invariant.comes tells) (c.bye.ensures.kept tells)
