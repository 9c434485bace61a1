use Rattle.std.proofs.Common.{◌≡◌}
use Rattle.peers.specs.States.{PassesOn}
use Rattle.wq_run.proofs.seat.Seat.farewell.Given as goal

abbrev pub invariant-loop-attempt : goal.invariant-loop-attempt
invariant-loop-attempt g l = record {
  feed : l.self-inside.1.0.feed ≡ l.fn.self.peer.feed;
  comes : g.L.Link.tells → PassesOn (g.L.Link.history l.fn.self.peer.way) (g.L.Link.history l.self-inside.1.0.way);
}
