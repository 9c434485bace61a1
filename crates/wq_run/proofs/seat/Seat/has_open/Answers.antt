use Rattle.std.proofs.Common.{◌≡◌, ◌∙◌, [], None, false, subst, sym, true}
use Rattle.peers.specs.Provides.{Provides}
use Rattle.flow_types.specs.declared.numbers.AttemptNo.{AttemptNo}
use Rattle.wq_frames.specs.Frames.{front, part}
use Rattle.peers.specs.Serves.{IsSettled, IsStillOwed, Serves}
use Rattle.wq_run.specs.Seats.{SeatState}
use Rattle.wq_run.proofs.seat.Seat.has_open.Goals as goal

pub returns-then-has : goal.returns-then-has
returns-then-has g c = record {
  owed = λ said heard tells serves whole yes.
      subst (λ (s : SeatState g.row.L.Denot). Serves g.F.Commands.gives g.F.Commands.may_fail (g.L.Link.history s.peer.way) s.peer.feed s.peer.session said heard None → front s.peer.feed.rest ≡ part → (number : AttemptNo) × IsStillOwed g.F.Commands.gives g.F.Commands.may_fail (g.L.Link.history s.peer.way) number) c.self.view_is
      (λ serves whole. (c.number.result, c.has.ensures.owed said heard tells serves whole c.if-has.true)) serves whole;
  settled = λ said heard tells serves provides whole rests.
      subst (λ (s : SeatState g.row.L.Denot). Serves g.F.Commands.gives g.F.Commands.may_fail (g.L.Link.history s.peer.way) s.peer.feed s.peer.session said heard None → Provides s.peer.session.known said None [] → front s.peer.feed.rest ≡ part
      → IsSettled g.F.Commands.gives g.F.Commands.may_fail (g.L.Link.history s.peer.way) → true ≡ false) c.self.view_is
      (λ serves provides whole rests. sym c.if-has.true ∙ c.has.ensures.settled said heard tells serves provides whole rests) serves provides whole rests;
}
