use Rattle.std.proofs.Common.{ap, ◌∙◌}
use Rattle.wq_frames.specs.Streams.{Stream}
use Rattle.wq_run.specs.Dues.{StaysHeard}
use Rattle.wq_run.proofs.Calm.{stays_err}
use Rattle.wq_run.proofs.Fares.{received_then}
use Rattle.wq_run.proofs.Heards.{heard_fed}
use Rattle.wq_run.proofs.Tending.{fails_leaves, if_leaves, ok_by}
use Rattle.wq_run.proofs.seat.Seat.listen.Goals as goal

pub returns-in-Ok-clause-going : goal.returns-in-Ok-clause-going
returns-in-Ok-clause-going g c none = c.read-in-Ok.ensures.going (ap (λ (f : Stream). f.stop) c.tend.ensures.feed ∙ none)

pub returns-in-Ok-clause-comes : goal.returns-in-Ok-clause-comes
returns-in-Ok-clause-comes g c tells = received_then (g.L.Link.history c.args.self.now.peer.way) (g.L.Link.history c.tend.new.self.peer.way) (g.L.Link.history c.read-in-Ok.new.self.peer.way) (c.tend.ensures.comes tells) (c.read-in-Ok.ensures.comes tells)

pub returns-in-Ok-clause-heard : goal.returns-in-Ok-clause-heard
returns-in-Ok-clause-heard g c tells trusted =
    ok_by c.read-in-Ok.result (StaysHeard g.L.Link.history c.tend.new.self.peer c.read-in-Ok.new.self.peer) (StaysHeard g.L.Link.history c.args.self.now.peer c.read-in-Ok.new.self.peer) (λ stays n was. stays n (heard_fed g.L.Link.history c.args.self.now.peer c.tend.new.self.peer (c.tend.ensures.comes tells) c.tend.ensures.feed n was))
    (c.read-in-Ok.ensures.heard tells (c.in-Ok.ensures.trusted tells trusted))

pub returns-in-Ok-clause-leaves : goal.returns-in-Ok-clause-leaves
returns-in-Ok-clause-leaves g c = if_leaves (g.L.Link.is_closed c.read-in-Ok.new.self.peer.way) _ _ _ c.tend.result c.read-in-Ok.result c.tend.ensures.cause c.read-in-Ok.ensures.leaves

pub returns-in-Ok-clause-calm : goal.returns-in-Ok-clause-calm
returns-in-Ok-clause-calm g c asked tells was = c.read-in-Ok.ensures.calm asked tells (c.in-Ok.ensures.calm asked tells was).stays

pub returns-in-Ok-clause-owes : goal.returns-in-Ok-clause-owes
returns-in-Ok-clause-owes g c tells on = c.read-in-Ok.ensures.owes tells (c.tend.ensures.surely on)

pub returns-in-Err-clause-leaves : goal.returns-in-Err-clause-leaves
returns-in-Err-clause-leaves g c = fails_leaves (g.L.Link.is_closed c.tend.new.self.peer.way) _ _ c.in-Err.leave c.in-Err.ensures.cause.fails

pub returns-in-Err-clause-calm : goal.returns-in-Err-clause-calm
returns-in-Err-clause-calm g c asked tells was = stays_err c.in-Err.leave (c.in-Err.ensures.calm asked tells was)
