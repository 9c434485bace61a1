use Rattle.wq_run.proofs.Fares.{received_then}
use Rattle.wq_run.proofs.Tending.{may_send_then}
use Rattle.wq_run.proofs.seat.Seat.tend.Goals as goal

pub returns-then-not-is_empty-clause-trusted : goal.returns-then-not-is_empty-clause-trusted
returns-then-not-is_empty-clause-trusted g c tells was = c.probe.ensures.trusted tells (c.in-Ok.ensures.trusted tells was)

pub returns-then-not-is_empty-clause-comes : goal.returns-then-not-is_empty-clause-comes
returns-then-not-is_empty-clause-comes g c tells = received_then (g.L.Link.history c.args.self.now.peer.way) (g.L.Link.history c.flush.new.self.peer.way) (g.L.Link.history c.probe.new.self.peer.way) (c.flush.ensures.comes tells) (c.probe.ensures.comes tells)

pub returns-then-not-is_empty-clause-cause : goal.returns-then-not-is_empty-clause-cause
returns-then-not-is_empty-clause-cause g c = may_send_then (g.L.Link.count c.args.self.now.peer.way) (g.L.Link.count c.flush.new.self.peer.way) (g.L.Link.count c.probe.new.self.peer.way) c.flush.result c.probe.result c.flush.ensures.cause c.probe.ensures.cause

pub returns-then-not-is_empty-clause-calm : goal.returns-then-not-is_empty-clause-calm
returns-then-not-is_empty-clause-calm g c asked tells was = c.probe.ensures.calm asked tells (c.in-Ok.ensures.calm asked tells was).stays

pub returns-then-not-is_empty-clause-surely : goal.returns-then-not-is_empty-clause-surely
returns-then-not-is_empty-clause-surely g c on = c.probe.ensures.surely (c.flush.ensures.surely on)
