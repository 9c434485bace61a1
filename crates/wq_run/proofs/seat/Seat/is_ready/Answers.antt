use Rattle.std.proofs.Common.{subst}
use Rattle.wq_run.specs.Trusted.{IsFair, IsTrusted}
use Rattle.wq_run.proofs.seat.Seat.is_ready.Goals as goal

pub returns : goal.returns
returns g c ready held = subst (IsTrusted g.T.Trust.holds g.F.Commands.gives g.F.Commands.may_fail g.L.Link.history (IsFair g.T.Trust.holds g.L.Link.tells g.L.Link.honest) g.T.Trust.plan g.T.Trust.run g.T.Trust.due) c.self.view_is (c.self.invariant ready held)
