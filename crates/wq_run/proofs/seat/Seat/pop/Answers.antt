use Rattle.std.specs.Prelude.{option_to_list}
use Rattle.wq_run.specs.Trusted.{IsFair}
use Rattle.wq_run.proofs.Trusts.{pop_trusted}
use Rattle.wq_run.proofs.seat.Seat.pop.Goals as goal

pub invariant_of-self : goal.invariant_of-self
invariant_of-self g c ready held = pop_trusted g.T.Trust.holds g.F.Commands.gives g.F.Commands.may_fail g.L.Link.history (IsFair g.T.Trust.holds g.L.Link.tells g.L.Link.honest) g.T.Trust.plan g.T.Trust.run g.T.Trust.due (record { peer = c.self.inside.peer; link = c.self.inside.link; attempts = c.self.inside.attempts.items; newest = c.self.inside.newest }) c.pop.new.self.items (option_to_list c.pop.result) c.pop.ensures.items (c.self.invariant ready held)
