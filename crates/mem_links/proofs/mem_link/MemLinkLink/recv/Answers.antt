use Rattle.mem_links.proofs.Keeping.{recv_honest, recv_offers, recv_sure}
use Rattle.mem_links.proofs.mem_link.MemLinkLink.recv.Goals as goal

pub returns-clause-honest : goal.returns-clause-honest
returns-clause-honest g c =
    recv_honest g.F.Commands.gives g.F.Commands.may_fail c.args.self.now c.take_step.new.self
    c.take_step.result c.take_step.ensures.step

pub returns-clause-sure : goal.returns-clause-sure
returns-clause-sure g c =
    recv_sure g.F.Commands.gives g.F.Commands.may_fail c.args.self.now c.take_step.new.self
    c.take_step.result c.take_step.ensures.step

pub returns-clause-offers : goal.returns-clause-offers
returns-clause-offers g c = λ amounts.
    recv_offers amounts c.args.self.now c.take_step.new.self c.take_step.result
    c.take_step.ensures.step
