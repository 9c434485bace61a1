use Rattle.mem_links.proofs.Keeping.{send_honest, send_offers, send_sure}
use Rattle.mem_links.proofs.mem_link.MemLinkLink.hand.Goals as goal

pub returns-clause-honest : goal.returns-clause-honest
returns-clause-honest g c =
    send_honest g.F.Commands.gives g.F.Commands.may_fail c.args.self.now c.transmit.new.self
    c.as_slice.result.now c.transmit.result c.transmit.ensures.step

pub returns-clause-sure : goal.returns-clause-sure
returns-clause-sure g c =
    send_sure g.F.Commands.gives g.F.Commands.may_fail c.args.self.now c.transmit.new.self
    c.as_slice.result.now c.transmit.result c.transmit.ensures.step

pub returns-clause-offers : goal.returns-clause-offers
returns-clause-offers g c = λ amounts.
    send_offers amounts c.args.self.now c.transmit.new.self c.as_slice.result.now c.transmit.result
    c.transmit.ensures.step
