use Rattle.mem_links.proofs.Keeping.{flush_honest, flush_offers, flush_sure}
use Rattle.mem_links.proofs.mem_link.MemLinkLink.flush.Goals as goal

pub returns-clause-honest : goal.returns-clause-honest
returns-clause-honest g c =
    flush_honest g.F.Commands.gives g.F.Commands.may_fail c.args.self.now c.flush_step.new.self
    c.flush_step.result c.flush_step.ensures.step

pub returns-clause-sure : goal.returns-clause-sure
returns-clause-sure g c =
    flush_sure g.F.Commands.gives g.F.Commands.may_fail c.args.self.now c.flush_step.new.self
    c.flush_step.result c.flush_step.ensures.step

pub returns-clause-offers : goal.returns-clause-offers
returns-clause-offers g c = λ amounts.
    flush_offers amounts c.args.self.now c.flush_step.new.self c.flush_step.result
    c.flush_step.ensures.step
