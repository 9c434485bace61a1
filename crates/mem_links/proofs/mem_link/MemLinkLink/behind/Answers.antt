use Rattle.std.proofs.Common.{ap, ◌∙◌}
use Rattle.mem_links.proofs.Keeping.{behind_none}
use Rattle.mem_links.specs.MemLinks.{LinkState, waits}
use Rattle.mem_links.proofs.mem_link.MemLinkLink.behind.Goals as goal

pub returns-clause-sure : goal.returns-clause-sure
returns-clause-sure g c =
    behind_none g.F.Commands.gives g.F.Commands.may_fail c.args.self.now c.count_behind.result
    (c.count_behind.ensures ∙ ap (λ (s : LinkState). waits s.steps) c.self.view_is)
