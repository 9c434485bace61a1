use Rattle.std.proofs.Common.{◌∙◌, sym}
use Rattle.rule_graph.proofs.Unfaulted.{unfaulted}
use Rattle.rule_graph.proofs.plan.planned.Goals as goal

pub numbered-requires-clause-names : goal.numbered-requires-clause-names
numbered-requires-clause-names c = (unfaulted c.args.flow (sym c.in_ok-early_fault.ensures ∙ c.in-None.is)).named
