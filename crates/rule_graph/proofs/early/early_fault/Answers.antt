use Rattle.std.proofs.Common.{sym, ◌∙◌}
use Rattle.rule_graph.proofs.RuleFaults.{none_of, all_named}
use Rattle.rule_graph.proofs.early.early_fault.Goals as goal

pub named_fault-requires-clause-names : goal.named_fault-requires-clause-names
named_fault-requires-clause-names c =
    all_named c.args.flow.now.rules 0 (sym c.in_ok-fault-2.ensures ∙ none_of c.in_ok-fault-2.fault (sym c.is_some-2.ensures ∙ c.if-is_some-2.false))
