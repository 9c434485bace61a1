use Rattle.std.proofs.Common.{All, ap, sym, ◌∙◌, subst}
use Rattle.rule_graph.specs.Checked.{IsName, IsAscending, HasAll, ascending}
use Rattle.rule_graph.proofs.RuleFaults.{remotes_named}
use Rattle.rule_graph.proofs.Folders.{ascending_ascends, ascending_has_all}
use Rattle.rule_graph.proofs.nesting.NestedRemotesRuleCheck.fault.Goals as goal

pub nested_in-requires-clause-ascending : goal.nested_in-requires-clause-ascending
nested_in-requires-clause-ascending c =
    subst IsAscending (sym (c.deref-2.ensures.value ∙ c.in_ok-sorted.ensures)) (ascending_ascends c.deref.result.now)

pub nested_in-requires-clause-all : goal.nested_in-requires-clause-all
nested_in-requires-clause-all c =
    subst (λ names. HasAll c.deref-2.result.now names) (sym c.deref-3.ensures.value)
    (subst (λ sorted. HasAll sorted c.in_ok-names.names.items)
    (sym (c.deref-2.ensures.value ∙ c.in_ok-sorted.ensures ∙ ap ascending c.deref.ensures.value))
    (ascending_has_all c.in_ok-names.names.items))

pub nested_in-requires-clause-names : goal.nested_in-requires-clause-names
nested_in-requires-clause-names c =
    subst (All IsName) (sym (c.deref-3.ensures.value ∙ c.in_ok-names.ensures)) (remotes_named c.args.rule.now c.requires.named)
