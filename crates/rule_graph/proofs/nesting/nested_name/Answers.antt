use Rattle.std.proofs.Common.{◌≡◌, IfOk, All, refl, ap, sym, ◌∙◌, subst}
use Rattle.rule_graph.specs.Flows.{names_of}
use Rattle.rule_graph.specs.Faults.{first_said, over_rules, nested_in, nested_name, remote_names}
use Rattle.rule_graph.specs.Checked.{IsName, IsAscending}
use Rattle.rule_graph.proofs.Ports.{names_ascending}
use Rattle.rule_graph.proofs.PlainRules.{nested_by_remotes}
use Rattle.rule_graph.proofs.RuleFaults.{none_of, step_none}
use Rattle.rule_graph.proofs.Folders.{names_named, unnumbered}
use Rattle.rule_graph.proofs.nesting.nested_name.Goals as goal

pub nested_in-requires-clause-ascending : goal.nested_in-requires-clause-ascending
nested_in-requires-clause-ascending c = subst IsAscending (sym c.requires.of_flow) (names_ascending c.args.flow.now)

pub nested_in-requires-clause-names : goal.nested_in-requires-clause-names
nested_in-requires-clause-names c = subst (All IsName) (sym c.requires.of_flow) (names_named c.args.flow.now c.requires.names)

pub over_rules-requires-clause-each : goal.over_rules-requires-clause-each
over_rules-requires-clause-each c =
    nested_by_remotes c.args.flow.now c.requires.names
    (ap nested_in (sym c.requires.of_flow) ∙ sym c.in_ok-fault.ensures ∙ none_of c.in_ok-fault.fault (sym c.is_some.ensures ∙ c.if-is_some.false))

pub returns : goal.returns
returns c =
    let flow = c.args.flow.now in
    let rest : over_rules (λ r rule. nested_in (remote_names rule)) flow ≡ nested_name flow =
    unnumbered (λ rule. nested_in (remote_names rule)) 0 flow.rules
    ∙ step_none c.in_ok-fault.fault (nested_in (names_of flow)) (first_said (λ rule. nested_in (remote_names rule)) flow.rules) (nested_name flow) (nested_name flow)
    (c.in_ok-fault.ensures ∙ ap nested_in c.requires.of_flow) (sym c.is_some.ensures ∙ c.if-is_some.false) refl refl in
    subst (λ said. IfOk c.over_rules.result (λ fault. fault ≡ said)) rest c.over_rules.ensures
