use Rattle.std.proofs.Common.{[], None, Some, ap, sym, ◌∙◌}
use Rattle.std.specs.Option.{option_copied, option_map_or}
use Rattle.rule_graph.specs.declared.faults.GraphFault.TheVariants as faults
use Rattle.rule_graph.specs.Flows.{rule_no}
use Rattle.rule_graph.specs.Faults.{first_repeat, remote_names}
use Rattle.rule_graph.specs.Checked.{IsName}
use Rattle.rule_graph.proofs.RuleFaults.{repeat_in, remotes_named}
use Rattle.rule_graph.proofs.OwnRemotes.{own_remotes}
use Rattle.rule_graph.proofs.checks.SameNamesRuleCheck.fault.Goals as goal

pub name_from-requires : goal.name_from-requires
name_from-requires c =
    repeat_in IsName [] (remote_names c.args.rule.now) c.in-Some.name.now (remotes_named c.args.rule.now c.requires)
    (ap (first_repeat []) (sym (c.deref.ensures.value ∙ c.in_ok-names.ensures)) ∙ sym c.in_ok-name.ensures ∙ ap option_copied c.in-Some.is)

pub returns-then-branch : goal.returns-then-branch
returns-then-branch c =
    sym (ap (λ found. option_map_or (λ name. Some (faults.SameName (rule_no c.args.number.0) name)) found None)
    (own_remotes c.args.rule.now (sym c.if-branch.true ∙ c.in_ok-has_own_remotes.ensures)))
