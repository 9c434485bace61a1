use Rattle.std.proofs.Common.{◌≡◌, ◌∙◌, ◌++◌, ◌<◌, List, sym, ap, length, get_or, arith, map}
use Rattle.flow_types.specs.declared.flow.RawRule.{RawRule}
use Rattle.rule_graph.specs.declared.numbering.Making.{Making}
use Rattle.rule_graph.specs.declared.raw.RawPort.{RawPort}
use Rattle.rule_graph.proofs.Makings.{makings_by, makings_more}
use Rattle.rule_graph.proofs.numbering.makings_of.Goals as goal

pub rules-preserved : goal.rules-preserved
rules-preserved c =
    let rules : List RawRule = c.args.flow.now.rules in
    let inside : c.rules.rule < length rules = omega (arith, c.rules-test.true, c.len-rule-end.ensures) in
    let read : c.index-as_slice-rule.result ≡ get_or rules c.rules.rule c.index-as_slice-rule.result = c.index-as_slice-rule.is ∙ ap (λ xs. get_or xs c.rules.rule c.index-as_slice-rule.result) c.as_slice.ensures in
    let made : List RawPort → List Making = λ ports. map (λ port. let making : Making = record { maker = c.rules.rule; name = port.local } in making) ports in
    c.in_ok-add_makings.ensures
    ∙ ap (λ ports. c.rules.all.items ++ made ports) c.in_ok-outputs.ensures
    ∙ ap (λ before. before ++ makings_by (c.rules.rule, c.index-as_slice-rule.result)) c.rules.invariant
    ∙ sym (makings_more rules c.rules.rule c.index-as_slice-rule.result inside read)
