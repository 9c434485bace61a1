use Rattle.std.proofs.Common.{◌+◌, drop, sym, ◌∙◌}
use Rattle.std.specs.List.{enumerate_from}
use Rattle.rule_graph.specs.Faults.{first_said, over_rules}
use Rattle.rule_graph.proofs.RuleFaults.{over_left, step_none, step_some}
use Rattle.rule_graph.proofs.checks.over_rules.Goals as goal

pub rules-preserved : goal.rules-preserved
rules-preserved g c =
    let rules = c.as_slice-rules.result.now in
    let says = g.C.RuleCheck.says in
    step_none c.in_ok-fault.fault (says c.rules.number c.index-rules-number.result)
    (first_said (λ numbered. says numbered.0 numbered.1) (enumerate_from (c.rules.number + 1) (drop (c.rules.number + 1) rules)))
    (first_said (λ numbered. says numbered.0 numbered.1) (enumerate_from c.rules.number (drop c.rules.number rules)))
    (over_rules says c.args.flow.now)
    c.in_ok-fault.ensures (sym c.is_some.ensures ∙ c.if-is_some.false)
    (over_left says rules c.rules.number c.index-rules-number.result c.rules-test.true c.index-rules-number.is) c.rules.invariant

pub returns-then-is_some : goal.returns-then-is_some
returns-then-is_some g c =
    let rules = c.as_slice-rules.result.now in
    let says = g.C.RuleCheck.says in
    step_some c.in_ok-fault.fault (says c.rules.number c.index-rules-number.result)
    (first_said (λ numbered. says numbered.0 numbered.1) (enumerate_from (c.rules.number + 1) (drop (c.rules.number + 1) rules)))
    (first_said (λ numbered. says numbered.0 numbered.1) (enumerate_from c.rules.number (drop c.rules.number rules)))
    (over_rules says c.args.flow.now)
    c.in_ok-fault.ensures (sym c.is_some.ensures ∙ c.if-is_some.true)
    (over_left says rules c.rules.number c.index-rules-number.result c.rules-test.true c.index-rules-number.is) c.rules.invariant
