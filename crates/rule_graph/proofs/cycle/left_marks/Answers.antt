use Rattle.std.proofs.Common.{◌<◌, ℕ, List, true, false, not, ap, sym, ◌∙◌, arith, length, get_or, take}
use Rattle.std.proofs.lemmas.List.{length-set}
use Rattle.flow_types.specs.declared.numbers.RuleNo.{RuleNo}
use Rattle.flow_types.specs.Plans.{contains_number}
use Rattle.rule_graph.specs.Walking.{numbers_of}
use Rattle.rule_graph.proofs.Marks.{taken_inside, numbers_more, unmark_more, all_marked, many_marks, left_marked}
use Rattle.rule_graph.proofs.cycle.left_marks.Goals as goal

pub set_mark-requires : goal.set_mark-requires
set_mark-requires c =
    let items : List RuleNo = c.as_slice-rule-items.result.now in
    let low : (get_or items c.loop-rule.rule-index (record { 0 = 0 })).0 < length c.args.plan.now.rules =
    taken_inside c.args.plan.now c.in_ok-taken.taken.items items c.loop-rule.rule-index (record { 0 = 0 }) c.in_ok-taken.ensures c.as_slice-rule-items.ensures.value c.loop-rule-test.true in
    omega (arith, low, c.loop-rule.invariant.rules)

pub loop-rule-init : goal.loop-rule-init
loop-rule-init c = record {
  rules = many_marks c.in_ok-left.left.items (length c.args.plan.now.rules) c.len.result true c.in_ok-left.ensures c.len.ensures;
  marks = λ r inside. all_marked c.in_ok-left.left.items (length c.args.plan.now.rules) c.len.result r c.in_ok-left.ensures c.len.ensures inside;
}

pub loop-rule-preserved : goal.loop-rule-preserved
loop-rule-preserved c =
    let items : List RuleNo = c.as_slice-rule-items.result.now in
    let i : ℕ = c.loop-rule.rule-index in
    let x : ℕ = (get_or items i (record { 0 = 0 })).0 in
    let low : x < length c.args.plan.now.rules =
    taken_inside c.args.plan.now c.in_ok-taken.taken.items items i (record { 0 = 0 }) c.in_ok-taken.ensures c.as_slice-rule-items.ensures.value c.loop-rule-test.true in
    let inside : x < length c.loop-rule.left.items = omega (arith, low, c.loop-rule.invariant.rules) in
    record {
      rules = ap length c.set_mark.ensures ∙ length-set c.loop-rule.left.items x false ∙ c.loop-rule.invariant.rules;
      marks = λ r r_inside.
          ap (λ marks. get_or marks r false) c.set_mark.ensures
          ∙ unmark_more c.loop-rule.left.items (numbers_of (take i items)) x r inside (c.loop-rule.invariant.marks r r_inside)
          ∙ ap (λ xs. not (contains_number r xs)) (sym (numbers_more items i (record { 0 = 0 }) c.loop-rule-test.true));
    }

pub returns-clause-marks : goal.returns-clause-marks
returns-clause-marks c =
    left_marked c.args.plan.now c.loop-rule.left.items c.in_ok-taken.taken.items c.as_slice-rule-items.result.now c.loop-rule.rule-index c.in_ok-taken.ensures
    c.as_slice-rule-items.ensures.value c.loop-rule-test.false c.loop-rule.invariant.rules c.loop-rule.invariant.marks
