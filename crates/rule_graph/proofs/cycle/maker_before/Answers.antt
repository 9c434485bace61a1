use Rattle.std.proofs.Common.{[], sym, ◌∙◌}
use Rattle.std.proofs.lemmas.Bool.{true≢false}
use Rattle.flow_types.specs.Plans.{files_of}
use Rattle.rule_graph.specs.Cycles.{left_over}
use Rattle.rule_graph.proofs.LeastInput.{before_of, none_before, takes_row}
use Rattle.rule_graph.proofs.cycle.maker_before.Goals as goal

pub returns-in-Some-least_input : goal.returns-in-Some-least_input
returns-in-Some-least_input c =
    c.maker_of.ensures
    ∙ before_of c.args.plan.now (left_over c.args.plan.now) c.args.rule.0 (files_of c.in-Some.row.now.inputs) c.in-Some-least_input.file.0
    (takes_row c.args.plan.now c.args.rule.0 _ (sym c.in-Some.ensures)) c.in-Some-least_input.ensures

pub returns-in-None-least_input : goal.returns-in-None-least_input
returns-in-None-least_input c =
    none_before c.args.plan.now (left_over c.args.plan.now) c.args.rule.0 (files_of c.in-Some.row.now.inputs) (takes_row c.args.plan.now c.args.rule.0 _ (sym c.in-Some.ensures))
    c.in-None-least_input.ensures

pub returns-in-None : goal.returns-in-None
returns-in-None c =
    none_before c.args.plan.now (left_over c.args.plan.now) c.args.rule.0 [] (takes_row c.args.plan.now c.args.rule.0 _ (sym c.in-None.ensures)) (λ x some. absurd (true≢false (sym some)))
