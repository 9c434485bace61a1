use Rattle.std.proofs.Common.{◌≡◌, IfOk, refl, sym, ◌∙◌, subst}
use Rattle.std.specs.Prelude.{find}
use Rattle.rule_graph.specs.Faults.{is_no_name, file_texts, texts_of}
use Rattle.rule_graph.proofs.RuleFaults.{rule_texts, step_none, step_some}
use Rattle.rule_graph.proofs.checks.bad_of_rule.Goals as goal

pub returns-then-is_some : goal.returns-then-is_some
returns-then-is_some c =
    let rule = c.args.rule.now in
    step_some c.in_ok-text.text (find is_no_name (file_texts rule.outputs)) (find is_no_name (file_texts rule.inputs))
    (find is_no_name (texts_of rule)) (find is_no_name (texts_of rule))
    c.in_ok-text.ensures (sym c.is_some.ensures ∙ c.if-is_some.true) (rule_texts rule) refl

pub returns : goal.returns
returns c =
    let rule = c.args.rule.now in
    let rest : find is_no_name (file_texts rule.inputs) ≡ find is_no_name (texts_of rule) =
    step_none c.in_ok-text.text (find is_no_name (file_texts rule.outputs)) (find is_no_name (file_texts rule.inputs))
    (find is_no_name (texts_of rule)) (find is_no_name (texts_of rule))
    c.in_ok-text.ensures (sym c.is_some.ensures ∙ c.if-is_some.false) (rule_texts rule) refl in
    subst (λ found. IfOk c.bad_among-2.result (λ text. text ≡ found)) rest c.bad_among-2.ensures
