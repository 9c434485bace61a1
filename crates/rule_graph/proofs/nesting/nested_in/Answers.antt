use Rattle.std.proofs.Common.{ℕ, List, ◌+◌, drop, sym, ◌∙◌}
use Rattle.rule_graph.specs.Faults.{first_said, nested_under, nested_in}
use Rattle.rule_graph.proofs.RuleFaults.{step_none, step_some}
use Rattle.rule_graph.proofs.Folders.{said_left}
use Rattle.rule_graph.proofs.nesting.nested_in.Goals as goal

pub loop-folder-preserved : goal.loop-folder-preserved
loop-folder-preserved c =
    let names : List (List ℕ) = c.args.names.now in
    let i : ℕ = c.loop-folder.folder-index in
    step_none c.in_ok-fault.fault (nested_under names c.folder-item.result) (first_said (nested_under names) (drop (i + 1) names))
    (first_said (nested_under names) (drop i names)) (nested_in names)
    c.in_ok-fault.ensures (sym c.is_some.ensures ∙ c.if-is_some.false)
    (said_left (nested_under names) names i c.folder-item.result c.loop-folder-test.true c.folder-item.is) c.loop-folder.invariant

pub returns-then-is_some : goal.returns-then-is_some
returns-then-is_some c =
    let names : List (List ℕ) = c.args.names.now in
    let i : ℕ = c.loop-folder.folder-index in
    step_some c.in_ok-fault.fault (nested_under names c.folder-item.result) (first_said (nested_under names) (drop (i + 1) names))
    (first_said (nested_under names) (drop i names)) (nested_in names)
    c.in_ok-fault.ensures (sym c.is_some.ensures ∙ c.if-is_some.true)
    (said_left (nested_under names) names i c.folder-item.result c.loop-folder-test.true c.folder-item.is) c.loop-folder.invariant
