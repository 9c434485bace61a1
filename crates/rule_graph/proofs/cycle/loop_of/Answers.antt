use Rattle.std.proofs.Common.{List, Bool, sym, subst}
use Rattle.flow_types.specs.declared.plan.Plan.{Plan}
use Rattle.rule_graph.specs.Cycles.{left_over}
use Rattle.rule_graph.specs.Walking.{AreMarks}
use Rattle.rule_graph.proofs.WalkSteps.{first_left, none_named, loop_found, loop_some, loop_named}
use Rattle.rule_graph.proofs.cycle.loop_of.Goals as goal

pub walk_from-requires-clause-is_first : goal.walk_from-requires-clause-is_first
walk_from-requires-clause-is_first c =
    let P : Plan = c.args.plan.now in
    let Marks : List Bool → Type 0 = λ marks. AreMarks (left_over P) marks in
    first_left P c.deref.result.now c.in-Some.first.0 (subst Marks (sym c.deref.ensures.value) c.in_ok-left.ensures.marks) c.in-Some.ensures.0 c.in-Some.ensures.1

pub begun_at_least-requires : goal.begun_at_least-requires
begun_at_least-requires c =
    loop_some c.args.plan.now c.loop_in.result.now
    (loop_found c.args.plan.now c.in_ok-walk-in-Some.walk.path.items c.loop_in.result.now c.in_ok-walk-in-Some.walk.next.0 c.in_ok-walk-in-Some.ensures.walk
    c.in_ok-walk-in-Some.ensures.repeats c.loop_in.ensures)

pub returns-in-Some : goal.returns-in-Some
returns-in-Some c =
    loop_named c.args.plan.now c.loop_in.result.now c.in_ok-rules-in-Some.rules.items c.requires
    (loop_found c.args.plan.now c.in_ok-walk-in-Some.walk.path.items c.loop_in.result.now c.in_ok-walk-in-Some.walk.next.0 c.in_ok-walk-in-Some.ensures.walk
    c.in_ok-walk-in-Some.ensures.repeats c.loop_in.ensures)
    c.in_ok-rules-in-Some.ensures

pub returns : goal.returns
returns c =
    let P : Plan = c.args.plan.now in
    let Marks : List Bool → Type 0 = λ marks. AreMarks (left_over P) marks in
    none_named P c.deref.result.now (subst Marks (sym c.deref.ensures.value) c.in_ok-left.ensures.marks) c.in-None.ensures
