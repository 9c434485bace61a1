use Rattle.std.proofs.Common.{◌≡◌, ◌<◌, true, false, ap, sym, ◌∙◌, arith, length, get_or, subst}
use Rattle.std.proofs.lemmas.List.{length-set}
use Rattle.flow_types.specs.declared.plan.Plan.{Plan}
use Rattle.flow_types.specs.Plans.{contains_number}
use Rattle.rule_graph.specs.Cycles.{left_over}
use Rattle.rule_graph.specs.Loops.{step}
use Rattle.rule_graph.specs.Walking.{numbers_of, IsWalk}
use Rattle.rule_graph.proofs.LoopLaws.{left_parts}
use Rattle.rule_graph.proofs.Marks.{mark_more}
use Rattle.rule_graph.proofs.WalkSteps.{pushed, walk_next, walk_shrinks, never_none}
use Rattle.rule_graph.proofs.cycle.walk_from.Goals as goal
use Rattle.rule_graph.proofs.cycle.walk_from.Goals.{else-steps-test, then-steps-test+in_ok-push+in-None}

pub set_mark-requires : goal.set_mark-requires
set_mark-requires c =
    let low : c.steps.next.0 < length c.args.plan.now.rules = (left_parts c.args.plan.now c.steps.next.0 c.steps.invariant.walk.here).0 in
    omega (arith, low, c.steps.invariant.rules)

pub steps-smaller : goal.steps-smaller
steps-smaller c =
    let P : Plan = c.args.plan.now in
    let fresh : contains_number c.steps.next.0 (numbers_of c.steps.path.items) ≡ false =
    sym (c.steps.invariant.seen c.steps.next.0) ∙ ap (λ marks. get_or marks c.steps.next.0 false) (sym c.deref.ensures.value) ∙ sym c.is_marked.ensures ∙ c.steps-test.true in
    walk_shrinks P c.steps.path.items c.push.new.self.items c.steps.next c.in-Some.maker.0 c.in_ok-push.ensures.items
    (walk_next P c.steps.path.items c.push.new.self.items c.steps.next c.in-Some.maker c.requires.numbered c.steps.invariant.walk fresh
    c.in-Some.ensures c.in_ok-push.ensures.items)

pub steps-preserved : goal.steps-preserved
steps-preserved c =
    let P : Plan = c.args.plan.now in
    let fresh : contains_number c.steps.next.0 (numbers_of c.steps.path.items) ≡ false =
    sym (c.steps.invariant.seen c.steps.next.0) ∙ ap (λ marks. get_or marks c.steps.next.0 false) (sym c.deref.ensures.value) ∙ sym c.is_marked.ensures ∙ c.steps-test.true in
    let low : c.steps.next.0 < length P.rules = (left_parts P c.steps.next.0 c.steps.invariant.walk.here).0 in
    let inside : c.steps.next.0 < length c.steps.seen.items = omega (arith, low, c.steps.invariant.rules) in
    record {
      walk = walk_next P c.steps.path.items c.push.new.self.items c.steps.next c.in-Some.maker c.requires.numbered c.steps.invariant.walk fresh
          c.in-Some.ensures c.in_ok-push.ensures.items;
      seen = λ r.
          ap (λ marks. get_or marks r false) c.set_mark.ensures
          ∙ mark_more c.steps.seen.items (numbers_of c.steps.path.items) c.steps.next.0 r inside (c.steps.invariant.seen r)
          ∙ ap (contains_number r) (sym (pushed c.steps.path.items c.push.new.self.items c.steps.next c.in_ok-push.ensures.items));
      rules = ap length c.set_mark.ensures ∙ length-set c.steps.seen.items c.steps.next.0 true ∙ c.steps.invariant.rules;
    }

pub returns-clause-walk : goal.returns-clause-walk
returns-clause-walk c =
    let P : Plan = c.args.plan.now in
    elim c.steps-test.branch [
      | else-steps-test w ↦ subst (λ path. IsWalk (step P) (left_over P) (numbers_of path.items) c.steps.next.0) (sym w.path-is) c.steps.invariant.walk
      | then-steps-test+in_ok-push+in-None w ↦
          absurd (never_none P c.steps.next.0 c.requires.numbered c.steps.invariant.walk.here w.in-None.ensures)
    ]
