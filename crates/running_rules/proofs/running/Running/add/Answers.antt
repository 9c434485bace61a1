use Rattle.std.proofs.Common.{◌<◌, ◌∙◌, length, subst, sym, arith}
use Rattle.std.specs.Vec.{vec_capacity, vec_len}
use Rattle.running_rules.specs.Tasks.{Tasks}
use Rattle.running_rules.proofs.Moves.{add-step}
use Rattle.running_rules.proofs.running.Running.add.Goals as goal

pub invariant_of-self : goal.invariant_of-self
invariant_of-self c =
    let few : length c.self.inside.rules.items < vec_capacity c.self.inside.rules = subst (λ (T : Tasks). length T.rules < T.places) (sym c.self.view_is) c.requires in
    let first : vec_len c.self.inside.links < vec_capacity c.self.inside.links = omega (arith, few, c.self.inside.links.ok.0, c.self.invariant.0.long, c.self.invariant.1) in
    let second : vec_len c.self.inside.rules < vec_capacity c.self.inside.rules = omega (arith, few, c.self.inside.rules.ok.0) in
    let step = add-step _ _ c.self.view_is c.args.link c.args.rule c.place-at.result (vec_capacity c.insert-2.new.self) c.insert.new.self.items c.insert-2.new.self.items c.insert.result c.insert-2.result c.self.invariant.0 c.place-at.ensures
    (c.insert.ensures.succeeds first) (c.insert-2.ensures.succeeds second) c.insert.ensures.items c.insert-2.ensures.items in
    (step.0, (c.insert.ensures.in_place first).1.0 ∙ c.self.invariant.1 ∙ sym (c.insert-2.ensures.in_place second).1.0)

pub returns-clause-tasks : goal.returns-clause-tasks
returns-clause-tasks c =
    let few : length c.self.inside.rules.items < vec_capacity c.self.inside.rules = subst (λ (T : Tasks). length T.rules < T.places) (sym c.self.view_is) c.requires in
    let first : vec_len c.self.inside.links < vec_capacity c.self.inside.links = omega (arith, few, c.self.inside.links.ok.0, c.self.invariant.0.long, c.self.invariant.1) in
    let second : vec_len c.self.inside.rules < vec_capacity c.self.inside.rules = omega (arith, few, c.self.inside.rules.ok.0) in
    (add-step _ _ c.self.view_is c.args.link c.args.rule c.place-at.result (vec_capacity c.insert-2.new.self) c.insert.new.self.items c.insert-2.new.self.items c.insert.result c.insert-2.result c.self.invariant.0 c.place-at.ensures
    (c.insert.ensures.succeeds first) (c.insert-2.ensures.succeeds second) c.insert.ensures.items c.insert-2.ensures.items).1
