use Rattle.std.proofs.Common.{◌∙◌, sym, arith}
use Rattle.std.specs.Vec.{vec_capacity}
use Rattle.running_rules.proofs.Moves.{place-runs, remove-step}
use Rattle.running_rules.proofs.running.Running.remove.Goals as goal

pub remove-requires : goal.remove-requires
remove-requires c =
    let inside = place-runs _ _ c.self.view_is c.args.link.0 c.args.rule.0 c.place-at.result c.self.invariant.0 c.place-at.ensures c.requires in
    omega (arith, inside.0, c.self.inside.links.ok.0)

pub invariant_of-self : goal.invariant_of-self
invariant_of-self c =
    let step = remove-step _ _ c.self.view_is c.args.link c.args.rule.0 c.place-at.result (vec_capacity c.remove-2.new.self) c.remove.new.self.items c.remove-2.new.self.items c.self.invariant.0 c.place-at.ensures c.requires
    c.remove.ensures.items c.remove-2.ensures.items in
    (step.0, c.remove.ensures.capacity ∙ c.self.invariant.1 ∙ sym c.remove-2.ensures.capacity)

pub returns-clause-tasks : goal.returns-clause-tasks
returns-clause-tasks c =
    (remove-step _ _ c.self.view_is c.args.link c.args.rule.0 c.place-at.result (vec_capacity c.remove-2.new.self) c.remove.new.self.items c.remove-2.new.self.items c.self.invariant.0 c.place-at.ensures c.requires
    c.remove.ensures.items c.remove-2.ensures.items).1
