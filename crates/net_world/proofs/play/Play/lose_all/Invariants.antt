use Rattle.std.proofs.Common.{◌≡◌, drop, map, fold}
use Rattle.flow_types.specs.declared.plan.Plan.{Plan}
use Rattle.run_history.specs.declared.options.Options.{Options}
use Rattle.world_laws.specs.Worlds.{World, loses_rule}
use Rattle.net_world.specs.Plays.{IsShown}
use Rattle.net_world.proofs.play.Play.lose_all.Given as goal

-- what is left decides
abbrev pub invariant-loop-rule : goal.invariant-loop-rule
invariant-loop-rule l = (P : Plan) (O : Options) (w : World) → IsShown P O w l.fn.self
    → (v : World) × IsShown P O v l.self
    × (fold (loses_rule P) v (map (λ rule. rule.0) (drop l.rule-index l.rules)) ≡ fold (loses_rule P) w (map (λ rule. rule.0) l.rules))
