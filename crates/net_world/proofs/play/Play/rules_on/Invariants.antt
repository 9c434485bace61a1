use Rattle.std.proofs.Common.{◌≡◌, ◌≤◌, length, map}
use Rattle.std.specs.Prelude.{filter, List}
use Rattle.flow_types.specs.Plans.{numbers}
use Rattle.run_history.specs.declared.moves.Move.{Move}
use Rattle.run_history.specs.Links.{records_of}
use Rattle.task_core.specs.Stands.{Stands}
use Rattle.net_world.specs.Plays.{runs_there}
use Rattle.net_world.proofs.play.Play.rules_on.Given as goal

-- those below the next one are found
abbrev pub invariant-loop-rule : goal.invariant-loop-rule
invariant-loop-rule l = record {
  found : (moves : List Move) → Stands l.self.table moves
      → map (λ rule. rule.0) l.rules.items ≡ filter (runs_there (records_of moves) l.link.0) (numbers l.rule);
  within : l.rule ≤ length l.self.table.plan.rules;
}
