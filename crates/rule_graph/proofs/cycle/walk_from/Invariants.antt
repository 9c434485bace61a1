use Rattle.std.proofs.Common.{◌≡◌, ◌-◌, length}
use Rattle.rule_graph.specs.Cycles.{left_over}
use Rattle.rule_graph.specs.Loops.{step}
use Rattle.rule_graph.specs.Walking.{numbers_of, AreMarks, IsWalk}
use Rattle.rule_graph.proofs.cycle.walk_from.Given as goal

abbrev pub invariant-steps : goal.invariant-steps
invariant-steps l = record {
  walk : IsWalk (step l.plan) (left_over l.plan) (numbers_of l.path.items) l.next.0;
  seen : AreMarks (numbers_of l.path.items) l.seen.items;
  rules : length l.seen.items ≡ length l.plan.rules;
}

-- the walk is never longer than the list of the rules left over
abbrev pub decreases-steps : goal.decreases-steps
decreases-steps l = length (left_over l.plan) - length l.path.items
