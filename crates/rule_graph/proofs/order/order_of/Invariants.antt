use Rattle.std.proofs.Common.{◌≡◌, ◌-◌, [], length, map}
use Rattle.flow_types.specs.Serial.{order_from, serial_order}
use Rattle.rule_graph.specs.Progress.{IsUnderWay, IsMarked}
use Rattle.rule_graph.proofs.order.order_of.Given as goal

-- what is taken, with what the rounds that are left take, is the whole order
abbrev pub invariant-rounds : goal.invariant-rounds
invariant-rounds l = record {
  under_way : IsUnderWay l.plan (map (λ t. t.0) l.taken.items) [] l.progress;
  marked : IsMarked l.plan (map (λ t. t.0) l.taken.items) l.progress.made.items;
  order : order_from l.plan (length l.plan.rules - l._round) (map (λ t. t.0) l.taken.items) ≡ serial_order l.plan;
}
