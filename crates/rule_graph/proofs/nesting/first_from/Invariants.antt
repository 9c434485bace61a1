use Rattle.std.proofs.Common.{◌≡◌, ℕ, ◌-◌, ◌<◌, ◌≤◌, [], true, false, length, get_or}
use Rattle.flow_types.specs.Plans.{is_name_less}
use Rattle.rule_graph.proofs.nesting.first_from.Given as goal

abbrev pub decreases-loop-low : goal.decreases-loop-low
decreases-loop-low l = l.high - l.low

-- what stands before the names that are left is less, and what stands behind them isn't
abbrev pub invariant-loop-low : goal.invariant-loop-low
invariant-loop-low l = record {
  order : l.low ≤ l.high;
  within : l.high ≤ length l.names;
  before : (k : ℕ) → k < l.low → is_name_less (get_or l.names k []) l.start ≡ true;
  from : l.high < length l.names → is_name_less (get_or l.names l.high []) l.start ≡ false;
}
