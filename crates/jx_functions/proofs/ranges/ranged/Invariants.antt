use Rattle.std.proofs.Common.{◌≡◌, ◌-◌, ◌≤◌, ◌++◌, map}
use Rattle.jx_meaning.specs.Values.{plain}
use Rattle.jx_meaning.specs.Numbers.{range_len, stepped}
use Rattle.jx_functions.proofs.ranges.ranged.Given as goal

-- what is left decides
abbrev pub invariant-loop : goal.invariant-loop
invariant-loop l = record {
  within : l.counter ≤ l.len;
  left : range_len l.next l.end l.step ≡ l.len - l.counter;
  made : map plain l.items.items ++ stepped (l.len - l.counter) l.next l.step ≡ stepped l.len l.first l.step;
}
