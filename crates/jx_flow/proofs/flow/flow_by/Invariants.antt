use Rattle.std.proofs.Common.{◌≡◌, ◌++◌}
use Rattle.jx_flow.specs.Rules.{rules_in, bounds_of}
use Rattle.jx_flow.proofs.flow.flow_by.Given as goal

-- what is left decides
abbrev pub invariant-loop-one : goal.invariant-loop-one
invariant-loop-one l = record {
  rules : l.rules.items ++ rules_in l.one-iterator.rest.items ≡ rules_in l.fn.made;
  bounds : l.bounds.items ++ bounds_of l.one-iterator.rest.items ≡ bounds_of l.fn.made;
}
