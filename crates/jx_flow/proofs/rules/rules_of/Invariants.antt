use Rattle.std.proofs.Common.{◌≡◌, drop, map}
use Rattle.jx_meaning.specs.Values.{plain}
use Rattle.jx_flow.specs.Reading.{each_at}
use Rattle.jx_flow.specs.Rules.{rule_of}
use Rattle.jx_flow.proofs.Each.{behind}
use Rattle.jx_flow.proofs.rules.rules_of.Given as goal

-- what is left decides
abbrev pub invariant-loop-item : goal.invariant-loop-item
invariant-loop-item l = behind l.made.items (each_at (rule_of l.general) l.index (map plain (drop l.item-index l.items))) ≡ each_at (rule_of l.general) 0 (map plain l.items)
