use Rattle.std.proofs.Common.{◌≡◌, ℕ, ◌<◌, List, drop, option_map, IfSome}
use Rattle.jx_syntax.specs.Tree.{Tree, node_at, fields_at, no_fields}
use Rattle.jx_flow.specs.Flow.{or_before, field_of}
use Rattle.jx_flow.specs.Nodes.{AreWithin}
use Rattle.jx_flow.proofs.literals.last_of.Given as goal

-- what is left decides, or else what was found
abbrev pub invariant-loop-field : goal.invariant-loop-field
invariant-loop-field l = record {
  found : (ts : List Tree) → or_before (field_of l.key (fields_at ts (drop l.field-index l.fields) no_fields)) (option_map (node_at ts) l.last) ≡ field_of l.key (fields_at ts l.fields no_fields);
  within : (n : ℕ) → AreWithin n l.fields → IfSome l.last (λ node. node < n);
}
