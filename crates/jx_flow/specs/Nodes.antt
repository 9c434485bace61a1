-- Fields of an object literal by the nodes of their values.
use Rattle.std.specs.Prelude.{ℕ, ◌<◌, List, [], All}
use Rattle.jx_syntax.specs.declared.node.Field.{Field}
use Rattle.jx_syntax.specs.declared.node.Node.{Node}
use Rattle.jx_syntax.specs.Tree.{Tree, Fields, no_fields, fields_at, node_at, trees_onto}

-- the expression of a node
abbrev pub tree_at : List Node → ℕ → Tree
tree_at ns i = node_at (trees_onto [] ns) i

-- what fields say, where these are the nodes
abbrev pub said : List Node → List Field → Fields
said ns fs = fields_at (trees_onto [] ns) fs no_fields

-- all values stand among so many nodes
abbrev pub AreWithin : ℕ → List Field → Type 0
AreWithin n fs = All (λ (f : Field). f.value < n) fs
