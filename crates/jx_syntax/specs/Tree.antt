-- What an expression says, without the marks that only group.
use Rattle.std.specs.Prelude.{ℕ, ◌-◌, ◌^◌, suc, ◌<◌, Bool, List, [], ◌∷◌, ◌++◌, length, get_or, flat_map, Option, Some, None, ℤ, pos, negsuc}
use Rattle.jx_syntax.specs.declared.operator.Operator.{Operator}
use Rattle.jx_syntax.specs.declared.operator.Sign.{Sign}
use Rattle.jx_syntax.specs.declared.node.Condition.{Condition}
use Rattle.jx_syntax.specs.declared.node.Loop.{Loop}
use Rattle.jx_syntax.specs.declared.node.Item.{Item}
use Rattle.jx_syntax.specs.declared.node.Field.{Field}
use Rattle.jx_syntax.specs.declared.node.Form.{Form}
use Rattle.jx_syntax.specs.declared.node.Form.TheVariants as form
use Rattle.jx_syntax.specs.declared.node.Node.{Node}
use Rattle.jx_syntax.specs.Grammar.{Derivation, Arguments, Items, Pairs, Bound}
use Rattle.jx_syntax.specs.Grammar as jx

-- an expression; each number is the place of a node
mutual
  pub data Tree : Type 0 where
    null : ℕ → Tree
    truth : ℕ → Bool → Tree
    number : ℕ → ℤ → Tree
    text : ℕ → List ℕ → Tree
    name : ℕ → List ℕ → Tree
    call : ℕ → List ℕ → Trees → Tree
    list : ℕ → Entries → Tree
    object : ℕ → Fields → Tree
    index : ℕ → Tree → Tree → Tree
    slice : ℕ → Tree → End → End → Tree
    signed : ℕ → Sign → Tree → Tree
    operation : ℕ → Operator → Tree → Tree → Tree

  -- the arguments of a call
  pub data Trees : Type 0 where
    no_trees : Trees
    tree : Tree → Trees → Trees

  -- the items of a list, each with its loops
  pub data Entries : Type 0 where
    no_entries : Entries
    entry : Tree → Loops → Entries → Entries

  -- loops, the outermost first: a place, a name, a list, perhaps a condition
  pub data Loops : Type 0 where
    no_loops : Loops
    loop : ℕ → List ℕ → Tree → Test → Loops → Loops

  -- the condition of a loop, or none
  pub data Test : Type 0 where
    no_test : Test
    test : ℕ → Tree → Test

  -- the keys of an object, each with its value
  pub data Fields : Type 0 where
    no_fields : Fields
    field : List ℕ → Tree → Fields → Fields

  -- an end of a slice, or none
  pub data End : Type 0 where
    no_end : End
    end : Tree → End

-- ---- of a derivation

-- a literal as a tree
abbrev pub literal_tree : ℕ → jx.Literal → Tree
literal_tree p jx.null = null p
literal_tree p (jx.truth b) = truth p b
literal_tree p (jx.number n) = number p (pos n)
literal_tree p (jx.text t) = text p t

-- what is written so, before the rest
abbrev mutual
  pub tree_of : Derivation → Tree
  tree_of (jx.literal p l) = literal_tree p l
  tree_of (jx.least p q) = number p (negsuc (2 ^ 63 - 1))
  tree_of (jx.name p x) = name p x
  tree_of (jx.bare_call p x from to) = call p x no_trees
  tree_of (jx.call p x from given d to) = call p x (arguments_of given (tree (tree_of d) no_trees))
  tree_of (jx.group from d to) = tree_of d
  tree_of (jx.list from is to) = list from (entries_of is no_entries)
  tree_of (jx.list_last from is i to) = list from (entries_of is (entry_of i no_loops no_entries))
  tree_of (jx.object from ps to) = object from (fields_of ps no_fields)
  tree_of (jx.object_last from ps p key colon d to) = object from (fields_of ps (field key (tree_of d) no_fields))
  tree_of (jx.index d from i to) = index from (tree_of d) (tree_of i)
  tree_of (jx.slice d from a colon b to) = slice from (tree_of d) (end_of a) (end_of b)
  tree_of (jx.signed p s d) = signed p s (tree_of d)
  tree_of (jx.operation p o a b) = operation p o (tree_of a) (tree_of b)

  pub arguments_of : Arguments → Trees → Trees
  arguments_of jx.no_arguments rest = rest
  arguments_of (jx.argument given d comma) rest = arguments_of given (tree (tree_of d) rest)

  pub entries_of : Items → Entries → Entries
  entries_of jx.no_items rest = rest
  entries_of (jx.item is i comma) rest = entries_of is (entry_of i no_loops rest)

  pub entry_of : jx.Item → Loops → Entries → Entries
  entry_of (jx.once d) loops rest = entry (tree_of d) loops rest
  entry_of (jx.each i p q x r d) loops rest = entry_of i (loop p x (tree_of d) no_test loops) rest
  entry_of (jx.each_if i p q x r d s c) loops rest = entry_of i (loop p x (tree_of d) (test s (tree_of c)) loops) rest

  pub fields_of : Pairs → Fields → Fields
  fields_of jx.no_pairs rest = rest
  fields_of (jx.pair ps p key colon d comma) rest = fields_of ps (field key (tree_of d) rest)

  pub end_of : Bound → End
  end_of jx.open_end = no_end
  end_of (jx.end_at d) = end (tree_of d)

-- ---- of nodes

-- the tree of a node, from the trees of all before it
abbrev pub node_at : List Tree → ℕ → Tree
node_at ts i = get_or ts i (null 0)

-- the end of a slice at a node, where there is one
abbrev pub end_at : List Tree → Option ℕ → End
end_at ts None = no_end
end_at ts (Some i) = end (node_at ts i)

-- the condition at its node, where there is one
abbrev pub test_at : List Tree → Option Condition → Test
test_at ts None = no_test
test_at ts (Some c) = test c.place (node_at ts c.test)

-- the arguments at these nodes, before the rest
abbrev pub trees_at : List Tree → List ℕ → Trees → Trees
trees_at ts [] rest = rest
trees_at ts (i ∷ is) rest = tree (node_at ts i) (trees_at ts is rest)

-- the loops of an item, before the rest
abbrev pub loops_at : List Tree → List Loop → Loops → Loops
loops_at ts [] rest = rest
loops_at ts (l ∷ ls) rest = loop l.place l.name (node_at ts l.over) (test_at ts l.condition) (loops_at ts ls rest)

-- the items of a list, before the rest
abbrev pub entries_at : List Tree → List Item → Entries → Entries
entries_at ts [] rest = rest
entries_at ts (i ∷ is) rest = entry (node_at ts i.body) (loops_at ts i.loops no_loops) (entries_at ts is rest)

-- the fields of an object, before the rest
abbrev pub fields_at : List Tree → List Field → Fields → Fields
fields_at ts [] rest = rest
fields_at ts (f ∷ fs) rest = field f.key (node_at ts f.value) (fields_at ts fs rest)

-- the tree of a form over the trees of its nodes
abbrev pub form_tree : List Tree → ℕ → Form → Tree
form_tree ts p form.Null = null p
form_tree ts p (form.Truth b) = truth p b
form_tree ts p (form.Number z) = number p z
form_tree ts p (form.Text t) = text p t
form_tree ts p (form.Name x) = name p x
form_tree ts p (form.Call x is) = call p x (trees_at ts is no_trees)
form_tree ts p (form.List is) = list p (entries_at ts is no_entries)
form_tree ts p (form.Object fs) = object p (fields_at ts fs no_fields)
form_tree ts p (form.Index a i) = index p (node_at ts a) (node_at ts i)
form_tree ts p (form.Slice a x y) = slice p (node_at ts a) (end_at ts x) (end_at ts y)
form_tree ts p (form.Signed s a) = signed p s (node_at ts a)
form_tree ts p (form.Operation o a b) = operation p o (node_at ts a) (node_at ts b)

-- the trees of nodes, in their order, behind those of the nodes before them
unfoldable pub trees_onto : List Tree → List Node → List Tree
trees_onto ts [] = ts
trees_onto ts (n ∷ ns) = trees_onto (ts ++ form_tree ts n.place n.form ∷ []) ns

-- the expression of a list of nodes is that of the last one
abbrev pub expression_of : List Node → Tree
expression_of ns = node_at (trees_onto [] ns) (length ns - 1)

-- ---- order

-- the node, where there is one
abbrev pub given : Option ℕ → List ℕ
given None = []
given (Some i) = i ∷ []

-- the node of a condition
abbrev pub condition_operands : Option Condition → List ℕ
condition_operands None = []
condition_operands (Some c) = c.test ∷ []

-- the nodes of a loop
abbrev pub loop_operands : Loop → List ℕ
loop_operands l = l.over ∷ condition_operands l.condition

-- the nodes of an item
abbrev pub item_operands : Item → List ℕ
item_operands i = i.body ∷ flat_map loop_operands i.loops

-- the node of a field
abbrev pub field_operands : Field → List ℕ
field_operands f = f.value ∷ []

-- the nodes that a node names
abbrev pub operands : Form → List ℕ
operands form.Null = []
operands (form.Truth b) = []
operands (form.Number z) = []
operands (form.Text t) = []
operands (form.Name x) = []
operands (form.Call x is) = is
operands (form.List is) = flat_map item_operands is
operands (form.Object fs) = flat_map field_operands fs
operands (form.Index a i) = a ∷ i ∷ []
operands (form.Slice a x y) = a ∷ (given x ++ given y)
operands (form.Signed s a) = a ∷ []
operands (form.Operation o a b) = a ∷ b ∷ []

-- all of them stand before place k
abbrev pub AreBefore : ℕ → List ℕ → Type 0
AreBefore k [] = Unit {0}
AreBefore k (i ∷ is) = (i < k) × AreBefore k is

-- operands stand before their operators, where so many nodes stand before these
abbrev pub IsOrdered : ℕ → List Node → Type 0
IsOrdered k [] = Unit {0}
IsOrdered k (n ∷ ns) = AreBefore k (operands n.form) × IsOrdered (suc k) ns
