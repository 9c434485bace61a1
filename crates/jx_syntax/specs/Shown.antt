-- What a reader's nodes and its stack show of what was read.
use Rattle.std.specs.Prelude.{◌≡◌, ℕ, suc, ◌<◌, Bool, true, false, List, [], ◌∷◌, length, reverse, flat_map, Option, Some, None, Result, Ok, Err}
use Rattle.jx_tokens.specs.declared.fault.JxFault.{JxFault}
use Rattle.jx_tokens.specs.Answers.{Fails}
use Rattle.jx_syntax.specs.declared.node.Field.{Field}
use Rattle.jx_syntax.specs.declared.node.Item as node
use Rattle.jx_syntax.specs.declared.node.Node.{Node}
use Rattle.jx_syntax.specs.declared.pending.Part as code
use Rattle.jx_syntax.specs.declared.pending.Part.TheVariants as part
use Rattle.jx_syntax.specs.declared.pending.Pending.{Pending}
use Rattle.jx_syntax.specs.declared.pending.Pending.TheVariants as pending
use Rattle.jx_syntax.specs.declared.pending.Wanted.{Wanted}
use Rattle.jx_syntax.specs.declared.pending.Wanted.TheVariants as wanted
use Rattle.jx_syntax.specs.declared.pending.Reader.{Reader}
use Rattle.jx_syntax.specs.Grammar.{Derivation, name, Arguments, no_arguments, argument, Items, Item, Pairs, Bound}
use Rattle.jx_syntax.specs.Reading.{Part, body, over, only, Frame, left, before, grouped, argued, listed, keyed, indexed, sliced, State, wants, has, wants_key, wants_colon, wants_name, wants_in, Move, stuck, depth, reduce, tried, begins_call}
use Rattle.jx_syntax.specs.Tree.{Tree, Trees, Entries, Loops, Fields, tree_of, arguments_of, entries_of, entry_of, fields_of, end_of, entry, node_at, end_at, trees_at, loops_at, entries_at, fields_at, trees_onto, item_operands, field_operands, given, AreBefore, IsOrdered, expression_of}

-- the trees of the nodes
abbrev pub trees : List Node → List Tree
trees ns = trees_onto [] ns

-- the node at this index is this tree
pub record IsNode (ns : List Node) (i : ℕ) (t : Tree) : Type 0 where
  pub within : i < length ns
  pub shows : node_at (trees ns) i ≡ t

-- the last node is this tree
pub record IsLast (ns : List Node) (i : ℕ) (t : Tree) : Type 0 where
  pub node : IsNode ns i t
  pub last : suc i ≡ length ns

-- there are no arguments
abbrev pub is_none : Arguments → Bool
is_none no_arguments = true
is_none (argument args d comma) = false

-- the list is empty
abbrev pub is_nil : {A : Type 0} → List A → Bool
is_nil [] = true
is_nil (x ∷ xs) = false

-- these nodes are the arguments
pub record AreArguments (ns : List Node) (is : List ℕ) (args : Arguments) : Type 0 where
  pub within : AreBefore (length ns) is
  pub shows : (rest : Trees) → trees_at (trees ns) is rest ≡ arguments_of args rest
  pub empty : is_nil is ≡ is_none args

-- this is the item
pub record IsItem (ns : List Node) (i : node.Item) (j : Item) : Type 0 where
  pub within : AreBefore (length ns) (item_operands i)
  pub shows : (loops : Loops) (rest : Entries) → entry (node_at (trees ns) i.body) (loops_at (trees ns) i.loops loops) rest ≡ entry_of j loops rest

-- these are the items
pub record AreItems (ns : List Node) (is : List node.Item) (js : Items) : Type 0 where
  pub within : AreBefore (length ns) (flat_map item_operands is)
  pub shows : (rest : Entries) → entries_at (trees ns) is rest ≡ entries_of js rest

-- these are the pairs
pub record AreFields (ns : List Node) (fs : List Field) (ps : Pairs) : Type 0 where
  pub within : AreBefore (length ns) (flat_map field_operands fs)
  pub shows : (rest : Fields) → fields_at (trees ns) fs rest ≡ fields_of ps rest

-- this is the end of a slice
pub record IsEnd (ns : List Node) (e : Option ℕ) (b : Bound) : Type 0 where
  pub within : AreBefore (length ns) (given e)
  pub shows : end_at (trees ns) e ≡ end_of b

-- the part of an item that is being read is this one of its derivation
abbrev pub IsPart : List Node → code.Part → Part → Type 0
IsPart ns part.Body q = q ≡ body
IsPart ns (part.Over i p x) q = (j : Item) × (n : ℕ) × (r : ℕ) × (q ≡ over j p n x r) × IsItem ns i j
IsPart ns (part.Only i p x o s) q =
    (j : Item) × (n : ℕ) × (r : ℕ) × (d : Derivation) × (q ≡ only j p n x r d s) × IsItem ns i j × IsNode ns o (tree_of d)

-- this waits
abbrev pub IsFrame : List Node → Pending → Frame → Type 0
IsFrame ns (pending.Left p o i) f = (a : Derivation) × (f ≡ left a p o) × IsNode ns i (tree_of a)
IsFrame ns (pending.Before p s) f = f ≡ before p s
IsFrame ns pending.Grouped f = (from : ℕ) × (f ≡ grouped from)
IsFrame ns (pending.Argued p x is) f = (from : ℕ) × (args : Arguments) × (f ≡ argued p x from args) × AreArguments ns is args
IsFrame ns (pending.Listed from is q) f = (js : Items) × (r : Part) × (f ≡ listed from js r) × AreItems ns is js × IsPart ns q r
IsFrame ns (pending.Keyed from fs key) f = (ps : Pairs) × (p : ℕ) × (colon : ℕ) × (f ≡ keyed from ps p key colon) × AreFields ns fs ps
IsFrame ns (pending.Indexed i from) f = (d : Derivation) × (f ≡ indexed d from) × IsNode ns i (tree_of d)
IsFrame ns (pending.Sliced i from e) f = (d : Derivation) × (a : Bound) × (colon : ℕ) × (f ≡ sliced d from a colon) × IsNode ns i (tree_of d) × IsEnd ns e a

-- these wait, the last one first
abbrev pub IsStack : List Node → List Pending → List Frame → Type 0
IsStack ns [] fs = fs ≡ []
IsStack ns (q ∷ qs) fs = (f : Frame) × (gs : List Frame) × (fs ≡ f ∷ gs) × IsFrame ns q f × IsStack ns qs gs

-- the nodes and what waits, the last one first
pub record Shows (ns : List Node) (qs : List Pending) (fs : List Frame) : Type 0 where
  pub stack : IsStack ns qs fs
  pub ordered : IsOrdered 0 ns

-- the reader shows what waits
abbrev pub IsShown : Reader → List Frame → Type 0
IsShown r fs = Shows r.nodes.items (reverse r.stack.items) fs

-- behind the expression no call can begin
abbrev pub IsNoName : Derivation → Type 0
IsNoName d = (fs : List Frame) (from : ℕ) → begins_call fs d from ≡ stuck

-- the reader is in this state
abbrev pub IsState : Reader → Wanted → State → Type 0
IsState r wanted.Operand st = (fs : List Frame) × (st ≡ wants fs) × IsShown r fs × (r.depth ≡ depth fs)
IsState r (wanted.Named p x) st = (fs : List Frame) × (st ≡ has fs (name p x)) × IsShown r fs × (r.depth ≡ depth fs)
IsState r (wanted.Behind i) st =
    (fs : List Frame) × (d : Derivation) × (st ≡ has fs d) × IsShown r fs × (r.depth ≡ depth fs) × IsLast r.nodes.items i (tree_of d) × IsNoName d
IsState r (wanted.Key from fields) st =
    (fs : List Frame) × (ps : Pairs) × (st ≡ wants_key fs from ps) × IsShown r fs × (r.depth ≡ suc (depth fs)) × AreFields r.nodes.items fields ps
IsState r (wanted.Colon from fields key) st =
    (fs : List Frame) × (ps : Pairs) × (p : ℕ) × (st ≡ wants_colon fs from ps p key) × IsShown r fs × (r.depth ≡ suc (depth fs)) × AreFields r.nodes.items fields ps
IsState r (wanted.LoopName from items i p) st =
    (fs : List Frame) × (is : Items) × (j : Item) × (st ≡ wants_name fs from is j p) × IsShown r fs × (r.depth ≡ suc (depth fs)) × AreItems r.nodes.items items is × IsItem r.nodes.items i j
IsState r (wanted.In from items i p x) st =
    (fs : List Frame) × (is : Items) × (j : Item) × (q : ℕ) × (st ≡ wants_in fs from is j p q x) × IsShown r fs × (r.depth ≡ suc (depth fs)) × AreItems r.nodes.items items is × IsItem r.nodes.items i j

-- what a call answered is what the definition gives, unless memory ran out
abbrev pub Steps : Reader → Result Wanted JxFault → Result State JxFault → Type 0
Steps r (Ok w) gives = (next : State) × (gives ≡ Ok next) × IsState r w next
Steps r (Err e) gives = Fails e gives

-- where this node was read and its operators have their operands, a call answered what the move gives
abbrev pub Ends : Reader → ℕ → Reader → Result Wanted JxFault → ℕ → (ℕ → List Frame × Derivation → Move) → Type 0
Ends old operand new gives place ends = (fs : List Frame) (x : Derivation) (n : ℕ) → IsShown old fs → old.depth ≡ depth fs
    → IsLast old.nodes.items operand (tree_of x) → Steps new gives (tried 128 n place (ends place (fs, x)))

-- the last node is the expression behind which this waits
abbrev pub IsReduced : Reader → ℕ → List Frame × Derivation → Type 0
IsReduced r i p = IsShown r p.0 × (r.depth ≡ depth p.0) × IsLast r.nodes.items i (tree_of p.1)

-- what waited on top got its operand, or nothing on top gets it yet
abbrev pub IsApplied : Reader → Option ℕ → ℕ → ℕ → List Frame → Derivation → Type 0
IsApplied r (Some i) operand k fs x = (p : List Frame × Derivation) × IsReduced r i p × (reduce k p.0 p.1 ≡ reduce k fs x)
IsApplied r None operand k fs x = IsReduced r operand (fs, x) × (reduce k fs x ≡ (fs, x))

-- ---- whole texts

-- all tokens were read, or a fault was found
abbrev pub IsRead : Result (Reader × Wanted) JxFault → Result State JxFault → Type 0
IsRead (Ok p) gives = (st : State) × (gives ≡ Ok st) × IsState p.0 p.1 st
IsRead (Err e) gives = Fails e gives

-- these nodes are the expression that is given, or its fault was found
abbrev pub IsExpression : Result (List Node) JxFault → Result Derivation JxFault → Type 0
IsExpression (Ok ns) gives = (d : Derivation) × (gives ≡ Ok d) × (expression_of ns ≡ tree_of d)
IsExpression (Err e) gives = Fails e gives
