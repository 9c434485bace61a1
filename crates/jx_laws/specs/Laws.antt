-- What holds of expressions of literals, and of the texts of values.
use Rattle.std.specs.Prelude.{◌≡◌, ◌≤◌, ℕ, ◌+◌, true, Some, Ok}
use Rattle.jx_syntax.specs.declared.value.JxValue.{JxValue}
use Rattle.jx_syntax.specs.Grammar.{Derivation, IsWritten}
use Rattle.jx_syntax.specs.Tree.{Tree, tree_of}
use Rattle.jx_syntax.specs.Written.{value_text}
use Rattle.jx_syntax.specs.Values as literal
use Rattle.jx_syntax.specs.Values.{is_held}
use Rattle.jx_syntax.specs.ValueLaws.{IsWithinLimits}
use Rattle.jx_meaning.specs.Values.{plain, depth, count}
use Rattle.jx_meaning.specs.Meaning.{Scope, evaluate, value_of}
use Rattle.jx_laws.specs.Literals.{lists_fit, keys_differ, nodes, most_nodes}

-- a value of a program in which no list has more than 1,000,000 items and no object has a key twice
abbrev pub CanBeMade : JxValue → Type 0
CanBeMade v = (is_held v ≡ true) × (lists_fit (plain v) ≡ true) × (keys_differ (plain v) ≡ true)

-- an expression of literals has the value that it says, whatever the names, where 128 lists and objects at most are open at a place, and 10,000,000 nodes at most are begun
abbrev pub LiteralsEvaluate : Type 0
LiteralsEvaluate = (t : Tree) (v : JxValue) (s : Scope) (n : ℕ) → literal.value_of t ≡ Some v → CanBeMade v → depth (plain v) ≤ 128 → n + nodes t ≤ 10000000
    → evaluate t s n ≡ Ok (plain v, n + nodes t)

-- it has a node for each value at least, and no more than the value may take
abbrev pub NodesAreCounted : Type 0
NodesAreCounted = (t : Tree) (v : JxValue) → literal.value_of t ≡ Some v → (count (plain v) ≤ nodes t) × (nodes t ≤ most_nodes (plain v))

-- where the text of a value is an expression of 10,000,000 nodes at most, that has the value, whatever the names
abbrev pub TextsEvaluateBack : Type 0
TextsEvaluateBack = (v : JxValue) (d : Derivation) (s : Scope) → CanBeMade v → IsWritten (value_text v) d → nodes (tree_of d) ≤ 10000000
    → value_of s (tree_of d) ≡ Ok (plain v)

-- the text of a value within the limits is an expression that has the value, whatever the names
abbrev pub ValuesEvaluateBack : Type 0
ValuesEvaluateBack = (v : JxValue) → CanBeMade v → IsWithinLimits v → most_nodes (plain v) ≤ 10000000
    → (d : Derivation) × IsWritten (value_text v) d × ((s : Scope) → value_of s (tree_of d) ≡ Ok (plain v))
