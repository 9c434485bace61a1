-- Parts of the worked examples.
use Rattle.std.specs.Prelude.{ℕ, zero, suc, ◌+◌, List, [], ◌∷◌, pos, codes}
use Rattle.jx_syntax.specs.declared.operator.Operator.TheVariants.{Multiply}
use Rattle.jx_syntax.specs.declared.operator.Sign.TheVariants.{Minus}
use Rattle.jx_syntax.specs.Tree.{Tree, Trees, Entries, Fields, number, text, name, call, list, object, signed, operation, no_trees, tree, no_entries, entry, no_loops, no_fields, field}
use Rattle.jx_meaning.specs.Values as of
use Rattle.jx_meaning.specs.Values.{Value, values}
use Rattle.jx_meaning.specs.Numbers.{Answer}
use Rattle.jx_meaning.specs.Meaning.{value_of}

-- a number at a place
abbrev pub digit : ℕ → ℕ → Tree
digit at n = number at (pos n)

-- a minus at a place, and a number right behind it
abbrev pub minus : ℕ → ℕ → Tree
minus at n = signed at Minus (number (at + 1) (pos n))

-- these arguments
abbrev pub given : List Tree → Trees
given [] = no_trees
given (t ∷ ts) = tree t (given ts)

-- these items, each once
abbrev pub once : List Tree → Entries
once [] = no_entries
once (t ∷ ts) = entry t no_loops (once ts)

-- `[1,2,3,4]` at place 0
abbrev pub four : Tree
four = list 0 (once (digit 1 1 ∷ digit 3 2 ∷ digit 5 3 ∷ digit 7 4 ∷ []))

-- `x` at place 1
abbrev pub x : Tree
x = name 1 (codes "x")

-- `x * x`
abbrev pub squared : Tree
squared = operation 3 Multiply x x

-- a text of two characters and three bytes
abbrev pub accented : Tree
accented = text 0 (195 ∷ 169 ∷ 33 ∷ [])

-- `"a"` and `"b"`
abbrev pub letters : List Tree
letters = text 6 (codes "a") ∷ text 10 (codes "b") ∷ []

-- two keys with numbers
abbrev pub fields : List ℕ → ℕ → List ℕ → ℕ → Fields
fields k n l m = field k (digit 5 n) (field l (digit 11 m) no_fields)

-- an object at a place
abbrev pub fields_at : ℕ → Fields → Tree
fields_at at fs = object at fs

-- what a call at place 0 is worth
abbrev pub called : List ℕ → List Tree → Answer
called f ts = value_of [] (call 0 f (given ts))

-- numbers as values
abbrev pub numbers : List ℕ → List Value
numbers [] = []
numbers (n ∷ ns) = of.number (pos n) ∷ numbers ns

-- a list of these numbers
abbrev pub number_list : List ℕ → Value
number_list ns = of.list (values (numbers ns))

-- two keys with numbers, as a value
abbrev pub object_of : List ℕ → ℕ → List ℕ → ℕ → Value
object_of k n l m = of.object (of.pair k (of.number (pos n)) (of.pair l (of.number (pos m)) of.no_pairs))

-- so many lists, each the one item of the next
unfoldable pub nested : ℕ → Value
nested zero = of.null
nested (suc n) = of.list (of.item (nested n) of.no_values)
