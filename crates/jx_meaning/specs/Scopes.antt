-- The names of a scope.
use Rattle.std.specs.Prelude.{◌≡◌, ℕ, List, map, Option, slice_index_or, slice_set}
use Rattle.jx_meaning.specs.declared.scope.Binding.{Binding}
use Rattle.jx_syntax.specs.declared.value.JxValue.{JxValue}
use Rattle.jx_meaning.specs.Values.{Value, Entry, plain, find}
use Rattle.jx_meaning.specs.Meaning.{Scope}

-- a name and its value, as plain data
abbrev pub entry_of : Binding → Entry
entry_of b = (b.name, plain b.value)

-- the names and their values, as plain data
abbrev pub names_of : List Binding → Scope
names_of bs = map entry_of bs

-- the value of a name
abbrev pub named : List Binding → List ℕ → Option Value
named bs x = find x (names_of bs)

-- the binding at this place has another value, and the others are as before
abbrev pub ReplacesValue : List Binding → ℕ → JxValue → List Binding → Type 0
ReplacesValue old place value new = (b : Binding) × (b ≡ slice_index_or old place b) × (new ≡ slice_set old place (record b { value = value }))
