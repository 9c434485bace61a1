-- What a value holds, where it is of a kind.
use Rattle.std.specs.Prelude.{◌≡◌, slice_index_or, slice_set, ℕ, Bool, true, false, List, Option, Some, None, ℤ}
use Rattle.jx_syntax.specs.declared.value.JxValue.{JxValue}
use Rattle.jx_syntax.specs.declared.value.JxPair.{JxPair}
use Rattle.jx_meaning.specs.Values.{Value, plain, null, truth, number, text, list, object, items, Entry, entries}

-- a truth value
abbrev pub truth_in : Value → Option Bool
truth_in (truth t) = Some t
truth_in v = None

-- a number
abbrev pub number_in : Value → Option ℤ
number_in (number z) = Some z
number_in v = None

-- a text
abbrev pub text_in : Value → Option (List ℕ)
text_in (text t) = Some t
text_in v = None

-- the items of a list
abbrev pub items_in : Value → Option (List Value)
items_in (list vs) = Some (items vs)
items_in v = None

-- the pairs of an object
abbrev pub entries_in : Value → Option (List Entry)
entries_in (object ps) = Some (entries ps)
entries_in v = None

-- a pair of the code, as plain data
abbrev pub plain_pair : JxPair → Entry
plain_pair p = (p.key, plain p.value)

-- whether a value is `null`
abbrev pub is_null : Value → Bool
is_null null = true
is_null v = false

-- the pair at this place has another value, and the others are as before
abbrev pub ReplacesValue : List JxPair → ℕ → JxValue → List JxPair → Type 0
ReplacesValue old place value new = (p : JxPair) × (p ≡ slice_index_or old place p) × (new ≡ slice_set old place (record p { value = value }))
