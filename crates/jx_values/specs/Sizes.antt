-- The size of a value, as far as the limits need it.
use Rattle.std.specs.Prelude.{ℕ, min}
use Rattle.jx_values.specs.declared.size.Size.{Size}
use Rattle.jx_meaning.specs.Values.{Value, Values, Pairs, depth, items_depth, pairs_depth, count, items_count, pairs_count}

-- numbers above the limits are one more than the limit
abbrev pub sized : ℕ → ℕ → Size
sized d c = record { depth = min d 129; count = min c 10000001 }

-- of a value
abbrev pub size_of : Value → Size
size_of v = sized (depth v) (count v)

-- of items beside one another
abbrev pub items_size : Values → Size
items_size vs = sized (items_depth vs) (items_count vs)

-- of the values of pairs beside one another
abbrev pub pairs_size : Pairs → Size
pairs_size ps = sized (pairs_depth ps) (pairs_count ps)
