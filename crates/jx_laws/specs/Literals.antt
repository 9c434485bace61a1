-- When an expression of literals has the value that it says.
use Rattle.std.specs.Prelude.{ℕ, zero, suc, ◌+◌, Bool, true, ◌&&◌, nat_le, is_none, List, length, ℤ, pos, negsuc}
use Rattle.jx_syntax.specs.Tree.{Tree, Entries, Fields, no_entries, entry, no_fields, field}
use Rattle.jx_syntax.specs.Tree as tree
use Rattle.jx_meaning.specs.Values.{Value, Values, Pairs, number, list, object, no_values, item, no_pairs, pair, Entry, items, entries, find}

-- ---- lists and keys

-- no list in it has more than 1,000,000 items
unfoldable mutual
  -- a value
  pub lists_fit : Value → Bool
  lists_fit (list vs) = nat_le (length (items vs)) 1000000 && items_fit vs
  lists_fit (object ps) = pairs_fit ps
  lists_fit v = true

  -- the items of a list
  pub items_fit : Values → Bool
  items_fit no_values = true
  items_fit (item v vs) = lists_fit v && items_fit vs

  -- the values of an object
  pub pairs_fit : Pairs → Bool
  pairs_fit no_pairs = true
  pairs_fit (pair key v ps) = lists_fit v && pairs_fit ps

-- none of these has the key
abbrev pub is_new : List ℕ → List Entry → Bool
is_new key es = is_none (find key es)

-- no object in it has a key twice
unfoldable mutual
  -- a value
  pub keys_differ : Value → Bool
  keys_differ (list vs) = items_differ vs
  keys_differ (object ps) = pairs_differ ps
  keys_differ v = true

  -- the items of a list
  pub items_differ : Values → Bool
  items_differ no_values = true
  items_differ (item v vs) = keys_differ v && items_differ vs

  -- the pairs of an object
  pub pairs_differ : Pairs → Bool
  pairs_differ no_pairs = true
  pairs_differ (pair key v ps) = (is_new key (entries ps) && keys_differ v) && pairs_differ ps

-- ---- nodes

-- how many nodes there are; only expressions that say a value are asked
unfoldable mutual
  -- of an expression
  pub nodes : Tree → ℕ
  nodes (tree.list at es) = suc (entries_nodes es)
  nodes (tree.object at fs) = suc (fields_nodes fs)
  nodes (tree.signed at o t) = suc (nodes t)
  nodes t = 1

  -- of the items of a list
  pub entries_nodes : Entries → ℕ
  entries_nodes no_entries = 0
  entries_nodes (entry t loops es) = nodes t + entries_nodes es

  -- of the values of an object
  pub fields_nodes : Fields → ℕ
  fields_nodes no_fields = 0
  fields_nodes (field key t fs) = nodes t + fields_nodes fs

-- a number takes a node, and one more for a minus; 0 may have one
abbrev pub number_nodes : ℤ → ℕ
number_nodes (pos zero) = 2
number_nodes (pos (suc n)) = 1
number_nodes (negsuc n) = 2

-- the most nodes that an expression of literals takes to say it
unfoldable mutual
  -- a value
  pub most_nodes : Value → ℕ
  most_nodes (number z) = number_nodes z
  most_nodes (list vs) = suc (items_most_nodes vs)
  most_nodes (object ps) = suc (pairs_most_nodes ps)
  most_nodes v = 1

  -- the items of a list
  pub items_most_nodes : Values → ℕ
  items_most_nodes no_values = 0
  items_most_nodes (item v vs) = most_nodes v + items_most_nodes vs

  -- the values of an object
  pub pairs_most_nodes : Pairs → ℕ
  pairs_most_nodes no_pairs = 0
  pairs_most_nodes (pair key v ps) = most_nodes v + pairs_most_nodes ps
