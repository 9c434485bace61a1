-- Values as plain data, and what may be built.
use Rattle.std.specs.Prelude.{ℕ, suc, ◌+◌, max, Bool, true, false, ◌&&◌, ◌==◌, nat_le, List, [], ◌∷◌, length, Option, Some, None, ℤ}
use Rattle.std.specs.Bool.{beq}
use Rattle.std.specs.Ordering.{int_eq}
use Rattle.std.specs.Str.{bytes_eq}
use Rattle.jx_syntax.specs.declared.value.JxValue.{JxValue}
use Rattle.jx_syntax.specs.declared.value.JxValue.TheOpen.{JxValue-F, JxPair-F}
use Rattle.jx_syntax.specs.declared.value.JxValue.TheFolds.{fold-JxValue}

-- a value
mutual
  pub data Value : Type 0 where
    null : Value
    truth : Bool → Value
    number : ℤ → Value
    text : List ℕ → Value
    list : Values → Value
    object : Pairs → Value

  -- the items of a list
  pub data Values : Type 0 where
    no_values : Values
    item : Value → Values → Values

  -- the keys of an object, each with its value
  pub data Pairs : Type 0 where
    no_pairs : Pairs
    pair : List ℕ → Value → Pairs → Pairs

-- a key or a name, and its value
abbrev pub Entry : Type 0
Entry = List ℕ × Value

-- ---- as lists

-- the items as a list
abbrev pub items : Values → List Value
items no_values = []
items (item v vs) = v ∷ items vs

-- a list as items
abbrev pub values : List Value → Values
values [] = no_values
values (v ∷ vs) = item v (values vs)

-- the pairs as a list
abbrev pub entries : Pairs → List Entry
entries no_pairs = []
entries (pair k v ps) = (k, v) ∷ entries ps

-- a list as pairs
abbrev pub pairs : List Entry → Pairs
pairs [] = no_pairs
pairs (e ∷ es) = pair e.0 e.1 (pairs es)

-- ---- of the code's values

-- one level of a value of the code
abbrev pub value_step : JxValue-F Value Entry → Value
value_step JxValue-F.Null = null
value_step (JxValue-F.Truth t) = truth t
value_step (JxValue-F.Number z) = number z
value_step (JxValue-F.Text t) = text t
value_step (JxValue-F.List vs) = list (values vs)
value_step (JxValue-F.Object ps) = object (pairs ps)

-- one level of a pair of the code
abbrev pub entry_step : JxPair-F Value Entry → Entry
entry_step p = (p.key, p.value)

-- a value of the code, as plain data
abbrev pub plain : JxValue → Value
plain = fold-JxValue Value Entry value_step entry_step

-- ---- names

-- this where the test holds, or the other
abbrev pub or_else : {A : Type 0} → Bool → A → Option A → Option A
or_else true v other = Some v
or_else false v other = other

-- the first value that has this key
abbrev pub find : List ℕ → List Entry → Option Value
find key [] = None
find key (e ∷ es) = or_else (bytes_eq e.0 key) e.1 (find key es)

-- ---- equality

-- the value that was found, where there is one, passes
abbrev pub found_and : (Value → Bool) → Option Value → Bool
found_and passes None = false
found_and passes (Some v) = passes v

-- equal values: lists item by item, objects in any order
unfoldable mutual
  -- two values
  pub equal : Value → Value → Bool
  equal null null = true
  equal (truth a) (truth b) = beq a b
  equal (number a) (number b) = int_eq a b
  equal (text a) (text b) = bytes_eq a b
  equal (list a) (list b) = all_equal a b
  equal (object a) (object b) = (length (entries a) == length (entries b)) && all_found a (entries b)
  equal a b = false

  -- two lists of items
  pub all_equal : Values → Values → Bool
  all_equal no_values no_values = true
  all_equal (item a as') (item b bs) = equal a b && all_equal as' bs
  all_equal as' bs = false

  -- each key has an equal value among these
  pub all_found : Pairs → List Entry → Bool
  all_found no_pairs es = true
  all_found (pair k v ps) es = found_and (equal v) (find k es) && all_found ps es

-- ---- size

-- how many lists and objects are open at the deepest place, the value itself counted
unfoldable mutual
  -- of a value
  pub depth : Value → ℕ
  depth (list vs) = suc (items_depth vs)
  depth (object ps) = suc (pairs_depth ps)
  depth v = 0

  -- of the deepest item
  pub items_depth : Values → ℕ
  items_depth no_values = 0
  items_depth (item v vs) = max (depth v) (items_depth vs)

  -- of the deepest value of a pair
  pub pairs_depth : Pairs → ℕ
  pairs_depth no_pairs = 0
  pairs_depth (pair k v ps) = max (depth v) (pairs_depth ps)

-- how many values there are, the value itself and all within it
unfoldable mutual
  -- of a value
  pub count : Value → ℕ
  count (list vs) = suc (items_count vs)
  count (object ps) = suc (pairs_count ps)
  count v = 1

  -- of all items
  pub items_count : Values → ℕ
  items_count no_values = 0
  items_count (item v vs) = count v + items_count vs

  -- of all values of pairs
  pub pairs_count : Pairs → ℕ
  pairs_count no_pairs = 0
  pairs_count (pair k v ps) = count v + pairs_count ps

-- a text, a list or an object that may be built
abbrev pub may_be : Value → Bool
may_be (text t) = nat_le (length t) 16777216
may_be (list vs) = nat_le (length (items vs)) 1000000 && nat_le (depth (list vs)) 128 && nat_le (count (list vs)) 10000000
may_be (object ps) = nat_le (depth (object ps)) 128 && nat_le (count (object ps)) 10000000
may_be v = true
