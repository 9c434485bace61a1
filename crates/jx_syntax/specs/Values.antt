-- The value that an expression of literals says, and how deep the text of a value nests.
use Rattle.std.specs.Prelude.{ℕ, zero, suc, ◌^◌, max, Bool, true, ◌&&◌, nat_lt, List, [], ◌∷◌, Option, Some, None, option_map, ℤ, pos, negsuc}
use Rattle.std.specs.Str.{is_utf8}
use Rattle.jx_syntax.specs.declared.operator.Sign.TheVariants as sign
use Rattle.jx_syntax.specs.declared.value.JxValue.{JxValue}
use Rattle.jx_syntax.specs.declared.value.JxValue.TheVariants as value
use Rattle.jx_syntax.specs.declared.value.JxPair.{JxPair}
use Rattle.jx_syntax.specs.declared.value.JxValue.TheOpen.{JxValue-F, JxPair-F}
use Rattle.jx_syntax.specs.declared.value.JxValue.TheFolds.{fold-JxValue, fold-JxPair}
use Rattle.jx_syntax.specs.Tree.{Tree, Entries, Fields, null, truth, number, text, list, object, signed, no_entries, entry, no_loops, loop, no_fields, field}

-- ---- what an expression says

-- the number that a minus before a number says
abbrev pub negated : ℕ → ℤ
negated zero = pos zero
negated (suc n) = negsuc n

-- what a minus before this says, where this is a number without a sign
abbrev pub behind_minus : Tree → Option JxValue
behind_minus (number p (pos n)) = Some (value.Number (negated n))
behind_minus t = None

-- an item before the items behind it, where each of them is a value
abbrev pub joined : {A : Type 0} → Option A → Option (List A) → Option (List A)
joined None more = None
joined (Some x) None = None
joined (Some x) (Some xs) = Some (x ∷ xs)

-- a key and its value, where that is a value
abbrev pub paired : List ℕ → Option JxValue → Option JxPair
paired key v = option_map (λ v. record { key = key; value = v }) v

-- the value that an expression says where it is one of literals, lists and objects alone
abbrev mutual
  pub value_of : Tree → Option JxValue
  value_of (null p) = Some value.Null
  value_of (truth p b) = Some (value.Truth b)
  value_of (number p z) = Some (value.Number z)
  value_of (text p t) = Some (value.Text t)
  value_of (list p es) = option_map value.List (items_of es)
  value_of (object p fs) = option_map value.Object (pairs_of fs)
  value_of (signed p sign.Minus t) = behind_minus t
  value_of t = None

  pub items_of : Entries → Option (List JxValue)
  items_of no_entries = Some []
  items_of (entry t no_loops es) = joined (value_of t) (items_of es)
  items_of (entry t (loop p x l c ls) es) = None

  pub pairs_of : Fields → Option (List JxPair)
  pairs_of no_fields = Some []
  pairs_of (field key t fs) = joined (paired key (value_of t)) (pairs_of fs)

-- ---- what its text nests

-- the greatest of them, 0 where there are none
abbrev pub greatest : List ℕ → ℕ
greatest [] = 0
greatest (n ∷ ns) = max n (greatest ns)

-- a minus is a level, each list and each object is one
abbrev pub levels_step : JxValue-F ℕ ℕ → ℕ
levels_step JxValue-F.Null = 0
levels_step (JxValue-F.Truth t) = 0
levels_step (JxValue-F.Number (pos n)) = 0
levels_step (JxValue-F.Number (negsuc n)) = 1
levels_step (JxValue-F.Text t) = 0
levels_step (JxValue-F.List items) = suc (greatest items)
levels_step (JxValue-F.Object pairs) = suc (greatest pairs)

-- the levels of a pair are those of its value
abbrev pub pair_levels_step : JxPair-F ℕ ℕ → ℕ
pair_levels_step p = p.value

-- how many levels the text of a value opens at its deepest place
abbrev pub levels : JxValue → ℕ
levels = fold-JxValue ℕ ℕ levels_step pair_levels_step

-- how many levels the value of a pair opens
abbrev pub pair_levels : JxPair → ℕ
pair_levels = fold-JxPair ℕ ℕ levels_step pair_levels_step

-- ---- what a value can hold

-- a number of 64 bits with a sign
abbrev pub in_range : ℤ → Bool
in_range (pos n) = nat_lt n (2 ^ 63)
in_range (negsuc n) = nat_lt n (2 ^ 63)

-- each of these holds
abbrev pub all_hold : List Bool → Bool
all_hold [] = true
all_hold (b ∷ bs) = b && all_hold bs

-- a value holds what a program can, by what those inside it do
abbrev pub holds_step : JxValue-F Bool Bool → Bool
holds_step JxValue-F.Null = true
holds_step (JxValue-F.Truth t) = true
holds_step (JxValue-F.Number z) = in_range z
holds_step (JxValue-F.Text t) = is_utf8 t
holds_step (JxValue-F.List items) = all_hold items
holds_step (JxValue-F.Object pairs) = all_hold pairs

-- a pair holds what a program can, by what its value does
abbrev pub pair_holds_step : JxPair-F Bool Bool → Bool
pair_holds_step p = is_utf8 p.key && p.value

-- numbers are of 64 bits and texts are UTF-8, as in every value of a program
abbrev pub is_held : JxValue → Bool
is_held = fold-JxValue Bool Bool holds_step pair_holds_step

-- the same of a pair
abbrev pub pair_is_held : JxPair → Bool
pair_is_held = fold-JxPair Bool Bool holds_step pair_holds_step
