-- The values that operands have, and those that loops go over.
use Rattle.std.specs.Prelude.{◌≡◌, List, [], ◌∷◌, reverse, Option, Some, None}
use Rattle.jx_syntax.specs.declared.value.JxValue.{JxValue}
use Rattle.jx_eval.specs.declared.operand.Seen.{Seen}
use Rattle.jx_eval.specs.declared.operand.Seen.TheVariants as seen
use Rattle.jx_eval.specs.declared.operand.Held.{Held}
use Rattle.jx_eval.specs.declared.operand.Held.TheVariants as held
use Rattle.jx_eval.specs.declared.turns.Left.{Left}
use Rattle.jx_eval.specs.declared.turns.Left.TheVariants as left

-- the value that is looked at
abbrev pub seen_value : Seen → JxValue
seen_value (seen.Lent v) = v.now
seen_value (seen.Shared r) = r.value

-- the value that is held
abbrev pub held_value : Held → JxValue
held_value (held.Own v) = v
held_value (held.Seen s) = seen_value s

-- the values that are left of a list, the next one first
abbrev pub left_values : Left → List JxValue
left_values (left.Lent vs) = vs.now
left_values (left.Own vs) = reverse vs.items

-- the first of these values was taken, or there was none
abbrev pub TakesFirst : List JxValue → Option Seen → List JxValue → Type 0
TakesFirst vs None rest = vs ≡ []
TakesFirst vs (Some s) rest = vs ≡ seen_value s ∷ rest
