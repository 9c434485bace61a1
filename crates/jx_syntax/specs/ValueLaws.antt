-- What holds of the text of every value.
use Rattle.std.specs.Prelude.{◌≡◌, ◌≤◌, ◌<◌, ℕ, true, length, Some}
use Rattle.jx_tokens.specs.declared.fault.JxFault.TheVariants.{TooDeep, TooLarge}
use Rattle.jx_syntax.specs.declared.value.JxValue.{JxValue}
use Rattle.jx_syntax.specs.Grammar.{Derivation, IsWritten, IsNoExpression}
use Rattle.jx_syntax.specs.Tree.{tree_of}
use Rattle.jx_syntax.specs.Written.{value_text}
use Rattle.jx_syntax.specs.Values.{value_of, levels, is_held}

-- its text is no longer than a text may be, and opens no more levels
abbrev pub IsWithinLimits : JxValue → Type 0
IsWithinLimits v = (length (value_text v) ≤ 16777216) × (levels v ≤ 128)

-- the text of a value within the limits is an expression
abbrev pub ValuesAreWritten : Type 0
ValuesAreWritten = (v : JxValue) → is_held v ≡ true → IsWithinLimits v → (d : Derivation) × IsWritten (value_text v) d

-- where the text of a value is an expression, it is one of that value, and the value is within the limits
abbrev pub ValuesReadBack : Type 0
ValuesReadBack = (v : JxValue) (d : Derivation) → is_held v ≡ true → IsWritten (value_text v) d → IsWithinLimits v × (value_of (tree_of d) ≡ Some v)

-- the text of a value that is short enough and opens more levels is refused as too deep, and for nothing else
abbrev pub DeepValuesAreRefused : Type 0
DeepValuesAreRefused = (v : JxValue) → is_held v ≡ true → length (value_text v) ≤ 16777216 → 128 < levels v → (place : ℕ) × IsNoExpression (value_text v) (TooDeep place)

-- the text of a value that is longer is refused as too large
abbrev pub LongValuesAreRefused : Type 0
LongValuesAreRefused = (v : JxValue) → 16777216 < length (value_text v) → IsNoExpression (value_text v) TooLarge
