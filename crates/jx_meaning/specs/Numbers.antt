-- Arithmetic and ranges.
use Rattle.std.specs.Prelude.{ℕ, zero, suc, ◌+◌, ◌-◌, ◌/◌, ◌^◌, Bool, true, false, nat_lt, nat_le, List, [], ◌∷◌, Result, Ok, Err, if◌then◌else◌, ℤ, pos, negsuc, ◌+ℤ◌, ◌-ℤ◌, ◌*ℤ◌, int_div, int_rem}
use Rattle.std.specs.Int.Signed.{mag}
use Rattle.jx_syntax.specs.declared.operator.Operator.{Operator}
use Rattle.jx_syntax.specs.declared.operator.Operator.TheVariants.{Add, Subtract, Multiply, Divide, Remainder}
use Rattle.jx_meaning.specs.declared.fault.EvalFault.{EvalFault}
use Rattle.jx_meaning.specs.declared.fault.EvalFault.TheVariants.{WrongKind, Overflow, ZeroDivisor, TooMuch}
use Rattle.jx_meaning.specs.Values.{Value, number, list, values}

-- a value, or a fault
abbrev pub Answer : Type 0
Answer = Result Value EvalFault

-- the number, where it has 64 bits with its sign
abbrev pub in_range : ℕ → ℤ → Answer
in_range at z = if nat_lt (mag z) (2 ^ 63) then Ok (number z) else Err (Overflow at)

-- whether a number is 0
abbrev pub is_zero : ℤ → Bool
is_zero (pos zero) = true
is_zero z = false

-- numbers under `+ - * / %`; the last two truncate toward zero
abbrev pub arithmetic : Operator → ℕ → ℤ → ℤ → Answer
arithmetic Add at a b = in_range at (a +ℤ b)
arithmetic Subtract at a b = in_range at (a -ℤ b)
arithmetic Multiply at a b = in_range at (a *ℤ b)
arithmetic Divide at a b = if is_zero b then Err (ZeroDivisor at) else in_range at (int_div a b)
arithmetic Remainder at a b = if is_zero b then Err (ZeroDivisor at) else Ok (number (int_rem a b))
arithmetic o at a b = Err (WrongKind at)

-- ---- ranges

-- a whole number from 0 on, and 0 for a lesser one
abbrev pub whole : ℤ → ℕ
whole (pos n) = n
whole (negsuc n) = 0

-- how many steps of this size go into the distance, the last one perhaps in part
abbrev pub steps_in : ℕ → ℕ → ℕ
steps_in distance size = (distance + size - 1) / size

-- how many numbers go from a in steps of s and stop before b
abbrev pub range_len : ℤ → ℤ → ℤ → ℕ
range_len a b (pos s) = steps_in (whole (b -ℤ a)) s
range_len a b (negsuc s) = steps_in (whole (a -ℤ b)) (suc s)

-- so many numbers from a in steps of s
unfoldable pub stepped : ℕ → ℤ → ℤ → List Value
stepped zero a s = []
stepped (suc n) a s = number a ∷ stepped n (a +ℤ s) s

-- so many numbers, or the fault that they are too many
abbrev pub ranged_if : Bool → ℕ → ℕ → ℤ → ℤ → Answer
ranged_if true at n a s = Ok (list (values (stepped n a s)))
ranged_if false at n a s = Err (TooMuch at)

-- the numbers from a in steps of s before b, where a list may have so many items
abbrev pub ranged : ℕ → ℤ → ℤ → ℤ → Answer
ranged at a b s = if is_zero s then Err (ZeroDivisor at) else ranged_if (nat_le (range_len a b s) 1000000) at (range_len a b s) a s
