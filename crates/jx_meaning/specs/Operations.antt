-- Signs, operators and functions on values.
use Rattle.std.specs.Prelude.{ℕ, Bool, false, not, List, [], ◌∷◌, ◌++◌, length, Option, Some, None, Ok, Err, pos, neg_ℤ}
use Rattle.std.specs.declared.cmp.Ordering.{Ordering}
use Rattle.std.specs.Ordering.{nat_cmp, int_cmp, is_lt, is_le, is_gt, is_ge}
use Rattle.std.specs.Cmp.Lexicographic.{slice_cmp}
use Rattle.std.specs.Str.{chars}
use Rattle.jx_syntax.specs.declared.operator.Operator.{Operator}
use Rattle.jx_syntax.specs.declared.operator.Operator.TheVariants as op
use Rattle.jx_syntax.specs.declared.operator.Sign.{Sign}
use Rattle.jx_syntax.specs.declared.operator.Sign.TheVariants as sign
use Rattle.jx_meaning.specs.declared.fault.EvalFault.TheVariants.{UnknownName, WrongKind, ArgCount}
use Rattle.jx_meaning.specs.declared.function.Function.{Function}
use Rattle.jx_meaning.specs.declared.function.Function.TheVariants as function
use Rattle.jx_meaning.specs.Values.{Value, truth, number, text, list, object, items, values, Entry, entries, find, equal}
use Rattle.jx_meaning.specs.Numbers.{Answer, in_range, arithmetic, ranged}
use Rattle.jx_meaning.specs.Lists.{limited}
use Rattle.jx_meaning.specs.Texts.{made, texts_of, join_texts, formatted, outside, filled}

-- ---- signs

-- a value behind a sign
abbrev pub signed : ℕ → Sign → Value → Answer
signed at sign.Minus (number z) = in_range at (neg_ℤ z)
signed at sign.Plus (number z) = Ok (number z)
signed at sign.Not (truth t) = Ok (truth (not t))
signed at s v = Err (WrongKind at)

-- ---- operators

-- numbers by their size, texts by their bytes; other values have no order
abbrev pub compared : Value → Value → Option Ordering
compared (number a) (number b) = Some (int_cmp a b)
compared (text a) (text b) = Some (slice_cmp nat_cmp a b)
compared a b = None

-- whether an order that was found is so; no order is a fault
abbrev pub in_order : (Ordering → Bool) → ℕ → Option Ordering → Answer
in_order holds at None = Err (WrongKind at)
in_order holds at (Some o) = Ok (truth (holds o))

-- the sum of two numbers, or two texts or lists one behind the other
abbrev pub added : ℕ → Value → Value → Answer
added at (number a) (number b) = arithmetic op.Add at a b
added at (text a) (text b) = limited at (text (a ++ b))
added at (list a) (list b) = limited at (list (values (items a ++ items b)))
added at a b = Err (WrongKind at)

-- two numbers under an operator
abbrev pub calculated : Operator → ℕ → Value → Value → Answer
calculated o at (number a) (number b) = arithmetic o at a b
calculated o at a b = Err (WrongKind at)

-- an operator that takes both its operands
unfoldable pub operated : Operator → ℕ → Value → Value → Answer
operated op.Equal at a b = Ok (truth (equal a b))
operated op.Unequal at a b = Ok (truth (not (equal a b)))
operated op.Less at a b = in_order is_lt at (compared a b)
operated op.AtMost at a b = in_order is_le at (compared a b)
operated op.More at a b = in_order is_gt at (compared a b)
operated op.AtLeast at a b = in_order is_ge at (compared a b)
operated op.Add at a b = added at a b
operated o at a b = calculated o at a b

-- ---- functions

-- `range` of one, two or three numbers
abbrev pub range_of : ℕ → List Value → Answer
range_of at (number b ∷ []) = ranged at (pos 0) b (pos 1)
range_of at (number a ∷ number b ∷ []) = ranged at a b (pos 1)
range_of at (number a ∷ number b ∷ number s ∷ []) = ranged at a b s
range_of at [] = Err (ArgCount at)
range_of at (a ∷ b ∷ c ∷ d ∷ more) = Err (ArgCount at)
range_of at vs = Err (WrongKind at)

-- `join` of a list, with a blank or another text between its texts
abbrev pub join_of : ℕ → List Value → Answer
join_of at (list vs ∷ []) = join_texts at (32 ∷ []) (texts_of (items vs))
join_of at (list vs ∷ text sep ∷ []) = join_texts at sep (texts_of (items vs))
join_of at (a ∷ []) = Err (WrongKind at)
join_of at (a ∷ b ∷ []) = Err (WrongKind at)
join_of at vs = Err (ArgCount at)

-- `format` of a text and values
abbrev pub format_of : ℕ → List Value → Answer
format_of at (text t ∷ vs) = made at (formatted false at t vs)
format_of at (v ∷ vs) = Err (WrongKind at)
format_of at [] = Err (ArgCount at)

-- a value, or another where there is none
abbrev pub or_other : Option Value → Option Value → Option Value
or_other (Some v) other = Some v
or_other None other = other

-- `template` of a text, by the names in scope and perhaps by an object before them
abbrev pub template_of : ℕ → List Entry → List Value → Answer
template_of at scope (text t ∷ []) = made at (filled at (λ x. find x scope) outside t)
template_of at scope (text t ∷ object ps ∷ []) = made at (filled at (λ x. or_other (find x (entries ps)) (find x scope)) outside t)
template_of at scope (a ∷ []) = Err (WrongKind at)
template_of at scope (a ∷ b ∷ []) = Err (WrongKind at)
template_of at scope vs = Err (ArgCount at)

-- `len` of a list or a text
abbrev pub len_of : ℕ → List Value → Answer
len_of at (list vs ∷ []) = Ok (number (pos (length (items vs))))
len_of at (text t ∷ []) = Ok (number (pos (length (chars t))))
len_of at (v ∷ []) = Err (WrongKind at)
len_of at vs = Err (ArgCount at)

-- a function of these arguments, where the names have these values
unfoldable pub applied : Option Function → ℕ → List Entry → List Value → Answer
applied None at scope vs = Err (UnknownName at)
applied (Some function.Range) at scope vs = range_of at vs
applied (Some function.Join) at scope vs = join_of at vs
applied (Some function.Format) at scope vs = format_of at vs
applied (Some function.Template) at scope vs = template_of at scope vs
applied (Some function.Len) at scope vs = len_of at vs
