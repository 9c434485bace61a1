-- The ends of slices.
use Rattle.std.specs.Prelude.{ℕ, Option, Some, None, Result, Ok, Err, ℤ}
use Rattle.jx_meaning.specs.declared.fault.EvalFault.{EvalFault}
use Rattle.jx_meaning.specs.declared.fault.EvalFault.TheVariants.{WrongKind}
use Rattle.jx_meaning.specs.Values.{Value, number}

-- an end that is a number, where it is given
abbrev pub number_end : ℕ → Option Value → Result (Option ℤ) EvalFault
number_end at None = Ok None
number_end at (Some (number z)) = Ok (Some z)
number_end at (Some v) = Err (WrongKind at)
