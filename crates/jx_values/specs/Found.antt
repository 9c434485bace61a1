-- Numbers that were worked out, and orders that were found.
use Rattle.std.specs.Prelude.{ℕ, Option, Some, None, Ok, Err, ℤ}
use Rattle.jx_meaning.specs.declared.fault.EvalFault.TheVariants.{Overflow}
use Rattle.jx_meaning.specs.Values.{number}
use Rattle.jx_meaning.specs.Numbers.{Answer}

-- the number, where it has 64 bits
abbrev pub number_of : ℕ → Option ℤ → Answer
number_of at None = Err (Overflow at)
number_of at (Some z) = Ok (number z)
