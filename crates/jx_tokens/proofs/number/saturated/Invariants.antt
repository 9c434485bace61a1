use Rattle.std.proofs.Common.{◌≡◌, ◌-◌, ◌^◌, take, min}
use Rattle.jx_tokens.specs.Tokens.{decimal_value}
use Rattle.jx_tokens.proofs.number.saturated.Given as goal

abbrev pub invariant-loop-digit : goal.invariant-loop-digit
invariant-loop-digit l = l.value ≡ min (decimal_value (take l.digit-index l.digits)) (2 ^ 64 - 1)
