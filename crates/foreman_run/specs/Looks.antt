-- What a look at a link came to.
use Rattle.std.specs.Prelude.{Bool, true, false}
use Rattle.foreman_run.specs.declared.look.Look.{Look}
use Rattle.foreman_run.specs.declared.look.Look.TheVariants.{Nothing, Bytes, Message, Over}

-- the work is over
abbrev pub is_over : Look → Bool
is_over Nothing = false
is_over Bytes = false
is_over Message = false
is_over Over = true
