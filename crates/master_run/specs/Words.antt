-- What the words of a command line choose.
use Rattle.std.specs.Prelude.{ℕ, Bool, true, false, List, Result, Ok, Err, ok_or, codes}
use Rattle.command_words.specs.declared.options.Options.{Options}
use Rattle.command_words.specs.declared.options.Flow.{Flow}
use Rattle.command_words.specs.declared.options.Flow.TheVariants.{File, Generated}
use Rattle.command_words.specs.Choices.{options_of}
use Rattle.report.specs.declared.cause.Cause.{Cause}
use Rattle.report.specs.declared.cause.Cause.TheVariants.{Usage}

-- one stage after another
abbrev pub and_then : {T U : Type 0} → Result T Cause → (T → Result U Cause) → Result U Cause
and_then (Ok value) next = next value
and_then (Err cause) next = Err cause

-- what the words choose, where they are a command line
abbrev pub chosen : List (List ℕ) → Result Options Cause
chosen words = ok_or (options_of words) Usage

-- the name by which one speaks of a flow that is made up
abbrev pub generated_name : List ℕ
generated_name = codes "generated"

-- the name of the flow
abbrev pub flow_name : Flow → List ℕ
flow_name (File name language) = name
flow_name (Generated rules) = generated_name

-- the flow is made up
abbrev pub is_generated : Flow → Bool
is_generated (File name language) = false
is_generated (Generated rules) = true

-- the words make the flow up
abbrev pub makes_up : Result Options Cause → Bool
makes_up (Ok options) = is_generated options.flow
makes_up (Err cause) = false
