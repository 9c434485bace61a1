-- Which words are a command line of `makeflow_show`, and what they choose.
use Rattle.std.specs.Prelude.{ℕ, Bool, true, false, List, Option, Some, None, option_map, codes, if◌then◌else◌}
use Rattle.std.specs.Option.{option_map_or}
use Rattle.clap.specs.Walk.{Row, Text, first_of}
use Rattle.clap.specs.Simple.{App, matches_of, new_app}
use Rattle.clap.specs.Takes.{takes}
use Rattle.flow_types.specs.Names.{name_of}
use Rattle.command_words.specs.Choices.{◌>>=◌, language_in}
use Rattle.command_words.specs.Command.{long_flag, place, ◌with◌}
use Rattle.command_words.specs.Numbers.{number_in}
use Rattle.command_words.specs.Values.{flag}
use Rattle.show_words.specs.declared.options.Options.{Options}
use Rattle.show_words.specs.declared.options.Part.{Part}
use Rattle.show_words.specs.declared.options.Part.TheVariants as parts

-- `makeflow_show [--jx] [--files | --dot] FLOW [N]`
unfoldable pub command : App
command = new_app (codes "makeflow_show")
    with long_flag (codes "jx")
    with long_flag (codes "files")
    with long_flag (codes "dot")
    with place (codes "flow")
    with place (codes "rule")

-- the rule of this number
abbrev pub rule_of : ℕ → Part
rule_of number = parts.Rule (record { 0 = number })

-- the rule that N names, or all where there is no N
unfoldable pub rules_named : Option Text → Option Part
rules_named n = option_map_or (λ text. option_map rule_of (number_in 0 4294967295 text)) n (Some parts.Rules)

-- `--files`, `--dot` or N, of which at most one is given
unfoldable pub part_of : Bool → Bool → Option Text → Option Part
part_of false false n = rules_named n
part_of true false None = Some parts.Files
part_of false true None = Some parts.Graph
part_of _ _ _ = None

-- what is shown
unfoldable pub part_in : List Row → Option Part
part_in rows = part_of (flag rows (codes "files")) (flag rows (codes "dot")) (first_of (codes "rule") rows)

-- what the arguments choose; FLOW must be there
unfoldable pub options_in : List Row → Option Options
options_in rows = do
  part ← part_in rows
  text ← first_of (codes "flow") rows
  flow ← name_of text
  Some (record { flow = flow; language = language_in rows; part = part })

-- what a command line chooses
unfoldable pub options_of : List Text → Option Options
options_of words = if takes command words then options_in (matches_of command words) else None
