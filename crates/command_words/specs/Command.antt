-- The command of `makeflow`, as the parser of command lines sees it.
use Rattle.std.specs.Prelude.{Bool, ◌&&◌, Some, codes, slice_get}
use Rattle.std.specs.List.{list_all}
use Rattle.clap.specs.Walk.{Rule, Text, is_empty}
use Rattle.clap.specs.Simple.{App, built, new_app, new_rule, with_rule}
use Rattle.clap.specs.Takes.{default_passes}
use Rattle.clap.specs.Faults.{is_simple_and_free}
use Rattle.clap.specs.declared.builder.action.ArgAction.TheVariants.{SetTrue}

-- `-x VALUE`
abbrev pub letter_option : Text → Rule
letter_option name = record (new_rule name) { short = slice_get name 0 }

-- `--name VALUE`
abbrev pub long_option : Text → Rule
long_option name = record (new_rule name) { long = Some name }

-- `-x`
abbrev pub letter_flag : Text → Rule
letter_flag name = record (new_rule name) { short = slice_get name 0; action = Some SetTrue }

-- `--name`
abbrev pub long_flag : Text → Rule
long_flag name = record (new_rule name) { long = Some name; action = Some SetTrue }

-- a word by its place behind the program's name, as FILE
abbrev pub place : Text → Rule
place name = new_rule name

infixl 10 ◌with◌
-- the command with one more argument
abbrev pub ◌with◌ : App → Rule → App
app with rule = with_rule app rule

-- a command with no subcommand and none of the parser's special settings, of which the parser says exactly which words it takes
unfoldable pub is_plain : App → Bool
is_plain app = is_simple_and_free app && (is_empty (built app).subs && list_all default_passes (built app).top.rules)

-- with the options of the run
unfoldable pub run_options : App → App
run_options app = app
    with letter_option (codes "T")
    with letter_option (codes "p")
    with letter_option (codes "j")
    with letter_option (codes "r")
    with letter_option (codes "g")
    with letter_option (codes "l")

-- with the options of amounts and limits
unfoldable pub amount_options : App → App
amount_options app = app
    with long_option (codes "storage-limit")
    with long_option (codes "idle-limit")
    with long_option (codes "local-cores")
    with long_option (codes "local-memory")
    with long_option (codes "local-disk")

-- with what the call does, and with what
unfoldable pub work_options : App → App
work_options app = app
    with long_option (codes "generate")
    with letter_flag (codes "c")
    with long_flag (codes "jx")
    with long_flag (codes "print-log")
    with place (codes "file")

-- `makeflow [options] FILE`
unfoldable pub command : App
command = work_options (amount_options (run_options (new_app (codes "makeflow"))))
