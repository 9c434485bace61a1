-- Which words are a command line of `makeflow`, and what they choose.
use Rattle.std.specs.Prelude.{ℕ, ◌^◌, List, ◌++◌, length, nat_le, Option, Some, None, option_map, option_and_then, codes, if◌then◌else◌}
use Rattle.std.specs.Option.{option_map_or}
use Rattle.std.specs.Str.{bytes_eq}
use Rattle.clap.specs.Walk.{Row, Text, first_of}
use Rattle.clap.specs.Simple.{App, matches_of}
use Rattle.clap.specs.Takes.{takes}
use Rattle.flow_types.specs.Names.{most_name_bytes, name_of}
use Rattle.flow_types.specs.declared.numbers.Amounts.{Amounts}
use Rattle.command_words.specs.Command.{command}
use Rattle.command_words.specs.Values.{number, optional_number, flag}
use Rattle.command_words.specs.declared.options.Transport.{Transport}
use Rattle.command_words.specs.declared.options.Transport.TheVariants.{Local, WorkQueue}
use Rattle.command_words.specs.declared.options.Mode.{Mode}
use Rattle.command_words.specs.declared.options.Mode.TheVariants.{Never, RefCount, OnDemand}
use Rattle.command_words.specs.declared.options.Work.{Work}
use Rattle.command_words.specs.declared.options.Work.TheVariants.{Run, Clean, PrintLog}
use Rattle.command_words.specs.declared.options.Language.{Language}
use Rattle.command_words.specs.declared.options.Language.TheVariants.{Make, Jx}
use Rattle.command_words.specs.declared.options.Flow.{Flow}
use Rattle.command_words.specs.declared.options.Flow.TheVariants.{File, Generated}
use Rattle.command_words.specs.declared.options.Service.{Service}
use Rattle.command_words.specs.declared.options.Limits.{Limits}
use Rattle.command_words.specs.declared.options.Options.{Options}

infixl 10 ◌>>=◌
-- the next choice, where there is this one
abbrev pub ◌>>=◌ : {A B : Type 0} → Option A → (A → Option B) → Option B
o >>= f = option_and_then f o

-- the values of `-T`
unfoldable pub transport_named : Text → Option Transport
transport_named text =
    if bytes_eq (codes "local") text then Some Local
    else (if bytes_eq (codes "wq") text then Some WorkQueue else None)

-- the values of `-g`
unfoldable pub mode_named : Text → Option Mode
mode_named text =
    if bytes_eq (codes "none") text then Some Never
    else (if bytes_eq (codes "ref_cnt") text then Some RefCount
    else (if bytes_eq (codes "on_demand") text then Some OnDemand else None))

-- `-T`, `local` by default
unfoldable pub transport_in : List Row → Option Transport
transport_in rows = option_map_or transport_named (first_of (codes "T") rows) (Some Local)

-- `-g`, `none` by default
unfoldable pub mode_in : List Row → Option Mode
mode_in rows = option_map_or mode_named (first_of (codes "g") rows) (Some Never)

-- `-T`, `-p` and `-j`, each number with its least and most value and its default
unfoldable pub service_in : List Row → Option Service
service_in rows = do
  transport ← transport_in rows
  port ← number rows (codes "p") 1 65535 9123
  jobs ← number rows (codes "j") 1 16 4
  Some (record { transport = transport; port = port; jobs = jobs })

-- `-r`, `--storage-limit` and `--idle-limit`
unfoldable pub limits_in : List Row → Option Limits
limits_in rows = do
  retries ← number rows (codes "r") 0 1000 0
  storage ← optional_number rows (codes "storage-limit") 0 (2 ^ 60)
  idle ← number rows (codes "idle-limit") 1 1000000000 1000000000
  Some (record { retries = retries; storage = storage; idle = idle })

-- `--local-cores`, `--local-memory` and `--local-disk`
unfoldable pub local_amounts_in : List Row → Option Amounts
local_amounts_in rows = do
  cores ← number rows (codes "local-cores") 0 1000000000 64
  memory ← number rows (codes "local-memory") 0 1000000000 1000000
  disk ← number rows (codes "local-disk") 0 1000000000 1000000000
  Some (record { cores = cores; memory = memory; disk = disk })

-- not both `-c` and `--print-log`
unfoldable pub work_in : List Row → Option Work
work_in rows =
    if flag rows (codes "c") then (if flag rows (codes "print-log") then None else Some Clean)
    else (if flag rows (codes "print-log") then Some PrintLog else Some Run)

-- `--jx`
unfoldable pub language_in : List Row → Language
language_in rows = if flag rows (codes "jx") then Jx else Make

-- exactly one of FILE, which is a name, and `--generate`, and not `--jx` with `--generate`
abbrev pub flow_from : Option Text → Option ℕ → Language → Option Flow
flow_from None None language = None
flow_from None (Some rules) Jx = None
flow_from None (Some rules) Make = Some (Generated rules)
flow_from (Some text) None language = option_map (λ name. File name language) (name_of text)
flow_from (Some text) (Some rules) language = None

-- FILE, `--generate` and `--jx`
unfoldable pub flow_in : List Row → Option Flow
flow_in rows = do
  rules ← optional_number rows (codes "generate") 1 5000
  flow_from (first_of (codes "file") rows) rules (language_in rows)

-- a name, where it isn't longer than names may be
abbrev pub within_room : Text → Option Text
within_room name = if nat_le (length name) most_name_bytes then Some name else None

-- the log's name where none is given; none where FILE leaves no room for it
abbrev pub default_log : Flow → Option Text
default_log (File name language) = within_room (name ++ codes ".makeflowlog")
default_log (Generated rules) = Some (codes "generated.makeflowlog")

-- `-l`, a name, or else the default
unfoldable pub log_in : List Row → Flow → Option Text
log_in rows flow = option_map_or name_of (first_of (codes "l") rows) (default_log flow)

-- what the arguments choose, none where a value or a pair of options is wrong
unfoldable pub options_in : List Row → Option Options
options_in rows = do
  service ← service_in rows
  limits ← limits_in rows
  local ← local_amounts_in rows
  mode ← mode_in rows
  work ← work_in rows
  flow ← flow_in rows
  log ← log_in rows flow
  Some (record {
    service = service;
    limits = limits;
    local = local;
    mode = mode;
    work = work;
    flow = flow;
    log = log;
  })

-- what the words choose by this command, none where they are no command line of it
unfoldable pub chosen_by : {A : Type 0} → App → (List Row → Option A) → List Text → Option A
chosen_by app choose words = if takes app words then choose (matches_of app words) else None

-- what the words choose, none where they are no command line; the first word is the program's name
unfoldable pub options_of : List Text → Option Options
options_of words = chosen_by command options_in words
