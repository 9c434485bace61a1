-- Which words are a command line of `work_queue_worker` or `work_queue_foreman`, and what they choose.
use Rattle.std.specs.Prelude.{ℕ, List, Option, Some, option_and_then, codes}
use Rattle.clap.specs.Walk.{Row, Text, first_of}
use Rattle.clap.specs.Simple.{App, new_app}
use Rattle.flow_types.specs.declared.numbers.Amounts.{Amounts}
use Rattle.command_words.specs.Choices.{◌>>=◌, chosen_by}
use Rattle.command_words.specs.Command.{letter_option, long_option, place, ◌with◌}
use Rattle.command_words.specs.Numbers.{number_in}
use Rattle.command_words.specs.Values.{number}
use Rattle.command_words.specs.declared.options.WorkerOptions.{WorkerOptions}
use Rattle.command_words.specs.declared.options.ForemanOptions.{ForemanOptions}

-- `work_queue_worker [options] HOST PORT`
unfoldable pub worker_command : App
worker_command = new_app (codes "work_queue_worker")
    with long_option (codes "cores")
    with long_option (codes "memory")
    with long_option (codes "disk")
    with long_option (codes "cache")
    with place (codes "host")
    with place (codes "port")

-- `work_queue_foreman [options] HOST PORT`
unfoldable pub foreman_command : App
foreman_command = new_app (codes "work_queue_foreman")
    with letter_option (codes "p")
    with long_option (codes "cache")
    with place (codes "host")
    with place (codes "port")

-- PORT, which must be there
unfoldable pub port_in : List Row → Option ℕ
port_in rows = option_and_then (number_in 1 65535) (first_of (codes "port") rows)

-- `--cores`, `--memory` and `--disk`, each number with its least and most value and its default
unfoldable pub peer_amounts_in : List Row → Option Amounts
peer_amounts_in rows = do
  cores ← number rows (codes "cores") 0 1000000000 4
  memory ← number rows (codes "memory") 0 1000000000 4096
  disk ← number rows (codes "disk") 0 1000000000 16384
  Some (record { cores = cores; memory = memory; disk = disk })

-- what the arguments of a worker choose; HOST must be there
unfoldable pub worker_options_in : List Row → Option WorkerOptions
worker_options_in rows = do
  total ← peer_amounts_in rows
  cache ← number rows (codes "cache") 0 1000000 4096
  host ← first_of (codes "host") rows
  port ← port_in rows
  Some (record { total = total; cache = cache; host = host; port = port })

-- what the arguments of a foreman choose; HOST must be there
unfoldable pub foreman_options_in : List Row → Option ForemanOptions
foreman_options_in rows = do
  listening ← number rows (codes "p") 1 65535 9123
  cache ← number rows (codes "cache") 0 1000000 4096
  host ← first_of (codes "host") rows
  port ← port_in rows
  Some (record { listening = listening; cache = cache; host = host; port = port })

-- what the words choose, none where they are no command line of the worker
unfoldable pub worker_options_of : List Text → Option WorkerOptions
worker_options_of words = chosen_by worker_command worker_options_in words

-- what the words choose, none where they are no command line of the foreman
unfoldable pub foreman_options_of : List Text → Option ForemanOptions
foreman_options_of words = chosen_by foreman_command foreman_options_in words
