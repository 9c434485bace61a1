-- Worked command lines.
use Rattle.std.specs.Prelude.{◌≡◌, ℕ, Bool, false, List, [], ◌∷◌, Option, None, Some, option_map, codes, is_some}
use Rattle.clap.specs.Walk.{Text}
use Rattle.command_words.specs.Choices.{options_of}
use Rattle.command_words.specs.Peers.{foreman_options_of, worker_options_of}
use Rattle.command_words.specs.declared.options.Transport.{Transport}
use Rattle.command_words.specs.declared.options.Transport.TheVariants.{Local, WorkQueue}

-- a command line of `makeflow` with these words behind the program's name
abbrev makeflow : List Text → List Text
makeflow words = codes "makeflow" ∷ words

-- whether the words behind the program's name make a command line of `makeflow`
abbrev is_command_line : List Text → Bool
is_command_line words = is_some (options_of (makeflow words))

-- how many jobs run at once
abbrev jobs : List Text → Option ℕ
jobs words = option_map (λ o. o.service.jobs) (options_of (makeflow words))

-- the log's name
abbrev log : List Text → Option Text
log words = option_map (λ o. o.log) (options_of (makeflow words))

-- where jobs run, and the port at which workers are met
abbrev service : List Text → Option (Transport × ℕ)
service words = option_map (λ o. (o.service.transport, o.service.port)) (options_of (makeflow words))

-- how often the wait for workers may end with nothing heard
abbrev idle_limit : List Text → Option ℕ
idle_limit words = option_map (λ o. o.limits.idle) (options_of (makeflow words))

-- the worker's cache
abbrev worker_cache : List Text → Option ℕ
worker_cache words = option_map (λ o. o.cache) (worker_options_of (codes "work_queue_worker" ∷ words))

-- the port at which a foreman meets its workers
abbrev listening : List Text → Option ℕ
listening words = option_map (λ o. o.listening) (foreman_options_of (codes "work_queue_foreman" ∷ words))

-- words that are a command line: values behind blanks, right behind the letter, behind `=`, in a bundle of letters, and words behind `--`
abbrev pub CommandLines : Type 0
CommandLines =
    (jobs (codes "flow" ∷ []) ≡ Some 4)
    × (jobs (codes "-j" ∷ codes "16" ∷ codes "flow" ∷ []) ≡ Some 16)
    × (jobs (codes "-j3" ∷ codes "flow" ∷ []) ≡ Some 3)
    × (jobs (codes "flow" ∷ codes "-cj=2" ∷ []) ≡ Some 2)
    × (log (codes "./a//flow" ∷ []) ≡ Some (codes "a/flow.makeflowlog"))
    × (log (codes "-l=-x" ∷ codes "--" ∷ codes "-flow" ∷ []) ≡ Some (codes "-x"))
    × (log (codes "--generate=3" ∷ []) ≡ Some (codes "generated.makeflowlog"))
    × (service (codes "flow" ∷ []) ≡ Some (Local, 9123))
    × (service (codes "-T" ∷ codes "wq" ∷ codes "-p19123" ∷ codes "flow" ∷ []) ≡ Some (WorkQueue, 19123))
    × (idle_limit (codes "-T" ∷ codes "wq" ∷ codes "--idle-limit" ∷ codes "3" ∷ codes "flow" ∷ []) ≡ Some 3)

-- words that are none
abbrev pub NoCommandLines : Type 0
NoCommandLines =
    (options_of [] ≡ None)
    × (is_command_line [] ≡ false)
    × (is_command_line (codes "-j" ∷ codes "17" ∷ codes "flow" ∷ []) ≡ false)
    × (is_command_line (codes "-j" ∷ codes "04" ∷ codes "flow" ∷ []) ≡ false)
    × (is_command_line (codes "-j" ∷ codes "1" ∷ codes "-j" ∷ codes "1" ∷ codes "flow" ∷ []) ≡ false)
    × (is_command_line (codes "-T" ∷ codes "condor" ∷ codes "flow" ∷ []) ≡ false)
    × (is_command_line (codes "--generate" ∷ codes "3" ∷ codes "flow" ∷ []) ≡ false)
    × (is_command_line (codes "-c" ∷ codes "--print-log" ∷ codes "flow" ∷ []) ≡ false)
    × (is_command_line (codes "--help" ∷ []) ≡ false)

-- command lines of the worker and the foreman
abbrev pub PeerCommandLines : Type 0
PeerCommandLines =
    (worker_options_of [] ≡ None)
    × (foreman_options_of [] ≡ None)
    × (worker_cache (codes "host" ∷ codes "9123" ∷ []) ≡ Some 4096)
    × (worker_cache (codes "--cache=0" ∷ codes "host" ∷ codes "1" ∷ []) ≡ Some 0)
    × (worker_cache (codes "host" ∷ []) ≡ None)
    × (worker_cache (codes "host" ∷ codes "0" ∷ []) ≡ None)
    × (listening (codes "host" ∷ codes "9123" ∷ []) ≡ Some 9123)
    × (listening (codes "-p1" ∷ codes "host" ∷ codes "9123" ∷ []) ≡ Some 1)
