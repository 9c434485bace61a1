-- Worked courses of runs: the chain of three copies, three cuts of one source, two rules without inputs, a rule with large inputs, and one rule alone.
use Rattle.std.specs.Prelude.{ℕ, true, false, List, [], ◌∷◌, ◌++◌, replicate, codes, Option, Some, None, map, pos}
use Rattle.std.specs.List.{range_with_len}
use Rattle.flow_types.specs.declared.plan.Plan.{Plan}
use Rattle.flow_types.specs.declared.plan.Rule.{Rule}
use Rattle.flow_types.specs.declared.plan.Port.{Port}
use Rattle.flow_types.specs.declared.numbers.Amounts.{Amounts}
use Rattle.flow_types.specs.declared.numbers.Needs.{Needs}
use Rattle.flow_types.specs.declared.numbers.Needs.TheVariants.{Stated}
use Rattle.flow_types.specs.declared.numbers.Content.{Content}
use Rattle.flow_types.specs.declared.job.Failure.TheVariants as failures
use Rattle.flow_types.specs.declared.records.Record.{Record}
use Rattle.flow_types.specs.declared.records.Record.TheVariants as records
use Rattle.flow_types.specs.declared.records.EndKind.{EndKind}
use Rattle.flow_types.specs.declared.records.EndKind.TheVariants as kinds
use Rattle.flow_types.specs.Examples.{copy_rule, port, source_row, made_row}
use Rattle.run_history.specs.declared.options.Mode.{Mode}
use Rattle.run_history.specs.declared.options.Mode.TheVariants as modes
use Rattle.run_history.specs.declared.options.Options.{Options}
use Rattle.run_history.specs.declared.moves.Move.{Move}
use Rattle.run_history.specs.declared.moves.Move.TheVariants as moves
use Rattle.run_history.specs.Links.{Load, LinkRow}

-- some digest of a plan
abbrev pub digest : List ℕ
digest = replicate 32 9

-- a content of so many bytes
abbrev pub sized : ℕ → Content
sized n = record { size = n; digest = record { 0 = replicate 32 7 } }

-- the first run, with so many retries and this limit, over one source of 40 bytes
abbrev pub opened : ℕ → Option ℕ → Record
opened retries limit = records.Opened 0 0 retries limit (record { 0 = digest }) (sized 40 ∷ [])

-- run n goes on
abbrev pub resumed : ℕ → ℕ → Option ℕ → Record
resumed n retries limit = records.Resumed 7 n retries limit

-- rule r starts as attempt a on link k
abbrev pub started_on : ℕ → ℕ → ℕ → Record
started_on k r a = records.Started 0 (record { 0 = r }) (record { 0 = a }) (record { 0 = k })

-- rule r starts as attempt a on the local place
abbrev pub started : ℕ → ℕ → Record
started r a = started_on 0 r a

-- attempt a of rule r made 40 bytes
abbrev pub done : ℕ → ℕ → Record
done r a = records.Done 0 (record { 0 = r }) (record { 0 = a }) (sized 40 ∷ [])

-- attempt a of rule r ended with status 3
abbrev pub failed : ℕ → ℕ → Record
failed r a = records.Failed 0 (record { 0 = r }) (record { 0 = a }) (failures.Status (pos 3))

-- attempt a of rule r is lost
abbrev pub lost : ℕ → ℕ → Record
lost r a = records.Lost 0 (record { 0 = r }) (record { 0 = a })

-- file f is dropped
abbrev pub dropped : ℕ → Record
dropped f = records.Dropped 0 (record { 0 = f })

-- the run ended so
abbrev pub ended : EndKind → Record
ended kind = records.Ended 0 kind

-- a local run with this mode and 64 cores
abbrev pub local_run : Mode → Options
local_run mode = record { mode = mode; limit = Some 100; retries = 0; wq = false; local = record { cores = 64; memory = 1000000; disk = 1000000000 } }

-- a run on workers
abbrev pub worker_run : Options
worker_run = record { mode = modes.Never; limit = None; retries = 0; wq = true; local = record { cores = 64; memory = 1000000; disk = 1000000000 } }

-- records as moves
abbrev pub moves_of : List Record → List Move
moves_of H = map moves.Logged H

-- The chain under a limit of 100 bytes, 40 for each file, collected as soon as nothing needs it.
abbrev pub collected_course : List Record
collected_course =
    opened 0 (Some 100) ∷ started 0 0 ∷ done 0 0 ∷ started 1 1 ∷ done 1 1 ∷ dropped 0 ∷ started 2 2 ∷ done 2 2 ∷ dropped 1
    ∷ ended kinds.Complete ∷ []

-- The same on demand: the first file is dropped when the third has no room.
abbrev pub demanded_course : List Record
demanded_course =
    opened 0 (Some 100) ∷ started 0 0 ∷ done 0 0 ∷ started 1 1 ∷ done 1 1 ∷ dropped 0 ∷ started 2 2 ∷ done 2 2
    ∷ ended kinds.Complete ∷ []

-- Two files stay, and the third has no room.
abbrev pub full_course : List Record
full_course = opened 0 (Some 100) ∷ started 0 0 ∷ done 0 0 ∷ started 1 1 ∷ done 1 1 ∷ []

-- The run ends by that.
abbrev pub roomless_course : List Record
roomless_course = full_course ++ (ended kinds.NoRoom ∷ [])

-- The chain complete, nothing collected, under a limit of 200 bytes.
abbrev pub kept_course : List Record
kept_course = opened 0 (Some 200) ∷ started 0 0 ∷ done 0 0 ∷ started 1 1 ∷ done 1 1 ∷ started 2 2 ∷ done 2 2 ∷ ended kinds.Complete ∷ []

-- A run cut short while rule 1 ran, and gone on with.
abbrev pub resumed_course : List Record
resumed_course = opened 0 (Some 100) ∷ started 0 0 ∷ done 0 0 ∷ started 1 1 ∷ resumed 1 0 (Some 100) ∷ started 1 2 ∷ []

-- one rule that makes out of in
abbrev pub one_copy : Plan
one_copy = record {
  rules = copy_rule (codes "cat in > out") 0 (codes "in") 1 (codes "out") 67108864 ∷ [];
  files = source_row (codes "in") ∷ made_row (codes "out") 0 true 67108864 ∷ [];
}

-- Cut short before its Done was whole: the attempt is made again under the next number.
abbrev pub tried_again : List Record
tried_again = opened 0 None ∷ started 0 0 ∷ resumed 1 0 None ∷ started 0 1 ∷ done 0 1 ∷ ended kinds.Complete ∷ []

-- Cut short after its Done: only the end is left.
abbrev pub ended_again : List Record
ended_again = opened 0 None ∷ started 0 0 ∷ done 0 0 ∷ resumed 1 0 None ∷ ended kinds.Complete ∷ []

-- the first run of a later part, as run n
abbrev pub opened_later : ℕ → Record
opened_later n = records.Opened 9 n 0 None (record { 0 = digest }) (sized 40 ∷ [])

-- A run complete and cleaned, and the same flow run again.
abbrev pub cleaned_course : List Record
cleaned_course =
    opened 0 None ∷ started 0 0 ∷ done 0 0 ∷ ended kinds.Complete ∷ ended kinds.Cleaned ∷ opened_later 1 ∷ started 0 1 ∷ done 0 1
    ∷ ended kinds.Complete ∷ []

-- An earlier part of some other plan, whose starts are numbered so, and then a part of two rules without inputs.
abbrev pub after_other : ℕ → List Record
after_other a =
    opened 0 None ∷ started 7 0 ∷ failed 7 0 ∷ started 9 a ∷ dropped 12 ∷ ended kinds.Cleaned
    ∷ records.Opened 9 1 0 None (record { 0 = digest }) [] ∷ started 0 2 ∷ []

-- A command that fails with one retry.
abbrev pub failed_course : List Record
failed_course = opened 1 None ∷ started 0 0 ∷ failed 0 0 ∷ started 0 1 ∷ failed 0 1 ∷ ended kinds.CommandFailed ∷ []

-- The third rule of the chain fails with no retry, the run ends by that, and the first file is dropped.
abbrev pub dropped_later : List Record
dropped_later =
    opened 0 (Some 200) ∷ started 0 0 ∷ done 0 0 ∷ started 1 1 ∷ done 1 1 ∷ started 2 2 ∷ failed 2 2 ∷ ended kinds.CommandFailed ∷ dropped 0
    ∷ []

-- attempt a of rule r made contents of so many bytes
abbrev pub made : ℕ → ℕ → List ℕ → Record
made r a sizes = records.Done 0 (record { 0 = r }) (record { 0 = a }) (map sized sizes)

-- so many cores and nothing else
abbrev pub cores : ℕ → Needs
cores n = Stated (record { cores = n; memory = 0; disk = 0 })

-- a rule with these needs that takes in the source
abbrev pub cut : Needs → List ℕ → ℕ → Rule
cut needs name f = record (copy_rule (codes "cut") 0 (codes "in") f name 40) { needs = needs }

-- rules 0, 1 and 2 cut one source, with 3 cores, these needs, and 1 core
abbrev pub three_cuts : Needs → Plan
three_cuts second = record {
  rules = cut (cores 3) (codes "p0") 1 ∷ cut second (codes "p1") 2 ∷ cut (cores 1) (codes "p2") 3 ∷ [];
  files = source_row (codes "in") ∷ made_row (codes "p0") 0 true 40 ∷ made_row (codes "p1") 1 true 40 ∷ made_row (codes "p2") 2 true 40 ∷ [];
}

-- a worker of 4 cores and 4,096 megabytes
abbrev pub worker : Amounts
worker = record { cores = 4; memory = 4096; disk = 0 }

-- link k joins with such a worker and a cache of so many bytes
abbrev pub joined : ℕ → ℕ → Move
joined k cache = moves.Joined (record { 0 = k }) worker worker cache

-- link k leaves
abbrev pub left : ℕ → Move
left k = moves.Left (record { 0 = k })

-- a run on one worker, and then these records
abbrev pub on_worker : List Record → List Move
on_worker H = moves.Logged (opened 0 None) ∷ joined 1 1000 ∷ moves_of H

-- rule 0 starts there, and then rule 2
abbrev pub two_started : List Record
two_started = started_on 1 0 0 ∷ started_on 1 2 1 ∷ []

-- a rule that makes one file of 40 bytes of nothing
abbrev pub maker : List ℕ → ℕ → Rule
maker name f = record (copy_rule (codes "make") 0 (codes "in") f name 40) { inputs = [] }

-- two rules without inputs
abbrev pub two_makers : Plan
two_makers = record {
  rules = maker (codes "a") 0 ∷ maker (codes "b") 1 ∷ [];
  files = made_row (codes "a") 0 true 40 ∷ made_row (codes "b") 1 true 40 ∷ [];
}

-- two sources, each under its name
abbrev pub two_inputs : List Port
two_inputs = port 0 (codes "a") ∷ port 1 (codes "b") ∷ []

-- the second of them under another name too
abbrev pub three_inputs : List Port
three_inputs = port 0 (codes "a") ∷ port 1 (codes "b") ∷ port 1 (codes "again") ∷ []

-- one rule that takes these in
abbrev pub join_of : List Port → Plan
join_of inputs = record {
  rules = record (copy_rule (codes "join") 0 (codes "a") 2 (codes "out") 40) { inputs = inputs } ∷ [];
  files = source_row (codes "a") ∷ source_row (codes "b") ∷ made_row (codes "out") 0 true 40 ∷ [];
}

-- a run over two sources of 67,108,864 bytes each
abbrev pub large_run : List Record
large_run = records.Opened 0 0 0 None (record { 0 = digest }) (sized 67108864 ∷ sized 67108864 ∷ []) ∷ []

-- one rule that makes two files, each of which may have as many bytes as both together
abbrev pub two_halves : Plan
two_halves = record {
  rules = record (maker (codes "a") 0) { outputs = port 0 (codes "a") ∷ port 1 (codes "b") ∷ []; bound = 67108864 } ∷ [];
  files = made_row (codes "a") 0 true 67108864 ∷ made_row (codes "b") 0 true 67108864 ∷ [];
}

-- its attempt runs
abbrev pub halves_run : List Record
halves_run = records.Opened 0 0 0 None (record { 0 = digest }) [] ∷ started 0 0 ∷ []

-- an opening without sources, with a limit of 60 bytes
abbrev pub opened_narrow : Record
opened_narrow = records.Opened 0 0 0 (Some 60) (record { 0 = digest }) []

-- so many joins, numbered from 1
abbrev pub joins : ℕ → List Move
joins n = map (λ k. joined k 0) (range_with_len 1 n)

-- a link of 100 cores, in places of 2, with a cache of 100 bytes
abbrev pub wide_row : LinkRow
wide_row = record { total = record { cores = 100; memory = 0; disk = 0 }; largest = record { cores = 2; memory = 0; disk = 0 }; cache = Some 100 }

-- a load of so many cores and bytes
abbrev pub load : ℕ → ℕ → Load
load n bytes = record { needs = cores n; bytes = bytes }
