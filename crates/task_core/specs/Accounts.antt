-- What a table keeps step by step: the counts of what takes its files in, and the account of its storage.
use Rattle.std.specs.Prelude.{◌≡◌, ℕ, ◌+◌, ◌==◌, ◌&&◌, Bool, true, false, List, length, Option, is_some, slice_index_or, sum_by, if◌then◌else◌}
use Rattle.std.specs.Option.{option_map_or}
use Rattle.flow_types.specs.declared.plan.Plan.{Plan}
use Rattle.flow_types.specs.Plans.{contains_number, made_files, maker_of}
use Rattle.run_history.specs.declared.states.FileState.{FileState}
use Rattle.run_history.specs.declared.states.FileState.TheVariants as file
use Rattle.run_history.specs.declared.states.RuleState.{RuleState}
use Rattle.run_history.specs.States.{Place}
use Rattle.run_history.specs.Storage.{is_running_state, size_in}
use Rattle.ready_rules.specs.Lines.{without}
use Rattle.running_rules.specs.Tasks.{Tasks, tasks_on}
use Rattle.gc_refcount.specs.Counting.{Counting, is_made, is_present}
use Rattle.storage_limit.specs.Holdings.{Holdings}
use Rattle.task_core.specs.declared.rows.RuleRow.{RuleRow}
use Rattle.rule_progress.specs.Progress.{IsProgress, Progressing, passing}
use Rattle.task_core.specs.Known.{Known, known_size, reserved_sum, stored_sum}
use Rattle.task_core.specs.States.{IsTable, TableState, blank_row, known_in}

-- the state of file f among these
abbrev pub state_in : List FileState → ℕ → FileState
state_in states f = slice_index_or states f file.Absent

-- the size of file f among these states, where it is present
abbrev pub size_of : List FileState → ℕ → Option ℕ
size_of states f = size_in (state_in states f)

-- the bytes of file f among these states, none where it isn't present
abbrev pub bytes_in : List FileState → ℕ → ℕ
bytes_in states f = option_map_or (λ size. size) (size_of states f) 0

-- the bytes of the made files that are present among these states
abbrev pub stored_in : Plan → List FileState → ℕ
stored_in P states = sum_by (bytes_in states) (made_files P)

-- what the storage holds, as a table knows it
abbrev pub holdings_of : Known → Holdings
holdings_of K = record { limit = K.limit; stored = stored_sum K; reserved = reserved_sum K }

-- The counts say which rules are done and which of the files that rules make are present.
pub record AreMirrored (C : Counting) (P : Plan) (rows : List RuleRow) (states : List FileState) : Type 0 where
  pub plan : C.plan ≡ P
  pub rules : length C.made ≡ length P.rules
  pub files : length C.present ≡ length P.files
  pub done : (r : ℕ) → is_made C r ≡ (slice_index_or rows r blank_row).done
  pub present : (f : ℕ) → is_some (maker_of P f) ≡ true → is_present C f ≡ is_some (size_of states f)

-- What holds of every table with the counts and the account that it keeps.
abbrev pub IsKept : TableState → Counting → Holdings → Type 0
IsKept t C A = IsTable t × AreMirrored C t.plan t.rules t.files × (A ≡ holdings_of (known_in t))

-- What the rules do, as a table knows it.
abbrev pub IsProgressOf : Known → Progressing → Type 0
IsProgressOf K V = IsProgress K.plan K.options K.rules (known_size K) V

-- rule r runs on link k, by the states and the places of rules
abbrev pub runs_there : (ℕ → RuleState) → (ℕ → Option Place) → ℕ → ℕ → Bool
runs_there states seats k r = is_running_state (states r) && option_map_or (λ place. place.1.0 == k) (seats r) false

-- The rules that run on each link are as the states and the places of rules say, and there is room for all.
pub record AreTasksOf (P : Plan) (states : ℕ → RuleState) (seats : ℕ → Option Place) (T : Tasks) : Type 0 where
  pub tasks : (k : ℕ) → tasks_on T k ≡ passing P (runs_there states seats k)
  pub count : length T.rules ≡ length (passing P (λ r. is_running_state (states r)))
  pub room : T.places ≡ length P.rules

-- Which rules run on which link, as a table knows it.
abbrev pub IsTasksOf : Known → Tasks → Type 0
IsTasksOf K T = AreTasksOf K.plan K.rules K.places T

-- the rule stands among those of the link of its place, where it has one
abbrev pub HasTask : Tasks → Option Place → ℕ → Type 0
HasTask T place r = option_map_or (λ p. contains_number r (tasks_on T p.1.0)) place true ≡ true

-- the tasks without a rule, which had this place
pub record HasLetGo (before : Tasks) (place : Option Place) (r : ℕ) (after : Tasks) : Type 0 where
  pub tasks : (k : ℕ) → tasks_on after k ≡ (if option_map_or (λ p. p.1.0 == k) place false then without r (tasks_on before k) else tasks_on before k)
  pub count : length after.rules + (if is_some place then 1 else 0) ≡ length before.rules
  pub room : after.places ≡ before.places

-- What holds of every table with all that it keeps.
abbrev pub IsHeld : TableState → Counting → Holdings → Progressing → Tasks → Type 0
IsHeld t C A V T = IsTable t × AreMirrored C t.plan t.rules t.files × (A ≡ holdings_of (known_in t)) × IsProgressOf (known_in t) V × IsTasksOf (known_in t) T
