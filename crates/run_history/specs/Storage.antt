-- What is ready, stored, reserved, free and wanted after a history.
use Rattle.std.specs.Prelude.{ℕ, ◌+◌, Bool, true, false, not, ◌&&◌, List, Option, Some, None, nat_le, if◌then◌else◌, filter, find, slice_get, sum_by, is_some, count_by}
use Rattle.std.specs.List.{list_any, list_all}
use Rattle.std.specs.Option.{option_map_or}
use Rattle.flow_types.specs.declared.plan.Plan.{Plan}
use Rattle.flow_types.specs.declared.records.Record.{Record}
use Rattle.run_history.specs.declared.options.Mode.{Mode}
use Rattle.run_history.specs.declared.options.Mode.TheVariants as modes
use Rattle.run_history.specs.declared.states.RuleState.{RuleState}
use Rattle.run_history.specs.declared.states.RuleState.TheVariants as rule
use Rattle.run_history.specs.declared.states.FileState.{FileState}
use Rattle.run_history.specs.declared.states.FileState.TheVariants as file
use Rattle.flow_types.specs.Plans.{rule_numbers, file_numbers, made_files, maker_of, takes, takers_of, is_kept}
use Rattle.run_history.specs.States.{rule_state, file_state, limit_of}

-- the state says that the rule waits
abbrev pub is_waiting_state : RuleState → Bool
is_waiting_state rule.Waiting = true
is_waiting_state _ = false

-- the state says that the rule runs
abbrev pub is_running_state : RuleState → Bool
is_running_state (rule.Running attempt) = true
is_running_state _ = false

-- the state says that the rule is complete
abbrev pub is_complete_state : RuleState → Bool
is_complete_state rule.Complete = true
is_complete_state _ = false

-- the state says that the rule has failed
abbrev pub is_failed_state : RuleState → Bool
is_failed_state rule.Failed = true
is_failed_state _ = false

-- rule r waits
abbrev pub is_waiting : List Record → ℕ → Bool
is_waiting H r = is_waiting_state (rule_state H r)

-- rule r runs
abbrev pub is_running : List Record → ℕ → Bool
is_running H r = is_running_state (rule_state H r)

-- rule r is complete
abbrev pub is_complete : List Record → ℕ → Bool
is_complete H r = is_complete_state (rule_state H r)

-- rule r has failed
abbrev pub has_failed : List Record → ℕ → Bool
has_failed H r = is_failed_state (rule_state H r)

-- the rules that run, ascending
abbrev pub running_rules : Plan → List Record → List ℕ
running_rules P H = filter (is_running H) (rule_numbers P)

-- how many rules are complete
abbrev pub complete_count : Plan → List Record → ℕ
complete_count P H = count_by (is_complete H) (rule_numbers P)

-- the size of what is present
abbrev pub size_in : FileState → Option ℕ
size_in (file.Present content) = Some content.size
size_in _ = None

-- the size of file f, where it is present
abbrev pub size_of : Plan → List Record → ℕ → Option ℕ
size_of P H f = size_in (file_state P H f)

-- file f is present
abbrev pub is_present : Plan → List Record → ℕ → Bool
is_present P H f = is_some (size_of P H f)

-- rule r waits, and its inputs are present
abbrev pub is_ready : Plan → List Record → ℕ → Bool
is_ready P H r = is_waiting H r && list_all (is_present P H) (takes P r)

-- the rules that wait and have their inputs, ascending
abbrev pub ready_rules : Plan → List Record → List ℕ
ready_rules P H = filter (is_ready P H) (rule_numbers P)

-- the bytes of the inputs of rule r together, counted by port
abbrev pub input_bytes : Plan → List Record → ℕ → ℕ
input_bytes P H r = sum_by (λ f. option_map_or (λ size. size) (size_of P H f) 0) (takes P r)

-- the most bytes that the outputs of rule r may have together
abbrev pub rule_bound : Plan → ℕ → ℕ
rule_bound P r = option_map_or (λ rule. rule.bound) (slice_get P.rules r) 0

-- The bytes of the made files that are present.
abbrev pub stored : Plan → List Record → ℕ
stored P H = sum_by (λ f. option_map_or (λ size. size) (size_of P H f) 0) (made_files P)

-- The bounds of the rules that run, together.
abbrev pub reserved : Plan → List Record → ℕ
reserved P H = sum_by (rule_bound P) (running_rules P H)

-- at most the limit, where there is one
abbrev pub is_within : ℕ → Option ℕ → Bool
is_within n None = true
is_within n (Some limit) = nat_le n limit

-- What is stored, what is reserved and the bound of rule r are together within the limit.
abbrev pub fits_storage : Plan → List Record → ℕ → Bool
fits_storage P H r = is_within (stored P H + reserved P H + rule_bound P r) (limit_of H)

-- File f is free: a rule made it, it is present, it isn't kept, and each rule that takes it in is complete.
abbrev pub is_free : Plan → List Record → ℕ → Bool
is_free P H f =
    is_some (maker_of P f) && is_present P H f && not (is_kept P f) && list_all (is_complete H) (takers_of P f)

-- the least free file
abbrev pub least_free : Plan → List Record → Option ℕ
least_free P H = find (is_free P H) (file_numbers P)

-- The file to collect next: the least free one, on demand only where some ready rule doesn't fit the storage.
abbrev pub wanted : Plan → Mode → List Record → Option ℕ
wanted P modes.Never H = None
wanted P modes.RefCount H = least_free P H
wanted P modes.OnDemand H =
    if list_any (λ r. not (fits_storage P H r)) (ready_rules P H) then least_free P H else None
