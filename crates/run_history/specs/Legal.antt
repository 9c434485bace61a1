-- Which record may stand behind which history.
use Rattle.std.specs.Prelude.{ℕ, ◌+◌, Bool, true, false, not, ◌&&◌, ◌||◌, List, [], ◌∷◌, ◌++◌, length, Option, Some, None, ◌==◌, nat_le, nat_lt, sum_by, if◌then◌else◌}
use Rattle.std.specs.List.{list_any, list_all}
use Rattle.std.specs.Str.{bytes_eq}
use Rattle.flow_types.specs.declared.plan.Plan.{Plan}
use Rattle.flow_types.specs.declared.numbers.Content.{Content}
use Rattle.flow_types.specs.declared.job.Failure.{Failure}
use Rattle.flow_types.specs.declared.job.Failure.TheVariants as failures
use Rattle.flow_types.specs.declared.records.EndKind.{EndKind}
use Rattle.flow_types.specs.declared.records.EndKind.TheVariants as kinds
use Rattle.flow_types.specs.declared.records.Record.{Record}
use Rattle.flow_types.specs.declared.records.Record.TheVariants as records
use Rattle.run_history.specs.declared.states.RuleState.{RuleState}
use Rattle.run_history.specs.declared.states.RuleState.TheVariants as rule
use Rattle.flow_types.specs.Plans.{is_empty, most_bytes, most_input_bytes, rule_numbers, sources_of, takes, makes, bound_of}
use Rattle.run_history.specs.History.{is_end, is_cleaned, part, since_opening, next_run, next_attempt}
use Rattle.run_history.specs.States.{rule_state}
use Rattle.run_history.specs.Storage.{is_waiting, is_complete, has_failed, is_present, is_free, is_within, ready_rules, running_rules, input_bytes, stored, fits_storage, rule_bound}

-- the most records of a log
abbrev pub most_records : ℕ
most_records = 1000000

-- n places are left: the records, one for each running rule, one for an Ended and these n are no more than a log may have.
abbrev pub has_places : Plan → List Record → ℕ → Bool
has_places P H n = nat_le (length H + length (running_rules P H) + 1 + n) most_records

-- since the last opening the run has ended, or a rule has failed
abbrev pub is_stopped : Plan → List Record → Bool
is_stopped P H = list_any is_end (since_opening H) || list_any (has_failed H) (rule_numbers P)

-- the state is that of running attempt a
abbrev pub runs_as : RuleState → ℕ → Bool
runs_as (rule.Running attempt) a = attempt.0 == a
runs_as _ a = false

-- rule r of the plan runs with attempt a
abbrev pub runs : Plan → List Record → ℕ → ℕ → Bool
runs P H r a = nat_lt r (length P.rules) && runs_as (rule_state H r) a

-- one row per file, each within the file's bound
abbrev pub are_within : Plan → List ℕ → List Content → Bool
are_within P [] [] = true
are_within P (f ∷ fs) (row ∷ rows) = nat_le row.size (bound_of P f) && are_within P fs rows
are_within P _ _ = false

-- an index in the failure is that of one of so many outputs
abbrev pub is_failure_at : Failure → ℕ → Bool
is_failure_at (failures.Status status) outputs = true
is_failure_at (failures.MissingOutput index) outputs = nat_lt index outputs
is_failure_at (failures.TooLong index size) outputs = nat_lt index outputs

-- what an end of this kind says is so
abbrev pub end_holds : EndKind → Plan → List Record → Bool
end_holds kinds.Complete P H = list_all (is_complete H) (rule_numbers P)
end_holds kinds.CommandFailed P H = list_any (has_failed H) (rule_numbers P)
end_holds kinds.InputsTooLarge P H = list_any (λ r. nat_lt most_input_bytes (input_bytes P H r)) (ready_rules P H)
end_holds kinds.NoRoom P H = not (is_empty (ready_rules P H)) && list_all (λ r. not (fits_storage P H r)) (ready_rules P H)
end_holds kinds.Waited P H = not (list_all (is_complete H) (rule_numbers P))
end_holds kinds.Cleaned P H = true

-- an end of this kind may stand here, where the part is begun
abbrev pub is_end_allowed : EndKind → Plan → List Record → Bool
is_end_allowed kinds.Cleaned P H = nat_lt (length H) most_records
is_end_allowed kind P H = not (list_any is_end (since_opening H)) && is_empty (running_rules P H) && end_holds kind P H

-- The record may stand behind the history, for the plan with this digest.
abbrev pub is_allowed : Plan → List ℕ → List Record → Record → Bool
is_allowed P digest H (records.Opened moment run retries limit plan sources) =
    is_empty (part H) && (run == next_run H) && bytes_eq plan.0 digest
    && (length sources == length (sources_of P)) && list_all (λ row. nat_le row.size most_bytes) sources
    && nat_le (length H + 2) most_records
is_allowed P digest H (records.Resumed moment run retries limit) =
    not (is_empty (part H)) && (run == next_run H) && is_within (stored P H) limit && nat_le (length H + 2) most_records
is_allowed P digest H (records.Started moment r attempt link) =
    not (is_empty (part H)) && not (is_stopped P H) && nat_lt r.0 (length P.rules) && is_waiting H r.0
    && list_all (is_present P H) (takes P r.0) && nat_le (input_bytes P H r.0) most_input_bytes
    && (attempt.0 == next_attempt H) && fits_storage P H r.0 && has_places P H 2
is_allowed P digest H (records.Done moment r attempt outs) =
    runs P H r.0 attempt.0 && are_within P (makes P r.0) outs && nat_le (sum_by (λ row. row.size) outs) (rule_bound P r.0)
is_allowed P digest H (records.Failed moment r attempt why) =
    runs P H r.0 attempt.0 && is_failure_at why (length (makes P r.0))
is_allowed P digest H (records.Lost moment r attempt) = runs P H r.0 attempt.0
is_allowed P digest H (records.Dropped moment f) = is_free P H f.0 && has_places P H 1
is_allowed P digest H (records.Ended moment kind) = not (is_empty (part H)) && is_end_allowed kind P H

-- all that is asked of a record of an earlier part
abbrev pub is_numbered : List Record → Record → Bool
is_numbered H (records.Opened moment run retries limit plan sources) = run == next_run H
is_numbered H (records.Resumed moment run retries limit) = run == next_run H
is_numbered H (records.Started moment r attempt link) = attempt.0 == next_attempt H
is_numbered H _ = true

-- Each record is allowed behind those before it; where a cleaning is still to come, the record is of an earlier part and only its number counts.
abbrev pub is_legal_from : Plan → List ℕ → List Record → List Record → Bool
is_legal_from P digest before [] = true
is_legal_from P digest before (x ∷ xs) =
    (if list_any is_cleaned (x ∷ xs) then is_numbered before x else is_allowed P digest before x)
    && is_legal_from P digest (before ++ (x ∷ [])) xs

-- The history is legal for the plan with this digest.
abbrev pub is_legal : Plan → List ℕ → List Record → Bool
is_legal P digest H = is_legal_from P digest [] H

-- the number of the first record that may not stand where it does, none where each may
abbrev pub first_illegal_from : Plan → List ℕ → List Record → List Record → Option ℕ
first_illegal_from P digest before [] = None
first_illegal_from P digest before (x ∷ xs) =
    if (if list_any is_cleaned (x ∷ xs) then is_numbered before x else is_allowed P digest before x)
    then first_illegal_from P digest (before ++ (x ∷ [])) xs
    else Some (length before)

-- The number of the first record that may not stand where it does.
abbrev pub first_illegal : Plan → List ℕ → List Record → Option ℕ
first_illegal P digest H = first_illegal_from P digest [] H
