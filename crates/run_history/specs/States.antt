-- The states of rules and files after a history.
use Rattle.std.specs.Prelude.{ℕ, ◌+◌, Bool, true, false, List, [], ◌∷◌, Option, Some, None, ◌==◌, nat_le, if◌then◌else◌, count_by, unwrap_or}
use Rattle.std.specs.List.{list_any}
use Rattle.std.specs.Option.{option_map_or}
use Rattle.flow_types.specs.declared.plan.Plan.{Plan}
use Rattle.flow_types.specs.declared.numbers.AttemptNo.{AttemptNo}
use Rattle.flow_types.specs.declared.numbers.LinkNo.{LinkNo}
use Rattle.flow_types.specs.declared.numbers.Content.{Content}
use Rattle.flow_types.specs.declared.records.Record.{Record}
use Rattle.flow_types.specs.declared.records.Record.TheVariants as records
use Rattle.run_history.specs.declared.states.RuleState.{RuleState}
use Rattle.run_history.specs.declared.states.RuleState.TheVariants as rule
use Rattle.run_history.specs.declared.states.FileState.{FileState}
use Rattle.run_history.specs.declared.states.FileState.TheVariants as file
use Rattle.flow_types.specs.Plans.{sources_of, maker_of, makes}
use Rattle.run_history.specs.History.{part, since_opening, last_said}

-- a failure of rule r
abbrev pub is_failure_of : ℕ → Record → Bool
is_failure_of r (records.Failed moment rule attempt why) = rule.0 == r
is_failure_of r _ = false

-- a drop of file f
abbrev pub drops : ℕ → Record → Bool
drops f (records.Dropped moment file) = file.0 == f
drops f _ = false

-- what a Done of the rule logged of its outputs
abbrev pub outs_in : ℕ → Record → Option (List Content)
outs_in r (records.Done moment rule attempt outs) = if rule.0 == r then Some outs else None
outs_in r _ = None

-- what the part logged of the rule's outputs, where it is done
abbrev pub outs_of : List Record → ℕ → Option (List Content)
outs_of H r = last_said (outs_in r) (part H)

-- what an opening of a part logged of the sources
abbrev pub sources_in : Record → Option (List Content)
sources_in (records.Opened moment run retries limit plan sources) = Some sources
sources_in _ = None

-- what the part logged of the sources
abbrev pub opened_sources : List Record → List Content
opened_sources H = unwrap_or (last_said sources_in (part H)) []

-- the retries that an opening states
abbrev pub retries_in : Record → Option ℕ
retries_in (records.Opened moment run retries limit plan sources) = Some retries
retries_in (records.Resumed moment run retries limit) = Some retries
retries_in _ = None

-- the limit that an opening states
abbrev pub limit_in : Record → Option (Option ℕ)
limit_in (records.Opened moment run retries limit plan sources) = Some limit
limit_in (records.Resumed moment run retries limit) = Some limit
limit_in _ = None

-- the retries of the last opening
abbrev pub retries_of : List Record → ℕ
retries_of H = unwrap_or (last_said retries_in (part H)) 0

-- the limit of the last opening
abbrev pub limit_of : List Record → Option ℕ
limit_of H = unwrap_or (last_said limit_in (part H)) None

-- an attempt and the link on which it was started
abbrev pub Place : Type 0
Place = AttemptNo × LinkNo

-- what a record says of the running of a rule
abbrev pub running_says : ℕ → Record → Option (Option Place)
running_says r (records.Started moment rule attempt link) = if rule.0 == r then Some (Some (attempt, link)) else None
running_says r (records.Done moment rule attempt outs) = if rule.0 == r then Some None else None
running_says r (records.Failed moment rule attempt why) = if rule.0 == r then Some None else None
running_says r (records.Lost moment rule attempt) = if rule.0 == r then Some None else None
running_says r _ = None

-- the attempt of a rule that was started and not closed since the last opening, and its link
abbrev pub running_in : List Record → ℕ → Option Place
running_in H r = unwrap_or (last_said (running_says r) (since_opening H)) None

-- how often rule r failed since the last opening
abbrev pub failures_of : List Record → ℕ → ℕ
failures_of H r = count_by (is_failure_of r) (since_opening H)

-- the state of a rule that no Done names: it runs, or has failed, or waits
abbrev pub unfinished_state : Option Place → Bool → RuleState
unfinished_state (Some running) failed = rule.Running running.0
unfinished_state None true = rule.Failed
unfinished_state None false = rule.Waiting

-- The state of rule r: complete where a Done names it, failed after one failure more than the retries.
abbrev pub rule_state : List Record → ℕ → RuleState
rule_state H r = option_map_or (λ outs. rule.Complete) (outs_of H r) (unfinished_state (running_in H r) (nat_le (retries_of H + 1) (failures_of H r)))

-- the row at the place of a file among the files
abbrev pub row_of : ℕ → List ℕ → List Content → Option Content
row_of f [] rows = None
row_of f (g ∷ fs) [] = None
row_of f (g ∷ fs) (row ∷ rows) = if g == f then Some row else row_of f fs rows

-- present with a row, absent without one
abbrev pub present_with : Option Content → FileState
present_with (Some content) = file.Present content
present_with None = file.Absent

-- the state of file f, which rule r makes
abbrev pub made_state : Plan → List Record → ℕ → ℕ → FileState
made_state P H f r = option_map_or
    (λ outs. if list_any (drops f) (part H) then file.Collected else present_with (row_of f (makes P r) outs))
    (outs_of H r) file.Absent

-- The state of file f: a source is present with its row of the opening, a made file with its row of the Done until it is dropped.
abbrev pub file_state : Plan → List Record → ℕ → FileState
file_state P H f = option_map_or (made_state P H f) (maker_of P f) (present_with (row_of f (sources_of P) (opened_sources H)))
