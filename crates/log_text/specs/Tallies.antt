-- What a tally knows of the rules behind the records of a part, and how many rules it counts in each state.
use Rattle.std.specs.Prelude.{◌≡◌, ◌<◌, ◌≤◌, ◌+◌, ◌++◌, ℕ, Bool, true, false, List, length, Option, Some, None, ◌==◌, if◌then◌else◌, count_by, is_some, nat_le, nat_lt, option_map, slice_index_or, slice_set}
use Rattle.flow_types.specs.declared.numbers.AttemptNo.{AttemptNo}
use Rattle.flow_types.specs.declared.plan.Plan.{Plan}
use Rattle.flow_types.specs.declared.records.Record.{Record}
use Rattle.flow_types.specs.declared.records.Record.TheVariants as records
use Rattle.flow_types.specs.Plans.{most_rules}
use Rattle.run_history.specs.declared.states.RuleState.{RuleState}
use Rattle.run_history.specs.declared.states.RuleState.TheVariants as rule
use Rattle.run_history.specs.Legal.{is_legal}
use Rattle.run_history.specs.States.{failures_of, outs_of, retries_of, running_in}
use Rattle.run_history.specs.Storage.{is_complete_state, is_failed_state, is_running_state, is_waiting_state}
use Rattle.log_text.specs.declared.counts.Counts.{Counts}
use Rattle.log_text.specs.declared.tally.Row.{Row}
use Rattle.log_text.specs.declared.tally.Tally.{Tally}
use Rattle.log_text.specs.Lines.{field}
use Rattle.std.specs.Fmt.{decimal}

-- The history is legal for the plan with some digest.
abbrev pub HasLegal : Plan → List Record → Type 0
HasLegal P H = (digest : List ℕ) × (is_legal P digest H ≡ true)

-- the record names no rule from number n on
abbrev pub is_below : ℕ → Record → Bool
is_below n (records.Started moment r attempt link) = nat_lt r.0 n
is_below n (records.Done moment r attempt outs) = nat_lt r.0 n
is_below n (records.Failed moment r attempt why) = nat_lt r.0 n
is_below n (records.Lost moment r attempt) = nat_lt r.0 n
is_below n _ = true

-- a rule of which nothing is recorded
abbrev pub blank_row : Row
blank_row = record { done = false; run = 0; running = None; failures = 0 }

-- the row of rule r
abbrev pub row_at : Tally → ℕ → Row
row_at t r = slice_index_or t.rows.items r blank_row

-- The row in a run: of its attempt and its failures nothing is left where they are of an earlier one.
abbrev pub row_in : ℕ → Row → Row
row_in run row = if row.run == run then row else record { done = row.done; run = run; running = None; failures = 0 }

-- the state of a rule that isn't done
abbrev pub open_state : Option AttemptNo → Bool → RuleState
open_state (Some attempt) failed = rule.Running attempt
open_state None true = rule.Failed
open_state None false = rule.Waiting

-- the state of a rule with this row, under so many retries
abbrev pub state_of : ℕ → Row → RuleState
state_of retries row = if row.done then rule.Complete else open_state row.running (nat_le (retries + 1) row.failures)

-- how many of these rows are in such a state, in this run and under so many retries
abbrev pub count_in : (RuleState → Bool) → ℕ → ℕ → List Row → ℕ
count_in test run retries rows = count_by (λ row. test (state_of retries (row_in run row))) rows

-- the row says of rule r what the history does
pub record IsRow (H : List Record) (r : ℕ) (row : Row) : Type 0 where
  pub done : row.done ≡ is_some (outs_of H r)
  pub running : row.running ≡ option_map (λ place. place.0) (running_in H r)
  pub failures : row.failures ≡ failures_of H r

-- The tally tells what the history says of each rule.
pub record Tells (t : Tally) (H : List Record) : Type 0 where
  pub rows : (r : ℕ) → r < length t.rows.items → IsRow H r (row_in t.runs (row_at t r))
  pub retries : t.retries ≡ retries_of H

-- the counts as they are printed, and how many rules there are
abbrev pub counts_text : Counts → ℕ → List ℕ
counts_text counts rules = field counts.waiting ++ field counts.running ++ field counts.complete ++ field counts.failed ++ field 0 ++ decimal rules

-- What holds of every tally over n rules: its four counts are those of its rows.
pub record IsTally (n : ℕ) (t : Tally) : Type 0 where
  pub rows : length t.rows.items ≡ n
  pub few : n ≤ most_rules
  pub runs : t.runs ≤ t.records
  pub earlier : (r : ℕ) → (row_at t r).run ≤ t.runs
  pub failures : (r : ℕ) → (row_at t r).failures ≤ t.records
  pub waiting : t.counts.waiting ≡ count_in is_waiting_state t.runs t.retries t.rows.items
  pub running : t.counts.running ≡ count_in is_running_state t.runs t.retries t.rows.items
  pub complete : t.counts.complete ≡ count_in is_complete_state t.runs t.retries t.rows.items
  pub failed : t.counts.failed ≡ count_in is_failed_state t.runs t.retries t.rows.items

-- one record later rule r has this row
pub record IsPut (t : Tally) (r : ℕ) (row : Row) (after : Tally) : Type 0 where
  pub rows : after.rows.items ≡ slice_set t.rows.items r row
  pub runs : after.runs ≡ t.runs
  pub retries : after.retries ≡ t.retries
  pub records : after.records ≡ t.records + 1

-- one record later a run is opened with so many retries
pub record IsOpened (t : Tally) (given : ℕ) (after : Tally) : Type 0 where
  pub rows : after.rows.items ≡ t.rows.items
  pub runs : after.runs ≡ t.runs + 1
  pub retries : after.retries ≡ given
  pub records : after.records ≡ t.records + 1
