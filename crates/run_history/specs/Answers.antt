-- What a claim, a stop and an end answer, by the plan, the options, the moves and the first stop. The refusals of a claim and the answers of an end stand in their order: the first that holds is the answer.
use Rattle.std.specs.Prelude.{ℕ, Bool, true, false, not, ◌&&◌, ◌||◌, List, [], ◌∷◌, length, Option, Some, None, Result, Ok, Err, ◌==◌, nat_lt, if◌then◌else◌, filter, filter_map, find, count_by, is_some, is_none, unwrap_or}
use Rattle.std.specs.List.{list_any, list_all, last_or, before_last}
use Rattle.std.specs.Option.{option_map_or, option_and_then}
use Rattle.flow_types.specs.declared.plan.Plan.{Plan}
use Rattle.flow_types.specs.declared.job.Failure.{Failure}
use Rattle.flow_types.specs.declared.numbers.RuleNo.{RuleNo}
use Rattle.flow_types.specs.declared.numbers.FileNo.{FileNo}
use Rattle.flow_types.specs.declared.records.Record.{Record}
use Rattle.flow_types.specs.declared.records.Record.TheVariants as records
use Rattle.flow_types.specs.declared.records.EndKind.{EndKind}
use Rattle.flow_types.specs.declared.records.EndKind.TheVariants as kinds
use Rattle.flow_types.specs.Plans.{is_empty, rule_numbers, file_numbers, most_input_bytes}
use Rattle.run_history.specs.declared.options.Options.{Options}
use Rattle.run_history.specs.declared.moves.Move.{Move}
use Rattle.run_history.specs.declared.states.FileState.{FileState}
use Rattle.run_history.specs.declared.states.FileState.TheVariants as file
use Rattle.run_history.specs.declared.answers.Stop.{Stop}
use Rattle.run_history.specs.declared.answers.Stop.TheVariants as stops
use Rattle.run_history.specs.declared.answers.Nothing.{Nothing}
use Rattle.run_history.specs.declared.answers.Nothing.TheVariants as nothing
use Rattle.run_history.specs.declared.answers.Check.{Check}
use Rattle.run_history.specs.declared.answers.Check.TheVariants as check
use Rattle.run_history.specs.History.{is_end, since_opening}
use Rattle.run_history.specs.States.{file_state, limit_of}
use Rattle.run_history.specs.Storage.{is_complete, has_failed, ready_rules, running_rules, input_bytes, stored, reserved, rule_bound, fits_storage, wanted}
use Rattle.run_history.specs.Legal.{has_places, is_stopped}
use Rattle.run_history.specs.Links.{records_of, may_run_on, fits}
use Rattle.run_history.specs.Moves.{live_links}

-- the number as that of a rule
abbrev pub rule_no : ℕ → RuleNo
rule_no r = record { 0 = r }

-- the number as that of a file
abbrev pub file_no : ℕ → FileNo
file_no f = record { 0 = f }

-- the first of two, where there is one
abbrev pub or_else : {A : Type 0} → Option A → Option A → Option A
or_else None second = second
or_else (Some x) second = Some x

-- the first of these, where there is one
abbrev pub first_of : {A : Type 0} → List (Option A) → Option A
first_of [] = None
first_of (x ∷ xs) = or_else x (first_of xs)

-- the answer where the test holds
abbrev pub where_so : {A : Type 0} → Bool → A → Option A
where_so true answer = Some answer
where_so false answer = None

-- what is said of the least of these rules, where there is one
abbrev pub of_least : {A : Type 0} → List ℕ → (ℕ → A) → Option A
of_least [] said = None
of_least (r ∷ rs) said = Some (said r)

-- what is said of the least of the rules, where none of the others is there
abbrev pub where_none : {A : Type 0} → List ℕ → List ℕ → (ℕ → A) → Option A
where_none [] rules said = of_least rules said
where_none (r ∷ rs) rules said = None

-- the inputs of rule r are together more than one job may have
abbrev pub passes_inputs : Plan → List Record → ℕ → Bool
passes_inputs P H r = nat_lt most_input_bytes (input_bytes P H r)

-- the ready rules that may run on link k
abbrev pub ready_on : Plan → Options → List Move → ℕ → List ℕ
ready_on P O M k = filter (λ r. may_run_on P O r k) (ready_rules P (records_of M))

-- those of them that fit the link
abbrev pub fitting_on : Plan → Options → List Move → ℕ → List ℕ
fitting_on P O M k = filter (λ r. fits P O M r k) (ready_on P O M k)

-- those of these that fit the storage too
abbrev pub startable_on : Plan → Options → List Move → ℕ → List ℕ
startable_on P O M k = filter (fits_storage P (records_of M)) (fitting_on P O M k)

-- Only where there is a limit is a rule short of storage; without one the 0 is never answered.
abbrev pub no_storage : Plan → List Record → ℕ → Nothing
no_storage P H r = nothing.NoStorage (rule_no r) (rule_bound P r) (stored P H) (reserved P H) (unwrap_or (limit_of H) 0)

-- why a claim for link k takes no rule
abbrev pub claim_refusal : Plan → Options → List Move → Option Stop → ℕ → Option Nothing
claim_refusal P O M stop k =
    let H : List Record = records_of M in
    let ready : List ℕ = ready_on P O M k in
    let fitting : List ℕ = fitting_on P O M k in
    let both : List ℕ = startable_on P O M k in
    first_of (
    where_so (is_some stop || is_stopped P H) nothing.Stopping
    ∷ option_map_or (λ f. Some (nothing.CollectFirst (file_no f))) (wanted P O.mode H) None
    ∷ where_so (not (has_places P H 2)) nothing.LogPlaces
    ∷ where_so (is_empty ready) nothing.NoneReady
    ∷ of_least (filter (passes_inputs P H) ready) (λ r. nothing.InputsTooLarge (rule_no r) (input_bytes P H r))
    ∷ where_none fitting ready (λ r. nothing.NoFit (rule_no r))
    ∷ where_none both fitting (no_storage P H)
    ∷ [])

-- What a claim for link k answers: the rule to start, or why there is none. Without a refusal a rule is there, so the NoneReady at the end is never answered.
abbrev pub claim_of : Plan → Options → List Move → Option Stop → ℕ → Result ℕ Nothing
claim_of P O M stop k =
    option_map_or Err (claim_refusal P O M stop k) (unwrap_or (of_least (startable_on P O M k) Ok) (Err nothing.NoneReady))

-- a file was collected
abbrev pub is_collected_state : FileState → Bool
is_collected_state file.Collected = true
is_collected_state _ = false

-- how many files are collected
abbrev pub collected_count : Plan → List Record → ℕ
collected_count P H = count_by (λ f. is_collected_state (file_state P H f)) (file_numbers P)

-- why rule r failed by this record
abbrev pub why_in : ℕ → Record → Option Failure
why_in r (records.Failed moment rule attempt why) = if rule.0 == r then Some why else None
why_in r _ = None

-- why rule r failed last, since the last opening
abbrev pub last_why : List Record → ℕ → Option Failure
last_why H r = last_or None (filter_map (why_in r) (since_opening H))

-- the answer by the last failure of rule r
abbrev pub failed_answer : List Record → ℕ → Option Check
failed_answer H r = option_map_or (λ why. Some (check.CommandFailed (rule_no r) why)) (last_why H r) None

-- the answer by the count of the records
abbrev pub log_full : List Record → Check
log_full H = check.LogFull (length H)

-- As with no_storage the 0 is never answered.
abbrev pub no_room : Plan → List Record → ℕ → Check
no_room P H r = check.NoRoom (rule_no r) (rule_bound P r) (stored P H) (unwrap_or (limit_of H) 0)

-- the idle looks of a stop for waiting
abbrev pub idles_in : Stop → Option ℕ
idles_in (stops.Waited idles) = Some idles
idles_in stops.Halt = None

-- a stop at once
abbrev pub is_halt : Stop → Bool
is_halt (stops.Waited idles) = false
is_halt stops.Halt = true

-- this run has ended
abbrev pub has_ended : List Record → Bool
has_ended H = list_any is_end (since_opening H)

-- the records before the end of this run, where it ended
abbrev pub before_end : List Record → List Record
before_end H = if has_ended H then before_last is_end H else H

-- an end of kind Waited
abbrev pub is_waited_end : Record → Bool
is_waited_end (records.Ended moment kinds.Waited) = true
is_waited_end _ = false

-- The stop that an end answers by. A stop that was set only after the end of this run changes its answer no more, and of the kinds that are logged Waited alone is answered by a stop.
abbrev pub stop_at_end : List Record → Option Stop → Option Stop
stop_at_end H stop = if has_ended H && not (list_any is_waited_end (since_opening H)) then None else stop

-- the answer of an end over these records, of a run that hasn't ended
abbrev pub end_over : Plan → Options → List Record → Option Stop → Check
end_over P O H stop =
    let ready : List ℕ = ready_rules P H in
    let roomy : List ℕ = filter (fits_storage P H) ready in
    let is_wanted : Bool = is_some (wanted P O.mode H) in
    unwrap_or (first_of (
    where_so (not (is_empty (running_rules P H))) check.Going
    ∷ where_so (option_map_or is_halt stop false) check.Halted
    ∷ option_and_then (failed_answer H) (find (has_failed H) (rule_numbers P))
    ∷ where_so (is_wanted && not (has_places P H 1)) (log_full H)
    ∷ where_so is_wanted check.Going
    ∷ where_so (list_all (is_complete H) (rule_numbers P)) (check.Complete (collected_count P H))
    ∷ option_and_then (λ idles. of_least roomy (λ r. check.Waited (record { idles = idles; rule = rule_no r }))) (option_and_then idles_in stop)
    ∷ of_least (filter (passes_inputs P H) ready) (λ r. check.InputsTooLarge (rule_no r) (input_bytes P H r))
    ∷ where_so (not (has_places P H 2)) (log_full H)
    ∷ where_none roomy ready (no_room P H)
    ∷ [])) check.Going

-- What an end answers; after the end of this run it answers the same again.
abbrev pub end_of : Plan → Options → List Move → Option Stop → Check
end_of P O M stop = end_over P O (before_end (records_of M)) (stop_at_end (records_of M) stop)

-- the kind of the Ended that an answer is logged by
abbrev pub kind_of : Check → Option EndKind
kind_of (check.Complete collected) = Some kinds.Complete
kind_of (check.CommandFailed rule why) = Some kinds.CommandFailed
kind_of (check.InputsTooLarge rule total) = Some kinds.InputsTooLarge
kind_of (check.NoRoom rule need stored limit) = Some kinds.NoRoom
kind_of (check.Waited wait) = Some kinds.Waited
kind_of _ = None

-- The kind of the Ended that an end logs: that of its answer, and none where this run has ended already.
abbrev pub logged_end : Plan → Options → List Move → Option Stop → Option EndKind
logged_end P O M stop = if has_ended (records_of M) then None else kind_of (end_of P O M stop)

-- rule r may run on a live link that it fits
abbrev pub has_link : Plan → Options → List Move → ℕ → Bool
has_link P O M r = list_any (λ k. may_run_on P O r k && fits P O M r k) (live_links O M)

-- Waiting is in vain: no attempt runs, no file is wanted, and some ready rule fits the storage but none that does fits a live link that it may run on.
abbrev pub is_in_vain : Plan → Options → List Move → Bool
is_in_vain P O M =
    let H : List Record = records_of M in
    is_empty (running_rules P H) && is_none (wanted P O.mode H)
    && list_any (fits_storage P H) (ready_rules P H)
    && list_all (λ r. not (fits_storage P H r) || not (has_link P O M r)) (ready_rules P H)

-- The stop that stands after one was asked for: the first stays, and one for waiting is set only where waiting is in vain.
abbrev pub stop_of : Plan → Options → List Move → Option Stop → Stop → Option Stop
stop_of P O M (Some first) why = Some first
stop_of P O M None stops.Halt = Some stops.Halt
stop_of P O M None (stops.Waited idles) = if is_in_vain P O M then Some (stops.Waited idles) else None
