-- What holds of every walk, in the words of the definitions.
use Rattle.std.specs.Prelude.{◌≡◌, ◌<◌, ℕ, Bool, true, false, List, [], ◌∷◌, ◌++◌, length}
use Rattle.std.specs.Prelude.{Option, Some, nat_le, is_none, find, not, ◌≤◌, slice_get, take}
use Rattle.std.specs.List.{list_any, list_all}
use Rattle.flow_types.specs.declared.plan.Plan.{Plan}
use Rattle.flow_types.specs.declared.numbers.RuleNo.{RuleNo}
use Rattle.flow_types.specs.declared.numbers.AttemptNo.{AttemptNo}
use Rattle.flow_types.specs.declared.numbers.LinkNo.{LinkNo}
use Rattle.flow_types.specs.declared.records.Record.{Record}
use Rattle.flow_types.specs.declared.records.Record.TheVariants as records
use Rattle.flow_types.specs.Plans.{IsValid, is_empty, rule_numbers}
use Rattle.flow_types.specs.Serial.{serial_order}
use Rattle.run_history.specs.declared.options.Options.{Options}
use Rattle.run_history.specs.Admissions.{AdmitsOne, may_be_stored}
use Rattle.run_history.specs.History.{is_cleaned, is_opening, part}
use Rattle.run_history.specs.Storage.{is_complete, is_ready, ready_rules, running_rules}
use Rattle.run_history.specs.Storage.{fits_storage}
use Rattle.run_history.specs.Storage.{has_failed, wanted}
use Rattle.run_history.specs.Legal.{is_allowed, is_legal}
use Rattle.run_history.specs.States.{limit_of, limit_in}
use Rattle.run_history.specs.declared.moves.Move.{Move}
use Rattle.run_history.specs.declared.answers.Stop.{Stop}
use Rattle.run_history.specs.Links.{records_of}
use Rattle.run_history.specs.Answers.{end_of, has_ended}
use Rattle.safe_walks.specs.Passes.{admits_in_one}
use Rattle.safe_walks.specs.Walk.{peak, standing, stays_within, with_claim}
use Rattle.safe_walks.specs.Safe.{admits_under, collects, is_safe, safely_admitted}
use Rattle.safe_walks.specs.Safe.{is_admitted_course, is_no_room}

-- the record starts no rule
abbrev pub starts_none : Record → Bool
starts_none (records.Started moment rule attempt link) = false
starts_none _ = true

-- From an empty part the walk stays within a limit exactly where the peak is at most the limit.
abbrev pub PeakIsWalked : Type 0
PeakIsWalked = (P : Plan) (H : List Record) (limit : ℕ) → part H ≡ [] → is_safe P H limit
    ≡ nat_le (peak P) limit

-- A record that is allowed, starts no rule and begins no new part keeps the walk within a limit.
abbrev pub RecordsKeepWalk : Type 0
RecordsKeepWalk = (P : Plan) (digest : List ℕ) (H : List Record) (x : Record) (limit : ℕ)
    → is_allowed P digest H x ≡ true → is_cleaned x ≡ false → starts_none x ≡ true
    → is_safe P H limit ≡ true → is_safe P (H ++ (x ∷ [])) limit ≡ true

-- A start that is admitted keeps the walk within the limit that it was admitted under.
abbrev pub AdmittedStartsKeepWalk : Type 0
AdmittedStartsKeepWalk = (P : Plan) (digest : List ℕ) (O : Options) (H : List Record) (moment : ℕ)
    (r : RuleNo) (attempt : AttemptNo) (link : LinkNo) (limit : ℕ)
    → collects O.mode ≡ true → limit_of H ≡ Some limit
    → is_allowed P digest H (records.Started moment r attempt link) ≡ true
    → safely_admitted P O H r.0 ≡ true → is_safe P H limit ≡ true
    → is_safe P (H ++ (records.Started moment r attempt link ∷ [])) limit ≡ true

-- What stays within a limit stays within a greater one.
abbrev pub WalkStaysUnderMore : Type 0
WalkStaysUnderMore = (P : Plan) (H : List Record) (limit more : ℕ) → nat_le limit more ≡ true
    → is_safe P H limit ≡ true → is_safe P H more ≡ true

-- Where no rule runs or has failed, nothing is wanted, not all rules are complete and the walk
-- stays within the limit, a ready rule fits the storage and is admitted.
abbrev pub SafeRunHasRule : Type 0
SafeRunHasRule = (P : Plan) (digest : List ℕ) (O : Options) (H : List Record) (limit : ℕ)
    → IsValid P → is_legal P digest H ≡ true → is_empty (part H) ≡ false
    → collects O.mode ≡ true → limit_of H ≡ Some limit → is_safe P H limit ≡ true
    → is_empty (running_rules P H) ≡ true → list_any (has_failed H) (rule_numbers P) ≡ false
    → is_none (wanted P O.mode H) ≡ true
    → list_all (is_complete H) (rule_numbers P) ≡ false
    → list_any (may_be_stored safely_admitted P O H) (ready_rules P H) ≡ true

-- The law of an admission: where no rule runs or has failed, nothing is wanted and some ready rule
-- fits the storage, one that does is admitted.
abbrev pub SafeAdmitsOne : Type 0
SafeAdmitsOne = AdmitsOne safely_admitted (λ P. Unit {0})

-- The rule is ready, fits the storage and is admitted.
pub record MayStartFirst (P : Plan) (O : Options) (H : List Record) (r : ℕ) : Type 0 where
  pub ready : is_ready P H r ≡ true
  pub fits : fits_storage P H r ≡ true
  pub admitted : safely_admitted P O H r ≡ true

-- Where no rule runs or has failed, nothing is wanted and the walk stays within the limit, the
-- first rule of the walk may start.
abbrev pub FirstMayStart : Type 0
FirstMayStart = (P : Plan) (digest : List ℕ) (O : Options) (H : List Record) (limit r : ℕ)
    → IsValid P → is_legal P digest H ≡ true → is_empty (part H) ≡ false
    → collects O.mode ≡ true → limit_of H ≡ Some limit → is_safe P H limit ≡ true
    → is_empty (running_rules P H) ≡ true → list_any (has_failed H) (rule_numbers P) ≡ false
    → is_none (wanted P O.mode H) ≡ true
    → find (λ q. not (is_complete H q)) (serial_order P) ≡ Some r → MayStartFirst P O H r

-- From a walk that stays within the limit of an opening, the run that it opens stays within it,
-- where it starts only what is admitted.
abbrev pub RunStaysSafe : Type 0
RunStaysSafe = (P : Plan) (digest : List ℕ) (O : Options) (H : List Record) (opening : Record)
    (since : List Record) (limit : ℕ)
    → collects O.mode ≡ true → limit_in opening ≡ Some (Some limit) → is_allowed P digest H opening
    ≡ true → is_safe P H limit ≡ true
    → is_admitted_course P digest O (H ++ (opening ∷ [])) since ≡ true
    → is_safe P ((H ++ (opening ∷ [])) ++ since) limit ≡ true

-- Where the walk stays within the limit, an end never answers that there is no room.
abbrev pub SafeRunHasRoom : Type 0
SafeRunHasRoom = (P : Plan) (digest : List ℕ) (O : Options) (M : List Move) (stop : Option Stop)
    (limit : ℕ) → IsValid P → is_legal P digest (records_of M) ≡ true
    → is_empty (part (records_of M)) ≡ false → has_ended (records_of M) ≡ false
    → collects O.mode ≡ true → limit_of (records_of M) ≡ Some limit → is_safe P (records_of M) limit
    ≡ true
    → is_no_room (end_of P O M stop) ≡ false

-- For a rule of the plan that isn't complete one walk answers what two walks answer.
abbrev pub OneWalkAnswers : Type 0
OneWalkAnswers = (P : Plan) (H : List Record) (limit r : ℕ) → r < length P.rules → is_complete H r
    ≡ false → admits_under P H limit r ≡ admits_in_one P H limit r

-- Where the walk with a rule claimed too stays within a limit, the walk without that claim does: so
-- the claim of a lost rule could be taken back.
abbrev pub ClaimMayGo : Type 0
ClaimMayGo = (P : Plan) (H : List Record) (limit r : ℕ) → r < length P.rules
    → stays_within P (with_claim (standing P H) r) limit ≡ true → is_safe P H limit ≡ true

-- Each Started from place base on was admitted, in the records before it.
abbrev pub AreAdmittedFrom : Plan → Options → List Record → ℕ → Type 0
AreAdmittedFrom P O H base =
    (i moment : ℕ) (rule : RuleNo) (attempt : AttemptNo) (link : LinkNo) → base ≤ i
    → slice_get H i ≡ Some (records.Started moment rule attempt link)
    → safely_admitted P O (take i H) rule.0 ≡ true

-- From a walk that stays within the limit of an opening, legal records that are behind these and
-- neither end the part nor open again stay within it, where each start of them was admitted.
abbrev pub CallStaysSafe : Type 0
CallStaysSafe = (P : Plan) (digest : List ℕ) (O : Options) (H : List Record) (opening : Record)
    (since : List Record) (limit : ℕ) → collects O.mode ≡ true
    → limit_in opening ≡ Some (Some limit)
    → is_legal P digest ((H ++ (opening ∷ [])) ++ since) ≡ true
    → list_any is_cleaned since ≡ false → list_any is_opening since ≡ false
    → AreAdmittedFrom P O ((H ++ (opening ∷ [])) ++ since) (length H) → is_safe P H limit ≡ true
    → is_safe P ((H ++ (opening ∷ [])) ++ since) limit ≡ true
