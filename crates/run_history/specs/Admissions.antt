-- What a claim and a stop answer where an admission has a say.
use Rattle.std.specs.Prelude.{◌≡◌, ℕ, Bool, true, false, not, ◌&&◌, ◌||◌, List, [], ◌∷◌, Option, Some, None, Result, Ok, Err, ◌==◌, if◌then◌else◌, filter, is_none}
use Rattle.std.specs.List.{list_any, list_all}
use Rattle.flow_types.specs.declared.plan.Plan.{Plan}
use Rattle.flow_types.specs.declared.records.Record.{Record}
use Rattle.flow_types.specs.Plans.{IsValid, is_empty, rule_numbers}
use Rattle.run_history.specs.declared.options.Options.{Options}
use Rattle.run_history.specs.declared.moves.Move.{Move}
use Rattle.run_history.specs.declared.answers.Nothing.{Nothing}
use Rattle.run_history.specs.declared.answers.Nothing.TheVariants as nothing
use Rattle.run_history.specs.declared.answers.Stop.{Stop}
use Rattle.run_history.specs.declared.answers.Stop.TheVariants as stops
use Rattle.run_history.specs.Answers.{claim_of, has_link, rule_no, startable_on, stop_of}
use Rattle.run_history.specs.Legal.{is_legal}
use Rattle.run_history.specs.Links.{records_of}
use Rattle.run_history.specs.Storage.{fits_storage, has_failed, ready_rules, running_rules, wanted}

-- Which rules are admitted, by plan, options and records.
abbrev pub Admitting : Type 0
Admitting = Plan → Options → List Record → ℕ → Bool

-- every rule is admitted
abbrev pub all_admitted : Admitting
all_admitted P O H r = true

-- the rules that a claim for link k may start and that are admitted
abbrev pub admitted_on : Admitting → Plan → Options → List Move → ℕ → List ℕ
admitted_on A P O M k = filter (A P O (records_of M)) (startable_on P O M k)

-- the answer of a claim with an admission, by that of one without and the rules that fit and are admitted: where one fits and none is admitted, the least that fits is named
abbrev pub by_admitted : Result ℕ Nothing → List ℕ → Result ℕ Nothing
by_admitted (Err why) admitted = Err why
by_admitted (Ok first) [] = Err (nothing.NotAdmitted (rule_no first))
by_admitted (Ok first) (r ∷ rs) = Ok r

-- What a claim for link k answers: its first cases are those of a claim without an admission, then comes that none of the rules that fit the link and the storage is admitted; else the least rule that fits both and is admitted is taken.
abbrev pub claim_by : Admitting → Plan → Options → List Move → Option Stop → ℕ → Result ℕ Nothing
claim_by A P O M stop k = by_admitted (claim_of P O M stop k) (admitted_on A P O M k)

-- the claim answers a rule
abbrev pub takes_one : Result ℕ Nothing → Bool
takes_one (Ok r) = true
takes_one (Err why) = false

-- rule r is among these
abbrev pub is_among : List ℕ → ℕ → Bool
is_among rules r = list_any (λ other. other == r) rules

-- A claim for link k answers a rule, and rule r is among those that it may start there.
abbrev pub is_claimable : Plan → Options → List Move → Option Stop → ℕ → ℕ → Bool
is_claimable P O M stop k r = takes_one (claim_of P O M stop k) && is_among (startable_on P O M k) r

-- rule r is admitted and fits the storage
abbrev pub may_be_stored : Admitting → Plan → Options → List Record → ℕ → Bool
may_be_stored A P O H r = A P O H r && fits_storage P H r

-- Waiting is in vain: no attempt runs, no file is wanted, and some admitted ready rule fits the storage but none that does fits a live link that it may run on.
abbrev pub is_in_vain_by : Admitting → Plan → Options → List Move → Bool
is_in_vain_by A P O M =
    let H : List Record = records_of M in
    is_empty (running_rules P H) && is_none (wanted P O.mode H)
    && list_any (may_be_stored A P O H) (ready_rules P H)
    && list_all (λ r. not (may_be_stored A P O H r) || not (has_link P O M r)) (ready_rules P H)

-- The stop that stands after one was asked for: the first stays, and one for waiting is set only where waiting is in vain.
abbrev pub stop_by : Admitting → Plan → Options → List Move → Option Stop → Stop → Option Stop
stop_by A P O M (Some first) why = Some first
stop_by A P O M None stops.Halt = Some stops.Halt
stop_by A P O M None (stops.Waited idles) = if is_in_vain_by A P O M then Some (stops.Waited idles) else None

-- The stop is set where none stands: one at once always, one for waiting where waiting is in vain.
abbrev pub sets_by : Admitting → Plan → Options → List Move → Stop → Bool
sets_by A P O M stops.Halt = true
sets_by A P O M (stops.Waited idles) = is_in_vain_by A P O M

-- Where no rule runs or has failed, no file is wanted and some ready rule fits the storage, a ready rule that fits the storage is admitted.
abbrev pub AdmitsOne : Admitting → (Plan → Type 0) → Type 0
AdmitsOne A of = (P : Plan) (O : Options) (digest : List ℕ) (H : List Record) → of P → IsValid P → is_legal P digest H ≡ true
    → is_empty (running_rules P H) ≡ true → list_any (has_failed H) (rule_numbers P) ≡ false → is_none (wanted P O.mode H) ≡ true
    → list_any (fits_storage P H) (ready_rules P H) ≡ true → list_any (may_be_stored A P O H) (ready_rules P H) ≡ true

-- Where every rule is admitted, a claim answers as without an admission.
abbrev pub EveryClaim : Type 0
EveryClaim = (P : Plan) (O : Options) (M : List Move) (stop : Option Stop) (k : ℕ) → claim_by all_admitted P O M stop k ≡ claim_of P O M stop k

-- Where every rule is admitted, a stop is set as without an admission.
abbrev pub EveryStop : Type 0
EveryStop = (P : Plan) (O : Options) (M : List Move) (stop : Option Stop) (why : Stop) → stop_by all_admitted P O M stop why ≡ stop_of P O M stop why

-- A rule that is claimed is admitted.
abbrev pub ClaimsAdmitted : Type 0
ClaimsAdmitted = (A : Admitting) (P : Plan) (O : Options) (M : List Move) (stop : Option Stop) (k r : ℕ) → claim_by A P O M stop k ≡ Ok r → A P O (records_of M) r ≡ true

-- A rule that is claimed is claimable.
abbrev pub Claimable : Type 0
Claimable = (A : Admitting) (P : Plan) (O : Options) (M : List Move) (stop : Option Stop) (k r : ℕ) → claim_by A P O M stop k ≡ Ok r → is_claimable P O M stop k r ≡ true
