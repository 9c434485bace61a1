-- A job that the master runs itself.
use Rattle.std.proofs.Common.{◌≡◌, inl, ℕ, ◌<◌, Bool, true, false, cond, ◌||◌, zero, suc, List, [], ◌∷◌, length, Option, Some, None, map, refl, ap, sym, ◌∙◌, subst, arith}
use Rattle.std.specs.Prelude.{slice_get, is_some, ◌==◌, unwrap_or}
use Rattle.std.specs.Option.{option_map, option_map_or}
use Rattle.std.proofs.lemmas.Bool.{and_parts, eqb-true, ltb-true}
use Rattle.flow_types.specs.declared.plan.Rule.{Rule}
use Rattle.flow_types.specs.declared.plan.Port.{Port}
use Rattle.flow_types.specs.declared.job.Given.{Given}
use Rattle.flow_types.specs.declared.job.Job.{Job}
use Rattle.flow_types.specs.declared.job.Outcome.{Outcome}
use Rattle.flow_types.specs.declared.numbers.AttemptNo.{AttemptNo}
use Rattle.flow_types.specs.declared.numbers.LinkNo.{LinkNo}
use Rattle.flow_types.specs.declared.records.Record.TheVariants as records
use Rattle.flow_types.specs.Plans.{IsValid, files_of, takes, contains_number}
use Rattle.flow_types.specs.Serial.{Contents, job_of}
use Rattle.rule_graph.specs.Spelling.{plan_digest}
use Rattle.run_history.specs.Legal.{runs}
use Rattle.run_history.specs.States.{Place, running_in, rule_state}
use Rattle.run_history.specs.Storage.{is_present, is_running}
use Rattle.run_history.proofs.Inputs.{all_contains, self_is, or_either, running-inputs}
use Rattle.run_history.proofs.Limits.{runs_running}
use Rattle.world_laws.specs.Members.{Stands}
use Rattle.world_laws.specs.Worlds.{World, records_in, rule_at, the_rule, want_at, job_at, link_no, is_place, runs_at, is_local, runs_local, closed_at, closed_as}
use Rattle.world_laws.specs.Reach.{MayEnd, MayAnswer}
use Rattle.world_laws.proofs.PeerSteps.{given_in, given}
use Rattle.world_laws.proofs.Records.{running_stands}
use Rattle.world_laws.proofs.Closes.{IsFrom, run_kept}
use Rattle.world_laws.proofs.Invariant.{Setting, due, IsKept}

true_ne_false : true ≡ false → ⊥
true_ne_false h = cc

get_inside : {A : Type 0} (xs : List A) (n : ℕ) → n < length xs → slice_get xs n ≡ None → ⊥
get_inside [] n inside none = omega (arith, inside)
get_inside (x ∷ xs) zero inside none = cc
get_inside (x ∷ xs) (suc n) inside none = get_inside xs n (omega (arith, inside)) none

-- ---- the job

same_file : (held due : Option (List ℕ)) → is_some held ≡ true → ((content : List ℕ) → held ≡ Some content → due ≡ Some content) → unwrap_or held [] ≡ unwrap_or due []
same_file None due some is = absurd (true_ne_false (sym some))
same_file (Some content) due some is = ap (λ o. unwrap_or o []) (sym (is content refl))

-- contents that agree where they are asked give the same inputs
same_inputs : (held contents : Contents) (ports : List Port) → ((f : ℕ) → contains_number f (files_of ports) ≡ true → is_some (held f) ≡ true)
    → ((f : ℕ) (content : List ℕ) → held f ≡ Some content → contents f ≡ Some content) → given_in held ports ≡ given_in contents ports
same_inputs held contents [] has is = refl
same_inputs held contents (port ∷ ports) has is =
    let here : unwrap_or (held port.file.0) [] ≡ unwrap_or (contents port.file.0) [] =
    same_file (held port.file.0) (contents port.file.0) (has port.file.0 (ap (λ b. b || contains_number port.file.0 (files_of ports)) (self_is port.file.0))) (is port.file.0) in
    ap (λ (content : List ℕ). given port content ∷ given_in held ports) here
    ∙ ap (λ (more : List Given). given port (unwrap_or (contents port.file.0) []) ∷ more)
    (same_inputs held contents ports (λ f there. has f (or_either (port.file.0 == f) (contains_number f (files_of ports)) there)) is)

-- the job over what the master holds is that over the serial run's contents, for a rule that runs
local_job : (S : Setting) (w : World) (r : ℕ) (rule : Rule) → IsKept S w → slice_get S.plan.rules r ≡ Some rule → is_running (records_in w) r ≡ true
    → job_of S.plan rule w.contents ≡ job_of S.plan rule (due S)
local_job S w r rule kept at runs =
    let taken : files_of rule.inputs ≡ takes S.plan r = sym (ap (λ found. option_map_or (λ rule. files_of rule.inputs) found []) at) in
    let present = running-inputs S.plan (plan_digest S.plan) (records_in w) r kept.recorded.legal runs in
    ap (λ (inputs : List Given). let job : Job = record { command = rule.command; env = rule.env; inputs = inputs; outputs = map (want_at S.plan) rule.outputs } in job)
    (same_inputs w.contents (due S) rule.inputs
    (λ f there. kept.stored.present f (all_contains (is_present S.plan (records_in w)) (takes S.plan r) f present (ap (contains_number f) (sym taken) ∙ there)))
    kept.stored.sound)

-- ---- the end

from_local : (w : World) (r : ℕ) (attempt : AttemptNo) (place : Option Place) → running_in (records_in w) r ≡ place
    → option_map_or (is_place attempt.0 0) place false ≡ true → IsFrom w attempt
from_local w r attempt None at is = absurd (true_ne_false (sym is))
from_local w r attempt (Some place) at is =
    let parts = and_parts _ _ is in
    let started = running_stands (records_in w) r place at in
    let one : place.0 ≡ attempt = ap (λ n. let a : AttemptNo = record { 0 = n } in a) (eqb-true place.0.0 attempt.0 parts.0) in
    let link : place.1 ≡ link_no 0 = ap (λ n. let k : LinkNo = record { 0 = n } in k) (eqb-true place.1.0 0 parts.1) in
    inl (
      started.1,
      (
        started.0,
        subst (λ k. Stands (records.Started started.1 started.0 attempt k) (records_in w)) link
            (subst (λ a. Stands (records.Started started.1 started.0 a place.1) (records_in w)) one started.2),
      ),
    )

rule_kept : (S : Setting) (w : World) (r : ℕ) (rule : Option Rule) (attempt : AttemptNo) (outcome : Outcome) (b : Bool) → IsValid S.plan → IsKept S w → slice_get S.plan.rules r ≡ rule
    → MayAnswer S.gives S.may_fail (option_map (λ rule. job_of S.plan rule w.contents) rule) outcome → IsFrom w attempt → runs S.plan (records_in w) r attempt.0 ≡ b
    → IsKept S (cond b (closed_as S.plan w r attempt outcome) w)
rule_kept S w r rule attempt outcome false valid kept at ends from runs = kept
rule_kept S w r None attempt outcome true valid kept at ends from runs =
    absurd (get_inside S.plan.rules r (ltb-true r (length S.plan.rules) (and_parts _ _ runs).0) at)
rule_kept S w r (Some rule) attempt outcome true valid kept at ends from runs =
    let going : is_running (records_in w) r ≡ true = runs_running (rule_state (records_in w) r) attempt.0 (and_parts _ _ runs).1 in
    run_kept S w r rule attempt outcome true valid kept at (subst (λ job. MayEnd S.gives S.may_fail job outcome) (local_job S w r rule kept at going) ends) from runs

local_by : (S : Setting) (w : World) (attempt : AttemptNo) (outcome : Outcome) (found : Option ℕ) (b : Bool)
    → option_map_or (runs_at (records_in w) attempt.0 0) found false ≡ b → IsValid S.plan → IsKept S w
    → MayAnswer S.gives S.may_fail (option_map (λ rule. job_of S.plan rule w.contents) (the_rule S.plan found)) outcome → IsKept S (cond b (closed_at S.plan w attempt outcome found) w)
local_by S w attempt outcome found false is valid kept ends = kept
local_by S w attempt outcome None true is valid kept ends = kept
local_by S w attempt outcome (Some r) true is valid kept ends =
    rule_kept S w r (slice_get S.plan.rules r) attempt outcome (runs S.plan (records_in w) r attempt.0) valid kept refl ends
    (from_local w r attempt (running_in (records_in w) r) refl is) refl

-- a run of an attempt on the local place
pub runs_local_kept : (S : Setting) (w : World) (attempt : AttemptNo) (outcome : Outcome) → IsValid S.plan → IsKept S w
    → MayAnswer S.gives S.may_fail (job_at S.plan w attempt) outcome → IsKept S (runs_local S.plan w attempt outcome)
runs_local_kept S w attempt outcome valid kept ends =
    local_by S w attempt outcome (rule_at (records_in w) attempt.0) (is_local (records_in w) attempt.0) refl valid kept ends
