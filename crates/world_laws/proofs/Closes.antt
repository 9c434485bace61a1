-- A closed attempt keeps the invariant.
use Rattle.std.proofs.Common.{◌≡◌, ◌⊎◌, ℕ, Bool, true, false, cond, List, [], ◌∷◌, ◌++◌, Option, Some, None, refl, subst}
use Rattle.std.specs.Prelude.{slice_get, map}
use Rattle.flow_types.specs.declared.plan.Rule.{Rule}
use Rattle.flow_types.specs.declared.numbers.AttemptNo.{AttemptNo}
use Rattle.flow_types.specs.declared.job.Outcome.{Outcome}
use Rattle.flow_types.specs.declared.job.Outcome.TheVariants as outcomes
use Rattle.flow_types.specs.declared.records.Record.{Record}
use Rattle.flow_types.specs.declared.records.Record.TheVariants as records
use Rattle.flow_types.specs.Plans.{IsValid, makes}
use Rattle.flow_types.specs.Serial.{Contents, job_of, with_contents}
use Rattle.rule_graph.specs.Spelling.{plan_digest}
use Rattle.run_history.specs.Answers.{rule_no}
use Rattle.run_history.specs.History.{is_cleaned}
use Rattle.run_history.specs.Legal.{is_allowed, runs, are_within}
use Rattle.run_history.specs.declared.moves.Move.TheVariants as moves
use Rattle.run_history.proofs.Bools.{both}
use Rattle.run_history.proofs.Grows.{records-push}
use Rattle.world_laws.specs.Worlds.{World, records_in, logged, with_files, row_for, rule_at, closed_as, closed_at, closes}
use Rattle.world_laws.specs.Reach.{MayEnd}
use Rattle.world_laws.specs.Laws.{IsLocal, WentOut}
use Rattle.world_laws.proofs.Members.{every_append, every_one, stands_left}
use Rattle.world_laws.proofs.Grows.{keeps_more, record_grows}
use Rattle.world_laws.proofs.WorldSteps.{moved_kept}
use Rattle.world_laws.proofs.Records.{recorded_push}
use Rattle.world_laws.proofs.Files.{stored_done, stored_same}
use Rattle.world_laws.proofs.Bounds.{outs_within, outs_together, failure_at}
use Rattle.world_laws.proofs.Invariant.{Setting, due, IsOurOutcome, IsRightRecord, IsStored, IsKept}

-- one more record that is allowed, with what the master holds then
pub logged_kept : (S : Setting) (w : World) (x : Record) (contents : Contents) → IsKept S w → is_cleaned x ≡ false → is_allowed S.plan (plan_digest S.plan) (records_in w) x ≡ true
    → IsStored S (records_in w ++ (x ∷ [])) contents → IsRightRecord (records_in w) w.bag x → IsKept S (with_files (logged w x) contents)
logged_kept S w x contents kept more allowed stored right =
    let H : List Record = records_in w in
    let grown : List Record = H ++ (x ∷ []) in
    moved_kept S w (moves.Logged x) contents grown (records-push w.moves x) (keeps_more H (x ∷ [])) kept
    (recorded_push S.plan H x more allowed kept.recorded) stored
    (every_append (IsRightRecord grown w.bag) H (x ∷ [])
    (λ y there. record_grows H grown w.bag w.bag y (λ z here. stands_left z H (x ∷ []) here) (λ s here. here) (kept.closed y there))
    (every_one (IsRightRecord grown w.bag) x (record_grows H grown w.bag w.bag x (λ z here. stands_left z H (x ∷ []) here) (λ s here. here) right)))

-- where the Done of an attempt may come from
abbrev pub IsFrom : World → AttemptNo → Type 0
IsFrom w attempt = IsLocal (records_in w) attempt ⊎ WentOut w.bag attempt

as_kept : (S : Setting) (w : World) (r : ℕ) (rule : Rule) (attempt : AttemptNo) (outcome : Outcome) → IsValid S.plan → IsKept S w → slice_get S.plan.rules r ≡ Some rule
    → MayEnd S.gives S.may_fail (job_of S.plan rule (due S)) outcome → IsFrom w attempt → runs S.plan (records_in w) r attempt.0 ≡ true → IsKept S (closed_as S.plan w r attempt outcome)
as_kept S w r rule attempt (outcomes.Success outs) valid kept at ends from runs =
    let end = ends tt in
    let within : are_within S.plan (makes S.plan r) (map row_for outs) ≡ true = outs_within S.plan r rule outs at end.0.0 in
    logged_kept S w (records.Done 0 (rule_no r) attempt (map row_for outs)) (with_contents w.contents (makes S.plan r) outs) kept refl
    (both _ _ (both _ _ runs within) (outs_together S.plan r rule outs valid at end.0.0 end.0.1))
    (stored_done S (records_in w) w.contents 0 (rule_no r) attempt rule outs valid at within end.1 kept.stored)
    from
as_kept S w r rule attempt (outcomes.Failed why) valid kept at ends from runs =
    let end = ends tt in
    logged_kept S w (records.Failed 0 (rule_no r) attempt why) w.contents kept refl
    (both _ _ runs (failure_at S.plan r rule why at end.0))
    (stored_same S (records_in w) w.contents (records.Failed 0 (rule_no r) attempt why) refl refl (λ m. refl) kept.stored) tt
as_kept S w r rule attempt outcomes.NotRun valid kept at ends from runs =
    logged_kept S w (records.Lost 0 (rule_no r) attempt) w.contents kept refl runs
    (stored_same S (records_in w) w.contents (records.Lost 0 (rule_no r) attempt) refl refl (λ m. refl) kept.stored) tt

pub run_kept : (S : Setting) (w : World) (r : ℕ) (rule : Rule) (attempt : AttemptNo) (outcome : Outcome) (b : Bool) → IsValid S.plan → IsKept S w → slice_get S.plan.rules r ≡ Some rule
    → MayEnd S.gives S.may_fail (job_of S.plan rule (due S)) outcome → IsFrom w attempt → runs S.plan (records_in w) r attempt.0 ≡ b
    → IsKept S (cond b (closed_as S.plan w r attempt outcome) w)
run_kept S w r rule attempt outcome true valid kept at ends from runs = as_kept S w r rule attempt outcome valid kept at ends from runs
run_kept S w r rule attempt outcome false valid kept at ends from runs = kept

at_kept : (S : Setting) (w : World) (attempt : AttemptNo) (outcome : Outcome) (found : Option ℕ) → rule_at (records_in w) attempt.0 ≡ found → IsValid S.plan → IsKept S w
    → IsOurOutcome S (records_in w) attempt.0 outcome → IsFrom w attempt → IsKept S (closed_at S.plan w attempt outcome found)
at_kept S w attempt outcome None is valid kept ours from = kept
at_kept S w attempt outcome (Some r) is valid kept ours from =
    let started : rule_at (records_in w) attempt.0 ≡ Some ours.0.number = ours.0.started in
    let same : ours.0.number ≡ r = cc in
    run_kept S w r ours.0.rule attempt outcome (runs S.plan (records_in w) r attempt.0) valid kept (subst (λ n. slice_get S.plan.rules n ≡ Some ours.0.rule) same ours.0.in_plan) ours.1 from refl

-- An attempt is closed by an outcome of its job over the serial run's contents.
pub closes_kept : (S : Setting) (w : World) (attempt : AttemptNo) (outcome : Outcome) → IsValid S.plan → IsKept S w → IsOurOutcome S (records_in w) attempt.0 outcome → IsFrom w attempt
    → IsKept S (closes S.plan w attempt outcome)
closes_kept S w attempt outcome valid kept ours from = at_kept S w attempt outcome (rule_at (records_in w) attempt.0) refl valid kept ours from

lost_by : (S : Setting) (w : World) (r : ℕ) (attempt : AttemptNo) (b : Bool) → runs S.plan (records_in w) r attempt.0 ≡ b → IsKept S w
    → IsKept S (cond b (closed_as S.plan w r attempt outcomes.NotRun) w)
lost_by S w r attempt true runs kept =
    logged_kept S w (records.Lost 0 (rule_no r) attempt) w.contents kept refl runs
    (stored_same S (records_in w) w.contents (records.Lost 0 (rule_no r) attempt) refl refl (λ m. refl) kept.stored) tt
lost_by S w r attempt false runs kept = kept

-- A lost attempt needs no reason.
pub lost_kept : (S : Setting) (w : World) (attempt : AttemptNo) (found : Option ℕ) → IsKept S w → IsKept S (closed_at S.plan w attempt outcomes.NotRun found)
lost_kept S w attempt None kept = kept
lost_kept S w attempt (Some r) kept = lost_by S w r attempt (runs S.plan (records_in w) r attempt.0) refl kept
