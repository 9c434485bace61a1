-- What a claim that takes a rule tells of it.
use Rattle.std.proofs.Common.{length-append, ◌≡◌, ◌≤◌, ◌+◌, ◌∙◌, ℕ, Bool, true, false, cond, ◌&&◌, List, [], ◌∷◌, ◌++◌, length, Option, Some, None, Ok, Err, refl, sym, ap, subst, arith, true≢false}
use Rattle.std.specs.Prelude.{◌==◌, is_some, is_none}
use Rattle.std.specs.Option.{option_map_or}
use Rattle.std.proofs.lemmas.Bool.{eqb-false}
use Rattle.flow_types.specs.declared.plan.Plan.{Plan}
use Rattle.flow_types.specs.declared.numbers.RuleNo.{RuleNo}
use Rattle.flow_types.specs.declared.numbers.AttemptNo.{AttemptNo}
use Rattle.flow_types.specs.declared.numbers.LinkNo.{LinkNo}
use Rattle.flow_types.specs.declared.numbers.Content.{Content}
use Rattle.flow_types.specs.declared.records.Record.{Record}
use Rattle.flow_types.specs.declared.records.Record.TheVariants as records
use Rattle.flow_types.specs.Plans.{is_empty}
use Rattle.run_history.specs.declared.options.Options.{Options}
use Rattle.run_history.specs.declared.moves.Move.{Move}
use Rattle.run_history.specs.declared.moves.Move.TheVariants as moves
use Rattle.run_history.specs.declared.answers.Stop.{Stop}
use Rattle.run_history.specs.declared.states.RuleState.TheVariants as rule
use Rattle.run_history.specs.History.{part}
use Rattle.run_history.specs.States.{Place, outs_of, running_in, unfinished_state}
use Rattle.run_history.specs.Storage.{is_waiting, is_waiting_state}
use Rattle.run_history.specs.Admissions.{Admitting, claim_by}
use Rattle.run_history.specs.Links.{is_live, records_of}
use Rattle.run_history.specs.Laws.{started_as}
use Rattle.run_history.proofs.Grows.{records-push}
use Rattle.run_history.proofs.Steps.{outs-push, running-is, running-push}
use Rattle.rule_graph.specs.Spelling.{plan_digest}
use Rattle.run_history.specs.Moves.{may_follow}
use Rattle.task_core.proofs.Permits.{claim-claimable}
use Rattle.desk.proofs.Taking.{claimable_follows}
use Rattle.flow_types.specs.declared.job.Job.{Job}
use Rattle.flow_types.specs.declared.job.Failure.{Failure}
use Rattle.flow_types.specs.Serial.{Contents, Function}
use Rattle.desk.specs.declared.answers.Claim.TheVariants as claims
use Rattle.desk.specs.declared.answers.ClaimRefused.{ClaimRefused}
use Rattle.desk.specs.declared.answers.ClaimRefused.TheVariants as refused
use Rattle.outside.specs.Disk.{Outcomes}
use Rattle.outside.specs.Files.{Files}
use Rattle.desk.specs.declared.attempt.Attempt.{Attempt}
use Rattle.desk.specs.Claims.{ClaimsBy}
use Rattle.desk.specs.State.{DeskState, is_place, runs_with}
use Rattle.local_run.specs.Collecting.{IsUntouched}
use Rattle.local_run.specs.Course.{GoesOn, LeavesAlone}
use Rattle.local_run.proofs.Closings.{breaks_goes, spares_goes}
use Rattle.local_run.proofs.Going.{adds, adds_plain}

itself : (n : ℕ) → (n == n) ≡ true
itself n = by_itself (n == n) refl
  where
    by_itself : (b : Bool) → (n == n) ≡ b → b ≡ true
    by_itself true is = refl
    by_itself false is = absurd (eqb-false n n is refl)

no_outs : (outs : Option (List Content)) (running : Option Place) (failed : Bool) → is_waiting_state (option_map_or (λ o. rule.Complete) outs (unfinished_state running failed)) ≡ true → outs ≡ None
no_outs (Some outs) running failed is = absurd (true≢false (sym is))
no_outs None running failed is = refl

-- the rule that was started runs with its attempt
pub runs_started : (H : List Record) (moment : ℕ) (r : RuleNo) (attempt : AttemptNo) (link : LinkNo) → is_waiting H r.0 ≡ true
    → runs_with (H ++ (records.Started moment r attempt link ∷ [])) r.0 attempt.0 link.0 ≡ true
runs_started H moment r attempt link waits =
    let x : Record = records.Started moment r attempt link in
    let runs : running_in (H ++ (x ∷ [])) r.0 ≡ Some (attempt, link) =
    running-push H x r.0 refl refl ∙ ap (λ b. option_map_or (λ running. running) (cond b (Some (Some (attempt, link))) None) (running_in H r.0)) (itself r.0) in
    let outs : outs_of (H ++ (x ∷ [])) r.0 ≡ None = outs-push H x r.0 refl ∙ no_outs (outs_of H r.0) (running_in H r.0) _ waits in
    ap (λ b. b && option_map_or (is_place attempt.0 link.0) (running_in (H ++ (x ∷ [])) r.0) false)
    (running-is (H ++ (x ∷ [])) r.0 ∙ ap (λ o. is_none o && is_some (running_in (H ++ (x ∷ [])) r.0)) outs ∙ ap (λ p. is_some p) runs)
    ∙ ap (λ p. option_map_or (is_place attempt.0 link.0) p false) runs
    ∙ ap (λ b. b && (link.0 == link.0)) (itself attempt.0) ∙ itself link.0

-- What a claim with an admission answers may follow.
pub claim_follows : (A : Admitting) (P : Plan) (O : Options) (M : List Move) (stop : Option Stop) (r : RuleNo) (moment : ℕ) (link : LinkNo) → is_empty (part (records_of M)) ≡ false → is_live O M link.0 ≡ true
    → claim_by A P O M stop link.0 ≡ Ok r.0 → may_follow P (plan_digest P) O M (moves.Logged (started_as M r moment link)) ≡ true
claim_follows A P O M stop r moment link opened lives chosen = claimable_follows P (plan_digest P) O M stop r moment link opened lives (claim-claimable A P O M stop link.0 r.0 chosen)

module _ {S : Type 0} (trust : Type 0) (gives : Function) (may_fail : Job → Failure → Type 0) (sources : Contents) (tells : Type 0) (files : S → Files) (may_leave : S → Outcomes) (moment : S → ℕ)
    (images_since : S → ℕ → Files → Type 0) where
  abbrev pub Goes : DeskState S → DeskState S → Type 0
  Goes d after = GoesOn trust gives may_fail sources tells files may_leave moment images_since [] d after

  abbrev pub Alone : DeskState S → S → Type 0
  Alone d s = tells → LeavesAlone files may_leave moment images_since (IsUntouched d.plan d.log (records_of d.moves)) d.site s

  pub taken_goes : (A : Admitting) (count : S → ℕ) (d after : DeskState S) (attempt : Attempt) (link : LinkNo) (time : ℕ) → Alone d after.site → ClaimsBy A count d link time (Ok (claims.Taken attempt)) after → Goes d after
  taken_goes A count d after attempt link time others h =
      subst (λ (a : DeskState S). Alone d a.site → Goes d a) (sym h.2.5)
      (adds trust gives may_fail sources tells files may_leave moment images_since d (started_as d.moves attempt.rule time link) d.stop after.site (λ trusted. tt) (λ none. none) (adds_plain d.moves d.stop (started_as d.moves attempt.rule time link) (λ none. refl)) refl (λ f. refl)) others

  pub claim_breaks : (A : Admitting) (count : S → ℕ) (d after : DeskState S) (link : LinkNo) (time : ℕ) (why : ClaimRefused) → Alone d after.site → ClaimsBy A count d link time (Err why) after → Goes d after
  claim_breaks A count d after link time (refused.Broken before now) others h =
      breaks_goes trust gives may_fail sources tells files may_leave moment images_since count d d.stop before now after (λ none. none) others h
  claim_breaks A count d after link time refused.Memory others h = spares_goes trust gives may_fail sources tells files may_leave moment images_since d after others h

pub taken_longer : {S : Type 0} (A : Admitting) (count : S → ℕ) (d after : DeskState S) (attempt : Attempt) (link : LinkNo) (moment : ℕ) → ClaimsBy A count d link moment (Ok (claims.Taken attempt)) after
    → length (records_of d.moves) + 1 ≤ length (records_of after.moves)
taken_longer {S} A count d after attempt link moment h =
    let x = started_as d.moves attempt.rule moment link in
    let same = ap (λ (a : DeskState S). length (records_of a.moves)) h.2.5 in
    let more = ap length (records-push d.moves x) in
    omega (arith, same, more, length-append (records_of d.moves) (x ∷ []))
