-- A crash of the master, with what it cut short, and a resume.
use Rattle.std.proofs.Common.{◌≡◌, ℕ, Bool, true, false, cond, List, [], ◌∷◌, Some, None, map, refl, ap, sym, ◌∙◌, subst}
use Rattle.std.specs.Prelude.{slice_get, is_some}
use Rattle.flow_types.specs.declared.job.Outcome.{Outcome}
use Rattle.flow_types.specs.declared.records.Record.{Record}
use Rattle.flow_types.specs.Plans.{IsValid}
use Rattle.flow_types.specs.Serial.{Contents}
use Rattle.rule_graph.specs.Spelling.{plan_digest}
use Rattle.run_history.specs.declared.moves.Move.TheVariants as moves
use Rattle.run_history.specs.declared.options.Options.{Options}
use Rattle.run_history.specs.Legal.{is_allowed}
use Rattle.run_history.specs.Links.{records_of}
use Rattle.run_history.specs.Storage.{is_present, wanted}
use Rattle.world_laws.specs.declared.events.Cut.{Cut}
use Rattle.world_laws.specs.declared.events.Cut.TheVariants as cuts
use Rattle.world_laws.specs.declared.events.WorldEvent.TheVariants as events
use Rattle.world_laws.specs.Members.{Every}
use Rattle.world_laws.specs.Worlds.{World, records_in, rule_at, logged, claimed_rule, cut_short, present_only, stopped, going_on, resumption, resumes, job_run}
use Rattle.world_laws.specs.Reach.{MayAnswer}
use Rattle.world_laws.proofs.Closes.{logged_kept, lost_kept}
use Rattle.world_laws.proofs.Files.{stored_same}
use Rattle.world_laws.proofs.Deliveries.{delivery_logged_kept}
use Rattle.world_laws.proofs.Claims.{claim_logged_kept}
use Rattle.world_laws.proofs.Collects.{drop_logged_kept}
use Rattle.world_laws.proofs.Ends.{ends_kept}
use Rattle.world_laws.proofs.Locals.{runs_local_kept}
use Rattle.world_laws.proofs.Invariant.{Setting, due, IsRight, IsRightRecord, IsRecorded, IsStored, IsKept}

-- records as moves are these records
pub records_again : (H : List Record) → records_of (map moves.Logged H) ≡ H
records_again [] = refl
records_again (x ∷ xs) = ap (λ ys. x ∷ ys) (records_again xs)

only_sound : (S : Setting) (contents : Contents) (f : ℕ) (content : List ℕ) (b : Bool) → (contents f ≡ Some content → due S f ≡ Some content) → cond b (contents f) None ≡ Some content → due S f ≡ Some content
only_sound S contents f content true sound got = sound got
only_sound S contents f content false sound got = absurd (let h : ⊥ = cc in h)

-- what is left of a stopped master
stopped_stored : (S : Setting) (H : List Record) (contents : Contents) → IsStored S H contents → IsStored S H (present_only S.plan H contents)
stopped_stored S H contents old = record {
  sound = λ f content got. only_sound S contents f content (is_present S.plan H f) (old.sound f content) got;
  present = λ f there. ap (λ b. is_some (cond b (contents f) None)) there ∙ old.present f there;
}

pub stopped_kept : (S : Setting) (w : World) → IsKept S w → IsKept S (stopped S.plan w)
stopped_kept S w kept =
    let same : records_in w ≡ records_of (map moves.Logged (records_in w)) = sym (records_again (records_in w)) in
    record {
      recorded = subst (IsRecorded S.plan) same kept.recorded;
      stored = subst (λ H. IsStored S H (present_only S.plan (records_in w) w.contents)) same (stopped_stored S (records_in w) w.contents kept.stored);
      sent = subst (λ H. Every (IsRight S H w.bag) w.bag) same kept.sent;
      peers = kept.peers;
      closed = subst (λ H. Every (IsRightRecord H w.bag) H) same kept.closed;
    }

-- what a cut leaves
pub cut_kept : (S : Setting) (O : Options) (w : World) (cut : Cut) (outcome : Outcome) → IsValid S.plan → MayAnswer S.gives S.may_fail (job_run S.plan w (events.Crash cut)) outcome
    → IsKept S w → IsKept S (cut_short S.plan O w cut outcome)
cut_kept S O w cuts.Nothing outcome valid ends kept = kept
cut_kept S O w (cuts.Claim link) outcome valid ends kept = claim_logged_kept S O w link.0 (claimed_rule S.plan O w link.0) refl kept
cut_kept S O w (cuts.RunLocal attempt) outcome valid ends kept = runs_local_kept S w attempt outcome valid kept ends
cut_kept S O w cuts.Collect outcome valid ends kept = drop_logged_kept S O.mode w (wanted S.plan O.mode (records_in w)) refl kept
cut_kept S O w cuts.End outcome valid ends kept = ends_kept S O w kept
cut_kept S O w (cuts.Deliver n) outcome valid ends kept = delivery_logged_kept S w n (slice_get w.bag n) refl valid kept
cut_kept S O w (cuts.Lose attempt) outcome valid ends kept = lost_kept S w attempt (rule_at (records_in w) attempt.0) kept

going_kept : (S : Setting) (w : World) → IsKept S w → IsKept S (going_on w)
going_kept S w kept = record { recorded = kept.recorded; stored = kept.stored; sent = kept.sent; peers = kept.peers; closed = kept.closed }

resumed_kept : (S : Setting) (O : Options) (w : World) (before : List Record) → IsKept S w → records_in w ≡ before
    → is_allowed S.plan (plan_digest S.plan) before (resumption O before) ≡ true → IsKept S (going_on (logged w (resumption O before)))
resumed_kept S O w before kept is allowed =
    let x : Record = resumption O before in
    going_kept S (logged w x) (logged_kept S w x w.contents kept refl (ap (λ H. is_allowed S.plan (plan_digest S.plan) H x) is ∙ allowed)
    (stored_same S (records_in w) w.contents x refl refl (λ m. refl) kept.stored) tt)

resumes_by : (S : Setting) (O : Options) (w : World) (b : Bool) → is_allowed S.plan (plan_digest S.plan) (records_in w) (resumption O (records_in w)) ≡ b → IsKept S w
    → IsKept S (cond b (going_on (logged (stopped S.plan w) (resumption O (records_in w)))) w)
resumes_by S O w true allowed kept = resumed_kept S O (stopped S.plan w) (records_in w) (stopped_kept S w kept) (records_again (records_in w)) allowed
resumes_by S O w false allowed kept = kept

-- a resume
pub resumes_kept : (S : Setting) (O : Options) (w : World) → IsKept S w → IsKept S (resumes S.plan O w)
resumes_kept S O w kept = resumes_by S O w _ refl kept
