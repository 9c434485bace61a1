-- A claim: its start is allowed, and keeps the invariant.
use Rattle.std.proofs.Common.{◌≡◌, ℕ, Bool, true, false, cond, Option, Some, None, refl, ap}
use Rattle.std.specs.Prelude.{Result, Ok, Err, find, map}
use Rattle.std.proofs.lemmas.Bool.{and_parts}
use Rattle.flow_types.specs.declared.job.Task.{Task}
use Rattle.rule_graph.specs.Spelling.{plan_digest}
use Rattle.run_history.specs.declared.answers.Nothing.{Nothing}
use Rattle.run_history.specs.declared.options.Options.{Options}
use Rattle.run_history.specs.Answers.{claim_of, rule_no}
use Rattle.run_history.specs.Legal.{is_allowed}
use Rattle.run_history.specs.Links.{is_live}
use Rattle.run_history.proofs.Claims.{claim-follows}
use Rattle.link_session.specs.Keys.{lacking}
use Rattle.link_session.specs.Sessions.{started}
use Rattle.world_laws.specs.Worlds.{World, Connection, records_in, sent_more, session_set, puts_and_task, task_at, dispatched, taken, claimed_rule, link_no, start_of, attempt_in, claim_logged, claims, at_link}
use Rattle.world_laws.proofs.WorldSteps.{sent_kept, connections_kept}
use Rattle.world_laws.proofs.Files.{stored_same}
use Rattle.world_laws.proofs.Closes.{logged_kept}
use Rattle.world_laws.proofs.Deliveries.{puts_right, task_right}
use Rattle.world_laws.proofs.Invariant.{Setting, IsOurTask, IsKept}

taken_is : (answer : Result ℕ Nothing) (r : ℕ) → taken answer ≡ Some r → answer ≡ Ok r
taken_is (Err why) r is = absurd (let h : ⊥ = cc in h)
taken_is (Ok q) r is = let same : q ≡ r = cc in ap Ok same

claimed_by : (answer : Result ℕ Nothing) (r : ℕ) (lives : Bool) → cond lives (taken answer) None ≡ Some r → (lives ≡ true) × (answer ≡ Ok r)
claimed_by answer r true is = (refl, taken_is answer r is)
claimed_by answer r false is = absurd (let h : ⊥ = cc in h)

-- the start of the rule that a claim takes is allowed
start_allowed : (S : Setting) (O : Options) (w : World) (k r : ℕ) → claimed_rule S.plan O w k ≡ Some r → IsKept S w → is_allowed S.plan (plan_digest S.plan) (records_in w) (start_of w k r) ≡ true
start_allowed S O w k r is kept =
    let why = claimed_by (claim_of S.plan O w.moves None k) r (is_live O w.moves k) is in
    (and_parts _ _ (claim-follows S.plan (plan_digest S.plan) O w.moves None (rule_no r) 0 (link_no k) kept.recorded.opened why.0 why.1)).0

dispatched_kept : (S : Setting) (w : World) (connection : Option Connection) (task : Option Task) → ((t : Task) → task ≡ Some t → IsOurTask S (records_in w) t) → IsKept S w
    → IsKept S (dispatched w connection task)
dispatched_kept S w None task ours kept = kept
dispatched_kept S w (Some c) None ours kept = kept
dispatched_kept S w (Some c) (Some t) ours kept =
    let files = lacking c.session.known t.run t.inputs in
    let more : World = sent_more w (puts_and_task w c.peer files t) in
    connections_kept S more (map (session_set c.link (started c.session t)) w.connections)
    (sent_kept S w (puts_and_task w c.peer files t) kept (puts_right S w c.peer files t kept (ours t refl)))

-- what a claim logs
pub claim_logged_kept : (S : Setting) (O : Options) (w : World) (k : ℕ) (found : Option ℕ) → claimed_rule S.plan O w k ≡ found → IsKept S w → IsKept S (claim_logged w k found)
claim_logged_kept S O w k None is kept = kept
claim_logged_kept S O w k (Some r) is kept =
    logged_kept S w (start_of w k r) w.contents kept refl (start_allowed S O w k r is kept)
    (stored_same S (records_in w) w.contents (start_of w k r) refl refl (λ m. refl) kept.stored) tt

-- a claim
pub claims_kept : (S : Setting) (O : Options) (w : World) (k : ℕ) (found : Option ℕ) → claimed_rule S.plan O w k ≡ found → IsKept S w → IsKept S (claims S.plan w k found)
claims_kept S O w k None is kept = kept
claims_kept S O w k (Some r) is kept =
    let attempt = attempt_in (start_of w k r) in
    let world : World = claim_logged w k (Some r) in
    dispatched_kept S world (find (at_link k) world.connections) (task_at S.plan (records_in world) attempt) (λ t is. task_right S (records_in world) attempt t is)
    (claim_logged_kept S O w k (Some r) is kept)
