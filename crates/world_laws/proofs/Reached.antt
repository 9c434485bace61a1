-- Every event keeps the invariant, and the first world has it.
use Rattle.std.proofs.Common.{◌≡◌, ◌⊎◌, inl, inr, ℕ, Bool, true, false, cond, List, [], ◌∷◌, Option, Some, None, refl, ap, sym, ◌∙◌, subst}
use Rattle.std.specs.Prelude.{◌||◌, slice_get, map, is_some, is_none, nat_le, length, ◌==◌, unwrap_or, bytes_eq}
use Rattle.std.specs.List.{list_all}
use Rattle.std.specs.Option.{option_map_or}
use Rattle.std.proofs.lemmas.Bool.{eqb-true, eq-eqb}
use Rattle.std.proofs.lemmas.List.{length-map}
use Rattle.flow_types.specs.declared.plan.Plan.{Plan}
use Rattle.flow_types.specs.declared.numbers.AttemptNo.{AttemptNo}
use Rattle.flow_types.specs.declared.numbers.Content.{Content}
use Rattle.flow_types.specs.declared.job.Job.{Job}
use Rattle.flow_types.specs.declared.job.Outcome.{Outcome}
use Rattle.flow_types.specs.declared.job.Outcome.TheVariants as outcomes
use Rattle.flow_types.specs.declared.job.Task.{Task}
use Rattle.flow_types.specs.declared.records.Record.{Record}
use Rattle.flow_types.specs.Plans.{IsValid, is_source, maker_of, sources_of, file_numbers, most_bytes}
use Rattle.flow_types.specs.Serial.{Contents, Function, given_by, of_sources, job_of}
use Rattle.flow_types.proofs.SerialRun.{serial-source}
use Rattle.link_session.specs.Sessions.{State}
use Rattle.links.specs.Honesty.{task_job}
use Rattle.rule_graph.specs.Spelling.{plan_digest}
use Rattle.run_history.specs.declared.options.Options.{Options}
use Rattle.run_history.specs.Moves.{join_refusal}
use Rattle.run_history.specs.States.{row_of, present_with, made_state}
use Rattle.run_history.specs.Storage.{wanted, size_in}
use Rattle.run_history.proofs.Bools.{both}
use Rattle.foreman_core.specs.Steps.{renumbered}
use Rattle.world_laws.specs.declared.events.Joiner.{Joiner}
use Rattle.flow_types.specs.declared.messages.Message.{Message}
use Rattle.flow_types.specs.declared.messages.Message.TheVariants as messages
use Rattle.world_peers.specs.declared.sent.Party.{Party}
use Rattle.world_peers.specs.declared.sent.Party.TheVariants.{Master, Peer}
use Rattle.world_peers.specs.declared.sent.Sent.{Sent}
use Rattle.world_laws.specs.declared.events.WorldEvent.{WorldEvent}
use Rattle.world_laws.specs.declared.events.WorldEvent.TheVariants as events
use Rattle.world_laws.specs.Members.{Stands}
use Rattle.world_peers.specs.declared.member.Member.{Member}
use Rattle.world_peers.specs.declared.member.Member.TheVariants.{Leads, Works}
use Rattle.world_peers.specs.Company.{party_of}
use Rattle.world_peers.specs.Peers.{told_to}
use Rattle.world_laws.specs.Worlds.{World, records_in, rule_at, comes_below, joins, claimed_rule, happens, happens_up, happens_down, cut_short, job_run}
use Rattle.world_peers.specs.Runs.{Failures}
use Rattle.world_laws.specs.Reach.{MayAnswer, Reaches, first_world, opening, source_logged}
use Rattle.world_laws.specs.Laws.{AreSources, IsTrueWorld, EveryWorldIsTrue, EveryAnswerIsOfItsJob, EveryPeerRunsItsJobs, EveryReportFits, EventsCompose, EventsLeadOn, IsReport, TellsTo, task_sent}
use Rattle.world_laws.proofs.Members.{every_nil, every_one, stands_filter}
use Rattle.world_laws.proofs.WorldSteps.{place_right, ran_on_kept}
use Rattle.world_laws.proofs.Deliveries.{delivered_kept}
use Rattle.world_laws.proofs.Claims.{claims_kept}
use Rattle.world_laws.proofs.Collects.{collects_kept}
use Rattle.world_laws.proofs.Ends.{ends_kept}
use Rattle.world_laws.proofs.Links.{joins_kept, loses_link_kept, evicts_kept}
use Rattle.world_laws.proofs.Locals.{runs_local_kept}
use Rattle.world_laws.proofs.Crashes.{stopped_kept, cut_kept, resumes_kept}
use Rattle.world_laws.proofs.Invariant.{Setting, due, IsOurAnswer, IsOurTask, IsRight, IsRightPeer, IsRightPlace, IsRightRecord, IsStored, IsRecorded, IsKept}

true_ne_false : true ≡ false → ⊥
true_ne_false h = cc

join_by : (S : Setting) (w : World) (joiner : Joiner) (b : Bool) → IsKept S w → IsKept S (cond b (joins w joiner) w)
join_by S w joiner true kept = joins_kept S w joiner kept
join_by S w joiner false kept = kept

up_kept : (S : Setting) (O : Options) (w : World) (e : WorldEvent) (outcome : Outcome) → IsValid S.plan → MayAnswer S.gives S.may_fail (job_run S.plan w e) outcome → IsKept S w
    → IsKept S (happens_up S.plan O w e outcome)
up_kept S O w (events.Join joiner) outcome valid ends kept = join_by S w joiner (comes_below w joiner || is_none (join_refusal O w.moves)) kept
up_kept S O w (events.Claim link) outcome valid ends kept = claims_kept S O w link.0 (claimed_rule S.plan O w link.0) refl kept
up_kept S O w (events.RunLocal attempt) outcome valid ends kept = runs_local_kept S w attempt outcome valid kept ends
up_kept S O w events.Collect outcome valid ends kept = collects_kept S O.mode w (wanted S.plan O.mode (records_in w)) refl kept
up_kept S O w events.End outcome valid ends kept = ends_kept S O w kept
up_kept S O w (events.Deliver n) outcome valid ends kept = delivered_kept S w n (slice_get w.bag n) refl valid kept
up_kept S O w (events.LoseLink link) outcome valid ends kept = loses_link_kept S w link.0 kept
up_kept S O w (events.Evict p) outcome valid ends kept = evicts_kept S w p kept
up_kept S O w (events.Run p) outcome valid ends kept = ran_on_kept S w p outcome (slice_get w.peers p) refl ends kept
up_kept S O w (events.Crash cut) outcome valid ends kept = stopped_kept S (cut_short S.plan O w cut outcome) (cut_kept S O w cut outcome valid ends kept)
up_kept S O w events.Resume outcome valid ends kept = resumes_kept S O w kept

down_kept : (S : Setting) (O : Options) (w : World) (e : WorldEvent) (outcome : Outcome) → MayAnswer S.gives S.may_fail (job_run S.plan w e) outcome → IsKept S w
    → IsKept S (happens_down S.plan O w e outcome)
down_kept S O w (events.Evict p) outcome ends kept = evicts_kept S w p kept
down_kept S O w (events.Run p) outcome ends kept = ran_on_kept S w p outcome (slice_get w.peers p) refl ends kept
down_kept S O w events.Resume outcome ends kept = resumes_kept S O w kept
down_kept S O w (events.Join joiner) outcome ends kept = kept
down_kept S O w (events.Claim link) outcome ends kept = kept
down_kept S O w (events.RunLocal attempt) outcome ends kept = kept
down_kept S O w events.Collect outcome ends kept = kept
down_kept S O w events.End outcome ends kept = kept
down_kept S O w (events.Deliver n) outcome ends kept = kept
down_kept S O w (events.LoseLink link) outcome ends kept = kept
down_kept S O w (events.Crash cut) outcome ends kept = kept

either_kept : (S : Setting) (O : Options) (w : World) (e : WorldEvent) (outcome : Outcome) (up : Bool) → IsValid S.plan → MayAnswer S.gives S.may_fail (job_run S.plan w e) outcome
    → IsKept S w → IsKept S (cond up (happens_up S.plan O w e outcome) (happens_down S.plan O w e outcome))
either_kept S O w e outcome true valid ends kept = up_kept S O w e outcome valid ends kept
either_kept S O w e outcome false valid ends kept = down_kept S O w e outcome ends kept

-- Every event keeps the invariant.
pub happens_kept : (S : Setting) (O : Options) (w : World) (e : WorldEvent) (outcome : Outcome) → IsValid S.plan → MayAnswer S.gives S.may_fail (job_run S.plan w e) outcome → IsKept S w
    → IsKept S (happens S.plan O w e outcome)
happens_kept S O w e outcome valid ends kept = either_kept S O w e outcome w.up valid ends kept

-- So does every list of events.
pub reaches_kept : (S : Setting) (O : Options) (es : List WorldEvent) (w v : World) → IsValid S.plan → IsKept S w → Reaches S.plan O S.gives S.may_fail w es v → IsKept S v
reaches_kept S O [] w v valid kept reached = subst (IsKept S) (sym reached) kept
reaches_kept S O (e ∷ es) w v valid kept reached =
    reaches_kept S O es (happens S.plan O w e reached.0) v valid (happens_kept S O w e reached.0 valid reached.1 kept) reached.2

-- ---- the first world

same_bytes : (bs : List ℕ) → bytes_eq bs bs ≡ true
same_bytes [] = refl
same_bytes (b ∷ bs) = both (b == b) (bytes_eq bs bs) (eq-eqb b b refl) (same_bytes bs)

bounded_rows : (P : Plan) (sources : Contents) (fs : List ℕ) → AreSources P sources → ((f : ℕ) → Stands f fs → is_source P f ≡ true)
    → list_all (λ row. nat_le row.size most_bytes) (map (source_logged sources) fs) ≡ true
bounded_rows P sources [] are all = refl
bounded_rows P sources (f ∷ fs) are all =
    let has = are f (all f (inl refl)) in
    both _ _ (ap (λ content. nat_le (length (unwrap_or content [])) most_bytes) has.1 ∙ has.2) (bounded_rows P sources fs are (λ g there. all g (inr there)))

first_recorded : (P : Plan) (O : Options) (sources : Contents) → AreSources P sources → IsRecorded P (opening P O sources ∷ [])
first_recorded P O sources are = record {
  legal = both _ true (both _ _ (both _ _ (both _ _ (both _ _ refl (same_bytes (plan_digest P)))
      (eq-eqb _ _ (length-map (sources_of P) (source_logged sources))))
      (bounded_rows P sources (sources_of P) are (λ f there. (stands_filter (is_source P) (file_numbers P) f there).1))) refl) refl;
  opened = refl;
}

source_by : (S : Setting) (f : ℕ) (content : List ℕ) (b : Bool) → is_source S.plan f ≡ b → IsValid S.plan → cond b (S.sources f) None ≡ Some content → due S f ≡ Some content
source_by S f content true is valid got = serial-source S.plan S.gives S.sources f valid is ∙ got
source_by S f content false is valid got = absurd (let h : ⊥ = cc in h)

row_stands : (f : ℕ) (keys : List ℕ) (rows : List Content) → is_some (size_in (present_with (row_of f keys rows))) ≡ true → Stands f keys
row_stands f [] rows there = absurd (true_ne_false (sym there))
row_stands f (g ∷ keys) [] there = absurd (true_ne_false (sym there))
row_stands f (g ∷ keys) (row ∷ rows) there = at f g keys row rows (g == f) refl there (row_stands f keys rows)
  where
    at : (f g : ℕ) (keys : List ℕ) (row : Content) (rows : List Content) (b : Bool) → (g == f) ≡ b → is_some (size_in (present_with (cond b (Some row) (row_of f keys rows)))) ≡ true
        → (is_some (size_in (present_with (row_of f keys rows))) ≡ true → Stands f keys) → (f ≡ g) ⊎ Stands f keys
    at f g keys row rows true same there later = inl (sym (eqb-true g f same))
    at f g keys row rows false other there later = inr (later there)

first_present : (P : Plan) (O : Options) (sources : Contents) (f : ℕ) (maker : Option ℕ) → AreSources P sources
    → is_some (size_in (option_map_or (made_state P (opening P O sources ∷ []) f) maker (present_with (row_of f (sources_of P) (map (source_logged sources) (sources_of P)))))) ≡ true
    → is_some (of_sources P sources f) ≡ true
first_present P O sources f (Some m) are there = absurd (true_ne_false (sym there))
first_present P O sources f None are there =
    let source : is_source P f ≡ true =
    (stands_filter (is_source P) (file_numbers P) f (row_stands f (sources_of P) (map (source_logged sources) (sources_of P)) there)).1 in
    ap (λ b. is_some (cond b (sources f) None)) source ∙ ap is_some (are f source).1

first_stored : (S : Setting) (O : Options) → IsValid S.plan → AreSources S.plan S.sources → IsStored S (opening S.plan O S.sources ∷ []) (of_sources S.plan S.sources)
first_stored S O valid are = record {
  sound = λ f content got. source_by S f content (is_source S.plan f) refl valid got;
  present = λ f there. first_present S.plan O S.sources f (maker_of S.plan f) are there;
}

-- The first world has the invariant.
pub first_kept : (S : Setting) (O : Options) (fresh : State) → IsValid S.plan → AreSources S.plan S.sources → IsKept S (first_world S.plan O S.sources fresh)
first_kept S O fresh valid are = record {
  recorded = first_recorded S.plan O S.sources are;
  stored = first_stored S O valid are;
  sent = every_nil (IsRight S (records_in (first_world S.plan O S.sources fresh)) []);
  peers = λ p to m there. absurd there;
  closed = every_one (IsRightRecord (records_in (first_world S.plan O S.sources fresh)) []) (opening S.plan O S.sources) tt;
}

-- ---- what the invariant says

-- tasks of one attempt have one job
one_job : (S : Setting) (H : List Record) (t u : Task) (contents : Contents) → IsOurTask S H t → IsOurTask S H u → t.attempt.0 ≡ u.attempt.0 → task_job t contents ≡ task_job u contents
one_job S H t u contents ours theirs same =
    let first : rule_at H t.attempt.0 ≡ Some ours.0.number = ours.0.started in
    let second : rule_at H u.attempt.0 ≡ Some theirs.0.number = theirs.0.started in
    let number : ours.0.number ≡ theirs.0.number = cc in
    let here : slice_get S.plan.rules ours.0.number ≡ Some ours.0.rule = ours.0.in_plan in
    let there : slice_get S.plan.rules theirs.0.number ≡ Some theirs.0.rule = theirs.0.in_plan in
    let rule : ours.0.rule ≡ theirs.0.rule = cc in
    ap (λ t. task_job t contents) ours.1 ∙ ap (λ rule. job_of S.plan rule contents) rule ∙ sym (ap (λ t. task_job t contents) theirs.1)

-- tasks of one number from one peer are one task
one_task : (S : Setting) (bag : List Sent) (p q r : ℕ) (t u : Task) (member : Option Member) → IsRightPlace S bag p member → Stands (task_sent (Peer p) (Peer q) t) bag
    → Stands (task_sent (Peer p) (Peer r) u) bag → t.attempt.0 ≡ u.attempt.0 → t ≡ u
one_task S bag p q r t u None right here there same = absurd (right (Peer q) (messages.Task t) here)
one_task S bag p q r t u (Some (Works home machine)) right here there same = absurd (right.reports (Peer q) (messages.Task t) here)
one_task S bag p q r t u (Some (Leads lead)) right here there same =
    let first = right.handed q t here in
    let second = right.handed r u there in
    let mine = right.right.owned _ first.1 t refl in
    let other = right.right.owned _ second.1 u refl in
    let attempt : t.attempt ≡ u.attempt = ap numbered same in
    mine.1 ∙ ap (λ (n : AttemptNo). renumbered (right.right.owner n.0) n) attempt ∙ sym other.1
  where
    numbered : ℕ → AttemptNo
    numbered n = record { 0 = n }

-- What the invariant says of a world.
pub kept_true : (S : Setting) (w : World) → IsKept S w → IsTrueWorld S.plan S.gives S.may_fail S.sources w
kept_true S w kept = record {
  legal = kept.recorded.legal;
  contents = λ f there. by f (w.contents f) refl (kept.stored.present f there);
  dones = λ m r attempt outs there. kept.closed _ there;
  jobs = λ t u p q here there same contents. one_job S (records_in w) t u contents (kept.sent _ here) (kept.sent _ there) same;
  handed = λ p q t there. kept.sent _ there;
  single = λ p q r t u here there same. one_task S w.bag p q r t u (slice_get w.peers p) (kept.peers p) here there same;
  answers = λ p to attempt outcome there. kept.sent _ there;
}
  where
    by : (f : ℕ) (found : Option (List ℕ)) → w.contents f ≡ found → is_some found ≡ true → (content : List ℕ) × (w.contents f ≡ Some content) × (due S f ≡ Some content)
    by f None at there = absurd (true_ne_false (sym there))
    by f (Some content) at there = (content, at, kept.stored.sound f content at)

pub every_world : (gives : Function) (may_fail : Failures) → EveryWorldIsTrue gives may_fail
every_world gives may_fail P O sources fresh es w valid are reached =
    let S : Setting = record { plan = P; gives = gives; may_fail = may_fail; sources = sources; valid = valid } in
    kept_true S w (reaches_kept S O es (first_world P O sources fresh) w valid (first_kept S O fresh valid are) reached)

-- What is told to the master of an attempt is what its job gives.
pub every_answer : (gives : Function) (may_fail : Failures) → EveryAnswerIsOfItsJob gives may_fail
every_answer gives may_fail P O sources fresh es w p q t said valid are reached sent told =
    let S : Setting = record { plan = P; gives = gives; may_fail = may_fail; sources = sources; valid = valid } in
    let kept : IsKept S w = reaches_kept S O es (first_world P O sources fresh) w valid (first_kept S O fresh valid are) reached in
    let answer : IsOurAnswer S w.bag Master (Peer p) t.attempt (outcomes.Success said) = kept.sent _ told in
    let ran = answer.3 tt in
    let same : task_job answer.0 (due S) ≡ task_job t (due S) =
    one_job S (records_in w) answer.0 t (due S) (kept.sent _ answer.2) (kept.sent _ sent) (ap (λ (a : AttemptNo). a.0) answer.1) in
    ran.1 ∙ ap (given_by gives) same

-- In every world each worker has the jobs of the attempts that its machine runs.
pub every_peer : (gives : Function) (may_fail : Failures) → EveryPeerRunsItsJobs gives may_fail
every_peer gives may_fail P O sources fresh es w p home machine valid are reached at =
    let S : Setting = record { plan = P; gives = gives; may_fail = may_fail; sources = sources; valid = valid } in
    let kept : IsKept S w = reaches_kept S O es (first_world P O sources fresh) w valid (first_kept S O fresh valid are) reached in
    let right : IsRightPeer S w.bag (party_of home) p machine = place_right S w p (Some (Works home machine)) at kept in
    right.same

-- what a peer tells the master, or a worker its foreman, is a report
told_report : (S : Setting) (w : World) (p : ℕ) (to : Party) (m : Message) → IsKept S w → Stands (told_to to p m) w.bag → TellsTo w.peers p to → IsReport m
told_report S w p (Peer f) m kept there (home, (machine, at)) =
    let right : IsRightPeer S w.bag (party_of home) p machine = place_right S w p (Some (Works home machine)) at kept in
    right.reports (Peer f) m there
told_report S w p Master m kept there tells = by (slice_get w.peers p) (kept.peers p)
  where
    by : (member : Option Member) → IsRightPlace S w.bag p member → IsReport m
    by None right = absurd (right Master m there)
    by (Some (Works home machine)) right = right.reports Master m there
    by (Some (Leads lead)) right = right.said m there

pub every_report : (gives : Function) (may_fail : Failures) → EveryReportFits gives may_fail
every_report gives may_fail P O sources fresh es w p to m valid are reached there tells =
    let S : Setting = record { plan = P; gives = gives; may_fail = may_fail; sources = sources; valid = valid } in
    told_report S w p to m (reaches_kept S O es (first_world P O sources fresh) w valid (first_kept S O fresh valid are) reached) there tells

not_run : (gives : Function) (may_fail : Failures) (job : Option Job) → MayAnswer gives may_fail job outcomes.NotRun
not_run gives may_fail None = tt
not_run gives may_fail (Some job) = λ run. absurd run

-- Each list of events leads on.
pub lead_on : (gives : Function) (may_fail : Failures) → EventsLeadOn gives may_fail
lead_on gives may_fail P O w [] = (w, refl)
lead_on gives may_fail P O w (e ∷ es) =
    let rest = lead_on gives may_fail P O (happens P O w e outcomes.NotRun) es in
    (rest.0, (outcomes.NotRun, not_run gives may_fail (job_run P w e), rest.1))

-- Lists of events compose.
pub compose : (gives : Function) (may_fail : Failures) → EventsCompose gives may_fail
compose gives may_fail P O u v w [] more first then = subst (λ x. Reaches P O gives may_fail x more w) first then
compose gives may_fail P O u v w (e ∷ es) more first then =
    (first.0, first.1, compose gives may_fail P O (happens P O u e first.0) v w es more first.2 then)
