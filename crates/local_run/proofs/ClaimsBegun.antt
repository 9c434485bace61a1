-- What a claim makes of a run.
use Rattle.std.proofs.Common.{◌≡◌, ◌≤◌, ◌<◌, ◌+◌, ◌∙◌, ◌&&◌, ℕ, Bool, true, false, List, [], ◌∷◌, ◌++◌, length, Option, Some, None, Ok, refl, sym, ap, subst, arith}
use Rattle.std.specs.Prelude.{is_none, is_some}
use Rattle.std.specs.List.{list_all}
use Rattle.std.proofs.lemmas.Bool.{and_parts}
use Rattle.flow_types.specs.declared.plan.Plan.{Plan}
use Rattle.flow_types.specs.declared.job.Job.{Job}
use Rattle.flow_types.specs.declared.job.Failure.{Failure}
use Rattle.flow_types.specs.declared.job.Start.{Start}
use Rattle.flow_types.specs.declared.numbers.AttemptNo.{AttemptNo}
use Rattle.flow_types.specs.declared.numbers.LinkNo.{LinkNo}
use Rattle.flow_types.specs.declared.numbers.RuleNo.{RuleNo}
use Rattle.flow_types.specs.declared.records.Record.{Record}
use Rattle.flow_types.specs.declared.records.Record.TheVariants as records
use Rattle.flow_types.specs.Plans.{is_empty, takes}
use Rattle.flow_types.specs.Serial.{Contents, Function, serial}
use Rattle.rule_graph.specs.Spelling.{plan_digest}
use Rattle.run_history.specs.declared.answers.Stop.{Stop}
use Rattle.run_history.specs.declared.moves.Move.{Move}
use Rattle.run_history.specs.declared.options.Options.{Options}
use Rattle.run_history.specs.Admissions.{Admitting, claim_by}
use Rattle.run_history.specs.Answers.{has_ended}
use Rattle.run_history.specs.History.{next_attempt, part}
use Rattle.run_history.specs.Links.{fits, is_live, may_run_on, records_of}
use Rattle.run_history.specs.Storage.{is_present, running_rules, size_in, wanted}
use Rattle.run_history.specs.declared.states.FileState.{FileState}
use Rattle.run_history.proofs.Allowed.{Starts, starts}
use Rattle.task_core.proofs.Standing.{files-same}
use Rattle.outside.specs.Disk.{Outcomes}
use Rattle.outside.specs.Files.{Files}
use Rattle.worker_pool.specs.declared.hand.Tally.{Tally}
use Rattle.desk.specs.declared.answers.Claim.TheVariants as claims
use Rattle.desk.specs.declared.attempt.Attempt.{Attempt}
use Rattle.desk.specs.Claims.{ClaimsBy}
use Rattle.desk.specs.Kept.{IsLegal}
use Rattle.desk.specs.State.{DeskState, IsFine, runs_with}
use Rattle.desk.proofs.Running.{started_runs}
use Rattle.local_run.specs.Collecting.{IsUntouched}
use Rattle.local_run.specs.Course.{GoesOn, LeavesAlone}
use Rattle.local_run.specs.Ends.{failed_count, records_due}
use Rattle.local_run.specs.Underway.{AreAway, AwayState, Matches, NoneHas, RunsAt, Underway}
use Rattle.local_run.specs.declared.halt.Halt.{Halt}
use Rattle.local_run.proofs.Beyond.{away_on, runs_away_on}
use Rattle.local_run.proofs.Claimed.{claim_follows, runs_started, taken_goes}
use Rattle.local_run.proofs.Failures.{logs_plain}
use Rattle.local_run.proofs.Fresh.{due_more, unended_by}
use Rattle.local_run.proofs.Going.{goes_on}
use Rattle.local_run.proofs.Logging.{taken_logs, taken_plan}
use Rattle.local_run.proofs.RunsBegun.{below_next, runs_beside}
use Rattle.local_run.proofs.StandsBegun.{AllRunOn, matches_on, none_of}

may_start : (A : Admitting) (P : Plan) (O : Options) (M : List Move) (stop : Option Stop) (r : RuleNo) (moment : ℕ) (link : LinkNo) → is_empty (part (records_of M)) ≡ false → is_live O M link.0 ≡ true
    → claim_by A P O M stop link.0 ≡ Ok r.0 → Starts P (records_of M) r.0 (next_attempt (records_of M))
may_start A P O M stop r moment link opened lives chosen =
    starts P (plan_digest P) (records_of M) moment r (record { 0 = next_attempt (records_of M) }) link (and_parts _ _ (claim_follows A P O M stop r moment link opened lives chosen)).0

-- the rule that a claim for this link answers may run there
may_place : (A : Admitting) (P : Plan) (O : Options) (M : List Move) (stop : Option Stop) (r : RuleNo) (moment : ℕ) (link : LinkNo) → is_empty (part (records_of M)) ≡ false → is_live O M link.0 ≡ true
    → claim_by A P O M stop link.0 ≡ Ok r.0 → may_run_on P O r.0 link.0 ≡ true
may_place A P O M stop r moment link opened lives chosen =
    let served = (and_parts _ _ (claim_follows A P O M stop r moment link opened lives chosen)).1 in
    let fitting = (and_parts (is_live O M link.0 && may_run_on P O r.0 link.0 && fits P O M r.0 link.0) (is_none (wanted P O.mode (records_of M))) served).0 in
    let live = (and_parts (is_live O M link.0 && may_run_on P O r.0 link.0) (fits P O M r.0 link.0) fitting).0 in
    (and_parts (is_live O M link.0) (may_run_on P O r.0 link.0) live).1

-- What is known of the rule that a claim started, and of what ran before it.
pub record IsBegun {S : Type 0} (d after : DeskState S) (attempt : Attempt) : Type 0 where
  pub fine : IsFine d.trouble
  pub works : IsFine after.trouble
  pub stop : after.stop ≡ d.stop
  pub plan : after.plan ≡ d.plan
  pub options : after.options ≡ d.options
  pub inside : attempt.rule.0 < length d.plan.rules
  pub placed : may_run_on d.plan d.options attempt.rule.0 attempt.link.0 ≡ true
  pub present : list_all (is_present after.plan (records_of after.moves)) (takes after.plan attempt.rule.0) ≡ true
  pub runs : runs_with (records_of after.moves) attempt.rule.0 attempt.number.0 attempt.link.0 ≡ true
  pub beside : (q number link : ℕ) → runs_with (records_of d.moves) q number link ≡ true → runs_with (records_of after.moves) q number link ≡ true
  pub number : (q number link : ℕ) → runs_with (records_of d.moves) q number link ≡ true → number < attempt.number.0
  pub count : length (running_rules d.plan (records_of after.moves)) ≤ length (running_rules d.plan (records_of d.moves)) + 1
  pub failed : failed_count (records_of after.moves) ≡ failed_count (records_of d.moves)
  pub unended : has_ended (records_of d.moves) ≡ false → has_ended (records_of after.moves) ≡ false
  pub due : records_due d.plan (records_of after.moves) ≤ records_due d.plan (records_of d.moves) + 1

pub begun : {S : Type 0} (A : Admitting) (count : S → ℕ) (d after : DeskState S) (attempt : Attempt) (link : LinkNo) (time : ℕ) → is_empty (part (records_of d.moves)) ≡ false → IsLegal d.plan (records_of d.moves)
    → is_live d.options d.moves link.0 ≡ true → ClaimsBy A count d link time (Ok (claims.Taken attempt)) after → IsBegun d after attempt
begun {S} A count d after attempt link time opened legal lives h =
    let H = records_of d.moves in
    let first : AttemptNo = record { 0 = next_attempt H } in
    let x : Record = records.Started time attempt.rule first link in
    let may = may_start A d.plan d.options d.moves d.stop attempt.rule time link opened lives h.1 in
    let are : records_of after.moves ≡ H ++ (x ∷ []) = taken_logs A count d after attempt link time h in
    record {
      fine = h.0;
      works = subst IsFine (sym (ap (λ (a : DeskState S). a.trouble) h.2.5)) h.0;
      stop = ap (λ (a : DeskState S). a.stop) h.2.5;
      plan = taken_plan A count d after attempt link time h;
      options = ap (λ (a : DeskState S). a.options) h.2.5;
      inside = h.2.3;
      placed = subst (λ (l : LinkNo). may_run_on d.plan d.options attempt.rule.0 l.0 ≡ true) (sym h.2.2) (may_place A d.plan d.options d.moves d.stop attempt.rule time link opened lives h.1);
      present = subst (λ (P : Plan). list_all (is_present P (records_of after.moves)) (takes P attempt.rule.0) ≡ true) (sym (taken_plan A count d after attempt link time h))
          (subst (λ (G : List Record). list_all (is_present d.plan G) (takes d.plan attempt.rule.0) ≡ true) (sym are)
          (ap (λ (p : ℕ → Bool). list_all p (takes d.plan attempt.rule.0))
          (λ i f. (ap (λ (s : FileState). is_some (size_in s)) (files-same d.plan H x f (record { stays = refl; sources = refl; makes_none = λ q. refl; drops_none = λ g. refl }))) i)
          ∙ may.inputs));
      runs = subst (λ (G : List Record). runs_with G attempt.rule.0 attempt.number.0 attempt.link.0 ≡ true) (sym are)
          (subst (λ (n : ℕ). runs_with (H ++ (x ∷ [])) attempt.rule.0 n attempt.link.0 ≡ true) (sym h.2.1)
          (subst (λ (l : LinkNo). runs_with (H ++ (x ∷ [])) attempt.rule.0 (next_attempt H) l.0 ≡ true) (sym h.2.2) (runs_started H time attempt.rule first link may.waits)));
      beside = λ q number on runs. subst (λ (G : List Record). runs_with G q number on ≡ true) (sym are) (runs_beside H time attempt.rule first link q number on may.waits runs);
      number = λ q number on runs. let less = below_next d.plan (plan_digest d.plan) H q number on legal runs in let is = h.2.1 in omega (arith, less, is);
      count = let more = started_runs d.plan H time attempt.rule first link in let same = ap (λ (G : List Record). length (running_rules d.plan G)) are in omega (arith, more, same);
      failed = let same = logs_plain H (records_of after.moves) x 0 0 are refl refl in omega (arith, same);
      unended = unended_by H (records_of after.moves) x are refl refl refl;
      due = let more = due_more d.plan H x refl (λ r. refl) in let same = ap (λ (G : List Record). records_due d.plan G) are in omega (arith, more, same);
    }

module _ {S : Type 0} (trust : Type 0) (gives : Function) (may_fail : Job → Failure → Type 0) (sources : Contents) (tells kept sure : Type 0) (files : S → Files) (may_leave : S → Outcomes) (moment : S → ℕ)
    (images_since : S → ℕ → Files → Type 0) (away : AwayState) where
  abbrev pub Goes : DeskState S → DeskState S → Type 0
  Goes d after = GoesOn trust gives may_fail sources tells files may_leave moment images_since [] d after

  abbrev pub Under : DeskState S → DeskState S → List Attempt → List Start → Option Attempt → Tally → Option Halt → Type 0
  Under first now held waiting loose heard halt = Underway trust gives may_fail sources tells kept sure files may_leave moment images_since away first now held waiting loose heard halt

  abbrev pub Alone : DeskState S → S → Type 0
  Alone d s = tells → LeavesAlone files may_leave moment images_since (IsUntouched d.plan d.log (records_of d.moves)) d.site s

  by_begun : (first d after : DeskState S) (held : List Attempt) (waiting : List Start) (heard : Tally) (attempt : Attempt) → Goes d after → IsBegun d after attempt → Under first d held waiting None heard None
      → Under first after held waiting (Some attempt) heard None
  by_begun first d after held waiting heard attempt goes is u =
      let H = records_of d.moves in
      let all = records_of after.moves in
      let fine : Type 0 = IsFine d.trouble in
      let later : Type 0 = IsFine after.trouble in
      let each : AllRunOn d.plan fine H later all = λ a at. record { rule = at.rule; runs = λ works. is.beside a.rule.0 a.number.0 a.link.0 (at.runs is.fine) } in
      let none : NoneHas attempt.number held =
      none_of d.plan fine H trust (serial d.plan gives sources) attempt.number held waiting
      (λ a at same. let less = is.number a.rule.0 a.number.0 a.link.0 (at.runs is.fine) in let one = ap (λ (n : AttemptNo). n.0) same in let wrong : ⊥ = omega (arith, less, one) in wrong) u.matches in
      record {
        goes = goes_on trust gives may_fail sources tells files may_leave moment images_since away.links first d after u.goes goes;
        matches = subst (λ (P : Plan). Matches P later all trust (serial P gives sources) held waiting) (sym is.plan) (matches_on d.plan fine later H all trust (serial d.plan gives sources) held waiting each u.matches);
        taken = (subst (λ (P : Plan). RunsAt P later all attempt) (sym is.plan) (record { rule = is.inside; runs = λ works. is.runs }), none);
        here = u.here;
        beyond = subst (λ (P : Plan). AreAway P later after.moves held (Some attempt) away.attempts) (sym is.plan)
            (away_on d.plan fine later d.moves after.moves held held None (Some attempt) away.attempts
            (λ a at unheld other. (
              runs_away_on d.plan fine later d.moves after.moves goes.passed a goes.moves (each a) at,
              unheld,
              (λ same. let less = is.number a.rule.0 a.number.0 a.link.0 (at.at.runs is.fine) in let one = ap (λ (n : AttemptNo). n.0) same in let wrong : ⊥ = omega (arith, less, one) in wrong),
            )) u.beyond);
        all = λ works. let more = is.count in let was = u.all is.fine in let same = ap (λ (P : Plan). length (running_rules P all)) is.plan in omega (arith, more, was, same);
        stopped = (is.works, is.stop ∙ u.stopped.1);
        failures = λ works. is.failed ∙ u.failures is.fine;
        unended = λ unended. is.unended (u.unended unended);
        never = u.never;
        due = λ going sure smooth. let more = is.due in let was = u.due tt sure smooth in let same = ap (λ (P : Plan). records_due P all) is.plan in omega (arith, more, was, same);
      }

  -- a claim that takes a rule has one more attempt run, which is loose
  pub claims_on : (A : Admitting) (count : S → ℕ) (first d after : DeskState S) (held : List Attempt) (waiting : List Start) (heard : Tally) (attempt : Attempt) (link : LinkNo) (time : ℕ) → is_empty (part (records_of d.moves)) ≡ false
      → IsLegal d.plan (records_of d.moves) → is_live d.options d.moves link.0 ≡ true → Alone d after.site → ClaimsBy A count d link time (Ok (claims.Taken attempt)) after → Under first d held waiting None heard None
      → Under first after held waiting (Some attempt) heard None
  claims_on A count first d after held waiting heard attempt link time opened legal lives others h u =
      by_begun first d after held waiting heard attempt (taken_goes trust gives may_fail sources tells files may_leave moment images_since A count d after attempt link time others h)
      (begun A count d after attempt link time opened legal lives h) u
