-- Which records the calls of a run log, and what is known of a damaged input.
use Rattle.std.proofs.Common.{◌≡◌, ◌≢◌, ◌+◌, ◌⊎◌, ◌∙◌, ⊎_elim, ℕ, Bool, true, false, ◌&&◌, List, [], ◌∷◌, ◌++◌, Option, Some, None, Result, Ok, Err, refl, sym, ap, subst, arith, true≢false}
use Rattle.std.specs.Prelude.{IfErr, OnOk, is_none, is_some}
use Rattle.std.specs.Option.{option_map_or}
use Rattle.std.proofs.lemmas.Bool.{and_parts}
use Rattle.flow_types.specs.declared.plan.Plan.{Plan}
use Rattle.flow_types.specs.declared.job.Failure.{Failure}
use Rattle.flow_types.specs.declared.job.Outcome.{Outcome}
use Rattle.flow_types.specs.declared.job.Outcome.TheVariants as outcomes
use Rattle.flow_types.specs.declared.numbers.AttemptNo.{AttemptNo}
use Rattle.flow_types.specs.declared.numbers.Content.{Content}
use Rattle.flow_types.specs.declared.numbers.FileNo.{FileNo}
use Rattle.flow_types.specs.declared.numbers.LinkNo.{LinkNo}
use Rattle.flow_types.specs.declared.numbers.RuleNo.{RuleNo}
use Rattle.flow_types.specs.declared.records.EndKind.{EndKind}
use Rattle.flow_types.specs.declared.records.Record.{Record}
use Rattle.flow_types.specs.declared.records.Record.TheVariants as records
use Rattle.run_history.specs.declared.answers.Check.{Check}
use Rattle.run_history.specs.declared.answers.Stop.{Stop}
use Rattle.run_history.specs.Admissions.{Admitting}
use Rattle.run_history.specs.Answers.{has_ended, logged_end}
use Rattle.run_history.specs.History.{is_cleaned, is_end, is_opening}
use Rattle.run_history.specs.Laws.{IsPresent, started_as}
use Rattle.run_history.specs.Links.{records_of}
use Rattle.run_history.specs.States.{file_state, outs_of, running_in}
use Rattle.run_history.specs.Storage.{is_complete, is_running}
use Rattle.run_history.proofs.Grows.{records-push}
use Rattle.run_history.proofs.Steps.{complete-is, running-is}
use Rattle.task_core.proofs.Standing.{files-same}
use Rattle.outside.specs.declared.fault.Fault.{Fault}
use Rattle.outside.specs.Files.{Files}
use Rattle.outside.specs.Jobs.{CountsFailure, is_failure}
use Rattle.file_store.specs.Outputs.{file_name}
use Rattle.desk.specs.declared.answers.Claim.TheVariants as claims
use Rattle.desk.specs.declared.answers.ClaimRefused.{ClaimRefused}
use Rattle.desk.specs.declared.answers.ClaimRefused.TheVariants as unclaimed
use Rattle.desk.specs.declared.answers.CloseRefused.{CloseRefused}
use Rattle.desk.specs.declared.answers.CloseRefused.TheVariants as unclosed
use Rattle.desk.specs.declared.answers.EndRefused.{EndRefused}
use Rattle.desk.specs.declared.answers.EndRefused.TheVariants as unended
use Rattle.desk.specs.declared.answers.InputRefused.{InputRefused}
use Rattle.desk.specs.declared.answers.InputRefused.TheVariants as refused
use Rattle.desk.specs.declared.answers.Trouble.{Trouble}
use Rattle.desk.specs.declared.attempt.Attempt.{Attempt}
use Rattle.desk.specs.Claims.{ClaimsBy}
use Rattle.desk.specs.Ends.{Ends, EndsBy}
use Rattle.desk.specs.Inputs.{Finds, IsWhole, Looks, Tells}
use Rattle.desk.specs.State.{Closes, DeskState, IsFine, is_place, runs_with}
use Rattle.local_run.specs.declared.halt.Halt.{Halt}
use Rattle.local_run.specs.declared.halt.Halt.TheVariants as halts
use Rattle.local_run.specs.Course.{Closed, FailsBy, GivesUp, IsBroken, IsGivenUp}
use Rattle.local_run.specs.Ends.{IsApart, IsDamaged, IsFoundDamaged, IsSureHalt, IsWholeHalt, LogsFailures, failed_count}
use Rattle.local_run.specs.Jobs.{IsRefusedDamage, IsWholeInput, ReadsOver, halt_by}
use Rattle.local_run.proofs.Closings.{breaks_same, lacks_same, spares_same}
use Rattle.local_run.proofs.Failures.{logs_plain}
use Rattle.local_run.proofs.Fresh.{unended_by}

-- ---- the records that calls log

closes_by : {S : Type 0} (count : S → ℕ) (d : DeskState S) (k : Option Stop) (rule : RuleNo) (number : AttemptNo) (link : LinkNo) (x : Record) (r : Result (Unit {0}) CloseRefused) (after : DeskState S)
    → runs_with (records_of d.moves) rule.0 number.0 link.0 ≡ true → Closes count (record d { stop = k }) rule number link x r after → IsFine after.trouble → records_of after.moves ≡ records_of d.moves ++ (x ∷ [])
closes_by {S} count d k rule number link x (Ok done) after runs h fine = ap (λ (a : DeskState S). records_of a.moves) h.2 ∙ records-push d.moves x
closes_by count d k rule number link x (Err (unclosed.Stale named state)) after runs h fine = absurd (true≢false (sym runs ∙ h.1))
closes_by {S} count d k rule number link x (Err (unclosed.Broken before now)) after runs h fine =
    ⊎_elim (λ was. absurd (subst IsFine (ap (λ (a : DeskState S). a.trouble) was.1 ∙ was.0) fine)) (λ new. absurd (subst IsFine (ap (λ (a : DeskState S). a.trouble) new.5) fine)) h
closes_by {S} count d k rule number link x (Err unclosed.Memory) after runs h fine =
    ⊎_elim (λ was. absurd (subst IsFine (ap (λ (a : DeskState S). a.trouble) was.1 ∙ was.0) fine)) (λ new. absurd (subst IsFine (ap (λ (a : DeskState S). a.trouble) new.1) fine)) h

-- the one that a closing logs, on a desk that works on
pub closes_logs : {S : Type 0} (count : S → ℕ) (d mid : DeskState S) (k : Option Stop) (rule : RuleNo) (number : AttemptNo) (link : LinkNo) (x : Record) (r : Result (Unit {0}) CloseRefused) (after : DeskState S)
    → mid ≡ record d { stop = k } → runs_with (records_of d.moves) rule.0 number.0 link.0 ≡ true → Closes count mid rule number link x r after → IsFine after.trouble → records_of after.moves ≡ records_of d.moves ++ (x ∷ [])
closes_logs {S} count d mid k rule number link x r after same runs h =
    closes_by count d k rule number link x r after runs (subst (λ (m : DeskState S). Closes count m rule number link x r after) same h)

unended_closing : {S : Type 0} (count : S → ℕ) (d : DeskState S) (k : Option Stop) (rule : RuleNo) (number : AttemptNo) (link : LinkNo) (x : Record) (r : Result (Unit {0}) CloseRefused) (after : DeskState S)
    → is_cleaned x ≡ false → is_opening x ≡ false → is_end x ≡ false → Closes count (record d { stop = k }) rule number link x r after → has_ended (records_of d.moves) ≡ false → has_ended (records_of after.moves) ≡ false
unended_closing {S} count d k rule number link x (Ok done) after more stays goes h unended =
    unended_by (records_of d.moves) (records_of after.moves) x (ap (λ (a : DeskState S). records_of a.moves) h.2 ∙ records-push d.moves x) more stays goes unended
unended_closing {S} count d k rule number link x (Err (unclosed.Stale named state)) after more stays goes h unended = ap (λ (a : DeskState S). has_ended (records_of a.moves)) h.4 ∙ unended
unended_closing count d k rule number link x (Err (unclosed.Broken before now)) after more stays goes h unended = ap has_ended (breaks_same count (record d { stop = k }) before now after h) ∙ unended
unended_closing count d k rule number link x (Err unclosed.Memory) after more stays goes h unended = ap has_ended (lacks_same (record d { stop = k }) after h) ∙ unended

-- it ends no run, whether or not the desk works on
pub closes_unended : {S : Type 0} (count : S → ℕ) (d mid : DeskState S) (k : Option Stop) (rule : RuleNo) (number : AttemptNo) (link : LinkNo) (x : Record) (r : Result (Unit {0}) CloseRefused) (after : DeskState S)
    → mid ≡ record d { stop = k } → is_cleaned x ≡ false → is_opening x ≡ false → is_end x ≡ false → Closes count mid rule number link x r after → has_ended (records_of d.moves) ≡ false → has_ended (records_of after.moves) ≡ false
closes_unended {S} count d mid k rule number link x r after same more stays goes h =
    unended_closing count d k rule number link x r after more stays goes (subst (λ (m : DeskState S). Closes count m rule number link x r after) same h)

-- none by the reading of inputs
pub reads_moves : {S A : Type 0} (d : DeskState S) (r : Result A InputRefused) (after : DeskState S) → ReadsOver d r after → records_of after.moves ≡ records_of d.moves
reads_moves {S} d (Ok inputs) after h = ap (λ (a : DeskState S). records_of a.moves) h
reads_moves {S} d (Err (refused.Damaged file logged found)) after h = ap (λ (a : DeskState S). records_of a.moves) h
reads_moves {S} d (Err (refused.Broken before now)) after h = ap (λ (a : DeskState S). records_of a.moves) h
reads_moves {S} d (Err refused.Memory) after h = ap (λ (a : DeskState S). records_of a.moves) h

pub taken_logs : {S : Type 0} (A : Admitting) (count : S → ℕ) (d after : DeskState S) (attempt : Attempt) (link : LinkNo) (moment : ℕ) → ClaimsBy A count d link moment (Ok (claims.Taken attempt)) after
    → records_of after.moves ≡ records_of d.moves ++ (started_as d.moves attempt.rule moment link ∷ [])
taken_logs {S} A count d after attempt link moment h = ap (λ (a : DeskState S). records_of a.moves) h.2.5 ∙ records-push d.moves (started_as d.moves attempt.rule moment link)

pub taken_plan : {S : Type 0} (A : Admitting) (count : S → ℕ) (d after : DeskState S) (attempt : Attempt) (link : LinkNo) (moment : ℕ) → ClaimsBy A count d link moment (Ok (claims.Taken attempt)) after → after.plan ≡ d.plan
taken_plan {S} A count d after attempt link moment h = ap (λ (a : DeskState S). a.plan) h.2.5

-- a claim that is refused
pub refused_same : {S : Type 0} (A : Admitting) (count : S → ℕ) (d after : DeskState S) (link : LinkNo) (moment : ℕ) (why : ClaimRefused) → ClaimsBy A count d link moment (Err why) after → records_of after.moves ≡ records_of d.moves
refused_same A count d after link moment (unclaimed.Broken before now) h = breaks_same count d before now after h
refused_same A count d after link moment unclaimed.Memory h = spares_same d after h

-- by the end of a run no failed command is logged
ends_kind : {S : Type 0} (d : DeskState S) (moment : ℕ) (kind : Option EndKind) (after : DeskState S) → EndsBy kind d moment after → failed_count (records_of after.moves) ≡ failed_count (records_of d.moves)
ends_kind {S} d moment None after h = ap (λ (a : DeskState S). failed_count (records_of a.moves)) h
ends_kind {S} d moment (Some kind) after h =
    let x : Record = records.Ended moment kind in
    let are : records_of after.moves ≡ records_of d.moves ++ (x ∷ []) = ap (λ (a : DeskState S). records_of a.moves) h ∙ records-push d.moves x in
    let same = logs_plain (records_of d.moves) (records_of after.moves) x 0 0 are refl refl in
    omega (arith, same)

pub ends_failed : {S : Type 0} (count : S → ℕ) (d : DeskState S) (moment : ℕ) (r : Result Check EndRefused) (after : DeskState S) → Ends count d moment r after → IsFine after.trouble
    → failed_count (records_of after.moves) ≡ failed_count (records_of d.moves)
ends_failed count d moment (Ok check) after h fine = ends_kind d moment (logged_end d.plan d.options d.moves d.stop) after h.2
ends_failed {S} count d moment (Err (unended.Broken before now)) after h fine =
    ⊎_elim (λ was. absurd (subst IsFine (ap (λ (a : DeskState S). a.trouble) was.1 ∙ was.0) fine)) (λ new. absurd (subst IsFine (ap (λ (a : DeskState S). a.trouble) new.5) fine)) h
ends_failed {S} count d moment (Err unended.Memory) after h fine =
    ⊎_elim (λ lacks. ⊎_elim (λ was. absurd (subst IsFine (ap (λ (a : DeskState S). a.trouble) was.1 ∙ was.0) fine)) (λ new. absurd (subst IsFine (ap (λ (a : DeskState S). a.trouble) new.1) fine)) lacks)
    (λ same. ap (λ (a : DeskState S). failed_count (records_of a.moves)) same.1) h

-- a rule that runs isn't complete
running_unfinished : (H : List Record) (r : ℕ) (b : Bool) → is_complete H r ≡ b → is_running H r ≡ true → b ≡ false
running_unfinished H r false is runs = refl
running_unfinished H r true is runs = absurd (by_outs (outs_of H r) (sym (complete-is H r) ∙ is) (sym (running-is H r) ∙ runs))
  where
    by_outs : (outs : Option (List Content)) → is_some outs ≡ true → (is_none outs && is_some (running_in H r)) ≡ true → ⊥
    by_outs None some runs = true≢false (sym some)
    by_outs (Some x) some runs = true≢false (sym runs)

pub unfinished : (H : List Record) (r number link : ℕ) → runs_with H r number link ≡ true → is_complete H r ≡ false
unfinished H r number link runs = running_unfinished H r (is_complete H r) refl (and_parts (is_running H r) (option_map_or (is_place number link) (running_in H r) false) runs).0

-- ---- damaged inputs

-- what a read finds in place of a content is what stands there
pub look_damage : {S : Type 0} (count : S → ℕ) (files : S → Files) (d : DeskState S) (f : FileNo) (content : Content) (why : InputRefused) (after : DeskState S) → Looks count d f content (Err why) after
    → IsPresent d.plan (records_of d.moves) f.0 content → Tells content (files d.site (file_name d.plan f.0)) (Err why) → ((m : List ℕ) → files after.site m ≡ files d.site m)
    → IsRefusedDamage after.plan (records_of after.moves) (files after.site) why
look_damage {S} count files d f content (refused.Damaged named told found) after h present tells reads =
    subst (λ (a : DeskState S). IsDamaged a.plan (records_of a.moves) (files after.site) named told found) (sym h.3)
    (subst (λ (n : FileNo). IsDamaged d.plan (records_of d.moves) (files after.site) n told found) (sym h.1)
    (subst (λ (c : Content). IsDamaged d.plan (records_of d.moves) (files after.site) f c found) (sym h.2)
    (present, subst (λ (there : Option (List ℕ)). Finds content there (Err found)) (sym (reads (file_name d.plan f.0))) tells)))
look_damage count files d f content (refused.Broken before now) after h present tells reads = tt
look_damage count files d f content refused.Memory after h present tells reads = tt

-- why a run stops by what it gives up
module _ (why result : Halt) (before after : Trouble) (h : GivesUp why before after result) where
  pub gives_whole : IsWholeHalt why → IsWholeHalt result
  gives_whole whole =
      ⊎_elim (λ same. subst IsWholeHalt (sym same.0) whole)
      (λ (rest : ((result ≡ halts.Site) × IsBroken after) ⊎ (result ≡ halts.Memory)). ⊎_elim (λ site. subst IsWholeHalt (sym site.0) tt) (λ memory. subst IsWholeHalt (sym memory) tt) rest) h

  pub gives_sure : IsSureHalt why → IsSureHalt result
  gives_sure sure =
      ⊎_elim (λ same. subst IsSureHalt (sym same.0) sure)
      (λ (rest : ((result ≡ halts.Site) × IsBroken after) ⊎ (result ≡ halts.Memory)). ⊎_elim (λ site. subst IsSureHalt (sym site.0) tt) (λ memory. subst IsSureHalt (sym memory) tt) rest) h

pub whole_damage : (P : Plan) (H : List Record) (files : Files) (halt : Halt) → IsWholeHalt halt → IsFoundDamaged P H files halt
whole_damage P H files (halts.Damaged file logged found) whole = absurd whole
whole_damage P H files halts.Runner whole = tt
whole_damage P H files halts.Site whole = tt
whole_damage P H files halts.Memory whole = tt

-- what isn't damaged for the desk isn't for a run
pub refused_whole : (why : InputRefused) → (let r : Result (List ℕ) InputRefused = Err why in IsWhole r) → IsWholeInput why
refused_whole (refused.Damaged file logged found) whole = absurd whole
refused_whole (refused.Broken before now) whole = tt
refused_whole refused.Memory whole = tt

pub input_whole : (why : InputRefused) → IsWholeInput why → IsWholeHalt (halt_by why)
input_whole (refused.Damaged file logged found) whole = absurd whole
input_whole (refused.Broken before now) whole = tt
input_whole refused.Memory whole = tt

pub input_sure : (why : InputRefused) → IsSureHalt (halt_by why)
input_sure (refused.Damaged file logged found) = tt
input_sure (refused.Broken before now) = tt
input_sure refused.Memory = tt

-- giving an attempt up leaves the file as it was found
kept_damage : (P Q : Plan) (log : List ℕ) (H all : List Record) (rule : RuleNo) (number : AttemptNo) (old new : Files) (why : InputRefused) → Q ≡ P → IsGivenUp H rule number all → ((m : List ℕ) → m ≢ log → new m ≡ old m)
    → IsApart Q log → IsRefusedDamage P H old why → IsFoundDamaged Q all new (halt_by why)
kept_damage P Q log H all rule number old new (refused.Damaged file logged found) same gone reads apart damaged =
    let x : Record = records.Lost gone.0 rule number in
    subst (λ (R : Plan). IsApart R log → IsDamaged R all new file logged found) (sym same)
    (λ apart. (
      ap (λ (G : List Record). file_state P G file.0) gone.1 ∙ files-same P H x file.0 (record { stays = refl; sources = refl; makes_none = λ q. refl; drops_none = λ g. refl }) ∙ damaged.0,
      subst (λ (there : Option (List ℕ)). Finds logged there (Err found)) (sym (reads (file_name P file.0) (apart file.0))) damaged.1,
    )) apart
kept_damage P Q log H all rule number old new (refused.Broken before now) same gone reads apart damaged = tt
kept_damage P Q log H all rule number old new refused.Memory same gone reads apart damaged = tt

pub gives_damage : (P Q : Plan) (log : List ℕ) (H all : List Record) (rule : RuleNo) (number : AttemptNo) (old new : Files) (why : InputRefused) (before after : Trouble) (result : Halt) → Q ≡ P
    → (IsFine after → IsGivenUp H rule number all) → ((m : List ℕ) → m ≢ log → new m ≡ old m) → IsApart Q log → IsRefusedDamage P H old why → GivesUp (halt_by why) before after result → IsFoundDamaged Q all new result
gives_damage P Q log H all rule number old new why before after result same gone reads apart damaged h =
    ⊎_elim (λ by. subst (IsFoundDamaged Q all new) (sym by.0) (kept_damage P Q log H all rule number old new why same (gone by.2) reads apart damaged))
    (λ (rest : ((result ≡ halts.Site) × IsBroken after) ⊎ (result ≡ halts.Memory)). ⊎_elim (λ site. subst (IsFoundDamaged Q all new) (sym site.0) tt) (λ memory. subst (IsFoundDamaged Q all new) (sym memory) tt) rest) h

-- a closing call stops a run neither for an input nor by the runner
pub fails_whole : (t : Trouble) (halt : Halt) → (let r : Result (Unit {0}) Halt = Err halt in FailsBy t r) → IsWholeHalt halt
fails_whole t (halts.Damaged file logged found) h = absurd h
fails_whole t halts.Runner h = tt
fails_whole t halts.Site h = tt
fails_whole t halts.Memory h = tt

pub fails_sure : (t : Trouble) (halt : Halt) → (let r : Result (Unit {0}) Halt = Err halt in FailsBy t r) → IsSureHalt halt
fails_sure t (halts.Damaged file logged found) h = tt
fails_sure t halts.Runner h = absurd h
fails_sure t halts.Site h = tt
fails_sure t halts.Memory h = tt

-- what is so of each error
pub on_err : {A : Type 0} (r : Result A Halt) (P : Halt → Type 0) → ((halt : Halt) → r ≡ Err halt → P halt) → IfErr r P
on_err (Ok done) P each = tt
on_err (Err halt) P each = each halt refl

-- where a call closed its attempt, its desk works on
pub on_closed : {S A : Type 0} (d after : DeskState S) (r : Result A Halt) (P : Type 0) → Closed d after r → (IsFine after.trouble → P) → OnOk r P
on_closed d after (Ok done) P closed so = so closed.0
on_closed d after (Err halt) P closed so = tt

-- a record that gives an attempt up
pub given_up_logs : (H mid all : List Record) (rule : RuleNo) (number : AttemptNo) (before now : ℕ) → IsGivenUp mid rule number all → mid ≡ H → now ≡ before → LogsFailures H all before now
given_up_logs H mid all rule number before now gone same stood =
    logs_plain H all (records.Lost gone.0 rule number) before now (gone.1 ∙ ap (λ (G : List Record). G ++ (records.Lost gone.0 rule number ∷ [])) same) refl stood

pub given_up_unended : (H mid all : List Record) (rule : RuleNo) (number : AttemptNo) → IsGivenUp mid rule number all → mid ≡ H → has_ended H ≡ false → has_ended all ≡ false
given_up_unended H mid all rule number gone same unended =
    unended_by H all (records.Lost gone.0 rule number) (gone.1 ∙ ap (λ (G : List Record). G ++ (records.Lost gone.0 rule number ∷ [])) same) refl refl refl unended

-- the count of failed commands behind a job
pub success_stood : (before now : ℕ) (o : Outcome) (contents : List (List ℕ)) → o ≡ outcomes.Success contents → (let r : Result Outcome Fault = Ok o in CountsFailure before now r) → now ≡ before
success_stood before now o contents is counts = counts.stood (ap (λ (p : Outcome). let r : Result Outcome Fault = Ok p in is_failure r) is)

pub failure_rose : (before now : ℕ) (o : Outcome) (why : Failure) → o ≡ outcomes.Failed why → (let r : Result Outcome Fault = Ok o in CountsFailure before now r) → now ≡ before + 1
failure_rose before now o why is counts = counts.rose (ap (λ (p : Outcome). let r : Result Outcome Fault = Ok p in is_failure r) is)

pub fault_stood : (before now : ℕ) (fault : Fault) → (let r : Result Outcome Fault = Err fault in CountsFailure before now r) → now ≡ before
fault_stood before now fault counts = counts.stood refl
