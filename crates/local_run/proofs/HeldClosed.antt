-- The attempts that are held, and the starts that wait.
use Rattle.std.proofs.Common.{◌≡◌, ◌≢◌, ◌≤◌, ◌<◌, ◌+◌, ◌∙◌, ℕ, true, List, [], ◌∷◌, ◌++◌, length, Option, Some, None, refl, sym, ap, subst, arith, length-append}
use Rattle.std.specs.Prelude.{slice_get}
use Rattle.flow_types.specs.declared.plan.Plan.{Plan}
use Rattle.flow_types.specs.declared.plan.Rule.{Rule}
use Rattle.flow_types.specs.declared.job.Job.{Job}
use Rattle.flow_types.specs.declared.job.Failure.{Failure}
use Rattle.flow_types.specs.declared.job.Outcome.{Outcome}
use Rattle.flow_types.specs.declared.job.Outcome.TheVariants as outcomes
use Rattle.flow_types.specs.declared.job.Start.{Start}
use Rattle.flow_types.specs.declared.numbers.AttemptNo.{AttemptNo}
use Rattle.flow_types.specs.declared.records.Record.{Record}
use Rattle.flow_types.specs.Plans.{IsValid, makes}
use Rattle.flow_types.specs.Serial.{Contents, Function, job_of, serial}
use Rattle.run_history.specs.Legal.{is_failure_at}
use Rattle.run_history.specs.declared.options.Options.{Options}
use Rattle.run_history.specs.Links.{may_run_on, records_of}
use Rattle.run_history.specs.Storage.{running_rules}
use Rattle.outside.specs.Disk.{Outcomes}
use Rattle.outside.specs.Files.{Files}
use Rattle.outside.specs.Jobs.{IsShaped}
use Rattle.worker_pool.specs.declared.hand.Tally.{Tally}
use Rattle.worker_pool.specs.Courses.{EndsAsTold, IfRun}
use Rattle.desk.specs.declared.attempt.Attempt.{Attempt}
use Rattle.desk.specs.State.{AreOutputs, DeskState, IsDue, IsFine}
use Rattle.local_run.specs.declared.halt.Halt.{Halt}
use Rattle.local_run.specs.declared.halt.Halt.TheVariants as halts
use Rattle.local_run.specs.Course.{TellsJobs}
use Rattle.local_run.specs.Ends.{records_due}
use Rattle.local_run.specs.Underway.{AreHere, AwayState, IsHeld, IsJobAt, IsOutcomeAt, IsShapedPool, Matches, MayStop, NoneHas, RunsAt, ToldOf, Underway}
use Rattle.local_run.proofs.Beyond.{away_on}
use Rattle.local_run.proofs.Outputs.{failure_fits, outputs_fit}
use Rattle.local_run.proofs.UnderClosed.{stopped_on}

-- ---- one attempt among those that are held

pub none_at : (number : AttemptNo) (front : List Attempt) (a : Attempt) (back : List Attempt) → NoneHas number (front ++ (a ∷ back)) → a.number ≢ number
none_at number [] a back none = none.0
none_at number (f ∷ fs) a back none = none_at number fs a back none.1

pub none_less : (number : AttemptNo) (front : List Attempt) (a : Attempt) (back : List Attempt) → NoneHas number (front ++ (a ∷ back)) → NoneHas number (front ++ back)
none_less number [] a back none = none.1
none_less number (f ∷ fs) a back none = (none.0, none_less number fs a back none.1)

here_without : (P : Plan) (O : Options) (front : List Attempt) (a : Attempt) (back : List Attempt) → AreHere P O (front ++ (a ∷ back)) → AreHere P O (front ++ back)
here_without P O [] a back here = here.2
here_without P O (f ∷ fs) a back here = (here.0, here.1, here_without P O fs a back here.2)

-- the rule of each of them may run here
may_here : (P : Plan) (O : Options) (front : List Attempt) (a : Attempt) (back : List Attempt) → AreHere P O (front ++ (a ∷ back)) → may_run_on P O a.rule.0 0 ≡ true
may_here P O [] a back here = here.1
may_here P O (f ∷ fs) a back here = may_here P O fs a back here.2

none_held : (number : AttemptNo) (attempts : List Attempt) → NoneHas number attempts → IsHeld number attempts → ⊥
none_held number attempts none held = none_at number held.0 held.1 held.2 (subst (NoneHas number) held.3 none) held.4

module _ (P : Plan) (fine : Type 0) (H : List Record) (trust : Type 0) (contents : Contents) where
  -- the attempt of a start that waits is held
  pub held_at : (attempts : List Attempt) (front : List Start) (start : Start) (back : List Start) → Matches P fine H trust contents attempts (front ++ (start ∷ back)) → IsHeld start.attempt attempts
  held_at [] [] start back m = absurd m
  held_at [] (s ∷ ss) start back m = absurd m
  held_at (a ∷ more) [] start back m = ([], a, more, refl, m.2)
  held_at (a ∷ more) (s ∷ ss) start back m =
      let rest = held_at more ss start back m.4 in
      (a ∷ rest.0, rest.1, rest.2, ap (λ (l : List Attempt). a ∷ l) rest.3, rest.4)

  -- What is known of an attempt and its start, and of the others.
  pub record IsMatched (a : Attempt) (start : Start) (attempts : List Attempt) (starts : List Start) : Type 0 where
    pub runs : RunsAt P fine H a
    pub alone : NoneHas a.number attempts
    pub job : IsJobAt P trust contents a.rule.0 start.job
    pub rest : Matches P fine H trust contents attempts starts

  -- the attempt that is held by the number of a start is its
  pub matched : (front : List Attempt) (a : Attempt) (back : List Attempt) (before : List Start) (start : Start) (after : List Start) → a.number ≡ start.attempt
      → Matches P fine H trust contents (front ++ (a ∷ back)) (before ++ (start ∷ after)) → IsMatched a start (front ++ back) (before ++ after)
  matched [] a back [] start after same m = record { runs = m.0; alone = m.1; job = m.3; rest = m.4 }
  matched [] a back (s ∷ ss) start after same m = absurd (none_held a.number back m.1 (subst (λ (n : AttemptNo). IsHeld n back) (sym same) (held_at back ss start after m.4)))
  matched (f ∷ fs) a back [] start after same m = absurd (none_at f.number fs a back m.1 (same ∙ sym m.2))
  matched (f ∷ fs) a back (s ∷ ss) start after same m =
      let rest : IsMatched a start (fs ++ back) (ss ++ after) = matched fs a back ss start after same m.4 in
      record {
        runs = rest.runs;
        alone = (λ (is : f.number ≡ a.number). none_at f.number fs a back m.1 (sym is), rest.alone);
        job = rest.job;
        rest = (m.0, none_less f.number fs a back m.1, m.2, m.3, rest.rest);
      }

-- ---- the whole

module _ {S : Type 0} (trust : Type 0) (gives : Function) (may_fail : Job → Failure → Type 0) (sources : Contents) (tells kept sure : Type 0) (files : S → Files) (may_leave : S → Outcomes) (moment : S → ℕ)
    (images_since : S → ℕ → Files → Type 0) (away : AwayState) where
  abbrev pub Holds : DeskState S → DeskState S → List Attempt → List Start → Option Attempt → Tally → Option Halt → Type 0
  Holds first d held waiting loose heard halt = Underway trust gives may_fail sources tells kept sure files may_leave moment images_since away first d held waiting loose heard halt

  -- what is known of an attempt that is taken out
  pub taken_is : (first d : DeskState S) (attempts : List Attempt) (waiting : List Start) (heard : Tally) (halt : Option Halt) (front : List Attempt) (a : Attempt) (back : List Attempt) (before : List Start) (start : Start) (after : List Start)
      → attempts ≡ front ++ (a ∷ back) → waiting ≡ before ++ (start ∷ after) → a.number ≡ start.attempt → Holds first d attempts waiting None heard halt
      → IsMatched d.plan (IsFine d.trouble) (records_of d.moves) trust (serial d.plan gives sources) a start (front ++ back) (before ++ after)
  taken_is first d attempts waiting heard halt front a back before start after are wait same u =
      matched d.plan (IsFine d.trouble) (records_of d.moves) trust (serial d.plan gives sources) front a back before start after same
      (subst (λ (l : List Attempt). Matches d.plan (IsFine d.trouble) (records_of d.moves) trust (serial d.plan gives sources) l (before ++ (start ∷ after))) are
      (subst (λ (l : List Start). Matches d.plan (IsFine d.trouble) (records_of d.moves) trust (serial d.plan gives sources) attempts l) wait u.matches))

  -- its rule may run here
  pub taken_may : (first d : DeskState S) (attempts : List Attempt) (waiting : List Start) (loose : Option Attempt) (heard : Tally) (halt : Option Halt) (front : List Attempt) (a : Attempt) (back : List Attempt)
      → attempts ≡ front ++ (a ∷ back) → Holds first d attempts waiting loose heard halt → may_run_on d.plan d.options a.rule.0 0 ≡ true
  taken_may first d attempts waiting loose heard halt front a back are u =
      subst (λ (P : Plan). may_run_on P d.options a.rule.0 0 ≡ true) (sym u.goes.plan)
      (subst (λ (O : Options). may_run_on first.plan O a.rule.0 0 ≡ true) (sym u.goes.options)
      (may_here first.plan first.options front a back (subst (AreHere first.plan first.options) are u.here)))

  -- One attempt and its start are taken out.
  pub taken_out : (first d : DeskState S) (attempts : List Attempt) (waiting : List Start) (heard : Tally) (halt : Option Halt) (front : List Attempt) (a : Attempt) (back : List Attempt) (before : List Start) (start : Start) (after : List Start)
      → attempts ≡ front ++ (a ∷ back) → waiting ≡ before ++ (start ∷ after) → a.number ≡ start.attempt → Holds first d attempts waiting None heard halt
      → Holds first d (front ++ back) (before ++ after) (Some a) heard halt
  taken_out first d attempts waiting heard halt front a back before start after are wait same u =
      let is = taken_is first d attempts waiting heard halt front a back before start after are wait same u in
      let one : length attempts ≡ length (front ++ back) + 1 =
      (let all = ap length are in let long = length-append front (a ∷ back) in let short = length-append front back in omega (arith, all, long, short)) in
      record {
        goes = u.goes;
        matches = is.rest;
        taken = (is.runs, is.alone);
        here = here_without first.plan first.options front a back (subst (AreHere first.plan first.options) are u.here);
        beyond = away_on d.plan (IsFine d.trouble) (IsFine d.trouble) d.moves d.moves attempts (front ++ back) None (Some a) away.attempts
            (λ b at unheld other. let none : NoneHas b.number (front ++ (a ∷ back)) = subst (NoneHas b.number) are unheld in (at, none_less b.number front a back none, none_at b.number front a back none)) u.beyond;
        all = λ fine. let few : length (running_rules d.plan (records_of d.moves)) ≤ length attempts + 0 + length away.attempts = u.all fine in omega (arith, few, one);
        stopped = u.stopped;
        failures = u.failures;
        unended = u.unended;
        never = u.never;
        due = λ going sure_is smooth.
            let was : records_due d.plan (records_of d.moves) ≤ records_due first.plan (records_of first.moves) + length attempts + 0 + length away.attempts = u.due going sure_is smooth in omega (arith, was, one);
      }

  -- the attempt of a start that waits is held
  pub start_held : (first d : DeskState S) (attempts : List Attempt) (waiting : List Start) (heard : Tally) (halt : Option Halt) (before : List Start) (start : Start) (after : List Start)
      → waiting ≡ before ++ (start ∷ after) → Holds first d attempts waiting None heard halt → IsHeld start.attempt attempts
  start_held first d attempts waiting heard halt before start after wait u =
      held_at d.plan (IsFine d.trouble) (records_of d.moves) trust (serial d.plan gives sources) attempts before start after
      (subst (λ (l : List Start). Matches d.plan (IsFine d.trouble) (records_of d.moves) trust (serial d.plan gives sources) attempts l) wait u.matches)

  -- the same by other names
  pub same_under : (first d : DeskState S) (held now : List Attempt) (waiting wait_now : List Start) (loose : Option Attempt) (heard later : Tally) (halt halt_now : Option Halt) → now ≡ held → wait_now ≡ waiting → later ≡ heard → halt_now ≡ halt
      → Holds first d held waiting loose heard halt → Holds first d now wait_now loose later halt_now
  same_under first d held now waiting wait_now loose heard later halt halt_now are wait all same u =
      subst (λ (l : List Attempt). Holds first d l wait_now loose later halt_now) (sym are)
      (subst (λ (l : List Start). Holds first d held l loose later halt_now) (sym wait)
      (subst (λ (t : Tally). Holds first d held waiting loose t halt_now) (sym all)
      (subst (λ (o : Option Halt). Holds first d held waiting loose heard o) (sym same) u)))

  -- More jobs were heard, none of which failed.
  pub heard_more : (first d : DeskState S) (held : List Attempt) (waiting : List Start) (loose : Option Attempt) (heard later : Tally) (halt : Option Halt) → heard.unrun ≤ later.unrun → later.failed ≡ heard.failed
      → Holds first d held waiting loose heard halt → Holds first d held waiting loose later halt
  heard_more first d held waiting loose heard later halt le same u = record {
    goes = u.goes;
    matches = u.matches;
    taken = u.taken;
    here = u.here;
    beyond = u.beyond;
    all = u.all;
    stopped = stopped_on tells kept sure files first d d heard later halt refl refl le (λ why told damaged apart. damaged apart) u.stopped;
    failures = λ fine. let was = u.failures fine in omega (arith, was, same);
    unended = u.unended;
    never = λ is. same ∙ u.never is;
    due = u.due;
  }

  -- A job that wasn't run stops it.
  pub unrun_stops : (d : DeskState S) (heard : Tally) → IsFine d.trouble → 0 < heard.unrun → (sure → ⊥) → MayStop tells kept sure files d heard halts.Runner
  unrun_stops d heard fine some never = record { is = (fine, some); damage = λ told apart. tt; whole = λ told held. tt; never = λ is. absurd (never is) }

-- ---- what a report tells

-- An outcome that fits a job of the rule is one of the rule.
pub outcome_at : (P : Plan) (O : Options) (gives : Function) (may_fail : Job → Failure → Type 0) (sources : Contents) (trust : Type 0) (fits : Job → Outcome → Type 0) (rule : ℕ) (job : Job) (outcome : Outcome) → IsJobAt P trust (serial P gives sources) rule job
    → may_run_on P O rule 0 ≡ true → fits job outcome → IsShapedPool fits → (trust → TellsJobs P O (ToldOf gives may_fail fits) (serial P gives sources)) → IsOutcomeAt P trust gives may_fail sources rule outcome
outcome_at P O gives may_fail sources trust fits rule job outcome at may fit shaped told = record {
  shaped = (job, at.wants, shaped job outcome fit);
  told = λ trusted row is. told trusted rule row is may outcome (subst (λ (j : Job). fits j outcome) (at.due trusted row is) fit);
}

module _ (P : Plan) (gives : Function) (may_fail : Job → Failure → Type 0) (sources : Contents) (trust : Type 0) (rule : ℕ) (outcome : Outcome) (at : IsOutcomeAt P trust gives may_fail sources rule outcome) where
  pub outputs_are : (outs : List (List ℕ)) → outcome ≡ outcomes.Success outs → IsValid P → rule < length P.rules → AreOutputs P rule outs
  outputs_are outs same valid inside =
      let job = at.shaped.0 in
      let shape : IsShaped job (outcomes.Success outs) = subst (IfRun (IsShaped job)) same at.shaped.2 in
      outputs_fit P rule job outs valid inside at.shaped.1 shape.0 shape.1

  pub outputs_due : (outs : List (List ℕ)) → outcome ≡ outcomes.Success outs → trust → IsDue P gives sources rule outs
  outputs_due outs same trusted row is = subst (EndsAsTold gives may_fail (job_of P row (serial P gives sources))) same (at.told trusted row is)

  pub failure_is : (why : Failure) → outcome ≡ outcomes.Failed why → rule < length P.rules → is_failure_at why (length (makes P rule)) ≡ true
  failure_is why same inside =
      let job = at.shaped.0 in
      let names : IsShaped job (outcomes.Failed why) = subst (IfRun (IsShaped job)) same at.shaped.2 in
      failure_fits P rule job why inside at.shaped.1 names

  pub failure_due : (why : Failure) → outcome ≡ outcomes.Failed why → trust → (row : Rule) → slice_get P.rules rule ≡ Some row → may_fail (job_of P row (serial P gives sources)) why
  failure_due why same trusted row is = subst (EndsAsTold gives may_fail (job_of P row (serial P gives sources))) same (at.told trusted row is)
