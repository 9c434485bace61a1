-- What the closing of an attempt makes of a desk.
use Rattle.std.proofs.Common.{◌≡◌, ◌≤◌, ◌<◌, ◌∙◌, ⊎_elim, ℕ, Bool, true, false, cond, not, ◌&&◌, List, [], ◌∷◌, ◌++◌, length, Option, Some, None, Result, Ok, Err, refl, sym, ap, subst, arith, true≢false}
use Rattle.std.specs.Prelude.{◌==◌, is_some, unwrap_or}
use Rattle.flow_types.specs.declared.plan.Plan.{Plan}
use Rattle.flow_types.specs.declared.job.Job.{Job}
use Rattle.flow_types.specs.declared.job.Failure.{Failure}
use Rattle.flow_types.specs.declared.numbers.RuleNo.{RuleNo}
use Rattle.flow_types.specs.declared.numbers.AttemptNo.{AttemptNo}
use Rattle.flow_types.specs.declared.numbers.LinkNo.{LinkNo}
use Rattle.flow_types.specs.declared.numbers.Content.{Content}
use Rattle.flow_types.specs.declared.records.Record.{Record}
use Rattle.flow_types.specs.declared.records.Record.TheVariants as records
use Rattle.flow_types.specs.Serial.{Contents, Function, serial}
use Rattle.run_history.specs.declared.moves.Move.{Move}
use Rattle.run_history.specs.declared.answers.Stop.{Stop}
use Rattle.flow_types.specs.declared.records.EndKind.{EndKind}
use Rattle.run_history.specs.declared.answers.Check.{Check}
use Rattle.run_history.specs.declared.answers.Check.TheVariants as checks
use Rattle.run_history.specs.Admissions.{Admitting, stop_by}
use Rattle.run_history.specs.Answers.{before_end, end_of, end_over, has_ended, kind_of, is_waited_end, logged_end, stop_at_end}
use Rattle.run_history.specs.declared.answers.Stop.TheVariants as stops
use Rattle.run_history.specs.declared.options.Options.{Options}
use Rattle.run_history.specs.History.{is_end, since_opening}
use Rattle.task_core.proofs.Ending.{now-ended}
use Rattle.task_core.proofs.Standing.{before-this}
use Rattle.std.specs.List.{before_last, list_any}
use Rattle.desk.specs.declared.answers.EndRefused.{EndRefused}
use Rattle.desk.specs.declared.answers.EndRefused.TheVariants as unended
use Rattle.desk.specs.Ends.{Ends, EndsBy}
use Rattle.run_history.specs.History.{is_cleaned, is_cleaned_kind, is_opening}
use Rattle.run_history.specs.Links.{records_of}
use Rattle.run_history.specs.States.{drops, outs_in, running_says}
use Rattle.run_history.specs.Storage.{running_rules}
use Rattle.run_history.proofs.Grows.{records-push}
use Rattle.desk.specs.declared.answers.Trouble.TheVariants as trouble
use Rattle.desk.specs.declared.answers.CloseRefused.{CloseRefused}
use Rattle.desk.specs.declared.answers.CloseRefused.TheVariants as refused
use Rattle.outside.specs.Disk.{Outcomes}
use Rattle.outside.specs.Files.{Files}
use Rattle.desk.specs.State.{Breaks, Closes, DeskState, IsFine, Lacks, Spares, runs_with}
use Rattle.desk.proofs.Presents.{runs_from}
use Rattle.desk.proofs.Running.{closing, ended_runs, no_outs}
use Rattle.local_run.specs.Collecting.{IsUntouched}
use Rattle.local_run.specs.Course.{FailsHonestly, GoesOn, IsBroken, LeavesAlone, begins_anew}
use Rattle.local_run.proofs.Going.{MayAdd, adds, adds_plain, stays}

-- a call at which the site failed adds no record
pub breaks_same : {S : Type 0} (count : S → ℕ) (d : DeskState S) (before now : ℕ) (after : DeskState S) → Breaks count d before now after → records_of after.moves ≡ records_of d.moves
breaks_same {S} count d before now after h = ⊎_elim (λ was. ap (λ (a : DeskState S). records_of a.moves) was.1) (λ new. ap (λ (a : DeskState S). records_of a.moves) new.5) h

-- nor one for which memory was wanting
pub lacks_same : {S : Type 0} (d after : DeskState S) → Lacks d after → records_of after.moves ≡ records_of d.moves
lacks_same {S} d after h = ⊎_elim (λ was. ap (λ (a : DeskState S). records_of a.moves) was.1) (λ new. ap (λ (a : DeskState S). records_of a.moves) new.1) h

pub spares_same : {S : Type 0} (d after : DeskState S) → Spares d after → records_of after.moves ≡ records_of d.moves
spares_same {S} d after h = ⊎_elim (λ lacks. lacks_same d after lacks) (λ same. ap (λ (a : DeskState S). records_of a.moves) same.1) h

module _ {S : Type 0} (trust : Type 0) (gives : Function) (may_fail : Job → Failure → Type 0) (sources : Contents) (tells : Type 0) (files : S → Files) (may_leave : S → Outcomes) (moment : S → ℕ)
    (images_since : S → ℕ → Files → Type 0) where
  abbrev pub Goes : DeskState S → DeskState S → Type 0
  Goes d after = GoesOn trust gives may_fail sources tells files may_leave moment images_since [] d after

  abbrev pub Alone : DeskState S → S → Type 0
  Alone d s = tells → LeavesAlone files may_leave moment images_since (IsUntouched d.plan d.log (records_of d.moves)) d.site s

  -- a desk at which the site or memory failed
  pub breaks_goes : (count : S → ℕ) (d : DeskState S) (k : Option Stop) (before now : ℕ) (after : DeskState S) → (k ≡ None → d.stop ≡ None) → Alone d after.site
      → Breaks count (record d { stop = k }) before now after → Goes d after
  breaks_goes count d k before now after first others h =
      ⊎_elim (λ was. subst (λ (a : DeskState S). Alone d a.site → Goes d a) (sym was.1) (stays trust gives may_fail sources tells files may_leave moment images_since d k d.trouble d.site first (λ fine. fine)) others)
      (λ new. subst (λ (a : DeskState S). Alone d a.site → Goes d a) (sym new.5)
      (stays trust gives may_fail sources tells files may_leave moment images_since d k (trouble.Broken before now) after.site first (λ fine. absurd fine)) others) h

  pub lacks_goes : (d : DeskState S) (k : Option Stop) (after : DeskState S) → (k ≡ None → d.stop ≡ None) → Alone d after.site → Lacks (record d { stop = k }) after → Goes d after
  lacks_goes d k after first others h =
      ⊎_elim (λ was. subst (λ (a : DeskState S). Alone d a.site → Goes d a) (sym was.1) (stays trust gives may_fail sources tells files may_leave moment images_since d k d.trouble d.site first (λ fine. fine)) others)
      (λ new. subst (λ (a : DeskState S). Alone d a.site → Goes d a) (sym new.1) (stays trust gives may_fail sources tells files may_leave moment images_since d k trouble.Wants after.site first (λ fine. absurd fine)) others) h

  -- memory may have been wanting for the call alone
  pub spares_goes : (d after : DeskState S) → Alone d after.site → Spares d after → Goes d after
  spares_goes d after others h =
      ⊎_elim (λ lacks. lacks_goes d d.stop after (λ none. none) others lacks)
      (λ same. subst (λ (a : DeskState S). Alone d a.site → Goes d a) (sym same.1)
      (stays trust gives may_fail sources tells files may_leave moment images_since d d.stop d.trouble d.site (λ none. none) (λ fine. fine)) others) h

  by_answer : (count : S → ℕ) (d : DeskState S) (k : Option Stop) (rule : RuleNo) (number : AttemptNo) (link : LinkNo) (x : Record) (r : Result (Unit {0}) CloseRefused) (after : DeskState S)
      → (trust → FailsHonestly d.plan may_fail (serial d.plan gives sources) x) → (k ≡ None → d.stop ≡ None) → (IsFine d.trouble → MayAdd d.moves k x) → begins_anew x ≡ false → ((f : ℕ) → drops f x ≡ false) → Alone d after.site
      → Closes count (record d { stop = k }) rule number link x r after → Goes d after
  by_answer count d k rule number link x (Ok done) after honest first held plain keeps others h =
      subst (λ (a : DeskState S). Alone d a.site → Goes d a) (sym h.2) (adds trust gives may_fail sources tells files may_leave moment images_since d x k after.site honest first (held h.0) plain keeps) others
  by_answer count d k rule number link x (Err (refused.Stale named state)) after honest first held plain keeps others h =
      subst (λ (a : DeskState S). Alone d a.site → Goes d a) (sym h.4) (stays trust gives may_fail sources tells files may_leave moment images_since d k d.trouble d.site first (λ fine. fine)) others
  by_answer count d k rule number link x (Err (refused.Broken before now)) after honest first held plain keeps others h = breaks_goes count d k before now after first others h
  by_answer count d k rule number link x (Err refused.Memory) after honest first held plain keeps others h = lacks_goes d k after first others h

  -- a closing call, after a stop may have been set
  pub closes_goes : (count : S → ℕ) (d mid : DeskState S) (k : Option Stop) (rule : RuleNo) (number : AttemptNo) (link : LinkNo) (x : Record) (r : Result (Unit {0}) CloseRefused) (after : DeskState S)
      → mid ≡ record d { stop = k } → (trust → FailsHonestly d.plan may_fail (serial d.plan gives sources) x) → (k ≡ None → d.stop ≡ None) → (IsFine d.trouble → MayAdd d.moves k x) → begins_anew x ≡ false → ((f : ℕ) → drops f x ≡ false) → Alone mid after.site
      → Closes count mid rule number link x r after → Goes d after
  closes_goes count d mid k rule number link x r after same honest first held plain keeps others h =
      subst (λ (m : DeskState S). Alone m after.site → Closes count m rule number link x r after → Goes d after) (sym same) (by_answer count d k rule number link x r after honest first held plain keeps) others h

-- a stop at once is set always
pub halts_now : (A : Admitting) (P : Plan) (O : Options) (M : List Move) (stop : Option Stop) → stop_by A P O M stop stops.Halt ≡ None → ⊥
halts_now A P O M (Some first) none = true≢false (ap is_some none)
halts_now A P O M None none = true≢false (ap is_some none)

-- the record closes an attempt of the rule
pub record ClosesRule (place : ℕ) (x : Record) : Type 0 where
  pub stays : is_cleaned x ≡ false
  pub opens : is_opening x ≡ false
  pub outs : Option (List Content)
  pub says : (r : ℕ) → let none : Option (Option (AttemptNo × LinkNo)) = None in running_says r x ≡ cond (place == r) (Some None) none
  pub logs : (r : ℕ) → outs_in r x ≡ cond (place == r) outs None

ends_by : {S : Type 0} (count : S → ℕ) (d : DeskState S) (rule : RuleNo) (number : AttemptNo) (link : LinkNo) (x : Record) (r : Result (Unit {0}) CloseRefused) (after : DeskState S) → ClosesRule rule.0 x
    → rule.0 < length d.plan.rules → runs_with (records_of d.moves) rule.0 number.0 link.0 ≡ true → length (running_rules d.plan (records_of d.moves)) ≤ 1 → Closes count d rule number link x r after
    → IsFine after.trouble → length (running_rules after.plan (records_of after.moves)) ≤ 0
ends_by {S} count d rule number link x (Ok done) after ends inside runs alone h fine =
    subst (λ (a : DeskState S). length (running_rules a.plan (records_of a.moves)) ≤ 0) (sym h.2)
    (subst (λ (G : List Record). length (running_rules d.plan G) ≤ 0) (sym (records-push d.moves x))
    (let less = closing d.plan (records_of d.moves) x rule.0 number.0 ends.outs (runs_from d.plan (records_of d.moves) rule.0 number.0 link.0 inside runs) ends.stays ends.opens ends.says ends.logs in
    omega (arith, less, alone)))
ends_by count d rule number link x (Err (refused.Stale named state)) after ends inside runs alone h fine = absurd (true≢false (sym runs ∙ h.1))
ends_by {S} count d rule number link x (Err (refused.Broken before now)) after ends inside runs alone h fine =
    ⊎_elim (λ was. absurd (subst IsFine (ap (λ (a : DeskState S). a.trouble) was.1 ∙ was.0) fine)) (λ new. absurd (subst IsFine (ap (λ (a : DeskState S). a.trouble) new.5) fine)) h
ends_by {S} count d rule number link x (Err refused.Memory) after ends inside runs alone h fine =
    ⊎_elim (λ was. absurd (subst IsFine (ap (λ (a : DeskState S). a.trouble) was.1 ∙ was.0) fine)) (λ new. absurd (subst IsFine (ap (λ (a : DeskState S). a.trouble) new.1) fine)) h

-- nothing runs behind the closing of the one attempt
pub none_runs : {S : Type 0} (count : S → ℕ) (d mid : DeskState S) (k : Option Stop) (rule : RuleNo) (number : AttemptNo) (link : LinkNo) (x : Record) (r : Result (Unit {0}) CloseRefused) (after : DeskState S) → ClosesRule rule.0 x
    → mid ≡ record d { stop = k } → rule.0 < length d.plan.rules → runs_with (records_of d.moves) rule.0 number.0 link.0 ≡ true → length (running_rules d.plan (records_of d.moves)) ≤ 1 → Closes count mid rule number link x r after
    → IsFine after.trouble → length (running_rules after.plan (records_of after.moves)) ≤ 0
none_runs {S} count d mid k rule number link x r after ends same inside runs alone h =
    ends_by count (record d { stop = k }) rule number link x r after ends inside runs alone (subst (λ (m : DeskState S). Closes count m rule number link x r after) same h)

-- a call that the site's failure ended leaves a broken desk
pub is_broken : {S : Type 0} (count : S → ℕ) (d : DeskState S) (before now : ℕ) (after : DeskState S) → Breaks count d before now after → IsBroken after.trouble
is_broken {S} count d before now after h =
    ⊎_elim (λ was. subst IsBroken (sym (ap (λ (a : DeskState S). a.trouble) was.1 ∙ was.0)) tt) (λ new. subst IsBroken (sym (ap (λ (a : DeskState S). a.trouble) new.5)) tt) h

-- the records that close an attempt
pub done_closes : (moment : ℕ) (rule : RuleNo) (attempt : AttemptNo) (outs : List Content) → ClosesRule rule.0 (records.Done moment rule attempt outs)
done_closes moment rule attempt outs = record { stays = refl; opens = refl; outs = Some outs; says = λ r. refl; logs = λ r. refl }

pub failed_closes : (moment : ℕ) (rule : RuleNo) (attempt : AttemptNo) (why : Failure) → ClosesRule rule.0 (records.Failed moment rule attempt why)
failed_closes moment rule attempt why = record { stays = refl; opens = refl; outs = None; says = λ r. refl; logs = λ r. no_outs (rule.0 == r) }

pub lost_closes : (moment : ℕ) (rule : RuleNo) (attempt : AttemptNo) → ClosesRule rule.0 (records.Lost moment rule attempt)
lost_closes moment rule attempt = record { stays = refl; opens = refl; outs = None; says = λ r. refl; logs = λ r. no_outs (rule.0 == r) }

-- ---- the end of a run

not_cleaned : (check : Check) (kind : EndKind) → kind_of check ≡ Some kind → is_cleaned_kind kind ≡ false
not_cleaned (checks.Complete collected) kind is = ap is_cleaned_kind (ap (λ o. unwrap_or o kind) (sym is))
not_cleaned (checks.CommandFailed rule why) kind is = ap is_cleaned_kind (ap (λ o. unwrap_or o kind) (sym is))
not_cleaned (checks.InputsTooLarge rule total) kind is = ap is_cleaned_kind (ap (λ o. unwrap_or o kind) (sym is))
not_cleaned (checks.NoRoom rule need stored limit) kind is = ap is_cleaned_kind (ap (λ o. unwrap_or o kind) (sym is))
not_cleaned (checks.Waited wait) kind is = ap is_cleaned_kind (ap (λ o. unwrap_or o kind) (sym is))
not_cleaned checks.Going kind is = absurd (true≢false (sym (ap is_some is)))
not_cleaned checks.Halted kind is = absurd (true≢false (sym (ap is_some is)))
not_cleaned (checks.LogFull records) kind is = absurd (true≢false (sym (ap is_some is)))

logged_not_cleaned : (check : Check) (ended : Bool) (kind : EndKind) → cond ended None (kind_of check) ≡ Some kind → is_cleaned_kind kind ≡ false
logged_not_cleaned check true kind is = absurd (true≢false (sym (ap is_some is)))
logged_not_cleaned check false kind is = not_cleaned check kind is

module _ {S : Type 0} (trust : Type 0) (gives : Function) (may_fail : Job → Failure → Type 0) (sources : Contents) (tells : Type 0) (files : S → Files) (may_leave : S → Outcomes) (moment : S → ℕ)
    (images_since : S → ℕ → Files → Type 0) where
  abbrev pub GoesThen : DeskState S → DeskState S → Type 0
  GoesThen d after = GoesOn trust gives may_fail sources tells files may_leave moment images_since [] d after

  abbrev pub AloneThen : DeskState S → S → Type 0
  AloneThen d s = tells → LeavesAlone files may_leave moment images_since (IsUntouched d.plan d.log (records_of d.moves)) d.site s

  by_kind : (d : DeskState S) (moment : ℕ) (kind : Option EndKind) (after : DeskState S) → ((k : EndKind) → kind ≡ Some k → is_cleaned_kind k ≡ false) → AloneThen d after.site → EndsBy kind d moment after → GoesThen d after
  by_kind d time None after whole others h =
      subst (λ (a : DeskState S). AloneThen d a.site → GoesThen d a) (sym h) (stays trust gives may_fail sources tells files may_leave moment images_since d d.stop d.trouble d.site (λ none. none) (λ fine. fine)) others
  by_kind d time (Some kind) after whole others h =
      subst (λ (a : DeskState S). AloneThen d a.site → GoesThen d a) (sym h)
      (adds trust gives may_fail sources tells files may_leave moment images_since d (records.Ended time kind) d.stop after.site (λ trusted. tt) (λ none. none) (adds_plain d.moves d.stop (records.Ended time kind) (λ none. refl)) (whole kind refl) (λ f. refl)) others

  -- the call that ends a run
  pub ends_goes : (count : S → ℕ) (d : DeskState S) (moment : ℕ) (r : Result Check EndRefused) (after : DeskState S) → AloneThen d after.site → Ends count d moment r after → GoesThen d after
  ends_goes count d time (Ok check) after others h = by_kind d time (logged_end d.plan d.options d.moves d.stop) after (λ k is. logged_not_cleaned (end_of d.plan d.options d.moves d.stop) (has_ended (records_of d.moves)) k is) others h.2
  ends_goes count d time (Err (unended.Broken before now)) after others h =
      breaks_goes trust gives may_fail sources tells files may_leave moment images_since count d d.stop before now after (λ none. none) others h
  ends_goes count d time (Err unended.Memory) after others h = spares_goes trust gives may_fail sources tells files may_leave moment images_since d after others h

idle_by : {S : Type 0} (d : DeskState S) (moment : ℕ) (kind : Option EndKind) (after : DeskState S) → ((k : EndKind) → kind ≡ Some k → is_cleaned_kind k ≡ false)
    → length (running_rules d.plan (records_of d.moves)) ≤ 0 → EndsBy kind d moment after → length (running_rules after.plan (records_of after.moves)) ≤ 0
idle_by {S} d moment None after stays idle h = subst (λ (a : DeskState S). length (running_rules a.plan (records_of a.moves)) ≤ 0) (sym h) idle
idle_by {S} d moment (Some kind) after stays idle h =
    subst (λ (a : DeskState S). length (running_rules a.plan (records_of a.moves)) ≤ 0) (sym h)
    (subst (λ (G : List Record). length (running_rules d.plan G) ≤ 0) (sym (records-push d.moves (records.Ended moment kind)))
    (let same = ended_runs d.plan (records_of d.moves) moment kind (stays kind refl) in omega (arith, same, idle)))

-- nothing runs behind it
pub ends_idle : {S : Type 0} (count : S → ℕ) (d : DeskState S) (moment : ℕ) (r : Result Check EndRefused) (after : DeskState S) → length (running_rules d.plan (records_of d.moves)) ≤ 0
    → Ends count d moment r after → IsFine after.trouble → length (running_rules after.plan (records_of after.moves)) ≤ 0
ends_idle {S} count d moment (Ok check) after idle h fine =
    idle_by d moment (logged_end d.plan d.options d.moves d.stop) after (λ k is. logged_not_cleaned (end_of d.plan d.options d.moves d.stop) (has_ended (records_of d.moves)) k is) idle h.2
ends_idle {S} count d moment (Err (unended.Broken before now)) after idle h fine =
    ⊎_elim (λ was. absurd (subst IsFine (ap (λ (a : DeskState S). a.trouble) was.1 ∙ was.0) fine)) (λ new. absurd (subst IsFine (ap (λ (a : DeskState S). a.trouble) new.5) fine)) h
ends_idle {S} count d moment (Err unended.Memory) after idle h fine =
    ⊎_elim (λ lacks. ⊎_elim (λ was. absurd (subst IsFine (ap (λ (a : DeskState S). a.trouble) was.1 ∙ was.0) fine)) (λ new. absurd (subst IsFine (ap (λ (a : DeskState S). a.trouble) new.1) fine)) lacks)
    (λ same. subst (λ (a : DeskState S). length (running_rules a.plan (records_of a.moves)) ≤ 0) (sym same.1) idle) h

kind_fine : {S : Type 0} (d : DeskState S) (moment : ℕ) (kind : Option EndKind) (after : DeskState S) → EndsBy kind d moment after → (after.trouble ≡ d.trouble) × (after.stop ≡ d.stop)
kind_fine {S} d moment None after h = (ap (λ (a : DeskState S). a.trouble) h, ap (λ (a : DeskState S). a.stop) h)
kind_fine {S} d moment (Some kind) after h = (ap (λ (a : DeskState S). a.trouble) h, ap (λ (a : DeskState S). a.stop) h)

-- a desk that ended a run works on
pub ends_fine : {S : Type 0} (count : S → ℕ) (d : DeskState S) (moment : ℕ) (check : Check) (after : DeskState S) → Ends count d moment (Ok check) after → IsFine after.trouble × (after.stop ≡ d.stop)
ends_fine {S} count d moment check after h =
    let both = kind_fine d moment (logged_end d.plan d.options d.moves d.stop) after h.2 in (subst IsFine (sym both.0) h.0, both.1)

abbrev no_stop : Option Stop
no_stop = None

none_stops : (b c : Bool) → cond (b && not c) no_stop no_stop ≡ no_stop
none_stops true true = refl
none_stops true false = refl
none_stops false c = refl

-- what an end answered is what the records before it answer
over_kind : {S : Type 0} (d : DeskState S) (moment : ℕ) (kind : Option EndKind) (after : DeskState S) → ((k : EndKind) → kind ≡ Some k → is_cleaned_kind k ≡ false) → ((k : EndKind) → kind ≡ Some k → has_ended (records_of d.moves) ≡ false)
    → EndsBy kind d moment after → before_end (records_of after.moves) ≡ before_end (records_of d.moves)
over_kind {S} d moment None after stays first h = ap (λ (a : DeskState S). before_end (records_of a.moves)) h
over_kind {S} d moment (Some kind) after stays first h =
    let H = records_of d.moves in
    let L = H ++ (records.Ended moment kind ∷ []) in
    ap (λ (a : DeskState S). before_end (records_of a.moves)) h
    ∙ ap before_end (records-push d.moves (records.Ended moment kind))
    ∙ ap (λ b. cond b (before_last is_end L) L) (now-ended H moment kind (stays kind refl))
    ∙ before-this H (records.Ended moment kind) refl
    ∙ sym (ap (λ b. cond b (before_last is_end H) H) (first kind refl))

logged_first : (check : Check) (ended : Bool) (kind : EndKind) → cond ended None (kind_of check) ≡ Some kind → ended ≡ false
logged_first check true kind is = absurd (true≢false (sym (ap is_some is)))
logged_first check false kind is = refl

kind_same : {S : Type 0} (d : DeskState S) (moment : ℕ) (kind : Option EndKind) (after : DeskState S) → EndsBy kind d moment after → (after.plan ≡ d.plan) × (after.options ≡ d.options)
kind_same {S} d moment None after h = (ap (λ (a : DeskState S). a.plan) h, ap (λ (a : DeskState S). a.options) h)
kind_same {S} d moment (Some kind) after h = (ap (λ (a : DeskState S). a.plan) h, ap (λ (a : DeskState S). a.options) h)

-- the answer of an end, by the records that it leaves
pub ends_over : {S : Type 0} (count : S → ℕ) (d : DeskState S) (moment : ℕ) (check : Check) (after : DeskState S) → Ends count d moment (Ok check) after → after.stop ≡ None
    → check ≡ end_over after.plan after.options (before_end (records_of after.moves)) None
ends_over {S} count d moment check after h unset =
    let H = records_of d.moves in
    let none : d.stop ≡ None = sym (ends_fine count d moment check after h).1 ∙ unset in
    let answer = end_of d.plan d.options d.moves d.stop in
    let kept = kind_same d moment (logged_end d.plan d.options d.moves d.stop) after h.2 in
    let same : before_end (records_of after.moves) ≡ before_end H =
    over_kind d moment (logged_end d.plan d.options d.moves d.stop) after (λ k is. logged_not_cleaned answer (has_ended H) k is) (λ k is. logged_first answer (has_ended H) k is) h.2 in
    h.1 ∙ ap (λ stop. end_over d.plan d.options (before_end H) (stop_at_end H stop)) none
    ∙ ap (end_over d.plan d.options (before_end H)) (none_stops (has_ended H) (list_any is_waited_end (since_opening H)))
    ∙ sym (ap (λ (G : List Record). end_over d.plan d.options G None) same)
    ∙ sym (ap (λ (P : Plan). end_over P d.options (before_end (records_of after.moves)) None) kept.0)
    ∙ sym (ap (λ (O : Options). end_over after.plan O (before_end (records_of after.moves)) None) kept.1)
