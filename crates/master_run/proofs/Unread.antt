-- What a call does that runs a plan and can't read its log.
use Rattle.run_history.specs.Admissions.{Admitting}
use Rattle.std.proofs.Common.{◌≡◌, ◌≢◌, ◌≤◌, ◌<◌, ◌⊎◌, ⊎_elim, inl, inr, ℕ, true, false, List, [], Option, refl, sym, ap, subst, arith, true≢false}
use Rattle.flow_types.specs.declared.job.Job.{Job}
use Rattle.flow_types.specs.declared.job.Failure.{Failure}
use Rattle.flow_types.specs.declared.records.Record.{Record}
use Rattle.flow_types.specs.Serial.{Function}
use Rattle.outside.specs.Disk.{IsImage, LeavesOnly, Outcomes}
use Rattle.outside.specs.Files.{Files}
use Rattle.txn_log.specs.Spells.{IsUnbegun, Spells}
use Rattle.log_recover.specs.Laws.{HasAHeader, IsWhole}
use Rattle.log_recover.specs.declared.fault.RecoverFault.{RecoverFault}
use Rattle.log_recover.specs.declared.fault.RecoverFault.TheVariants as recovery
use Rattle.log_recover.specs.Recovery.{IsRecovering}
use Rattle.local_run.specs.Moments.{IsBefore, IsDamageFault, IsUnread, KeepsSome}
use Rattle.local_run.specs.Runs.{Held, SerialFits, read_sources}
use Rattle.local_run.proofs.Joining.{goes_on_from}
use Rattle.report.specs.declared.cause.Cause.{Cause}
use Rattle.report.specs.declared.cause.Cause.TheVariants as causes
use Rattle.report.specs.Causes.{is_completion, is_cut, kind_of, may_replace, was_read}
use Rattle.master_run.proofs.Counted.{site_rise}
use Rattle.master_run.specs.declared.ask.Ask.{Ask}
use Rattle.master_run.specs.Counts.{Counts}
use Rattle.master_run.specs.declared.rises.Rise.{Rise}
use Rattle.master_run.specs.Ends.{FaultEnd, IsDamagedAt, NoneRose}
use Rattle.master_run.specs.Headline.{FailureEnd, is_run_end}
use Rattle.master_run.specs.Runs.{unread_cause}
use Rattle.master_run.specs.Serves.{Serves}
use Rattle.master_run.proofs.Adding.{unread_adds}
use Rattle.master_run.proofs.Moved.{begun_still}
use Rattle.master_run.proofs.Faults.{adds_none, before_all, before_beside, fault_serves, unread_collects, unread_placed}

-- what a recovery leaves is of before the log was read
pub recovering_before : (log : List ℕ) (file : Option (List ℕ)) (outcomes : Outcomes) (image : Files) → IsRecovering log file outcomes image → IsBefore log file outcomes image
recovering_before log file outcomes image is = record { spelled = is.log; others = is.others }

pub unread_failed : (s : Rise) (f0 f1 : ℕ) (why : RecoverFault) → f0 ≤ f1 → FailureEnd f0 f1 (kind_of (unread_cause s why))
unread_failed s f0 f1 recovery.Site le = record { later = le; rose = λ wrong. absurd (cc) }
unread_failed s f0 f1 recovery.BadHeader le = record { later = le; rose = λ wrong. absurd (cc) }
unread_failed s f0 f1 (recovery.BadRecord at) le = record { later = le; rose = λ wrong. absurd (cc) }
unread_failed s f0 f1 recovery.Memory le = record { later = le; rose = λ wrong. absurd (cc) }

-- a log that isn't read begins no run
pub unread_ends : (s : Rise) (why : RecoverFault) → is_run_end (kind_of (unread_cause s why)) ≡ false
unread_ends s recovery.Site = refl
unread_ends s recovery.BadHeader = refl
unread_ends s (recovery.BadRecord at) = refl
unread_ends s recovery.Memory = refl

-- a log that spells records is read, where nothing cuts the call short
pub unread_cuts : {A : Type 0} (header : HasAHeader) (whole : IsWhole) (s : Rise) (file : Option (List ℕ)) (H : List Record) (why : RecoverFault) → Spells H file → IsUnread file why
    → (is_cut (kind_of (unread_cause s why)) ≡ true → ⊥) → A
unread_cuts header whole s file H recovery.Site spelled is uncut = absurd (uncut refl)
unread_cuts header whole s file H recovery.BadHeader spelled is uncut = absurd (header H file spelled is)
unread_cuts header whole s file H (recovery.BadRecord at) spelled is uncut = absurd (whole H file at spelled is)
unread_cuts header whole s file H recovery.Memory spelled is uncut = absurd (uncut refl)

at_of : (x y : ℕ) → causes.LogDamaged x ≡ causes.LogDamaged y → x ≡ y
at_of x y is = ap at is
  where
    at : Cause → ℕ
    at (causes.LogDamaged n) = n
    at _ = 0

module _ {S : Type 0} (E : Admitting) (tells : Type 0) (files : S → Files) (may_leave : S → Outcomes) (moment : S → ℕ) (images_since : S → ℕ → Files → Type 0) (born : ℕ)
    (gives : Function) (may_fail : Job → Failure → Type 0) (told : Job → Type 0) (sure honest_links : Type 0) (b a : Counts) (ask : Ask) (old new : S)
    (later : tells → born ≤ moment old) (only : tells → LeavesOnly moment images_since old new (IsBefore ask.log (files old ask.log) (may_leave old)))
    (crash : tells → (m : List ℕ) (file : Option (List ℕ)) → m ≢ ask.log → may_leave new m file → may_leave old m file)
    (beside : tells → (m : List ℕ) → m ≢ ask.log → files new m ≡ files old m) where
  goes_on : tells → ((image : Files) → IsImage (may_leave old) image → KeepsSome Held ask.plan ask.log image) → (image : Files) → images_since new born image
      → images_since old born image ⊎ KeepsSome Held ask.plan ask.log image
  goes_on t some image left =
      ⊎_elim (λ was. inl was)
      (λ (before : IsBefore ask.log (files old ask.log) (may_leave old) image). inr (goes_on_from Held ask.plan ask.log (files old) (may_leave old) [] [] ⊥ image some (inl before)))
      ((only t).before born image (later t) left)

  cut_serves : (cause : Cause) → is_cut (kind_of cause) ≡ true → may_replace (kind_of cause) ≡ true → was_read (kind_of cause) ≡ false → FaultEnd b a cause → (NoneRose b a → is_completion (kind_of cause) ≡ true)
      → Serves E tells files may_leave moment images_since born gives may_fail told sure honest_links b a ask old new [] cause
  cut_serves cause cut replaces unread fault completes =
      fault_serves E tells files may_leave moment images_since born gives may_fail told sure honest_links b a ask old new [] cause (record {
        cut = cut;
        faults = fault;
        has_log = λ t H spelled. inr (refl, replaces);
        added = λ t H spelled. unread_adds ask.work ask.options H cause cut;
        unread = λ t H spelled none. only t;
        logged = λ t H spelled. inr (inr refl, unread);
        moments = λ t H spelled. before_all E tells files may_leave moment images_since born gives may_fail told sure honest_links b a ask old new [] cause Held H (later t) (only t);
        resumable = goes_on;
        others = λ t. before_beside E tells files may_leave moment images_since born gives may_fail told sure honest_links b a ask old new [] cause (only t) (crash t);
        contents = λ t H spelled jobs. before_all E tells files may_leave moment images_since born gives may_fail told sure honest_links b a ask old new [] cause (SerialFits gives (read_sources ask.plan (files old))) H (later t) (only t);
        honest = λ t H spelled resumable jobs begins. adds_none gives may_fail ask.plan (files old) H begins;
        modes = λ t H spelled begins. unread_collects ask.plan ask.options.mode H begins;
        places = λ t H spelled begins. unread_placed ask.plan ask.options H begins;
        reads = λ t m unmade. beside t m unmade.0;
        none_rose = completes;
      })

  damaged_serves : (at : ℕ) → (tells → IsDamagedAt (files old ask.log) at) → (tells → (H : List Record) → Spells H (files old ask.log) → ⊥) → (tells → IsUnbegun (files old ask.log) → ⊥) → (tells → (m : List ℕ) → files new m ≡ files old m)
      → Serves E tells files may_leave moment images_since born gives may_fail told sure honest_links b a ask old new [] (causes.LogDamaged at)
  damaged_serves at is none begun same = record {
    ends = λ t. record {
      damaged = λ place told_at. subst (IsDamagedAt (files old ask.log)) (at_of at place told_at) (is t);
      read = inr (inl (at, refl));
      whole = λ H spelled. absurd (none t H spelled);
    };
    late = refl;
    faults = tt;
    has_log = λ t H spelled. absurd (none t H spelled);
    added = λ t H spelled. absurd (none t H spelled);
    unread = λ t H spelled. absurd (none t H spelled);
    legal = λ wrong. absurd (true≢false (sym wrong));
    logged = λ t H spelled. absurd (none t H spelled);
    closed = λ wrong. absurd (true≢false (sym wrong));
    spent = λ t H spelled whole. absurd (none t H spelled);
    lost = λ t H spelled alone keeps. absurd (none t H spelled);
    lost_away = λ t H spelled keeps. absurd (none t H spelled);
    moments = λ t H spelled. absurd (none t H spelled);
    resumable = goes_on;
    now = λ t H spelled. absurd (none t H spelled);
    untouched = λ t refused. λ i m. same t m i;
    quiet = λ t refused. begun_still files may_leave moment images_since ask.log old new (only t) (begun t);
    others = λ t. before_beside E tells files may_leave moment images_since born gives may_fail told sure honest_links b a ask old new [] (causes.LogDamaged at) (only t) (crash t);
    contents = λ t H spelled met jobs. absurd (none t H spelled);
    honest = λ t H spelled met resumable jobs begins. absurd (none t H spelled);
    reads = λ t m spared. beside t m spared.0.0;
    sure_end = λ alone is_sure. refl;
    never = λ is_sure. refl;
    completes = λ t H spelled. absurd (none t H spelled);
    modes = λ t H spelled. absurd (none t H spelled);
    places = λ t H spelled. absurd (none t H spelled);
    gone = λ t H spelled. absurd (none t H spelled);
    cleaned = λ t H spelled. absurd (none t H spelled);
  }

  -- what the call does
  pub unread_serves : (header : HasAHeader) (whole : IsWhole) (why : RecoverFault) → (why ≡ recovery.Site → b.site < a.site) → (tells → IsUnread (files old ask.log) why)
      → (tells → IsDamageFault why → (m : List ℕ) → files new m ≡ files old m)
      → Serves E tells files may_leave moment images_since born gives may_fail told sure honest_links b a ask old new [] (unread_cause (site_rise b a) why)
  unread_serves header whole recovery.Site rose is same =
      cut_serves (causes.SiteFault b.site a.site) refl refl refl (refl, refl, rose refl) (λ none. absurd (let wrong : ⊥ = omega (arith, rose refl, none.site) in wrong))
  unread_serves header whole recovery.BadHeader rose is same =
      damaged_serves 0 (λ t. inl (is t, refl)) (λ t H spelled. header H (files old ask.log) spelled (is t)) (λ t unbegun. header [] (files old ask.log) (inl unbegun) (is t)) (λ t. same t tt)
  unread_serves header whole (recovery.BadRecord at) rose is same =
      damaged_serves at (λ t. inr (is t)) (λ t H spelled. whole H (files old ask.log) at spelled (is t)) (λ t unbegun. whole [] (files old ask.log) at (inl unbegun) (is t)) (λ t. same t tt)
  unread_serves header whole recovery.Memory rose is same = cut_serves causes.Memory refl refl refl tt (λ none. refl)
