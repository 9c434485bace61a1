-- What a call does that cleans or prints.
use Rattle.run_history.specs.Admissions.{Admitting}
use Rattle.std.proofs.Common.{◌≡◌, ◌≤◌, ◌⊎◌, ⊎_elim, inl, inr, ◌∙◌, ℕ, true, false, List, [], refl, sym, subst, true≢false}
use Rattle.flow_types.specs.declared.job.Job.{Job}
use Rattle.flow_types.specs.declared.job.Failure.{Failure}
use Rattle.flow_types.specs.declared.records.Record.{Record}
use Rattle.flow_types.specs.Serial.{Function}
use Rattle.outside.specs.Disk.{IsImage, LeavesOnly, Outcomes}
use Rattle.outside.specs.Files.{Files}
use Rattle.txn_log.specs.Spells.{Spells}
use Rattle.desk.specs.Kept.{IsLegal, Keeps, ReadsStay, StaysBeside}
use Rattle.local_run.specs.Collecting.{CollectsBy}
use Rattle.local_run.specs.Course.{IsUnmade}
use Rattle.local_run.specs.Moments.{IsBefore, IsMoment, IsResumable, KeepsSome}
use Rattle.local_run.specs.Runs.{Adds, BeginsWith, Held, SerialFits, read_sources}
use Rattle.cleaning.specs.Cleanings.{AreEither}
use Rattle.command_words.specs.declared.options.Work.TheVariants.{Run}
use Rattle.report.specs.declared.cause.Cause.{Cause}
use Rattle.report.specs.declared.cause.Cause.TheVariants as causes
use Rattle.report.specs.declared.cause.Kind.{Kind}
use Rattle.report.specs.declared.cause.Kind.TheVariants as kinds
use Rattle.report.specs.Causes.{is_cut, is_failing, is_refusal, kind_of, may_lose, was_read}
use Rattle.master_run.specs.declared.ask.Ask.{Ask}
use Rattle.master_run.specs.Added.{CallAdds}
use Rattle.master_run.specs.Counts.{Counts}
use Rattle.master_run.specs.Ends.{FaultEnd, GoesOn, IsDamagedAt, IsReadOr, idle_rise}
use Rattle.master_run.specs.Headline.{HasLog, IsCleanedBy, IsLegalOr, is_early, is_run_end, is_runner_fault}
use Rattle.master_run.specs.Serves.{AllMoments, Fit, IsCut, Serves}
use Rattle.master_run.proofs.Moved.{moment_after}
use Rattle.flow_run.specs.Places.{PlacedBy}
use Rattle.flow_run.proofs.Losses.{away_none}
use Rattle.master_run.proofs.Cared.{adds_nothing, collects_nothing, drops_nothing, loses_nothing, places_nothing, starts_nothing}
use Rattle.master_run.proofs.Faults.{adds_none, unread_collects, unread_placed}

-- where no attempt may be lost the call wasn't cut short
pub loses_cut : (kind : Kind) → may_lose kind ≡ false → is_cut kind ≡ true → ⊥
loses_cut kinds.SiteBroke keeps cut = true≢false keeps
loses_cut kinds.NoMemory keeps cut = true≢false keeps
loses_cut _ keeps cut = true≢false (sym cut)

module _ {S : Type 0} (E : Admitting) (tells : Type 0) (files : S → Files) (may_leave : S → Outcomes) (moment : S → ℕ) (images_since : S → ℕ → Files → Type 0) (born : ℕ)
    (gives : Function) (may_fail : Job → Failure → Type 0) (told : Job → Type 0) (sure honest_links : Type 0) (before after : Counts) (ask : Ask) (old new : S) (records : List Record) (cause : Cause) (time : ℕ) (cut : Type 0) where
  -- What is known of work that runs nothing.
  pub record Cared : Type 0 where
    pub work : ask.work ≡ Run → ⊥
    pub later : tells → born ≤ moment old
    pub cuts : cut → is_cut (kind_of cause) ≡ true
    pub runs_not : (is_run_end (kind_of cause) ≡ false) × (is_failing (kind_of cause) ≡ false)
    pub late : is_early (kind_of cause) ≡ false
    pub faults : FaultEnd before after cause
    pub damaged : tells → (at : ℕ) → cause ≡ causes.LogDamaged at → IsDamagedAt (files old ask.log) at
    pub read : tells → IsReadOr (files old ask.log) cause
    pub goes : tells → (H : List Record) → Spells H (files old ask.log) → GoesOn E ask.work ask (idle_rise before after) H (files old) (files new) records cause
    pub has_log : tells → (H : List Record) → Spells H (files old ask.log) → HasLog H records (kind_of cause)
    pub unread : tells → (H : List Record) → Spells H (files old ask.log) → (BeginsWith H records → ⊥) → LeavesOnly moment images_since old new (IsBefore ask.log (files old ask.log) (may_leave old))
    pub added : tells → (H : List Record) → Spells H (files old ask.log) → CallAdds ask H records cause
    pub legal : was_read (kind_of cause) ≡ true → IsLegal ask.plan records
    pub logged : tells → (H : List Record) → Spells H (files old ask.log) → IsLegalOr ask.plan H records (kind_of cause)
    pub either : tells → (H : List Record) → Spells H (files old ask.log) → (is_cut (kind_of cause) ≡ true → ⊥) → AreEither H time records
    pub begun : tells → (H : List Record) → Spells H (files old ask.log) → BeginsWith H records → AreEither H time records ⊎ (records ≡ [])
    pub moments : tells → (H : List Record) → Spells H (files old ask.log) → IsResumable Held ask.plan ask.log H (may_leave old)
        → LeavesOnly moment images_since old new (IsMoment Held ask.plan ask.log (files old) (may_leave old) H records cut)
    pub contents : tells → (H : List Record) → Spells H (files old ask.log) → IsResumable (SerialFits gives (read_sources ask.plan (files old))) ask.plan ask.log H (may_leave old)
        → LeavesOnly moment images_since old new (IsMoment (SerialFits gives (read_sources ask.plan (files old))) ask.plan ask.log (files old) (may_leave old) H records cut)
    pub resumable : tells → ((image : Files) → IsImage (may_leave old) image → KeepsSome Held ask.plan ask.log image) → LeavesOnly moment images_since old new (KeepsSome Held ask.plan ask.log)
    pub at_end : tells → (H : List Record) → Spells H (files old ask.log) → IsResumable Held ask.plan ask.log H (may_leave old) → (is_cut (kind_of cause) ≡ true → ⊥)
        → (image : Files) → IsImage (may_leave new) image → Keeps Held ask.plan ask.log records image
    pub cleaned : tells → (H : List Record) → Spells H (files old ask.log) → IsCleanedBy ask.plan H (files new) cause
    pub untouched : tells → is_refusal (kind_of cause) ≡ true → (m : List ℕ) → files new m ≡ files old m
    pub quiet : tells → is_refusal (kind_of cause) ≡ true → LeavesOnly moment images_since old new (IsImage (may_leave old))
    pub others : tells → StaysBeside may_leave moment images_since (IsUnmade ask.plan ask.log) old new
    pub reads : tells → ReadsStay files (IsUnmade ask.plan ask.log) old new

  still_runs : (kind : Kind) → is_failing kind ≡ false → is_runner_fault kind ≡ false
  still_runs kinds.RunnerBroke still = absurd (true≢false still)
  still_runs _ still = refl

  all_by : (fits : Fit) (H : List Record) → Cared → tells → (IsResumable fits ask.plan ask.log H (may_leave old)
      → LeavesOnly moment images_since old new (IsMoment fits ask.plan ask.log (files old) (may_leave old) H records cut)) → AllMoments files may_leave images_since fits born ask H old new records cause
  all_by fits H c t only resumable image left =
      ⊎_elim (λ was. inl was)
      (λ (m : IsMoment fits ask.plan ask.log (files old) (may_leave old) H records cut image).
      inr (moment_after fits ask.plan ask.log (files old) (may_leave old) H records cut (IsCut cause) image c.cuts m))
      ((only resumable).before born image (c.later t) left)

  pub cared_serves : Cared → Serves E tells files may_leave moment images_since born gives may_fail told sure honest_links before after ask old new records cause
  cared_serves c = record {
    ends = λ t. record { damaged = c.damaged t; read = c.read t; whole = c.goes t };
    late = c.late;
    faults = c.faults;
    has_log = c.has_log;
    added = c.added;
    unread = c.unread;
    legal = c.legal;
    logged = c.logged;
    closed = λ ends. absurd (true≢false (sym ends ∙ c.runs_not.0));
    spent = λ t H spelled whole. inl (starts_nothing H records time (c.either t H spelled whole));
    lost = λ t H spelled alone keeps. loses_nothing H records time (c.either t H spelled (loses_cut (kind_of cause) keeps));
    lost_away = λ t H spelled keeps. away_none H records (loses_nothing H records time (c.either t H spelled (loses_cut (kind_of cause) keeps)));
    moments = λ t H spelled. all_by Held H c t (c.moments t H spelled);
    resumable = λ t some image left. (c.resumable t some).before born image (c.later t) left;
    now = λ t H spelled resumable whole. c.at_end t H spelled resumable whole;
    untouched = λ t refused. λ i m. c.untouched t refused m i;
    quiet = c.quiet;
    others = c.others;
    reads = λ t m spared. c.reads t m spared.0;
    contents = λ t H spelled met jobs. all_by (SerialFits gives (read_sources ask.plan (files old))) H c t (c.contents t H spelled);
    honest = λ t H spelled met resumable jobs begins.
        ⊎_elim (λ (either : AreEither H time records). adds_nothing gives may_fail (read_sources ask.plan (files old)) ask.plan H records time either)
        (λ (none : records ≡ []). subst (λ (xs : List Record). Adds (Unit {0}) gives may_fail (read_sources ask.plan (files old)) ask.plan H xs) (sym none)
        (adds_none gives may_fail ask.plan (files old) H (subst (BeginsWith H) none begins))) (c.begun t H spelled begins);
    modes = λ t H spelled begins.
        ⊎_elim (λ (either : AreEither H time records). collects_nothing ask.plan ask.options.mode H records time either)
        (λ (none : records ≡ []). subst (CollectsBy ask.plan ask.options.mode H) (sym none) (unread_collects ask.plan ask.options.mode H (subst (BeginsWith H) none begins))) (c.begun t H spelled begins);
    places = λ t H spelled begins.
        ⊎_elim (λ (either : AreEither H time records). places_nothing ask.plan ask.options H records time either)
        (λ (none : records ≡ []). subst (PlacedBy ask.plan ask.options H) (sym none) (unread_placed ask.plan ask.options H (subst (BeginsWith H) none begins))) (c.begun t H spelled begins);
    gone = λ t H spelled whole. drops_nothing ask.plan (files new) H records time (c.either t H spelled whole);
    cleaned = c.cleaned;
    sure_end = λ alone is. c.runs_not.1;
    never = λ is. still_runs (kind_of cause) c.runs_not.1;
    completes = λ t H spelled alone work resumable free there fit room is jobs none. absurd (c.work work);
  }
