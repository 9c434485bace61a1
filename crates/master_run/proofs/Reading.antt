-- From what a call does behind the reading of the flow to what it does from its entry on.
use Rattle.run_history.specs.Admissions.{Admitting}
use Rattle.std.proofs.Common.{◌≡◌, ◌≤◌, ⊎_elim, inl, inr, ◌∙◌, ℕ, List, Option, ap, sym, subst}
use Rattle.flow_types.specs.declared.plan.Plan.{Plan}
use Rattle.flow_types.specs.declared.job.Job.{Job}
use Rattle.flow_types.specs.declared.job.Failure.{Failure}
use Rattle.flow_types.specs.declared.records.Record.{Record}
use Rattle.flow_types.specs.Serial.{Function, serial}
use Rattle.txn_log.specs.Spells.{Spells}
use Rattle.outside.specs.Disk.{IsImage, LeavesOnly, Outcomes, Within}
use Rattle.outside.specs.Files.{Files}
use Rattle.outside.proofs.Moments.{joined, weakened}
use Rattle.desk.proofs.Others.{then_stays}
use Rattle.local_run.specs.Course.{IsUnmade, TellsJobs}
use Rattle.local_run.specs.Moments.{IsBefore, IsMoment, IsResumable, KeepsSome}
use Rattle.local_run.specs.Runs.{Adds, Held, SerialFits, read_sources}
use Rattle.report.specs.declared.cause.Cause.{Cause}
use Rattle.master_run.specs.declared.ask.Ask.{Ask}
use Rattle.master_run.specs.Counts.{Counts}
use Rattle.master_run.specs.Ends.{LogEnds, idle_rise}
use Rattle.master_run.specs.Serves.{AllMoments, CanComplete, Fit, IsCut, Serves}

-- what was an outcome at the entry
pub before_from : (log : List ℕ) (file : Option (List ℕ)) (old new : Outcomes) (image : Files) → Within old new → IsBefore log file new image → IsBefore log file old image
before_from log file old new image within b = record {
  spelled = ⊎_elim (λ (here : new log (image log)). inl (within log (image log) here)) (λ unbegun. inr unbegun) b.spelled;
  others = λ m other. within m (image m) (b.others m other);
}

-- an image of the entry is one of before the log was read
pub entry_before : (log : List ℕ) (file : Option (List ℕ)) (old : Outcomes) (image : Files) → IsImage old image → IsBefore log file old image
entry_before log file old image is = record { spelled = inl (is log); others = λ m other. is m }

pub resumable_from : (fits : Fit) (P : Plan) (log : List ℕ) (H : List Record) (old new : Outcomes) → Within old new → IsResumable fits P log H old → IsResumable fits P log H new
resumable_from fits P log H old new within resumable =
    ⊎_elim (λ none. inl none) (λ (some : (image : Files) → IsImage old image → KeepsSome fits P log image). inr (λ image is. some image (λ m. within m (image m) (is m)))) resumable

moment_from : (fits : Fit) (P : Plan) (log : List ℕ) (files : Files) (old new : Outcomes) (H all : List Record) (cut : Type 0) (image : Files) → Within old new
    → IsMoment fits P log files new H all cut image → IsMoment fits P log files old H all cut image
moment_from fits P log files old new H all cut image within left =
    ⊎_elim (λ (b : IsBefore log (files log) new image). inl (before_from log (files log) old new image within b)) (λ kept. inr kept) left

-- What is known of the site once the flow was read.
pub record WasLooked {S : Type 0} (files : S → Files) (may_leave : S → Outcomes) (moment : S → ℕ) (images_since : S → ℕ → Files → Type 0) (old new : S) : Type 0 where
  pub same : files new ≡ files old
  pub within : Within (may_leave old) (may_leave new)
  pub only : LeavesOnly moment images_since old new (IsImage (may_leave old))

module _ {S : Type 0} (E : Admitting) (tells : Type 0) (files : S → Files) (may_leave : S → Outcomes) (moment : S → ℕ) (images_since : S → ℕ → Files → Type 0) (born : ℕ)
    (gives : Function) (may_fail : Job → Failure → Type 0) (told : Job → Type 0) (sure honest_links : Type 0) (before after : Counts) (ask : Ask) (old mid new : S) (records : List Record) (cause : Cause)
    (later : tells → born ≤ moment old) (looked : tells → WasLooked files may_leave moment images_since old mid) where
  all_from : (fits : Fit) (H : List Record) → tells → AllMoments files may_leave images_since fits born ask H mid new records cause → AllMoments files may_leave images_since fits born ask H old new records cause
  all_from fits H t all resumable image left =
      ⊎_elim
      (λ (was : images_since mid born image). ⊎_elim (λ (at_entry : images_since old born image). inl at_entry)
      (λ (is : IsImage (may_leave old) image). inr (inl (entry_before ask.log (files old ask.log) (may_leave old) image is)))
      ((looked t).only.before born image (later t) was))
      (λ (m : IsMoment fits ask.plan ask.log (files mid) (may_leave mid) H records (IsCut cause) image).
      inr (moment_from fits ask.plan ask.log (files old) (may_leave old) (may_leave mid) H records (IsCut cause) image (looked t).within
      (subst (λ (fs : Files). IsMoment fits ask.plan ask.log fs (may_leave mid) H records (IsCut cause) image) (looked t).same m)))
      (all (resumable_from fits ask.plan ask.log H (may_leave old) (may_leave mid) (looked t).within resumable) image left)

  -- from the entry on
  pub serves_from : Serves E tells files may_leave moment images_since born gives may_fail told sure honest_links before after ask mid new records cause
      → Serves E tells files may_leave moment images_since born gives may_fail told sure honest_links before after ask old new records cause
  serves_from s = record {
    ends = λ t. subst (λ (fs : Files). LogEnds E ask (idle_rise before after) fs (files new) records cause) (looked t).same (s.ends t);
    late = s.late;
    faults = s.faults;
    has_log = λ t H spelled. s.has_log t H (at_mid t H spelled);
    added = λ t H spelled. s.added t H (at_mid t H spelled);
    unread = λ t H spelled none.
        joined moment images_since old mid new (IsImage (may_leave old)) (IsBefore ask.log (files mid ask.log) (may_leave mid)) (IsBefore ask.log (files old ask.log) (may_leave old)) (looked t).only (s.unread t H (at_mid t H spelled) none)
        (λ image is. entry_before ask.log (files old ask.log) (may_leave old) image is)
        (λ image was.
        before_from ask.log (files old ask.log) (may_leave old) (may_leave mid) image (looked t).within
        (subst (λ (fs : Files). IsBefore ask.log (fs ask.log) (may_leave mid) image) (looked t).same was));
    legal = s.legal;
    logged = λ t H spelled. s.logged t H (at_mid t H spelled);
    closed = s.closed;
    spent = λ t H spelled. s.spent t H (at_mid t H spelled);
    lost = λ t H spelled. s.lost t H (at_mid t H spelled);
    lost_away = λ t H spelled. s.lost_away t H (at_mid t H spelled);
    moments = λ t H spelled. all_from Held H t (s.moments t H (at_mid t H spelled));
    resumable = λ t some image left.
        ⊎_elim
        (λ (was : images_since mid born image). ⊎_elim (λ (at_entry : images_since old born image). inl at_entry)
        (λ (is : IsImage (may_leave old) image). inr (some image is)) ((looked t).only.before born image (later t) was))
        (λ keeps. inr keeps) (s.resumable t (λ there is. some there (λ m. (looked t).within m (there m) (is m))) image left);
    now = λ t H spelled resumable. s.now t H (at_mid t H spelled) (resumable_from Held ask.plan ask.log H (may_leave old) (may_leave mid) (looked t).within resumable);
    untouched = λ t refused. s.untouched t refused ∙ (looked t).same;
    quiet = λ t refused.
        joined moment images_since old mid new (IsImage (may_leave old)) (IsImage (may_leave mid)) (IsImage (may_leave old)) (looked t).only (s.quiet t refused)
        (λ image is. is) (λ image is m. (looked t).within m (image m) (is m));
    others = λ t. then_stays may_leave moment images_since (IsUnmade ask.plan ask.log) old mid new
        (record {
          now = λ m file beside left. (looked t).within m file left;
          any_moment = weakened moment images_since old mid (IsImage (may_leave old)) (λ image. (m : List ℕ) → IsUnmade ask.plan ask.log m → may_leave old m (image m)) (looked t).only (λ image is m beside. is m);
        }) (s.others t);
    reads = λ t m spared. s.reads t m spared ∙ ap (λ (fs : Files). fs m) (looked t).same;
    contents = λ t H spelled met jobs. all_from (SerialFits gives (read_sources ask.plan (files old))) H t
        (subst (λ (fs : Files). AllMoments files may_leave images_since (SerialFits gives (read_sources ask.plan fs)) born ask H mid new records cause) (looked t).same
        (s.contents t H (at_mid t H spelled) met (subst (λ (fs : Files). TellsJobs ask.plan ask.options told (serial ask.plan gives (read_sources ask.plan fs))) (sym (looked t).same) jobs)));
    honest = λ t H spelled met resumable jobs begins.
        subst (λ (fs : Files). Adds (Unit {0}) gives may_fail (read_sources ask.plan fs) ask.plan H records) (looked t).same
        (s.honest t H (at_mid t H spelled) met
        (subst (λ (fs : Files). IsResumable (SerialFits gives (read_sources ask.plan fs)) ask.plan ask.log H (may_leave mid)) (sym (looked t).same)
        (resumable_from (SerialFits gives (read_sources ask.plan (files old))) ask.plan ask.log H (may_leave old) (may_leave mid) (looked t).within resumable))
        (subst (λ (fs : Files). TellsJobs ask.plan ask.options told (serial ask.plan gives (read_sources ask.plan fs))) (sym (looked t).same) jobs) begins);
    modes = λ t H spelled. s.modes t H (at_mid t H spelled);
    places = λ t H spelled. s.places t H (at_mid t H spelled);
    gone = λ t H spelled. s.gone t H (at_mid t H spelled);
    cleaned = λ t H spelled. s.cleaned t H (at_mid t H spelled);
    sure_end = s.sure_end;
    never = s.never;
    completes = λ t H spelled.
        λ alone work resumable free.
        let at_entry : CanComplete gives told sure ask (files old) (may_leave mid) H before after cause =
        subst (λ (fs : Files). CanComplete gives told sure ask fs (may_leave mid) H before after cause) (looked t).same (s.completes t H (at_mid t H spelled)) in
        at_entry alone work (resumable_from (SerialFits gives (read_sources ask.plan (files old))) ask.plan ask.log H (may_leave old) (may_leave mid) (looked t).within resumable) free;
  }
    where
      at_mid : (t : tells) (H : List Record) → Spells H (files old ask.log) → Spells H (files mid ask.log)
      at_mid t H spelled = subst (λ (fs : Files). Spells H (fs ask.log)) (sym (looked t).same) spelled
