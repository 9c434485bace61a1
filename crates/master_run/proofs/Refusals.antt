-- What a call does that is refused before its log is read.
use Rattle.run_history.specs.Admissions.{Admitting}
use Rattle.std.proofs.Common.{◌≡◌, ◌≤◌, ◌<◌, ⊎_elim, inl, inr, ◌∙◌, ℕ, true, false, [], Result, Ok, Err, IsOk, refl, ap, sym, subst, arith, true≢false}
use Rattle.flow_types.specs.declared.job.Job.{Job}
use Rattle.flow_types.specs.declared.job.Failure.{Failure}
use Rattle.flow_types.specs.Serial.{Function}
use Rattle.outside.specs.Disk.{IsImage, LeavesOnly, Outcomes}
use Rattle.outside.specs.Files.{Files}
use Rattle.outside.proofs.Moments.{weakened}
use Rattle.local_run.specs.Moments.{IsBefore}
use Rattle.local_run.specs.Runs.{Held, SerialFits, read_sources}
use Rattle.command_words.specs.declared.options.Options.{Options}
use Rattle.report.specs.declared.cause.Cause.{Cause}
use Rattle.report.specs.declared.cause.Cause.TheVariants as causes
use Rattle.report.specs.declared.cause.Kind.{Kind}
use Rattle.report.specs.declared.cause.Kind.TheVariants as kinds
use Rattle.report.specs.Causes.{is_completion, is_cut, is_failing, kind_of, may_replace, was_read}
use Rattle.master_run.proofs.Counted.{site_rise}
use Rattle.master_run.specs.declared.ask.Ask.{Ask}
use Rattle.master_run.specs.declared.asking.Refusal.{Refusal}
use Rattle.master_run.specs.declared.asking.Refusal.TheVariants as refusals
use Rattle.master_run.specs.Counts.{Counts}
use Rattle.master_run.specs.declared.rises.Rise.{Rise}
use Rattle.master_run.specs.Ends.{CallEnds, FaultEnd, NoneRose, WordsEnd}
use Rattle.master_run.specs.Headline.{is_early, is_run_end, is_runner_fault, is_waited}
use Rattle.master_run.specs.Runs.{refusal_cause}
use Rattle.master_run.specs.Serves.{Serves}
use Rattle.master_run.specs.Stages.{SaysRefusal, Stage, WordsStage, is_refusal}
use Rattle.master_run.proofs.Adding.{unread_adds}
use Rattle.master_run.proofs.Faults.{adds_none, before_all, before_beside, fault_goes, fault_serves, unread_collects, unread_placed}
use Rattle.master_run.proofs.Reading.{WasLooked, entry_before}

absent : {A : Type 0} → false ≡ true → A
absent wrong = absurd (true≢false (sym wrong))

pub same_ask : (x y : Ask) → (let one : Result Ask Cause = Ok x in one ≡ Ok y) → x ≡ y
same_ask x y is = cc

pub no_ask : {A : Type 0} (cause : Cause) (ask : Ask) → (let one : Result Ask Cause = Err cause in one ≡ Ok ask) → A
no_ask cause ask wrong = absurd (cc)

-- where something is asked for, only what cuts a call short refuses it
pub refused_cuts : {A : Type 0} (asked : Result Ask Cause) (ask : Ask) (s : Rise) (refusal : Refusal) → Stage {T = Ask} asked (Err refusal) → asked ≡ Ok ask → (is_cut (kind_of (refusal_cause s refusal)) ≡ true → ⊥) → A
refused_cuts asked ask s (refusals.Said cause) stage is whole = no_ask cause ask (sym stage ∙ is)
refused_cuts asked ask s refusals.Site stage is whole = absurd (whole refl)
refused_cuts asked ask s refusals.Memory stage is whole = absurd (whole refl)

fault_ends : (E : Admitting) (asked : Result Ask Cause) (rise : ℕ) (before after : Files) (cause : Cause) → is_cut (kind_of cause) ≡ true → may_replace (kind_of cause) ≡ true → (cause_at : (at : ℕ) → cause ≡ causes.LogDamaged at → ⊥) → after ≡ before
    → CallEnds E asked rise before after [] cause
fault_ends E (Ok ask) rise before after cause cut replaces whole same = record {
  damaged = λ at is. absurd (whole at is);
  read = inr (inr replaces);
  whole = λ H spelled. fault_goes E ask.work ask rise H before after [] cause cut;
}
fault_ends E (Err refusal) rise before after cause cut replaces whole same = (λ stays. absent (sym stays ∙ replaces), same, refl)

-- how the call ends
pub refused_ends : (E : Admitting) (asked : Result Ask Cause) (rise : ℕ) (before after : Files) (s : Rise) (refusal : Refusal) → Stage {T = Ask} asked (Err refusal) → after ≡ before → CallEnds E asked rise before after [] (refusal_cause s refusal)
refused_ends E asked rise before after s (refusals.Said cause) stage same = subst (λ (e : Result Ask Cause). CallEnds E e rise before after [] cause) (sym stage) (λ stays. inl refl, same, refl)
refused_ends E asked rise before after s refusals.Site stage same = fault_ends E asked rise before after (causes.SiteFault s.before s.after) refl refl (λ at wrong. absurd (cc)) same
refused_ends E asked rise before after s refusals.Memory stage same = fault_ends E asked rise before after causes.Memory refl refl (λ at wrong. absurd (cc)) same

memory_words : (words : Result Options Cause) → WordsEnd words causes.Memory
memory_words (Err refusal) = λ other. absurd (true≢false other)
memory_words (Ok options) = refl

pub refused_words : (words : Result Options Cause) (s : Rise) (refusal : Refusal) → WordsStage {T = Ask} words (Err refusal) → WordsEnd words (refusal_cause s refusal)
refused_words words s (refusals.Said cause) stage = stage
refused_words (Err refusal) s refusals.Site stage = absent stage
refused_words (Ok options) s refusals.Site stage = refl
refused_words words s refusals.Memory stage = memory_words words

said_fault : (b a : Counts) (cause : Cause) → is_refusal (kind_of cause) ≡ true → FaultEnd b a cause
said_fault b a (causes.SiteFault old new) says = absent says
said_fault b a (causes.RunnerFault old new) says = absent says
said_fault b a (causes.HallFault old new) says = absent says
said_fault b a (causes.SinkFault old new) says = absent says
said_fault b a _ says = tt

pub refused_fault : (b a : Counts) (refusal : Refusal) → SaysRefusal {T = Ask} (Err refusal) → (refusal ≡ refusals.Site → b.site < a.site) → FaultEnd b a (refusal_cause (site_rise b a) refusal)
refused_fault b a (refusals.Said cause) says rose = said_fault b a cause says
refused_fault b a refusals.Site says rose = (refl, refl, rose refl)
refused_fault b a refusals.Memory says rose = tt

-- what holds of the kind of a refusal
pub record IsEarlyKind (kind : Kind) : Type 0 where
  pub unread : was_read kind ≡ false
  pub no_end : is_run_end kind ≡ false
  pub sure : is_failing kind ≡ false
  pub failed : kind ≡ kinds.RuleFailed → ⊥
  pub runs : is_runner_fault kind ≡ false
  pub waits : is_waited kind ≡ false

early_kind : (kind : Kind) → is_refusal kind ≡ true → IsEarlyKind kind
early_kind kinds.WrongWords says = record { unread = refl; no_end = refl; sure = refl; failed = λ wrong. cc; runs = refl; waits = refl }
early_kind kinds.WrongFlow says = record { unread = refl; no_end = refl; sure = refl; failed = λ wrong. cc; runs = refl; waits = refl }
early_kind kinds.Completed says = absent says
early_kind kinds.Told says = absent says
early_kind kinds.LogPrinted says = absent says
early_kind kinds.RuleFailed says = absent says
early_kind kinds.WrongLog says = absent says
early_kind kinds.WrongFile says = absent says
early_kind kinds.PastLimit says = absent says
early_kind kinds.LogFilled says = absent says
early_kind kinds.SiteBroke says = absent says
early_kind kinds.RunnerBroke says = absent says
early_kind kinds.HallBroke says = absent says
early_kind kinds.SinkBroke says = absent says
early_kind kinds.WaitedOut says = absent says
early_kind kinds.NoMemory says = absent says

pub refused_kind : (s : Rise) (refusal : Refusal) → SaysRefusal {T = Ask} (Err refusal) → IsEarlyKind (kind_of (refusal_cause s refusal))
refused_kind s (refusals.Said cause) says = early_kind (kind_of cause) says
refused_kind s refusals.Site says = record { unread = refl; no_end = refl; sure = refl; failed = λ wrong. cc; runs = refl; waits = refl }
refused_kind s refusals.Memory says = record { unread = refl; no_end = refl; sure = refl; failed = λ wrong. cc; runs = refl; waits = refl }

-- the words, where a plan was read
pub late_words : (words : Result Options Cause) (cause : Cause) → IsOk words → is_early (kind_of cause) ≡ false → WordsEnd words cause
late_words (Err refusal) cause ok late = absent ok
late_words (Ok options) causes.Usage ok late = absurd (true≢false late)
late_words (Ok options) (causes.FlowMissing name) ok late = absurd (true≢false late)
late_words (Ok options) (causes.FlowRefused flow fault) ok late = absurd (true≢false late)
late_words (Ok options) _ ok late = refl

module _ {S : Type 0} (E : Admitting) (tells : Type 0) (files : S → Files) (may_leave : S → Outcomes) (moment : S → ℕ) (images_since : S → ℕ → Files → Type 0) (born : ℕ)
    (gives : Function) (may_fail : Job → Failure → Type 0) (told : Job → Type 0) (sure honest_links : Type 0) (b a : Counts) (ask : Ask) (old new : S)
    (later : tells → born ≤ moment old) (looked : tells → WasLooked files may_leave moment images_since old new) where
  pub by_fault : (cause : Cause) → is_cut (kind_of cause) ≡ true → may_replace (kind_of cause) ≡ true → was_read (kind_of cause) ≡ false → FaultEnd b a cause → (NoneRose b a → is_completion (kind_of cause) ≡ true)
      → Serves E tells files may_leave moment images_since born gives may_fail told sure honest_links b a ask old new [] cause
  by_fault cause cut replaces unread fault completes =
      fault_serves E tells files may_leave moment images_since born gives may_fail told sure honest_links b a ask old new [] cause (record {
        cut = cut;
        faults = fault;
        has_log = λ t H spelled. inr (refl, replaces);
        added = λ t H spelled. unread_adds ask.work ask.options H cause cut;
        unread = λ t H spelled none. only t;
        logged = λ t H spelled. inr (inr refl, unread);
        moments = λ t H spelled. before_all E tells files may_leave moment images_since born gives may_fail told sure honest_links b a ask old new [] cause Held H (later t) (only t);
        resumable = λ t some image left. ⊎_elim (λ was. inl was) (λ (is : IsImage (may_leave old) image). inr (some image is)) ((looked t).only.before born image (later t) left);
        others = λ t. before_beside E tells files may_leave moment images_since born gives may_fail told sure honest_links b a ask old new [] cause (only t) (λ m file other left. (looked t).within m file left);
        contents = λ t H spelled jobs. before_all E tells files may_leave moment images_since born gives may_fail told sure honest_links b a ask old new [] cause (SerialFits gives (read_sources ask.plan (files old))) H (later t) (only t);
        honest = λ t H spelled resumable jobs begins. adds_none gives may_fail ask.plan (files old) H begins;
        modes = λ t H spelled begins. unread_collects ask.plan ask.options.mode H begins;
        places = λ t H spelled begins. unread_placed ask.plan ask.options H begins;
        reads = λ t m unmade. ap (λ (fs : Files). fs m) (looked t).same;
        none_rose = completes;
      })
    where
      only : tells → LeavesOnly moment images_since old new (IsBefore ask.log (files old ask.log) (may_leave old))
      only t = weakened moment images_since old new (IsImage (may_leave old)) (IsBefore ask.log (files old ask.log) (may_leave old)) (looked t).only (λ image is. entry_before ask.log (files old ask.log) (may_leave old) image is)

  -- what the call does, whatever was asked
  pub refused_serves : (refusal : Refusal) (asked : Result Ask Cause) → Stage {T = Ask} asked (Err refusal) → asked ≡ Ok ask → (refusal ≡ refusals.Site → b.site < a.site)
      → Serves E tells files may_leave moment images_since born gives may_fail told sure honest_links b a ask old new [] (refusal_cause (site_rise b a) refusal)
  refused_serves (refusals.Said cause) asked stage is rose = no_ask cause ask (sym stage ∙ is)
  refused_serves refusals.Site asked stage is rose =
      by_fault (causes.SiteFault b.site a.site) refl refl refl (refl, refl, rose refl) (λ none. absurd (let wrong : ⊥ = omega (arith, rose refl, none.site) in wrong))
  refused_serves refusals.Memory asked stage is rose = by_fault causes.Memory refl refl refl tt (λ none. refl)
