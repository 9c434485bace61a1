-- What a call does that the site's failure or want of memory ended.
use Rattle.std.proofs.Common.{◌≡◌, ◌≢◌, ◌≤◌, ⊎_elim, inl, inr, ◌∙◌, ℕ, Bool, true, false, List, [], ◌∷◌, ◌++◌, Option, Some, None, All, refl, sym, ap, subst, true≢false}
use Rattle.std.proofs.lemmas.List.Elements.{All-nil}
use Rattle.flow_types.specs.declared.plan.Plan.{Plan}
use Rattle.flow_types.specs.declared.job.Job.{Job}
use Rattle.flow_types.specs.declared.job.Failure.{Failure}
use Rattle.flow_types.specs.declared.records.Record.{Record}
use Rattle.flow_types.specs.Serial.{Function, serial}
use Rattle.outside.specs.Disk.{LeavesOnly, Outcomes}
use Rattle.outside.specs.Files.{Files}
use Rattle.outside.proofs.Moments.{weakened}
use Rattle.txn_log.specs.Spells.{Spells}
use Rattle.desk.specs.Kept.{ReadsStay, StaysBeside}
use Rattle.run_history.specs.Admissions.{Admitting}
use Rattle.run_history.specs.declared.options.Mode.{Mode}
use Rattle.run_history.specs.declared.options.Options.{Options as RunOptions}
use Rattle.flow_run.specs.Places.{PlacedBy}
use Rattle.flow_run.proofs.Placed.{placed_none}
use Rattle.command_words.specs.declared.options.Work.{Work}
use Rattle.command_words.specs.declared.options.Work.TheVariants as works
use Rattle.local_run.specs.Collecting.{CollectsBy}
use Rattle.local_run.specs.Course.{FailsHonestly, IsUnmade, TellsJobs}
use Rattle.local_run.specs.Moments.{IsBefore, IsResumable}
use Rattle.local_run.specs.Runs.{Adds, BeginsWith, Held, SerialFits, read_sources}
use Rattle.report.specs.declared.cause.Cause.{Cause}
use Rattle.report.specs.declared.cause.Cause.TheVariants as causes
use Rattle.report.specs.declared.cause.Kind.{Kind}
use Rattle.report.specs.declared.cause.Kind.TheVariants as kinds
use Rattle.report.specs.Causes.{is_completion, is_cut, is_failing, is_refusal, kind_of, may_lose, may_replace, was_read}
use Rattle.master_run.specs.declared.ask.Ask.{Ask}
use Rattle.master_run.specs.Added.{CallAdds}
use Rattle.master_run.specs.Counts.{Counts}
use Rattle.master_run.specs.Ends.{FaultEnd, GoesOn, IsStop, NoneRose, RunEnds, Yields, clean_refusal, idle_rise, log_refusal, run_refusal}
use Rattle.master_run.specs.Headline.{HasLog, IsCleanedBy, IsLegalOr, is_early, is_run_end, is_runner_fault}
use Rattle.master_run.specs.Serves.{AllMoments, Completes, Fit, Serves, StaysResumable}
use Rattle.master_run.proofs.Moved.{append_nothing}

-- what holds of the two kinds
pub record IsFaultKind (kind : Kind) : Type 0 where
  pub replaces : may_replace kind ≡ true
  pub unread : was_read kind ≡ false
  pub no_end : is_run_end kind ≡ false
  pub loses : may_lose kind ≡ true
  pub no_refusal : is_refusal kind ≡ false
  pub sure : is_failing kind ≡ false
  pub late : is_early kind ≡ false
  pub runs : is_runner_fault kind ≡ false

fault_kind : (kind : Kind) → is_cut kind ≡ true → IsFaultKind kind
fault_kind kinds.SiteBroke cut = record { replaces = refl; unread = refl; no_end = refl; loses = refl; no_refusal = refl; sure = refl; late = refl; runs = refl }
fault_kind kinds.NoMemory cut = record { replaces = refl; unread = refl; no_end = refl; loses = refl; no_refusal = refl; sure = refl; late = refl; runs = refl }
fault_kind kinds.Completed cut = absurd (true≢false (sym cut))
fault_kind kinds.Told cut = absurd (true≢false (sym cut))
fault_kind kinds.LogPrinted cut = absurd (true≢false (sym cut))
fault_kind kinds.RuleFailed cut = absurd (true≢false (sym cut))
fault_kind kinds.WrongWords cut = absurd (true≢false (sym cut))
fault_kind kinds.WrongFlow cut = absurd (true≢false (sym cut))
fault_kind kinds.WrongLog cut = absurd (true≢false (sym cut))
fault_kind kinds.WrongFile cut = absurd (true≢false (sym cut))
fault_kind kinds.PastLimit cut = absurd (true≢false (sym cut))
fault_kind kinds.LogFilled cut = absurd (true≢false (sym cut))
fault_kind kinds.RunnerBroke cut = absurd (true≢false (sym cut))
fault_kind kinds.HallBroke cut = absurd (true≢false (sym cut))
fault_kind kinds.SinkBroke cut = absurd (true≢false (sym cut))
fault_kind kinds.WaitedOut cut = absurd (true≢false (sym cut))

is_stop : (wq : Bool) (P : Plan) (records : List Record) (after : Files) (cause : Cause) → is_cut (kind_of cause) ≡ true → IsStop wq P records after cause
is_stop wq P records after (causes.SiteFault old new) cut = tt
is_stop wq P records after causes.Memory cut = tt
is_stop wq P records after (causes.RunnerFault old new) cut = tt
is_stop wq P records after (causes.SourceChanged file logged found) cut = absurd (true≢false (sym cut))
is_stop wq P records after (causes.FileDamaged file logged found) cut = absurd (true≢false (sym cut))
is_stop wq P records after (causes.Complete rules collected) cut = absurd (true≢false (sym cut))
is_stop wq P records after (causes.Cleaned removed) cut = absurd (true≢false (sym cut))
is_stop wq P records after (causes.Printed lines) cut = absurd (true≢false (sym cut))
is_stop wq P records after (causes.CommandFailed rule why) cut = absurd (true≢false (sym cut))
is_stop wq P records after causes.Usage cut = absurd (true≢false (sym cut))
is_stop wq P records after (causes.FlowMissing name) cut = absurd (true≢false (sym cut))
is_stop wq P records after (causes.FlowRefused flow fault) cut = absurd (true≢false (sym cut))
is_stop wq P records after (causes.LogNameTaken file) cut = absurd (true≢false (sym cut))
is_stop wq P records after (causes.NeedsTooMuch rule need total) cut = absurd (true≢false (sym cut))
is_stop wq P records after (causes.LogDamaged at) cut = absurd (true≢false (sym cut))
is_stop wq P records after (causes.OtherFlow logged found) cut = absurd (true≢false (sym cut))
is_stop wq P records after (causes.NotLegal at) cut = absurd (true≢false (sym cut))
is_stop wq P records after (causes.StoredAboveLimit bytes limit) cut = absurd (true≢false (sym cut))
is_stop wq P records after (causes.SourceMissing file) cut = absurd (true≢false (sym cut))
is_stop wq P records after (causes.SourceTooLarge file size) cut = absurd (true≢false (sym cut))
is_stop wq P records after (causes.HallFault old new) cut = absurd (true≢false (sym cut))
is_stop wq P records after (causes.SinkFault old new) cut = absurd (true≢false (sym cut))
is_stop wq P records after (causes.Waited wait) cut = absurd (true≢false (sym cut))
is_stop wq P records after (causes.InputsTooLarge rule total) cut = absurd (true≢false (sym cut))
is_stop wq P records after (causes.NoRoom rule need stored limit) cut = absurd (true≢false (sym cut))
is_stop wq P records after (causes.LogFull count) cut = absurd (true≢false (sym cut))

-- how a call ends by a fault that could come to its end
fault_completes : (limit : Option ℕ) (cause : Cause) → is_completion (kind_of cause) ≡ true → Completes limit cause
fault_completes limit (causes.NoRoom rule need stored most) done = absurd (true≢false (sym done))
fault_completes limit _ done = done

fault_cleans : (P : Plan) (H : List Record) (files : Files) (cause : Cause) → is_cut (kind_of cause) ≡ true → IsCleanedBy P H files cause
fault_cleans P H files (causes.Cleaned removed) cut = absurd (true≢false (sym cut))
fault_cleans P H files _ cut = tt

fault_yields : (refusal : Option Cause) (cause : Cause) (rest : Type 0) → may_replace (kind_of cause) ≡ true → rest → Yields refusal cause rest
fault_yields None cause rest replaces holds = holds
fault_yields (Some refusal) cause rest replaces holds = λ stays. absurd (true≢false (sym replaces ∙ stays))

pub fault_goes : (E : Admitting) (work : Work) (ask : Ask) (rise : ℕ) (H : List Record) (before after : Files) (records : List Record) (cause : Cause) → is_cut (kind_of cause) ≡ true → GoesOn E work ask rise H before after records cause
fault_goes E works.Run ask rise H before after records cause cut =
    fault_yields (run_refusal ask.plan ask.options H before) cause (RunEnds E ask rise records after cause) (fault_kind (kind_of cause) cut).replaces (inr (is_stop ask.options.wq ask.plan records after cause cut))
fault_goes E works.Clean ask rise H before after records cause cut =
    fault_yields (clean_refusal ask.plan H) cause _ (fault_kind (kind_of cause) cut).replaces (λ stays. absurd (true≢false (sym (fault_kind (kind_of cause) cut).replaces ∙ stays)))
fault_goes E works.PrintLog ask rise H before after records cause cut =
    fault_yields (log_refusal ask.plan H) cause _ (fault_kind (kind_of cause) cut).replaces (λ stays. absurd (true≢false (sym (fault_kind (kind_of cause) cut).replaces ∙ stays)))

undamaged : (cause : Cause) (at : ℕ) → is_cut (kind_of cause) ≡ true → cause ≡ causes.LogDamaged at → ⊥
undamaged cause at cut is = true≢false (sym cut ∙ ap (λ (c : Cause). is_cut (kind_of c)) is)

module _ {S : Type 0} (E : Admitting) (tells : Type 0) (files : S → Files) (may_leave : S → Outcomes) (moment : S → ℕ) (images_since : S → ℕ → Files → Type 0) (born : ℕ)
    (gives : Function) (may_fail : Job → Failure → Type 0) (told : Job → Type 0) (sure honest_links : Type 0) (before after : Counts) (ask : Ask) (old new : S) (records : List Record) (cause : Cause) where
  -- What is shown of a call that a fault ended.
  pub record Faulted : Type 0 where
    pub cut : is_cut (kind_of cause) ≡ true
    pub faults : FaultEnd before after cause
    pub has_log : tells → (H : List Record) → Spells H (files old ask.log) → HasLog H records (kind_of cause)
    pub added : tells → (H : List Record) → Spells H (files old ask.log) → CallAdds ask H records cause
    pub logged : tells → (H : List Record) → Spells H (files old ask.log) → IsLegalOr ask.plan H records (kind_of cause)
    pub unread : tells → (H : List Record) → Spells H (files old ask.log) → (BeginsWith H records → ⊥) → LeavesOnly moment images_since old new (IsBefore ask.log (files old ask.log) (may_leave old))
    pub moments : tells → (H : List Record) → Spells H (files old ask.log) → AllMoments files may_leave images_since Held born ask H old new records cause
    pub resumable : tells → StaysResumable may_leave images_since born ask old new
    pub others : tells → StaysBeside may_leave moment images_since (IsUnmade ask.plan ask.log) old new
    pub reads : tells → ReadsStay files (IsUnmade ask.plan ask.log) old new
    pub contents : tells → (H : List Record) → Spells H (files old ask.log)
        → TellsJobs ask.plan ask.options told (serial ask.plan gives (read_sources ask.plan (files old)))
        → AllMoments files may_leave images_since (SerialFits gives (read_sources ask.plan (files old))) born ask H old new records cause
    pub honest : tells → (H : List Record) → Spells H (files old ask.log)
        → IsResumable (SerialFits gives (read_sources ask.plan (files old))) ask.plan ask.log H (may_leave old)
        → TellsJobs ask.plan ask.options told (serial ask.plan gives (read_sources ask.plan (files old)))
        → BeginsWith H records → Adds (Unit {0}) gives may_fail (read_sources ask.plan (files old)) ask.plan H records
    pub modes : tells → (H : List Record) → Spells H (files old ask.log) → BeginsWith H records → CollectsBy ask.plan ask.options.mode H records
    pub places : tells → (H : List Record) → Spells H (files old ask.log) → BeginsWith H records → PlacedBy ask.plan ask.options H records
    pub none_rose : NoneRose before after → is_completion (kind_of cause) ≡ true

  pub fault_serves : Faulted → Serves E tells files may_leave moment images_since born gives may_fail told sure honest_links before after ask old new records cause
  fault_serves f = record {
    ends = λ t. record {
      damaged = λ at is. absurd (undamaged cause at f.cut is);
      read = inr (inr (fault_kind (kind_of cause) f.cut).replaces);
      whole = λ H spelled. fault_goes E ask.work ask (idle_rise before after) H (files old) (files new) records cause f.cut;
    };
    late = (fault_kind (kind_of cause) f.cut).late;
    faults = f.faults;
    has_log = f.has_log;
    added = f.added;
    legal = λ read. absurd (true≢false (sym read ∙ (fault_kind (kind_of cause) f.cut).unread));
    logged = f.logged;
    closed = λ ends. absurd (true≢false (sym ends ∙ (fault_kind (kind_of cause) f.cut).no_end));
    spent = λ t H spelled whole. absurd (whole f.cut);
    lost = λ t H spelled alone loses. absurd (true≢false (sym (fault_kind (kind_of cause) f.cut).loses ∙ loses));
    lost_away = λ t H spelled loses. absurd (true≢false (sym (fault_kind (kind_of cause) f.cut).loses ∙ loses));
    moments = f.moments;
    resumable = f.resumable;
    now = λ t H spelled resumable whole. absurd (whole f.cut);
    untouched = λ t refused. absurd (true≢false (sym refused ∙ (fault_kind (kind_of cause) f.cut).no_refusal));
    quiet = λ t refused. absurd (true≢false (sym refused ∙ (fault_kind (kind_of cause) f.cut).no_refusal));
    unread = f.unread;
    others = f.others;
    reads = λ t m spared. f.reads t m spared.0;
    contents = λ t H spelled met. f.contents t H spelled;
    honest = λ t H spelled met. f.honest t H spelled;
    sure_end = λ alone is_sure. (fault_kind (kind_of cause) f.cut).sure;
    never = λ is_sure. (fault_kind (kind_of cause) f.cut).runs;
    completes = λ t H spelled alone work resumable free there fit room is_sure jobs none. fault_completes ask.options.limit cause (f.none_rose none);
    modes = f.modes;
    places = f.places;
    gone = λ t H spelled whole. absurd (whole f.cut);
    cleaned = λ t H spelled. fault_cleans ask.plan H (files new) cause f.cut;
  }

  -- nothing but the moments before the log was read
  pub before_all : (fits : Fit) (H : List Record) → born ≤ moment old → LeavesOnly moment images_since old new (IsBefore ask.log (files old ask.log) (may_leave old))
      → AllMoments files may_leave images_since fits born ask H old new records cause
  before_all fits H later only resumable image left =
      ⊎_elim (λ was. inl was) (λ (b : IsBefore ask.log (files old ask.log) (may_leave old) image). inr (inl b)) (only.before born image later left)

  -- the same beside the files that the call may write
  pub before_beside : LeavesOnly moment images_since old new (IsBefore ask.log (files old ask.log) (may_leave old)) → ((m : List ℕ) (file : Option (List ℕ)) → m ≢ ask.log → may_leave new m file → may_leave old m file)
      → StaysBeside may_leave moment images_since (IsUnmade ask.plan ask.log) old new
  before_beside only crash = record {
    now = λ m file beside left. crash m file beside.0 left;
    any_moment = weakened moment images_since old new (IsBefore ask.log (files old ask.log) (may_leave old)) (λ image. (m : List ℕ) → IsUnmade ask.plan ask.log m → may_leave old m (image m)) only (λ image b m beside. b.others m beside.0);
  }

begins_none : (H more : List Record) → (let none : List Record = [] in none ≡ H ++ more) → more ≡ []
begins_none [] more is = sym is
begins_none (x ∷ H) more is = absurd (cc)

-- where nothing was read nothing was added
pub adds_none : (gives : Function) (may_fail : Job → Failure → Type 0) (P : Plan) (files : Files) (H : List Record) → BeginsWith H [] → Adds (Unit {0}) gives may_fail (read_sources P files) P H []
adds_none gives may_fail P files H begins = record {
  more = begins.0;
  are = begins.1;
  honest = λ trust. subst (λ (xs : List Record). All (FailsHonestly P may_fail (serial P gives (read_sources P files))) xs) (sym (begins_none H begins.0 begins.1)) (All-nil (FailsHonestly P may_fail (serial P gives (read_sources P files))));
}

nothing_at : {A : Type 0} (x : Record) (before after : List Record) → (let none : List Record = [] in none ≡ before ++ (x ∷ after)) → A
nothing_at x [] after wrong = absurd (cc)
nothing_at x (y ∷ before) after wrong = absurd (cc)

-- where nothing was added nothing was collected
pub collects_none : (P : Plan) (mode : Mode) (H all : List Record) → all ≡ H ++ [] → CollectsBy P mode H all
collects_none P mode H all same = record { more = []; are = same; each = λ before after x at. nothing_at x before after at }

pub unread_collects : (P : Plan) (mode : Mode) (H : List Record) → BeginsWith H [] → CollectsBy P mode H []
unread_collects P mode H begins = collects_none P mode H [] (begins.1 ∙ ap (λ (xs : List Record). H ++ xs) (begins_none H begins.0 begins.1))

-- and nothing was started
pub unread_placed : (P : Plan) (O : RunOptions) (H : List Record) → BeginsWith H [] → PlacedBy P O H []
unread_placed P O H begins = placed_none P O H [] (begins.1 ∙ ap (λ (xs : List Record). H ++ xs) (begins_none H begins.0 begins.1) ∙ append_nothing H)
