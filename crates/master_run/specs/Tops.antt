-- What a call of `makeflow` does, over whatever objects, as one fact. Each top call that runs a flow cites it.
use Rattle.std.specs.Prelude.{◌≡◌, ◌≤◌, ◌-◌, ℕ, List, Result, Ok, IsTrue, IsFalse, drop, false, map, sum_by, true}
use Rattle.std.proofs.Common.{String, Global}
use Rattle.command_words.specs.declared.options.Options.{Options}
use Rattle.command_words.specs.declared.options.Work.TheVariants.{Run}
use Rattle.desk.specs.Kept.{Keeps, ReadsStay, StaysBeside}
use Rattle.flow_run.specs.Places.{PlacedBy}
use Rattle.flow_types.specs.Serial.{Contents, serial}
use Rattle.flow_types.specs.declared.job.Job.{Job}
use Rattle.flow_types.specs.declared.plan.Plan.{Plan}
use Rattle.flow_types.specs.declared.records.Record.{Record}
use Rattle.local_run.specs.Collecting.{AreGone, CollectsBy}
use Rattle.local_run.specs.Course.{IsUnmade, TellsJobs}
use Rattle.local_run.specs.Moments.{IsBefore, IsMoment, IsResumable, KeepsSome}
use Rattle.local_run.specs.Runs.{Adds, BeginsWith, Held, LosesNone, SerialFits, read_sources}
use Rattle.outside.specs.Disk.{IsImage, LeavesOnly}
use Rattle.outside.specs.Files.{Files}
use Rattle.report.specs.Causes.{is_failing, is_refusal, kind_of, may_lose, status_of}
use Rattle.report.specs.declared.cause.Cause.{Cause}
use Rattle.run_history.specs.Admissions.{Admitting, all_admitted}
use Rattle.run_history.specs.History.{since_opening}
use Rattle.run_history.specs.Spent.{SpentOnce}
use Rattle.worker_pool.specs.Crews.{AllSure}
use Rattle.wq_run.specs.Ends.{AreBack, LosesOnLinks}
use Rattle.wq_run.specs.Losses.{AreDueLosses}
use Rattle.wq_run.specs.Results.{AreResults}
use Rattle.master_run.specs.declared.ask.Ask.{Ask}
use Rattle.master_run.specs.Added.{CallAdds}
use Rattle.master_run.specs.Asked.{IsLocal, choice, request}
use Rattle.master_run.specs.Counts.{Counts}
use Rattle.master_run.specs.Ends.{CallEnds, FaultEnd, WordsEnd, counts}
use Rattle.master_run.specs.Headline.{DropsUnneeded, FailureEnd, HasLog, IsCleanedBy, IsLegalOr, IsPlanOf, IsSpentBy, LogsFailed, OfLog, is_run_end, is_runner_fault}
use Rattle.master_run.specs.Objects.{CommandWords, HallWords, RunnerWords, SinkWords, SiteWords, Stand}
use Rattle.master_run.specs.OnePlan.{AreLogged, CallTells}
use Rattle.master_run.specs.Prints.{Prints}
use Rattle.master_run.specs.Reaching.{AreSureLinks, GoesSurely, IsMannedFor}
use Rattle.master_run.specs.Serves.{CanComplete, IsCut, IsSparedBy}

-- The call has this command line and environment. It finds its objects at the one stand and leaves them at the other, and ends by this cause with these records of its log.
-- Rules are started by this admission: a Started was admitted in the records before it, and Waited asks for rules that are.
module _ {A B L C D : Type 0} (F : CommandWords) (S : SiteWords A) (H : HallWords B L) (R : RunnerWords C) (O : SinkWords D) (E : Admitting)
    (line : List (String Global)) (env : List (String Global × String Global)) (old new : Stand A B C D) (cause : Cause) (written : List Record) where
  -- what words, environment and files ask for
  abbrev pub requested : Result Ask Cause
  requested = request line env (S.files old.site)

  -- Where the site tells, it is the plan of what was asked.
  abbrev pub IsPlanRead : Plan → Type 0
  IsPlanRead plan = S.tells → IsPlanOf requested plan

  -- Where the site tells, its log spelled these records at the entry.
  abbrev pub IsPastRead : List Record → Type 0
  IsPastRead past = S.tells → AreLogged requested (S.files old.site) past

  -- what was counted before the call, and behind it
  abbrev pub counted_before : Counts
  counted_before = counts (S.count old.site) (map R.count old.runners) (H.count old.hall) (H.idle_count old.hall) (O.count old.out)

  abbrev pub counted_after : Counts
  counted_after = counts (S.count new.site) (map R.count new.runners) (H.count new.hall) (H.idle_count new.hall) (O.count new.out)

  -- how often nobody came to the hall in the call
  abbrev pub idles : ℕ
  idles = H.idle_count new.hall - H.idle_count old.hall

  -- what reads of the plan's sources gave at the entry
  abbrev pub sources_read : Ask → Contents
  sources_read ask = read_sources ask.plan (S.files old.site)

  -- What holds over all objects, whatever they tell.
  pub record HoldsAlways : Type 0 where
    -- Words that are no command line are refused, and no others. Each fault comes only where that object's count rose in this call, and that of the runners names both counts of one that rose.
    pub words : WordsEnd (choice line) cause
    pub faults : FaultEnd counted_before counted_after cause
    -- By one plan, which is the one that was read: the records may stand in a log of it, with what is stored and reserved within the limit of the last opening; one call that is asked to run adds one run to some records, which are those of the log, with its opening, starts, drops and losses as the words let them be; a cause that the run answered is that of its end; and it ends since nobody came only where it waited in vain. Where the hall's links tell their bytes, each that was handed back then is ill, or over it came amounts that no ready rule fits that fits the storage and may run at a worker.
    pub one_plan : CallTells F H E IsPlanRead IsPastRead (choice line) old.hall new.hall written cause
    -- Each attempt of a run that ended is closed once.
    pub closed : IsTrue (is_run_end (kind_of cause)) → SpentOnce (since_opening written)
    -- Each link that the hall gave is handed back, and where no worker is asked for the hall stays as it was.
    pub back : (IsCut cause → ⊥) → AreBack (H.got old.hall) (H.got new.hall) (H.given old.hall) (H.given new.hall)
    pub alone : IsLocal (choice line) → new.hall ≡ old.hall
    -- Without workers CommandFailed comes only where a runner answered that a command failed, and over sure runners not. Their fault comes over sure runners in no call.
    pub risen : sum_by R.failures old.runners ≤ sum_by R.failures new.runners
    pub failures : IsLocal (choice line) → FailureEnd (sum_by R.failures old.runners) (sum_by R.failures new.runners) (kind_of cause)
    pub sure : IsLocal (choice line) → AllSure R.sure old.runners → IsFalse (is_failing (kind_of cause))
    pub never : AllSure R.sure old.runners → IsFalse (is_runner_fault (kind_of cause))
    -- Of the runners only so many are used as the words say.
    pub spare : (options : Options) → choice line ≡ Ok options → drop options.service.jobs new.runners ≡ drop options.service.jobs old.runners

  -- What holds where the site tells its files.
  pub record HoldsOfFiles : Type 0 where
    -- Each cause comes exactly where it belongs, in their order. A fault of the site and want of memory may come in the place of another, and a fault of the sink in that of the end of what was asked for.
    pub ends : CallEnds E requested idles (S.files old.site) (S.files new.site) written cause
    -- A refusal changes no file: reads give what they gave, and a crash at any moment of the call leaves nothing that it might not have left at the entry.
    pub untouched : IsTrue (is_refusal (kind_of cause)) → S.files new.site ≡ S.files old.site
    pub quiet : IsTrue (is_refusal (kind_of cause)) → LeavesOnly S.moment S.images_since old.site new.site (IsImage (S.may_leave old.site))
    -- No call changes a file that no rule makes, but the log. What reads give of these stays; of sources it isn't said behind a fault of the folder or want of memory.
    pub others : (ask : Ask) → requested ≡ Ok ask → StaysBeside S.may_leave S.moment S.images_since (IsUnmade ask.plan ask.log) old.site new.site
    pub reads : (ask : Ask) → requested ≡ Ok ask → ReadsStay S.files (IsSparedBy ask.plan ask.log cause) old.site new.site
    -- The same call can go on from what a crash leaves at any moment since the entry, where it can from what one may leave then.
    pub resumable : (ask : Ask) → requested ≡ Ok ask
        → ((image : Files) → IsImage (S.may_leave old.site) image → KeepsSome Held ask.plan ask.log image)
        → (image : Files) → S.images_since new.site (S.moment old.site) image → KeepsSome Held ask.plan ask.log image

  -- What holds of what was asked and of the records that the log spelled at the entry, where the site tells its files.
  pub record HoldsOfRecords (ask : Ask) (past : List Record) : Type 0 where
    -- The records of the log stay, those that were added stand behind them, and together they may stand in a log of the plan. None are handed back only where the log wasn't read, and then nothing is left that might not have been left before.
    pub records : HasLog past written (kind_of cause)
    pub unread : (BeginsWith past written → ⊥)
        → LeavesOnly S.moment S.images_since old.site new.site (IsBefore ask.log (S.files old.site ask.log) (S.may_leave old.site))
    pub logged : IsLegalOr ask.plan past written (kind_of cause)
    -- One call adds one run, with one opening and the Ended of its cause, or nothing; a cleaning the end of the part where that was begun. Behind a fault of the folder or the sink, or want of memory, either may be so.
    pub added : CallAdds ask past written cause
    -- Files are collected as the words say: a drop names the file that is wanted where it stands, and no rule is started and no run complete where one is wanted. What is dropped is needed by nobody and is gone, as are the made files behind a cleaning.
    pub modes : BeginsWith past written → CollectsBy ask.plan ask.options.mode past written
    pub needed : BeginsWith past written → DropsUnneeded ask.plan past written
    pub gone : (IsCut cause → ⊥) → AreGone ask.plan (S.files new.site) past written
    pub cleaned : IsCleanedBy ask.plan past (S.files new.site) cause
    -- Each attempt of this call is started where its rule may run: on this machine exactly where the rule is a LOCAL one or no worker is asked for.
    pub places : BeginsWith past written → PlacedBy ask.plan ask.options past written
    -- Each attempt of this call is closed once. On this machine it is given up only where a fault ended the call.
    pub spent : (IsCut cause → ⊥) → IsSpentBy past written
    pub lost : ask.options.wq ≡ false → IsFalse (may_lose (kind_of cause)) → LosesNone past written
    pub lost_away : IsFalse (may_lose (kind_of cause)) → LosesOnLinks past written
    -- Without workers each command that failed is logged once.
    pub logged_failures : ask.options.wq ≡ false → (IsCut cause → ⊥)
        → LogsFailed past written (sum_by R.failures old.runners) (sum_by R.failures new.runners)
    -- A crash at any moment since the entry leaves what it might have left before the log was read, or the records that stood then and the first of those that were added, with every file that they say is present.
    pub moments : IsResumable Held ask.plan ask.log past (S.may_leave old.site) → (image : Files) → S.images_since new.site (S.moment old.site) image
        → IsMoment Held ask.plan ask.log (S.files old.site) (S.may_leave old.site) past written (IsCut cause) image
    pub now : IsResumable Held ask.plan ask.log past (S.may_leave old.site) → (IsCut cause → ⊥) → (image : Files) → IsImage (S.may_leave new.site) image
        → Keeps Held ask.plan ask.log written image

  -- What holds where beside that the hall's links tell their bytes.
  pub record HoldsOfLinks (ask : Ask) (past : List Record) : Type 0 where
    -- An attempt at a worker is given up otherwise only for a cause that a link shows which was handed back under the number of its own: it is ill, or over it came that the attempt wasn't run, or three times that inputs of it are missing.
    pub due_losses : (options : Options) → choice line ≡ Ok options → IsFalse (may_lose (kind_of cause))
        → AreDueLosses F.gives F.may_fail H.Way.history H.Way.count H.Way.idle_count H.Way.is_closed
        options.limits.idle (H.got old.hall) (H.got new.hall) past written
    -- Each attempt that came to its end was started here, or on a link that was handed back under its number, over which its result came, with the sizes and digests that were logged or the failure that was, for a task that was sent behind its inputs.
    pub results : ask.options.wq ≡ true → ask.work ≡ Run → IsFalse (may_lose (kind_of cause))
        → AreResults H.Way.history (H.got old.hall) (H.got new.hall) past written

  -- Of these jobs the runners tell.
  module _ (told : Job → Type 0) where
    -- The runners tell what the commands say of the job of each rule that may run here, with workers each of their links is honest, and what a crash might leave at the entry has the contents of the serial run.
    pub record IsTrusted (ask : Ask) (past : List Record) : Type 0 where
      pub linked : ask.options.wq ≡ true → H.honest old.hall
      pub resumable : IsResumable (SerialFits F.gives (sources_read ask)) ask.plan ask.log past (S.may_leave old.site)
      pub jobs : TellsJobs ask.plan ask.options told (serial ask.plan F.gives (sources_read ask))

    -- What holds where beside that runners or links are trusted. That a call returns isn't said.
    pub record HoldsByTrust (ask : Ask) (past : List Record) : Type 0 where
      -- Every present file has the content of the serial run at every moment, and each failure is one that its rule's job may have.
      pub contents : IsTrusted ask past → (image : Files) → S.images_since new.site (S.moment old.site) image
          → IsMoment (SerialFits F.gives (sources_read ask)) ask.plan ask.log (S.files old.site) (S.may_leave old.site) past written (IsCut cause) image
      pub honest : IsTrusted ask past → BeginsWith past written → Adds (Unit {0}) F.gives F.may_fail (sources_read ask) ask.plan past written
      -- How a call without workers ended that could be completed, over sure runners that tell, with nothing in its way, room in the log and no count rising: every rule is complete, or memory was wanting, or with a limit of the storage there was no room.
      pub completes : CanComplete F.gives told (AllSure R.sure old.runners) ask (S.files old.site) (S.may_leave old.site) past counted_before counted_after cause
      -- The same of a call with workers, over a hall whose links are sure: there it may have waited in vain too, but not where the hall is manned for what the rules state. No attempt of such a call failed and none was given up, unless memory was wanting or a fault ended it.
      pub sure_links : ask.options.wq ≡ true → ask.work ≡ Run → AllSure R.sure old.runners
          → AreSureLinks H.Way.tells (H.honest old.hall) (H.sure old.hall) H.Way.history H.Way.count H.Way.idle_count H.Way.is_closed
          (H.got old.hall) (H.got new.hall) (H.count old.hall) (H.count new.hall)
          → GoesSurely F.gives told (IsMannedFor (H.manned old.hall) ask) ask (S.files old.site) (S.may_leave old.site) past
          counted_before counted_after written cause

    -- How a call goes that ends with this status. The clauses on its log speak of the records that its file spells at the entry, of which there is one list at most.
    pub record TopEndsBy (code : ℕ) : Type 0 where
      pub status : code ≡ status_of cause
      pub always : HoldsAlways
      pub by_files : S.tells → HoldsOfFiles
      pub by_log : S.tells → OfLog requested (S.files old.site) HoldsOfRecords
      pub by_links : H.Way.tells → S.tells → OfLog requested (S.files old.site) HoldsOfLinks
      pub by_trust : S.tells → OfLog requested (S.files old.site) HoldsByTrust
      -- Where the sink tells its bytes, they grew by the text of the cause, whole unless the sink's count rose or memory was wanting, and then by a first part of a text. The end of what was asked for is answered only where its text was printed whole.
      pub text : O.tells → Prints (choice line) IsPlanRead written (O.count old.out) (O.count new.out) (O.bytes old.out) (O.bytes new.out) cause

-- The same where every ready rule is admitted.
abbrev pub TopEnds : {A B L C D : Type 0} → CommandWords → SiteWords A → HallWords B L → RunnerWords C → SinkWords D → List (String Global) → List (String Global × String Global) → Stand A B C D → Stand A B C D
    → Cause → List Record → (Job → Type 0) → ℕ → Type 0
TopEnds F S H R O line env old new cause written told code = TopEndsBy F S H R O all_admitted line env old new cause written told code
