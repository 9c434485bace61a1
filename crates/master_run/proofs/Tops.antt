-- What a call does whose text was printed, from what it did before.
use Rattle.std.proofs.Common.{◌≡◌, ◌≤◌, ◌-◌, ⊎_elim, inl, ℕ, List, Result, Ok, drop, map, string_bytes, sum_by, sym, subst, refl, false, true, true≢false}
use Rattle.std.proofs.Common.{String, Global}
use Rattle.command_words.specs.declared.options.Options.{Options}
use Rattle.command_words.specs.declared.options.Work.TheVariants.{Run}
use Rattle.flow_types.specs.declared.job.Job.{Job}
use Rattle.flow_types.specs.declared.plan.Plan.{Plan}
use Rattle.flow_types.specs.declared.records.Record.{Record}
use Rattle.desk.specs.Kept.{IsLegal}
use Rattle.local_run.specs.Collecting.{RunCollects}
use Rattle.local_run.specs.Ends.{OpensBy}
use Rattle.local_run.specs.Moments.{IsMoment, KeepsSome}
use Rattle.local_run.specs.Runs.{Held, SerialFits, read_sources}
use Rattle.outside.specs.Disk.{IsImage, LeavesOnly}
use Rattle.outside.specs.Files.{Files}
use Rattle.report.specs.Causes.{is_failing, is_refusal, kind_of, may_lose, status_of, was_read}
use Rattle.report.specs.declared.cause.Cause.{Cause}
use Rattle.report.specs.declared.cause.Kind.{Kind}
use Rattle.report.specs.declared.cause.Kind.TheVariants as kinds
use Rattle.rule_graph.specs.Spelling.{plan_digest}
use Rattle.run_history.specs.Admissions.{Admitting}
use Rattle.run_history.specs.Answers.{before_end}
use Rattle.run_history.specs.History.{since_opening}
use Rattle.run_history.specs.Spent.{SpentOnce}
use Rattle.run_history.proofs.Limits.{limit-legal}
use Rattle.txn_log.specs.Spells.{Spells}
use Rattle.worker_pool.specs.Crews.{AllSure}
use Rattle.wq_run.specs.Ends.{AreBack}
use Rattle.wq_run.specs.Losses.{AreDueLosses}
use Rattle.wq_run.specs.Results.{AreResults}
use Rattle.wq_run.specs.Vain.{AreVain}
use Rattle.master_run.specs.declared.ask.Ask.{Ask}
use Rattle.master_run.specs.Asked.{IsLocal, ask_of, choice, request, run_mode, run_options}
use Rattle.master_run.specs.Counts.{Counts}
use Rattle.master_run.specs.Ends.{CallEnds, FaultEnd, WordsEnd, counts}
use Rattle.master_run.specs.Headline.{FailureEnd, IfWaited, IsPlanOf, IsWithinLimit, LogsFailed, WaitsInVain, is_run_end, is_runner_fault}
use Rattle.master_run.specs.Objects.{CommandWords, HallWords, RunnerWords, SinkWords, SiteWords, Stand}
use Rattle.master_run.specs.OnePlan.{AreLogged, RunLeaves}
use Rattle.master_run.specs.Prints.{Told, is_of_plan}
use Rattle.master_run.specs.Reaching.{AreSureLinks, GoesSurely, IsMannedFor}
use Rattle.master_run.specs.Serves.{IsCut, Serves}
use Rattle.master_run.specs.Tops.{HoldsAlways, HoldsByTrust, HoldsOfFiles, HoldsOfLinks, HoldsOfRecords, TopEndsBy}
use Rattle.master_run.proofs.Leaving.{printed_leaves}
use Rattle.master_run.proofs.Reaching.{goes_printed}
use Rattle.master_run.proofs.Reading.{entry_before}
use Rattle.master_run.proofs.Reprinted.{Stands, after_closed, after_cut, after_failed, after_kept, after_legal, after_planned, after_refused, after_run, after_spared, after_sure, after_waited, printed_ends, printed_fault, printed_serves, printed_words}
use Rattle.master_run.proofs.Unneeded.{drops_unneeded}

own_read : (kind : Kind) → is_of_plan kind ≡ true → was_read kind ≡ true
own_read kinds.LogPrinted own = refl
own_read kinds.Completed own = refl
own_read kinds.RuleFailed own = refl
own_read kinds.WrongFile own = refl
own_read _ own = absurd (true≢false (sym own))

module _ {A B L C D : Type 0} (F : CommandWords) (S : SiteWords A) (H : HallWords B L) (R : RunnerWords C) (O : SinkWords D) (E : Admitting)
    (told : Job → Type 0)
    (line : List (String Global)) (env : List (String Global × String Global)) (old new : Stand A B C D) (P : Plan) (cause : Cause) (written : List Record) where
  abbrev pub requested : Result Ask Cause
  requested = request line env (S.files old.site)

  abbrev pub spells : List Record → Type 0
  spells past = S.tells → AreLogged requested (S.files old.site) past

  abbrev pub idles : ℕ
  idles = H.idle_count new.hall - H.idle_count old.hall

  -- the counts, with these of the sink
  abbrev pub counts_old : ℕ → Counts
  counts_old sink = counts (S.count old.site) (map R.count old.runners) (H.count old.hall) (H.idle_count old.hall) sink

  abbrev pub counts_new : ℕ → Counts
  counts_new sink = counts (S.count new.site) (map R.count new.runners) (H.count new.hall) (H.idle_count new.hall) sink

  abbrev pub fails_old : ℕ
  fails_old = sum_by R.failures old.runners

  abbrev pub fails_new : ℕ
  fails_new = sum_by R.failures new.runners

  abbrev pub DueLosses : Options → List Record → Type 0
  DueLosses options past = AreDueLosses F.gives F.may_fail H.Way.history H.Way.count H.Way.idle_count H.Way.is_closed options.limits.idle (H.got old.hall) (H.got new.hall) past written

  abbrev pub Results : List Record → Type 0
  Results past = AreResults H.Way.history (H.got old.hall) (H.got new.hall) past written

  abbrev pub SureLinks : Type 0
  SureLinks = AreSureLinks H.Way.tells (H.honest old.hall) (H.sure old.hall) H.Way.history H.Way.count H.Way.idle_count H.Way.is_closed (H.got old.hall) (H.got new.hall) (H.count old.hall) (H.count new.hall)

  abbrev pub Vain : Options → Type 0
  Vain options = AreVain F.gives F.may_fail H.Way.history H.Way.count H.Way.idle_count H.Way.is_closed options.limits.idle E P (run_options options) (before_end written) (H.got old.hall) (H.got new.hall)

  -- What a call did before its text was printed: the clauses of `follow`.
  pub record Follows : Type 0 where
    pub ends : S.tells → CallEnds E requested idles (S.files old.site) (S.files new.site) written cause
    pub serves : S.tells → (ask : Ask) → requested ≡ Ok ask
        → Serves E S.tells S.files S.may_leave S.moment S.images_since (S.moment old.site) F.gives F.may_fail told (AllSure R.sure old.runners) (H.honest old.hall) (counts_old 0) (counts_new 0) ask old.site new.site written cause
    pub words : WordsEnd (choice line) cause
    pub faults : FaultEnd (counts_old 0) (counts_new 0) cause
    pub legal : was_read (kind_of cause) ≡ true → IsLegal P written
    pub planned : S.tells → was_read (kind_of cause) ≡ true → IsPlanOf requested P
    pub untouched : S.tells → is_refusal (kind_of cause) ≡ true → S.files new.site ≡ S.files old.site
    pub quiet : S.tells → is_refusal (kind_of cause) ≡ true → LeavesOnly S.moment S.images_since old.site new.site (IsImage (S.may_leave old.site))
    pub closed : is_run_end (kind_of cause) ≡ true → SpentOnce (since_opening written)
    pub never : AllSure R.sure old.runners → is_runner_fault (kind_of cause) ≡ false
    pub sure : IsLocal (choice line) → AllSure R.sure old.runners → is_failing (kind_of cause) ≡ false
    pub risen : fails_old ≤ fails_new
    pub failures : IsLocal (choice line) → FailureEnd fails_old fails_new (kind_of cause)
    pub failed : S.tells → (ask : Ask) → requested ≡ Ok ask → ask.options.wq ≡ false → (past : List Record) → Spells past (S.files old.site ask.log) → (IsCut cause → ⊥) → LogsFailed past written fails_old fails_new
    pub alone : IsLocal (choice line) → new.hall ≡ old.hall
    pub back : (IsCut cause → ⊥) → AreBack (H.got old.hall) (H.got new.hall) (H.given old.hall) (H.given new.hall)
    pub waited : (options : Options) → choice line ≡ Ok options → IfWaited cause (WaitsInVain E P (run_options options) options.limits.idle idles written)
    pub vain : H.Way.tells → (options : Options) → choice line ≡ Ok options → IfWaited cause (λ wait. Vain options)
    pub due_losses : H.Way.tells → S.tells → (options : Options) → choice line ≡ Ok options → (ask : Ask) → requested ≡ Ok ask → (past : List Record) → Spells past (S.files old.site ask.log) → may_lose (kind_of cause) ≡ false → DueLosses options past
    pub results : H.Way.tells → S.tells → (ask : Ask) → requested ≡ Ok ask → (past : List Record) → Spells past (S.files old.site ask.log) → ask.options.wq ≡ true → ask.work ≡ Run → may_lose (kind_of cause) ≡ false → Results past
    pub sure_links : S.tells → (ask : Ask) → requested ≡ Ok ask → (past : List Record) → Spells past (S.files old.site ask.log) → ask.options.wq ≡ true → ask.work ≡ Run → AllSure R.sure old.runners → SureLinks
        → GoesSurely F.gives told (IsMannedFor (H.manned old.hall) ask) ask (S.files old.site) (S.may_leave old.site) past (counts_old 0) (counts_new 0) written cause
    pub opened : (options : Options) → choice line ≡ Ok options → is_run_end (kind_of cause) ≡ true → OpensBy (run_options options) written
    pub collects : (options : Options) → choice line ≡ Ok options → is_run_end (kind_of cause) ≡ true → RunCollects P (run_mode options.mode) written
    pub leaves : (options : Options) → choice line ≡ Ok options → options.work ≡ Run
        → RunLeaves spells H.Way.tells (H.listens new.hall) F.gives F.may_fail H.Way.history H.Way.count H.Way.idle_count H.Way.is_closed E (ask_of options P) idles (H.got old.hall) (H.got new.hall) written cause
    pub spare : (options : Options) → choice line ≡ Ok options → drop options.service.jobs new.runners ≡ drop options.service.jobs old.runners

  -- The cause that stands once the text was printed.
  module _ (now : Cause) (stood : Stands (O.count old.out) (O.count new.out) cause now) (f : Follows) where
    always : HoldsAlways F S H R O E line env old new now written
    always = record {
      words = printed_words (map string_bytes line) (O.count old.out) (O.count new.out) cause now stood f.words;
      faults = printed_fault (S.count old.site) (map R.count old.runners) (H.count old.hall) (H.idle_count old.hall) (O.count old.out) (S.count new.site) (map R.count new.runners) (H.count new.hall) (H.idle_count new.hall) (O.count new.out) cause now stood f.faults;
      one_plan = record {
        plan = P;
        read = after_planned (S.tells → IsPlanOf requested P) (O.count old.out) (O.count new.out) cause now stood (λ read t. f.planned t read);
        legal = after_legal P written (O.count old.out) (O.count new.out) cause now stood f.legal;
        storage = after_planned (IsWithinLimit P written) (O.count old.out) (O.count new.out) cause now stood (λ read. limit-legal P (plan_digest P) written (f.legal read));
        leaves = λ options chosen work.
            printed_leaves E spells H.Way.tells (H.listens new.hall) F.gives F.may_fail H.Way.history H.Way.count H.Way.idle_count H.Way.is_closed (ask_of options P) idles (H.got old.hall) (H.got new.hall)
            written (O.count old.out) (O.count new.out) cause now stood (f.leaves options chosen work);
        opened = λ options chosen. after_run (OpensBy (run_options options) written) (O.count old.out) (O.count new.out) cause now stood (f.opened options chosen);
        collects = λ options chosen. after_run (RunCollects P (run_mode options.mode) written) (O.count old.out) (O.count new.out) cause now stood (f.collects options chosen);
        waited = λ options chosen. after_waited (WaitsInVain E P (run_options options) options.limits.idle idles written) (O.count old.out) (O.count new.out) cause now stood (f.waited options chosen);
        vain = λ tells options chosen. after_waited (λ wait. Vain options) (O.count old.out) (O.count new.out) cause now stood (f.vain tells options chosen);
      };
      closed = after_closed written (O.count old.out) (O.count new.out) cause now stood f.closed;
      back = after_cut (AreBack (H.got old.hall) (H.got new.hall) (H.given old.hall) (H.given new.hall)) (O.count old.out) (O.count new.out) cause now stood f.back;
      alone = f.alone;
      risen = f.risen;
      failures = λ local. after_failed fails_old fails_new (O.count old.out) (O.count new.out) cause now stood (f.failures local);
      sure = λ local is. after_sure (O.count old.out) (O.count new.out) cause now stood (f.sure local is);
      never = λ is. after_spared (O.count old.out) (O.count new.out) cause now stood (f.never is);
      spare = f.spare;
    }

    served : S.tells → (ask : Ask) → requested ≡ Ok ask
        → Serves E S.tells S.files S.may_leave S.moment S.images_since (S.moment old.site) F.gives F.may_fail told (AllSure R.sure old.runners) (H.honest old.hall) (counts_old (O.count old.out)) (counts_new (O.count new.out)) ask old.site new.site written now
    served t ask is =
        printed_serves E S.tells S.files S.may_leave S.moment S.images_since (S.moment old.site) F.gives F.may_fail told (AllSure R.sure old.runners) (H.honest old.hall)
        (S.count old.site) (map R.count old.runners) (H.count old.hall) (H.idle_count old.hall) (O.count old.out) (S.count new.site) (map R.count new.runners) (H.count new.hall) (H.idle_count new.hall) (O.count new.out) ask old.site new.site written cause now stood (f.serves t ask is)

    by_links : H.Way.tells → S.tells → (ask : Ask) → requested ≡ Ok ask → (past : List Record) → Spells past (S.files old.site ask.log) → HoldsOfLinks F S H R O E line env old new now written ask past
    by_links tells t ask is past spelled = record {
      due_losses = λ options chosen. after_kept (DueLosses options past) (O.count old.out) (O.count new.out) cause now stood (f.due_losses tells t options chosen ask is past spelled);
      results = λ away work. after_kept (Results past) (O.count old.out) (O.count new.out) cause now stood (f.results tells t ask is past spelled away work);
    }

    -- Since the entry there is no other moment at the entry.
    module _ (only : S.tells → (image : Files) → S.images_since old.site (S.moment old.site) image → IsImage (S.may_leave old.site) image) where
      by_files : S.tells → HoldsOfFiles F S H R O E line env old new now written
      by_files t = record {
        ends = printed_ends E (O.count old.out) (O.count new.out) requested idles (S.files old.site) (S.files new.site) written cause now stood (f.ends t);
        untouched = after_refused (S.files new.site ≡ S.files old.site) (O.count old.out) (O.count new.out) cause now stood (f.untouched t);
        quiet = after_refused (LeavesOnly S.moment S.images_since old.site new.site (IsImage (S.may_leave old.site))) (O.count old.out) (O.count new.out) cause now stood (f.quiet t);
        others = λ ask is. (served t ask is).others t;
        reads = λ ask is. (served t ask is).reads t;
        resumable = λ ask is some image left.
            ⊎_elim (λ (was : S.images_since old.site (S.moment old.site) image). some image (only t image was))
            (λ (keeps : KeepsSome Held ask.plan ask.log image). keeps)
            ((served t ask is).resumable t some image left);
      }

      by_log : S.tells → (ask : Ask) → requested ≡ Ok ask → (past : List Record) → Spells past (S.files old.site ask.log) → HoldsOfRecords F S H R O E line env old new now written ask past
      by_log t ask is past spelled =
          let s = served t ask is in
          record {
            records = s.has_log t past spelled;
            unread = s.unread t past spelled;
            logged = s.logged t past spelled;
            added = s.added t past spelled;
            modes = s.modes t past spelled;
            needed = λ begins. drops_unneeded ask.plan ask.options.mode past written (s.modes t past spelled begins);
            gone = s.gone t past spelled;
            cleaned = s.cleaned t past spelled;
            places = s.places t past spelled;
            spent = s.spent t past spelled;
            lost = s.lost t past spelled;
            lost_away = s.lost_away t past spelled;
            logged_failures = λ alone. after_cut (LogsFailed past written fails_old fails_new) (O.count old.out) (O.count new.out) cause now stood (f.failed t ask is alone past spelled);
            moments = λ resumable image left.
                ⊎_elim (λ (was : S.images_since old.site (S.moment old.site) image). inl (entry_before ask.log (S.files old.site ask.log) (S.may_leave old.site) image (only t image was)))
                (λ (m : IsMoment Held ask.plan ask.log (S.files old.site) (S.may_leave old.site) past written (IsCut now) image). m)
                (s.moments t past spelled resumable image left);
            now = s.now t past spelled;
          }

      by_trust : S.tells → (ask : Ask) → requested ≡ Ok ask → (past : List Record) → Spells past (S.files old.site ask.log) → HoldsByTrust F S H R O E line env old new now written told ask past
      by_trust t ask is past spelled =
          let s = served t ask is in
          record {
            contents = λ trust image left.
                ⊎_elim (λ (was : S.images_since old.site (S.moment old.site) image). inl (entry_before ask.log (S.files old.site ask.log) (S.may_leave old.site) image (only t image was)))
                (λ (m : IsMoment (SerialFits F.gives (read_sources ask.plan (S.files old.site))) ask.plan ask.log (S.files old.site) (S.may_leave old.site) past written (IsCut now) image). m)
                (s.contents t past spelled trust.linked trust.jobs trust.resumable image left);
            honest = λ trust. s.honest t past spelled trust.linked trust.resumable trust.jobs;
            completes = s.completes t past spelled;
            sure_links = λ away work sure links.
                goes_printed F.gives told (IsMannedFor (H.manned old.hall) ask) ask (S.files old.site) (S.may_leave old.site) past
                (S.count old.site) (map R.count old.runners) (H.count old.hall) (H.idle_count old.hall) (O.count old.out) (S.count new.site) (map R.count new.runners) (H.count new.hall) (H.idle_count new.hall) (O.count new.out)
                written cause now stood (f.sure_links t ask is past spelled away work sure links);
          }

      -- what the call does
      pub top_ends : (code : ℕ) → code ≡ status_of now → (O.tells → Told (choice line) P written (O.count old.out) (O.count new.out) (O.bytes old.out) (O.bytes new.out) cause now)
          → TopEndsBy F S H R O E line env old new now written told code
      top_ends code is_code print = record {
        status = is_code;
        always = always;
        by_files = by_files;
        by_log = by_log;
        by_links = by_links;
        by_trust = by_trust;
        text = λ tells.
            let t = print tells in
            record {
              plan = P;
              told = t.told;
              is_read = λ own told_files. f.planned told_files (own_read (kind_of cause) (subst (λ (c : Cause). is_of_plan (kind_of c) ≡ true) (t.is_own own) own));
              is_standing = t.is_standing;
              whole = t.whole;
              of_end = t.of_end;
              part = t.part;
            };
      }
