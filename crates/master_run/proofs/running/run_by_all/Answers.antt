use Rattle.std.proofs.Common.{◌≡◌, ◌≤◌, ◌<◌, ◌-◌, ◌∙◌, inl, ℕ, List, None, map, sum, sum_by, ap, sym, subst, refl, arith, false, true, true≢false}
use Rattle.flow_types.specs.declared.records.Record.{Record}
use Rattle.run_history.specs.declared.answers.Wait.{Wait}
use Rattle.run_history.specs.Answers.{before_end}
use Rattle.worker_pool.specs.Crews.{AllSure, AllTell}
use Rattle.outside.proofs.Moments.{weakened}
use Rattle.report.specs.declared.cause.Cause.{Cause}
use Rattle.report.specs.declared.cause.Cause.TheVariants as causes
use Rattle.report.specs.Causes.{is_cut, kind_of, may_lose}
use Rattle.std.proofs.lemmas.List.Sums.{sum-map}
use Rattle.local_run.specs.Ends.{run_fault}
use Rattle.local_run.specs.Runs.{HasCauses}
use Rattle.master_run.specs.declared.rises.Rise.{Rise}
use Rattle.master_run.specs.Ends.{OneRose, counts, run_refusal}
use Rattle.master_run.specs.Headline.{FailureEnd, IfWaited, WaitsInVain, is_run_end}
use Rattle.master_run.specs.Reaching.{GoesSurely, IsFree, IsMannedFor}
use Rattle.master_run.specs.Serves.{Serves}
use Rattle.master_run.proofs.Reaching.{goes_memory, goes_ran, goes_unread}
use Rattle.local_run.specs.Moments.{IsBefore}
use Rattle.log_recover.specs.Recovery.{IsRecovering}
use Rattle.master_run.specs.OnePlan.{RunLeaves}
use Rattle.master_run.specs.Runs.{run_cause, unread_cause}
use Rattle.txn_log.specs.Spells.{Spells}
use Rattle.master_run.proofs.Leaving.{memory_leaves, ran_leaves, unread_leaves}
use Rattle.wq_run.specs.Ends.{AreBack}
use Rattle.wq_run.specs.Losses.{AreDueLosses}
use Rattle.wq_run.specs.Results.{AreResults}
use Rattle.wq_run.specs.Vain.{AreVain}
use Rattle.flow_run.proofs.Dues.{due_none, results_none}
use Rattle.flow_run.proofs.Stops.{back_same}
use Rattle.master_run.proofs.Fitted.{at_most, fits_here}
use Rattle.master_run.proofs.Ran.{closed_run, closed_starts, cut_run, failed_run, logged_run, loses_none, lost_run, none_refused, over_run, ran_serves, run_faults, told_cause}
use Rattle.master_run.proofs.Waits.{unread_waits, vain_run, waited_run}
use Rattle.master_run.proofs.Refusals.{by_fault}
use Rattle.master_run.proofs.Counted.{hall_rise, site_rise}
use Rattle.master_run.proofs.Unread.{recovering_before, unread_cuts, unread_ends, unread_failed, unread_serves}
use Rattle.master_run.proofs.Works.{loses_cut}
use Rattle.master_run.proofs.running.run_by_all.Goals as goal

pub returns-in_default-clause-serves : goal.returns-in_default-clause-serves
returns-in_default-clause-serves g c =
    subst (λ (xs : List Record). Serves g.Q.Made.Admission.admitted g.S.Site.tells g.S.Site.files g.S.Site.may_leave g.S.Site.moment g.S.Site.images_since g.B.Born.born g.F.Commands.gives g.F.Commands.may_fail (AllTell g.R.Runner.tells c.args.runners.now) (AllSure g.R.Runner.sure c.args.runners.now) (g.H.Hall.honest c.args.hall.now) (counts c.args.before (map g.R.Runner.count c.args.runners.now) (g.H.Hall.count c.args.hall.now) (g.H.Hall.idle_count c.args.hall.now) 0) (counts (g.S.Site.count c.args.site) (map g.R.Runner.count c.args.runners.now) (g.H.Hall.count c.args.hall.now) (g.H.Hall.idle_count c.args.hall.now) 0) c.args.ask c.args.site c.args.site xs causes.Memory) (sym c.new.ensures)
    (by_fault g.Q.Made.Admission.admitted g.S.Site.tells g.S.Site.files g.S.Site.may_leave g.S.Site.moment g.S.Site.images_since g.B.Born.born g.F.Commands.gives g.F.Commands.may_fail (AllTell g.R.Runner.tells c.args.runners.now) (AllSure g.R.Runner.sure c.args.runners.now) (g.H.Hall.honest c.args.hall.now) (counts c.args.before (map g.R.Runner.count c.args.runners.now) (g.H.Hall.count c.args.hall.now) (g.H.Hall.idle_count c.args.hall.now) 0) (counts (g.S.Site.count c.args.site) (map g.R.Runner.count c.args.runners.now) (g.H.Hall.count c.args.hall.now) (g.H.Hall.idle_count c.args.hall.now) 0) c.args.ask c.args.site c.args.site c.requires.later
    (λ t. record { same = refl; within = λ m file left. left; only = record { later = omega arith; each = λ image left. ((g.met.S.Site g.world.𝓛 g.world.𝓜 g.world.𝓡 ((λ s x. x), (λ x. x), (λ x. x), λ x. x)).only_now t c.args.site image left); before = λ time image le left. inl left } })
    causes.Memory refl refl refl tt (λ none. refl))

pub returns-in-Ok-resume-clause-serves : goal.returns-in-Ok-resume-clause-serves
returns-in-Ok-resume-clause-serves g c =
    let same : c.run_cause.result ≡ run_cause (site_rise (counts c.args.before (map g.R.Runner.count c.args.runners.now) (g.H.Hall.count c.args.hall.now) (g.H.Hall.idle_count c.args.hall.now) 0) (counts (g.S.Site.count c.in-Ok-resume.ended.site) (map g.R.Runner.count c.resume.new.runners) (g.H.Hall.count c.resume.new.hall) (g.H.Hall.idle_count c.resume.new.hall) 0)) c.first_rise-runner.result (hall_rise (counts c.args.before (map g.R.Runner.count c.args.runners.now) (g.H.Hall.count c.args.hall.now) (g.H.Hall.idle_count c.args.hall.now) 0) (counts (g.S.Site.count c.in-Ok-resume.ended.site) (map g.R.Runner.count c.resume.new.runners) (g.H.Hall.count c.resume.new.hall) (g.H.Hall.idle_count c.resume.new.hall) 0)) c.args.ask.plan c.in-Ok-resume.ended.how =
    c.run_cause.ensures ∙ told_cause c.args.before c.faults-after.result (g.S.Site.count c.in-Ok-resume.ended.site) c.faults-met.result (g.H.Hall.count c.args.hall.now) c.faults.result (g.H.Hall.count c.resume.new.hall) c.first_rise-runner.result c.in-Ok.copied c.args.ask.plan c.in-Ok-resume.ended.how c.faults-after.ensures c.faults-met.ensures c.faults.ensures c.in-Ok.ensures.0 in
    let was : sum (map g.R.Runner.count c.args.runners.now) ≡ sum_by g.R.Runner.count c.args.runners.now = sum-map g.R.Runner.count c.args.runners.now in
    let is : sum (map g.R.Runner.count c.resume.new.runners) ≡ sum_by g.R.Runner.count c.resume.new.runners = sum-map g.R.Runner.count c.resume.new.runners in
    let causes : HasCauses (g.S.Site.count c.args.site) (g.S.Site.count c.in-Ok-resume.ended.site) (sum (map g.R.Runner.count c.args.runners.now)) (sum (map g.R.Runner.count c.resume.new.runners)) c.in-Ok-resume.ended.how =
    subst (λ (n : ℕ). HasCauses (g.S.Site.count c.args.site) (g.S.Site.count c.in-Ok-resume.ended.site) n (sum (map g.R.Runner.count c.resume.new.runners)) c.in-Ok-resume.ended.how) (sym was) (subst (λ (n : ℕ). HasCauses (g.S.Site.count c.args.site) (g.S.Site.count c.in-Ok-resume.ended.site) (sum_by g.R.Runner.count c.args.runners.now) n c.in-Ok-resume.ended.how) (sym is) c.in-Ok-resume.ensures.causes) in
    let kept : c.as_slice.result.now ≡ (map g.R.Runner.count c.args.runners.now) = c.as_slice.ensures ∙ c.in-Ok.ensures.1 in
    let one : sum (map g.R.Runner.count c.args.runners.now) < sum (map g.R.Runner.count c.resume.new.runners) → OneRose c.first_rise-runner.result.before c.first_rise-runner.result.after (map g.R.Runner.count c.args.runners.now) (map g.R.Runner.count c.resume.new.runners) =
    subst (λ (xs : List ℕ). sum xs < sum (map g.R.Runner.count c.resume.new.runners) → OneRose c.first_rise-runner.result.before c.first_rise-runner.result.after xs (map g.R.Runner.count c.resume.new.runners)) kept c.first_rise-runner.ensures in
    subst (λ (cause : Cause). Serves g.Q.Made.Admission.admitted g.S.Site.tells g.S.Site.files g.S.Site.may_leave g.S.Site.moment g.S.Site.images_since g.B.Born.born g.F.Commands.gives g.F.Commands.may_fail (AllTell g.R.Runner.tells c.args.runners.now) (AllSure g.R.Runner.sure c.args.runners.now) (g.H.Hall.honest c.args.hall.now) (counts c.args.before (map g.R.Runner.count c.args.runners.now) (g.H.Hall.count c.args.hall.now) (g.H.Hall.idle_count c.args.hall.now) 0) (counts (g.S.Site.count c.in-Ok-resume.ended.site) (map g.R.Runner.count c.resume.new.runners) (g.H.Hall.count c.resume.new.hall) (g.H.Hall.idle_count c.resume.new.hall) 0) c.args.ask c.args.site c.in-Ok-resume.ended.site c.in-Ok-resume.ended.records cause) (sym same)
    (ran_serves g.Q.Made.Admission.admitted g.S.Site.tells g.S.Site.files g.S.Site.may_leave g.S.Site.moment g.S.Site.images_since g.S.Site.count g.B.Born.born g.F.Commands.gives g.F.Commands.may_fail (AllTell g.R.Runner.tells c.args.runners.now) (AllSure g.R.Runner.sure c.args.runners.now) (g.H.Hall.honest c.args.hall.now)
    (counts c.args.before (map g.R.Runner.count c.args.runners.now) (g.H.Hall.count c.args.hall.now) (g.H.Hall.idle_count c.args.hall.now) 0) (counts (g.S.Site.count c.in-Ok-resume.ended.site) (map g.R.Runner.count c.resume.new.runners) (g.H.Hall.count c.resume.new.hall) (g.H.Hall.idle_count c.resume.new.hall) 0) c.first_rise-runner.result c.args.ask c.args.site c.in-Ok-resume.ended.site c.in-Ok-resume.ended.records c.in-Ok-resume.ended.how (record {
      work = c.requires.work;
      le = c.requires.counted;
      now_site = refl;
      faults = run_faults (counts c.args.before (map g.R.Runner.count c.args.runners.now) (g.H.Hall.count c.args.hall.now) (g.H.Hall.idle_count c.args.hall.now) 0) (counts (g.S.Site.count c.in-Ok-resume.ended.site) (map g.R.Runner.count c.resume.new.runners) (g.H.Hall.count c.resume.new.hall) (g.H.Hall.idle_count c.resume.new.hall) 0) c.first_rise-runner.result c.args.ask.plan (g.S.Site.count c.args.site) (g.S.Site.count c.in-Ok-resume.ended.site) c.in-Ok-resume.ended.how c.requires.counted refl one causes (λ is. (c.in-Ok-resume.ensures.hall is).1);
      log = c.in-Ok-resume.ensures.log;
      grows = c.in-Ok-resume.ensures.grows;
      same = c.in-Ok-resume.ensures.same;
      added = c.in-Ok-resume.ensures.added;
      quiet = c.in-Ok-resume.ensures.quiet;
      before = c.in-Ok-resume.ensures.before;
      starts = c.in-Ok-resume.ensures.starts;
      closed = λ alone. c.in-Ok-resume.ensures.closed (fits_here c.args.ask.plan c.args.ask.options c.requires.fits alone);
      ends = c.in-Ok-resume.ensures.ends;
      waited = c.in-Ok-resume.ensures.waited;
      met = λ is. (c.in-Ok-resume.ensures.hall is).0;
      damage = c.in-Ok-resume.ensures.damage;
      legal = c.in-Ok-resume.ensures.legal;
      spent = c.in-Ok-resume.ensures.spent;
      lost = c.in-Ok-resume.ensures.lost;
      lost_away = c.in-Ok-resume.ensures.lost_away;
      is_sure = c.in-Ok-resume.ensures.sure;
      never = c.in-Ok-resume.ensures.never;
      others = c.in-Ok-resume.ensures.others;
      reads = c.in-Ok-resume.ensures.reads;
      moments = c.in-Ok-resume.ensures.moments;
      resumable = c.in-Ok-resume.ensures.resumable;
      contents = c.in-Ok-resume.ensures.contents;
      honest = c.in-Ok-resume.ensures.honest;
      at_end = c.in-Ok-resume.ensures.now;
      modes = c.in-Ok-resume.ensures.modes;
      places = c.in-Ok-resume.ensures.places;
      gone = c.in-Ok-resume.ensures.gone;
      completes = λ alone t H spelled resumable jobs fit room none is le. c.in-Ok-resume.ensures.completes t H spelled resumable jobs (fits_here c.args.ask.plan c.args.ask.options c.requires.fits alone) fit room none is le;
    }))

pub returns-clause-serves : goal.returns-clause-serves
returns-clause-serves g c =
    let same : c.unread_cause.result ≡ unread_cause (site_rise (counts c.args.before (map g.R.Runner.count c.args.runners.now) (g.H.Hall.count c.args.hall.now) (g.H.Hall.idle_count c.args.hall.now) 0) (counts (g.S.Site.count c.in-Err.refused.site) (map g.R.Runner.count c.resume.new.runners) (g.H.Hall.count c.resume.new.hall) (g.H.Hall.idle_count c.resume.new.hall) 0)) c.in-Err.refused.why =
    c.unread_cause.ensures ∙ ap (λ (n : ℕ). unread_cause (record { before = c.args.before; after = n }) c.in-Err.refused.why) c.faults-after-in-Err.ensures in
    subst (λ (cause : Cause). Serves g.Q.Made.Admission.admitted g.S.Site.tells g.S.Site.files g.S.Site.may_leave g.S.Site.moment g.S.Site.images_since g.B.Born.born g.F.Commands.gives g.F.Commands.may_fail (AllTell g.R.Runner.tells c.args.runners.now) (AllSure g.R.Runner.sure c.args.runners.now) (g.H.Hall.honest c.args.hall.now) (counts c.args.before (map g.R.Runner.count c.args.runners.now) (g.H.Hall.count c.args.hall.now) (g.H.Hall.idle_count c.args.hall.now) 0) (counts (g.S.Site.count c.in-Err.refused.site) (map g.R.Runner.count c.resume.new.runners) (g.H.Hall.count c.resume.new.hall) (g.H.Hall.idle_count c.resume.new.hall) 0) c.args.ask c.args.site c.in-Err.refused.site c.new-in-Err.result cause) (sym same)
    (subst (λ (xs : List Record). Serves g.Q.Made.Admission.admitted g.S.Site.tells g.S.Site.files g.S.Site.may_leave g.S.Site.moment g.S.Site.images_since g.B.Born.born g.F.Commands.gives g.F.Commands.may_fail (AllTell g.R.Runner.tells c.args.runners.now) (AllSure g.R.Runner.sure c.args.runners.now) (g.H.Hall.honest c.args.hall.now) (counts c.args.before (map g.R.Runner.count c.args.runners.now) (g.H.Hall.count c.args.hall.now) (g.H.Hall.idle_count c.args.hall.now) 0) (counts (g.S.Site.count c.in-Err.refused.site) (map g.R.Runner.count c.resume.new.runners) (g.H.Hall.count c.resume.new.hall) (g.H.Hall.idle_count c.resume.new.hall) 0) c.args.ask c.args.site c.in-Err.refused.site xs (unread_cause (site_rise (counts c.args.before (map g.R.Runner.count c.args.runners.now) (g.H.Hall.count c.args.hall.now) (g.H.Hall.idle_count c.args.hall.now) 0) (counts (g.S.Site.count c.in-Err.refused.site) (map g.R.Runner.count c.resume.new.runners) (g.H.Hall.count c.resume.new.hall) (g.H.Hall.idle_count c.resume.new.hall) 0)) c.in-Err.refused.why)) (sym c.new-in-Err.ensures)
    (unread_serves g.Q.Made.Admission.admitted g.S.Site.tells g.S.Site.files g.S.Site.may_leave g.S.Site.moment g.S.Site.images_since g.B.Born.born g.F.Commands.gives g.F.Commands.may_fail (AllTell g.R.Runner.tells c.args.runners.now) (AllSure g.R.Runner.sure c.args.runners.now) (g.H.Hall.honest c.args.hall.now) (counts c.args.before (map g.R.Runner.count c.args.runners.now) (g.H.Hall.count c.args.hall.now) (g.H.Hall.idle_count c.args.hall.now) 0) (counts (g.S.Site.count c.in-Err.refused.site) (map g.R.Runner.count c.resume.new.runners) (g.H.Hall.count c.resume.new.hall) (g.H.Hall.idle_count c.resume.new.hall) 0) c.args.ask c.args.site c.in-Err.refused.site c.requires.later
    (λ t. weakened g.S.Site.moment g.S.Site.images_since c.args.site c.in-Err.refused.site (IsRecovering c.args.ask.log (g.S.Site.files c.args.site c.args.ask.log) (g.S.Site.may_leave c.args.site)) (IsBefore c.args.ask.log (g.S.Site.files c.args.site c.args.ask.log) (g.S.Site.may_leave c.args.site)) (c.in-Err.ensures.unread t)
    (λ image is. recovering_before c.args.ask.log (g.S.Site.files c.args.site c.args.ask.log) (g.S.Site.may_leave c.args.site) image is))
    c.in-Err.ensures.crash c.in-Err.ensures.beside c.files_spell_one_list.ensures.header c.files_spell_one_list.ensures.whole c.in-Err.refused.why (λ is. omega (arith, c.requires.counted, c.in-Err.ensures.site is)) c.in-Err.ensures.damaged c.in-Err.ensures.unchanged))

pub returns-clause-failures : goal.returns-clause-failures
returns-clause-failures g c alone =
    subst (λ (cause : Cause). FailureEnd (sum_by g.R.Runner.failures c.args.runners.now) (sum_by g.R.Runner.failures c.resume.new.runners) (kind_of cause)) (sym c.unread_cause.ensures)
    (unread_failed (record { before = c.args.before; after = c.faults-after-in-Err.result }) (sum_by g.R.Runner.failures c.args.runners.now) (sum_by g.R.Runner.failures c.resume.new.runners) c.in-Err.refused.why (let same : sum_by g.R.Runner.failures c.resume.new.runners ≡ sum_by g.R.Runner.failures c.args.runners.now = ap (λ l. sum_by g.R.Runner.failures l) c.in-Err.ensures.unrun in omega (arith, same)))

pub run_cause-requires-clause-ends : goal.run_cause-requires-clause-ends
run_cause-requires-clause-ends g c =
    over_run g.Q.Made.Admission.admitted c.args.ask.options.wq c.args.ask.plan c.args.ask.options c.args.ask.workers.limit (g.H.Hall.idle_count c.resume.new.hall - g.H.Hall.idle_count c.args.hall.now) c.args.ask.options.limit c.in-Ok-resume.ended.records c.in-Ok-resume.ended.how
    (λ alone. c.in-Ok-resume.ensures.closed (fits_here c.args.ask.plan c.args.ask.options c.requires.fits alone)) c.in-Ok-resume.ensures.waited

pub returns-in_default-clause-back : goal.returns-in_default-clause-back
returns-in_default-clause-back g c whole = absurd (whole refl)

pub returns-in-Ok-resume-clause-back : goal.returns-in-Ok-resume-clause-back
returns-in-Ok-resume-clause-back g c whole =
    let same : c.run_cause.result ≡ run_cause (site_rise (counts c.args.before (map g.R.Runner.count c.args.runners.now) (g.H.Hall.count c.args.hall.now) (g.H.Hall.idle_count c.args.hall.now) 0) (counts (g.S.Site.count c.in-Ok-resume.ended.site) (map g.R.Runner.count c.resume.new.runners) (g.H.Hall.count c.resume.new.hall) (g.H.Hall.idle_count c.resume.new.hall) 0)) c.first_rise-runner.result (hall_rise (counts c.args.before (map g.R.Runner.count c.args.runners.now) (g.H.Hall.count c.args.hall.now) (g.H.Hall.idle_count c.args.hall.now) 0) (counts (g.S.Site.count c.in-Ok-resume.ended.site) (map g.R.Runner.count c.resume.new.runners) (g.H.Hall.count c.resume.new.hall) (g.H.Hall.idle_count c.resume.new.hall) 0)) c.args.ask.plan c.in-Ok-resume.ended.how =
    c.run_cause.ensures ∙ told_cause c.args.before c.faults-after.result (g.S.Site.count c.in-Ok-resume.ended.site) c.faults-met.result (g.H.Hall.count c.args.hall.now) c.faults.result (g.H.Hall.count c.resume.new.hall) c.first_rise-runner.result c.in-Ok.copied c.args.ask.plan c.in-Ok-resume.ended.how c.faults-after.ensures c.faults-met.ensures c.faults.ensures c.in-Ok.ensures.0 in
    c.in-Ok-resume.ensures.back (λ cut. whole (subst (λ (cause : Cause). is_cut (kind_of cause) ≡ true) (sym same) (cut_run (site_rise (counts c.args.before (map g.R.Runner.count c.args.runners.now) (g.H.Hall.count c.args.hall.now) (g.H.Hall.idle_count c.args.hall.now) 0) (counts (g.S.Site.count c.in-Ok-resume.ended.site) (map g.R.Runner.count c.resume.new.runners) (g.H.Hall.count c.resume.new.hall) (g.H.Hall.idle_count c.resume.new.hall) 0)) c.first_rise-runner.result (hall_rise (counts c.args.before (map g.R.Runner.count c.args.runners.now) (g.H.Hall.count c.args.hall.now) (g.H.Hall.idle_count c.args.hall.now) 0) (counts (g.S.Site.count c.in-Ok-resume.ended.site) (map g.R.Runner.count c.resume.new.runners) (g.H.Hall.count c.resume.new.hall) (g.H.Hall.idle_count c.resume.new.hall) 0)) c.args.ask.plan c.in-Ok-resume.ended.how cut)))

pub returns-clause-back : goal.returns-clause-back
returns-clause-back g c whole =
    subst (λ (hall : g.row.H.Denot). AreBack (g.H.Hall.got c.args.hall.now) (g.H.Hall.got hall) (g.H.Hall.given c.args.hall.now) (g.H.Hall.given hall)) (sym c.in-Err.ensures.unopened) (back_same (g.H.Hall.got c.args.hall.now) (g.H.Hall.given c.args.hall.now))

pub returns-in-Ok-resume-clause-waited : goal.returns-in-Ok-resume-clause-waited
returns-in-Ok-resume-clause-waited g c =
    let same : c.run_cause.result ≡ run_cause (site_rise (counts c.args.before (map g.R.Runner.count c.args.runners.now) (g.H.Hall.count c.args.hall.now) (g.H.Hall.idle_count c.args.hall.now) 0) (counts (g.S.Site.count c.in-Ok-resume.ended.site) (map g.R.Runner.count c.resume.new.runners) (g.H.Hall.count c.resume.new.hall) (g.H.Hall.idle_count c.resume.new.hall) 0)) c.first_rise-runner.result (hall_rise (counts c.args.before (map g.R.Runner.count c.args.runners.now) (g.H.Hall.count c.args.hall.now) (g.H.Hall.idle_count c.args.hall.now) 0) (counts (g.S.Site.count c.in-Ok-resume.ended.site) (map g.R.Runner.count c.resume.new.runners) (g.H.Hall.count c.resume.new.hall) (g.H.Hall.idle_count c.resume.new.hall) 0)) c.args.ask.plan c.in-Ok-resume.ended.how =
    c.run_cause.ensures ∙ told_cause c.args.before c.faults-after.result (g.S.Site.count c.in-Ok-resume.ended.site) c.faults-met.result (g.H.Hall.count c.args.hall.now) c.faults.result (g.H.Hall.count c.resume.new.hall) c.first_rise-runner.result c.in-Ok.copied c.args.ask.plan c.in-Ok-resume.ended.how c.faults-after.ensures c.faults-met.ensures c.faults.ensures c.in-Ok.ensures.0 in
    let rise = g.H.Hall.idle_count c.resume.new.hall - g.H.Hall.idle_count c.args.hall.now in
    subst (λ (cause : Cause). IfWaited cause (WaitsInVain g.Q.Made.Admission.admitted c.args.ask.plan c.args.ask.options c.args.ask.workers.limit rise c.in-Ok-resume.ended.records)) (sym same)
    (waited_run g.Q.Made.Admission.admitted c.args.ask rise (site_rise (counts c.args.before (map g.R.Runner.count c.args.runners.now) (g.H.Hall.count c.args.hall.now) (g.H.Hall.idle_count c.args.hall.now) 0) (counts (g.S.Site.count c.in-Ok-resume.ended.site) (map g.R.Runner.count c.resume.new.runners) (g.H.Hall.count c.resume.new.hall) (g.H.Hall.idle_count c.resume.new.hall) 0)) c.first_rise-runner.result (hall_rise (counts c.args.before (map g.R.Runner.count c.args.runners.now) (g.H.Hall.count c.args.hall.now) (g.H.Hall.idle_count c.args.hall.now) 0) (counts (g.S.Site.count c.in-Ok-resume.ended.site) (map g.R.Runner.count c.resume.new.runners) (g.H.Hall.count c.resume.new.hall) (g.H.Hall.idle_count c.resume.new.hall) 0)) c.in-Ok-resume.ended.records c.in-Ok-resume.ended.how (λ alone. c.in-Ok-resume.ensures.closed (fits_here c.args.ask.plan c.args.ask.options c.requires.fits alone)) c.in-Ok-resume.ensures.waited)

pub returns-clause-waited : goal.returns-clause-waited
returns-clause-waited g c =
    subst (λ (cause : Cause). IfWaited cause (WaitsInVain g.Q.Made.Admission.admitted c.args.ask.plan c.args.ask.options c.args.ask.workers.limit (g.H.Hall.idle_count c.resume.new.hall - g.H.Hall.idle_count c.args.hall.now) c.new-in-Err.result)) (sym c.unread_cause.ensures)
    (unread_waits (WaitsInVain g.Q.Made.Admission.admitted c.args.ask.plan c.args.ask.options c.args.ask.workers.limit (g.H.Hall.idle_count c.resume.new.hall - g.H.Hall.idle_count c.args.hall.now) c.new-in-Err.result) (record { before = c.args.before; after = c.faults-after-in-Err.result }) c.in-Err.refused.why)

pub returns-in-Ok-resume-clause-vain : goal.returns-in-Ok-resume-clause-vain
returns-in-Ok-resume-clause-vain g c tells =
    let same : c.run_cause.result ≡ run_cause (site_rise (counts c.args.before (map g.R.Runner.count c.args.runners.now) (g.H.Hall.count c.args.hall.now) (g.H.Hall.idle_count c.args.hall.now) 0) (counts (g.S.Site.count c.in-Ok-resume.ended.site) (map g.R.Runner.count c.resume.new.runners) (g.H.Hall.count c.resume.new.hall) (g.H.Hall.idle_count c.resume.new.hall) 0)) c.first_rise-runner.result (hall_rise (counts c.args.before (map g.R.Runner.count c.args.runners.now) (g.H.Hall.count c.args.hall.now) (g.H.Hall.idle_count c.args.hall.now) 0) (counts (g.S.Site.count c.in-Ok-resume.ended.site) (map g.R.Runner.count c.resume.new.runners) (g.H.Hall.count c.resume.new.hall) (g.H.Hall.idle_count c.resume.new.hall) 0)) c.args.ask.plan c.in-Ok-resume.ended.how =
    c.run_cause.ensures ∙ told_cause c.args.before c.faults-after.result (g.S.Site.count c.in-Ok-resume.ended.site) c.faults-met.result (g.H.Hall.count c.args.hall.now) c.faults.result (g.H.Hall.count c.resume.new.hall) c.first_rise-runner.result c.in-Ok.copied c.args.ask.plan c.in-Ok-resume.ended.how c.faults-after.ensures c.faults-met.ensures c.faults.ensures c.in-Ok.ensures.0 in
    let ended = c.in-Ok-resume.ended in
    let so : Type 0 = AreVain g.F.Commands.gives g.F.Commands.may_fail g.H.Way.Link.history g.H.Way.Link.count g.H.Way.Link.idle_count g.H.Way.Link.is_closed c.args.ask.workers.limit g.Q.Made.Admission.admitted c.args.ask.plan c.args.ask.options (before_end ended.records) (g.H.Hall.got c.args.hall.now) (g.H.Hall.got c.resume.new.hall) in
    subst (λ (cause : Cause). IfWaited cause (λ wait. so)) (sym same)
    (vain_run so c.args.ask.options.wq c.args.ask.options.limit c.args.ask.plan (site_rise (counts c.args.before (map g.R.Runner.count c.args.runners.now) (g.H.Hall.count c.args.hall.now) (g.H.Hall.idle_count c.args.hall.now) 0) (counts (g.S.Site.count c.in-Ok-resume.ended.site) (map g.R.Runner.count c.resume.new.runners) (g.H.Hall.count c.resume.new.hall) (g.H.Hall.idle_count c.resume.new.hall) 0)) c.first_rise-runner.result (hall_rise (counts c.args.before (map g.R.Runner.count c.args.runners.now) (g.H.Hall.count c.args.hall.now) (g.H.Hall.idle_count c.args.hall.now) 0) (counts (g.S.Site.count c.in-Ok-resume.ended.site) (map g.R.Runner.count c.resume.new.runners) (g.H.Hall.count c.resume.new.hall) (g.H.Hall.idle_count c.resume.new.hall) 0)) ended.how
    (λ alone. c.in-Ok-resume.ensures.closed (fits_here c.args.ask.plan c.args.ask.options c.requires.fits alone)) (λ away. c.in-Ok-resume.ensures.vain away tells))

pub returns-clause-vain : goal.returns-clause-vain
returns-clause-vain g c tells =
    let so : Type 0 = AreVain g.F.Commands.gives g.F.Commands.may_fail g.H.Way.Link.history g.H.Way.Link.count g.H.Way.Link.idle_count g.H.Way.Link.is_closed c.args.ask.workers.limit g.Q.Made.Admission.admitted c.args.ask.plan c.args.ask.options (before_end c.new-in-Err.result) (g.H.Hall.got c.args.hall.now) (g.H.Hall.got c.resume.new.hall) in
    subst (λ (cause : Cause). IfWaited cause (λ wait. so)) (sym c.unread_cause.ensures) (unread_waits (λ (wait : Wait). so) (record { before = c.args.before; after = c.faults-after-in-Err.result }) c.in-Err.refused.why)

pub returns-in_default-clause-due_losses : goal.returns-in_default-clause-due_losses
returns-in_default-clause-due_losses g c tells t H spelled keeps = absurd (true≢false keeps)

pub returns-in-Ok-resume-clause-due_losses : goal.returns-in-Ok-resume-clause-due_losses
returns-in-Ok-resume-clause-due_losses g c tells t H spelled keeps =
    let same : c.run_cause.result ≡ run_cause (site_rise (counts c.args.before (map g.R.Runner.count c.args.runners.now) (g.H.Hall.count c.args.hall.now) (g.H.Hall.idle_count c.args.hall.now) 0) (counts (g.S.Site.count c.in-Ok-resume.ended.site) (map g.R.Runner.count c.resume.new.runners) (g.H.Hall.count c.resume.new.hall) (g.H.Hall.idle_count c.resume.new.hall) 0)) c.first_rise-runner.result (hall_rise (counts c.args.before (map g.R.Runner.count c.args.runners.now) (g.H.Hall.count c.args.hall.now) (g.H.Hall.idle_count c.args.hall.now) 0) (counts (g.S.Site.count c.in-Ok-resume.ended.site) (map g.R.Runner.count c.resume.new.runners) (g.H.Hall.count c.resume.new.hall) (g.H.Hall.idle_count c.resume.new.hall) 0)) c.args.ask.plan c.in-Ok-resume.ended.how =
    c.run_cause.ensures ∙ told_cause c.args.before c.faults-after.result (g.S.Site.count c.in-Ok-resume.ended.site) c.faults-met.result (g.H.Hall.count c.args.hall.now) c.faults.result (g.H.Hall.count c.resume.new.hall) c.first_rise-runner.result c.in-Ok.copied c.args.ask.plan c.in-Ok-resume.ended.how c.faults-after.ensures c.faults-met.ensures c.faults.ensures c.in-Ok.ensures.0 in
    let got = g.H.Hall.got c.args.hall.now in
    let got_now = g.H.Hall.got c.resume.new.hall in
    let records = c.in-Ok-resume.ended.records in
    lost_run (AreDueLosses g.F.Commands.gives g.F.Commands.may_fail g.H.Way.Link.history g.H.Way.Link.count g.H.Way.Link.idle_count g.H.Way.Link.is_closed c.args.ask.workers.limit got got_now H records)
    (site_rise (counts c.args.before (map g.R.Runner.count c.args.runners.now) (g.H.Hall.count c.args.hall.now) (g.H.Hall.idle_count c.args.hall.now) 0) (counts (g.S.Site.count c.in-Ok-resume.ended.site) (map g.R.Runner.count c.resume.new.runners) (g.H.Hall.count c.resume.new.hall) (g.H.Hall.idle_count c.resume.new.hall) 0)) c.first_rise-runner.result (hall_rise (counts c.args.before (map g.R.Runner.count c.args.runners.now) (g.H.Hall.count c.args.hall.now) (g.H.Hall.idle_count c.args.hall.now) 0) (counts (g.S.Site.count c.in-Ok-resume.ended.site) (map g.R.Runner.count c.resume.new.runners) (g.H.Hall.count c.resume.new.hall) (g.H.Hall.idle_count c.resume.new.hall) 0)) c.args.ask.plan c.in-Ok-resume.ended.how
    (λ refused. due_none g.F.Commands.gives g.F.Commands.may_fail g.H.Way.Link.history g.H.Way.Link.count g.H.Way.Link.idle_count g.H.Way.Link.is_closed c.args.ask.workers.limit got got_now H records ((c.in-Ok-resume.ensures.vacant refused).none_back) (loses_none H records (c.in-Ok-resume.ensures.same t H spelled refused)))
    (c.in-Ok-resume.ensures.due_losses tells t H spelled) (subst (λ (cause : Cause). may_lose (kind_of cause) ≡ false) same keeps)

pub returns-clause-due_losses : goal.returns-clause-due_losses
returns-clause-due_losses g c tells t H spelled keeps =
    let s : Rise = record { before = c.args.before; after = c.faults-after-in-Err.result } in
    unread_cuts c.files_spell_one_list.ensures.header c.files_spell_one_list.ensures.whole s (g.S.Site.files c.args.site c.args.ask.log) H c.in-Err.refused.why spelled (c.in-Err.ensures.damaged t)
    (loses_cut (kind_of (unread_cause s c.in-Err.refused.why)) (subst (λ (cause : Cause). may_lose (kind_of cause) ≡ false) c.unread_cause.ensures keeps))

pub returns-in_default-clause-results : goal.returns-in_default-clause-results
returns-in_default-clause-results g c tells t H spelled wq work keeps = absurd (true≢false keeps)

pub returns-in-Ok-resume-clause-results : goal.returns-in-Ok-resume-clause-results
returns-in-Ok-resume-clause-results g c tells t H spelled wq work keeps =
    let same : c.run_cause.result ≡ run_cause (site_rise (counts c.args.before (map g.R.Runner.count c.args.runners.now) (g.H.Hall.count c.args.hall.now) (g.H.Hall.idle_count c.args.hall.now) 0) (counts (g.S.Site.count c.in-Ok-resume.ended.site) (map g.R.Runner.count c.resume.new.runners) (g.H.Hall.count c.resume.new.hall) (g.H.Hall.idle_count c.resume.new.hall) 0)) c.first_rise-runner.result (hall_rise (counts c.args.before (map g.R.Runner.count c.args.runners.now) (g.H.Hall.count c.args.hall.now) (g.H.Hall.idle_count c.args.hall.now) 0) (counts (g.S.Site.count c.in-Ok-resume.ended.site) (map g.R.Runner.count c.resume.new.runners) (g.H.Hall.count c.resume.new.hall) (g.H.Hall.idle_count c.resume.new.hall) 0)) c.args.ask.plan c.in-Ok-resume.ended.how =
    c.run_cause.ensures ∙ told_cause c.args.before c.faults-after.result (g.S.Site.count c.in-Ok-resume.ended.site) c.faults-met.result (g.H.Hall.count c.args.hall.now) c.faults.result (g.H.Hall.count c.resume.new.hall) c.first_rise-runner.result c.in-Ok.copied c.args.ask.plan c.in-Ok-resume.ended.how c.faults-after.ensures c.faults-met.ensures c.faults.ensures c.in-Ok.ensures.0 in
    let got = g.H.Hall.got c.args.hall.now in
    let got_now = g.H.Hall.got c.resume.new.hall in
    let records = c.in-Ok-resume.ended.records in
    lost_run (AreResults g.H.Way.Link.history got got_now H records)
    (site_rise (counts c.args.before (map g.R.Runner.count c.args.runners.now) (g.H.Hall.count c.args.hall.now) (g.H.Hall.idle_count c.args.hall.now) 0) (counts (g.S.Site.count c.in-Ok-resume.ended.site) (map g.R.Runner.count c.resume.new.runners) (g.H.Hall.count c.resume.new.hall) (g.H.Hall.idle_count c.resume.new.hall) 0)) c.first_rise-runner.result (hall_rise (counts c.args.before (map g.R.Runner.count c.args.runners.now) (g.H.Hall.count c.args.hall.now) (g.H.Hall.idle_count c.args.hall.now) 0) (counts (g.S.Site.count c.in-Ok-resume.ended.site) (map g.R.Runner.count c.resume.new.runners) (g.H.Hall.count c.resume.new.hall) (g.H.Hall.idle_count c.resume.new.hall) 0)) c.args.ask.plan c.in-Ok-resume.ended.how
    (λ refused. results_none g.H.Way.Link.history got got_now H records ((c.in-Ok-resume.ensures.vacant refused).none_back) (c.in-Ok-resume.ensures.same t H spelled refused))
    (c.in-Ok-resume.ensures.results wq tells t H spelled) (subst (λ (cause : Cause). may_lose (kind_of cause) ≡ false) same keeps)

pub returns-clause-results : goal.returns-clause-results
returns-clause-results g c tells t H spelled wq work keeps =
    let s : Rise = record { before = c.args.before; after = c.faults-after-in-Err.result } in
    unread_cuts c.files_spell_one_list.ensures.header c.files_spell_one_list.ensures.whole s (g.S.Site.files c.args.site c.args.ask.log) H c.in-Err.refused.why spelled (c.in-Err.ensures.damaged t)
    (loses_cut (kind_of (unread_cause s c.in-Err.refused.why)) (subst (λ (cause : Cause). may_lose (kind_of cause) ≡ false) c.unread_cause.ensures keeps))

pub returns-in-Ok-resume-clause-failures : goal.returns-in-Ok-resume-clause-failures
returns-in-Ok-resume-clause-failures g c alone =
    let same : c.run_cause.result ≡ run_cause (site_rise (counts c.args.before (map g.R.Runner.count c.args.runners.now) (g.H.Hall.count c.args.hall.now) (g.H.Hall.idle_count c.args.hall.now) 0) (counts (g.S.Site.count c.in-Ok-resume.ended.site) (map g.R.Runner.count c.resume.new.runners) (g.H.Hall.count c.resume.new.hall) (g.H.Hall.idle_count c.resume.new.hall) 0)) c.first_rise-runner.result (hall_rise (counts c.args.before (map g.R.Runner.count c.args.runners.now) (g.H.Hall.count c.args.hall.now) (g.H.Hall.idle_count c.args.hall.now) 0) (counts (g.S.Site.count c.in-Ok-resume.ended.site) (map g.R.Runner.count c.resume.new.runners) (g.H.Hall.count c.resume.new.hall) (g.H.Hall.idle_count c.resume.new.hall) 0)) c.args.ask.plan c.in-Ok-resume.ended.how =
    c.run_cause.ensures ∙ told_cause c.args.before c.faults-after.result (g.S.Site.count c.in-Ok-resume.ended.site) c.faults-met.result (g.H.Hall.count c.args.hall.now) c.faults.result (g.H.Hall.count c.resume.new.hall) c.first_rise-runner.result c.in-Ok.copied c.args.ask.plan c.in-Ok-resume.ended.how c.faults-after.ensures c.faults-met.ensures c.faults.ensures c.in-Ok.ensures.0 in
    subst (λ (cause : Cause). FailureEnd (sum_by g.R.Runner.failures c.args.runners.now) (sum_by g.R.Runner.failures c.resume.new.runners) (kind_of cause)) (sym same)
    (failed_run (site_rise (counts c.args.before (map g.R.Runner.count c.args.runners.now) (g.H.Hall.count c.args.hall.now) (g.H.Hall.idle_count c.args.hall.now) 0) (counts (g.S.Site.count c.in-Ok-resume.ended.site) (map g.R.Runner.count c.resume.new.runners) (g.H.Hall.count c.resume.new.hall) (g.H.Hall.idle_count c.resume.new.hall) 0)) c.first_rise-runner.result (hall_rise (counts c.args.before (map g.R.Runner.count c.args.runners.now) (g.H.Hall.count c.args.hall.now) (g.H.Hall.idle_count c.args.hall.now) 0) (counts (g.S.Site.count c.in-Ok-resume.ended.site) (map g.R.Runner.count c.resume.new.runners) (g.H.Hall.count c.resume.new.hall) (g.H.Hall.idle_count c.resume.new.hall) 0)) c.args.ask.plan (sum_by g.R.Runner.failures c.args.runners.now) (sum_by g.R.Runner.failures c.resume.new.runners) c.in-Ok-resume.ended.how (c.in-Ok-resume.ensures.failed alone))

pub returns-in_default-clause-failed : goal.returns-in_default-clause-failed
returns-in_default-clause-failed g c alone t H spelled whole = absurd (whole refl)

pub returns-in_default-clause-opened : goal.returns-in_default-clause-opened
returns-in_default-clause-opened g c wrong = absurd (true≢false (sym wrong))

pub returns-in_default-clause-collects : goal.returns-in_default-clause-collects
returns-in_default-clause-collects g c wrong = absurd (true≢false (sym wrong))

pub returns-in-Ok-resume-clause-failed : goal.returns-in-Ok-resume-clause-failed
returns-in-Ok-resume-clause-failed g c alone t H spelled whole =
    let same : c.run_cause.result ≡ run_cause (site_rise (counts c.args.before (map g.R.Runner.count c.args.runners.now) (g.H.Hall.count c.args.hall.now) (g.H.Hall.idle_count c.args.hall.now) 0) (counts (g.S.Site.count c.in-Ok-resume.ended.site) (map g.R.Runner.count c.resume.new.runners) (g.H.Hall.count c.resume.new.hall) (g.H.Hall.idle_count c.resume.new.hall) 0)) c.first_rise-runner.result (hall_rise (counts c.args.before (map g.R.Runner.count c.args.runners.now) (g.H.Hall.count c.args.hall.now) (g.H.Hall.idle_count c.args.hall.now) 0) (counts (g.S.Site.count c.in-Ok-resume.ended.site) (map g.R.Runner.count c.resume.new.runners) (g.H.Hall.count c.resume.new.hall) (g.H.Hall.idle_count c.resume.new.hall) 0)) c.args.ask.plan c.in-Ok-resume.ended.how =
    c.run_cause.ensures ∙ told_cause c.args.before c.faults-after.result (g.S.Site.count c.in-Ok-resume.ended.site) c.faults-met.result (g.H.Hall.count c.args.hall.now) c.faults.result (g.H.Hall.count c.resume.new.hall) c.first_rise-runner.result c.in-Ok.copied c.args.ask.plan c.in-Ok-resume.ended.how c.faults-after.ensures c.faults-met.ensures c.faults.ensures c.in-Ok.ensures.0 in
    logged_run (site_rise (counts c.args.before (map g.R.Runner.count c.args.runners.now) (g.H.Hall.count c.args.hall.now) (g.H.Hall.idle_count c.args.hall.now) 0) (counts (g.S.Site.count c.in-Ok-resume.ended.site) (map g.R.Runner.count c.resume.new.runners) (g.H.Hall.count c.resume.new.hall) (g.H.Hall.idle_count c.resume.new.hall) 0)) c.first_rise-runner.result (hall_rise (counts c.args.before (map g.R.Runner.count c.args.runners.now) (g.H.Hall.count c.args.hall.now) (g.H.Hall.idle_count c.args.hall.now) 0) (counts (g.S.Site.count c.in-Ok-resume.ended.site) (map g.R.Runner.count c.resume.new.runners) (g.H.Hall.count c.resume.new.hall) (g.H.Hall.idle_count c.resume.new.hall) 0)) c.args.ask.plan H c.in-Ok-resume.ended.records (sum_by g.R.Runner.failures c.args.runners.now) (sum_by g.R.Runner.failures c.resume.new.runners) c.in-Ok-resume.ended.how
    (λ closed. c.in-Ok-resume.ensures.failures alone closed t H spelled) (λ refused. c.in-Ok-resume.ensures.same t H spelled refused) (λ refused. ap (λ l. sum_by g.R.Runner.failures l) (c.in-Ok-resume.ensures.unused refused))
    (λ cut. whole (subst (λ (cause : Cause). is_cut (kind_of cause) ≡ true) (sym same) cut))

pub returns-in-Ok-resume-clause-opened : goal.returns-in-Ok-resume-clause-opened
returns-in-Ok-resume-clause-opened g c ends =
    let same : c.run_cause.result ≡ run_cause (site_rise (counts c.args.before (map g.R.Runner.count c.args.runners.now) (g.H.Hall.count c.args.hall.now) (g.H.Hall.idle_count c.args.hall.now) 0) (counts (g.S.Site.count c.in-Ok-resume.ended.site) (map g.R.Runner.count c.resume.new.runners) (g.H.Hall.count c.resume.new.hall) (g.H.Hall.idle_count c.resume.new.hall) 0)) c.first_rise-runner.result (hall_rise (counts c.args.before (map g.R.Runner.count c.args.runners.now) (g.H.Hall.count c.args.hall.now) (g.H.Hall.idle_count c.args.hall.now) 0) (counts (g.S.Site.count c.in-Ok-resume.ended.site) (map g.R.Runner.count c.resume.new.runners) (g.H.Hall.count c.resume.new.hall) (g.H.Hall.idle_count c.resume.new.hall) 0)) c.args.ask.plan c.in-Ok-resume.ended.how =
    c.run_cause.ensures ∙ told_cause c.args.before c.faults-after.result (g.S.Site.count c.in-Ok-resume.ended.site) c.faults-met.result (g.H.Hall.count c.args.hall.now) c.faults.result (g.H.Hall.count c.resume.new.hall) c.first_rise-runner.result c.in-Ok.copied c.args.ask.plan c.in-Ok-resume.ended.how c.faults-after.ensures c.faults-met.ensures c.faults.ensures c.in-Ok.ensures.0 in
    c.in-Ok-resume.ensures.opened (closed_starts c.in-Ok-resume.ended.how (closed_run (site_rise (counts c.args.before (map g.R.Runner.count c.args.runners.now) (g.H.Hall.count c.args.hall.now) (g.H.Hall.idle_count c.args.hall.now) 0) (counts (g.S.Site.count c.in-Ok-resume.ended.site) (map g.R.Runner.count c.resume.new.runners) (g.H.Hall.count c.resume.new.hall) (g.H.Hall.idle_count c.resume.new.hall) 0)) c.first_rise-runner.result (hall_rise (counts c.args.before (map g.R.Runner.count c.args.runners.now) (g.H.Hall.count c.args.hall.now) (g.H.Hall.idle_count c.args.hall.now) 0) (counts (g.S.Site.count c.in-Ok-resume.ended.site) (map g.R.Runner.count c.resume.new.runners) (g.H.Hall.count c.resume.new.hall) (g.H.Hall.idle_count c.resume.new.hall) 0)) c.args.ask.plan c.in-Ok-resume.ended.how (subst (λ (cause : Cause). is_run_end (kind_of cause) ≡ true) same ends)))

pub returns-in-Ok-resume-clause-collects : goal.returns-in-Ok-resume-clause-collects
returns-in-Ok-resume-clause-collects g c ends =
    let same : c.run_cause.result ≡ run_cause (site_rise (counts c.args.before (map g.R.Runner.count c.args.runners.now) (g.H.Hall.count c.args.hall.now) (g.H.Hall.idle_count c.args.hall.now) 0) (counts (g.S.Site.count c.in-Ok-resume.ended.site) (map g.R.Runner.count c.resume.new.runners) (g.H.Hall.count c.resume.new.hall) (g.H.Hall.idle_count c.resume.new.hall) 0)) c.first_rise-runner.result (hall_rise (counts c.args.before (map g.R.Runner.count c.args.runners.now) (g.H.Hall.count c.args.hall.now) (g.H.Hall.idle_count c.args.hall.now) 0) (counts (g.S.Site.count c.in-Ok-resume.ended.site) (map g.R.Runner.count c.resume.new.runners) (g.H.Hall.count c.resume.new.hall) (g.H.Hall.idle_count c.resume.new.hall) 0)) c.args.ask.plan c.in-Ok-resume.ended.how =
    c.run_cause.ensures ∙ told_cause c.args.before c.faults-after.result (g.S.Site.count c.in-Ok-resume.ended.site) c.faults-met.result (g.H.Hall.count c.args.hall.now) c.faults.result (g.H.Hall.count c.resume.new.hall) c.first_rise-runner.result c.in-Ok.copied c.args.ask.plan c.in-Ok-resume.ended.how c.faults-after.ensures c.faults-met.ensures c.faults.ensures c.in-Ok.ensures.0 in
    c.in-Ok-resume.ensures.collects (closed_starts c.in-Ok-resume.ended.how (closed_run (site_rise (counts c.args.before (map g.R.Runner.count c.args.runners.now) (g.H.Hall.count c.args.hall.now) (g.H.Hall.idle_count c.args.hall.now) 0) (counts (g.S.Site.count c.in-Ok-resume.ended.site) (map g.R.Runner.count c.resume.new.runners) (g.H.Hall.count c.resume.new.hall) (g.H.Hall.idle_count c.resume.new.hall) 0)) c.first_rise-runner.result (hall_rise (counts c.args.before (map g.R.Runner.count c.args.runners.now) (g.H.Hall.count c.args.hall.now) (g.H.Hall.idle_count c.args.hall.now) 0) (counts (g.S.Site.count c.in-Ok-resume.ended.site) (map g.R.Runner.count c.resume.new.runners) (g.H.Hall.count c.resume.new.hall) (g.H.Hall.idle_count c.resume.new.hall) 0)) c.args.ask.plan c.in-Ok-resume.ended.how (subst (λ (cause : Cause). is_run_end (kind_of cause) ≡ true) same ends)))

pub returns-clause-failed : goal.returns-clause-failed
returns-clause-failed g c alone t H spelled whole =
    unread_cuts c.files_spell_one_list.ensures.header c.files_spell_one_list.ensures.whole (record { before = c.args.before; after = c.faults-after-in-Err.result }) (g.S.Site.files c.args.site c.args.ask.log) H c.in-Err.refused.why spelled (c.in-Err.ensures.damaged t)
    (λ cut. whole (subst (λ (cause : Cause). is_cut (kind_of cause) ≡ true) (sym c.unread_cause.ensures) cut))

pub returns-clause-opened : goal.returns-clause-opened
returns-clause-opened g c ends =
    absurd (true≢false (sym (subst (λ (cause : Cause). is_run_end (kind_of cause) ≡ true) c.unread_cause.ensures ends) ∙ unread_ends (record { before = c.args.before; after = c.faults-after-in-Err.result }) c.in-Err.refused.why))

pub returns-clause-collects : goal.returns-clause-collects
returns-clause-collects g c ends =
    absurd (true≢false (sym (subst (λ (cause : Cause). is_run_end (kind_of cause) ≡ true) c.unread_cause.ensures ends) ∙ unread_ends (record { before = c.args.before; after = c.faults-after-in-Err.result }) c.in-Err.refused.why))

pub returns-in-Ok-resume-clause-leaves : goal.returns-in-Ok-resume-clause-leaves
returns-in-Ok-resume-clause-leaves g c =
    let same : c.run_cause.result ≡ run_cause (site_rise (counts c.args.before (map g.R.Runner.count c.args.runners.now) (g.H.Hall.count c.args.hall.now) (g.H.Hall.idle_count c.args.hall.now) 0) (counts (g.S.Site.count c.in-Ok-resume.ended.site) (map g.R.Runner.count c.resume.new.runners) (g.H.Hall.count c.resume.new.hall) (g.H.Hall.idle_count c.resume.new.hall) 0)) c.first_rise-runner.result (hall_rise (counts c.args.before (map g.R.Runner.count c.args.runners.now) (g.H.Hall.count c.args.hall.now) (g.H.Hall.idle_count c.args.hall.now) 0) (counts (g.S.Site.count c.in-Ok-resume.ended.site) (map g.R.Runner.count c.resume.new.runners) (g.H.Hall.count c.resume.new.hall) (g.H.Hall.idle_count c.resume.new.hall) 0)) c.args.ask.plan c.in-Ok-resume.ended.how =
    c.run_cause.ensures ∙ told_cause c.args.before c.faults-after.result (g.S.Site.count c.in-Ok-resume.ended.site) c.faults-met.result (g.H.Hall.count c.args.hall.now) c.faults.result (g.H.Hall.count c.resume.new.hall) c.first_rise-runner.result c.in-Ok.copied c.args.ask.plan c.in-Ok-resume.ended.how c.faults-after.ensures c.faults-met.ensures c.faults.ensures c.in-Ok.ensures.0 in
    let ended = c.in-Ok-resume.ended in
    subst (λ (cause : Cause). RunLeaves (λ (past : List Record). g.S.Site.tells → Spells past (g.S.Site.files c.args.site c.args.ask.log)) g.H.Way.Link.tells (g.H.Hall.listens c.resume.new.hall) g.F.Commands.gives g.F.Commands.may_fail g.H.Way.Link.history g.H.Way.Link.count g.H.Way.Link.idle_count g.H.Way.Link.is_closed g.Q.Made.Admission.admitted c.args.ask (g.H.Hall.idle_count c.resume.new.hall - g.H.Hall.idle_count c.args.hall.now) (g.H.Hall.got c.args.hall.now) (g.H.Hall.got c.resume.new.hall) ended.records cause) (sym same)
    (ran_leaves g.Q.Made.Admission.admitted (λ (past : List Record). g.S.Site.tells → Spells past (g.S.Site.files c.args.site c.args.ask.log)) g.H.Way.Link.tells (g.H.Hall.listens c.resume.new.hall) g.F.Commands.gives g.F.Commands.may_fail g.H.Way.Link.history g.H.Way.Link.count g.H.Way.Link.idle_count g.H.Way.Link.is_closed c.args.ask (g.H.Hall.idle_count c.resume.new.hall - g.H.Hall.idle_count c.args.hall.now) (g.H.Hall.got c.args.hall.now) (g.H.Hall.got c.resume.new.hall)
    (site_rise (counts c.args.before (map g.R.Runner.count c.args.runners.now) (g.H.Hall.count c.args.hall.now) (g.H.Hall.idle_count c.args.hall.now) 0) (counts (g.S.Site.count c.in-Ok-resume.ended.site) (map g.R.Runner.count c.resume.new.runners) (g.H.Hall.count c.resume.new.hall) (g.H.Hall.idle_count c.resume.new.hall) 0)) c.first_rise-runner.result (hall_rise (counts c.args.before (map g.R.Runner.count c.args.runners.now) (g.H.Hall.count c.args.hall.now) (g.H.Hall.idle_count c.args.hall.now) 0) (counts (g.S.Site.count c.in-Ok-resume.ended.site) (map g.R.Runner.count c.resume.new.runners) (g.H.Hall.count c.resume.new.hall) (g.H.Hall.idle_count c.resume.new.hall) 0)) ended.records ended.how c.in-Ok-resume.ensures.over (λ refused. (c.in-Ok-resume.ensures.vacant refused).none_back)
    (λ alone. c.in-Ok-resume.ensures.closed (fits_here c.args.ask.plan c.args.ask.options c.requires.fits alone)) c.in-Ok-resume.ensures.ends c.in-Ok-resume.ensures.waited c.in-Ok-resume.ensures.listens c.in-Ok-resume.ensures.spent c.in-Ok-resume.ensures.opened c.in-Ok-resume.ensures.collects)

pub returns-in_default-clause-leaves : goal.returns-in_default-clause-leaves
returns-in_default-clause-leaves g c =
    subst (λ (xs : List Record). RunLeaves (λ (past : List Record). g.S.Site.tells → Spells past (g.S.Site.files c.args.site c.args.ask.log)) g.H.Way.Link.tells (g.H.Hall.listens c.args.hall.now) g.F.Commands.gives g.F.Commands.may_fail g.H.Way.Link.history g.H.Way.Link.count g.H.Way.Link.idle_count g.H.Way.Link.is_closed g.Q.Made.Admission.admitted c.args.ask (g.H.Hall.idle_count c.args.hall.now - g.H.Hall.idle_count c.args.hall.now) (g.H.Hall.got c.args.hall.now) (g.H.Hall.got c.args.hall.now) xs causes.Memory) (sym c.new.ensures)
    (memory_leaves g.Q.Made.Admission.admitted (λ (past : List Record). g.S.Site.tells → Spells past (g.S.Site.files c.args.site c.args.ask.log)) g.H.Way.Link.tells (g.H.Hall.listens c.args.hall.now) g.F.Commands.gives g.F.Commands.may_fail g.H.Way.Link.history g.H.Way.Link.count g.H.Way.Link.idle_count g.H.Way.Link.is_closed c.args.ask (g.H.Hall.idle_count c.args.hall.now - g.H.Hall.idle_count c.args.hall.now) (g.H.Hall.got c.args.hall.now) (g.H.Hall.got c.args.hall.now) refl)

pub returns-clause-leaves : goal.returns-clause-leaves
returns-clause-leaves g c =
    let s : Rise = record { before = c.args.before; after = c.faults-after-in-Err.result } in
    subst (λ (cause : Cause). RunLeaves (λ (past : List Record). g.S.Site.tells → Spells past (g.S.Site.files c.args.site c.args.ask.log)) g.H.Way.Link.tells (g.H.Hall.listens c.resume.new.hall) g.F.Commands.gives g.F.Commands.may_fail g.H.Way.Link.history g.H.Way.Link.count g.H.Way.Link.idle_count g.H.Way.Link.is_closed g.Q.Made.Admission.admitted c.args.ask (g.H.Hall.idle_count c.resume.new.hall - g.H.Hall.idle_count c.args.hall.now) (g.H.Hall.got c.args.hall.now) (g.H.Hall.got c.resume.new.hall) c.new-in-Err.result cause) (sym c.unread_cause.ensures)
    (subst (λ (xs : List Record). RunLeaves (λ (past : List Record). g.S.Site.tells → Spells past (g.S.Site.files c.args.site c.args.ask.log)) g.H.Way.Link.tells (g.H.Hall.listens c.resume.new.hall) g.F.Commands.gives g.F.Commands.may_fail g.H.Way.Link.history g.H.Way.Link.count g.H.Way.Link.idle_count g.H.Way.Link.is_closed g.Q.Made.Admission.admitted c.args.ask (g.H.Hall.idle_count c.resume.new.hall - g.H.Hall.idle_count c.args.hall.now) (g.H.Hall.got c.args.hall.now) (g.H.Hall.got c.resume.new.hall) xs (unread_cause s c.in-Err.refused.why)) (sym c.new-in-Err.ensures)
    (unread_leaves g.Q.Made.Admission.admitted (λ (past : List Record). g.S.Site.tells → Spells past (g.S.Site.files c.args.site c.args.ask.log)) g.H.Way.Link.tells (g.H.Hall.listens c.resume.new.hall) g.F.Commands.gives g.F.Commands.may_fail g.H.Way.Link.history g.H.Way.Link.count g.H.Way.Link.idle_count g.H.Way.Link.is_closed c.args.ask (g.H.Hall.idle_count c.resume.new.hall - g.H.Hall.idle_count c.args.hall.now) (g.H.Hall.got c.args.hall.now) (g.H.Hall.got c.resume.new.hall) s c.in-Err.refused.why (ap g.H.Hall.got c.in-Err.ensures.unopened)))

pub returns-in-Ok-resume-clause-sure_links : goal.returns-in-Ok-resume-clause-sure_links
returns-in-Ok-resume-clause-sure_links g c t H spelled wq work sure links =
    let same : c.run_cause.result ≡ run_cause (site_rise (counts c.args.before (map g.R.Runner.count c.args.runners.now) (g.H.Hall.count c.args.hall.now) (g.H.Hall.idle_count c.args.hall.now) 0) (counts (g.S.Site.count c.in-Ok-resume.ended.site) (map g.R.Runner.count c.resume.new.runners) (g.H.Hall.count c.resume.new.hall) (g.H.Hall.idle_count c.resume.new.hall) 0)) c.first_rise-runner.result (hall_rise (counts c.args.before (map g.R.Runner.count c.args.runners.now) (g.H.Hall.count c.args.hall.now) (g.H.Hall.idle_count c.args.hall.now) 0) (counts (g.S.Site.count c.in-Ok-resume.ended.site) (map g.R.Runner.count c.resume.new.runners) (g.H.Hall.count c.resume.new.hall) (g.H.Hall.idle_count c.resume.new.hall) 0)) c.args.ask.plan c.in-Ok-resume.ended.how =
    c.run_cause.ensures ∙ told_cause c.args.before c.faults-after.result (g.S.Site.count c.in-Ok-resume.ended.site) c.faults-met.result (g.H.Hall.count c.args.hall.now) c.faults.result (g.H.Hall.count c.resume.new.hall) c.first_rise-runner.result c.in-Ok.copied c.args.ask.plan c.in-Ok-resume.ended.how c.faults-after.ensures c.faults-met.ensures c.faults.ensures c.in-Ok.ensures.0 in
    let ended = c.in-Ok-resume.ended in
    let before = (counts c.args.before (map g.R.Runner.count c.args.runners.now) (g.H.Hall.count c.args.hall.now) (g.H.Hall.idle_count c.args.hall.now) 0) in
    let after = (counts (g.S.Site.count c.in-Ok-resume.ended.site) (map g.R.Runner.count c.resume.new.runners) (g.H.Hall.count c.resume.new.hall) (g.H.Hall.idle_count c.resume.new.hall) 0) in
    let stood : IsFree g.F.Commands.gives (AllTell g.R.Runner.tells c.args.runners.now) c.args.ask (g.S.Site.files c.args.site) (g.S.Site.may_leave c.args.site) H before after → g.S.Site.count ended.site ≤ g.S.Site.count c.args.site =
    λ free. (let none = free.stood.site in let counted = c.requires.counted in omega (arith, none, counted)) in
    let free_of : run_refusal c.args.ask.plan c.args.ask.options H (g.S.Site.files c.args.site) ≡ None → run_fault c.args.ask.plan c.args.ask.options H (g.S.Site.files c.args.site) ≡ None = none_refused (run_fault c.args.ask.plan c.args.ask.options H (g.S.Site.files c.args.site)) in
    subst (λ (cause : Cause). GoesSurely g.F.Commands.gives (AllTell g.R.Runner.tells c.args.runners.now) (IsMannedFor (g.H.Hall.manned c.args.hall.now) c.args.ask) c.args.ask (g.S.Site.files c.args.site) (g.S.Site.may_leave c.args.site) H before after ended.records cause) (sym same)
    (goes_ran g.F.Commands.gives (AllTell g.R.Runner.tells c.args.runners.now) (IsMannedFor (g.H.Hall.manned c.args.hall.now) c.args.ask) c.args.ask (g.S.Site.files c.args.site) (g.S.Site.may_leave c.args.site) H before after ended.records (site_rise before after) c.first_rise-runner.result (hall_rise before after) ended.how (c.in-Ok-resume.ensures.same t H spelled)
    (c.in-Ok-resume.ensures.calm wq links.told links.surely sure links.few t H spelled)
    (λ free. c.in-Ok-resume.ensures.reaches wq links.told links.honest links.surely sure links.few t H spelled free.resumable free.jobs free.fit free.room (free_of free.free) (stood free) links.stood)
    (λ is free. c.in-Ok-resume.ensures.manned wq is.0 links.told links.honest links.surely is.1 sure links.few c.requires.patient (at_most c.args.ask.plan c.args.ask.options is.0 c.requires.fits is.2) t H spelled free.resumable free.jobs free.fit free.room (free_of free.free) (stood free) links.stood))

pub returns-in_default-clause-sure_links : goal.returns-in_default-clause-sure_links
returns-in_default-clause-sure_links g c t H spelled wq work sure links = goes_memory g.F.Commands.gives (AllTell g.R.Runner.tells c.args.runners.now) (IsMannedFor (g.H.Hall.manned c.args.hall.now) c.args.ask) c.args.ask (g.S.Site.files c.args.site) (g.S.Site.may_leave c.args.site) H _ _ _

pub returns-clause-sure_links : goal.returns-clause-sure_links
returns-clause-sure_links g c t H spelled wq work sure links =
    let before = (counts c.args.before (map g.R.Runner.count c.args.runners.now) (g.H.Hall.count c.args.hall.now) (g.H.Hall.idle_count c.args.hall.now) 0) in
    let after = (counts (g.S.Site.count c.in-Err.refused.site) (map g.R.Runner.count c.resume.new.runners) (g.H.Hall.count c.resume.new.hall) (g.H.Hall.idle_count c.resume.new.hall) 0) in
    let same : c.unread_cause.result ≡ unread_cause (site_rise before after) c.in-Err.refused.why =
    c.unread_cause.ensures ∙ ap (λ (n : ℕ). unread_cause (record { before = c.args.before; after = n }) c.in-Err.refused.why) c.faults-after-in-Err.ensures in
    subst (λ (cause : Cause). GoesSurely g.F.Commands.gives (AllTell g.R.Runner.tells c.args.runners.now) (IsMannedFor (g.H.Hall.manned c.args.hall.now) c.args.ask) c.args.ask (g.S.Site.files c.args.site) (g.S.Site.may_leave c.args.site) H before after c.new-in-Err.result cause) (sym same)
    (goes_unread g.F.Commands.gives (AllTell g.R.Runner.tells c.args.runners.now) (IsMannedFor (g.H.Hall.manned c.args.hall.now) c.args.ask) c.args.ask (g.S.Site.files c.args.site) (g.S.Site.may_leave c.args.site) H before after c.new-in-Err.result c.files_spell_one_list.ensures.header c.files_spell_one_list.ensures.whole (g.S.Site.files c.args.site c.args.ask.log) c.in-Err.refused.why spelled (c.in-Err.ensures.damaged t)
    (λ is. omega (arith, c.requires.counted, c.in-Err.ensures.site is)))
