use Rattle.std.proofs.Common.{◌≡◌, ◌≢◌, ◌+◌, ◌++◌, ◌-◌, ◌∙◌, ◌≤◌, inl, ℕ, List, Option, Err, ap, arith, length, refl, subst, sym}
use Rattle.std.specs.Prelude.{sum_by, IfOk, None, OnOk}
use Rattle.flow_types.specs.declared.numbers.LinkNo.{LinkNo}
use Rattle.flow_types.specs.declared.records.Record.{Record}
use Rattle.run_history.specs.declared.options.Options.{Options}
use Rattle.run_history.specs.Answers.{before_end, end_over}
use Rattle.run_history.specs.Links.{records_of}
use Rattle.desk.proofs.Others.{then_stays}
use Rattle.flow_types.specs.declared.plan.Plan.{Plan}
use Rattle.flow_types.specs.Plans.{IsValid}
use Rattle.flow_types.specs.Serial.{Contents, serial}
use Rattle.run_history.specs.Storage.{running_rules}
use Rattle.desk.specs.Admitted.{AreAdmitted}
use Rattle.desk.specs.Kept.{Fits, IsLegal}
use Rattle.desk.specs.declared.answers.StartFault.{StartFault}
use Rattle.worker_pool.specs.Crews.{AllTell}
use Rattle.local_run.specs.Collecting.{AreGone, CollectsBy, RunCollects}
use Rattle.local_run.specs.Completing.{SerialInputsFit}
use Rattle.local_run.specs.Course.{IsUnmade, LeavesAlone, TellsJobs}
use Rattle.local_run.specs.Ends.{FitsHere, IsApart, IsCompleteEnd, IsFresh, IsRunEnd, RunDamage, StartEnds, records_due}
use Rattle.local_run.specs.Runs.{HasCauses, IsCutRun, LosesNone}
use Rattle.local_run.proofs.Alone.{beside_less}
use Rattle.local_run.proofs.Modes.{collects_none, gone_begun, gone_none}
use Rattle.local_run.proofs.Results.{closed_whole, on_ok}
use Rattle.local_run.proofs.Failures.{logs_plain, logs_then}
use Rattle.local_run.proofs.Fresh.{has_room_due}
use Rattle.local_run.proofs.Refused.{early_refused}
use Rattle.local_run.proofs.Starts.{started_free}
use Rattle.local_run.proofs.Started.{IsBegun, adds_more, adds_nothing, begun, begun_kept, begun_loses, begun_now, refused_kept, refused_now}
use Rattle.local_run.proofs.Openings.{opens_by}
use Rattle.wq_run.specs.Ends.{EndsWaiting, LosesOnLinks}
use Rattle.flow_run.specs.Places.{PlacedBy}
use Rattle.flow_run.specs.Reached.{IsReached}
use Rattle.wq_run.specs.Calm.{ComeFew, GoesWell}
use Rattle.wq_run.specs.Losses.{AreDueLosses}
use Rattle.wq_run.specs.Results.{AreResults}
use Rattle.wq_run.specs.Vain.{AreVain, IfWaited, NeedsAtMost}
use Rattle.flow_run.proofs.Losses.{loses_begun}
use Rattle.flow_run.proofs.Dues.{by_either, due_begun, due_none, joins_begun, opened_result, records_begun, results_begun}
use Rattle.flow_run.proofs.Calms.{well_begun}
use Rattle.flow_run.proofs.Added.{adds_begun}
use Rattle.flow_run.proofs.Placed.{admitted_none, placed_none}
use Rattle.flow_run.proofs.Reliance.{of_begun}
use Rattle.flow_run.proofs.Stops.{back_as, refused_damage, refused_sure, refused_spared, refused_unclosed, refused_whole, unmet_refused}
use Rattle.flow_run.proofs.runs.run_by.Goals as goal

pub run_desk-requires-clause-valid : goal.run_desk-requires-clause-valid
run_desk-requires-clause-valid g c κs within = subst IsValid (sym (begun g.S.Site.count c.args.plan c.args.options c.args.log.name c.args.history c.now.result g.S.Site.tells (g.S.Site.files c.args.site) c.args.site g.F.Commands.may_fail (serial c.args.plan g.F.Commands.gives g.T.Terms.sources) c.in-Ok.desk c.in-Ok.ensures.reply).plan) c.requires.valid

pub run_desk-requires-clause-stands : goal.run_desk-requires-clause-stands
run_desk-requires-clause-stands g c κs within = subst (g.A.Admission.stands_for c.args.admission.now) (sym (begun g.S.Site.count c.args.plan c.args.options c.args.log.name c.args.history c.now.result g.S.Site.tells (g.S.Site.files c.args.site) c.args.site g.F.Commands.may_fail (serial c.args.plan g.F.Commands.gives g.T.Terms.sources) c.in-Ok.desk c.in-Ok.ensures.reply).plan) c.requires.stands

pub run_desk-requires-clause-fine : goal.run_desk-requires-clause-fine
run_desk-requires-clause-fine g c κs within = (begun g.S.Site.count c.args.plan c.args.options c.args.log.name c.args.history c.now.result g.S.Site.tells (g.S.Site.files c.args.site) c.args.site g.F.Commands.may_fail (serial c.args.plan g.F.Commands.gives g.T.Terms.sources) c.in-Ok.desk c.in-Ok.ensures.reply).fine

pub run_desk-requires-clause-idle : goal.run_desk-requires-clause-idle
run_desk-requires-clause-idle g c κs within = (begun g.S.Site.count c.args.plan c.args.options c.args.log.name c.args.history c.now.result g.S.Site.tells (g.S.Site.files c.args.site) c.args.site g.F.Commands.may_fail (serial c.args.plan g.F.Commands.gives g.T.Terms.sources) c.in-Ok.desk c.in-Ok.ensures.reply).idle

pub run_desk-requires-clause-of : goal.run_desk-requires-clause-of
run_desk-requires-clause-of g c κs within =
    of_begun (g.S.Site.count c.args.site) g.T.Terms.trust g.F.Commands.gives g.F.Commands.may_fail g.T.Terms.sources g.S.Site.tells g.T.Terms.kept g.T.Trust.holds g.T.Trust.plan g.T.Trust.options g.T.Trust.run g.T.Trust.due c.args.plan c.args.options c.args.log.name c.args.history c.in-Ok.desk
    (begun g.S.Site.count c.args.plan c.args.options c.args.log.name c.args.history c.now.result g.S.Site.tells (g.S.Site.files c.args.site) c.args.site g.F.Commands.may_fail (serial c.args.plan g.F.Commands.gives g.T.Terms.sources) c.in-Ok.desk c.in-Ok.ensures.reply)
    (λ trusted. ((c.requires.base trusted).0, (c.requires.base trusted).1)) c.requires.relied

pub run_desk-requires-clause-told : goal.run_desk-requires-clause-told
run_desk-requires-clause-told g c κs within trusted =
    subst (λ (P : Plan). TellsJobs P g.T.Trust.options (AllTell g.R.Runner.tells c.args.runners.now) g.T.Trust.due) c.requires.relied.plan_is
    (subst (λ (O : Options). TellsJobs c.args.plan O (AllTell g.R.Runner.tells c.args.runners.now) g.T.Trust.due) c.requires.relied.options_is
    (subst (λ (due : Contents). TellsJobs c.args.plan c.args.options (AllTell g.R.Runner.tells c.args.runners.now) due) c.requires.relied.due_is (c.requires.base trusted).2))

pub run_desk-requires-clause-base : goal.run_desk-requires-clause-base
run_desk-requires-clause-base g c κs within trusted =
    let base = c.requires.base trusted in
    let b = begun g.S.Site.count c.args.plan c.args.options c.args.log.name c.args.history c.now.result g.S.Site.tells (g.S.Site.files c.args.site) c.args.site g.F.Commands.may_fail (serial c.args.plan g.F.Commands.gives g.T.Terms.sources) c.in-Ok.desk c.in-Ok.ensures.reply in (
      base.0,
      base.1,
      subst (λ (P : Plan). TellsJobs P c.in-Ok.desk.options (AllTell g.R.Runner.tells c.args.runners.now) (serial P g.F.Commands.gives g.T.Terms.sources)) (sym b.plan)
          (subst (λ (O : Options). TellsJobs c.args.plan O (AllTell g.R.Runner.tells c.args.runners.now) (serial c.args.plan g.F.Commands.gives g.T.Terms.sources)) (sym b.options) base.2),
    )

pub returns-in-Ok-clause-more : goal.returns-in-Ok-clause-more
returns-in-Ok-clause-more g c = adds_more (g.S.Site.count c.args.site) g.T.Terms.trust g.F.Commands.gives g.F.Commands.may_fail g.T.Terms.sources c.args.plan c.args.options c.args.log.name c.args.history c.run_desk.result.records c.in-Ok.desk (begun g.S.Site.count c.args.plan c.args.options c.args.log.name c.args.history c.now.result g.S.Site.tells (g.S.Site.files c.args.site) c.args.site g.F.Commands.may_fail (serial c.args.plan g.F.Commands.gives g.T.Terms.sources) c.in-Ok.desk c.in-Ok.ensures.reply) c.run_desk.ensures.more

pub returns-in-Ok-clause-kept : goal.returns-in-Ok-clause-kept
returns-in-Ok-clause-kept g c told kept image left =
    begun_kept (Fits g.T.Terms.trust g.F.Commands.gives g.T.Terms.sources) c.args.plan c.args.options c.args.log.name c.args.history c.run_desk.result.records (g.S.Site.count c.args.site) g.F.Commands.may_fail (serial c.args.plan g.F.Commands.gives g.T.Terms.sources) (g.T.Terms.before image) (IsCutRun c.run_desk.result.how) c.in-Ok.desk image (begun g.S.Site.count c.args.plan c.args.options c.args.log.name c.args.history c.now.result g.S.Site.tells (g.S.Site.files c.args.site) c.args.site g.F.Commands.may_fail (serial c.args.plan g.F.Commands.gives g.T.Terms.sources) c.in-Ok.desk c.in-Ok.ensures.reply)
    (c.run_desk.ensures.kept told kept image left)

pub returns-in-Ok-clause-now : goal.returns-in-Ok-clause-now
returns-in-Ok-clause-now g c told kept whole image now =
    begun_now (Fits g.T.Terms.trust g.F.Commands.gives g.T.Terms.sources) c.args.plan c.args.options c.args.log.name c.args.history c.run_desk.result.records (g.S.Site.count c.args.site) g.F.Commands.may_fail (serial c.args.plan g.F.Commands.gives g.T.Terms.sources) c.in-Ok.desk image (begun g.S.Site.count c.args.plan c.args.options c.args.log.name c.args.history c.now.result g.S.Site.tells (g.S.Site.files c.args.site) c.args.site g.F.Commands.may_fail (serial c.args.plan g.F.Commands.gives g.T.Terms.sources) c.in-Ok.desk c.in-Ok.ensures.reply)
    (c.run_desk.ensures.now told kept whole image now)

pub returns-in-Err-clause-more : goal.returns-in-Err-clause-more
returns-in-Err-clause-more g c = adds_nothing g.T.Terms.trust g.F.Commands.gives g.F.Commands.may_fail g.T.Terms.sources c.args.plan c.args.history c.in-Err.unopened.records c.in-Err.ensures.declined.same

pub returns-in-Err-clause-kept : goal.returns-in-Err-clause-kept
returns-in-Err-clause-kept g c told kept image left =
    refused_kept g.S.Site.may_leave g.S.Site.moment g.S.Site.images_since (Fits g.T.Terms.trust g.F.Commands.gives g.T.Terms.sources) c.args.plan c.args.log.name c.args.history c.in-Err.unopened.records c.args.site c.in-Err.unopened.site (Err c.in-Err.unopened.why)
    c.args.options c.now.result g.S.Site.tells (g.S.Site.files c.args.site) g.T.Terms.before g.T.Terms.born image c.in-Err.ensures.declined.same (c.requires.later told kept)
    (c.requires.before told kept) (c.requires.kept told kept) (c.in-Err.ensures.any_moment told kept) (c.in-Err.ensures.quiet told) left

pub returns-in-Err-clause-now : goal.returns-in-Err-clause-now
returns-in-Err-clause-now g c told kept whole image now =
    refused_now g.S.Site.may_leave g.S.Site.moment g.S.Site.images_since (Fits g.T.Terms.trust g.F.Commands.gives g.T.Terms.sources) c.args.plan c.args.log.name c.args.history c.in-Err.unopened.records c.args.site c.in-Err.unopened.site (Err c.in-Err.unopened.why)
    image c.in-Err.ensures.declined.same (c.requires.kept told kept) (c.in-Err.ensures.quiet told) whole now

pub returns-in-Ok-clause-legal : goal.returns-in-Ok-clause-legal
returns-in-Ok-clause-legal g c admitted = subst (λ (P : Plan). IsLegal P c.run_desk.result.records) (begun g.S.Site.count c.args.plan c.args.options c.args.log.name c.args.history c.now.result g.S.Site.tells (g.S.Site.files c.args.site) c.args.site g.F.Commands.may_fail (serial c.args.plan g.F.Commands.gives g.T.Terms.sources) c.in-Ok.desk c.in-Ok.ensures.reply).plan c.run_desk.ensures.legal

pub returns-in-Ok-clause-idle : goal.returns-in-Ok-clause-idle
returns-in-Ok-clause-idle g c closed =
    subst (λ (P : Plan). length (running_rules P c.run_desk.result.records) ≤ 0) (begun g.S.Site.count c.args.plan c.args.options c.args.log.name c.args.history c.now.result g.S.Site.tells (g.S.Site.files c.args.site) c.args.site g.F.Commands.may_fail (serial c.args.plan g.F.Commands.gives g.T.Terms.sources) c.in-Ok.desk c.in-Ok.ensures.reply).plan (c.run_desk.ensures.idle (closed_whole c.run_desk.result.how closed))

pub returns-in-Ok-clause-lost : goal.returns-in-Ok-clause-lost
returns-in-Ok-clause-lost g c alone =
    let b = begun g.S.Site.count c.args.plan c.args.options c.args.log.name c.args.history c.now.result g.S.Site.tells (g.S.Site.files c.args.site) c.args.site g.F.Commands.may_fail (serial c.args.plan g.F.Commands.gives g.T.Terms.sources) c.in-Ok.desk c.in-Ok.ensures.reply in
    on_ok c.run_desk.result.how (LosesNone (records_of c.in-Ok.desk.moves) c.run_desk.result.records) (LosesNone c.args.history c.run_desk.result.records)
    (begun_loses (g.S.Site.count c.args.site) c.args.plan c.args.options c.args.log.name c.args.history c.run_desk.result.records g.F.Commands.may_fail (serial c.args.plan g.F.Commands.gives g.T.Terms.sources) c.in-Ok.desk b)
    (c.run_desk.ensures.lost (ap (λ (O : Options). O.wq) b.options ∙ alone) c.args.history b.over)

pub returns-in-Ok-clause-ends : goal.returns-in-Ok-clause-ends
returns-in-Ok-clause-ends g c alone =
    let b : IsBegun (g.S.Site.count c.args.site) c.args.plan c.args.options c.args.log.name c.args.history g.F.Commands.may_fail (serial c.args.plan g.F.Commands.gives g.T.Terms.sources) c.in-Ok.desk = (begun g.S.Site.count c.args.plan c.args.options c.args.log.name c.args.history c.now.result g.S.Site.tells (g.S.Site.files c.args.site) c.args.site g.F.Commands.may_fail (serial c.args.plan g.F.Commands.gives g.T.Terms.sources) c.in-Ok.desk c.in-Ok.ensures.reply) in
    subst (λ (P : Plan). IfOk c.run_desk.result.how (λ check. check ≡ end_over P c.args.options (before_end c.run_desk.result.records) None)) b.plan
    (subst (λ (O : Options). IfOk c.run_desk.result.how (λ check. check ≡ end_over c.in-Ok.desk.plan O (before_end c.run_desk.result.records) None)) b.options (c.run_desk.ensures.ends (ap (λ (O : Options). O.wq) b.options ∙ alone)))

pub returns-in-Ok-clause-waited : goal.returns-in-Ok-clause-waited
returns-in-Ok-clause-waited g c alone =
    let b : IsBegun (g.S.Site.count c.args.site) c.args.plan c.args.options c.args.log.name c.args.history g.F.Commands.may_fail (serial c.args.plan g.F.Commands.gives g.T.Terms.sources) c.in-Ok.desk = (begun g.S.Site.count c.args.plan c.args.options c.args.log.name c.args.history c.now.result g.S.Site.tells (g.S.Site.files c.args.site) c.args.site g.F.Commands.may_fail (serial c.args.plan g.F.Commands.gives g.T.Terms.sources) c.in-Ok.desk c.in-Ok.ensures.reply) in
    let limit = c.args.workers.limit in
    let rise = g.H.Hall.idle_count c.run_desk.new.hall - g.H.Hall.idle_count c.open.new.hall in
    subst (λ (n : ℕ). IfOk c.run_desk.result.how (EndsWaiting g.A.Admission.admitted c.args.plan c.args.options limit (g.H.Hall.idle_count c.run_desk.new.hall - n) c.run_desk.result.records)) c.open.ensures.idles
    (subst (λ (P : Plan). IfOk c.run_desk.result.how (EndsWaiting g.A.Admission.admitted P c.args.options limit rise c.run_desk.result.records)) b.plan
    (subst (λ (O : Options). IfOk c.run_desk.result.how (EndsWaiting g.A.Admission.admitted c.in-Ok.desk.plan O limit rise c.run_desk.result.records)) b.options (c.run_desk.ensures.waited (ap (λ (O : Options). O.wq) b.options ∙ alone))))

pub returns-in-Ok-clause-vain : goal.returns-in-Ok-clause-vain
returns-in-Ok-clause-vain g c away tells =
    let b : IsBegun (g.S.Site.count c.args.site) c.args.plan c.args.options c.args.log.name c.args.history g.F.Commands.may_fail (serial c.args.plan g.F.Commands.gives g.T.Terms.sources) c.in-Ok.desk = (begun g.S.Site.count c.args.plan c.args.options c.args.log.name c.args.history c.now.result g.S.Site.tells (g.S.Site.files c.args.site) c.args.site g.F.Commands.may_fail (serial c.args.plan g.F.Commands.gives g.T.Terms.sources) c.in-Ok.desk c.in-Ok.ensures.reply) in
    let how = c.run_desk.result.how in
    let ended = before_end c.run_desk.result.records in
    let got = g.H.Hall.got c.open.new.hall in
    let got_now = g.H.Hall.got c.run_desk.new.hall in
    subst (λ (links : List (Option LinkNo × g.row.H-Way.Denot)). IfOk how (λ check. IfWaited check (AreVain g.F.Commands.gives g.F.Commands.may_fail g.H.Way.Link.history g.H.Way.Link.count g.H.Way.Link.idle_count g.H.Way.Link.is_closed c.args.workers.limit g.A.Admission.admitted c.args.plan c.args.options ended links got_now))) c.open.ensures.got
    (subst (λ (P : Plan). IfOk how (λ check. IfWaited check (AreVain g.F.Commands.gives g.F.Commands.may_fail g.H.Way.Link.history g.H.Way.Link.count g.H.Way.Link.idle_count g.H.Way.Link.is_closed c.args.workers.limit g.A.Admission.admitted P c.args.options ended got got_now))) b.plan
    (subst (λ (O : Options). IfOk how (λ check. IfWaited check (AreVain g.F.Commands.gives g.F.Commands.may_fail g.H.Way.Link.history g.H.Way.Link.count g.H.Way.Link.idle_count g.H.Way.Link.is_closed c.args.workers.limit g.A.Admission.admitted c.in-Ok.desk.plan O ended got got_now))) b.options
    (c.run_desk.ensures.vain (ap (λ (O : Options). O.wq) b.options ∙ away) tells (joins_begun c.in-Ok.desk c.args.history b.over))))

pub returns-in-Ok-clause-lost_away : goal.returns-in-Ok-clause-lost_away
returns-in-Ok-clause-lost_away g c =
    let b : IsBegun (g.S.Site.count c.args.site) c.args.plan c.args.options c.args.log.name c.args.history g.F.Commands.may_fail (serial c.args.plan g.F.Commands.gives g.T.Terms.sources) c.in-Ok.desk = (begun g.S.Site.count c.args.plan c.args.options c.args.log.name c.args.history c.now.result g.S.Site.tells (g.S.Site.files c.args.site) c.args.site g.F.Commands.may_fail (serial c.args.plan g.F.Commands.gives g.T.Terms.sources) c.in-Ok.desk c.in-Ok.ensures.reply) in
    on_ok c.run_desk.result.how (LosesOnLinks (records_of c.in-Ok.desk.moves) c.run_desk.result.records) (LosesOnLinks c.args.history c.run_desk.result.records)
    (loses_begun c.args.history (records_of c.in-Ok.desk.moves) c.run_desk.result.records b.entry b.records b.kept) c.run_desk.ensures.lost_away

pub returns-in-Ok-clause-due_losses : goal.returns-in-Ok-clause-due_losses
returns-in-Ok-clause-due_losses g c tells =
    let b : IsBegun (g.S.Site.count c.args.site) c.args.plan c.args.options c.args.log.name c.args.history g.F.Commands.may_fail (serial c.args.plan g.F.Commands.gives g.T.Terms.sources) c.in-Ok.desk = (begun g.S.Site.count c.args.plan c.args.options c.args.log.name c.args.history c.now.result g.S.Site.tells (g.S.Site.files c.args.site) c.args.site g.F.Commands.may_fail (serial c.args.plan g.F.Commands.gives g.T.Terms.sources) c.in-Ok.desk c.in-Ok.ensures.reply) in
    let how = c.run_desk.result.how in
    let all = c.run_desk.result.records in
    let mid = records_of c.in-Ok.desk.moves in
    let got = g.H.Hall.got c.open.new.hall in
    let got_now = g.H.Hall.got c.run_desk.new.hall in
    let wq : c.in-Ok.desk.options.wq ≡ c.args.options.wq = ap (λ (O : Options). O.wq) b.options in
    subst (λ (links : List (Option LinkNo × g.row.H-Way.Denot)). OnOk how (AreDueLosses g.F.Commands.gives g.F.Commands.may_fail g.H.Way.Link.history g.H.Way.Link.count g.H.Way.Link.idle_count g.H.Way.Link.is_closed c.args.workers.limit links got_now c.args.history all)) c.open.ensures.got
    (by_either c.args.options.wq
    (λ away. on_ok how (AreDueLosses g.F.Commands.gives g.F.Commands.may_fail g.H.Way.Link.history g.H.Way.Link.count g.H.Way.Link.idle_count g.H.Way.Link.is_closed c.args.workers.limit got got_now mid all) (AreDueLosses g.F.Commands.gives g.F.Commands.may_fail g.H.Way.Link.history g.H.Way.Link.count g.H.Way.Link.idle_count g.H.Way.Link.is_closed c.args.workers.limit got got_now c.args.history all)
    (due_begun g.F.Commands.gives g.F.Commands.may_fail g.H.Way.Link.history g.H.Way.Link.count g.H.Way.Link.idle_count g.H.Way.Link.is_closed c.args.workers.limit got got_now c.args.history mid all b.entry b.records b.kept)
    (c.run_desk.ensures.due_losses (wq ∙ away) tells (joins_begun c.in-Ok.desk c.args.history b.over)))
    (λ here. on_ok how (LosesNone c.args.history all) (AreDueLosses g.F.Commands.gives g.F.Commands.may_fail g.H.Way.Link.history g.H.Way.Link.count g.H.Way.Link.idle_count g.H.Way.Link.is_closed c.args.workers.limit got got_now c.args.history all)
    (due_none g.F.Commands.gives g.F.Commands.may_fail g.H.Way.Link.history g.H.Way.Link.count g.H.Way.Link.idle_count g.H.Way.Link.is_closed c.args.workers.limit got got_now c.args.history all (ap g.H.Hall.got {x = c.run_desk.new.hall} (c.run_desk.ensures.alone (wq ∙ here))))
    (returns-in-Ok-clause-lost g c here)))

pub returns-in-Ok-clause-results : goal.returns-in-Ok-clause-results
returns-in-Ok-clause-results g c away tells =
    let b : IsBegun (g.S.Site.count c.args.site) c.args.plan c.args.options c.args.log.name c.args.history g.F.Commands.may_fail (serial c.args.plan g.F.Commands.gives g.T.Terms.sources) c.in-Ok.desk = (begun g.S.Site.count c.args.plan c.args.options c.args.log.name c.args.history c.now.result g.S.Site.tells (g.S.Site.files c.args.site) c.args.site g.F.Commands.may_fail (serial c.args.plan g.F.Commands.gives g.T.Terms.sources) c.in-Ok.desk c.in-Ok.ensures.reply) in
    let all = c.run_desk.result.records in
    let mid = records_of c.in-Ok.desk.moves in
    let got = g.H.Hall.got c.open.new.hall in
    let got_now = g.H.Hall.got c.run_desk.new.hall in
    let wq : c.in-Ok.desk.options.wq ≡ c.args.options.wq = ap (λ (O : Options). O.wq) b.options in
    subst (λ (links : List (Option LinkNo × g.row.H-Way.Denot)). OnOk c.run_desk.result.how (AreResults g.H.Way.Link.history links got_now c.args.history all)) c.open.ensures.got
    (on_ok c.run_desk.result.how (AreResults g.H.Way.Link.history got got_now mid all) (AreResults g.H.Way.Link.history got got_now c.args.history all)
    (results_begun g.H.Way.Link.history got got_now c.args.history mid all b.over.1.0 (records_begun c.in-Ok.desk c.args.history b.over) (λ links. opened_result g.H.Way.Link.history links all b.over.1.0 b.over.1.1))
    (c.run_desk.ensures.results (wq ∙ away) tells))

pub run_desk-requires-clause-asked : goal.run_desk-requires-clause-asked
run_desk-requires-clause-asked g c κs within =
    let b : IsBegun (g.S.Site.count c.args.site) c.args.plan c.args.options c.args.log.name c.args.history g.F.Commands.may_fail (serial c.args.plan g.F.Commands.gives g.T.Terms.sources) c.in-Ok.desk = (begun g.S.Site.count c.args.plan c.args.options c.args.log.name c.args.history c.now.result g.S.Site.tells (g.S.Site.files c.args.site) c.args.site g.F.Commands.may_fail (serial c.args.plan g.F.Commands.gives g.T.Terms.sources) c.in-Ok.desk c.in-Ok.ensures.reply) in
    sym (ap (λ (O : Options). O.wq) b.options)

pub run_desk-requires-clause-honest : goal.run_desk-requires-clause-honest
run_desk-requires-clause-honest g c κs within trusted is =
    let b : IsBegun (g.S.Site.count c.args.site) c.args.plan c.args.options c.args.log.name c.args.history g.F.Commands.may_fail (serial c.args.plan g.F.Commands.gives g.T.Terms.sources) c.in-Ok.desk = (begun g.S.Site.count c.args.plan c.args.options c.args.log.name c.args.history c.now.result g.S.Site.tells (g.S.Site.files c.args.site) c.args.site g.F.Commands.may_fail (serial c.args.plan g.F.Commands.gives g.T.Terms.sources) c.in-Ok.desk c.in-Ok.ensures.reply) in
    c.open.ensures.honest (c.requires.honest trusted (sym (ap (λ (O : Options). O.wq) b.options) ∙ is))

pub run_desk-requires-clause-listens : goal.run_desk-requires-clause-listens
run_desk-requires-clause-listens g c κs within is =
    let b : IsBegun (g.S.Site.count c.args.site) c.args.plan c.args.options c.args.log.name c.args.history g.F.Commands.may_fail (serial c.args.plan g.F.Commands.gives g.T.Terms.sources) c.in-Ok.desk = (begun g.S.Site.count c.args.plan c.args.options c.args.log.name c.args.history c.now.result g.S.Site.tells (g.S.Site.files c.args.site) c.args.site g.F.Commands.may_fail (serial c.args.plan g.F.Commands.gives g.T.Terms.sources) c.in-Ok.desk c.in-Ok.ensures.reply) in
    c.in-Ok.ensures.listens (sym (ap (λ (O : Options). O.wq) b.options) ∙ is)

pub returns-in-Ok-clause-sure : goal.returns-in-Ok-clause-sure
returns-in-Ok-clause-sure g c alone sure =
    let b : IsBegun (g.S.Site.count c.args.site) c.args.plan c.args.options c.args.log.name c.args.history g.F.Commands.may_fail (serial c.args.plan g.F.Commands.gives g.T.Terms.sources) c.in-Ok.desk = (begun g.S.Site.count c.args.plan c.args.options c.args.log.name c.args.history c.now.result g.S.Site.tells (g.S.Site.files c.args.site) c.args.site g.F.Commands.may_fail (serial c.args.plan g.F.Commands.gives g.T.Terms.sources) c.in-Ok.desk c.in-Ok.ensures.reply) in
    c.run_desk.ensures.sure (ap (λ (O : Options). O.wq) b.options ∙ alone) sure

pub returns-in-Ok-clause-failed : goal.returns-in-Ok-clause-failed
returns-in-Ok-clause-failed g c alone =
    let b : IsBegun (g.S.Site.count c.args.site) c.args.plan c.args.options c.args.log.name c.args.history g.F.Commands.may_fail (serial c.args.plan g.F.Commands.gives g.T.Terms.sources) c.in-Ok.desk = (begun g.S.Site.count c.args.plan c.args.options c.args.log.name c.args.history c.now.result g.S.Site.tells (g.S.Site.files c.args.site) c.args.site g.F.Commands.may_fail (serial c.args.plan g.F.Commands.gives g.T.Terms.sources) c.in-Ok.desk c.in-Ok.ensures.reply) in
    c.run_desk.ensures.failed (ap (λ (O : Options). O.wq) b.options ∙ alone)

pub returns-in-Ok-clause-hall : goal.returns-in-Ok-clause-hall
returns-in-Ok-clause-hall g c is =
    let b : IsBegun (g.S.Site.count c.args.site) c.args.plan c.args.options c.args.log.name c.args.history g.F.Commands.may_fail (serial c.args.plan g.F.Commands.gives g.T.Terms.sources) c.in-Ok.desk = (begun g.S.Site.count c.args.plan c.args.options c.args.log.name c.args.history c.now.result g.S.Site.tells (g.S.Site.files c.args.site) c.args.site g.F.Commands.may_fail (serial c.args.plan g.F.Commands.gives g.T.Terms.sources) c.in-Ok.desk c.in-Ok.ensures.reply) in
    let told = c.run_desk.ensures.hall is in
    let rose = told.1 in
    let met = c.open.ensures.met in
    (sym (ap (λ (O : Options). O.wq) b.options) ∙ told.0, omega (arith, rose, met))

pub returns-in-Ok-clause-alone : goal.returns-in-Ok-clause-alone
returns-in-Ok-clause-alone g c alone =
    let b : IsBegun (g.S.Site.count c.args.site) c.args.plan c.args.options c.args.log.name c.args.history g.F.Commands.may_fail (serial c.args.plan g.F.Commands.gives g.T.Terms.sources) c.in-Ok.desk = (begun g.S.Site.count c.args.plan c.args.options c.args.log.name c.args.history c.now.result g.S.Site.tells (g.S.Site.files c.args.site) c.args.site g.F.Commands.may_fail (serial c.args.plan g.F.Commands.gives g.T.Terms.sources) c.in-Ok.desk c.in-Ok.ensures.reply) in
    c.run_desk.ensures.alone (ap (λ (O : Options). O.wq) b.options ∙ alone) ∙ c.open.ensures.alone alone

pub returns-in-Ok-clause-unmet : goal.returns-in-Ok-clause-unmet
returns-in-Ok-clause-unmet g c unmet = absurd (c.run_desk.ensures.started (unmet_refused c.run_desk.result.how unmet))

pub returns-in-Ok-clause-back : goal.returns-in-Ok-clause-back
returns-in-Ok-clause-back g c whole =
    let b = c.run_desk.ensures.back whole in
    record { more = b.more; are = b.are ∙ ap (λ l. l ++ b.more) c.open.ensures.got; many = (let all = b.many in let given = c.open.ensures.given in omega (arith, all, given)); apart = b.apart }

pub returns-in-Ok-clause-met : goal.returns-in-Ok-clause-met
returns-in-Ok-clause-met g c = let opened = c.open.ensures.met in let ran = c.run_desk.ensures.met in omega (arith, opened, ran)

pub returns-in-Ok-clause-listens : goal.returns-in-Ok-clause-listens
returns-in-Ok-clause-listens g c away started =
    let b : IsBegun (g.S.Site.count c.args.site) c.args.plan c.args.options c.args.log.name c.args.history g.F.Commands.may_fail (serial c.args.plan g.F.Commands.gives g.T.Terms.sources) c.in-Ok.desk = (begun g.S.Site.count c.args.plan c.args.options c.args.log.name c.args.history c.now.result g.S.Site.tells (g.S.Site.files c.args.site) c.args.site g.F.Commands.may_fail (serial c.args.plan g.F.Commands.gives g.T.Terms.sources) c.in-Ok.desk c.in-Ok.ensures.reply) in
    c.run_desk.ensures.listens (ap (λ (O : Options). O.wq) b.options ∙ away)

pub returns-in-Ok-clause-vacant : goal.returns-in-Ok-clause-vacant
returns-in-Ok-clause-vacant g c refused = absurd (c.run_desk.ensures.started refused)

pub returns-in-Err-clause-back : goal.returns-in-Err-clause-back
returns-in-Err-clause-back g c whole = back_as (g.H.Hall.got c.args.hall.now) (g.H.Hall.got c.open.new.hall) (g.H.Hall.given c.args.hall.now) (g.H.Hall.given c.open.new.hall) c.open.ensures.got c.open.ensures.given

pub returns-in-Ok-clause-added : goal.returns-in-Ok-clause-added
returns-in-Ok-clause-added g c =
    let b : IsBegun (g.S.Site.count c.args.site) c.args.plan c.args.options c.args.log.name c.args.history g.F.Commands.may_fail (serial c.args.plan g.F.Commands.gives g.T.Terms.sources) c.in-Ok.desk = (begun g.S.Site.count c.args.plan c.args.options c.args.log.name c.args.history c.now.result g.S.Site.tells (g.S.Site.files c.args.site) c.args.site g.F.Commands.may_fail (serial c.args.plan g.F.Commands.gives g.T.Terms.sources) c.in-Ok.desk c.in-Ok.ensures.reply) in
    adds_begun c.args.options c.args.history c.run_desk.result.records c.run_desk.result.how c.in-Ok.desk b.over
    (opens_by g.S.Site.count c.args.plan c.args.options c.args.log.name c.args.history c.now.result g.S.Site.tells (g.S.Site.files c.args.site) c.args.site g.F.Commands.may_fail (serial c.args.plan g.F.Commands.gives g.T.Terms.sources) c.in-Ok.desk c.in-Ok.ensures.reply) c.run_desk.ensures.added

pub returns-in-Err-clause-added : goal.returns-in-Err-clause-added
returns-in-Err-clause-added g c = inl (c.in-Err.ensures.declined.refused, c.in-Err.ensures.declined.same)

pub returns-in-Ok-clause-places : goal.returns-in-Ok-clause-places
returns-in-Ok-clause-places g c =
    let b : IsBegun (g.S.Site.count c.args.site) c.args.plan c.args.options c.args.log.name c.args.history g.F.Commands.may_fail (serial c.args.plan g.F.Commands.gives g.T.Terms.sources) c.in-Ok.desk = (begun g.S.Site.count c.args.plan c.args.options c.args.log.name c.args.history c.now.result g.S.Site.tells (g.S.Site.files c.args.site) c.args.site g.F.Commands.may_fail (serial c.args.plan g.F.Commands.gives g.T.Terms.sources) c.in-Ok.desk c.in-Ok.ensures.reply) in
    subst (λ (P : Plan). PlacedBy P c.args.options c.args.history c.run_desk.result.records) b.plan
    (subst (λ (O : Options). PlacedBy c.in-Ok.desk.plan O c.args.history c.run_desk.result.records) b.options (c.run_desk.ensures.places c.args.history b.over))

pub returns-in-Ok-clause-admitted : goal.returns-in-Ok-clause-admitted
returns-in-Ok-clause-admitted g c =
    let b : IsBegun (g.S.Site.count c.args.site) c.args.plan c.args.options c.args.log.name c.args.history g.F.Commands.may_fail (serial c.args.plan g.F.Commands.gives g.T.Terms.sources) c.in-Ok.desk = (begun g.S.Site.count c.args.plan c.args.options c.args.log.name c.args.history c.now.result g.S.Site.tells (g.S.Site.files c.args.site) c.args.site g.F.Commands.may_fail (serial c.args.plan g.F.Commands.gives g.T.Terms.sources) c.in-Ok.desk c.in-Ok.ensures.reply) in
    subst (λ (P : Plan). AreAdmitted g.A.Admission.admitted P c.args.options c.run_desk.result.records (length c.args.history)) b.plan
    (subst (λ (O : Options). AreAdmitted g.A.Admission.admitted c.in-Ok.desk.plan O c.run_desk.result.records (length c.args.history)) b.options
    (subst (λ (n : ℕ). AreAdmitted g.A.Admission.admitted c.in-Ok.desk.plan c.in-Ok.desk.options c.run_desk.result.records n) b.over.0 c.run_desk.ensures.admitted))

pub returns-in-Err-clause-admitted : goal.returns-in-Err-clause-admitted
returns-in-Err-clause-admitted g c = admitted_none g.A.Admission.admitted c.args.plan c.args.options c.args.history c.in-Err.unopened.records c.in-Err.ensures.declined.same

pub returns-in-Err-clause-places : goal.returns-in-Err-clause-places
returns-in-Err-clause-places g c = placed_none c.args.plan c.args.options c.args.history c.in-Err.unopened.records c.in-Err.ensures.declined.same

pub returns-in-Ok-clause-others : goal.returns-in-Ok-clause-others
returns-in-Ok-clause-others g c told =
    let ran : LeavesAlone g.S.Site.files g.S.Site.may_leave g.S.Site.moment g.S.Site.images_since (IsUnmade c.args.plan c.args.log.name) c.in-Ok.desk.site c.run_desk.result.site =
    subst (λ (P : Plan). LeavesAlone g.S.Site.files g.S.Site.may_leave g.S.Site.moment g.S.Site.images_since (IsUnmade P c.args.log.name) c.in-Ok.desk.site c.run_desk.result.site) (begun g.S.Site.count c.args.plan c.args.options c.args.log.name c.args.history c.now.result g.S.Site.tells (g.S.Site.files c.args.site) c.args.site g.F.Commands.may_fail (serial c.args.plan g.F.Commands.gives g.T.Terms.sources) c.in-Ok.desk c.in-Ok.ensures.reply).plan
    (subst (λ (n : List ℕ). LeavesAlone g.S.Site.files g.S.Site.may_leave g.S.Site.moment g.S.Site.images_since (IsUnmade c.in-Ok.desk.plan n) c.in-Ok.desk.site c.run_desk.result.site) (begun g.S.Site.count c.args.plan c.args.options c.args.log.name c.args.history c.now.result g.S.Site.tells (g.S.Site.files c.args.site) c.args.site g.F.Commands.may_fail (serial c.args.plan g.F.Commands.gives g.T.Terms.sources) c.in-Ok.desk c.in-Ok.ensures.reply).log_is (c.run_desk.ensures.others told)) in
    then_stays g.S.Site.may_leave g.S.Site.moment g.S.Site.images_since (IsUnmade c.args.plan c.args.log.name) c.args.site c.in-Ok.desk.site c.run_desk.result.site
    (beside_less g.S.Site.files g.S.Site.may_leave g.S.Site.moment g.S.Site.images_since (λ m. m ≢ c.args.log.name) (IsUnmade c.args.plan c.args.log.name) c.args.site c.in-Ok.desk.site (λ m other. other.0) (c.in-Ok.ensures.others told)) ran.crash

pub returns-in-Ok-clause-reads : goal.returns-in-Ok-clause-reads
returns-in-Ok-clause-reads g c told m spared =
    let ran : LeavesAlone g.S.Site.files g.S.Site.may_leave g.S.Site.moment g.S.Site.images_since (IsUnmade c.args.plan c.args.log.name) c.in-Ok.desk.site c.run_desk.result.site =
    subst (λ (P : Plan). LeavesAlone g.S.Site.files g.S.Site.may_leave g.S.Site.moment g.S.Site.images_since (IsUnmade P c.args.log.name) c.in-Ok.desk.site c.run_desk.result.site) (begun g.S.Site.count c.args.plan c.args.options c.args.log.name c.args.history c.now.result g.S.Site.tells (g.S.Site.files c.args.site) c.args.site g.F.Commands.may_fail (serial c.args.plan g.F.Commands.gives g.T.Terms.sources) c.in-Ok.desk c.in-Ok.ensures.reply).plan
    (subst (λ (n : List ℕ). LeavesAlone g.S.Site.files g.S.Site.may_leave g.S.Site.moment g.S.Site.images_since (IsUnmade c.in-Ok.desk.plan n) c.in-Ok.desk.site c.run_desk.result.site) (begun g.S.Site.count c.args.plan c.args.options c.args.log.name c.args.history c.now.result g.S.Site.tells (g.S.Site.files c.args.site) c.args.site g.F.Commands.may_fail (serial c.args.plan g.F.Commands.gives g.T.Terms.sources) c.in-Ok.desk c.in-Ok.ensures.reply).log_is (c.run_desk.ensures.others told)) in
    ran.reads m spared.0 ∙ c.in-Ok.ensures.reads told m spared.0.0

pub returns-in-Err-clause-legal : goal.returns-in-Err-clause-legal
returns-in-Err-clause-legal g c admitted = subst (λ (G : List Record). IsLegal c.args.plan G) (sym c.in-Err.ensures.declined.same) (c.in-Err.ensures.declined.legal admitted)

pub returns-in-Err-clause-idle : goal.returns-in-Err-clause-idle
returns-in-Err-clause-idle g c closed = absurd (refused_unclosed (Err c.in-Err.unopened.why) c.in-Err.ensures.declined.refused closed)

pub returns-in-Err-clause-others : goal.returns-in-Err-clause-others
returns-in-Err-clause-others g c told =
    beside_less g.S.Site.files g.S.Site.may_leave g.S.Site.moment g.S.Site.images_since (λ m. m ≢ c.args.log.name) (IsUnmade c.args.plan c.args.log.name) c.args.site c.in-Err.unopened.site (λ m other. other.0) (c.in-Err.ensures.others told)

pub returns-in-Err-clause-reads : goal.returns-in-Err-clause-reads
returns-in-Err-clause-reads g c told m spared = c.in-Err.ensures.reads told m (spared.0.0, spared.1)

pub returns-in-Ok-clause-causes : goal.returns-in-Ok-clause-causes
returns-in-Ok-clause-causes g c =
    subst (λ (n : ℕ). HasCauses n (g.S.Site.count c.run_desk.result.site) (sum_by g.R.Runner.count c.args.runners.now) (sum_by g.R.Runner.count c.run_desk.new.runners) c.run_desk.result.how) (begun g.S.Site.count c.args.plan c.args.options c.args.log.name c.args.history c.now.result g.S.Site.tells (g.S.Site.files c.args.site) c.args.site g.F.Commands.may_fail (serial c.args.plan g.F.Commands.gives g.T.Terms.sources) c.in-Ok.desk c.in-Ok.ensures.reply).faults c.run_desk.ensures.causes

pub returns-in-Err-clause-causes : goal.returns-in-Err-clause-causes
returns-in-Err-clause-causes g c = c.in-Err.ensures.declined.causes (sum_by g.R.Runner.count c.args.runners.now) (sum_by g.R.Runner.count c.args.runners.now)

pub run_desk-requires-clause-unset : goal.run_desk-requires-clause-unset
run_desk-requires-clause-unset g c κs within = (begun g.S.Site.count c.args.plan c.args.options c.args.log.name c.args.history c.now.result g.S.Site.tells (g.S.Site.files c.args.site) c.args.site g.F.Commands.may_fail (serial c.args.plan g.F.Commands.gives g.T.Terms.sources) c.in-Ok.desk c.in-Ok.ensures.reply).unset

pub run_desk-requires-clause-fresh : goal.run_desk-requires-clause-fresh
run_desk-requires-clause-fresh g c κs within =
    let b : IsBegun (g.S.Site.count c.args.site) c.args.plan c.args.options c.args.log.name c.args.history g.F.Commands.may_fail (serial c.args.plan g.F.Commands.gives g.T.Terms.sources) c.in-Ok.desk = (begun g.S.Site.count c.args.plan c.args.options c.args.log.name c.args.history c.now.result g.S.Site.tells (g.S.Site.files c.args.site) c.args.site g.F.Commands.may_fail (serial c.args.plan g.F.Commands.gives g.T.Terms.sources) c.in-Ok.desk c.in-Ok.ensures.reply) in
    subst (λ (O : Options). IsFresh O.limit (records_of c.in-Ok.desk.moves)) (sym b.options) b.fresh

pub returns-in-Ok-clause-starts : goal.returns-in-Ok-clause-starts
returns-in-Ok-clause-starts g c told =
    subst (λ (expected : Option StartFault). StartEnds expected c.run_desk.result.how)
    (sym (started_free g.S.Site.count c.args.plan c.args.options c.args.history c.args.log.name c.now.result g.S.Site.tells (g.S.Site.files c.args.site) c.args.site c.in-Ok.desk c.in-Ok.ensures.reply told)) c.run_desk.ensures.starts

pub returns-in-Err-clause-starts : goal.returns-in-Err-clause-starts
returns-in-Err-clause-starts g c told = c.in-Err.ensures.declined.starts told

pub returns-in-Ok-clause-ending : goal.returns-in-Ok-clause-ending
returns-in-Ok-clause-ending g c here =
    let b : IsBegun (g.S.Site.count c.args.site) c.args.plan c.args.options c.args.log.name c.args.history g.F.Commands.may_fail (serial c.args.plan g.F.Commands.gives g.T.Terms.sources) c.in-Ok.desk = (begun g.S.Site.count c.args.plan c.args.options c.args.log.name c.args.history c.now.result g.S.Site.tells (g.S.Site.files c.args.site) c.args.site g.F.Commands.may_fail (serial c.args.plan g.F.Commands.gives g.T.Terms.sources) c.in-Ok.desk c.in-Ok.ensures.reply) in
    subst (λ (O : Options). IfOk c.run_desk.result.how (IsRunEnd O.limit)) b.options
    (c.run_desk.ensures.ending (subst (λ (P : Plan). FitsHere P c.in-Ok.desk.options) (sym b.plan) (subst (λ (O : Options). FitsHere c.args.plan O) (sym b.options) here)))

pub returns-in-Ok-clause-damage : goal.returns-in-Ok-clause-damage
returns-in-Ok-clause-damage g c told =
    let b : IsBegun (g.S.Site.count c.args.site) c.args.plan c.args.options c.args.log.name c.args.history g.F.Commands.may_fail (serial c.args.plan g.F.Commands.gives g.T.Terms.sources) c.in-Ok.desk = (begun g.S.Site.count c.args.plan c.args.options c.args.log.name c.args.history c.now.result g.S.Site.tells (g.S.Site.files c.args.site) c.args.site g.F.Commands.may_fail (serial c.args.plan g.F.Commands.gives g.T.Terms.sources) c.in-Ok.desk c.in-Ok.ensures.reply) in
    subst (λ (P : Plan). RunDamage P c.run_desk.result.records (g.S.Site.files c.run_desk.result.site) c.run_desk.result.how) b.plan
    (c.run_desk.ensures.damage told (subst (λ (P : Plan). IsApart P c.in-Ok.desk.log) (sym b.plan) (subst (λ (n : List ℕ). IsApart c.args.plan n) (sym b.log_is) c.requires.apart)))

pub returns-in-Ok-clause-failures : goal.returns-in-Ok-clause-failures
returns-in-Ok-clause-failures g c alone closed =
    let b : IsBegun (g.S.Site.count c.args.site) c.args.plan c.args.options c.args.log.name c.args.history g.F.Commands.may_fail (serial c.args.plan g.F.Commands.gives g.T.Terms.sources) c.in-Ok.desk = (begun g.S.Site.count c.args.plan c.args.options c.args.log.name c.args.history c.now.result g.S.Site.tells (g.S.Site.files c.args.site) c.args.site g.F.Commands.may_fail (serial c.args.plan g.F.Commands.gives g.T.Terms.sources) c.in-Ok.desk c.in-Ok.ensures.reply) in
    logs_then c.args.history (records_of c.in-Ok.desk.moves) c.run_desk.result.records _ _ _ (logs_plain c.args.history (records_of c.in-Ok.desk.moves) b.entry _ _ b.records b.failed refl) (c.run_desk.ensures.failures (ap (λ (O : Options). O.wq) b.options ∙ alone) closed)

pub returns-in-Err-clause-failures : goal.returns-in-Err-clause-failures
returns-in-Err-clause-failures g c alone closed = absurd (refused_unclosed (Err c.in-Err.unopened.why) c.in-Err.ensures.declined.refused closed)

pub returns-in-Ok-clause-completes : goal.returns-in-Ok-clause-completes
returns-in-Ok-clause-completes g c here told kept trusted fit room sure =
    let b : IsBegun (g.S.Site.count c.args.site) c.args.plan c.args.options c.args.log.name c.args.history g.F.Commands.may_fail (serial c.args.plan g.F.Commands.gives g.T.Terms.sources) c.in-Ok.desk = (begun g.S.Site.count c.args.plan c.args.options c.args.log.name c.args.history c.now.result g.S.Site.tells (g.S.Site.files c.args.site) c.args.site g.F.Commands.may_fail (serial c.args.plan g.F.Commands.gives g.T.Terms.sources) c.in-Ok.desk c.in-Ok.ensures.reply) in
    let due : records_due c.in-Ok.desk.plan (records_of c.in-Ok.desk.moves) ≤ records_due c.args.plan c.args.history + 1 =
    subst (λ (P : Plan). records_due P (records_of c.in-Ok.desk.moves) ≤ records_due c.args.plan c.args.history + 1) (sym b.plan) b.due in
    subst (λ (O : Options). IfOk c.run_desk.result.how (IsCompleteEnd O.limit)) b.options
    (c.run_desk.ensures.completes (subst (λ (P : Plan). FitsHere P c.in-Ok.desk.options) (sym b.plan) (subst (λ (O : Options). FitsHere c.args.plan O) (sym b.options) here)) told kept trusted
    (subst (λ (P : Plan). SerialInputsFit P g.F.Commands.gives g.T.Terms.sources) (sym b.plan) fit) sure (has_room_due c.args.plan c.args.history _ due room))

pub returns-in-Ok-clause-same : goal.returns-in-Ok-clause-same
returns-in-Ok-clause-same g c refused = absurd (c.run_desk.ensures.started refused)

pub returns-in-Ok-clause-quiet : goal.returns-in-Ok-clause-quiet
returns-in-Ok-clause-quiet g c early = absurd (c.run_desk.ensures.started (early_refused c.run_desk.result.how early))

pub returns-in-Err-clause-same : goal.returns-in-Err-clause-same
returns-in-Err-clause-same g c refused = c.in-Err.ensures.declined.same

pub returns-in-Err-clause-quiet : goal.returns-in-Err-clause-quiet
returns-in-Err-clause-quiet g c early = c.in-Err.ensures.declined.early early

pub returns-in-Ok-clause-modes : goal.returns-in-Ok-clause-modes
returns-in-Ok-clause-modes g c =
    let b : IsBegun (g.S.Site.count c.args.site) c.args.plan c.args.options c.args.log.name c.args.history g.F.Commands.may_fail (serial c.args.plan g.F.Commands.gives g.T.Terms.sources) c.in-Ok.desk = (begun g.S.Site.count c.args.plan c.args.options c.args.log.name c.args.history c.now.result g.S.Site.tells (g.S.Site.files c.args.site) c.args.site g.F.Commands.may_fail (serial c.args.plan g.F.Commands.gives g.T.Terms.sources) c.in-Ok.desk c.in-Ok.ensures.reply) in
    subst (λ (P : Plan). CollectsBy P c.args.options.mode c.args.history c.run_desk.result.records) b.plan
    (subst (λ (O : Options). CollectsBy c.in-Ok.desk.plan O.mode c.args.history c.run_desk.result.records) b.options (c.run_desk.ensures.modes c.args.history b.over))

pub returns-in-Err-clause-modes : goal.returns-in-Err-clause-modes
returns-in-Err-clause-modes g c = collects_none c.args.plan c.args.options.mode c.args.history c.in-Err.unopened.records c.in-Err.ensures.declined.same

pub returns-in-Ok-clause-gone : goal.returns-in-Ok-clause-gone
returns-in-Ok-clause-gone g c told whole =
    let b : IsBegun (g.S.Site.count c.args.site) c.args.plan c.args.options c.args.log.name c.args.history g.F.Commands.may_fail (serial c.args.plan g.F.Commands.gives g.T.Terms.sources) c.in-Ok.desk = (begun g.S.Site.count c.args.plan c.args.options c.args.log.name c.args.history c.now.result g.S.Site.tells (g.S.Site.files c.args.site) c.args.site g.F.Commands.may_fail (serial c.args.plan g.F.Commands.gives g.T.Terms.sources) c.in-Ok.desk c.in-Ok.ensures.reply) in
    gone_begun c.args.plan (g.S.Site.files c.run_desk.result.site) c.args.history (records_of c.in-Ok.desk.moves) c.run_desk.result.records b.entry b.records b.keeps
    (subst (λ (P : Plan). AreGone P (g.S.Site.files c.run_desk.result.site) (records_of c.in-Ok.desk.moves) c.run_desk.result.records) b.plan
    (c.run_desk.ensures.gone told whole (subst (λ (P : Plan). IsApart P c.in-Ok.desk.log) (sym b.plan) (subst (λ (n : List ℕ). IsApart c.args.plan n) (sym b.log_is) c.requires.apart))))

pub returns-in-Err-clause-gone : goal.returns-in-Err-clause-gone
returns-in-Err-clause-gone g c told whole = gone_none c.args.plan (g.S.Site.files c.in-Err.unopened.site) c.args.history c.in-Err.unopened.records c.in-Err.ensures.declined.same

pub returns-in-Ok-clause-collects : goal.returns-in-Ok-clause-collects
returns-in-Ok-clause-collects g c started =
    let b : IsBegun (g.S.Site.count c.args.site) c.args.plan c.args.options c.args.log.name c.args.history g.F.Commands.may_fail (serial c.args.plan g.F.Commands.gives g.T.Terms.sources) c.in-Ok.desk = (begun g.S.Site.count c.args.plan c.args.options c.args.log.name c.args.history c.now.result g.S.Site.tells (g.S.Site.files c.args.site) c.args.site g.F.Commands.may_fail (serial c.args.plan g.F.Commands.gives g.T.Terms.sources) c.in-Ok.desk c.in-Ok.ensures.reply) in
    subst (λ (P : Plan). RunCollects P c.args.options.mode c.run_desk.result.records) b.plan
    (subst (λ (O : Options). RunCollects c.in-Ok.desk.plan O.mode c.run_desk.result.records) b.options (c.run_desk.ensures.collects c.args.history b.over))

pub returns-in-Err-clause-collects : goal.returns-in-Err-clause-collects
returns-in-Err-clause-collects g c started = absurd (started c.in-Err.ensures.declined.refused)

pub returns-in-Ok-clause-unused : goal.returns-in-Ok-clause-unused
returns-in-Ok-clause-unused g c refused = absurd (c.run_desk.ensures.started refused)

pub returns-in-Ok-clause-opened : goal.returns-in-Ok-clause-opened
returns-in-Ok-clause-opened g c started =
    c.run_desk.ensures.opened c.args.options (opens_by g.S.Site.count c.args.plan c.args.options c.args.log.name c.args.history c.now.result g.S.Site.tells (g.S.Site.files c.args.site) c.args.site g.F.Commands.may_fail (serial c.args.plan g.F.Commands.gives g.T.Terms.sources) c.in-Ok.desk c.in-Ok.ensures.reply)

pub returns-in-Err-clause-opened : goal.returns-in-Err-clause-opened
returns-in-Err-clause-opened g c started = absurd (started c.in-Err.ensures.declined.refused)

pub returns-in-Err-clause-damage : goal.returns-in-Err-clause-damage
returns-in-Err-clause-damage g c told = refused_damage c.args.plan c.in-Err.unopened.records (g.S.Site.files c.in-Err.unopened.site) (Err c.in-Err.unopened.why) c.in-Err.ensures.declined.refused

pub returns-in-Err-clause-whole : goal.returns-in-Err-clause-whole
returns-in-Err-clause-whole g c told kept = refused_whole (Err c.in-Err.unopened.why) c.in-Err.ensures.declined.refused

pub returns-in-Err-clause-sure : goal.returns-in-Err-clause-sure
returns-in-Err-clause-sure g c alone sure = refused_sure (Err c.in-Err.unopened.why) c.in-Err.ensures.declined.refused

pub returns-in-Err-clause-never : goal.returns-in-Err-clause-never
returns-in-Err-clause-never g c sure = refused_spared (Err c.in-Err.unopened.why) c.in-Err.ensures.declined.refused

pub returns-in-Err-clause-hall : goal.returns-in-Err-clause-hall
returns-in-Err-clause-hall g c is = c.in-Err.ensures.declined.failed is

pub returns-in-Err-clause-vacant : goal.returns-in-Err-clause-vacant
returns-in-Err-clause-vacant g c refused = record { none_back = c.open.ensures.got; none_given = c.open.ensures.given; none_awaited = c.open.ensures.idles }

pub returns-in-Err-clause-listens : goal.returns-in-Err-clause-listens
returns-in-Err-clause-listens g c away started = absurd (started c.in-Err.ensures.declined.refused)

pub returns-in-Ok-clause-calm : goal.returns-in-Ok-clause-calm
returns-in-Ok-clause-calm g c away tells sure all few =
    let b : IsBegun (g.S.Site.count c.args.site) c.args.plan c.args.options c.args.log.name c.args.history g.F.Commands.may_fail (serial c.args.plan g.F.Commands.gives g.T.Terms.sources) c.in-Ok.desk = (begun g.S.Site.count c.args.plan c.args.options c.args.log.name c.args.history c.now.result g.S.Site.tells (g.S.Site.files c.args.site) c.args.site g.F.Commands.may_fail (serial c.args.plan g.F.Commands.gives g.T.Terms.sources) c.in-Ok.desk c.in-Ok.ensures.reply) in
    let records = c.run_desk.result.records in
    let mid = records_of c.in-Ok.desk.moves in
    let wq : c.in-Ok.desk.options.wq ≡ c.args.options.wq = ap (λ (O : Options). O.wq) b.options in
    on_ok c.run_desk.result.how (GoesWell mid records) (GoesWell c.args.history records) (well_begun c.args.history mid records b.entry b.records b.failed b.kept) (c.run_desk.ensures.calm (wq ∙ away) tells (joins_begun c.in-Ok.desk c.args.history b.over) (c.open.ensures.sure sure) all
    (subst (λ (links : List (Option LinkNo × g.row.H-Way.Denot)). ComeFew g.H.Way.Link.history g.H.Way.Link.count g.H.Way.Link.idle_count g.H.Way.Link.is_closed links (g.H.Hall.got c.run_desk.new.hall)) (sym c.open.ensures.got) few))

pub returns-in-Ok-clause-reaches : goal.returns-in-Ok-clause-reaches
returns-in-Ok-clause-reaches g c away tells sure all few told kept trusted fit room =
    let b : IsBegun (g.S.Site.count c.args.site) c.args.plan c.args.options c.args.log.name c.args.history g.F.Commands.may_fail (serial c.args.plan g.F.Commands.gives g.T.Terms.sources) c.in-Ok.desk = (begun g.S.Site.count c.args.plan c.args.options c.args.log.name c.args.history c.now.result g.S.Site.tells (g.S.Site.files c.args.site) c.args.site g.F.Commands.may_fail (serial c.args.plan g.F.Commands.gives g.T.Terms.sources) c.in-Ok.desk c.in-Ok.ensures.reply) in
    let due : records_due c.in-Ok.desk.plan (records_of c.in-Ok.desk.moves) ≤ records_due c.args.plan c.args.history + 1 =
    subst (λ (P : Plan). records_due P (records_of c.in-Ok.desk.moves) ≤ records_due c.args.plan c.args.history + 1) (sym b.plan) b.due in
    let wq : c.in-Ok.desk.options.wq ≡ c.args.options.wq = ap (λ (O : Options). O.wq) b.options in
    subst (λ (O : Options). IfOk c.run_desk.result.how (IsReached O.limit)) b.options
    (c.run_desk.ensures.reaches (wq ∙ away) tells (joins_begun c.in-Ok.desk c.args.history b.over) (c.open.ensures.sure sure) all
    (subst (λ (links : List (Option LinkNo × g.row.H-Way.Denot)). ComeFew g.H.Way.Link.history g.H.Way.Link.count g.H.Way.Link.idle_count g.H.Way.Link.is_closed links (g.H.Hall.got c.run_desk.new.hall)) (sym c.open.ensures.got) few) told kept trusted
    (subst (λ (P : Plan). SerialInputsFit P g.F.Commands.gives g.T.Terms.sources) (sym b.plan) fit) (has_room_due c.args.plan c.args.history _ due room))

pub returns-in-Ok-clause-manned : goal.returns-in-Ok-clause-manned
returns-in-Ok-clause-manned g c away least tells sure manned all few once needs told kept trusted fit room =
    let b : IsBegun (g.S.Site.count c.args.site) c.args.plan c.args.options c.args.log.name c.args.history g.F.Commands.may_fail (serial c.args.plan g.F.Commands.gives g.T.Terms.sources) c.in-Ok.desk = (begun g.S.Site.count c.args.plan c.args.options c.args.log.name c.args.history c.now.result g.S.Site.tells (g.S.Site.files c.args.site) c.args.site g.F.Commands.may_fail (serial c.args.plan g.F.Commands.gives g.T.Terms.sources) c.in-Ok.desk c.in-Ok.ensures.reply) in
    let due : records_due c.in-Ok.desk.plan (records_of c.in-Ok.desk.moves) ≤ records_due c.args.plan c.args.history + 1 =
    subst (λ (P : Plan). records_due P (records_of c.in-Ok.desk.moves) ≤ records_due c.args.plan c.args.history + 1) (sym b.plan) b.due in
    let wq : c.in-Ok.desk.options.wq ≡ c.args.options.wq = ap (λ (O : Options). O.wq) b.options in
    subst (λ (O : Options). IfOk c.run_desk.result.how (IsCompleteEnd O.limit)) b.options
    (c.run_desk.ensures.manned (wq ∙ away) least tells (joins_begun c.in-Ok.desk c.args.history b.over) (c.open.ensures.sure sure) (c.open.ensures.manned least manned) all
    (subst (λ (links : List (Option LinkNo × g.row.H-Way.Denot)). ComeFew g.H.Way.Link.history g.H.Way.Link.count g.H.Way.Link.idle_count g.H.Way.Link.is_closed links (g.H.Hall.got c.run_desk.new.hall)) (sym c.open.ensures.got) few) once
    (subst (λ (P : Plan). NeedsAtMost P c.in-Ok.desk.options least) (sym b.plan) (subst (λ (O : Options). NeedsAtMost c.args.plan O least) (sym b.options) needs)) told kept trusted
    (subst (λ (P : Plan). SerialInputsFit P g.F.Commands.gives g.T.Terms.sources) (sym b.plan) fit) (has_room_due c.args.plan c.args.history _ due room))
