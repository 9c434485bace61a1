use Rattle.std.proofs.Common.{◌≡◌, ◌∙◌, ◌-◌, ℕ, List, drop, map, [], Err, Result, ap, refl, sym, subst, arith, false, true, true≢false}
use Rattle.outside.specs.Files.{Files}
use Rattle.flow_types.specs.declared.plan.Plan.{Plan}
use Rattle.flow_types.specs.declared.records.Record.{Record}
use Rattle.run_history.specs.declared.answers.Wait.{Wait}
use Rattle.run_history.specs.declared.options.Options.{Options as RunOptions}
use Rattle.run_history.specs.Answers.{before_end}
use Rattle.worker_pool.specs.Crews.{AllSure, AllTell}
use Rattle.local_run.specs.Collecting.{RunCollects}
use Rattle.local_run.specs.Ends.{OpensBy}
use Rattle.txn_log.specs.Spells.{Spells}
use Rattle.desk.specs.Kept.{IsLegal}
use Rattle.report.specs.declared.cause.Cause.{Cause}
use Rattle.report.specs.Causes.{is_cut, kind_of, may_lose}
use Rattle.master_run.specs.declared.ask.Ask.{Ask}
use Rattle.master_run.specs.declared.asking.Refusal.{Refusal}
use Rattle.wq_run.specs.declared.workers.Workers.{Workers}
use Rattle.wq_run.specs.Losses.{AreDueLosses}
use Rattle.wq_run.specs.Vain.{AreVain}
use Rattle.flow_run.proofs.Stops.{back_same}
use Rattle.master_run.specs.declared.rises.Rise.{Rise}
use Rattle.master_run.specs.Asked.{ask_of, choice, request, run_mode, run_options}
use Rattle.master_run.specs.OnePlan.{AreLogged, RunLeaves}
use Rattle.master_run.proofs.Leaving.{leaves_less, refused_leaves}
use Rattle.master_run.specs.Runs.{refusal_cause}
use Rattle.master_run.specs.Headline.{IfWaited, WaitsInVain}
use Rattle.master_run.proofs.Waits.{local_ask, none_waits}
use Rattle.master_run.specs.Ends.{CallEnds, FaultEnd, WordsEnd, counts}
use Rattle.master_run.specs.Reaching.{GoesSurely, IsMannedFor}
use Rattle.master_run.specs.Serves.{Serves}
use Rattle.master_run.proofs.Reaching.{goes_from, goes_refused}
use Rattle.master_run.proofs.Reading.{serves_from}
use Rattle.master_run.proofs.Refusals.{late_words, refused_cuts, refused_ends, refused_fault, refused_kind, refused_serves, refused_words, same_ask}
use Rattle.master_run.proofs.Works.{loses_cut}
use Rattle.master_run.proofs.top.follow.Goals as goal

pub returns-in-Ok-clause-ends : goal.returns-in-Ok-clause-ends
returns-in-Ok-clause-ends g c told =
    subst (λ (e : Result Ask Cause). CallEnds g.Q.Made.Admission.admitted e (g.H.Hall.idle_count c.serve.new.hall - g.H.Hall.idle_count c.args.hall.now) (g.S.Site.files c.args.site) (g.S.Site.files c.serve.result.site) c.serve.result.records c.serve.result.cause) (sym (c.in-Ok.ensures.stage told)) ((serves_from g.Q.Made.Admission.admitted g.S.Site.tells g.S.Site.files g.S.Site.may_leave g.S.Site.moment g.S.Site.images_since g.B.Born.born g.F.Commands.gives g.F.Commands.may_fail (AllTell g.R.Runner.tells c.args.runners.now) (AllSure g.R.Runner.sure c.args.runners.now) (g.H.Hall.honest c.args.hall.now) (counts (g.S.Site.count c.args.site) (map g.R.Runner.count c.args.runners.now) (g.H.Hall.count c.args.hall.now) (g.H.Hall.idle_count c.args.hall.now) 0) (counts (g.S.Site.count c.serve.result.site) (map g.R.Runner.count c.serve.new.runners) (g.H.Hall.count c.serve.new.hall) (g.H.Hall.idle_count c.serve.new.hall) 0) c.in-Ok.ask c.args.site c.read_ask.new.site c.serve.result.site c.serve.result.records c.serve.result.cause c.requires.later (λ t. record { same = c.in-Ok.ensures.files t; within = c.in-Ok.ensures.crash t; only = c.in-Ok.ensures.any_moment t })
    (subst (λ (n : ℕ). Serves g.Q.Made.Admission.admitted g.S.Site.tells g.S.Site.files g.S.Site.may_leave g.S.Site.moment g.S.Site.images_since g.B.Born.born g.F.Commands.gives g.F.Commands.may_fail (AllTell g.R.Runner.tells c.args.runners.now) (AllSure g.R.Runner.sure c.args.runners.now) (g.H.Hall.honest c.args.hall.now) (counts n (map g.R.Runner.count c.args.runners.now) (g.H.Hall.count c.args.hall.now) (g.H.Hall.idle_count c.args.hall.now) 0) (counts (g.S.Site.count c.serve.result.site) (map g.R.Runner.count c.serve.new.runners) (g.H.Hall.count c.serve.new.hall) (g.H.Hall.idle_count c.serve.new.hall) 0) c.in-Ok.ask c.read_ask.new.site c.serve.result.site c.serve.result.records c.serve.result.cause) c.faults-before.ensures c.serve.ensures.serves)).ends told)

pub returns-in-Ok-clause-serves : goal.returns-in-Ok-clause-serves
returns-in-Ok-clause-serves g c told ask asked =
    subst (λ (a : Ask). Serves g.Q.Made.Admission.admitted g.S.Site.tells g.S.Site.files g.S.Site.may_leave g.S.Site.moment g.S.Site.images_since g.B.Born.born g.F.Commands.gives g.F.Commands.may_fail (AllTell g.R.Runner.tells c.args.runners.now) (AllSure g.R.Runner.sure c.args.runners.now) (g.H.Hall.honest c.args.hall.now) (counts (g.S.Site.count c.args.site) (map g.R.Runner.count c.args.runners.now) (g.H.Hall.count c.args.hall.now) (g.H.Hall.idle_count c.args.hall.now) 0) (counts (g.S.Site.count c.serve.result.site) (map g.R.Runner.count c.serve.new.runners) (g.H.Hall.count c.serve.new.hall) (g.H.Hall.idle_count c.serve.new.hall) 0) a c.args.site c.serve.result.site c.serve.result.records c.serve.result.cause) (same_ask c.in-Ok.ask ask (sym (c.in-Ok.ensures.stage told) ∙ asked)) (serves_from g.Q.Made.Admission.admitted g.S.Site.tells g.S.Site.files g.S.Site.may_leave g.S.Site.moment g.S.Site.images_since g.B.Born.born g.F.Commands.gives g.F.Commands.may_fail (AllTell g.R.Runner.tells c.args.runners.now) (AllSure g.R.Runner.sure c.args.runners.now) (g.H.Hall.honest c.args.hall.now) (counts (g.S.Site.count c.args.site) (map g.R.Runner.count c.args.runners.now) (g.H.Hall.count c.args.hall.now) (g.H.Hall.idle_count c.args.hall.now) 0) (counts (g.S.Site.count c.serve.result.site) (map g.R.Runner.count c.serve.new.runners) (g.H.Hall.count c.serve.new.hall) (g.H.Hall.idle_count c.serve.new.hall) 0) c.in-Ok.ask c.args.site c.read_ask.new.site c.serve.result.site c.serve.result.records c.serve.result.cause c.requires.later (λ t. record { same = c.in-Ok.ensures.files t; within = c.in-Ok.ensures.crash t; only = c.in-Ok.ensures.any_moment t })
    (subst (λ (n : ℕ). Serves g.Q.Made.Admission.admitted g.S.Site.tells g.S.Site.files g.S.Site.may_leave g.S.Site.moment g.S.Site.images_since g.B.Born.born g.F.Commands.gives g.F.Commands.may_fail (AllTell g.R.Runner.tells c.args.runners.now) (AllSure g.R.Runner.sure c.args.runners.now) (g.H.Hall.honest c.args.hall.now) (counts n (map g.R.Runner.count c.args.runners.now) (g.H.Hall.count c.args.hall.now) (g.H.Hall.idle_count c.args.hall.now) 0) (counts (g.S.Site.count c.serve.result.site) (map g.R.Runner.count c.serve.new.runners) (g.H.Hall.count c.serve.new.hall) (g.H.Hall.idle_count c.serve.new.hall) 0) c.in-Ok.ask c.read_ask.new.site c.serve.result.site c.serve.result.records c.serve.result.cause) c.faults-before.ensures c.serve.ensures.serves))

pub returns-in-Ok-clause-words : goal.returns-in-Ok-clause-words
returns-in-Ok-clause-words g c =
    late_words (choice c.args.words.now) c.serve.result.cause c.in-Ok.ensures.words c.serve.ensures.serves.late

pub returns-in-Ok-clause-faults : goal.returns-in-Ok-clause-faults
returns-in-Ok-clause-faults g c =
    (serves_from g.Q.Made.Admission.admitted g.S.Site.tells g.S.Site.files g.S.Site.may_leave g.S.Site.moment g.S.Site.images_since g.B.Born.born g.F.Commands.gives g.F.Commands.may_fail (AllTell g.R.Runner.tells c.args.runners.now) (AllSure g.R.Runner.sure c.args.runners.now) (g.H.Hall.honest c.args.hall.now) (counts (g.S.Site.count c.args.site) (map g.R.Runner.count c.args.runners.now) (g.H.Hall.count c.args.hall.now) (g.H.Hall.idle_count c.args.hall.now) 0) (counts (g.S.Site.count c.serve.result.site) (map g.R.Runner.count c.serve.new.runners) (g.H.Hall.count c.serve.new.hall) (g.H.Hall.idle_count c.serve.new.hall) 0) c.in-Ok.ask c.args.site c.read_ask.new.site c.serve.result.site c.serve.result.records c.serve.result.cause c.requires.later (λ t. record { same = c.in-Ok.ensures.files t; within = c.in-Ok.ensures.crash t; only = c.in-Ok.ensures.any_moment t })
    (subst (λ (n : ℕ). Serves g.Q.Made.Admission.admitted g.S.Site.tells g.S.Site.files g.S.Site.may_leave g.S.Site.moment g.S.Site.images_since g.B.Born.born g.F.Commands.gives g.F.Commands.may_fail (AllTell g.R.Runner.tells c.args.runners.now) (AllSure g.R.Runner.sure c.args.runners.now) (g.H.Hall.honest c.args.hall.now) (counts n (map g.R.Runner.count c.args.runners.now) (g.H.Hall.count c.args.hall.now) (g.H.Hall.idle_count c.args.hall.now) 0) (counts (g.S.Site.count c.serve.result.site) (map g.R.Runner.count c.serve.new.runners) (g.H.Hall.count c.serve.new.hall) (g.H.Hall.idle_count c.serve.new.hall) 0) c.in-Ok.ask c.read_ask.new.site c.serve.result.site c.serve.result.records c.serve.result.cause) c.faults-before.ensures c.serve.ensures.serves)).faults

pub returns-in-Ok-clause-legal : goal.returns-in-Ok-clause-legal
returns-in-Ok-clause-legal g c read =
    subst (λ (P : Plan). IsLegal P c.serve.result.records) (sym c.serve.ensures.plan) (c.serve.ensures.serves.legal read)

pub returns-in-Ok-clause-planned : goal.returns-in-Ok-clause-planned
returns-in-Ok-clause-planned g c told read =
    (c.in-Ok.ask, c.in-Ok.ensures.stage told, sym c.serve.ensures.plan)

pub returns-in-Ok-clause-untouched : goal.returns-in-Ok-clause-untouched
returns-in-Ok-clause-untouched g c told refused =
    (serves_from g.Q.Made.Admission.admitted g.S.Site.tells g.S.Site.files g.S.Site.may_leave g.S.Site.moment g.S.Site.images_since g.B.Born.born g.F.Commands.gives g.F.Commands.may_fail (AllTell g.R.Runner.tells c.args.runners.now) (AllSure g.R.Runner.sure c.args.runners.now) (g.H.Hall.honest c.args.hall.now) (counts (g.S.Site.count c.args.site) (map g.R.Runner.count c.args.runners.now) (g.H.Hall.count c.args.hall.now) (g.H.Hall.idle_count c.args.hall.now) 0) (counts (g.S.Site.count c.serve.result.site) (map g.R.Runner.count c.serve.new.runners) (g.H.Hall.count c.serve.new.hall) (g.H.Hall.idle_count c.serve.new.hall) 0) c.in-Ok.ask c.args.site c.read_ask.new.site c.serve.result.site c.serve.result.records c.serve.result.cause c.requires.later (λ t. record { same = c.in-Ok.ensures.files t; within = c.in-Ok.ensures.crash t; only = c.in-Ok.ensures.any_moment t })
    (subst (λ (n : ℕ). Serves g.Q.Made.Admission.admitted g.S.Site.tells g.S.Site.files g.S.Site.may_leave g.S.Site.moment g.S.Site.images_since g.B.Born.born g.F.Commands.gives g.F.Commands.may_fail (AllTell g.R.Runner.tells c.args.runners.now) (AllSure g.R.Runner.sure c.args.runners.now) (g.H.Hall.honest c.args.hall.now) (counts n (map g.R.Runner.count c.args.runners.now) (g.H.Hall.count c.args.hall.now) (g.H.Hall.idle_count c.args.hall.now) 0) (counts (g.S.Site.count c.serve.result.site) (map g.R.Runner.count c.serve.new.runners) (g.H.Hall.count c.serve.new.hall) (g.H.Hall.idle_count c.serve.new.hall) 0) c.in-Ok.ask c.read_ask.new.site c.serve.result.site c.serve.result.records c.serve.result.cause) c.faults-before.ensures c.serve.ensures.serves)).untouched told refused

pub returns-in-Ok-clause-quiet : goal.returns-in-Ok-clause-quiet
returns-in-Ok-clause-quiet g c told refused =
    (serves_from g.Q.Made.Admission.admitted g.S.Site.tells g.S.Site.files g.S.Site.may_leave g.S.Site.moment g.S.Site.images_since g.B.Born.born g.F.Commands.gives g.F.Commands.may_fail (AllTell g.R.Runner.tells c.args.runners.now) (AllSure g.R.Runner.sure c.args.runners.now) (g.H.Hall.honest c.args.hall.now) (counts (g.S.Site.count c.args.site) (map g.R.Runner.count c.args.runners.now) (g.H.Hall.count c.args.hall.now) (g.H.Hall.idle_count c.args.hall.now) 0) (counts (g.S.Site.count c.serve.result.site) (map g.R.Runner.count c.serve.new.runners) (g.H.Hall.count c.serve.new.hall) (g.H.Hall.idle_count c.serve.new.hall) 0) c.in-Ok.ask c.args.site c.read_ask.new.site c.serve.result.site c.serve.result.records c.serve.result.cause c.requires.later (λ t. record { same = c.in-Ok.ensures.files t; within = c.in-Ok.ensures.crash t; only = c.in-Ok.ensures.any_moment t })
    (subst (λ (n : ℕ). Serves g.Q.Made.Admission.admitted g.S.Site.tells g.S.Site.files g.S.Site.may_leave g.S.Site.moment g.S.Site.images_since g.B.Born.born g.F.Commands.gives g.F.Commands.may_fail (AllTell g.R.Runner.tells c.args.runners.now) (AllSure g.R.Runner.sure c.args.runners.now) (g.H.Hall.honest c.args.hall.now) (counts n (map g.R.Runner.count c.args.runners.now) (g.H.Hall.count c.args.hall.now) (g.H.Hall.idle_count c.args.hall.now) 0) (counts (g.S.Site.count c.serve.result.site) (map g.R.Runner.count c.serve.new.runners) (g.H.Hall.count c.serve.new.hall) (g.H.Hall.idle_count c.serve.new.hall) 0) c.in-Ok.ask c.read_ask.new.site c.serve.result.site c.serve.result.records c.serve.result.cause) c.faults-before.ensures c.serve.ensures.serves)).quiet told refused

pub returns-in-Ok-clause-closed : goal.returns-in-Ok-clause-closed
returns-in-Ok-clause-closed g c ends =
    c.serve.ensures.serves.closed ends

pub returns-in-Ok-clause-sure : goal.returns-in-Ok-clause-sure
returns-in-Ok-clause-sure g c local is =
    c.serve.ensures.serves.sure_end (local_ask (choice c.args.words.now) c.in-Ok.ask c.in-Ok.ensures.words c.in-Ok.ensures.goes_by local) is

pub returns-in-Ok-clause-never : goal.returns-in-Ok-clause-never
returns-in-Ok-clause-never g c is =
    c.serve.ensures.serves.never is

pub returns-in-Ok-clause-failures : goal.returns-in-Ok-clause-failures
returns-in-Ok-clause-failures g c local =
    c.serve.ensures.failures (local_ask (choice c.args.words.now) c.in-Ok.ask c.in-Ok.ensures.words c.in-Ok.ensures.goes_by local)

pub returns-in-Ok-clause-alone : goal.returns-in-Ok-clause-alone
returns-in-Ok-clause-alone g c local =
    c.serve.ensures.alone (local_ask (choice c.args.words.now) c.in-Ok.ask c.in-Ok.ensures.words c.in-Ok.ensures.goes_by local)

pub returns-in-Ok-clause-waited : goal.returns-in-Ok-clause-waited
returns-in-Ok-clause-waited g c options chosen =
    let rise = g.H.Hall.idle_count c.serve.new.hall - g.H.Hall.idle_count c.args.hall.now in
    subst (λ (P : Plan). IfWaited c.serve.result.cause (WaitsInVain g.Q.Made.Admission.admitted P (run_options options) options.limits.idle rise c.serve.result.records)) (sym c.serve.ensures.plan)
    (subst (λ (O : RunOptions). IfWaited c.serve.result.cause (WaitsInVain g.Q.Made.Admission.admitted c.in-Ok.ask.plan O options.limits.idle rise c.serve.result.records)) (c.in-Ok.ensures.goes_by options chosen)
    (subst (λ (w : Workers). IfWaited c.serve.result.cause (WaitsInVain g.Q.Made.Admission.admitted c.in-Ok.ask.plan c.in-Ok.ask.options w.limit rise c.serve.result.records)) (c.in-Ok.ensures.meets options chosen) c.serve.ensures.waited))

pub returns-in-Ok-clause-vain : goal.returns-in-Ok-clause-vain
returns-in-Ok-clause-vain g c tells options chosen =
    let got = g.H.Hall.got c.args.hall.now in
    let got_now = g.H.Hall.got c.serve.new.hall in
    let ended = before_end c.serve.result.records in
    subst (λ (P : Plan). IfWaited c.serve.result.cause (λ wait. AreVain g.F.Commands.gives g.F.Commands.may_fail g.H.Way.Link.history g.H.Way.Link.count g.H.Way.Link.idle_count g.H.Way.Link.is_closed options.limits.idle g.Q.Made.Admission.admitted P (run_options options) ended got got_now)) (sym c.serve.ensures.plan)
    (subst (λ (O : RunOptions). IfWaited c.serve.result.cause (λ wait. AreVain g.F.Commands.gives g.F.Commands.may_fail g.H.Way.Link.history g.H.Way.Link.count g.H.Way.Link.idle_count g.H.Way.Link.is_closed options.limits.idle g.Q.Made.Admission.admitted c.in-Ok.ask.plan O ended got got_now)) (c.in-Ok.ensures.goes_by options chosen)
    (subst (λ (w : Workers). IfWaited c.serve.result.cause (λ wait. AreVain g.F.Commands.gives g.F.Commands.may_fail g.H.Way.Link.history g.H.Way.Link.count g.H.Way.Link.idle_count g.H.Way.Link.is_closed w.limit g.Q.Made.Admission.admitted c.in-Ok.ask.plan c.in-Ok.ask.options ended got got_now)) (c.in-Ok.ensures.meets options chosen) (c.serve.ensures.vain tells)))

pub returns-in-Err-clause-never : goal.returns-in-Err-clause-never
returns-in-Err-clause-never g c is =
    rw c.refusal_cause.ensures ((refused_kind (record { before = c.faults-before.result; after = c.faults-after.result }) c.in-Err.refusal c.in-Err.ensures.kind).runs)

pub returns-in-Err-clause-back : goal.returns-in-Err-clause-back
returns-in-Err-clause-back g c whole = back_same (g.H.Hall.got c.args.hall.now) (g.H.Hall.given c.args.hall.now)

pub returns-in-Err-clause-waited : goal.returns-in-Err-clause-waited
returns-in-Err-clause-waited g c options chosen =
    none_waits (WaitsInVain g.Q.Made.Admission.admitted c.no_plan.result (run_options options) options.limits.idle (g.H.Hall.idle_count c.args.hall.now - g.H.Hall.idle_count c.args.hall.now) c.new.result) c.refusal_cause.result (rw c.refusal_cause.ensures ((refused_kind (record { before = c.faults-before.result; after = c.faults-after.result }) c.in-Err.refusal c.in-Err.ensures.kind).waits))

pub returns-in-Err-clause-vain : goal.returns-in-Err-clause-vain
returns-in-Err-clause-vain g c tells options chosen =
    none_waits (λ (wait : Wait). AreVain g.F.Commands.gives g.F.Commands.may_fail g.H.Way.Link.history g.H.Way.Link.count g.H.Way.Link.idle_count g.H.Way.Link.is_closed options.limits.idle g.Q.Made.Admission.admitted c.no_plan.result (run_options options) (before_end c.new.result) (g.H.Hall.got c.args.hall.now) (g.H.Hall.got c.args.hall.now)) c.refusal_cause.result (rw c.refusal_cause.ensures ((refused_kind (record { before = c.faults-before.result; after = c.faults-after.result }) c.in-Err.refusal c.in-Err.ensures.kind).waits))

pub returns-in-Err-clause-ends : goal.returns-in-Err-clause-ends
returns-in-Err-clause-ends g c told =
    subst (λ (xs : List Record). CallEnds g.Q.Made.Admission.admitted (request c.args.words.now c.args.env.now (g.S.Site.files c.args.site)) (g.H.Hall.idle_count c.args.hall.now - g.H.Hall.idle_count c.args.hall.now) (g.S.Site.files c.args.site) (g.S.Site.files c.read_ask.new.site) xs c.refusal_cause.result) (sym c.new.ensures)
    (subst (λ (cause : Cause). CallEnds g.Q.Made.Admission.admitted (request c.args.words.now c.args.env.now (g.S.Site.files c.args.site)) (g.H.Hall.idle_count c.args.hall.now - g.H.Hall.idle_count c.args.hall.now) (g.S.Site.files c.args.site) (g.S.Site.files c.read_ask.new.site) [] cause) (sym c.refusal_cause.ensures) (refused_ends g.Q.Made.Admission.admitted (request c.args.words.now c.args.env.now (g.S.Site.files c.args.site)) (g.H.Hall.idle_count c.args.hall.now - g.H.Hall.idle_count c.args.hall.now) (g.S.Site.files c.args.site) (g.S.Site.files c.read_ask.new.site) (record { before = c.faults-before.result; after = c.faults-after.result }) c.in-Err.refusal (c.in-Err.ensures.stage told) (c.in-Err.ensures.files told)))

pub returns-in-Err-clause-serves : goal.returns-in-Err-clause-serves
returns-in-Err-clause-serves g c told ask asked =
    subst (λ (xs : List Record). Serves g.Q.Made.Admission.admitted g.S.Site.tells g.S.Site.files g.S.Site.may_leave g.S.Site.moment g.S.Site.images_since g.B.Born.born g.F.Commands.gives g.F.Commands.may_fail (AllTell g.R.Runner.tells c.args.runners.now) (AllSure g.R.Runner.sure c.args.runners.now) (g.H.Hall.honest c.args.hall.now) (counts (g.S.Site.count c.args.site) (map g.R.Runner.count c.args.runners.now) (g.H.Hall.count c.args.hall.now) (g.H.Hall.idle_count c.args.hall.now) 0) (counts (g.S.Site.count c.read_ask.new.site) (map g.R.Runner.count c.args.runners.now) (g.H.Hall.count c.args.hall.now) (g.H.Hall.idle_count c.args.hall.now) 0) ask c.args.site c.read_ask.new.site xs c.refusal_cause.result) (sym c.new.ensures)
    (subst (λ (n : ℕ). Serves g.Q.Made.Admission.admitted g.S.Site.tells g.S.Site.files g.S.Site.may_leave g.S.Site.moment g.S.Site.images_since g.B.Born.born g.F.Commands.gives g.F.Commands.may_fail (AllTell g.R.Runner.tells c.args.runners.now) (AllSure g.R.Runner.sure c.args.runners.now) (g.H.Hall.honest c.args.hall.now) (counts n (map g.R.Runner.count c.args.runners.now) (g.H.Hall.count c.args.hall.now) (g.H.Hall.idle_count c.args.hall.now) 0) (counts (g.S.Site.count c.read_ask.new.site) (map g.R.Runner.count c.args.runners.now) (g.H.Hall.count c.args.hall.now) (g.H.Hall.idle_count c.args.hall.now) 0) ask c.args.site c.read_ask.new.site [] c.refusal_cause.result) c.faults-before.ensures
    (subst (λ (n : ℕ). Serves g.Q.Made.Admission.admitted g.S.Site.tells g.S.Site.files g.S.Site.may_leave g.S.Site.moment g.S.Site.images_since g.B.Born.born g.F.Commands.gives g.F.Commands.may_fail (AllTell g.R.Runner.tells c.args.runners.now) (AllSure g.R.Runner.sure c.args.runners.now) (g.H.Hall.honest c.args.hall.now) (counts c.faults-before.result (map g.R.Runner.count c.args.runners.now) (g.H.Hall.count c.args.hall.now) (g.H.Hall.idle_count c.args.hall.now) 0) (counts n (map g.R.Runner.count c.args.runners.now) (g.H.Hall.count c.args.hall.now) (g.H.Hall.idle_count c.args.hall.now) 0) ask c.args.site c.read_ask.new.site [] c.refusal_cause.result) c.faults-after.ensures
    (subst (λ (cause : Cause). Serves g.Q.Made.Admission.admitted g.S.Site.tells g.S.Site.files g.S.Site.may_leave g.S.Site.moment g.S.Site.images_since g.B.Born.born g.F.Commands.gives g.F.Commands.may_fail (AllTell g.R.Runner.tells c.args.runners.now) (AllSure g.R.Runner.sure c.args.runners.now) (g.H.Hall.honest c.args.hall.now) (counts c.faults-before.result (map g.R.Runner.count c.args.runners.now) (g.H.Hall.count c.args.hall.now) (g.H.Hall.idle_count c.args.hall.now) 0) (counts c.faults-after.result (map g.R.Runner.count c.args.runners.now) (g.H.Hall.count c.args.hall.now) (g.H.Hall.idle_count c.args.hall.now) 0) ask c.args.site c.read_ask.new.site [] cause) (sym c.refusal_cause.ensures)
    (refused_serves g.Q.Made.Admission.admitted g.S.Site.tells g.S.Site.files g.S.Site.may_leave g.S.Site.moment g.S.Site.images_since g.B.Born.born g.F.Commands.gives g.F.Commands.may_fail (AllTell g.R.Runner.tells c.args.runners.now) (AllSure g.R.Runner.sure c.args.runners.now) (g.H.Hall.honest c.args.hall.now) (counts c.faults-before.result (map g.R.Runner.count c.args.runners.now) (g.H.Hall.count c.args.hall.now) (g.H.Hall.idle_count c.args.hall.now) 0) (counts c.faults-after.result (map g.R.Runner.count c.args.runners.now) (g.H.Hall.count c.args.hall.now) (g.H.Hall.idle_count c.args.hall.now) 0) ask c.args.site c.read_ask.new.site c.requires.later (λ t. record { same = c.in-Err.ensures.files t; within = c.in-Err.ensures.crash t; only = c.in-Err.ensures.any_moment t }) c.in-Err.refusal (request c.args.words.now c.args.env.now (g.S.Site.files c.args.site)) (c.in-Err.ensures.stage told) asked (λ is. omega (arith, c.faults-before.ensures, c.faults-after.ensures, c.in-Err.ensures.trace.rose (ap (λ (r : Refusal). let answer : Result Ask Refusal = Err r in answer) is)))))))

pub returns-in-Err-clause-words : goal.returns-in-Err-clause-words
returns-in-Err-clause-words g c =
    subst (λ (cause : Cause). WordsEnd (choice c.args.words.now) cause) (sym c.refusal_cause.ensures) (refused_words (choice c.args.words.now) (record { before = c.faults-before.result; after = c.faults-after.result }) c.in-Err.refusal c.in-Err.ensures.words)

pub returns-in-Err-clause-faults : goal.returns-in-Err-clause-faults
returns-in-Err-clause-faults g c =
    subst (λ (n : ℕ). FaultEnd (counts n (map g.R.Runner.count c.args.runners.now) (g.H.Hall.count c.args.hall.now) (g.H.Hall.idle_count c.args.hall.now) 0) (counts (g.S.Site.count c.read_ask.new.site) (map g.R.Runner.count c.args.runners.now) (g.H.Hall.count c.args.hall.now) (g.H.Hall.idle_count c.args.hall.now) 0) c.refusal_cause.result) c.faults-before.ensures
    (subst (λ (n : ℕ). FaultEnd (counts c.faults-before.result (map g.R.Runner.count c.args.runners.now) (g.H.Hall.count c.args.hall.now) (g.H.Hall.idle_count c.args.hall.now) 0) (counts n (map g.R.Runner.count c.args.runners.now) (g.H.Hall.count c.args.hall.now) (g.H.Hall.idle_count c.args.hall.now) 0) c.refusal_cause.result) c.faults-after.ensures
    (subst (λ (cause : Cause). FaultEnd (counts c.faults-before.result (map g.R.Runner.count c.args.runners.now) (g.H.Hall.count c.args.hall.now) (g.H.Hall.idle_count c.args.hall.now) 0) (counts c.faults-after.result (map g.R.Runner.count c.args.runners.now) (g.H.Hall.count c.args.hall.now) (g.H.Hall.idle_count c.args.hall.now) 0) cause) (sym c.refusal_cause.ensures) (refused_fault (counts c.faults-before.result (map g.R.Runner.count c.args.runners.now) (g.H.Hall.count c.args.hall.now) (g.H.Hall.idle_count c.args.hall.now) 0) (counts c.faults-after.result (map g.R.Runner.count c.args.runners.now) (g.H.Hall.count c.args.hall.now) (g.H.Hall.idle_count c.args.hall.now) 0) c.in-Err.refusal c.in-Err.ensures.kind (λ is. omega (arith, c.faults-before.ensures, c.faults-after.ensures, c.in-Err.ensures.trace.rose (ap (λ (r : Refusal). let answer : Result Ask Refusal = Err r in answer) is))))))

pub returns-in-Err-clause-legal : goal.returns-in-Err-clause-legal
returns-in-Err-clause-legal g c read =
    absurd (true≢false (sym (rw c.refusal_cause.ensures at read) ∙ (refused_kind (record { before = c.faults-before.result; after = c.faults-after.result }) c.in-Err.refusal c.in-Err.ensures.kind).unread))

pub returns-in-Err-clause-valid : goal.returns-in-Err-clause-valid
returns-in-Err-clause-valid g c read =
    absurd (true≢false (sym (rw c.refusal_cause.ensures at read) ∙ (refused_kind (record { before = c.faults-before.result; after = c.faults-after.result }) c.in-Err.refusal c.in-Err.ensures.kind).unread))

pub returns-in-Err-clause-planned : goal.returns-in-Err-clause-planned
returns-in-Err-clause-planned g c told read =
    absurd (true≢false (sym (rw c.refusal_cause.ensures at read) ∙ (refused_kind (record { before = c.faults-before.result; after = c.faults-after.result }) c.in-Err.refusal c.in-Err.ensures.kind).unread))

pub returns-in-Err-clause-untouched : goal.returns-in-Err-clause-untouched
returns-in-Err-clause-untouched g c told refused =
    c.in-Err.ensures.files told

pub returns-in-Err-clause-quiet : goal.returns-in-Err-clause-quiet
returns-in-Err-clause-quiet g c told refused =
    c.in-Err.ensures.any_moment told

pub returns-in-Err-clause-closed : goal.returns-in-Err-clause-closed
returns-in-Err-clause-closed g c read =
    absurd (true≢false (sym (rw c.refusal_cause.ensures at read) ∙ (refused_kind (record { before = c.faults-before.result; after = c.faults-after.result }) c.in-Err.refusal c.in-Err.ensures.kind).no_end))

pub returns-in-Err-clause-sure : goal.returns-in-Err-clause-sure
returns-in-Err-clause-sure g c local is =
    rw c.refusal_cause.ensures ((refused_kind (record { before = c.faults-before.result; after = c.faults-after.result }) c.in-Err.refusal c.in-Err.ensures.kind).sure)

pub returns-in-Err-clause-failures : goal.returns-in-Err-clause-failures
returns-in-Err-clause-failures g c local =
    record { later = omega arith; rose = λ failed. absurd ((refused_kind (record { before = c.faults-before.result; after = c.faults-after.result }) c.in-Err.refusal c.in-Err.ensures.kind).failed (rw c.refusal_cause.ensures at failed)) }

pub returns-in-Ok-clause-failed : goal.returns-in-Ok-clause-failed
returns-in-Ok-clause-failed g c told ask asked alone H spelled whole =
    let same : c.in-Ok.ask ≡ ask = same_ask c.in-Ok.ask ask (sym (c.in-Ok.ensures.stage told) ∙ asked) in
    let at_ask : Spells H (g.S.Site.files c.args.site c.in-Ok.ask.log) = subst (λ (a : Ask). Spells H (g.S.Site.files c.args.site a.log)) (sym same) spelled in
    c.serve.ensures.failed (ap (λ (a : Ask). a.options.wq) same ∙ alone) told H (subst (λ (fs : Files). Spells H (fs c.in-Ok.ask.log)) (sym (c.in-Ok.ensures.files told)) at_ask) whole

pub returns-in-Ok-clause-due_losses : goal.returns-in-Ok-clause-due_losses
returns-in-Ok-clause-due_losses g c tells told options chosen ask asked H spelled keeps =
    let same : c.in-Ok.ask ≡ ask = same_ask c.in-Ok.ask ask (sym (c.in-Ok.ensures.stage told) ∙ asked) in
    let at_ask : Spells H (g.S.Site.files c.args.site c.in-Ok.ask.log) = subst (λ (a : Ask). Spells H (g.S.Site.files c.args.site a.log)) (sym same) spelled in
    subst (λ (w : Workers). AreDueLosses g.F.Commands.gives g.F.Commands.may_fail g.H.Way.Link.history g.H.Way.Link.count g.H.Way.Link.idle_count g.H.Way.Link.is_closed w.limit (g.H.Hall.got c.args.hall.now) (g.H.Hall.got c.serve.new.hall) H c.serve.result.records) (c.in-Ok.ensures.meets options chosen)
    (c.serve.ensures.due_losses tells told H (subst (λ (fs : Files). Spells H (fs c.in-Ok.ask.log)) (sym (c.in-Ok.ensures.files told)) at_ask) keeps)

pub returns-in-Ok-clause-results : goal.returns-in-Ok-clause-results
returns-in-Ok-clause-results g c tells told ask asked H spelled wq work keeps =
    let same : c.in-Ok.ask ≡ ask = same_ask c.in-Ok.ask ask (sym (c.in-Ok.ensures.stage told) ∙ asked) in
    let at_ask : Spells H (g.S.Site.files c.args.site c.in-Ok.ask.log) = subst (λ (a : Ask). Spells H (g.S.Site.files c.args.site a.log)) (sym same) spelled in
    c.serve.ensures.results tells told H (subst (λ (fs : Files). Spells H (fs c.in-Ok.ask.log)) (sym (c.in-Ok.ensures.files told)) at_ask) (ap (λ (a : Ask). a.options.wq) same ∙ wq) (ap (λ (a : Ask). a.work) same ∙ work) keeps

pub returns-in-Ok-clause-opened : goal.returns-in-Ok-clause-opened
returns-in-Ok-clause-opened g c options chosen ends =
    subst (λ (O : RunOptions). OpensBy O c.serve.result.records) (c.in-Ok.ensures.goes_by options chosen) (c.serve.ensures.opened ends)

pub returns-in-Ok-clause-collects : goal.returns-in-Ok-clause-collects
returns-in-Ok-clause-collects g c options chosen ends =
    subst (λ (P : Plan). RunCollects P (run_mode options.mode) c.serve.result.records) (sym c.serve.ensures.plan)
    (subst (λ (O : RunOptions). RunCollects c.in-Ok.ask.plan O.mode c.serve.result.records) (c.in-Ok.ensures.goes_by options chosen) (c.serve.ensures.collects ends))

pub returns-in-Err-clause-failed : goal.returns-in-Err-clause-failed
returns-in-Err-clause-failed g c told ask asked alone H spelled whole =
    refused_cuts (request c.args.words.now c.args.env.now (g.S.Site.files c.args.site)) ask (record { before = c.faults-before.result; after = c.faults-after.result }) c.in-Err.refusal (c.in-Err.ensures.stage told) asked
    (λ cut. whole (subst (λ (cause : Cause). is_cut (kind_of cause) ≡ true) (sym c.refusal_cause.ensures) cut))

pub returns-in-Err-clause-due_losses : goal.returns-in-Err-clause-due_losses
returns-in-Err-clause-due_losses g c tells told options chosen ask asked H spelled keeps =
    let s : Rise = record { before = c.faults-before.result; after = c.faults-after.result } in
    refused_cuts (request c.args.words.now c.args.env.now (g.S.Site.files c.args.site)) ask s c.in-Err.refusal (c.in-Err.ensures.stage told) asked
    (loses_cut (kind_of (refusal_cause s c.in-Err.refusal)) (subst (λ (cause : Cause). may_lose (kind_of cause) ≡ false) c.refusal_cause.ensures keeps))

pub returns-in-Err-clause-results : goal.returns-in-Err-clause-results
returns-in-Err-clause-results g c tells told ask asked H spelled wq work keeps =
    let s : Rise = record { before = c.faults-before.result; after = c.faults-after.result } in
    refused_cuts (request c.args.words.now c.args.env.now (g.S.Site.files c.args.site)) ask s c.in-Err.refusal (c.in-Err.ensures.stage told) asked
    (loses_cut (kind_of (refusal_cause s c.in-Err.refusal)) (subst (λ (cause : Cause). may_lose (kind_of cause) ≡ false) c.refusal_cause.ensures keeps))

pub returns-in-Err-clause-opened : goal.returns-in-Err-clause-opened
returns-in-Err-clause-opened g c options chosen read =
    absurd (true≢false (sym (rw c.refusal_cause.ensures at read) ∙ (refused_kind (record { before = c.faults-before.result; after = c.faults-after.result }) c.in-Err.refusal c.in-Err.ensures.kind).no_end))

pub returns-in-Err-clause-collects : goal.returns-in-Err-clause-collects
returns-in-Err-clause-collects g c options chosen read =
    absurd (true≢false (sym (rw c.refusal_cause.ensures at read) ∙ (refused_kind (record { before = c.faults-before.result; after = c.faults-after.result }) c.in-Err.refusal c.in-Err.ensures.kind).no_end))

pub returns-in-Ok-clause-spare : goal.returns-in-Ok-clause-spare
returns-in-Ok-clause-spare g c options chosen =
    subst (λ (n : ℕ). drop n c.serve.new.runners ≡ drop n c.args.runners.now) (c.in-Ok.ensures.jobs options chosen) c.serve.ensures.spare

pub returns-in-Ok-clause-sure_links : goal.returns-in-Ok-clause-sure_links
returns-in-Ok-clause-sure_links g c told ask asked H spelled wq work sure links =
    let same : c.in-Ok.ask ≡ ask = same_ask c.in-Ok.ask ask (sym (c.in-Ok.ensures.stage told) ∙ asked) in
    let at_ask : Spells H (g.S.Site.files c.args.site c.in-Ok.ask.log) = subst (λ (a : Ask). Spells H (g.S.Site.files c.args.site a.log)) (sym same) spelled in
    let manned = g.H.Hall.manned c.args.hall.now in
    let before = (counts (g.S.Site.count c.args.site) (map g.R.Runner.count c.args.runners.now) (g.H.Hall.count c.args.hall.now) (g.H.Hall.idle_count c.args.hall.now) 0) in
    let after = (counts (g.S.Site.count c.serve.result.site) (map g.R.Runner.count c.serve.new.runners) (g.H.Hall.count c.serve.new.hall) (g.H.Hall.idle_count c.serve.new.hall) 0) in
    let goes : GoesSurely g.F.Commands.gives (AllTell g.R.Runner.tells c.args.runners.now) (IsMannedFor manned c.in-Ok.ask) c.in-Ok.ask (g.S.Site.files c.read_ask.new.site) (g.S.Site.may_leave c.read_ask.new.site) H before after c.serve.result.records c.serve.result.cause =
    subst (λ (n : ℕ). GoesSurely g.F.Commands.gives (AllTell g.R.Runner.tells c.args.runners.now) (IsMannedFor manned c.in-Ok.ask) c.in-Ok.ask (g.S.Site.files c.read_ask.new.site) (g.S.Site.may_leave c.read_ask.new.site) H (counts n (map g.R.Runner.count c.args.runners.now) (g.H.Hall.count c.args.hall.now) (g.H.Hall.idle_count c.args.hall.now) 0) after c.serve.result.records c.serve.result.cause) c.faults-before.ensures
    (c.serve.ensures.sure_links told H (subst (λ (fs : Files). Spells H (fs c.in-Ok.ask.log)) (sym (c.in-Ok.ensures.files told)) at_ask) (ap (λ (a : Ask). a.options.wq) same ∙ wq) (ap (λ (a : Ask). a.work) same ∙ work) sure links) in
    subst (λ (a : Ask). GoesSurely g.F.Commands.gives (AllTell g.R.Runner.tells c.args.runners.now) (IsMannedFor manned a) a (g.S.Site.files c.args.site) (g.S.Site.may_leave c.args.site) H before after c.serve.result.records c.serve.result.cause) same
    (goes_from g.F.Commands.gives (AllTell g.R.Runner.tells c.args.runners.now) (IsMannedFor manned c.in-Ok.ask) c.in-Ok.ask (g.S.Site.files c.args.site) (g.S.Site.files c.read_ask.new.site) (g.S.Site.may_leave c.args.site) (g.S.Site.may_leave c.read_ask.new.site) H before after c.serve.result.records c.serve.result.cause
    (c.in-Ok.ensures.files told) (c.in-Ok.ensures.crash told) goes)

pub returns-in-Err-clause-sure_links : goal.returns-in-Err-clause-sure_links
returns-in-Err-clause-sure_links g c told ask asked H spelled wq work sure links =
    let manned = IsMannedFor (g.H.Hall.manned c.args.hall.now) ask in
    subst (λ (n : ℕ). GoesSurely g.F.Commands.gives (AllTell g.R.Runner.tells c.args.runners.now) manned ask (g.S.Site.files c.args.site) (g.S.Site.may_leave c.args.site) H (counts n (map g.R.Runner.count c.args.runners.now) (g.H.Hall.count c.args.hall.now) (g.H.Hall.idle_count c.args.hall.now) 0) (counts (g.S.Site.count c.read_ask.new.site) (map g.R.Runner.count c.args.runners.now) (g.H.Hall.count c.args.hall.now) (g.H.Hall.idle_count c.args.hall.now) 0) c.new.result c.refusal_cause.result) c.faults-before.ensures
    (subst (λ (n : ℕ). GoesSurely g.F.Commands.gives (AllTell g.R.Runner.tells c.args.runners.now) manned ask (g.S.Site.files c.args.site) (g.S.Site.may_leave c.args.site) H (counts c.faults-before.result (map g.R.Runner.count c.args.runners.now) (g.H.Hall.count c.args.hall.now) (g.H.Hall.idle_count c.args.hall.now) 0) (counts n (map g.R.Runner.count c.args.runners.now) (g.H.Hall.count c.args.hall.now) (g.H.Hall.idle_count c.args.hall.now) 0) c.new.result c.refusal_cause.result) c.faults-after.ensures
    (subst (λ (cause : Cause). GoesSurely g.F.Commands.gives (AllTell g.R.Runner.tells c.args.runners.now) manned ask (g.S.Site.files c.args.site) (g.S.Site.may_leave c.args.site) H (counts c.faults-before.result (map g.R.Runner.count c.args.runners.now) (g.H.Hall.count c.args.hall.now) (g.H.Hall.idle_count c.args.hall.now) 0) (counts c.faults-after.result (map g.R.Runner.count c.args.runners.now) (g.H.Hall.count c.args.hall.now) (g.H.Hall.idle_count c.args.hall.now) 0) c.new.result cause) (sym c.refusal_cause.ensures)
    (goes_refused g.F.Commands.gives (AllTell g.R.Runner.tells c.args.runners.now) manned ask (g.S.Site.files c.args.site) (g.S.Site.may_leave c.args.site) H (counts c.faults-before.result (map g.R.Runner.count c.args.runners.now) (g.H.Hall.count c.args.hall.now) (g.H.Hall.idle_count c.args.hall.now) 0) (counts c.faults-after.result (map g.R.Runner.count c.args.runners.now) (g.H.Hall.count c.args.hall.now) (g.H.Hall.idle_count c.args.hall.now) 0) c.new.result
    c.in-Err.refusal (request c.args.words.now c.args.env.now (g.S.Site.files c.args.site)) (c.in-Err.ensures.stage told) asked (λ is. omega (arith, c.faults-before.ensures, c.faults-after.ensures, c.in-Err.ensures.trace.rose (ap (λ (r : Refusal). let answer : Result Ask Refusal = Err r in answer) is))))))

pub returns-in-Ok-clause-leaves : goal.returns-in-Ok-clause-leaves
returns-in-Ok-clause-leaves g c options chosen work =
    let of : c.in-Ok.ask ≡ ask_of options c.in-Ok.ask.plan = c.in-Ok.ensures.asked options chosen in
    let so : c.in-Ok.ask ≡ ask_of options c.serve.result.plan = of ∙ ap (ask_of options) (sym c.serve.ensures.plan) in
    subst (λ (a : Ask). RunLeaves (λ (past : List Record). g.S.Site.tells → AreLogged (request c.args.words.now c.args.env.now (g.S.Site.files c.args.site)) (g.S.Site.files c.args.site) past) g.H.Way.Link.tells (g.H.Hall.listens c.serve.new.hall) g.F.Commands.gives g.F.Commands.may_fail g.H.Way.Link.history g.H.Way.Link.count g.H.Way.Link.idle_count g.H.Way.Link.is_closed g.Q.Made.Admission.admitted a (g.H.Hall.idle_count c.serve.new.hall - g.H.Hall.idle_count c.args.hall.now) (g.H.Hall.got c.args.hall.now) (g.H.Hall.got c.serve.new.hall) c.serve.result.records c.serve.result.cause) so
    (leaves_less g.Q.Made.Admission.admitted (λ (past : List Record). g.S.Site.tells → Spells past (g.S.Site.files c.read_ask.new.site c.in-Ok.ask.log)) g.H.Way.Link.tells (g.H.Hall.listens c.serve.new.hall) g.F.Commands.gives g.F.Commands.may_fail g.H.Way.Link.history g.H.Way.Link.count g.H.Way.Link.idle_count g.H.Way.Link.is_closed c.in-Ok.ask (g.H.Hall.idle_count c.serve.new.hall - g.H.Hall.idle_count c.args.hall.now) (g.H.Hall.got c.args.hall.now) (g.H.Hall.got c.serve.new.hall)
    (λ (past : List Record). g.S.Site.tells → AreLogged (request c.args.words.now c.args.env.now (g.S.Site.files c.args.site)) (g.S.Site.files c.args.site) past) c.serve.result.records c.serve.result.cause
    (λ past spelled told ask asked.
    subst (λ (a : Ask). Spells past (g.S.Site.files c.args.site a.log)) (same_ask c.in-Ok.ask ask (sym (c.in-Ok.ensures.stage told) ∙ asked))
    (subst (λ (fs : Files). Spells past (fs c.in-Ok.ask.log)) (c.in-Ok.ensures.files told) (spelled told)))
    (c.serve.ensures.leaves (ap (λ (a : Ask). a.work) of ∙ work)))

pub returns-in-Err-clause-leaves : goal.returns-in-Err-clause-leaves
returns-in-Err-clause-leaves g c options chosen work =
    let s : Rise = record { before = c.faults-before.result; after = c.faults-after.result } in
    subst (λ (cause : Cause). RunLeaves (λ (past : List Record). g.S.Site.tells → AreLogged (request c.args.words.now c.args.env.now (g.S.Site.files c.args.site)) (g.S.Site.files c.args.site) past) g.H.Way.Link.tells (g.H.Hall.listens c.args.hall.now) g.F.Commands.gives g.F.Commands.may_fail g.H.Way.Link.history g.H.Way.Link.count g.H.Way.Link.idle_count g.H.Way.Link.is_closed g.Q.Made.Admission.admitted (ask_of options c.no_plan.result) (g.H.Hall.idle_count c.args.hall.now - g.H.Hall.idle_count c.args.hall.now) (g.H.Hall.got c.args.hall.now) (g.H.Hall.got c.args.hall.now) c.new.result cause) (sym c.refusal_cause.ensures)
    (subst (λ (xs : List Record). RunLeaves (λ (past : List Record). g.S.Site.tells → AreLogged (request c.args.words.now c.args.env.now (g.S.Site.files c.args.site)) (g.S.Site.files c.args.site) past) g.H.Way.Link.tells (g.H.Hall.listens c.args.hall.now) g.F.Commands.gives g.F.Commands.may_fail g.H.Way.Link.history g.H.Way.Link.count g.H.Way.Link.idle_count g.H.Way.Link.is_closed g.Q.Made.Admission.admitted (ask_of options c.no_plan.result) (g.H.Hall.idle_count c.args.hall.now - g.H.Hall.idle_count c.args.hall.now) (g.H.Hall.got c.args.hall.now) (g.H.Hall.got c.args.hall.now) xs (refusal_cause s c.in-Err.refusal)) (sym c.new.ensures)
    (refused_leaves g.Q.Made.Admission.admitted (λ (past : List Record). g.S.Site.tells → AreLogged (request c.args.words.now c.args.env.now (g.S.Site.files c.args.site)) (g.S.Site.files c.args.site) past) g.H.Way.Link.tells (g.H.Hall.listens c.args.hall.now) g.F.Commands.gives g.F.Commands.may_fail g.H.Way.Link.history g.H.Way.Link.count g.H.Way.Link.idle_count g.H.Way.Link.is_closed (ask_of options c.no_plan.result) (g.H.Hall.idle_count c.args.hall.now - g.H.Hall.idle_count c.args.hall.now) (g.H.Hall.got c.args.hall.now) (g.H.Hall.got c.args.hall.now) s c.in-Err.refusal c.in-Err.ensures.kind refl))
