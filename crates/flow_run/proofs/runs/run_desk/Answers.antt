use Rattle.std.proofs.Common.{◌≡◌, ◌≤◌, ◌∙◌, ◌-◌, ℕ, false, List, ap, subst, sym}
use Rattle.std.specs.Prelude.{sum_by, IfOk, None, OnOk, length}
use Rattle.flow_types.specs.declared.records.Record.{Record}
use Rattle.run_history.specs.declared.options.Options.{Options}
use Rattle.run_history.specs.Answers.{before_end, end_over, passes_inputs}
use Rattle.run_history.specs.Links.{records_of}
use Rattle.outside.specs.Disk.{IsImage}
use Rattle.flow_types.specs.declared.plan.Plan.{Plan}
use Rattle.run_history.specs.Storage.{running_rules}
use Rattle.desk.specs.Admitted.{AreAdmitted}
use Rattle.desk.specs.Kept.{Fits, IsLegal}
use Rattle.desk.proofs.Named.{named}
use Rattle.local_run.specs.Added.{RunAdds}
use Rattle.local_run.specs.Collecting.{IsUntouched}
use Rattle.local_run.specs.Course.{IsUnmade, LeavesAlone}
use Rattle.local_run.specs.Ends.{IsApart, LogsFailures, RunDamage}
use Rattle.local_run.specs.Runs.{HasCauses, LosesNone}
use Rattle.local_run.proofs.Alone.{alone_less}
use Rattle.local_run.proofs.Collecting.{unmade_untouched}
use Rattle.local_run.proofs.Completed.{inputs_fit}
use Rattle.local_run.proofs.Modes.{are_gone, collects_by, run_collects}
use Rattle.local_run.proofs.Results.{adds_records, is_kept}
use Rattle.local_run.proofs.Going.{goes_records}
use Rattle.local_run.proofs.Openings.{opens_on}
use Rattle.wq_run.specs.Ends.{EndsHere, EndsWaiting, LosesOnLinks}
use Rattle.wq_run.specs.Calm.{GoesWell}
use Rattle.wq_run.specs.Losses.{AreDueLosses}
use Rattle.wq_run.specs.Results.{AreResults}
use Rattle.wq_run.specs.Vain.{AreVain, IfWaited}
use Rattle.flow_run.proofs.Placed.{placed_by}
use Rattle.flow_run.proofs.Reaching.{reached_whole}
use Rattle.flow_run.proofs.Stops.{causes_stop, fine_stop, hall_stop, started_stop, starts_stop, stop_kept, waits_logged}
use Rattle.flow_run.proofs.runs.run_desk.Goals as goal

pub returns-clause-more : goal.returns-clause-more
returns-clause-more g c = adds_records g.T.Terms.trust g.F.Commands.gives g.F.Commands.may_fail g.T.Terms.sources g.S.Site.tells g.S.Site.files g.S.Site.may_leave g.S.Site.moment g.S.Site.images_since c.work-how.ensures.goes.0 c.args.desk c.work-how.new.desk c.into_parts-site.result.1 c.into_parts-site.ensures.records c.work-how.ensures.goes.1

pub returns-clause-kept : goal.returns-clause-kept
returns-clause-kept g c told kept image left =
    stop_kept (Fits g.T.Terms.trust g.F.Commands.gives g.T.Terms.sources) c.args.desk c.work-how.new.desk c.into_parts-site.result.1 g.T.Terms.trust g.F.Commands.gives g.F.Commands.may_fail g.T.Terms.sources g.S.Site.tells g.S.Site.files g.S.Site.may_leave g.S.Site.moment g.S.Site.images_since c.work-how.ensures.goes.0 (g.T.Terms.before image) (sum_by g.R.Runner.count c.args.runners.now) (sum_by g.R.Runner.count c.work-how.new.runners) (g.H.Hall.count c.args.hall.now) (g.H.Hall.count c.work-how.new.hall) c.work-how.result image
    c.into_parts-site.ensures.records c.work-how.ensures.goes.1 c.work-how.ensures.stops
    (c.works-works.ensures.kept told kept image (subst (λ (s : g.row.S.Denot). g.S.Site.images_since s g.T.Terms.born image) c.into_parts-site.ensures.site left))

pub returns-clause-now : goal.returns-clause-now
returns-clause-now g c told kept whole image now =
    is_kept (Fits g.T.Terms.trust g.F.Commands.gives g.T.Terms.sources) c.args.desk c.work-how.new.desk c.into_parts-site.result.1 g.T.Terms.trust g.F.Commands.gives g.F.Commands.may_fail g.T.Terms.sources g.S.Site.tells g.S.Site.files g.S.Site.may_leave g.S.Site.moment g.S.Site.images_since c.work-how.ensures.goes.0 image c.into_parts-site.ensures.records c.work-how.ensures.goes.1
    (c.works-works.ensures.now told kept (fine_stop c.work-how.new.desk.trouble (sum_by g.R.Runner.count c.args.runners.now) (sum_by g.R.Runner.count c.work-how.new.runners) (g.H.Hall.count c.args.hall.now) (g.H.Hall.count c.work-how.new.hall) c.work-how.result c.work-how.ensures.stops whole)
    image (subst (λ (s : g.row.S.Denot). IsImage (g.S.Site.may_leave s) image) c.into_parts-site.ensures.site now))

pub returns-clause-added : goal.returns-clause-added
returns-clause-added g c =
    subst (λ (G : List Record). RunAdds (records_of c.args.desk.moves) G c.work-how.result) (sym c.into_parts-site.ensures.records) c.work-how.ensures.added

pub returns-clause-legal : goal.returns-clause-legal
returns-clause-legal g c = subst (λ (P : Plan). IsLegal P c.into_parts-site.result.1) c.work-how.ensures.goes.1.plan (subst (IsLegal c.work-how.new.desk.plan) (sym c.into_parts-site.ensures.records) c.into_parts-site.ensures.legal)

pub returns-clause-idle : goal.returns-clause-idle
returns-clause-idle g c whole =
    subst (λ (P : Plan). length (running_rules P c.into_parts-site.result.1) ≤ 0) c.work-how.ensures.goes.1.plan
    (subst (λ (G : List Record). length (running_rules c.work-how.new.desk.plan G) ≤ 0) (sym c.into_parts-site.ensures.records)
    (c.work-how.ensures.idle (fine_stop c.work-how.new.desk.trouble (sum_by g.R.Runner.count c.args.runners.now) (sum_by g.R.Runner.count c.work-how.new.runners) (g.H.Hall.count c.args.hall.now) (g.H.Hall.count c.work-how.new.hall) c.work-how.result c.work-how.ensures.stops whole)))

pub returns-clause-causes : goal.returns-clause-causes
returns-clause-causes g c =
    subst (λ (s : g.row.S.Denot). HasCauses c.args.desk.faults (g.S.Site.count s) (sum_by g.R.Runner.count c.args.runners.now) (sum_by g.R.Runner.count c.work-how.new.runners) c.work-how.result) (sym c.into_parts-site.ensures.site)
    (subst (λ (n : ℕ). HasCauses n (g.S.Site.count c.work-how.new.desk.site) (sum_by g.R.Runner.count c.args.runners.now) (sum_by g.R.Runner.count c.work-how.new.runners) c.work-how.result) c.work-how.ensures.goes.1.faults
    (causes_stop c.work-how.new.desk.faults (g.S.Site.count c.work-how.new.desk.site) (sum_by g.R.Runner.count c.args.runners.now) (sum_by g.R.Runner.count c.work-how.new.runners) (g.H.Hall.count c.args.hall.now) (g.H.Hall.count c.work-how.new.hall) c.work-how.new.desk.trouble c.work-how.result c.work-how.ensures.stops c.works-works.ensures.counts))

pub returns-clause-lost : goal.returns-clause-lost
returns-clause-lost g c alone H began =
    subst (λ (G : List Record). OnOk c.work-how.result (LosesNone (records_of c.args.desk.moves) G)) (sym c.into_parts-site.ensures.records) (c.work-how.ensures.lost alone H began)

pub returns-clause-lost_away : goal.returns-clause-lost_away
returns-clause-lost_away g c =
    subst (λ (G : List Record). OnOk c.work-how.result (LosesOnLinks (records_of c.args.desk.moves) G)) (sym c.into_parts-site.ensures.records) c.work-how.ensures.lost_away

pub returns-clause-due_losses : goal.returns-clause-due_losses
returns-clause-due_losses g c away tells unjoined =
    subst (λ (G : List Record). OnOk c.work-how.result (AreDueLosses g.F.Commands.gives g.F.Commands.may_fail g.H.Way.Link.history g.H.Way.Link.count g.H.Way.Link.idle_count g.H.Way.Link.is_closed c.args.workers.limit (g.H.Hall.got c.args.hall.now) (g.H.Hall.got c.work-how.new.hall) (records_of c.args.desk.moves) G)) (sym c.into_parts-site.ensures.records) (c.work-how.ensures.due_losses away tells unjoined)

pub returns-clause-results : goal.returns-clause-results
returns-clause-results g c away tells =
    subst (λ (G : List Record). OnOk c.work-how.result (AreResults g.H.Way.Link.history (g.H.Hall.got c.args.hall.now) (g.H.Hall.got c.work-how.new.hall) (records_of c.args.desk.moves) G)) (sym c.into_parts-site.ensures.records) (c.work-how.ensures.results away tells)

pub returns-clause-ends : goal.returns-clause-ends
returns-clause-ends g c alone =
    subst (λ (G : List Record). IfOk c.work-how.result (λ check. check ≡ end_over c.args.desk.plan c.args.desk.options (before_end G) None)) (sym c.into_parts-site.ensures.records)
    (subst (λ (P : Plan). IfOk c.work-how.result (λ check. check ≡ end_over P c.args.desk.options (before_end (records_of c.work-how.new.desk.moves)) None)) c.work-how.ensures.goes.1.plan
    (subst (λ (O : Options). IfOk c.work-how.result (λ check. check ≡ end_over c.work-how.new.desk.plan O (before_end (records_of c.work-how.new.desk.moves)) None)) c.work-how.ensures.goes.1.options (c.work-how.ensures.ends alone)))

pub returns-clause-waited : goal.returns-clause-waited
returns-clause-waited g c apart =
    let limit = c.args.workers.limit in
    let rise = g.H.Hall.idle_count c.work-how.new.hall - g.H.Hall.idle_count c.args.hall.now in
    subst (λ (G : List Record). IfOk c.work-how.result (EndsWaiting g.A.Admission.admitted c.args.desk.plan c.args.desk.options limit rise G)) (sym c.into_parts-site.ensures.records)
    (subst (λ (P : Plan). IfOk c.work-how.result (EndsWaiting g.A.Admission.admitted P c.args.desk.options limit rise (records_of c.work-how.new.desk.moves))) c.work-how.ensures.goes.1.plan
    (subst (λ (O : Options). IfOk c.work-how.result (EndsWaiting g.A.Admission.admitted c.work-how.new.desk.plan O limit rise (records_of c.work-how.new.desk.moves))) c.work-how.ensures.goes.1.options
    (waits_logged g.A.Admission.admitted c.work-how.new.desk.plan c.work-how.new.desk.options limit rise c.work-how.new.desk.moves c.work-how.result (c.work-how.ensures.waited apart))))

pub returns-clause-vain : goal.returns-clause-vain
returns-clause-vain g c away tells unjoined =
    let how = c.work-how.result in
    let new = c.work-how.new.desk in
    let got = g.H.Hall.got c.args.hall.now in
    let got_now = g.H.Hall.got c.work-how.new.hall in
    subst (λ (G : List Record). IfOk how (λ check. IfWaited check (AreVain g.F.Commands.gives g.F.Commands.may_fail g.H.Way.Link.history g.H.Way.Link.count g.H.Way.Link.idle_count g.H.Way.Link.is_closed c.args.workers.limit g.A.Admission.admitted c.args.desk.plan c.args.desk.options (before_end G) got got_now))) (sym c.into_parts-site.ensures.records)
    (subst (λ (P : Plan). IfOk how (λ check. IfWaited check (AreVain g.F.Commands.gives g.F.Commands.may_fail g.H.Way.Link.history g.H.Way.Link.count g.H.Way.Link.idle_count g.H.Way.Link.is_closed c.args.workers.limit g.A.Admission.admitted P c.args.desk.options (before_end (records_of new.moves)) got got_now))) c.work-how.ensures.goes.1.plan
    (subst (λ (O : Options). IfOk how (λ check. IfWaited check (AreVain g.F.Commands.gives g.F.Commands.may_fail g.H.Way.Link.history g.H.Way.Link.count g.H.Way.Link.idle_count g.H.Way.Link.is_closed c.args.workers.limit g.A.Admission.admitted new.plan O (before_end (records_of new.moves)) got got_now))) c.work-how.ensures.goes.1.options
    (c.work-how.ensures.vain away tells unjoined)))

pub returns-clause-others : goal.returns-clause-others
returns-clause-others g c told =
    subst (λ (s : g.row.S.Denot). LeavesAlone g.S.Site.files g.S.Site.may_leave g.S.Site.moment g.S.Site.images_since (IsUnmade c.args.desk.plan c.args.desk.log) c.args.desk.site s) (sym c.into_parts-site.ensures.site)
    (let alone = c.work-how.ensures.goes.1.others told in
    alone_less g.S.Site.files g.S.Site.may_leave g.S.Site.moment g.S.Site.images_since (IsUntouched c.args.desk.plan c.args.desk.log (records_of c.args.desk.moves)) (IsUnmade c.args.desk.plan c.args.desk.log) c.args.desk.site c.work-how.new.desk.site
    (unmade_untouched c.args.desk.plan c.args.desk.log (records_of c.args.desk.moves)) alone.crash alone.reads)

pub returns-clause-starts : goal.returns-clause-starts
returns-clause-starts g c = starts_stop c.work-how.new.desk.trouble (sum_by g.R.Runner.count c.args.runners.now) (sum_by g.R.Runner.count c.work-how.new.runners) (g.H.Hall.count c.args.hall.now) (g.H.Hall.count c.work-how.new.hall) c.work-how.result c.work-how.ensures.stops

pub returns-clause-started : goal.returns-clause-started
returns-clause-started g c refused = started_stop c.work-how.new.desk.trouble (sum_by g.R.Runner.count c.args.runners.now) (sum_by g.R.Runner.count c.work-how.new.runners) (g.H.Hall.count c.args.hall.now) (g.H.Hall.count c.work-how.new.hall) c.work-how.result c.work-how.ensures.stops refused

pub returns-clause-hall : goal.returns-clause-hall
returns-clause-hall g c is = (c.work-how.ensures.hall is, hall_stop c.work-how.new.desk.trouble (sum_by g.R.Runner.count c.args.runners.now) (sum_by g.R.Runner.count c.work-how.new.runners) (g.H.Hall.count c.args.hall.now) (g.H.Hall.count c.work-how.new.hall) c.work-how.result c.work-how.ensures.stops is)

pub returns-clause-damage : goal.returns-clause-damage
returns-clause-damage g c told apart =
    let d = c.args.desk in
    let new = c.work-how.new.desk in
    let goes = c.work-how.ensures.goes.1 in
    subst (λ (P : Plan). RunDamage P c.into_parts-site.result.1 (g.S.Site.files c.into_parts-site.result.0) c.work-how.result) goes.plan
    (subst (λ (G : List Record). RunDamage new.plan G (g.S.Site.files c.into_parts-site.result.0) c.work-how.result) (sym c.into_parts-site.ensures.records)
    (subst (λ (s : g.row.S.Denot). RunDamage new.plan (records_of new.moves) (g.S.Site.files s) c.work-how.result) (sym c.into_parts-site.ensures.site)
    (c.work-how.ensures.damage told (subst (λ (P : Plan). IsApart P new.log) (sym goes.plan) (subst (λ (n : List ℕ). IsApart d.plan n) (sym goes.log) apart)))))

pub returns-clause-failures : goal.returns-clause-failures
returns-clause-failures g c alone closed =
    subst (λ (G : List Record). LogsFailures (records_of c.args.desk.moves) G (sum_by g.R.Runner.failures c.args.runners.now) (sum_by g.R.Runner.failures c.work-how.new.runners)) (sym c.into_parts-site.ensures.records)
    (c.work-how.ensures.failures alone closed)

pub returns-clause-modes : goal.returns-clause-modes
returns-clause-modes g c H began =
    collects_by g.T.Terms.trust g.F.Commands.gives g.F.Commands.may_fail g.T.Terms.sources g.S.Site.tells g.S.Site.files g.S.Site.may_leave g.S.Site.moment g.S.Site.images_since c.work-how.ensures.goes.0 c.args.desk c.work-how.new.desk c.work-how.ensures.goes.1 H c.into_parts-site.result.1 began c.into_parts-site.ensures.records c.works-works.ensures.serves

pub returns-clause-places : goal.returns-clause-places
returns-clause-places g c H began =
    placed_by g.T.Terms.trust g.F.Commands.gives g.F.Commands.may_fail g.T.Terms.sources g.S.Site.tells g.S.Site.files g.S.Site.may_leave g.S.Site.moment g.S.Site.images_since c.work-how.ensures.goes.0 c.args.desk c.work-how.new.desk c.work-how.ensures.goes.1 H c.into_parts-site.result.1 began c.into_parts-site.ensures.records c.works-works.ensures.serves

pub returns-clause-admitted : goal.returns-clause-admitted
returns-clause-admitted g c =
    let d = c.args.desk in
    let new = c.work-how.new.desk in
    let goes = c.work-how.ensures.goes.1 in
    subst (λ (P : Plan). AreAdmitted g.A.Admission.admitted P d.options c.into_parts-site.result.1 d.base) goes.plan
    (subst (λ (O : Options). AreAdmitted g.A.Admission.admitted new.plan O c.into_parts-site.result.1 d.base) goes.options
    (subst (λ (n : ℕ). AreAdmitted g.A.Admission.admitted new.plan new.options c.into_parts-site.result.1 n) goes.base
    (subst (λ (G : List Record). AreAdmitted g.A.Admission.admitted new.plan new.options G new.base) (sym c.into_parts-site.ensures.records) c.works-works.ensures.admitted)))

pub returns-clause-gone : goal.returns-clause-gone
returns-clause-gone g c told whole apart =
    are_gone g.T.Terms.trust g.F.Commands.gives g.F.Commands.may_fail g.T.Terms.sources g.S.Site.tells g.S.Site.files g.S.Site.may_leave g.S.Site.moment g.S.Site.images_since c.work-how.ensures.goes.0 c.args.desk c.work-how.new.desk c.work-how.ensures.goes.1 c.into_parts-site.result.1 c.into_parts-site.result.0 told (fine_stop c.work-how.new.desk.trouble (sum_by g.R.Runner.count c.args.runners.now) (sum_by g.R.Runner.count c.work-how.new.runners) (g.H.Hall.count c.args.hall.now) (g.H.Hall.count c.work-how.new.hall) c.work-how.result c.work-how.ensures.stops whole)
    apart (named c.args.desk.plan c.requires.valid) c.into_parts-site.ensures.records c.into_parts-site.ensures.site

pub returns-clause-collects : goal.returns-clause-collects
returns-clause-collects g c H began =
    run_collects g.T.Terms.trust g.F.Commands.gives g.F.Commands.may_fail g.T.Terms.sources g.S.Site.tells g.S.Site.files g.S.Site.may_leave g.S.Site.moment g.S.Site.images_since c.work-how.ensures.goes.0 c.args.desk c.work-how.new.desk c.work-how.ensures.goes.1 H c.into_parts-site.result.1 began c.into_parts-site.ensures.records c.works-works.ensures.serves

pub returns-clause-opened : goal.returns-clause-opened
returns-clause-opened g c O opens =
    opens_on O (records_of c.args.desk.moves) c.work-how.ensures.goes.1.more c.into_parts-site.result.1 opens
    (c.into_parts-site.ensures.records ∙ goes_records g.T.Terms.trust g.F.Commands.gives g.F.Commands.may_fail g.T.Terms.sources g.S.Site.tells g.S.Site.files g.S.Site.may_leave g.S.Site.moment g.S.Site.images_since c.work-how.ensures.goes.0 c.args.desk c.work-how.new.desk c.work-how.ensures.goes.1) c.work-how.ensures.goes.1.anew

pub returns-clause-calm : goal.returns-clause-calm
returns-clause-calm g c away tells unjoined sure all few = subst (λ (G : List Record). OnOk c.work-how.result (GoesWell (records_of c.args.desk.moves) G)) (sym c.into_parts-site.ensures.records) (c.work-how.ensures.calm away tells unjoined sure all few)

pub returns-clause-reaches : goal.returns-clause-reaches
returns-clause-reaches g c away tells quiet sure all few told kept trusted fit room =
    let d = c.args.desk in
    let new = c.work-how.new.desk in
    let goes = c.work-how.ensures.goes.1 in
    let how = c.work-how.result in
    let records : c.into_parts-site.result.1 ≡ records_of new.moves = c.into_parts-site.ensures.records in
    let legal : IsLegal d.plan (records_of new.moves) = subst (λ (P : Plan). IsLegal P (records_of new.moves)) goes.plan c.into_parts-site.ensures.legal in
    let ends : IfOk how (EndsHere g.A.Admission.admitted d.plan d.options c.args.workers.limit (g.H.Hall.idle_count c.work-how.new.hall - g.H.Hall.idle_count c.args.hall.now) new.moves) =
    subst (λ (P : Plan). IfOk how (EndsHere g.A.Admission.admitted P d.options c.args.workers.limit (g.H.Hall.idle_count c.work-how.new.hall - g.H.Hall.idle_count c.args.hall.now) new.moves)) goes.plan
    (subst (λ (O : Options). IfOk how (EndsHere g.A.Admission.admitted new.plan O c.args.workers.limit (g.H.Hall.idle_count c.work-how.new.hall - g.H.Hall.idle_count c.args.hall.now) new.moves)) goes.options (c.work-how.ensures.waited away)) in
    (reached_whole g.A.Admission.admitted d.plan d.options c.args.workers.limit (g.H.Hall.idle_count c.work-how.new.hall - g.H.Hall.idle_count c.args.hall.now) d.moves new.moves goes.more how
    (goes_records g.T.Terms.trust g.F.Commands.gives g.F.Commands.may_fail g.T.Terms.sources g.S.Site.tells g.S.Site.files g.S.Site.may_leave g.S.Site.moment g.S.Site.images_since c.work-how.ensures.goes.0 d new goes) goes.anew c.requires.fresh legal ends
    (c.work-how.ensures.calm away tells quiet sure all few)
    (λ whole r. ap (λ (G : List Record). passes_inputs d.plan G r) (sym records)
    ∙ inputs_fit g.T.Terms.trust d.plan g.F.Commands.gives g.T.Terms.sources d.log c.into_parts-site.result.1 (g.S.Site.files c.into_parts-site.result.0) trusted
    (returns-clause-now g c told kept whole (g.S.Site.files c.into_parts-site.result.0) ((g.met.S.Site g.world.𝓛 g.world.𝓜 g.world.𝓡 ((λ s x. x), (λ x. x), (λ x. x), λ x. x)).reads_image told c.into_parts-site.result.0)) fit r) room).0

pub returns-clause-manned : goal.returns-clause-manned
returns-clause-manned g c away least tells quiet sure manned all few once needs told kept trusted fit room =
    let d = c.args.desk in
    let new = c.work-how.new.desk in
    let goes = c.work-how.ensures.goes.1 in
    let how = c.work-how.result in
    let records : c.into_parts-site.result.1 ≡ records_of new.moves = c.into_parts-site.ensures.records in
    let legal : IsLegal d.plan (records_of new.moves) = subst (λ (P : Plan). IsLegal P (records_of new.moves)) goes.plan c.into_parts-site.ensures.legal in
    let ends : IfOk how (EndsHere g.A.Admission.admitted d.plan d.options c.args.workers.limit (g.H.Hall.idle_count c.work-how.new.hall - g.H.Hall.idle_count c.args.hall.now) new.moves) =
    subst (λ (P : Plan). IfOk how (EndsHere g.A.Admission.admitted P d.options c.args.workers.limit (g.H.Hall.idle_count c.work-how.new.hall - g.H.Hall.idle_count c.args.hall.now) new.moves)) goes.plan
    (subst (λ (O : Options). IfOk how (EndsHere g.A.Admission.admitted new.plan O c.args.workers.limit (g.H.Hall.idle_count c.work-how.new.hall - g.H.Hall.idle_count c.args.hall.now) new.moves)) goes.options (c.work-how.ensures.waited away)) in
    let never : IfOk how (λ check. IfWaited check (((r : ℕ) → passes_inputs d.plan (before_end (records_of new.moves)) r ≡ false) → ⊥)) =
    subst (λ (P : Plan). IfOk how (λ check. IfWaited check (((r : ℕ) → passes_inputs P (before_end (records_of new.moves)) r ≡ false) → ⊥))) goes.plan (c.work-how.ensures.manned away least tells quiet sure manned all few once needs) in
    (reached_whole g.A.Admission.admitted d.plan d.options c.args.workers.limit (g.H.Hall.idle_count c.work-how.new.hall - g.H.Hall.idle_count c.args.hall.now) d.moves new.moves goes.more how
    (goes_records g.T.Terms.trust g.F.Commands.gives g.F.Commands.may_fail g.T.Terms.sources g.S.Site.tells g.S.Site.files g.S.Site.may_leave g.S.Site.moment g.S.Site.images_since c.work-how.ensures.goes.0 d new goes) goes.anew c.requires.fresh legal ends
    (c.work-how.ensures.calm away tells quiet sure all few)
    (λ whole r. ap (λ (G : List Record). passes_inputs d.plan G r) (sym records)
    ∙ inputs_fit g.T.Terms.trust d.plan g.F.Commands.gives g.T.Terms.sources d.log c.into_parts-site.result.1 (g.S.Site.files c.into_parts-site.result.0) trusted
    (returns-clause-now g c told kept whole (g.S.Site.files c.into_parts-site.result.0) ((g.met.S.Site g.world.𝓛 g.world.𝓜 g.world.𝓡 ((λ s x. x), (λ x. x), (λ x. x), λ x. x)).reads_image told c.into_parts-site.result.0)) fit r) room).1 never
