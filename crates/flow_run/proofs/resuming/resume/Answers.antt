use Rattle.std.proofs.Common.{◌≡◌, ◌∙◌, arith, ◌⊎◌, ⊎_elim, inl, inr, List, [], length, ap, sym, subst}
use Rattle.std.specs.Prelude.{OnOk, sum_by}
use Rattle.flow_types.specs.Serial.{Contents, serial}
use Rattle.file_store.specs.Outputs.{file_name}
use Rattle.desk.specs.Admitted.{AreAdmitted}
use Rattle.desk.specs.Kept.{WasKept}
use Rattle.worker_pool.specs.Crews.{AllTell}
use Rattle.local_run.specs.Added.{AddsRun}
use Rattle.local_run.specs.Completing.{HasRecordRoom, SerialInputsFit}
use Rattle.local_run.specs.Collecting.{AreGone, CollectsBy}
use Rattle.local_run.specs.Course.{TellsJobs}
use Rattle.local_run.specs.Ends.{LogsFailures}
use Rattle.local_run.specs.Moments.{IsBefore, IsMoment}
use Rattle.flow_types.specs.declared.records.Record.{Record}
use Rattle.txn_log.specs.Spells.{Spells}
use Rattle.local_run.specs.Runs.{Adds, BeginsWith, Held, IsCutRun, IsStanding, LosesNone, SerialFits, read_sources}
use Rattle.local_run.proofs.Results.{causes_since, on_ok}
use Rattle.local_run.proofs.Starts.{fault_joined, starts_joined}
use Rattle.local_run.proofs.Joining.{each_moment, goes_on_from, is_named, keeping, others_joined, reads_joined}
use Rattle.log_recover.specs.Recovery.{IsDamage, IsRecovering}
use Rattle.outside.specs.Disk.{LeavesOnly}
use Rattle.outside.proofs.Moments.{weakened}
use Rattle.local_run.proofs.Refused.{damage_told, early_over, reads_same}
use Rattle.wq_run.specs.Ends.{LosesOnLinks}
use Rattle.wq_run.specs.Calm.{GoesWell}
use Rattle.wq_run.specs.Losses.{AreDueLosses}
use Rattle.wq_run.specs.Results.{AreResults}
use Rattle.flow_run.specs.Places.{PlacedBy}
use Rattle.flow_run.proofs.resuming.resume.Goals as goal

pub returns-in-Ok-clause-moments : goal.returns-in-Ok-clause-moments
returns-in-Ok-clause-moments g c told H spelled resumable image left =
    each_moment g.S.Site.may_leave g.S.Site.moment g.S.Site.images_since c.args.plan c.args.name c.in-Ok.log.name c.in-Ok.ensures.named.same_name c.in-Ok.history H (c.in-Ok.ensures.exact told H spelled) (g.S.Site.files c.args.site) c.args.site c.recover.new.site Held c.run.result.records (IsCutRun c.run.result.how) g.B.Born.born image (c.requires.later told)
    (c.recover.ensures.any_moment told) (c.run.ensures.kept told (keeping g.S.Site.may_leave g.S.Site.moment g.S.Site.images_since c.args.plan c.args.name c.in-Ok.log.name c.in-Ok.ensures.named.same_name c.in-Ok.history H (c.in-Ok.ensures.exact told H spelled) (g.S.Site.files c.args.site) c.args.site c.recover.new.site Held c.requires.apart c.files_spell_one_list.ensures.one ((g.met.S.Site g.world.𝓛 g.world.𝓜 g.world.𝓡 ((λ s x. x), (λ x. x), (λ x. x), λ x. x)).reads_image told c.args.site c.args.name) (c.in-Ok.ensures.answer told) (c.in-Ok.ensures.stands told).at.each (c.recover.ensures.crash told) resumable) image left)

pub returns-in-Ok-clause-contents : goal.returns-in-Ok-clause-contents
returns-in-Ok-clause-contents g c met told H spelled resumable tells image left =
    let same : (read_sources c.args.plan (g.S.Site.files c.recover.new.site)) ≡ (read_sources c.args.plan (g.S.Site.files c.args.site)) = λ i f. (c.recover.ensures.others told (file_name c.args.plan f) (c.requires.apart f)) i in
    each_moment g.S.Site.may_leave g.S.Site.moment g.S.Site.images_since c.args.plan c.args.name c.in-Ok.log.name c.in-Ok.ensures.named.same_name c.in-Ok.history H (c.in-Ok.ensures.exact told H spelled) (g.S.Site.files c.args.site) c.args.site c.recover.new.site (SerialFits g.F.Commands.gives (read_sources c.args.plan (g.S.Site.files c.args.site))) c.run.result.records (IsCutRun c.run.result.how) g.B.Born.born image (c.requires.later told)
    (c.recover.ensures.any_moment told)
    (subst (λ (s : Contents). g.S.Site.images_since c.recover.new.site g.B.Born.born image ⊎ WasKept (SerialFits g.F.Commands.gives s) c.args.plan c.in-Ok.log.name (length c.in-Ok.history) c.run.result.records (IsCutRun c.run.result.how) image) same
    (c.run.ensures.serial met told
    (subst (λ (s : Contents). IsStanding g.F.Commands.gives s c.args.plan c.in-Ok.log.name c.in-Ok.history (g.S.Site.may_leave c.recover.new.site)) (sym same) (keeping g.S.Site.may_leave g.S.Site.moment g.S.Site.images_since c.args.plan c.args.name c.in-Ok.log.name c.in-Ok.ensures.named.same_name c.in-Ok.history H (c.in-Ok.ensures.exact told H spelled) (g.S.Site.files c.args.site) c.args.site c.recover.new.site (SerialFits g.F.Commands.gives (read_sources c.args.plan (g.S.Site.files c.args.site))) c.requires.apart c.files_spell_one_list.ensures.one ((g.met.S.Site g.world.𝓛 g.world.𝓜 g.world.𝓡 ((λ s x. x), (λ x. x), (λ x. x), λ x. x)).reads_image told c.args.site c.args.name) (c.in-Ok.ensures.answer told) (c.in-Ok.ensures.stands told).at.each (c.recover.ensures.crash told) resumable))
    (subst (λ (s : Contents). TellsJobs c.args.plan c.args.options (AllTell g.R.Runner.tells c.args.runners.now) (serial c.args.plan g.F.Commands.gives s)) (sym same) tells) image left))

pub returns-in-Ok-clause-now : goal.returns-in-Ok-clause-now
returns-in-Ok-clause-now g c told H spelled resumable whole image now =
    is_named g.S.Site.may_leave g.S.Site.moment g.S.Site.images_since c.args.plan c.args.name c.in-Ok.log.name c.in-Ok.ensures.named.same_name c.in-Ok.history H (c.in-Ok.ensures.exact told H spelled) (g.S.Site.files c.args.site) c.args.site c.recover.new.site Held c.run.result.records image (c.run.ensures.now told (keeping g.S.Site.may_leave g.S.Site.moment g.S.Site.images_since c.args.plan c.args.name c.in-Ok.log.name c.in-Ok.ensures.named.same_name c.in-Ok.history H (c.in-Ok.ensures.exact told H spelled) (g.S.Site.files c.args.site) c.args.site c.recover.new.site Held c.requires.apart c.files_spell_one_list.ensures.one ((g.met.S.Site g.world.𝓛 g.world.𝓜 g.world.𝓡 ((λ s x. x), (λ x. x), (λ x. x), λ x. x)).reads_image told c.args.site c.args.name) (c.in-Ok.ensures.answer told) (c.in-Ok.ensures.stands told).at.each (c.recover.ensures.crash told) resumable) whole image now)

pub returns-in-Ok-clause-resumable : goal.returns-in-Ok-clause-resumable
returns-in-Ok-clause-resumable g c told H spelled some image left =
    ⊎_elim (λ (was : g.S.Site.images_since c.args.site g.B.Born.born image). inl was)
    (λ (at : IsMoment Held c.args.plan c.args.name (g.S.Site.files c.args.site) (g.S.Site.may_leave c.args.site) H c.run.result.records (IsCutRun c.run.result.how) image).
    inr (goes_on_from Held c.args.plan c.args.name (g.S.Site.files c.args.site) (g.S.Site.may_leave c.args.site) H c.run.result.records (IsCutRun c.run.result.how) image some at))
    (each_moment g.S.Site.may_leave g.S.Site.moment g.S.Site.images_since c.args.plan c.args.name c.in-Ok.log.name c.in-Ok.ensures.named.same_name c.in-Ok.history H (c.in-Ok.ensures.exact told H spelled) (g.S.Site.files c.args.site) c.args.site c.recover.new.site Held c.run.result.records (IsCutRun c.run.result.how) g.B.Born.born image (c.requires.later told)
    (c.recover.ensures.any_moment told) (c.run.ensures.kept told (keeping g.S.Site.may_leave g.S.Site.moment g.S.Site.images_since c.args.plan c.args.name c.in-Ok.log.name c.in-Ok.ensures.named.same_name c.in-Ok.history H (c.in-Ok.ensures.exact told H spelled) (g.S.Site.files c.args.site) c.args.site c.recover.new.site Held c.requires.apart c.files_spell_one_list.ensures.one ((g.met.S.Site g.world.𝓛 g.world.𝓜 g.world.𝓡 ((λ s x. x), (λ x. x), (λ x. x), λ x. x)).reads_image told c.args.site c.args.name) (c.in-Ok.ensures.answer told) (c.in-Ok.ensures.stands told).at.each (c.recover.ensures.crash told) (inr some)) image left))

pub returns-in-Ok-clause-causes : goal.returns-in-Ok-clause-causes
returns-in-Ok-clause-causes g c =
    causes_since (g.S.Site.count c.args.site) (g.S.Site.count c.recover.new.site) (g.S.Site.count c.run.result.site) (sum_by g.R.Runner.count c.args.runners.now) (sum_by g.R.Runner.count c.run.new.runners) c.run.result.how
    c.recover.ensures.later c.run.ensures.causes

pub returns-in-Ok-clause-grows : goal.returns-in-Ok-clause-grows
returns-in-Ok-clause-grows g c told H spelled = subst (λ (G : List Record). BeginsWith G c.run.result.records) (c.in-Ok.ensures.exact told H spelled) c.run.ensures.grows

pub returns-in-Ok-clause-added : goal.returns-in-Ok-clause-added
returns-in-Ok-clause-added g c told H spelled = subst (λ (G : List Record). AddsRun c.args.options G c.run.result.records c.run.result.how) (c.in-Ok.ensures.exact told H spelled) c.run.ensures.added

pub returns-in-Ok-clause-lost : goal.returns-in-Ok-clause-lost
returns-in-Ok-clause-lost g c alone =
    on_ok c.run.result.how (LosesNone c.in-Ok.history c.run.result.records)
    (g.S.Site.tells → (H : List Record) → Spells H (g.S.Site.files c.args.site c.args.name) → LosesNone H c.run.result.records)
    (λ loses told H spelled. subst (λ (G : List Record). LosesNone G c.run.result.records) (c.in-Ok.ensures.exact told H spelled) loses) (c.run.ensures.lost alone)

pub returns-in-Ok-clause-lost_away : goal.returns-in-Ok-clause-lost_away
returns-in-Ok-clause-lost_away g c =
    on_ok c.run.result.how (LosesOnLinks c.in-Ok.history c.run.result.records)
    (g.S.Site.tells → (H : List Record) → Spells H (g.S.Site.files c.args.site c.args.name) → LosesOnLinks H c.run.result.records)
    (λ loses told H spelled. subst (λ (G : List Record). LosesOnLinks G c.run.result.records) (c.in-Ok.ensures.exact told H spelled) loses) c.run.ensures.lost_away

pub returns-in-Ok-clause-due_losses : goal.returns-in-Ok-clause-due_losses
returns-in-Ok-clause-due_losses g c tells told H spelled =
    subst (λ (G : List Record). OnOk c.run.result.how (AreDueLosses g.F.Commands.gives g.F.Commands.may_fail g.H.Way.Link.history g.H.Way.Link.count g.H.Way.Link.idle_count g.H.Way.Link.is_closed c.args.workers.limit (g.H.Hall.got c.args.hall.now) (g.H.Hall.got c.run.new.hall) G c.run.result.records)) (c.in-Ok.ensures.exact told H spelled) (c.run.ensures.due_losses tells)

pub returns-in-Ok-clause-results : goal.returns-in-Ok-clause-results
returns-in-Ok-clause-results g c away tells told H spelled =
    subst (λ (G : List Record). OnOk c.run.result.how (AreResults g.H.Way.Link.history (g.H.Hall.got c.args.hall.now) (g.H.Hall.got c.run.new.hall) G c.run.result.records)) (c.in-Ok.ensures.exact told H spelled) (c.run.ensures.results away tells)

pub returns-in-Ok-clause-admitted : goal.returns-in-Ok-clause-admitted
returns-in-Ok-clause-admitted g c told H spelled =
    subst (λ (G : List Record). AreAdmitted g.A.Admission.admitted c.args.plan c.args.options c.run.result.records (length G)) (c.in-Ok.ensures.exact told H spelled) c.run.ensures.admitted

pub returns-in-Ok-clause-places : goal.returns-in-Ok-clause-places
returns-in-Ok-clause-places g c told H spelled =
    subst (λ (G : List Record). PlacedBy c.args.plan c.args.options G c.run.result.records) (c.in-Ok.ensures.exact told H spelled) c.run.ensures.places

pub returns-in-Ok-clause-others : goal.returns-in-Ok-clause-others
returns-in-Ok-clause-others g c told =
    others_joined g.S.Site.files g.S.Site.may_leave g.S.Site.moment g.S.Site.images_since c.args.plan c.args.name c.in-Ok.log.name c.in-Ok.ensures.named.same_name c.args.site c.recover.new.site c.run.result.site
    (c.recover.ensures.crash told) (c.recover.ensures.any_moment told) (c.run.ensures.others told)

pub returns-in-Ok-clause-reads : goal.returns-in-Ok-clause-reads
returns-in-Ok-clause-reads g c told =
    reads_joined g.S.Site.files g.S.Site.may_leave g.S.Site.moment g.S.Site.images_since c.args.plan c.args.name c.in-Ok.log.name c.in-Ok.ensures.named.same_name c.args.site c.recover.new.site c.run.result.site c.run.result.how
    (c.recover.ensures.others told) (c.run.ensures.reads told)

pub returns-in-Err-clause-damaged : goal.returns-in-Err-clause-damaged
returns-in-Err-clause-damaged g c told = c.in-Err.ensures.answer told

pub returns-in-Ok-clause-starts : goal.returns-in-Ok-clause-starts
returns-in-Ok-clause-starts g c told H spelled =
    starts_joined c.args.plan c.args.options c.in-Ok.history H (g.S.Site.files c.args.site) (g.S.Site.files c.recover.new.site) c.run.result.how (c.in-Ok.ensures.exact told H spelled)
    (λ f. c.recover.ensures.others told (file_name c.args.plan f) (c.requires.apart f)) (c.run.ensures.starts told)

pub returns-in-Ok-clause-whole : goal.returns-in-Ok-clause-whole
returns-in-Ok-clause-whole g c told H spelled resumable = c.run.ensures.whole told (keeping g.S.Site.may_leave g.S.Site.moment g.S.Site.images_since c.args.plan c.args.name c.in-Ok.log.name c.in-Ok.ensures.named.same_name c.in-Ok.history H (c.in-Ok.ensures.exact told H spelled) (g.S.Site.files c.args.site) c.args.site c.recover.new.site Held c.requires.apart c.files_spell_one_list.ensures.one ((g.met.S.Site g.world.𝓛 g.world.𝓜 g.world.𝓡 ((λ s x. x), (λ x. x), (λ x. x), λ x. x)).reads_image told c.args.site c.args.name) (c.in-Ok.ensures.answer told) (c.in-Ok.ensures.stands told).at.each (c.recover.ensures.crash told) resumable)

pub returns-in-Ok-clause-failures : goal.returns-in-Ok-clause-failures
returns-in-Ok-clause-failures g c alone closed told H spelled =
    subst (λ (G : List Record). LogsFailures G c.run.result.records (sum_by g.R.Runner.failures c.args.runners.now) (sum_by g.R.Runner.failures c.run.new.runners)) (c.in-Ok.ensures.exact told H spelled) (c.run.ensures.failures alone closed)

pub returns-in-Ok-clause-completes : goal.returns-in-Ok-clause-completes
returns-in-Ok-clause-completes g c told H spelled resumable tells here fit room free sure stood =
    let same : (read_sources c.args.plan (g.S.Site.files c.recover.new.site)) ≡ (read_sources c.args.plan (g.S.Site.files c.args.site)) = λ i f. (c.recover.ensures.others told (file_name c.args.plan f) (c.requires.apart f)) i in
    let these : c.in-Ok.history ≡ H = c.in-Ok.ensures.exact told H spelled in
    let later = c.recover.ensures.later in
    c.run.ensures.completes told
    (subst (λ (s : Contents). IsStanding g.F.Commands.gives s c.args.plan c.in-Ok.log.name c.in-Ok.history (g.S.Site.may_leave c.recover.new.site)) (sym same) (keeping g.S.Site.may_leave g.S.Site.moment g.S.Site.images_since c.args.plan c.args.name c.in-Ok.log.name c.in-Ok.ensures.named.same_name c.in-Ok.history H (c.in-Ok.ensures.exact told H spelled) (g.S.Site.files c.args.site) c.args.site c.recover.new.site (SerialFits g.F.Commands.gives (read_sources c.args.plan (g.S.Site.files c.args.site))) c.requires.apart c.files_spell_one_list.ensures.one ((g.met.S.Site g.world.𝓛 g.world.𝓜 g.world.𝓡 ((λ s x. x), (λ x. x), (λ x. x), λ x. x)).reads_image told c.args.site c.args.name) (c.in-Ok.ensures.answer told) (c.in-Ok.ensures.stands told).at.each (c.recover.ensures.crash told) resumable))
    (subst (λ (s : Contents). TellsJobs c.args.plan c.args.options (AllTell g.R.Runner.tells c.args.runners.now) (serial c.args.plan g.F.Commands.gives s)) (sym same) tells) here
    (subst (λ (s : Contents). SerialInputsFit c.args.plan g.F.Commands.gives s) (sym same) fit) (subst (HasRecordRoom c.args.plan) (sym these) room)
    (fault_joined c.args.plan c.args.options c.in-Ok.history H (g.S.Site.files c.args.site) (g.S.Site.files c.recover.new.site) these
    (λ f. c.recover.ensures.others told (file_name c.args.plan f) (c.requires.apart f)) ∙ free) sure (omega (arith, later, stood))

pub returns-in-Ok-clause-log : goal.returns-in-Ok-clause-log
returns-in-Ok-clause-log g c told = (c.in-Ok.history, c.in-Ok.ensures.answer told)

pub returns-in-Ok-clause-same : goal.returns-in-Ok-clause-same
returns-in-Ok-clause-same g c told H spelled refused = c.run.ensures.same refused ∙ c.in-Ok.ensures.exact told H spelled

pub returns-in-Ok-clause-quiet : goal.returns-in-Ok-clause-quiet
returns-in-Ok-clause-quiet g c told early m =
    ap (λ (s : g.row.S.Denot). g.S.Site.files s m) (c.run.ensures.quiet early)
    ∙ c.in-Ok.ensures.same told
    (λ unbegun. early_over c.args.plan c.args.options c.in-Ok.history (g.S.Site.files c.recover.new.site) c.run.result.how (c.run.ensures.starts told) early
    (c.files_spell_one_list.ensures.one c.in-Ok.history [] (g.S.Site.files c.args.site c.args.name) (c.in-Ok.ensures.answer told) (inl unbegun))) m

pub returns-in-Ok-clause-before : goal.returns-in-Ok-clause-before
returns-in-Ok-clause-before g c told early =
    let left = IsBefore c.args.name (g.S.Site.files c.args.site c.args.name) (g.S.Site.may_leave c.args.site) in
    subst (λ (s : g.row.S.Denot). LeavesOnly g.S.Site.moment g.S.Site.images_since c.args.site s left) (sym (c.run.ensures.quiet early))
    (weakened g.S.Site.moment g.S.Site.images_since c.args.site c.recover.new.site (IsRecovering c.args.name (g.S.Site.files c.args.site c.args.name) (g.S.Site.may_leave c.args.site)) left (c.recover.ensures.any_moment told)
    (λ image here. record { spelled = here.log; others = here.others }))

pub returns-in-Ok-clause-over : goal.returns-in-Ok-clause-over
returns-in-Ok-clause-over g c = record {
  past = c.in-Ok.history;
  spelled = λ told. c.in-Ok.ensures.answer told;
  same = c.run.ensures.same;
  added = c.run.ensures.added;
  places = c.run.ensures.places;
  admitted = c.run.ensures.admitted;
  modes = c.run.ensures.modes;
  lost = c.run.ensures.lost;
  lost_away = c.run.ensures.lost_away;
  due_losses = c.run.ensures.due_losses;
  results = c.run.ensures.results;
}

pub returns-in-Ok-clause-honest : goal.returns-in-Ok-clause-honest
returns-in-Ok-clause-honest g c met told H spelled resumable tells =
    let same : (read_sources c.args.plan (g.S.Site.files c.recover.new.site)) ≡ (read_sources c.args.plan (g.S.Site.files c.args.site)) = λ i f. (c.recover.ensures.others told (file_name c.args.plan f) (c.requires.apart f)) i in
    subst (λ (G : List Record). Adds (Unit {0}) g.F.Commands.gives g.F.Commands.may_fail (read_sources c.args.plan (g.S.Site.files c.args.site)) c.args.plan G c.run.result.records) (c.in-Ok.ensures.exact told H spelled)
    (subst (λ (s : Contents). Adds (Unit {0}) g.F.Commands.gives g.F.Commands.may_fail s c.args.plan c.in-Ok.history c.run.result.records) same
    (c.run.ensures.more met told
    (subst (λ (s : Contents). IsStanding g.F.Commands.gives s c.args.plan c.in-Ok.log.name c.in-Ok.history (g.S.Site.may_leave c.recover.new.site)) (sym same) (keeping g.S.Site.may_leave g.S.Site.moment g.S.Site.images_since c.args.plan c.args.name c.in-Ok.log.name c.in-Ok.ensures.named.same_name c.in-Ok.history H (c.in-Ok.ensures.exact told H spelled) (g.S.Site.files c.args.site) c.args.site c.recover.new.site (SerialFits g.F.Commands.gives (read_sources c.args.plan (g.S.Site.files c.args.site))) c.requires.apart c.files_spell_one_list.ensures.one ((g.met.S.Site g.world.𝓛 g.world.𝓜 g.world.𝓡 ((λ s x. x), (λ x. x), (λ x. x), λ x. x)).reads_image told c.args.site c.args.name) (c.in-Ok.ensures.answer told) (c.in-Ok.ensures.stands told).at.each (c.recover.ensures.crash told) resumable))
    (subst (λ (s : Contents). TellsJobs c.args.plan c.args.options (AllTell g.R.Runner.tells c.args.runners.now) (serial c.args.plan g.F.Commands.gives s)) (sym same) tells)))

pub returns-in-Err-clause-unchanged : goal.returns-in-Err-clause-unchanged
returns-in-Err-clause-unchanged g c told damaged m =
    reads_same c.args.name m (g.S.Site.files c.args.site) (g.S.Site.files c.recover.new.site)
    (c.recover.ensures.unchanged told (subst IsDamage (sym c.in-Err.is) (damage_told c.in-Err.why damaged))) (c.recover.ensures.others told m)

pub returns-in-Err-clause-beside : goal.returns-in-Err-clause-beside
returns-in-Err-clause-beside g c told m other = c.recover.ensures.others told m other

pub returns-in-Ok-clause-modes : goal.returns-in-Ok-clause-modes
returns-in-Ok-clause-modes g c told H spelled =
    subst (λ (G : List Record). CollectsBy c.args.plan c.args.options.mode G c.run.result.records) (c.in-Ok.ensures.exact told H spelled) c.run.ensures.modes

pub returns-in-Ok-clause-gone : goal.returns-in-Ok-clause-gone
returns-in-Ok-clause-gone g c told whole H spelled =
    subst (λ (G : List Record). AreGone c.args.plan (g.S.Site.files c.run.result.site) G c.run.result.records) (c.in-Ok.ensures.exact told H spelled) (c.run.ensures.gone told whole)

pub returns-in-Ok-clause-calm : goal.returns-in-Ok-clause-calm
returns-in-Ok-clause-calm g c away tells sure all few told H spelled = subst (λ (G : List Record). OnOk c.run.result.how (GoesWell G c.run.result.records)) (c.in-Ok.ensures.exact told H spelled) (c.run.ensures.calm away tells sure all few)

pub returns-in-Ok-clause-reaches : goal.returns-in-Ok-clause-reaches
returns-in-Ok-clause-reaches g c away way honest surely sure few told H spelled resumable tells fit room free stood met =
    let same : (read_sources c.args.plan (g.S.Site.files c.recover.new.site)) ≡ (read_sources c.args.plan (g.S.Site.files c.args.site)) = λ i f. (c.recover.ensures.others told (file_name c.args.plan f) (c.requires.apart f)) i in
    let these : c.in-Ok.history ≡ H = c.in-Ok.ensures.exact told H spelled in
    let later = c.recover.ensures.later in
    c.run.ensures.reaches away way honest surely sure few told
    (subst (λ (s : Contents). IsStanding g.F.Commands.gives s c.args.plan c.in-Ok.log.name c.in-Ok.history (g.S.Site.may_leave c.recover.new.site)) (sym same) (keeping g.S.Site.may_leave g.S.Site.moment g.S.Site.images_since c.args.plan c.args.name c.in-Ok.log.name c.in-Ok.ensures.named.same_name c.in-Ok.history H (c.in-Ok.ensures.exact told H spelled) (g.S.Site.files c.args.site) c.args.site c.recover.new.site (SerialFits g.F.Commands.gives (read_sources c.args.plan (g.S.Site.files c.args.site))) c.requires.apart c.files_spell_one_list.ensures.one ((g.met.S.Site g.world.𝓛 g.world.𝓜 g.world.𝓡 ((λ s x. x), (λ x. x), (λ x. x), λ x. x)).reads_image told c.args.site c.args.name) (c.in-Ok.ensures.answer told) (c.in-Ok.ensures.stands told).at.each (c.recover.ensures.crash told) resumable))
    (subst (λ (s : Contents). TellsJobs c.args.plan c.args.options (AllTell g.R.Runner.tells c.args.runners.now) (serial c.args.plan g.F.Commands.gives s)) (sym same) tells)
    (subst (λ (s : Contents). SerialInputsFit c.args.plan g.F.Commands.gives s) (sym same) fit) (subst (HasRecordRoom c.args.plan) (sym these) room)
    (fault_joined c.args.plan c.args.options c.in-Ok.history H (g.S.Site.files c.args.site) (g.S.Site.files c.recover.new.site) these
    (λ f. c.recover.ensures.others told (file_name c.args.plan f) (c.requires.apart f)) ∙ free) (omega (arith, later, stood)) met

pub returns-in-Ok-clause-manned : goal.returns-in-Ok-clause-manned
returns-in-Ok-clause-manned g c away least way honest surely manned sure few once needs told H spelled resumable tells fit room free stood met =
    let same : (read_sources c.args.plan (g.S.Site.files c.recover.new.site)) ≡ (read_sources c.args.plan (g.S.Site.files c.args.site)) = λ i f. (c.recover.ensures.others told (file_name c.args.plan f) (c.requires.apart f)) i in
    let these : c.in-Ok.history ≡ H = c.in-Ok.ensures.exact told H spelled in
    let later = c.recover.ensures.later in
    c.run.ensures.manned away least way honest surely manned sure few once needs told
    (subst (λ (s : Contents). IsStanding g.F.Commands.gives s c.args.plan c.in-Ok.log.name c.in-Ok.history (g.S.Site.may_leave c.recover.new.site)) (sym same) (keeping g.S.Site.may_leave g.S.Site.moment g.S.Site.images_since c.args.plan c.args.name c.in-Ok.log.name c.in-Ok.ensures.named.same_name c.in-Ok.history H (c.in-Ok.ensures.exact told H spelled) (g.S.Site.files c.args.site) c.args.site c.recover.new.site (SerialFits g.F.Commands.gives (read_sources c.args.plan (g.S.Site.files c.args.site))) c.requires.apart c.files_spell_one_list.ensures.one ((g.met.S.Site g.world.𝓛 g.world.𝓜 g.world.𝓡 ((λ s x. x), (λ x. x), (λ x. x), λ x. x)).reads_image told c.args.site c.args.name) (c.in-Ok.ensures.answer told) (c.in-Ok.ensures.stands told).at.each (c.recover.ensures.crash told) resumable))
    (subst (λ (s : Contents). TellsJobs c.args.plan c.args.options (AllTell g.R.Runner.tells c.args.runners.now) (serial c.args.plan g.F.Commands.gives s)) (sym same) tells)
    (subst (λ (s : Contents). SerialInputsFit c.args.plan g.F.Commands.gives s) (sym same) fit) (subst (HasRecordRoom c.args.plan) (sym these) room)
    (fault_joined c.args.plan c.args.options c.in-Ok.history H (g.S.Site.files c.args.site) (g.S.Site.files c.recover.new.site) these
    (λ f. c.recover.ensures.others told (file_name c.args.plan f) (c.requires.apart f)) ∙ free) (omega (arith, later, stood)) met
