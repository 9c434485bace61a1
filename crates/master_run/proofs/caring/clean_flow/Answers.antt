use Rattle.std.proofs.Common.{◌≡◌, ◌∙◌, inl, ℕ, [], ap, sym, subst, refl, true, false, true≢false}
use Rattle.flow_types.specs.Plans.{is_empty}
use Rattle.flow_types.specs.declared.job.Job.{Job}
use Rattle.run_history.specs.History.{part}
use Rattle.local_run.specs.Runs.{read_sources}
use Rattle.cleaning.specs.Cleanings.{AreEither, clean_fault, made_count}
use Rattle.command_words.specs.declared.options.Work.{Work}
use Rattle.command_words.specs.declared.options.Work.TheVariants as works
use Rattle.report.specs.declared.cause.Cause.{Cause}
use Rattle.report.specs.declared.cause.Cause.TheVariants as causes
use Rattle.report.specs.Causes.{is_cut, kind_of}
use Rattle.master_run.specs.Added.{AddsBy}
use Rattle.master_run.specs.Ends.{GoesOn, counts}
use Rattle.master_run.specs.Headline.{is_run_end}
use Rattle.master_run.specs.Runs.{clean_cause}
use Rattle.master_run.specs.Serves.{Serves}
use Rattle.master_run.proofs.Counted.{site_rise}
use Rattle.master_run.proofs.Adding.{clean_adds}
use Rattle.master_run.proofs.Moved.{begun_still}
use Rattle.master_run.proofs.Works.{cared_serves}
use Rattle.cleaning.specs.Cleanings.{IsCutFor}
use Rattle.master_run.proofs.Cared.{begins_so, clean_begins, clean_begun, clean_cleans, clean_cut, clean_damaged, clean_either, clean_faults, clean_goes, clean_late, clean_legal, clean_log, clean_of, clean_read, clean_still, clean_uncut, clean_unread, cut_clean, done_goes, ended_either, fails_nothing, loses_nothing}
use Rattle.master_run.proofs.caring.clean_flow.Goals as goal

pub returns-in-Ok-clause-serves : goal.returns-in-Ok-clause-serves
returns-in-Ok-clause-serves g c E =
    let cause : Cause = causes.Cleaned c.in-Ok.field-0.removed in
    cared_serves E g.S.Site.tells g.S.Site.files g.S.Site.may_leave g.S.Site.moment g.S.Site.images_since g.B.Born.born g.F.Commands.gives g.F.Commands.may_fail (λ (job : Job). Unit {0}) (Unit {0}) (Unit {0}) (counts c.args.before [] 0 0 0) (counts (g.S.Site.count c.clean.new.site) [] 0 0 0) c.args.ask c.args.site c.clean.new.site c.in-Ok.field-0.records cause c.args.moment ⊥ (record {
      work = λ wrong. absurd (let both : works.Clean ≡ works.Run = sym c.requires.work ∙ wrong in cc);
      later = c.requires.later;
      cuts = λ cut. absurd cut;
      runs_not = (refl, refl);
      late = refl;
      faults = tt;
      damaged = λ t at wrong. absurd (cc);
      read = λ t. inl (c.in-Ok.ensures.log t);
      goes = λ t H spelled. subst (λ (w : Work). GoesOn E w c.args.ask 0 H (g.S.Site.files c.args.site) (g.S.Site.files c.clean.new.site) c.in-Ok.field-0.records cause) (sym c.requires.work)
          (done_goes (clean_fault c.args.ask.plan H) (causes.Cleaned (made_count c.args.ask.plan H)) cause (c.in-Ok.ensures.ends t H spelled).0 (ap (λ n. causes.Cleaned n) (c.in-Ok.ensures.ends t H spelled).1));
      has_log = λ t H spelled. inl (begins_so H c.in-Ok.field-0.records c.args.moment (subst (AreEither H c.args.moment) (sym (c.in-Ok.ensures.records t H spelled)) (ended_either H c.args.moment (is_empty (part H)))));
      unread = λ t H spelled none. absurd (none (begins_so H c.in-Ok.field-0.records c.args.moment (subst (AreEither H c.args.moment) (sym (c.in-Ok.ensures.records t H spelled)) (ended_either H c.args.moment (is_empty (part H))))));
      added = λ t H spelled. subst (λ (w : Work). AddsBy w c.args.ask.options H c.in-Ok.field-0.records cause) (sym c.requires.work) (c.args.moment, c.in-Ok.ensures.records t H spelled);
      legal = λ read. c.in-Ok.ensures.legal;
      logged = λ t H spelled. inl c.in-Ok.ensures.legal;
      either = λ t H spelled whole. subst (AreEither H c.args.moment) (sym (c.in-Ok.ensures.records t H spelled)) (ended_either H c.args.moment (is_empty (part H)));
      begun = λ t H spelled begins. inl (subst (AreEither H c.args.moment) (sym (c.in-Ok.ensures.records t H spelled)) (ended_either H c.args.moment (is_empty (part H))));
      moments = c.in-Ok.ensures.moments;
      contents = λ t H spelled resumable. c.in-Ok.ensures.contents t H spelled g.F.Commands.gives (read_sources c.args.ask.plan (g.S.Site.files c.args.site)) resumable;
      resumable = c.in-Ok.ensures.resumable;
      at_end = λ t H spelled resumable whole image left. c.in-Ok.ensures.now t H spelled resumable (λ cut. cut) image left;
      cleaned = λ t H spelled. c.in-Ok.ensures.gone t H spelled;
      untouched = λ t wrong. absurd (true≢false (sym wrong));
      quiet = λ t wrong. absurd (true≢false (sym wrong));
      others = λ t. (c.in-Ok.ensures.others t).crash;
      reads = λ t. (c.in-Ok.ensures.others t).reads;
    })

pub returns-in-Err-clause-serves : goal.returns-in-Err-clause-serves
returns-in-Err-clause-serves g c E =
    let why = c.in-Err.field-0.why in
    let given = c.in-Err.field-0.records in
    let same : c.clean_cause.result ≡ clean_cause (site_rise (counts c.args.before [] 0 0 0) (counts (g.S.Site.count c.clean.new.site) [] 0 0 0)) why =
    c.clean_cause.ensures ∙ ap (λ (n : ℕ). clean_cause (record { before = c.args.before; after = n }) c.in-Err.field-0.why) c.faults-after.ensures in
    subst (λ (cause : Cause). Serves E g.S.Site.tells g.S.Site.files g.S.Site.may_leave g.S.Site.moment g.S.Site.images_since g.B.Born.born g.F.Commands.gives g.F.Commands.may_fail (λ (job : Job). Unit {0}) (Unit {0}) (Unit {0}) (counts c.args.before [] 0 0 0) (counts (g.S.Site.count c.clean.new.site) [] 0 0 0) c.args.ask c.args.site c.clean.new.site given cause) (sym same)
    (cared_serves E g.S.Site.tells g.S.Site.files g.S.Site.may_leave g.S.Site.moment g.S.Site.images_since g.B.Born.born g.F.Commands.gives g.F.Commands.may_fail (λ (job : Job). Unit {0}) (Unit {0}) (Unit {0}) (counts c.args.before [] 0 0 0) (counts (g.S.Site.count c.clean.new.site) [] 0 0 0) c.args.ask c.args.site c.clean.new.site given (clean_cause (site_rise (counts c.args.before [] 0 0 0) (counts (g.S.Site.count c.clean.new.site) [] 0 0 0)) why) c.args.moment (IsCutFor why) (record {
      work = λ wrong. absurd (let both : works.Clean ≡ works.Run = sym c.requires.work ∙ wrong in cc);
      later = c.requires.later;
      cuts = clean_cut (site_rise (counts c.args.before [] 0 0 0) (counts (g.S.Site.count c.clean.new.site) [] 0 0 0)) why;
      runs_not = clean_still (site_rise (counts c.args.before [] 0 0 0) (counts (g.S.Site.count c.clean.new.site) [] 0 0 0)) why;
      late = clean_late (site_rise (counts c.args.before [] 0 0 0) (counts (g.S.Site.count c.clean.new.site) [] 0 0 0)) why;
      faults = clean_faults (counts c.args.before [] 0 0 0) (counts (g.S.Site.count c.clean.new.site) [] 0 0 0) (g.S.Site.count c.args.site) (g.S.Site.count c.clean.new.site) why c.requires.counted refl c.in-Err.ensures.cause;
      damaged = λ t at told. clean_damaged (site_rise (counts c.args.before [] 0 0 0) (counts (g.S.Site.count c.clean.new.site) [] 0 0 0)) (g.S.Site.files c.args.site c.args.ask.log) given why at (c.in-Err.ensures.log t) told;
      read = λ t. clean_of (site_rise (counts c.args.before [] 0 0 0) (counts (g.S.Site.count c.clean.new.site) [] 0 0 0)) (g.S.Site.files c.args.site c.args.ask.log) given why (c.in-Err.ensures.log t);
      goes = λ t H spelled. subst (λ (w : Work). GoesOn E w c.args.ask 0 H (g.S.Site.files c.args.site) (g.S.Site.files c.clean.new.site) given (clean_cause (site_rise (counts c.args.before [] 0 0 0) (counts (g.S.Site.count c.clean.new.site) [] 0 0 0)) why)) (sym c.requires.work)
          (clean_goes E (site_rise (counts c.args.before [] 0 0 0) (counts (g.S.Site.count c.clean.new.site) [] 0 0 0)) c.args.ask 0 H (g.S.Site.files c.args.site) (g.S.Site.files c.clean.new.site) given why (c.in-Err.ensures.ends t H spelled));
      has_log = λ t H spelled. clean_log (site_rise (counts c.args.before [] 0 0 0) (counts (g.S.Site.count c.clean.new.site) [] 0 0 0)) c.args.ask.plan H given c.args.moment why (c.in-Err.ensures.ends t H spelled) (c.in-Err.ensures.records t H spelled);
      unread = λ t H spelled none. c.in-Err.ensures.unread t (clean_unread c.args.ask.plan H given c.args.moment why (c.in-Err.ensures.ends t H spelled) (c.in-Err.ensures.records t H spelled) none);
      added = λ t H spelled. subst (λ (w : Work). AddsBy w c.args.ask.options H given (clean_cause (site_rise (counts c.args.before [] 0 0 0) (counts (g.S.Site.count c.clean.new.site) [] 0 0 0)) why)) (sym c.requires.work)
          (clean_adds (site_rise (counts c.args.before [] 0 0 0) (counts (g.S.Site.count c.clean.new.site) [] 0 0 0)) c.args.ask.plan H given c.args.moment why (c.in-Err.ensures.ends t H spelled) (c.in-Err.ensures.records t H spelled));
      legal = λ read. clean_read (site_rise (counts c.args.before [] 0 0 0) (counts (g.S.Site.count c.clean.new.site) [] 0 0 0)) c.args.ask.plan given why c.in-Err.ensures.legal read;
      logged = λ t H spelled. clean_legal (site_rise (counts c.args.before [] 0 0 0) (counts (g.S.Site.count c.clean.new.site) [] 0 0 0)) c.args.ask.plan H given c.args.moment why (c.in-Err.ensures.records t H spelled) c.in-Err.ensures.legal;
      either = λ t H spelled whole. clean_either H given c.args.moment (site_rise (counts c.args.before [] 0 0 0) (counts (g.S.Site.count c.clean.new.site) [] 0 0 0)) c.args.ask.plan why (c.in-Err.ensures.ends t H spelled) (c.in-Err.ensures.records t H spelled) whole;
      begun = λ t H spelled begins. clean_begins H given c.args.moment why (c.in-Err.ensures.records t H spelled);
      moments = c.in-Err.ensures.moments;
      contents = λ t H spelled resumable. c.in-Err.ensures.contents t H spelled g.F.Commands.gives (read_sources c.args.ask.plan (g.S.Site.files c.args.site)) resumable;
      resumable = c.in-Err.ensures.resumable;
      at_end = λ t H spelled resumable whole image left. c.in-Err.ensures.now t H spelled resumable (clean_uncut (site_rise (counts c.args.before [] 0 0 0) (counts (g.S.Site.count c.clean.new.site) [] 0 0 0)) why whole) image left;
      cleaned = λ t H spelled. clean_cleans (site_rise (counts c.args.before [] 0 0 0) (counts (g.S.Site.count c.clean.new.site) [] 0 0 0)) c.args.ask.plan H (g.S.Site.files c.clean.new.site) why;
      untouched = λ t refused m. c.in-Err.ensures.reads t (cut_clean (site_rise (counts c.args.before [] 0 0 0) (counts (g.S.Site.count c.clean.new.site) [] 0 0 0)) why refused)
          (clean_begun c.files_spell_one_list.ensures.one c.files_spell_one_list.ensures.header c.files_spell_one_list.ensures.whole c.args.ask.plan (g.S.Site.files c.args.site c.args.ask.log) given why (site_rise (counts c.args.before [] 0 0 0) (counts (g.S.Site.count c.clean.new.site) [] 0 0 0)) refused (c.in-Err.ensures.log t) (λ H spelled. c.in-Err.ensures.ends t H spelled)) m;
      quiet = λ t refused. begun_still g.S.Site.files g.S.Site.may_leave g.S.Site.moment g.S.Site.images_since c.args.ask.log c.args.site c.clean.new.site (c.in-Err.ensures.before t (cut_clean (site_rise (counts c.args.before [] 0 0 0) (counts (g.S.Site.count c.clean.new.site) [] 0 0 0)) why refused))
          (clean_begun c.files_spell_one_list.ensures.one c.files_spell_one_list.ensures.header c.files_spell_one_list.ensures.whole c.args.ask.plan (g.S.Site.files c.args.site c.args.ask.log) given why (site_rise (counts c.args.before [] 0 0 0) (counts (g.S.Site.count c.clean.new.site) [] 0 0 0)) refused (c.in-Err.ensures.log t) (λ H spelled. c.in-Err.ensures.ends t H spelled));
      others = λ t. (c.in-Err.ensures.others t).crash;
      reads = λ t. (c.in-Err.ensures.others t).reads;
    }))

pub returns-in-Ok-clause-fails_none : goal.returns-in-Ok-clause-fails_none
returns-in-Ok-clause-fails_none g c t H spelled whole =
    fails_nothing H c.in-Ok.field-0.records c.args.moment (subst (AreEither H c.args.moment) (sym (c.in-Ok.ensures.records t H spelled)) (ended_either H c.args.moment (is_empty (part H))))

pub returns-in-Err-clause-fails_none : goal.returns-in-Err-clause-fails_none
returns-in-Err-clause-fails_none g c t H spelled whole =
    fails_nothing H c.in-Err.field-0.records c.args.moment
    (clean_either H c.in-Err.field-0.records c.args.moment (record { before = c.args.before; after = c.faults-after.result }) c.args.ask.plan c.in-Err.field-0.why (c.in-Err.ensures.ends t H spelled) (c.in-Err.ensures.records t H spelled)
    (λ cut. whole (subst (λ (cause : Cause). is_cut (kind_of cause) ≡ true) (sym c.clean_cause.ensures) cut)))

pub returns-in-Ok-clause-loses_none : goal.returns-in-Ok-clause-loses_none
returns-in-Ok-clause-loses_none g c t H spelled whole =
    loses_nothing H c.in-Ok.field-0.records c.args.moment (subst (AreEither H c.args.moment) (sym (c.in-Ok.ensures.records t H spelled)) (ended_either H c.args.moment (is_empty (part H))))

pub returns-in-Err-clause-loses_none : goal.returns-in-Err-clause-loses_none
returns-in-Err-clause-loses_none g c t H spelled whole =
    loses_nothing H c.in-Err.field-0.records c.args.moment
    (clean_either H c.in-Err.field-0.records c.args.moment (record { before = c.args.before; after = c.faults-after.result }) c.args.ask.plan c.in-Err.field-0.why (c.in-Err.ensures.ends t H spelled) (c.in-Err.ensures.records t H spelled)
    (λ cut. whole (subst (λ (cause : Cause). is_cut (kind_of cause) ≡ true) (sym c.clean_cause.ensures) cut)))

pub returns-in-Err-clause-runs_not : goal.returns-in-Err-clause-runs_not
returns-in-Err-clause-runs_not g c =
    subst (λ (cause : Cause). is_run_end (kind_of cause) ≡ false) (sym c.clean_cause.ensures) (clean_still (record { before = c.args.before; after = c.faults-after.result }) c.in-Err.field-0.why).0
