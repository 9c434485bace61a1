use Rattle.std.proofs.Common.{◌≡◌, ◌≢◌, ◌≤◌, ◌∙◌, inl, ℕ, List, [], ap, sym, subst, refl, arith, length, true, false, true≢false}
use Rattle.flow_types.specs.declared.records.Record.{Record}
use Rattle.flow_types.specs.declared.job.Job.{Job}
use Rattle.run_history.specs.History.{part}
use Rattle.outside.proofs.Moments.{weakened}
use Rattle.desk.specs.Histories.{history_fault}
use Rattle.desk.specs.Kept.{Keeps}
use Rattle.local_run.specs.Moments.{IsBefore, IsMoment}
use Rattle.local_run.specs.Runs.{Held, SerialFits, read_sources}
use Rattle.command_words.specs.declared.options.Work.{Work}
use Rattle.command_words.specs.declared.options.Work.TheVariants as works
use Rattle.report.specs.declared.cause.Cause.{Cause}
use Rattle.report.specs.declared.cause.Cause.TheVariants as causes
use Rattle.report.specs.Causes.{is_cut, kind_of}
use Rattle.master_run.specs.Added.{AddsBy}
use Rattle.master_run.specs.Ends.{GoesOn, counts}
use Rattle.local_run.specs.Ends.{failed_count}
use Rattle.master_run.specs.Headline.{is_run_end}
use Rattle.master_run.specs.Runs.{look_cause}
use Rattle.master_run.specs.Serves.{Serves}
use Rattle.local_run.specs.Course.{IsUnmade}
use Rattle.local_run.proofs.Alone.{beside_less}
use Rattle.master_run.proofs.Moved.{append_nothing, begun_still}
use Rattle.master_run.proofs.Counted.{site_rise}
use Rattle.master_run.proofs.Adding.{look_adds}
use Rattle.master_run.proofs.Works.{cared_serves}
use Rattle.cleaning.specs.Looks.{IsCutFault}
use Rattle.master_run.proofs.Cared.{cut_look, done_goes, fails_nothing, look_begins, look_begun, look_cleans, look_cut, look_damaged, look_either, look_faults, look_goes, look_late, look_legal, look_log, look_read, look_seen, look_still, look_unread, loses_nothing, part_within}
use Rattle.master_run.proofs.caring.read_log.Goals as goal

pub overflow_cast-result : goal.overflow_cast-result
overflow_cast-result g c =
    let same : length c.part_of.result.now ≡ length (part c.in-Ok.records) = ap length c.part_of.ensures ∙ ap (λ (xs : List Record). length (part xs)) c.as_slice.ensures in
    let within : length (part c.in-Ok.records) ≤ length c.in-Ok.records = part_within c.in-Ok.records in
    omega (arith, same, within, c.in-Ok.ensures.few)

pub returns-in-Ok-clause-serves : goal.returns-in-Ok-clause-serves
returns-in-Ok-clause-serves g c E =
    let cause : Cause = causes.Printed (length c.part_of.result.now) in
    cared_serves E g.S.Site.tells g.S.Site.files g.S.Site.may_leave g.S.Site.moment g.S.Site.images_since g.B.Born.born g.F.Commands.gives g.F.Commands.may_fail (λ (job : Job). Unit {0}) (Unit {0}) (Unit {0}) (counts c.args.before [] 0 0 0) (counts (g.S.Site.count c.look.new.site) [] 0 0 0) c.args.ask c.args.site c.look.new.site c.in-Ok.records cause 0 ⊥ (record {
      work = λ wrong. absurd (let both : works.PrintLog ≡ works.Run = sym c.requires.work ∙ wrong in cc);
      later = c.requires.later;
      cuts = λ cut. absurd cut;
      runs_not = (refl, refl);
      late = refl;
      faults = tt;
      damaged = λ t at wrong. absurd (cc);
      read = λ t. inl (c.in-Ok.records, c.in-Ok.ensures.log t);
      goes = λ t H spelled. subst (λ (w : Work). GoesOn E w c.args.ask 0 H (g.S.Site.files c.args.site) (g.S.Site.files c.look.new.site) c.in-Ok.records cause) (sym c.requires.work)
          (done_goes (history_fault c.args.ask.plan H) (causes.Printed (length (part H))) cause (c.in-Ok.ensures.ends t H spelled).1
          (ap (λ n. causes.Printed n) (ap length c.part_of.ensures ∙ ap (λ (xs : List Record). length (part xs)) (c.as_slice.ensures ∙ (c.in-Ok.ensures.ends t H spelled).0))));
      unread = λ t H spelled none. c.in-Ok.ensures.moments t;
      has_log = λ t H spelled. inl ([], (c.in-Ok.ensures.ends t H spelled).0 ∙ sym (append_nothing H));
      added = λ t H spelled. subst (λ (w : Work). AddsBy w c.args.ask.options H c.in-Ok.records cause) (sym c.requires.work) (c.in-Ok.ensures.ends t H spelled).0;
      legal = λ read. c.in-Ok.ensures.legal;
      logged = λ t H spelled. inl c.in-Ok.ensures.legal;
      either = λ t H spelled whole. inl (c.in-Ok.ensures.ends t H spelled).0;
      begun = λ t H spelled begins. inl (inl (c.in-Ok.ensures.ends t H spelled).0);
      moments = λ t H spelled resumable. weakened g.S.Site.moment g.S.Site.images_since c.args.site c.look.new.site (IsBefore c.args.ask.log (g.S.Site.files c.args.site c.args.ask.log) (g.S.Site.may_leave c.args.site))
          (IsMoment Held c.args.ask.plan c.args.ask.log (g.S.Site.files c.args.site) (g.S.Site.may_leave c.args.site) H c.in-Ok.records ⊥) (c.in-Ok.ensures.moments t) (λ image before. inl before);
      contents = λ t H spelled resumable. weakened g.S.Site.moment g.S.Site.images_since c.args.site c.look.new.site (IsBefore c.args.ask.log (g.S.Site.files c.args.site c.args.ask.log) (g.S.Site.may_leave c.args.site))
          (IsMoment (SerialFits g.F.Commands.gives (read_sources c.args.ask.plan (g.S.Site.files c.args.site))) c.args.ask.plan c.args.ask.log (g.S.Site.files c.args.site) (g.S.Site.may_leave c.args.site) H c.in-Ok.records ⊥) (c.in-Ok.ensures.moments t) (λ image before. inl before);
      resumable = c.in-Ok.ensures.resumable;
      at_end = λ t H spelled resumable whole image left. subst (λ (xs : List Record). Keeps Held c.args.ask.plan c.args.ask.log xs image) (sym (c.in-Ok.ensures.ends t H spelled).0) (c.in-Ok.ensures.kept t H spelled resumable tt image left);
      cleaned = λ t H spelled. tt;
      untouched = λ t wrong. absurd (true≢false (sym wrong));
      quiet = λ t wrong. absurd (true≢false (sym wrong));
      others = λ t. beside_less g.S.Site.files g.S.Site.may_leave g.S.Site.moment g.S.Site.images_since (λ m. m ≢ c.args.ask.log) (IsUnmade c.args.ask.plan c.args.ask.log) c.args.site c.look.new.site (λ m other. other.0) (c.in-Ok.ensures.others t).crash;
      reads = λ t m unmade. (c.in-Ok.ensures.others t).reads m unmade.0;
    })

pub returns-in-Err-clause-serves : goal.returns-in-Err-clause-serves
returns-in-Err-clause-serves g c E =
    let why = c.in-Err.field-0.why in
    let given = c.in-Err.field-0.records in
    let same : c.look_cause.result ≡ look_cause (site_rise (counts c.args.before [] 0 0 0) (counts (g.S.Site.count c.look.new.site) [] 0 0 0)) why =
    c.look_cause.ensures ∙ ap (λ (n : ℕ). look_cause (record { before = c.args.before; after = n }) c.in-Err.field-0.why) c.faults-after.ensures in
    subst (λ (cause : Cause). Serves E g.S.Site.tells g.S.Site.files g.S.Site.may_leave g.S.Site.moment g.S.Site.images_since g.B.Born.born g.F.Commands.gives g.F.Commands.may_fail (λ (job : Job). Unit {0}) (Unit {0}) (Unit {0}) (counts c.args.before [] 0 0 0) (counts (g.S.Site.count c.look.new.site) [] 0 0 0) c.args.ask c.args.site c.look.new.site given cause) (sym same)
    (cared_serves E g.S.Site.tells g.S.Site.files g.S.Site.may_leave g.S.Site.moment g.S.Site.images_since g.B.Born.born g.F.Commands.gives g.F.Commands.may_fail (λ (job : Job). Unit {0}) (Unit {0}) (Unit {0}) (counts c.args.before [] 0 0 0) (counts (g.S.Site.count c.look.new.site) [] 0 0 0) c.args.ask c.args.site c.look.new.site given (look_cause (site_rise (counts c.args.before [] 0 0 0) (counts (g.S.Site.count c.look.new.site) [] 0 0 0)) why) 0 (IsCutFault why) (record {
      work = λ wrong. absurd (let both : works.PrintLog ≡ works.Run = sym c.requires.work ∙ wrong in cc);
      later = c.requires.later;
      cuts = look_cut (site_rise (counts c.args.before [] 0 0 0) (counts (g.S.Site.count c.look.new.site) [] 0 0 0)) why;
      runs_not = look_still (site_rise (counts c.args.before [] 0 0 0) (counts (g.S.Site.count c.look.new.site) [] 0 0 0)) why;
      late = look_late (site_rise (counts c.args.before [] 0 0 0) (counts (g.S.Site.count c.look.new.site) [] 0 0 0)) why;
      faults = look_faults (counts c.args.before [] 0 0 0) (counts (g.S.Site.count c.look.new.site) [] 0 0 0) (g.S.Site.count c.args.site) (g.S.Site.count c.look.new.site) why c.requires.counted refl c.in-Err.ensures.cause;
      damaged = λ t at told. look_damaged (site_rise (counts c.args.before [] 0 0 0) (counts (g.S.Site.count c.look.new.site) [] 0 0 0)) (g.S.Site.files c.args.site c.args.ask.log) given why at (c.in-Err.ensures.log t) told;
      read = λ t. look_read (site_rise (counts c.args.before [] 0 0 0) (counts (g.S.Site.count c.look.new.site) [] 0 0 0)) (g.S.Site.files c.args.site c.args.ask.log) given why (c.in-Err.ensures.log t);
      goes = λ t H spelled. subst (λ (w : Work). GoesOn E w c.args.ask 0 H (g.S.Site.files c.args.site) (g.S.Site.files c.look.new.site) given (look_cause (site_rise (counts c.args.before [] 0 0 0) (counts (g.S.Site.count c.look.new.site) [] 0 0 0)) why)) (sym c.requires.work)
          (look_goes E (site_rise (counts c.args.before [] 0 0 0) (counts (g.S.Site.count c.look.new.site) [] 0 0 0)) c.args.ask 0 H (g.S.Site.files c.args.site) (g.S.Site.files c.look.new.site) given why (c.in-Err.ensures.ends t H spelled).0);
      unread = λ t H spelled none. c.in-Err.ensures.moments t;
      has_log = λ t H spelled. look_log (site_rise (counts c.args.before [] 0 0 0) (counts (g.S.Site.count c.look.new.site) [] 0 0 0)) c.args.ask.plan H given why (c.in-Err.ensures.ends t H spelled).0 (c.in-Err.ensures.ends t H spelled).1;
      added = λ t H spelled. subst (λ (w : Work). AddsBy w c.args.ask.options H given (look_cause (site_rise (counts c.args.before [] 0 0 0) (counts (g.S.Site.count c.look.new.site) [] 0 0 0)) why)) (sym c.requires.work)
          (look_adds (site_rise (counts c.args.before [] 0 0 0) (counts (g.S.Site.count c.look.new.site) [] 0 0 0)) c.args.ask.plan H given why (c.in-Err.ensures.ends t H spelled).0 (c.in-Err.ensures.ends t H spelled).1);
      legal = λ read. absurd (true≢false (sym read ∙ look_unread (site_rise (counts c.args.before [] 0 0 0) (counts (g.S.Site.count c.look.new.site) [] 0 0 0)) why));
      logged = λ t H spelled. look_legal (site_rise (counts c.args.before [] 0 0 0) (counts (g.S.Site.count c.look.new.site) [] 0 0 0)) c.args.ask.plan H given why (c.in-Err.ensures.ends t H spelled).1;
      either = λ t H spelled whole. look_either H given 0 (site_rise (counts c.args.before [] 0 0 0) (counts (g.S.Site.count c.look.new.site) [] 0 0 0)) c.args.ask.plan why (c.in-Err.ensures.ends t H spelled).0 (c.in-Err.ensures.ends t H spelled).1 whole;
      begun = λ t H spelled begins. look_begins H given 0 why (c.in-Err.ensures.ends t H spelled).1;
      moments = λ t H spelled resumable. weakened g.S.Site.moment g.S.Site.images_since c.args.site c.look.new.site (IsBefore c.args.ask.log (g.S.Site.files c.args.site c.args.ask.log) (g.S.Site.may_leave c.args.site)) (IsMoment Held c.args.ask.plan c.args.ask.log (g.S.Site.files c.args.site) (g.S.Site.may_leave c.args.site) H given (IsCutFault why)) (c.in-Err.ensures.moments t) (λ image before. inl before);
      contents = λ t H spelled resumable. weakened g.S.Site.moment g.S.Site.images_since c.args.site c.look.new.site (IsBefore c.args.ask.log (g.S.Site.files c.args.site c.args.ask.log) (g.S.Site.may_leave c.args.site)) (IsMoment (SerialFits g.F.Commands.gives (read_sources c.args.ask.plan (g.S.Site.files c.args.site))) c.args.ask.plan c.args.ask.log (g.S.Site.files c.args.site) (g.S.Site.may_leave c.args.site) H given (IsCutFault why)) (c.in-Err.ensures.moments t) (λ image before. inl before);
      resumable = c.in-Err.ensures.resumable;
      at_end = λ t H spelled resumable whole image left.
          let seen = look_seen (site_rise (counts c.args.before [] 0 0 0) (counts (g.S.Site.count c.look.new.site) [] 0 0 0)) c.args.ask.plan H given why (c.in-Err.ensures.ends t H spelled).0 (c.in-Err.ensures.ends t H spelled).1 whole in
          subst (λ (xs : List Record). Keeps Held c.args.ask.plan c.args.ask.log xs image) (sym seen.1) (c.in-Err.ensures.kept t H spelled resumable seen.0 image left);
      cleaned = λ t H spelled. look_cleans (site_rise (counts c.args.before [] 0 0 0) (counts (g.S.Site.count c.look.new.site) [] 0 0 0)) c.args.ask.plan H (g.S.Site.files c.look.new.site) why;
      untouched = λ t refused m. c.in-Err.ensures.reads t (cut_look (site_rise (counts c.args.before [] 0 0 0) (counts (g.S.Site.count c.look.new.site) [] 0 0 0)) why refused)
          (look_begun c.files_spell_one_list.ensures.one c.files_spell_one_list.ensures.header c.files_spell_one_list.ensures.whole c.args.ask.plan (g.S.Site.files c.args.site c.args.ask.log) given why (cut_look (site_rise (counts c.args.before [] 0 0 0) (counts (g.S.Site.count c.look.new.site) [] 0 0 0)) why refused) (c.in-Err.ensures.log t) (λ H spelled. (c.in-Err.ensures.ends t H spelled).0)) m;
      quiet = λ t refused. begun_still g.S.Site.files g.S.Site.may_leave g.S.Site.moment g.S.Site.images_since c.args.ask.log c.args.site c.look.new.site (c.in-Err.ensures.moments t)
          (look_begun c.files_spell_one_list.ensures.one c.files_spell_one_list.ensures.header c.files_spell_one_list.ensures.whole c.args.ask.plan (g.S.Site.files c.args.site c.args.ask.log) given why (cut_look (site_rise (counts c.args.before [] 0 0 0) (counts (g.S.Site.count c.look.new.site) [] 0 0 0)) why refused) (c.in-Err.ensures.log t) (λ H spelled. (c.in-Err.ensures.ends t H spelled).0));
      others = λ t. beside_less g.S.Site.files g.S.Site.may_leave g.S.Site.moment g.S.Site.images_since (λ m. m ≢ c.args.ask.log) (IsUnmade c.args.ask.plan c.args.ask.log) c.args.site c.look.new.site (λ m other. other.0) (c.in-Err.ensures.others t).crash;
      reads = λ t m unmade. (c.in-Err.ensures.others t).reads m unmade.0;
    }))

pub returns-in-Ok-clause-fails_none : goal.returns-in-Ok-clause-fails_none
returns-in-Ok-clause-fails_none g c t H spelled whole = ap failed_count (c.in-Ok.ensures.ends t H spelled).0

pub returns-in-Err-clause-fails_none : goal.returns-in-Err-clause-fails_none
returns-in-Err-clause-fails_none g c t H spelled whole =
    fails_nothing H c.in-Err.field-0.records 0
    (look_either H c.in-Err.field-0.records 0 (record { before = c.args.before; after = c.faults-after.result }) c.args.ask.plan c.in-Err.field-0.why (c.in-Err.ensures.ends t H spelled).0 (c.in-Err.ensures.ends t H spelled).1
    (λ cut. whole (subst (λ (cause : Cause). is_cut (kind_of cause) ≡ true) (sym c.look_cause.ensures) cut)))

pub returns-in-Ok-clause-loses_none : goal.returns-in-Ok-clause-loses_none
returns-in-Ok-clause-loses_none g c t H spelled whole = loses_nothing H c.in-Ok.records 0 (inl (c.in-Ok.ensures.ends t H spelled).0)

pub returns-in-Err-clause-loses_none : goal.returns-in-Err-clause-loses_none
returns-in-Err-clause-loses_none g c t H spelled whole =
    loses_nothing H c.in-Err.field-0.records 0
    (look_either H c.in-Err.field-0.records 0 (record { before = c.args.before; after = c.faults-after.result }) c.args.ask.plan c.in-Err.field-0.why (c.in-Err.ensures.ends t H spelled).0 (c.in-Err.ensures.ends t H spelled).1
    (λ cut. whole (subst (λ (cause : Cause). is_cut (kind_of cause) ≡ true) (sym c.look_cause.ensures) cut)))

pub returns-in-Err-clause-runs_not : goal.returns-in-Err-clause-runs_not
returns-in-Err-clause-runs_not g c =
    subst (λ (cause : Cause). is_run_end (kind_of cause) ≡ false) (sym c.look_cause.ensures) (look_still (record { before = c.args.before; after = c.faults-after.result }) c.in-Err.field-0.why).0
