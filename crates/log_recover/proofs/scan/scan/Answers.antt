use Rattle.std.proofs.Common.{◌+◌, length-append, ◌≡◌, ◌++◌, ◌∷◌, [], List, length, ap, sym, subst, ◌∙◌, arith}
use Rattle.flow_types.specs.declared.records.Record.{Record}
use Rattle.outside.specs.Files.{Files, content}
use Rattle.txn_log.specs.Logs.{farthest}
use Rattle.log_recover.specs.Steps.{Stands, EndsWithin}
use Rattle.log_recover.specs.declared.step.Step.{Step}
use Rattle.log_recover.specs.declared.step.Step.TheVariants.{Entry}
use Rattle.log_recover.specs.Recovery.{IsRead}
use Rattle.log_recover.specs.Windows.{Shows}
use Rattle.log_recover.proofs.Quiets.{quiet_start, quiet_joined}
use Rattle.log_recover.proofs.Scans.{read_start, read_more}
use Rattle.log_recover.proofs.scan.scan.Goals as goal

pub loop-window-init : goal.loop-window-init
loop-window-init g c = record {
  near = omega arith;
  few = omega (arith, ap length c.new-records.ensures);
  within = c.requires.long;
  read = λ told. subst (λ (rs : List Record). IsRead (content (g.S.Site.files c.args.site.now c.args.name.now)) rs 8) (sym c.new-records.ensures) (read_start _ (c.requires.header told));
  shows = λ told. c.new-window.ensures (content (g.S.Site.files c.args.site.now c.args.name.now));
  quiet = λ told. quiet_start g.S.Site.files g.S.Site.may_leave g.S.Site.moment g.S.Site.images_since c.args.site.now
      (λ image left. (g.met.S.Site g.world.𝓛 g.world.𝓜 g.world.𝓡 ((λ s x. x), (λ x. x), (λ x. x), λ x. x)).only_now told c.args.site.now image left);
  ample = λ is. is;
  later = omega arith;
}

pub entry_at-requires-clause-size : goal.entry_at-requires-clause-size
entry_at-requires-clause-size g c κs within told =
    c.requires.size told ∙ ap (λ (f : Files). length (content (f c.args.name.now))) (sym (c.loop-window.invariant.quiet told).same)

pub entry_at-requires-clause-shows : goal.entry_at-requires-clause-shows
entry_at-requires-clause-shows g c κs within told =
    subst (λ (f : Files). Shows c.loop-window.window (content (f c.args.name.now))) (sym (c.loop-window.invariant.quiet told).same) (c.loop-window.invariant.shows told)

pub loop-window-preserved : goal.loop-window-preserved
loop-window-preserved g c =
    let step = c.in_ok-step.ensures in
    let entry = Entry c.in-Entry.record c.in-Entry.end in
    let ends : EndsWithin c.loop-window.at c.args.size entry = subst (λ (s : Step). EndsWithin c.loop-window.at c.args.size s) c.in-Entry.is step.end in
    let added : c.keep.new.records ≡ c.loop-window.records ++ c.in-Entry.record ∷ [] = c.in_ok-keep-in-Entry.ensures.ok in
    let long : length c.keep.new.records ≡ length c.loop-window.records + 1 = ap length added ∙ length-append c.loop-window.records (c.in-Entry.record ∷ []) in
    let far : farthest (length c.keep.new.records) ≡ farthest (length c.loop-window.records + 1) = ap farthest long in
    record {
      near = omega (arith, far, ends.2, c.loop-window.invariant.near);
      few = c.in_ok-keep-in-Entry.ensures.few;
      within = ends.1;
      read = λ told.
          let bytes = content (g.S.Site.files c.args.site.now c.args.name.now) in
          let there : Stands (content (g.S.Site.files c.loop-window.site c.args.name.now)) c.loop-window.at entry =
          subst (λ (s : Step). Stands (content (g.S.Site.files c.loop-window.site c.args.name.now)) c.loop-window.at s) c.in-Entry.is (step.step told) in
          let here : Stands bytes c.loop-window.at entry = subst (λ (f : Files). Stands (content (f c.args.name.now)) c.loop-window.at entry) (c.loop-window.invariant.quiet told).same there in
          subst (λ (rs : List Record). IsRead bytes rs c.in-Entry.end) (sym added)
          (read_more bytes c.loop-window.records c.in-Entry.record c.loop-window.at c.in-Entry.end (omega (arith, ends.1, c.requires.size told)) (c.loop-window.invariant.read told) here);
      shows = λ told. subst (λ (f : Files). Shows c.entry_at.new.window (content (f c.args.name.now))) (c.loop-window.invariant.quiet told).same (step.shows told);
      quiet = λ told. quiet_joined g.S.Site.files g.S.Site.may_leave g.S.Site.moment g.S.Site.images_since c.args.site.now c.loop-window.site c.entry_at.new.site
          (c.loop-window.invariant.quiet told) (step.quiet told);
      ample = λ is. step.ample.stays (c.loop-window.invariant.ample is);
      later = omega (arith, c.loop-window.invariant.later, step.cause.later);
    }
