use Rattle.std.proofs.Common.{Err, arith, map, refl, subst, Ok}
use Rattle.flow_types.specs.declared.records.Record.TheVariants as records
use Rattle.desk.specs.Kept.{logged}
use Rattle.desk.specs.declared.answers.CloseRefused.{CloseRefused}
use Rattle.desk.specs.State.{Closes}
use Rattle.local_run.specs.Underway.{IsSurePool}
use Rattle.local_run.proofs.Closings.{is_broken}
use Rattle.local_run.proofs.RunsClosed.{done_ending}
use Rattle.local_run.proofs.UnderClosed.{closed_stopped, closes_plain, finish_due, finish_goes, stopped_memory, stopped_site}
use Rattle.local_run.specs.Losses.{done_as}
use Rattle.local_run.proofs.Sparing.{ends_it}
use Rattle.local_run.proofs.closing.finish.Goals as goal

pub returns-in-Ok : goal.returns-in-Ok
returns-in-Ok g c = record {
  underway = λ away first held waiting heard halt u.
      let d = c.args.desk.now in
      let after = c.finish.new.self in
      let a = c.args.attempt in
      let rows = map logged c.args.outs.now in
      let x = records.Done c.args.moment a.rule a.number rows in
      let goes = finish_goes g.T.Terms.trust g.F.Commands.gives g.F.Commands.may_fail g.T.Terms.sources g.S.Site.tells g.T.Terms.kept (IsSurePool g.B.Terms.fits) g.S.Site.files g.S.Site.may_leave g.S.Site.moment g.S.Site.images_since away g.S.Site.count d after a c.args.moment rows c.finish.result c.requires.valid
      (λ told image. (g.met.S.Site g.world.𝓛 g.world.𝓜 g.world.𝓡 ((λ s x. x), (λ x. x), (λ x. x), λ x. x)).only_now told d.site image) c.requires.runs c.finish.ensures.others c.finish.ensures.reads c.finish.ensures.reply in
      closes_plain g.T.Terms.trust g.F.Commands.gives g.F.Commands.may_fail g.T.Terms.sources g.S.Site.tells g.T.Terms.kept (IsSurePool g.B.Terms.fits) g.S.Site.files g.S.Site.may_leave g.S.Site.moment g.S.Site.images_since away g.S.Site.count first d d after d.stop a x c.finish.result held waiting heard halt _ (done_ending c.args.moment a.rule a.number rows) refl refl goes c.finish.ensures.reply
      (closed_stopped g.T.Terms.trust g.F.Commands.gives g.F.Commands.may_fail g.T.Terms.sources g.S.Site.tells g.T.Terms.kept (IsSurePool g.B.Terms.fits) g.S.Site.files g.S.Site.may_leave g.S.Site.moment g.S.Site.images_since away g.S.Site.count first d after a x c.finish.result held waiting heard heard halt c.requires.valid (done_ending c.args.moment a.rule a.number rows) c.in-Ok.is c.finish.ensures.reply goes (omega arith) c.finish.ensures.reads u)
      (λ going. (going, λ is. finish_due g.T.Terms.trust g.F.Commands.gives g.F.Commands.may_fail g.T.Terms.sources g.S.Site.tells g.T.Terms.kept (IsSurePool g.B.Terms.fits) g.S.Site.files g.S.Site.may_leave g.S.Site.moment g.S.Site.images_since away g.S.Site.count d after a c.args.moment rows c.finish.result c.requires.runs c.in-Ok.is c.finish.ensures.reply goes)) u;
  ends = ends_it g.S.Site.count c.args.desk.now c.finish.new.self c.args.attempt (done_as c.args.attempt c.args.outs.now) c.args.moment (Ok tt) c.works-works.ensures.legal c.in-Ok.ensures.reply;
}

pub returns-in-Err-Broken : goal.returns-in-Err-Broken
returns-in-Err-Broken g c = record {
  underway = λ away first held waiting heard halt u.
      let d = c.args.desk.now in
      let after = c.finish.new.self in
      let a = c.args.attempt in
      let rows = map logged c.args.outs.now in
      let x = records.Done c.args.moment a.rule a.number rows in
      let goes = finish_goes g.T.Terms.trust g.F.Commands.gives g.F.Commands.may_fail g.T.Terms.sources g.S.Site.tells g.T.Terms.kept (IsSurePool g.B.Terms.fits) g.S.Site.files g.S.Site.may_leave g.S.Site.moment g.S.Site.images_since away g.S.Site.count d after a c.args.moment rows c.finish.result c.requires.valid
      (λ told image. (g.met.S.Site g.world.𝓛 g.world.𝓜 g.world.𝓡 ((λ s x. x), (λ x. x), (λ x. x), λ x. x)).only_now told d.site image) c.requires.runs c.finish.ensures.others c.finish.ensures.reads c.finish.ensures.reply in
      closes_plain g.T.Terms.trust g.F.Commands.gives g.F.Commands.may_fail g.T.Terms.sources g.S.Site.tells g.T.Terms.kept (IsSurePool g.B.Terms.fits) g.S.Site.files g.S.Site.may_leave g.S.Site.moment g.S.Site.images_since away g.S.Site.count first d d after d.stop a x c.finish.result held waiting heard halt _ (done_ending c.args.moment a.rule a.number rows) refl refl goes c.finish.ensures.reply
      (stopped_site g.S.Site.tells g.T.Terms.kept (IsSurePool g.B.Terms.fits) g.S.Site.files after heard
      (is_broken g.S.Site.count d _ _ after (subst (λ (w : CloseRefused). Closes g.S.Site.count d a.rule a.number a.link x (Err w) after) c.in-Err-Broken.field-0-is c.in-Err-Broken.ensures.reply)))
      (λ going. absurd going) u;
  ends = tt;
}

pub returns-in-Err-Memory : goal.returns-in-Err-Memory
returns-in-Err-Memory g c = record {
  underway = λ away first held waiting heard halt u.
      let d = c.args.desk.now in
      let after = c.finish.new.self in
      let a = c.args.attempt in
      let rows = map logged c.args.outs.now in
      let x = records.Done c.args.moment a.rule a.number rows in
      let goes = finish_goes g.T.Terms.trust g.F.Commands.gives g.F.Commands.may_fail g.T.Terms.sources g.S.Site.tells g.T.Terms.kept (IsSurePool g.B.Terms.fits) g.S.Site.files g.S.Site.may_leave g.S.Site.moment g.S.Site.images_since away g.S.Site.count d after a c.args.moment rows c.finish.result c.requires.valid
      (λ told image. (g.met.S.Site g.world.𝓛 g.world.𝓜 g.world.𝓡 ((λ s x. x), (λ x. x), (λ x. x), λ x. x)).only_now told d.site image) c.requires.runs c.finish.ensures.others c.finish.ensures.reads c.finish.ensures.reply in
      closes_plain g.T.Terms.trust g.F.Commands.gives g.F.Commands.may_fail g.T.Terms.sources g.S.Site.tells g.T.Terms.kept (IsSurePool g.B.Terms.fits) g.S.Site.files g.S.Site.may_leave g.S.Site.moment g.S.Site.images_since away g.S.Site.count first d d after d.stop a x c.finish.result held waiting heard halt _ (done_ending c.args.moment a.rule a.number rows) refl refl goes c.finish.ensures.reply
      (stopped_memory g.S.Site.tells g.T.Terms.kept (IsSurePool g.B.Terms.fits) g.S.Site.files after heard)
      (λ going. absurd going) u;
  ends = tt;
}
