use Rattle.std.proofs.Common.{◌++◌, Err, ap, arith, refl, subst, Ok}
use Rattle.flow_types.specs.declared.records.Record.TheVariants as records
use Rattle.desk.specs.declared.answers.CloseRefused.{CloseRefused}
use Rattle.desk.specs.State.{Closes, closed}
use Rattle.local_run.specs.Beyond.{done_by, failed_by}
use Rattle.local_run.specs.Underway.{IsSurePool}
use Rattle.local_run.proofs.AwayClosed.{away_out}
use Rattle.local_run.proofs.Closings.{is_broken}
use Rattle.local_run.proofs.RunsClosed.{failed_ending}
use Rattle.local_run.proofs.UnderClosed.{closed_stopped, closes_then, fail_goes, stopped_memory, stopped_site}
use Rattle.local_run.specs.Losses.{failed_as}
use Rattle.local_run.proofs.Sparing.{ends_it}
use Rattle.local_run.proofs.away.fail_away.Goals as goal

pub returns-in-Ok : goal.returns-in-Ok
returns-in-Ok g c = record {
  underway = λ away front back first held waiting heard halt are u.
      let d = c.args.desk.now in
      let after = c.fail.new.self in
      let a = c.args.attempt in
      let x = records.Failed c.args.moment a.rule a.number c.args.why in
      let beside = done_by (front ++ back) away in
      let out = away_out g.T.Terms.trust g.F.Commands.gives g.F.Commands.may_fail g.T.Terms.sources g.S.Site.tells g.T.Terms.kept (IsSurePool g.B.Terms.fits) g.S.Site.files g.S.Site.may_leave g.S.Site.moment g.S.Site.images_since away first d held waiting heard halt front a back are u in
      let goes = fail_goes g.T.Terms.trust g.F.Commands.gives g.F.Commands.may_fail g.T.Terms.sources g.S.Site.tells g.T.Terms.kept (IsSurePool g.B.Terms.fits) g.S.Site.files g.S.Site.may_leave g.S.Site.moment g.S.Site.images_since beside g.S.Site.count d after a c.args.moment c.args.why (closed c.fail.result) c.requires.honest c.fail.ensures.others c.fail.ensures.reads c.fail.ensures.reply in
      closes_then g.T.Terms.trust g.F.Commands.gives g.F.Commands.may_fail g.T.Terms.sources g.S.Site.tells g.T.Terms.kept (IsSurePool g.B.Terms.fits) g.S.Site.files g.S.Site.may_leave g.S.Site.moment g.S.Site.images_since beside (failed_by (front ++ back) away) g.S.Site.count first d d after d.stop a x (closed c.fail.result) held waiting heard heard halt _ refl refl (failed_ending c.args.moment a.rule a.number c.args.why) refl goes c.fail.ensures.reply
      (omega arith) (λ is zero. zero)
      (closed_stopped g.T.Terms.trust g.F.Commands.gives g.F.Commands.may_fail g.T.Terms.sources g.S.Site.tells g.T.Terms.kept (IsSurePool g.B.Terms.fits) g.S.Site.files g.S.Site.may_leave g.S.Site.moment g.S.Site.images_since beside g.S.Site.count first d after a x (closed c.fail.result) held waiting heard heard halt c.requires.valid (failed_ending c.args.moment a.rule a.number c.args.why) (ap closed c.in-Ok.is) c.fail.ensures.reply goes (omega arith)
      (λ told m other. c.fail.ensures.reads told m other.0) out)
      (λ going. (going, λ is smooth. absurd (let some = smooth.0 in let wrong : ⊥ = omega (arith, some) in wrong))) out;
  ends = ends_it g.S.Site.count c.args.desk.now c.fail.new.self c.args.attempt (failed_as c.args.attempt c.args.why) c.args.moment (Ok tt) c.works-works.ensures.legal c.in-Ok.ensures.reply;
}

pub returns-in-Err-Broken : goal.returns-in-Err-Broken
returns-in-Err-Broken g c = record {
  underway = λ away front back first held waiting heard halt are u.
      let d = c.args.desk.now in
      let after = c.fail.new.self in
      let a = c.args.attempt in
      let x = records.Failed c.args.moment a.rule a.number c.args.why in
      let beside = done_by (front ++ back) away in
      let out = away_out g.T.Terms.trust g.F.Commands.gives g.F.Commands.may_fail g.T.Terms.sources g.S.Site.tells g.T.Terms.kept (IsSurePool g.B.Terms.fits) g.S.Site.files g.S.Site.may_leave g.S.Site.moment g.S.Site.images_since away first d held waiting heard halt front a back are u in
      let goes = fail_goes g.T.Terms.trust g.F.Commands.gives g.F.Commands.may_fail g.T.Terms.sources g.S.Site.tells g.T.Terms.kept (IsSurePool g.B.Terms.fits) g.S.Site.files g.S.Site.may_leave g.S.Site.moment g.S.Site.images_since beside g.S.Site.count d after a c.args.moment c.args.why (closed c.fail.result) c.requires.honest c.fail.ensures.others c.fail.ensures.reads c.fail.ensures.reply in
      closes_then g.T.Terms.trust g.F.Commands.gives g.F.Commands.may_fail g.T.Terms.sources g.S.Site.tells g.T.Terms.kept (IsSurePool g.B.Terms.fits) g.S.Site.files g.S.Site.may_leave g.S.Site.moment g.S.Site.images_since beside (failed_by (front ++ back) away) g.S.Site.count first d d after d.stop a x (closed c.fail.result) held waiting heard heard halt _ refl refl (failed_ending c.args.moment a.rule a.number c.args.why) refl goes c.fail.ensures.reply
      (omega arith) (λ is zero. zero)
      (stopped_site g.S.Site.tells g.T.Terms.kept (IsSurePool g.B.Terms.fits) g.S.Site.files after heard
      (is_broken g.S.Site.count d _ _ after (subst (λ (w : CloseRefused). Closes g.S.Site.count d a.rule a.number a.link x (Err w) after) c.in-Err-Broken.field-0-is c.in-Err-Broken.ensures.reply)))
      (λ going. absurd going) out;
  ends = tt;
}

pub returns-in-Err-Memory : goal.returns-in-Err-Memory
returns-in-Err-Memory g c = record {
  underway = λ away front back first held waiting heard halt are u.
      let d = c.args.desk.now in
      let after = c.fail.new.self in
      let a = c.args.attempt in
      let x = records.Failed c.args.moment a.rule a.number c.args.why in
      let beside = done_by (front ++ back) away in
      let out = away_out g.T.Terms.trust g.F.Commands.gives g.F.Commands.may_fail g.T.Terms.sources g.S.Site.tells g.T.Terms.kept (IsSurePool g.B.Terms.fits) g.S.Site.files g.S.Site.may_leave g.S.Site.moment g.S.Site.images_since away first d held waiting heard halt front a back are u in
      let goes = fail_goes g.T.Terms.trust g.F.Commands.gives g.F.Commands.may_fail g.T.Terms.sources g.S.Site.tells g.T.Terms.kept (IsSurePool g.B.Terms.fits) g.S.Site.files g.S.Site.may_leave g.S.Site.moment g.S.Site.images_since beside g.S.Site.count d after a c.args.moment c.args.why (closed c.fail.result) c.requires.honest c.fail.ensures.others c.fail.ensures.reads c.fail.ensures.reply in
      closes_then g.T.Terms.trust g.F.Commands.gives g.F.Commands.may_fail g.T.Terms.sources g.S.Site.tells g.T.Terms.kept (IsSurePool g.B.Terms.fits) g.S.Site.files g.S.Site.may_leave g.S.Site.moment g.S.Site.images_since beside (failed_by (front ++ back) away) g.S.Site.count first d d after d.stop a x (closed c.fail.result) held waiting heard heard halt _ refl refl (failed_ending c.args.moment a.rule a.number c.args.why) refl goes c.fail.ensures.reply
      (omega arith) (λ is zero. zero)
      (stopped_memory g.S.Site.tells g.T.Terms.kept (IsSurePool g.B.Terms.fits) g.S.Site.files after heard)
      (λ going. absurd going) out;
  ends = tt;
}
