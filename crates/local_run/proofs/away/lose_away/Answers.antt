use Rattle.std.proofs.Common.{◌++◌, Err, None, ap, arith, refl, subst}
use Rattle.flow_types.specs.declared.records.Record.TheVariants as records
use Rattle.rule_graph.specs.Spelling.{plan_digest}
use Rattle.run_history.specs.Links.{records_of}
use Rattle.desk.specs.declared.answers.CloseRefused.{CloseRefused}
use Rattle.desk.specs.State.{Closes, DeskState, IsFine}
use Rattle.local_run.specs.Beyond.{done_by, lost_by}
use Rattle.local_run.specs.Underway.{AreAway, IsSurePool}
use Rattle.local_run.proofs.AwayClosed.{away_at, away_out}
use Rattle.local_run.proofs.Closings.{is_broken}
use Rattle.local_run.proofs.RunsClosed.{lost_ending}
use Rattle.local_run.proofs.UnderClosed.{closed_stopped, closes_then, lose_goes, stopped_memory, stopped_site}
use Rattle.local_run.proofs.Elsewhere.{runs_started_on}
use Rattle.local_run.proofs.away.lose_away.Goals as goal

pub returns-in-Ok : goal.returns-in-Ok
returns-in-Ok g c = record {
  underway = λ away front back first held waiting heard halt are u.
      let d = c.args.desk.now in
      let after = c.lose.new.self in
      let a = c.args.attempt in
      let x = records.Lost c.args.moment a.rule a.number in
      let beside = done_by (front ++ back) away in
      let here = away_at d.plan (IsFine d.trouble) d.moves held front a back (subst (AreAway d.plan (IsFine d.trouble) d.moves held None) are u.beyond) in
      let out = away_out g.T.Terms.trust g.F.Commands.gives g.F.Commands.may_fail g.T.Terms.sources g.S.Site.tells g.T.Terms.kept (IsSurePool g.B.Terms.fits) g.S.Site.files g.S.Site.may_leave g.S.Site.moment g.S.Site.images_since away first d held waiting heard halt front a back are u in
      let goes = lose_goes g.T.Terms.trust g.F.Commands.gives g.F.Commands.may_fail g.T.Terms.sources g.S.Site.tells g.T.Terms.kept (IsSurePool g.B.Terms.fits) g.S.Site.files g.S.Site.may_leave g.S.Site.moment g.S.Site.images_since beside g.S.Site.count d after a c.args.moment c.lose.result c.works-works.ensures.legal here.0 c.lose.ensures.others c.lose.ensures.reads c.lose.ensures.reply in
      closes_then g.T.Terms.trust g.F.Commands.gives g.F.Commands.may_fail g.T.Terms.sources g.S.Site.tells g.T.Terms.kept (IsSurePool g.B.Terms.fits) g.S.Site.files g.S.Site.may_leave g.S.Site.moment g.S.Site.images_since beside (lost_by (front ++ back) away) g.S.Site.count first d d after d.stop a x c.lose.result held waiting heard heard halt _ refl refl (lost_ending c.args.moment a.rule a.number) refl goes c.lose.ensures.reply
      (omega arith) (λ is zero. zero)
      (closed_stopped g.T.Terms.trust g.F.Commands.gives g.F.Commands.may_fail g.T.Terms.sources g.S.Site.tells g.T.Terms.kept (IsSurePool g.B.Terms.fits) g.S.Site.files g.S.Site.may_leave g.S.Site.moment g.S.Site.images_since beside g.S.Site.count first d after a x c.lose.result held waiting heard heard halt c.requires.valid (lost_ending c.args.moment a.rule a.number) c.in-Ok.is c.lose.ensures.reply goes (omega arith)
      (λ told m other. c.lose.ensures.reads told m other.0) out)
      (λ going. (going, λ is smooth. absurd (let some = smooth.1 in let wrong : ⊥ = omega (arith, some) in wrong))) out;
  loses = record {
    moment = c.args.moment;
    are = ap (λ (b : DeskState g.row.S.Denot). b.moves) c.in-Ok.ensures.reply.2;
    started = runs_started_on c.args.desk.now.plan (plan_digest c.args.desk.now.plan) (records_of c.args.desk.now.moves) c.args.attempt.rule.0 c.args.attempt.number.0 c.args.attempt.link.0 c.works-works.ensures.legal c.in-Ok.ensures.reply.1;
  };
}

pub returns-in-Err-Broken : goal.returns-in-Err-Broken
returns-in-Err-Broken g c = record {
  underway = λ away front back first held waiting heard halt are u.
      let d = c.args.desk.now in
      let after = c.lose.new.self in
      let a = c.args.attempt in
      let x = records.Lost c.args.moment a.rule a.number in
      let beside = done_by (front ++ back) away in
      let here = away_at d.plan (IsFine d.trouble) d.moves held front a back (subst (AreAway d.plan (IsFine d.trouble) d.moves held None) are u.beyond) in
      let out = away_out g.T.Terms.trust g.F.Commands.gives g.F.Commands.may_fail g.T.Terms.sources g.S.Site.tells g.T.Terms.kept (IsSurePool g.B.Terms.fits) g.S.Site.files g.S.Site.may_leave g.S.Site.moment g.S.Site.images_since away first d held waiting heard halt front a back are u in
      let goes = lose_goes g.T.Terms.trust g.F.Commands.gives g.F.Commands.may_fail g.T.Terms.sources g.S.Site.tells g.T.Terms.kept (IsSurePool g.B.Terms.fits) g.S.Site.files g.S.Site.may_leave g.S.Site.moment g.S.Site.images_since beside g.S.Site.count d after a c.args.moment c.lose.result c.works-works.ensures.legal here.0 c.lose.ensures.others c.lose.ensures.reads c.lose.ensures.reply in
      closes_then g.T.Terms.trust g.F.Commands.gives g.F.Commands.may_fail g.T.Terms.sources g.S.Site.tells g.T.Terms.kept (IsSurePool g.B.Terms.fits) g.S.Site.files g.S.Site.may_leave g.S.Site.moment g.S.Site.images_since beside (lost_by (front ++ back) away) g.S.Site.count first d d after d.stop a x c.lose.result held waiting heard heard halt _ refl refl (lost_ending c.args.moment a.rule a.number) refl goes c.lose.ensures.reply
      (omega arith) (λ is zero. zero)
      (stopped_site g.S.Site.tells g.T.Terms.kept (IsSurePool g.B.Terms.fits) g.S.Site.files after heard
      (is_broken g.S.Site.count d _ _ after (subst (λ (w : CloseRefused). Closes g.S.Site.count d a.rule a.number a.link x (Err w) after) c.in-Err-Broken.field-0-is c.in-Err-Broken.ensures.reply)))
      (λ going. absurd going) out;
  loses = tt;
}

pub returns-in-Err-Memory : goal.returns-in-Err-Memory
returns-in-Err-Memory g c = record {
  underway = λ away front back first held waiting heard halt are u.
      let d = c.args.desk.now in
      let after = c.lose.new.self in
      let a = c.args.attempt in
      let x = records.Lost c.args.moment a.rule a.number in
      let beside = done_by (front ++ back) away in
      let here = away_at d.plan (IsFine d.trouble) d.moves held front a back (subst (AreAway d.plan (IsFine d.trouble) d.moves held None) are u.beyond) in
      let out = away_out g.T.Terms.trust g.F.Commands.gives g.F.Commands.may_fail g.T.Terms.sources g.S.Site.tells g.T.Terms.kept (IsSurePool g.B.Terms.fits) g.S.Site.files g.S.Site.may_leave g.S.Site.moment g.S.Site.images_since away first d held waiting heard halt front a back are u in
      let goes = lose_goes g.T.Terms.trust g.F.Commands.gives g.F.Commands.may_fail g.T.Terms.sources g.S.Site.tells g.T.Terms.kept (IsSurePool g.B.Terms.fits) g.S.Site.files g.S.Site.may_leave g.S.Site.moment g.S.Site.images_since beside g.S.Site.count d after a c.args.moment c.lose.result c.works-works.ensures.legal here.0 c.lose.ensures.others c.lose.ensures.reads c.lose.ensures.reply in
      closes_then g.T.Terms.trust g.F.Commands.gives g.F.Commands.may_fail g.T.Terms.sources g.S.Site.tells g.T.Terms.kept (IsSurePool g.B.Terms.fits) g.S.Site.files g.S.Site.may_leave g.S.Site.moment g.S.Site.images_since beside (lost_by (front ++ back) away) g.S.Site.count first d d after d.stop a x c.lose.result held waiting heard heard halt _ refl refl (lost_ending c.args.moment a.rule a.number) refl goes c.lose.ensures.reply
      (omega arith) (λ is zero. zero)
      (stopped_memory g.S.Site.tells g.T.Terms.kept (IsSurePool g.B.Terms.fits) g.S.Site.files after heard)
      (λ going. absurd going) out;
  loses = tt;
}
