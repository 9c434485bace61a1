use Rattle.std.proofs.Common.{◌++◌}
use Rattle.local_run.specs.Underway.{IsSurePool}
use Rattle.local_run.specs.Beyond.{done_by}
use Rattle.local_run.proofs.AwayClosed.{away_out}
use Rattle.local_run.proofs.away.finish_away.Goals as goal

pub returns : goal.returns
returns g c = record {
  underway = λ away front back first held waiting heard halt are u.
      c.finish.ensures.underway (done_by (front ++ back) away) first held waiting heard halt
      (away_out g.T.Terms.trust g.F.Commands.gives g.F.Commands.may_fail g.T.Terms.sources g.S.Site.tells g.T.Terms.kept (IsSurePool g.B.Terms.fits) g.S.Site.files g.S.Site.may_leave g.S.Site.moment g.S.Site.images_since away first c.args.desk.now held waiting heard halt front c.args.attempt back are u);
  ends = c.finish.ensures.ends;
}
