use Rattle.run_history.specs.Links.{records_of}
use Rattle.local_run.specs.Collecting.{IsUntouched}
use Rattle.local_run.specs.Underway.{IsSurePool}
use Rattle.local_run.proofs.Alone.{alone_same}
use Rattle.local_run.proofs.Linked.{joins_on}
use Rattle.local_run.proofs.away.join.Goals as goal

pub returns-clause-underway : goal.returns-clause-underway
returns-clause-underway g c away first held waiting loose heard halt u =
    let d = c.args.desk.now in
    joins_on g.T.Terms.trust g.F.Commands.gives g.F.Commands.may_fail g.T.Terms.sources g.S.Site.tells g.T.Terms.kept (IsSurePool g.B.Terms.fits) g.S.Site.files g.S.Site.may_leave g.S.Site.moment g.S.Site.images_since away first d c.join.new.self c.args.total c.args.largest c.args.cache c.join.result held waiting loose heard halt
    (λ told. alone_same g.S.Site.files g.S.Site.may_leave g.S.Site.moment g.S.Site.images_since (IsUntouched d.plan d.log (records_of d.moves)) d.site (λ image. (g.met.S.Site g.world.𝓛 g.world.𝓜 g.world.𝓡 ((λ s x. x), (λ x. x), (λ x. x), λ x. x)).only_now told d.site image)) c.join.ensures u
