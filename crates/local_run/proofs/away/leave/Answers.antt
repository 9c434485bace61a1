use Rattle.std.proofs.Common.{arith}
use Rattle.flow_types.specs.Serial.{serial}
use Rattle.run_history.specs.Links.{records_of}
use Rattle.desk.specs.State.{IsFine}
use Rattle.local_run.specs.Collecting.{IsUntouched}
use Rattle.local_run.specs.Underway.{IsSurePool}
use Rattle.local_run.proofs.Alone.{alone_same}
use Rattle.local_run.proofs.AwayLeft.{none_there}
use Rattle.local_run.proofs.Linked.{leaves_on}
use Rattle.local_run.proofs.away.leave.Goals as goal

pub leave-requires-clause-idle : goal.leave-requires-clause-idle
leave-requires-clause-idle g c κs within =
    let d = c.args.desk.now in
    let h = c.requires.none in
    let u = h.7 in
    none_there h.1.plan h.1.options d.plan (IsFine d.trouble) d.moves g.T.Terms.trust (serial d.plan g.F.Commands.gives g.T.Terms.sources) h.2 h.3 h.0.attempts c.args.link.0 c.requires.fine c.requires.apart u.matches u.here u.beyond h.6 (let few = u.all c.requires.fine in omega (arith, few))

pub returns-clause-underway : goal.returns-clause-underway
returns-clause-underway g c away first held waiting loose heard halt u =
    let d = c.args.desk.now in
    leaves_on g.T.Terms.trust g.F.Commands.gives g.F.Commands.may_fail g.T.Terms.sources g.S.Site.tells g.T.Terms.kept (IsSurePool g.B.Terms.fits) g.S.Site.files g.S.Site.may_leave g.S.Site.moment g.S.Site.images_since away first d c.leave.new.self c.args.link held waiting loose heard halt
    (λ told. alone_same g.S.Site.files g.S.Site.may_leave g.S.Site.moment g.S.Site.images_since (IsUntouched d.plan d.log (records_of d.moves)) d.site (λ image. (g.met.S.Site g.world.𝓛 g.world.𝓜 g.world.𝓡 ((λ s x. x), (λ x. x), (λ x. x), λ x. x)).only_now told d.site image)) c.leave.ensures u
