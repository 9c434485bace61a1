use Rattle.std.proofs.Common.{subst}
use Rattle.net_world.specs.Plays.{IsShown}
use Rattle.world_laws.specs.Due.{Plays}
use Rattle.world_laws.specs.Reach.{first_world}
use Rattle.world_contents.specs.Sources.{sources_in}
use Rattle.world_contents.proofs.Beginnings.{are_sources}
use Rattle.world_laws.proofs.Reached.{every_world}
use Rattle.world_laws.proofs.Runs.{plays_reach}
use Rattle.net_world.proofs.world.run_world.Goals as goal

pub returns-in-Ok-into_world-clause-reached : goal.returns-in-Ok-into_world-clause-reached
returns-in-Ok-into_world-clause-reached g c tells fresh =
    let P = c.args.plan.now in
    let O = c.args.options.now in
    let sources = c.args.sources.now in
    let gives = g.F.Commands.gives in
    let first = subst (λ s. IsShown P O (first_world P O (sources_in P s) fresh) c.in-Ok.play) c.as_slice.ensures (c.in-Ok.ensures fresh) in
    let did = c.in_ok-play.ensures.ran tells P O (first_world P O (sources_in P sources) fresh) first in
    let played = subst (λ es. Plays P O gives g.F.Commands.may_fail (first_world P O (sources_in P sources) fresh) es did.0) c.as_slice-2.ensures did.1 in (
      did.0,
      played,
      c.in-Ok-into_world.ensures P O did.0 did.2,
      every_world gives g.F.Commands.may_fail P O (sources_in P sources) fresh c.args.events.now did.0 c.requires.valid
          (are_sources P sources c.requires.sources)
          (plays_reach P O gives g.F.Commands.may_fail c.args.events.now (first_world P O (sources_in P sources) fresh) did.0 played),
    )
