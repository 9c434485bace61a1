use Rattle.std.proofs.Common.{sym, ◌∙◌}
use Rattle.world_peers.specs.Peers.{is_least}
use Rattle.world_peers.proofs.Places.{place_found}
use Rattle.world_peers.proofs.peer.next.Goals as goal

pub returns-in-Some : goal.returns-in-Some
returns-in-Some c =
    c.at_place.ensures ∙ place_found (is_least c.args.jobs.now) c.args.jobs.now c.in-Some.at (sym c.in-Some.ensures.place)
