use Rattle.std.proofs.Common.{◌≡◌, true, rules}
use Rattle.std.specs.Prelude.{is_some}
use Rattle.foreman_core.specs.Foremen.{place_of_link}
use Rattle.foreman_core.proofs.Losing.{lost_here}
use Rattle.foreman_core.proofs.foreman.ForemanCore.on_lost.Goals as goal

pub returns-then-is_some : goal.returns-then-is_some
returns-then-is_some c =
    let here : is_some (place_of_link c.args.link c.args.self.now.links) ≡ true = search rules in
    lost_here c.args.self.now c.args.link c.lose.result c.lose.new.self here c.lose.ensures
