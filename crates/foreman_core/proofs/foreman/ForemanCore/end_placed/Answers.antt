use Rattle.std.proofs.Common.{◌≡◌, Some, None, Option, ℕ, rules}
use Rattle.foreman_core.specs.Foremen.{place_of_link}
use Rattle.foreman_core.proofs.Ending.{ends_placed}
use Rattle.foreman_core.proofs.foreman.ForemanCore.end_placed.Goals as goal

pub returns-in-Some : goal.returns-in-Some
returns-in-Some c =
    let here : Option ℕ = Some c.in-Some.on in
    let is : here ≡ place_of_link c.args.spot.link c.args.self.now.links = search rules in
    ends_placed c.args.self.now c.args.spot here c.args.at c.args.draft c.end_on.result c.end_on.new.self is c.end_on.ensures

pub returns-in-None : goal.returns-in-None
returns-in-None c =
    let nowhere : Option ℕ = None in
    let is : nowhere ≡ place_of_link c.args.spot.link c.args.self.now.links = search rules in
    ends_placed c.args.self.now c.args.spot nowhere c.args.at c.args.draft c.end_at.result c.end_at.new.self is c.end_at.ensures
