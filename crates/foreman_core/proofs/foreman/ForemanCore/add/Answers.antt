use Rattle.std.proofs.Common.{◌≡◌, rules}
use Rattle.foreman_core.specs.Foremen.{Foreman, joined}
use Rattle.foreman_core.proofs.Ending.{joins_by}
use Rattle.foreman_core.proofs.foreman.ForemanCore.add.Goals as goal

pub returns-in-Ok : goal.returns-in-Ok
returns-in-Ok c =
    let inside : Foreman = record { cache = c.self.inside.cache; attempts = c.self.inside.attempts.items; links = c.self.inside.links.items; next = c.self.inside.next } in
    let is : c.join.new.links.items ≡ joined c.args.b inside.links = search rules in
    joins_by c.args.self.now inside c.join.new.links.items c.args.b c.in-Ok.acts c.state_anew.new.self c.self.view_is is c.in-Ok.ensures
