use Rattle.std.proofs.Common.{rules, ◌≡◌}
use Rattle.foreman_run.specs.Lost.{seen_of}
use Rattle.foreman_run.proofs.Companies.{got_there, kept_there}
use Rattle.foreman_run.proofs.company.Company.check_at.Goals as goal

pub returns : goal.returns
returns g c =
    let are : c.self.inside.lowers.items ≡ c.args.self.now = search rules in
    let there = got_there c.self.inside.lowers.items c.args.self.now c.args.at c.in-Some.lower.now are c.in-Some.ensures.item.0 c.in-Some.ensures.item.1 in
    kept_there g.L.Link.tells (seen_of g.L.Link.history g.L.Link.is_closed g.L.Link.count g.L.Link.idle_count) g.L.Link.honest c.self.inside.lowers.items c.args.self.now c.args.at c.in-Some.lower.now c.check.new.self are there c.check.ensures.link c.check.ensures.held c.check.ensures.comes c.check.ensures.honest
