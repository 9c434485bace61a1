use Rattle.std.proofs.Common.{rules, ◌≡◌, Some}
use Rattle.foreman_run.specs.Lost.{seen_of}
use Rattle.std.specs.Prelude.{◌==◌, position}
use Rattle.foreman_run.specs.Lowers.{LowerState}
use Rattle.foreman_run.proofs.Companies.{got_there, sent_there}
use Rattle.foreman_run.proofs.company.Company.send.Goals as goal

pub returns-in-Some-get_mut : goal.returns-in-Some-get_mut
returns-in-Some-get_mut g c =
    let are : c.self.inside.lowers.items ≡ c.args.self.now = search rules in
    let there = got_there c.self.inside.lowers.items c.args.self.now c.in-Some.at c.in-Some-get_mut.lower.now are c.in-Some-get_mut.ensures.item.0 c.in-Some-get_mut.ensures.item.1 in
    let found : position (λ (l : LowerState _). l.link.0 == c.args.down.link.0) c.args.self.now ≡ Some c.in-Some.at = search rules in
    sent_there g.L.Link.tells (seen_of g.L.Link.history g.L.Link.is_closed g.L.Link.count g.L.Link.idle_count) g.L.Link.honest c.self.inside.lowers.items c.args.self.now c.args.down c.in-Some.at c.in-Some-get_mut.lower.now c.send.new.self are found there c.send.ensures.link c.send.ensures.held c.send.ensures.comes c.send.ensures.honest
