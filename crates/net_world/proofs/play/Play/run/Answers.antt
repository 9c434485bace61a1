use Rattle.std.proofs.Common.{refl}
use Rattle.net_world.proofs.PeerShows.{item_at, member_at, member_put, ran_shown}
use Rattle.net_world.proofs.play.Play.run.Goals as goal

pub returns-in-Ok-clause-ran : goal.returns-in-Ok-clause-ran
returns-in-Ok-clause-ran g c tells P O w shown =
    ran_shown g.F.Commands.gives g.F.Commands.may_fail P O w _ c.args.peer c.in-Some.member.now c.run.new.self c.in_ok-doing.doing
    (member_at P O w c.args.self.now c.args.peer _ shown (item_at c.args.self.now.peers.items c.args.peer c.in-Some.member.now c.in-Some.ensures.item.3))
    (c.in_ok-doing.ensures.ran tells)
    (c.in-Ok.ensures P O _ (member_put P O w c.args.self.now _ c.args.peer c.run.new.self shown (record { table = refl; records = refl; contents = refl; lines = refl; up = refl }) refl refl))
