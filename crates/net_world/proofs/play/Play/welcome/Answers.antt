use Rattle.std.proofs.Common.{refl}
use Rattle.std.proofs.lemmas.Result.{on_ok_weaker}
use Rattle.net_world.proofs.PeerShows.{item_at, member_put, welcomed_shown}
use Rattle.net_world.proofs.play.Play.welcome.Goals as goal

pub returns : goal.returns
returns c = on_ok_weaker c.carry_out.result (λ turns P O w lead worker leads amounts bytes shown.
    welcomed_shown P O w c.args.self.now _ c.args.foreman lead worker c.args.total c.args.cache c.in-Some.member.now c.welcome.new.self c.in_ok-doing.doing
    (item_at c.args.self.now.peers.items c.args.foreman c.in-Some.member.now c.in-Some.ensures.item.3) leads amounts bytes c.in_ok-doing.ensures shown
    (turns P O _ (member_put P O w c.args.self.now _ c.args.foreman c.welcome.new.self shown (record { table = refl; records = refl; contents = refl; lines = refl; up = refl }) refl refl)))
    c.carry_out.ensures
