use Rattle.std.proofs.Common.{refl}
use Rattle.std.proofs.lemmas.Result.{on_ok_weaker}
use Rattle.std.proofs.lemmas.Option.{slice_get_past}
use Rattle.net_world.proofs.PeerShows.{item_at, lost_below_shown, member_put, none_lost_below}
use Rattle.net_world.proofs.play.Play.lose_below.Goals as goal

pub returns-in_default : goal.returns-in_default
returns-in_default c P O w shown =
    none_lost_below P O w _ c.args.foreman c.args.link (slice_get_past c.args.self.now.peers.items c.args.foreman c.in_default.ensures.item.3) shown

pub returns : goal.returns
returns c = on_ok_weaker c.carry_out.result (λ turns P O w shown.
    lost_below_shown P O w c.args.self.now _ c.args.foreman c.args.link c.in-Some.member.now c.lose.new.self c.in_ok-doing.doing
    (item_at c.args.self.now.peers.items c.args.foreman c.in-Some.member.now c.in-Some.ensures.item.3) c.in_ok-doing.ensures shown
    (turns P O _ (member_put P O w c.args.self.now _ c.args.foreman c.lose.new.self shown (record { table = refl; records = refl; contents = refl; lines = refl; up = refl }) refl refl)))
    c.carry_out.ensures
