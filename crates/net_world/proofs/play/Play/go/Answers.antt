use Rattle.std.proofs.Common.{refl}
use Rattle.std.proofs.lemmas.Result.{on_ok_weaker}
use Rattle.std.proofs.lemmas.Option.{slice_get_past}
use Rattle.net_world.proofs.PeerShows.{gone_shown, item_at, member_put, none_gone_shown}
use Rattle.net_world.proofs.play.Play.go.Goals as goal

pub returns-in_default : goal.returns-in_default
returns-in_default c P O w shown = none_gone_shown P O w _ c.args.peer (slice_get_past c.args.self.now.peers.items c.args.peer c.in_default.ensures.item.3) shown

pub returns : goal.returns
returns c = on_ok_weaker c.part_from.result (λ turns P O w shown.
    gone_shown P O w c.args.self.now _ c.args.peer c.in-Some.member.now c.depart-parting.new.self c.depart-parting.result
    (item_at c.args.self.now.peers.items c.args.peer c.in-Some.member.now c.in-Some.ensures.item.3) c.depart-parting.ensures.member c.depart-parting.ensures.parting shown
    (turns P O _ (member_put P O w c.args.self.now _ c.args.peer c.depart-parting.new.self shown (record { table = refl; records = refl; contents = refl; lines = refl; up = refl }) refl refl)))
    c.part_from.ensures
