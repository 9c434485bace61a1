use Rattle.std.proofs.Common.{refl, ap, ◌∙◌}
use Rattle.std.specs.Prelude.{slice_get}
use Rattle.std.proofs.lemmas.Result.{on_ok_weaker}
use Rattle.std.proofs.lemmas.Option.{slice_get_past}
use Rattle.world_peers.specs.Company.{link_at}
use Rattle.net_world.proofs.PeerShows.{item_at, member_put, no_other_hears, other_shown}
use Rattle.net_world.proofs.play.Play.to_other.Goals as goal

pub returns-in_default : goal.returns-in_default
returns-in_default c P O w shown =
    no_other_hears P O w _ c.args.from c.args.to c.args.message (slice_get_past c.args.self.now.peers.items c.args.to c.in_default.ensures.item.3) shown

pub returns : goal.returns
returns c = on_ok_weaker c.carry_out.result (λ turns P O w shown.
    other_shown P O w c.args.self.now _ c.args.from c.args.to c.args.message c.in-Some.member.now c.hear_peer.new.self c.in_ok-doing.doing c.link_at-link.result
    (item_at c.args.self.now.peers.items c.args.to c.in-Some.member.now c.in-Some.ensures.item.3)
    (c.link_at-link.ensures ∙ ap (λ peers. link_at c.args.to (slice_get peers c.args.from)) c.as_slice.ensures.value) c.in_ok-doing.ensures shown
    (turns P O _ (member_put P O w c.args.self.now _ c.args.to c.hear_peer.new.self shown (record { table = refl; records = refl; contents = refl; lines = refl; up = refl }) refl refl)))
    c.carry_out.ensures
