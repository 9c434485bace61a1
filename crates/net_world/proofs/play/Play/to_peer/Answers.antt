use Rattle.std.proofs.Common.{rules, refl, ap, sym, ◌∙◌, subst}
use Rattle.std.specs.Prelude.{find, slice_get}
use Rattle.std.specs.Option.{option_map}
use Rattle.std.proofs.lemmas.Result.{on_ok_weaker}
use Rattle.std.proofs.lemmas.Option.{slice_get_past}
use Rattle.world_laws.specs.Worlds.{at_peer}
use Rattle.net_world.proofs.HearShows.{no_link_hears, no_peer_hears, peer_heard}
use Rattle.world_peers.specs.Doings.{hears_master}
use Rattle.net_world.specs.Plays.{IsShown}
use Rattle.net_world.proofs.PeerShows.{item_at, member_at, member_put, step_shown, to_member_is}
use Rattle.net_world.proofs.play.Play.to_peer.Goals as goal

pub returns-then-is_none : goal.returns-then-is_none
returns-then-is_none c P O w shown =
    no_link_hears P O w _ c.args.peer c.args.message c.link_of.result (search rules)
    (c.link_of.ensures ∙ ap (λ cs. option_map (λ c. c.link) (find (at_peer c.args.peer) cs)) (c.deref.ensures.value ∙ shown.lines)) shown

pub returns-in_default : goal.returns-in_default
returns-in_default c P O w shown =
    no_peer_hears P O w _ c.args.peer c.args.message
    (ap (λ peers. slice_get peers c.args.peer) (sym shown.peers) ∙ slice_get_past c.args.self.now.peers.items c.args.peer c.in_default.ensures.item.3) shown

pub returns : goal.returns
returns c = on_ok_weaker c.carry_out.result (λ turns P O w shown.
    let at = member_at P O w c.args.self.now c.args.peer _ shown (item_at c.args.self.now.peers.items c.args.peer c.in-Some.member.now c.in-Some.ensures.item.3) in
    peer_heard P O w _ c.args.peer c.args.message c.in-Some.member.now c.link_of.result (search rules)
    (c.link_of.ensures ∙ ap (λ cs. option_map (λ c. c.link) (find (at_peer c.args.peer) cs)) (c.deref.ensures.value ∙ shown.lines)) at
    (subst (λ v. IsShown P O v c.carry_out.new.self) (sym (to_member_is w c.args.peer c.args.message c.in-Some.member.now at))
    (step_shown P O w _ c.args.peer (hears_master c.in-Some.member.now c.args.message) c.hear.new.self c.in_ok-doing.doing c.in_ok-doing.ensures
    (turns P O _ (member_put P O w c.args.self.now _ c.args.peer c.hear.new.self shown (record { table = refl; records = refl; contents = refl; lines = refl; up = refl }) refl refl)))))
    c.carry_out.ensures
