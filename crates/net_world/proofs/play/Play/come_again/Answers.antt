use Rattle.std.proofs.Common.{rules, ◌≡◌, Some, ap, sym, ◌∙◌, subst}
use Rattle.std.specs.Prelude.{find, slice_get}
use Rattle.std.specs.Option.{option_map}
use Rattle.std.proofs.lemmas.Result.{on_ok_weaker}
use Rattle.world_laws.specs.Worlds.{at_peer}
use Rattle.net_world.proofs.JoinShows.{Returns, again_shown, returned_shown}
use Rattle.net_world.proofs.PeerShows.{item_at, member_at}
use Rattle.net_world.proofs.play.Play.come_again.Goals as goal

pub returns-in-Nowhere : goal.returns-in-Nowhere
returns-in-Nowhere c P O w shown =
    let at : slice_get c.args.self.now.peers.items c.args.peer ≡ Some c.in-Some.member.now =
    ap (λ peers. slice_get peers c.args.peer) (sym c.deref-2.ensures.value) ∙ item_at c.deref-2.result.now c.args.peer c.in-Some.member.now c.in-Some.ensures.lookup.3 in
    again_shown P O w c.args.self.now c.args.peer c.link_of.result c.in-Some.member.now (search rules)
    (c.link_of.ensures ∙ ap (λ cs. option_map (λ c. c.link) (find (at_peer c.args.peer) cs)) (c.deref.ensures.value ∙ shown.lines))
    (member_at P O w c.args.self.now c.args.peer _ shown at)
    (returned_shown P O w c.args.self.now c.args.peer c.in-Some.member.now (subst (Returns P O w c.args.self.now c.args.peer c.in-Some.member.now) c.in-Nowhere.ensures shown))

pub returns-in-ToMaster : goal.returns-in-ToMaster
returns-in-ToMaster c =
    let at : slice_get c.args.self.now.peers.items c.args.peer ≡ Some c.in-Some.member.now =
    ap (λ peers. slice_get peers c.args.peer) (sym c.deref-2.ensures.value) ∙ item_at c.deref-2.result.now c.args.peer c.in-Some.member.now c.in-Some.ensures.lookup.3 in
    on_ok_weaker c.connect.result (λ turns P O w shown.
    again_shown P O w c.connect.new.self c.args.peer c.link_of.result c.in-Some.member.now (search rules)
    (c.link_of.ensures ∙ ap (λ cs. option_map (λ c. c.link) (find (at_peer c.args.peer) cs)) (c.deref.ensures.value ∙ shown.lines))
    (member_at P O w c.args.self.now c.args.peer _ shown at)
    (returned_shown P O w c.connect.new.self c.args.peer c.in-Some.member.now (subst (Returns P O w c.connect.new.self c.args.peer c.in-Some.member.now) c.in-ToMaster.ensures (turns P O w shown))))
    c.connect.ensures

pub returns-in-ToForeman : goal.returns-in-ToForeman
returns-in-ToForeman c =
    let at : slice_get c.args.self.now.peers.items c.args.peer ≡ Some c.in-Some.member.now =
    ap (λ peers. slice_get peers c.args.peer) (sym c.deref-2.ensures.value) ∙ item_at c.deref-2.result.now c.args.peer c.in-Some.member.now c.in-Some.ensures.lookup.3 in
    on_ok_weaker c.come_back.result (λ turns P O w shown.
    again_shown P O w c.come_back.new.self c.args.peer c.link_of.result c.in-Some.member.now (search rules)
    (c.link_of.ensures ∙ ap (λ cs. option_map (λ c. c.link) (find (at_peer c.args.peer) cs)) (c.deref.ensures.value ∙ shown.lines))
    (member_at P O w c.args.self.now c.args.peer _ shown at)
    (returned_shown P O w c.come_back.new.self c.args.peer c.in-Some.member.now (subst (Returns P O w c.come_back.new.self c.args.peer c.in-Some.member.now) c.in-ToForeman.ensures (λ home machine is. turns P O w home machine (member_at P O w c.args.self.now c.args.peer _ shown at ∙ ap Some is) shown))))
    c.come_back.ensures
