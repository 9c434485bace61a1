use Rattle.std.proofs.Common.{◌++◌, ◌∷◌, [], false, length, refl, true, ap, ◌∙◌, subst}
use Rattle.std.proofs.lemmas.Result.{on_ok_weaker}
use Rattle.world_peers.specs.declared.member.Home.TheVariants.{AtMaster}
use Rattle.world_peers.specs.declared.member.Member.{Member}
use Rattle.world_peers.specs.declared.member.Member.TheVariants.{Works}
use Rattle.world_peers.specs.Doings.{next_number}
use Rattle.net_world.specs.Plays.{IsShown}
use Rattle.world_laws.specs.Worlds.{has_number, linked, with_more}
use Rattle.world_peers.specs.Peers.{new_machine, new_worker}
use Rattle.net_world.proofs.JoinShows.{new_member_shown, none_left, numbered_shown, one_left, unnumbered_shown, world_left}
use Rattle.net_world.proofs.play.Play.come.Goals as goal

pub returns-in_default : goal.returns-in_default
returns-in_default c P O w shown =
    unnumbered_shown P O w _ _ (has_number w)
    (world_left P O w c.args.self.now false shown (none_left c.args.self.now.peers.items _ refl (c.in_default.ensures ∙ ap next_number c.as_slice.ensures.value))) shown

pub returns : goal.returns
returns c =
    let left = one_left c.args.self.now.peers.items c.in-Some.peer (c.in-Some.ensures ∙ ap next_number c.as_slice.ensures.value) in
    let member : Member = Works AtMaster (new_machine (new_worker c.args.total c.args.cache)) in
    on_ok_weaker c.connect.result (λ joined P O w shown.
    numbered_shown P O w _ _ (has_number w) (world_left P O w c.args.self.now true shown left.1)
    (subst (λ p. IsShown P O (linked (with_more w member) p c.args.total c.args.total c.args.cache) c.connect.new.self) (left.0 ∙ ap length shown.peers)
    (joined P O _ (new_member_shown P O w c.args.self.now _ member shown (record { table = refl; records = refl; contents = refl; lines = refl; up = refl })
    (c.in_ok-add_peer.ensures ∙ ap (λ machine. c.args.self.now.peers.items ++ (Works AtMaster machine ∷ [])) c.new-worker.ensures) refl))))
    c.connect.ensures
