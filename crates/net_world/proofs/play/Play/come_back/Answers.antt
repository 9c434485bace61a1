use Rattle.std.proofs.Common.{◌≡◌, Some, refl, ap, sym, ◌∙◌}
use Rattle.std.specs.Prelude.{slice_get}
use Rattle.std.proofs.lemmas.Result.{on_ok_weaker}
use Rattle.std.proofs.lemmas.Option.{slice_get_past}
use Rattle.world_peers.specs.declared.member.Member.TheVariants.{Works}
use Rattle.world_peers.specs.Doings.{next_at}
use Rattle.world_peers.specs.Company.{at_next}
use Rattle.net_world.proofs.JoinShows.{attached_shown, back_shown, foreman_open, next_in, not_open_back}
use Rattle.world_laws.proofs.Links.{still_leads}
use Rattle.net_world.proofs.PeerShows.{item_at, member_at, member_put}
use Rattle.net_world.proofs.play.Play.come_back.Goals as goal

pub returns-in_default : goal.returns-in_default
returns-in_default c P O w home machine at shown =
    not_open_back P O w _ c.args.peer c.args.foreman machine (slice_get w.peers c.args.foreman)
    (next_in P O w c.args.self.now c.args.foreman _ shown (c.in_default.ensures ∙ ap (λ peers. next_at (slice_get peers c.args.foreman)) c.as_slice.ensures.value)) shown

pub returns-in_default-get_mut : goal.returns-in_default-get_mut
returns-in_default-get_mut c P O w home machine at shown =
    let none = member_at P O w c.args.self.now c.args.peer _ shown (slice_get_past c.args.self.now.peers.items c.args.peer c.in_default-get_mut.ensures.item.3) in
    absurd (let h : ⊥ = cc in h)

pub returns : goal.returns
returns c = on_ok_weaker c.welcome.result (λ joined P O w home machine at shown.
    let is_next = foreman_open (slice_get w.peers c.args.foreman) c.in-Some.link
    (next_in P O w c.args.self.now c.args.foreman (Some c.in-Some.link) shown (c.in-Some.ensures ∙ ap (λ peers. next_at (slice_get peers c.args.foreman)) c.as_slice.ensures.value)) in
    let here = member_at P O w c.args.self.now c.args.peer _ shown (item_at c.args.self.now.peers.items c.args.peer c.in-Some-get_mut.member.now c.in-Some-get_mut.ensures.item.3) in
    let same : c.in-Some-get_mut.member.now ≡ Works home machine = cc in
    let offer = c.attach-cache.ensures.offer home machine same in
    back_shown P O w _ c.args.peer c.args.foreman is_next.0 machine is_next.1 is_next.2
    (joined P O _ is_next.0 machine.worker (still_leads w c.args.peer c.args.foreman home machine is_next.0 (at_next c.args.foreman is_next.0 machine) at is_next.1) (sym offer.0) (sym offer.1)
    (attached_shown P O w _ c.args.peer c.args.foreman is_next.0 home machine c.in-Some-get_mut.member.now c.attach-cache.new.self c.in-Some.link same c.attach-cache.ensures.member is_next.3
    (member_put P O w c.args.self.now _ c.args.peer c.attach-cache.new.self shown (record { table = refl; records = refl; contents = refl; lines = refl; up = refl }) refl refl))))
    c.welcome.ensures
