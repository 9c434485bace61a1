use Rattle.std.proofs.Common.{rules, ◌++◌, ◌∷◌, [], false, refl, true, Some, ap, sym, ◌∙◌}
use Rattle.std.specs.Prelude.{slice_get}
use Rattle.std.proofs.lemmas.Result.{on_ok_weaker}
use Rattle.world_peers.specs.declared.member.Home.TheVariants.{AtForeman}
use Rattle.world_peers.specs.declared.member.Member.{Member}
use Rattle.world_peers.specs.declared.member.Member.TheVariants.{Leads, Works}
use Rattle.world_peers.specs.Doings.{next_at, next_number}
use Rattle.world_peers.specs.Company.{at_next}
use Rattle.world_peers.specs.Peers.{new_machine, new_worker}
use Rattle.net_world.proofs.JoinShows.{came_shown, foreman_open, new_member_shown, next_in, no_number_comes, none_left, not_open_comes, some_left, world_left}
use Rattle.world_laws.proofs.Members.{get_left}
use Rattle.net_world.proofs.play.Play.come_below.Goals as goal

pub returns-in_default : goal.returns-in_default
returns-in_default c P O w shown =
    not_open_comes P O w _ c.args.foreman (new_worker c.args.total c.args.cache) (slice_get w.peers c.args.foreman)
    (next_in P O w c.args.self.now c.args.foreman _ shown (c.in_default.ensures ∙ ap (λ peers. next_at (slice_get peers c.args.foreman)) c.as_slice.ensures.value)) shown

pub returns-then-is_none : goal.returns-then-is_none
returns-then-is_none c P O w shown =
    no_number_comes P O w _ c.args.foreman (new_worker c.args.total c.args.cache) (slice_get w.peers c.args.foreman)
    (world_left P O w c.args.self.now false shown (none_left c.args.self.now.peers.items c.next_number.result (search rules) (c.next_number.ensures ∙ ap next_number c.as_slice-2.ensures.value))) shown

pub returns : goal.returns
returns c =
    let worker = new_worker c.args.total c.args.cache in
    let number = some_left c.args.self.now.peers.items c.next_number.result (search rules) (c.next_number.ensures ∙ ap next_number c.as_slice-2.ensures.value) in
    on_ok_weaker c.welcome.result (λ joined P O w shown.
    let is_next = foreman_open (slice_get w.peers c.args.foreman) c.in-Some.link
    (next_in P O w c.args.self.now c.args.foreman (Some c.in-Some.link) shown (c.in-Some.ensures ∙ ap (λ peers. next_at (slice_get peers c.args.foreman)) c.as_slice.ensures.value)) in
    let member : Member = at_next c.args.foreman is_next.0 (new_machine worker) in
    came_shown P O w _ c.args.foreman is_next.0 worker is_next.1 is_next.2 (world_left P O w c.args.self.now true shown number)
    (joined P O _ is_next.0 worker (get_left w.peers (member ∷ []) c.args.foreman (Leads is_next.0) is_next.1) refl refl
    (new_member_shown P O w c.args.self.now _ member shown (record { table = refl; records = refl; contents = refl; lines = refl; up = refl })
    (c.in_ok-add_peer.ensures ∙ ap (λ machine. c.args.self.now.peers.items ++ (Works (AtForeman c.args.foreman (Some c.in-Some.link)) machine ∷ [])) c.new-worker.ensures
    ∙ ap (λ link. c.args.self.now.peers.items ++ (Works (AtForeman c.args.foreman (Some link)) (new_machine worker) ∷ [])) (sym is_next.3)) refl)))
    c.welcome.ensures
