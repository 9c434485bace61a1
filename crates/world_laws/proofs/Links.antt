-- Links that join, are lost, or leave with an evicted peer.
use Rattle.std.proofs.Common.{◌≡◌, ◌⊎◌, inl, inr, ℕ, Bool, true, false, cond, not, List, [], ◌∷◌, ◌++◌, length, Option, Some, None, refl, sym, ◌∙◌, subst}
use Rattle.std.specs.Prelude.{◌&&◌, slice_get, slice_set, find, filter, fold}
use Rattle.std.specs.Option.{option_map_or}
use Rattle.flow_types.specs.declared.job.Outcome.TheVariants as outcomes
use Rattle.flow_types.specs.declared.messages.Message.TheVariants as messages
use Rattle.flow_types.specs.declared.numbers.Amounts.{Amounts}
use Rattle.flow_types.specs.declared.numbers.LinkNo.{LinkNo}
use Rattle.run_history.specs.declared.moves.Move.{Move}
use Rattle.run_history.specs.declared.moves.Move.TheVariants as moves
use Rattle.run_history.specs.Links.{running_on}
use Rattle.run_history.specs.Moves.{next_link}
use Rattle.run_history.specs.States.{Place, running_in}
use Rattle.link_session.specs.Sessions.{State}
use Rattle.worker_core.specs.Workers.{Worker}
use Rattle.foreman_core.specs.Foremen.{Foreman}
use Rattle.foreman_core.specs.Steps.{hears_down, loses as loses_worker}
use Rattle.world_laws.specs.declared.events.Joiner.{Joiner}
use Rattle.world_laws.specs.declared.events.Joiner.TheVariants as joiners
use Rattle.world_peers.specs.declared.sent.Party.{Party}
use Rattle.world_peers.specs.declared.sent.Party.TheVariants.{Master, Peer}
use Rattle.world_peers.specs.declared.sent.Sent.{Sent}
use Rattle.world_peers.specs.declared.member.Home.{Home}
use Rattle.world_peers.specs.declared.member.Home.TheVariants.{AtForeman, AtMaster}
use Rattle.world_peers.specs.declared.member.Member.{Member}
use Rattle.world_peers.specs.declared.member.Member.TheVariants.{Leads, Works}
use Rattle.world_laws.specs.Worlds.{World, Connection, records_in, run_of, moved, with_member, with_more, link_no, closed_at, loses_rule, loses, leaves, loses_link, at_link, at_peer, loses_below, goes_from, goes, parts, evicts, greeted, linked, connected, connected_lead, welcomed, has_number, comes_to, back_to, back_home, back, comes_again, joins}
use Rattle.world_peers.specs.Peers.{nothing, Lead, Machine, gone_worker, gone_lead, hello_of, next_below, with_one_more, new_worker, new_machine, new_lead, is_open}
use Rattle.world_peers.specs.Company.{party_of, is_under, cut_where, at_next}
use Rattle.world_laws.proofs.Members.{every_nil, get_left, get_more, get_past, get_set}
use Rattle.world_laws.proofs.Moves.{unlogged_kept}
use Rattle.world_laws.proofs.LeadSteps.{down_led, lost_led, new_right}
use Rattle.world_laws.proofs.WorldSteps.{connections_kept, cut_kept, led_kept, member_kept, member_set, peers_kept, place_right}
use Rattle.world_laws.proofs.Closes.{lost_kept}
use Rattle.world_laws.proofs.Invariant.{Setting, SaysNone, IsRightJob, IsRightLead, IsRightPeer, IsRightPlace, IsKept}

lost_at : (S : Setting) (w : World) (r : ℕ) (running : Option Place) → IsKept S w → IsKept S (option_map_or (λ place. closed_at S.plan w place.0 outcomes.NotRun (Some r)) running w)
lost_at S w r None kept = kept
lost_at S w r (Some place) kept = lost_kept S w place.0 (Some r) kept

all_lost : (S : Setting) (rules : List ℕ) (w : World) → IsKept S w → IsKept S (fold (loses_rule S.plan) w rules)
all_lost S [] w kept = kept
all_lost S (r ∷ rules) w kept = all_lost S rules (loses_rule S.plan w r) (lost_at S w r (running_in (records_in w) r) kept)

leaves_kept : (S : Setting) (w : World) (k : ℕ) (connection : Option Connection) → IsKept S w → IsKept S (leaves w k connection)
leaves_kept S w k None kept = kept
leaves_kept S w k (Some c) kept =
    let move : Move = moves.Left (link_no k) in
    connections_kept S (moved w move) (filter (λ c. not (at_link k c)) w.connections) (unlogged_kept S w move refl kept)

-- a lost link
pub loses_link_kept : (S : Setting) (w : World) (k : ℕ) → IsKept S w → IsKept S (loses_link S.plan w k)
loses_link_kept S w k kept =
    leaves_kept S (loses S.plan w k) k (find (at_link k) w.connections) (all_lost S (running_on S.plan (records_in w) k) w kept)

-- a foreman loses a link
loses_below_kept : (S : Setting) (w : World) (f : ℕ) (k : LinkNo) (member : Option Member) → slice_get w.peers f ≡ member → IsKept S w → IsKept S (loses_below w f k member)
loses_below_kept S w f k None at kept = kept
loses_below_kept S w f k (Some (Works home machine)) at kept = kept
loses_below_kept S w f k (Some (Leads lead)) at kept =
    led_kept S w f (Leads lead) lead (loses_worker lead.foreman k) at (lost_led S w.bag f lead k (place_right S w f (Some (Leads lead)) at kept)) kept

gone_right : (S : Setting) (bag : List Sent) (home : Party) (p : ℕ) (machine : Machine) → IsRightPeer S bag home p machine → IsRightPeer S bag home p (gone_worker machine)
gone_right S bag home p machine was = record { held = was.held; jobs = was.jobs; same = was.same; reports = was.reports }

gone_lead_right : (S : Setting) (bag : List Sent) (p : ℕ) (lead : Lead) → IsRightLead S bag p lead → IsRightLead S bag p (gone_lead lead)
gone_lead_right S bag p lead was = record {
  above = was.above;
  below = was.below;
  down = was.down;
  heard = was.heard;
  told = was.told;
  handed = was.handed;
  said = was.said;
  right = was.right;
}

-- a worker that is gone is as right as it was, with or without its link
worker_gone : (S : Setting) (w : World) (p : ℕ) (home other : Home) (machine : Machine) → party_of home ≡ party_of other → slice_get w.peers p ≡ Some (Works home machine) → IsKept S w
    → IsKept S (with_member w p (Works other (gone_worker machine)))
worker_gone S w p home other machine same at kept =
    let was : IsRightPeer S w.bag (party_of home) p machine = place_right S w p (Some (Works home machine)) at kept in
    member_kept S w p (Works home machine) (Works other (gone_worker machine)) at
    (gone_right S w.bag (party_of other) p machine (subst (λ party. IsRightPeer S w.bag party p machine) same was)) kept

goes_from_kept : (S : Setting) (w : World) (p : ℕ) (home : Home) (machine : Machine) → slice_get w.peers p ≡ Some (Works home machine) → IsKept S w → IsKept S (goes_from w p home machine)
goes_from_kept S w p AtMaster machine at kept = worker_gone S w p AtMaster AtMaster machine refl at kept
goes_from_kept S w p (AtForeman f None) machine at kept = worker_gone S w p (AtForeman f None) (AtForeman f None) machine refl at kept
goes_from_kept S w p (AtForeman f (Some k)) machine at kept =
    let gone : World = with_member w p (Works (AtForeman f None) (gone_worker machine)) in
    loses_below_kept S gone f k (slice_get gone.peers f) refl (worker_gone S w p (AtForeman f (Some k)) (AtForeman f None) machine refl at kept)

goes_kept : (S : Setting) (w : World) (p : ℕ) (member : Option Member) → slice_get w.peers p ≡ member → IsKept S w → IsKept S (goes w p member)
goes_kept S w p None at kept = kept
goes_kept S w p (Some (Works home machine)) at kept = goes_from_kept S w p home machine at kept
goes_kept S w p (Some (Leads lead)) at kept =
    let new : Member = Leads (gone_lead lead) in
    peers_kept S w (cut_where (is_under p) (slice_set w.peers p new)) kept
    (cut_kept S w.bag (is_under p) (slice_set w.peers p new)
    (member_set S w.peers w.bag p (Leads lead) new at (gone_lead_right S w.bag p lead (place_right S w p (Some (Leads lead)) at kept)) (λ q other. kept.peers q)))

parts_kept : (S : Setting) (w : World) (connection : Option Connection) → IsKept S w → IsKept S (parts S.plan w connection)
parts_kept S w None kept = kept
parts_kept S w (Some c) kept = loses_link_kept S w c.link kept

-- an evicted peer
pub evicts_kept : (S : Setting) (w : World) (p : ℕ) → IsKept S w → IsKept S (evicts S.plan w p)
evicts_kept S w p kept =
    let parted : World = parts S.plan w (find (at_peer p) w.connections) in
    goes_kept S parted p (slice_get parted.peers p) refl (parts_kept S w (find (at_peer p) w.connections) kept)

linked_kept : (S : Setting) (w : World) (p : ℕ) (total largest : Amounts) (cache : ℕ) → IsKept S w → IsKept S (linked w p total largest cache)
linked_kept S w p total largest cache kept =
    let k : ℕ = next_link w.moves in
    let session : State = greeted w.fresh (run_of (records_in w)) (messages.Hello total largest cache) in
    let move : Move = moves.Joined (link_no k) total largest cache in
    connections_kept S (moved w move) (w.connections ++ (record { link = k; peer = p; session = session } ∷ [])) (unlogged_kept S w move refl kept)

connected_kept : (S : Setting) (w : World) (p : ℕ) (worker : Worker) → IsKept S w → IsKept S (connected w p worker)
connected_kept S w p worker kept = linked_kept S w p worker.total worker.total worker.cache.cap kept

connected_lead_kept : (S : Setting) (w : World) (p : ℕ) (f : Foreman) → IsKept S w → IsKept S (connected_lead w p f)
connected_lead_kept S w p f kept = linked_kept S w p _ _ _ kept

-- ---- new peers

-- one more peer, which is right where nothing was handed on under its number
more_kept : (S : Setting) (w : World) (new : Member) → ((p : ℕ) → SaysNone w.bag p → IsRightPlace S w.bag p (Some new)) → IsKept S w → IsKept S (with_more w new)
more_kept S w new right kept = peers_kept S w (w.peers ++ new ∷ []) kept (λ p. by p (get_more w.peers new p))
  where
    by : (p : ℕ) → ((p ≡ length w.peers) × (slice_get (w.peers ++ new ∷ []) p ≡ Some new)) ⊎ (slice_get (w.peers ++ new ∷ []) p ≡ slice_get w.peers p)
        → IsRightPlace S w.bag p (slice_get (w.peers ++ new ∷ []) p)
    by p (inl here) =
        let none : SaysNone w.bag (length w.peers) = place_right S w (length w.peers) None (get_past w.peers) kept in
        subst (IsRightPlace S w.bag p) (sym here.1) (right p (subst (SaysNone w.bag) (sym here.0) none))
    by p (inr old) = subst (IsRightPlace S w.bag p) (sym old) (kept.peers p)

new_worker_right : (S : Setting) (bag : List Sent) (home : Party) (total : Amounts) (cache p : ℕ) → SaysNone bag p → IsRightPeer S bag home p (new_machine (new_worker total cache))
new_worker_right S bag home total cache p none = record { held = tt; jobs = every_nil (IsRightJob S bag home p); same = refl; reports = λ to m there. absurd (none to m there) }

-- ---- workers that come to a foreman

welcomed_kept : (S : Setting) (w : World) (f : ℕ) (lead : Lead) (worker : Worker) → slice_get w.peers f ≡ Some (Leads lead) → IsKept S w → IsKept S (welcomed w f lead worker)
welcomed_kept S w f lead worker at kept =
    led_kept S w f (Leads lead) (with_one_more lead) (hears_down lead.foreman (next_below lead) (hello_of worker)) at
    (down_led S w.bag f lead (next_below lead) (hello_of worker) tt (place_right S w f (Some (Leads lead)) at kept)) kept

comes_by : (S : Setting) (w : World) (f : ℕ) (total : Amounts) (cache : ℕ) (lead : Lead) (enabled : Bool) → slice_get w.peers f ≡ Some (Leads lead) → IsKept S w
    → IsKept S (cond enabled (welcomed (with_more w (at_next f lead (new_machine (new_worker total cache)))) f lead (new_worker total cache)) w)
comes_by S w f total cache lead true at kept =
    let new : Member = at_next f lead (new_machine (new_worker total cache)) in
    welcomed_kept S (with_more w new) f lead (new_worker total cache) (get_left w.peers (new ∷ []) f (Leads lead) at)
    (more_kept S w new (λ p none. new_worker_right S w.bag (Peer f) total cache p none) kept)
comes_by S w f total cache lead false at kept = kept

comes_to_kept : (S : Setting) (w : World) (f : ℕ) (total : Amounts) (cache : ℕ) (member : Option Member) → slice_get w.peers f ≡ member → IsKept S w
    → IsKept S (comes_to w f (new_worker total cache) member)
comes_to_kept S w f total cache None at kept = kept
comes_to_kept S w f total cache (Some (Works home machine)) at kept = kept
comes_to_kept S w f total cache (Some (Leads lead)) at kept = comes_by S w f total cache lead (is_open lead && has_number w) at kept

-- two peers of different kinds have different numbers
not_same : (w : World) (p f : ℕ) (home : Home) (machine : Machine) (lead : Lead) → slice_get w.peers p ≡ Some (Works home machine) → slice_get w.peers f ≡ Some (Leads lead) → f ≡ p → ⊥
not_same w p f home machine lead at lead_at same =
    let here : slice_get w.peers p ≡ Some (Leads lead) = subst (λ n. slice_get w.peers n ≡ Some (Leads lead)) same lead_at in
    let h : ⊥ = cc in h

-- the foreman is where it was, when the worker has its link
pub still_leads : (w : World) (p f : ℕ) (home : Home) (machine : Machine) (lead : Lead) (new : Member) → slice_get w.peers p ≡ Some (Works home machine) → slice_get w.peers f ≡ Some (Leads lead)
    → slice_get (slice_set w.peers p new) f ≡ Some (Leads lead)
still_leads w p f home machine lead new at lead_at = by (get_set w.peers p (Works home machine) new f at)
  where
    by : ((f ≡ p) × (slice_get (slice_set w.peers p new) f ≡ Some new)) ⊎ ((f ≡ p → ⊥) × (slice_get (slice_set w.peers p new) f ≡ slice_get w.peers f))
        → slice_get (slice_set w.peers p new) f ≡ Some (Leads lead)
    by (inl here) = absurd (not_same w p f home machine lead at lead_at here.0)
    by (inr other) = other.1 ∙ lead_at

back_by : (S : Setting) (w : World) (p f : ℕ) (link : Option LinkNo) (machine : Machine) (lead : Lead) (enabled : Bool) → slice_get w.peers p ≡ Some (Works (AtForeman f link) machine)
    → slice_get w.peers f ≡ Some (Leads lead) → IsKept S w → IsKept S (cond enabled (welcomed (with_member w p (at_next f lead machine)) f lead machine.worker) w)
back_by S w p f link machine lead true at lead_at kept =
    let new : Member = at_next f lead machine in
    welcomed_kept S (with_member w p new) f lead machine.worker (still_leads w p f (AtForeman f link) machine lead new at lead_at)
    (member_kept S w p (Works (AtForeman f link) machine) new at (place_right S w p (Some (Works (AtForeman f link) machine)) at kept) kept)
back_by S w p f link machine lead false at lead_at kept = kept

back_to_kept : (S : Setting) (w : World) (p f : ℕ) (link : Option LinkNo) (machine : Machine) (member : Option Member) → slice_get w.peers p ≡ Some (Works (AtForeman f link) machine)
    → slice_get w.peers f ≡ member → IsKept S w → IsKept S (back_to w p f machine member)
back_to_kept S w p f link machine None at lead_at kept = kept
back_to_kept S w p f link machine (Some (Works home other)) at lead_at kept = kept
back_to_kept S w p f link machine (Some (Leads lead)) at lead_at kept = back_by S w p f link machine lead (is_open lead) at lead_at kept

-- ---- joins

unless_kept : (S : Setting) (w v : World) (gone : Bool) → IsKept S w → IsKept S v → IsKept S (cond gone w v)
unless_kept S w v true kept other = kept
unless_kept S w v false kept other = other

where_kept : (S : Setting) (w v : World) (enabled : Bool) → IsKept S w → IsKept S v → IsKept S (cond enabled v w)
where_kept S w v true kept other = other
where_kept S w v false kept other = kept

back_home_kept : (S : Setting) (w : World) (p : ℕ) (home : Home) (machine : Machine) → slice_get w.peers p ≡ Some (Works home machine) → IsKept S w → IsKept S (back_home w p home machine)
back_home_kept S w p AtMaster machine at kept = connected_kept S w p machine.worker kept
back_home_kept S w p (AtForeman f (Some k)) machine at kept = kept
back_home_kept S w p (AtForeman f None) machine at kept = back_to_kept S w p f None machine (slice_get w.peers f) at refl kept

back_kept : (S : Setting) (w : World) (p : ℕ) (member : Member) → slice_get w.peers p ≡ Some member → IsKept S w → IsKept S (back w p member)
back_kept S w p (Works home machine) at kept = unless_kept S w (back_home w p home machine) machine.gone kept (back_home_kept S w p home machine at kept)
back_kept S w p (Leads lead) at kept = unless_kept S w (connected_lead w p lead.foreman) lead.gone kept (connected_lead_kept S w p lead.foreman kept)

again_kept : (S : Setting) (w : World) (p : ℕ) (connection : Option Connection) (member : Option Member) → slice_get w.peers p ≡ member → IsKept S w → IsKept S (comes_again w p connection member)
again_kept S w p (Some c) member at kept = kept
again_kept S w p None None at kept = kept
again_kept S w p None (Some member) at kept = back_kept S w p member at kept

-- a join
pub joins_kept : (S : Setting) (w : World) (joiner : Joiner) → IsKept S w → IsKept S (joins w joiner)
joins_kept S w (joiners.Worker total cache) kept =
    let worker : Worker = new_worker total cache in
    let new : Member = Works AtMaster (new_machine worker) in
    where_kept S w (connected (with_more w new) (length w.peers) worker) (has_number w) kept
    (connected_kept S (with_more w new) (length w.peers) worker (more_kept S w new (λ p none. new_worker_right S w.bag Master total cache p none) kept))
joins_kept S w (joiners.Foreman cache) kept =
    let new : Member = Leads (new_lead cache) in
    where_kept S w (linked (with_more w new) (length w.peers) nothing nothing 0) (has_number w) kept
    (linked_kept S (with_more w new) (length w.peers) nothing nothing 0 (more_kept S w new (λ p none. new_right S w.bag p cache none) kept))
joins_kept S w (joiners.WorkerAt f total cache) kept = comes_to_kept S w f total cache (slice_get w.peers f) refl kept
joins_kept S w (joiners.Again p) kept = again_kept S w p (find (at_peer p) w.connections) (slice_get w.peers p) refl kept
