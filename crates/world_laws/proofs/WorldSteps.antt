-- What keeps the invariant: more messages, a peer's step, other links, one more move.
use Rattle.std.proofs.Common.{◌≡◌, ◌⊎◌, inl, inr, ℕ, Bool, true, false, cond, List, [], ◌∷◌, ◌++◌, Option, Some, None, refl, sym, subst}
use Rattle.std.specs.Prelude.{◌==◌, slice_get, slice_set, map}
use Rattle.std.specs.Option.{option_map}
use Rattle.flow_types.specs.declared.job.Job.{Job}
use Rattle.flow_types.specs.declared.job.Outcome.{Outcome}
use Rattle.flow_types.specs.declared.job.Start.{Start}
use Rattle.flow_types.specs.declared.numbers.LinkNo.{LinkNo}
use Rattle.flow_types.specs.declared.records.Record.{Record}
use Rattle.flow_types.specs.declared.messages.Message.{Message}
use Rattle.flow_types.specs.declared.messages.Message.TheVariants as messages
use Rattle.flow_types.specs.Serial.{Contents}
use Rattle.run_history.specs.declared.moves.Move.{Move}
use Rattle.run_history.specs.Links.{records_of}
use Rattle.worker_core.specs.Workers.{Acted, hears, reports}
use Rattle.foreman_core.specs.Steps.{Led, hears_down, hears_up}
use Rattle.std.proofs.lemmas.Bool.{eqb-true}
use Rattle.world_peers.specs.declared.sent.Party.{Party}
use Rattle.world_peers.specs.declared.sent.Party.TheVariants.{Master, Peer}
use Rattle.world_peers.specs.declared.sent.Sent.{Sent}
use Rattle.world_laws.specs.Members.{Stands, Every}
use Rattle.world_peers.specs.declared.member.Home.{Home}
use Rattle.world_peers.specs.declared.member.Home.TheVariants.{AtForeman, AtMaster}
use Rattle.world_peers.specs.declared.member.Member.{Member}
use Rattle.world_peers.specs.declared.member.Member.TheVariants.{Leads, Works}
use Rattle.world_laws.specs.Worlds.{World, Connection, records_in, moved, with_connections, with_files, with_member, with_peers, sent_more, acted, works_on, led, to_member, to_peer, from_foreman, from_worker, to_other, ran, ran_on}
use Rattle.world_peers.specs.Peers.{Lead, Machine, stepped, stepped_lead, told_to, down_to, least_job, without_job}
use Rattle.world_peers.specs.Company.{party_of, is_at, cut_off, cut_where, left_by, link_at, led_sends, next_job}
use Rattle.world_laws.specs.Reach.{MayEnd, MayAnswer}
use Rattle.world_laws.specs.Laws.{IsReport}
use Rattle.world_laws.proofs.Reports.{answer_report, hears_said, inputs_few, reports_said}
use Rattle.world_laws.proofs.Members.{stands_left, stands_either, every_append, every_map, get_map, get_set}
use Rattle.world_laws.proofs.Grows.{Keeps, Within, every_right_grows, peer_grows, place_grows, record_grows}
use Rattle.world_laws.proofs.PeerJobs.{Agrees, every_without, hears_agrees, reports_agrees}
use Rattle.world_laws.proofs.PeerSteps.{IsFed, hears_fed, reports_fed, least_stands}
use Rattle.world_laws.proofs.LeadSteps.{IsLed, down_led, lead_led, sends_of_lead, sends_right, up_led}
use Rattle.world_laws.proofs.Invariant.{SaysReports, Setting, IsHeardBelow, IsOurAnswer, IsSendable, IsRightMessage, IsRight, IsRightJob, IsRightLead, IsRightPeer, IsRightPlace, IsRightRecord, IsRecorded, IsStored, IsKept}

-- What is new is of this end alone, so what another peer sent is as before.
other_sent : (bag more : List Sent) (end : Party) (p : ℕ) (to : Party) (m : Message) → (Peer p ≡ end → ⊥) → Every (λ s. s.from ≡ end) more → Stands (told_to to p m) (bag ++ more)
    → Stands (told_to to p m) bag
other_sent bag more end p to m other from there = by (stands_either (told_to to p m) bag more there)
  where
    by : Stands (told_to to p m) bag ⊎ Stands (told_to to p m) more → Stands (told_to to p m) bag
    by (inl old) = old
    by (inr new) = absurd (other (from _ new))

no_peer : (p : ℕ) → (let peer : Party = Peer p in peer ≡ Master) → ⊥
no_peer p h = cc

same_number : (p q : ℕ) → (let peer : Party = Peer p in peer ≡ Peer q) → p ≡ q
same_number p q h = cc

-- more messages of the master, each right
pub sent_kept : (S : Setting) (w : World) (more : List Sent) → IsKept S w → Every (IsSendable S (records_in w) w.bag) more → IsKept S (sent_more w more)
sent_kept S w more kept right =
    let within : Within w.bag (w.bag ++ more) = λ s there. stands_left s w.bag more there in
    record {
      recorded = kept.recorded;
      stored = kept.stored;
      sent = every_append (IsRight S (records_in w) (w.bag ++ more)) w.bag more
          (every_right_grows S (records_in w) (records_in w) w.bag (w.bag ++ more) w.bag (λ a r at. at) within kept.sent)
          (every_right_grows S (records_in w) (records_in w) w.bag (w.bag ++ more) more (λ a r at. at) within (λ s there. (right s there).0));
      peers = λ p. place_grows S w.bag (w.bag ++ more) p (slice_get w.peers p) within
          (λ to m there. other_sent w.bag more Master p to m (no_peer p) (λ s new. (right s new).1) there) (kept.peers p);
      closed = λ x there. record_grows (records_in w) (records_in w) w.bag (w.bag ++ more) x (λ y here. here) within (kept.closed x there);
    }

-- other peers, which are right
pub peers_kept : (S : Setting) (w : World) (peers : List Member) → IsKept S w → ((p : ℕ) → IsRightPlace S w.bag p (slice_get peers p)) → IsKept S (with_peers w peers)
peers_kept S w peers kept right = record { recorded = kept.recorded; stored = kept.stored; sent = kept.sent; peers = right; closed = kept.closed }

-- The links are in no part of the invariant.
pub connections_kept : (S : Setting) (w : World) (connections : List Connection) → IsKept S w → IsKept S (with_connections w connections)
connections_kept S w connections kept = record { recorded = kept.recorded; stored = kept.stored; sent = kept.sent; peers = kept.peers; closed = kept.closed }

-- the peer at a place is right
pub place_right : (S : Setting) (w : World) (p : ℕ) (member : Option Member) → slice_get w.peers p ≡ member → IsKept S w → IsRightPlace S w.bag p member
place_right S w p member at kept = subst (IsRightPlace S w.bag p) at (kept.peers p)

-- one peer replaced, and what it and the others are is so over a bag
pub member_set : (S : Setting) (peers : List Member) (bag : List Sent) (p : ℕ) (old new : Member) → slice_get peers p ≡ Some old → IsRightPlace S bag p (Some new)
    → ((q : ℕ) → (q ≡ p → ⊥) → IsRightPlace S bag q (slice_get peers q)) → (q : ℕ) → IsRightPlace S bag q (slice_get (slice_set peers p new) q)
member_set S peers bag p old new at right others q = by (get_set peers p old new q at)
  where
    by : ((q ≡ p) × (slice_get (slice_set peers p new) q ≡ Some new)) ⊎ ((q ≡ p → ⊥) × (slice_get (slice_set peers p new) q ≡ slice_get peers q))
        → IsRightPlace S bag q (slice_get (slice_set peers p new) q)
    by (inl here) = subst (IsRightPlace S bag q) (sym here.1) (subst (λ n. IsRightPlace S bag n (Some new)) (sym here.0) right)
    by (inr other) = subst (IsRightPlace S bag q) (sym other.1) (others q other.0)

-- one peer replaced by a right one
pub member_kept : (S : Setting) (w : World) (p : ℕ) (old new : Member) → slice_get w.peers p ≡ Some old → IsRightPlace S w.bag p (Some new) → IsKept S w → IsKept S (with_member w p new)
member_kept S w p old new at right kept = peers_kept S w (slice_set w.peers p new) kept (member_set S w.peers w.bag p old new at right (λ q other. kept.peers q))

-- ---- workers

-- One peer made a step, and sent more: the peer and what it sent are right, and what is sent is its own.
stepped_kept : (S : Setting) (w : World) (p : ℕ) (old new : Member) (more : List Sent) → slice_get w.peers p ≡ Some old → IsKept S w → Every (IsRight S (records_in w) w.bag) more
    → Every (λ s. s.from ≡ Peer p) more → IsRightPlace S (w.bag ++ more) p (Some new) → IsKept S (sent_more (with_member w p new) more)
stepped_kept S w p old new more at kept right from is =
    let all : List Sent = w.bag ++ more in
    let H : List Record = records_in w in
    let within : Within w.bag all = λ s there. stands_left s w.bag more there in
    record {
      recorded = kept.recorded;
      stored = kept.stored;
      sent = every_append (IsRight S H all) w.bag more
          (every_right_grows S H H w.bag all w.bag (λ a r at. at) within kept.sent)
          (every_right_grows S H H w.bag all more (λ a r at. at) within right);
      peers = member_set S w.peers all p old new at is
          (λ q other. place_grows S w.bag all q (slice_get w.peers q) within
          (λ to m there. other_sent w.bag more (Peer p) q to m (λ same. other (same_number q p same)) from there) (kept.peers q));
      closed = λ x there. record_grows H H w.bag all x (λ y here. here) within (kept.closed x there);
    }

-- what a worker sends is its own
told_from : (to : Party) (p : ℕ) (ms : List Message) → Every (λ s. s.from ≡ Peer p) (map (told_to to p) ms)
told_from to p ms = every_map (λ s. s.from ≡ Peer p) (told_to to p) ms (λ m there. refl)

report_told : (home to : Party) (p : ℕ) (ms : List Message) (m : Message) → Every IsReport ms → Stands (told_to to p m) (map (told_to home p) ms) → IsReport m
report_told home to p ms m all there =
    let Report : Sent → Type 0 = λ s. (n : Message) → s.message ≡ n → IsReport n in
    every_map Report (told_to home p) ms (λ n here other same. subst IsReport same (all n here)) (told_to to p m) there m refl

-- a worker's step, with these of its jobs
pub acted_kept : (S : Setting) (w : World) (p : ℕ) (home : Home) (machine : Machine) (jobs : List Start) (did : Acted) → slice_get w.peers p ≡ Some (Works home machine) → IsKept S w
    → Every (IsRightJob S w.bag (party_of home) p) jobs → IsFed S (records_in w) w.bag (party_of home) p did → Every IsReport did.acts.send → Agrees jobs did
    → IsKept S (acted w p home machine jobs did)
acted_kept S w p home machine jobs did at kept old is reports agrees =
    let was : IsRightPeer S w.bag (party_of home) p machine = place_right S w p (Some (Works home machine)) at kept in
    let new : Machine = stepped machine jobs did in
    let more : List Sent = map (told_to (party_of home) p) did.acts.send in
    let within : Within w.bag (w.bag ++ more) = λ s there. stands_left s w.bag more there in
    let says : SaysReports (w.bag ++ more) p = λ to m there. by to m (stands_either (told_to to p m) w.bag more there) in
    let right : IsRightPeer S w.bag (party_of home) p new = record {
      held = is.held;
      jobs = every_append (IsRightJob S w.bag (party_of home) p) jobs did.acts.start old is.start;
      same = agrees;
      reports = was.reports;
    } in
    stepped_kept S w p (Works home machine) (Works home new) more at kept is.send (told_from (party_of home) p did.acts.send)
    (peer_grows S w.bag (w.bag ++ more) (party_of home) p new within says right)
  where
    by : (to : Party) (m : Message) → Stands (told_to to p m) w.bag ⊎ Stands (told_to to p m) (map (told_to (party_of home) p) did.acts.send) → IsReport m
    by to m (inl old) = let was : IsRightPeer S w.bag (party_of home) p machine = place_right S w p (Some (Works home machine)) at kept in was.reports to m old
    by to m (inr new) = report_told (party_of home) to p did.acts.send m reports new

-- a message that comes to a worker from its end
pub works_on_kept : (S : Setting) (w : World) (p : ℕ) (home : Home) (machine : Machine) (m : Message) → slice_get w.peers p ≡ Some (Works home machine)
    → IsRightMessage S (records_in w) w.bag (party_of home) (Peer p) m → Stands (let sent : Sent = record { from = party_of home; to = Peer p; message = m } in sent) w.bag → IsKept S w
    → IsKept S (works_on w p home machine m)
works_on_kept S w p home machine m at right stands kept =
    let was : IsRightPeer S w.bag (party_of home) p machine = place_right S w p (Some (Works home machine)) at kept in
    acted_kept S w p home machine machine.jobs (hears machine.worker m) at kept was.jobs (hears_fed S (records_in w) w.bag (party_of home) p machine.worker m right stands was.held)
    (hears_said machine.worker m (λ t is. inputs_few S (records_in w) w.bag (party_of home) (Peer p) m t S.valid kept.sent right is))
    (hears_agrees machine.jobs machine.worker m was.same)

-- the Done of a job that a right worker runs is right
done_right : (S : Setting) (bag : List Sent) (home : Party) (p : ℕ) (s : Start) (outcome : Outcome) → IsRightJob S bag home p s
    → MayEnd S.gives S.may_fail s.job outcome → IsOurAnswer S bag home (Peer p) s.attempt outcome
done_right S bag home p s outcome right ends = (right.task, right.numbered, right.stands, subst (λ j. MayEnd S.gives S.may_fail j outcome) right.job_is ends)

-- a job of a worker that ends
ran_kept : (S : Setting) (w : World) (p : ℕ) (home : Home) (machine : Machine) (outcome : Outcome) (next : Option Start) → slice_get w.peers p ≡ Some (Works home machine)
    → least_job machine.jobs ≡ next → ((s : Start) → next ≡ Some s → MayEnd S.gives S.may_fail s.job outcome) → IsKept S w → IsKept S (ran w p home machine outcome next)
ran_kept S w p home machine outcome None at least ends kept = kept
ran_kept S w p home machine outcome (Some s) at least ends kept =
    let was : IsRightPeer S w.bag (party_of home) p machine = place_right S w p (Some (Works home machine)) at kept in
    let right : IsRightJob S w.bag (party_of home) p s = was.jobs s (least_stands machine.jobs s least) in
    acted_kept S w p home machine (without_job s.attempt machine.jobs) (reports machine.worker s.attempt outcome) at kept
    (every_without (IsRightJob S w.bag (party_of home) p) s.attempt machine.jobs was.jobs)
    (reports_fed S (records_in w) w.bag (party_of home) p machine.worker s.attempt outcome (done_right S w.bag (party_of home) p s outcome right (ends s refl)) was.held)
    (reports_said machine.worker s.attempt outcome
    (answer_report S (records_in w) w.bag (party_of home) (Peer p) s.attempt outcome S.valid kept.sent (done_right S w.bag (party_of home) p s outcome right (ends s refl))))
    (reports_agrees machine.jobs machine.worker s.attempt outcome was.same)

-- the job of a start, where there is one
abbrev next_job_of : Option Start → Option Job
next_job_of next = option_map (λ s. s.job) next

-- it may end so, as the event says
may_next : (S : Setting) (outcome : Outcome) (next : Option Start) → MayAnswer S.gives S.may_fail (next_job_of next) outcome
    → (s : Start) → next ≡ Some s → MayEnd S.gives S.may_fail s.job outcome
may_next S outcome next may s is = subst (λ o. MayAnswer S.gives S.may_fail (next_job_of o) outcome) is may

ran_by : (S : Setting) (w : World) (p : ℕ) (home : Home) (machine : Machine) (outcome : Outcome) (gone : Bool) → slice_get w.peers p ≡ Some (Works home machine)
    → MayAnswer S.gives S.may_fail (next_job (Some (Works home machine))) outcome → IsKept S w → IsKept S (cond gone w (ran w p home machine outcome (least_job machine.jobs)))
ran_by S w p home machine outcome true at may kept = kept
ran_by S w p home machine outcome false at may kept =
    ran_kept S w p home machine outcome (least_job machine.jobs) at refl (may_next S outcome (least_job machine.jobs) may) kept

-- a run of a worker's job
pub ran_on_kept : (S : Setting) (w : World) (p : ℕ) (outcome : Outcome) (member : Option Member) → slice_get w.peers p ≡ member
    → MayAnswer S.gives S.may_fail (next_job member) outcome → IsKept S w → IsKept S (ran_on w p outcome member)
ran_on_kept S w p outcome None at may kept = kept
ran_on_kept S w p outcome (Some (Works home machine)) at may kept = ran_by S w p home machine outcome machine.gone at may kept
ran_on_kept S w p outcome (Some (Leads lead)) at may kept = kept

-- ---- foremen

cut_right : (S : Setting) (bag : List Sent) (p : ℕ) (member : Member) → IsRightPlace S bag p (Some member) → IsRightPlace S bag p (Some (cut_off member))
cut_right S bag p (Works AtMaster machine) right = right
cut_right S bag p (Works (AtForeman f link) machine) right = right
cut_right S bag p (Leads lead) right = right

cut_by : (S : Setting) (bag : List Sent) (test : Member → Bool) (p : ℕ) (member : Option Member) → IsRightPlace S bag p member
    → IsRightPlace S bag p (option_map (λ m. cond (test m) (cut_off m) m) member)
cut_by S bag test p None right = right
cut_by S bag test p (Some member) right = by (test member)
  where
    by : (b : Bool) → IsRightPlace S bag p (Some (cond b (cut_off member) member))
    by true = cut_right S bag p member right
    by false = right

-- links at foremen are in no part of the invariant
pub cut_kept : (S : Setting) (bag : List Sent) (test : Member → Bool) (peers : List Member) → ((p : ℕ) → IsRightPlace S bag p (slice_get peers p))
    → (p : ℕ) → IsRightPlace S bag p (slice_get (cut_where test peers) p)
cut_kept S bag test peers right p =
    subst (IsRightPlace S bag p) (sym (get_map (λ m. cond (test m) (cut_off m) m) peers p)) (cut_by S bag test p (slice_get peers p) (right p))

left_kept : (S : Setting) (bag : List Sent) (f : ℕ) (leave : Option LinkNo) (peers : List Member) → ((p : ℕ) → IsRightPlace S bag p (slice_get peers p))
    → (p : ℕ) → IsRightPlace S bag p (slice_get (left_by peers f leave) p)
left_kept S bag f None peers right = right
left_kept S bag f (Some k) peers right = cut_kept S bag (is_at f k) peers right

-- a foreman's step
pub led_kept : (S : Setting) (w : World) (p : ℕ) (old : Member) (lead : Lead) (did : Led) → slice_get w.peers p ≡ Some old → IsLed w.bag p did → IsKept S w → IsKept S (led w p lead did)
led_kept S w p old lead did at is kept =
    let new : Member = Leads (stepped_lead lead did) in
    let set : List Member = slice_set w.peers p new in
    let more : List Sent = led_sends set p did.acts in
    let own = sends_of_lead S (records_in w) w.bag set p did S.valid is kept.sent in
    let after : World = sent_more (with_member w p new) more in
    let done : IsKept S after = stepped_kept S w p old new more at kept (sends_right S (records_in w) w.bag set p did is kept.sent) (λ s there. (own s there).0) (lead_led S w.bag set p lead did is own) in
    peers_kept S after (left_by set p did.acts.leave) done (left_kept S after.bag p did.acts.leave set done.peers)

-- ---- messages to peers

to_member_kept : (S : Setting) (w : World) (p : ℕ) (m : Message) (member : Member) → slice_get w.peers p ≡ Some member → IsRightMessage S (records_in w) w.bag Master (Peer p) m
    → Stands (down_to p m) w.bag → IsKept S w → IsKept S (to_member w p m member)
to_member_kept S w p m (Works AtMaster machine) at right stands kept = works_on_kept S w p AtMaster machine m at right stands kept
to_member_kept S w p m (Works (AtForeman f link) machine) at right stands kept = kept
to_member_kept S w p m (Leads lead) at right stands kept =
    let was : IsRightLead S w.bag p lead = place_right S w p (Some (Leads lead)) at kept in
    led_kept S w p (Leads lead) lead (hears_up lead.foreman m) at
    (up_led S w.bag p lead m (λ t is. inputs_few S (records_in w) w.bag Master (Peer p) m t S.valid kept.sent right is) stands was) kept

-- a message of the master that is delivered to a peer
pub to_peer_kept : (S : Setting) (w : World) (p : ℕ) (m : Message) (connection : Option Connection) (member : Option Member) → slice_get w.peers p ≡ member
    → IsRightMessage S (records_in w) w.bag Master (Peer p) m → Stands (down_to p m) w.bag → IsKept S w → IsKept S (to_peer w p m connection member)
to_peer_kept S w p m None member at right stands kept = kept
to_peer_kept S w p m (Some c) None at right stands kept = kept
to_peer_kept S w p m (Some c) (Some member) at right stands kept = to_member_kept S w p m member at right stands kept

from_foreman_kept : (S : Setting) (w : World) (f p : ℕ) (m : Message) (home : Home) (machine : Machine) → slice_get w.peers p ≡ Some (Works home machine)
    → IsRightMessage S (records_in w) w.bag (Peer f) (Peer p) m → Stands (told_to (Peer p) f m) w.bag → IsKept S w → IsKept S (from_foreman w f p m home machine)
from_foreman_kept S w f p m AtMaster machine at right stands kept = kept
from_foreman_kept S w f p m (AtForeman g None) machine at right stands kept = kept
from_foreman_kept S w f p m (AtForeman g (Some k)) machine at right stands kept = by (g == f) refl
  where
    by : (b : Bool) → (g == f) ≡ b → IsKept S (cond b (works_on w p (AtForeman g (Some k)) machine m) w)
    by false other = kept
    by true same =
        let is : f ≡ g = sym (eqb-true g f same) in
        works_on_kept S w p (AtForeman g (Some k)) machine m at (subst (λ n. IsRightMessage S (records_in w) w.bag (Peer n) (Peer p) m) is right)
        (subst (λ n. Stands (told_to (Peer p) n m) w.bag) is stands) kept

-- what comes from a worker is what stands in the bag
pub heard_below : (bag : List Sent) (f p : ℕ) (m : Message) → Stands (told_to (Peer f) p m) bag → IsHeardBelow bag f m
heard_below bag f p (messages.Done attempt outcome) stands = (p, stands)
heard_below bag f p (messages.Put key content) stands = tt
heard_below bag f p (messages.Task t) stands = tt
heard_below bag f p (messages.Hello total largest cache) stands = tt
heard_below bag f p (messages.Missing attempt files) stands = tt
heard_below bag f p (messages.Cancel attempt) stands = tt
heard_below bag f p (messages.Unlink key) stands = tt
heard_below bag f p (messages.Totals total largest cache) stands = tt
heard_below bag f p messages.Bye stands = tt

from_worker_kept : (S : Setting) (w : World) (f p : ℕ) (m : Message) (lead : Lead) (link : Option LinkNo) → slice_get w.peers f ≡ Some (Leads lead) → Stands (told_to (Peer f) p m) w.bag → IsKept S w
    → IsKept S (from_worker w f m lead link)
from_worker_kept S w f p m lead None at stands kept = kept
from_worker_kept S w f p m lead (Some k) at stands kept =
    let was : IsRightLead S w.bag f lead = place_right S w f (Some (Leads lead)) at kept in
    led_kept S w f (Leads lead) lead (hears_down lead.foreman k m) at (down_led S w.bag f lead k m (heard_below w.bag f p m stands) was) kept

-- a message of one peer that is delivered to another
pub to_other_kept : (S : Setting) (w : World) (p q : ℕ) (m : Message) (member : Option Member) → slice_get w.peers q ≡ member → IsRightMessage S (records_in w) w.bag (Peer p) (Peer q) m
    → Stands (told_to (Peer q) p m) w.bag → IsKept S w → IsKept S (to_other w p q m member)
to_other_kept S w p q m None at right stands kept = kept
to_other_kept S w p q m (Some (Works home machine)) at right stands kept = from_foreman_kept S w p q m home machine at right stands kept
to_other_kept S w p q m (Some (Leads lead)) at right stands kept = from_worker_kept S w q p m lead (link_at q (slice_get w.peers p)) at stands kept

-- ---- moves

-- one more move, by the records after it
pub moved_kept : (S : Setting) (w : World) (move : Move) (contents : Contents) (H : List Record) → records_of (w.moves ++ (move ∷ [])) ≡ H
    → Keeps (records_in w) H → IsKept S w → IsRecorded S.plan H → IsStored S H contents → Every (IsRightRecord H w.bag) H → IsKept S (with_files (moved w move) contents)
moved_kept S w move contents H is keeps kept recorded stored closed = record {
  recorded = subst (IsRecorded S.plan) (sym is) recorded;
  stored = subst (λ xs. IsStored S xs contents) (sym is) stored;
  sent = subst (λ xs. Every (IsRight S xs w.bag) w.bag) (sym is) (every_right_grows S (records_in w) H w.bag w.bag w.bag keeps (λ s there. there) kept.sent);
  peers = kept.peers;
  closed = subst (λ xs. Every (IsRightRecord xs w.bag) xs) (sym is) closed;
}
