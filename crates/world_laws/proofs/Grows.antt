-- What holds of messages, peers and records goes on to hold as the records and the bag grow.
use Rattle.std.proofs.Common.{◌≡◌, inl, inr, ℕ, List, ◌++◌, Option, Some, None, ap, ◌∙◌}
use Rattle.std.specs.Prelude.{filter_map, slice_get}
use Rattle.std.proofs.lemmas.List.Elements.{filter_map-append}
use Rattle.flow_types.specs.declared.job.Outcome.{Outcome}
use Rattle.flow_types.specs.declared.job.Start.{Start}
use Rattle.flow_types.specs.declared.job.Task.{Task}
use Rattle.flow_types.specs.declared.numbers.AttemptNo.{AttemptNo}
use Rattle.flow_types.specs.declared.records.Record.{Record}
use Rattle.flow_types.specs.declared.records.Record.TheVariants as records
use Rattle.flow_types.specs.declared.messages.Message.{Message}
use Rattle.flow_types.specs.declared.messages.Message.TheVariants as messages
use Rattle.world_peers.specs.declared.sent.Party.{Party}
use Rattle.world_peers.specs.declared.sent.Party.TheVariants.{Master, Peer}
use Rattle.world_peers.specs.declared.sent.Sent.{Sent}
use Rattle.world_laws.specs.Members.{Stands, Every}
use Rattle.world_peers.specs.declared.member.Member.{Member}
use Rattle.world_peers.specs.declared.member.Member.TheVariants.{Leads, Works}
use Rattle.world_peers.specs.Company.{party_of}
use Rattle.world_peers.specs.Peers.{told_to, Machine}
use Rattle.world_laws.specs.Worlds.{rule_at, rule_started}
use Rattle.world_laws.specs.Laws.{IsCarried}
use Rattle.world_laws.proofs.Members.{get_left}
use Rattle.world_laws.proofs.Invariant.{Setting, SaysReports, IsHeardBelow, IsOurAnswer, IsRightTask, IsStarted, IsRightMessage, IsRight, IsRightJob, IsRightPeer, IsRightPlace, IsRightRecord}

-- each attempt keeps its rule
abbrev pub Keeps : List Record → List Record → Type 0
Keeps H H' = (a r : ℕ) → rule_at H a ≡ Some r → rule_at H' a ≡ Some r

-- all of one list stands in the other
abbrev pub Within : {A : Type 0} → List A → List A → Type 0
Within xs ys = (x : _) → Stands x xs → Stands x ys

pub keeps_more : (H more : List Record) → Keeps H (H ++ more)
keeps_more H more a r at =
    ap (λ xs. slice_get xs a) (filter_map-append rule_started H more) ∙ get_left (filter_map rule_started H) (filter_map rule_started more) a r at

abbrev started_grows : (S : Setting) (H H' : List Record) (a : ℕ) → Keeps H H' → (s : IsStarted S.plan H a) → IsStarted S.plan H' a
started_grows S H H' a keeps s = record { number = s.number; rule = s.rule; started = keeps a s.number s.started; in_plan = s.in_plan }

carried_grows : (bag bag' : List Sent) (from to : Party) (attempt : AttemptNo) → Within bag bag' → IsCarried bag from to attempt → IsCarried bag' from to attempt
carried_grows bag bag' from to attempt within carried = (carried.0, carried.1, within _ carried.2)

pub answer_grows : (S : Setting) (bag bag' : List Sent) (from to : Party) (attempt : AttemptNo) (outcome : Outcome) → Within bag bag' → IsOurAnswer S bag from to attempt outcome
    → IsOurAnswer S bag' from to attempt outcome
answer_grows S bag bag' from to attempt outcome within answer = (answer.0, answer.1, within _ answer.2, answer.3)

task_grows : (S : Setting) (H H' : List Record) (bag bag' : List Sent) (from : Party) (t : Task) → Keeps H H' → Within bag bag' → IsRightTask S H bag from t → IsRightTask S H' bag' from t
task_grows S H H' bag bag' Master t keeps within right = (started_grows S H H' t.attempt.0 keeps right.0, right.1)
task_grows S H H' bag bag' (Peer p) t keeps within right = (right.0, within _ right.1, right.2)

pub message_grows : (S : Setting) (H H' : List Record) (bag bag' : List Sent) (from to : Party) (m : Message) → Keeps H H' → Within bag bag'
    → IsRightMessage S H bag from to m → IsRightMessage S H' bag' from to m
message_grows S H H' bag bag' from to (messages.Put key content) keeps within right = right
message_grows S H H' bag bag' from to (messages.Task t) keeps within right = task_grows S H H' bag bag' from t keeps within right
message_grows S H H' bag bag' from to (messages.Done attempt outcome) keeps within right = answer_grows S bag bag' to from attempt outcome within right
message_grows S H H' bag bag' from to (messages.Hello total largest cache) keeps within right = tt
message_grows S H H' bag bag' from to (messages.Missing attempt files) keeps within right = tt
message_grows S H H' bag bag' from to (messages.Cancel attempt) keeps within right = tt
message_grows S H H' bag bag' from to (messages.Unlink key) keeps within right = tt
message_grows S H H' bag bag' from to (messages.Totals total largest cache) keeps within right = tt
message_grows S H H' bag bag' from to messages.Bye keeps within right = tt

pub every_right_grows : (S : Setting) (H H' : List Record) (bag bag' sent : List Sent) → Keeps H H' → Within bag bag' → Every (IsRight S H bag) sent → Every (IsRight S H' bag') sent
every_right_grows S H H' bag bag' sent keeps within all s there = message_grows S H H' bag bag' s.from s.to s.message keeps within (all s there)

pub job_grows : (S : Setting) (bag bag' : List Sent) (home : Party) (p : ℕ) (s : Start) → Within bag bag' → IsRightJob S bag home p s → IsRightJob S bag' home p s
job_grows S bag bag' home p s within right = record { task = right.task; numbered = right.numbered; stands = within _ right.stands; job_is = right.job_is }

-- this much goes on to hold of a peer; what it sends is asked of the new bag
pub peer_grows : (S : Setting) (bag bag' : List Sent) (home : Party) (p : ℕ) (machine : Machine) → Within bag bag' → SaysReports bag' p → IsRightPeer S bag home p machine
    → IsRightPeer S bag' home p machine
peer_grows S bag bag' home p machine within reports right =
    record { held = right.held; jobs = λ s there. job_grows S bag bag' home p s within (right.jobs s there); same = right.same; reports = reports }

pub below_grows : (bag bag' : List Sent) (p : ℕ) (m : Message) → Within bag bag' → IsHeardBelow bag p m → IsHeardBelow bag' p m
below_grows bag bag' p (messages.Done attempt outcome) within heard = (heard.0, within _ heard.1)
below_grows bag bag' p (messages.Put key content) within heard = tt
below_grows bag bag' p (messages.Task t) within heard = tt
below_grows bag bag' p (messages.Hello total largest cache) within heard = tt
below_grows bag bag' p (messages.Missing attempt files) within heard = tt
below_grows bag bag' p (messages.Cancel attempt) within heard = tt
below_grows bag bag' p (messages.Unlink key) within heard = tt
below_grows bag bag' p (messages.Totals total largest cache) within heard = tt
below_grows bag bag' p messages.Bye within heard = tt

-- Where a peer has sent nothing new, all that holds of it goes on to hold.
pub place_grows : (S : Setting) (bag bag' : List Sent) (p : ℕ) (member : Option Member) → Within bag bag'
    → ((to : Party) (m : Message) → Stands (told_to to p m) bag' → Stands (told_to to p m) bag) → IsRightPlace S bag p member → IsRightPlace S bag' p member
place_grows S bag bag' p None within old right = λ to m there. right to m (old to m there)
place_grows S bag bag' p (Some (Works home machine)) within old right =
    peer_grows S bag bag' (party_of home) p machine within (λ to m there. right.reports to m (old to m there)) right
place_grows S bag bag' p (Some (Leads lead)) within old right = record {
  above = right.above;
  below = right.below;
  down = right.down;
  heard = λ m there. within _ (right.heard m there);
  told = λ d there. below_grows bag bag' p d.message within (right.told d there);
  handed = λ q t there. right.handed q t (old (Peer q) (messages.Task t) there);
  said = λ m there. right.said m (old Master m there);
  right = right.right;
}

pub record_grows : (H H' : List Record) (bag bag' : List Sent) (x : Record) → Within H H' → Within bag bag' → IsRightRecord H bag x → IsRightRecord H' bag' x
record_grows H H' bag bag' (records.Done moment rule attempt outs) more within (inl here) = inl (here.0, (here.1.0, more _ here.1.1))
record_grows H H' bag bag' (records.Done moment rule attempt outs) more within (inr there) = inr (there.0, carried_grows bag bag' _ _ attempt within there.1)
record_grows H H' bag bag' (records.Opened moment run retries limit plan sources) more within right = tt
record_grows H H' bag bag' (records.Resumed moment run retries limit) more within right = tt
record_grows H H' bag bag' (records.Started moment rule attempt link) more within right = tt
record_grows H H' bag bag' (records.Failed moment rule attempt why) more within right = tt
record_grows H H' bag bag' (records.Lost moment rule attempt) more within right = tt
record_grows H H' bag bag' (records.Dropped moment file) more within right = tt
record_grows H H' bag bag' (records.Ended moment kind) more within right = tt
