-- What the machines of a world show after a step of a peer.
use Rattle.std.proofs.Common.{◌≡◌, ◌<◌, length, ℕ, Bool, true, false, cond, refl, List, [], ◌++◌, Option, Some, None, ap, sym, ◌∙◌, subst, get_or, map}
use Rattle.std.specs.Prelude.{◌==◌, slice_get, slice_set}
use Rattle.std.specs.Option.{option_map}
use Rattle.std.proofs.lemmas.List.{append-nil, set-get_or}
use Rattle.std.proofs.lemmas.Option.{get_or_from_slice_get, slice_get-get_or}
use Rattle.flow_types.specs.declared.plan.Plan.{Plan}
use Rattle.flow_types.specs.declared.job.Job.{Job}
use Rattle.flow_types.specs.declared.job.Outcome.{Outcome}
use Rattle.flow_types.specs.declared.job.Outcome.TheVariants as outcomes
use Rattle.flow_types.specs.declared.job.Start.{Start}
use Rattle.flow_types.specs.declared.messages.Message.{Message}
use Rattle.flow_types.specs.Serial.{Function}
use Rattle.run_history.specs.declared.options.Options.{Options}
use Rattle.flow_types.specs.declared.numbers.LinkNo.{LinkNo}
use Rattle.worker_core.specs.Workers.{Worker, reports}
use Rattle.foreman_core.specs.Steps.{hears_down}
use Rattle.flow_types.specs.declared.numbers.Amounts.{Amounts}
use Rattle.flow_types.specs.declared.messages.Message.TheVariants as messages
use Rattle.world_peers.specs.declared.doing.Doing.{Doing}
use Rattle.world_peers.specs.declared.doing.Doing.TheVariants as doings
use Rattle.world_peers.specs.declared.sent.Party.{Party}
use Rattle.world_peers.specs.declared.sent.Sent.{Sent}
use Rattle.world_peers.specs.declared.member.Home.{Home}
use Rattle.world_peers.specs.declared.member.Home.TheVariants.{AtForeman, AtMaster}
use Rattle.world_peers.specs.declared.member.Member.{Member}
use Rattle.world_peers.specs.declared.member.Member.TheVariants.{Leads, Works}
use Rattle.net_world.specs.declared.play.Play.{Play}
use Rattle.world_peers.specs.declared.doing.Parting.{Parting}
use Rattle.world_peers.specs.declared.doing.Parting.TheVariants as partings
use Rattle.world_peers.specs.Doings.{IsStep, welcomes, RunsMember, RunsUnless, Stepped, departed, heard_by, hears_foreman, hears_master, hears_peer, hears_worker, home_parting, loses_at, parting_of, still}
use Rattle.net_world.specs.Done.{done, parted_from}
use Rattle.world_laws.specs.Worlds.{World, led, welcomed, from_foreman, from_worker, goes, goes_from, loses_below, ran, ran_on, sent_more, to_member, to_other, with_member, with_peers, works_on}
use Rattle.world_peers.specs.Peers.{Lead, Machine, hello_of, next_below, told_to, with_one_more, least_job}
use Rattle.world_peers.specs.Company.{cut_where, is_under, link_at, next_job, party_of}
use Rattle.world_peers.specs.Runs.{EndsSo, Failures}
use Rattle.world_laws.specs.Reach.{MayAnswer}
use Rattle.world_laws.specs.Due.{Ended, RunsSo, peer_due}
use Rattle.world_peers.specs.Runs.{RunsNext}
use Rattle.net_world.specs.Plays.{IsShown, IsTable}
use Rattle.world_contents.specs.Holdings.{kept_in}

-- beside the peers and the messages nothing has changed
pub record IsSameMaster (old new : Play) : Type 0 where
  pub table : new.table ≡ old.table
  pub records : new.records.items ≡ old.records.items
  pub contents : new.contents.items ≡ old.contents.items
  pub lines : new.lines.items ≡ old.lines.items
  pub up : new.up ≡ old.up

-- other peers and more messages
pub peers_shown : (P : Plan) (O : Options) (w : World) (old new : Play) (peers : List Member) (more : List Sent) → IsShown P O w old → IsSameMaster old new → new.peers.items ≡ peers
    → new.bag.items ≡ old.bag.items ++ more → IsShown P O (sent_more (with_peers w peers) more) new
peers_shown P O w old new peers more shown same put sent = record {
  table = subst (IsTable P O w.moves new.table) (sym same.records) (subst (λ t. IsTable P O w.moves t old.records.items) (sym same.table) shown.table);
  contents = λ f. shown.contents f ∙ ap (λ kept. kept_in (slice_get kept f)) (sym same.contents);
  lines = same.lines ∙ shown.lines;
  places = ap length same.contents ∙ shown.places;
  live = shown.live;
  ours = shown.ours;
  peers = put;
  bag = sent ∙ ap (λ bag. bag ++ more) shown.bag;
  up = same.up ∙ shown.up;
}

-- an item put where it stands
pub set_same : {A : Type 0} (xs : List A) (i : ℕ) (x : A) → slice_get xs i ≡ Some x → slice_set xs i x ≡ xs
set_same {A} xs i x at = ap (slice_set xs i) (sym (get_or_from_slice_get xs i x x at)) ∙ set-get_or xs i x

-- the item at a place
pub item_at : {A : Type 0} (xs : List A) (i : ℕ) (x : A) → (i < length xs) × ((d : A) → x ≡ get_or xs i d) → slice_get xs i ≡ Some x
item_at {A} xs i x is = slice_get-get_or xs i x is.0 ∙ ap Some (sym (is.1 x))

-- other peers
pub peers_put : (P : Plan) (O : Options) (w : World) (old new : Play) (peers : List Member) → IsShown P O w old → IsSameMaster old new → new.peers.items ≡ peers → new.bag.items ≡ old.bag.items
    → IsShown P O (with_peers w peers) new
peers_put P O w old new peers shown same put sent = record {
  table = subst (IsTable P O w.moves new.table) (sym same.records) (subst (λ t. IsTable P O w.moves t old.records.items) (sym same.table) shown.table);
  contents = λ f. shown.contents f ∙ ap (λ kept. kept_in (slice_get kept f)) (sym same.contents);
  lines = same.lines ∙ shown.lines;
  places = ap length same.contents ∙ shown.places;
  live = shown.live;
  ours = shown.ours;
  peers = put;
  bag = sent ∙ shown.bag;
  up = same.up ∙ shown.up;
}

-- one peer replaced
pub member_put : (P : Plan) (O : Options) (w : World) (old new : Play) (p : ℕ) (after : Member) → IsShown P O w old → IsSameMaster old new → new.peers.items ≡ slice_set old.peers.items p after
    → new.bag.items ≡ old.bag.items → IsShown P O (with_member w p after) new
member_put P O w old new p after shown same put sent = peers_put P O w old new (slice_set w.peers p after) shown same (put ∙ ap (λ peers. slice_set peers p after) shown.peers) sent

-- the peer of the machines is that of the world
pub member_at : (P : Plan) (O : Options) (w : World) (play : Play) (p : ℕ) (found : Option Member) → IsShown P O w play → slice_get play.peers.items p ≡ found → slice_get w.peers p ≡ found
member_at P O w play p found shown at = ap (λ peers. slice_get peers p) (sym shown.peers) ∙ at

-- a peer put where it stands
pub same_member : (w : World) (p : ℕ) (member : Member) → slice_get w.peers p ≡ Some member → with_member w p member ≡ w
same_member w p member at = ap (with_peers w) (set_same w.peers p member at)

-- ---- steps

-- the world once a peer has made a step, and did what that asks for
abbrev pub after_step : World → ℕ → Stepped → World
after_step w p step = done (with_member w p step.member) p step.doing

pub step_shown : (P : Plan) (O : Options) (w : World) (new : Play) (p : ℕ) (step : Stepped) (after : Member) (doing : Doing) → IsStep step after doing
    → IsShown P O (done (with_member w p after) p doing) new → IsShown P O (after_step w p step) new
step_shown P O w new p step after doing is shown =
    subst (λ m. IsShown P O (done (with_member w p m) p step.doing) new) is.0 (subst (λ d. IsShown P O (done (with_member w p after) p d) new) is.1 shown)

-- a message of the master is a step
pub to_member_is : (w : World) (p : ℕ) (m : Message) (member : Member) → slice_get w.peers p ≡ Some member → to_member w p m member ≡ after_step w p (hears_master member m)
to_member_is w p m (Works AtMaster machine) at = refl
to_member_is w p m (Works (AtForeman f link) machine) at = sym (same_member w p (Works (AtForeman f link) machine) at)
to_member_is w p m (Leads lead) at = refl

from_foreman_is : (w : World) (p q : ℕ) (m : Message) (home : Home) (machine : Machine) → slice_get w.peers q ≡ Some (Works home machine)
    → from_foreman w p q m home machine ≡ after_step w q (hears_foreman p home machine m)
from_foreman_is w p q m AtMaster machine at = sym (same_member w q (Works AtMaster machine) at)
from_foreman_is w p q m (AtForeman g None) machine at = sym (same_member w q (Works (AtForeman g None) machine) at)
from_foreman_is w p q m (AtForeman g (Some k)) machine at = by (g == p)
  where
    by : (b : Bool) → cond b (works_on w q (AtForeman g (Some k)) machine m) w
        ≡ after_step w q (cond b (heard_by (AtForeman g (Some k)) machine m) (still (Works (AtForeman g (Some k)) machine)))
    by true = refl
    by false = sym (same_member w q (Works (AtForeman g (Some k)) machine) at)

from_worker_is : (w : World) (q : ℕ) (m : Message) (lead : Lead) (link : Option LinkNo) → slice_get w.peers q ≡ Some (Leads lead) → from_worker w q m lead link ≡ after_step w q (hears_worker lead link m)
from_worker_is w q m lead None at = sym (same_member w q (Leads lead) at)
from_worker_is w q m lead (Some k) at = refl

-- so is one of another peer
pub to_other_is : (w : World) (p q : ℕ) (m : Message) (member : Member) → slice_get w.peers q ≡ Some member
    → to_other w p q m (Some member) ≡ after_step w q (hears_peer member p (link_at q (slice_get w.peers p)) m)
to_other_is w p q m (Works home machine) at = from_foreman_is w p q m home machine at
to_other_is w p q m (Leads lead) at = from_worker_is w q m lead (link_at q (slice_get w.peers p)) at

-- and a lost link of a foreman
pub loses_is : (w : World) (f : ℕ) (k : LinkNo) (member : Member) → slice_get w.peers f ≡ Some member → loses_below w f k (Some member) ≡ after_step w f (loses_at member k)
loses_is w f k (Works home machine) at = sym (same_member w f (Works home machine) at)
loses_is w f k (Leads lead) at = refl

home_left : (w : World) (p : ℕ) (home : Home) (machine : Machine) → goes_from w p home machine ≡ parted_from (with_member w p (departed (Works home machine))) p (home_parting home)
home_left w p AtMaster machine = refl
home_left w p (AtForeman f None) machine = refl
home_left w p (AtForeman f (Some k)) machine = refl

-- a peer is gone: it departs, and what is to be done then is done
pub goes_is : (w : World) (p : ℕ) (member : Member) → goes w p (Some member) ≡ parted_from (with_member w p (departed member)) p (parting_of member)
goes_is w p (Works home machine) = home_left w p home machine
goes_is w p (Leads lead) = refl

-- ---- what a step of the machines shows

-- messages of a peer
pub told_shown : (P : Plan) (O : Options) (w : World) (old new : Play) (p : ℕ) (doing : Doing) (to : Party) (sent : List Message) → doing ≡ doings.Tells to sent → IsShown P O w old
    → IsSameMaster old new → new.peers.items ≡ old.peers.items → new.bag.items ≡ old.bag.items ++ map (told_to to p) sent → IsShown P O (done w p doing) new
told_shown P O w old new p doing to sent is shown same put more =
    subst (λ d. IsShown P O (done w p d) new) (sym is) (peers_shown P O w old new w.peers (map (told_to to p) sent) shown same (put ∙ shown.peers) more)

-- the links of a foreman's workers end
pub lead_left_shown : (P : Plan) (O : Options) (w : World) (old new : Play) (p : ℕ) (parting : Parting) → parting ≡ partings.Lead → IsShown P O w old → IsSameMaster old new
    → new.peers.items ≡ cut_where (is_under p) old.peers.items → new.bag.items ≡ old.bag.items → IsShown P O (parted_from w p parting) new
lead_left_shown P O w old new p parting is shown same put sent =
    subst (λ d. IsShown P O (parted_from w p d) new) (sym is) (peers_put P O w old new (cut_where (is_under p) w.peers) shown same (put ∙ ap (cut_where (is_under p)) shown.peers) sent)

-- a peer is gone
pub gone_shown : (P : Plan) (O : Options) (w : World) (old new : Play) (p : ℕ) (member after : Member) (parting : Parting) → slice_get old.peers.items p ≡ Some member → after ≡ departed member
    → parting ≡ parting_of member → IsShown P O w old → IsShown P O (parted_from (with_member w p after) p parting) new → IsShown P O (goes w p (slice_get w.peers p)) new
gone_shown P O w old new p member after parting at departs parts shown then =
    subst (λ found. IsShown P O (goes w p found) new) (sym (member_at P O w old p (Some member) shown at))
    (subst (λ v. IsShown P O v new) (sym (goes_is w p member))
    (subst (λ m. IsShown P O (parted_from (with_member w p m) p (parting_of member)) new) departs
    (subst (λ d. IsShown P O (parted_from (with_member w p after) p d) new) parts then)))

pub none_gone_shown : (P : Plan) (O : Options) (w : World) (play : Play) (p : ℕ) → slice_get play.peers.items p ≡ None → IsShown P O w play → IsShown P O (goes w p (slice_get w.peers p)) play
none_gone_shown P O w play p none shown = subst (λ found. IsShown P O (goes w p found) play) (sym (member_at P O w play p None shown none)) shown

-- a foreman lost a link
pub lost_below_shown : (P : Plan) (O : Options) (w : World) (old new : Play) (f : ℕ) (k : LinkNo) (member after : Member) (doing : Doing) → slice_get old.peers.items f ≡ Some member
    → IsStep (loses_at member k) after doing → IsShown P O w old → IsShown P O (done (with_member w f after) f doing) new → IsShown P O (loses_below w f k (slice_get w.peers f)) new
lost_below_shown P O w old new f k member after doing at is shown then =
    let here : slice_get w.peers f ≡ Some member = member_at P O w old f (Some member) shown at in
    subst (λ found. IsShown P O (loses_below w f k found) new) (sym here)
    (subst (λ v. IsShown P O v new) (sym (loses_is w f k member here)) (step_shown P O w new f (loses_at member k) after doing is then))

pub none_lost_below : (P : Plan) (O : Options) (w : World) (play : Play) (f : ℕ) (k : LinkNo) → slice_get play.peers.items f ≡ None → IsShown P O w play
    → IsShown P O (loses_below w f k (slice_get w.peers f)) play
none_lost_below P O w play f k none shown = subst (λ found. IsShown P O (loses_below w f k found) play) (sym (member_at P O w play f None shown none)) shown

-- a message of one peer came to another
pub other_shown : (P : Plan) (O : Options) (w : World) (old new : Play) (p q : ℕ) (m : Message) (member after : Member) (doing : Doing) (link : Option LinkNo) → slice_get old.peers.items q ≡ Some member
    → link ≡ link_at q (slice_get old.peers.items p) → IsStep (hears_peer member p link m) after doing → IsShown P O w old → IsShown P O (done (with_member w q after) q doing) new
    → IsShown P O (to_other w p q m (slice_get w.peers q)) new
other_shown P O w old new p q m member after doing link at has is shown then =
    let here : slice_get w.peers q ≡ Some member = member_at P O w old q (Some member) shown at in
    let same : link ≡ link_at q (slice_get w.peers p) = has ∙ ap (λ peers. link_at q (slice_get peers p)) shown.peers in
    subst (λ found. IsShown P O (to_other w p q m found) new) (sym here)
    (subst (λ v. IsShown P O v new) (sym (to_other_is w p q m member here))
    (step_shown P O w new q (hears_peer member p (link_at q (slice_get w.peers p)) m) after doing (subst (λ l. IsStep (hears_peer member p l m) after doing) same is) then))

pub no_other_hears : (P : Plan) (O : Options) (w : World) (play : Play) (p q : ℕ) (m : Message) → slice_get play.peers.items q ≡ None → IsShown P O w play → IsShown P O (to_other w p q m (slice_get w.peers q)) play
no_other_hears P O w play p q m none shown = subst (λ found. IsShown P O (to_other w p q m found) play) (sym (member_at P O w play q None shown none)) shown

-- a worker was welcomed by its foreman
pub welcomed_shown : (P : Plan) (O : Options) (w : World) (old new : Play) (f : ℕ) (lead : Lead) (worker : Worker) (total : Amounts) (cache : ℕ) (member after : Member) (doing : Doing)
    → slice_get old.peers.items f ≡ Some member → slice_get w.peers f ≡ Some (Leads lead) → worker.total ≡ total → worker.cache.cap ≡ cache → IsStep (welcomes member total cache) after doing → IsShown P O w old
    → IsShown P O (done (with_member w f after) f doing) new → IsShown P O (welcomed w f lead worker) new
welcomed_shown P O w old new f lead worker total cache member after doing at leads amounts bytes is shown then =
    let here : slice_get w.peers f ≡ Some member = member_at P O w old f (Some member) shown at in
    let same : member ≡ Leads lead = cc in
    let hello : messages.Hello total total cache ≡ hello_of worker = sym (ap (λ t. messages.Hello t t worker.cache.cap) amounts ∙ ap (messages.Hello total total) bytes) in
    subst (λ m. IsShown P O (led w f (with_one_more lead) (hears_down lead.foreman (next_below lead) m)) new) hello
    (step_shown P O w new f (welcomes (Leads lead) total cache) after doing (subst (λ m. IsStep (welcomes m total cache) after doing) same is) then)

-- ---- runs

abbrev pub Ran : Function → Failures → Plan → Options → World → Play → ℕ → Option Member → Type 0
Ran gives may_fail P O w new p found =
    (outcome : Outcome) × RunsSo gives may_fail (next_job found) (peer_due found) outcome × IsShown P O (ran_on w p outcome found) new

not_run : (gives : Function) (may_fail : Failures) (job : Option Job) → MayAnswer gives may_fail job outcomes.NotRun
not_run gives may_fail None = tt
not_run gives may_fail (Some job) = λ run. absurd run

-- a peer that isn't there runs nothing
pub absent_shown : (gives : Function) (may_fail : Failures) (P : Plan) (O : Options) (w : World) (new : Play) (p : ℕ) → slice_get w.peers p ≡ None → IsShown P O w new
    → Ran gives may_fail P O w new p (slice_get w.peers p)
absent_shown gives may_fail P O w new p none shown = subst (Ran gives may_fail P O w new p) (sym none) (outcomes.NotRun, (tt, tt), shown)

-- no step was made
still_shown : (P : Plan) (O : Options) (w : World) (new : Play) (p : ℕ) (member after : Member) (doing : Doing) → slice_get w.peers p ≡ Some member → IsStep (still member) after doing
    → IsShown P O (done (with_member w p after) p doing) new → IsShown P O w new
still_shown P O w new p member after doing at is shown = subst (λ v. IsShown P O v new) (same_member w p member at) (step_shown P O w new p (still member) after doing is shown)

nothing_told : (w : World) (p : ℕ) (to : Party) (member : Member) → slice_get w.peers p ≡ Some member → done (with_member w p member) p (doings.Tells to []) ≡ w
nothing_told w p to member at = ap (λ bag. with_bag (with_member w p member) bag) (append-nil w.bag) ∙ same_member w p member at
  where
    with_bag : World → List Sent → World
    with_bag v bag = record { moves = v.moves; contents = v.contents; connections = v.connections; peers = v.peers; bag = bag; up = v.up; fresh = v.fresh }

ran_by : (gives : Function) (may_fail : Failures) (P : Plan) (O : Options) (w : World) (new : Play) (p : ℕ) (home : Home) (machine after : Machine) (sent : List Message) (found : Option Start)
    → slice_get w.peers p ≡ Some (Works home machine) → RunsNext (EndsSo gives may_fail) machine found sent after
    → IsShown P O (done (with_member w p (Works home after)) p (doings.Tells (party_of home) sent)) new
    → (outcome : Outcome) × RunsSo gives may_fail (option_map (λ s. s.job) found) (option_map (λ s. s.job) found) outcome × IsShown P O (ran w p home machine outcome found) new
ran_by gives may_fail P O w new p home machine after sent None at runs shown = (
  outcomes.NotRun,
  (tt, tt),
  subst (λ v. IsShown P O v new) (nothing_told w p (party_of home) (Works home machine) at)
      (subst (λ m. IsShown P O (done (with_member w p (Works home m)) p (doings.Tells (party_of home) [])) new) runs.1
      (subst (λ told. IsShown P O (done (with_member w p (Works home after)) p (doings.Tells (party_of home) told)) new) runs.0 shown)),
)
ran_by gives may_fail P O w new p home machine after sent (Some s) at runs shown = (
  runs.0,
  (λ run. runs.1, runs.1),
  subst (λ m. IsShown P O (done (with_member w p (Works home m)) p (doings.Tells (party_of home) (reports machine.worker s.attempt runs.0).acts.send)) new) runs.3
      (subst (λ told. IsShown P O (done (with_member w p (Works home after)) p (doings.Tells (party_of home) told)) new) runs.2 shown),
)

unless_by : (gives : Function) (may_fail : Failures) (P : Plan) (O : Options) (w : World) (new : Play) (p : ℕ) (home : Home) (machine : Machine) (gone : Bool) (after : Member) (doing : Doing)
    → machine.gone ≡ gone → slice_get w.peers p ≡ Some (Works home machine) → RunsUnless (EndsSo gives may_fail) gone home machine after doing
    → IsShown P O (done (with_member w p after) p doing) new → Ran gives may_fail P O w new p (Some (Works home machine))
unless_by gives may_fail P O w new p home machine true after doing gone at is shown = (
  outcomes.NotRun,
  (
    not_run gives may_fail (next_job (Some (Works home machine))),
    subst (λ b. Ended gives may_fail (cond b None (next_job (Some (Works home machine)))) outcomes.NotRun) (sym gone) tt,
  ),
  subst (λ b. IsShown P O (cond b w (ran w p home machine outcomes.NotRun (least_job machine.jobs))) new) (sym gone) (still_shown P O w new p (Works home machine) after doing at is shown),
)
unless_by gives may_fail P O w new p home machine false after doing gone at is shown =
    let more = is.1 in
    let did = ran_by gives may_fail P O w new p home machine is.0 more.0 (least_job machine.jobs) at more.1
    (subst (λ d. IsShown P O (done (with_member w p (Works home is.0)) p d) new) more.3 (subst (λ m. IsShown P O (done (with_member w p m) p doing) new) more.2 shown)) in (
      did.0,
      (did.1.0, subst (λ b. Ended gives may_fail (cond b None (next_job (Some (Works home machine)))) did.0) (sym gone) did.1.1),
      subst (λ b. IsShown P O (cond b w (ran w p home machine did.0 (least_job machine.jobs))) new) (sym gone) did.2,
    )

-- a peer runs its least job, where it has one and isn't gone
pub ran_shown : (gives : Function) (may_fail : Failures) (P : Plan) (O : Options) (w : World) (new : Play) (p : ℕ) (member after : Member) (doing : Doing)
    → slice_get w.peers p ≡ Some member → RunsMember (EndsSo gives may_fail) member after doing → IsShown P O (done (with_member w p after) p doing) new
    → Ran gives may_fail P O w new p (slice_get w.peers p)
ran_shown gives may_fail P O w new p member after doing at runs shown = subst (Ran gives may_fail P O w new p) (sym at) (by member at runs)
  where
    by : (member : Member) → slice_get w.peers p ≡ Some member → RunsMember (EndsSo gives may_fail) member after doing → Ran gives may_fail P O w new p (Some member)
    by (Works home machine) at runs = unless_by gives may_fail P O w new p home machine machine.gone after doing refl at runs shown
    by (Leads lead) at runs = (outcomes.NotRun, (tt, tt), still_shown P O w new p (Leads lead) after doing at runs shown)
