-- What the machines of a world show after a link began.
use Rattle.std.proofs.Common.{◌≡◌, ◌-◌, ℕ, Bool, true, false, cond, List, [], ◌∷◌, ◌++◌, length, Option, Some, None, refl, ap, sym, ◌∙◌, subst}
use Rattle.std.proofs.lemmas.List.{map-append}
use Rattle.std.specs.Prelude.{◌&&◌, ◌||◌, find, is_none, is_some, nat_lt, slice_get}
use Rattle.std.specs.Option.{option_map}
use Rattle.flow_types.specs.declared.plan.Plan.{Plan}
use Rattle.flow_types.specs.declared.numbers.Amounts.{Amounts}
use Rattle.flow_types.specs.declared.numbers.LinkNo.{LinkNo}
use Rattle.flow_types.specs.declared.messages.Message.{Message}
use Rattle.flow_types.specs.declared.messages.Message.TheVariants as messages
use Rattle.flow_types.specs.Plans.{is_empty}
use Rattle.run_history.specs.declared.moves.Move.{Move}
use Rattle.run_history.specs.declared.moves.Move.TheVariants as moves
use Rattle.run_history.specs.declared.options.Options.{Options}
use Rattle.run_history.specs.History.{next_run, part}
use Rattle.run_history.specs.Links.{records_of}
use Rattle.run_history.specs.Moves.{join_refusal, next_link}
use Rattle.run_history.proofs.Grows.{records-same}
use Rattle.link_session.specs.Sessions.{State}
use Rattle.task_core.specs.Stands.{IsSameRun, Stands}
use Rattle.worker_core.specs.Workers.{Worker}
use Rattle.world_laws.specs.declared.events.Joiner.{Joiner}
use Rattle.net_world.specs.declared.play.Play.{Play}
use Rattle.world_peers.specs.declared.doing.Returning.{Returning}
use Rattle.world_peers.specs.declared.doing.Returning.TheVariants as returnings
use Rattle.world_peers.specs.declared.member.Home.{Home}
use Rattle.world_peers.specs.declared.member.Home.TheVariants.{AtForeman, AtMaster}
use Rattle.world_peers.specs.declared.member.Member.{Member}
use Rattle.world_peers.specs.declared.member.Member.TheVariants.{Leads, Works}
use Rattle.world_peers.specs.Doings.{attached, home_returning, next_at, next_number, returning_of}
use Rattle.world_laws.specs.Worlds.{Connection, World, at_peer, back, back_home, back_to, comes_again, comes_below, comes_to, connected_lead, greeted, has_number, joins, link_no, linked, records_in, run_of, welcomed, with_member, with_more}
use Rattle.world_peers.specs.Peers.{Lead, Machine, is_open, new_machine, next_below}
use Rattle.world_peers.specs.Company.{at_next, most_peers}
use Rattle.net_world.specs.Plays.{AreOurs, IsOurs, IsShown}
use Rattle.world_contents.specs.Holdings.{kept_in}
use Rattle.net_world.proofs.Lines.{joined_links, keeps_silent, ours_keep}
use Rattle.net_world.proofs.PeerShows.{IsSameMaster, peers_put}
use Rattle.world_laws.proofs.Members.{every_append, every_nil, every_one}

abbrev line_of : ℕ → ℕ → State → Connection
line_of link peer session = record { link = link; peer = peer; session = session }

-- a link began, and its hello was heard
pub linked_shown : (P : Plan) (O : Options) (w : World) (old new : Play) (p : ℕ) (link : LinkNo) (total largest : Amounts) (cache run : ℕ) (session : State)
    → IsShown P O w old → link.0 ≡ next_link w.moves → Stands new.table (w.moves ++ (moves.Joined link total largest cache ∷ []))
    → IsSameRun old.table new.table → run ≡ new.table.runs - 1 → ((fresh : State) → session ≡ greeted fresh run (messages.Hello total largest cache))
    → new.lines.items ≡ old.lines.items ++ ((let line : Connection = record { link = link.0; peer = p; session = session } in line) ∷ [])
    → new.records.items ≡ old.records.items → new.contents.items ≡ old.contents.items → new.peers.items ≡ old.peers.items → new.bag.items ≡ old.bag.items → new.up ≡ old.up
    → IsShown P O (linked w p total largest cache) new
linked_shown P O w old new p link total largest cache run session shown number stands still runs heard pushed entries contents peers bag up =
    let k : ℕ = next_link w.moves in
    let move : Move = moves.Joined (link_no k) total largest cache in
    let same_move : moves.Joined link total largest cache ≡ move = ap (λ l. moves.Joined l total largest cache) (ap link_no number) in
    let run_is : run ≡ run_of (records_in w) = runs ∙ ap (λ n. n - 1) (stands.runs ∙ ap next_run (records-same w.moves (moves.Joined link total largest cache) refl)) in
    let hello : Message = messages.Hello total largest cache in
    let same_session : session ≡ greeted w.fresh (run_of (records_in w)) hello = heard w.fresh ∙ ap (λ n. greeted w.fresh n hello) run_is in
    let greeted_line : Connection = line_of k p (greeted w.fresh (run_of (records_in w)) hello) in
    let H = records_of (w.moves ++ (move ∷ [])) in
    let same_line : line_of link.0 p session ≡ greeted_line =
    ap (λ l. line_of l p session) number ∙ ap (line_of k p) same_session in
    record {
      table = record {
        plan = still.0 ∙ shown.table.plan;
        options = still.1 ∙ shown.table.options;
        stop = still.2 ∙ shown.table.stop;
        stands = subst (λ m. Stands new.table (w.moves ++ (m ∷ []))) same_move stands;
        opened = ap (λ H. is_empty (part H)) (records-same w.moves move refl) ∙ shown.table.opened;
        records = entries ∙ shown.table.records ∙ sym (records-same w.moves move refl);
      };
      contents = λ f. shown.contents f ∙ ap (λ kept. kept_in (slice_get kept f)) (sym contents);
      lines = pushed ∙ ap (λ lines. lines ++ (line_of link.0 p session ∷ [])) shown.lines ∙ ap (λ line. w.connections ++ (line ∷ [])) same_line;
      places = ap length contents ∙ shown.places;
      live = ap (λ (ks : List ℕ). 0 ∷ ks) (map-append (λ (c : Connection). c.link) w.connections (greeted_line ∷ [])) ∙ ap (λ (ks : List ℕ). ks ++ (k ∷ [])) shown.live
          ∙ sym (joined_links O old.table w.moves (link_no k) total largest cache refl shown.table.options shown.table.stands);
      ours = every_append (AreOurs P H) w.connections (greeted_line ∷ [])
          (ours_keep P (records_in w) H w.connections (keeps_silent w.moves move refl) shown.ours)
          (every_one (AreOurs P H) greeted_line (every_nil (IsOurs P H)));
      peers = peers ∙ shown.peers;
      bag = bag ∙ shown.bag;
      up = up ∙ shown.up;
    }

-- ---- who joins

-- one more peer came
pub new_member_shown : (P : Plan) (O : Options) (w : World) (old new : Play) (member : Member) → IsShown P O w old → IsSameMaster old new → new.peers.items ≡ old.peers.items ++ (member ∷ [])
    → new.bag.items ≡ old.bag.items → IsShown P O (with_more w member) new
new_member_shown P O w old new member shown same put sent =
    peers_put P O w old new (w.peers ++ (member ∷ [])) shown same (put ∙ ap (λ peers. peers ++ (member ∷ [])) shown.peers) sent

-- no number is left
pub none_left : (peers : List Member) (found : Option ℕ) → is_none found ≡ true → found ≡ next_number peers → nat_lt (length peers) most_peers ≡ false
none_left peers found none is = by (nat_lt (length peers) most_peers) refl found none is
  where
    by : (b : Bool) → nat_lt (length peers) most_peers ≡ b → (found : Option ℕ) → is_none found ≡ true → found ≡ cond b (Some (length peers)) None → nat_lt (length peers) most_peers ≡ false
    by false at found none is = at
    by true at None none is = absurd (let h : ⊥ = cc in h)
    by true at (Some n) none is = absurd (let h : ⊥ = cc in h)

-- this one is left
pub one_left : (peers : List Member) (n : ℕ) → Some n ≡ next_number peers → (n ≡ length peers) × (nat_lt (length peers) most_peers ≡ true)
one_left peers n is = by (nat_lt (length peers) most_peers) refl is
  where
    by : (b : Bool) → nat_lt (length peers) most_peers ≡ b → Some n ≡ cond b (Some (length peers)) None → (n ≡ length peers) × (nat_lt (length peers) most_peers ≡ true)
    by true at is = (let same : n ≡ length peers = cc in same, at)
    by false at is = absurd (let h : ⊥ = cc in h)

-- some one is left
pub some_left : (peers : List Member) (found : Option ℕ) → is_none found ≡ false → found ≡ next_number peers → nat_lt (length peers) most_peers ≡ true
some_left peers None some is = absurd (let h : ⊥ = cc in h)
some_left peers (Some n) some is = (one_left peers n is).1

-- the same of a world
pub world_left : (P : Plan) (O : Options) (w : World) (play : Play) (b : Bool) → IsShown P O w play → nat_lt (length play.peers.items) most_peers ≡ b → has_number w ≡ b
world_left P O w play b shown left = ap (λ peers. nat_lt (length peers) most_peers) (sym shown.peers) ∙ left

-- where there is a number for one more peer it comes, else nothing changes
pub numbered_shown : (P : Plan) (O : Options) (w v : World) (new : Play) (enabled : Bool) → enabled ≡ true → IsShown P O v new → IsShown P O (cond enabled v w) new
numbered_shown P O w v new enabled is shown = subst (λ b. IsShown P O (cond b v w) new) (sym is) shown

pub unnumbered_shown : (P : Plan) (O : Options) (w v : World) (new : Play) (enabled : Bool) → enabled ≡ false → IsShown P O w new → IsShown P O (cond enabled v w) new
unnumbered_shown P O w v new enabled is shown = subst (λ b. IsShown P O (cond b v w) new) (sym is) shown

-- ---- workers that come to a foreman

-- a foreman that has a next link is open, and no other peer has one
pub foreman_open : (found : Option Member) (k : LinkNo) → next_at found ≡ Some k → (lead : Lead) × (found ≡ Some (Leads lead)) × (is_open lead ≡ true) × (next_below lead ≡ k)
foreman_open None k is = absurd (let h : ⊥ = cc in h)
foreman_open (Some (Works home machine)) k is = absurd (let h : ⊥ = cc in h)
foreman_open (Some (Leads lead)) k is = by (is_open lead) refl is
  where
    by : (b : Bool) → is_open lead ≡ b → cond b (Some (next_below lead)) None ≡ Some k → (other : Lead) × (Some (Leads lead) ≡ Some (Leads other)) × (is_open other ≡ true) × (next_below other ≡ k)
    by true open_is is = (lead, refl, open_is, let same : next_below lead ≡ k = cc in same)
    by false open_is is = absurd (let h : ⊥ = cc in h)

-- nobody comes to one that hasn't
pub not_open_comes : (P : Plan) (O : Options) (w : World) (play : Play) (f : ℕ) (worker : Worker) (found : Option Member) → next_at found ≡ None → IsShown P O w play → IsShown P O (comes_to w f worker found) play
not_open_comes P O w play f worker None is shown = shown
not_open_comes P O w play f worker (Some (Works home machine)) is shown = shown
not_open_comes P O w play f worker (Some (Leads lead)) is shown = by (is_open lead) is
  where
    by : (b : Bool) → cond b (Some (next_below lead)) None ≡ None
        → IsShown P O (cond (b && has_number w) (welcomed (with_more w (at_next f lead (new_machine worker))) f lead worker) w) play
    by true is = absurd (let h : ⊥ = cc in h)
    by false is = shown

pub not_open_back : (P : Plan) (O : Options) (w : World) (play : Play) (p f : ℕ) (machine : Machine) (found : Option Member) → next_at found ≡ None → IsShown P O w play
    → IsShown P O (back_to w p f machine found) play
not_open_back P O w play p f machine None is shown = shown
not_open_back P O w play p f machine (Some (Works home other)) is shown = shown
not_open_back P O w play p f machine (Some (Leads lead)) is shown = by (is_open lead) is
  where
    by : (b : Bool) → cond b (Some (next_below lead)) None ≡ None → IsShown P O (cond b (welcomed (with_member w p (at_next f lead machine)) f lead machine.worker) w) play
    by true is = absurd (let h : ⊥ = cc in h)
    by false is = shown

-- nor where there is no number
pub no_number_comes : (P : Plan) (O : Options) (w : World) (play : Play) (f : ℕ) (worker : Worker) (found : Option Member) → has_number w ≡ false → IsShown P O w play → IsShown P O (comes_to w f worker found) play
no_number_comes P O w play f worker None is shown = shown
no_number_comes P O w play f worker (Some (Works home machine)) is shown = shown
no_number_comes P O w play f worker (Some (Leads lead)) is shown = by (is_open lead) (has_number w) is
  where
    by : (a b : Bool) → b ≡ false → IsShown P O (cond (a && b) (welcomed (with_more w (at_next f lead (new_machine worker))) f lead worker) w) play
    by true true is = absurd (let h : ⊥ = cc in h)
    by true false is = shown
    by false b is = shown

-- a new worker came to a foreman that is open
pub came_shown : (P : Plan) (O : Options) (w : World) (new : Play) (f : ℕ) (lead : Lead) (worker : Worker) → slice_get w.peers f ≡ Some (Leads lead) → is_open lead ≡ true → has_number w ≡ true
    → IsShown P O (welcomed (with_more w (at_next f lead (new_machine worker))) f lead worker) new → IsShown P O (comes_to w f worker (slice_get w.peers f)) new
came_shown P O w new f lead worker at open_is number shown =
    subst (λ found. IsShown P O (comes_to w f worker found) new) (sym at)
    (subst (λ a. IsShown P O (cond (a && has_number w) (welcomed (with_more w (at_next f lead (new_machine worker))) f lead worker) w) new) (sym open_is)
    (subst (λ b. IsShown P O (cond b (welcomed (with_more w (at_next f lead (new_machine worker))) f lead worker) w) new) (sym number) shown))

-- an earlier one came back to it
pub back_shown : (P : Plan) (O : Options) (w : World) (new : Play) (p f : ℕ) (lead : Lead) (machine : Machine) → slice_get w.peers f ≡ Some (Leads lead) → is_open lead ≡ true
    → IsShown P O (welcomed (with_member w p (at_next f lead machine)) f lead machine.worker) new → IsShown P O (back_to w p f machine (slice_get w.peers f)) new
back_shown P O w new p f lead machine at open_is shown =
    subst (λ found. IsShown P O (back_to w p f machine found) new) (sym at)
    (subst (λ b. IsShown P O (cond b (welcomed (with_member w p (at_next f lead machine)) f lead machine.worker) w) new) (sym open_is) shown)

-- ---- peers that come again

no_link : (link : Option LinkNo) (found : Option Connection) → is_some link ≡ false → option_map (λ l. l.0) link ≡ option_map (λ c. c.link) found → found ≡ None
no_link None None none same = refl
no_link None (Some c) none same = absurd (let h : ⊥ = cc in h)
no_link (Some l) found none same = absurd (let h : ⊥ = cc in h)

-- where a peer has no link at the master it comes back to where it was
pub again_shown : (P : Plan) (O : Options) (w : World) (new : Play) (p : ℕ) (link : Option LinkNo) (member : Member) → is_some link ≡ false
    → option_map (λ l. l.0) link ≡ option_map (λ c. c.link) (find (at_peer p) w.connections) → slice_get w.peers p ≡ Some member
    → IsShown P O (back w p member) new → IsShown P O (comes_again w p (find (at_peer p) w.connections) (slice_get w.peers p)) new
again_shown P O w new p link member none same at shown =
    subst (λ found. IsShown P O (comes_again w p found (slice_get w.peers p)) new) (sym (no_link link (find (at_peer p) w.connections) none same))
    (subst (λ found. IsShown P O (comes_again w p None found) new) (sym at) shown)

-- what a peer that comes back makes of the world, by where it comes to
abbrev pub Returns : Plan → Options → World → Play → ℕ → Member → Returning → Type 0
Returns P O w new p member returnings.Nowhere = IsShown P O w new
Returns P O w new p member (returnings.ToMaster total largest cache) = IsShown P O (linked w p total largest cache) new
Returns P O w new p member (returnings.ToForeman f) =
    (home : Home) (machine : Machine) → member ≡ Works home machine → IsShown P O (back_to w p f machine (slice_get w.peers f)) new

home_back : (P : Plan) (O : Options) (w : World) (new : Play) (p : ℕ) (home : Home) (machine : Machine) → Returns P O w new p (Works home machine) (home_returning home machine)
    → IsShown P O (back_home w p home machine) new
home_back P O w new p AtMaster machine did = did
home_back P O w new p (AtForeman f None) machine did = did (AtForeman f None) machine refl
home_back P O w new p (AtForeman f (Some k)) machine did = did

unless_gone : (P : Plan) (O : Options) (w v : World) (new : Play) (p : ℕ) (member : Member) (gone : Bool) (to : Returning) → Returns P O w new p member (cond gone returnings.Nowhere to)
    → (Returns P O w new p member to → IsShown P O v new) → IsShown P O (cond gone w v) new
unless_gone P O w v new p member true to did back_is = did
unless_gone P O w v new p member false to did back_is = back_is did

pub returned_shown : (P : Plan) (O : Options) (w : World) (new : Play) (p : ℕ) (member : Member) → Returns P O w new p member (returning_of member) → IsShown P O (back w p member) new
returned_shown P O w new p (Works home machine) did =
    unless_gone P O w (back_home w p home machine) new p (Works home machine) machine.gone (home_returning home machine) did (home_back P O w new p home machine)
returned_shown P O w new p (Leads lead) did =
    unless_gone P O w (connected_lead w p lead.foreman) new p (Leads lead) lead.gone (returning_of (Leads (let here : Lead = record lead { gone = false } in here))) did (λ shown. shown)

-- ---- who may join

-- one more may come
pub joined_shown : (P : Plan) (O : Options) (w : World) (new : Play) (joiner : Joiner) → (comes_below w joiner || is_none (join_refusal O w.moves)) ≡ true → IsShown P O (joins w joiner) new
    → IsShown P O (cond (comes_below w joiner || is_none (join_refusal O w.moves)) (joins w joiner) w) new
joined_shown P O w new joiner room shown = subst (λ b. IsShown P O (cond b (joins w joiner) w) new) (sym room) shown

pub not_joined_shown : (P : Plan) (O : Options) (w : World) (new : Play) (joiner : Joiner) → (comes_below w joiner || is_none (join_refusal O w.moves)) ≡ false → IsShown P O w new
    → IsShown P O (cond (comes_below w joiner || is_none (join_refusal O w.moves)) (joins w joiner) w) new
not_joined_shown P O w new joiner room shown = subst (λ b. IsShown P O (cond b (joins w joiner) w) new) (sym room) shown

-- the foreman of a world at which a link is next
pub next_in : (P : Plan) (O : Options) (w : World) (play : Play) (f : ℕ) (link : Option LinkNo) → IsShown P O w play → link ≡ next_at (slice_get play.peers.items f) → next_at (slice_get w.peers f) ≡ link
next_in P O w play f link shown is = ap (λ peers. next_at (slice_get peers f)) (sym shown.peers) ∙ sym is

-- an earlier worker has its foreman's next link
pub attached_shown : (P : Plan) (O : Options) (w : World) (new : Play) (p f : ℕ) (lead : Lead) (home : Home) (machine : Machine) (member after : Member) (k : LinkNo) → member ≡ Works home machine
    → after ≡ attached f k member → next_below lead ≡ k → IsShown P O (with_member w p after) new → IsShown P O (with_member w p (at_next f lead machine)) new
attached_shown P O w new p f lead home machine member after k is attaches link shown =
    subst (λ m. IsShown P O (with_member w p m) new) (attaches ∙ ap (attached f k) is ∙ ap (λ l. Works (AtForeman f (Some l)) machine) (sym link)) shown
