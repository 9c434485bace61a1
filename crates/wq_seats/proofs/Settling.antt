-- A peer at a sure link: what it told, and what is so of it where it is idle.
use Rattle.std.proofs.Common.{◌≡◌, ◌⊎◌, inl, inr, ℕ, List, [], ◌∷◌, None, Result, Ok, Err, true, refl, sym, ap, ◌∙◌, subst}
use Rattle.std.specs.Prelude.{IfOk}
use Rattle.flow_types.specs.declared.job.Failure.{Failure}
use Rattle.flow_types.specs.declared.job.Job.{Job}
use Rattle.flow_types.specs.declared.job.Outcome.TheVariants as outcomes
use Rattle.flow_types.specs.declared.messages.Message.{Message}
use Rattle.flow_types.specs.declared.messages.Message.TheVariants as messages
use Rattle.flow_types.specs.declared.numbers.Amounts.{Amounts}
use Rattle.flow_types.specs.Serial.{Function}
use Rattle.link_session.specs.declared.session.Stage.{Stage}
use Rattle.link_session.specs.declared.session.Stage.TheVariants as stages
use Rattle.link_session.specs.Sessions.{State}
use Rattle.links.specs.declared.passing.Passed.{Passed}
use Rattle.links.specs.Honesty.{AreGood, IsGood, IsHelloFirst, IsOfferOf, IsOrderly, OffersAtLeast, OwesNothing}
use Rattle.links.specs.Ill.{IsHello}
use Rattle.links.specs.Passings.{received_in, sent_in}
use Rattle.message_forms.proofs.Parses.{carries_more, rows_carry_their_own}
use Rattle.message_forms.specs.Streams.{Carries, IsAmong}
use Rattle.peers.specs.declared.leave.Leave.{Leave}
use Rattle.peers.specs.declared.leave.Leave.TheVariants as leaves
use Rattle.peers.specs.declared.told.Told.{Told}
use Rattle.peers.specs.Hears.{IsCalm}
use Rattle.peers.specs.Serves.{HasGreeted, Serves, WasHonest}
use Rattle.peers.proofs.Frames.{carried_heard}
use Rattle.peers.proofs.Owing.{none_open, went_and_came}
use Rattle.resource_pack.specs.declared.occupied.Stated.{Stated}
use Rattle.task_book.specs.declared.task.Held.{Held}
use Rattle.wq_frames.specs.Frames.{front, part}
use Rattle.wq_frames.specs.Streams.{Stream}
use Rattle.wq_seats.specs.declared.seat.reading.Look.{Look}
use Rattle.wq_seats.specs.Turns.{IsReady}
use Rattle.wq_seats.specs.Seats.{AreWell, IsAtWork, IsOffered, SeatState}
use Rattle.peer_health.specs.Healths.{IsRested}
use Rattle.wq_seats.proofs.Counting.{none_open_left, none_runs}

-- a sure peer gives no reason to leave its link but want of memory
pub calm_leave : (leave : Leave) → (let r : Result Told Leave = Err leave in IsCalm r) → leave ≡ leaves.Memory
calm_leave leaves.Memory is = refl
calm_leave leaves.Closed is = absurd is
calm_leave leaves.Failed is = absurd is
calm_leave leaves.Bad is = absurd is
calm_leave leaves.Unexpected is = absurd is

-- ---- what came in order

good_in : (down : List ℕ) (ms : List Message) (m : Message) → AreGood down ms → IsAmong m ms → IsGood down m
good_in down [] m all among = absurd among
good_in down (x ∷ ms) m all (inl same) = subst (IsGood down) (sym same) all.0
good_in down (x ∷ ms) m all (inr later) = good_in down ms m all.1 later

hello_of : (down : List ℕ) (x : Message) (ms : List Message) → IsHelloFirst down (x ∷ ms) → IsHello x × AreGood down ms
hello_of down (messages.Hello total largest cache) ms is = (tt, is)
hello_of down (messages.Put key content) ms is = absurd is
hello_of down (messages.Task task) ms is = absurd is
hello_of down (messages.Done attempt outcome) ms is = absurd is
hello_of down (messages.Missing attempt files) ms is = absurd is
hello_of down (messages.Cancel attempt) ms is = absurd is
hello_of down (messages.Unlink key) ms is = absurd is
hello_of down (messages.Totals total largest cache) ms is = absurd is
hello_of down messages.Bye ms is = absurd is

first_in : (down : List ℕ) (ms : List Message) (m : Message) → IsHelloFirst down ms → IsAmong m ms → IsHello m ⊎ IsGood down m
first_in down [] m first among = absurd among
first_in down (x ∷ ms) m first (inl same) = inl (subst IsHello (sym same) (hello_of down x ms first).0)
first_in down (x ∷ ms) m first (inr later) = inr (good_in down ms m (hello_of down x ms first).1 later)

neither : (down : List ℕ) (m : Message) → (IsHello m → ⊥) → (IsGood down m → ⊥) → IsHello m ⊎ IsGood down m → ⊥
neither down m one two (inl is) = one is
neither down m one two (inr is) = two is

module _ (gives : Function) (may_fail : Job → Failure → Type 0) (past : List Passed) (feed : Stream) (session : State) (said heard : List Message)
    (serves : Serves gives may_fail past feed session said heard None) where
  in_row : (orderly : IsOrderly (sent_in past) (received_in past)) (m : Message) → IsAmong m heard → IsAmong m orderly.messages_up
  in_row orderly m among =
      (rows_carry_their_own orderly.messages_up m orderly.framed_all).0
      (subst (λ (w : List ℕ). Carries w m) (sym orderly.begin.1) (carries_more (received_in past) orderly.begin.0 m ((went_and_came gives may_fail past feed session said heard None m serves).1 among)))

  -- where what came is in order, nothing was lost and no inputs were missing
  pub well_of : IsOrderly (sent_in past) (received_in past) → AreWell heard
  well_of orderly = record {
    ran = λ attempt among. neither (sent_in past) (messages.Done attempt outcomes.NotRun) (λ is. is) (λ is. is)
        (first_in (sent_in past) orderly.messages_up (messages.Done attempt outcomes.NotRun) orderly.hello_first (in_row orderly (messages.Done attempt outcomes.NotRun) among));
    there = λ attempt files among. neither (sent_in past) (messages.Missing attempt files) (λ is. is) (λ is. is)
        (first_in (sent_in past) orderly.messages_up (messages.Missing attempt files) orderly.hello_first (in_row orderly (messages.Missing attempt files) among));
  }

  none_heard : (m : Message) → heard ≡ [] → IsAmong m heard → ⊥
  none_heard m none among = subst (IsAmong m) none among

  greeted_by : (stage : Stage) (m : Message) → HasGreeted stage heard → IsAmong m heard → stage ≡ stages.Greeted
  greeted_by stages.New m is among = absurd (none_heard m is among)
  greeted_by stages.Greeted m is among = refl
  greeted_by stages.Broken m is among = absurd is

  enough_by : (least : Amounts) (offer : Stated) → OffersAtLeast least (received_in past) → (o : IsOffered offer heard) → IsOfferOf least offer.total offer.largest o.cache
  enough_by least offer offers o = by o.said
    where
      came : (m : Message) → IsAmong m heard → Carries (received_in past) m
      came m among = (went_and_came gives may_fail past feed session said heard None m serves).1 among

      by : IsAmong (messages.Hello offer.total offer.largest o.cache) heard ⊎ IsAmong (messages.Totals offer.total offer.largest o.cache) heard → IsOfferOf least offer.total offer.largest o.cache
      by (inl hello) = offers.hello offer.total offer.largest o.cache (came (messages.Hello offer.total offer.largest o.cache) hello)
      by (inr totals) = offers.totals offer.total offer.largest o.cache (came (messages.Totals offer.total offer.largest o.cache) totals)

module _ {L : Type 0} (gives : Function) (may_fail : Job → Failure → Type 0) (history : L → List Passed) where
  -- What is so of a peer at a sure link, where it was idle and nothing whole is left.
  pub record IsAtRest (least : Amounts) (way : L) (feed : Stream) : Type 0 where
    pub honest : WasHonest gives may_fail (history way)
    pub orderly : IsOrderly (sent_in (history way)) (received_in (history way))
    pub owes : OwesNothing (sent_in (history way)) (received_in (history way))
    pub offers : OffersAtLeast least (received_in (history way))
    pub part_of : front feed.rest ≡ part

  -- Such a peer is ready for more.
  pub ready : (files : List (List ℕ)) (held : List Held) (next : ℕ) (least : Amounts) (s : SeatState L) → IsAtWork gives may_fail history files held next s → IsAtRest least s.peer.way s.peer.feed → IsReady least s
  ready files held next least s w rest =
      let past = history s.peer.way in
      let p = s.peer in
      let serves = w.spoken.serves in
      let hello = messages.Hello rest.owes.hello.0 rest.owes.hello.1 rest.owes.hello.2 in
      let among = carried_heard (received_in past) w.heard p.feed.rest hello serves.came rest.part_of rest.owes.hello.3 in
      let o = w.stated (greeted_by gives may_fail past p.feed p.session w.said w.heard serves p.session.stage hello serves.greeted among) in
      record {
        idle = none_runs s.runs p.session.attempts w.runs (none_open_left p.session.attempts
            (λ attempt is. none_open gives may_fail past w.said w.heard p.feed p.session serves attempt w.provides (record { honest = rest.honest; orderly = rest.orderly; owes_nothing = rest.owes }) rest.part_of is));
        rested = (w.well (well_of gives may_fail past p.feed p.session w.said w.heard serves rest.orderly)).1;
        offer = o.0;
        stated = o.1;
        cache = o.2.cache;
        cache_is = o.2.cache_is;
        enough = enough_by gives may_fail past p.feed p.session w.said w.heard serves least o.0 rest.offers o.2;
      }

  -- nothing is lacked by a peer at a sure link, and it doesn't rest
  pub is_well : (files : List (List ℕ)) (held : List Held) (next : ℕ) (s : SeatState L) → (w : IsAtWork gives may_fail history files held next s) → IsOrderly (sent_in (history s.peer.way)) (received_in (history s.peer.way)) → AreWell w.heard
  is_well files held next s w orderly = well_of gives may_fail (history s.peer.way) s.peer.feed s.peer.session w.said w.heard w.spoken.serves orderly

-- a peer of the same runs and offer, which doesn't rest, is ready too
pub ready_before : {L : Type 0} (least : Amounts) (s mid : SeatState L) → s.runs ≡ mid.runs → s.stated ≡ mid.stated → IsRested s.health → IsReady least mid → IsReady least s
ready_before least s mid runs stated rested is = record {
  idle = runs ∙ is.idle;
  rested = rested;
  offer = is.offer;
  stated = stated ∙ is.stated;
  cache = is.cache;
  cache_is = is.cache_is;
  enough = is.enough;
}

-- where a look is this one and was idle
pub idle_if : {E : Type 0} (r : Result Look E) (look : Look) (P : Type 0) → IfOk r (λ l. l ≡ look) → (look.was_idle ≡ true → P) → IfOk r (λ l. l.was_idle ≡ true → P)
idle_if (Ok l) look P same so = λ idle. so (sym (ap (λ (x : Look). x.was_idle) same) ∙ idle)
idle_if (Err e) look P same so = tt
