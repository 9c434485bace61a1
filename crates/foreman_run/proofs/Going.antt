-- What a foreman has come to, step by step.
use Rattle.std.proofs.Common.{◌≡◌, ◌≤◌, ℕ, ◌+◌, ◌-◌, Bool, true, false, List, [], ◌∷◌, ◌++◌, length, Option, Some, None, Result, Ok, Err, inl, inr, refl, sym, ap, ◌∙◌, subst, append_assoc, append-nil, arith}
use Rattle.std.specs.Prelude.{◌||◌, ◌⊎◌, nat_lt, is_some, slice_get, slice_set}
use Rattle.std.proofs.lemmas.List.{length-append}
use Rattle.flow_types.specs.declared.job.Failure.{Failure}
use Rattle.flow_types.specs.declared.job.Job.{Job}
use Rattle.flow_types.specs.declared.messages.Message.{Message}
use Rattle.flow_types.specs.declared.numbers.LinkNo.{LinkNo}
use Rattle.flow_types.specs.Serial.{Function}
use Rattle.links.proofs.Honesties.{new_link_right, heard_as}
use Rattle.links.specs.declared.passing.Got.{Got}
use Rattle.links.specs.declared.passing.Passed.{Passed}
use Rattle.links.specs.declared.passing.Passed.TheVariants.{Received}
use Rattle.links.specs.Honesty.{IsHonestThroughout}
use Rattle.links.specs.Passings.{Receives, received_in, sent_in}
use Rattle.links.specs.Peers.{IsRightLink, MaySay}
use Rattle.message_forms.proofs.Parses.{carries_next, frames_append, framed_append}
use Rattle.message_forms.specs.Streams.{AreFramed, BeginsWith, Carries, IsBroken, IsFramed, IsStream, framed, frames_of}
use Rattle.links.specs.Ill.{IsHello}
use Rattle.flow_types.specs.declared.messages.Message.TheVariants as messages
use Rattle.wq_messages.specs.Heads.{head_of}
use Rattle.outside.specs.Causes.{HasCause}
use Rattle.outside.specs.declared.fault.Fault.{Fault}
use Rattle.outside.specs.declared.fault.Fault.TheVariants as outside
use Rattle.peers.proofs.Serving.{honest_now}
use Rattle.peers.specs.Serves.{WasHonest}
use Rattle.worker_core.specs.Workers.{goes_up}
use Rattle.wq_messages.specs.Views.{shown}
use Rattle.foreman_core.specs.declared.acts.Down.{Down}
use Rattle.foreman_core.specs.Foremen.{Foreman, most_links, new_foreman}
use Rattle.foreman_core.specs.Members.{Every, Stands}
use Rattle.foreman_core.specs.Steps.{hears_down, hears_up, loses}
use Rattle.foreman_core.proofs.Members.{every_append, every_nil, every_one, every_set, get_stands, stands_left, stands_right}
use Rattle.peer_run.specs.declared.halt.Halt.TheVariants as halts
use Rattle.peer_run.specs.Ends.{Advanced, Takes}
use Rattle.peer_run.specs.Met.{is_bye}
use Rattle.peer_run.specs.Says.{Each, SaysAll, SendsAll}
use Rattle.peer_run.specs.Works.{EarState, Way}
use Rattle.peer_run.proofs.Going.{frames_len, frames_more}
use Rattle.foreman_run.specs.declared.stop.Stop.{Stop}
use Rattle.foreman_run.specs.declared.stop.Stop.TheVariants as stops
use Rattle.foreman_run.specs.Ends.{FailsBy, IsFound, LeavesHall, MayStop, StopsAt, StopsOver}
use Rattle.foreman_run.specs.Lost.{IsHelloFirst, Seen, refused_by}
use Rattle.foreman_run.specs.Lost as loss
use Rattle.foreman_run.specs.Lowers.{AnswersBelow, AreHeld, AreHonest, Gains, HearsOn, IsHeld, IsLost, Keeps, KeepsWith, LowerState, Parts, Passes, Went, from_link, over}
use Rattle.foreman_run.specs.Met.{Met, Roll, above, below, lost, foreman_of, goes_wrong, has_left, heard_of, hello, led_by, one_if, roll_of, sent_of, there_under, told_of}
use Rattle.foreman_run.specs.Tied.{AreTied, Book, MayHandBack, new_book, with_due, with_got, with_hall}
use Rattle.foreman_run.specs.Workers.{IsJoined}
use Rattle.foreman_run.specs.Works.{Works}
use Rattle.foreman_run.proofs.Losses.{full_now, lost_more, misspoken_more}
use Rattle.foreman_run.proofs.Lowering.{came_next, gone_held, refused_next, still_held}
use Rattle.foreman_run.proofs.Workers.{Decides, IsLedDown, Misspeaks, down_workers, hello_there, lost_workers, up_workers}
use Rattle.foreman_run.proofs.Companies.{held_joined, honest_joined, kept_at}
use Rattle.foreman_run.proofs.Tying.{every_parts, held_stands, one_is, stands_parts, from_next, from_none, from_same, set_apart, tied_above, tied_back, tied_below, tied_first, tied_hall, tied_joined, tied_kept, tied_lost, tied_missing, tied_not, tied_refused, unmet_number}
use Rattle.foreman_run.proofs.Honest.{answered_more, came_answered, step_may}

-- why a foreman stops where a call of the link to its parent failed so
pub fails_by : {T : Type 0} (faults before : ℕ) (way : Way) (fault : Fault) (stop : Stop) → (let r : Result T Fault = Err fault in HasCause before way.faults r) → faults ≤ before
    → (fault ≡ outside.Failed → stop ≡ stops.Left halts.Link) → (fault ≡ outside.Memory → stop ≡ stops.Left halts.Memory) → FailsBy faults way stop
fails_by faults before way outside.Failed stop cause le link memory = subst (FailsBy faults way) (sym (link refl)) (omega (arith, le, cause.failed refl))
fails_by faults before way outside.Memory stop cause le link memory = subst (FailsBy faults way) (sym (memory refl)) tt

or_none : (b c : Bool) → c ≡ false → (b || c) ≡ b
or_none true c e = refl
or_none false c e = e

-- ---- links to workers, as more is to go down

went_more : (sent more : List Down) (k : LinkNo) (m : Message) → Went sent k m → Went (sent ++ more) k m
went_more sent more k m (inl is) = inl is
went_more sent more k m (inr there) = inr (stands_left (over k m) sent more there)

-- A link on which nothing was met holds after a step that leaves its worker there.
held_step : {L : Type 0} (tells : Type 0) (seen : L → Seen) (cap : ℕ) (met : Met) (past : List Met) (heard : List Message) (l : LowerState L)
    → (1 ≤ there_under l.link.0 (foreman_of cap past).links → 1 ≤ there_under l.link.0 (foreman_of cap (met ∷ past)).links)
    → IsHeld tells seen (roll_of cap past) heard l → IsHeld tells seen (roll_of cap (met ∷ past)) heard l
held_step tells seen cap met past heard l stay is = record {
  placed = λ stays. placed_step (is.placed stays);
  passes = λ stays t.
      let p = is.passes stays t in
      record {
        said = p.said;
        said_framed = p.said_framed;
        are_sent = p.are_sent;
        went = λ m there. went_more (sent_of cap past) (led_by (foreman_of cap past) met).acts.down l.link m (p.went m there);
        came = p.came;
        unheard = p.unheard;
        early = p.early;
        refused = p.refused;
      };
  lost = λ gone starved t. lost_more cap met past l.link (seen l.way) (is.lost gone starved t);
}
  where
    placed_step : (heard ≡ []) ⊎ (1 ≤ there_under l.link.0 (foreman_of cap past).links) → (heard ≡ []) ⊎ (1 ≤ there_under l.link.0 (foreman_of cap (met ∷ past)).links)
    placed_step (inl none) = inl none
    placed_step (inr there) = inr (stay there)

-- a link over which one message more was taken, which is a step
took_one : {L : Type 0} (seen : L → Seen) (roll now : Roll) (heard : List Message) (old new : LowerState L) → new.link ≡ old.link → new.way ≡ old.way → Advanced old.ear (Ok true) new.ear → new.care.greeted ≡ true
    → new.care.refused ≤ refused_by old.care.refused (head_of (shown new.ear.body))
    → ((m : Message) → Went roll.down old.link m → Went now.down old.link m) → Passes (seen old.way).history old.ear old.care old.link roll heard → Passes (seen new.way).history new.ear new.care new.link now (heard ++ shown new.ear.body ∷ [])
took_one seen roll now heard old new link way took greeted refused more p = record {
  said = p.said;
  said_framed = p.said_framed;
  are_sent = ap (λ w. sent_in (seen w).history) way ∙ p.are_sent;
  went = λ m here. subst (λ k. Went now.down k m) (sym link) (more m (p.went m here));
  came = subst (λ w. IsStream (received_in (seen w).history) (heard ++ shown new.ear.body ∷ []) new.ear.rest) (sym way) (came_next (received_in (seen old.way).history) heard (shown new.ear.body) old.ear new.ear took refl p.came);
  unheard = λ g. absurd (let wrong : ⊥ = cc (sym greeted ∙ g) in wrong);
  early = λ g. absurd (let wrong : ⊥ = cc (sym greeted ∙ g) in wrong);
  refused = refused_next old.care.refused new.care.refused heard (shown new.ear.body) p.refused refused;
}

module _ {L : Type 0} (gives : Function) (may_fail : Job → Failure → Type 0) (tells : Type 0) (trusted : Bool) (below_tells : Type 0) (seen : L → Seen) (honest : L → Type 0) (cap : ℕ) (book : Book L) where
  -- it has come to this
  abbrev pub At : Way → EarState → Foreman → List (LowerState L) → List Message → List Down → Bool → Type 0
  At way ear core lowers owed due left = Works gives may_fail tells trusted below_tells seen honest cap book way ear core lowers owed due left

  -- what goes on, as it is found
  pub found_now : (way : Way) (ear : EarState) (core : Foreman) (lowers : List (LowerState L)) (owed : List Message) (due : List Down) (left : Bool) → (w : At way ear core lowers owed due left)
      → IsFound gives may_fail tells trusted cap way w.past
  found_now way ear core lowers owed due left w = record {
    in_order = w.in_order;
    told_framed = w.told_framed;
    came = λ t. (ear.rest, record { framed_all = w.heard_framed; are = w.stream t });
    sent = λ t. (frames_of owed, ap (λ b. b ++ frames_of owed) (w.sent t) ∙ sym (frames_append w.said owed) ∙ ap frames_of (sym w.are_said));
    right = λ t trust. (w.right t trust).honest;
  }

  -- Memory was wanting.
  pub wants : (way : Way) (ear : EarState) (core : Foreman) (lowers : List (LowerState L)) (owed : List Message) (due : List Down) (left : Bool) → At way ear core lowers owed due left
      → StopsAt gives may_fail tells trusted below_tells seen cap book way lowers (stops.Left halts.Memory)
  wants way ear core lowers owed due left w = record { stops = record { past = w.past; found = found_now way ear core lowers owed due left w; why = w.closed }; tied = w.tied }

  -- The hall failed, or memory was wanting there.
  hall_why : (way : Way) (past : List Met) (stop : Stop) → (let r : Result Bool Stop = Err stop in LeavesHall r) → way.closed ≡ false → has_left past ≡ false → MayStop tells cap book.faults way past stop
  hall_why way past stops.Hall is closed stays = (stays, closed)
  hall_why way past (stops.Left halts.Memory) is closed stays = closed
  hall_why way past (stops.Left halts.Bye) is closed stays = absurd is
  hall_why way past (stops.Left halts.Closed) is closed stays = absurd is
  hall_why way past (stops.Left halts.Link) is closed stays = absurd is
  hall_why way past (stops.Left (halts.Bad at)) is closed stays = absurd is

  -- The work is over.
  pub is_over : (way : Way) (ear : EarState) (core : Foreman) (lowers : List (LowerState L)) → At way ear core lowers [] [] true → StopsAt gives may_fail tells trusted below_tells seen cap book way lowers (stops.Left halts.Bye)
  is_over way ear core lowers w = record {
    stops = record {
      past = w.past;
      found = found_now way ear core lowers [] [] true w;
      why = (sym w.left_is, w.closed, (λ t. w.sent t ∙ ap frames_of (sym (w.are_said ∙ append-nil w.said))));
    };
    tied = w.tied;
  }

  -- The grammar is left.
  pub is_broken : (way : Way) (ear : EarState) (core : Foreman) (lowers : List (LowerState L)) (at : ℕ) → at ≡ ear.fed - length ear.rest → IsBroken ear.rest → At way ear core lowers [] [] false
      → StopsAt gives may_fail tells trusted below_tells seen cap book way lowers (stops.Left (halts.Bad at))
  is_broken way ear core lowers at is broken w = record {
    stops = record {
      past = w.past;
      found = found_now way ear core lowers [] [] false w;
      why = (sym w.left_is, w.closed, omega (arith, is, w.fed_is), (λ t. (ear.rest, inl broken, record { framed_all = w.heard_framed; are = w.stream t })));
    };
    tied = w.tied;
  }

  -- A message comes that only goes up.
  pub is_amiss : (way : Way) (ear next : EarState) (core : Foreman) (lowers : List (LowerState L)) (at : ℕ) (m : Message) → at ≡ ear.fed - length ear.rest → Takes ear (Ok (Some m)) next → goes_up m ≡ true
      → At way ear core lowers [] [] false → StopsAt gives may_fail tells trusted below_tells seen cap book way lowers (stops.Left (halts.Bad at))
  is_amiss way ear next core lowers at m is took up w = record {
    stops = record {
      past = w.past;
      found = found_now way ear core lowers [] [] false w;
      why = (sym w.left_is, w.closed, omega (arith, is, w.fed_is), (λ t. (ear.rest, inr (m, next.rest, took.0, up, took.1), record { framed_all = w.heard_framed; are = w.stream t })));
    };
    tied = w.tied;
  }

  -- ---- waiting for the parent

  -- The parent has closed the link.
  pub is_closed : (old new : Way) (ear next : EarState) (core : Foreman) (lowers : List (LowerState L)) → Takes ear (Ok None) next → (tells → new.history ≡ old.history) → new.closed ≡ true
      → At old ear core lowers [] [] false → StopsAt gives may_fail tells trusted below_tells seen cap book new lowers (stops.Left halts.Closed)
  is_closed old new ear next core lowers took same closed w = record {
    stops = record {
      past = w.past;
      found = record {
        in_order = w.in_order;
        told_framed = w.told_framed;
        came = λ t. (ear.rest, record { framed_all = w.heard_framed; are = ap received_in (same t) ∙ w.stream t });
        sent = λ t. ([], append-nil (sent_in new.history) ∙ ap sent_in (same t) ∙ w.sent t ∙ ap frames_of (sym (w.are_said ∙ append-nil w.said)));
        right = λ t trust. subst (IsHonestThroughout gives may_fail received_in sent_in) (sym (same t)) (w.right t trust).honest;
      };
      why = (sym w.left_is, closed, (λ t. (ear.rest, took.0, record { framed_all = w.heard_framed; are = ap received_in (same t) ∙ w.stream t })));
    };
    tied = w.tied;
  }

  fails_why : (way : Way) (past : List Met) (stop : Stop) → FailsBy book.faults way stop → way.closed ≡ false → has_left past ≡ false → MayStop tells cap book.faults way past stop
  fails_why way past (stops.Left halts.Link) lt closed stays = (stays, closed, lt)
  fails_why way past (stops.Left halts.Memory) lt closed stays = closed
  fails_why way past (stops.Left halts.Bye) lt closed stays = absurd lt
  fails_why way past (stops.Left halts.Closed) lt closed stays = absurd lt
  fails_why way past (stops.Left (halts.Bad at)) lt closed stays = absurd lt
  fails_why way past stops.Hall lt closed stays = absurd lt

  -- Waiting for bytes failed, or those that came couldn't be kept.
  pub hears_not : (old new : Way) (ear : EarState) (core : Foreman) (lowers : List (LowerState L)) (got : Result Got Fault) (stop : Stop) → (tells → Receives got old.history new.history)
      → new.closed ≡ false → FailsBy book.faults new stop → At old ear core lowers [] [] false → StopsAt gives may_fail tells trusted below_tells seen cap book new lowers stop
  hears_not old new ear core lowers got stop received closed fails w = record {
    stops = record {
      past = w.past;
      found = record {
        in_order = w.in_order;
        told_framed = w.told_framed;
        came = λ t. came_more got (received t) (w.stream t);
        sent = λ t. ([], append-nil (sent_in new.history) ∙ sent_same got (received t) ∙ w.sent t ∙ ap frames_of (sym (w.are_said ∙ append-nil w.said)));
        right = λ t trust. (heard_as gives may_fail old.history new.history w.said got (received t) (w.right t trust)).honest;
      };
      why = fails_why new w.past stop fails closed (sym w.left_is);
    };
    tied = w.tied;
  }
    where
      came_more : (got : Result Got Fault) → Receives got old.history new.history → received_in old.history ≡ frames_of (heard_of w.past) ++ ear.rest → BeginsWith (received_in new.history) (heard_of w.past)
      came_more (Ok (Got.Piece bytes)) is stream = (
        ear.rest ++ bytes,
        record { framed_all = w.heard_framed; are = ap received_in is ∙ ap (λ (r : List ℕ). r ++ bytes) stream ∙ append_assoc (frames_of (heard_of w.past)) ear.rest bytes },
      )
      came_more (Ok Got.Idle) is stream = (ear.rest, record { framed_all = w.heard_framed; are = ap received_in is ∙ stream })
      came_more (Ok Got.Closed) is stream = (ear.rest, record { framed_all = w.heard_framed; are = ap received_in is ∙ stream })
      came_more (Err fault) is stream = (ear.rest, record { framed_all = w.heard_framed; are = ap received_in is ∙ stream })

      sent_same : (got : Result Got Fault) → Receives got old.history new.history → sent_in new.history ≡ sent_in old.history
      sent_same (Ok (Got.Piece bytes)) is = ap sent_in is
      sent_same (Ok Got.Idle) is = ap sent_in is
      sent_same (Ok Got.Closed) is = ap sent_in is
      sent_same (Err fault) is = ap sent_in is

  -- A piece came, and is kept.
  pub piece_came : (old new : Way) (ear next : EarState) (core : Foreman) (lowers : List (LowerState L)) (bytes : List ℕ) → (tells → new.history ≡ Received bytes ∷ old.history) → new.closed ≡ false
      → old.faults ≤ new.faults → next.rest ≡ ear.rest ++ bytes → next.stop ≡ None → next.fed ≡ ear.fed + length bytes → At old ear core lowers [] [] false → At new next core lowers [] [] false
  piece_came old new ear next core lowers bytes is closed later rest going fed w = record {
    past = w.past;
    core_is = w.core_is;
    in_order = w.in_order;
    left_is = w.left_is;
    going = going;
    heard_framed = w.heard_framed;
    told_framed = w.told_framed;
    fed_is = omega (arith, fed, w.fed_is, ap length rest, length-append ear.rest bytes);
    stream = λ t. ap received_in (is t) ∙ ap (λ (r : List ℕ). r ++ bytes) (w.stream t) ∙ append_assoc (frames_of (heard_of w.past)) ear.rest bytes ∙ ap (λ (r : List ℕ). frames_of (heard_of w.past) ++ r) (sym rest);
    said = w.said;
    are_said = w.are_said;
    sent = λ t. ap sent_in (is t) ∙ w.sent t;
    right = λ t trust. heard_as gives may_fail old.history new.history w.said (let got : Result Got Fault = Ok (Got.Piece bytes) in got) (is t) (w.right t trust);
    may = λ t trust. tt;
    goes_down = w.goes_down;
    answered = w.answered;
    joined = w.joined;
    held = w.held;
    tied = w.tied;
    all_honest = w.all_honest;
    closed = closed;
    later = omega (arith, w.later, later);
  }

  -- Nothing came.
  pub nothing_came : (old new : Way) (ear next : EarState) (core : Foreman) (lowers : List (LowerState L)) → (tells → new.history ≡ old.history) → new.closed ≡ false → old.faults ≤ new.faults
      → next.rest ≡ ear.rest → next.stop ≡ None → next.fed ≡ ear.fed → At old ear core lowers [] [] false → At new next core lowers [] [] false
  nothing_came old new ear next core lowers is closed later rest going fed w = record {
    past = w.past;
    core_is = w.core_is;
    in_order = w.in_order;
    left_is = w.left_is;
    going = going;
    heard_framed = w.heard_framed;
    told_framed = w.told_framed;
    fed_is = omega (arith, fed, w.fed_is, ap length rest);
    stream = λ t. ap received_in (is t) ∙ w.stream t ∙ ap (λ (r : List ℕ). frames_of (heard_of w.past) ++ r) (sym rest);
    said = w.said;
    are_said = w.are_said;
    sent = λ t. ap sent_in (is t) ∙ w.sent t;
    right = λ t trust. subst (λ (h : List Passed). IsRightLink gives may_fail h w.said) (sym (is t)) (w.right t trust);
    may = λ t trust. tt;
    goes_down = w.goes_down;
    answered = w.answered;
    joined = w.joined;
    held = w.held;
    tied = w.tied;
    all_honest = w.all_honest;
    closed = closed;
    later = omega (arith, w.later, later);
  }

  -- ---- steps

  -- It met this, which its machine takes; what is to be said and sent by that is owed and due.
  stepped : (way : Way) (ear next : EarState) (core : Foreman) (lowers now : List (LowerState L)) (met : Met) → (w : At way ear core lowers [] [] false) → goes_wrong met ≡ false → next.stop ≡ None
      → AreFramed (heard_of (met ∷ w.past)) → Every (λ told. IsFramed told.message) (told_of (met ∷ w.past)) → next.fed ≡ length (frames_of (heard_of (met ∷ w.past))) + length next.rest
      → (tells → received_in way.history ≡ frames_of (heard_of (met ∷ w.past)) ++ next.rest)
      → (trusted ≡ true → Every (AnswersBelow gives may_fail (sent_of cap (met ∷ w.past))) (told_of (met ∷ w.past)))
      → Every (IsJoined (sent_of cap (met ∷ w.past)) (told_of (met ∷ w.past))) (foreman_of cap (met ∷ w.past)).links
      → AreHeld below_tells seen (roll_of cap (met ∷ w.past)) (told_of (met ∷ w.past)) now → (trusted ≡ true → AreHonest honest now)
      → (then : Book L) → then.faults ≡ book.faults → AreTied below_tells seen cap (met ∷ w.past) now then
      → Works gives may_fail tells trusted below_tells seen honest cap then way next (led_by core met).foreman now (led_by core met).acts.up (led_by core met).acts.down (has_left (met ∷ w.past))
  stepped way ear next core lowers now met w fine going heard told fed stream answered joined held all_honest then same tied = record {
    past = met ∷ w.past;
    core_is = ap (λ c. (led_by c met).foreman) w.core_is;
    in_order = (w.in_order, sym w.left_is, fine);
    left_is = refl;
    going = going;
    heard_framed = heard;
    told_framed = told;
    fed_is = fed;
    stream = stream;
    said = w.said;
    are_said = ap (λ s. s ++ (led_by (foreman_of cap w.past) met).acts.up) (w.are_said ∙ append-nil w.said) ∙ ap (λ c. w.said ++ (led_by c met).acts.up) (sym w.core_is);
    sent = w.sent;
    right = w.right;
    may = λ t trust. subst (λ c. Each (MaySay gives may_fail (received_in way.history)) (led_by c met).acts.up) (sym w.core_is)
        (step_may gives may_fail cap met w.past next.rest (received_in way.history) heard (stream t) (answered trust));
    goes_down = subst (λ c. Every (λ d. Stands d (sent_of cap (met ∷ w.past))) (led_by c met).acts.down) (sym w.core_is)
        (λ d there. stands_right d (sent_of cap w.past) (led_by (foreman_of cap w.past) met).acts.down there);
    answered = answered;
    joined = joined;
    held = held;
    tied = tied;
    all_honest = all_honest;
    closed = w.closed;
    later = omega (arith, w.later, same);
  }

  -- what answered stays so at a step
  stays_answered : (past : List Met) (met : Met) (told : List Down) → Every (AnswersBelow gives may_fail (sent_of cap past)) told → Every (AnswersBelow gives may_fail (sent_of cap (met ∷ past))) told
  stays_answered past met told all = λ d there. answered_more gives may_fail (sent_of cap past) (led_by (foreman_of cap past) met).acts.down d (all d there)

  -- A message came from above.
  pub heard_up : (way : Way) (ear next : EarState) (core : Foreman) (lowers : List (LowerState L)) (m : Message) → Takes ear (Ok (Some m)) next → goes_up m ≡ false → At way ear core lowers [] [] false
      → At way next (hears_up core m).foreman lowers (hears_up core m).acts.up (hears_up core m).acts.down (is_bye m)
  heard_up way ear next core lowers m took fine w =
      let past = w.past in
      subst (At way next (hears_up core m).foreman lowers (hears_up core m).acts.up (hears_up core m).acts.down) (or_none (is_bye m) (has_left past) (sym w.left_is))
      (stepped way ear next core lowers lowers (above m) w fine took.2
      (framed_append (heard_of past) (m ∷ []) w.heard_framed (took.0, tt)) w.told_framed
      (omega (arith, took.3, w.fed_is, ap length took.1, length-append (framed m) next.rest, frames_len (heard_of past) m))
      (λ t. w.stream t ∙ ap (λ (r : List ℕ). frames_of (heard_of past) ++ r) took.1 ∙ frames_more (heard_of past) m next.rest)
      (λ trust. stays_answered past (above m) (told_of past) (w.answered trust))
      (up_workers (sent_of cap past) (told_of past) (foreman_of cap past) m w.joined).0
      (λ l there. held_step below_tells seen cap (above m) past (from_link l.link.0 (told_of past)) l
      (λ le. subst (λ n. 1 ≤ n) (sym ((up_workers (sent_of cap past) (told_of past) (foreman_of cap past) m w.joined).1 l.link.0)) le) (w.held l there)) w.all_honest
      book refl (tied_above below_tells seen cap past m lowers book w.tied))

  -- A message came from below, over the link at this place.
  pub heard_down : (way : Way) (ear : EarState) (core : Foreman) (lowers : List (LowerState L)) (at : ℕ) (old new : LowerState L) → ((link : L) → honest link → below_tells × WasHonest gives may_fail (seen link).history)
      → slice_get lowers at ≡ Some old → new.link ≡ old.link → new.way ≡ old.way → old.gone ≡ false → Advanced old.ear (Ok true) new.ear
      → (let led = hears_down core old.link (shown new.ear.body) in new.gone ≡ is_some led.acts.leave) → new.care.greeted ≡ true
      → new.care.refused ≤ refused_by old.care.refused (head_of (shown new.ear.body)) → At way ear core lowers [] [] false
      → (let led = hears_down core old.link (shown new.ear.body) in At way ear led.foreman (slice_set lowers at new) led.acts.up led.acts.down false)
  heard_down way ear core lowers at old new law is link same stays took leaves greeted refused w =
      subst (At way ear (hears_down core old.link m).foreman (slice_set lowers at new) (hears_down core old.link m).acts.up (hears_down core old.link m).acts.down) (sym w.left_is)
      (stepped way ear ear core lowers (slice_set lowers at new) met w refl w.going w.heard_framed
      (every_append (λ told. IsFramed told.message) (told_of past) (over old.link m ∷ []) w.told_framed (every_one (λ told. IsFramed told.message) (over old.link m) took.0))
      w.fed_is w.stream
      (λ trust. every_append (AnswersBelow gives may_fail (sent_of cap (met ∷ past))) (told_of past) (over old.link m ∷ [])
      (stays_answered past met (told_of past) (w.answered trust))
      (every_one (AnswersBelow gives may_fail (sent_of cap (met ∷ past))) (over old.link m)
      (answered_more gives may_fail (sent_of cap past) more (over old.link m) (answers trust))))
      step.workers
      held_now
      (λ trust. every_set (λ l. honest l.way) lowers at new (subst honest (sym same) (w.all_honest trust old there)) (w.all_honest trust))
      book refl (tied_below below_tells seen cap past m lowers at old new book is link begins greets w.tied))
    where
      m : Message
      m = shown new.ear.body

      past : List Met
      past = w.past

      met : Met
      met = below old.link m

      before : Foreman
      before = foreman_of cap past

      more : List Down
      more = (led_by before met).acts.down

      there : Stands old lowers
      there = get_stands lowers at old is

      heard : List Message
      heard = from_link old.link.0 (told_of past)

      held : IsHeld below_tells seen (roll_of cap past) heard old
      held = w.held old there

      passes : below_tells → Passes (seen old.way).history old.ear old.care old.link (roll_of cap past) heard
      passes t = held.passes stays t

      carried : (t : below_tells) → Carries (received_in (seen old.way).history) m
      carried t = carries_next (received_in (seen old.way).history) heard m new.ear.rest (passes t).came.framed_all took.0 ((passes t).came.are ∙ ap (λ (r : List ℕ). frames_of heard ++ r) took.1)

      answers : trusted ≡ true → AnswersBelow gives may_fail (sent_of cap past) (over old.link m)
      answers trust =
          let told = law old.way (w.all_honest trust old there) in
          came_answered gives may_fail (seen old.way).history old.ear old.care old.link (roll_of cap past) heard m (passes told.0) (honest_now gives may_fail (seen old.way).history told.1) (carried told.0)

      -- nothing was heard while no worker is there
      fresh : there_under old.link.0 before.links ≡ 0 → heard ≡ []
      fresh none = by (held.placed stays)
        where
          by : (heard ≡ []) ⊎ (1 ≤ there_under old.link.0 before.links) → heard ≡ []
          by (inl nothing) = nothing
          by (inr some) = absurd (let wrong : ⊥ = omega (arith, none, some) in wrong)

      step : IsLedDown (sent_of cap past) (told_of past) before old.link m (hears_down before old.link m)
      step = down_workers (sent_of cap past) (told_of past) before old.link w.joined m fresh

      greets : (heard ≡ []) ⊎ IsHelloFirst heard
      greets = by (held.placed stays)
        where
          by : (heard ≡ []) ⊎ (1 ≤ there_under old.link.0 before.links) → (heard ≡ []) ⊎ IsHelloFirst heard
          by (inl nothing) = inl nothing
          by (inr some) = inr (hello_there (sent_of cap past) (told_of past) old.link.0 before.links some w.joined)

      took_now : (t : below_tells) → Passes (seen new.way).history new.ear new.care new.link (roll_of cap (met ∷ past)) (heard ++ m ∷ [])
      took_now t = took_one seen (roll_of cap past) (roll_of cap (met ∷ past)) heard old new link same took greeted refused (λ x went. went_more (sent_of cap past) more old.link x went) (passes t)

      begins : below_tells → BeginsWith (received_in (seen new.way).history) (heard ++ m ∷ [])
      begins t = (new.ear.rest, (took_now t).came)

      now_from : from_link new.link.0 (told_of past ++ over old.link m ∷ []) ≡ heard ++ m ∷ []
      now_from = from_next new.link.0 (told_of past) old.link m (ap (λ (n : LinkNo). n.0) (sym link)) ∙ ap (λ (n : LinkNo). from_link n.0 (told_of past) ++ m ∷ []) link

      leaves_now : new.gone ≡ is_some (hears_down before old.link m).acts.leave
      leaves_now = subst (λ (f : Foreman). new.gone ≡ is_some (hears_down f old.link m).acts.leave) w.core_is leaves

      -- a link that the step leaves is lost for a cause
      cause : (t : below_tells) → Misspeaks (sent_of cap past) old.link heard m ⊎ (IsHello m × (nat_lt (length before.links) most_links ≡ false)) → IsLost (roll_of cap (met ∷ past)) old.link (seen new.way)
      cause t (inl wrong) = loss.misspoken (misspoken_more (λ x. Stands (over old.link (messages.Task x)) (sent_of cap past)) (λ x. Stands (over old.link (messages.Task x)) (sent_of cap (met ∷ past))) _
          (λ x here. stands_left (over old.link (messages.Task x)) (sent_of cap past) more here) (wrong (received_in (seen new.way).history) (begins t)))
      cause t (inr full) = loss.crowded (full_now cap past old.link m full.0 full.1)

      decided : (leave : Option LinkNo) → new.gone ≡ is_some leave → Decides (sent_of cap past) before old.link heard m (hears_down before old.link m).foreman.links leave
          → IsHeld below_tells seen (roll_of cap (met ∷ past)) (heard ++ m ∷ []) new
      decided None stays_now there_now = still_held below_tells seen (roll_of cap (met ∷ past)) (heard ++ m ∷ []) new stays_now (inr (subst (λ (n : LinkNo). 1 ≤ there_under n.0 (foreman_of cap (met ∷ past)).links) (sym link) there_now)) took_now
      decided (Some j) goes why = gone_held below_tells seen (roll_of cap (met ∷ past)) (heard ++ m ∷ []) new goes (λ fed t. subst (λ (n : LinkNo). IsLost (roll_of cap (met ∷ past)) n (seen new.way)) (sym link) (cause t why))

      held_new : IsHeld below_tells seen (roll_of cap (met ∷ past)) (from_link new.link.0 (told_of past ++ over old.link m ∷ [])) new
      held_new = subst (λ (ms : List Message). IsHeld below_tells seen (roll_of cap (met ∷ past)) ms new) (sym now_from) (decided (hears_down before old.link m).acts.leave leaves_now step.decides)

      -- the others are held as they were
      other_held : (l : LowerState L) → (old.link.0 ≡ l.link.0 → ⊥) → IsHeld below_tells seen (roll_of cap past) (from_link l.link.0 (told_of past)) l
          → IsHeld below_tells seen (roll_of cap (met ∷ past)) (from_link l.link.0 (told_of past ++ over old.link m ∷ [])) l
      other_held l other was =
          subst (λ (ms : List Message). IsHeld below_tells seen (roll_of cap (met ∷ past)) ms l) (sym (from_same l.link.0 (told_of past) old.link m other))
          (held_step below_tells seen cap met past (from_link l.link.0 (told_of past)) l (λ le. subst (λ n. 1 ≤ n) (sym (step.rest l.link.0 other)) le) was)

      held_now : AreHeld below_tells seen (roll_of cap (met ∷ past)) (told_of (met ∷ past)) (slice_set lowers at new)
      held_now = set_apart old.link.0 (λ l. IsHeld below_tells seen (roll_of cap past) (from_link l.link.0 (told_of past)) l)
          (λ l. IsHeld below_tells seen (roll_of cap (met ∷ past)) (from_link l.link.0 (told_of past ++ over old.link m ∷ [])) l)
          lowers at old new is refl (omega (arith, w.tied.apart old.link.0)) other_held held_new w.held

  -- ---- what is owed is said

  -- what a call that says these messages did
  abbrev pub Said : {T : Type 0} → Result T Fault → List Message → Way → Way → Type 0
  Said {T} r ms old new =
      (tells → SendsAll r ms old.history new.history)
      × ((said : List Message) → tells → IsRightLink gives may_fail old.history said → Each (MaySay gives may_fail (received_in old.history)) ms → SaysAll gives may_fail ms said new.history r)
      × (new.closed ≡ old.closed) × (old.faults ≤ new.faults)

  pub said_all : (old new : Way) (ear : EarState) (core : Foreman) (lowers : List (LowerState L)) (owed : List Message) (due : List Down) (left : Bool) → Said (let r : Result (Unit {0}) Fault = Ok tt in r) owed old new
      → At old ear core lowers owed due left → At new ear core lowers [] due left
  said_all old new ear core lowers owed due left said w = record {
    past = w.past;
    core_is = w.core_is;
    in_order = w.in_order;
    left_is = w.left_is;
    going = w.going;
    heard_framed = w.heard_framed;
    told_framed = w.told_framed;
    fed_is = w.fed_is;
    stream = λ t. (said.0 t).0 ∙ w.stream t;
    said = w.said ++ owed;
    are_said = w.are_said ∙ sym (append-nil (w.said ++ owed));
    sent = λ t. (said.0 t).1 ∙ ap (λ (b : List ℕ). b ++ frames_of owed) (w.sent t) ∙ sym (frames_append w.said owed);
    right = λ t trust. said.1 w.said t (w.right t trust) (w.may t trust);
    may = λ t trust. tt;
    goes_down = w.goes_down;
    answered = w.answered;
    joined = w.joined;
    held = w.held;
    tied = w.tied;
    all_honest = w.all_honest;
    closed = said.2 ∙ w.closed;
    later = omega (arith, w.later, said.3);
  }

  pub said_not : (old new : Way) (ear : EarState) (core : Foreman) (lowers : List (LowerState L)) (owed : List Message) (due : List Down) (fault : Fault) (stop : Stop)
      → Said (let r : Result (Unit {0}) Fault = Err fault in r) owed old new → FailsBy book.faults new stop
      → At old ear core lowers owed due false → StopsAt gives may_fail tells trusted below_tells seen cap book new lowers stop
  said_not old new ear core lowers owed due fault stop said fails w = record {
    stops = record {
      past = w.past;
      found = record {
        in_order = w.in_order;
        told_framed = w.told_framed;
        came = λ t. (ear.rest, record { framed_all = w.heard_framed; are = (said.0 t).0 ∙ w.stream t });
        sent = λ t. (
          (said.0 t).1.0,
          (said.0 t).1.1 ∙ ap (λ (b : List ℕ). b ++ frames_of owed) (w.sent t) ∙ sym (frames_append w.said owed) ∙ ap frames_of (sym w.are_said),
        );
        right = λ t trust. said.1 w.said t (w.right t trust) (w.may t trust);
      };
      why = fails_why new w.past stop fails (said.2 ∙ w.closed) (sym w.left_is);
    };
    tied = w.tied;
  }

  -- ---- the links to the workers

  -- the same over other links
  with_lowers : (way : Way) (ear : EarState) (core : Foreman) (lowers now : List (LowerState L)) (due then : List Down) → (w : At way ear core lowers [] due false) → Every (λ d. Stands d (sent_of cap w.past)) then
      → AreHeld below_tells seen (roll_of cap w.past) (told_of w.past) now → (trusted ≡ true → AreHonest honest now) → (next : Book L) → next.faults ≡ book.faults → AreTied below_tells seen cap w.past now next
      → Works gives may_fail tells trusted below_tells seen honest cap next way ear core now [] then false
  with_lowers way ear core lowers now due then w goes held all_honest next same tied = record {
    past = w.past;
    core_is = w.core_is;
    in_order = w.in_order;
    left_is = w.left_is;
    going = w.going;
    heard_framed = w.heard_framed;
    told_framed = w.told_framed;
    fed_is = w.fed_is;
    stream = w.stream;
    said = w.said;
    are_said = w.are_said;
    sent = w.sent;
    right = w.right;
    may = w.may;
    goes_down = goes;
    answered = w.answered;
    joined = w.joined;
    held = held;
    tied = tied;
    all_honest = all_honest;
    closed = w.closed;
    later = omega (arith, w.later, same);
  }

  -- What was due went down.
  pub went_down : (way : Way) (ear : EarState) (core : Foreman) (lowers now : List (LowerState L)) (due : List Down) → KeepsWith below_tells seen honest due lowers now
      → At way ear core lowers [] due false → At way ear core now [] [] false
  went_down way ear core lowers now due keeps w =
      with_lowers way ear core lowers now due [] w (every_nil (λ d. Stands d (sent_of cap w.past))) (keeps.held (roll_of cap w.past) (told_of w.past) w.goes_down w.held) (λ trust. keeps.honestly (w.all_honest trust))
      book refl (tied_kept below_tells seen cap w.past lowers now book keeps.many keeps.under (keeps.begun (told_of w.past)) w.tied)

  pub still_kept : (way : Way) (ear : EarState) (core : Foreman) (lowers now : List (LowerState L)) → Keeps below_tells seen honest lowers now → At way ear core lowers [] [] false → At way ear core now [] [] false
  still_kept way ear core lowers now keeps w =
      with_lowers way ear core lowers now [] [] w w.goes_down (keeps.held (roll_of cap w.past) (told_of w.past) w.held) (λ trust. keeps.honestly (w.all_honest trust))
      book refl (tied_kept below_tells seen cap w.past lowers now book keeps.many keeps.under (keeps.begun (told_of w.past)) w.tied)

  -- A link was taken out that is to be left for a cause, and handed back; its loss is to be met.
  pub handed : (way : Way) (ear : EarState) (core : Foreman) (lowers now : List (LowerState L)) (out : LowerState L) (got : List (Option LinkNo × L)) → Parts out lowers now × (out.gone ≡ true) → out.starved ≡ false
      → got ≡ book.got ++ ((Some out.link, out.way) ∷ [])
      → At way ear core lowers [] [] false → Works gives may_fail tells trusted below_tells seen honest cap (with_due (with_got book got) (Some out.link)) way ear core now [] [] false
  handed way ear core lowers now out got (parts, gone) fed are w =
      with_lowers way ear core lowers now [] [] w w.goes_down (every_parts (λ l. IsHeld below_tells seen (roll_of cap w.past) (from_link l.link.0 (told_of w.past)) l) out lowers now parts w.held)
      (λ trust. every_parts (λ l. honest l.way) out lowers now parts (w.all_honest trust))
      (with_due (with_got book got) (Some out.link)) refl
      (tied_back below_tells seen cap w.past lowers now out out.way book got (Some out.link) parts (λ t. ([], sym (append-nil (received_in (seen out.way).history)))) are (λ k. let le : one_if out.link.0 k ≤ one_if out.link.0 k = omega arith in le)
      (λ due t. (w.held out (stands_parts out lowers now parts)).lost gone fed t) w.tied)

  -- A link was taken out that is to be left for want of memory, and handed back or lost.
  pub starves : (way : Way) (ear : EarState) (core : Foreman) (lowers now : List (LowerState L)) (out : LowerState L) (got : List (Option LinkNo × L)) → Parts out lowers now → MayHandBack out.link out.way book.got got
      → At way ear core lowers [] [] false → StopsAt gives may_fail tells trusted below_tells seen cap (with_got book got) way now (stops.Left halts.Memory)
  starves way ear core lowers now out got parts may w = record {
    stops = record { past = w.past; found = found_now way ear core lowers [] [] false w; why = w.closed };
    tied = by may;
  }
    where
      by : (got ≡ book.got ++ ((Some out.link, out.way) ∷ [])) ⊎ (got ≡ book.got) → AreTied below_tells seen cap w.past now (with_got book got)
      by (inl are) = tied_back below_tells seen cap w.past lowers now out out.way book got None parts (λ t. ([], sym (append-nil (received_in (seen out.way).history)))) are (λ k. let le : 0 ≤ one_if out.link.0 k = omega arith in le)
          (λ wrong. absurd (let h : ⊥ = omega (arith, wrong) in h)) w.tied
      by (inr are) = tied_missing below_tells seen cap w.past lowers now out book got parts are w.tied

  -- A link was taken out, and there was no memory to hand it back.
  pub handed_not : (way : Way) (ear : EarState) (core : Foreman) (lowers now : List (LowerState L)) (out : LowerState L) (got : List (Option LinkNo × L)) → Parts out lowers now × (out.gone ≡ true) → got ≡ book.got
      → At way ear core lowers [] [] false → StopsAt gives may_fail tells trusted below_tells seen cap (with_got book got) way now (stops.Left halts.Memory)
  handed_not way ear core lowers now out got parts are w = starves way ear core lowers now out got parts.0 (inr are) w

  -- One has come, or none.
  pub gained : (E : Type 0) (way : Way) (ear : EarState) (core : Foreman) (lowers now : List (LowerState L)) (is : Type 0) (came : Bool) (got : List (Option LinkNo × L)) (upto : ℕ)
      → (let r : Result Bool E = Ok came in Gains seen honest is book.upto upto book.got got lowers now r)
      → (trusted ≡ true → is) → At way ear core lowers [] [] false → Works gives may_fail tells trusted below_tells seen honest cap (with_hall book got upto) way ear core now [] [] false
  gained E way ear core lowers now is true got upto gains trusts w =
      with_lowers way ear core lowers now [] [] w w.goes_down
      (held_joined below_tells seen honest is book.upto (roll_of cap w.past) (told_of w.past) lowers now gains.2 (from_none gains.2.link.0 w.past (unmet_number below_tells seen cap w.past lowers book w.tied gains.2.link.0 gains.2.next)) w.held)
      (λ trust. honest_joined below_tells seen honest is book.upto lowers now gains.2 (trusts trust) (w.all_honest trust))
      (with_hall book got upto) refl
      (tied_joined below_tells seen cap honest is w.past lowers now book got upto gains.2 gains.0 gains.1 w.tied)
  gained E way ear core lowers now is false got upto gains trusts w =
      with_lowers way ear core lowers now [] [] w w.goes_down
      (subst (AreHeld below_tells seen (roll_of cap w.past) (told_of w.past)) (sym gains.2) w.held)
      (λ trust. subst (AreHonest honest) (sym gains.2) (w.all_honest trust))
      (with_hall book got upto) refl
      (subst (λ (ls : List (LowerState L)). AreTied below_tells seen cap w.past ls (with_hall book got upto)) (sym gains.2) (tied_hall below_tells seen cap w.past lowers book got upto gains.0 gains.1 w.tied))

  -- None has come, since the hall failed or memory was wanting.
  pub gained_not : (way : Way) (ear : EarState) (core : Foreman) (lowers now : List (LowerState L)) (is : Type 0) (stop : Stop) (got : List (Option LinkNo × L)) (upto : ℕ)
      → (let r : Result Bool Stop = Err stop in Gains seen honest is book.upto upto book.got got lowers now r) → (let r : Result Bool Stop = Err stop in LeavesHall r)
      → At way ear core lowers [] [] false → StopsAt gives may_fail tells trusted below_tells seen cap (with_hall book got upto) way now stop
  gained_not way ear core lowers now is stop got upto gains leaves w = record {
    stops = record { past = w.past; found = found_now way ear core lowers [] [] false w; why = hall_why way w.past stop leaves w.closed (sym w.left_is) };
    tied = subst (λ (ls : List (LowerState L)). AreTied below_tells seen cap w.past ls (with_hall book got upto)) (sym gains.1) (tied_refused below_tells seen cap w.past lowers book got upto gains.0 w.tied);
  }

  -- The link at a place changed, and what holds of it stays so.
  pub changed_at : (way : Way) (ear : EarState) (core : Foreman) (lowers : List (LowerState L)) (at : ℕ) (old new : LowerState L) → slice_get lowers at ≡ Some old → new.link ≡ old.link
      → ((roll : Roll) (heard : List Message) → IsHeld below_tells seen roll heard old → IsHeld below_tells seen roll heard new) → (below_tells → HearsOn (seen old.way).history (seen new.way).history) → (honest old.way → honest new.way)
      → At way ear core lowers [] [] false → At way ear core (slice_set lowers at new) [] [] false
  changed_at way ear core lowers at old new is link held comes keeps w =
      still_kept way ear core lowers (slice_set lowers at new) (kept_at below_tells seen honest lowers at old new is link held comes keeps) w

  -- ---- its hello

  hello_may : (down : List ℕ) → Each (MaySay gives may_fail down) (hello ∷ [])
  hello_may down = ((λ attempt outcome wrong ran. absurd (let h : ⊥ = cc in h)), tt)

  -- A foreman begins over a link over which nothing has passed: its hello is owed.
  pub begins : (way : Way) (ear : EarState) (core : Foreman) → core ≡ new_foreman cap → way.history ≡ [] → way.closed ≡ false → book.faults ≤ way.faults → ear ≡ record { rest = []; body = []; stop = None; fed = 0 }
      → book.got ≡ book.first → book.upto ≡ 0 → book.due ≡ None → At way ear core [] (hello ∷ []) [] false
  begins way ear core same none_passed stays count is got upto due =
      let rest : ear.rest ≡ [] = ap (λ (e : EarState). e.rest) is in
      let fed : ear.fed ≡ 0 = ap (λ (e : EarState). e.fed) is in
      record {
        past = [];
        core_is = same;
        in_order = tt;
        left_is = refl;
        going = ap (λ (e : EarState). e.stop) is;
        heard_framed = tt;
        told_framed = every_nil (λ told. IsFramed told.message);
        fed_is = omega (arith, fed, ap length rest);
        stream = λ t. ap received_in none_passed ∙ sym rest;
        said = [];
        are_said = refl;
        sent = λ t. ap sent_in none_passed;
        right = λ t trust. subst (λ (h : List Passed). IsRightLink gives may_fail h []) (sym none_passed) (new_link_right gives may_fail);
        may = λ t trust. hello_may (received_in way.history);
        goes_down = every_nil (λ (d : Down). Stands d (sent_of cap []));
        answered = λ trust. every_nil (AnswersBelow gives may_fail []);
        joined = every_nil (IsJoined [] []);
        held = every_nil (λ (l : LowerState L). IsHeld below_tells seen (roll_of cap []) (from_link l.link.0 []) l);
        tied = tied_first below_tells seen cap book got upto due;
        all_honest = λ trust. every_nil (λ l. honest l.way);
        closed = stays;
        later = count;
      }

-- ---- lost links

module _ {L : Type 0} (gives : Function) (may_fail : Job → Failure → Type 0) (tells : Type 0) (trusted : Bool) (below_tells : Type 0) (seen : L → Seen) (honest : L → Type 0) (cap : ℕ) (book : Book L) (k : LinkNo) where
  -- The link was lost that was handed back.
  pub lost_link : (way : Way) (ear : EarState) (core : Foreman) (lowers : List (LowerState L)) → Works gives may_fail tells trusted below_tells seen honest cap (with_due book (Some k)) way ear core lowers [] [] false
      → Works gives may_fail tells trusted below_tells seen honest cap (with_due book None) way ear (loses core k).foreman lowers (loses core k).acts.up (loses core k).acts.down false
  lost_link way ear core lowers w =
      let past = w.past in
      let before : Book L = with_due book (Some k) in
      let after : Book L = with_due book None in
      subst (Works gives may_fail tells trusted below_tells seen honest cap after way ear (loses core k).foreman lowers (loses core k).acts.up (loses core k).acts.down) (sym w.left_is)
      (stepped gives may_fail tells trusted below_tells seen honest cap before way ear ear core lowers lowers (lost k) w refl w.going w.heard_framed w.told_framed w.fed_is w.stream
      (λ trust. stays_answered gives may_fail tells trusted below_tells seen honest cap before past (lost k) (told_of past) (w.answered trust))
      (lost_workers (sent_of cap past) (told_of past) (foreman_of cap past) k w.joined).0
      (λ l there. held_step below_tells seen cap (lost k) past (from_link l.link.0 (told_of past)) l
      (λ le. subst (λ n. 1 ≤ n) (sym ((lost_workers (sent_of cap past) (told_of past) (foreman_of cap past) k w.joined).1 l.link.0 (other l there))) le) (w.held l there)) w.all_honest
      after refl (tied_lost below_tells seen cap past k lowers book w.tied))
    where
      -- no link is held under the number of one that was handed back
      other : (l : LowerState L) → Stands l lowers → k.0 ≡ l.link.0 → ⊥
      other l there same =
          let held = held_stands l lowers there in
          let due = w.tied.pending l.link.0 in
          let one = one_is k.0 l.link.0 same in
          omega (arith, held, due, one, w.tied.apart l.link.0)

  -- Memory was wanting for it.
  pub lost_not : (way : Way) (ear : EarState) (core : Foreman) (lowers : List (LowerState L)) → Works gives may_fail tells trusted below_tells seen honest cap (with_due book (Some k)) way ear core lowers [] [] false
      → StopsAt gives may_fail tells trusted below_tells seen cap (with_due book None) way lowers (stops.Left halts.Memory)
  lost_not way ear core lowers w = record {
    stops = record { past = w.past; found = found_now gives may_fail tells trusted below_tells seen honest cap (with_due book (Some k)) way ear core lowers [] [] false w; why = w.closed };
    tied = tied_not below_tells seen cap w.past k lowers book w.tied;
  }

-- ---- a foreman that stops before it began

module _ {L : Type 0} (gives : Function) (may_fail : Job → Failure → Type 0) (tells : Type 0) (trusted : Bool) (below_tells : Type 0) (seen : L → Seen) (cap : ℕ) where
  -- Nothing was said, and this is why it stops.
  stops_early : (way : Way) (stop : Stop) (book : Book L) → way.history ≡ [] → MayStop tells cap book.faults way [] stop → book.got ≡ book.first → book.upto ≡ 0 → book.due ≡ None
      → StopsAt gives may_fail tells trusted below_tells seen cap book way [] stop
  stops_early way stop book none_passed why got upto due = record {
    stops = record {
      past = [];
      found = record {
        in_order = tt;
        told_framed = every_nil (λ told. IsFramed told.message);
        came = λ t. (received_in way.history, record { framed_all = tt; are = refl });
        sent = λ t. (frames_of (hello ∷ []), ap (λ (h : List Passed). sent_in h ++ frames_of (hello ∷ [])) none_passed);
        right = λ t trust. subst (IsHonestThroughout gives may_fail received_in sent_in) (sym none_passed) (new_link_right gives may_fail).honest;
      };
      why = why;
    };
    tied = tied_first below_tells seen cap book got upto due;
  }

  over_early : (way : Way) (stop : Stop) (first got : List (Option LinkNo × L)) (given given_now : ℕ) → way.history ≡ [] → MayStop tells cap 0 way [] stop → got ≡ first → given_now ≡ given
      → StopsOver gives may_fail tells trusted below_tells seen cap (new_book first) got given given_now way [] stop
  over_early way stop first got given given_now none_passed why same count = record {
    upto = 0;
    counted = omega (arith, count);
    stops_at = stops_early way stop (with_hall (new_book first) got 0) none_passed why same refl refl;
  }

  -- Memory was wanting before it said its hello.
  pub wants_early : (way : Way) (first got : List (Option LinkNo × L)) (given given_now : ℕ) → way.history ≡ [] → way.closed ≡ false → got ≡ first → given_now ≡ given
      → StopsOver gives may_fail tells trusted below_tells seen cap (new_book first) got given given_now way [] (stops.Left halts.Memory)
  wants_early way first got given given_now none_passed open_still same count = over_early way (stops.Left halts.Memory) first got given given_now none_passed open_still same count

  -- The hall failed before it said its hello.
  pub hall_early : (way : Way) (first got : List (Option LinkNo × L)) (given given_now : ℕ) → way.history ≡ [] → way.closed ≡ false → got ≡ first → given_now ≡ given
      → StopsOver gives may_fail tells trusted below_tells seen cap (new_book first) got given given_now way [] stops.Hall
  hall_early way first got given given_now none_passed open_still same count = over_early way stops.Hall first got given given_now none_passed (refl, open_still) same count

  -- Memory was wanting once the work was over.
  pub wants_late : (way : Way) (book : Book L) (lowers : List (LowerState L)) → StopsAt gives may_fail tells trusted below_tells seen cap book way lowers (stops.Left halts.Bye)
      → StopsAt gives may_fail tells trusted below_tells seen cap book way lowers (stops.Left halts.Memory)
  wants_late way book lowers s = record { stops = record { past = s.stops.past; found = s.stops.found; why = s.stops.why.1 }; tied = s.tied }
