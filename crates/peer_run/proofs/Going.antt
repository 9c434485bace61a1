-- What a worker has come to, step by step.
use Rattle.std.proofs.Common.{◌≡◌, ◌≤◌, ℕ, ◌+◌, ◌-◌, Bool, true, false, List, [], ◌∷◌, ◌++◌, length, Some, None, Result, Ok, Err, inl, inr, refl, sym, ap, ◌∙◌, subst, append_assoc, append-nil, arith}
use Rattle.std.specs.Prelude.{◌||◌}
use Rattle.std.proofs.lemmas.List.{length-append}
use Rattle.flow_types.specs.declared.job.Failure.{Failure}
use Rattle.flow_types.specs.declared.job.Job.{Job}
use Rattle.flow_types.specs.declared.job.Outcome.{Outcome}
use Rattle.flow_types.specs.declared.job.Outcome.TheVariants.{Success, Failed, NotRun}
use Rattle.flow_types.specs.declared.job.Start.{Start}
use Rattle.flow_types.specs.declared.messages.Message.{Message}
use Rattle.flow_types.specs.declared.messages.Message.TheVariants as messages
use Rattle.flow_types.specs.Serial.{Function, given_by}
use Rattle.links.proofs.Honesties.{new_link_right, heard_as}
use Rattle.links.specs.declared.passing.Got.{Got}
use Rattle.links.specs.declared.passing.Passed.{Passed}
use Rattle.links.specs.declared.passing.Passed.TheVariants.{Received}
use Rattle.links.specs.Honesty.{HasRun, IsHonestThroughout}
use Rattle.links.specs.Passings.{Receives, received_in, sent_in}
use Rattle.links.specs.Peers.{IsRightLink, MaySay}
use Rattle.message_forms.proofs.Parses.{carries_next, frames_append, framed_append}
use Rattle.message_forms.specs.Streams.{BeginsWith, Carries, IsBroken, framed, frames_of}
use Rattle.outside.specs.Jobs.{IsHonest}
use Rattle.outside.specs.Causes.{HasCause}
use Rattle.outside.specs.declared.fault.Fault.{Fault}
use Rattle.outside.specs.declared.fault.Fault.TheVariants as outside
use Rattle.wq_messages.specs.Spelling.{HasCounts}
use Rattle.worker_core.specs.Workers.{Worker, hears, reports, goes_up}
use Rattle.worker_pool.specs.Courses.{EndsAsTold, Heeds, TakesOut}
use Rattle.worker_pool.specs.Steers.{AllDue}
use Rattle.worker_pool.specs.Tallies.{plus, tally_of}
use Rattle.worker_pool.specs.declared.hand.Tally.{Tally}
use Rattle.peer_run.specs.declared.halt.Halt.{Halt}
use Rattle.peer_run.specs.declared.halt.Halt.TheVariants as halts
use Rattle.peer_run.specs.Asked.{AllRows, AreAsked, IsAsked, WasPut}
use Rattle.peer_run.specs.Ends.{Breaks, FailsBy, IsAmiss, Leaves, Stands, Takes, TellAll, WorkLeft, leaving}
use Rattle.flow_types.specs.declared.numbers.Amounts.{Amounts}
use Rattle.worker_pool.specs.Crews.{AllSure}
use Rattle.peer_run.specs.Met.{Met, new_worker, came, ended, worker_of, said_of, heard_of, has_left, hello_of, is_bye}
use Rattle.peer_run.specs.Says.{SaysAll, SendsAll}
use Rattle.peer_run.specs.Works.{EarState, IsRunning, IsToldPool, Way, Works}
use Rattle.peer_run.proofs.Attempts.{running_more, running_out}
use Rattle.peer_run.proofs.Steps.{hears_bye, reports_rows, rows_more, asked_more, asked_append, asked_out}
use Rattle.peer_run.proofs.WorkerSteps.{asked_answers, worker_fed}

-- why a call that failed so makes a worker leave
pub fails_by : {T : Type 0} (faults before : ℕ) (way : Way) (fault : Fault) (halt : Halt) → (let r : Result T Fault = Err fault in HasCause before way.faults r) → faults ≤ before
    → (fault ≡ outside.Failed → halt ≡ halts.Link) → (fault ≡ outside.Memory → halt ≡ halts.Memory) → FailsBy faults way halt
fails_by faults before way outside.Failed halt cause le link memory = subst (FailsBy faults way) (sym (link refl)) (omega (arith, le, cause.failed refl))
fails_by faults before way outside.Memory halt cause le link memory = subst (FailsBy faults way) (sym (memory refl)) tt

-- the frames of a row and of one message more, before what comes behind
pub frames_more : (ms : List Message) (m : Message) (rest : List ℕ) → frames_of ms ++ (framed m ++ rest) ≡ frames_of (ms ++ m ∷ []) ++ rest
frames_more ms m rest =
    sym (append_assoc (frames_of ms) (framed m) rest)
    ∙ ap (λ (w : List ℕ). (frames_of ms ++ w) ++ rest) (sym (append-nil (framed m)))
    ∙ ap (λ (w : List ℕ). w ++ rest) (sym (frames_append ms (m ∷ [])))

pub frames_len : (ms : List Message) (m : Message) → length (frames_of (ms ++ m ∷ [])) ≡ length (frames_of ms) + length (framed m)
frames_len ms m =
    omega (arith, ap length (frames_append ms (m ∷ [])), length-append (frames_of ms) (frames_of (m ∷ [])), length-append (framed m) [])

module _ (gives : Function) (may_fail : Job → Failure → Type 0) (tells told : Type 0) (fits : Job → Outcome → Type 0) (first : Worker) (faults : ℕ) where
  -- what goes on, as it is found
  pub stands_now : (way : Way) (ear : EarState) (core : Worker) (waiting : List Start) (heard : Tally) (left : Bool)
      → (w : Works gives may_fail tells told fits first faults way ear core waiting heard left) → Stands gives may_fail tells told fits first way heard w.past waiting
  stands_now way ear core waiting heard left w = record {
    in_order = w.in_order;
    heard_is = w.heard_is;
    came = λ t. (ear.rest, record { framed_all = w.framed_all; are = w.stream t });
    sent = λ t. ([], append-nil (sent_in way.history) ∙ w.sent t);
    honest = λ t trusted. (w.right t trusted).honest;
  }

  -- Memory was wanting.
  pub wants : (way : Way) (ear : EarState) (core : Worker) (waiting : List Start) (heard : Tally) (left : Bool)
      → Works gives may_fail tells told fits first faults way ear core waiting heard left → Leaves gives may_fail tells told fits first faults way heard halts.Memory
  wants way ear core waiting heard left w = record { past = w.past; waiting = waiting; stands = stands_now way ear core waiting heard left w; why = w.closed }

  -- The work is over, and nothing waits.
  pub is_over : (way : Way) (ear : EarState) (core : Worker) (heard : Tally)
      → Works gives may_fail tells told fits first faults way ear core [] heard true → Leaves gives may_fail tells told fits first faults way heard halts.Bye
  is_over way ear core heard w = record {
    past = w.past;
    waiting = [];
    stands = stands_now way ear core [] heard true w;
    why = (sym w.left_is, w.closed, (λ le. (refl, (λ t. w.sent t))));
  }

  -- The same, where the list of what waits has no item.
  pub is_over_at : (way : Way) (ear : EarState) (core : Worker) (waiting : List Start) (heard : Tally) (left : Bool) → left ≡ true → length waiting ≡ 0
      → Works gives may_fail tells told fits first faults way ear core waiting heard left → Leaves gives may_fail tells told fits first faults way heard halts.Bye
  is_over_at way ear core [] heard true is none w = is_over way ear core heard w
  is_over_at way ear core [] heard false is none w = absurd cc
  is_over_at way ear core (x ∷ xs) heard left is none w = absurd (let wrong : ⊥ = omega (arith, none) in wrong)

  -- The grammar is left.
  pub is_broken : (way : Way) (ear : EarState) (core : Worker) (waiting : List Start) (heard : Tally) (at : ℕ) → at ≡ ear.fed - length ear.rest → IsBroken ear.rest
      → Works gives may_fail tells told fits first faults way ear core waiting heard false → Leaves gives may_fail tells told fits first faults way heard (halts.Bad at)
  is_broken way ear core waiting heard at is broken w = record {
    past = w.past;
    waiting = waiting;
    stands = stands_now way ear core waiting heard false w;
    why = (sym w.left_is, w.closed, omega (arith, is, w.fed_is), (λ t. (ear.rest, inl broken, record { framed_all = w.framed_all; are = w.stream t })));
  }

  -- A message comes that only goes up.
  pub is_amiss : (way : Way) (ear next : EarState) (core : Worker) (waiting : List Start) (heard : Tally) (at : ℕ) (m : Message) → at ≡ ear.fed - length ear.rest
      → Takes ear (Ok (Some m)) next → goes_up m ≡ true
      → Works gives may_fail tells told fits first faults way ear core waiting heard false → Leaves gives may_fail tells told fits first faults way heard (halts.Bad at)
  is_amiss way ear next core waiting heard at m is took up w = record {
    past = w.past;
    waiting = waiting;
    stands = stands_now way ear core waiting heard false w;
    why = (sym w.left_is, w.closed, omega (arith, is, w.fed_is), (λ t. (ear.rest, inr (m, next.rest, took.0, up, took.1), record { framed_all = w.framed_all; are = w.stream t })));
  }

  -- The other end has closed the link.
  pub is_closed : (old new : Way) (ear next : EarState) (core : Worker) (waiting : List Start) (heard : Tally) → Takes ear (Ok None) next
      → (tells → new.history ≡ old.history) → new.closed ≡ true
      → Works gives may_fail tells told fits first faults old ear core waiting heard false → Leaves gives may_fail tells told fits first faults new heard halts.Closed
  is_closed old new ear next core waiting heard took same closed w = record {
    past = w.past;
    waiting = waiting;
    stands = record {
      in_order = w.in_order;
      heard_is = w.heard_is;
      came = λ t. (ear.rest, record { framed_all = w.framed_all; are = ap received_in (same t) ∙ w.stream t });
      sent = λ t. ([], append-nil (sent_in new.history) ∙ ap sent_in (same t) ∙ w.sent t);
      honest = λ t trusted. subst (IsHonestThroughout gives may_fail received_in sent_in) (sym (same t)) (w.right t trusted).honest;
    };
    why = (sym w.left_is, closed, (λ t. (ear.rest, took.0, record { framed_all = w.framed_all; are = ap received_in (same t) ∙ w.stream t })));
  }

  -- Waiting for bytes failed, or those that came couldn't be kept.
  pub hears_not : (old new : Way) (ear : EarState) (core : Worker) (waiting : List Start) (heard : Tally) (got : Result Got Fault) (halt : Halt)
      → (tells → Receives got old.history new.history) → new.closed ≡ false → FailsBy faults new halt
      → Works gives may_fail tells told fits first faults old ear core waiting heard false → Leaves gives may_fail tells told fits first faults new heard halt
  hears_not old new ear core waiting heard got halt received closed fails w = record {
    past = w.past;
    waiting = waiting;
    stands = record {
      in_order = w.in_order;
      heard_is = w.heard_is;
      came = λ t. came_more got (received t) (w.stream t);
      sent = λ t. ([], append-nil (sent_in new.history) ∙ sent_same got (received t) ∙ w.sent t);
      honest = λ t trusted. (heard_as gives may_fail old.history new.history (said_of first w.past) got (received t) (w.right t trusted)).honest;
    };
    why = by halt fails;
  }
    where
      came_more : (got : Result Got Fault) → Receives got old.history new.history → received_in old.history ≡ frames_of (heard_of w.past) ++ ear.rest → BeginsWith (received_in new.history) (heard_of w.past)
      came_more (Ok (Got.Piece bytes)) is stream = (
        ear.rest ++ bytes,
        record { framed_all = w.framed_all; are = ap received_in is ∙ ap (λ (r : List ℕ). r ++ bytes) stream ∙ append_assoc (frames_of (heard_of w.past)) ear.rest bytes },
      )
      came_more (Ok Got.Idle) is stream = (ear.rest, record { framed_all = w.framed_all; are = ap received_in is ∙ stream })
      came_more (Ok Got.Closed) is stream = (ear.rest, record { framed_all = w.framed_all; are = ap received_in is ∙ stream })
      came_more (Err fault) is stream = (ear.rest, record { framed_all = w.framed_all; are = ap received_in is ∙ stream })

      sent_same : (got : Result Got Fault) → Receives got old.history new.history → sent_in new.history ≡ sent_in old.history
      sent_same (Ok (Got.Piece bytes)) is = ap sent_in is
      sent_same (Ok Got.Idle) is = ap sent_in is
      sent_same (Ok Got.Closed) is = ap sent_in is
      sent_same (Err fault) is = ap sent_in is

      by : (halt : Halt) → FailsBy faults new halt → Rattle.peer_run.specs.Ends.MayHalt tells first faults new w.past waiting halt
      by halts.Link lt = (sym w.left_is, closed, lt)
      by halts.Memory lt = closed
      by halts.Bye lt = absurd lt
      by halts.Closed lt = absurd lt
      by (halts.Bad at) lt = absurd lt

  -- A piece came, and is kept.
  pub piece_came : (old new : Way) (ear next : EarState) (core : Worker) (waiting : List Start) (heard : Tally) (bytes : List ℕ)
      → (tells → new.history ≡ Received bytes ∷ old.history) → new.closed ≡ false → old.faults ≤ new.faults
      → next.rest ≡ ear.rest ++ bytes → next.stop ≡ None → next.fed ≡ ear.fed + length bytes
      → Works gives may_fail tells told fits first faults old ear core waiting heard false → Works gives may_fail tells told fits first faults new next core waiting heard false
  piece_came old new ear next core waiting heard bytes is closed later rest going fed w =
      let down : tells → received_in new.history ≡ received_in old.history ++ bytes = λ t. ap received_in (is t) in
      record {
        past = w.past;
        core_is = w.core_is;
        in_order = w.in_order;
        heard_is = w.heard_is;
        left_is = w.left_is;
        running = w.running;
        going = going;
        framed_all = w.framed_all;
        fed_is = omega (arith, fed, w.fed_is, ap length rest, length-append ear.rest bytes);
        stream = λ t. down t ∙ ap (λ (r : List ℕ). r ++ bytes) (w.stream t) ∙ append_assoc (frames_of (heard_of w.past)) ear.rest bytes ∙ ap (λ (r : List ℕ). frames_of (heard_of w.past) ++ r) (sym rest);
        rows = λ t. subst (λ (d : List ℕ). AllRows (WasPut d) core.cache.rows) (sym (down t)) (rows_more (received_in old.history) bytes core.cache.rows (w.rows t));
        asked = λ t. subst (λ (d : List ℕ). AreAsked d waiting) (sym (down t)) (asked_more (received_in old.history) bytes waiting (w.asked t));
        sent = λ t. ap sent_in (is t) ∙ w.sent t;
        right = λ t trusted. heard_as gives may_fail old.history new.history (said_of first w.past) (let got : Result Got Fault = Ok (Got.Piece bytes) in got) (is t) (w.right t trusted);
        closed = closed;
        later = omega (arith, w.later, later);
      }

  -- Nothing came.
  pub nothing_came : (old new : Way) (ear next : EarState) (core : Worker) (waiting : List Start) (heard : Tally)
      → (tells → new.history ≡ old.history) → new.closed ≡ false → old.faults ≤ new.faults
      → next.rest ≡ ear.rest → next.stop ≡ None → next.fed ≡ ear.fed
      → Works gives may_fail tells told fits first faults old ear core waiting heard false → Works gives may_fail tells told fits first faults new next core waiting heard false
  nothing_came old new ear next core waiting heard is closed later rest going fed w =
      let down : tells → received_in new.history ≡ received_in old.history = λ t. ap received_in (is t) in
      record {
        past = w.past;
        core_is = w.core_is;
        in_order = w.in_order;
        heard_is = w.heard_is;
        left_is = w.left_is;
        running = w.running;
        going = going;
        framed_all = w.framed_all;
        fed_is = omega (arith, fed, w.fed_is, ap length rest);
        stream = λ t. down t ∙ w.stream t ∙ ap (λ (r : List ℕ). frames_of (heard_of w.past) ++ r) (sym rest);
        rows = λ t. subst (λ (d : List ℕ). AllRows (WasPut d) core.cache.rows) (sym (down t)) (w.rows t);
        asked = λ t. subst (λ (d : List ℕ). AreAsked d waiting) (sym (down t)) (w.asked t);
        sent = λ t. ap sent_in (is t) ∙ w.sent t;
        right = λ t trusted. subst (λ (h : List Passed). IsRightLink gives may_fail h (said_of first w.past)) (sym (is t)) (w.right t trusted);
        closed = closed;
        later = omega (arith, w.later, later);
      }

  -- What was said goes out, and nothing else passes.
  pub goes_out : (old new : Way) (ear : EarState) (core : Worker) (waiting : List Start) (heard : Tally) (left : Bool)
      → (tells → new.history ≡ old.history) → new.closed ≡ old.closed → old.faults ≤ new.faults
      → Works gives may_fail tells told fits first faults old ear core waiting heard left → Works gives may_fail tells told fits first faults new ear core waiting heard left
  goes_out old new ear core waiting heard left is closed later w =
      let down : tells → received_in new.history ≡ received_in old.history = λ t. ap received_in (is t) in
      record {
        past = w.past;
        core_is = w.core_is;
        in_order = w.in_order;
        heard_is = w.heard_is;
        left_is = w.left_is;
        running = w.running;
        going = w.going;
        framed_all = w.framed_all;
        fed_is = w.fed_is;
        stream = λ t. down t ∙ w.stream t;
        rows = λ t. subst (λ (d : List ℕ). AllRows (WasPut d) core.cache.rows) (sym (down t)) (w.rows t);
        asked = λ t. subst (λ (d : List ℕ). AreAsked d waiting) (sym (down t)) (w.asked t);
        sent = λ t. ap sent_in (is t) ∙ w.sent t;
        right = λ t trusted. subst (λ (h : List Passed). IsRightLink gives may_fail h (said_of first w.past)) (sym (is t)) (w.right t trusted);
        closed = closed ∙ w.closed;
        later = omega (arith, w.later, later);
      }

  -- It couldn't go out.
  pub goes_not_out : (old new : Way) (ear : EarState) (core : Worker) (waiting : List Start) (heard : Tally) (left : Bool) (halt : Halt)
      → (tells → new.history ≡ old.history) → new.closed ≡ old.closed → old.faults ≤ new.faults → FailsBy faults new halt
      → Works gives may_fail tells told fits first faults old ear core waiting heard left → Breaks gives may_fail tells told fits first faults new heard left halt
  goes_not_out old new ear core waiting heard left halt is closed later fails w =
      let gone = goes_out old new ear core waiting heard left is closed later w in
      record {
        past = gone.past;
        waiting = waiting;
        stands = stands_now new ear core waiting heard left gone;
        left_is = gone.left_is;
        closed = gone.closed;
        why = fails;
      }

  -- the stream with the message that was taken
  stream_more : (ear next : EarState) (past : List Met) (down : List ℕ) (m : Message) → Takes ear (Ok (Some m)) next → down ≡ frames_of (heard_of past) ++ ear.rest
      → down ≡ frames_of (heard_of past ++ m ∷ []) ++ next.rest
  stream_more ear next past down m took is = is ∙ ap (λ (r : List ℕ). frames_of (heard_of past) ++ r) took.1 ∙ frames_more (heard_of past) m next.rest

  -- what a call that says these messages did
  abbrev pub Said : {T : Type 0} → Result T Fault → List Message → Way → Way → Type 0
  Said {T} r ms old new =
      (tells → SendsAll r ms old.history new.history)
      × ((said : List Message) → tells → told → IsRightLink gives may_fail old.history said → SaysAll gives may_fail ms said new.history r)
      × (new.closed ≡ old.closed) × (old.faults ≤ new.faults)

  or_none : (b c : Bool) → c ≡ false → (b || c) ≡ b
  or_none true c e = refl
  or_none false c e = e

  -- A message came, what it asks for was done, and what is to be said of it was said.
  pub obeyed : (old new : Way) (ear next : EarState) (core : Worker) (waiting after : List Start) (heard : Tally) (m : Message) (bye : Bool)
      → Takes ear (Ok (Some m)) next → HasCounts m → goes_up m ≡ false
      → Said (let sent : Result (Unit {0}) Fault = Ok tt in sent) (hears core m).acts.send old new
      → after ≡ waiting ++ (hears core m).acts.start → bye ≡ (hears core m).acts.bye
      → Works gives may_fail tells told fits first faults old ear core waiting heard false
      → Works gives may_fail tells told fits first faults new next (hears core m).worker after heard bye
  obeyed old new ear next core waiting after heard m bye took few down_only said after_is bye_is w =
      let past = w.past in
      let same : core ≡ worker_of first past = w.core_is in
      let acted = hears core m in
      let stays : (t : tells) → received_in new.history ≡ received_in old.history = λ t. (said.0 t).0 in
      let carried : (t : tells) → Carries (received_in old.history) m = λ t. carries_next (received_in old.history) (heard_of past) m next.rest w.framed_all took.0 (w.stream t ∙ ap (λ (r : List ℕ). frames_of (heard_of past) ++ r) took.1) in
      let fed : (t : tells) → AllRows (WasPut (received_in old.history)) acted.worker.cache.rows × AreAsked (received_in old.history) acted.acts.start =
      λ t. worker_fed (received_in old.history) core m (carried t) (w.rows t) in
      record {
        past = came m ∷ past;
        core_is = ap (λ (c : Worker). (hears c m).worker) same;
        in_order = (waiting, w.in_order, sym w.left_is, down_only, after_is ∙ ap (λ (c : Worker). waiting ++ (hears c m).acts.start) same);
        heard_is = w.heard_is;
        left_is = bye_is ∙ (hears_bye core m).0 ∙ sym (or_none (is_bye m) (has_left past) (sym w.left_is));
        running = subst (AllDue (IsRunning acted.worker)) (sym after_is) (running_more core m waiting few w.running);
        going = took.2;
        framed_all = framed_append (heard_of past) (m ∷ []) w.framed_all (took.0, tt);
        fed_is = omega (arith, took.3, w.fed_is, ap length took.1, length-append (framed m) next.rest, frames_len (heard_of past) m);
        stream = λ t. stays t ∙ stream_more ear next past (received_in old.history) m took (w.stream t);
        rows = λ t. subst (λ (d : List ℕ). AllRows (WasPut d) acted.worker.cache.rows) (sym (stays t)) (fed t).0;
        asked = λ t. subst (λ (d : List ℕ). AreAsked d after) (sym (stays t)) (subst (AreAsked (received_in old.history)) (sym after_is) (asked_append (received_in old.history) waiting acted.acts.start (w.asked t) (fed t).1));
        sent = λ t. (said.0 t).1 ∙ ap (λ (b : List ℕ). b ++ frames_of acted.acts.send) (w.sent t) ∙ sym (frames_append (said_of first past) acted.acts.send)
            ∙ ap (λ (c : Worker). frames_of (said_of first past ++ (hears c m).acts.send)) same;
        right = λ t trusted. subst (λ (c : Worker). IsRightLink gives may_fail new.history (said_of first past ++ (hears c m).acts.send)) same (said.1 (said_of first past) t trusted (w.right t trusted));
        closed = said.2 ∙ w.closed;
        later = omega (arith, w.later, said.3);
      }

  fails_why : (way : Way) (past : List Met) (waiting : List Start) (halt : Halt) → FailsBy faults way halt → way.closed ≡ false → has_left past ≡ false
      → Rattle.peer_run.specs.Ends.MayHalt tells first faults way past waiting halt
  fails_why way past waiting halts.Link lt closed stays = (stays, closed, lt)
  fails_why way past waiting halts.Memory lt closed stays = closed
  fails_why way past waiting halts.Bye lt closed stays = absurd lt
  fails_why way past waiting halts.Closed lt closed stays = absurd lt
  fails_why way past waiting (halts.Bad at) lt closed stays = absurd lt

  -- A message came, what it asks for was done, and saying what is to be said of it failed.
  pub obeyed_not : (old new : Way) (ear next : EarState) (core : Worker) (waiting : List Start) (heard : Tally) (m : Message) (fault : Fault) (halt : Halt)
      → Takes ear (Ok (Some m)) next → goes_up m ≡ false → is_bye m ≡ false
      → Said (let sent : Result (Unit {0}) Fault = Err fault in sent) (hears core m).acts.send old new
      → FailsBy faults new halt
      → Works gives may_fail tells told fits first faults old ear core waiting heard false → Leaves gives may_fail tells told fits first faults new heard halt
  obeyed_not old new ear next core waiting heard m fault halt took down_only stays said fails w =
      let past = w.past in
      let same : core ≡ worker_of first past = w.core_is in
      let acted = hears core m in
      record {
        past = came m ∷ past;
        waiting = waiting ++ acted.acts.start;
        stands = record {
          in_order = (waiting, w.in_order, sym w.left_is, down_only, ap (λ (c : Worker). waiting ++ (hears c m).acts.start) same);
          heard_is = w.heard_is;
          came = λ t. (next.rest, record { framed_all = framed_append (heard_of past) (m ∷ []) w.framed_all (took.0, tt); are = (said.0 t).0 ∙ stream_more ear next past (received_in old.history) m took (w.stream t) });
          sent = λ t. (
            (said.0 t).1.0,
            (said.0 t).1.1 ∙ ap (λ (b : List ℕ). b ++ frames_of acted.acts.send) (w.sent t) ∙ sym (frames_append (said_of first past) acted.acts.send)
                ∙ ap (λ (c : Worker). frames_of (said_of first past ++ (hears c m).acts.send)) same,
          );
          honest = λ t trusted. said.1 (said_of first past) t trusted (w.right t trusted);
        };
        why = fails_why new (came m ∷ past) (waiting ++ acted.acts.start) halt fails (said.2 ∙ w.closed) (or_none (is_bye m) (has_left past) (sym w.left_is) ∙ stays);
      }

  -- ---- a report

  ends_honestly : (job : Job) (outcome : Outcome) → EndsAsTold gives may_fail job outcome → HasRun outcome → IsHonest (given_by gives job) (may_fail job) outcome
  ends_honestly job (Success contents) is ran = is
  ends_honestly job (Failed why) is ran = is
  ends_honestly job NotRun is ran = absurd ran

  done_same : (a b : Rattle.flow_types.specs.declared.numbers.AttemptNo.AttemptNo) (x y : Outcome) → messages.Done a x ≡ messages.Done b y → (a ≡ b) × (x ≡ y)
  done_same a b x y e = (cc, cc)

  -- The result of a job that was asked for may be said, where it ended as the commands say.
  pub result_may : (down : List ℕ) (start : Start) (outcome : Outcome) → IsAsked down start → EndsAsTold gives may_fail start.job outcome
      → MaySay gives may_fail down (messages.Done start.attempt outcome)
  result_may down start outcome asked ends attempt other is ran =
      let same = done_same start.attempt attempt outcome other is in
      let answers = asked_answers gives may_fail down start outcome asked (ends_honestly start.job outcome ends (subst HasRun (sym same.1) ran)) in
      subst (λ (o : Outcome). Rattle.links.specs.Honesty.Answers gives may_fail down attempt o) same.1
      (subst (λ (a : Rattle.flow_types.specs.declared.numbers.AttemptNo.AttemptNo). Rattle.links.specs.Honesty.Answers gives may_fail down a outcome) same.0 answers)

  -- A job has ended, and what is to be said of it was said.
  pub reported : (old new : Way) (ear : EarState) (core : Worker) (waiting after : List Start) (heard now : Tally) (left : Bool) (start : Start) (outcome : Outcome)
      → TakesOut start waiting after → fits start.job outcome → now ≡ plus heard (tally_of outcome)
      → Said (let sent : Result (Unit {0}) Fault = Ok tt in sent) (reports core start.attempt outcome).acts.send old new
      → Works gives may_fail tells told fits first faults old ear core waiting heard left
      → Works gives may_fail tells told fits first faults new ear (reports core start.attempt outcome).worker after now left
  reported old new ear core waiting after heard now left start outcome out fit now_is said w =
      let past = w.past in
      let same : core ≡ worker_of first past = w.core_is in
      let acted = reports core start.attempt outcome in
      let stays : (t : tells) → received_in new.history ≡ received_in old.history = λ t. (said.0 t).0 in
      record {
        past = ended start outcome ∷ past;
        core_is = ap (λ (c : Worker). (reports c start.attempt outcome).worker) same;
        in_order = (waiting, w.in_order, out, fit);
        heard_is = now_is ∙ ap (λ (h : Tally). plus h (tally_of outcome)) w.heard_is;
        left_is = w.left_is;
        running = (running_out core start outcome waiting after out w.running).1;
        going = w.going;
        framed_all = w.framed_all;
        fed_is = w.fed_is;
        stream = λ t. stays t ∙ w.stream t;
        rows = λ t. subst (λ (d : List ℕ). AllRows (WasPut d) acted.worker.cache.rows) (sym (stays t)) (reports_rows (WasPut (received_in old.history)) core start.attempt outcome (w.rows t));
        asked = λ t. subst (λ (d : List ℕ). AreAsked d after) (sym (stays t)) (subst (AreAsked (received_in old.history)) (sym out.3) (asked_out (received_in old.history) out.0 out.1 start (subst (AreAsked (received_in old.history)) out.2 (w.asked t))).1);
        sent = λ t. (said.0 t).1 ∙ ap (λ (b : List ℕ). b ++ frames_of acted.acts.send) (w.sent t) ∙ sym (frames_append (said_of first past) acted.acts.send)
            ∙ ap (λ (c : Worker). frames_of (said_of first past ++ (reports c start.attempt outcome).acts.send)) same;
        right = λ t trusted. subst (λ (c : Worker). IsRightLink gives may_fail new.history (said_of first past ++ (reports c start.attempt outcome).acts.send)) same (said.1 (said_of first past) t trusted (w.right t trusted));
        closed = said.2 ∙ w.closed;
        later = omega (arith, w.later, said.3);
      }

  -- What waits was asked for, also the one that is taken out.
  pub asked_for : (way : Way) (ear : EarState) (core : Worker) (waiting after : List Start) (heard : Tally) (left : Bool) (start : Start) → TakesOut start waiting after
      → Works gives may_fail tells told fits first faults way ear core waiting heard left → tells → IsAsked (received_in way.history) start
  asked_for way ear core waiting after heard left start out w t =
      (asked_out (received_in way.history) out.0 out.1 start (subst (AreAsked (received_in way.history)) out.2 (w.asked t))).0

  -- A job has ended, and saying what is to be said of it failed.
  pub reported_not : (old new : Way) (ear : EarState) (core : Worker) (waiting after : List Start) (heard now : Tally) (left : Bool) (start : Start) (outcome : Outcome) (fault : Fault) (halt : Halt)
      → TakesOut start waiting after → fits start.job outcome → now ≡ plus heard (tally_of outcome)
      → Said (let sent : Result (Unit {0}) Fault = Err fault in sent) (reports core start.attempt outcome).acts.send old new
      → FailsBy faults new halt
      → Works gives may_fail tells told fits first faults old ear core waiting heard left → Breaks gives may_fail tells told fits first faults new now left halt
  reported_not old new ear core waiting after heard now left start outcome fault halt out fit now_is said fails w =
      let past = w.past in
      let same : core ≡ worker_of first past = w.core_is in
      let acted = reports core start.attempt outcome in
      record {
        past = ended start outcome ∷ past;
        waiting = after;
        stands = record {
          in_order = (waiting, w.in_order, out, fit);
          heard_is = now_is ∙ ap (λ (h : Tally). plus h (tally_of outcome)) w.heard_is;
          came = λ t. (ear.rest, record { framed_all = w.framed_all; are = (said.0 t).0 ∙ w.stream t });
          sent = λ t. (
            (said.0 t).1.0,
            (said.0 t).1.1 ∙ ap (λ (b : List ℕ). b ++ frames_of acted.acts.send) (w.sent t) ∙ sym (frames_append (said_of first past) acted.acts.send)
                ∙ ap (λ (c : Worker). frames_of (said_of first past ++ (reports c start.attempt outcome).acts.send)) same,
          );
          honest = λ t trusted. said.1 (said_of first past) t trusted (w.right t trusted);
        };
        left_is = w.left_is;
        closed = said.2 ∙ w.closed;
        why = fails;
      }

  -- A job has ended, and memory was wanting for what is to be said of it.
  pub reported_wants : (way : Way) (ear : EarState) (core : Worker) (waiting after : List Start) (heard now : Tally) (left : Bool) (start : Start) (outcome : Outcome)
      → TakesOut start waiting after → fits start.job outcome → now ≡ plus heard (tally_of outcome)
      → Works gives may_fail tells told fits first faults way ear core waiting heard left → Breaks gives may_fail tells told fits first faults way now left halts.Memory
  reported_wants way ear core waiting after heard now left start outcome out fit now_is w =
      let past = w.past in
      record {
        past = ended start outcome ∷ past;
        waiting = after;
        stands = record {
          in_order = (waiting, w.in_order, out, fit);
          heard_is = now_is ∙ ap (λ (h : Tally). plus h (tally_of outcome)) w.heard_is;
          came = λ t. (ear.rest, record { framed_all = w.framed_all; are = w.stream t });
          sent = λ t. (
            frames_of (reports (worker_of first past) start.attempt outcome).acts.send,
            ap (λ (b : List ℕ). b ++ frames_of (reports (worker_of first past) start.attempt outcome).acts.send) (w.sent t)
                ∙ sym (frames_append (said_of first past) (reports (worker_of first past) start.attempt outcome).acts.send),
          );
          honest = λ t trusted. (w.right t trusted).honest;
        };
        left_is = w.left_is;
        closed = w.closed;
        why = tt;
      }

  bye_why : (way : Way) (past : List Met) (waiting : List Start) (left : Bool) (halt : Halt) → left ≡ has_left past → way.closed ≡ false → FailsBy faults way halt
      → Rattle.peer_run.specs.Ends.MayHalt tells first faults way past waiting (leaving left halt)
  bye_why way past waiting true halts.Link is closed lt = (sym is, closed, (λ le. absurd (let wrong : ⊥ = omega (arith, lt, le) in wrong)))
  bye_why way past waiting false halts.Link is closed lt = (sym is, closed, lt)
  bye_why way past waiting true halts.Memory is closed lt = closed
  bye_why way past waiting false halts.Memory is closed lt = closed
  bye_why way past waiting left halts.Bye is closed lt = absurd lt
  bye_why way past waiting left halts.Closed is closed lt = absurd lt
  bye_why way past waiting left (halts.Bad at) is closed lt = absurd lt

  -- A worker leaves where what it did last failed.
  pub leaves_so : (way : Way) (heard : Tally) (left : Bool) (halt : Halt) → Breaks gives may_fail tells told fits first faults way heard left halt
      → Leaves gives may_fail tells told fits first faults way heard (leaving left halt)
  leaves_so way heard left halt b = record {
    past = b.past;
    waiting = b.waiting;
    stands = b.stands;
    why = bye_why way b.past b.waiting left halt b.left_is b.closed b.why;
  }

  -- A worker begins: it has said its hello over a link over which nothing had passed.
  pub begins : (old new : Way) (ear : EarState) (core : Worker) → core ≡ first → first.running ≡ [] → first.cache.rows ≡ [] → old.history ≡ [] → old.closed ≡ false → faults ≤ old.faults
      → ear.rest ≡ [] → ear.stop ≡ None → ear.fed ≡ 0
      → Said (let sent : Result (Unit {0}) Fault = Ok tt in sent) (hello_of first ∷ []) old new
      → Works gives may_fail tells told fits first faults new ear core [] Rattle.worker_pool.specs.Tallies.none false
  begins old new ear core same idle empty none_passed stays count rest going fed said =
      let nothing : (t : tells) → received_in new.history ≡ [] = λ t. (said.0 t).0 ∙ ap received_in none_passed in
      record {
        past = [];
        core_is = same;
        in_order = refl;
        heard_is = refl;
        left_is = refl;
        running = tt;
        going = going;
        framed_all = tt;
        fed_is = omega (arith, fed, ap length rest);
        stream = λ t. nothing t ∙ sym rest;
        rows = λ t. subst (λ (rows : Rattle.worker_cache.specs.Caches.Rows). AllRows (WasPut (received_in new.history)) rows) (sym (ap (λ (c : Worker). c.cache.rows) same ∙ empty)) tt;
        asked = λ t. tt;
        sent = λ t. (said.0 t).1 ∙ ap (λ (h : List Passed). sent_in h ++ frames_of (hello_of first ∷ [])) none_passed;
        right = λ t trusted. said.1 [] t trusted (subst (λ (h : List Passed). IsRightLink gives may_fail h []) (sym none_passed) (new_link_right gives may_fail));
        closed = said.2 ∙ stays;
        later = omega (arith, count, said.3);
      }

  -- Memory was wanting before it said its hello.
  pub says_nothing : (way : Way) → way.history ≡ [] → way.closed ≡ false
      → Leaves gives may_fail tells told fits first faults way Rattle.worker_pool.specs.Tallies.none halts.Memory
  says_nothing way none_passed stays = record {
    past = [];
    waiting = [];
    stands = record {
      in_order = refl;
      heard_is = refl;
      came = λ t. (received_in way.history, record { framed_all = tt; are = refl });
      sent = λ t. (frames_of (hello_of first ∷ []), ap (λ (h : List Passed). sent_in h ++ frames_of (hello_of first ∷ [])) none_passed);
      honest = λ t trusted. subst (IsHonestThroughout gives may_fail received_in sent_in) (sym none_passed) (new_link_right gives may_fail).honest;
    };
    why = stays;
  }

  -- Saying its hello failed.
  pub begins_not : (old new : Way) (fault : Fault) (halt : Halt) → old.history ≡ [] → old.closed ≡ false
      → Said (let sent : Result (Unit {0}) Fault = Err fault in sent) (hello_of first ∷ []) old new → FailsBy faults new halt
      → Leaves gives may_fail tells told fits first faults new Rattle.worker_pool.specs.Tallies.none halt
  begins_not old new fault halt none_passed stays said fails = record {
    past = [];
    waiting = [];
    stands = record {
      in_order = refl;
      heard_is = refl;
      came = λ t. (received_in new.history, record { framed_all = tt; are = refl });
      sent = λ t. ((said.0 t).1.0, (said.0 t).1.1 ∙ ap (λ (h : List Passed). sent_in h ++ frames_of (hello_of first ∷ [])) none_passed);
      honest = λ t trusted. said.1 [] t trusted (subst (λ (h : List Passed). IsRightLink gives may_fail h []) (sym none_passed) (new_link_right gives may_fail));
    };
    why = fails_why new [] [] halt fails (said.2 ∙ stays) refl;
  }

-- Less is told of a worker that has left by less of trust.
pub told_less : (gives : Function) (may_fail : Job → Failure → Type 0) (tells told trusted : Type 0) (fits : Job → Outcome → Type 0) (first : Worker) (faults : ℕ) (way : Way) (heard : Tally) (halt : Halt)
    → (trusted → told) → Leaves gives may_fail tells told fits first faults way heard halt → Leaves gives may_fail tells trusted fits first faults way heard halt
told_less gives may_fail tells told trusted fits first faults way heard halt more l = record {
  past = l.past;
  waiting = l.waiting;
  stands = record {
    in_order = l.stands.in_order;
    heard_is = l.stands.heard_is;
    came = l.stands.came;
    sent = l.stands.sent;
    honest = λ t trust. l.stands.honest t (more trust);
  };
  why = l.why;
}

-- How a worker leaves with these runners, by what it has left over their pool.
pub work_left : {R : Type 0} (gives : Function) (may_fail : Job → Failure → Type 0) (tells : Type 0) (told : R → Job → Type 0) (sure : R → Type 0) (runners : List R) (first : Worker) (way : Way) (before after : ℕ) (halt : Halt)
    → (let fits = Heeds gives may_fail (λ job. TellAll told runners) (AllSure sure runners) in (heard : Tally) × Leaves gives may_fail tells (IsToldPool gives may_fail fits) fits first 0 way heard halt × (heard.unrun + before ≤ after))
    → WorkLeft gives may_fail tells told sure runners first way before after halt
work_left gives may_fail tells told sure runners first way before after halt left = record {
  heard = left.0;
  leaves = told_less gives may_fail tells (IsToldPool gives may_fail (Heeds gives may_fail (λ job. TellAll told runners) (AllSure sure runners))) (TellAll told runners) (Heeds gives may_fail (λ job. TellAll told runners) (AllSure sure runners)) first 0 way left.0 halt (λ all job outcome fit. fit.0.1 all) left.1;
  counted = left.2;
}

-- a worker by its parts
pub same_worker : (w : Worker) (total : Amounts) (cap : ℕ) → w.total ≡ total → w.cache.cap ≡ cap → w.cache.rows ≡ [] → w.running ≡ [] → w ≡ new_worker total cap
same_worker w total cap t c r n = λ i. record { total = t i; cache = record { cap = c i; rows = r i }; running = n i }
