-- How a peer stays served.
use Rattle.std.proofs.Common.{◌≡◌, ◌≤◌, ◌⊎◌, inl, inr, ℕ, ◌+◌, Bool, true, false, List, [], ◌∷◌, ◌++◌, Option, Some, None, Result, Ok, Err, refl, sym, ap, ◌∙◌, subst, append-nil, arith}
use Rattle.std.specs.Prelude.{◌==◌, if◌then◌else◌, OnOk}
use Rattle.std.specs.List.{AllByRecursion}
use Rattle.flow_types.specs.declared.job.Failure.{Failure}
use Rattle.flow_types.specs.declared.job.Job.{Job}
use Rattle.flow_types.specs.declared.job.Outcome.{Outcome}
use Rattle.flow_types.specs.declared.job.Task.{Task}
use Rattle.flow_types.specs.declared.messages.Message.{Message}
use Rattle.flow_types.specs.declared.messages.Message.TheVariants as messages
use Rattle.flow_types.specs.declared.numbers.AttemptNo.{AttemptNo}
use Rattle.flow_types.specs.declared.messages.Key.{Key}
use Rattle.flow_types.specs.Serial.{Contents, Function}
use Rattle.links.proofs.Honesties.{stands_either}
use Rattle.links.specs.declared.passing.Got.{Got}
use Rattle.links.specs.declared.passing.Got.TheVariants.{Piece, Idle, Closed}
use Rattle.links.specs.declared.passing.Passed.{Passed}
use Rattle.links.specs.declared.passing.Passed.TheVariants.{Received}
use Rattle.links.specs.Honesty.{HasRun, IsHonestSoFar}
use Rattle.links.specs.Passings.{Receives, received_in, sent_in}
use Rattle.link_session.specs.declared.open.Open.{Open}
use Rattle.link_session.specs.declared.session.Stage.{Stage}
use Rattle.link_session.specs.Sessions.{State, opened, started}
use Rattle.message_forms.proofs.Parses.{carries_more, framed_append, frames_append, rows_carry_their_own}
use Rattle.message_forms.specs.Streams.{Carries, IsAmong, IsFramed, IsStream, framed, frames_of}
use Rattle.outside.specs.declared.fault.Fault.{Fault}
use Rattle.wq_frames.specs.Streams.{Stream}
use Rattle.peers.specs.Serves.{AreDue, DueStaysDue, IsDueSay, HasGreeted, IsBooked, IsNew, IsServed, Serves, Stands, WasHonest, missings_of}
use Rattle.peers.specs.States.{PeerState}
use Rattle.peers.proofs.Frames.{came_more}
use Rattle.peers.proofs.Opens.{all_append, all_map, all_with}

-- ---- messages

pub among_left : (x : Message) (xs ys : List Message) → IsAmong x xs → IsAmong x (xs ++ ys)
among_left x [] ys is = absurd is
among_left x (y ∷ xs) ys (inl same) = inl same
among_left x (y ∷ xs) ys (inr later) = inr (among_left x xs ys later)

pub among_last : (x : Message) (xs : List Message) → IsAmong x (xs ++ x ∷ [])
among_last x [] = inl refl
among_last x (y ∷ xs) = inr (among_last x xs)

last_or : (x m : Message) (xs : List Message) → IsAmong x xs ⊎ IsAmong x (m ∷ []) → IsAmong x xs ⊎ (x ≡ m)
last_or x m xs (inl is) = inl is
last_or x m xs (inr (inl same)) = inr same
last_or x m xs (inr (inr none)) = absurd none

-- what is among these and one more is among these, or it is the one
pub among_or : (x m : Message) (xs : List Message) → IsAmong x (xs ++ m ∷ []) → IsAmong x xs ⊎ (x ≡ m)
among_or x m xs is = last_or x m xs (stands_either x xs (m ∷ []) is)

missings_by : (attempt other : AttemptNo) (ms : List Message) (more k : ℕ) (b : Bool) → more ≡ missings_of attempt ms + k
    → (if b then 1 else 0) + more ≡ ((if b then 1 else 0) + missings_of attempt ms) + k
missings_by attempt other ms more k true e = omega (arith, e)
missings_by attempt other ms more k false e = omega (arith, e)

pub missings_append : (attempt : AttemptNo) (xs ys : List Message) → missings_of attempt (xs ++ ys) ≡ missings_of attempt xs + missings_of attempt ys
missings_append attempt [] ys = omega arith
missings_append attempt (messages.Missing other files ∷ xs) ys =
    missings_by attempt other xs (missings_of attempt (xs ++ ys)) (missings_of attempt ys) (other.0 == attempt.0) (missings_append attempt xs ys)
missings_append attempt (messages.Hello total largest cache ∷ xs) ys = missings_append attempt xs ys
missings_append attempt (messages.Put key content ∷ xs) ys = missings_append attempt xs ys
missings_append attempt (messages.Task task ∷ xs) ys = missings_append attempt xs ys
missings_append attempt (messages.Done other outcome ∷ xs) ys = missings_append attempt xs ys
missings_append attempt (messages.Cancel other ∷ xs) ys = missings_append attempt xs ys
missings_append attempt (messages.Unlink key ∷ xs) ys = missings_append attempt xs ys
missings_append attempt (messages.Totals total largest cache ∷ xs) ys = missings_append attempt xs ys
missings_append attempt (messages.Bye ∷ xs) ys = missings_append attempt xs ys

pub missings_more : (attempt : AttemptNo) (xs ys : List Message) → missings_of attempt xs ≤ missings_of attempt (xs ++ ys)
missings_more attempt xs ys = omega (arith, missings_append attempt xs ys)

-- what follows at Ok
pub at_ok : {T E : Type 0} (A B : Type 0) (r : Result T E) → (A → B) → OnOk r A → OnOk r B
at_ok A B (Ok x) step a = step a
at_ok A B (Err e) step a = tt

module _ (gives : Function) (may_fail : Job → Failure → Type 0) where
  -- ---- honesty

  -- A link that was honest had been so before.
  pub honest_before : (more old : List Passed) → WasHonest gives may_fail (more ++ old) → WasHonest gives may_fail old
  honest_before [] old h = h
  honest_before (p ∷ more) old h = honest_before more old h.1

  -- It is so by now.
  pub honest_now : (history : List Passed) → WasHonest gives may_fail history → IsHonestSoFar gives may_fail (sent_in history) (received_in history)
  honest_now [] h = λ attempt outcome carried ran. absurd ((rows_carry_their_own [] (messages.Done attempt outcome) tt).0 carried)
  honest_now (p ∷ past) h = h.0

  -- ---- open attempts

  -- An open attempt stays served.
  pub stays_served : (old new : List Passed) (said said_now heard heard_now : List Message) (waiting waiting_now : Option Task) (o : Open)
      → IsServed gives may_fail old said heard waiting o
      → ((t : Task) → IsBooked said waiting t → IsBooked said_now waiting_now t)
      → (IsAmong (messages.Cancel o.attempt) said_now → IsAmong (messages.Cancel o.attempt) said)
      → missings_of o.attempt heard ≤ missings_of o.attempt heard_now
      → (WasHonest gives may_fail new → WasHonest gives may_fail old)
      → ((outcome : Outcome) → IsAmong (messages.Done o.attempt outcome) heard_now → HasRun outcome → IsAmong (messages.Done o.attempt outcome) heard)
      → IsServed gives may_fail new said_now heard_now waiting_now o
  stays_served old new said said_now heard heard_now waiting waiting_now o s books cancels missings honest results = record {
    task = s.task;
    booked = books s.task s.booked;
    attempt = s.attempt;
    run = s.run;
    files = s.files;
    bounds = s.bounds;
    kept = λ is. s.kept (cancels is);
    misses = omega (arith, s.misses, missings);
    unanswered = λ h outcome is ran. s.unanswered (honest h) outcome (results outcome is ran) ran;
  }

  -- ---- what is left

  -- How it is found once its link is left.
  pub stands : (history : List Passed) (feed : Stream) (session : State) (said heard : List Message) (waiting : Option Task)
      → Serves gives may_fail history feed session said heard waiting → Stands history said heard
  stands history feed session said heard waiting s =
      record { said_framed = s.said_framed; sent = ([], append-nil (sent_in history) ∙ s.sent); came = (feed.rest, s.came) }

  -- ---- waiting for bytes

  -- Nothing came.
  pub rests : (old new : List Passed) (feed feed_now : Stream) (session session_now : State) (said heard : List Message) (waiting : Option Task)
      → new ≡ old → feed_now ≡ feed → session_now ≡ session → Serves gives may_fail old feed session said heard waiting → Serves gives may_fail new feed_now session_now said heard waiting
  rests old new feed feed_now session session_now said heard waiting same fed stays s =
      subst (λ (h : List Passed). Serves gives may_fail h feed_now session_now said heard waiting) (sym same)
      (subst (λ (f : Stream). Serves gives may_fail old f session_now said heard waiting) (sym fed)
      (subst (λ (x : State). Serves gives may_fail old feed x said heard waiting) (sym stays) s))

  -- The same peer is served.
  pub same_peer : {L : Type 0} (history : L → List Passed) (p q : PeerState L) (said heard : List Message) (waiting : Option Task) → q ≡ p
      → Serves gives may_fail (history p.way) p.feed p.session said heard waiting → Serves gives may_fail (history q.way) q.feed q.session said heard waiting
  same_peer {L} history p q said heard waiting same s = subst (λ (x : PeerState L). Serves gives may_fail (history x.way) x.feed x.session said heard waiting) (sym same) s

  -- A piece came, and was taken.
  pub hears_piece : (old : List Passed) (feed feed_now : Stream) (session : State) (said heard : List Message) (waiting : Option Task) (piece : List ℕ)
      → feed_now.rest ≡ feed.rest ++ piece → feed_now.stop ≡ None
      → Serves gives may_fail old feed session said heard waiting → Serves gives may_fail (Received piece ∷ old) feed_now session said heard waiting
  hears_piece old feed feed_now session said heard waiting piece fed going s = record {
    said_framed = s.said_framed;
    sent = s.sent;
    came = subst (IsStream (received_in old ++ piece) heard) (sym fed) (came_more (received_in old) piece heard feed.rest s.came);
    going = going;
    greeted = s.greeted;
    one_task = s.one_task;
    cancelled = s.cancelled;
    served = all_map (IsServed gives may_fail old said heard waiting) (IsServed gives may_fail (Received piece ∷ old) said heard waiting)
        (λ o is. stays_served old (Received piece ∷ old) said said heard heard waiting waiting o is (λ t b. b) (λ c. c) (omega arith) (λ h. h.1) (λ outcome d ran. d)) session.attempts s.served;
  }

  -- Bytes came or not, and the link is left.
  pub stands_after : (r : Result Got Fault) (old new : List Passed) (said heard : List Message) → Receives r old new → Stands old said heard → Stands new said heard
  stands_after (Ok (Piece piece)) old new said heard is s =
      subst (λ (h : List Passed). Stands h said heard) (sym is) (record {
        said_framed = s.said_framed;
        sent = s.sent;
        came = (s.came.0 ++ piece, came_more (received_in old) piece heard s.came.0 s.came.1);
      })
  stands_after (Ok Idle) old new said heard is s = subst (λ (h : List Passed). Stands h said heard) (sym is) s
  stands_after (Ok Closed) old new said heard is s = subst (λ (h : List Passed). Stands h said heard) (sym is) s
  stands_after (Err fault) old new said heard is s = subst (λ (h : List Passed). Stands h said heard) (sym is) s

  -- ---- an attempt is opened

  booked_or : (said : List Message) (task t : Task) → IsBooked said (Some task) t → IsAmong (messages.Task t) said ⊎ (t ≡ task)
  booked_or said task t (inl is) = inl is
  booked_or said task t (inr same) = inr cc

  only_said : (said : List Message) (t : Task) → IsBooked said None t → IsAmong (messages.Task t) said
  only_said said t (inl is) = is
  only_said said t (inr same) = absurd cc

  one_of : (said : List Message) (task t u : Task) → ((t u : Task) → IsBooked said None t → IsBooked said None u → t.attempt ≡ u.attempt → t ≡ u) → IsNew task.attempt said
      → IsAmong (messages.Task t) said ⊎ (t ≡ task) → IsAmong (messages.Task u) said ⊎ (u ≡ task) → t.attempt ≡ u.attempt → t ≡ u
  one_of said task t u one new (inl a) (inl b) same = one t u (inl a) (inl b) same
  one_of said task t u one new (inl a) (inr b) same = absurd (new t a (same ∙ ap (λ (x : Task). x.attempt) b))
  one_of said task t u one new (inr a) (inl b) same = absurd (new u b (sym same ∙ ap (λ (x : Task). x.attempt) a))
  one_of said task t u one new (inr a) (inr b) same = a ∙ sym b

  -- an attempt that was just opened
  served_first : (history : List Passed) (feed : Stream) (session : State) (said heard : List Message) (task : Task)
      → Serves gives may_fail history feed session said heard None → IsNew task.attempt said → IsServed gives may_fail history said heard (Some task) (opened task)
  served_first history feed session said heard task s new = record {
    task = task;
    booked = inr refl;
    attempt = refl;
    run = refl;
    files = refl;
    bounds = refl;
    kept = λ is. let c = s.cancelled task.attempt is in new c.0 (only_said said c.0 c.1) c.2;
    misses = omega arith;
    unanswered = λ h outcome is ran.
        let done = messages.Done task.attempt outcome in
        let row = (rows_carry_their_own heard done s.came.framed_all).1 is in
        let carried : Carries (received_in history) done =
        subst (λ (w : List ℕ). Carries w done) (sym s.came.are) (carries_more (frames_of heard) feed.rest done row) in
        let a = honest_now history h task.attempt outcome carried ran in
        let asked = (rows_carry_their_own said (messages.Task a.task) s.said_framed).0 (subst (λ (w : List ℕ). Carries w (messages.Task a.task)) s.sent a.asked) in
        new a.task asked a.of_attempt;
  }

  pub opens : (history : List Passed) (feed : Stream) (session : State) (said heard : List Message) (task : Task)
      → Serves gives may_fail history feed session said heard None → IsNew task.attempt said → Serves gives may_fail history feed (started session task) said heard (Some task)
  opens history feed session said heard task s new = record {
    said_framed = s.said_framed;
    sent = s.sent;
    came = s.came;
    going = s.going;
    greeted = s.greeted;
    one_task = λ t u a b same. one_of said task t u s.one_task new (booked_or said task t a) (booked_or said task u b) same;
    cancelled = λ attempt is. let c = s.cancelled attempt is in (c.0, inl (only_said said c.0 c.1), c.2);
    served =
        all_append (IsServed gives may_fail history said heard (Some task)) session.attempts (opened task ∷ [])
        (all_map (IsServed gives may_fail history said heard None) (IsServed gives may_fail history said heard (Some task))
        (λ o is. stays_served history history said said heard heard None (Some task) o is (λ t b. inl (only_said said t b)) (λ c. c) (omega arith) (λ h. h) (λ outcome d ran. d)) session.attempts s.served)
        (served_first history feed session said heard task s new, tt);
  }

  -- ---- a message is said

  -- a message that isn't the cancel of the attempt
  abbrev pub Spares : Message → Open → Type 0
  Spares m o = m ≡ messages.Cancel o.attempt → ⊥

  not_cancelled : (m : Message) (said : List Message) (o : Open) → Spares m o → IsAmong (messages.Cancel o.attempt) said ⊎ (messages.Cancel o.attempt ≡ m) → IsAmong (messages.Cancel o.attempt) said
  not_cancelled m said o spares (inl is) = is
  not_cancelled m said o spares (inr same) = absurd (spares (sym same))

  -- The peer is served with one message more said, by the session as it is then.
  pub says : (old new : List Passed) (feed : Stream) (session session_now : State) (said heard : List Message) (waiting waiting_now : Option Task) (m : Message)
      → ((more : List Passed) × (new ≡ more ++ old)) → received_in new ≡ received_in old → IsFramed m → sent_in new ≡ sent_in old ++ framed m
      → ((t : Task) → IsBooked (said ++ m ∷ []) waiting_now t → IsBooked said waiting t) → ((t : Task) → IsBooked said waiting t → IsBooked (said ++ m ∷ []) waiting_now t)
      → ((attempt : AttemptNo) → m ≡ messages.Cancel attempt → (t : Task) × IsBooked said waiting t × (t.attempt ≡ attempt))
      → session_now.stage ≡ session.stage → AllByRecursion (IsServed gives may_fail old said heard waiting) session_now.attempts → AllByRecursion (Spares m) session_now.attempts
      → Serves gives may_fail old feed session said heard waiting → Serves gives may_fail new feed session_now (said ++ m ∷ []) heard waiting_now
  says old new feed session session_now said heard waiting waiting_now m further came is out back on cancel stage served spares s = record {
    said_framed = framed_append said (m ∷ []) s.said_framed (is, tt);
    sent = out ∙ ap (λ (w : List ℕ). w ++ framed m) s.sent ∙ ap (λ (w : List ℕ). frames_of said ++ w) (sym (append-nil (framed m))) ∙ sym (frames_append said (m ∷ []));
    came = subst (λ (w : List ℕ). IsStream w heard feed.rest) (sym came) s.came;
    going = s.going;
    greeted = subst (λ (x : Stage). HasGreeted x heard) (sym stage) s.greeted;
    one_task = λ t u a b same. s.one_task t u (back t a) (back u b) same;
    cancelled = λ attempt among. by attempt (among_or (messages.Cancel attempt) m said among);
    served = all_with (IsServed gives may_fail old said heard waiting) (Spares m) (IsServed gives may_fail new (said ++ m ∷ []) heard waiting_now)
        (λ o one spare.
        stays_served old new said (said ++ m ∷ []) heard heard waiting waiting_now o one on
        (λ among. not_cancelled m said o spare (among_or (messages.Cancel o.attempt) m said among)) (omega arith)
        (λ h. honest_before further.0 old (subst (WasHonest gives may_fail) further.1 h)) (λ outcome d ran. d))
        session_now.attempts served spares;
  }
    where
      by : (attempt : AttemptNo) → IsAmong (messages.Cancel attempt) said ⊎ (messages.Cancel attempt ≡ m) → (t : Task) × IsBooked (said ++ m ∷ []) waiting_now t × (t.attempt ≡ attempt)
      by attempt (inl among) = let c = s.cancelled attempt among in (c.0, on c.0 c.1, c.2)
      by attempt (inr same) = let c = cancel attempt (sym same) in (c.0, on c.0 c.1, c.2)

  -- The message went out in part or not at all.
  pub breaks_off : (old new : List Passed) (said heard : List Message) (m : Message) → Stands old said heard → sent_in old ≡ frames_of said → received_in new ≡ received_in old
      → (sent_in new ≡ sent_in old) ⊎ (IsFramed m × ((more : List ℕ) × (sent_in new ++ more ≡ sent_in old ++ framed m))) → Stands new said heard ⊎ Stands new (said ++ m ∷ []) heard
  breaks_off old new said heard m s sent came (inl none) = inl (record {
    said_framed = s.said_framed;
    sent = ([], append-nil (sent_in new) ∙ none ∙ sent);
    came = (s.came.0, subst (λ (w : List ℕ). IsStream w heard s.came.0) (sym came) s.came.1);
  })
  breaks_off old new said heard m s sent came (inr (is, (more, out))) = inr (record {
    said_framed = framed_append said (m ∷ []) s.said_framed (is, tt);
    sent = (more, out ∙ ap (λ (w : List ℕ). w ++ framed m) sent ∙ ap (λ (w : List ℕ). frames_of said ++ w) (sym (append-nil (framed m))) ∙ sym (frames_append said (m ∷ [])));
    came = (s.came.0, subst (λ (w : List ℕ). IsStream w heard s.came.0) (sym came) s.came.1);
  })

-- ---- what is due

due_of : (due : Contents) (key : Key) (content : List ℕ) (m : Message) → IsDueSay due m → messages.Put key content ≡ m → due key.file.0 ≡ Some content
due_of due key content m is same = subst (IsDueSay due) (sym same) is

due_or : (due : Contents) (said : List Message) (m : Message) (key : Key) (content : List ℕ) → AreDue due said → IsDueSay due m
    → IsAmong (messages.Put key content) said ⊎ (messages.Put key content ≡ m) → due key.file.0 ≡ Some content
due_or due said m key content puts is (inl among) = puts key content among
due_or due said m key content puts is (inr same) = due_of due key content m is same

pub stays_due : DueStaysDue
stays_due due said m puts is key content among = due_or due said m key content puts is (among_or (messages.Put key content) m said among)
