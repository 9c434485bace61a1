-- A sure peer gives no reason to leave its link, and loses no attempt.
use Rattle.std.proofs.Common.{◌≡◌, ◌⊎◌, inl, inr, ℕ, Bool, true, false, List, [], ◌∷◌, ◌++◌, Option, Some, None, Result, Ok, Err, refl, sym, ap, ◌∙◌, subst, append_assoc, append-nil}
use Rattle.std.specs.Prelude.{slice_get}
use Rattle.flow_types.specs.declared.job.Failure.{Failure}
use Rattle.flow_types.specs.declared.job.Job.{Job}
use Rattle.flow_types.specs.declared.job.Outcome.{Outcome}
use Rattle.flow_types.specs.declared.job.Outcome.TheVariants as outcomes
use Rattle.flow_types.specs.declared.job.Task.{Task}
use Rattle.flow_types.specs.declared.messages.Message.{Message}
use Rattle.flow_types.specs.declared.messages.Message.TheVariants as messages
use Rattle.flow_types.specs.declared.numbers.AttemptNo.{AttemptNo}
use Rattle.flow_types.specs.Serial.{Function}
use Rattle.links.specs.declared.passing.Passed.{Passed}
use Rattle.links.specs.Honesty.{AreGood, HasRun, IsGood, IsHelloFirst, IsOrderly, IsOwed, IsWithinBounds, OwesNothing}
use Rattle.links.specs.Ill.{IsHello, OutcomeFits}
use Rattle.links.specs.Passings.{received_in, sent_in}
use Rattle.link_session.specs.declared.open.Open.{Open}
use Rattle.link_session.specs.declared.session.Stage.{Stage}
use Rattle.link_session.specs.declared.session.Stage.TheVariants as stages
use Rattle.link_session.specs.declared.word.Word.{Word}
use Rattle.link_session.specs.declared.word.Word.TheVariants as words
use Rattle.link_session.specs.declared.word.SessionFault.{SessionFault}
use Rattle.link_session.specs.declared.word.SessionFault.TheVariants as faults
use Rattle.link_session.specs.Fits.{outcome_fits}
use Rattle.link_session.specs.Sessions.{State, ended_at, ended_by, greets, hears, is_open, place, told, told_by}
use Rattle.message_forms.proofs.Parses.{begin_together, broken_begins_no_frame, carries_more, rows_carry_their_own}
use Rattle.message_forms.specs.Streams.{AreFramed, Carries, IsAmong, IsBroken, bad, framed, frames_of, too_long}
use Rattle.byteorder.specs.Endian.{big_bytes}
use Rattle.message_forms.specs.Streams.{frame}
use Rattle.wq_frames.specs.Frames.{front, part}
use Rattle.wq_frames.specs.Streams.{Stream}
use Rattle.wq_messages.proofs.Shown.{spelled_apart}
use Rattle.peers.specs.declared.leave.Leave.{Leave}
use Rattle.peers.specs.declared.leave.Leave.TheVariants as leaves
use Rattle.peers.specs.declared.told.Told.{Told as Saying}
use Rattle.peers.specs.declared.told.Told.TheVariants as tell
use Rattle.peers.specs.Hears.{Hears, IsCalm, Takes, Turns, told_as}
use Rattle.peers.specs.Serves.{HasGreeted, IsServed, Serves, WasHonest}
use Rattle.peers.proofs.Hearing.{still_owed}
use Rattle.peers.proofs.Fits.{fits_by}
use Rattle.peers.proofs.Frames.{came_next}
use Rattle.peers.proofs.Opens.{Placed, all_get, placed}

-- ---- a row that begins another

-- what stands behind the messages of a row that begin another
pub record Begun (xs ys : List Message) (a : List ℕ) : Type 0 where
  pub more : List Message
  pub row : ys ≡ xs ++ more
  pub left : a ≡ frames_of more

no_frame : (n : Message) (y : List ℕ) → framed n ++ y ≡ [] → ⊥
no_frame n y same = cc

begun : (xs ys : List Message) (a : List ℕ) → AreFramed xs → AreFramed ys → frames_of xs ++ a ≡ frames_of ys → Begun xs ys a
begun [] ys a all some same = record { more = ys; row = refl; left = same }
begun (x ∷ xs) [] a all some same = absurd (no_frame x (frames_of xs ++ a) (sym (append_assoc (framed x) (frames_of xs) a) ∙ same))
begun (x ∷ xs) (y ∷ ys) a all some same =
    let step = begin_together spelled_apart x y (frames_of xs ++ a) (frames_of ys) all.0 some.0 (sym (append_assoc (framed x) (frames_of xs) a) ∙ same) in
    let b = begun xs ys a all.1 some.1 step.1 in
    record { more = b.more; row = ap (λ (z : Message). z ∷ ys) (sym step.0) ∙ ap (λ (zs : List Message). x ∷ zs) b.row; left = b.left }

framed_right : (xs ys : List Message) → AreFramed (xs ++ ys) → AreFramed ys
framed_right [] ys all = all
framed_right (x ∷ xs) ys all = framed_right xs ys all.1

broken_more : (bytes more : List ℕ) → IsBroken bytes → IsBroken (bytes ++ more)
broken_more bytes more (too_long n after small long is) =
    too_long n (after ++ more) small long (ap (λ (w : List ℕ). w ++ more) is ∙ append_assoc (big_bytes 4 n) after more)
broken_more bytes more (bad body after few none is) =
    bad body (after ++ more) few none (ap (λ (w : List ℕ). w ++ more) is ∙ append_assoc (frame body) after more)

broken_some : (bytes more : List ℕ) → IsBroken bytes → bytes ++ more ≡ [] → ⊥
broken_some bytes more (too_long n after small long is) none =
    let same : (big_bytes 4 n ++ after) ++ more ≡ [] = ap (λ (w : List ℕ). w ++ more) (sym is) ∙ none in
    let wrong : ⊥ = cc in wrong
broken_some bytes more (bad body after few not is) none =
    let same : (frame body ++ after) ++ more ≡ [] = ap (λ (w : List ℕ). w ++ more) (sym is) ∙ none in
    let wrong : ⊥ = cc in wrong

broken_begins : (bytes more : List ℕ) (zs : List Message) → AreFramed zs → IsBroken bytes → bytes ++ more ≡ frames_of zs → ⊥
broken_begins bytes more [] all broken same = broken_some bytes more broken same
broken_begins bytes more (z ∷ zs) all broken same =
    broken_begins_no_frame (bytes ++ more) z (broken_more bytes more broken)
    (frames_of zs, record { framed_all = (all.0, tt); are = same ∙ ap (λ (w : List ℕ). w ++ frames_of zs) (sym (append-nil (framed z))) })

-- ---- what comes in order

hello_of : (down : List ℕ) (x : Message) (ms : List Message) → IsHelloFirst down (x ∷ ms) → IsHello x × AreGood down ms
hello_of down (messages.Hello total largest cache) ms is = (tt, is)
hello_of down (messages.Put key content) ms is = absurd is
hello_of down (messages.Task task) ms is = absurd is
hello_of down (messages.Done attempt outcome) ms is = absurd is
hello_of down (messages.Missing attempt files) ms is = absurd is
hello_of down (messages.Cancel attempt) ms is = absurd is
hello_of down (messages.Unlink key) ms is = absurd is
hello_of down (messages.Totals total largest cache) ms is = absurd is
hello_of down messages.Bye ms is = absurd is

good_at : (down : List ℕ) (between : List Message) (m : Message) (more : List Message) → AreGood down ((between ++ m ∷ []) ++ more) → IsGood down m
good_at down [] m more all = all.0
good_at down (x ∷ between) m more all = good_at down between m more all.1

-- ---- what a session says of it

abbrev IsCalmWord : Word → Type 0
IsCalmWord (words.Joined total largest cache) = Unit {0}
IsCalmWord (words.Changed total largest cache) = Unit {0}
IsCalmWord (words.Finish attempt) = Unit {0}
IsCalmWord (words.Fail attempt why) = ⊥
IsCalmWord (words.Lose attempt) = ⊥
IsCalmWord (words.PutAgain attempt files) = ⊥
IsCalmWord (words.Stale attempt) = Unit {0}

abbrev IsCalmAnswer : Result Word SessionFault → Type 0
IsCalmAnswer (Ok word) = IsCalmWord word
IsCalmAnswer (Err faults.Unexpected) = ⊥
IsCalmAnswer (Err faults.Memory) = Unit {0}

calm_as : (word : Word) (m : Message) → IsCalmWord word → (let r : Result Saying Leave = Ok (told_as word m) in IsCalm r)
calm_as (words.Joined total largest cache) m is = tt
calm_as (words.Changed total largest cache) m is = tt
calm_as (words.Finish attempt) m is = tt
calm_as (words.Fail attempt why) m is = is
calm_as (words.Lose attempt) m is = is
calm_as (words.PutAgain attempt files) m is = is
calm_as (words.Stale attempt) m is = tt

module _ (gives : Function) (may_fail : Job → Failure → Type 0) (history : List Passed) (said heard : List Message) (feed next : Stream) (s : State)
    (serves : Serves gives may_fail history feed s said heard None) (orderly : IsOrderly (sent_in history) (received_in history)) where
  -- the row goes on behind what was heard and this message
  goes_on : (m : Message) → Takes m feed next → Begun (heard ++ m ∷ []) orderly.messages_up (next.rest ++ orderly.begin.0)
  goes_on m takes =
      let came = came_next (received_in history) heard feed.rest next.rest m serves.came takes.whole takes.parts in
      begun (heard ++ m ∷ []) orderly.messages_up (next.rest ++ orderly.begin.0) came.framed_all orderly.framed_all
      (sym (append_assoc (frames_of (heard ++ m ∷ [])) next.rest orderly.begin.0) ∙ ap (λ (w : List ℕ). w ++ orderly.begin.0) (sym came.are) ∙ sym orderly.begin.1)

  in_order : (m : Message) → Takes m feed next → (more : List Message) × IsHelloFirst (sent_in history) ((heard ++ m ∷ []) ++ more)
  in_order m takes = let b = goes_on m takes in (b.more, subst (IsHelloFirst (sent_in history)) b.row orderly.hello_first)

  first_is : (m : Message) → Takes m feed next → heard ≡ [] → IsHello m
  first_is m takes none =
      let o = in_order m takes in
      (hello_of (sent_in history) m o.0 (subst (λ (ms : List Message). IsHelloFirst (sent_in history) ((ms ++ m ∷ []) ++ o.0)) none o.1)).0

  later_is : (m hello : Message) (between : List Message) → Takes m feed next → heard ≡ hello ∷ between → IsGood (sent_in history) m
  later_is m hello between takes same =
      let o = in_order m takes in
      good_at (sent_in history) between m o.0
      (hello_of (sent_in history) hello ((between ++ m ∷ []) ++ o.0) (subst (λ (ms : List Message). IsHelloFirst (sent_in history) ((ms ++ m ∷ []) ++ o.0)) same o.1)).1

  calm_first : (m : Message) → IsHello m → IsCalmAnswer (greets s m).answer
  calm_first (messages.Hello total largest cache) is = tt
  calm_first (messages.Put key content) is = absurd is
  calm_first (messages.Task task) is = absurd is
  calm_first (messages.Done attempt outcome) is = absurd is
  calm_first (messages.Missing attempt files) is = absurd is
  calm_first (messages.Cancel attempt) is = absurd is
  calm_first (messages.Unlink key) is = absurd is
  calm_first (messages.Totals total largest cache) is = absurd is
  calm_first messages.Bye is = absurd is

  said_of : (t : Task) → IsAmong (messages.Task t) said ⊎ ((let none : Option Task = None in none) ≡ Some t) → IsAmong (messages.Task t) said
  said_of t (inl is) = is
  said_of t (inr same) = absurd cc

  -- a success within the bounds of its task fits the task that is kept
  fits_kept : (attempt : AttemptNo) (contents : List (List ℕ)) (o : Open) → (is : IsServed gives may_fail history said heard None o) → o.attempt ≡ attempt → IsWithinBounds (sent_in history) attempt contents
      → OutcomeFits is.task (outcomes.Success contents)
  fits_kept attempt contents o is same w =
      let t = w.0 in
      let ours : IsAmong (messages.Task t) said = (rows_carry_their_own said (messages.Task t) serves.said_framed).0 (subst (λ (b : List ℕ). Carries b (messages.Task t)) serves.sent w.2) in
      let one : t ≡ is.task = serves.one_task t is.task (inl ours) is.booked (w.1 ∙ sym same ∙ is.attempt) in
      subst (λ (x : Task). OutcomeFits x (outcomes.Success contents)) one (w.3, w.4)

  calm_fits : (attempt : AttemptNo) (contents : List (List ℕ)) (at : ℕ) (o : Open) (b : Bool) → outcome_fits o.bounds (outcomes.Success contents) ≡ b
      → IsServed gives may_fail history said heard None o → o.attempt ≡ attempt → IsWithinBounds (sent_in history) attempt contents
      → IsCalmAnswer (ended_by s attempt (outcomes.Success contents) at (Some o)).answer
  calm_fits attempt contents at o true e is same w = rw e tt
  calm_fits attempt contents at o false e is same w = absurd (fits_by is.task o.bounds (outcomes.Success contents) false is.bounds e (fits_kept attempt contents o is same w))

  calm_at : (attempt : AttemptNo) (contents : List (List ℕ)) (at : ℕ) (p : Option Open) → slice_get s.attempts at ≡ p → Placed attempt s.attempts at → IsWithinBounds (sent_in history) attempt contents
      → IsCalmAnswer (ended_by s attempt (outcomes.Success contents) at p).answer
  calm_at attempt contents at None is here w = tt
  calm_at attempt contents at (Some o) is here w =
      let same : here.it ≡ o = cc (sym here.there_it_is ∙ is) in
      calm_fits attempt contents at o (outcome_fits o.bounds (outcomes.Success contents)) refl (all_get (IsServed gives may_fail history said heard None) s.attempts at o is serves.served)
      (sym (ap (λ (x : Open). x.attempt) same) ∙ here.of_it) w

  calm_success : (attempt : AttemptNo) (contents : List (List ℕ)) (p : Option ℕ) → place attempt s.attempts ≡ p → IsWithinBounds (sent_in history) attempt contents
      → IsCalmAnswer (ended_at s attempt (outcomes.Success contents) p).answer
  calm_success attempt contents None is w = tt
  calm_success attempt contents (Some at) is w = calm_at attempt contents at (slice_get s.attempts at) refl (placed attempt s.attempts at is) w

  calm_later : (m : Message) → IsGood (sent_in history) m → IsCalmAnswer (hears s m).answer
  calm_later (messages.Totals total largest cache) good = tt
  calm_later (messages.Done attempt (outcomes.Success contents)) good = calm_success attempt contents (place attempt s.attempts) refl good
  calm_later (messages.Done attempt (outcomes.Failed why)) good = absurd good
  calm_later (messages.Done attempt outcomes.NotRun) good = absurd good
  calm_later (messages.Hello total largest cache) good = absurd good
  calm_later (messages.Put key content) good = absurd good
  calm_later (messages.Task task) good = absurd good
  calm_later (messages.Missing attempt files) good = absurd good
  calm_later (messages.Cancel attempt) good = absurd good
  calm_later (messages.Unlink key) good = absurd good
  calm_later messages.Bye good = absurd good

  calm_by : (stage : Stage) (m : Message) → s.stage ≡ stage → Takes m feed next → IsCalmAnswer (told_by s m stage).answer
  calm_by stages.New m is takes = calm_first m (first_is m takes (subst (λ (x : Stage). HasGreeted x heard) is serves.greeted))
  calm_by stages.Greeted m is takes =
      let h = subst (λ (x : Stage). HasGreeted x heard) is serves.greeted in
      calm_later m (later_is m h.0 h.1 takes h.3)
  calm_by stages.Broken m is takes = absurd (subst (λ (x : Stage). HasGreeted x heard) is serves.greeted)

  calm_told : (m : Message) → Takes m feed next → IsCalmAnswer (told s m).answer
  calm_told m takes = calm_by s.stage m refl takes

  calm_turn : (m : Message) (t : Saying) (after : State) → Takes m feed next → (let r : Result Saying Leave = Ok t in Turns s m r after) → (let r : Result Saying Leave = Ok t in IsCalm r)
  calm_turn m t after takes turns =
      subst (λ (x : Saying). let r : Result Saying Leave = Ok x in IsCalm r) (sym turns.4) (calm_as turns.0 m (subst IsCalmAnswer turns.1 (calm_told m takes)))

  no_break : IsBroken feed.rest → ⊥
  no_break broken =
      let b = begun heard orderly.messages_up (feed.rest ++ orderly.begin.0) serves.came.framed_all orderly.framed_all
      (sym (append_assoc (frames_of heard) feed.rest orderly.begin.0) ∙ ap (λ (w : List ℕ). w ++ orderly.begin.0) (sym serves.came.are) ∙ sym orderly.begin.1) in
      broken_begins feed.rest orderly.begin.0 b.more (framed_right heard b.more (subst AreFramed b.row orderly.framed_all)) broken b.left

  -- What a sure peer tells.
  pub calm : (r : Result Saying Leave) (after : State) → Hears feed s r next after → IsCalm r
  calm (Ok tell.Nothing) after h = tt
  calm (Ok (tell.Joined total largest cache)) after h = tt
  calm (Ok (tell.Changed total largest cache)) after h = tt
  calm (Ok (tell.Finish attempt outs)) after h = tt
  calm (Ok (tell.Fail attempt why)) after h = calm_turn h.0 (tell.Fail attempt why) after h.1 h.2
  calm (Ok (tell.Lose attempt)) after h = calm_turn h.0 (tell.Lose attempt) after h.1 h.2
  calm (Ok (tell.PutAgain attempt files)) after h = calm_turn h.0 (tell.PutAgain attempt files) after h.1 h.2
  calm (Ok (tell.Stale attempt)) after h = tt
  calm (Err leaves.Memory) after h = tt
  calm (Err leaves.Bad) after h = no_break h.0
  calm (Err leaves.Unexpected) after h = subst IsCalmAnswer h.2.0 (calm_told h.0 h.1)
  calm (Err leaves.Closed) after h = h
  calm (Err leaves.Failed) after h = h

  -- ---- a peer that owes nothing

  -- a message that came stands in the row
  in_row : (m : Message) → Carries (received_in history) m → IsAmong m orderly.messages_up
  in_row m c =
      (rows_carry_their_own orderly.messages_up m orderly.framed_all).0
      (subst (λ (w : List ℕ). Carries w m) (sym orderly.begin.1) (carries_more (received_in history) orderly.begin.0 m c))

  good_run : (attempt : AttemptNo) (outcome : Outcome) → IsGood (sent_in history) (messages.Done attempt outcome) → HasRun outcome
  good_run attempt (outcomes.Success contents) good = tt
  good_run attempt (outcomes.Failed why) good = absurd good
  good_run attempt outcomes.NotRun good = absurd good

  run_in : (attempt : AttemptNo) (outcome : Outcome) (ms : List Message) → AreGood (sent_in history) ms → IsAmong (messages.Done attempt outcome) ms → HasRun outcome
  run_in attempt outcome [] all among = absurd among
  run_in attempt outcome (x ∷ ms) all (inl same) = good_run attempt outcome (subst (IsGood (sent_in history)) (sym same) all.0)
  run_in attempt outcome (x ∷ ms) all (inr later) = run_in attempt outcome ms all.1 later

  run_first : (attempt : AttemptNo) (outcome : Outcome) (x : Message) → IsHello x → messages.Done attempt outcome ≡ x → ⊥
  run_first attempt outcome x is same = subst IsHello (sym same) is

  has_run : (attempt : AttemptNo) (outcome : Outcome) (ms : List Message) → IsHelloFirst (sent_in history) ms → IsAmong (messages.Done attempt outcome) ms → HasRun outcome
  has_run attempt outcome [] first among = absurd among
  has_run attempt outcome (x ∷ ms) first (inl same) = absurd (run_first attempt outcome x (hello_of (sent_in history) x ms first).0 same)
  has_run attempt outcome (x ∷ ms) first (inr later) = run_in attempt outcome ms (hello_of (sent_in history) x ms first).1 later

  -- A task that is owed is not open, where nothing is owed and nothing whole is left.
  pub settled : (t : Task) → WasHonest gives may_fail history → OwesNothing (sent_in history) (received_in history) → IsOwed (sent_in history) t → front feed.rest ≡ part
      → is_open t.attempt s.attempts ≡ true → ⊥
  settled t honest owes owed none is =
      let done = owes.done t owed in
      let ran = has_run t.attempt done.0 orderly.messages_up orderly.hello_first (in_row (messages.Done t.attempt done.0) done.1) in
      let open_one = still_owed gives may_fail history said heard feed next s serves t.attempt is none in
      open_one.0.open_still honest done.0 (subst (λ (a : AttemptNo). Carries (received_in history) (messages.Done a done.0)) (sym open_one.1) done.1) ran
