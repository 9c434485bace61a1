-- What a served peer's next message makes of it.
use Rattle.std.proofs.Common.{◌≡◌, ◌≤◌, ◌⊎◌, inl, inr, ℕ, ◌+◌, Bool, true, false, List, [], ◌∷◌, ◌++◌, Option, Some, None, is_some, Result, Ok, Err, refl, sym, ap, ◌∙◌, subst, arith}
use Rattle.std.specs.Prelude.{◌==◌, if◌then◌else◌, nat_lt, slice_get, slice_set, remove}
use Rattle.std.specs.List.{AllByRecursion}
use Rattle.std.proofs.lemmas.Bool.{ltb-false, eq-eqb}
use Rattle.flow_types.specs.declared.job.Failure.{Failure}
use Rattle.flow_types.specs.declared.job.Job.{Job}
use Rattle.flow_types.specs.declared.job.Outcome.{Outcome}
use Rattle.flow_types.specs.declared.job.Outcome.TheVariants as outcomes
use Rattle.flow_types.specs.declared.job.Task.{Task}
use Rattle.flow_types.specs.declared.messages.Message.{Message}
use Rattle.flow_types.specs.declared.messages.Message.TheVariants as messages
use Rattle.flow_types.specs.declared.numbers.AttemptNo.{AttemptNo}
use Rattle.flow_types.specs.declared.numbers.FileNo.{FileNo}
use Rattle.flow_types.specs.Serial.{Function}
use Rattle.links.proofs.Asking.{answered_due}
use Rattle.links.specs.declared.passing.Passed.{Passed}
use Rattle.links.specs.Honesty.{Answers, HasRun}
use Rattle.links.specs.Ill.{IsHello, Misspeaks, Suits, broken, no_hello, hello_again, goes_down, unfit}
use Rattle.links.specs.Passings.{received_in, sent_in}
use Rattle.links.specs.Peers.{IsAskingRight}
use Rattle.link_session.specs.declared.open.Open.{Open}
use Rattle.link_session.specs.declared.session.Stage.{Stage}
use Rattle.link_session.specs.declared.session.Stage.TheVariants as stages
use Rattle.link_session.specs.declared.word.Word.{Word}
use Rattle.link_session.specs.declared.word.Word.TheVariants as words
use Rattle.link_session.specs.declared.word.SessionFault.{SessionFault}
use Rattle.link_session.specs.declared.word.SessionFault.TheVariants as faults
use Rattle.link_session.specs.Fits.{has_all, outcome_fits}
use Rattle.link_session.specs.Keys.{all_forgotten}
use Rattle.link_session.specs.Laws.{Closes, ended_by_word}
use Rattle.link_session.specs.Sessions.{State, closed_at, ended_at, ended_by, hears, greets, is_open, lacked_at, lacked_by, missed, most_misses, place, told, told_by, word_of}
use Rattle.message_forms.proofs.Parses.{rows_carry_their_own}
use Rattle.message_forms.specs.Streams.{BeginsWith, Carries, IsAmong, IsStream}
use Rattle.wq_frames.specs.Frames.{front, part}
use Rattle.wq_frames.specs.Streams.{Stream}
use Rattle.peers.specs.declared.leave.Leave.{Leave}
use Rattle.peers.specs.declared.leave.Leave.TheVariants as leaves
use Rattle.peers.specs.declared.told.Told.{Told as Saying}
use Rattle.peers.specs.declared.told.Told.TheVariants as tell
use Rattle.peers.specs.Hears.{Hears, IsResult, ServesOn, Takes, Tells, Turns, told_as}
use Rattle.peers.specs.Serves.{HasGreeted, IsServed, IsStillOwed, Serves, missings_of}
use Rattle.peers.proofs.Fits.{fits_by, takes_by}
use Rattle.peers.proofs.Frames.{came_next, carried_heard}
use Rattle.peers.proofs.Opens.{IsOther, Placed, all_get, all_left, all_of, all_set, all_with, others, placed}
use Rattle.peers.proofs.Serving.{among_last, among_or, honest_now, missings_append, missings_more, stands, stays_served}

-- the message isn't a result of the attempt
abbrev IsNoResult : Message → Open → Type 0
IsNoResult m o = (outcome : Outcome) → m ≡ messages.Done o.attempt outcome → HasRun outcome → ⊥

-- a result of one attempt isn't one of another
other_done : (attempt : AttemptNo) (outcome : Outcome) (o : Open) → IsOther attempt o → IsNoResult (messages.Done attempt outcome) o
other_done attempt outcome o other = λ found same ran. other (cc)

not_run : (attempt : AttemptNo) (o : Open) → IsNoResult (messages.Done attempt outcomes.NotRun) o
not_run attempt o = λ found same ran. ran_not found (cc) ran
  where
    ran_not : (found : Outcome) → found ≡ outcomes.NotRun → HasRun found → ⊥
    ran_not outcomes.NotRun e ran = ran
    ran_not (outcomes.Success contents) e ran = cc
    ran_not (outcomes.Failed why) e ran = cc

module _ (gives : Function) (may_fail : Job → Failure → Type 0) (history : List Passed) (said heard : List Message) where
  -- an open attempt, served
  abbrev Is : List Message → Open → Type 0
  Is found o = IsServed gives may_fail history said found None o

  result_before : (m : Message) (o : Open) (outcome : Outcome) → IsNoResult m o → HasRun outcome → IsAmong (messages.Done o.attempt outcome) heard ⊎ (messages.Done o.attempt outcome ≡ m)
      → IsAmong (messages.Done o.attempt outcome) heard
  result_before m o outcome none ran (inl is) = is
  result_before m o outcome none ran (inr same) = absurd (none outcome (sym same) ran)

  served_one : (m : Message) (o : Open) → Is heard o → IsNoResult m o → Is (heard ++ m ∷ []) o
  served_one m o is none =
      stays_served gives may_fail history history said said heard (heard ++ m ∷ []) None None o is (λ t b. b) (λ c. c) (missings_more o.attempt heard (m ∷ [])) (λ h. h)
      (λ outcome among ran. result_before m o outcome none ran (among_or (messages.Done o.attempt outcome) m heard among))

  -- each open attempt is served on
  served_next : (m : Message) (os : List Open) → AllByRecursion (Is heard) os → AllByRecursion (IsNoResult m) os → AllByRecursion (Is (heard ++ m ∷ [])) os
  served_next m os all none = all_with (Is heard) (IsNoResult m) (Is (heard ++ m ∷ [])) (λ o is no_result. served_one m o is no_result) os all none

  -- the task of an open attempt was said
  pub asked_of : (t : Task) → IsAmong (messages.Task t) said ⊎ ((let none : Option Task = None in none) ≡ Some t) → IsAmong (messages.Task t) said
  asked_of t (inl is) = is
  asked_of t (inr same) = absurd cc

  -- What a step of the session comes to, by its answer.
  abbrev Comes : Stream → Message → State → Result Word SessionFault → State → Type 0
  Comes next m s (Ok word) after = Closes (ended_by_word word) s.attempts after.attempts → Tells gives may_fail history next after said heard (told_as word m)
  Comes next m s (Err faults.Unexpected) after = Misspeaks (sent_in history) (received_in history)
  Comes next m s (Err faults.Memory) after = Unit {0}

  module _ (feed next : Stream) (s : State) (serves : Serves gives may_fail history feed s said heard None) where
    came : (m : Message) → Takes m feed next → IsStream (received_in history) (heard ++ m ∷ []) next.rest
    came m takes = came_next (received_in history) heard feed.rest next.rest m serves.came takes.whole takes.parts

    carried : (m : Message) → Takes m feed next → Carries (received_in history) m
    carried m takes = (heard, (next.rest, came m takes))

    -- the peer is served with this message more heard
    serves_next : (m : Message) (after : State) → Takes m feed next → HasGreeted after.stage (heard ++ m ∷ []) → AllByRecursion (Is (heard ++ m ∷ [])) after.attempts
        → Serves gives may_fail history next after said (heard ++ m ∷ []) None
    serves_next m after takes greeted served = record {
      said_framed = serves.said_framed;
      sent = serves.sent;
      came = came m takes;
      going = takes.going;
      greeted = greeted;
      one_task = serves.one_task;
      cancelled = serves.cancelled;
      served = served;
    }

    -- a task that was said went down
    went_down : (t : Task) → IsAmong (messages.Task t) said → Carries (sent_in history) (messages.Task t)
    went_down t is =
        subst (λ (w : List ℕ). Carries w (messages.Task t)) (sym serves.sent) ((rows_carry_their_own said (messages.Task t) serves.said_framed).1 is)

    -- ---- the first message

    begins : (m : Message) → Takes m feed next → heard ≡ [] → BeginsWith (received_in history) (m ∷ [])
    begins m takes none = (next.rest, subst (λ (ms : List Message). IsStream (received_in history) (ms ++ m ∷ []) next.rest) none (came m takes))

    first : (m : Message) → Takes m feed next → heard ≡ [] → Comes next m s (greets s m).answer (greets s m).state
    first (messages.Hello total largest cache) takes none = λ closes.
        let m = messages.Hello total largest cache in
        let alone : heard ++ m ∷ [] ≡ m ∷ [] = ap (λ (ms : List Message). ms ++ m ∷ []) none in
        record {
          message = m;
          serves = serves_next m (record s { stage = stages.Greeted }) takes (m, [], tt, alone)
              (served_next m s.attempts serves.served (all_of (IsNoResult m) (λ o outcome same ran. let wrong : ⊥ = cc in wrong) s.attempts));
          is_so = alone;
        }
    first (messages.Put key content) takes none = no_hello (messages.Put key content) (begins (messages.Put key content) takes none) (λ h. h)
    first (messages.Task task) takes none = no_hello (messages.Task task) (begins (messages.Task task) takes none) (λ h. h)
    first (messages.Done attempt outcome) takes none = no_hello (messages.Done attempt outcome) (begins (messages.Done attempt outcome) takes none) (λ h. h)
    first (messages.Missing attempt files) takes none = no_hello (messages.Missing attempt files) (begins (messages.Missing attempt files) takes none) (λ h. h)
    first (messages.Cancel attempt) takes none = no_hello (messages.Cancel attempt) (begins (messages.Cancel attempt) takes none) (λ h. h)
    first (messages.Unlink key) takes none = no_hello (messages.Unlink key) (begins (messages.Unlink key) takes none) (λ h. h)
    first (messages.Totals total largest cache) takes none = no_hello (messages.Totals total largest cache) (begins (messages.Totals total largest cache) takes none) (λ h. h)
    first messages.Bye takes none = no_hello messages.Bye (begins messages.Bye takes none) (λ h. h)

    -- ---- behind the hello

    module _ (greeted : s.stage ≡ stages.Greeted) where
      first_heard : HasGreeted stages.Greeted heard
      first_heard = subst (λ (x : Stage). HasGreeted x heard) greeted serves.greeted

      greeted_next : (m : Message) (stage : Stage) → stage ≡ s.stage → HasGreeted stage (heard ++ m ∷ [])
      greeted_next m stage same =
          let h = first_heard in
          let now : HasGreeted stages.Greeted (heard ++ m ∷ []) = (h.0, h.1 ++ m ∷ [], h.2, ap (λ (ms : List Message). ms ++ m ∷ []) h.3) in
          subst (λ (x : Stage). HasGreeted x (heard ++ m ∷ [])) (sym (same ∙ greeted)) now

      -- ---- the end of an attempt

      -- how an attempt ended, by the task that was said
      result_of : (attempt : AttemptNo) (outcome : Outcome) (o : Open) → Takes (messages.Done attempt outcome) feed next → Is heard o → o.attempt ≡ attempt → HasRun outcome
          → outcome_fits o.bounds outcome ≡ true → IsResult gives may_fail history said (heard ++ messages.Done attempt outcome ∷ []) attempt outcome
      result_of attempt outcome o takes is same ran fits =
          let its : is.task.attempt ≡ attempt = sym is.attempt ∙ same in
          let ours = asked_of is.task is.booked in
          record {
            came = among_last (messages.Done attempt outcome) heard;
            task = is.task;
            of_attempt = its;
            asked = ours;
            fits = fits_by is.task o.bounds outcome true is.bounds fits;
            honest = λ due puts h.
                let right : IsAskingRight due said =
                record { framed_all = serves.said_framed; one_task = λ t u a b same_attempt. serves.one_task t u (inl a) (inl b) same_attempt; due_content = puts } in
                let a : Answers gives may_fail (sent_in history) attempt outcome = honest_now gives may_fail history h attempt outcome (carried (messages.Done attempt outcome) takes) ran in
                answered_due gives may_fail due (sent_in history) said is.task outcome right serves.sent ours
                (subst (λ (n : AttemptNo). Answers gives may_fail (sent_in history) n outcome) (sym its) a);
          }

      closing : (attempt : AttemptNo) (outcome : Outcome) (at : ℕ) → Takes (messages.Done attempt outcome) feed next → is_open attempt (remove s.attempts at) ≡ false
          → Serves gives may_fail history next (closed_at s at) said (heard ++ messages.Done attempt outcome ∷ []) None
      closing attempt outcome at takes closed =
          let m = messages.Done attempt outcome in
          let left = remove s.attempts at in
          serves_next m (closed_at s at) takes (greeted_next m s.stage refl)
          (served_next m left (all_left (Is heard) s.attempts at serves.served)
          (all_with (IsOther attempt) (IsOther attempt) (IsNoResult m) (λ o other again. other_done attempt outcome o other) left (others attempt left closed) (others attempt left closed)))

      ends_well : (attempt : AttemptNo) (outcome : Outcome) (at : ℕ) (o : Open) → Takes (messages.Done attempt outcome) feed next → Is heard o → o.attempt ≡ attempt
          → outcome_fits o.bounds outcome ≡ true → Comes next (messages.Done attempt outcome) s (Ok (word_of attempt outcome)) (closed_at s at)
      ends_well attempt (outcomes.Success contents) at o takes is same fits = λ closes. record {
        message = messages.Done attempt (outcomes.Success contents);
        serves = closing attempt (outcomes.Success contents) at takes closes.1;
        is_so = result_of attempt (outcomes.Success contents) o takes is same tt fits;
      }
      ends_well attempt (outcomes.Failed why) at o takes is same fits = λ closes. record {
        message = messages.Done attempt (outcomes.Failed why);
        serves = closing attempt (outcomes.Failed why) at takes closes.1;
        is_so = result_of attempt (outcomes.Failed why) o takes is same tt fits;
      }
      ends_well attempt outcomes.NotRun at o takes is same fits = λ closes. record {
        message = messages.Done attempt outcomes.NotRun;
        serves = closing attempt outcomes.NotRun at takes closes.1;
        is_so = inl (among_last (messages.Done attempt outcomes.NotRun) heard);
      }

      -- a message against the task of its attempt
      against : (m : Message) (t : Task) → Takes m feed next → IsAmong (messages.Task t) said → (Suits t m → ⊥) → Misspeaks (sent_in history) (received_in history)
      against m t takes asked wrong = unfit t m (went_down t asked) (carried m takes) wrong

      ended_fits : (attempt : AttemptNo) (outcome : Outcome) (at : ℕ) (o : Open) (b : Bool) → outcome_fits o.bounds outcome ≡ b → Takes (messages.Done attempt outcome) feed next
          → Is heard o → o.attempt ≡ attempt → (let t = ended_by s attempt outcome at (Some o) in Comes next (messages.Done attempt outcome) s t.answer t.state)
      ended_fits attempt outcome at o true e takes is same = rw e (ends_well attempt outcome at o takes is same e)
      ended_fits attempt outcome at o false e takes is same =
          rw e (against (messages.Done attempt outcome) is.task takes (asked_of is.task is.booked) (λ suits. fits_by is.task o.bounds outcome false is.bounds e (suits (sym same ∙ is.attempt))))

      ended_of : (attempt : AttemptNo) (outcome : Outcome) (at : ℕ) (p : Option Open) → slice_get s.attempts at ≡ p → Placed attempt s.attempts at → Takes (messages.Done attempt outcome) feed next
          → (let t = ended_by s attempt outcome at p in Comes next (messages.Done attempt outcome) s t.answer t.state)
      ended_of attempt outcome at None is here takes = absurd (let wrong : ⊥ = cc (sym is ∙ here.there_it_is) in wrong)
      ended_of attempt outcome at (Some o) is here takes =
          let same : here.it ≡ o = cc (sym here.there_it_is ∙ is) in
          ended_fits attempt outcome at o (outcome_fits o.bounds outcome) refl takes (all_get (Is heard) s.attempts at o is serves.served) (sym (ap (λ (x : Open). x.attempt) same) ∙ here.of_it)

      stale : (m : Message) (attempt : AttemptNo) → Takes m feed next → AllByRecursion (IsNoResult m) s.attempts → Comes next m s (Ok (words.Stale attempt)) s
      stale m attempt takes none = λ closes. record {
        message = m;
        serves = serves_next m s takes (greeted_next m s.stage refl) (served_next m s.attempts serves.served none);
        is_so = tt;
      }

      ended : (attempt : AttemptNo) (outcome : Outcome) (p : Option ℕ) → place attempt s.attempts ≡ p → Takes (messages.Done attempt outcome) feed next
          → (let t = ended_at s attempt outcome p in Comes next (messages.Done attempt outcome) s t.answer t.state)
      ended attempt outcome None is takes =
          let closed = others attempt s.attempts (ap (λ (p : Option ℕ). is_some p) is) in
          stale (messages.Done attempt outcome) attempt takes
          (all_with (IsOther attempt) (IsOther attempt) (IsNoResult (messages.Done attempt outcome)) (λ o other again. other_done attempt outcome o other) s.attempts closed closed)
      ended attempt outcome (Some at) is takes = ended_of attempt outcome at (slice_get s.attempts at) refl (placed attempt s.attempts at is) takes

      -- ---- missing inputs

      no_results : (attempt : AttemptNo) (files : List FileNo) (os : List Open) → AllByRecursion (IsNoResult (messages.Missing attempt files)) os
      no_results attempt files os = all_of (IsNoResult (messages.Missing attempt files)) (λ o outcome same ran. let wrong : ⊥ = cc in wrong) os

      once_more : (attempt : AttemptNo) (files : List FileNo) (b : Bool) → (attempt.0 == attempt.0) ≡ b → missings_of attempt (heard ++ messages.Missing attempt files ∷ []) ≡ missings_of attempt heard + 1
      once_more attempt files true e =
          let one : missings_of attempt (messages.Missing attempt files ∷ []) ≡ 1 = ap (λ (b : Bool). (if b then 1 else 0) + 0) e in
          omega (arith, missings_append attempt heard (messages.Missing attempt files ∷ []), one)
      once_more attempt files false e = absurd (let wrong : ⊥ = cc (eq-eqb attempt.0 attempt.0 refl, e) in wrong)

      again_of : (attempt : AttemptNo) (files : List FileNo) (o : Open) → Is heard o → o.attempt ≡ attempt → Is (heard ++ messages.Missing attempt files ∷ []) (missed o)
      again_of attempt files o is same =
          let m = messages.Missing attempt files in
          let on = served_one m o is (λ outcome e ran. let wrong : ⊥ = cc in wrong) in
          let more : missings_of o.attempt (heard ++ m ∷ []) ≡ missings_of o.attempt heard + 1 =
          subst (λ (a : AttemptNo). missings_of a (heard ++ m ∷ []) ≡ missings_of a heard + 1) (sym same) (once_more attempt files (attempt.0 == attempt.0) refl) in
          record {
            task = on.task;
            booked = on.booked;
            attempt = on.attempt;
            run = on.run;
            files = on.files;
            bounds = on.bounds;
            kept = on.kept;
            misses = omega (arith, is.misses, more);
            unanswered = on.unanswered;
          }

      lacked_few : (attempt : AttemptNo) (files : List FileNo) (at : ℕ) (o : Open) (all few : Bool) → has_all o.files files ≡ all → nat_lt o.misses most_misses ≡ few
          → Takes (messages.Missing attempt files) feed next → Is heard o → o.attempt ≡ attempt
          → (let t = lacked_by s attempt files at (Some o) in Comes next (messages.Missing attempt files) s t.answer t.state)
      lacked_few attempt files at o true true e f takes is same =
          let m = messages.Missing attempt files in
          rw (e, f) (λ closes. record {
            message = m;
            serves = serves_next m (record s { attempts = slice_set s.attempts at (missed o) }) takes (greeted_next m s.stage refl)
                (all_set (Is (heard ++ m ∷ [])) s.attempts at (missed o) (again_of attempt files o is same) (served_next m s.attempts serves.served (no_results attempt files s.attempts)));
            is_so = (is.task, sym is.attempt ∙ same, asked_of is.task is.booked, takes_by is.task o.files files true is.files e);
          })
      lacked_few attempt files at o true false e f takes is same =
          let m = messages.Missing attempt files in
          let many : missings_of attempt heard + 1 ≡ missings_of attempt (heard ++ m ∷ []) = sym (once_more attempt files (attempt.0 == attempt.0) refl) in
          let before : o.misses ≤ missings_of attempt heard = subst (λ (a : AttemptNo). o.misses ≤ missings_of a heard) same is.misses in
          rw (e, f) (λ closes. record {
            message = m;
            serves = serves_next m (record s { known = all_forgotten s.known o.run files; attempts = remove s.attempts at }) takes (greeted_next m s.stage refl)
                (served_next m (remove s.attempts at) (all_left (Is heard) s.attempts at serves.served) (no_results attempt files (remove s.attempts at)));
            is_so = inr (omega (arith, ltb-false o.misses most_misses f, before, many));
          })
      lacked_few attempt files at o false few e f takes is same =
          rw e (against (messages.Missing attempt files) is.task takes (asked_of is.task is.booked) (λ suits. takes_by is.task o.files files false is.files e (suits (sym same ∙ is.attempt))))

      lacked_of : (attempt : AttemptNo) (files : List FileNo) (at : ℕ) (p : Option Open) → slice_get s.attempts at ≡ p → Placed attempt s.attempts at → Takes (messages.Missing attempt files) feed next
          → (let t = lacked_by s attempt files at p in Comes next (messages.Missing attempt files) s t.answer t.state)
      lacked_of attempt files at None is here takes = absurd (let wrong : ⊥ = cc (sym is ∙ here.there_it_is) in wrong)
      lacked_of attempt files at (Some o) is here takes =
          let same : here.it ≡ o = cc (sym here.there_it_is ∙ is) in
          lacked_few attempt files at o (has_all o.files files) (nat_lt o.misses most_misses) refl refl takes (all_get (Is heard) s.attempts at o is serves.served)
          (sym (ap (λ (x : Open). x.attempt) same) ∙ here.of_it)

      lacked : (attempt : AttemptNo) (files : List FileNo) (p : Option ℕ) → place attempt s.attempts ≡ p → Takes (messages.Missing attempt files) feed next
          → (let t = lacked_at s attempt files p in Comes next (messages.Missing attempt files) s t.answer t.state)
      lacked attempt files None is takes = stale (messages.Missing attempt files) attempt takes (no_results attempt files s.attempts)
      lacked attempt files (Some at) is takes = lacked_of attempt files at (slice_get s.attempts at) refl (placed attempt s.attempts at is) takes

      -- ---- any message

      again : (m : Message) → Takes m feed next → IsHello m → Misspeaks (sent_in history) (received_in history)
      again m takes is =
          let h = first_heard in
          hello_again h.0 m h.1 is (next.rest, subst (λ (ms : List Message). IsStream (received_in history) ms next.rest) (ap (λ (ms : List Message). ms ++ m ∷ []) h.3) (came m takes))

      behind : (m : Message) → Takes m feed next → Comes next m s (hears s m).answer (hears s m).state
      behind (messages.Done attempt outcome) takes = ended attempt outcome (place attempt s.attempts) refl takes
      behind (messages.Missing attempt files) takes = lacked attempt files (place attempt s.attempts) refl takes
      behind (messages.Totals total largest cache) takes = λ closes.
          let m = messages.Totals total largest cache in
          record {
            message = m;
            serves = serves_next m s takes (greeted_next m s.stage refl)
                (served_next m s.attempts serves.served (all_of (IsNoResult m) (λ o outcome same ran. let wrong : ⊥ = cc in wrong) s.attempts));
            is_so = among_last m heard;
          }
      behind (messages.Hello total largest cache) takes = again (messages.Hello total largest cache) takes tt
      behind (messages.Put key content) takes = goes_down (messages.Put key content) (carried (messages.Put key content) takes) tt
      behind (messages.Task task) takes = goes_down (messages.Task task) (carried (messages.Task task) takes) tt
      behind (messages.Cancel attempt) takes = goes_down (messages.Cancel attempt) (carried (messages.Cancel attempt) takes) tt
      behind (messages.Unlink key) takes = goes_down (messages.Unlink key) (carried (messages.Unlink key) takes) tt
      behind messages.Bye takes = goes_down messages.Bye (carried messages.Bye takes) tt

    any_by : (stage : Stage) (m : Message) → s.stage ≡ stage → Takes m feed next → (let t = told_by s m stage in Comes next m s t.answer t.state)
    any_by stages.New m is takes = first m takes (subst (λ (x : Stage). HasGreeted x heard) is serves.greeted)
    any_by stages.Greeted m is takes = behind is m takes
    any_by stages.Broken m is takes = absurd (subst (λ (x : Stage). HasGreeted x heard) is serves.greeted)

    -- What any message comes to.
    any : (m : Message) → Takes m feed next → (let t = told s m in Comes next m s t.answer t.state)
    any m takes = any_by s.stage m refl takes

    comes_as : (m : Message) (answer : Result Word SessionFault) (after after_now : State) → after_now ≡ after → (answer_now : Result Word SessionFault) → answer ≡ answer_now
        → Comes next m s answer after → Comes next m s answer_now after_now
    comes_as m answer after after_now same answer_now is comes =
        subst (λ (r : Result Word SessionFault). Comes next m s r after_now) is (subst (λ (x : State). Comes next m s answer x) (sym same) comes)

    told_so : (m : Message) (t : Saying) (after : State) → Takes m feed next → (let r : Result Saying Leave = Ok t in Turns s m r after) → Tells gives may_fail history next after said heard t
    told_so m t after takes turns =
        subst (Tells gives may_fail history next after said heard) (sym turns.4)
        (comes_as m (told s m).answer (told s m).state after turns.2 (Ok turns.0) turns.1 (any m takes) turns.3)

    left_so : (m : Message) (after : State) → Takes m feed next → (told s m).answer ≡ Err faults.Unexpected → Misspeaks (sent_in history) (received_in history)
    left_so m after takes is = comes_as m (told s m).answer (told s m).state (told s m).state refl (Err faults.Unexpected) is (any m takes)

    -- What the next message makes of a served peer.
    pub serves_on : (r : Result Saying Leave) (after : State) → Hears feed s r next after → ServesOn gives may_fail history said heard r next after
    serves_on (Ok tell.Nothing) after h =
        subst (λ (x : State). Serves gives may_fail history next x said heard None) (sym h.2) (subst (λ (f : Stream). Serves gives may_fail history f s said heard None) (sym h.1) serves)
    serves_on (Ok (tell.Joined total largest cache)) after h = told_so h.0 (tell.Joined total largest cache) after h.1 h.2
    serves_on (Ok (tell.Changed total largest cache)) after h = told_so h.0 (tell.Changed total largest cache) after h.1 h.2
    serves_on (Ok (tell.Finish attempt outs)) after h = told_so h.0 (tell.Finish attempt outs) after h.1 h.2
    serves_on (Ok (tell.Fail attempt why)) after h = told_so h.0 (tell.Fail attempt why) after h.1 h.2
    serves_on (Ok (tell.Lose attempt)) after h = told_so h.0 (tell.Lose attempt) after h.1 h.2
    serves_on (Ok (tell.PutAgain attempt files)) after h = told_so h.0 (tell.PutAgain attempt files) after h.1 h.2
    serves_on (Ok (tell.Stale attempt)) after h = told_so h.0 (tell.Stale attempt) after h.1 h.2
    serves_on (Err leaves.Memory) after h = stands gives may_fail history feed s said heard None serves
    serves_on (Err leaves.Bad) after h = (stands gives may_fail history feed s said heard None serves, broken heard (feed.rest, serves.came, h.0))
    serves_on (Err leaves.Unexpected) after h = (stands gives may_fail history feed s said heard None serves, left_so h.0 after h.1 h.2.0)
    serves_on (Err leaves.Closed) after h = absurd h
    serves_on (Err leaves.Failed) after h = absurd h

    -- ---- nothing whole is left

    -- An open attempt is unanswered, where nothing whole is left.
    owed : (attempt : AttemptNo) (o : Open) → Is heard o → o.attempt ≡ attempt → front feed.rest ≡ part → IsStillOwed gives may_fail history attempt
    owed attempt o is same none =
        let cancel = messages.Cancel is.task.attempt in (
          record {
            task = is.task;
            asked = went_down is.task (asked_of is.task is.booked);
            kept = λ c. is.kept (subst (λ (a : AttemptNo). IsAmong (messages.Cancel a) said) (sym is.attempt)
                ((rows_carry_their_own said cancel serves.said_framed).0 (subst (λ (w : List ℕ). Carries w cancel) serves.sent c)));
            open_still = λ h outcome c ran. is.unanswered h outcome (subst (λ (a : AttemptNo). IsAmong (messages.Done a outcome) heard) (sym is.attempt)
                (carried_heard (received_in history) heard feed.rest (messages.Done is.task.attempt outcome) serves.came none c)) ran;
          },
          sym is.attempt ∙ same,
        )

    owed_at : (attempt : AttemptNo) (p : Option ℕ) → place attempt s.attempts ≡ p → is_open attempt s.attempts ≡ true → front feed.rest ≡ part → IsStillOwed gives may_fail history attempt
    owed_at attempt None e is none = absurd (let wrong : ⊥ = cc (sym (ap (λ (q : Option ℕ). is_some q) e) ∙ is) in wrong)
    owed_at attempt (Some at) e is none =
        let here = placed attempt s.attempts at e in
        owed attempt here.it (all_get (Is heard) s.attempts at here.it here.there_it_is serves.served) here.of_it none

    -- The same of an attempt that is open.
    pub still_owed : (attempt : AttemptNo) → is_open attempt s.attempts ≡ true → front feed.rest ≡ part → IsStillOwed gives may_fail history attempt
    still_owed attempt is none = owed_at attempt (place attempt s.attempts) refl is none

no_nothing : (word : Word) (m : Message) → tell.Nothing ≡ told_as word m → ⊥
no_nothing (words.Joined total largest cache) m e = cc
no_nothing (words.Changed total largest cache) m e = cc
no_nothing (words.Finish attempt) m e = cc
no_nothing (words.Fail attempt why) m e = cc
no_nothing (words.Lose attempt) m e = cc
no_nothing (words.PutAgain attempt files) m e = cc
no_nothing (words.Stale attempt) m e = cc

-- What the message means that was taken, the peer tells.
pub heard_told : (feed next : Stream) (s after : State) (m : Message) (r : Result Saying Leave) → Takes m feed next → Turns s m r after → Hears feed s r next after
heard_told feed next s after m (Ok tell.Nothing) takes turns = absurd (no_nothing turns.0 m turns.4)
heard_told feed next s after m (Ok (tell.Joined total largest cache)) takes turns = (m, takes, turns)
heard_told feed next s after m (Ok (tell.Changed total largest cache)) takes turns = (m, takes, turns)
heard_told feed next s after m (Ok (tell.Finish attempt outs)) takes turns = (m, takes, turns)
heard_told feed next s after m (Ok (tell.Fail attempt why)) takes turns = (m, takes, turns)
heard_told feed next s after m (Ok (tell.Lose attempt)) takes turns = (m, takes, turns)
heard_told feed next s after m (Ok (tell.PutAgain attempt files)) takes turns = (m, takes, turns)
heard_told feed next s after m (Ok (tell.Stale attempt)) takes turns = (m, takes, turns)
heard_told feed next s after m (Err leaves.Unexpected) takes turns = (m, takes, turns)
heard_told feed next s after m (Err leaves.Memory) takes turns = tt
heard_told feed next s after m (Err leaves.Bad) takes turns = absurd turns
heard_told feed next s after m (Err leaves.Closed) takes turns = absurd turns
heard_told feed next s after m (Err leaves.Failed) takes turns = absurd turns
