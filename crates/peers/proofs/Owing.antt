-- What is open is owed, and where nothing is owed nothing is open.
use Rattle.std.proofs.Common.{◌≡◌, true, ℕ, List, [], ◌∷◌, ◌++◌, Option, Some, None, is_some, refl, sym, ap, ◌∙◌, subst, append_assoc}
use Rattle.flow_types.specs.declared.job.Failure.{Failure}
use Rattle.flow_types.specs.declared.job.Job.{Job}
use Rattle.flow_types.specs.declared.messages.Message.{Message}
use Rattle.flow_types.specs.declared.messages.Message.TheVariants as messages
use Rattle.flow_types.specs.declared.numbers.AttemptNo.{AttemptNo}
use Rattle.flow_types.specs.Serial.{Function}
use Rattle.links.specs.declared.passing.Passed.{Passed}
use Rattle.links.specs.Honesty.{IsOwed}
use Rattle.links.specs.Passings.{sent_in}
use Rattle.link_session.specs.declared.open.Open.{Open}
use Rattle.link_session.specs.Sessions.{State, is_open, place}
use Rattle.message_forms.proofs.Parses.{carries_more, frames_append, rows_carry_their_own}
use Rattle.message_forms.specs.Streams.{AreFramed, Carries, IsAmong, frames_of}
use Rattle.wq_frames.specs.Frames.{front, part}
use Rattle.wq_frames.specs.Streams.{Stream}
use Rattle.peers.specs.Provides.{Provides, WasProvided}
use Rattle.peers.specs.Serves.{IsServed, IsSettled, Serves, WhatIsSaidWentOut}
use Rattle.peers.proofs.Calm.{settled}
use Rattle.peers.proofs.Hearing.{asked_of}
use Rattle.peers.proofs.Opens.{all_get, placed}

up_to : (before : List Message) (m : Message) (after : List Message) → AreFramed (before ++ m ∷ after) → AreFramed (before ++ m ∷ [])
up_to [] m after all = (all.0, tt)
up_to (x ∷ before) m after all = (all.0, up_to before m after all.1)

module _ (gives : Function) (may_fail : Job → Failure → Type 0) (history : List Passed) (said heard : List Message) (feed : Stream) (s : State)
    (serves : Serves gives may_fail history feed s said heard None) where
  -- The task of an open attempt is owed.
  owed : (o : Open) → (is : IsServed gives may_fail history said heard None o) → WasProvided said is.task → IsOwed (sent_in history) is.task
  owed o is w =
      let t = is.task in
      let m = messages.Task t in
      let cancel = messages.Cancel t.attempt in
      record {
        before = w.before;
        asked = (
          frames_of w.after,
          record {
            framed_all = up_to w.before m w.after (subst AreFramed w.row serves.said_framed);
            are = serves.sent ∙ ap frames_of (w.row ∙ sym (append_assoc w.before (m ∷ []) w.after)) ∙ frames_append (w.before ++ m ∷ []) w.after;
          },
        );
        were_put = w.inputs;
        kept = λ c. is.kept (subst (λ (a : AttemptNo). IsAmong (messages.Cancel a) said) (sym is.attempt)
            ((rows_carry_their_own said cancel serves.said_framed).0 (subst (λ (w : List ℕ). Carries w cancel) serves.sent c)));
      }

  closed_at : (attempt : AttemptNo) (p : Option ℕ) → place attempt s.attempts ≡ p → Provides s.known said None [] → IsSettled gives may_fail history → front feed.rest ≡ part
      → is_open attempt s.attempts ≡ true → ⊥
  closed_at attempt None e provides settle none is = let wrong : ⊥ = cc (sym (ap (λ (q : Option ℕ). is_some q) e) ∙ is) in wrong
  closed_at attempt (Some at) e provides settle none is =
      let here = placed attempt s.attempts at e in
      let o = all_get (IsServed gives may_fail history said heard None) s.attempts at here.it here.there_it_is serves.served in
      let ours = asked_of gives may_fail history said heard o.task o.booked in
      let same : o.task.attempt ≡ attempt = sym o.attempt ∙ here.of_it in
      settled gives may_fail history said heard feed feed s serves settle.orderly o.task settle.honest settle.owes_nothing (owed here.it o (provides.provided o.task ours)) none
      (subst (λ (a : AttemptNo). is_open a s.attempts ≡ true) (sym same) is)

  -- Where nothing is owed and nothing whole is left, no attempt is open.
  pub none_open : (attempt : AttemptNo) → Provides s.known said None [] → IsSettled gives may_fail history → front feed.rest ≡ part → is_open attempt s.attempts ≡ true → ⊥
  none_open attempt provides settle none is = closed_at attempt (place attempt s.attempts) refl provides settle none is

-- What was said went out, and what was heard came.
pub went_and_came : (gives : Function) (may_fail : Job → Failure → Type 0) → WhatIsSaidWentOut gives may_fail
went_and_came gives may_fail history feed session said heard waiting m s = (
  λ is. subst (λ (w : List ℕ). Carries w m) (sym s.sent) ((rows_carry_their_own said m s.said_framed).1 is),
  λ is. subst (λ (w : List ℕ). Carries w m) (sym s.came.are) (carries_more (frames_of heard) feed.rest m ((rows_carry_their_own heard m s.came.framed_all).1 is)),
)
