-- What goes up is honest where what came from below is.
use Rattle.std.proofs.Common.{◌≡◌, ◌⊎◌, inl, inr, ℕ, List, [], ◌∷◌, ◌++◌, Some, refl, sym, ap, ◌∙◌, subst}
use Rattle.std.specs.Prelude.{IsTrue}
use Rattle.flow_types.specs.declared.job.Failure.{Failure}
use Rattle.flow_types.specs.declared.job.Job.{Job}
use Rattle.flow_types.specs.declared.job.Outcome.{Outcome}
use Rattle.flow_types.specs.declared.job.Outcome.TheVariants as outcomes
use Rattle.flow_types.specs.declared.job.Task.{Task}
use Rattle.flow_types.specs.declared.messages.Key.{Key}
use Rattle.flow_types.specs.declared.messages.Message.{Message}
use Rattle.flow_types.specs.declared.messages.Message.TheVariants as messages
use Rattle.flow_types.specs.declared.numbers.AttemptNo.{AttemptNo}
use Rattle.flow_types.specs.declared.numbers.LinkNo.{LinkNo}
use Rattle.flow_types.specs.Plans.{files_of, contains_number}
use Rattle.flow_types.specs.Serial.{Contents, Function, given_by}
use Rattle.links.specs.declared.passing.Passed.{Passed}
use Rattle.links.specs.Honesty.{Answers, HasRun, IsHonestSoFar, key_of, task_job}
use Rattle.links.specs.Passings.{received_in, sent_in}
use Rattle.links.specs.Peers.{MaySay}
use Rattle.message_forms.specs.Streams.{AreFramed, Carries, IsAmong, frames_of}
use Rattle.message_forms.proofs.Parses.{among_carried, carries_more, rows_carry_their_own}
use Rattle.outside.specs.Jobs.{IsHonest}
use Rattle.foreman_core.specs.declared.acts.Down.{Down}
use Rattle.foreman_core.specs.Members.{Every, Stands}
use Rattle.foreman_core.specs.Right.{IsAsked, IsOwned, IsRightAfter, IsRightDown, IsRightUp, IsTold}
use Rattle.foreman_core.specs.Steps.{Led, renumbered}
use Rattle.peer_run.specs.Says.{Each}
use Rattle.peer_run.specs.Works.{EarState}
use Rattle.foreman_run.specs.Lowers.{CareState, AnswersBelow, IsAnswered, Passes, Went, over}
use Rattle.foreman_run.specs.Met.{Met, Roll, foreman_of, heard_of, led_by, sent_of, told_of}
use Rattle.foreman_run.proofs.Runs.{every_each, runs_right, step_right}

pub among : (m : Message) (ms : List Message) → Stands m ms → IsAmong m ms
among m [] there = absurd there
among m (x ∷ xs) (inl is) = inl is
among m (x ∷ xs) (inr there) = inr (among m xs there)

pub stands_of : (m : Message) (ms : List Message) → IsAmong m ms → Stands m ms
stands_of m [] there = absurd there
stands_of m (x ∷ xs) (inl is) = inl is
stands_of m (x ∷ xs) (inr there) = inr (stands_of m xs there)

-- one of the messages that came is carried
pub heard_carried : (ms : List Message) (rest down : List ℕ) (m : Message) → AreFramed ms → down ≡ frames_of ms ++ rest → Stands m ms → Carries down m
heard_carried ms rest down m framed is there =
    subst (λ d. Carries d m) (sym is) (carries_more (frames_of ms) rest m (among_carried ms m framed (among m ms there)))

module _ (gives : Function) (may_fail : Job → Failure → Type 0) where
  -- how the job of a task ends, over contents that went down under its keys
  abbrev EndsOver : List Down → LinkNo → Outcome → Contents → Task → Type 0
  EndsOver sent k outcome contents task =
      ((f : ℕ) → IsTrue (contains_number f (files_of task.inputs)) → (content : List ℕ) × (contents f ≡ Some content) × Stands (over k (messages.Put (key_of task.run f) content)) sent)
      × IsHonest (given_by gives (task_job task contents)) (may_fail (task_job task contents)) outcome

  -- the task that was answered below is the one that came from above, under its number there
  same_task : (above : List Message) (sent : List Down) (owner : ℕ → Task) (next : ℕ) (k : LinkNo) (number : AttemptNo) (task answered : Task)
      → Every (IsOwned above owner next) sent → Stands (over k (messages.Task (renumbered task number))) sent → Stands (over k (messages.Task answered)) sent → answered.attempt ≡ number
      → answered ≡ renumbered task number
  same_task above sent owner next k number task answered owned placed asked of =
      let mine = owned (over k (messages.Task (renumbered task number))) placed (renumbered task number) refl in
      let other = owned (over k (messages.Task answered)) asked answered refl in
      other.1 ∙ ap (λ n. renumbered (owner n.0) n) of ∙ sym mine.1

  -- A result that goes up answers a task that came down, where the result that came from below did.
  answers_up : (heard : List Message) (sent : List Down) (owner : ℕ → Task) (next : ℕ) (rest received : List ℕ) (k : LinkNo) (number attempt : AttemptNo) (task : Task) (outcome : Outcome)
      → AreFramed heard → received ≡ frames_of heard ++ rest → task.attempt ≡ attempt → IsAsked heard task
      → Every (IsOwned heard owner next) sent → Every (λ s. IsRightDown heard s.message) sent → Stands (over k (messages.Task (renumbered task number))) sent
      → IsAnswered gives may_fail sent k number outcome → Answers gives may_fail received attempt outcome
  answers_up heard sent owner next rest received k number attempt task outcome framed is of asked owned down placed a =
      let same = same_task heard sent owner next k number task a.task owned placed a.asked a.of_attempt in
      let ends : EndsOver sent k outcome a.contents (renumbered task number) = subst (EndsOver sent k outcome a.contents) same (a.were_put, a.ends_so) in
      record {
        task = task;
        of_attempt = of;
        asked = heard_carried heard rest received (messages.Task task) framed is asked;
        contents = a.contents;
        were_put = λ f has. let put = ends.0 f has in
            (put.0, put.1, heard_carried heard rest received (messages.Put (key_of task.run f) put.0) framed is (down (over k (messages.Put (key_of task.run f) put.0)) put.2));
        ends_so = ends.1;
      }

  done_same : (a b : AttemptNo) (x y : Outcome) → messages.Done a x ≡ messages.Done b y → (a ≡ b) × (x ≡ y)
  done_same a b x y e = (cc, cc)

  -- What a step says may be said.
  pub step_may : (cap : ℕ) (met : Met) (past : List Met) (rest received : List ℕ) → AreFramed (heard_of (met ∷ past)) → received ≡ frames_of (heard_of (met ∷ past)) ++ rest
      → Every (AnswersBelow gives may_fail (sent_of cap (met ∷ past))) (told_of (met ∷ past)) → Each (MaySay gives may_fail received) (led_by (foreman_of cap past) met).acts.up
  step_may cap met past rest received framed is answered =
      every_each (MaySay gives may_fail received) led.acts.up (λ m there attempt outcome same ran. one attempt outcome ran (subst (IsRightUp heard below sent) same (step.up m there)))
    where
      led : Led
      led = led_by (foreman_of cap past) met

      heard : List Message
      heard = heard_of (met ∷ past)

      below : List Down
      below = told_of (met ∷ past)

      sent : List Down
      sent = sent_of cap (met ∷ past)

      step : IsRightAfter heard below (sent_of cap past) led
      step = step_right cap met past (runs_right cap past)

      down : Every (λ s. IsRightDown heard s.message) sent
      down = (runs_right cap (met ∷ past)).down

      told_one : (attempt : AttemptNo) (outcome : Outcome) (task : Task) → HasRun outcome → task.attempt ≡ attempt → IsAsked heard task → (outcome ≡ outcomes.NotRun) ⊎ IsTold below sent task outcome
          → Answers gives may_fail received attempt outcome
      told_one attempt outcome task ran of asked (inl none) = absurd (subst HasRun none ran)
      told_one attempt outcome task ran of asked (inr told) =
          answers_up heard sent step.foreman.owner led.foreman.next rest received told.0.link told.0.number attempt task outcome framed is of asked step.foreman.owned down told.1
          (answered (over told.0.link (messages.Done told.0.number outcome)) told.2 told.0.number outcome refl ran)

      one : (attempt : AttemptNo) (outcome : Outcome) → HasRun outcome → IsRightUp heard below sent (messages.Done attempt outcome) → Answers gives may_fail received attempt outcome
      one attempt outcome ran right = told_one attempt outcome right.0 ran right.1 right.2 right.3

  -- ---- from below

  -- a task that went down over a link is no probe
  task_went : (sent : List Down) (k : LinkNo) (task : Task) → Went sent k (messages.Task task) → Stands (over k (messages.Task task)) sent
  task_went sent k task (inl is) = absurd (let wrong : ⊥ = cc is in wrong)
  task_went sent k task (inr there) = there

  -- nor is a content
  put_went : (sent : List Down) (k : LinkNo) (key : Key) (content : List ℕ) → Went sent k (messages.Put key content) → Stands (over k (messages.Put key content)) sent
  put_went sent k key content (inl is) = absurd (let wrong : ⊥ = cc is in wrong)
  put_went sent k key content (inr there) = there

  -- A message that came over an honest link is answered there.
  pub came_answered : (history : List Passed) (ear : EarState) (care : CareState) (k : LinkNo) (roll : Roll) (heard : List Message) (m : Message) → Passes history ear care k roll heard
      → IsHonestSoFar gives may_fail (sent_in history) (received_in history) → Carries (received_in history) m → AnswersBelow gives may_fail roll.down (over k m)
  came_answered history ear care k roll heard m passes honest carried number outcome is ran =
      let sent = roll.down in
      let a : Answers gives may_fail (sent_in history) number outcome = honest number outcome (subst (Carries (received_in history)) is carried) ran in
      let went : (x : Message) → Carries (sent_in history) x → Went sent k x =
      λ x c. passes.went x (stands_of x passes.said ((rows_carry_their_own passes.said x passes.said_framed).0 (subst (λ b. Carries b x) passes.are_sent c))) in
      record {
        task = a.task;
        of_attempt = a.of_attempt;
        asked = task_went sent k a.task (went (messages.Task a.task) a.asked);
        contents = a.contents;
        were_put = λ f has. let put = a.were_put f has in (put.0, put.1, put_went sent k (key_of a.task.run f) put.0 (went (messages.Put (key_of a.task.run f) put.0) put.2));
        ends_so = a.ends_so;
      }

  -- an answer stays one as more goes down
  pub answered_more : (sent more : List Down) (d : Down) → AnswersBelow gives may_fail sent d → AnswersBelow gives may_fail (sent ++ more) d
  answered_more sent more d a number outcome is ran =
      let one = a number outcome is ran in
      record {
        task = one.task;
        of_attempt = one.of_attempt;
        asked = Rattle.foreman_core.proofs.Members.stands_left (over d.link (messages.Task one.task)) sent more one.asked;
        contents = one.contents;
        were_put = λ f has. let put = one.were_put f has in (put.0, put.1, Rattle.foreman_core.proofs.Members.stands_left (over d.link (messages.Put (key_of one.task.run f) put.0)) sent more put.2);
        ends_so = one.ends_so;
      }
