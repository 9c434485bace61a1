-- What is so of every run of a foreman.
use Rattle.std.proofs.Common.{◌≡◌, ◌⊎◌, inl, inr, ℕ, false, List, [], ◌∷◌, ◌++◌, refl, sym, subst}
use Rattle.flow_types.specs.declared.job.Outcome.{Outcome}
use Rattle.flow_types.specs.declared.job.Outcome.TheVariants as outcomes
use Rattle.flow_types.specs.declared.job.Task.{Task}
use Rattle.flow_types.specs.declared.messages.Message.{Message}
use Rattle.flow_types.specs.declared.messages.Message.TheVariants as messages
use Rattle.message_forms.specs.Streams.{AreFramed, IsFramed}
use Rattle.wq_messages.specs.Spelling.{HasCounts}
use Rattle.foreman_core.specs.declared.acts.Down.{Down}
use Rattle.foreman_core.specs.Foremen.{Foreman}
use Rattle.foreman_core.specs.Members.{Every}
use Rattle.foreman_core.specs.Right.{IsAsked, IsOwned, IsRight, IsRightAfter, IsRightDown, IsRightUp}
use Rattle.foreman_core.specs.Steps.{renumbered}
use Rattle.foreman_core.proofs.Keeps.{first_is_right, up_keeps_right, down_keeps_right, lost_keeps_right}
use Rattle.foreman_core.proofs.Members.{every_append, every_nil, stands_left, stands_right}
use Rattle.peer_run.specs.Met.{is_bye}
use Rattle.peer_run.specs.Says.{CanBeTold, Each}
use Rattle.foreman_run.specs.Met.{Met, above, below, lost, foreman_of, heard_of, led_by, sent_of, told_of}
use Rattle.foreman_run.specs.Says.{CanGoDown}
use Rattle.foreman_run.proofs.Plain.{IsPlain, IsSayable, IsSendable, down_plain, loses_plain, up_plain}
use Rattle.foreman_run.proofs.Sizes.{done_again, framed_told, none_told, one_framed, task_again}

-- A foreman is right by what it met, and each content that went down came from above.
pub record IsRightRun (cap : ℕ) (past : List Met) : Type 0 where
  pub right : IsRight (heard_of past) (sent_of cap past) (foreman_of cap past)
  pub down : Every (λ s. IsRightDown (heard_of past) s.message) (sent_of cap past)

-- What a step does is right.
pub step_right : (cap : ℕ) (met : Met) (past : List Met) → IsRightRun cap past
    → IsRightAfter (heard_of (met ∷ past)) (told_of (met ∷ past)) (sent_of cap past) (led_by (foreman_of cap past) met)
step_right cap (above m) past run = up_keeps_right (heard_of past) (told_of past) (sent_of cap past) (foreman_of cap past) m run.right
step_right cap (below k m) past run = down_keeps_right (heard_of past) (told_of past) (sent_of cap past) (foreman_of cap past) k m run.right
step_right cap (lost k) past run = lost_keeps_right (heard_of past) (told_of past) (sent_of cap past) (foreman_of cap past) k run.right

down_grows : (xs more : List Message) (m : Message) → IsRightDown xs m → IsRightDown (xs ++ more) m
down_grows xs more (messages.Put key content) is = stands_left (messages.Put key content) xs more is
down_grows xs more (messages.Task t) is = tt
down_grows xs more (messages.Done attempt outcome) is = tt
down_grows xs more (messages.Hello total largest cache) is = tt
down_grows xs more (messages.Missing attempt files) is = tt
down_grows xs more (messages.Cancel attempt) is = tt
down_grows xs more (messages.Unlink key) is = tt
down_grows xs more (messages.Totals total largest cache) is = tt
down_grows xs more messages.Bye is = tt

-- what went down before a step is right after it
down_before : (cap : ℕ) (met : Met) (past : List Met) → IsRightRun cap past → Every (λ s. IsRightDown (heard_of (met ∷ past)) s.message) (sent_of cap past)
down_before cap (above m) past run = λ s there. down_grows (heard_of past) (m ∷ []) s.message (run.down s there)
down_before cap (below k m) past run = run.down
down_before cap (lost k) past run = run.down

-- Every run is right.
pub runs_right : (cap : ℕ) (past : List Met) → IsRightRun cap past
runs_right cap [] = record { right = first_is_right cap; down = every_nil (λ s. IsRightDown [] s.message) }
runs_right cap (met ∷ past) =
    let run = runs_right cap past in
    let step = step_right cap met past run in
    record {
      right = step.foreman;
      down = every_append (λ s. IsRightDown (heard_of (met ∷ past)) s.message) (sent_of cap past) (led_by (foreman_of cap past) met).acts.down (down_before cap met past run) step.down;
    }

-- ---- what is said and sent can be told

-- what comes from above has its counts and isn't Bye
abbrev pub IsOn : Met → Type 0
IsOn (above m) = HasCounts m × (is_bye m ≡ false)
IsOn (below k m) = Unit {0}
IsOn (lost k) = Unit {0}

pub step_plain : (f : Foreman) (met : Met) → IsOn met → IsPlain (led_by f met)
step_plain f (above m) on = up_plain f m on.0 on.1
step_plain f (below k m) on = down_plain f k m
step_plain f (lost k) on = loses_plain f k

pub every_each : (P : Message → Type 0) (ms : List Message) → Every P ms → Each P ms
every_each P [] all = tt
every_each P (m ∷ ms) all = (all m (inl refl), every_each P ms (λ x there. all x (inr there)))

done_told : (ended sent : List Down) (attempt : Rattle.flow_types.specs.declared.numbers.AttemptNo.AttemptNo) (outcome : Outcome) (xs : List Message) → Every (λ d. IsFramed d.message) ended
    → IsRightUp xs ended sent (messages.Done attempt outcome) → CanBeTold (messages.Done attempt outcome)
done_told ended sent attempt outcome xs framed is = by is.3
  where
    by : (outcome ≡ outcomes.NotRun) ⊎ Rattle.foreman_core.specs.Right.IsTold ended sent is.0 outcome → CanBeTold (messages.Done attempt outcome)
    by (inl none) = subst (λ o. CanBeTold (messages.Done attempt o)) (sym none) (none_told attempt)
    by (inr told) = done_again told.0.number attempt outcome (framed (record { link = told.0.link; message = messages.Done told.0.number outcome }) told.2)

up_told : (xs : List Message) (ended sent : List Down) (m : Message) → Every (λ d. IsFramed d.message) ended → IsRightUp xs ended sent m → IsSayable m → CanBeTold m
up_told xs ended sent (messages.Done attempt outcome) framed right is = done_told ended sent attempt outcome xs framed right
up_told xs ended sent (messages.Put key content) framed right is = is
up_told xs ended sent (messages.Task t) framed right is = is
up_told xs ended sent (messages.Hello total largest cache) framed right is = is
up_told xs ended sent (messages.Missing attempt files) framed right is = is
up_told xs ended sent (messages.Cancel attempt) framed right is = is
up_told xs ended sent (messages.Unlink key) framed right is = is
up_told xs ended sent (messages.Totals total largest cache) framed right is = is
up_told xs ended sent messages.Bye framed right is = is

task_told : (xs : List Message) (task owned : Task) → AreFramed xs → task ≡ renumbered owned task.attempt → IsAsked xs owned → CanBeTold (messages.Task task)
task_told xs task owned framed is asked =
    subst (λ t. CanBeTold (messages.Task t)) (sym is) (task_again owned task.attempt (one_framed xs (messages.Task owned) framed asked))

down_told : (xs : List Message) (owner : ℕ → Task) (next : ℕ) (k : Rattle.flow_types.specs.declared.numbers.LinkNo.LinkNo) (m : Message) → AreFramed xs
    → IsOwned xs owner next (record { link = k; message = m }) → IsRightDown xs m → IsSendable m → CanBeTold m
down_told xs owner next k (messages.Put key content) framed owned right is = framed_told (messages.Put key content) (one_framed xs (messages.Put key content) framed right)
down_told xs owner next k (messages.Task task) framed owned right is = let o = owned task refl in task_told xs task (owner task.attempt.0) framed o.1 o.2
down_told xs owner next k (messages.Done attempt outcome) framed owned right is = is
down_told xs owner next k (messages.Hello total largest cache) framed owned right is = is
down_told xs owner next k (messages.Missing attempt files) framed owned right is = is
down_told xs owner next k (messages.Cancel attempt) framed owned right is = is
down_told xs owner next k (messages.Unlink key) framed owned right is = is
down_told xs owner next k (messages.Totals total largest cache) framed owned right is = is
down_told xs owner next k messages.Bye framed owned right is = is

-- What a step says can be told, where what came was framed.
pub says_told : (cap : ℕ) (met : Met) (past : List Met) → IsOn met → Every (λ d. IsFramed d.message) (told_of (met ∷ past)) → Each CanBeTold (led_by (foreman_of cap past) met).acts.up
says_told cap met past on framed =
    let step = step_right cap met past (runs_right cap past) in
    let plain = step_plain (foreman_of cap past) met on in
    every_each CanBeTold (led_by (foreman_of cap past) met).acts.up
    (λ m there. up_told (heard_of (met ∷ past)) (told_of (met ∷ past)) (sent_of cap past ++ (led_by (foreman_of cap past) met).acts.down) m framed (step.up m there) (plain.up m there))

-- What a step sends down can be told.
pub sends_told : (cap : ℕ) (met : Met) (past : List Met) → IsOn met → AreFramed (heard_of (met ∷ past)) → CanGoDown (led_by (foreman_of cap past) met).acts.down
sends_told cap met past on framed =
    let led = led_by (foreman_of cap past) met in
    let step = step_right cap met past (runs_right cap past) in
    let plain = step_plain (foreman_of cap past) met on in
    λ s there. down_told (heard_of (met ∷ past)) step.foreman.owner led.foreman.next s.link s.message framed
    (step.foreman.owned s (stands_right s (sent_of cap past) led.acts.down there)) (step.down s there) (plain.down s there)
