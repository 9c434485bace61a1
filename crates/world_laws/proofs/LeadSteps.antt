-- A foreman's step keeps it right, and sends what is right.
use Rattle.std.proofs.Common.{◌≡◌, ◌≤◌, ◌⊎◌, inl, inr, length, ℕ, List, [], ◌∷◌, ◌++◌, Option, Some, None, refl, ap, sym, ◌∙◌, subst}
use Rattle.std.specs.Prelude.{map, filter_map, position}
use Rattle.std.specs.Option.{option_map}
use Rattle.flow_types.specs.declared.job.Outcome.{Outcome}
use Rattle.flow_types.specs.declared.job.Outcome.TheVariants as outcomes
use Rattle.flow_types.specs.declared.job.Task.{Task}
use Rattle.flow_types.specs.declared.numbers.AttemptNo.{AttemptNo}
use Rattle.flow_types.specs.declared.numbers.LinkNo.{LinkNo}
use Rattle.flow_types.specs.declared.records.Record.{Record}
use Rattle.flow_types.specs.declared.messages.Message.{Message}
use Rattle.flow_types.specs.declared.messages.Message.TheVariants as messages
use Rattle.links.specs.Honesty.{task_job}
use Rattle.foreman_core.specs.declared.acts.Down.{Down}
use Rattle.foreman_core.specs.declared.links.Spot.{Spot}
use Rattle.foreman_core.specs.Members as lists
use Rattle.foreman_core.specs.Right.{IsOwned, IsRightAfter, IsRightDown, IsRightUp, IsTold, task_at}
use Rattle.foreman_core.specs.Steps.{Led, hears_down, hears_up, loses, renumbered}
use Rattle.foreman_core.proofs.Keeps.{down_keeps_right, first_is_right, lost_keeps_right, up_keeps_right}
use Rattle.foreman_core.proofs.Members as their
use Rattle.world_peers.specs.declared.sent.Party.TheVariants.{Master, Peer}
use Rattle.world_peers.specs.declared.sent.Sent.{Sent}
use Rattle.world_laws.specs.Members.{Stands, Every}
use Rattle.world_peers.specs.declared.member.Member.{Member}
use Rattle.world_peers.specs.Peers.{Lead, down_to, new_lead, stepped_lead, told_to, up_from}
use Rattle.world_peers.specs.Company.{is_at, led_sends, sent_down}
use Rattle.world_laws.specs.Reach.{MayEnd}
use Rattle.flow_types.specs.Plans.{IsValid}
use Rattle.world_laws.specs.Laws.{IsReport, task_sent}
use Rattle.world_laws.proofs.Reports.{answer_report}
use Rattle.world_peers.proofs.Spellings.{totals_short}
use Rattle.world_laws.proofs.Members.{every_append, every_filter_map_in, every_map, stands_either, stands_left}
use Rattle.world_laws.proofs.Grows.{Within, below_grows}
use Rattle.world_laws.proofs.Spoken.{IsPassed, IsSaid, IsSpoken, down_spoken, loses_spoken, up_spoken}
use Rattle.world_laws.proofs.Invariant.{Setting, due, SaysNone, IsAmong, IsHeardBelow, IsOurAnswer, IsRight, IsRightLead}

-- a list's items stand there, in foreman_core's words
theirs : {A : Type 0} (x : A) (xs : List A) → Stands x xs → lists.Stands x xs
theirs x [] there = absurd there
theirs x (y ∷ ys) (inl same) = inl same
theirs x (y ∷ ys) (inr there) = inr (theirs x ys there)

-- A step of a foreman is right over what was heard and what was sent before: these stand in the bag, and each task that it
-- handed on is among what was sent before.
pub record IsLed (bag : List Sent) (p : ℕ) (did : Led) : Type 0 where
  pub above : List Message
  pub below : List Down
  pub down : List Down
  pub heard : lists.Every (λ m. Stands (down_to p m) bag) above
  pub told : lists.Every (λ d. IsHeardBelow bag p d.message) below
  pub handed : (q : ℕ) (t : Task) → Stands (task_sent (Peer p) (Peer q) t) bag → IsAmong down t
  pub said : (m : Message) → Stands (told_to Master p m) bag → IsReport m
  pub after : IsRightAfter above below down did
  pub spoken : IsSpoken did

-- ---- what a step makes of a right foreman

-- a message of the master
pub up_led : (S : Setting) (bag : List Sent) (p : ℕ) (lead : Lead) (m : Message) → ((t : Task) → m ≡ messages.Task t → length t.inputs ≤ 4096) → Stands (down_to p m) bag → IsRightLead S bag p lead → IsLed bag p (hears_up lead.foreman m)
up_led S bag p lead m few stands right = record {
  above = right.above ++ m ∷ [];
  below = right.below;
  down = right.down;
  heard = their.every_append (λ m. Stands (down_to p m) bag) right.above (m ∷ []) right.heard (their.every_one (λ m. Stands (down_to p m) bag) m stands);
  told = right.told;
  handed = right.handed;
  said = right.said;
  after = up_keeps_right right.above right.below right.down lead.foreman m right.right;
  spoken = up_spoken lead.foreman m few;
}

-- a message of a worker
pub down_led : (S : Setting) (bag : List Sent) (p : ℕ) (lead : Lead) (k : LinkNo) (m : Message) → IsHeardBelow bag p m → IsRightLead S bag p lead → IsLed bag p (hears_down lead.foreman k m)
down_led S bag p lead k m heard right =
    let last : Down = record { link = k; message = m } in
    record {
      above = right.above;
      below = right.below ++ last ∷ [];
      down = right.down;
      heard = right.heard;
      told = their.every_append (λ d. IsHeardBelow bag p d.message) right.below (last ∷ []) right.told (their.every_one (λ d. IsHeardBelow bag p d.message) last heard);
      handed = right.handed;
      said = right.said;
      after = down_keeps_right right.above right.below right.down lead.foreman k m right.right;
      spoken = down_spoken lead.foreman k m;
    }

-- a lost link
pub lost_led : (S : Setting) (bag : List Sent) (p : ℕ) (lead : Lead) (k : LinkNo) → IsRightLead S bag p lead → IsLed bag p (loses lead.foreman k)
lost_led S bag p lead k right = record {
  above = right.above;
  below = right.below;
  down = right.down;
  heard = right.heard;
  told = right.told;
  handed = right.handed;
  said = right.said;
  after = lost_keeps_right right.above right.below right.down lead.foreman k right.right;
  spoken = loses_spoken lead.foreman k;
}

-- ---- what goes up

-- The task that a worker told an end of is the one that was placed under its number.
same_task : (above : List Message) (owner : ℕ → Task) (next : ℕ) (task t : Task) (spot : Spot) (k : LinkNo) → IsOwned above owner next (task_at task spot)
    → IsOwned above owner next (let down : Down = record { link = k; message = messages.Task t } in down) → t.attempt ≡ spot.number → t ≡ renumbered task spot.number
same_task above owner next task t spot k placed sent number =
    let first = placed (renumbered task spot.number) refl in
    let second = sent t refl in
    second.1 ∙ ap (λ (n : AttemptNo). renumbered (owner n.0) n) number ∙ sym first.1

told_right : (S : Setting) (H : List Record) (bag : List Sent) (p : ℕ) (did : Led) (led : IsLed bag p did) (task : Task) (outcome : Outcome) → Every (IsRight S H bag) bag
    → IsTold led.below (led.down ++ did.acts.down) task outcome → MayEnd S.gives S.may_fail (task_job task (due S)) outcome
told_right S H bag p did led task outcome right told =
    let spot : Spot = told.0 in
    let heard = led.told _ told.2 in
    let answer : IsOurAnswer S bag (Peer p) (Peer heard.0) spot.number outcome = right _ heard.1 in
    let among : IsAmong led.down answer.0 = led.handed heard.0 answer.0 answer.2 in
    let all : List Down = led.down ++ did.acts.down in
    let foreman = led.after.foreman in
    let same : answer.0 ≡ renumbered task spot.number =
    same_task led.above foreman.owner did.foreman.next task answer.0 spot among.0 (foreman.owned (task_at task spot) told.1)
    (foreman.owned _ (their.stands_left _ led.down did.acts.down among.1)) answer.1 in
    subst (λ t. MayEnd S.gives S.may_fail (task_job t (due S)) outcome) same answer.3

-- what a foreman says is right
said_right : (S : Setting) (H : List Record) (bag : List Sent) (p : ℕ) (did : Led) (led : IsLed bag p did) (m : Message) → Every (IsRight S H bag) bag → IsSaid m
    → IsRightUp led.above led.below (led.down ++ did.acts.down) m → IsRight S H bag (up_from p m)
said_right S H bag p did led (messages.Done attempt outcome) right said up = (up.0, up.1, led.heard _ up.2, by up.3)
  where
    by : (outcome ≡ outcomes.NotRun) ⊎ IsTold led.below (led.down ++ did.acts.down) up.0 outcome → MayEnd S.gives S.may_fail (task_job up.0 (due S)) outcome
    by (inl none) = subst (λ o. MayEnd S.gives S.may_fail (task_job up.0 (due S)) o) (sym none) (λ run. absurd run)
    by (inr told) = told_right S H bag p did led up.0 outcome right told
said_right S H bag p did led (messages.Missing attempt files) right said up = tt
said_right S H bag p did led (messages.Totals total largest cache) right said up = tt
said_right S H bag p did led (messages.Put key content) right said up = absurd said
said_right S H bag p did led (messages.Task t) right said up = absurd said
said_right S H bag p did led (messages.Hello total largest cache) right said up = absurd said
said_right S H bag p did led (messages.Cancel attempt) right said up = absurd said
said_right S H bag p did led (messages.Unlink key) right said up = absurd said
said_right S H bag p did led messages.Bye right said up = absurd said

-- ---- what goes down

-- what a foreman sends to a worker is right
passed_right : (S : Setting) (H : List Record) (bag : List Sent) (p q : ℕ) (did : Led) (led : IsLed bag p did) (d : Down) (m : Message) → d.message ≡ m → lists.Stands d did.acts.down
    → Every (IsRight S H bag) bag → IsPassed m → IsRightDown led.above m → IsRight S H bag (told_to (Peer q) p m)
passed_right S H bag p q did led d (messages.Put key content) is there right passed down = right _ (led.heard _ down)
passed_right S H bag p q did led d (messages.Task t) is there right passed down =
    let owned = led.after.foreman.owned d (their.stands_right d led.down did.acts.down there) t is in
    (led.after.foreman.owner t.attempt.0, led.heard _ owned.2, owned.1)
passed_right S H bag p q did led d (messages.Cancel attempt) is there right passed down = tt
passed_right S H bag p q did led d (messages.Done attempt outcome) is there right passed down = absurd passed
passed_right S H bag p q did led d (messages.Missing attempt files) is there right passed down = absurd passed
passed_right S H bag p q did led d (messages.Totals total largest cache) is there right passed down = absurd passed
passed_right S H bag p q did led d (messages.Hello total largest cache) is there right passed down = absurd passed
passed_right S H bag p q did led d (messages.Unlink key) is there right passed down = absurd passed
passed_right S H bag p q did led d messages.Bye is there right passed down = absurd passed

-- where a message goes down it is that of the step, to some worker
goes_to : (p : ℕ) (d : Down) (s : Sent) (found : Option ℕ) → option_map (λ q. told_to (Peer q) p d.message) found ≡ Some s → (q : ℕ) × (told_to (Peer q) p d.message ≡ s)
goes_to p d s None is = absurd (let h : ⊥ = cc in h)
goes_to p d s (Some q) is = (q, let same : told_to (Peer q) p d.message ≡ s = cc in same)

-- All that a step sends is right.
pub sends_right : (S : Setting) (H : List Record) (bag : List Sent) (peers : List Member) (p : ℕ) (did : Led) → IsLed bag p did → Every (IsRight S H bag) bag
    → Every (IsRight S H bag) (led_sends peers p did.acts)
sends_right S H bag peers p did led right =
    every_append (IsRight S H bag) (map (up_from p) did.acts.up) (filter_map (sent_down peers p) did.acts.down)
    (every_map (IsRight S H bag) (up_from p) did.acts.up
    (λ m there. said_right S H bag p did led m right (led.spoken.up m (theirs m did.acts.up there)) (led.after.up m (theirs m did.acts.up there))))
    (every_filter_map_in (IsRight S H bag) (sent_down peers p) did.acts.down (λ d there s is. by d there s (goes_to p d s (position (is_at p d.link) peers) is)))
  where
    by : (d : Down) → Stands d did.acts.down → (s : Sent) → (q : ℕ) × (told_to (Peer q) p d.message ≡ s) → IsRight S H bag s
    by d there s to =
        let here : lists.Stands d did.acts.down = theirs d did.acts.down there in
        subst (IsRight S H bag) to.1 (passed_right S H bag p to.0 did led d d.message refl here right (led.spoken.down d here) (led.after.down d here))

-- ---- what is said

-- what a foreman says is a report
said_report : (S : Setting) (H : List Record) (bag : List Sent) (p : ℕ) (m : Message) → IsValid S.plan → Every (IsRight S H bag) bag → IsSaid m → IsRight S H bag (up_from p m) → IsReport m
said_report S H bag p (messages.Done attempt outcome) valid right said answer = answer_report S H bag Master (Peer p) attempt outcome valid right answer
said_report S H bag p (messages.Missing attempt files) valid right said is = said
said_report S H bag p (messages.Totals total largest cache) valid right said is = (tt, totals_short total largest cache)
said_report S H bag p (messages.Put key content) valid right said is = absurd said
said_report S H bag p (messages.Task t) valid right said is = absurd said
said_report S H bag p (messages.Hello total largest cache) valid right said is = absurd said
said_report S H bag p (messages.Cancel attempt) valid right said is = absurd said
said_report S H bag p (messages.Unlink key) valid right said is = absurd said
said_report S H bag p messages.Bye valid right said is = absurd said

-- all that a step sends is of this foreman, and what of it goes to the master is a report
abbrev pub IsOfLead : ℕ → Sent → Type 0
IsOfLead p s = (s.from ≡ Peer p) × ((m : Message) → s ≡ told_to Master p m → IsReport m)

below_of_lead : (p : ℕ) (d : Down) (s : Sent) → (to : (q : ℕ) × (told_to (Peer q) p d.message ≡ s)) → IsOfLead p s
below_of_lead p d s to = (
  sym (ap (λ (s : Sent). s.from) to.1),
  λ m same. absurd (let whole : told_to (Peer to.0) p d.message ≡ told_to Master p m = to.1 ∙ same in
      let other : Peer to.0 ≡ Master = ap (λ (s : Sent). s.to) whole in
      let h : ⊥ = cc in h),
)

pub sends_of_lead : (S : Setting) (H : List Record) (bag : List Sent) (peers : List Member) (p : ℕ) (did : Led) → IsValid S.plan → IsLed bag p did → Every (IsRight S H bag) bag
    → Every (IsOfLead p) (led_sends peers p did.acts)
sends_of_lead S H bag peers p did valid led right =
    every_append (IsOfLead p) (map (up_from p) did.acts.up) (filter_map (sent_down peers p) did.acts.down)
    (every_map (IsOfLead p) (up_from p) did.acts.up (λ m there. (
      refl,
      λ n same.
          let is : m ≡ n = ap (λ (s : Sent). s.message) same in
          let here : lists.Stands m did.acts.up = theirs m did.acts.up there in
          subst IsReport is (said_report S H bag p m valid right (led.spoken.up m here) (said_right S H bag p did led m right (led.spoken.up m here) (led.after.up m here))),
    )))
    (every_filter_map_in (IsOfLead p) (sent_down peers p) did.acts.down
    (λ d there s is. below_of_lead p d s (goes_to p d s (position (is_at p d.link) peers) is)))

-- ---- tasks that are handed on

-- a task from peer to peer is one that this foreman's step hands on
abbrev pub IsOfStep : ℕ → Led → Sent → Type 0
IsOfStep p did s = (r q : ℕ) (t : Task) → s ≡ task_sent (Peer r) (Peer q) t → (r ≡ p) × IsAmong did.acts.down t

up_of_step : (p : ℕ) (did : Led) (m : Message) → IsOfStep p did (up_from p m)
up_of_step p did m r q t same = absurd (let to : Master ≡ Peer q = ap (λ (s : Sent). s.to) same in let h : ⊥ = cc in h)

down_of_step : (p : ℕ) (did : Led) (d : Down) (s : Sent) (to : (q : ℕ) × (told_to (Peer q) p d.message ≡ s)) → lists.Stands d did.acts.down → IsOfStep p did s
down_of_step p did d s to there r q t same =
    let whole : told_to (Peer to.0) p d.message ≡ task_sent (Peer r) (Peer q) t = to.1 ∙ same in
    let from : Peer p ≡ Peer r = ap (λ (s : Sent). s.from) whole in
    let is : r ≡ p = cc in
    let task : d.message ≡ messages.Task t = ap (λ (s : Sent). s.message) whole in
    (is, (d.link, subst (λ m. lists.Stands (let down : Down = record { link = d.link; message = m } in down) did.acts.down) task there))

-- Whatever a step sends, what is a task from peer to peer is one that it hands on.
pub sends_of_step : (peers : List Member) (p : ℕ) (did : Led) → Every (IsOfStep p did) (led_sends peers p did.acts)
sends_of_step peers p did =
    every_append (IsOfStep p did) (map (up_from p) did.acts.up) (filter_map (sent_down peers p) did.acts.down)
    (every_map (IsOfStep p did) (up_from p) did.acts.up (λ m there. up_of_step p did m))
    (every_filter_map_in (IsOfStep p did) (sent_down peers p) did.acts.down
    (λ d there s is. down_of_step p did d s (goes_to p d s (position (is_at p d.link) peers) is) (theirs d did.acts.down there)))

-- The foreman after the step is right, over the bag with what it sent.
pub lead_led : (S : Setting) (bag : List Sent) (peers : List Member) (p : ℕ) (lead : Lead) (did : Led) → IsLed bag p did → Every (IsOfLead p) (led_sends peers p did.acts)
    → IsRightLead S (bag ++ led_sends peers p did.acts) p (stepped_lead lead did)
lead_led S bag peers p lead did led sends =
    let more : List Sent = led_sends peers p did.acts in
    let within : Within bag (bag ++ more) = λ s there. stands_left s bag more there in
    record {
      above = led.above;
      below = led.below;
      down = led.down ++ did.acts.down;
      heard = λ m there. within _ (led.heard m there);
      told = λ d there. below_grows bag (bag ++ more) p d.message within (led.told d there);
      handed = λ q t there. by q t (stands_either (task_sent (Peer p) (Peer q) t) bag more there);
      said = λ m there. said_by m (stands_either (told_to Master p m) bag more there);
      right = led.after.foreman;
    }
  where
    said_by : (m : Message) → Stands (told_to Master p m) bag ⊎ Stands (told_to Master p m) (led_sends peers p did.acts) → IsReport m
    said_by m (inl old) = led.said m old
    said_by m (inr new) = (sends _ new).1 m refl

    by : (q : ℕ) (t : Task) → Stands (task_sent (Peer p) (Peer q) t) bag ⊎ Stands (task_sent (Peer p) (Peer q) t) (led_sends peers p did.acts) → IsAmong (led.down ++ did.acts.down) t
    by q t (inl old) = let among = led.handed q t old in (among.0, their.stands_left _ led.down did.acts.down among.1)
    by q t (inr new) =
        let among = (sends_of_step peers p did _ new p q t refl).1 in (among.0, their.stands_right _ led.down did.acts.down among.1)

-- A new foreman is right, where nothing was handed on under its number.
pub new_right : (S : Setting) (bag : List Sent) (p cap : ℕ) → SaysNone bag p → IsRightLead S bag p (new_lead cap)
new_right S bag p cap none = record {
  above = [];
  below = [];
  down = [];
  heard = their.every_nil (λ m. Stands (down_to p m) bag);
  told = their.every_nil (λ d. IsHeardBelow bag p d.message);
  handed = λ q t there. absurd (none (Peer q) (messages.Task t) there);
  said = λ m there. absurd (none Master m there);
  right = first_is_right cap;
}
