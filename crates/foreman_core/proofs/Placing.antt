-- Placing keeps a foreman right, wherever it places its attempts.
use Rattle.std.proofs.Common.{◌≡◌, ◌⊎◌, inl, inr, ℕ, zero, suc, ◌+◌, ◌<◌, Bool, true, false, cond, List, [], ◌∷◌, ◌++◌, length, Option, Some, None, refl, ap, sym, ◌∙◌, subst, arith, append_assoc}
use Rattle.std.specs.Prelude.{◌==◌, filter_map, slice_get, is_some}
use Rattle.std.specs.Option.{option_map}
use Rattle.std.proofs.lemmas.Bool.{eqb-true, eqb-false}
use Rattle.flow_types.specs.declared.numbers.AttemptNo.{AttemptNo}
use Rattle.flow_types.specs.declared.numbers.FileNo.{FileNo}
use Rattle.flow_types.specs.declared.numbers.LinkNo.{LinkNo}
use Rattle.flow_types.specs.declared.job.Task.{Task}
use Rattle.flow_types.specs.declared.job.Outcome.TheVariants as outcomes
use Rattle.flow_types.specs.declared.messages.Message.{Message}
use Rattle.flow_types.specs.declared.messages.Message.TheVariants as messages
use Rattle.worker_cache.specs.Caches.{Rows, content_of}
use Rattle.worker_core.specs.Workers.{key_of}
use Rattle.link_session.specs.Keys.{lacking}
use Rattle.foreman_core.specs.declared.acts.Down.{Down}
use Rattle.foreman_core.specs.declared.links.Spot.{Spot}
use Rattle.foreman_core.specs.declared.links.Upstream.{Upstream}
use Rattle.foreman_core.specs.declared.links.Below.{Below}
use Rattle.foreman_core.specs.Foremen.{Foreman, spotted, place_for}
use Rattle.foreman_core.specs.Members.{Stands, Every}
use Rattle.foreman_core.specs.Steps.{Led, renumbered, put_of, puts_and_task, down_to, placed_on, placed_by, placed_where, settled_at, settled_from, settled}
use Rattle.foreman_core.specs.Right.{IsAsked, IsPut, task_at, IsOwned, IsSpotted, IsRight, IsTold, IsRightUp, IsRightDown, IsRightAfter}
use Rattle.foreman_core.proofs.Contents.{OfRow, content_right}
use Rattle.foreman_core.proofs.Members.{stands_left, stands_right, every_append, every_one, every_map, every_filter_map, every_set, get_stands}

-- the numbers' attempts, with one more
abbrev pub owned_with : (ℕ → Task) → ℕ → Task → ℕ → Task
owned_with owner next task number = cond (number == next) task (owner number)

owner_before : (owner : ℕ → Task) (next : ℕ) (task : Task) (number : ℕ) (b : Bool) → (number == next) ≡ b → number < next → cond b task (owner number) ≡ owner number
owner_before owner next task number true same less = absurd (let is : number ≡ next = eqb-true number next same in let h : ⊥ = omega (arith, is, less) in h)
owner_before owner next task number false other less = refl

owner_here : (owner : ℕ → Task) (next : ℕ) (task : Task) → cond (next == next) task (owner next) ≡ task
owner_here owner next task = at (next == next) refl
  where
    at : (b : Bool) → (next == next) ≡ b → cond b task (owner next) ≡ task
    at true same = refl
    at false other = absurd (eqb-false next next other refl)

-- a number
abbrev numbered : ℕ → AttemptNo
numbered n = record { 0 = n }

-- a task that was owned stays so
owned_before : (above : List Message) (owner : ℕ → Task) (next : ℕ) (u : Task) (s : Down) → IsOwned above owner next s → IsOwned above (owned_with owner next u) (next + 1) s
owned_before above owner next u s owned task is =
    let old = owned task is in
    let same : owner task.attempt.0 ≡ owned_with owner next u task.attempt.0 = sym (owner_before owner next u task.attempt.0 (task.attempt.0 == next) refl old.0) in (
      omega (arith, old.0),
      old.1 ∙ ap (λ o. renumbered o task.attempt) same,
      subst (IsAsked above) same old.2,
    )

-- what is placed stays so, as more is sent
pub spotted_before : (sent more : List Down) (next later : ℕ) (x : Upstream) → next < later + 1 → IsSpotted sent next x → IsSpotted (sent ++ more) later x
spotted_before sent more next later x less old spot is =
    let had = old spot is in
    (stands_left (task_at x.task spot) sent more had.0, omega (arith, had.1, less))

spotted_here : (sent more : List Down) (next : ℕ) (u : Upstream) (k : LinkNo) → Stands (task_at u.task (record { link = k; number = numbered next })) more → IsSpotted (sent ++ more) (next + 1) (spotted u k next)
spotted_here sent more next u k there spot is =
    let here : Spot = record { link = k; number = numbered next } in
    let same : here ≡ spot = cc in
    let number : next ≡ spot.number.0 = ap (λ s. s.number.0) same in
    (subst (λ s. Stands (task_at u.task s) (sent ++ more)) same (stands_right (task_at u.task here) sent more there), omega (arith, number))

-- what goes down with a task: contents that came from above, and the one task
abbrev pub IsOnly : List Message → Task → Message → Type 0
IsOnly above task m = IsRightDown above m × ((other : Task) → m ≡ messages.Task other → other ≡ task)

put_right : (above : List Message) (rows : Rows) (run : ℕ) (file : FileNo) (m : Message) (content : Option (List ℕ)) (task : Task) → content_of (key_of run file) rows ≡ content → Every (OfRow (IsPut above)) rows
    → option_map (λ content. messages.Put (key_of run file) content) content ≡ Some m → IsOnly above task m
put_right above rows run file m None task at all is = absurd (let h : ⊥ = cc in h)
put_right above rows run file m (Some content) task at all is =
    let same : messages.Put (key_of run file) content ≡ m = cc in
    (subst (IsRightDown above) same (content_right (IsPut above) (key_of run file) content rows all at), λ other other_is. absurd (let h : ⊥ = cc in h))

sends_only : (above : List Message) (rows : Rows) (files : List FileNo) (task : Task) → Every (OfRow (IsPut above)) rows → Every (IsOnly above task) (puts_and_task rows files task)
sends_only above rows files task all =
    every_append (IsOnly above task) (filter_map (put_of rows task.run) files) (messages.Task task ∷ [])
    (every_filter_map (IsOnly above task) (put_of rows task.run) files (λ file m is. put_right above rows task.run file m (content_of (key_of task.run file) rows) task refl all is))
    (every_one (IsOnly above task) (messages.Task task) (tt, λ other is. let same : other ≡ task = cc in same))

pub downs_only : (above : List Message) (rows : Rows) (k : LinkNo) (files : List FileNo) (task : Task) → Every (OfRow (IsPut above)) rows → Every (λ s. IsOnly above task s.message) (down_to k (puts_and_task rows files task))
downs_only above rows k files task all =
    every_map (λ s. IsOnly above task s.message) (λ message. let down : Down = record { link = k; message = message } in down) (puts_and_task rows files task) (sends_only above rows files task all)

map_last : (k : LinkNo) (puts : List Message) (m : Message) → Stands (let down : Down = record { link = k; message = m } in down) (down_to k (puts ++ m ∷ []))
map_last k [] m = inl refl
map_last k (put ∷ puts) m = inr (map_last k puts m)

-- the new task is owned by the attempt that is placed
new_owned : (above : List Message) (owner : ℕ → Task) (next : ℕ) (u : Task) (s : Down) → IsAsked above u → IsOnly above (renumbered u (numbered next)) s.message → IsOwned above (owned_with owner next u) (next + 1) s
new_owned above owner next u s asked only task is =
    let same : task ≡ renumbered u (numbered next) = only.1 task is in
    let number : task.attempt.0 ≡ next = ap (λ t. t.attempt.0) same in
    let attempt : task.attempt ≡ numbered next = ap (λ t. t.attempt) same in
    let mine : owned_with owner next u task.attempt.0 ≡ u = ap (owned_with owner next u) number ∙ owner_here owner next u in (
      omega (arith, number),
      same ∙ ap (renumbered u) (sym attempt) ∙ ap (λ o. renumbered o task.attempt) (sym mine),
      subst (IsAsked above) (sym mine) asked,
    )

up_grows : (above : List Message) (below sent more : List Down) (m : Message) → IsRightUp above below sent m → IsRightUp above below (sent ++ more) m
up_grows above below sent more (messages.Done attempt outcome) right = (right.0, right.1, right.2, by right.3)
  where
    by : (outcome ≡ outcomes.NotRun) ⊎ IsTold below sent right.0 outcome → (outcome ≡ outcomes.NotRun) ⊎ IsTold below (sent ++ more) right.0 outcome
    by (inl none) = inl none
    by (inr told) = inr (told.0, stands_left (task_at right.0 told.0) sent more told.1, told.2)
up_grows above below sent more (messages.Put key content) right = tt
up_grows above below sent more (messages.Task t) right = tt
up_grows above below sent more (messages.Hello total largest cache) right = tt
up_grows above below sent more (messages.Missing attempt files) right = tt
up_grows above below sent more (messages.Cancel attempt) right = tt
up_grows above below sent more (messages.Unlink key) right = tt
up_grows above below sent more (messages.Totals total largest cache) right = tt
up_grows above below sent more messages.Bye right = tt

-- what one placement sends
abbrev placing_sends : Foreman → Upstream → Below → List Down
placing_sends f u b =
    let task : Task = renumbered u.task (numbered f.next) in
    down_to b.link (puts_and_task f.cache.rows (lacking b.session.known task.run task.inputs) task)

placing_foreman : (above : List Message) (sent : List Down) (led : Led) (at : ℕ) (u : Upstream) (on : ℕ) (b : Below) → IsRight above sent led.foreman → Stands u led.foreman.attempts
    → IsRight above (sent ++ placing_sends led.foreman u b) (placed_on led at u on b).foreman
placing_foreman above sent led at u on b right there =
    let f : Foreman = led.foreman in
    let task : Task = renumbered u.task (numbered f.next) in
    let files : List FileNo = lacking b.session.known task.run task.inputs in
    let more : List Down = placing_sends f u b in
    let only : Every (λ s. IsOnly above task s.message) more = downs_only above f.cache.rows b.link files task right.held in
    record {
      held = right.held;
      asked = every_set (λ x. IsAsked above x.task) f.attempts at (spotted u b.link f.next) (right.asked u there) right.asked;
      owner = owned_with right.owner f.next u.task;
      owned = every_append (IsOwned above (owned_with right.owner f.next u.task) (f.next + 1)) sent more
          (λ s in_sent. owned_before above right.owner f.next u.task s (right.owned s in_sent))
          (λ s in_more. new_owned above right.owner f.next u.task s (right.asked u there) (only s in_more));
      spots = every_set (IsSpotted (sent ++ more) (f.next + 1)) f.attempts at (spotted u b.link f.next)
          (spotted_here sent more f.next u b.link (map_last b.link (filter_map (put_of f.cache.rows task.run) files) (messages.Task task)))
          (λ x in_attempts. spotted_before sent more f.next (f.next + 1) x (omega arith) (right.spots x in_attempts));
    }

placing_right : (above : List Message) (below sent : List Down) (led : Led) (at : ℕ) (u : Upstream) (on : ℕ) (b : Below) → IsRightAfter above below sent led → Stands u led.foreman.attempts → IsRightAfter above below sent (placed_on led at u on b)
placing_right above below sent led at u on b right there =
    let more : List Down = placing_sends led.foreman u b in
    let task : Task = renumbered u.task (numbered led.foreman.next) in
    let files : List FileNo = lacking b.session.known task.run task.inputs in
    let here : List Down = sent ++ led.acts.down in
    let same : here ++ more ≡ sent ++ (led.acts.down ++ more) = append_assoc sent led.acts.down more in
    record {
      foreman = subst (λ all. IsRight above all (placed_on led at u on b).foreman) same (placing_foreman above here led at u on b right.foreman there);
      down = every_append (λ s. IsRightDown above s.message) led.acts.down more right.down
          (λ s in_more. (downs_only above led.foreman.cache.rows b.link files task right.foreman.held s in_more).0);
      up = subst (λ all. Every (IsRightUp above below all) led.acts.up) same (λ m in_up. up_grows above below here more m (right.up m in_up));
    }

placed_by_right : (above : List Message) (below sent : List Down) (led : Led) (at : ℕ) (u : Upstream) (on : ℕ) (b : Option Below) → IsRightAfter above below sent led → Stands u led.foreman.attempts → IsRightAfter above below sent (placed_by led at u on b)
placed_by_right above below sent led at u on None right there = right
placed_by_right above below sent led at u on (Some b) right there = placing_right above below sent led at u on b right there

placed_right : (above : List Message) (below sent : List Down) (led : Led) (at : ℕ) (u : Upstream) (on : Option ℕ) → IsRightAfter above below sent led → Stands u led.foreman.attempts → IsRightAfter above below sent (placed_where led at u on)
placed_right above below sent led at u None right there = right
placed_right above below sent led at u (Some on) right there = placed_by_right above below sent led at u on (slice_get led.foreman.links on) right there

settled_at_right : (above : List Message) (below sent : List Down) (led : Led) (at : ℕ) (u : Option Upstream) → slice_get led.foreman.attempts at ≡ u → IsRightAfter above below sent led → IsRightAfter above below sent (settled_at led at u)
settled_at_right above below sent led at None got right = right
settled_at_right above below sent led at (Some u) got right = by (is_some u.spot)
  where
    by : (b : Bool) → IsRightAfter above below sent (cond b led (placed_where led at u (place_for led.foreman u.task)))
    by true = right
    by false = placed_right above below sent led at u (place_for led.foreman u.task) right (get_stands led.foreman.attempts at u got)

settled_from_right : (above : List Message) (below sent : List Down) (left at : ℕ) (led : Led) → IsRightAfter above below sent led → IsRightAfter above below sent (settled_from left at led)
settled_from_right above below sent zero at led right = right
settled_from_right above below sent (suc left) at led right =
    settled_from_right above below sent left (at + 1) (settled_at led at (slice_get led.foreman.attempts at))
    (settled_at_right above below sent led at (slice_get led.foreman.attempts at) refl right)

-- Placing whatever fits keeps a step right.
pub settled_right : (above : List Message) (below sent : List Down) (led : Led) → IsRightAfter above below sent led → IsRightAfter above below sent (settled led)
settled_right above below sent led right = settled_from_right above below sent (length led.foreman.attempts) 0 led right
