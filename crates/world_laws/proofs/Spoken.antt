-- What kinds of messages a foreman's step sends up and down.
use Rattle.std.proofs.Common.{◌≡◌, ◌≤◌, refl, ℕ, zero, suc, ◌+◌, Bool, true, false, cond, List, [], ◌∷◌, ◌++◌, length, Option, Some, None, Result, Ok, Err, subst}
use Rattle.std.specs.Prelude.{nat_lt, not, map, filter, filter_map, position, slice_get, slice_set, remove, is_some}
use Rattle.std.specs.Option.{option_map, option_map_or}
use Rattle.flow_types.specs.declared.numbers.AttemptNo.{AttemptNo}
use Rattle.flow_types.specs.declared.numbers.FileNo.{FileNo}
use Rattle.flow_types.specs.declared.numbers.LinkNo.{LinkNo}
use Rattle.flow_types.specs.declared.job.Outcome.{Outcome}
use Rattle.flow_types.specs.declared.job.Outcome.TheVariants as outcomes
use Rattle.flow_types.specs.declared.job.Task.{Task}
use Rattle.flow_types.specs.declared.messages.Key.{Key}
use Rattle.flow_types.specs.declared.messages.Message.{Message}
use Rattle.flow_types.specs.declared.messages.Message.TheVariants as messages
use Rattle.link_session.specs.declared.word.Word.{Word}
use Rattle.link_session.specs.declared.word.Word.TheVariants as words
use Rattle.link_session.specs.declared.word.SessionFault.{SessionFault}
use Rattle.link_session.specs.Keys.{lacking}
use Rattle.link_session.specs.Sessions.{State, told}
use Rattle.worker_cache.specs.Caches.{Rows, content_of, is_full, put_in, unlinked}
use Rattle.worker_core.specs.Workers.{holds_all, key_of}
use Rattle.foreman_core.specs.declared.acts.Down.{Down}
use Rattle.foreman_core.specs.declared.links.Below.{Below}
use Rattle.foreman_core.specs.declared.links.Spot.{Spot}
use Rattle.foreman_core.specs.declared.links.Upstream.{Upstream}
use Rattle.foreman_core.specs.Foremen.{Foreman, kept, with_rows, place_of, is_at, is_forsaken, joined, most_links, off_link, others, place_for, place_of_link, totals}
use Rattle.foreman_core.specs.Members.{Every}
use Rattle.foreman_core.specs.Steps.{Led, sending, quiet, holding, renumbered, put_of, puts_and_task, down_to, in_session, placed_on, placed_by, placed_where, settled_at, settled_from, settled, takes, missing_message, misses, closed_on, cancel_at, not_run, cancels_at, hears_up, lost, loses, leaving, drops, restated, new_session, greeted, outcome_in, ends_at, kept_at, puts_again, with_attempt, stated_at, on_word, on_told, heard_at, heard_where, hears_down}
use Rattle.foreman_core.proofs.Members.{every_append, every_nil, every_one, every_cons, every_map, every_filter_map}
use Rattle.world_laws.specs.Laws.{FitsFrame}
use Rattle.world_laws.proofs.Reports.{lack_fits}

-- what goes up only goes up, and missing inputs are told in a frame
abbrev pub IsSaid : Message → Type 0
IsSaid (messages.Done attempt outcome) = Unit {0}
IsSaid (messages.Missing attempt files) = FitsFrame (messages.Missing attempt files)
IsSaid (messages.Totals total largest cache) = Unit {0}
IsSaid _ = ⊥

-- what goes down is a content, a task or a Cancel
abbrev pub IsPassed : Message → Type 0
IsPassed (messages.Put key content) = Unit {0}
IsPassed (messages.Task task) = Unit {0}
IsPassed (messages.Cancel attempt) = Unit {0}
IsPassed _ = ⊥

-- So is all that a step sends.
pub record IsSpoken (led : Led) : Type 0 where
  pub up : Every IsSaid led.acts.up
  pub down : Every (λ s. IsPassed s.message) led.acts.down

quiet_spoken : (f : Foreman) → IsSpoken (quiet f)
quiet_spoken f = record { up = every_nil IsSaid; down = every_nil (λ s. IsPassed s.message) }

told_spoken : (f : Foreman) (up : List Message) → Every IsSaid up → IsSpoken (record { foreman = f; acts = sending up [] })
told_spoken f up all = record { up = all; down = every_nil (λ s. IsPassed s.message) }

holding_spoken : (led : Led) (rows : Rows) → IsSpoken led → IsSpoken (holding led rows)
holding_spoken led rows spoken = record { up = spoken.up; down = spoken.down }

leaving_spoken : (k : LinkNo) (led : Led) → IsSpoken led → IsSpoken (leaving k led)
leaving_spoken k led spoken = record { up = spoken.up; down = spoken.down }

-- ---- placing

put_passed : (key : Key) (content : Option (List ℕ)) (m : Message) → option_map (λ content. messages.Put key content) content ≡ Some m → IsPassed m
put_passed key None m is = absurd (let h : ⊥ = cc in h)
put_passed key (Some content) m is = let same : messages.Put key content ≡ m = cc in subst IsPassed same tt

puts_passed : (rows : Rows) (files : List FileNo) (task : Task) → Every IsPassed (puts_and_task rows files task)
puts_passed rows files task =
    every_append IsPassed (filter_map (put_of rows task.run) files) (messages.Task task ∷ [])
    (every_filter_map IsPassed (put_of rows task.run) files (λ file m is. put_passed (key_of task.run file) (content_of (key_of task.run file) rows) m is))
    (every_one IsPassed (messages.Task task) tt)

downs_passed : (rows : Rows) (k : LinkNo) (files : List FileNo) (task : Task) → Every (λ s. IsPassed s.message) (down_to k (puts_and_task rows files task))
downs_passed rows k files task =
    every_map (λ s. IsPassed s.message) (λ message. let down : Down = record { link = k; message = message } in down) (puts_and_task rows files task) (puts_passed rows files task)

placed_spoken : (led : Led) (at : ℕ) (u : Upstream) (on : ℕ) (b : Below) → IsSpoken led → IsSpoken (placed_on led at u on b)
placed_spoken led at u on b spoken =
    let task : Task = renumbered u.task (record { 0 = led.foreman.next }) in
    let files : List FileNo = lacking b.session.known task.run task.inputs in
    record {
      up = spoken.up;
      down = every_append (λ s. IsPassed s.message) led.acts.down (down_to b.link (puts_and_task led.foreman.cache.rows files task)) spoken.down
          (downs_passed led.foreman.cache.rows b.link files task);
    }

placed_by_spoken : (led : Led) (at : ℕ) (u : Upstream) (on : ℕ) (b : Option Below) → IsSpoken led → IsSpoken (placed_by led at u on b)
placed_by_spoken led at u on None spoken = spoken
placed_by_spoken led at u on (Some b) spoken = placed_spoken led at u on b spoken

placed_where_spoken : (led : Led) (at : ℕ) (u : Upstream) (on : Option ℕ) → IsSpoken led → IsSpoken (placed_where led at u on)
placed_where_spoken led at u None spoken = spoken
placed_where_spoken led at u (Some on) spoken = placed_by_spoken led at u on (slice_get led.foreman.links on) spoken

settled_at_spoken : (led : Led) (at : ℕ) (u : Option Upstream) → IsSpoken led → IsSpoken (settled_at led at u)
settled_at_spoken led at None spoken = spoken
settled_at_spoken led at (Some u) spoken = by (is_some u.spot)
  where
    by : (b : Bool) → IsSpoken (cond b led (placed_where led at u (place_for led.foreman u.task)))
    by true = spoken
    by false = placed_where_spoken led at u (place_for led.foreman u.task) spoken

settled_from_spoken : (left at : ℕ) (led : Led) → IsSpoken led → IsSpoken (settled_from left at led)
settled_from_spoken zero at led spoken = spoken
settled_from_spoken (suc left) at led spoken =
    settled_from_spoken left (at + 1) (settled_at led at (slice_get led.foreman.attempts at))
    (settled_at_spoken led at (slice_get led.foreman.attempts at) spoken)

settled_spoken : (led : Led) → IsSpoken led → IsSpoken (settled led)
settled_spoken led spoken = settled_from_spoken (length led.foreman.attempts) 0 led spoken

-- ---- from above

put_spoken : (f : Foreman) (key : Key) (content : List ℕ) (full : Bool) → IsSpoken (cond full (quiet f) (quiet (with_rows f (put_in f.cache.cap key content f.cache.rows))))
put_spoken f key content true = quiet_spoken f
put_spoken f key content false = quiet_spoken (with_rows f (put_in f.cache.cap key content f.cache.rows))

task_spoken : (f : Foreman) (task : Task) (has holds : Bool) → length task.inputs ≤ 4096 → holds_all f.cache.rows task.run task.inputs ≡ holds
    → IsSpoken (cond has (quiet f) (cond holds (takes f task) (misses f task)))
task_spoken f task true holds few is = quiet_spoken f
task_spoken f task false true few is =
    let next : Foreman = record { cache = f.cache; attempts = f.attempts ++ kept task ∷ []; links = f.links; next = f.next } in
    holding_spoken _ _ (settled_spoken (quiet next) (quiet_spoken next))
task_spoken f task false false few is =
    told_spoken _ (missing_message f.cache.rows task ∷ []) (every_one IsSaid (missing_message f.cache.rows task) (lack_fits f.cache.rows task few is))

cancelled_spoken : (f : Foreman) (u : Upstream) (spot : Option Spot) → IsSpoken (record { foreman = f; acts = sending (not_run u ∷ []) (cancel_at spot) })
cancelled_spoken f u None = told_spoken f (not_run u ∷ []) (every_one IsSaid (not_run u) tt)
cancelled_spoken f u (Some spot) =
    let down : Down = record { link = spot.link; message = messages.Cancel spot.number } in
    record {
      up = every_one IsSaid (not_run u) tt;
      down = every_one (λ s. IsPassed s.message) down tt;
    }

cancels_at_spoken : (f : Foreman) (at : ℕ) (found : Option Upstream) → IsSpoken (cancels_at f at found)
cancels_at_spoken f at None = quiet_spoken f
cancels_at_spoken f at (Some u) =
    let next : Foreman = record { cache = f.cache; attempts = remove f.attempts at; links = closed_on f.links u.spot; next = f.next } in
    holding_spoken _ _ (settled_spoken _ (cancelled_spoken next u u.spot))

cancels_spoken : (f : Foreman) (found : Option ℕ) → IsSpoken (option_map_or (λ at. cancels_at f at (slice_get f.attempts at)) found (quiet f))
cancels_spoken f None = quiet_spoken f
cancels_spoken f (Some at) = cancels_at_spoken f at (slice_get f.attempts at)

-- What a message from above makes a foreman send.
pub up_spoken : (f : Foreman) (m : Message) → ((t : Task) → m ≡ messages.Task t → length t.inputs ≤ 4096) → IsSpoken (hears_up f m)
up_spoken f (messages.Put key content) few = put_spoken f key content (is_full key (length content) f.cache.cap f.cache.rows)
up_spoken f (messages.Task task) few = task_spoken f task (is_some (place_of task.attempt f.attempts)) (holds_all f.cache.rows task.run task.inputs) (few task refl) refl
up_spoken f (messages.Cancel attempt) few = cancels_spoken f (place_of attempt f.attempts)
up_spoken f (messages.Unlink key) few = quiet_spoken (with_rows f (unlinked key f.cache.rows))
up_spoken f (messages.Hello total largest cache) few = quiet_spoken f
up_spoken f (messages.Done attempt outcome) few = quiet_spoken f
up_spoken f (messages.Missing attempt files) few = quiet_spoken f
up_spoken f (messages.Totals total largest cache) few = quiet_spoken f
up_spoken f messages.Bye few = record { up = every_nil IsSaid; down = every_nil (λ s. IsPassed s.message) }

-- ---- lost links

lost_spoken : (f : Foreman) (k : LinkNo) → IsSpoken (lost f k)
lost_spoken f k =
    let gone : List Upstream = filter (is_forsaken f k) f.attempts in
    let after : Foreman = record { cache = f.cache; attempts = map (off_link k) (filter (λ u. not (is_forsaken f k u)) f.attempts); links = others k f.links; next = f.next } in
    holding_spoken _ _ (settled_spoken _ (told_spoken after (totals after ∷ map not_run gone)
    (every_cons IsSaid (totals after) (map not_run gone) tt (every_map IsSaid not_run gone (λ u there. tt)))))

pub loses_spoken : (f : Foreman) (k : LinkNo) → IsSpoken (loses f k)
loses_spoken f k = by (is_some (place_of_link k f.links))
  where
    by : (b : Bool) → IsSpoken (cond b (lost f k) (quiet f))
    by true = lost_spoken f k
    by false = quiet_spoken f

drops_spoken : (f : Foreman) (k : LinkNo) → IsSpoken (drops f k)
drops_spoken f k = leaving_spoken k (loses f k) (loses_spoken f k)

-- ---- from below

restated_spoken : (f : Foreman) → IsSpoken (restated f)
restated_spoken f = settled_spoken _ (told_spoken f (totals f ∷ []) (every_one IsSaid (totals f) tt))

greeted_spoken : (f : Foreman) (k : LinkNo) (session : State) (answer : Result Word SessionFault) → IsSpoken (greeted f k session answer)
greeted_spoken f k session (Ok (words.Joined total largest cache)) = by (nat_lt (length f.links) most_links)
  where
    b : Below
    b = record { link = k; total = total; largest = largest; cache = cache; session = session }

    by : (t : Bool) → IsSpoken (cond t (restated (record { cache = f.cache; attempts = f.attempts; links = joined b f.links; next = f.next })) (drops f k))
    by true = restated_spoken (record { cache = f.cache; attempts = f.attempts; links = joined b f.links; next = f.next })
    by false = drops_spoken f k
greeted_spoken f k session (Ok (words.Changed total largest cache)) = drops_spoken f k
greeted_spoken f k session (Ok (words.Finish attempt)) = drops_spoken f k
greeted_spoken f k session (Ok (words.Fail attempt why)) = drops_spoken f k
greeted_spoken f k session (Ok (words.Lose attempt)) = drops_spoken f k
greeted_spoken f k session (Ok (words.PutAgain attempt files)) = drops_spoken f k
greeted_spoken f k session (Ok (words.Stale attempt)) = drops_spoken f k
greeted_spoken f k session (Err why) = drops_spoken f k

ends_at_spoken : (f : Foreman) (outcome : Outcome) (at : ℕ) (u : Option Upstream) → IsSpoken (ends_at f outcome at u)
ends_at_spoken f outcome at None = quiet_spoken f
ends_at_spoken f outcome at (Some u) =
    let next : Foreman = record { cache = f.cache; attempts = remove f.attempts at; links = f.links; next = f.next } in
    holding_spoken _ _ (settled_spoken _ (told_spoken next (messages.Done u.task.attempt outcome ∷ []) (every_one IsSaid (messages.Done u.task.attempt outcome) tt)))

kept_at_spoken : (f : Foreman) (at : ℕ) (u : Option Upstream) → IsSpoken (kept_at f at u)
kept_at_spoken f at None = quiet_spoken f
kept_at_spoken f at (Some u) =
    let next : Foreman = record { cache = f.cache; attempts = slice_set f.attempts at (kept u.task); links = f.links; next = f.next } in
    settled_spoken (quiet next) (quiet_spoken next)

again_spoken : (f : Foreman) (k : LinkNo) (number : AttemptNo) (files : List FileNo) (u : Option Upstream) → IsSpoken (puts_again f k number files u)
again_spoken f k number files None = quiet_spoken f
again_spoken f k number files (Some u) = record {
  up = every_nil IsSaid;
  down = downs_passed f.cache.rows k files (renumbered u.task number);
}

attempt_spoken : (f : Foreman) (k : LinkNo) (number : AttemptNo) (does : ℕ → Option Upstream → Led) → ((at : ℕ) (u : Option Upstream) → IsSpoken (does at u)) → IsSpoken (with_attempt f k number does)
attempt_spoken f k number does all = by (position (is_at k number) f.attempts)
  where
    by : (place : Option ℕ) → IsSpoken (option_map_or (λ at. does at (slice_get f.attempts at)) place (quiet f))
    by None = quiet_spoken f
    by (Some at) = all at (slice_get f.attempts at)

word_spoken : (f : Foreman) (k : LinkNo) (on : ℕ) (m : Message) (word : Word) → IsSpoken (on_word f k on m word)
word_spoken f k on m (words.Joined total largest cache) = quiet_spoken f
word_spoken f k on m (words.Changed total largest cache) =
    restated_spoken (record { cache = f.cache; attempts = f.attempts; links = stated_at f.links on (slice_get f.links on) total largest cache; next = f.next })
word_spoken f k on m (words.Finish number) = attempt_spoken f k number (ends_at f (outcome_in m)) (λ at u. ends_at_spoken f (outcome_in m) at u)
word_spoken f k on m (words.Fail number why) = attempt_spoken f k number (ends_at f (outcomes.Failed why)) (λ at u. ends_at_spoken f (outcomes.Failed why) at u)
word_spoken f k on m (words.Lose number) = attempt_spoken f k number (kept_at f) (λ at u. kept_at_spoken f at u)
word_spoken f k on m (words.PutAgain number files) = attempt_spoken f k number (λ at u. puts_again f k number files u) (λ at u. again_spoken f k number files u)
word_spoken f k on m (words.Stale number) = quiet_spoken f

answer_spoken : (f : Foreman) (k : LinkNo) (on : ℕ) (m : Message) (links : List Below) (answer : Result Word SessionFault) → IsSpoken (on_told f k on m links answer)
answer_spoken f k on m links (Ok word) = word_spoken (record { cache = f.cache; attempts = f.attempts; links = links; next = f.next }) k on m word
answer_spoken f k on m links (Err why) = drops_spoken f k

heard_at_spoken : (f : Foreman) (k : LinkNo) (on : ℕ) (m : Message) (b : Option Below) → IsSpoken (heard_at f k on m b)
heard_at_spoken f k on m None = quiet_spoken f
heard_at_spoken f k on m (Some b) = answer_spoken f k on m (slice_set f.links on (in_session b (told b.session m).state)) (told b.session m).answer

heard_where_spoken : (f : Foreman) (k : LinkNo) (m : Message) (found : Option ℕ) → IsSpoken (heard_where f k m found)
heard_where_spoken f k m None = greeted_spoken f k (told new_session m).state (told new_session m).answer
heard_where_spoken f k m (Some on) = heard_at_spoken f k on m (slice_get f.links on)

-- What a message from below makes a foreman send.
pub down_spoken : (f : Foreman) (k : LinkNo) (m : Message) → IsSpoken (hears_down f k m)
down_spoken f k m = heard_where_spoken f k m (place_of_link k f.links)
