-- What a foreman's step says and sends, message by message.
use Rattle.std.proofs.Common.{◌≡◌, ℕ, zero, suc, ◌+◌, Bool, true, false, cond, List, [], ◌∷◌, ◌++◌, length, Option, Some, None, Result, Ok, Err, refl, sym, ◌∙◌, subst}
use Rattle.std.specs.Prelude.{nat_lt, map, filter, filter_map, position, slice_get, slice_set, remove, is_some}
use Rattle.std.specs.Option.{option_map, option_map_or}
use Rattle.flow_types.specs.declared.numbers.AttemptNo.{AttemptNo}
use Rattle.flow_types.specs.declared.numbers.FileNo.{FileNo}
use Rattle.flow_types.specs.declared.numbers.LinkNo.{LinkNo}
use Rattle.flow_types.specs.declared.job.Outcome.{Outcome}
use Rattle.flow_types.specs.declared.job.Outcome.TheVariants as outcomes
use Rattle.flow_types.specs.declared.job.Task.{Task}
use Rattle.flow_types.specs.declared.messages.Key.{Key}
use Rattle.flow_types.specs.declared.messages.Message.{Message}
use Rattle.flow_types.specs.declared.messages.Message.TheVariants as messages
use Rattle.link_session.specs.declared.word.Word.{Word}
use Rattle.link_session.specs.declared.word.Word.TheVariants as words
use Rattle.link_session.specs.declared.word.SessionFault.{SessionFault}
use Rattle.link_session.specs.Keys.{lacking}
use Rattle.link_session.specs.Sessions.{State, told}
use Rattle.wq_messages.specs.Spelling.{HasCounts}
use Rattle.worker_cache.specs.Caches.{Rows, is_full, put_in, unlinked}
use Rattle.worker_core.specs.Workers.{Worker, holds_all, key_of}
use Rattle.foreman_core.specs.declared.acts.Down.{Down}
use Rattle.foreman_core.specs.declared.links.Below.{Below}
use Rattle.foreman_core.specs.declared.links.Spot.{Spot}
use Rattle.foreman_core.specs.declared.links.Upstream.{Upstream}
use Rattle.foreman_core.specs.Foremen.{Foreman, kept, with_rows, place_of, is_at, is_forsaken, joined, most_links, off_link, others, place_for, place_of_link, totals}
use Rattle.foreman_core.specs.Members.{Every}
use Rattle.foreman_core.specs.Steps.{Led, sending, quiet, holding, renumbered, put_of, puts_and_task, down_to, in_session, placed_on, placed_by, placed_where, settled_at, settled_from, settled, takes, missing_message, misses, closed_on, cancel_at, not_run, cancels_at, hears_up, lost, loses, leaving, drops, restated, new_session, greeted, outcome_in, ends_at, kept_at, puts_again, with_attempt, stated_at, on_word, on_told, heard_at, heard_where, hears_down}
use Rattle.foreman_core.proofs.Members.{every_append, every_nil, every_one, every_cons, every_map, every_filter_map}
use Rattle.peer_run.specs.Met.{is_bye}
use Rattle.peer_run.specs.Says.{CanBeTold}
use Rattle.peer_run.proofs.Sizes.{missing_told}
use Rattle.foreman_run.specs.Met.{nothing}
use Rattle.foreman_run.proofs.Sizes.{cancel_told, totals_told}

-- what goes up can be told, where it isn't a result
abbrev pub IsSayable : Message → Type 0
IsSayable (messages.Done attempt outcome) = Unit {0}
IsSayable m = CanBeTold m

-- what goes down can be told, where it is neither a content nor a task
abbrev pub IsSendable : Message → Type 0
IsSendable (messages.Put key content) = Unit {0}
IsSendable (messages.Task task) = Unit {0}
IsSendable m = CanBeTold m

-- So is all that a step says and sends, and it isn't the end of the work.
pub record IsPlain (led : Led) : Type 0 where
  pub up : Every IsSayable led.acts.up
  pub down : Every (λ s. IsSendable s.message) led.acts.down
  pub on : led.acts.bye ≡ false

quiet_plain : (f : Foreman) → IsPlain (quiet f)
quiet_plain f = record { up = every_nil IsSayable; down = every_nil (λ s. IsSendable s.message); on = refl }

told_plain : (f : Foreman) (up : List Message) → Every IsSayable up → IsPlain (record { foreman = f; acts = sending up [] })
told_plain f up all = record { up = all; down = every_nil (λ s. IsSendable s.message); on = refl }

holding_plain : (led : Led) (rows : Rows) → IsPlain led → IsPlain (holding led rows)
holding_plain led rows plain = record { up = plain.up; down = plain.down; on = plain.on }

leaving_plain : (k : LinkNo) (led : Led) → IsPlain led → IsPlain (leaving k led)
leaving_plain k led plain = record { up = plain.up; down = plain.down; on = plain.on }

-- ---- placing

put_sendable : (key : Key) (content : Option (List ℕ)) (m : Message) → option_map (λ content. messages.Put key content) content ≡ Some m → IsSendable m
put_sendable key None m is = absurd (let h : ⊥ = cc in h)
put_sendable key (Some content) m is = let same : messages.Put key content ≡ m = cc in subst IsSendable same tt

puts_sendable : (rows : Rows) (files : List FileNo) (task : Task) → Every IsSendable (puts_and_task rows files task)
puts_sendable rows files task =
    every_append IsSendable (filter_map (put_of rows task.run) files) (messages.Task task ∷ [])
    (every_filter_map IsSendable (put_of rows task.run) files (λ file m is. put_sendable (key_of task.run file) (Rattle.worker_cache.specs.Caches.content_of (key_of task.run file) rows) m is))
    (every_one IsSendable (messages.Task task) tt)

downs_sendable : (rows : Rows) (k : LinkNo) (files : List FileNo) (task : Task) → Every (λ s. IsSendable s.message) (down_to k (puts_and_task rows files task))
downs_sendable rows k files task =
    every_map (λ s. IsSendable s.message) (λ message. let down : Down = record { link = k; message = message } in down) (puts_and_task rows files task) (puts_sendable rows files task)

placed_plain : (led : Led) (at : ℕ) (u : Upstream) (on : ℕ) (b : Below) → IsPlain led → IsPlain (placed_on led at u on b)
placed_plain led at u on b plain =
    let task : Task = renumbered u.task (record { 0 = led.foreman.next }) in
    let files : List FileNo = lacking b.session.known task.run task.inputs in
    record {
      up = plain.up;
      down = every_append (λ s. IsSendable s.message) led.acts.down (down_to b.link (puts_and_task led.foreman.cache.rows files task)) plain.down
          (downs_sendable led.foreman.cache.rows b.link files task);
      on = plain.on;
    }

placed_by_plain : (led : Led) (at : ℕ) (u : Upstream) (on : ℕ) (b : Option Below) → IsPlain led → IsPlain (placed_by led at u on b)
placed_by_plain led at u on None plain = plain
placed_by_plain led at u on (Some b) plain = placed_plain led at u on b plain

placed_where_plain : (led : Led) (at : ℕ) (u : Upstream) (on : Option ℕ) → IsPlain led → IsPlain (placed_where led at u on)
placed_where_plain led at u None plain = plain
placed_where_plain led at u (Some on) plain = placed_by_plain led at u on (slice_get led.foreman.links on) plain

settled_at_plain : (led : Led) (at : ℕ) (u : Option Upstream) → IsPlain led → IsPlain (settled_at led at u)
settled_at_plain led at None plain = plain
settled_at_plain led at (Some u) plain = by (is_some u.spot)
  where
    by : (b : Bool) → IsPlain (cond b led (placed_where led at u (place_for led.foreman u.task)))
    by true = plain
    by false = placed_where_plain led at u (place_for led.foreman u.task) plain

settled_from_plain : (left at : ℕ) (led : Led) → IsPlain led → IsPlain (settled_from left at led)
settled_from_plain zero at led plain = plain
settled_from_plain (suc left) at led plain =
    settled_from_plain left (at + 1) (settled_at led at (slice_get led.foreman.attempts at))
    (settled_at_plain led at (slice_get led.foreman.attempts at) plain)

settled_plain : (led : Led) → IsPlain led → IsPlain (settled led)
settled_plain led plain = settled_from_plain (length led.foreman.attempts) 0 led plain

-- ---- from above

put_plain : (f : Foreman) (key : Key) (content : List ℕ) (full : Bool) → IsPlain (cond full (quiet f) (quiet (with_rows f (put_in f.cache.cap key content f.cache.rows))))
put_plain f key content true = quiet_plain f
put_plain f key content false = quiet_plain (with_rows f (put_in f.cache.cap key content f.cache.rows))

-- a worker that keeps the same
abbrev worker_with : Foreman → Worker
worker_with f = record { total = nothing; cache = f.cache; running = [] }

task_plain : (f : Foreman) (task : Task) (has holds : Bool) → holds_all f.cache.rows task.run task.inputs ≡ holds → HasCounts (messages.Task task)
    → IsPlain (cond has (quiet f) (cond holds (takes f task) (misses f task)))
task_plain f task true holds is few = quiet_plain f
task_plain f task false true is few =
    let next : Foreman = record { cache = f.cache; attempts = f.attempts ++ kept task ∷ []; links = f.links; next = f.next } in
    holding_plain _ _ (settled_plain (quiet next) (quiet_plain next))
task_plain f task false false is few =
    told_plain _ (missing_message f.cache.rows task ∷ []) (every_one IsSayable (missing_message f.cache.rows task) (missing_told (worker_with f) task few.0 is))

cancelled_plain : (f : Foreman) (u : Upstream) (spot : Option Spot) → IsPlain (record { foreman = f; acts = sending (not_run u ∷ []) (cancel_at spot) })
cancelled_plain f u None = told_plain f (not_run u ∷ []) (every_one IsSayable (not_run u) tt)
cancelled_plain f u (Some spot) =
    let down : Down = record { link = spot.link; message = messages.Cancel spot.number } in
    record {
      up = every_one IsSayable (not_run u) tt;
      down = every_one (λ s. IsSendable s.message) down (cancel_told spot.number);
      on = refl;
    }

cancels_at_plain : (f : Foreman) (at : ℕ) (found : Option Upstream) → IsPlain (cancels_at f at found)
cancels_at_plain f at None = quiet_plain f
cancels_at_plain f at (Some u) =
    let next : Foreman = record { cache = f.cache; attempts = remove f.attempts at; links = closed_on f.links u.spot; next = f.next } in
    holding_plain _ _ (settled_plain _ (cancelled_plain next u u.spot))

cancels_plain : (f : Foreman) (found : Option ℕ) → IsPlain (option_map_or (λ at. cancels_at f at (slice_get f.attempts at)) found (quiet f))
cancels_plain f None = quiet_plain f
cancels_plain f (Some at) = cancels_at_plain f at (slice_get f.attempts at)

-- What a message from above that isn't Bye makes a foreman do.
pub up_plain : (f : Foreman) (m : Message) → HasCounts m → is_bye m ≡ false → IsPlain (hears_up f m)
up_plain f (messages.Put key content) few stays = put_plain f key content (is_full key (length content) f.cache.cap f.cache.rows)
up_plain f (messages.Task task) few stays = task_plain f task (is_some (place_of task.attempt f.attempts)) (holds_all f.cache.rows task.run task.inputs) refl few
up_plain f (messages.Cancel attempt) few stays = cancels_plain f (place_of attempt f.attempts)
up_plain f (messages.Unlink key) few stays = quiet_plain (with_rows f (unlinked key f.cache.rows))
up_plain f (messages.Hello total largest cache) few stays = quiet_plain f
up_plain f (messages.Done attempt outcome) few stays = quiet_plain f
up_plain f (messages.Missing attempt files) few stays = quiet_plain f
up_plain f (messages.Totals total largest cache) few stays = quiet_plain f
up_plain f messages.Bye few stays = absurd (let h : ⊥ = cc in h)

-- Bye ends the work, and nothing is said or sent then.
pub bye_ends : (f : Foreman) (m : Message) → is_bye m ≡ true → ((hears_up f m).acts.up ≡ []) × ((hears_up f m).acts.down ≡ []) × ((hears_up f m).acts.bye ≡ true)
bye_ends f messages.Bye is = (refl, refl, refl)
bye_ends f (messages.Put key content) is = absurd (let h : ⊥ = cc in h)
bye_ends f (messages.Task task) is = absurd (let h : ⊥ = cc in h)
bye_ends f (messages.Cancel attempt) is = absurd (let h : ⊥ = cc in h)
bye_ends f (messages.Unlink key) is = absurd (let h : ⊥ = cc in h)
bye_ends f (messages.Hello total largest cache) is = absurd (let h : ⊥ = cc in h)
bye_ends f (messages.Done attempt outcome) is = absurd (let h : ⊥ = cc in h)
bye_ends f (messages.Missing attempt files) is = absurd (let h : ⊥ = cc in h)
bye_ends f (messages.Totals total largest cache) is = absurd (let h : ⊥ = cc in h)

-- A step is the end of the work exactly where Bye came.
pub bye_is : (f : Foreman) (m : Message) → HasCounts m → (hears_up f m).acts.bye ≡ is_bye m
bye_is f m few = by (is_bye m) refl
  where
    by : (b : Bool) → is_bye m ≡ b → (hears_up f m).acts.bye ≡ is_bye m
    by true is = (bye_ends f m is).2 ∙ sym is
    by false is = (up_plain f m few is).on ∙ sym is

-- ---- lost links

lost_plain : (f : Foreman) (k : LinkNo) → IsPlain (lost f k)
lost_plain f k =
    let gone : List Upstream = filter (is_forsaken f k) f.attempts in
    let after : Foreman = record { cache = f.cache; attempts = map (off_link k) (filter (λ u. Rattle.std.specs.Prelude.not (is_forsaken f k u)) f.attempts); links = others k f.links; next = f.next } in
    holding_plain _ _ (settled_plain _ (told_plain after (totals after ∷ map not_run gone)
    (every_cons IsSayable (totals after) (map not_run gone) (totals_told after) (every_map IsSayable not_run gone (λ u there. tt)))))

pub loses_plain : (f : Foreman) (k : LinkNo) → IsPlain (loses f k)
loses_plain f k = by (is_some (place_of_link k f.links))
  where
    by : (b : Bool) → IsPlain (cond b (lost f k) (quiet f))
    by true = lost_plain f k
    by false = quiet_plain f

drops_plain : (f : Foreman) (k : LinkNo) → IsPlain (drops f k)
drops_plain f k = leaving_plain k (loses f k) (loses_plain f k)

-- ---- from below

restated_plain : (f : Foreman) → IsPlain (restated f)
restated_plain f = settled_plain _ (told_plain f (totals f ∷ []) (every_one IsSayable (totals f) (totals_told f)))

greeted_plain : (f : Foreman) (k : LinkNo) (session : State) (answer : Result Word SessionFault) → IsPlain (greeted f k session answer)
greeted_plain f k session (Ok (words.Joined total largest cache)) = by (nat_lt (length f.links) most_links)
  where
    b : Below
    b = record { link = k; total = total; largest = largest; cache = cache; session = session }

    by : (t : Bool) → IsPlain (cond t (restated (record { cache = f.cache; attempts = f.attempts; links = joined b f.links; next = f.next })) (drops f k))
    by true = restated_plain (record { cache = f.cache; attempts = f.attempts; links = joined b f.links; next = f.next })
    by false = drops_plain f k
greeted_plain f k session (Ok (words.Changed total largest cache)) = drops_plain f k
greeted_plain f k session (Ok (words.Finish attempt)) = drops_plain f k
greeted_plain f k session (Ok (words.Fail attempt why)) = drops_plain f k
greeted_plain f k session (Ok (words.Lose attempt)) = drops_plain f k
greeted_plain f k session (Ok (words.PutAgain attempt files)) = drops_plain f k
greeted_plain f k session (Ok (words.Stale attempt)) = drops_plain f k
greeted_plain f k session (Err why) = drops_plain f k

ends_at_plain : (f : Foreman) (outcome : Outcome) (at : ℕ) (u : Option Upstream) → IsPlain (ends_at f outcome at u)
ends_at_plain f outcome at None = quiet_plain f
ends_at_plain f outcome at (Some u) =
    let next : Foreman = record { cache = f.cache; attempts = remove f.attempts at; links = f.links; next = f.next } in
    holding_plain _ _ (settled_plain _ (told_plain next (messages.Done u.task.attempt outcome ∷ []) (every_one IsSayable (messages.Done u.task.attempt outcome) tt)))

kept_at_plain : (f : Foreman) (at : ℕ) (u : Option Upstream) → IsPlain (kept_at f at u)
kept_at_plain f at None = quiet_plain f
kept_at_plain f at (Some u) =
    let next : Foreman = record { cache = f.cache; attempts = slice_set f.attempts at (kept u.task); links = f.links; next = f.next } in
    settled_plain (quiet next) (quiet_plain next)

again_plain : (f : Foreman) (k : LinkNo) (number : AttemptNo) (files : List FileNo) (u : Option Upstream) → IsPlain (puts_again f k number files u)
again_plain f k number files None = quiet_plain f
again_plain f k number files (Some u) = record {
  up = every_nil IsSayable;
  down = downs_sendable f.cache.rows k files (renumbered u.task number);
  on = refl;
}

attempt_plain : (f : Foreman) (k : LinkNo) (number : AttemptNo) (does : ℕ → Option Upstream → Led) → ((at : ℕ) (u : Option Upstream) → IsPlain (does at u)) → IsPlain (with_attempt f k number does)
attempt_plain f k number does all = by (position (is_at k number) f.attempts)
  where
    by : (place : Option ℕ) → IsPlain (option_map_or (λ at. does at (slice_get f.attempts at)) place (quiet f))
    by None = quiet_plain f
    by (Some at) = all at (slice_get f.attempts at)

word_plain : (f : Foreman) (k : LinkNo) (on : ℕ) (m : Message) (word : Word) → IsPlain (on_word f k on m word)
word_plain f k on m (words.Joined total largest cache) = quiet_plain f
word_plain f k on m (words.Changed total largest cache) =
    restated_plain (record { cache = f.cache; attempts = f.attempts; links = stated_at f.links on (slice_get f.links on) total largest cache; next = f.next })
word_plain f k on m (words.Finish number) = attempt_plain f k number (ends_at f (outcome_in m)) (λ at u. ends_at_plain f (outcome_in m) at u)
word_plain f k on m (words.Fail number why) = attempt_plain f k number (ends_at f (outcomes.Failed why)) (λ at u. ends_at_plain f (outcomes.Failed why) at u)
word_plain f k on m (words.Lose number) = attempt_plain f k number (kept_at f) (λ at u. kept_at_plain f at u)
word_plain f k on m (words.PutAgain number files) = attempt_plain f k number (λ at u. puts_again f k number files u) (λ at u. again_plain f k number files u)
word_plain f k on m (words.Stale number) = quiet_plain f

answer_plain : (f : Foreman) (k : LinkNo) (on : ℕ) (m : Message) (links : List Below) (answer : Result Word SessionFault) → IsPlain (on_told f k on m links answer)
answer_plain f k on m links (Ok word) = word_plain (record { cache = f.cache; attempts = f.attempts; links = links; next = f.next }) k on m word
answer_plain f k on m links (Err why) = drops_plain f k

heard_at_plain : (f : Foreman) (k : LinkNo) (on : ℕ) (m : Message) (b : Option Below) → IsPlain (heard_at f k on m b)
heard_at_plain f k on m None = quiet_plain f
heard_at_plain f k on m (Some b) = answer_plain f k on m (slice_set f.links on (in_session b (told b.session m).state)) (told b.session m).answer

heard_where_plain : (f : Foreman) (k : LinkNo) (m : Message) (found : Option ℕ) → IsPlain (heard_where f k m found)
heard_where_plain f k m None = greeted_plain f k (told new_session m).state (told new_session m).answer
heard_where_plain f k m (Some on) = heard_at_plain f k on m (slice_get f.links on)

-- What a message from below makes a foreman do.
pub down_plain : (f : Foreman) (k : LinkNo) (m : Message) → IsPlain (hears_down f k m)
down_plain f k m = heard_where_plain f k m (place_of_link k f.links)
