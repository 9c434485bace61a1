-- What a foreman does on a message from above or below, and where a link is lost.
use Rattle.std.specs.Prelude.{ℕ, zero, suc, ◌+◌, true, false, not, nat_lt, if◌then◌else◌, List, [], ◌∷◌, ◌++◌, map, filter, filter_map, fold, position, slice_get, slice_set, remove, length, is_some, Option, Some, None, Result, Ok, Err}
use Rattle.std.specs.Option.{option_map, option_map_or}
use Rattle.flow_types.specs.declared.numbers.Amounts.{Amounts}
use Rattle.flow_types.specs.declared.numbers.AttemptNo.{AttemptNo}
use Rattle.flow_types.specs.declared.numbers.FileNo.{FileNo}
use Rattle.flow_types.specs.declared.numbers.LinkNo.{LinkNo}
use Rattle.flow_types.specs.declared.job.Outcome.{Outcome}
use Rattle.flow_types.specs.declared.job.Outcome.TheVariants as outcomes
use Rattle.flow_types.specs.declared.job.Task.{Task}
use Rattle.flow_types.specs.declared.messages.Key.{Key}
use Rattle.flow_types.specs.declared.messages.Message.{Message}
use Rattle.flow_types.specs.declared.messages.Message.TheVariants as messages
use Rattle.worker_cache.specs.Caches.{Rows, content_of, is_full, put_in, unlinked}
use Rattle.worker_core.specs.Workers.{key_of, holds_all, pinned_all, unpinned_all, touched_all, files_of, missing_of}
use Rattle.link_session.specs.declared.session.Stage.TheVariants as stages
use Rattle.link_session.specs.declared.word.Word.{Word}
use Rattle.link_session.specs.declared.word.Word.TheVariants as words
use Rattle.link_session.specs.declared.word.SessionFault.{SessionFault}
use Rattle.link_session.specs.Keys.{lacking}
use Rattle.link_session.specs.Sessions.{State, Told, place, started, closed_where, told}
use Rattle.foreman_core.specs.declared.acts.Down.{Down}
use Rattle.foreman_core.specs.declared.acts.ForemanActs.{ForemanActs}
use Rattle.foreman_core.specs.declared.links.Spot.{Spot}
use Rattle.foreman_core.specs.declared.links.Upstream.{Upstream}
use Rattle.foreman_core.specs.declared.links.Below.{Below}
use Rattle.foreman_core.specs.Foremen.{Foreman, with_rows, place_of, is_at, kept, spotted, off_link, place_of_link, others, joined, most_links, place_for, is_forsaken, totals}

-- a foreman after a step, and what it does
pub record Led : Type 0 where
  pub foreman : Foreman
  pub acts : ForemanActs

-- these messages are sent
abbrev pub sending : List Message → List Down → ForemanActs
sending up down = record { up = up; down = down; leave = None; bye = false }

-- the foreman that does nothing
abbrev pub quiet : Foreman → Led
quiet f = record { foreman = f; acts = sending [] [] }

-- the same step, after which these contents are held
abbrev pub holding : Led → Rows → Led
holding led rows = record led { foreman = with_rows led.foreman rows }

-- ---- placing

-- the task under a number below
abbrev pub renumbered : Task → AttemptNo → Task
renumbered task number = record task { attempt = number }

-- the Put of a file of a run, where its content is held
abbrev pub put_of : Rows → ℕ → FileNo → Option Message
put_of rows run file =
    option_map (λ content. messages.Put (key_of run file) content)
    (content_of (key_of run file) rows)

-- one message, or none
abbrev pub put_list : Option Message → List Message
put_list None = []
put_list (Some message) = message ∷ []

-- the Puts of these files, and the task behind them
abbrev pub puts_and_task : Rows → List FileNo → Task → List Message
puts_and_task rows files task =
    filter_map (put_of rows task.run) files ++ messages.Task task ∷ []

-- these messages to the worker at a link
abbrev pub down_to : LinkNo → List Message → List Down
down_to k sent = map (λ message. record { link = k; message = message }) sent

-- the worker with this session
abbrev pub in_session : Below → State → Below
in_session b session = record b { session = session }

-- The attempt at a place goes to the worker at another place, under the next number: the Puts of
-- what that worker lacks, and then the task.
abbrev pub placed_on : Led → ℕ → Upstream → ℕ → Below → Led
placed_on led at u on b =
    let f : Foreman = led.foreman in
    let task : Task = renumbered u.task (record { 0 = f.next }) in
    let files : List FileNo = lacking b.session.known task.run task.inputs in
    record {
      foreman = record f {
        attempts = slice_set f.attempts at (spotted u b.link f.next);
        links = slice_set f.links on (in_session b (started b.session task));
        next = f.next + 1;
      };
      acts = record led.acts {
        down = led.acts.down ++ down_to b.link (puts_and_task f.cache.rows files task);
      };
    }

-- the same, where a worker stands at that place
abbrev pub placed_by : Led → ℕ → Upstream → ℕ → Option Below → Led
placed_by led at u on None = led
placed_by led at u on (Some b) = placed_on led at u on b

-- the same, where a place was found
abbrev pub placed_where : Led → ℕ → Upstream → Option ℕ → Led
placed_where led at u None = led
placed_where led at u (Some on) = placed_by led at u on (slice_get led.foreman.links on)

-- The attempt at a place, if it isn't placed, goes to the least worker that it fits, if there is
-- one.
abbrev pub settled_at : Led → ℕ → Option Upstream → Led
settled_at led at None = led
settled_at led at (Some u) =
    if is_some u.spot then led else placed_where led at u (place_for led.foreman u.task)

-- so many attempts settled, from a place on
abbrev pub settled_from : ℕ → ℕ → Led → Led
settled_from zero at led = led
settled_from (suc left) at led =
    settled_from left (at + 1) (settled_at led at (slice_get led.foreman.attempts at))

-- Each attempt that isn't placed is placed where it fits, in the order in which they came.
abbrev pub settled : Led → Led
settled led = settled_from (length led.foreman.attempts) 0 led

-- ---- from above

-- A content is kept as the newest; where the pinned ones leave no room, nothing changes.
abbrev pub hears_put : Foreman → Key → List ℕ → Led
hears_put f key content =
    if is_full key (length content) f.cache.cap f.cache.rows then quiet f
    else quiet (with_rows f (put_in f.cache.cap key content f.cache.rows))

-- The attempt is kept, and placed where it fits; its inputs are pinned.
abbrev pub takes : Foreman → Task → Led
takes f task =
    holding (settled (quiet (record f { attempts = f.attempts ++ kept task ∷ [] })))
    (pinned_all task.run task.inputs f.cache.rows)

-- the inputs of a task that aren't held, as they are told
abbrev pub missing_message : Rows → Task → Message
missing_message rows task =
    messages.Missing task.attempt (missing_of rows task.run (files_of task.inputs))

-- The inputs that are held are made the newest, and the others are told.
abbrev pub misses : Foreman → Task → Led
misses f task = record {
  foreman = with_rows f (touched_all task.run (files_of task.inputs) f.cache.rows);
  acts = sending (missing_message f.cache.rows task ∷ []) [];
}

-- A task of an attempt that is kept or placed changes nothing; another is taken where its inputs
-- are held.
abbrev pub hears_task : Foreman → Task → Led
hears_task f task =
    if is_some (place_of task.attempt f.attempts) then quiet f
    else if holds_all f.cache.rows task.run task.inputs then takes f task else misses f task

-- the worker whose attempt of this number is closed
abbrev pub closing : AttemptNo → Below → Below
closing number b =
    in_session b (closed_where b.session (place number b.session.attempts))

-- the workers, where that at a place has its attempt closed
abbrev pub closed_by : List Below → AttemptNo → ℕ → Option Below → List Below
closed_by links number on None = links
closed_by links number on (Some b) = slice_set links on (closing number b)

-- the workers, once the attempt at a spot is closed there
abbrev pub closed_on : List Below → Option Spot → List Below
closed_on links None = links
closed_on links (Some spot) =
    option_map_or (λ on. closed_by links spot.number on (slice_get links on))
    (place_of_link spot.link links) links

-- the Cancel to where an attempt is placed
abbrev pub cancel_at : Option Spot → List Down
cancel_at None = []
cancel_at (Some spot) = down_to spot.link (messages.Cancel spot.number ∷ [])

-- what is told where an attempt came to no end
abbrev pub not_run : Upstream → Message
not_run u = messages.Done u.task.attempt outcomes.NotRun

-- the contents once a task's pins are given back
abbrev pub released : Rows → Upstream → Rows
released rows u = unpinned_all u.task.run u.task.inputs rows

-- The attempt at a place is cancelled: it goes back as not run, and is cancelled where it is
-- placed.
abbrev pub cancels_at : Foreman → ℕ → Option Upstream → Led
cancels_at f at None = quiet f
cancels_at f at (Some u) =
    holding (settled (record {
      foreman = record f {
        attempts = remove f.attempts at;
        links = closed_on f.links u.spot;
      };
      acts = sending (not_run u ∷ []) (cancel_at u.spot);
    })) (released f.cache.rows u)

-- an attempt is cancelled where it is kept or placed
abbrev pub cancels : Foreman → AttemptNo → Led
cancels f attempt =
    option_map_or (λ at. cancels_at f at (slice_get f.attempts at))
    (place_of attempt f.attempts) (quiet f)

-- what a foreman does on a message that goes down; on another nothing
abbrev pub hears_up : Foreman → Message → Led
hears_up f (messages.Hello total largest cache) = quiet f
hears_up f (messages.Put key content) = hears_put f key content
hears_up f (messages.Task task) = hears_task f task
hears_up f (messages.Done attempt outcome) = quiet f
hears_up f (messages.Missing attempt files) = quiet f
hears_up f (messages.Cancel attempt) = cancels f attempt
hears_up f (messages.Unlink key) = quiet (with_rows f (unlinked key f.cache.rows))
hears_up f (messages.Totals total largest cache) = quiet f
hears_up f messages.Bye =
    record { foreman = f; acts = record { up = []; down = []; leave = None; bye = true } }

-- ---- lost links

-- The worker at a link is gone. What was placed there is placed anew or kept, and what no worker
-- left could hold goes back as not run.
abbrev pub lost : Foreman → LinkNo → Led
lost f k =
    let gone : List Upstream = filter (is_forsaken f k) f.attempts in
    let stay : List Upstream = filter (λ u. not (is_forsaken f k u)) f.attempts in
    let after : Foreman = record f { attempts = map (off_link k) stay; links = others k f.links } in
    holding (settled (record {
      foreman = after;
      acts = sending (totals after ∷ map not_run gone) [];
    })) (fold released f.cache.rows gone)

-- what a foreman does where a link is lost; where no worker is there, nothing
abbrev pub loses : Foreman → LinkNo → Led
loses f k = if is_some (place_of_link k f.links) then lost f k else quiet f

-- the link is to be left, too
abbrev pub leaving : LinkNo → Led → Led
leaving k led = record led { acts = record led.acts { leave = Some k } }

-- what is done where a link is left for what came on it
abbrev pub drops : Foreman → LinkNo → Led
drops f k = leaving k (loses f k)

-- ---- from below

-- The workers have changed: their totals go up, and what now fits is placed.
abbrev pub restated : Foreman → Led
restated f = settled (record { foreman = f; acts = sending (totals f ∷ []) [] })

-- a worker's session before its first message
abbrev pub new_session : State
new_session = record { run = 0; stage = stages.New; known = []; attempts = [] }

-- what a first message on a link means: a worker joins, or the link is left
abbrev pub greeted : Foreman → LinkNo → State → Result Word SessionFault → Led
greeted f k session (Ok (words.Joined total largest cache)) =
    let b : Below = record {
      link = k;
      total = total;
      largest = largest;
      cache = cache;
      session = session;
    } in
    if nat_lt (length f.links) most_links then restated (record f { links = joined b f.links })
    else drops f k
greeted f k session _ = drops f k

-- the outcome that a Done tells
abbrev pub outcome_in : Message → Outcome
outcome_in (messages.Done attempt outcome) = outcome
outcome_in _ = outcomes.NotRun

-- The attempt at a place ended below: it ends above with that outcome, and gives its pins back.
abbrev pub ends_at : Foreman → Outcome → ℕ → Option Upstream → Led
ends_at f outcome at None = quiet f
ends_at f outcome at (Some u) =
    holding (settled (record {
      foreman = record f { attempts = remove f.attempts at };
      acts = sending (messages.Done u.task.attempt outcome ∷ []) [];
    })) (released f.cache.rows u)

-- The attempt at a place came to no end below: it is placed anew, or kept.
abbrev pub kept_at : Foreman → ℕ → Option Upstream → Led
kept_at f at None = quiet f
kept_at f at (Some u) =
    settled (quiet (record f { attempts = slice_set f.attempts at (kept u.task) }))

-- The worker lacks these inputs of the attempt at a place: they are put again, and then the task.
abbrev pub puts_again : Foreman → LinkNo → AttemptNo → List FileNo → Option Upstream → Led
puts_again f k number files None = quiet f
puts_again f k number files (Some u) =
    record (quiet f) {
      acts = sending []
          (down_to k (puts_and_task f.cache.rows files (renumbered u.task number)));
    }

-- what is done with the attempt that is placed at a link under a number
abbrev pub with_attempt : Foreman → LinkNo → AttemptNo → (ℕ → Option Upstream → Led) → Led
with_attempt f k number does =
    option_map_or (λ at. does at (slice_get f.attempts at)) (position (is_at k number) f.attempts)
    (quiet f)

-- the workers, where that at a place states something else from now on
abbrev pub stated_at : List Below → ℕ → Option Below → Amounts → Amounts → ℕ → List Below
stated_at links on None total largest cache = links
stated_at links on (Some b) total largest cache =
    let stated : Below = record {
      link = b.link;
      total = total;
      largest = largest;
      cache = cache;
      session = b.session;
    } in
    slice_set links on stated

-- the worker at a place states something else from now on
abbrev pub restates_at : Foreman → ℕ → Amounts → Amounts → ℕ → Led
restates_at f on total largest cache =
    restated (record f {
      links = stated_at f.links on (slice_get f.links on) total largest cache;
    })

-- what a word of a worker's session means
abbrev pub on_word : Foreman → LinkNo → ℕ → Message → Word → Led
on_word f k on m (words.Joined total largest cache) = quiet f
on_word f k on m (words.Changed total largest cache) =
    restates_at f on total largest cache
on_word f k on m (words.Finish number) =
    with_attempt f k number (ends_at f (outcome_in m))
on_word f k on m (words.Fail number why) =
    with_attempt f k number (ends_at f (outcomes.Failed why))
on_word f k on m (words.Lose number) = with_attempt f k number (kept_at f)
on_word f k on m (words.PutAgain number files) =
    with_attempt f k number (λ at u. puts_again f k number files u)
on_word f k on m (words.Stale number) = quiet f

-- what a worker's session says, once the workers are these; what is unexpected loses the link
abbrev pub on_told : Foreman → LinkNo → ℕ → Message → List Below → Result Word SessionFault → Led
on_told f k on m links (Ok word) = on_word (record f { links = links }) k on m word
on_told f k on m links (Err why) = drops f k

-- a message of the worker at a place
abbrev pub heard_at : Foreman → LinkNo → ℕ → Message → Option Below → Led
heard_at f k on m None = quiet f
heard_at f k on m (Some b) =
    let heard : Told = told b.session m in
    on_told f k on m (slice_set f.links on (in_session b heard.state)) heard.answer

-- a message from below, where a worker stands at a place, or on a new link
abbrev pub heard_where : Foreman → LinkNo → Message → Option ℕ → Led
heard_where f k m None = greeted f k (told new_session m).state (told new_session m).answer
heard_where f k m (Some on) = heard_at f k on m (slice_get f.links on)

-- what a foreman does on a message from below
abbrev pub hears_down : Foreman → LinkNo → Message → Led
hears_down f k m = heard_where f k m (place_of_link k f.links)
