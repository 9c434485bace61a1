-- A foreman: what it holds, which attempts it was given, where they are placed, and what fits
-- where.
use Rattle.std.specs.Prelude.{ℕ, Bool, false, not, ◌&&◌, ◌==◌, nat_lt, if◌then◌else◌, List, [], ◌∷◌, ◌++◌, map, filter, fold, position, insert, length, min, max, sum_by, Option, Some, None}
use Rattle.std.specs.List.{list_any}
use Rattle.std.specs.Option.{option_map_or}
use Rattle.flow_types.specs.declared.numbers.Amounts.{Amounts}
use Rattle.flow_types.specs.declared.numbers.AttemptNo.{AttemptNo}
use Rattle.flow_types.specs.declared.numbers.LinkNo.{LinkNo}
use Rattle.flow_types.specs.declared.job.Task.{Task}
use Rattle.flow_types.specs.declared.messages.Message.{Message}
use Rattle.flow_types.specs.declared.messages.Message.TheVariants as messages
use Rattle.run_history.specs.Links.{LinkRow, Load, has_room}
use Rattle.worker_cache.specs.Caches.{Rows, Cached, content_of}
use Rattle.worker_core.specs.Workers.{key_of, content_or_none}
use Rattle.foreman_core.specs.declared.links.Upstream.{Upstream}
use Rattle.foreman_core.specs.declared.links.Below.{Below}

-- What it holds, oldest first; the attempts from above, in the order in which they came; its
-- workers, ascending by link; and the number of the next attempt below.
pub record Foreman : Type 0 where
  pub cache : Cached
  pub attempts : List Upstream
  pub links : List Below
  pub next : ℕ

-- a foreman that holds nothing and has no worker
abbrev pub new_foreman : ℕ → Foreman
new_foreman cap = record {
  cache = record { cap = cap; rows = [] };
  attempts = [];
  links = [];
  next = 0;
}

-- the same foreman with these contents
abbrev pub with_rows : Foreman → Rows → Foreman
with_rows f rows = record f { cache = record { cap = f.cache.cap; rows = rows } }

-- ---- attempts

-- it is this attempt from above
abbrev pub is_of : AttemptNo → Upstream → Bool
is_of attempt u = u.task.attempt.0 == attempt.0

-- where an attempt from above stands
abbrev pub place_of : AttemptNo → List Upstream → Option ℕ
place_of attempt attempts = position (is_of attempt) attempts

-- it is placed at this link
abbrev pub is_on : LinkNo → Upstream → Bool
is_on k u = option_map_or (λ spot. spot.link.0 == k.0) u.spot false

-- it is placed at this link under this number
abbrev pub is_at : LinkNo → AttemptNo → Upstream → Bool
is_at k number u =
    option_map_or (λ spot. (spot.link.0 == k.0) && (spot.number.0 == number.0)) u.spot false

-- the task of an attempt that isn't placed yet
abbrev pub kept : Task → Upstream
kept task = record { task = task; spot = None }

-- the same attempt at this place
abbrev pub spotted : Upstream → LinkNo → ℕ → Upstream
spotted u k number =
    record { task = u.task; spot = Some (record { link = k; number = record { 0 = number } }) }

-- not placed any more, where it was placed at this link
abbrev pub off_link : LinkNo → Upstream → Upstream
off_link k u = if is_on k u then kept u.task else u

-- ---- workers

-- it is the worker at this link
abbrev pub is_link : LinkNo → Below → Bool
is_link k b = b.link.0 == k.0

-- where the worker at a link stands
abbrev pub place_of_link : LinkNo → List Below → Option ℕ
place_of_link k links = position (is_link k) links

-- the workers at the other links
abbrev pub others : LinkNo → List Below → List Below
others k links = filter (λ b. not (is_link k b)) links

-- a worker before the first one with a link above its own
abbrev pub joined_at : Below → List Below → Option ℕ → List Below
joined_at b links None = links ++ b ∷ []
joined_at b links (Some at) = insert links at b

-- a worker in its place among the others
abbrev pub joined : Below → List Below → List Below
joined b links = joined_at b links (position (λ other. nat_lt b.link.0 other.link.0) links)

-- the most workers that a foreman has at once
abbrev pub most_links : ℕ
most_links = 32

-- ---- what fits

-- the bytes of a task's inputs, counted by port
abbrev pub task_bytes : Rows → Task → ℕ
task_bytes rows task =
    sum_by (λ port. length (content_or_none (content_of (key_of task.run port.file) rows)))
    task.inputs

-- what a task takes of a link
abbrev pub load_of : Rows → Task → Load
load_of rows task = record { needs = task.needs; bytes = task_bytes rows task }

-- what those of the attempts take that are placed at a link
abbrev pub loads_among : Rows → LinkNo → List Upstream → List Load
loads_among rows k attempts = map (λ u. load_of rows u.task) (filter (is_on k) attempts)

-- what a worker stated last
abbrev pub row_of : Below → LinkRow
row_of b = record { total = b.total; largest = b.largest; cache = Some b.cache }

-- A task fits a worker beside those of the attempts that are placed there.
abbrev pub fits_among : Rows → List Upstream → Task → Below → Bool
fits_among rows attempts task b =
    has_room b.link.0 (row_of b) (loads_among rows b.link attempts) (load_of rows task)

-- A worker could hold a task: it would fit, were nothing placed there.
abbrev pub could_hold : Rows → Task → Below → Bool
could_hold rows task b = has_room b.link.0 (row_of b) [] (load_of rows task)

-- where the least worker stands that a task fits
abbrev pub place_for : Foreman → Task → Option ℕ
place_for f task = position (fits_among f.cache.rows f.attempts task) f.links

-- Some of the workers could hold a task, and none of these others.
abbrev pub is_last : Rows → List Below → List Below → Task → Bool
is_last rows links others task =
    list_any (could_hold rows task) links && not (list_any (could_hold rows task) others)

-- The worker at this link is the last that could hold the attempt.
abbrev pub is_forsaken : Foreman → LinkNo → Upstream → Bool
is_forsaken f k u = is_last f.cache.rows f.links (others k f.links) u.task

-- ---- totals

-- the most that is stated of an amount
abbrev pub most : ℕ
most = 4294967295

-- the sum of an amount over the workers, as far as it can be stated
abbrev pub total_by : (Amounts → ℕ) → List Below → ℕ
total_by amount links = min (sum_by (λ b. amount b.total) links) most

-- the greatest of an amount that one job may take at a worker
abbrev pub largest_by : (Amounts → ℕ) → List Below → ℕ
largest_by amount links = fold (λ greatest b. max greatest (amount b.largest)) 0 links

-- an amount of each kind
abbrev pub each_amount : ((Amounts → ℕ) → ℕ) → Amounts
each_amount by = record {
  cores = by (λ a. a.cores);
  memory = by (λ a. a.memory);
  disk = by (λ a. a.disk);
}

-- what a foreman states of its workers together, with its own cache
abbrev pub totals : Foreman → Message
totals f =
    messages.Totals (each_amount (λ amount. total_by amount f.links))
    (each_amount (λ amount. largest_by amount f.links))
    f.cache.cap
