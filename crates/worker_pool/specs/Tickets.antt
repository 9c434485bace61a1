-- The tickets that are out are those that the chief waits for.
use Rattle.std.specs.Prelude.{◌≡◌, ◌≢◌, ◌⊎◌, ◌<◌, ◌+◌, ℕ, Bool, cond, eqb, true, false, List, [], ◌∷◌, ◌++◌, map, Option, Some, None}
use mathlib.Core.Option.{some}
use lib.ListN.{get_elem?}
use Rattle.atomic_table.specs.Seated.{TableId}
use Rattle.atomic_table.specs.declared.shared.Seat.{Seat}
use Rattle.crossbeam_queue.specs.declared.array_queue.Doing.{Doing}
use Rattle.crossbeam_queue.specs.Passes.{view}
use Rattle.flow_types.specs.declared.job.Start.{Start}
use Rattle.worker_pool.specs.declared.entry.Entry.{Entry}
use Rattle.worker_pool.specs.declared.entry.Hold.{Hold}
use Rattle.worker_pool.specs.declared.entry.View.{View}
use Rattle.worker_pool.specs.Courses.{TakesOut}

-- some start, for a pick that nobody uses
abbrev pub nothing : Start
nothing = record { attempt = record { 0 = 0 }; job = record { command = []; env = []; inputs = []; outputs = [] } }

-- a start by its number
abbrev pub entry_of : ℕ → Start → Entry
entry_of key start = record { key = key; start = start }

-- the chief's view: how many were given, those that are out, and what it did last
abbrev pub head_of : ℕ → List Entry → Option Hold → View
head_of next waiting last = record { chief = true; next = next; waiting = waiting; last = last; ticket = None }

-- the chief's view before anything was given
abbrev pub fresh : View
fresh = head_of 0 [] None

-- the view of a ticket for this entry
abbrev pub ticket_view : Option Entry → View
ticket_view ticket = record { chief = false; next = 0; waiting = []; last = None; ticket = ticket }

-- the view of a ticket that was taken back
abbrev pub spent : View
spent = ticket_view None

-- the chief's view once this start was given
abbrev pub granting : Start → View → View
granting start v = head_of (v.next + 1) (v.waiting ++ entry_of v.next start ∷ []) None

-- the view of the ticket that is made for this start by a chief with this view
abbrev pub ticket_of : Start → View → View
ticket_of start v = ticket_view (Some (entry_of v.next start))

-- the list without the entry of that number
abbrev pub without : ℕ → List Entry → List Entry
without key [] = []
without key (entry ∷ entries) = cond (eqb entry.key key) entries (entry ∷ without key entries)

-- the chief's view once this entry came back
abbrev pub taking : View → Option Entry → View
taking v None = v
taking v (Some entry) = head_of v.next (without entry.key v.waiting) (Some (record { entry = entry; before = v.waiting }))

-- the chief's view once a ticket with this view came back
abbrev pub redeeming : View → View → View
redeeming v w = taking v w.ticket

-- the entry stands in the list
abbrev pub In : Entry → List Entry → Type 0
In entry [] = ⊥
In entry (first ∷ rest) = (entry ≡ first) ⊎ In entry rest

-- Their numbers are below n, and no two have one.
abbrev pub Numbered : ℕ → List Entry → Type 0
Numbered n [] = Unit {0}
Numbered n (entry ∷ entries) = (entry.key < n) × ((other : Entry) → In other entries → other.key ≢ entry.key) × Numbered n entries

-- What was taken back last was out before, and is out no more.
abbrev pub TookOut : View → Type 0
TookOut v = (hold : Hold) → v.last ≡ Some hold → TakesOut hold.entry hold.before v.waiting

-- The chief's view has those that are out and how many were given, and what a ticket stands for is out and this seat's own.
abbrev pub FitsView : ℕ → List Entry → ℕ → (ℕ → ℕ) → ℕ → View → Type 0
FitsView chief waiting next owner seat v =
    (v.chief ≡ true → (seat ≡ chief) × (v.waiting ≡ waiting) × (v.next ≡ next) × TookOut v)
    × ((entry : Entry) → v.ticket ≡ Some entry → In entry waiting × (owner entry.key ≡ seat))

-- Those that are out have numbers of their own, each belongs to one seat, and each seat's view fits.
abbrev pub Kept : List View → Type 0
Kept views = (chief : ℕ) × (waiting : List Entry) × (next : ℕ) × (owner : ℕ → ℕ) × Numbered next waiting
    × ((seat : ℕ) (v : View) → get_elem? views seat ≡ some v → FitsView chief waiting next owner seat v)

-- a ticket of this table that stands for this Start
abbrev pub IsTicketOf : TableId → Seat (Option ℕ) (Doing ℕ View) → Start → Type 0
IsTicketOf table ticket start = (ticket.table_id ≡ table) × (ticket.me.1 ≡ []) × ((key : ℕ) × ((view ticket).ticket ≡ Some (entry_of key start)))

-- what the pass knows
abbrev pub known : Seat (Option ℕ) (Doing ℕ View) → View
known pass = view pass

-- the starts of these entries
abbrev pub starts : List Entry → List Start
starts entries = map (λ e. e.start) entries

-- some table, for a pick that nobody uses
abbrev pub no_table : TableId
no_table = record { words = 0; slots = 0; views_name = 0; atom = 0; block = 0; offset = 0; slot_names = [] }
