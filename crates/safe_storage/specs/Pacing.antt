-- Which plan an admission stands for, and what it notes of a table.
use Rattle.std.specs.Prelude.{◌≡◌, ◌<◌, ◌+◌, ℕ, Bool, not, ◌&&◌, ◌||◌, List, [], ◌∷◌, length, ◌==◌}
use Rattle.std.specs.Prelude.{if◌then◌else◌}
use Rattle.std.specs.Option.{option_map_or}
use Rattle.flow_types.specs.declared.plan.Plan.{Plan}
use Rattle.flow_types.specs.declared.records.Record.{Record}
use Rattle.flow_types.specs.Serial.{serial_order}
use Rattle.run_history.specs.Storage.{is_complete, rule_bound, size_of}
use Rattle.safe_storage.specs.declared.stand.Phase.{Phase}
use Rattle.safe_storage.specs.declared.stand.Phase.TheVariants as phase
use Rattle.safe_storage.specs.declared.counters.Counters.{Counters}
use Rattle.safe_storage.specs.declared.stand.Stand.{Stand}
use Rattle.safe_walks.specs.Passes.{has_room_before}
use Rattle.safe_storage.specs.Counters.{phase_at}
use Rattle.safe_walks.specs.Walk.{Standing, is_added, is_claimed, stays_within, was_started}
use Rattle.task_core.specs.Stands.{has_started}

-- how rule r stands, as the records say
abbrev pub phase_in : List Record → ℕ → Phase
phase_in H r =
    if is_complete H r then phase.Complete
    else if was_started H r then phase.Claimed
    else phase.Open

-- the bytes of file f, as the records say
abbrev pub bytes_in : Plan → List Record → ℕ → ℕ
bytes_in P H f = option_map_or (λ size. size) (size_of P H f) 0

-- An admission as contracts see it: the order of a serial run, and of how many rules and files it
-- keeps counts.
pub record Pacing : Type 0 where
  pub order : List ℕ
  pub rules : ℕ
  pub files : ℕ

-- The admission stands for the plan.
pub record IsFor (P : Plan) (a : Pacing) : Type 0 where
  pub order : a.order ≡ serial_order P
  pub rules : a.rules ≡ length P.rules
  pub files : a.files ≡ length P.files

-- The counters and the notes have places for as many rules and files as are kept.
pub record IsSized (rules files : ℕ) (s : Stand) (c : Counters) : Type 0 where
  pub phases : length s.phases.items ≡ rules
  pub bytes : length s.bytes.items ≡ files
  pub over : length c.over.items ≡ rules
  pub left : length c.left.items ≡ files
  pub rest : length c.rest.items ≡ rules

-- A rule is claimed exactly where a Started of the part names it, as a table tells it, and it isn't
-- complete.
abbrev pub ClaimedIsStarted : Type 0
ClaimedIsStarted = (H : List Record) (r : ℕ)
    → is_claimed H r ≡ (not (is_complete H r) && has_started H r)

-- What one walk says of a rule that is neither complete nor claimed.
abbrev pub admits_one_walk : Plan → Standing → ℕ → ℕ → Bool
admits_one_walk P S r limit = not (stays_within P S limit) || has_room_before P S r limit

-- the bounds of the rules before rule r that are neither complete nor claimed, together
abbrev pub bounds_before : Plan → Standing → ℕ → List ℕ → ℕ
bounds_before P S r [] = 0
bounds_before P S r (q ∷ qs) =
    if q == r then 0
    else (if is_added S q then rule_bound P q else 0) + bounds_before P S r qs

-- The note says of each rule what these records do.
abbrev pub AreNoted : Plan → List Record → Stand → Type 0
AreNoted P H s = (r : ℕ) → r < length P.rules → phase_at s.phases.items r ≡ phase_in H r
