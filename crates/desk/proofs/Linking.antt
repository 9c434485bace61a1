-- A desk by its fields, and with one step more that logs nothing.
use Rattle.std.proofs.Common.{◌≡◌, ◌≤◌, ◌+◌, ◌*◌, ◌∙◌, ℕ, Bool, true, false, inl, List, [], ◌∷◌, ◌++◌, length, drop, Option, Some, refl, sym, ap, subst}
use Rattle.flow_types.specs.declared.plan.Plan.{Plan}
use Rattle.flow_types.specs.declared.numbers.Content.{Content}
use Rattle.flow_types.specs.declared.records.Record.{Record}
use Rattle.run_history.specs.declared.moves.Move.{Move}
use Rattle.run_history.specs.Links.{records_of}
use Rattle.run_history.specs.Moves.{joins_and_changes, live_links}
use Rattle.outside.specs.Disk.{Outcomes}
use Rattle.outside.specs.Files.{Files}
use Rattle.task_core.specs.States.{HasAnswer, TableState}
use Rattle.task_core.specs.Stands.{Stands}
use Rattle.txn_log.specs.Logs.{LogState}
use Rattle.desk.specs.declared.answers.Trouble.{Trouble}
use Rattle.desk.specs.declared.step.Step.{Step}
use Rattle.desk.specs.Room.{HasPlaces, collected}
use Rattle.desk.specs.State.{DeskState, IsDesk, Lacks, LacksFor, Spares}
use Rattle.desk.specs.Woven.{AreWoven, moves_of}
use Rattle.desk.proofs.Linked.{quiet_desk, quiet_move, quiet_view}
use Rattle.desk.proofs.LinkRoom.{places_linked, runs_at}
use Rattle.desk.proofs.Rooming.{places_wider}

-- the desk with these fields
abbrev pub desk_of : {S : Type 0} → TableState → LogState → ℕ → ℕ → List Step → List Record → Trouble → S → DeskState S
desk_of t log base faults ss H trouble site = record {
  plan = t.plan;
  options = t.options;
  log = log.name;
  base = base;
  faults = faults;
  moves = moves_of base ss H;
  stop = t.stop;
  trouble = trouble;
  site = site;
}

-- what it is with one step more that logs nothing
pub linked_view : {S : Type 0} (t after : TableState) (log : LogState) (base faults : ℕ) (ss ss2 : List Step) (H : List Record) (trouble : Trouble) (site : S) (s : Step) (m : Move)
    → AreWoven ss (drop base H) → quiet_move s ≡ Some m → ss2 ≡ ss ++ (s ∷ []) → (after.plan ≡ t.plan) × (after.options ≡ t.options) × (after.stop ≡ t.stop)
    → desk_of after log base faults ss2 H trouble site ≡ record (desk_of t log base faults ss H trouble site) { moves = moves_of base ss H ++ (m ∷ []) }
linked_view t after log base faults ss ss2 H trouble site s m are is grew still = quiet_view (desk_of t log base faults ss H trouble site) after ss ss2 H s m is grew are refl still

module _ {S : Type 0} (fits : Plan → ℕ → Content → Option (List ℕ) → Type 0) (tells keeps : Type 0) (may_leave : S → Outcomes) (moment : S → ℕ) (images_since : S → ℕ → Files → Type 0)
    (count : S → ℕ) (born : ℕ) (before : Files → Type 0) where
  -- what holds of a desk with these fields
  abbrev pub IsWhole : TableState → LogState → ℕ → ℕ → List Step → List Record → Trouble → S → ℕ → ℕ → Type 0
  IsWhole t log base faults ss H trouble site places step_places =
      AreWoven ss (drop base H)
      × IsDesk fits tells keeps may_leave moment images_since count born before log (desk_of t log base faults ss H trouble site)
      × Stands t (moves_of base ss H) × HasPlaces t.plan t.options (moves_of base ss H) (length ss) places step_places log × HasAnswer t

  -- it holds with such a step, where the steps have room and are few
  pub linked : (t after : TableState) (log : LogState) (base faults : ℕ) (ss ss2 : List Step) (H : List Record) (trouble : Trouble) (site : S) (s : Step) (m : Move) (places step_places step_places2 : ℕ)
      → IsWhole t log base faults ss H trouble site places step_places
      → quiet_move s ≡ Some m → ss2 ≡ ss ++ (s ∷ []) → records_of (m ∷ []) ≡ []
      → (after.plan ≡ t.plan) × (after.options ≡ t.options) × (after.stop ≡ t.stop) → Stands after (moves_of base ss H ++ (m ∷ [])) → HasAnswer after
      → length ss + 1 + (runs_at t (moves_of base ss H) + length (live_links t.options (moves_of base ss H ++ (m ∷ []))) + length t.plan.files) ≤ step_places2 + 1 + collected t.plan (records_of (moves_of base ss H))
      → length (live_links t.options (moves_of base ss H ++ (m ∷ []))) + 1 + 2 * joins_and_changes (moves_of base ss H) ≤ length (live_links t.options (moves_of base ss H)) + 2 * joins_and_changes (moves_of base ss H ++ (m ∷ []))
      → IsWhole after log base faults ss2 H trouble site places step_places2
  linked t after log base faults ss ss2 H trouble site s m places step_places step_places2 whole is grew silent still stands answer room few =
      let desk = quiet_desk fits tells keeps may_leave moment images_since count born before (desk_of t log base faults ss H trouble site) log after ss ss2 H s m is grew refl still stands (whole.0, whole.1) in (
        desk.0,
        desk.1,
        desk.2,
        places_linked t after base ss ss2 H s m places step_places step_places2 log is grew whole.0 silent still whole.3 room few,
        answer,
      )

  -- and with the same steps in more room
  pub roomier : (t : TableState) (log : LogState) (base faults : ℕ) (ss ss2 : List Step) (H : List Record) (trouble : Trouble) (site : S) (places step_places step_places2 : ℕ)
      → IsWhole t log base faults ss H trouble site places step_places → ss2 ≡ ss → step_places ≤ step_places2 → places ≤ places → log.room ≤ log.room
      → IsWhole t log base faults ss2 H trouble site places step_places2
  roomier t log base faults ss ss2 H trouble site places step_places step_places2 whole same wide still room =
      subst (λ (l : List Step). IsWhole t log base faults l H trouble site places step_places2) (sym same) (
        whole.0,
        whole.1,
        whole.2,
        places_wider t.plan t.options (moves_of base ss H) (length ss) places places step_places step_places2 log log whole.3 still wide room,
        whole.4,
      )

  -- and with a table that stayed as it was
  pub same_table : (t after : TableState) (log : LogState) (base faults : ℕ) (ss : List Step) (H : List Record) (trouble : Trouble) (site : S) (places step_places : ℕ)
      → after ≡ t → IsWhole t log base faults ss H trouble site places step_places → IsWhole after log base faults ss H trouble site places step_places
  same_table t after log base faults ss H trouble site places step_places same whole = subst (λ (v : TableState). IsWhole v log base faults ss H trouble site places step_places) (sym same) whole

  -- and after a call that changed nothing but how much room there is
  pub untouched : (t : TableState) (log log2 : LogState) (base faults : ℕ) (ss ss2 : List Step) (H H2 : List Record) (trouble : Trouble) (site site2 : S) (places places2 step_places step_places2 : ℕ)
      → IsWhole t log base faults ss H trouble site places step_places → (log2 ≡ log) × (site2 ≡ site) → (H2 ≡ H) × (ss2 ≡ ss) → places ≤ places2 → step_places ≤ step_places2 → log.room ≤ log.room
      → IsWhole t log2 base faults ss2 H2 trouble site2 places2 step_places2
  untouched t log log2 base faults ss ss2 H H2 trouble site site2 places places2 step_places step_places2 whole still same wide more room =
      subst (λ (s : S). IsWhole t log2 base faults ss2 H2 trouble s places2 step_places2) (sym still.1)
      (subst (λ (g : LogState). IsWhole t g base faults ss2 H2 trouble site places2 step_places2) (sym still.0)
      (subst (λ (l : List Step). IsWhole t log base faults l H2 trouble site places2 step_places2) (sym same.1)
      (subst (λ (l : List Record). IsWhole t log base faults ss l trouble site places2 step_places2) (sym same.0) (
        whole.0,
        whole.1,
        whole.2,
        places_wider t.plan t.options (moves_of base ss H) (length ss) places places2 step_places step_places2 log log whole.3 wide more room,
        whole.4,
      ))))

-- what the desk is after a call that logged nothing
pub unlogged_view : {S : Type 0} (t : TableState) (log log2 : LogState) (base faults : ℕ) (ss ss2 : List Step) (H H2 : List Record) (trouble trouble2 : Trouble) (site site2 : S) (v : DeskState S)
    → desk_of t log base faults ss H trouble site ≡ v → (H2 ≡ H) × (ss2 ≡ ss) → log2.name ≡ log.name → desk_of t log2 base faults ss2 H2 trouble2 site2 ≡ record v { trouble = trouble2; site = site2 }
unlogged_view {S} t log log2 base faults ss ss2 H H2 trouble trouble2 site site2 v is same name =
    ap (λ (l : List Step). desk_of t log2 base faults l H2 trouble2 site2) same.1
    ∙ ap (λ (l : List Record). desk_of t log2 base faults ss l trouble2 site2) same.0
    ∙ ap (λ (n : List ℕ). record (desk_of t log base faults ss H trouble2 site2) { log = n }) name
    ∙ ap (λ (w : DeskState S). record w { trouble = trouble2; site = site2 }) is

-- and after one that changed nothing
pub untouched_view : {S : Type 0} (t : TableState) (log log2 : LogState) (base faults : ℕ) (ss ss2 : List Step) (H H2 : List Record) (trouble : Trouble) (site site2 : S) (v : DeskState S)
    → desk_of t log base faults ss H trouble site ≡ v → (H2 ≡ H) × (ss2 ≡ ss) → (log2 ≡ log) × (site2 ≡ site) → desk_of t log2 base faults ss2 H2 trouble site2 ≡ v
untouched_view {S} t log log2 base faults ss ss2 H H2 trouble site site2 v is same still =
    ap (λ (s : S). desk_of t log2 base faults ss2 H2 trouble s) still.1
    ∙ unlogged_view t log log2 base faults ss ss2 H H2 trouble trouble site site (desk_of t log base faults ss H trouble site) refl same (ap (λ (g : LogState). g.name) still.0)
    ∙ is

-- want of memory for a record
pub lacks_for : {S : Type 0} (t : Bool) (d after : DeskState S) → Lacks d after → LacksFor t d after
lacks_for true d after lacks = lacks
lacks_for false d after lacks = inl lacks

pub spares_for : {S : Type 0} (t : Bool) (d after : DeskState S) → (t ≡ true → ⊥) → Spares d after → LacksFor t d after
spares_for true d after never spares = absurd (never refl)
spares_for false d after never spares = spares
