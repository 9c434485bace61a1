-- A run that may begin, before its first record is logged.
use Rattle.std.specs.Prelude.{◌≡◌, ◌≤◌, ◌<◌, ℕ, false, List, [], ◌∷◌, ◌++◌, length, map, Option, None, Result, Ok, Err}
use Rattle.flow_types.specs.declared.plan.Plan.{Plan}
use Rattle.flow_types.specs.declared.numbers.Content.{Content}
use Rattle.flow_types.specs.declared.records.Record.{Record}
use Rattle.run_history.specs.declared.options.Options.{Options}
use Rattle.run_history.specs.declared.moves.Move.TheVariants as moves
use Rattle.log_records.specs.Spelling.{ListsFew}
use Rattle.outside.specs.Disk.{Outcomes}
use Rattle.outside.specs.Files.{Files}
use Rattle.txn_log.specs.Logs.{IsAt, LogState, most_records}
use Rattle.task_core.specs.States.{TableState}
use Rattle.task_core.specs.Stands.{Stands}
use Rattle.desk.specs.declared.answers.StartFault.{StartFault}
use Rattle.desk.specs.declared.answers.StartRefused.{StartRefused}
use Rattle.desk.specs.Begins.{FindsFiles, IsCutBy, IsRefusal, MayBegin, run_over}
use Rattle.desk.specs.Openings.{Opens, early_fault}
use Rattle.desk.specs.State.{Takes}

-- The plan, the options, the log's name, the count of the site's faults as the start began, the records, the one with which the run is to begin, and the site as the looks at its files left it.
pub record ReadyState (S : Type 0) : Type 0 where
  pub plan : Plan
  pub options : Options
  pub log : List ℕ
  pub faults : ℕ
  pub history : List Record
  pub entry : Record
  pub site : S

-- The log takes the record, the table stands behind it already, and a desk may begin with it.
pub record IsReady {S : Type 0} (fits : Plan → ℕ → Content → Option (List ℕ) → Type 0) (tells keeps : Type 0) (may_leave : S → Outcomes) (moment : S → ℕ)
    (images_since : S → ℕ → Files → Type 0) (count : S → ℕ) (born : ℕ) (before : Files → Type 0) (t : TableState) (log : LogState) (r : ReadyState S) : Type 0 where
  pub few : ListsFew r.entry
  pub takes : Takes log r.history
  pub place : length r.history < most_records
  pub gate : tells → IsAt r.history log.gate (may_leave r.site log.name)
  pub rises : r.faults ≤ count r.site
  pub stands : Stands t (map moves.Logged r.history ++ (moves.Logged r.entry ∷ []))
  pub no_stop : t.stop ≡ None
  pub runs : t.ended ≡ false
  pub may : MayBegin fits tells keeps may_leave moment images_since born before t.plan log.name r.history r.entry r.site

-- the site that is left
abbrev pub site_of : {S : Type 0} → Result (ReadyState S) (StartRefused S) → S
site_of (Ok r) = r.site
site_of (Err refused) = refused.site

-- What is answered before a run begins: it may begin with this record over the records of the history, or the history is handed back.
abbrev pub Readies : {S : Type 0} → (S → ℕ) → Plan → Options → List ℕ → List Record → ℕ → Type 0 → Files → S → Result (ReadyState S) (StartRefused S) → Type 0
Readies count P O log H moment tells files old (Ok r) =
    (early_fault P O H ≡ None) × (tells → FindsFiles P H files (let found : Result (Unit {0}) StartFault = Ok tt in found))
    × Opens P O (run_over H moment) tells files r.entry
    × (r ≡ record { plan = P; options = O; log = log; faults = count old; history = H; entry = r.entry; site = r.site })
Readies count P O log H moment tells files old (Err refused) = (refused.history ≡ H) × IsRefusal count P O H tells files old refused.site refused.why

-- It was cut short, since the site failed or memory was wanting.
abbrev pub IsCutEarly : {S : Type 0} → Result (ReadyState S) (StartRefused S) → Type 0
IsCutEarly (Ok r) = ⊥
IsCutEarly (Err refused) = IsCutBy refused.why
