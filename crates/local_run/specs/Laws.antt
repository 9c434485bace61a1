-- What holds of every plan, and a worked log.
use Rattle.std.specs.Prelude.{List, [], ◌∷◌, None}
use Rattle.flow_types.specs.declared.plan.Plan.{Plan}
use Rattle.flow_types.specs.declared.numbers.Content.{Content}
use Rattle.flow_types.specs.declared.records.EndKind.TheVariants.{Complete}
use Rattle.flow_types.specs.declared.records.Record.{Record}
use Rattle.flow_types.specs.declared.records.Record.TheVariants.{Opened, Started, Done, Ended}
use Rattle.flow_types.specs.Plans.{IsValid}
use Rattle.local_run.specs.Completing.{HasRecordRoom}
use Rattle.run_history.specs.Spent.{SpentOnce}

-- The log has room for a first run of each plan.
abbrev pub FirstRunHasRoom : Type 0
FirstRunHasRoom = (P : Plan) → IsValid P → HasRecordRoom P []

-- an output of three bytes
abbrev pub three : Content
three = record { size = 3; digest = record { 0 = [] } }

-- the run of one rule
abbrev pub one_run : List Record
one_run =
    Opened 7 0 0 None (record { 0 = [] }) (three ∷ [])
    ∷ Started 7 (record { 0 = 0 }) (record { 0 = 0 }) (record { 0 = 0 })
    ∷ Done 7 (record { 0 = 0 }) (record { 0 = 0 }) (three ∷ [])
    ∷ Ended 7 Complete
    ∷ []

-- Its attempt is closed once.
abbrev pub OneRunIsSpent : Type 0
OneRunIsSpent = SpentOnce one_run
