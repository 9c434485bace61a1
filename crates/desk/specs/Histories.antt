-- Records that are looked at by themselves.
use Rattle.std.specs.Prelude.{◌≡◌, List, [], ◌∷◌, map, option_map, Option, Some, None, Result, Ok, Err}
use Rattle.std.specs.Option.{option_and_then}
use Rattle.flow_types.specs.declared.plan.Plan.{Plan}
use Rattle.flow_types.specs.declared.records.Record.{Record}
use Rattle.run_history.specs.declared.moves.Move.TheVariants as moves
use Rattle.run_history.specs.declared.options.Options.{Options}
use Rattle.run_history.specs.Answers.{first_of}
use Rattle.run_history.specs.Legal.{first_illegal}
use Rattle.rule_graph.specs.Spelling.{plan_digest}
use Rattle.task_core.specs.States.{TableState}
use Rattle.task_core.specs.Stands.{Stands}
use Rattle.desk.specs.declared.answers.StartFault.{StartFault}
use Rattle.desk.specs.declared.answers.StartFault.TheVariants as faults
use Rattle.desk.specs.Openings.{opened_plan, other_flow}

-- What is wrong with records, whatever is to be done with them: their part is of another plan, or one may not stand where it does.
abbrev pub history_fault : Plan → List Record → Option StartFault
history_fault P H = first_of (
    option_and_then (other_flow (plan_digest P)) (opened_plan H)
    ∷ option_map faults.NotLegal (first_illegal P (plan_digest P) H)
    ∷ [])

-- Nothing is wrong with the records, and the table stands behind them; or this is what is wrong.
abbrev pub FindsHistory : Plan → Options → List Record → Result TableState StartFault → Type 0
FindsHistory P O H (Ok t) = (history_fault P H ≡ None) × (t.plan ≡ P) × (t.options ≡ O) × (t.stop ≡ None) × Stands t (map moves.Logged H)
FindsHistory P O H (Err faults.Memory) = Unit {0}
FindsHistory P O H (Err why) = history_fault P H ≡ Some why
