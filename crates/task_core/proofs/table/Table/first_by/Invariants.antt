use Rattle.std.proofs.Common.{◌-◌, ◌≤◌, List, length}
use Rattle.flow_types.specs.declared.plan.Plan.{Plan}
use Rattle.run_history.specs.declared.moves.Move.{Move}
use Rattle.run_history.specs.Links.{records_of}
use Rattle.task_core.specs.Admissions.{asks_by}
use Rattle.task_core.specs.Stands.{Stands}
use Rattle.task_core.specs.States.{known_in}
use Rattle.task_core.proofs.Looking.{IsLooking}
use Rattle.task_core.proofs.table.Table.first_by.Given as goal

abbrev pub invariant-rules : goal.invariant-rules
invariant-rules g l = record {
  stays : (P : Plan) → g.A.Admission.stands_for l.fn.admission P → g.A.Admission.stands_for l.admission P;
  within : l.from ≤ length l.self.plan.rules;
  looking : (moves : List Move) → Stands l.self moves → IsLooking (known_in l.self) (asks_by g.A.Admission.admitted (known_in l.self) (records_of moves) l.asked) l.from;
}

abbrev pub decreases-rules : goal.decreases-rules
decreases-rules g l = length l.self.plan.rules - l.from
