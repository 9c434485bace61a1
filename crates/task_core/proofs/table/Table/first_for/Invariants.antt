use Rattle.std.proofs.Common.{◌-◌, length}
use Rattle.task_core.specs.Asked.{asks_for}
use Rattle.task_core.specs.States.{known_in}
use Rattle.task_core.proofs.Looking.{IsLooking}
use Rattle.task_core.proofs.table.Table.first_for.Given as goal

abbrev pub invariant-rules : goal.invariant-rules
invariant-rules l = IsLooking (known_in l.self) (asks_for (known_in l.self) l.beside.link.0 l.asked) l.from

abbrev pub decreases-rules : goal.decreases-rules
decreases-rules l = length l.self.plan.rules - l.from
