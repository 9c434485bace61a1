use Rattle.std.proofs.Common.{arith}
use Rattle.task_core.proofs.table.Table.held.Goals as goal

pub overflow_add-result : goal.overflow_add-result
overflow_add-result c = omega (arith, c.stored.ensures.small, c.reserved.ensures.small)
