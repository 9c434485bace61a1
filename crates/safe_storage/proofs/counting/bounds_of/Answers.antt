use Rattle.std.proofs.Common.{◌∙◌}
use Rattle.flow_types.specs.Plans.{files_of, most_bytes}
use Rattle.flow_types.proofs.Totals.{total-is}
use Rattle.safe_storage.specs.Counters.{bound_by, is_left_by}
use Rattle.safe_storage.proofs.Loops.{added-last}
use Rattle.safe_storage.proofs.counting.bounds_of.Goals as goal

pub returns : goal.returns
returns c =
    added-last (bound_by c.args.plan.now (is_left_by c.args.plan.now c.args.left.now)) most_bytes
    c.args.ports.now c.loop-port.port-index c.loop-port.sum c.loop-port-test.false
    c.loop-port.invariant
    ∙ total-is (bound_by c.args.plan.now (is_left_by c.args.plan.now c.args.left.now))
    (files_of c.args.ports.now)
