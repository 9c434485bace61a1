use Rattle.std.proofs.Common.{cond}
use Rattle.std.specs.Prelude.{is_some}
use Rattle.flow_types.specs.Plans.{maker_of, most_bytes}
use Rattle.safe_storage.specs.Counters.{bytes_by, is_left_by, told}
use Rattle.safe_storage.proofs.Loops.{IsSummedTo}
use Rattle.safe_storage.proofs.counting.bytes_left.Given as goal

abbrev pub invariant-loop-file : goal.invariant-loop-file
invariant-loop-file l = IsSummedTo
    (λ f. cond (is_some (maker_of l.plan f)) (bytes_by (told l.stand) (is_left_by l.plan l.left) f)
    0)
    most_bytes l.file l.sum
