use Rattle.flow_types.specs.Plans.{most_bytes}
use Rattle.safe_storage.specs.Counters.{claim_share, told}
use Rattle.safe_storage.proofs.Loops.{IsSummedTo}
use Rattle.safe_storage.proofs.counting.claims.Given as goal

abbrev pub invariant-loop-rule : goal.invariant-loop-rule
invariant-loop-rule l =
    IsSummedTo (claim_share l.plan (told l.stand)) most_bytes l.rule l.sum
