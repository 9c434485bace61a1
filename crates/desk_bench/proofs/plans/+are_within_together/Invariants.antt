use Rattle.std.proofs.Common.{length}
use Rattle.desk_bench.proofs.plans.+are_within_together.Given as goal

abbrev pub decreases-are_within_together : goal.decreases-are_within_together
decreases-are_within_together l = length l.outs.now
