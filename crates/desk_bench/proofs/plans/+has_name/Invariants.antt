use Rattle.std.proofs.Common.{length}
use Rattle.desk_bench.proofs.plans.+has_name.Given as goal

abbrev pub decreases-has_name : goal.decreases-has_name
decreases-has_name l = length l.rows.now
