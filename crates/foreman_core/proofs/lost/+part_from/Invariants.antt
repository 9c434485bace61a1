use Rattle.std.proofs.Common.{vec_len}
use Rattle.foreman_core.proofs.lost.+part_from.Given as goal

abbrev pub decreases-part_from : goal.decreases-part_from
decreases-part_from l = vec_len l.links.now
