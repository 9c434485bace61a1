use Rattle.std.proofs.Common.{map}
use Rattle.mf_rules.specs.Flow.{given_pairs, formed}
use Rattle.mf_rules.proofs.Limits.{answer_fits}
use Rattle.mf_rules.proofs.flow.read_make.Goals as goal

pub returns-clause-limits : goal.returns-clause-limits
returns-clause-limits c = answer_fits (given_pairs c.args.env.now) c.read_lines.result (map formed c.into_vec.result.items) c.read_lines.ensures
