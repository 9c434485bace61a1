use Rattle.std.proofs.Common.{rules}
use Rattle.flow_gen.proofs.Fitting.{parts_fit}
use Rattle.flow_gen.proofs.flow.generate.Goals as goal

pub returns-clause-limits : goal.returns-clause-limits
returns-clause-limits c = parts_fit c.args.count _ _ _ (search rules) c.in_ok-rules.ensures (search rules)
