use Rattle.mf_rules.proofs.Limits.{flows_fit}
use Rattle.mf_rules.proofs.laws.flows_fit_their_limits.Goals as goal

pub returns : goal.returns
returns c = flows_fit
