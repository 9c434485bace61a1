use Rattle.jx_flow.proofs.Limits.{flows_fit}
use Rattle.jx_flow.proofs.laws.flows_fit_their_limits.Goals as goal

pub returns : goal.returns
returns c = flows_fit
