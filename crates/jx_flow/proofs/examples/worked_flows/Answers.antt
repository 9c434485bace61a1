use Rattle.std.proofs.Common.{refl}
use Rattle.std.specs.Str.{chars}
use Rattle.jx_meaning.specs.Values.{equal, depth, count}
use Rattle.jx_meaning.specs.Operations.{operated, applied}
use Rattle.jx_meaning.specs.Meaning.{evaluate}
use Rattle.jx_flow.proofs.examples.worked_flows.Goals as goal

pub returns-clause-all_fields : goal.returns-clause-all_fields
unfolding evaluate operated applied chars equal depth count
returns-clause-all_fields c = refl

pub returns-clause-first_faults : goal.returns-clause-first_faults
unfolding evaluate operated applied chars equal depth count
returns-clause-first_faults c = (refl, refl, refl, refl, refl, refl, refl, refl, refl, refl)
