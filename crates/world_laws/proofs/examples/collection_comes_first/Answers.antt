use Rattle.std.proofs.Common.{refl, ◌∙◌}
use Rattle.flow_types.specs.Examples.{chain}
use Rattle.world_laws.specs.Reach.{first_world}
use Rattle.world_laws.specs.Examples.{begun, claim, collecting, forty_bytes, two_done}
use Rattle.world_laws.proofs.Unchanged.{after_more, nothing_claimed}
use Rattle.world_laws.proofs.examples.collection_comes_first.Goals as goal

pub returns-clause-waits : goal.returns-clause-waits
returns-clause-waits c fresh =
    after_more chain collecting (first_world chain collecting forty_bytes fresh) two_done (claim 0)
    ∙ nothing_claimed chain collecting (begun fresh chain collecting two_done) 0 refl refl
