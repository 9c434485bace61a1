use Rattle.std.proofs.Common.{refl, ◌∙◌}
use Rattle.flow_types.specs.declared.messages.Message.TheVariants as messages
use Rattle.world_laws.specs.declared.events.WorldEvent.TheVariants as events
use Rattle.world_laws.specs.Reach.{first_world}
use Rattle.world_laws.specs.Examples.{begun, forty_bytes, made, one_rule, remote, resumed}
use Rattle.world_laws.proofs.Unchanged.{after_more, stale_heard}
use Rattle.world_laws.proofs.examples.old_done_is_stale.Goals as goal

pub returns-clause-stale : goal.returns-clause-stale
returns-clause-stale c fresh =
    after_more one_rule remote (first_world one_rule remote forty_bytes fresh) resumed (events.Deliver 2)
    ∙ stale_heard one_rule remote (begun fresh one_rule remote resumed) 2 0 (messages.Done (record { 0 = 0 }) made) _ (record { 0 = 0 })
    refl refl refl refl refl
