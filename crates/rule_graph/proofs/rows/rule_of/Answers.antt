use Rattle.std.proofs.Common.{◌∙◌}
use Rattle.rule_graph.proofs.PlanRows.{outputs_among, inputs_among}
use Rattle.rule_graph.proofs.rows.rule_of.Goals as goal

pub ports_of-requires-clause-among : goal.ports_of-requires-clause-among
ports_of-requires-clause-among c =
    outputs_among c.args.tables.now.names.items c.deref.result.now c.args.raw c.deref-2.result.now c.deref.ensures.value (c.deref-2.ensures.value ∙ c.in_ok-raw_outputs.ensures) c.requires.among

pub bound_of-bound-requires-clause-among : goal.bound_of-bound-requires-clause-among
bound_of-bound-requires-clause-among c =
    outputs_among c.args.tables.now.names.items c.deref-3.result.now c.args.raw c.deref-5.result.now c.deref-3.ensures.value (c.deref-5.ensures.value ∙ c.in_ok-raw_outputs.ensures) c.requires.among

pub ports_of-requires-2-clause-among : goal.ports_of-requires-2-clause-among
ports_of-requires-2-clause-among c =
    inputs_among c.args.tables.now.names.items c.deref-6.result.now c.args.raw c.deref-7.result.now c.deref-6.ensures.value (c.deref-7.ensures.value ∙ c.in_ok-raw_inputs.ensures) c.requires.among
