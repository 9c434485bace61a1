use Rattle.std.proofs.Common.{ap, ◌∙◌}
use Rattle.flow_types.specs.Plans.{is_name_less}
use Rattle.rule_graph.proofs.Folders.{less_than}
use Rattle.rule_graph.proofs.nesting.is_less.Goals as goal

pub returns : goal.returns
returns c = c.lt.ensures ∙ less_than c.as_slice.result.now c.args.start.now ∙ ap (λ name. is_name_less name c.args.start.now) c.as_slice.ensures
