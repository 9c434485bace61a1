use Rattle.std.proofs.Common.{◌∙◌, sym}
use Rattle.std.proofs.lemmas.Option.{same_Some}
use Rattle.flow_types.proofs.Forms.{name-is_form}
use Rattle.rule_graph.proofs.numbering.name_of.Goals as goal

pub returns-in-Ok : goal.returns-in-Ok
returns-in-Ok c = same_Some c.in-Ok.name c.args.form.now (sym c.in-Ok.ensures.name ∙ name-is_form c.args.form.now c.requires)
