use Rattle.std.proofs.Common.{◌≡◌, Some, ap, sym, ◌∙◌}
use Rattle.std.specs.Option.{option_map_or}
use Rattle.flow_types.specs.Names.{name_of}
use Rattle.flow_types.proofs.Forms.{name-is_form}
use Rattle.rule_graph.proofs.checks.name_from.Goals as goal

pub returns-in-Ok : goal.returns-in-Ok
returns-in-Ok c =
    let same : Some c.in-Ok.name ≡ Some c.args.bytes.now =
    sym c.in-Ok.ensures.name ∙ ap name_of c.as_slice.ensures ∙ name-is_form c.args.bytes.now c.requires in
    ap (λ found. option_map_or (λ name. name) found c.in-Ok.name) same
