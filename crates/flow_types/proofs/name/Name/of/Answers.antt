use Rattle.std.proofs.Common.{◌∙◌, ap, map, sym}
use Rattle.std.specs.Prelude.{filter}
use Rattle.std.specs.List.{join_with_byte}
use Rattle.flow_types.specs.Names.{is_kept_part}
use Rattle.flow_types.proofs.Forms.{is_name-form}
use Rattle.flow_types.proofs.name.Name.of.Goals as goal

pub invariant_of-result : goal.invariant_of-result
invariant_of-result c =
    is_name-form c.args.text.now c.in-Ok-joined.form.items
    (c.in-Ok-joined.ensures ∙ ap (λ parts. join_with_byte 47 (filter is_kept_part (map (λ part. part.now) parts))) c.deref.ensures.value
    ∙ ap (λ parts. join_with_byte 47 (filter is_kept_part parts)) c.in-Ok.ensures)
    (sym c.is_refused.ensures ∙ c.if-is_refused.false)
