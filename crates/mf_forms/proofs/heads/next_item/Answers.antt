use Rattle.std.proofs.Common.{codes, sym, ◌∙◌}
use Rattle.mf_forms.proofs.Places.{blanks_are_ascii}
use Rattle.mf_forms.proofs.Quoting.{before_bare, items-none, items-next}
use Rattle.mf_forms.proofs.heads.next_item.Goals as goal

pub split_at-requires : goal.split_at-requires
split_at-requires c = before_bare (codes " \t") blanks_are_ascii c.without_front-rest.result.now c.bare_position.result c.bare_position.ensures

pub returns-then-is_empty-clause-items : goal.returns-then-is_empty-clause-items
returns-then-is_empty-clause-items c =
    items-none c.args.text.now c.without_front-rest.result.now c.split_at.result.0.now c.bare_position.result c.without_front-rest.ensures c.bare_position.ensures c.split_at.ensures.front (sym c.is_empty.ensures ∙ c.if-is_empty.true)

pub returns-then-is_empty-clause-shorter : goal.returns-then-is_empty-clause-shorter
returns-then-is_empty-clause-shorter c =
    items-none c.args.text.now c.without_front-rest.result.now c.split_at.result.0.now c.bare_position.result c.without_front-rest.ensures c.bare_position.ensures c.split_at.ensures.front (sym c.is_empty.ensures ∙ c.if-is_empty.true)

pub returns-else-is_empty-clause-items : goal.returns-else-is_empty-clause-items
returns-else-is_empty-clause-items c =
    items-next c.args.text.now c.without_front-rest.result.now c.split_at.result.0.now c.split_at.result.1.now c.bare_position.result c.without_front-rest.ensures c.bare_position.ensures c.split_at.ensures.front c.split_at.ensures.back (sym c.is_empty.ensures ∙ c.if-is_empty.false)
