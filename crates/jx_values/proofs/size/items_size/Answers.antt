use Rattle.std.proofs.Common.{List, map, ◌∙◌, ap}
use Rattle.std.proofs.lemmas.List.{take_all}
use Rattle.jx_syntax.specs.declared.value.JxValue.{JxValue}
use Rattle.jx_meaning.specs.Values.{plain, values}
use Rattle.jx_values.specs.Sizes.{items_size}
use Rattle.jx_values.proofs.SizeLemmas.{nothing, item_step}
use Rattle.jx_values.proofs.size.items_size.Goals as goal

pub loop-item-init : goal.loop-item-init
loop-item-init c = c.nothing-inside.ensures ∙ nothing

pub loop-item-preserved : goal.loop-item-preserved
loop-item-preserved c =
    item_step c.args.items.now c.loop-item.item-index c.item-item.result c.loop-item.inside c.size_of.result c.beside-inside.result
    c.loop-item-test.true c.item-item.is c.loop-item.invariant c.size_of.ensures c.beside-inside.ensures

pub returns : goal.returns
returns c = c.loop-item.invariant ∙ ap (λ (l : List JxValue). items_size (values (map plain l))) (take_all c.loop-item.item-index c.args.items.now c.loop-item-test.false)
