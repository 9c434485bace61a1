use Rattle.std.proofs.Common.{◌∙◌, sym, ap}
use Rattle.jx_syntax.specs.declared.value.JxValue.TheVariants as value
use Rattle.jx_values.proofs.SizeLemmas.{nothing, nothing_paired, item_step, pair_step, list_ends, object_ends, single}
use Rattle.jx_values.proofs.size.+size_of.Goals as goal

pub loop-item-init : goal.loop-item-init
loop-item-init t c = c.nothing-inside.ensures ∙ nothing

pub loop-item-preserved : goal.loop-item-preserved
loop-item-preserved t c =
    item_step c.as_slice-item-items.result.now c.loop-item.item-index c.item-item.result c.loop-item.inside c.size_of.result c.beside-inside.result
    c.loop-item-test.true c.item-item.is c.loop-item.invariant c.size_of.ensures c.beside-inside.ensures

pub loop-pair-init : goal.loop-pair-init
loop-pair-init t c = c.nothing-inside-in-Object.ensures ∙ nothing_paired

pub loop-pair-preserved : goal.loop-pair-preserved
loop-pair-preserved t c =
    pair_step c.as_slice-pair-items.result.now c.loop-pair.pair-index c.pair-item.result c.loop-pair.inside c.size_of-in-loop-pair.result c.beside-inside-in-loop-pair.result
    c.loop-pair-test.true c.pair-item.is c.loop-pair.invariant c.size_of-in-loop-pair.ensures c.beside-inside-in-loop-pair.ensures

pub returns-after-loop-item : goal.returns-after-loop-item
returns-after-loop-item t c =
    list_ends c.args.value.now c.as_slice-item-items.result.now c.loop-item.item-index c.loop-item.inside c.around.result
    c.loop-item-test.false (c.in-List.is ∙ ap value.List (sym c.as_slice-item-items.ensures)) c.loop-item.invariant c.around.ensures

pub returns-after-loop-pair : goal.returns-after-loop-pair
returns-after-loop-pair t c =
    object_ends c.args.value.now c.as_slice-pair-items.result.now c.loop-pair.pair-index c.loop-pair.inside c.around-in-Object.result
    c.loop-pair-test.false (c.in-Object.is ∙ ap value.Object (sym c.as_slice-pair-items.ensures)) c.loop-pair.invariant c.around-in-Object.ensures

pub returns-in_default : goal.returns-in_default
returns-in_default t c = single c.args.value.now c.in_default.not-List c.in_default.not-Object
