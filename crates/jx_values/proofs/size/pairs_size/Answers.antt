use Rattle.std.proofs.Common.{List, map, ◌∙◌, ap}
use Rattle.std.proofs.lemmas.List.{take_all}
use Rattle.jx_syntax.specs.declared.value.JxPair.{JxPair}
use Rattle.jx_meaning.specs.Values.{pairs}
use Rattle.jx_values.specs.Kinds.{plain_pair}
use Rattle.jx_values.specs.Sizes.{pairs_size}
use Rattle.jx_values.proofs.SizeLemmas.{nothing_paired, pair_step}
use Rattle.jx_values.proofs.size.pairs_size.Goals as goal

pub loop-pair-init : goal.loop-pair-init
loop-pair-init c = c.nothing-inside.ensures ∙ nothing_paired

pub loop-pair-preserved : goal.loop-pair-preserved
loop-pair-preserved c =
    pair_step c.args.fields.now c.loop-pair.pair-index c.pair-item.result c.loop-pair.inside c.size_of.result c.beside-inside.result
    c.loop-pair-test.true c.pair-item.is c.loop-pair.invariant c.size_of.ensures c.beside-inside.ensures

pub returns : goal.returns
returns c = c.loop-pair.invariant ∙ ap (λ (l : List JxPair). pairs_size (pairs (map plain_pair l))) (take_all c.loop-pair.pair-index c.args.fields.now c.loop-pair-test.false)
