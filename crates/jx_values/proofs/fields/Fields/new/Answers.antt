use Rattle.std.proofs.Common.{◌∙◌, sym, ap, map, List}
use Rattle.jx_syntax.specs.declared.value.JxPair.{JxPair}
use Rattle.jx_meaning.specs.Values.{pairs}
use Rattle.jx_values.specs.Kinds.{plain_pair}
use Rattle.jx_values.specs.Sizes.{pairs_size}
use Rattle.jx_values.proofs.SizeLemmas.{nothing_paired}
use Rattle.jx_values.proofs.fields.Fields.new.Goals as goal

pub invariant_of-result : goal.invariant_of-result
invariant_of-result c = c.nothing.ensures ∙ nothing_paired ∙ ap (λ (l : List JxPair). pairs_size (pairs (map plain_pair l))) (sym c.new.ensures.items)
