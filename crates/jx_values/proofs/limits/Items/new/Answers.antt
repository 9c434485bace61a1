use Rattle.std.proofs.Common.{◌∙◌, sym, ap, map, List}
use Rattle.jx_syntax.specs.declared.value.JxValue.{JxValue}
use Rattle.jx_meaning.specs.Values.{plain, values}
use Rattle.jx_values.specs.Sizes.{items_size}
use Rattle.jx_values.proofs.SizeLemmas.{nothing}
use Rattle.jx_values.proofs.limits.Items.new.Goals as goal

pub invariant_of-result : goal.invariant_of-result
invariant_of-result c = c.nothing.ensures ∙ nothing ∙ ap (λ (l : List JxValue). items_size (values (map plain l))) (sym c.new.ensures.items)
