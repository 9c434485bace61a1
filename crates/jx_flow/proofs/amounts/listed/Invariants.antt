use Rattle.std.proofs.Common.{◌≡◌, drop}
use Rattle.jx_flow.specs.Amounts.{listed}
use Rattle.jx_flow.proofs.amounts.listed.Given as goal

-- what is left decides
abbrev pub invariant-loop-category : goal.invariant-loop-category
invariant-loop-category l = listed l.name (drop l.category-index l.categories) ≡ listed l.name l.categories
