use Rattle.std.proofs.Common.{◌≡◌}
use Rattle.jx_functions.proofs.Joining.{AreTexts}
use Rattle.jx_functions.proofs.joins.are_texts.Given as goal

-- what is left decides
abbrev pub invariant-loop-item : goal.invariant-loop-item
invariant-loop-item l = AreTexts l.items l.item-index ≡ AreTexts l.items 0
