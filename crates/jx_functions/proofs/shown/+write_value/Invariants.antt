use Rattle.std.proofs.Common.{◌≡◌, [], ◌∷◌, ◌++◌, true, drop, map}
use Rattle.jx_meaning.specs.Values.{plain, values, pairs}
use Rattle.jx_meaning.specs.Texts.{written_items, written_pairs}
use Rattle.jx_values.specs.Kinds.{plain_pair}
use Rattle.jx_functions.specs.Drafts.{extended}
use Rattle.jx_functions.proofs.shown.+write_value.Given as goal

-- what is left decides
abbrev pub invariant-loop-item : goal.invariant-loop-item
invariant-loop-item l =
    extended l.draft (written_items l.first (values (map plain (drop l.item-index l.item-items))) ++ 93 ∷ []) ≡ extended l.initial.draft (written_items true (values (map plain l.item-items)) ++ 93 ∷ [])

abbrev pub invariant-loop-pair : goal.invariant-loop-pair
invariant-loop-pair l =
    extended l.draft (written_pairs l.first (pairs (map plain_pair (drop l.pair-index l.pair-items))) ++ 125 ∷ []) ≡ extended l.initial.draft (written_pairs true (pairs (map plain_pair l.pair-items)) ++ 125 ∷ [])
