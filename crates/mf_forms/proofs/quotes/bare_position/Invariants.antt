use Rattle.std.proofs.Common.{◌≡◌, ◌+◌, drop}
use Rattle.std.specs.List.{position_or_len}
use Rattle.mf_forms.specs.Quotes.{is_bare_among, placed_behind, bare_position}
use Rattle.mf_forms.proofs.quotes.bare_position.Given as goal

-- what is left decides
abbrev pub invariant-loop-at : goal.invariant-loop-at
invariant-loop-at l = l.at + position_or_len (is_bare_among l.wanted) (placed_behind l.mark (drop l.at l.text)) ≡ bare_position l.wanted l.text
