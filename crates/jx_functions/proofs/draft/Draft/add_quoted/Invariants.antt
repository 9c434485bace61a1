use Rattle.std.proofs.Common.{◌≡◌, [], ◌∷◌, ◌++◌, length, drop}
use Rattle.std.specs.List.{flat_map}
use Rattle.std.specs.Str.{chars}
use Rattle.jx_syntax.specs.Written.{char_text}
use Rattle.jx_functions.specs.Drafts.{extended}
use Rattle.jx_functions.proofs.draft.Draft.add_quoted.Given as goal

-- what is left decides
abbrev pub invariant-loop-c : goal.invariant-loop-c
invariant-loop-c l =
    extended l.self (flat_map char_text (drop (length l.yielded) (chars l.text)) ++ 34 ∷ []) ≡ extended l.initial.self (flat_map char_text (chars l.text) ++ 34 ∷ [])
