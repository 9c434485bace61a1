-- Blanks, and the words between them.
use Rattle.std.specs.Prelude.{ℕ, ◌-◌, Bool, List, [], ◌∷◌, length, take, drop, nat_lt, filter}
use Rattle.std.specs.List.{prefix_len, suffix_len, slice_split, before_first}
use Rattle.mf_text.specs.Expansion.{holds}

-- a space or a tab
abbrev pub is_blank : ℕ → Bool
is_blank c = holds c (32 ∷ 9 ∷ [])

-- the text has a byte
abbrev pub is_filled : List ℕ → Bool
is_filled text = nat_lt 0 (length text)

-- the text less the blanks at its front
abbrev pub without_front : List ℕ → List ℕ
without_front text = drop (prefix_len is_blank text) text

-- the text less the blanks at its end
abbrev pub without_end : List ℕ → List ℕ
without_end text = take (length text - suffix_len is_blank text) text

-- the text less the blanks at both ends
abbrev pub trimmed : List ℕ → List ℕ
trimmed text = without_end (without_front text)

-- what stands between the items that pass a test, less what is empty
abbrev pub runs : {X : Type 0} → (X → Bool) → List X → List (List X)
runs {X} parts xs = filter (λ (run : List X). nat_lt 0 (length run)) (slice_split parts xs)

-- what stands between blanks
abbrev pub words : List ℕ → List (List ℕ)
words text = runs is_blank text

-- the first of the words, empty where there is none
abbrev pub first_word : List ℕ → List ℕ
first_word text = before_first is_blank (without_front text)

-- what follows the first word and the blanks behind it
abbrev pub behind_word : List ℕ → List ℕ
behind_word text = without_front (drop (length (first_word text)) (without_front text))
