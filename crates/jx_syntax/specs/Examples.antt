-- Parts of the worked examples.
use Rattle.std.specs.Prelude.{ℕ, List, replicate}
use Rattle.jx_syntax.specs.Grammar.{Derivation, literal, number}

-- a digit at a place
abbrev pub digit : ℕ → ℕ → Derivation
digit place n = literal place (number n)

-- so many `[`
abbrev pub brackets : ℕ → List ℕ
brackets n = replicate n 91

-- so many `-`
abbrev pub minuses : ℕ → List ℕ
minuses n = replicate n 45
