-- What holds of every list of tokens and of every text.
use Rattle.std.specs.Prelude.{◌≡◌, ℕ, List, [], ◌⊎◌}
use Rattle.jx_tokens.specs.declared.fault.JxFault.{JxFault}
use Rattle.jx_syntax.specs.Grammar.{Derivation, IsSentence, spells, IsWritten, IsNoExpression}

-- two expressions that are written alike are one
abbrev pub IsUnambiguous : Type 0
IsUnambiguous = (limit : ℕ) (d e : Derivation) → IsSentence limit d → IsSentence limit e → spells d [] ≡ spells e [] → d ≡ e

-- a text is an expression, or there is a reason why it is none
abbrev pub IsDecided : Type 0
IsDecided = (bytes : List ℕ) → ((d : Derivation) × IsWritten bytes d) ⊎ ((e : JxFault) × IsNoExpression bytes e)

-- no text is an expression and refused too
abbrev pub IsOneOrTheOther : Type 0
IsOneOrTheOther = (bytes : List ℕ) (d : Derivation) (e : JxFault) → IsWritten bytes d → IsNoExpression bytes e → ⊥

-- there is one reason for which a text is refused
abbrev pub HasOneReason : Type 0
HasOneReason = (bytes : List ℕ) (e f : JxFault) → IsNoExpression bytes e → IsNoExpression bytes f → e ≡ f
