-- Texts that are being written, within the limit of a text.
use Rattle.std.specs.Prelude.{◌≡◌, ℕ, List, ◌++◌, Option, Some, None, Result, Ok, Err, if◌then◌else◌}
use Rattle.jx_meaning.specs.declared.fault.EvalFault.{EvalFault}
use Rattle.jx_meaning.specs.declared.fault.EvalFault.TheVariants.{TooMuch}
use Rattle.jx_meaning.specs.Answers.{Fails}
use Rattle.jx_meaning.specs.Values.{text, may_be}
use Rattle.jx_meaning.specs.Numbers.{Answer}
use Rattle.jx_meaning.specs.Texts.{Piece}

-- the bytes with these behind them, or none where a text can't have so many
abbrev pub extended : Option (List ℕ) → List ℕ → Option (List ℕ)
extended None p = None
extended (Some out) p = if may_be (text (out ++ p)) then Some (out ++ p) else None

-- the bytes as a text, or the fault that they are too many
abbrev pub text_or_much : ℕ → Option (List ℕ) → Answer
text_or_much at None = Err (TooMuch at)
text_or_much at (Some t) = Ok (text t)

-- the text of the bytes so far and of those to come
abbrev pub finished : ℕ → Option (List ℕ) → Piece → Answer
finished at so_far (Ok more) = text_or_much at (extended so_far more)
finished at so_far (Err e) = Err e

-- what is to come is what comes after this, or the fault is the one to come
abbrev pub Continues : {X : Type 0} → (X → Answer) → Result X EvalFault → Answer → Type 0
Continues after (Ok x) whole = after x ≡ whole
Continues after (Err e) whole = Fails e whole
