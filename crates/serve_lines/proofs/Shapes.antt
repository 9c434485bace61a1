-- Answers are flat objects without floats.
use Rattle.std.proofs.Common.{◌≡◌, ◌≤◌, ℕ, ℤ, pos, negsuc, false, refl, arith}
use Rattle.serde_json.specs.Data.{depth}
use Rattle.serde_json.specs.Written.{has_float}
use Rattle.serve_lines.specs.declared.answer.Answer.{Answer}
use Rattle.serve_lines.specs.declared.answer.Answer.TheVariants as answer
use Rattle.serve_lines.specs.Lines.{answer_data, ended}

pub shallow : (a : Answer) → depth (answer_data a) ≤ 127
shallow (answer.Listening port) = omega arith
shallow (answer.Refused line why) = omega arith
shallow (answer.InputRefused line input why) = omega arith
shallow (answer.Cancelled line task held) = omega arith
shallow (answer.Ended line status) = omega arith
shallow (answer.Missing line output) = omega arith
shallow (answer.TooLong line output size) = omega arith
shallow (answer.Unwritten line output) = omega arith
shallow (answer.Left held) = omega arith
shallow (answer.Stopped why) = omega arith

whole : (line : ℕ) (status : ℤ) → has_float (ended line status) ≡ false
whole line (pos n) = refl
whole line (negsuc n) = refl

pub no_float : (a : Answer) → has_float (answer_data a) ≡ false
no_float (answer.Listening port) = refl
no_float (answer.Refused line why) = refl
no_float (answer.InputRefused line input why) = refl
no_float (answer.Cancelled line task held) = refl
no_float (answer.Ended line status) = whole line status
no_float (answer.Missing line output) = refl
no_float (answer.TooLong line output size) = refl
no_float (answer.Unwritten line output) = refl
no_float (answer.Left held) = refl
no_float (answer.Stopped why) = refl
