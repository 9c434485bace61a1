-- What a line is, by what was looked at before it is read.
use Rattle.std.proofs.Common.{◌≡◌, ℕ, List, length, nat_lt, true, false, Err, refl}
use Rattle.std.specs.Str.{is_utf8}
use Rattle.serde_json.specs.Read.{read}
use Rattle.serve_lines.specs.declared.fault.Refusal.TheVariants as refusal
use Rattle.serve_lines.specs.Requests.{request_of, request_read}

-- a text that isn't too long is what is read of it
pub of_text : (line : List ℕ) → nat_lt 16777216 (length line) ≡ false → is_utf8 line ≡ true → request_of line ≡ request_read (read line)
of_text line short good = rw (short, good) refl

-- what is no text
pub no_text : (line : List ℕ) → nat_lt 16777216 (length line) ≡ false → is_utf8 line ≡ false → request_of line ≡ Err refusal.NotText
no_text line short bad = rw (short, bad) refl
