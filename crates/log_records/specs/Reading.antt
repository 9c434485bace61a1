-- Reading a record from the front of some bytes, with the first fault.
use Rattle.std.specs.Prelude.{ℕ, ◌-◌, Option, Some, None, List, [], ◌∷◌, length, Result, Ok, Err}
use Rattle.std.specs.Int.{cast_signed, w32}
use Rattle.byte_fields.specs.declared.fault.FieldFault.{FieldFault}
use Rattle.byte_fields.specs.Faults.{left_of}
use Rattle.byte_fields.specs.Reading.{Reader, number_at, fixed_at, nothing_at, both, seen_as, up_to_at, rows_behind, tagged, whole}
use Rattle.flow_types.specs.declared.numbers.RuleNo.{RuleNo}
use Rattle.flow_types.specs.declared.numbers.FileNo.{FileNo}
use Rattle.flow_types.specs.declared.numbers.LinkNo.{LinkNo}
use Rattle.flow_types.specs.declared.numbers.AttemptNo.{AttemptNo}
use Rattle.flow_types.specs.declared.numbers.Content.{Content}
use Rattle.flow_types.specs.declared.numbers.Digest.{Digest}
use Rattle.flow_types.specs.declared.job.Failure.{Failure}
use Rattle.flow_types.specs.declared.job.Failure.TheVariants.{Status, MissingOutput, TooLong}
use Rattle.flow_types.specs.declared.records.EndKind.{EndKind}
use Rattle.flow_types.specs.declared.records.EndKind.TheVariants.{Complete, CommandFailed, InputsTooLarge, NoRoom, Waited, Cleaned}
use Rattle.flow_types.specs.declared.records.Record.{Record}
use Rattle.flow_types.specs.declared.records.Record.TheVariants.{Opened, Resumed, Started, Done, Failed, Lost, Dropped, Ended}
use Rattle.log_records.specs.Spelling.{most_contents}

-- the rule of this number
abbrev pub rule_of : ℕ → RuleNo
rule_of n = record { 0 = n }

-- the file of this number
abbrev pub file_of : ℕ → FileNo
file_of n = record { 0 = n }

-- the link of this number
abbrev pub link_of : ℕ → LinkNo
link_of n = record { 0 = n }

-- the attempt of this number
abbrev pub attempt_of : ℕ → AttemptNo
attempt_of n = record { 0 = n }

-- the digest of these bytes
abbrev pub digest_of : List ℕ → Digest
digest_of bytes = record { 0 = bytes }

-- the content of this size and digest
abbrev pub content_of : ℕ × Digest → Content
content_of p = record { size = p.0; digest = p.1 }

-- 0: no limit; 1: a limit
abbrev pub limit_kinds : List (ℕ × Reader (Option ℕ))
limit_kinds = (0, seen_as (λ _. None) nothing_at) ∷ (1, seen_as (λ limit. Some limit) (number_at 8)) ∷ []

-- a limit of storage
abbrev pub limit_at : Reader (Option ℕ)
limit_at = tagged limit_kinds

-- a digest
abbrev pub digest_at : Reader Digest
digest_at = seen_as digest_of (fixed_at 32)

-- a size and a digest
abbrev pub content_at : Reader Content
content_at = seen_as content_of (both (number_at 8) digest_at)

-- contents behind their count
abbrev pub contents_at : Reader (List Content)
contents_at = rows_behind (up_to_at most_contents) content_at

-- 1: a status; 2: a missing output; 3: an output that is too long
abbrev pub failure_kinds : List (ℕ × Reader Failure)
failure_kinds =
    (1, seen_as (λ status. Status (cast_signed w32 status)) (number_at 4))
    ∷ (2, seen_as (λ index. MissingOutput index) (number_at 4))
    ∷ (3, seen_as (λ p. TooLong p.0 p.1) (both (number_at 4) (number_at 8)))
    ∷ []

-- why an attempt failed
abbrev pub failure_at : Reader Failure
failure_at = tagged failure_kinds

-- each end of a run by its number
abbrev pub end_kinds : List (ℕ × Reader EndKind)
end_kinds =
    (0, seen_as (λ _. Complete) nothing_at)
    ∷ (1, seen_as (λ _. CommandFailed) nothing_at)
    ∷ (2, seen_as (λ _. InputsTooLarge) nothing_at)
    ∷ (3, seen_as (λ _. NoRoom) nothing_at)
    ∷ (4, seen_as (λ _. Waited) nothing_at)
    ∷ (5, seen_as (λ _. Cleaned) nothing_at)
    ∷ []

-- how a run ended
abbrev pub end_at : Reader EndKind
end_at = tagged end_kinds

-- a run, its retries and its limit
abbrev pub opening_at : Reader (ℕ × (ℕ × Option ℕ))
opening_at = both (number_at 8) (both (number_at 4) limit_at)

-- a rule and its attempt
abbrev pub attempt_at : Reader (RuleNo × AttemptNo)
attempt_at = both (seen_as rule_of (number_at 4)) (seen_as attempt_of (number_at 8))

-- ---- what stands behind each kind byte

-- the body of an Opened
abbrev pub opened_at : Reader Record
opened_at = seen_as (λ p. Opened p.0 p.1.0.0 p.1.0.1.0 p.1.0.1.1 p.1.1.0 p.1.1.1) (both (number_at 8) (both opening_at (both digest_at contents_at)))

-- the body of a Resumed
abbrev pub resumed_at : Reader Record
resumed_at = seen_as (λ p. Resumed p.0 p.1.0 p.1.1.0 p.1.1.1) (both (number_at 8) opening_at)

-- the body of a Started
abbrev pub started_at : Reader Record
started_at = seen_as (λ p. Started p.0 p.1.0.0 p.1.0.1 p.1.1) (both (number_at 8) (both attempt_at (seen_as link_of (number_at 4))))

-- the body of a Done
abbrev pub done_at : Reader Record
done_at = seen_as (λ p. Done p.0 p.1.0.0 p.1.0.1 p.1.1) (both (number_at 8) (both attempt_at contents_at))

-- the body of a Failed
abbrev pub failed_at : Reader Record
failed_at = seen_as (λ p. Failed p.0 p.1.0.0 p.1.0.1 p.1.1) (both (number_at 8) (both attempt_at failure_at))

-- the body of a Lost
abbrev pub lost_at : Reader Record
lost_at = seen_as (λ p. Lost p.0 p.1.0 p.1.1) (both (number_at 8) attempt_at)

-- the body of a Dropped
abbrev pub dropped_at : Reader Record
dropped_at = seen_as (λ p. Dropped p.0 p.1) (both (number_at 8) (seen_as file_of (number_at 4)))

-- the body of an Ended
abbrev pub ended_at : Reader Record
ended_at = seen_as (λ p. Ended p.0 p.1) (both (number_at 8) end_at)

-- each kind byte and its body
abbrev pub record_kinds : List (ℕ × Reader Record)
record_kinds =
    (1, opened_at) ∷ (2, resumed_at) ∷ (3, started_at) ∷ (4, done_at) ∷ (5, failed_at) ∷ (6, lost_at) ∷ (7, dropped_at) ∷ (8, ended_at) ∷ []

-- a kind byte and its body
unfoldable pub record_at : Reader Record
record_at = tagged record_kinds

-- a fault by its place in this many bytes
abbrev pub by_place : {A : Type 0} → ℕ → Result A FieldFault → Result A ℕ
by_place total (Ok x) = Ok x
by_place total (Err e) = Err (total - left_of e)

-- The record that all of the bytes are, or the place where they leave the grammar.
unfoldable pub record_of : List ℕ → Result Record ℕ
record_of body = by_place (length body) (whole record_at body)
