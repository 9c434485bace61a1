-- The one spelling of each record: a kind byte and a body. Numbers have their highest byte first.
use Rattle.std.specs.Prelude.{◌≡◌, ◌≤◌, ◌<◌, ◌^◌, ◌+◌, ◌*◌, ℕ, Option, Some, None, List, [], ◌++◌, length, FitsSigned}
use Rattle.std.specs.List.{AllByRecursion}
use Rattle.std.specs.Int.{cast_unsigned, w32}
use Rattle.byteorder.specs.Endian.{big_bytes}
use Rattle.byte_fields.specs.Laws.{IsBytes}
use Rattle.byte_fields.specs.Spelling.{rows}
use Rattle.flow_types.specs.declared.numbers.RuleNo.{RuleNo}
use Rattle.flow_types.specs.declared.numbers.AttemptNo.{AttemptNo}
use Rattle.flow_types.specs.declared.numbers.Content.{Content}
use Rattle.flow_types.specs.declared.numbers.Digest.{Digest}
use Rattle.flow_types.specs.declared.job.Failure.{Failure}
use Rattle.flow_types.specs.declared.job.Failure.TheVariants.{Status, MissingOutput, TooLong}
use Rattle.flow_types.specs.declared.records.EndKind.{EndKind}
use Rattle.flow_types.specs.declared.records.EndKind.TheVariants.{Complete, CommandFailed, InputsTooLarge, NoRoom, Waited, Cleaned}
use Rattle.flow_types.specs.declared.records.Record.{Record}
use Rattle.flow_types.specs.declared.records.Record.TheVariants.{Opened, Resumed, Started, Done, Failed, Lost, Dropped, Ended}

-- a limit of storage: 0, or 1 and the limit
abbrev pub limit_bytes : Option ℕ → List ℕ
limit_bytes None = big_bytes 1 0
limit_bytes (Some limit) = big_bytes 1 1 ++ big_bytes 8 limit

-- a size and a digest
abbrev pub content_bytes : Content → List ℕ
content_bytes content = big_bytes 8 content.size ++ content.digest.0

-- a count of contents, and each
abbrev pub contents_bytes : List Content → List ℕ
contents_bytes contents = rows content_bytes contents

-- why a command failed: 1 and its status in two's complement, 2 and the missing output, or 3 and the output and its size
abbrev pub failure_bytes : Failure → List ℕ
failure_bytes (Status status) = big_bytes 1 1 ++ big_bytes 4 (cast_unsigned w32 status)
failure_bytes (MissingOutput index) = big_bytes 1 2 ++ big_bytes 4 index
failure_bytes (TooLong index size) = big_bytes 1 3 ++ (big_bytes 4 index ++ big_bytes 8 size)

-- how a run ended
abbrev pub end_bytes : EndKind → List ℕ
end_bytes Complete = big_bytes 1 0
end_bytes CommandFailed = big_bytes 1 1
end_bytes InputsTooLarge = big_bytes 1 2
end_bytes NoRoom = big_bytes 1 3
end_bytes Waited = big_bytes 1 4
end_bytes Cleaned = big_bytes 1 5

-- a run, its retries and its limit
abbrev pub opening_bytes : ℕ → ℕ → Option ℕ → List ℕ
opening_bytes run retries limit = big_bytes 8 run ++ (big_bytes 4 retries ++ limit_bytes limit)

-- a rule and its attempt
abbrev pub attempt_bytes : RuleNo → AttemptNo → List ℕ
attempt_bytes rule attempt = big_bytes 4 rule.0 ++ big_bytes 8 attempt.0

-- The kind byte, the moment, and the rest of the body.
abbrev pub spelling : Record → List ℕ
spelling (Opened moment run retries limit plan sources) =
    big_bytes 1 1 ++ (big_bytes 8 moment ++ (opening_bytes run retries limit ++ (plan.0 ++ contents_bytes sources)))
spelling (Resumed moment run retries limit) = big_bytes 1 2 ++ (big_bytes 8 moment ++ opening_bytes run retries limit)
spelling (Started moment rule attempt link) = big_bytes 1 3 ++ (big_bytes 8 moment ++ (attempt_bytes rule attempt ++ big_bytes 4 link.0))
spelling (Done moment rule attempt outs) = big_bytes 1 4 ++ (big_bytes 8 moment ++ (attempt_bytes rule attempt ++ contents_bytes outs))
spelling (Failed moment rule attempt why) = big_bytes 1 5 ++ (big_bytes 8 moment ++ (attempt_bytes rule attempt ++ failure_bytes why))
spelling (Lost moment rule attempt) = big_bytes 1 6 ++ (big_bytes 8 moment ++ attempt_bytes rule attempt)
spelling (Dropped moment file) = big_bytes 1 7 ++ (big_bytes 8 moment ++ big_bytes 4 file.0)
spelling (Ended moment kind) = big_bytes 1 8 ++ (big_bytes 8 moment ++ end_bytes kind)

-- ---- which records have a spelling

-- contents in one record
abbrev pub most_contents : ℕ
most_contents = 65536

-- the most bytes of a spelling: 66 of numbers and a digest, and 40 for each content
abbrev pub most_spelled : ℕ
most_spelled = 66 + 40 * most_contents

-- the contents that a record lists
abbrev pub listed : Record → List Content
listed (Opened moment run retries limit plan sources) = sources
listed (Resumed moment run retries limit) = []
listed (Started moment rule attempt link) = []
listed (Done moment rule attempt outs) = outs
listed (Failed moment rule attempt why) = []
listed (Lost moment rule attempt) = []
listed (Dropped moment file) = []
listed (Ended moment kind) = []

-- the condition of writing
abbrev pub ListsFew : Record → Type 0
ListsFew r = length (listed r) ≤ most_contents

-- It has 32 bytes.
abbrev pub IsDigest : Digest → Type 0
IsDigest digest = (length digest.0 ≡ 32) × IsBytes digest.0

-- The size is in its type's range, and the digest has 32 bytes.
abbrev pub IsContent : Content → Type 0
IsContent content = (content.size < 2 ^ 64) × IsDigest content.digest

-- a count that may be written
abbrev pub IsCount : ℕ → Type 0
IsCount count = (count < 2 ^ 32) × (count ≤ most_contents)

-- They are few, and each is a content.
abbrev pub AreContents : List Content → Type 0
AreContents contents = IsCount (length contents) × AllByRecursion IsContent contents

-- A limit that is there is in its type's range.
abbrev pub IsLimit : Option ℕ → Type 0
IsLimit None = Unit {0}
IsLimit (Some limit) = limit < 2 ^ 64

-- Each number is in its type's range.
abbrev pub IsFailure : Failure → Type 0
IsFailure (Status status) = FitsSigned w32 status
IsFailure (MissingOutput index) = index < 2 ^ 32
IsFailure (TooLong index size) = (index < 2 ^ 32) × (size < 2 ^ 64)

-- Each end of a run has a number.
abbrev pub IsEnd : EndKind → Type 0
IsEnd kind = Unit {0}

-- Each number is in its type's range.
abbrev pub IsOpening : ℕ → ℕ → Option ℕ → Type 0
IsOpening run retries limit = (run < 2 ^ 64) × ((retries < 2 ^ 32) × IsLimit limit)

-- Each number is in its type's range.
abbrev pub IsAttempt : RuleNo → AttemptNo → Type 0
IsAttempt rule attempt = (rule.0 < 2 ^ 32) × (attempt.0 < 2 ^ 64)

-- each number is in its type's range, a digest has 32 bytes, and few contents are listed
abbrev pub HasSpelling : Record → Type 0
HasSpelling (Opened moment run retries limit plan sources) = (moment < 2 ^ 64) × (IsOpening run retries limit × (IsDigest plan × AreContents sources))
HasSpelling (Resumed moment run retries limit) = (moment < 2 ^ 64) × IsOpening run retries limit
HasSpelling (Started moment rule attempt link) = (moment < 2 ^ 64) × (IsAttempt rule attempt × (link.0 < 2 ^ 32))
HasSpelling (Done moment rule attempt outs) = (moment < 2 ^ 64) × (IsAttempt rule attempt × AreContents outs)
HasSpelling (Failed moment rule attempt why) = (moment < 2 ^ 64) × (IsAttempt rule attempt × IsFailure why)
HasSpelling (Lost moment rule attempt) = (moment < 2 ^ 64) × IsAttempt rule attempt
HasSpelling (Dropped moment file) = (moment < 2 ^ 64) × (file.0 < 2 ^ 32)
HasSpelling (Ended moment kind) = (moment < 2 ^ 64) × IsEnd kind
