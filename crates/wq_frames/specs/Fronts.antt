-- What the front of a stream has to do with frames.
use Rattle.std.specs.Prelude.{◌≡◌, ◌↔◌, ◌≤◌, ◌<◌, ◌^◌, ℕ, List, ◌++◌, length}
use Rattle.byteorder.specs.Endian.{big_number}
use Rattle.byte_fields.specs.Laws.{IsBytes}
use Rattle.wq_messages.specs.Spelling.{most_body}
use Rattle.message_forms.specs.Streams.{frame}
use Rattle.wq_frames.specs.Frames.{front, whole, part}

-- What is taken off the front is a frame of at most so many bytes.
abbrev pub FrontsAreFrames : Type 0
FrontsAreFrames =
    (bytes body rest : List ℕ) → IsBytes bytes → front bytes ≡ whole body rest
    → (bytes ≡ frame body ++ rest) × ((length body ≤ most_body) × (IsBytes body × IsBytes rest))

-- A frame of at most so many bytes is taken off the front, whatever follows it.
abbrev pub FramesAreTaken : Type 0
FramesAreTaken =
    (body rest : List ℕ) → length body ≤ most_body → front (frame body ++ rest) ≡ whole body rest

-- Something is missing of a frame that begins so.
pub record IsBegun (bytes : List ℕ) : Type 0 where
  pub body : List ℕ
  pub short : length body < 2 ^ 32
  pub missing : List ℕ
  pub some : 0 < length missing
  pub parts : bytes ++ missing ≡ frame body

-- A length that is there is at most the limit.
abbrev pub HasNoLongLength : List ℕ → Type 0
HasNoLongLength bytes = 4 ≤ length bytes → big_number 4 bytes ≤ most_body

-- A feeder waits exactly where the bytes left are a proper prefix of a frame, and no length above
-- the limit is there.
abbrev pub WaitsForTheRest : Type 0
WaitsForTheRest =
    (bytes : List ℕ) → IsBytes bytes
    → (front bytes ≡ part) ↔ (IsBegun bytes × HasNoLongLength bytes)
