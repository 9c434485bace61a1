-- What the bytes of a stream begin with.
use Rattle.std.proofs.Common.{◌≡◌, ◌+◌, ℕ, Bool, true, false, cond, ltb, List, length, take, drop, Result, Ok, Err}
use Rattle.byteorder.specs.Endian.{big_number}
use Rattle.bytes.specs.Filled.{Filled}
use Rattle.wq_messages.specs.Spelling.{most_body}
use Rattle.wq_frames.specs.declared.codec.FrameFault.{FrameFault}
use Rattle.wq_frames.specs.declared.codec.FrameFault.TheVariants.{TooLong, Memory}

-- what stands at the front of a stream
pub data Front : Type 0 where
  -- a whole frame's body, and what follows the frame
  whole : List ℕ → List ℕ → Front
  -- a length above the limit
  too_long : ℕ → Front
  -- less than a whole frame
  part : Front

-- a front by three tests: less than a length is there; the length is above the limit; less than the
-- frame is there
abbrev pub front_by : Bool → Bool → Bool → ℕ → List ℕ → Front
front_by no_length long short n behind =
    cond no_length part
    (cond long (too_long n)
    (cond short part (whole (take n behind) (drop n behind))))

-- what these bytes begin with
abbrev pub front : List ℕ → Front
front bytes =
    front_by (ltb (length bytes) 4) (ltb most_body (big_number 4 bytes))
    (ltb (length bytes) (big_number 4 bytes + 4)) (big_number 4 bytes) (drop 4 bytes)

-- what the decoder answers at each front, and leaves: where it wants memory, all of the bytes
abbrev pub Answers : Front → List ℕ → Result Filled FrameFault → List ℕ → Type 0
Answers (whole body rest) bytes (Ok b) after = (b.items ≡ body) × (after ≡ rest)
Answers (whole body rest) bytes (Err e) after = (e ≡ Memory) × (after ≡ bytes)
Answers (too_long n) bytes (Ok b) after = ⊥
Answers (too_long n) bytes (Err e) after = (e ≡ TooLong n) × (after ≡ bytes)
Answers part bytes r after = ⊥

-- It is less than a whole frame.
abbrev pub IsPart : Front → Type 0
IsPart (whole body rest) = ⊥
IsPart (too_long n) = ⊥
IsPart part = Unit {0}

-- whether a whole frame stands in front
abbrev pub is_whole : Front → Bool
is_whole (whole body rest) = true
is_whole (too_long n) = false
is_whole part = false

-- The bytes begin no whole frame.
abbrev pub BeginsNoFrame : List ℕ → Type 0
BeginsNoFrame bytes = is_whole (front bytes) ≡ false
