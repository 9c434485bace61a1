-- Streams of frames.
use Rattle.std.specs.Prelude.{◌≡◌, ◌≤◌, ◌<◌, ◌^◌, ◌⊎◌, ℕ, List, [], ◌∷◌, ◌++◌, length, flat_map}
use Rattle.std.specs.List.{AllByRecursion}
use Rattle.byteorder.specs.Endian.{big_bytes}
use Rattle.flow_types.specs.declared.messages.Message.{Message}
use Rattle.wq_messages.specs.Spelling.{spelling, HasSpelling, most_body}

-- a body behind its length
abbrev pub frame : List ℕ → List ℕ
frame body = big_bytes 4 (length body) ++ body

-- the frame of a message
abbrev pub framed : Message → List ℕ
framed message = frame (spelling message)

-- the frames of these messages, one after the other
abbrev pub frames_of : List Message → List ℕ
frames_of messages = flat_map framed messages

-- The message has a spelling that fits a frame.
abbrev pub IsFramed : Message → Type 0
IsFramed m = HasSpelling m × (length (spelling m) ≤ most_body)

-- Each of them has.
abbrev pub AreFramed : List Message → Type 0
AreFramed messages = AllByRecursion IsFramed messages

-- These bytes are the frames of these messages, and this rest.
pub record IsStream (bytes : List ℕ) (messages : List Message) (rest : List ℕ) : Type 0 where
  pub framed_all : AreFramed messages
  pub are : bytes ≡ frames_of messages ++ rest

-- The bytes begin with the frames of these messages.
abbrev pub BeginsWith : List ℕ → List Message → Type 0
BeginsWith bytes messages = (rest : List ℕ) × IsStream bytes messages rest

-- The message came whole, alone or behind others.
abbrev pub Carries : List ℕ → Message → Type 0
Carries bytes m = (before : List Message) × BeginsWith bytes (before ++ m ∷ [])

-- The message is one of these.
abbrev pub IsAmong : Message → List Message → Type 0
IsAmong m [] = ⊥
IsAmong m (x ∷ xs) = (m ≡ x) ⊎ IsAmong m xs

-- The bytes begin with a length above the limit, or with a whole frame whose body is no message.
pub data IsBroken (bytes : List ℕ) : Type 0 where
  too_long : (n : ℕ) → (after : List ℕ) → n < 2 ^ 32 → most_body < n
      → bytes ≡ big_bytes 4 n ++ after → IsBroken bytes
  bad : (body after : List ℕ) → length body ≤ most_body
      → ((m : Message) → HasSpelling m → spelling m ≡ body → ⊥)
      → bytes ≡ frame body ++ after → IsBroken bytes

-- The bytes leave the grammar behind these messages.
abbrev pub Leaves : List ℕ → List Message → Type 0
Leaves bytes before = (rest : List ℕ) × IsStream bytes before rest × IsBroken rest
