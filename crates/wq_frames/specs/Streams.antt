-- What a feeder holds.
use Rattle.std.specs.Prelude.{◌≡◌, ℕ, List, [], ◌++◌, Option, Some, None, Result, Ok, Err, Bool, true, false, ◌⊎◌}
use Rattle.wq_messages.specs.declared.fault.MessageFault.{MessageFault}
use Rattle.flow_types.specs.declared.messages.Message.{Message}
use Rattle.wq_messages.specs.Reading.{message_of}
use Rattle.wq_frames.specs.declared.feeder.FeedFault.{FeedFault}
use Rattle.wq_frames.specs.declared.feeder.FeedFault.TheVariants as faults
use Rattle.wq_frames.specs.Frames.{Front, whole, too_long, part, front}

-- The bytes fed that no frame took, the body taken last, and the fault that it stopped at.
pub record Stream : Type 0 where
  pub rest : List ℕ
  pub body : List ℕ
  pub stop : Option FeedFault

-- the same, where it hasn't stopped
abbrev pub with_piece : Option FeedFault → Stream → List ℕ → Stream
with_piece None s piece = record { rest = s.rest ++ piece; body = []; stop = None }
with_piece (Some fault) s piece = s

-- the stream after a piece that was taken; a stopped one stays
abbrev pub fed : Stream → List ℕ → Stream
fed s piece = with_piece s.stop s piece

-- without the body of the message taken last
abbrev pub let_go : Stream → Stream
let_go s = record s { body = [] }

-- with this body as the one taken last
abbrev pub with_body : List ℕ → Stream → Stream
with_body body s = record s { body = body }

-- a stream that hasn't stopped
abbrev pub at_rest : List ℕ → List ℕ → Stream
at_rest rest body = record { rest = rest; body = body; stop = None }

-- the same bytes, stopped at this fault
abbrev pub stopped : FeedFault → Stream → Stream
stopped fault s = record s { stop = Some fault }

-- what is answered where a body was taken: it is a message, or the stream stops at it
abbrev pub heard_as : Result Message MessageFault → Result Bool FeedFault
heard_as (Ok m) = Ok true
heard_as (Err wrong) = Err (faults.Bad wrong)

-- the stream once a body was taken
abbrev pub heard_by : Result Message MessageFault → Stream → Stream
heard_by (Ok m) s = s
heard_by (Err wrong) s = stopped (faults.Bad wrong) s

-- The frame was taken and its body heard.
abbrev pub Takes : List ℕ → List ℕ → Result Bool FeedFault → Stream → Type 0
Takes body rest r new =
    (r ≡ heard_as (message_of body)) × (new ≡ heard_by (message_of body) (at_rest rest body))

-- There was no memory to take anything: all bytes are left, and the stream stops.
abbrev pub WantsMemory : Stream → Result Bool FeedFault → Stream → Type 0
WantsMemory old r new = (r ≡ Err faults.Memory) × (new ≡ stopped faults.Memory old)

-- What advancing answers at each front, and leaves.
abbrev pub Advances : Front → Stream → Result Bool FeedFault → Stream → Type 0
Advances (whole body rest) old r new = Takes body rest r new ⊎ WantsMemory old r new
Advances (too_long n) old r new =
    (r ≡ Err (faults.TooLong n)) × (new ≡ stopped (faults.TooLong n) old)
Advances part old r new = (r ≡ Ok false) × (new ≡ old)

-- The same of a stream that may have stopped: then the fault again, and nothing changes.
abbrev pub AdvancesFrom : Option FeedFault → Stream → Result Bool FeedFault → Stream → Type 0
AdvancesFrom None old r new = Advances (front old.rest) old r new
AdvancesFrom (Some fault) old r new = (r ≡ Err fault) × (new ≡ old)
