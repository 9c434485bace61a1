-- Whole runs of a feeder.
use Rattle.std.specs.Prelude.{◌≡◌, ℕ, List, [], ◌∷◌, ◌++◌, Ok, true, false, None}
use Rattle.byte_fields.specs.Laws.{IsBytes}
use Rattle.flow_types.specs.declared.messages.Message.{Message}
use Rattle.wq_messages.specs.Views.{shown}
use Rattle.message_forms.specs.Streams.{IsStream}
use Rattle.wq_frames.specs.Frames.{BeginsNoFrame}
use Rattle.wq_frames.specs.Streams.{Stream, at_rest, fed, AdvancesFrom}

-- what was done with a feeder that has met no fault yet
pub data Call : Type 0 where
  -- a piece was taken
  feeds : List ℕ → Call
  -- a message was given
  gives : Message → Call
  -- the bytes left were less than a frame
  waits : Call

-- These calls lead from one stream to the other.
abbrev pub Runs : Stream → List Call → Stream → Type 0
Runs s [] t = s ≡ t
Runs s (feeds piece ∷ calls) t = IsBytes piece × Runs (fed s piece) calls t
Runs s (gives m ∷ calls) t =
    (u : Stream) × AdvancesFrom s.stop s (Ok true) u × ((shown u.body ≡ m) × Runs u calls t)
Runs s (waits ∷ calls) t = (u : Stream) × AdvancesFrom s.stop s (Ok false) u × Runs u calls t

-- the bytes fed, in one piece
abbrev pub fed_in : List Call → List ℕ
fed_in [] = []
fed_in (feeds piece ∷ calls) = piece ++ fed_in calls
fed_in (gives m ∷ calls) = fed_in calls
fed_in (waits ∷ calls) = fed_in calls

-- the messages given, in order
abbrev pub given_in : List Call → List Message
given_in [] = []
given_in (feeds piece ∷ calls) = given_in calls
given_in (gives m ∷ calls) = m ∷ given_in calls
given_in (waits ∷ calls) = given_in calls

-- Whatever the pieces, the messages given and the rest are those of the bytes fed.
abbrev pub RunsAreStreams : Type 0
RunsAreStreams =
    (calls : List Call) (t : Stream) → Runs (at_rest [] []) calls t
    → IsStream (fed_in calls) (given_in calls) t.rest × (t.stop ≡ None)

-- Bytes are frames and a rest that begins no whole frame in one way only.
abbrev pub StreamsAreOne : Type 0
StreamsAreOne =
    (bytes : List ℕ) (ms ns : List Message) (r s : List ℕ)
    → IsStream bytes ms r → IsStream bytes ns s → BeginsNoFrame r → BeginsNoFrame s → (ms ≡ ns) × (r ≡ s)
