-- What holds of streams of frames.
use Rattle.std.specs.Prelude.{◌↔◌, ℕ, List, [], ◌∷◌, ◌++◌}
use Rattle.flow_types.specs.declared.messages.Message.{Message}
use Rattle.message_forms.specs.Streams.{frames_of, AreFramed, BeginsWith, Carries, IsAmong, IsBroken}

-- A row of frames carries exactly its own messages.
abbrev pub RowsCarryTheirOwn : Type 0
RowsCarryTheirOwn =
    (ms : List Message) (m : Message) → AreFramed ms → Carries (frames_of ms) m ↔ IsAmong m ms

-- What has come whole stays so, whatever comes behind it.
abbrev pub CarriedStays : Type 0
CarriedStays = (bytes more : List ℕ) (m : Message) → Carries bytes m → Carries (bytes ++ more) m

-- No frame of a message stands in front where the grammar is left.
abbrev pub BrokenBeginsNoFrame : Type 0
BrokenBeginsNoFrame =
    (bytes : List ℕ) (m : Message) → IsBroken bytes → BeginsWith bytes (m ∷ []) → ⊥
