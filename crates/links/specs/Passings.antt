-- What passed over a link, and what its calls do to it.
use Rattle.std.specs.Prelude.{◌≡◌, ◌≢◌, ◌⊎◌, ℕ, ◌+◌, Bool, true, List, [], ◌∷◌, ◌++◌, take}
use Rattle.std.specs.Prelude.{Result, Ok, Err}
use Rattle.outside.specs.declared.fault.Fault.{Fault}
use Rattle.links.specs.declared.passing.Got.{Got}
use Rattle.links.specs.declared.passing.Got.TheVariants.{Piece, Idle, Closed}
use Rattle.links.specs.declared.passing.Passed.{Passed}
use Rattle.links.specs.declared.passing.Passed.TheVariants.{Sent, Received}

-- what was sent, of a history whose newest part stands first
abbrev pub sent_in : List Passed → List ℕ
sent_in [] = []
sent_in (Sent bytes ∷ past) = sent_in past ++ bytes
sent_in (Received bytes ∷ past) = sent_in past

-- what was received, of a history whose newest part stands first
abbrev pub received_in : List Passed → List ℕ
received_in [] = []
received_in (Sent bytes ∷ past) = received_in past
received_in (Received bytes ∷ past) = received_in past ++ bytes

-- At Ok all bytes went out, and else some first of them.
abbrev pub Transmits : {T : Type 0} → Result T Fault → List ℕ → List Passed → List Passed → Type 0
Transmits (Ok x) bytes old new = new ≡ Sent bytes ∷ old
Transmits (Err fault) bytes old new =
    (new ≡ old) ⊎ ((n : ℕ) × (new ≡ Sent (take n bytes) ∷ old))

-- A piece was received, and nothing otherwise.
abbrev pub Receives : Result Got Fault → List Passed → List Passed → Type 0
Receives (Ok (Piece bytes)) old new = new ≡ Received bytes ∷ old
Receives (Ok Idle) old new = new ≡ old
Receives (Ok Closed) old new = new ≡ old
Receives (Err fault) old new = new ≡ old

-- a piece has a byte
abbrev pub IsFull : Got → Type 0
IsFull (Piece bytes) = bytes ≢ []
IsFull Idle = Unit {0}
IsFull Closed = Unit {0}

-- the count of idle answers since bytes last passed
abbrev pub idles_after : Result Got Fault → ℕ → ℕ
idles_after (Ok (Piece bytes)) idles = 0
idles_after (Ok Idle) idles = idles + 1
idles_after (Ok Closed) idles = idles
idles_after (Err fault) idles = idles

-- whether the link is closed
abbrev pub closed_after : Result Got Fault → Bool → Bool
closed_after (Ok (Piece bytes)) closed = closed
closed_after (Ok Idle) closed = closed
closed_after (Ok Closed) closed = true
closed_after (Err fault) closed = closed
