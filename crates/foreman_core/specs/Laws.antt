-- What holds of every step of a foreman.
use Rattle.std.specs.Prelude.{ℕ, List, [], ◌∷◌, ◌++◌}
use Rattle.flow_types.specs.declared.numbers.LinkNo.{LinkNo}
use Rattle.flow_types.specs.declared.messages.Message.{Message}
use Rattle.foreman_core.specs.declared.acts.Down.{Down}
use Rattle.foreman_core.specs.Foremen.{Foreman, new_foreman}
use Rattle.foreman_core.specs.Right.{IsRight, IsRightAfter}
use Rattle.foreman_core.specs.Steps.{hears_up, hears_down, loses}

-- A new foreman is right, before anything was heard or sent.
abbrev pub FirstIsRight : Type 0
FirstIsRight = (cap : ℕ) → IsRight [] [] (new_foreman cap)

-- A message from above keeps a foreman right, and what it does then is right.
abbrev pub UpKeepsRight : Type 0
UpKeepsRight =
    (above : List Message) (below sent : List Down) (f : Foreman) (m : Message)
    → IsRight above sent f → IsRightAfter (above ++ m ∷ []) below sent (hears_up f m)

-- So does a message from below.
abbrev pub DownKeepsRight : Type 0
DownKeepsRight =
    (above : List Message) (below sent : List Down) (f : Foreman) (k : LinkNo) (m : Message)
    → IsRight above sent f
    → IsRightAfter above (below ++ record { link = k; message = m } ∷ []) sent (hears_down f k m)

-- So does the loss of a link.
abbrev pub LostKeepsRight : Type 0
LostKeepsRight =
    (above : List Message) (below sent : List Down) (f : Foreman) (k : LinkNo)
    → IsRight above sent f → IsRightAfter above below sent (loses f k)
