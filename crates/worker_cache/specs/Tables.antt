-- How the rows of a cache are changed by key, and passed where some leave.
use Rattle.std.specs.Prelude.{◌≡◌, ℕ, Bool, if◌then◌else◌, ◌∷◌, slice_get, Option}
use Rattle.std.specs.Option.{option_map_or}
use Rattle.flow_types.specs.declared.messages.Key.{Key}
use Rattle.worker_cache.specs.declared.held.Held.{Held}
use Rattle.worker_cache.specs.Caches.{Rows, place, make_room}

-- a change of the row of a key, where there is one
abbrev pub at_place : (Rows → ℕ → Option (Key × Held) → Rows) → Key → Rows → Rows
at_place change key rows =
    option_map_or (λ at. change rows at (slice_get rows at)) (place key rows) rows

-- Where so many bytes are to leave, the front row stays or not, and so many are to leave behind it.
abbrev pub Passes : ℕ → Held → Bool → ℕ → Type 0
Passes excess held stays behind =
    (key : Key) (rows : Rows)
    → make_room excess ((key, held) ∷ rows)
    ≡ (if stays then (key, held) ∷ make_room behind rows else make_room behind rows)
