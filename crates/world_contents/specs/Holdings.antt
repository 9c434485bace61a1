-- Contents as they are kept by the numbers of their files.
use Rattle.std.specs.Prelude.{ℕ, List, [], Option, slice_get, unwrap_or, Some, None}
use Rattle.flow_types.specs.declared.job.Given.{Given}
use Rattle.flow_types.specs.declared.plan.Port.{Port}
use Rattle.flow_types.specs.Serial.{Contents}

-- what is kept at a place, where there is such a place
abbrev pub kept_in : Option (Option (List ℕ)) → Option (List ℕ)
kept_in None = None
kept_in (Some kept) = kept

-- the contents that are kept, each at the place of its file
abbrev pub held_in : List (Option (List ℕ)) → Contents
held_in kept f = kept_in (slice_get kept f)

-- the content of a file; without one it counts as empty
abbrev pub content_or_none : Contents → ℕ → List ℕ
content_or_none contents f = unwrap_or (contents f) []

-- the content at a port, under its remote name
abbrev pub given_at : Contents → Port → Given
given_at contents port = record { remote = port.remote; content = content_or_none contents port.file.0 }
