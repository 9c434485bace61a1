-- Contents of the sources of a plan.
use Rattle.std.specs.Prelude.{◌==◌, ◌&&◌, ℕ, Bool, List, length, nat_le}
use Rattle.std.specs.List.{list_all}
use Rattle.flow_types.specs.declared.plan.Plan.{Plan}
use Rattle.flow_types.specs.Plans.{most_bytes, sources_of}
use Rattle.flow_types.specs.Serial.{Contents, content_of}

-- there is one content for each source, each within its limit
abbrev pub fit_sources : Plan → List (List ℕ) → Bool
fit_sources P sources =
    (length sources == length (sources_of P))
    && list_all (λ content. nat_le (length content) most_bytes) sources

-- the contents of the sources, from one for each in the order of their numbers
abbrev pub sources_in : Plan → List (List ℕ) → Contents
sources_in P sources f = content_of f (sources_of P) sources
