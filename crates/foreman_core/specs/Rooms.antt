-- What is counted of a link.
use Rattle.std.specs.Prelude.{◌≡◌, ◌≤◌, ℕ, List, length, Option, Some, None}
use Rattle.run_history.specs.Links.{Load, most_tasks}
use Rattle.flow_types.specs.declared.numbers.Amounts.{Amounts}
use Rattle.resource_pack.specs.Occupancy.{Occupancy, occupancy_of}

-- The loads take this together, or nothing where as many run there as may.
abbrev pub Occupies : ℕ → Amounts → List Load → Option Occupancy → Type 0
Occupies k total loads None = most_tasks ≤ length loads
Occupies k total loads (Some occupied) = occupied ≡ occupancy_of k total loads
