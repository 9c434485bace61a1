-- Links with what runs on them.
use Rattle.std.specs.Prelude.{ℕ, Bool, true, false, ◌&&◌, ◌==◌, List, [], ◌∷◌, ◌++◌, Option, Some, None, if◌then◌else◌, find}
use Rattle.std.specs.List.{list_any}
use Rattle.std.specs.Option.{option_map_or}
use Rattle.flow_types.specs.declared.numbers.Amounts.{Amounts}
use Rattle.flow_types.specs.declared.numbers.Needs.{Needs}
use Rattle.flow_types.specs.declared.numbers.Needs.TheVariants.{Whole, Stated}
use Rattle.run_history.specs.Links.{LinkRow, Load, has_room}

-- A link, what it stated last, and what runs on it.
pub record PackedLink : Type 0 where
  pub link : ℕ
  pub row : LinkRow
  pub loads : List Load

-- what link k states; the cache of the local place has no bound
abbrev pub row_on : ℕ → Amounts → Amounts → ℕ → LinkRow
row_on k total largest cache = record { total = total; largest = largest; cache = if k == 0 then None else Some cache }

-- link k, on which nothing runs
abbrev pub empty_link : ℕ → Amounts → Amounts → ℕ → PackedLink
empty_link k total largest cache = record { link = k; row = row_on k total largest cache; loads = [] }

-- the link has this number
abbrev pub is_link : ℕ → PackedLink → Bool
is_link k packed = packed.link == k

-- link k among these
abbrev pub link_in : ℕ → List PackedLink → Option PackedLink
link_in k links = find (is_link k) links

-- the first link with the number changed so
abbrev pub with_link : ℕ → (PackedLink → PackedLink) → List PackedLink → List PackedLink
with_link k change [] = []
with_link k change (packed ∷ more) = if is_link k packed then change packed ∷ more else packed ∷ with_link k change more

-- the links without the first one with the number
abbrev pub without_link : ℕ → List PackedLink → List PackedLink
without_link k [] = []
without_link k (packed ∷ more) = if is_link k packed then more else packed ∷ without_link k more

-- The load fits link k.
abbrev pub fits_on : List PackedLink → ℕ → Load → Bool
fits_on links k load = option_map_or (λ packed. has_room packed.link packed.row packed.loads load) (link_in k links) false

-- the needs are the same
abbrev pub are_same_needs : Needs → Needs → Bool
are_same_needs Whole Whole = true
are_same_needs Whole (Stated b) = false
are_same_needs (Stated a) Whole = false
are_same_needs (Stated a) (Stated b) = (a.cores == b.cores) && (a.memory == b.memory) && (a.disk == b.disk)

-- the load is this one
abbrev pub is_load : Load → Load → Bool
is_load load other = are_same_needs other.needs load.needs && (other.bytes == load.bytes)

-- the loads without the first that is this one
abbrev pub without_load : Load → List Load → List Load
without_load load [] = []
without_load load (other ∷ more) = if is_load load other then more else other ∷ without_load load more

-- a link with this row from now on
abbrev pub stating : LinkRow → PackedLink → PackedLink
stating row packed = record packed { row = row }

-- a link with one more load
abbrev pub loaded : Load → PackedLink → PackedLink
loaded load packed = record packed { loads = packed.loads ++ (load ∷ []) }

-- a link with one load less
abbrev pub unloaded : Load → PackedLink → PackedLink
unloaded load packed = record packed { loads = without_load load packed.loads }

-- the load runs on link k
abbrev pub has_load : List PackedLink → ℕ → Load → Bool
has_load links k load = option_map_or (λ packed. list_any (is_load load) packed.loads) (link_in k links) false
