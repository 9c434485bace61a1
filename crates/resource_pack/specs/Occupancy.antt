-- What the tasks on a link take of it together.
use Rattle.std.specs.Prelude.{ℕ, ◌+◌, Bool, true, ◌&&◌, ◌==◌, List, length, Option, Some, None, nat_le, nat_lt, if◌then◌else◌, sum_by}
use Rattle.flow_types.specs.declared.numbers.Amounts.{Amounts}
use Rattle.flow_types.specs.declared.numbers.Needs.{Needs}
use Rattle.run_history.specs.Links.{LinkRow, Load, amounts_on, is_at_most, is_whole_link, most_tasks, no_amounts, taken_on, with_amounts}
use Rattle.resource_pack.specs.declared.occupied.Stated.{Stated}

-- The number of tasks, their amounts together, and the bytes of their inputs together.
pub record Occupancy : Type 0 where
  pub tasks : ℕ
  pub amounts : Amounts
  pub bytes : ℕ

-- nothing runs
abbrev pub no_tasks : Occupancy
no_tasks = record { tasks = 0; amounts = no_amounts; bytes = 0 }

-- one task more on link k with this total
abbrev pub with_task : ℕ → Amounts → Load → Occupancy → Occupancy
with_task k total load occupied = record {
  tasks = occupied.tasks + 1;
  amounts = with_amounts occupied.amounts (amounts_on k total load.needs);
  bytes = occupied.bytes + load.bytes;
}

-- The occupancy of these loads.
abbrev pub occupancy_of : ℕ → Amounts → List Load → Occupancy
occupancy_of k total loads = record { tasks = length loads; amounts = taken_on k total loads; bytes = sum_by (λ load. load.bytes) loads }

-- what a link states, as a row
abbrev pub stated_row : Stated → LinkRow
stated_row stated = record { total = stated.total; largest = stated.largest; cache = stated.cache }

-- the amounts are left on link k beside what occupies it
abbrev pub leaves_amounts_beside : ℕ → LinkRow → Occupancy → Needs → Bool
leaves_amounts_beside k row occupied needs =
    if is_whole_link k needs then occupied.tasks == 0
    else is_at_most (amounts_on k row.total needs) row.largest && is_at_most (with_amounts occupied.amounts (amounts_on k row.total needs)) row.total

-- so many bytes are left in the cache beside what occupies it
abbrev pub leaves_bytes_beside : Option ℕ → Occupancy → ℕ → Bool
leaves_bytes_beside None occupied bytes = true
leaves_bytes_beside (Some cache) occupied bytes = nat_le (occupied.bytes + bytes) cache

-- The load fits link k with this row beside what occupies it.
abbrev pub has_room_beside : ℕ → LinkRow → Occupancy → Load → Bool
has_room_beside k row occupied load =
    nat_lt occupied.tasks most_tasks && leaves_amounts_beside k row occupied load.needs && leaves_bytes_beside row.cache occupied load.bytes
