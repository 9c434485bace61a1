-- What a table asks of its ready rules, and which of them it looks at.
use Rattle.std.specs.Prelude.{◌≡◌, ◌<◌, ◌+◌, ◌-◌, ℕ, Bool, true, not, ◌&&◌, ◌==◌, if◌then◌else◌, Option, Some, None, find, length, min, nat_le, nat_lt}
use Rattle.flow_types.specs.Plans.{most_bytes, most_input_bytes}
use Rattle.ready_rules.specs.declared.shelf.Weight.{Weight}
use Rattle.ready_rules.specs.Pendings.{most_taken, with_bytes}
use Rattle.ready_rules.specs.Shelves.{is_under}
use Rattle.rule_progress.specs.Progress.{need_of}
use Rattle.resource_pack.specs.declared.occupied.Stated.{Stated}
use Rattle.resource_pack.specs.Occupancy.{Occupancy}
use Rattle.task_core.specs.declared.asking.Asked.{Asked}
use Rattle.task_core.specs.declared.asking.Asked.TheVariants as asked
use Rattle.task_core.specs.declared.asking.AskedFor.{AskedFor}
use Rattle.task_core.specs.declared.asking.AskedFor.TheVariants as asked_for
use Rattle.task_core.specs.Ends.{is_taken_now}
use Rattle.task_core.specs.Known.{Known, can_start, fits_link, has_storage, input_sum, passes_most, reserved_sum, rules_of, stored_sum}
use Rattle.task_core.specs.Surveys.{is_ready_for}

-- what is asked of rule r
abbrev pub asks : Known → Asked → ℕ → Bool
asks K asked.Ready r = can_start K r
asks K asked.Large r = can_start K r && passes_most K r
asks K asked.Roomy r = can_start K r && has_storage K r
asks K asked.Short r = can_start K r && not (has_storage K r)
asks K asked.Taken r = is_taken_now K r

-- what is asked of rule r for link k
abbrev pub asks_for : Known → ℕ → AskedFor → ℕ → Bool
asks_for K k asked_for.Ready r = is_ready_for K k r
asks_for K k asked_for.Large r = is_ready_for K k r && passes_most K r
asks_for K k asked_for.Fitting r = is_ready_for K k r && fits_link K k r
asks_for K k asked_for.Startable r = is_ready_for K k r && (fits_link K k r && has_storage K r)

-- what rule r takes
abbrev pub taken_of : Known → ℕ → Weight
taken_of K r = with_bytes (need_of K.plan K.options r) (input_sum K r)

-- rule r can start, and is under the limits
abbrev pub is_candidate : Known → Weight → ℕ → Bool
is_candidate K limits r = can_start K r && is_under limits (taken_of K r)

-- the least rule from this one on that can start and is under the limits
abbrev pub least_candidate : Known → ℕ → Weight → Option ℕ
least_candidate K from limits = find (λ r. nat_le from r && is_candidate K limits r) (rules_of K)

-- Each rule of which this holds is a candidate.
abbrev pub AreCandidates : Known → Weight → (ℕ → Bool) → Type 0
AreCandidates K limits test = (r : ℕ) → r < length K.plan.rules → test r ≡ true → is_candidate K limits r ≡ true

-- no limit
abbrev pub no_limits : Weight
no_limits = record { here = true; stated = true; whole = true; cores = 1000000000; memory = 1000000000; disk = 1000000000; bytes = most_taken; bound = most_bytes; bytes_left = most_taken; bound_left = most_bytes }

-- inputs that are too large
abbrev pub large_limits : Weight
large_limits = record no_limits { bytes_left = most_taken - (most_input_bytes + 1) }

-- what is left under a limit
abbrev pub room_under : Option ℕ → ℕ → ℕ
room_under None held = most_bytes
room_under (Some limit) held = limit - held

-- what the storage has room for
abbrev pub room_in : Known → ℕ
room_in K = room_under K.limit (stored_sum K + reserved_sum K)

-- a bound for which the storage has room
abbrev pub roomy_limits : Known → Weight → Weight
roomy_limits K limits = record limits { bound = room_in K }

-- how far below the most a bound is at most that has no room under a limit: any, where the limit is passed without it
abbrev pub short_left : Option ℕ → ℕ → ℕ
short_left None held = 0
short_left (Some limit) held = if nat_lt limit held then most_bytes else most_bytes - (limit - held) - 1

-- a bound for which the storage has no room
abbrev pub short_limits : Known → Weight
short_limits K = record no_limits { bound_left = short_left K.limit (stored_sum K + reserved_sum K) }

-- the limits, for the kinds of rules that link k takes
abbrev pub kinds_for : ℕ → Weight → Weight
kinds_for k limits = record limits { here = k == 0; stated = not (k == 0); whole = not (k == 0) }

-- what is left of a cache
abbrev pub bytes_under : Option ℕ → ℕ → ℕ
bytes_under None held = most_taken
bytes_under (Some cache) held = cache - held

-- what link k may run beside what runs there
abbrev pub link_limits : ℕ → Option Stated → Occupancy → Weight
link_limits k None occupied = no_limits
link_limits k (Some stated) occupied = record no_limits {
  here = k == 0;
  stated = not (k == 0);
  whole = not (k == 0) && (occupied.tasks == 0);
  cores = min (stated.total.cores - occupied.amounts.cores) stated.largest.cores;
  memory = min (stated.total.memory - occupied.amounts.memory) stated.largest.memory;
  disk = min (stated.total.disk - occupied.amounts.disk) stated.largest.disk;
  bytes = bytes_under stated.cache occupied.bytes;
}
