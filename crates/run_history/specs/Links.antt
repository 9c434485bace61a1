-- Links, and which rules fit them.
use Rattle.std.specs.Prelude.{ℕ, ◌+◌, Bool, true, false, not, ◌&&◌, ◌||◌, List, length, Option, Some, None, ◌==◌, nat_le, nat_lt, if◌then◌else◌, filter, filter_map, fold, map, slice_get, sum_by, is_some}
use Rattle.std.specs.List.{last_or}
use Rattle.std.specs.Option.{option_map_or, option_and_then}
use Rattle.flow_types.specs.declared.plan.Plan.{Plan}
use Rattle.flow_types.specs.declared.numbers.Amounts.{Amounts}
use Rattle.flow_types.specs.declared.numbers.Needs.{Needs}
use Rattle.flow_types.specs.declared.numbers.Needs.TheVariants.{Whole, Stated}
use Rattle.flow_types.specs.declared.records.Record.{Record}
use Rattle.flow_types.specs.Plans.{is_empty}
use Rattle.run_history.specs.declared.options.Options.{Options}
use Rattle.run_history.specs.declared.moves.Move.{Move}
use Rattle.run_history.specs.declared.moves.Move.TheVariants as moves
use Rattle.run_history.specs.States.{running_in}
use Rattle.run_history.specs.Storage.{running_rules, input_bytes}

-- the most rules that run on one link
abbrev pub most_tasks : ℕ
most_tasks = 64

-- the record that a move logs
abbrev pub logged_in : Move → Option Record
logged_in (moves.Logged entry) = Some entry
logged_in _ = None

-- the records among the moves
abbrev pub records_of : List Move → List Record
records_of M = filter_map logged_in M

-- What a link states of itself: its amounts, the largest of one of its places, and its cache in bytes, none where it has no bound.
pub record LinkRow : Type 0 where
  pub total : Amounts
  pub largest : Amounts
  pub cache : Option ℕ

-- the move is of link k
abbrev pub names_link : ℕ → Move → Bool
names_link k (moves.Joined link total largest cache) = link.0 == k
names_link k (moves.Changed link total largest cache) = link.0 == k
names_link k (moves.Left link) = link.0 == k
names_link k _ = false

-- what a move states of its link, none where the link left
abbrev pub row_in : Move → Option LinkRow
row_in (moves.Joined link total largest cache) = Some (record { total = total; largest = largest; cache = Some cache })
row_in (moves.Changed link total largest cache) = Some (record { total = total; largest = largest; cache = Some cache })
row_in _ = None

-- the local place
abbrev pub local_row : Options → LinkRow
local_row O = record { total = O.local; largest = O.local; cache = None }

-- What link k stated last, none where it doesn't live; link 0 is the local place.
abbrev pub link_row : Options → List Move → ℕ → Option LinkRow
link_row O M k = if k == 0 then Some (local_row O) else option_and_then row_in (last_or None (filter (names_link k) M))

-- link k lives
abbrev pub is_live : Options → List Move → ℕ → Bool
is_live O M k = is_some (link_row O M k)

-- rule r runs with an attempt that was started on link k
abbrev pub runs_on : List Record → ℕ → ℕ → Bool
runs_on H k r = option_map_or (λ running. running.1.0 == k) (running_in H r) false

-- the rules that run on link k, ascending
abbrev pub running_on : Plan → List Record → ℕ → List ℕ
running_on P H k = filter (runs_on H k) (running_rules P H)

-- what a rule needs of its link, and the bytes that it takes there
pub record Load : Type 0 where
  pub needs : Needs
  pub bytes : ℕ

-- what rule r needs of its link
abbrev pub needs_of : Plan → ℕ → Needs
needs_of P r = option_map_or (λ rule. rule.needs) (slice_get P.rules r) Whole

-- the load of rule r
abbrev pub load_of : Plan → List Record → ℕ → Load
load_of P H r = record { needs = needs_of P r; bytes = input_bytes P H r }

-- the loads on link k
abbrev pub loads_on : Plan → List Record → ℕ → List Load
loads_on P H k = map (load_of P H) (running_on P H k)

-- one core and nothing else
abbrev pub one_core : Amounts
one_core = record { cores = 1; memory = 0; disk = 0 }

-- no amounts
abbrev pub no_amounts : Amounts
no_amounts = record { cores = 0; memory = 0; disk = 0 }

-- two amounts together
abbrev pub with_amounts : Amounts → Amounts → Amounts
with_amounts a b = record { cores = a.cores + b.cores; memory = a.memory + b.memory; disk = a.disk + b.disk }

-- each of the amounts is at most that of the others
abbrev pub is_at_most : Amounts → Amounts → Bool
is_at_most a b = nat_le a.cores b.cores && nat_le a.memory b.memory && nat_le a.disk b.disk

-- What is taken of link k with this total: all of it where the whole is needed, but one core of the local place.
abbrev pub amounts_on : ℕ → Amounts → Needs → Amounts
amounts_on k total Whole = if k == 0 then one_core else total
amounts_on k total (Stated amounts) = amounts

-- what these loads take of link k together
abbrev pub taken_on : ℕ → Amounts → List Load → Amounts
taken_on k total loads = fold (λ taken load. with_amounts taken (amounts_on k total load.needs)) no_amounts loads

-- the whole of a link that isn't the local place
abbrev pub is_whole_link : ℕ → Needs → Bool
is_whole_link k Whole = not (k == 0)
is_whole_link k (Stated amounts) = false

-- The amounts are left on link k beside these loads: with them they are within the total, and alone within the largest. The whole of a link is left where nothing runs there.
abbrev pub leaves_amounts : ℕ → LinkRow → List Load → Needs → Bool
leaves_amounts k row loads needs =
    if is_whole_link k needs then is_empty loads
    else is_at_most (amounts_on k row.total needs) row.largest
    && is_at_most (with_amounts (taken_on k row.total loads) (amounts_on k row.total needs)) row.total

-- so many bytes are left in a cache beside these loads
abbrev pub leaves_bytes : Option ℕ → List Load → ℕ → Bool
leaves_bytes None loads bytes = true
leaves_bytes (Some cache) loads bytes = nat_le (sum_by (λ load. load.bytes) loads + bytes) cache

-- The load fits link k with this row, on which these loads are.
abbrev pub has_room : ℕ → LinkRow → List Load → Load → Bool
has_room k row loads load =
    nat_lt (length loads) most_tasks && leaves_amounts k row loads load.needs && leaves_bytes row.cache loads load.bytes

-- rule r is a LOCAL one
abbrev pub is_local_rule : Plan → ℕ → Bool
is_local_rule P r = option_map_or (λ rule. rule.local) (slice_get P.rules r) false

-- Rule r may run on link k: the local place takes LOCAL rules, and all rules where the run is local; another link takes the rest.
abbrev pub may_run_on : Plan → Options → ℕ → ℕ → Bool
may_run_on P O r k = if k == 0 then is_local_rule P r || not O.wq else not (is_local_rule P r) && O.wq

-- Rule r fits the live link k.
abbrev pub fits : Plan → Options → List Move → ℕ → ℕ → Bool
fits P O M r k =
    option_map_or (λ row. has_room k row (loads_on P (records_of M) k) (load_of P (records_of M) r)) (link_row O M k) false
