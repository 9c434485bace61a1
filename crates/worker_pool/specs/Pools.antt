-- What a caller knows of its side of a pool.
use Rattle.std.specs.Prelude.{◌≡◌, ◌^◌, Option, List, []}
use Rattle.atomic_table.specs.Seated.{TableId}
use Rattle.atomic_table.specs.declared.shared.Seat.{Seat}
use Rattle.crossbeam_queue.specs.declared.array_queue.Doing.{Doing}
use Rattle.crossbeam_queue.specs.Passes.{view}
use Rattle.flow_types.specs.declared.job.Start.{Start}
use Rattle.worker_pool.specs.declared.hand.Hand.{Hand}
use Rattle.worker_pool.specs.declared.hand.Tally.{Tally}
use Rattle.worker_pool.specs.declared.ran.Ran.{Ran}
use Rattle.worker_pool.specs.Tallies.{none}

-- which line it is of, the starts that were given and not heard, and how many of those that were heard weren't run or failed
pub record PoolState : Type 0 where
  pub line : TableId
  pub waiting : List Start
  pub heard : Tally

-- what a token knows
abbrev pub hand_of : Seat (Option Ran) (Doing Ran Hand) → Hand
hand_of token = view token

-- a token of this line with half of all parts that took nothing
abbrev pub IsHalfOf : TableId → Seat (Option Ran) (Doing Ran Hand) → Type 0
IsHalfOf line token =
    (token.table_id ≡ line) × (token.me.1 ≡ []) × ((hand_of token).parts ≡ 2 ^ 64) × ((hand_of token).taken ≡ none)
