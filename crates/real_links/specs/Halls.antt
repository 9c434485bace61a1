-- A hall over a socket, to contracts.
use Rattle.std.specs.Prelude.{ℕ, Bool, List, Option}
use Rattle.flow_types.specs.declared.numbers.LinkNo.{LinkNo}

-- Whether it listens, the links that were handed back, each by whether it is closed, its faults and
-- its idle answers, and the counts.
pub record HallState : Type 0 where
  pub listens : Bool
  pub got : List (Option LinkNo × (Bool × (ℕ × ℕ)))
  pub given : ℕ
  pub faults : ℕ
  pub idles : ℕ
