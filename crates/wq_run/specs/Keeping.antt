-- What calls make of what is due and of what links had earned.
use Rattle.std.specs.Prelude.{ℕ, List, Option, Result}
use Rattle.flow_types.specs.declared.numbers.LinkNo.{LinkNo}
use Rattle.run_history.specs.declared.moves.Move.{Move}
use Rattle.links.specs.declared.passing.Passed.{Passed}
use Rattle.peers.specs.declared.leave.Leave.{Leave}
use Rattle.local_run.specs.declared.halt.Halt.{Halt}
use Rattle.wq_run.specs.Dues.{DuesAt, KeepsDue, KeepsDueBut}
use Rattle.wq_run.specs.Earned.{KeepsEarned}
use Rattle.wq_run.specs.Seats.{CompanyState}

-- What was lost is due still, and each link that was handed back had earned it.
pub record KeepsOn {L : Type 0} (ill : LinkNo → L → Type 0) (history : L → List Passed) (M all : List Move) (halt halt_now : Option Halt) (c c_now : CompanyState L) (got got_now : List (Option LinkNo × L)) : Type 0 where
  pub due : KeepsDue ill history M all halt halt_now c c_now got got_now
  pub earns : KeepsEarned ill history M all halt halt_now c c_now got got_now

-- The same, from where the seat at this place is to be left.
pub record KeepsOnBut {L : Type 0} (ill : LinkNo → L → Type 0) (history : L → List Passed) (at : ℕ) (M all : List Move) (halt halt_now : Option Halt) (c c_now : CompanyState L) (got got_now : List (Option LinkNo × L)) : Type 0 where
  pub due : KeepsDueBut ill history at M all halt halt_now c c_now got got_now
  pub earns : KeepsEarned ill history M all halt halt_now c c_now got got_now

-- What a call at the seat at this place makes of it.
pub record KeepsAt {L A : Type 0} (ill : LinkNo → L → Type 0) (history : L → List Passed) (at : ℕ) (M all : List Move) (halt halt_now : Option Halt) (c c_now : CompanyState L) (result : Result A Leave) : Type 0 where
  pub dues : DuesAt ill history at M all halt halt_now c c_now result
  pub earns : (got : List (Option LinkNo × L)) → KeepsEarned ill history M all halt halt_now c c_now got got
