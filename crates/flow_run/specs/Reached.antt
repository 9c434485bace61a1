-- What a run with workers comes to where nothing fails and nothing is given up.
use Rattle.std.specs.Prelude.{◌≡◌, ℕ, Option, Some, Result, Ok}
use Rattle.run_history.specs.declared.answers.Check.{Check}
use Rattle.run_history.specs.declared.answers.Check.TheVariants as checks
use Rattle.local_run.specs.declared.ended.Stopped.{Stopped}
use Rattle.local_run.specs.Ends.{IsDone}

-- All rules are complete, or the run waited in vain, or there is a limit and no room.
abbrev pub IsReached : Option ℕ → Check → Type 0
IsReached limit (checks.Complete collected) = Unit {0}
IsReached limit (checks.Waited wait) = Unit {0}
IsReached limit (checks.NoRoom rule need stored most) = limit ≡ Some most
IsReached limit check = ⊥

-- The run came to its end so, or memory was wanting.
abbrev pub IsDoneAway : Option ℕ → Result Check Stopped → Type 0
IsDoneAway limit (Ok check) = IsReached limit check
IsDoneAway limit how = IsDone limit how
