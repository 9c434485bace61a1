-- When a call of the outside may answer a fault.
use Rattle.std.specs.Prelude.{◌<◌, ◌-◌, ◌^◌, ℕ, ◌≤◌, Result, OnOk, IsErrOf}
use Rattle.outside.specs.declared.fault.Fault.{Fault}
use Rattle.outside.specs.declared.fault.Fault.TheVariants.{Failed, Memory}

-- A count of faults never falls, and `Failed` is answered only where it rose.
pub record HasCause {T : Type 0} (before now : ℕ) (result : Result T Fault) : Type 0 where
  pub later : before ≤ now
  pub failed : IsErrOf result Failed → before < now

-- An ample object doesn't answer `Memory`. It stays ample at Ok, and otherwise until its count is at its last value.
pub record IsAmple {T : Type 0} (before after : Type 0) (now : ℕ) (result : Result T Fault) : Type 0 where
  pub never : before → IsErrOf result Memory → ⊥
  pub stays : before → OnOk result after
  pub goes_on : before → now < 2 ^ 64 - 1 → after
