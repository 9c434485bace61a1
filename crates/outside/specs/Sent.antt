-- What a write does to the bytes that were taken.
use Rattle.std.specs.Prelude.{◌≡◌, ℕ, List, ◌++◌, take, Result, OnOk, IsErrOf}
use Rattle.outside.specs.declared.fault.Fault.{Fault}
use Rattle.outside.specs.declared.fault.Fault.TheVariants.{Memory}

-- At Ok all bytes went out, at Memory none, and else some first of them.
pub record Sends {T : Type 0} (result : Result T Fault) (bytes old new : List ℕ) : Type 0 where
  pub all : OnOk result (new ≡ old ++ bytes)
  pub some : (n : ℕ) × (new ≡ old ++ take n bytes)
  pub none : IsErrOf result Memory → new ≡ old
