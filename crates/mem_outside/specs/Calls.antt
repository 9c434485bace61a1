-- The calls of an object: which are to fail, and which did.
use Rattle.std.specs.Prelude.{◌≡◌, ℕ, ◌+◌, ◌-◌, ◌^◌, min, true, List, [], ◌∷◌, ◌++◌, ◌==◌, Result, IsErrOf, OnOk}
use Rattle.std.specs.List.{list_any}
use Rattle.outside.specs.declared.fault.Fault.{Fault}
use Rattle.outside.specs.declared.fault.Fault.TheVariants.{Failed, Memory}
use Rattle.mem_outside.specs.declared.calls.CallList.{CallList}

-- the numbers of the calls that are to fail, how many calls were made, and how many failed
pub record Calls : Type 0 where
  pub to_fail : List ℕ
  pub made : ℕ
  pub faults : ℕ

-- what a list of calls is to contracts
abbrev pub calls_in : CallList → Calls
calls_in list = record { to_fail = list.to_fail.items; made = list.made; faults = list.faults }

-- no call was made, and none is to fail
abbrev pub no_calls : Calls
no_calls = record { to_fail = []; made = 0; faults = 0 }

-- one call more is to fail
abbrev pub with_failure : ℕ → Calls → Calls
with_failure call calls = record calls { to_fail = calls.to_fail ++ call ∷ [] }

-- The next call is to fail.
abbrev pub IsDue : Calls → Type 0
IsDue calls = list_any (λ call. call == calls.made) calls.to_fail ≡ true

-- One call more was made. It failed where it had to, and counted that, unless the count stands at its last value.
pub record IsCall {T : Type 0} (old new : Calls) (has_to_fail : Type 0) (result : Result T Fault) : Type 0 where
  pub made : new.made ≡ min (old.made + 1) (2 ^ 64 - 1)
  pub to_fail : new.to_fail ≡ old.to_fail
  pub passed : OnOk result ((has_to_fail → ⊥) × (new.faults ≡ old.faults))
  pub failed : IsErrOf result Failed → has_to_fail × (new.faults ≡ old.faults + 1)
  pub memory : IsErrOf result Memory → (has_to_fail → old.faults ≡ 2 ^ 64 - 1) × (new.faults ≡ old.faults)

-- One call more was made, which failed where it was due to.
abbrev pub IsDueCall : {T : Type 0} → Calls → Calls → Result T Fault → Type 0
IsDueCall old new result = IsCall old new (IsDue old) result
