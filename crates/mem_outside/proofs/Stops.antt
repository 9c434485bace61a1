-- A call that failed because it was to.
use Rattle.std.proofs.Common.{◌≡◌, ◌⊎◌, inl, Result, Err, ap, subst, sym}
use Rattle.outside.specs.declared.fault.Fault.{Fault}
use Rattle.mem_outside.specs.Calls.{Calls, IsDue, IsCall}

same_fault : (T U : Type 0) (x y : Fault) → ◌≡◌ {A = Result U Fault} (Err x) (Err y) → ◌≡◌ {A = Result T Fault} (Err x) (Err y)
same_fault T U x y e = let is : x ≡ y = cc in ap (λ (z : Fault). Err z) is

-- It is one also where there are other reasons to fail.
pub stopped_call : (T U : Type 0) (old new : Calls) (other : Type 0) (fault : Fault) (result : Result U Fault) → result ≡ Err fault → IsDue old
    → IsCall {T = T} old new (IsDue old) (Err fault) → IsCall {T = U} old new (IsDue old ⊎ other) result
stopped_call T U old new other fault result is due call =
    subst (λ (r : Result U Fault). IsCall {T = U} old new (IsDue old ⊎ other) r) (sym is)
    (record {
      made = call.made;
      to_fail = call.to_fail;
      passed = tt;
      failed = λ e. (inl due, (call.failed (same_fault T U fault _ e)).1);
      memory = λ e. (λ reason. (call.memory (same_fault T U fault _ e)).0 due, (call.memory (same_fault T U fault _ e)).1);
    })
