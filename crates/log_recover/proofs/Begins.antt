-- A log that is begun anew.
use Rattle.std.proofs.Common.{Result, Ok, Err, OnOk, ◌≡◌, ℕ, List, [], ◌∷◌, ◌++◌, Option, Some, None, refl, sym, ap, subst, ◌∙◌, arith}
use Rattle.outside.specs.Disk.{IsTorn, IsShortened}
use Rattle.outside.specs.Files.{content, written}
use Rattle.txn_log.specs.Gates.{closed_gate}
use Rattle.txn_log.specs.Spells.{header, IsUnbegun, IsLogOf}

pub unbegun_cut : (before after : Option (List ℕ)) → IsUnbegun before → IsShortened 0 before after → IsUnbegun after
unbegun_cut None None short step = tt
unbegun_cut None (Some new) short step = absurd step
unbegun_cut (Some old) None short step = absurd step
unbegun_cut (Some old) (Some new) short step = omega (arith, short, step.no_longer)

pub unbegun_torn : (before after : Option (List ℕ)) → IsUnbegun before → IsTorn 0 9 before after → IsUnbegun after
unbegun_torn None None short step = tt
unbegun_torn None (Some new) short step = omega (arith, step)
unbegun_torn (Some old) None short step = absurd step
unbegun_torn (Some old) (Some new) short step = omega (arith, short, step.no_longer)

-- the start of a log in an empty file
pub begun_log : (old new : Option (List ℕ)) → content old ≡ [] → new ≡ Some (written 0 (header ++ closed_gate ∷ []) (content old)) → IsLogOf [] new
begun_log old new empty is =
    subst (λ (file : Option (List ℕ)). IsLogOf [] file) (sym (is ∙ ap (λ (l : List ℕ). Some (written 0 (header ++ closed_gate ∷ []) l)) empty))
    record { fit = tt; closed = record { gate = 0; rest = []; shut = λ (e : 0 ≡ 1). absurd (cc); split = refl } }

pub both_ok : {T E A B C : Type 0} (result : Result T E) → (A → B → C) → OnOk result A → OnOk result B → OnOk result C
both_ok (Ok x) f a b = f a b
both_ok (Err e) f a b = a
