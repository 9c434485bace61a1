-- Amounts of categories behind one more line.
use Rattle.std.proofs.Common.{◌≡◌, ℕ, Bool, true, false, cond, List, Option, Some, None, Result, Ok, Err, OnOk, refl, sym, ap, ◌∙◌}
use Rattle.std.specs.FinMap as finite
use Rattle.std.specs.Str.{bytes_eq}
use Rattle.std.specs.Cmp.Lexicographic.{nat_list_cmp_total}
use Rattle.mf_forms.specs.Forms.{or_else}
use Rattle.mf_rules.specs.Tables.{Counts}
use Rattle.mf_rules.proofs.NumberLemmas.{same_either_way}

-- a fact of a call that went well, carried on
pub on_ok : {X E : Type 0} (r : Result X E) (A B : Type 0) → OnOk r A → (A → B) → OnOk r B
on_ok (Ok x) A B h step = step h
on_ok (Err e) A B h step = tt

put_first : (b : Bool) (n : ℕ) (old : Option ℕ) → cond b (Some n) old ≡ or_else (cond b (Some n) None) old
put_first true n old = refl
put_first false n old = refl

-- an amount put in at a category comes before the others
pub put_amount : (m : Counts) (current : List ℕ) (n : ℕ) (name : List ℕ)
    → finite.get (finite.insert m current n) name ≡ or_else (cond (bytes_eq current name) (Some n) None) (finite.get m name)
put_amount m current n name =
    finite.get-insert nat_list_cmp_total m current n name
    ∙ ap (λ (b : Bool). cond b (Some n) (finite.get m name)) (sym (same_either_way current name))
    ∙ put_first (bytes_eq current name) n (finite.get m name)
