-- A copy of entries has the same files.
use Rattle.std.proofs.Common.{◌≡◌, refl, ◌∙◌, ap, ℕ, List, [], ◌∷◌, Option, Some, None, option_map, Vec, Result, Ok, Err, IfOk, MatchResult, MatchOption, IsSomeAnd}
use Rattle.std.specs.List.{AllZip}
use Rattle.std.proofs.lemmas.Map.Entries.{lookup_clone}
use Rattle.std.specs.BTreeMap.{BTreeMap, IsClone, is_at}
use Rattle.std.specs.Cmp.Lexicographic.{slice_cmp}
use Rattle.std.specs.Map.{lookup}
use Rattle.std.specs.Ordering.{nat_cmp, is_eq}
use Rattle.std.specs.declared.alloc.Global.{Global}
use Rattle.mem_outside.specs.Entries.{files_in}

abbrev Held : Type 0
Held = Vec ℕ Global

pub all_same : {T : Type 0} (Same : T → T → Type 0) → ((x y : T) → Same x y → y ≡ x) → (xs ys : List T) → AllZip Same xs ys → ys ≡ xs
all_same Same same [] [] all = refl
all_same Same same [] (y ∷ ys) all = absurd all
all_same Same same (x ∷ xs) [] all = absurd all
all_same {T} Same same (x ∷ xs) (y ∷ ys) all =
    ap (λ (z : T). z ∷ ys) (same x y all.0) ∙ ap (λ (zs : List T). x ∷ zs) (all_same Same same xs ys all.1)

found : (D : Held → Held → Type 0) → ((v w : Held) → D v w → w.items ≡ v.items) → (a b : Option Held) → MatchOption a (b ≡ None) (λ v. IsSomeAnd b (D v))
    → option_map (λ bytes. bytes.items) b ≡ option_map (λ bytes. bytes.items) a
found D same None b is = ap (λ (o : Option Held). option_map (λ (bytes : Held). bytes.items) o) is
found D same (Some v) None is = absurd is
found D same (Some v) (Some w) is = ap (λ (bytes : List ℕ). Some bytes) (same v w is)

copied : (C D : Held → Held → Type 0) → ((v w : Held) → C v w → w.items ≡ v.items) → ((v w : Held) → D v w → w.items ≡ v.items)
    → (old new : BTreeMap Held Held) → IsClone C D old new → files_in new ≡ files_in old
copied C D keys values old new is = λ i name. at name i
  where
    at : (name : List ℕ) → files_in new name ≡ files_in old name
    at name =
        found D values (lookup (is_at (λ key. slice_cmp nat_cmp name key.items)) old.entries) (lookup (is_at (λ key. slice_cmp nat_cmp name key.items)) new.entries)
        (lookup_clone C D (is_at (λ key. slice_cmp nat_cmp name key.items)) (λ x y c. ap (λ (key : List ℕ). is_eq (slice_cmp nat_cmp name key)) (keys x y c)) old.entries new.entries is)

pub copy_files : {E : Type 0} (r : Result (BTreeMap Held Held) E) (old : BTreeMap Held Held) (C D : Held → Held → Type 0) (P : E → Type 0)
    → ((v w : Held) → C v w → w.items ≡ v.items) → ((v w : Held) → D v w → w.items ≡ v.items)
    → MatchResult r (λ new. IsClone C D old new) P → IfOk r (λ new. files_in new ≡ files_in old)
copy_files (Ok new) old C D P keys values is = copied C D keys values old new is
copy_files (Err e) old C D P keys values is = tt
