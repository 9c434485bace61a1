-- Numbers of files.
use Rattle.std.proofs.Common.{◌≡◌, ◌<◌, ◌+◌, ℕ, Bool, List, [], ◌∷◌, ◌++◌, refl, ap, sym, ◌∙◌, subst, map, arith}
use Rattle.std.specs.Prelude.{filter, All}
use Rattle.std.proofs.lemmas.List.FromFn.{map-range_with_len_more}
use Rattle.std.proofs.lemmas.List.Elements.{filter-append}
use Rattle.flow_types.specs.Plans.{numbers}
use Rattle.std.proofs.lemmas.List.{get_or-map, length-map}
use Rattle.flow_types.specs.declared.numbers.FileNo.{FileNo}

same_map : (xs : List ℕ) → map (λ x. x) xs ≡ xs
same_map [] = refl
same_map (x ∷ xs) = ap (λ ys. x ∷ ys) (same_map xs)

numbers_push : (i : ℕ) → numbers (i + 1) ≡ numbers i ++ (i ∷ [])
numbers_push i = sym (same_map (numbers (i + 1))) ∙ map-range_with_len_more (λ x. x) 0 i i (omega arith) ∙ ap (λ xs. xs ++ (i ∷ [])) (same_map (numbers i))

-- one number more
pub numbers_more : (on : ℕ → Bool) (i : ℕ) → filter on (numbers (i + 1)) ≡ filter on (numbers i) ++ filter on (i ∷ [])
numbers_more on i = ap (filter on) (numbers_push i) ∙ filter-append on (numbers i) (i ∷ [])

-- numbers of files that are below a bound
pub all_inside : (n : ℕ) (files : List FileNo) → All (λ f. f < n) (map (λ file. file.0) files) → All (λ file. file.0 < n) files
all_inside n files all k d inside =
    subst (λ f. f < n) (get_or-map (λ file. file.0) files k d d.0 inside) (all k d.0 (subst (λ m. k < m) (sym (length-map files (λ file. file.0))) inside))
