-- As many empty contents as a job has outputs.
use Rattle.std.proofs.Common.{◌≡◌, ◌≤◌, ℕ, zero, suc, List, [], ◌∷◌, length, map, replicate, sum_by, refl, ap, arith, subst, sym}
use Rattle.flow_types.specs.declared.job.Want.{Want}
use Rattle.outside.specs.Jobs.{AllFit}
use Rattle.mem_outside.specs.Blanks.{blanks}

pub replicate-blanks : (wants : List Want) → replicate (length wants) [] ≡ blanks (map (λ want. want.remote) wants)
replicate-blanks [] = refl
replicate-blanks (want ∷ wants) = ap (λ (contents : List (List ℕ)). [] ∷ contents) (replicate-blanks wants)

fit : (wants : List Want) → AllFit wants (replicate (length wants) [])
fit [] = tt
fit (want ∷ wants) = (omega arith, fit wants)

size : (n : ℕ) → sum_by (λ (content : List ℕ). length content) (replicate n []) ≡ 0
size zero = refl
size (suc n) = size n

-- so many empty contents fit the outputs
pub empty_shape : (wants : List Want) (contents : List (List ℕ)) → contents ≡ replicate (length wants) []
    → AllFit wants contents × (sum_by (λ (content : List ℕ). length content) contents ≤ 67108864)
empty_shape wants contents is =
    let none = size (length wants) in (
      subst (λ (l : List (List ℕ)). AllFit wants l) (sym is) (fit wants),
      subst (λ (l : List (List ℕ)). sum_by (λ (content : List ℕ). length content) l ≤ 67108864) (sym is) (omega arith),
    )
