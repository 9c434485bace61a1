-- Sums over what passes of a range, and what one change makes of them.
use Rattle.std.proofs.Common.{◌≡◌, ◌≤◌, ◌<◌, ◌+◌, ◌*◌, ℕ, Bool, true, false, cond, List, [], ◌∷◌, refl, ap, sym, ◌∙◌, arith}
use Rattle.std.specs.Prelude.{◌==◌, filter, sum_by}
use Rattle.std.proofs.lemmas.Bool.{eqb-true, eq-eqb, false_from_ne_true}
use Rattle.flow_types.specs.Plans.{numbers}
use Rattle.flow_types.proofs.Totals.{total, total-filter, total-is}
use Rattle.gc_refcount.proofs.Changing.{total-changed, total-most}

sum_as : (f : ℕ → ℕ) (p : ℕ → Bool) (n : ℕ) → sum_by f (filter p (numbers n)) ≡ total (λ y. cond (p y) (f y) 0) (numbers n)
sum_as f p n = sym (total-is f (filter p (numbers n))) ∙ total-filter f p (numbers n)

-- where the addends differ at one number alone, the sums differ by that
pub sum-changed : (f g : ℕ → ℕ) (p : ℕ → Bool) (x n : ℕ) → p x ≡ true → x < n → ((y : ℕ) → (x ≡ y → ⊥) → f y ≡ g y)
    → sum_by f (filter p (numbers n)) + g x ≡ sum_by g (filter p (numbers n)) + f x
sum-changed f g p x n passes inside same =
    let low : 0 ≤ x = omega arith in
    let all : total (λ y. cond (p y) (f y) 0) (numbers n) + cond (p x) (g x) 0 ≡ total (λ y. cond (p y) (g y) 0) (numbers n) + cond (p x) (f x) 0 =
    total-changed (λ y. cond (p y) (f y) 0) (λ y. cond (p y) (g y) 0) x 0 n low (omega (arith, inside)) (λ y apart. ap (λ m. cond (p y) m 0) (same y apart)) in
    let first : cond (p x) (f x) 0 ≡ f x = ap (λ b. cond b (f x) 0) passes in
    let second : cond (p x) (g x) 0 ≡ g x = ap (λ b. cond b (g x) 0) passes in
    omega (arith, all, first, second, sum_as f p n, sum_as g p n)

-- where one number more passes, the sum is more by that
pub sum-joined : (f : ℕ → ℕ) (p q : ℕ → Bool) (x n : ℕ) → p x ≡ false → q x ≡ true → x < n → ((y : ℕ) → (x ≡ y → ⊥) → q y ≡ p y)
    → sum_by f (filter q (numbers n)) ≡ sum_by f (filter p (numbers n)) + f x
sum-joined f p q x n out within inside same =
    let low : 0 ≤ x = omega arith in
    let all : total (λ y. cond (q y) (f y) 0) (numbers n) + cond (p x) (f x) 0 ≡ total (λ y. cond (p y) (f y) 0) (numbers n) + cond (q x) (f x) 0 =
    total-changed (λ y. cond (q y) (f y) 0) (λ y. cond (p y) (f y) 0) x 0 n low (omega (arith, inside)) (λ y apart. ap (λ b. cond b (f y) 0) (same y apart)) in
    let first : cond (q x) (f x) 0 ≡ f x = ap (λ b. cond b (f x) 0) within in
    let second : cond (p x) (f x) 0 ≡ 0 = ap (λ b. cond b (f x) 0) out in
    omega (arith, all, first, second, sum_as f p n, sum_as f q n)

-- what passes is no more than the sum
pub sum-holds : (f : ℕ → ℕ) (p : ℕ → Bool) (x n : ℕ) → p x ≡ true → x < n → f x ≤ sum_by f (filter p (numbers n))
sum-holds f p x n passes inside =
    let all = sum-changed f (λ y. cond (x == y) 0 (f y)) p x n passes inside (λ y apart. sym (ap (λ b. cond b 0 (f y)) (false_from_ne_true (x == y) (λ is. apart (eqb-true x y is))))) in
    let here : cond (x == x) 0 (f x) ≡ 0 = ap (λ b. cond b 0 (f x)) (eq-eqb x x refl) in
    omega (arith, all, here)

part_most : (b : Bool) (n m : ℕ) → n ≤ m → cond b n 0 ≤ m
part_most true n m most = most
part_most false n m most = omega arith

-- a sum over n numbers, each at most m
pub sum-most : (f : ℕ → ℕ) (p : ℕ → Bool) (m n : ℕ) → ((x : ℕ) → f x ≤ m) → sum_by f (filter p (numbers n)) ≤ n * m
sum-most f p m n most = omega (arith, sum_as f p n, total-most (λ y. cond (p y) (f y) 0) m 0 n (λ x. part_most (p x) (f x) m (most x)))

-- nothing passes
pub sum-none : (f : ℕ → ℕ) (p : ℕ → Bool) (n : ℕ) → ((x : ℕ) → p x ≡ true → f x ≡ 0) → sum_by f (filter p (numbers n)) ≡ 0
sum-none f p n none = sum_as f p n ∙ total-none (λ y. cond (p y) (f y) 0) (numbers n) (λ x. part_none (p x) (f x) (none x))
  where
    part_none : (b : Bool) (m : ℕ) → (b ≡ true → m ≡ 0) → cond b m 0 ≡ 0
    part_none true m zero = zero refl
    part_none false m zero = refl

    total-none : (g : ℕ → ℕ) (xs : List ℕ) → ((x : ℕ) → g x ≡ 0) → total g xs ≡ 0
    total-none g [] none = refl
    total-none g (x ∷ xs) none = omega (arith, none x, total-none g xs none)
