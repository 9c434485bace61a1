-- Sums over rows of which one leaves, changes or moves.
use Rattle.std.proofs.Common.{◌≡◌, ℕ, zero, suc, ◌+◌, [], ◌∷◌, ◌++◌, Option, Some, None, refl, ap, arith}
use Rattle.std.specs.Prelude.{slice_get, remove}
use Rattle.std.specs.Option.{option_map_or}
use Rattle.flow_types.specs.declared.messages.Key.{Key}
use Rattle.worker_cache.specs.declared.held.Held.{Held}
use Rattle.worker_cache.specs.Caches.{Rows, place, set_value_at, made_last, newest, sum_of}

pub of_joined : (w : Key × Held → ℕ) (xs ys : Rows) → sum_of w (xs ++ ys) ≡ sum_of w xs + sum_of w ys
of_joined w [] ys = omega arith
of_joined w (x ∷ xs) ys = omega (arith, of_joined w xs ys)

pub of_removed : (w : Key × Held → ℕ) (xs : Rows) (at : ℕ) (x : Key × Held) → slice_get xs at ≡ Some x → sum_of w (remove xs at) + w x ≡ sum_of w xs
of_removed w [] at x e = absurd cc
of_removed w (y ∷ ys) zero x e = let same : y ≡ x = cc in omega (arith, ap w same)
of_removed w (y ∷ ys) (suc at) x e = omega (arith, of_removed w ys at x e)

of_last : (w : Key × Held → ℕ) (xs : Rows) (at : ℕ) (found : Option (Key × Held)) → slice_get xs at ≡ found
    → sum_of w (option_map_or (λ x. remove xs at ++ x ∷ []) found xs) ≡ sum_of w xs
of_last w xs at None e = refl
of_last w xs at (Some x) e = omega (arith, of_joined w (remove xs at) (x ∷ []), of_removed w xs at x e)

of_moved : (w : Key × Held → ℕ) (xs : Rows) (o : Option ℕ) → sum_of w (option_map_or (made_last xs) o xs) ≡ sum_of w xs
of_moved w xs None = refl
of_moved w xs (Some at) = of_last w xs at (slice_get xs at) refl

pub of_newest : (w : Key × Held → ℕ) (key : Key) (xs : Rows) → sum_of w (newest key xs) ≡ sum_of w xs
of_newest w key xs = of_moved w xs (place key xs)

pub of_set : (w : Key × Held → ℕ) (xs : Rows) (at : ℕ) (x : Key × Held) (v : Held) → slice_get xs at ≡ Some x → sum_of w (set_value_at xs at v) + w x ≡ sum_of w xs + w (x.0, v)
of_set w [] at x v e = absurd cc
of_set w (y ∷ ys) zero x v e = let same : y ≡ x = cc in omega (arith, ap w same, ap (λ (z : Key × Held). w (z.0, v)) same)
of_set w (y ∷ ys) (suc at) x v e = omega (arith, of_set w ys at x v e)
