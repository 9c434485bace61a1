-- What each rule makes, one rule more at a time.
use Rattle.std.proofs.Common.{◌≡◌, ℕ, zero, suc, List, [], ◌∷◌, ◌++◌, length, Some, subst}
use Rattle.std.specs.Prelude.{slice_get}

-- what holds of each place of a list holds behind one item more
pub more : {A : Type 0} (Q : ℕ → A → Type 0) (xs : List A) (x : A) → ((r : ℕ) (m : A) → slice_get xs r ≡ Some m → Q r m) → Q (length xs) x
    → (r : ℕ) (m : A) → slice_get (xs ++ (x ∷ [])) r ≡ Some m → Q r m
more Q [] x old new zero m is = let same : x ≡ m = cc in subst (λ y. Q zero y) same new
more Q [] x old new (suc r) m is = absurd cc
more Q (y ∷ ys) x old new zero m is = old zero m is
more Q (y ∷ ys) x old new (suc r) m is = more (λ r m. Q (suc r) m) ys x (λ r m is. old (suc r) m is) new r m is
