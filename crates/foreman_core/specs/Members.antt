-- Items of a list.
use Rattle.std.specs.Prelude.{◌≡◌, ◌⊎◌, List, [], ◌∷◌}

-- The item stands in the list.
abbrev pub Stands : {A : Type 0} → A → List A → Type 0
Stands x [] = ⊥
Stands x (y ∷ ys) = (x ≡ y) ⊎ Stands x ys

-- P holds of each item.
abbrev pub Every : {A : Type 0} → (A → Type 0) → List A → Type 0
Every P xs = (x : _) → Stands x xs → P x
