-- A call that is made of a value and of what it is given.
use Rattle.std.specs.Prelude.{◌≡◌, ◌<◌, ◌^◌, ℕ}
use denote.Ref.{MutBor}
use denote.Param.Members.{Once}

-- It may be called once at a `&mut` to x, given a.
abbrev pub MayCall : {F T A R : Type 0}
    → Once F (MutBor T × (A × Unit {0})) (R × (MutBor T × Unit {0})) → F → T → A → Type 0
MayCall {F} {T} g f x a = (p : MutBor T) → p.now ≡ x → g.pre f (p, (a, tt))

-- At a `&mut` to x, given a, it may reply r and leave y there.
pub record Replies {F T A R : Type 0}
    (g : Once F (MutBor T × (A × Unit {0})) (R × (MutBor T × Unit {0})))
    (f : F) (x : T) (a : A) (r : R) (y : T) : Type 0 where
  pub shown : MutBor T
  pub shows : shown.now ≡ x
  pub left : MutBor T
  pub met : g.post f (shown, (a, tt)) (r, (left, tt))
  pub leaves : left.now ≡ y

-- The value found may grow to the one left, and these are the counts of the one left.
abbrev pub IsCounted : {D : Type 0} → (D → D → Type 0) → (D → ℕ) → (D → ℕ) → D → D → ℕ → ℕ → Type 0
IsCounted grows moves done found after many much =
    grows found after × (many ≡ moves after) × (many < 2 ^ 62) × (much ≡ done after)
