-- What it is to grow.
use Rattle.std.specs.Prelude.{◌≤◌, ℕ}

-- A value may stay as it is and grow further, and neither its moves nor what is done become fewer.
pub record IsGrowth {D : Type 0} (grows : D → D → Type 0) (moves done : D → ℕ) : Type 0 where
  pub same : (d : D) → grows d d
  pub further : (a b c : D) → grows a b → grows b c → grows a c
  pub more : (a b : D) → grows a b → moves a ≤ moves b
  pub rises : (a b : D) → grows a b → done a ≤ done b
