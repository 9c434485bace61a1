-- The counts of what a call works on.
use Rattle.std.specs.Prelude.{ℕ, List}

-- How often the calls of the site, of each runner, of the hall and of the sink have failed, and how often nobody came to the hall.
pub record Counts : Type 0 where
  pub site : ℕ
  pub runners : List ℕ
  pub hall : ℕ
  pub idles : ℕ
  pub sink : ℕ
