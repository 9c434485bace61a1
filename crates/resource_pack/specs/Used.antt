-- What runs on a link takes of it no more than its amounts can say.
use Rattle.std.specs.Prelude.{◌≡◌, ◌≤◌, ℕ, List, if◌then◌else◌, sum_by}
use Rattle.flow_types.specs.declared.numbers.Amounts.{Amounts}
use Rattle.run_history.specs.Links.{Load, amounts_on, is_whole_link, no_amounts}

-- the most of an amount
abbrev pub most_amount : ℕ
most_amount = 4294967295

-- how many of the loads take the whole of link k
abbrev pub wholes : ℕ → List Load → ℕ
wholes k loads = sum_by (λ load. if is_whole_link k load.needs then 1 else 0) loads

-- an amount of what the loads take of link k beside its whole
abbrev pub beside : (Amounts → ℕ) → ℕ → List Load → ℕ
beside amount k loads = sum_by (λ load. amount (amounts_on k no_amounts load.needs)) loads

-- amounts that an Amounts can say
pub record IsSmall (amounts : Amounts) : Type 0 where
  pub cores : amounts.cores ≤ most_amount
  pub memory : amounts.memory ≤ most_amount
  pub disk : amounts.disk ≤ most_amount

-- At most one load takes the whole of link k, and then the others take no amount; in all they take no more than an amount can say.
pub record IsUsable (k : ℕ) (loads : List Load) : Type 0 where
  pub few : wholes k loads ≤ 1
  pub cores : beside (λ a. a.cores) k loads ≤ most_amount
  pub memory : beside (λ a. a.memory) k loads ≤ most_amount
  pub disk : beside (λ a. a.disk) k loads ≤ most_amount
  pub alone : wholes k loads ≡ 1 → (beside (λ a. a.cores) k loads ≡ 0) × (beside (λ a. a.memory) k loads ≡ 0) × (beside (λ a. a.disk) k loads ≡ 0)
