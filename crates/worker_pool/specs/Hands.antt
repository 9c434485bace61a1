-- What the tokens of the reports know together, and what each runner has.
use Rattle.std.specs.Prelude.{◌≡◌, ◌+◌, ◌^◌, ℕ, List, [], ◌∷◌}
use mathlib.Core.Option.{some}
use lib.ListN.{get_elem?}
use Rattle.worker_pool.specs.declared.hand.Hand.{Hand}
use Rattle.worker_pool.specs.declared.hand.Tally.{Tally}
use Rattle.worker_pool.specs.Tallies.{none}

-- a token with these parts that put and took so many
abbrev pub hand : ℕ → Tally → Tally → Hand
hand parts put taken = record { parts = parts; put = put; taken = taken }

-- the weights of the items, added up
abbrev pub weigh : {A : Type 0} → (A → ℕ) → List A → ℕ
weigh h [] = 0
weigh h (x ∷ xs) = h x + weigh h xs

-- A token without parts has put and taken nothing.
abbrev pub IdleIsEmpty : List Hand → Type 0
IdleIsEmpty views = (port : ℕ) (v : Hand) → get_elem? views port ≡ some v → v.parts ≡ 0 → (v.put ≡ none) × (v.taken ≡ none)

-- each item has the fact
abbrev pub AllHave : {A : Type 0} → (A → Type 0) → List A → Type 0
AllHave fact [] = Unit {0}
AllHave fact (x ∷ xs) = fact x × AllHave fact xs

-- As much was put as was taken and is there, of what f counts.
abbrev pub IsEven : {A : Type 0} → (Tally → ℕ) → (A → Tally) → List A → List Hand → Type 0
IsEven f weight items views =
    weigh (λ v. f v.put) views ≡ weigh (λ v. f v.taken) views + weigh (λ x. f (weight x)) items

-- As much was put as was taken and is there, what is there has the fact, and all parts are with the tokens.
abbrev pub Balanced : {A : Type 0} → (A → Tally) → (A → Type 0) → List A → List Hand → Type 0
Balanced weight fact items views =
    (weigh (λ v. v.parts) views ≡ 2 ^ 65)
    × IsEven (λ t. t.unrun) weight items views
    × IsEven (λ t. t.failed) weight items views
    × IdleIsEmpty views
    × AllHave fact items

-- each runner has the fact
pub record Crew {R : Type 0} (may : R → Type 0) (runners : List R) : Type 0 where
  pub each : AllHave may runners
