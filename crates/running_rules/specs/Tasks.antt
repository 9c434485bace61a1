-- Which rules run on which link.
use Rattle.std.specs.Prelude.{◌≡◌, ℕ, ◌≤◌, ◌+◌, ◌-◌, ◌==◌, true, false, List, [], ◌∷◌, drop, length, map, nat_le, nat_lt, take, if◌then◌else◌}
use Rattle.std.specs.List.Sorted.{IsNonDecreasingBy, IsPartitionPoint}
use Rattle.flow_types.specs.declared.numbers.LinkNo.{LinkNo}
use Rattle.flow_types.specs.declared.numbers.RuleNo.{RuleNo}
use Rattle.ready_rules.specs.Lines.{IsAscending, IsPlaceOf, number}

-- The rules that run, the link of each at the same place, and for how many there is room.
pub record Tasks : Type 0 where
  pub links : List LinkNo
  pub rules : List RuleNo
  pub places : ℕ

-- the rules at the places of link k
abbrev pub rules_at : List LinkNo → List RuleNo → ℕ → List ℕ
rules_at [] rules k = []
rules_at (l ∷ links) [] k = []
rules_at (l ∷ links) (r ∷ rules) k = if l.0 == k then r.0 ∷ rules_at links rules k else rules_at links rules k

-- the rules that run on link k
abbrev pub tasks_on : Tasks → ℕ → List ℕ
tasks_on T k = rules_at T.links T.rules k

-- The places are ordered by their links, and those of each link by their rules.
pub record AreTasks (T : Tasks) : Type 0 where
  pub long : length T.rules ≡ length T.links
  pub links : IsNonDecreasingBy (λ link. link.0) T.links
  pub rules : (k : ℕ) → IsAscending (tasks_on T k)

-- the links before this place are less than link k, and those from there on aren't
abbrev pub IsFirstOf : ℕ → List LinkNo → ℕ → Type 0
IsFirstOf k links at = (at ≤ length links) × IsPartitionPoint (λ l. nat_lt l.0 k ≡ true) (λ l. nat_lt l.0 k ≡ false) links at

-- the links before this place are at most link k, and those from there on aren't
abbrev pub IsBehind : ℕ → List LinkNo → ℕ → Type 0
IsBehind k links at = (at ≤ length links) × IsPartitionPoint (λ l. nat_le l.0 k ≡ true) (λ l. nat_le l.0 k ≡ false) links at

-- where the rules of link k begin and end
pub record IsSpan (T : Tasks) (k from to : ℕ) : Type 0 where
  pub first : IsFirstOf k T.links from
  pub last : IsBehind k T.links to
  pub ordered : from ≤ to
  pub within : to ≤ length T.rules
  pub rules : map number (take (to - from) (drop from T.rules)) ≡ tasks_on T k

-- The place of rule x among all, where it is one of link k: so many rules of the link stand before it.
pub record IsTaskPlace (T : Tasks) (k x at : ℕ) : Type 0 where
  pub from : ℕ
  pub to : ℕ
  pub count : ℕ
  pub here : at ≡ from + count
  pub span : IsSpan T k from to
  pub place : IsPlaceOf x (tasks_on T k) count
