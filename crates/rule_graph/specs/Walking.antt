-- A walk over the rules left over, and a loop begun at its least rule.
use Rattle.std.specs.Prelude.{◌≡◌, ℕ, ◌<◌, ◌≤◌, Bool, true, false, List, ◌++◌, length, map, Option, Some, None, IsTrue, slice_index, slice_index_or}
use Rattle.std.specs.Option.{option_map}
use Rattle.flow_types.specs.declared.plan.Plan.{Plan}
use Rattle.flow_types.specs.declared.numbers.RuleNo.{RuleNo}
use Rattle.flow_types.specs.declared.numbers.FileNo.{FileNo}
use Rattle.flow_types.specs.Plans.{contains_number}
use Rattle.rule_graph.specs.declared.cycle.Walk.{Walk}
use Rattle.rule_graph.specs.Progress.{times_in}
use Rattle.rule_graph.specs.Cycles.{left_over, is_made_among}
use Rattle.rule_graph.specs.Loops.{IsChain, step}

-- the numbers of these rules
abbrev pub numbers_of : List RuleNo → List ℕ
numbers_of rules = map (λ rule. rule.0) rules

-- just these rules are marked
abbrev pub AreMarks : List ℕ → List Bool → Type 0
AreMarks rules marks = (r : ℕ) → slice_index_or marks r false ≡ contains_number r rules

-- no rule is marked
abbrev pub HasNoMark : List Bool → Type 0
HasNoMark marks = (r : ℕ) → slice_index_or marks r false ≡ false

-- the rule is the least that is marked
abbrev pub IsFirstMark : List Bool → ℕ → Type 0
IsFirstMark marks r = (slice_index_or marks r false ≡ true) × ((q : ℕ) → q < r → slice_index_or marks q false ≡ false)

-- the file's maker is left over, so a serial run never makes it
abbrev pub is_never_made : Plan → ℕ → Bool
is_never_made P f = is_made_among P (left_over P) f

-- the least of the numbers that passes, none where none does
abbrev pub IsLeastOf : (ℕ → Bool) → List ℕ → Option ℕ → Type 0
IsLeastOf test xs None = (x : ℕ) → IsTrue (contains_number x xs) → test x ≡ false
IsLeastOf test xs (Some least) =
    IsTrue (contains_number least xs) × IsTrue (test least) × ((x : ℕ) → IsTrue (contains_number x xs) → IsTrue (test x) → least ≤ x)

-- the number of a file, where there is one
abbrev pub file_number : Option FileNo → Option ℕ
file_number file = option_map (λ file. file.0) file

-- the number of a rule, where there is one
abbrev pub rule_number : Option RuleNo → Option ℕ
rule_number rule = option_map (λ rule. rule.0) rule

-- The rules walked over by such steps from the first of those left over, none twice, and the rule that comes next.
pub record IsWalk (next : ℕ → Option ℕ) (left path : List ℕ) (r : ℕ) : Type 0 where
  pub walk : IsChain (λ q s. next q ≡ Some s) path r
  pub begins : slice_index_or path 0 r ≡ slice_index left 0
  pub once : (q : ℕ) → times_in q path ≤ 1
  pub inside : (q : ℕ) → IsTrue (contains_number q path) → IsTrue (contains_number q left)
  pub here : IsTrue (contains_number r left)

-- the walk of a plan
abbrev pub IsWalkOf : Plan → Walk → Type 0
IsWalkOf P walk = IsWalk (step P) (left_over P) (numbers_of walk.path.items) walk.next.0

-- the rule that comes next was walked over before
abbrev pub ComesRound : Walk → Type 0
ComesRound walk = IsTrue (contains_number walk.next.0 (numbers_of walk.path.items))

-- the place of the least of these rules
abbrev pub IsLeastPlace : List RuleNo → ℕ → Type 0
IsLeastPlace rules place = (k : ℕ) → k < length rules → slice_index (numbers_of rules) place ≤ slice_index (numbers_of rules) k

-- The same list, read round from its least number on.
pub record IsTurned (xs turned : List ℕ) : Type 0 where
  pub parts : (before : List ℕ) × (from : List ℕ) × (xs ≡ before ++ from) × (turned ≡ from ++ before)
  pub least_first : (r : ℕ) → IsTrue (contains_number r xs) → slice_index turned 0 ≤ r
