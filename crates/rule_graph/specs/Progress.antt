-- How far a serial run has come: which files are made, how many inputs each rule still misses, and which rules can be taken.
use Rattle.std.specs.Prelude.{◌≡◌, ℕ, ◌+◌, ◌<◌, ◌^◌, Bool, true, false, not, ◌&&◌, ◌||◌, List, [], length, All, count_by, nat_lt, ◌==◌, slice_index, slice_index_or, if◌then◌else◌}
use Rattle.std.specs.Ordering.{nat_cmp}
use Rattle.std.specs.BTreeSet.{BTreeSet, contains}
use Rattle.flow_types.specs.declared.plan.Plan.{Plan}
use Rattle.flow_types.specs.declared.plan.Port.{Port}
use Rattle.flow_types.specs.Plans.{takes, contains_number}
use Rattle.flow_types.specs.Serial.{is_made}
use Rattle.rule_graph.specs.declared.order.Progress.{Progress}

-- a port of a file of the plan
abbrev pub IsInside : Plan → Port → Type 0
IsInside P port = port.file.0 < length P.files

-- each port of the plan names a file of it, and its rules can be counted
pub record IsWired (P : Plan) : Type 0 where
  pub few_rules : length P.rules < 2 ^ 32
  pub inputs_inside : All (λ rule. All (IsInside P) rule.inputs) P.rules
  pub outputs_inside : All (λ rule. All (IsInside P) rule.outputs) P.rules

-- how many of these files aren't made
abbrev pub unmade : List Bool → List ℕ → ℕ
unmade made files = count_by (λ f. not (slice_index_or made f false)) files

-- how often a number stands in a list
abbrev pub times_in : ℕ → List ℕ → ℕ
times_in n xs = count_by (λ x. x == n) xs

-- the takers of each file, a rule as often as it takes the file in, of the rules below this one
pub record IsIndexBelow (P : Plan) (rules : ℕ) (index : List (List ℕ)) : Type 0 where
  pub files : length index ≡ length P.files
  pub inside : All (All (λ t. t < length P.rules)) index
  pub counts : (t f : ℕ) → f < length P.files → times_in t (slice_index_or index f []) ≡ (if nat_lt t rules then times_in f (takes P t) else 0)

-- the takers of each file
abbrev pub IsIndex : Plan → List (List ℕ) → Type 0
IsIndex P index = IsIndexBelow P (length P.rules) index

-- The rules of `taken` are taken, and each rule misses its unmade inputs and as many more as it stands in `rest`: the takers
-- of a file just made that don't know of it yet. Ready are the rules that miss nothing and aren't taken.
pub record IsUnderWay (P : Plan) (taken rest : List ℕ) (progress : Progress) : Type 0 where
  pub files : length progress.made.items ≡ length P.files
  pub rules : length progress.missing.items ≡ length P.rules
  pub counts : (t : ℕ) → t < length P.rules → slice_index progress.missing.items t ≡ unmade progress.made.items (takes P t) + times_in t rest
  pub ready : (t : ℕ) → contains nat_cmp progress.ready t
      ≡ (nat_lt t (length P.rules) && (slice_index progress.missing.items t == 0) && not (contains_number t taken))
  pub done : (t : ℕ) → contains_number t taken ≡ true → slice_index progress.missing.items t ≡ 0

-- the sources and what the taken rules make are marked as made
abbrev pub IsMarked : Plan → List ℕ → List Bool → Type 0
IsMarked P taken made = (f : ℕ) → f < length P.files → slice_index_or made f false ≡ is_made P taken f
