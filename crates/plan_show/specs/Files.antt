-- The text of files.
use Rattle.std.specs.Prelude.{◌≡◌, ℕ, ◌-◌, ◌<◌, ◌^◌, ◌==◌, All, Bool, false, nat_lt, List, [], ◌∷◌, ◌++◌, length, filter, codes, Option, Some, None, slice_get, slice_index_or, if◌then◌else◌}
use Rattle.std.specs.List.{flat_map, enumerate_from, list_all}
use Rattle.std.specs.Option.{option_map_or}
use Rattle.std.specs.Fmt.{decimal}
use Rattle.flow_types.specs.declared.plan.Plan.{Plan}
use Rattle.flow_types.specs.declared.plan.FileRow.{FileRow}
use Rattle.flow_types.specs.declared.numbers.RuleNo.{RuleNo}
use Rattle.flow_types.specs.Plans.{contains_number, numbers, takers_of, takes}
use Rattle.plan_show.specs.Shown.{quoted}

-- the rule that makes a file
abbrev pub made_text : Option RuleNo → List ℕ
made_text None = codes ": source"
made_text (Some rule) = codes ": made by " ++ decimal rule.0

-- rules, each behind a blank
abbrev pub rules_list : List ℕ → List ℕ
rules_list rules = flat_map (λ r. codes " " ++ decimal r) rules

-- the rules that take a file in
abbrev pub taken_text : List ℕ → List ℕ
taken_text rules = if length rules == 0 then [] else codes ", taken by" ++ rules_list rules

-- a file with its takers
abbrev pub file_line : FileRow → List ℕ → List ℕ
file_line row takers = quoted row.name ++ made_text row.maker ++ (taken_text takers ++ codes "\n")

-- all files
abbrev pub files_text : Plan → List ℕ
files_text plan = flat_map (λ numbered. file_line numbered.1 (takers_of plan numbered.0)) (enumerate_from 0 plan.files)

-- the rule stands last
abbrev pub ends_with : List ℕ → ℕ → Bool
ends_with takers rule = option_map_or (λ last. last == rule) (slice_get takers (length takers - 1)) false

-- the takers with the rule, once
abbrev pub with_rule : List ℕ → ℕ → List ℕ
with_rule takers rule = if ends_with takers rule then takers else takers ++ rule ∷ []

-- the takers, and the rule behind them if it takes the file in
abbrev pub joined_by : Bool → List ℕ → ℕ → List ℕ
joined_by takes_it takers rule = if takes_it then takers ++ rule ∷ [] else takers

-- each number stands below this one
abbrev pub are_below : ℕ → List ℕ → Bool
are_below n xs = list_all (λ x. nat_lt x n) xs

-- the takers of a file among the rules below this one
abbrev pub takers_below : Plan → ℕ → ℕ → List ℕ
takers_below plan n file = filter (λ r. contains_number file (takes plan r)) (numbers n)

-- the takers of each file, of the rules below this one
pub record IsIndexBelow (plan : Plan) (n : ℕ) (index : List (List ℕ)) : Type 0 where
  pub files : length index ≡ length plan.files
  pub takers : (f : ℕ) → f < length plan.files → slice_index_or index f [] ≡ takers_below plan n f

-- each input has a file of the plan, and the rules can be counted
pub record IsWired (plan : Plan) : Type 0 where
  pub few_rules : length plan.rules < 2 ^ 32
  pub inside : All (λ rule. All (λ port. port.file.0 < length plan.files) rule.inputs) plan.rules

-- files, numbered from 0, each with its takers by an index
abbrev pub numbered_lines : List (List ℕ) → List FileRow → List ℕ
numbered_lines index rows = flat_map (λ numbered. file_line numbered.1 (slice_index_or index numbered.0 [])) (enumerate_from 0 rows)
