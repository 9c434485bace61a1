-- The flow that is made up of a number.
use Rattle.std.specs.Prelude.{ℕ, zero, suc, ◌/◌, ◌==◌, false, List, [], ◌∷◌, ◌++◌, None, codes, map, if◌then◌else◌}
use Rattle.std.specs.Fmt.{decimal}
use Rattle.std.specs.List.{flat_map}
use Rattle.flow_types.specs.declared.flow.RawFile.{RawFile}
use Rattle.flow_types.specs.declared.flow.RawFlow.{RawFlow}
use Rattle.flow_types.specs.declared.flow.RawRule.{RawRule}
use Rattle.flow_types.specs.declared.numbers.Needs.TheVariants.{Whole}
use Rattle.flow_types.specs.Plans.{numbers}

-- the name of what a rule makes: g and the rule's number
abbrev pub made_name : ℕ → List ℕ
made_name rule = codes "g" ++ decimal rule

-- what a rule makes, under its own name
abbrev pub made_file : ℕ → RawFile
made_file rule = record { local = made_name rule; remote = None }

-- the rules of whose files a rule makes its own: none for rule 0, else two before it, or the one that both are
abbrev pub makers : ℕ → List ℕ
makers zero = []
makers (suc n) = n / 2 ∷ (if suc n / 3 == n / 2 then [] else suc n / 3 ∷ [])

-- a blank and the name of what a rule makes
abbrev pub read_name : ℕ → List ℕ
read_name rule = codes " " ++ made_name rule

-- what prints the files of these rules one after the other, and an x where there are none
abbrev pub reading : List ℕ → List ℕ
reading [] = codes "echo x"
reading (rule ∷ rules) = codes "cat" ++ flat_map read_name (rule ∷ rules)

-- what a rule runs
abbrev pub command : ℕ → List ℕ
command rule = reading (makers rule) ++ (codes " > " ++ made_name rule)

-- a rule that makes its file
abbrev pub made_rule : ℕ → RawRule
made_rule rule = record {
  place = rule;
  outputs = made_file rule ∷ [];
  inputs = map made_file (makers rule);
  command = command rule;
  local = false;
  needs = Whole;
  env = [];
}

-- so many rules, and every file is kept
abbrev pub generated : ℕ → RawFlow
generated count = record {
  rules = map made_rule (numbers count);
  keep = map made_name (numbers count);
  bounds = [];
}
