-- Two small plans, and commands that join their inputs.
use Rattle.std.specs.Prelude.{ℕ, Bool, true, false, List, [], ◌∷◌, codes, Some, None, map, flat_map}
use Rattle.flow_types.specs.declared.plan.Plan.{Plan}
use Rattle.flow_types.specs.declared.plan.Rule.{Rule}
use Rattle.flow_types.specs.declared.plan.FileRow.{FileRow}
use Rattle.flow_types.specs.declared.plan.Port.{Port}
use Rattle.flow_types.specs.declared.numbers.Needs.TheVariants.{Whole}
use Rattle.flow_types.specs.Serial.{Contents, Function}

-- file f under a name
abbrev pub port : ℕ → List ℕ → Port
port f name = record { file = record { 0 = f }; remote = name }

-- a rule that makes one file of one file
abbrev pub copy_rule : List ℕ → ℕ → List ℕ → ℕ → List ℕ → ℕ → Rule
copy_rule command from from_name to to_name bound = record {
  inputs = port from from_name ∷ [];
  outputs = port to to_name ∷ [];
  command = command;
  local = false;
  needs = Whole;
  env = [];
  bound = bound;
}

-- a source
abbrev pub source_row : List ℕ → FileRow
source_row name = record { name = name; maker = None; kept = false; bound = 67108864 }

-- a file that rule r makes
abbrev pub made_row : List ℕ → ℕ → Bool → ℕ → FileRow
made_row name r kept bound = record { name = name; maker = Some (record { 0 = r }); kept = kept; bound = bound }

-- rule 0 makes c of b, rule 1 makes b of the source a
abbrev pub two_rules : Plan
two_rules = record {
  rules = copy_rule (codes "cp b c") 1 (codes "b") 2 (codes "c") 67108864
      ∷ copy_rule (codes "cp a b") 0 (codes "a") 1 (codes "b") 67108864 ∷ [];
  files = source_row (codes "a") ∷ made_row (codes "b") 1 false 67108864 ∷ made_row (codes "c") 0 true 67108864 ∷ [];
}

-- a of the source s, b of a, c of b, of 40 bytes each; the files are a, b, c, s
abbrev pub chain : Plan
chain = record {
  rules = copy_rule (codes "cat s > a") 3 (codes "s") 0 (codes "a") 40
      ∷ copy_rule (codes "cat a > b") 0 (codes "a") 1 (codes "b") 40
      ∷ copy_rule (codes "cat b > c") 1 (codes "b") 2 (codes "c") 40 ∷ [];
  files = made_row (codes "a") 0 false 40 ∷ made_row (codes "b") 1 false 40 ∷ made_row (codes "c") 2 true 40
      ∷ source_row (codes "s") ∷ [];
}

-- each output is the inputs one after the other
abbrev pub joins_inputs : Function
joins_inputs command env inputs outputs = map (λ name. flat_map (λ given. given.content) inputs) outputs

-- the source of the two rules is `abc`
abbrev pub sources_of_two_rules : Contents
sources_of_two_rules f = Some (codes "abc")
