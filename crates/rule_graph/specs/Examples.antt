-- Small flows, and the plan of one copy with its bytes.
use Rattle.std.specs.Prelude.{ℕ, Bool, true, false, List, [], ◌∷◌, ◌++◌, codes, Some, None}
use Prim.Native.String.{String}
use Rattle.flow_types.specs.declared.flow.RawFile.{RawFile}
use Rattle.flow_types.specs.declared.flow.RawRule.{RawRule}
use Rattle.flow_types.specs.declared.flow.RawFlow.{RawFlow}
use Rattle.flow_types.specs.declared.plan.Plan.{Plan}
use Rattle.flow_types.specs.declared.numbers.Needs.TheVariants.{Whole}
use Rattle.flow_types.specs.Examples.{copy_rule, source_row, made_row}

-- a file under its own name
abbrev pub raw : String → RawFile
raw name = record { local = codes name; remote = None }

-- a file under another name where the rule runs
abbrev pub renamed : String → String → RawFile
renamed name remote = record { local = codes name; remote = Some (codes remote) }

-- a rule that makes files of files
abbrev pub raw_rule : List RawFile → List RawFile → String → RawRule
raw_rule outputs inputs command = record {
  place = 0;
  outputs = outputs;
  inputs = inputs;
  command = codes command;
  local = false;
  needs = Whole;
  env = [];
}

-- a rule that makes one file of another by this command
abbrev pub made_of : String → String → String → RawRule
made_of output input command = raw_rule (raw output ∷ []) (raw input ∷ []) command

-- a flow of these rules alone
abbrev pub flow_of : List RawRule → RawFlow
flow_of rules = record { rules = rules; keep = []; bounds = [] }

-- out of in
abbrev pub one_copy : Plan
one_copy = record {
  rules = copy_rule (codes "cat in > out") 0 (codes "in") 1 (codes "out") 67108864 ∷ [];
  files = source_row (codes "in") ∷ made_row (codes "out") 0 true 67108864 ∷ [];
}

-- its bytes: the rule with its command, no variables, its input, its output and its bound, and then the two files
abbrev pub one_copy_bytes : List ℕ
one_copy_bytes =
    (0 ∷ 0 ∷ 0 ∷ 1 ∷ [])
    ++ (0 ∷ 0 ∷ 0 ∷ 12 ∷ []) ++ codes "cat in > out"
    ++ (0 ∷ 0 ∷ 0 ∷ 0 ∷ [])
    ++ (0 ∷ 0 ∷ 0 ∷ 1 ∷ 0 ∷ 0 ∷ 0 ∷ 0 ∷ 0 ∷ 0 ∷ 0 ∷ 2 ∷ []) ++ codes "in"
    ++ (0 ∷ 0 ∷ 0 ∷ 1 ∷ 0 ∷ 0 ∷ 0 ∷ 1 ∷ 0 ∷ 0 ∷ 0 ∷ 3 ∷ []) ++ codes "out"
    ++ (0 ∷ 0 ∷ 0 ∷ 0 ∷ 4 ∷ 0 ∷ 0 ∷ 0 ∷ [])
    ++ (0 ∷ 0 ∷ 0 ∷ 2 ∷ [])
    ++ (0 ∷ 0 ∷ 0 ∷ 2 ∷ []) ++ codes "in" ++ (0 ∷ 0 ∷ 0 ∷ 0 ∷ 0 ∷ 0 ∷ 4 ∷ 0 ∷ 0 ∷ 0 ∷ [])
    ++ (0 ∷ 0 ∷ 0 ∷ 3 ∷ []) ++ codes "out" ++ (1 ∷ 0 ∷ 0 ∷ 0 ∷ 0 ∷ 1 ∷ 0 ∷ 0 ∷ 0 ∷ 0 ∷ 4 ∷ 0 ∷ 0 ∷ 0 ∷ [])

-- a of b/c, which no rule makes
abbrev pub takes_from_a_folder : Plan
takes_from_a_folder = record {
  rules = copy_rule (codes "cat b/c > a") 1 (codes "b/c") 0 (codes "a") 67108864 ∷ [];
  files = made_row (codes "a") 0 true 67108864 ∷ source_row (codes "b/c") ∷ [];
}
