-- A plan of two rules, of which one has another name for a file, needs and a variable.
use Rattle.std.specs.Prelude.{true, false, [], ◌∷◌, codes}
use Rattle.flow_types.specs.declared.plan.Plan.{Plan}
use Rattle.flow_types.specs.declared.numbers.Needs.TheVariants.{Whole, Stated}
use Rattle.flow_types.specs.Examples.{port, source_row, made_row}

-- rule 0 makes `b` of the source `a`, rule 1 makes `c` of `b`, which it calls `t`
abbrev pub two_rules : Plan
two_rules = record {
  rules = record {
    inputs = port 0 (codes "a") ∷ [];
    outputs = port 1 (codes "b") ∷ [];
    command = codes "cp a b";
    local = false;
    needs = Stated (record { cores = 2; memory = 10; disk = 0 });
    env = record { name = codes "A"; value = codes "\"\\" } ∷ [];
    bound = 7;
  } ∷ record {
    inputs = port 1 (codes "t") ∷ [];
    outputs = port 2 (codes "c") ∷ [];
    command = codes "cp t c";
    local = true;
    needs = Whole;
    env = [];
    bound = 67108864;
  } ∷ [];
  files = source_row (codes "a") ∷ made_row (codes "b") 0 false 7 ∷ made_row (codes "c") 1 true 67108864 ∷ [];
}
