-- The log of a first run with one rule.
use Rattle.std.specs.Prelude.{List, [], ◌∷◌, replicate, None}
use Rattle.flow_types.specs.declared.records.Record.{Record}
use Rattle.flow_types.specs.declared.records.Record.TheVariants.{Opened, Started, Done, Lost, Ended}
use Rattle.flow_types.specs.declared.records.EndKind.TheVariants.{Complete}
use Rattle.flow_types.specs.declared.numbers.Content.{Content}

-- a content of three bytes
abbrev pub three_bytes : Content
three_bytes = record {
  size = 3;
  digest = record {
    0 = 186 ∷ 120 ∷ 22 ∷ 191 ∷ 143 ∷ 1 ∷ 207 ∷ 234 ∷ 65 ∷ 65 ∷ 64 ∷ 222 ∷ 93 ∷ 174 ∷ 34 ∷ 35
        ∷ 176 ∷ 3 ∷ 97 ∷ 163 ∷ 150 ∷ 23 ∷ 122 ∷ 156 ∷ 180 ∷ 16 ∷ 255 ∷ 97 ∷ 242 ∷ 0 ∷ 21 ∷ 173 ∷ [];
  };
}

-- a run that opens, starts its one rule, has its output, and is complete
abbrev pub one_rule_run : List Record
one_rule_run =
    Opened 7 0 0 None (record { 0 = replicate 32 112 }) (three_bytes ∷ [])
    ∷ Started 7 (record { 0 = 0 }) (record { 0 = 0 }) (record { 0 = 0 })
    ∷ Done 7 (record { 0 = 0 }) (record { 0 = 0 }) (three_bytes ∷ [])
    ∷ Ended 7 Complete
    ∷ []

-- an attempt that came to no end
abbrev pub one_lost : List Record
one_lost = Lost 7 (record { 0 = 2 }) (record { 0 = 5 }) ∷ []
