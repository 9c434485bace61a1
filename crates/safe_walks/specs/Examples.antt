-- Two makers and two takers of their files, under a limit that both makers together fill.
use Rattle.std.specs.Prelude.{true, false, List, [], ◌∷◌, ◌++◌, codes, Some}
use Rattle.flow_types.specs.declared.plan.Plan.{Plan}
use Rattle.flow_types.specs.declared.records.Record.{Record}
use Rattle.flow_types.specs.declared.records.EndKind.TheVariants as kinds
use Rattle.flow_types.specs.Examples.{copy_rule, source_row, made_row}
use Rattle.run_history.specs.Examples.{opened, started, done, made, lost, dropped, ended, resumed}

-- a of s, c of a, b of s, d of b; a and b have 40 bytes, c and d have 10. The files are a, b, c, d,
-- s.
abbrev pub two_pairs : Plan
two_pairs = record {
  rules = copy_rule (codes "cp s a") 4 (codes "s") 0 (codes "a") 40
      ∷ copy_rule (codes "head a > c") 0 (codes "a") 2 (codes "c") 10
      ∷ copy_rule (codes "cp s b") 4 (codes "s") 1 (codes "b") 40
      ∷ copy_rule (codes "head b > d") 1 (codes "b") 3 (codes "d") 10 ∷ [];
  files = made_row (codes "a") 0 false 40 ∷ made_row (codes "b") 2 false 40
      ∷ made_row (codes "c") 1 true 10
      ∷ made_row (codes "d") 3 true 10 ∷ source_row (codes "s") ∷ [];
}

-- The first maker runs under a limit of 80 bytes.
abbrev pub one_runs : List Record
one_runs = opened 0 (Some 80) ∷ started 0 0 ∷ []

-- What a safe run does then: one pair behind the other.
abbrev pub one_by_one : List Record
one_by_one =
    started 0 0 ∷ done 0 0 ∷ started 1 1 ∷ made 1 1 (10 ∷ []) ∷ dropped 0 ∷ started 2 2 ∷ done 2 2
    ∷ started 3 3 ∷ made 3 3 (10 ∷ []) ∷ dropped 1
    ∷ ended kinds.Complete ∷ []

-- The first maker is lost, and started again.
abbrev pub lost_and_again : List Record
lost_and_again = started 0 0 ∷ lost 0 0 ∷ started 0 1 ∷ []

-- Both makers are done, and nothing has room for a taker.
abbrev pub both_made : List Record
both_made = opened 0 (Some 80) ∷ started 0 0 ∷ started 2 1 ∷ done 0 0 ∷ done 2 1 ∷ []

-- The same ended so, and resumed.
abbrev pub both_resumed : List Record
both_resumed = both_made ++ (ended kinds.NoRoom ∷ resumed 1 0 (Some 80) ∷ [])

-- One rule makes two files of 60,000,000 bytes at most each, together at most 67,108,864; two rules
-- copy one each.
abbrev pub lesser_pair : Plan
lesser_pair = record {
  rules = record (copy_rule (codes "split s") 4 (codes "s") 0 (codes "a") 67108864) {
    outputs = record { file = record { 0 = 0 }; remote = codes "a" }
        ∷ record { file = record { 0 = 1 }; remote = codes "b" } ∷ [];
  }
      ∷ copy_rule (codes "head a > c") 0 (codes "a") 2 (codes "c") 10
      ∷ copy_rule (codes "head b > d") 1 (codes "b") 3 (codes "d") 10 ∷ [];
  files = made_row (codes "a") 0 false 60000000 ∷ made_row (codes "b") 0 false 60000000
      ∷ made_row (codes "c") 1 true 10
      ∷ made_row (codes "d") 2 true 10 ∷ source_row (codes "s") ∷ [];
}
