-- Worked logs as they are printed.
use Rattle.std.specs.Prelude.{◌≡◌, ℕ, List, [], ◌∷◌, ◌++◌, None, Some, codes, false, true}
use Rattle.flow_types.specs.declared.job.Failure.TheVariants.{MissingOutput}
use Rattle.flow_types.specs.declared.plan.Plan.{Plan}
use Rattle.flow_types.specs.declared.plan.Port.{Port}
use Rattle.flow_types.specs.declared.numbers.Digest.{Digest}
use Rattle.flow_types.specs.declared.numbers.Needs.TheVariants.{Whole}
use Rattle.flow_types.specs.declared.numbers.Content.{Content}
use Rattle.flow_types.specs.declared.records.EndKind.TheVariants.{Cleaned, CommandFailed, Complete}
use Rattle.flow_types.specs.declared.records.Record.{Record}
use Rattle.flow_types.specs.declared.records.Record.TheVariants.{Opened, Resumed, Started, Done, Failed, Lost, Dropped, Ended}
use Rattle.run_history.specs.Legal.{is_legal}
use Rattle.log_text.specs.Lines.{log_lines}

-- a plan of one rule
abbrev pub one_rule : Plan
one_rule = record {
  rules = record { inputs = []; outputs = []; command = []; local = false; needs = Whole; env = []; bound = 0 } ∷ [];
  files = [];
}

-- an output of three bytes
abbrev pub three : Content
three = record { size = 3; digest = record { 0 = [] } }

-- its run
abbrev pub one_run : List Record
one_run =
    Opened 7 0 0 None (record { 0 = [] }) (three ∷ [])
    ∷ Started 7 (record { 0 = 0 }) (record { 0 = 0 }) (record { 0 = 0 })
    ∷ Done 7 (record { 0 = 0 }) (record { 0 = 0 }) (three ∷ [])
    ∷ Ended 7 Complete
    ∷ []

-- Its printed log.
abbrev pub OneRunIsPrinted : Type 0
OneRunIsPrinted = log_lines one_rule one_run ≡ codes "# opened run 0\n7 0 1 0 0 1 0 0 0 1\n7 0 2 0 0 0 1 0 0 1\n# ended complete\n"

-- a file under its own name
abbrev pub port : ℕ → List ℕ → Port
port f name = record { file = record { 0 = f }; remote = name }

-- a plan of two rules, of which the second takes in what the first makes
abbrev pub two_rules : Plan
two_rules = record {
  rules =
      record { inputs = port 0 (codes "a") ∷ []; outputs = port 1 (codes "b") ∷ []; command = codes "cp a b"; local = false; needs = Whole; env = []; bound = 9 }
      ∷ record { inputs = port 1 (codes "b") ∷ []; outputs = port 2 (codes "c") ∷ []; command = codes "cp b c"; local = false; needs = Whole; env = []; bound = 9 }
      ∷ [];
  files =
      record { name = codes "a"; maker = None; kept = false; bound = 9 }
      ∷ record { name = codes "b"; maker = Some (record { 0 = 0 }); kept = false; bound = 9 }
      ∷ record { name = codes "c"; maker = Some (record { 0 = 1 }); kept = true; bound = 9 }
      ∷ [];
}

-- a digest of a plan, here of no bytes
abbrev pub no_digest : Digest
no_digest = record { 0 = [] }

-- a start of an attempt at a rule
abbrev pub start : ℕ → ℕ → ℕ → Record
start moment r a = Started moment (record { 0 = r }) (record { 0 = a }) (record { 0 = 0 })

-- an attempt at a rule that made its output
abbrev pub made : ℕ → ℕ → ℕ → Record
made moment r a = Done moment (record { 0 = r }) (record { 0 = a }) (three ∷ [])

-- an attempt at a rule that left no output
abbrev pub failure : ℕ → ℕ → ℕ → Record
failure moment r a = Failed moment (record { 0 = r }) (record { 0 = a }) (MissingOutput 0)

-- an attempt at a rule that came to no end
abbrev pub loss : ℕ → ℕ → ℕ → Record
loss moment r a = Lost moment (record { 0 = r }) (record { 0 = a })

-- Two runs behind a cleaning: a rule fails with a retry left and then without one, a second run begins anew without retries, an attempt is lost, and a file is dropped.
abbrev pub two_parts : List Record
two_parts =
    Opened 5 0 0 None no_digest (three ∷ []) ∷ start 5 0 0 ∷ loss 6 0 0 ∷ Ended 6 Cleaned
    ∷ Opened 10 1 1 None no_digest (three ∷ []) ∷ start 11 0 1 ∷ failure 12 0 1 ∷ start 13 0 2 ∷ failure 14 0 2 ∷ Ended 15 CommandFailed
    ∷ Resumed 20 2 0 None ∷ start 21 0 3 ∷ made 22 0 3 ∷ start 23 1 4 ∷ loss 24 1 4 ∷ start 25 1 5 ∷ made 26 1 5
    ∷ Dropped 27 (record { 0 = 1 }) ∷ Ended 28 Complete
    ∷ []

-- It may stand in a log.
abbrev pub TwoPartsAreLegal : Type 0
TwoPartsAreLegal = is_legal two_rules [] two_parts ≡ true

-- Its printed log.
abbrev pub TwoPartsArePrinted : Type 0
TwoPartsArePrinted = log_lines two_rules two_parts ≡
    codes "# opened run 1\n11 0 1 1 1 1 0 0 0 2\n12 0 0 1 2 0 0 0 0 2\n13 0 1 2 1 1 0 0 0 2\n14 0 3 2 1 0 0 1 0 2\n# ended failed\n"
    ++ codes "# resumed run 2\n21 0 1 3 1 1 0 0 0 2\n22 0 2 3 1 0 1 0 0 2\n23 1 1 4 0 1 1 0 0 2\n24 1 0 4 1 0 1 0 0 2\n"
    ++ codes "25 1 1 5 0 1 1 0 0 2\n26 1 2 5 0 0 2 0 0 2\n# dropped b\n# ended complete\n"
