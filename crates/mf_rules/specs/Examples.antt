-- Worked texts, with the flow or the fault that each gives.
use Rattle.std.specs.Prelude.{◌≡◌, ℕ, false, true, List, [], ◌∷◌, map, codes, None, Some, Result, Ok, Err}
use Rattle.flow_types.specs.declared.numbers.Needs.TheVariants.{Whole, Stated}
use Rattle.mf_text.specs.declared.fault.MakeFault.TheVariants.{OpenQuote, UnknownName, NoColon, NoCommand, StrayCommand, BadNumber}
use Rattle.flow_types.specs.declared.flow.RawFlow.{RawFlow}
use Rattle.mf_text.specs.declared.fault.MakeFault.{MakeFault}
use Rattle.mf_text.specs.Lines.{joined}
use Rattle.mf_rules.specs.Flow.{formed, flow_in}

-- the flow of a text of these physical lines
abbrev pub flow_from : List (List ℕ × List ℕ) → List (List ℕ) → Result RawFlow MakeFault
flow_from env lines = flow_in env (map formed (joined 1 lines))

-- a command behind its tab
abbrev pub command_line : List ℕ → List ℕ
command_line text = 9 ∷ text

-- A head and a command are a rule.
abbrev pub OneRule : Type 0
OneRule = flow_from [] ((codes "out: in" ∷ command_line (codes "cat in > out") ∷ [])) ≡ Ok (record {
  rules = record {
    place = 1;
    outputs = record { local = codes "out"; remote = None } ∷ [];
    inputs = record { local = codes "in"; remote = None } ∷ [];
    command = codes "cat in > out";
    local = false;
    needs = Whole;
    env = [];
  } ∷ [];
  keep = [];
  bounds = [];
})

-- a continued head, a remote name, quotes, a comment, a local command, amounts after the rule, kept names and a bound
abbrev pub ManyForms : Type 0
ManyForms = flow_from ((codes "E", codes "env") ∷ []) ((
    codes "A = \"1 # 2\"  # a comment" ∷ codes "A += $E" ∷ codes "'o o':\\" ∷ codes "in->there i2->" ∷ [] ∷ codes "# not a command"
    ∷ command_line (codes " LOCAL  echo $A $$A ") ∷ codes ".MAKEFLOW CORES 2" ∷ codes "DISK=3" ∷ codes ".MAKEFLOW OTHER x" ∷ codes ".SIZE out 7"
    ∷ codes "MAKEFLOW_OUTPUTS=x $E" ∷ []))
    ≡ Ok (record {
      rules = record {
        place = 3;
        outputs = record { local = codes "o o"; remote = None } ∷ [];
        inputs = record { local = codes "in"; remote = Some (codes "there") } ∷ record { local = codes "i2"; remote = None } ∷ [];
        command = codes "echo 1 # 2 env $A";
        local = true;
        needs = Stated (record { cores = 2; memory = 0; disk = 3 });
        env = [];
      } ∷ [];
      keep = codes "x" ∷ codes "env" ∷ [];
      bounds = record { name = codes "out"; bytes = 7 } ∷ [];
    })

-- Of several faults the first is told.
abbrev pub FirstFaults : Type 0
FirstFaults =
    (flow_from [] ((codes "out:" ∷ command_line (codes "echo $(X) > out") ∷ [])) ≡ Err (UnknownName 2 (codes "X")))
    × (flow_from [] ((codes "a: b" ∷ codes "A='" ∷ codes "c: d" ∷ command_line (codes "x") ∷ [])) ≡ Err (NoCommand 1))
    × (flow_from [] ((codes "a: b" ∷ codes "'c: d" ∷ command_line (codes "x") ∷ [])) ≡ Err (NoCommand 1))
    × (flow_from [] ((codes "a $X" ∷ codes "c: d" ∷ [])) ≡ Err (UnknownName 1 (codes "X")))
    × (flow_from [] ((codes "a" ∷ command_line (codes "x") ∷ [])) ≡ Err (NoColon 1))
    × (flow_from [] ((command_line (codes "x") ∷ [])) ≡ Err (StrayCommand 1))
    × (flow_from [] ((command_line (codes "MAKEFLOW x") ∷ [])) ≡ Err (NoCommand 1))
    × (flow_from [] ((codes "CORES=1000000001" ∷ [])) ≡ Err (BadNumber 1))
    × (flow_from [] ((codes ".SIZE a 67108865" ∷ [])) ≡ Err (BadNumber 1))
    × (flow_from [] ((codes "export N" ∷ [])) ≡ Err (UnknownName 1 (codes "N")))
    × (flow_from [] ((codes "A=\"$(A" ∷ [])) ≡ Err (OpenQuote 1))
