-- Worked expressions, with the flow or the fault that each gives.
use Rattle.std.specs.Prelude.{◌≡◌, ℕ, true, List, [], ◌∷◌, codes, None, Some, Ok, Err, pos}
use Rattle.flow_types.specs.declared.numbers.Needs.TheVariants.{Stated}
use Rattle.jx_syntax.specs.declared.operator.Operator.TheVariants.{Add, Divide}
use Rattle.jx_syntax.specs.Tree.{Tree, Entries, Fields, null, truth, number, text, name, list, object, operation, no_entries, entry, no_loops, no_fields, field}
use Rattle.jx_meaning.specs.declared.fault.EvalFault.TheVariants.{UnknownName, ZeroDivisor}
use Rattle.jx_flow.specs.declared.fault.JxFlowFault.TheVariants.{Evaluation, MissingField, FieldKind, UnknownCategory}
use Rattle.jx_flow.specs.Flow.{flow_of}

-- an object of these keys
abbrev pub keys : List (List ℕ × Tree) → Fields
keys [] = no_fields
keys (f ∷ fs) = field f.0 f.1 (keys fs)

-- an object literal of these keys
abbrev pub of : List (List ℕ × Tree) → Tree
of fs = object 0 (keys fs)

-- these items, each once
abbrev pub once : List Tree → Entries
once [] = no_entries
once (t ∷ ts) = entry t no_loops (once ts)

-- a list literal of these items
abbrev pub these : List Tree → Tree
these ts = list 0 (once ts)

-- a text in quotes
abbrev pub quote : List ℕ → Tree
quote t = text 0 t

-- a rule with this command and further keys, and without outputs
abbrev pub rule : List ℕ → List (List ℕ × Tree) → Tree
rule command more = of ((codes "command", quote command) ∷ (codes "outputs", these []) ∷ more)

-- a text with these rules and further keys
abbrev pub flow : List Tree → List (List ℕ × Tree) → Tree
flow rules more = of ((codes "rules", these rules) ∷ more)

-- `1 / 0`
abbrev pub undefined : Tree
undefined = operation 7 Divide (number 7 (pos 1)) (number 9 (pos 0))

-- all fields of a flow and of a rule: names that see those before, a variable and an amount of the rule's own, files with two names and with a bound, a file to keep, and fields that are passed over
abbrev pub AllFields : Type 0
AllFields = flow_of (of (
    (codes "note", undefined)
    ∷ (codes "define", of ((codes "a", quote (codes "x")) ∷ (codes "b", operation 0 Add (name 0 (codes "a")) (quote (codes "y"))) ∷ (codes "MAKEFLOW_OUTPUTS", quote (codes "p")) ∷ []))
    ∷ (
      codes "rules",
      these (of (
          (codes "command", name 0 (codes "b"))
          ∷ (codes "inputs", these (quote (codes "i") ∷ []))
          ∷ (codes "outputs", these (of ((codes "dag_name", quote (codes "p")) ∷ (codes "task_name", quote (codes "q")) ∷ (codes "size", number 0 (pos 7)) ∷ []) ∷ []))
          ∷ (codes "local_job", truth 0 true)
          ∷ (codes "environment", of ((codes "V", quote (codes "own")) ∷ []))
          ∷ (codes "resources", of ((codes "disk", number 0 (pos 5)) ∷ []))
          ∷ (codes "note", null 0) ∷ []) ∷ []),
    )
    ∷ (codes "environment", of ((codes "V", quote (codes "all")) ∷ (codes "W", quote (codes "w")) ∷ []))
    ∷ (codes "categories", of ((codes "c", of ((codes "resources", of ((codes "cores", number 0 (pos 2)) ∷ (codes "disk", number 0 (pos 3)) ∷ [])) ∷ [])) ∷ []))
    ∷ (codes "default_category", quote (codes "c")) ∷ []))
    ≡ Ok (record {
      rules = record {
        place = 0;
        outputs = record { local = codes "p"; remote = Some (codes "q") } ∷ [];
        inputs = record { local = codes "i"; remote = None } ∷ [];
        command = codes "xy";
        local = true;
        needs = Stated (record { cores = 2; memory = 0; disk = 5 });
        env = record { name = codes "V"; value = codes "own" } ∷ record { name = codes "W"; value = codes "w" } ∷ [];
      } ∷ [];
      keep = codes "p" ∷ [];
      bounds = record { name = codes "p"; bytes = 7 } ∷ [];
    })

-- the first fault by the order of the fields and of the rules
abbrev pub FirstFaults : Type 0
FirstFaults =
    (flow_of (these []) ≡ Err (FieldKind None []))
    × (flow_of (of []) ≡ Err (MissingField None (codes "rules")))
    × (flow_of (of ((codes "rules", null 0) ∷ (codes "define", these []) ∷ [])) ≡ Err (FieldKind None (codes "define")))
    × (flow_of (of ((codes "define", of ((codes "a", name 5 (codes "b")) ∷ (codes "b", null 0) ∷ [])) ∷ [])) ≡ Err (Evaluation (UnknownName 5)))
    × (flow_of (flow (undefined ∷ []) ((codes "environment", null 0) ∷ [])) ≡ Err (Evaluation (ZeroDivisor 7)))
    × (flow_of (flow (null 0 ∷ []) ((codes "categories", null 0) ∷ (codes "environment", of ((codes "A", null 0) ∷ [])) ∷ [])) ≡ Err (FieldKind None (codes "A")))
    × (flow_of (flow (rule (codes "a") [] ∷ null 0 ∷ []) []) ≡ Err (FieldKind (Some 1) (codes "rules")))
    × (flow_of (flow (rule (codes "a") ((codes "category", quote (codes "c")) ∷ []) ∷ null 0 ∷ []) []) ≡ Err (UnknownCategory 0))
    × (flow_of (flow (of ((codes "outputs", null 0) ∷ []) ∷ []) []) ≡ Err (MissingField (Some 0) (codes "command")))
    × (flow_of (flow (of ((codes "command", quote (codes "a")) ∷ []) ∷ []) []) ≡ Err (MissingField (Some 0) (codes "outputs")))
