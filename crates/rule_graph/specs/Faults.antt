-- The first fault of a flow, and its plan where it has none.
use Rattle.std.specs.Prelude.{ℕ, Bool, List, [], ◌∷◌, ◌++◌, length, nat_lt, ◌==◌, Option, Some, None, Result, Ok, Err, if◌then◌else◌, is_none, find, map, flat_map}
use Rattle.std.specs.List.{list_any, enumerate_from}
use Rattle.std.specs.Option.{option_map_or}
use Rattle.std.specs.Str.{bytes_eq}
use Rattle.flow_types.specs.declared.flow.RawFile.{RawFile}
use Rattle.flow_types.specs.declared.flow.RawRule.{RawRule}
use Rattle.flow_types.specs.declared.flow.RawFlow.{RawFlow}
use Rattle.flow_types.specs.declared.plan.Plan.{Plan}
use Rattle.flow_types.specs.Names.{name_of, is_folder_of}
use Rattle.flow_types.specs.Plans.{most_rules, most_files, most_inputs, most_outputs}
use Rattle.rule_graph.specs.declared.raw.RawPort.{RawPort}
use Rattle.rule_graph.specs.declared.faults.GraphFault.{GraphFault}
use Rattle.rule_graph.specs.declared.numbering.Making.{Making}
use Rattle.rule_graph.specs.declared.faults.GraphFault.TheVariants as faults
use Rattle.rule_graph.specs.Flows.{rule_no, remote_text, raw_outputs, raw_inputs, raw_ports, names_of, plan_without_faults}
use Rattle.rule_graph.specs.Cycles.{left_over, loop_among}

-- the first of two, where there is one
abbrev pub or_else : {A : Type 0} → Option A → Option A → Option A
or_else None second = second
or_else (Some x) second = Some x

-- what is said of the first item of which anything is said
abbrev pub first_said : {A B : Type 0} → (A → Option B) → List A → Option B
first_said says [] = None
first_said says (x ∷ xs) = or_else (says x) (first_said says xs)

-- what is said of the least rule of which anything is said
abbrev pub over_rules : (ℕ → RawRule → Option GraphFault) → RawFlow → Option GraphFault
over_rules says flow = first_said (λ numbered. says numbered.0 numbered.1) (enumerate_from 0 flow.rules)

-- a rule with more inputs or outputs than it may have
abbrev pub too_many_ports : ℕ → RawRule → Option GraphFault
too_many_ports r rule =
    if nat_lt most_inputs (length (raw_inputs rule)) then Some (faults.TooMany most_inputs)
    else if nat_lt most_outputs (length rule.outputs) then Some (faults.TooMany most_outputs)
    else None

-- a flow past a limit: its rules, then its files, then the ports of a rule
abbrev pub too_many : RawFlow → Option GraphFault
too_many flow =
    if nat_lt most_rules (length flow.rules) then Some (faults.TooMany most_rules)
    else if nat_lt most_files (length (names_of flow)) then Some (faults.TooMany most_files)
    else over_rules too_many_ports flow

-- the texts of files' names as they stand, a file's own name before its remote one
abbrev pub file_texts : List RawFile → List (List ℕ)
file_texts files = flat_map (λ file. file.local ∷ remote_text file ∷ []) files

-- the texts of a rule's names as they stand, outputs first
abbrev pub texts_of : RawRule → List (List ℕ)
texts_of rule = file_texts (rule.outputs ++ rule.inputs)

-- a text that gives no name
abbrev pub is_no_name : List ℕ → Bool
is_no_name text = is_none (name_of text)

-- a rule with a text that is no name
abbrev pub bad_name : ℕ → RawRule → Option GraphFault
bad_name r rule = option_map_or (λ text. Some (faults.BadName (rule_no r) text)) (find is_no_name (texts_of rule)) None

-- a rule that makes nothing
abbrev pub no_output : ℕ → RawRule → Option GraphFault
no_output r rule = if length rule.outputs == 0 then Some (faults.NoOutput (rule_no r)) else None

-- the first name that stands a second time
abbrev pub first_repeat : List (List ℕ) → List (List ℕ) → Option (List ℕ)
first_repeat seen [] = None
first_repeat seen (name ∷ names) = if list_any (bytes_eq name) seen then Some name else first_repeat (name ∷ seen) names

-- the remote names of ports
abbrev pub remotes : List RawPort → List (List ℕ)
remotes ports = map (λ port. port.remote) ports

-- the remote names of a rule's ports, outputs first
abbrev pub remote_names : RawRule → List (List ℕ)
remote_names rule = remotes (raw_ports rule)

-- a rule of which two ports have one remote name
abbrev pub same_name : ℕ → RawRule → Option GraphFault
same_name r rule = option_map_or (λ name. Some (faults.SameName (rule_no r) name)) (first_repeat [] (remote_names rule)) None

-- a folder and the first of the names below it
abbrev pub nested_under : List (List ℕ) → List ℕ → Option GraphFault
nested_under names folder = option_map_or (λ name. Some (faults.NestedName folder name)) (find (is_folder_of folder) names) None

-- the first of the names that is a folder of another, and the first of which it is
abbrev pub nested_in : List (List ℕ) → Option GraphFault
nested_in names = first_said (nested_under names) names

-- names of files before remote names
abbrev pub nested_name : RawFlow → Option GraphFault
nested_name flow = or_else (nested_in (names_of flow)) (first_said (λ rule. nested_in (remote_names rule)) flow.rules)

-- the outputs of all rules, as they stand
abbrev pub makings : RawFlow → List Making
makings flow = flat_map (λ numbered. map (λ port. record { maker = numbered.0; name = port.local }) (raw_outputs numbered.1)) (enumerate_from 0 flow.rules)

-- the first output whose file a later one makes too, and the first of these
abbrev pub second_maker : List Making → Option GraphFault
second_maker [] = None
second_maker (making ∷ more) =
    or_else (option_map_or (λ second. Some (faults.TwoMakers making.name (rule_no making.maker) (rule_no second.maker))) (find (λ second. bytes_eq second.name making.name) more) None)
    (second_maker more)

-- a loop among the rules that a serial run leaves over
abbrev pub cycle : Plan → Option GraphFault
cycle P = option_map_or (λ loop. Some (faults.Cycle (map rule_no loop))) (loop_among P (left_over P)) None

-- the first fault that a flow without bad names shows before its files are numbered
abbrev pub named_fault : RawFlow → Option GraphFault
named_fault flow =
    or_else (over_rules no_output flow)
    (or_else (over_rules same_name flow)
    (nested_name flow))

-- the first fault that a flow shows before its files are numbered
abbrev pub early_fault : RawFlow → Option GraphFault
early_fault flow =
    or_else (too_many flow)
    (or_else (over_rules bad_name flow)
    (named_fault flow))

-- The first fault of a flow.
abbrev pub fault_of : RawFlow → Option GraphFault
fault_of flow =
    or_else (early_fault flow)
    (or_else (second_maker (makings flow))
    (cycle (plan_without_faults flow)))

-- The plan of a flow, or its first fault.
abbrev pub plan_of : RawFlow → Result Plan GraphFault
plan_of flow = option_map_or Err (fault_of flow) (Ok (plan_without_faults flow))
