-- The rules and files of a flow, as a plan numbers them.
use Rattle.std.specs.Prelude.{ℕ, min, Bool, false, not, ◌&&◌, ◌||◌, List, [], ◌∷◌, ◌++◌, Option, Some, None, if◌then◌else◌, filter, fold, map, flat_map, position, unwrap_or, sum_by}
use Rattle.std.specs.List.{list_any}
use Rattle.std.specs.Option.{option_map_or}
use Rattle.std.specs.Str.{bytes_eq}
use Rattle.std.specs.Cmp.Lexicographic.{slice_cmp}
use Rattle.std.specs.Ordering.{nat_cmp}
use Rattle.std.specs.BTreeSet.{insert_key}
use Rattle.flow_types.specs.declared.flow.RawFile.{RawFile}
use Rattle.flow_types.specs.declared.flow.RawRule.{RawRule}
use Rattle.flow_types.specs.declared.flow.RawFlow.{RawFlow}
use Rattle.flow_types.specs.declared.numbers.RuleNo.{RuleNo}
use Rattle.flow_types.specs.declared.plan.Plan.{Plan}
use Rattle.flow_types.specs.declared.plan.Rule.{Rule}
use Rattle.flow_types.specs.declared.plan.FileRow.{FileRow}
use Rattle.flow_types.specs.declared.plan.Port.{Port}
use Rattle.flow_types.specs.Names.{name_of, form_of}
use Rattle.rule_graph.specs.declared.raw.RawPort.{RawPort}
use Rattle.flow_types.specs.Plans.{most_bytes}

-- a rule's number
abbrev pub rule_no : ℕ → RuleNo
rule_no r = record { 0 = r }

-- a file's remote text, its own where it has none
abbrev pub remote_text : RawFile → List ℕ
remote_text file = unwrap_or file.remote file.local

-- Where no text is bad, the forms are the names that the texts give.
abbrev pub raw_port : RawFile → RawPort
raw_port file = record { local = form_of file.local; remote = form_of (remote_text file) }

-- one file under one remote name
abbrev pub is_same_port : RawPort → RawPort → Bool
is_same_port a b = bytes_eq a.local b.local && bytes_eq a.remote b.remote

-- each port once, where it stands first
abbrev pub each_once : List RawPort → List RawPort
each_once [] = []
each_once (port ∷ ports) = port ∷ filter (λ other. not (is_same_port port other)) (each_once ports)

-- a rule's outputs, as many as it states
abbrev pub raw_outputs : RawRule → List RawPort
raw_outputs rule = map raw_port rule.outputs

-- A file that a rule takes in twice under one remote name is one input.
abbrev pub raw_inputs : RawRule → List RawPort
raw_inputs rule = each_once (map raw_port rule.inputs)

-- outputs first
abbrev pub raw_ports : RawRule → List RawPort
raw_ports rule = raw_outputs rule ++ raw_inputs rule

-- ascending names, and the name of a port's file where it isn't among them
abbrev pub with_port : List (List ℕ) → RawPort → List (List ℕ)
with_port names port = insert_key (slice_cmp nat_cmp) names port.local

-- the names of a flow's files, each once, ascending by bytes
abbrev pub names_of : RawFlow → List (List ℕ)
names_of flow = fold with_port [] (flat_map raw_ports flow.rules)

-- the place of a name among the names
abbrev pub number_of : List (List ℕ) → List ℕ → ℕ
number_of names name = unwrap_or (position (bytes_eq name) names) 0

-- a text gives this name
abbrev pub is_text_of : List ℕ → List ℕ → Bool
is_text_of name text = option_map_or (bytes_eq name) (name_of text) false

-- the bound that the last line for a name states
abbrev pub stated_bound : RawFlow → List ℕ → ℕ
stated_bound flow name = fold (λ bound line. if is_text_of name line.name then line.bytes else bound) most_bytes flow.bounds

-- one of the ports is of the file of this name
abbrev pub has_local : List ℕ → List RawPort → Bool
has_local name ports = list_any (λ port. bytes_eq name port.local) ports

-- the least rule that makes a file of the name
abbrev pub raw_maker : RawFlow → List ℕ → Option ℕ
raw_maker flow name = position (λ rule. has_local name (raw_outputs rule)) flow.rules

-- whether a rule takes in the file of this name
abbrev pub is_taken : RawFlow → List ℕ → Bool
is_taken flow name = list_any (λ rule. has_local name (raw_inputs rule)) flow.rules

-- whether a flow names this file kept
abbrev pub is_named_kept : RawFlow → List ℕ → Bool
is_named_kept flow name = list_any (is_text_of name) flow.keep

-- The row of a source, or of a made file; a made file is kept where it is named so or no rule takes it in.
abbrev pub row_for : RawFlow → List ℕ → Option ℕ → FileRow
row_for flow name None = record { name = name; maker = None; kept = false; bound = most_bytes }
row_for flow name (Some r) = record { name = name; maker = Some (rule_no r); kept = is_named_kept flow name || not (is_taken flow name); bound = stated_bound flow name }

-- a port by its file's number
abbrev pub port_for : List (List ℕ) → RawPort → Port
port_for names port = record { file = record { 0 = number_of names port.local }; remote = port.remote }

-- a rule of the plan; its bound is the sum of its outputs' bounds
abbrev pub rule_for : RawFlow → List (List ℕ) → RawRule → Rule
rule_for flow names rule = record {
  inputs = map (port_for names) (raw_inputs rule);
  outputs = map (port_for names) (raw_outputs rule);
  command = rule.command;
  local = rule.local;
  needs = rule.needs;
  env = rule.env;
  bound = min (sum_by (λ port. stated_bound flow port.local) (raw_outputs rule)) most_bytes;
}

-- The rules and files of a flow: a valid plan where the flow has no fault.
abbrev pub plan_without_faults : RawFlow → Plan
plan_without_faults flow = record {
  rules = map (rule_for flow (names_of flow)) flow.rules;
  files = map (λ name. row_for flow name (raw_maker flow name)) (names_of flow);
}
