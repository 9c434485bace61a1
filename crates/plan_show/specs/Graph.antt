-- The graph of a plan in Graphviz' language.
use Rattle.std.specs.Prelude.{ℕ, ◌==◌, List, [], ◌++◌, codes, chars, slice_get, if◌then◌else◌}
use Rattle.std.specs.List.{flat_map, enumerate_from}
use Rattle.std.specs.Option.{option_map_or}
use Rattle.std.specs.Char.{encode_utf8}
use Rattle.std.specs.Fmt.{decimal}
use Rattle.flow_types.specs.declared.plan.Plan.{Plan}
use Rattle.flow_types.specs.declared.plan.Rule.{Rule}
use Rattle.flow_types.specs.Plans.{maker_of}
use Rattle.plan_show.specs.Shown.{shown}
use Rattle.plan_show.specs.Rules.{file_name}

-- a character of a label: `\"`, `\\`, `&amp;`, any other as it is
abbrev pub dot_char : ℕ → List ℕ
dot_char c = if c == 34 then codes "\\\"" else (if c == 92 then codes "\\\\" else (if c == 38 then codes "&amp;" else encode_utf8 c))

-- a name in a label, drawn as it is shown elsewhere
abbrev pub dot_text : List ℕ → List ℕ
dot_text name = flat_map dot_char (chars (shown name))

-- the name of a rule's first output; no bytes where it has none
abbrev pub first_output : Plan → Rule → List ℕ
first_output plan rule = option_map_or (λ port. file_name plan port.file.0) (slice_get rule.outputs 0) []

-- the box of a rule
abbrev pub node_line : Plan → ℕ → Rule → List ℕ
node_line plan number rule =
    codes "  " ++ decimal number ++ (codes " [label=\"" ++ decimal number ++ (codes ": " ++ dot_text (first_output plan rule) ++ codes "\"];\n"))

-- the edge of a file from its maker to a rule that takes it in
abbrev pub edge : ℕ → ℕ → List ℕ → List ℕ
edge maker taker name =
    codes "  " ++ decimal maker ++ (codes " -> " ++ decimal taker ++ (codes " [label=\"" ++ dot_text name ++ codes "\"];\n"))

-- the same of a file of the plan; a source has no maker, and no edge
abbrev pub edge_line : Plan → ℕ → ℕ → List ℕ
edge_line plan taker file = option_map_or (λ maker. edge maker taker (file_name plan file)) (maker_of plan file) []

-- a rule's box, and the files that come to it from other rules
abbrev pub rule_lines : Plan → ℕ → Rule → List ℕ
rule_lines plan number rule = node_line plan number rule ++ flat_map (λ port. edge_line plan number port.file.0) rule.inputs

-- rules, numbered from 0
abbrev pub numbered_lines : Plan → List Rule → List ℕ
numbered_lines plan rules = flat_map (λ numbered. rule_lines plan numbered.0 numbered.1) (enumerate_from 0 rules)

-- all rules, between the marks of a graph
abbrev pub graph_text : Plan → List ℕ
graph_text plan = codes "digraph flow {\n  node [shape=box];\n" ++ numbered_lines plan plan.rules ++ codes "}\n"
