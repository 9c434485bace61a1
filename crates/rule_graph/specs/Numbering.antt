-- What is known of the files of a flow while it is numbered.
use Rattle.std.specs.Prelude.{◌≡◌, ℕ, Bool, true, List, [], ◌∷◌, ◌++◌, ◌||◌, Option, Some, None, Result, Ok, Err, IsTrue, All, find, map, length, min, not, nat_lt, ◌==◌, sum_by, slice_index_or, if◌then◌else◌}
use Rattle.std.specs.List.{list_all, list_any}
use Rattle.std.specs.Option.{option_map, option_map_or}
use Rattle.std.specs.Str.{bytes_eq}
use Rattle.flow_types.specs.declared.flow.RawFlow.{RawFlow}
use Rattle.flow_types.specs.declared.flow.RawRule.{RawRule}
use Rattle.flow_types.specs.declared.numbers.RuleNo.{RuleNo}
use Rattle.rule_graph.specs.declared.faults.GraphFault.{GraphFault}
use Rattle.rule_graph.specs.declared.faults.GraphFault.TheVariants as faults
use Rattle.rule_graph.specs.declared.raw.RawPort.{RawPort}
use Rattle.rule_graph.specs.declared.numbering.Making.{Making}
use Rattle.rule_graph.specs.declared.numbering.Makers.{Makers}
use Rattle.flow_types.specs.declared.plan.FileRow.{FileRow}
use Rattle.flow_types.specs.declared.plan.Plan.{Plan}
use Rattle.flow_types.specs.declared.plan.Rule.{Rule}
use Rattle.flow_types.specs.Plans.{most_bytes, all_pairs, bound_of, contains_number, file_numbers, files_of, is_empty, is_kept, is_made_by, is_source, maker_of, makes, rule_numbers, sources_of, takers_of}
use Rattle.rule_graph.specs.declared.rows.Tables.{Tables}
use Rattle.rule_graph.specs.Checked.{IsAscending, IsName}
use Rattle.rule_graph.specs.Flows.{rule_no, raw_ports, names_of, raw_maker, is_taken, is_named_kept, stated_bound, row_for, rule_for, plan_without_faults}
use Rattle.rule_graph.specs.Faults.{makings, second_maker}

-- the name is among the names
abbrev pub is_known : List (List ℕ) → List ℕ → Bool
is_known names name = list_any (bytes_eq name) names

-- the table now says this value of each name that passes the test, and what it said of the others
abbrev pub Sets : {T : Type 0} → List (List ℕ) → List T → List T → (List ℕ → Bool) → T → Type 0
Sets {T} names old new test value =
    (says : List ℕ → T) → old ≡ map says names → new ≡ map (λ name. if test name then value else says name) names

-- the table now says true also of each name that passes the test
abbrev pub Marks : List (List ℕ) → List Bool → List Bool → (List ℕ → Bool) → Type 0
Marks names old new test = (says : List ℕ → Bool) → old ≡ map says names → new ≡ map (λ name. says name || test name) names

-- what a table says of a name among the names
abbrev pub Tells : {T : Type 0} → List (List ℕ) → List T → List ℕ → Option T → Type 0
Tells {T} names table name told = (says : List ℕ → T) → table ≡ map says names → IsTrue (is_known names name) → told ≡ Some (says name)

-- the makings of these outputs by one rule
abbrev pub port_makings : ℕ → List RawPort → List Making
port_makings r ports = map (λ port. record { maker = r; name = port.local }) ports

-- the rule of the first making of a name
abbrev pub first_maker : List Making → List ℕ → Option RuleNo
first_maker makings name = option_map (λ making. rule_no making.maker) (find (λ making. bytes_eq making.name name) makings)

-- the fault of a making where a later one makes its file too
abbrev pub second_among : Making → List Making → Option GraphFault
second_among making more = option_map_or (λ second. Some (faults.TwoMakers making.name (rule_no making.maker) (rule_no second.maker))) (find (λ second. bytes_eq second.name making.name) more) None

-- a table of the first maker of each name
abbrev pub AreFirst : List (List ℕ) → List Making → List (Option RuleNo) → Type 0
AreFirst names makings first = first ≡ map (first_maker makings) names

-- the fault of a making before those of a table
abbrev pub IsClash : List (List ℕ) → List (Option RuleNo) → Making → Option GraphFault → Type 0
IsClash names later making fault = (more : List Making) → AreFirst names more later → fault ≡ second_among making more

-- the fault and the table go from some makings to one more, before the others
abbrev pub GoesBack : List (List ℕ) → Making → Makers → Makers → Type 0
GoesBack names making old new =
    (more : List Making) → AreFirst names more old.first.items → old.fault ≡ second_maker more
    → (new.fault ≡ second_maker (making ∷ more)) × AreFirst names (making ∷ more) new.first.items

-- a making of a file that has a number
pub record IsMakingAmong (names : List (List ℕ)) (making : Making) : Type 0 where
  pub known : IsTrue (is_known names making.name)
  pub name : IsName making.name

-- a port of a file that has a number, with a remote name in its form
pub record IsPortAmong (names : List (List ℕ)) (port : RawPort) : Type 0 where
  pub known : IsTrue (is_known names port.local)
  pub name : IsName port.local
  pub remote : IsName port.remote

-- all ports of a rule have numbers and names
abbrev pub IsRuleAmong : List (List ℕ) → RawRule → Type 0
IsRuleAmong names rule = All (IsPortAmong names) (raw_ports rule)

-- the tables have a row for each name, and the names are in their order
pub record AreLevel (tables : Tables) : Type 0 where
  pub ascending : IsAscending tables.names.items
  pub names : All IsName tables.names.items
  pub makers : length tables.makers.items ≡ length tables.names.items
  pub taken : length tables.taken.items ≡ length tables.names.items
  pub kept : length tables.kept.items ≡ length tables.names.items
  pub bounds : length tables.bounds.items ≡ length tables.names.items

-- the tables say of each name what the flow says
pub record AreOf (flow : RawFlow) (tables : Tables) : Type 0 where
  pub names : tables.names.items ≡ names_of flow
  pub makers : tables.makers.items ≡ map (λ name. option_map rule_no (raw_maker flow name)) (names_of flow)
  pub taken : tables.taken.items ≡ map (is_taken flow) (names_of flow)
  pub kept : tables.kept.items ≡ map (is_named_kept flow) (names_of flow)
  pub bounds : tables.bounds.items ≡ map (stated_bound flow) (names_of flow)

-- the row of the file with this number, in the plan of the flow of which the tables are
abbrev pub IsRowOf : Tables → ℕ → FileRow → Type 0
IsRowOf tables file row =
    (flow : RawFlow) → AreOf flow tables
    → row ≡ row_for flow (slice_index_or (names_of flow) file []) (raw_maker flow (slice_index_or (names_of flow) file []))

-- the rows of all files
abbrev pub AreRowsOf : Tables → List FileRow → Type 0
AreRowsOf tables rows =
    (flow : RawFlow) → AreOf flow tables → rows ≡ map (λ name. row_for flow name (raw_maker flow name)) (names_of flow)

-- the bound of a rule with these outputs, where the table says the bound of each name
abbrev pub IsBoundOf : List (List ℕ) → List ℕ → List RawPort → ℕ → Type 0
IsBoundOf names bounds ports bound =
    (says : List ℕ → ℕ) → bounds ≡ map says names → bound ≡ min (sum_by (λ port. says port.local) ports) most_bytes

-- a rule of the plan of the flow of which the tables are
abbrev pub IsRuleOf : Tables → RawRule → Rule → Type 0
IsRuleOf tables raw rule = (flow : RawFlow) → AreOf flow tables → rule ≡ rule_for flow (names_of flow) raw

-- the rules of that plan
abbrev pub AreRulesOf : Tables → List RawRule → List Rule → Type 0
AreRulesOf tables raw rules = (flow : RawFlow) → AreOf flow tables → rules ≡ map (rule_for flow (names_of flow)) raw

-- the plan of a flow whose ports have names, or the fault of two makers of one file
abbrev pub numbered : RawFlow → Result Plan GraphFault
numbered flow = option_map_or Err (second_maker (makings flow)) (Ok (plan_without_faults flow))

-- What a plan has once its files are numbered and none has two makers.
pub record IsNumberedPlan (P : Plan) : Type 0 where
  -- Each port has a file of the plan.
  pub ports_inside : IsTrue (list_all (λ rule. list_all (λ port. nat_lt port.file.0 (length P.files)) (rule.inputs ++ rule.outputs)) P.rules)
  -- No rule makes a file by two ports.
  pub one_port : IsTrue (list_all (λ rule. all_pairs (λ f g. not (f == g)) (files_of rule.outputs)) P.rules)
  -- The maker of what a rule makes is that rule.
  pub made_by : IsTrue (list_all (λ r. list_all (λ f. is_made_by P r f) (makes P r)) (rule_numbers P))
  -- The maker of a file makes it.
  pub makers : IsTrue (list_all (λ f. option_map_or (λ r. contains_number f (makes P r)) (maker_of P f) true) (file_numbers P))
  -- A made file that no rule takes in is kept.
  pub kept : IsTrue (list_all (λ f. is_source P f || is_kept P f || not (is_empty (takers_of P f))) (file_numbers P))
  -- A source is never kept.
  pub sources_not_kept : IsTrue (list_all (λ f. not (is_kept P f)) (sources_of P))
  -- A rule's bound is the sum of its outputs' bounds, or the most bytes if that is less.
  pub rule_bounds : IsTrue (list_all (λ rule. rule.bound == min (sum_by (λ port. bound_of P port.file.0) rule.outputs) most_bytes) P.rules)
