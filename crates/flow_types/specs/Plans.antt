-- Valid plans.
use Rattle.std.specs.Prelude.{ℕ, ◌+◌, min, Bool, true, false, not, ◌&&◌, ◌||◌, List, [], ◌∷◌, ◌++◌, length, nat_lt, nat_le, ◌==◌, Option, Some, None, IsTrue, is_none, is_some, filter, sum_by, map, slice_get}
use Rattle.std.specs.List.{list_any, list_all, range_with_len}
use Rattle.std.specs.Option.{option_map_or}
use Rattle.std.specs.Str.{bytes_eq}
use Rattle.std.specs.Cmp.Lexicographic.{slice_cmp}
use Rattle.std.specs.Ordering.{nat_cmp}
use Rattle.std.specs.declared.cmp.Ordering.{Ordering}
use Rattle.std.specs.declared.cmp.Ordering.TheVariants.{Less, Equal, Greater}
use Rattle.flow_types.specs.declared.plan.Plan.{Plan}
use Rattle.flow_types.specs.declared.plan.Rule.{Rule}
use Rattle.flow_types.specs.declared.plan.Port.{Port}
use Rattle.flow_types.specs.declared.flow.Pair.{Pair}
use Rattle.flow_types.specs.declared.numbers.Needs.{Needs}
use Rattle.flow_types.specs.declared.numbers.Needs.TheVariants.{Whole, Stated}
use Rattle.flow_types.specs.Names.{is_name, are_nested}

-- the most rules of a plan
abbrev pub most_rules : ℕ
most_rules = 20000

-- the most files of a plan
abbrev pub most_files : ℕ
most_files = 65536

-- the most inputs of a rule
abbrev pub most_inputs : ℕ
most_inputs = 4096

-- the most outputs of a rule
abbrev pub most_outputs : ℕ
most_outputs = 1024

-- the most bytes of a file, and of one rule's outputs together
abbrev pub most_bytes : ℕ
most_bytes = 67108864

-- the most bytes of one rule's inputs together
abbrev pub most_input_bytes : ℕ
most_input_bytes = 134217728

-- the most bytes of a command, and of a rule's environment
abbrev pub most_command_bytes : ℕ
most_command_bytes = 1048576

-- the most cores, megabytes of memory and megabytes of disk that a rule states
abbrev pub most_amount : ℕ
most_amount = 1000000000

-- the list has no item
abbrev pub is_empty : {A : Type 0} → List A → Bool
is_empty [] = true
is_empty (x ∷ xs) = false

-- the numbers below n, ascending
abbrev pub numbers : ℕ → List ℕ
numbers n = range_with_len 0 n

-- the number stands in the list
abbrev pub contains_number : ℕ → List ℕ → Bool
contains_number x xs = list_any (λ y. y == x) xs

-- the numbers of all rules
abbrev pub rule_numbers : Plan → List ℕ
rule_numbers P = numbers (length P.rules)

-- the numbers of all files
abbrev pub file_numbers : Plan → List ℕ
file_numbers P = numbers (length P.files)

-- the numbers of the ports' files
abbrev pub files_of : List Port → List ℕ
files_of ports = map (λ port. port.file.0) ports

-- the files that rule r takes in
abbrev pub takes : Plan → ℕ → List ℕ
takes P r = option_map_or (λ rule. files_of rule.inputs) (slice_get P.rules r) []

-- the files that rule r makes
abbrev pub makes : Plan → ℕ → List ℕ
makes P r = option_map_or (λ rule. files_of rule.outputs) (slice_get P.rules r) []

-- the rule that makes a file, none of a source
abbrev pub maker_of : Plan → ℕ → Option ℕ
maker_of P f = option_map_or (λ row. option_map_or (λ r. Some r.0) row.maker None) (slice_get P.files f) None

-- a file that no rule makes
abbrev pub is_source : Plan → ℕ → Bool
is_source P f = option_map_or (λ row. is_none row.maker) (slice_get P.files f) false

-- a file that is kept to the end
abbrev pub is_kept : Plan → ℕ → Bool
is_kept P f = option_map_or (λ row. row.kept) (slice_get P.files f) false

-- the sources, ascending
abbrev pub sources_of : Plan → List ℕ
sources_of P = filter (is_source P) (file_numbers P)

-- the made files, ascending
abbrev pub made_files : Plan → List ℕ
made_files P = filter (λ f. is_some (maker_of P f)) (file_numbers P)

-- the rules that take a file in
abbrev pub takers_of : Plan → ℕ → List ℕ
takers_of P f = filter (λ r. contains_number f (takes P r)) (rule_numbers P)

-- the rule is the file's maker
abbrev pub is_made_by : Plan → ℕ → ℕ → Bool
is_made_by P r f = option_map_or (λ m. m == r) (maker_of P f) false

-- the most bytes that a file may have
abbrev pub bound_of : Plan → ℕ → ℕ
bound_of P f = option_map_or (λ row. row.bound) (slice_get P.files f) 0

-- each item passes with each that stands behind it
abbrev pub all_pairs : {A : Type 0} → (A → A → Bool) → List A → Bool
all_pairs test [] = true
all_pairs test (x ∷ xs) = list_all (test x) xs && all_pairs test xs

-- the first of two is the lesser
abbrev pub is_less : Ordering → Bool
is_less Less = true
is_less Equal = false
is_less Greater = false

-- one name stands before another in byte order
abbrev pub is_name_less : List ℕ → List ℕ → Bool
is_name_less a b = is_less (slice_cmp nat_cmp a b)

-- no stated amount passes its limit
abbrev pub fits_amounts : Needs → Bool
fits_amounts Whole = true
fits_amounts (Stated a) = nat_le a.cores most_amount && nat_le a.memory most_amount && nat_le a.disk most_amount

-- the bytes of the names and values, and 8 for each pair
abbrev pub env_bytes : List Pair → ℕ
env_bytes env = sum_by (λ pair. length pair.name + length pair.value + 8) env

-- a rule within the limits
abbrev pub is_within_limits : Rule → Bool
is_within_limits rule =
    nat_le (length rule.inputs) most_inputs
    && nat_le 1 (length rule.outputs)
    && nat_le (length rule.outputs) most_outputs
    && nat_le (length rule.command) most_command_bytes
    && nat_le (env_bytes rule.env) most_command_bytes
    && fits_amounts rule.needs

-- the remote names of a rule
abbrev pub remotes_of : Rule → List (List ℕ)
remotes_of rule = map (λ port. port.remote) (rule.inputs ++ rule.outputs)

-- each rule of the list takes in only sources, files made so far and files of rules that stand before it
abbrev pub is_made_before : Plan → List ℕ → List ℕ → Bool
is_made_before P made [] = true
is_made_before P made (r ∷ rs) =
    list_all (λ f. is_source P f || contains_number f made) (takes P r) && is_made_before P (made ++ makes P r) rs

-- each rule stands in the list, and each takes in only sources and files made earlier in it
abbrev pub is_order : Plan → List ℕ → Bool
is_order P order = list_all (λ r. contains_number r order) (rule_numbers P) && is_made_before P [] order

-- A plan that a run can go by.
pub record IsValid (P : Plan) : Type 0 where
  pub few_rules : IsTrue (nat_le (length P.rules) most_rules)
  pub few_files : IsTrue (nat_le (length P.files) most_files)
  pub within_limits : IsTrue (list_all is_within_limits P.rules)
  -- The files are strictly ascending by name, so each name stands once.
  pub ascending : IsTrue (all_pairs (λ a b. is_name_less a.name b.name) P.files)
  pub names : IsTrue (list_all (λ row. is_name row.name) P.files)
  pub not_nested : IsTrue (all_pairs (λ a b. not (are_nested a.name b.name)) P.files)
  -- Each port has a file of the plan.
  pub ports_inside : IsTrue (list_all (λ rule. list_all (λ port. nat_lt port.file.0 (length P.files)) (rule.inputs ++ rule.outputs)) P.rules)
  -- No rule makes a file by two ports.
  pub one_port : IsTrue (list_all (λ rule. all_pairs (λ f g. not (f == g)) (files_of rule.outputs)) P.rules)
  -- The maker of what a rule makes is that rule, so no two rules make one file.
  pub made_by : IsTrue (list_all (λ r. list_all (λ f. is_made_by P r f) (makes P r)) (rule_numbers P))
  -- The maker of a file makes it.
  pub makers : IsTrue (list_all (λ f. option_map_or (λ r. contains_number f (makes P r)) (maker_of P f) true) (file_numbers P))
  -- The remote names of one rule are names, differ and aren't nested.
  pub remotes : IsTrue (list_all (λ rule. list_all is_name (remotes_of rule) && all_pairs (λ a b. not (bytes_eq a b) && not (are_nested a b)) (remotes_of rule)) P.rules)
  -- A made file that no rule takes in is kept.
  pub kept : IsTrue (list_all (λ f. is_source P f || is_kept P f || not (is_empty (takers_of P f))) (file_numbers P))
  -- A source is never kept.
  pub sources_not_kept : IsTrue (list_all (λ f. not (is_kept P f)) (sources_of P))
  pub file_bounds : IsTrue (list_all (λ row. nat_le row.bound most_bytes) P.files)
  -- A rule's bound is the sum of its outputs' bounds, or the most bytes if that is less.
  pub rule_bounds : IsTrue (list_all (λ rule. rule.bound == min (sum_by (λ port. bound_of P port.file.0) rule.outputs) most_bytes) P.rules)
  -- The rules can be listed so that each takes in only sources and files made earlier in the list.
  pub orders : (order : List ℕ) × IsTrue (is_order P order)
