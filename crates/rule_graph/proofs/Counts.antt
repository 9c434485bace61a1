-- In a valid plan each length and count fits its bytes.
use Rattle.std.proofs.Common.{◌≡◌, ℕ, ◌+◌, ◌<◌, ◌≤◌, ◌^◌, Bool, true, false, not, ◌&&◌, ◌||◌, List, [], ◌∷◌, ◌++◌, length, refl, ap, sym, ◌∙◌, arith, subst, rules, All}
use Rattle.std.specs.Prelude.{sum_by, map, nat_lt, nat_eq, ◌==◌, codes}
use Rattle.std.specs.List.{list_any, list_all, starts_with}
use Rattle.std.specs.Str.{bytes_eq, is_utf8}
use Rattle.std.proofs.lemmas.Bool.{and_parts, or_parts, not-true, leb-true, ltb-false}
use Rattle.std.proofs.lemmas.Slice.Eq.{bytes_eq-Decides}
use Rattle.std.proofs.lemmas.List.Elements.{All-cons, All-nil}
use Rattle.std.proofs.lemmas.List.Sums.{sum_by-cons}
use Rattle.std.proofs.lemmas.List.Folds.{list_all-append, list_all-map}
use Rattle.flow_types.specs.declared.plan.Plan.{Plan}
use Rattle.flow_types.specs.declared.plan.Rule.{Rule}
use Rattle.flow_types.specs.declared.plan.FileRow.{FileRow}
use Rattle.flow_types.specs.declared.plan.Port.{Port}
use Rattle.flow_types.specs.declared.flow.Pair.{Pair}
use Rattle.flow_types.specs.Names.{is_name, is_bad, form_of, parts_of}
use Rattle.flow_types.specs.Plans.{IsValid, env_bytes, is_within_limits, remotes_of}
use Rattle.rule_graph.specs.Hashing.{IsCountable, IsPairCountable, IsPortCountable, IsRuleCountable, IsFileCountable}

-- what a test of each item tells of each
pub all_from : {A : Type 0} (p : A → Bool) (P : A → Type 0) → ((x : A) → p x ≡ true → P x) → (xs : List A) → list_all p xs ≡ true → All P xs
all_from p P tells [] all = All-nil P
all_from p P tells (x ∷ xs) all =
    let parts = and_parts _ _ all in All-cons P x xs (tells x parts.0) (all_from p P tells xs parts.1)

pub all_from_two : {A : Type 0} (p q : A → Bool) (P : A → Type 0) → ((x : A) → p x ≡ true → q x ≡ true → P x) → (xs : List A)
    → list_all p xs ≡ true → list_all q xs ≡ true → All P xs
all_from_two p q P tells [] all_p all_q = All-nil P
all_from_two p q P tells (x ∷ xs) all_p all_q =
    let ps = and_parts _ _ all_p in
    let qs = and_parts _ _ all_q in
    All-cons P x xs (tells x ps.0 qs.0) (all_from_two p q P tells xs ps.1 qs.1)

pub bytes_same : (xs ys : List ℕ) → bytes_eq xs ys ≡ true → xs ≡ ys
bytes_same xs ys same = (bytes_eq-Decides xs ys).0 same

last_of : (a b c d e f : Bool) → (a || b || c || d || e || f) ≡ false → f ≡ false
last_of a b c d e f none = grind arith

-- a name has at most 1,024 bytes
pub name_short : (name : List ℕ) → is_name name ≡ true → length name ≤ 1024
name_short name is =
    let parts = and_parts _ _ is in
    let form : form_of name ≡ name = bytes_same (form_of name) name parts.1 in
    let bad : is_bad name ≡ false = not-true _ parts.0 in
    let short : length (form_of name) ≤ 1024 =
    ltb-false 1024 (length (form_of name))
    (last_of (not (is_utf8 name)) (starts_with nat_eq name (codes "/")) (list_any (bytes_eq (codes "..")) (parts_of name)) (list_any (λ b. b == 0) name) (bytes_eq (form_of name) []) (nat_lt 1024 (length (form_of name))) bad) in
    let e : length (form_of name) ≡ length name = ap length form in
    omega arith

-- the bytes of a pair, with those of its two lengths
size_of : Pair → ℕ
size_of pair = length pair.name + length pair.value + 8

pairs_few : (env : List Pair) → length env ≤ env_bytes env
pairs_few [] = omega arith
pairs_few (pair ∷ env) =
    let e : env_bytes (pair ∷ env) ≡ length pair.name + length pair.value + 8 + env_bytes env =
    sum_by-cons (λ pair. length pair.name + length pair.value + 8) pair env in
    let rest : length env ≤ env_bytes env = pairs_few env in
    omega (arith, e, rest)

pairs_short : (env : List Pair) → env_bytes env ≤ 1048576 → All IsPairCountable env
pairs_short [] few = All-nil IsPairCountable
pairs_short (pair ∷ env) few =
    let e : env_bytes (pair ∷ env) ≡ length pair.name + length pair.value + 8 + env_bytes env =
    sum_by-cons (λ pair. length pair.name + length pair.value + 8) pair env in
    let name : length pair.name < 2 ^ 32 = omega (arith, e, few) in
    let value : length pair.value < 2 ^ 32 = omega (arith, e, few) in
    All-cons IsPairCountable pair env (name, value) (pairs_short env (omega (arith, e, few)))

ports_short : (ports : List Port) → list_all is_name (map (λ port. port.remote) ports) ≡ true → All IsPortCountable ports
ports_short ports all =
    all_from (λ port. is_name port.remote) IsPortCountable (λ port is. let short : length port.remote ≤ 1024 = name_short port.remote is in omega (arith, short)) ports
    (sym (list_all-map is_name (λ port. port.remote) ports) ∙ all)

pub rule_countable : (rule : Rule) → is_within_limits rule ≡ true → list_all is_name (remotes_of rule) ≡ true → IsRuleCountable rule
rule_countable rule limits names =
    let needs = and_parts _ _ limits in
    let env_part = and_parts _ _ needs.0 in
    let command_part = and_parts _ _ env_part.0 in
    let outputs_part = and_parts _ _ command_part.0 in
    let inputs_part = and_parts _ _ outputs_part.0 in
    let inputs : length rule.inputs ≤ 4096 = leb-true (length rule.inputs) 4096 inputs_part.0 in
    let outputs : length rule.outputs ≤ 1024 = leb-true (length rule.outputs) 1024 outputs_part.1 in
    let command : length rule.command ≤ 1048576 = leb-true (length rule.command) 1048576 command_part.1 in
    let env : env_bytes rule.env ≤ 1048576 = leb-true (env_bytes rule.env) 1048576 env_part.1 in
    let ports : list_all (λ port. is_name port.remote) (rule.inputs ++ rule.outputs) ≡ true = sym (list_all-map is_name (λ port. port.remote) (rule.inputs ++ rule.outputs)) ∙ names in
    let split = and_parts _ _ (sym (list_all-append (λ port. is_name port.remote) rule.inputs rule.outputs) ∙ ports) in
    record {
      command = omega (arith, command);
      pairs = omega (arith, env, pairs_few rule.env);
      each_pair = pairs_short rule.env env;
      inputs = omega (arith, inputs);
      each_input = ports_short rule.inputs (list_all-map is_name (λ port. port.remote) rule.inputs ∙ split.0);
      outputs = omega (arith, outputs);
      each_output = ports_short rule.outputs (list_all-map is_name (λ port. port.remote) rule.outputs ∙ split.1);
    }

pub rules_countable : (P : Plan) → IsValid P → All IsRuleCountable P.rules
rules_countable P valid =
    all_from_two is_within_limits _ IsRuleCountable (λ rule limits remotes. rule_countable rule limits (and_parts _ _ remotes).0) P.rules valid.within_limits valid.remotes

pub files_countable : (P : Plan) → IsValid P → All IsFileCountable P.files
files_countable P valid =
    all_from (λ row. is_name row.name) IsFileCountable (λ row is. let short : length row.name ≤ 1024 = name_short row.name is in omega (arith, short)) P.files valid.names
