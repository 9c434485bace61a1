-- The task of a rule can be sent.
use Rattle.std.proofs.Common.{◌≡◌, ◌≤◌, ◌+◌, ◌*◌, ◌∙◌, ℕ, zero, suc, Bool, true, ◌&&◌, List, [], ◌∷◌, ◌++◌, length, map, Option, Some, None, refl, sym, ap, subst, arith, true≢false}
use Rattle.std.specs.Prelude.{flat_map, is_some, nat_le, not, option_map, slice_get, unwrap_or}
use Rattle.std.specs.List.{list_all}
use Rattle.std.proofs.lemmas.Bool.{and_parts, leb-true}
use Rattle.std.proofs.lemmas.List.{length-append, length-map}
use Rattle.std.specs.Str.{bytes_eq}
use Rattle.byteorder.specs.Endian.{big_bytes}
use Rattle.byteorder.specs.Numbers.{length-bytes_high_first}
use Rattle.byte_fields.specs.Spelling.{counted, rows}
use Rattle.flow_types.specs.declared.flow.Pair.{Pair}
use Rattle.flow_types.specs.declared.job.Task.{Task}
use Rattle.flow_types.specs.declared.messages.Message.TheVariants as messages
use Rattle.flow_types.specs.declared.numbers.AttemptNo.{AttemptNo}
use Rattle.flow_types.specs.declared.numbers.Needs.{Needs}
use Rattle.flow_types.specs.declared.numbers.Needs.TheVariants as needs
use Rattle.flow_types.specs.declared.plan.Plan.{Plan}
use Rattle.flow_types.specs.declared.plan.Port.{Port}
use Rattle.flow_types.specs.declared.plan.Rule.{Rule}
use Rattle.flow_types.specs.declared.records.Record.{Record}
use Rattle.flow_types.specs.Names.{are_nested, is_name}
use Rattle.flow_types.specs.Plans.{IsValid, all_pairs, env_bytes, fits_amounts, is_within_limits, remotes_of}
use Rattle.flow_types.proofs.Totals.{total, total-is}
use Rattle.rule_graph.proofs.Counts.{name_short}
use Rattle.desk.specs.declared.attempt.Attempt.{Attempt}
use Rattle.desk.specs.Tasks.{task_of, task_with, want_at}
use Rattle.wq_messages.specs.Spelling.{HasCounts, amounts_bytes, input_bytes, most_body, needs_bytes, output_bytes, pair_bytes, spelling}

len : (n x : ℕ) → length (big_bytes n x) ≡ n
len n x = length-bytes_high_first n x

counted_len : (text : List ℕ) → length (counted text) ≡ 4 + length text
counted_len text = length-append (big_bytes 4 (length text)) text ∙ ap (λ (n : ℕ). n + length text) (len 4 (length text))

-- ---- rows

pairs_len : (env : List Pair) → length (flat_map pair_bytes env) ≡ total (λ (p : Pair). length p.name + length p.value + 8) env
pairs_len [] = refl
pairs_len (p ∷ env) =
    let whole = length-append (pair_bytes p) (flat_map pair_bytes env) in
    let both = length-append (counted p.name) (counted p.value) in
    let name = counted_len p.name in
    let value = counted_len p.value in
    let rest = pairs_len env in
    omega (arith, whole, both, name, value, rest)

-- each of these is a name
abbrev AreNamed : List (List ℕ) → Type 0
AreNamed names = list_all is_name names ≡ true

inputs_len : (ports : List Port) (more : List (List ℕ)) → AreNamed (map (λ (p : Port). p.remote) ports ++ more) → length (flat_map input_bytes ports) ≤ 1032 * length ports
inputs_len [] more named = omega arith
inputs_len (p ∷ ports) more named =
    let parts = and_parts (is_name p.remote) (list_all is_name (map (λ (q : Port). q.remote) ports ++ more)) named in
    let whole = length-append (input_bytes p) (flat_map input_bytes ports) in
    let one = length-append (big_bytes 4 p.file.0) (counted p.remote) in
    let four = len 4 p.file.0 in
    let name = counted_len p.remote in
    let short = name_short p.remote parts.0 in
    let rest = inputs_len ports more parts.1 in
    omega (arith, whole, one, four, name, short, rest)

outputs_len : (P : Plan) (ports : List Port) → AreNamed (map (λ (p : Port). p.remote) ports) → length (flat_map output_bytes (map (want_at P) ports)) ≤ 1036 * length ports
outputs_len P [] named = omega arith
outputs_len P (p ∷ ports) named =
    let w = want_at P p in
    let parts = and_parts (is_name p.remote) (list_all is_name (map (λ (q : Port). q.remote) ports)) named in
    let whole = length-append (output_bytes w) (flat_map output_bytes (map (want_at P) ports)) in
    let one = length-append (counted p.remote) (big_bytes 8 w.bound) in
    let eight = len 8 w.bound in
    let name = counted_len p.remote in
    let short = name_short p.remote parts.0 in
    let rest = outputs_len P ports parts.1 in
    omega (arith, whole, one, eight, name, short, rest)

names_right : (xs ys : List (List ℕ)) → AreNamed (xs ++ ys) → AreNamed ys
names_right [] ys named = named
names_right (x ∷ xs) ys named = names_right xs ys (and_parts (is_name x) (list_all is_name (xs ++ ys)) named).1

map_append : (xs ys : List Port) → map (λ (p : Port). p.remote) (xs ++ ys) ≡ map (λ (p : Port). p.remote) xs ++ map (λ (p : Port). p.remote) ys
map_append [] ys = refl
map_append (x ∷ xs) ys = ap (λ (l : List (List ℕ)). x.remote ∷ l) (map_append xs ys)

needs_len : (n : Needs) → length (needs_bytes n) ≤ 13
needs_len needs.Whole = let one = len 1 0 in let all = length-append (big_bytes 1 0) [] in omega (arith, one, all)
needs_len (needs.Stated a) =
    let all = length-append (big_bytes 1 1) (amounts_bytes a) in
    let two = length-append (big_bytes 4 a.cores) (big_bytes 4 a.memory ++ big_bytes 4 a.disk) in
    let three = length-append (big_bytes 4 a.memory) (big_bytes 4 a.disk) in
    let one = len 1 1 in
    let x = len 4 a.cores in
    let y = len 4 a.memory in
    let z = len 4 a.disk in
    omega (arith, all, two, three, one, x, y, z)

-- ---- the task of a rule

-- What is within the limits of a rule.
record IsShort (rule : Rule) : Type 0 where
  inputs : length rule.inputs ≤ 4096
  outputs : length rule.outputs ≤ 1024
  command : length rule.command ≤ 1048576
  env : env_bytes rule.env ≤ 1048576

short_by : (rule : Rule) → is_within_limits rule ≡ true → IsShort rule
short_by rule within =
    let a = and_parts (nat_le (length rule.inputs) 4096 && nat_le 1 (length rule.outputs) && nat_le (length rule.outputs) 1024 && nat_le (length rule.command) 1048576 && nat_le (env_bytes rule.env) 1048576) (fits_amounts rule.needs) within in
    let b = and_parts (nat_le (length rule.inputs) 4096 && nat_le 1 (length rule.outputs) && nat_le (length rule.outputs) 1024 && nat_le (length rule.command) 1048576) (nat_le (env_bytes rule.env) 1048576) a.0 in
    let c = and_parts (nat_le (length rule.inputs) 4096 && nat_le 1 (length rule.outputs) && nat_le (length rule.outputs) 1024) (nat_le (length rule.command) 1048576) b.0 in
    let d = and_parts (nat_le (length rule.inputs) 4096 && nat_le 1 (length rule.outputs)) (nat_le (length rule.outputs) 1024) c.0 in
    let e = and_parts (nat_le (length rule.inputs) 4096) (nat_le 1 (length rule.outputs)) d.0 in
    record {
      inputs = leb-true (length rule.inputs) 4096 e.0;
      outputs = leb-true (length rule.outputs) 1024 d.1;
      command = leb-true (length rule.command) 1048576 c.1;
      env = leb-true (env_bytes rule.env) 1048576 b.1;
    }

task_len : (P : Plan) (rule : Rule) (attempt : AttemptNo) (run : ℕ) → IsShort rule → AreNamed (remotes_of rule) → length (spelling (messages.Task (task_with P rule attempt run))) ≤ most_body
task_len P rule attempt run short named =
    let wants = map (want_at P) rule.outputs in
    let env = rows pair_bytes rule.env in
    let inputs = rows input_bytes rule.inputs in
    let outputs = rows output_bytes wants in
    let names : AreNamed (map (λ (p : Port). p.remote) rule.inputs ++ map (λ (p : Port). p.remote) rule.outputs) = subst AreNamed (map_append rule.inputs rule.outputs) named in
    let l1 = length-append (big_bytes 1 3) (big_bytes 8 attempt.0 ++ (big_bytes 8 run ++ (counted rule.command ++ (needs_bytes rule.needs ++ (env ++ (inputs ++ outputs)))))) in
    let l2 = length-append (big_bytes 8 attempt.0) (big_bytes 8 run ++ (counted rule.command ++ (needs_bytes rule.needs ++ (env ++ (inputs ++ outputs))))) in
    let l3 = length-append (big_bytes 8 run) (counted rule.command ++ (needs_bytes rule.needs ++ (env ++ (inputs ++ outputs)))) in
    let l4 = length-append (counted rule.command) (needs_bytes rule.needs ++ (env ++ (inputs ++ outputs))) in
    let l5 = length-append (needs_bytes rule.needs) (env ++ (inputs ++ outputs)) in
    let l6 = length-append env (inputs ++ outputs) in
    let l7 = length-append inputs outputs in
    let e = length-append (big_bytes 4 (length rule.env)) (flat_map pair_bytes rule.env) in
    let i = length-append (big_bytes 4 (length rule.inputs)) (flat_map input_bytes rule.inputs) in
    let o = length-append (big_bytes 4 (length wants)) (flat_map output_bytes wants) in
    let pairs = pairs_len rule.env in
    let bytes = total-is (λ (p : Pair). length p.name + length p.value + 8) rule.env in
    let ins = inputs_len rule.inputs (map (λ (p : Port). p.remote) rule.outputs) names in
    let outs = outputs_len P rule.outputs (names_right (map (λ (p : Port). p.remote) rule.inputs) (map (λ (p : Port). p.remote) rule.outputs) names) in
    let n = needs_len rule.needs in
    let command = counted_len rule.command in
    let few_in = short.inputs in
    let few_out = short.outputs in
    let few_command = short.command in
    let few_env = short.env in
    omega (arith, l1, l2, l3, l4, l5, l6, l7, e, i, o, pairs, bytes, ins, outs, n, command, few_in, few_out, few_command, few_env, len 1 3, len 8 attempt.0, len 8 run, len 4 (length rule.env), len 4 (length rule.inputs), len 4 (length wants))

-- ---- of a plan

all_at : (p : Rule → Bool) (xs : List Rule) (i : ℕ) (x : Rule) → list_all p xs ≡ true → slice_get xs i ≡ Some x → p x ≡ true
all_at p [] i x all is = absurd (true≢false (sym (ap is_some is)))
all_at p (y ∷ ys) zero x all is = subst (λ z. p z ≡ true) (ap (λ o. unwrap_or o x) is) (and_parts (p y) (list_all p ys) all).0
all_at p (y ∷ ys) (suc i) x all is = all_at p ys i x (and_parts (p y) (list_all p ys) all).1 is

-- A task can be sent.
pub record CanSend (t : Task) : Type 0 where
  pub counts : HasCounts (messages.Task t)
  pub short : length (spelling (messages.Task t)) ≤ most_body

abbrev task_in : Option Task → Task → Task
task_in None d = d
task_in (Some t) d = t

by_row : (P : Plan) (a : Attempt) (run : ℕ) (t : Task) (row : Option Rule) → IsValid P → slice_get P.rules a.rule.0 ≡ row → option_map (λ rule. task_with P rule a.number run) row ≡ Some t → CanSend t
by_row P a run t None valid is same = absurd (true≢false (sym (ap is_some same)))
by_row P a run t (Some rule) valid is same =
    let short = short_by rule (all_at is_within_limits P.rules a.rule.0 rule valid.within_limits is) in
    let named = (and_parts (list_all is_name (remotes_of rule)) (all_pairs (λ x y. not (bytes_eq x y) && not (are_nested x y)) (remotes_of rule))
    (all_at (λ (r : Rule). list_all is_name (remotes_of r) && all_pairs (λ x y. not (bytes_eq x y) && not (are_nested x y)) (remotes_of r)) P.rules a.rule.0 rule valid.remotes is)).0 in
    let one : task_with P rule a.number run ≡ t = ap (λ (o : Option Task). task_in o t) same in
    let wants = length-map rule.outputs (want_at P) in
    subst CanSend one (record { counts = (short.inputs, (let few = short.outputs in omega (arith, few, wants))); short = task_len P rule a.number run short named })

pub can_send : (P : Plan) (H : List Record) (a : Attempt) (t : Task) → IsValid P → task_of P H a ≡ Some t → CanSend t
can_send P H a t valid is = by_row P a _ t (slice_get P.rules a.rule.0) valid refl is
