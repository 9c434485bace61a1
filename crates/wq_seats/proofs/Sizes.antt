-- The task of a submission can be sent.
use Rattle.std.proofs.Common.{◌≡◌, ◌≤◌, ◌+◌, ◌*◌, ◌∙◌, ℕ, Bool, true, false, not, ◌&&◌, ◌||◌, List, [], ◌∷◌, ◌++◌, length, map, refl, ap, arith}
use Rattle.std.specs.Prelude.{codes, flat_map, nat_eq, nat_le, nat_lt, ◌==◌}
use Rattle.std.specs.List.{list_all, list_any, starts_with}
use Rattle.std.specs.Str.{bytes_eq, is_utf8}
use Rattle.std.proofs.lemmas.Bool.{and_parts, leb-true, ltb-false, not-true}
use Rattle.std.proofs.lemmas.List.{length-append}
use Rattle.std.proofs.lemmas.Slice.Eq.{bytes_eq-Decides}
use Rattle.byteorder.specs.Endian.{big_bytes}
use Rattle.byteorder.specs.Numbers.{length-bytes_high_first}
use Rattle.byte_fields.specs.Spelling.{counted, rows}
use Rattle.flow_types.specs.declared.flow.Pair.{Pair}
use Rattle.flow_types.specs.declared.job.Want.{Want}
use Rattle.flow_types.specs.declared.messages.Message.TheVariants as messages
use Rattle.flow_types.specs.declared.numbers.AttemptNo.{AttemptNo}
use Rattle.flow_types.specs.declared.numbers.Needs.{Needs}
use Rattle.flow_types.specs.declared.numbers.Needs.TheVariants as needs
use Rattle.flow_types.specs.declared.plan.Port.{Port}
use Rattle.flow_types.specs.Names.{form_of, is_bad, is_name, parts_of}
use Rattle.flow_types.specs.Plans.{env_bytes}
use Rattle.flow_types.proofs.Totals.{total, total-is}
use Rattle.task_book.specs.declared.task.Submission.{Submission}
use Rattle.task_book.specs.Submissions.{IsShort, is_short, made_names}
use Rattle.wq_messages.specs.Spelling.{HasCounts, amounts_bytes, input_bytes, most_body, needs_bytes, output_bytes, pair_bytes, spelling}
use Rattle.wq_seats.specs.Seats.{own_run, task_of}

-- ---- names

last_of : (a b c d e f : Bool) → (a || b || c || d || e || f) ≡ false → f ≡ false
last_of a b c d e f none = grind arith

-- a name has at most 1,024 bytes
name_short : (name : List ℕ) → is_name name ≡ true → length name ≤ 1024
name_short name is =
    let parts = and_parts (not (is_bad name)) (bytes_eq (form_of name) name) is in
    let form : form_of name ≡ name = (bytes_eq-Decides (form_of name) name).0 parts.1 in
    let bad : is_bad name ≡ false = not-true (is_bad name) parts.0 in
    let short : length (form_of name) ≤ 1024 =
    ltb-false 1024 (length (form_of name))
    (last_of (not (is_utf8 name)) (starts_with nat_eq name (codes "/")) (list_any (bytes_eq (codes "..")) (parts_of name)) (list_any (λ b. b == 0) name) (bytes_eq (form_of name) []) (nat_lt 1024 (length (form_of name))) bad) in
    let e : length (form_of name) ≡ length name = ap length form in
    omega arith

len : (n x : ℕ) → length (big_bytes n x) ≡ n
len n x = length-bytes_high_first n x

counted_len : (text : List ℕ) → length (counted text) ≡ 4 + length text
counted_len text = length-append (big_bytes 4 (length text)) text ∙ ap (λ (n : ℕ). n + length text) (len 4 (length text))

-- ---- rows

pairs_len : (env : List Pair) → length (flat_map pair_bytes env) ≡ total (λ (p : Pair). length p.name + length p.value + 8) env
pairs_len [] = refl
pairs_len (p ∷ env) =
    let whole = length-append (pair_bytes p) (flat_map pair_bytes env) in
    let both = length-append (counted p.name) (counted p.value) in
    let name = counted_len p.name in
    let value = counted_len p.value in
    let rest = pairs_len env in
    omega (arith, whole, both, name, value, rest)

-- each of these is a name
abbrev AreNamed : List (List ℕ) → Type 0
AreNamed names = list_all is_name names ≡ true

inputs_len : (ports : List Port) (more : List (List ℕ)) → AreNamed (map (λ (p : Port). p.remote) ports ++ more) → length (flat_map input_bytes ports) ≤ 1032 * length ports
inputs_len [] more named = omega arith
inputs_len (p ∷ ports) more named =
    let parts = and_parts (is_name p.remote) (list_all is_name (map (λ (q : Port). q.remote) ports ++ more)) named in
    let whole = length-append (input_bytes p) (flat_map input_bytes ports) in
    let one = length-append (big_bytes 4 p.file.0) (counted p.remote) in
    let four = len 4 p.file.0 in
    let name = counted_len p.remote in
    let short = name_short p.remote parts.0 in
    let rest = inputs_len ports more parts.1 in
    omega (arith, whole, one, four, name, short, rest)

outputs_len : (wants : List Want) → AreNamed (made_names wants) → length (flat_map output_bytes wants) ≤ 1036 * length wants
outputs_len [] named = omega arith
outputs_len (w ∷ wants) named =
    let parts = and_parts (is_name w.remote) (list_all is_name (made_names wants)) named in
    let whole = length-append (output_bytes w) (flat_map output_bytes wants) in
    let one = length-append (counted w.remote) (big_bytes 8 w.bound) in
    let eight = len 8 w.bound in
    let name = counted_len w.remote in
    let short = name_short w.remote parts.0 in
    let rest = outputs_len wants parts.1 in
    omega (arith, whole, one, eight, name, short, rest)

names_right : (xs ys : List (List ℕ)) → AreNamed (xs ++ ys) → AreNamed ys
names_right [] ys named = named
names_right (x ∷ xs) ys named = names_right xs ys (and_parts (is_name x) (list_all is_name (xs ++ ys)) named).1

needs_len : (n : Needs) → length (needs_bytes n) ≤ 13
needs_len needs.Whole = let one = len 1 0 in let all = length-append (big_bytes 1 0) [] in omega (arith, one, all)
needs_len (needs.Stated a) =
    let all = length-append (big_bytes 1 1) (amounts_bytes a) in
    let two = length-append (big_bytes 4 a.cores) (big_bytes 4 a.memory ++ big_bytes 4 a.disk) in
    let three = length-append (big_bytes 4 a.memory) (big_bytes 4 a.disk) in
    let one = len 1 1 in
    let x = len 4 a.cores in
    let y = len 4 a.memory in
    let z = len 4 a.disk in
    omega (arith, all, two, three, one, x, y, z)

-- ---- the task of a submission

-- What is within the limits of a submission.
record Limits (task : Submission) : Type 0 where
  inputs : length task.inputs ≤ 4096
  outputs : length task.outputs ≤ 1024
  command : length task.command ≤ 1048576
  env : env_bytes task.env ≤ 1048576

limits_by : (task : Submission) → is_short task ≡ true → Limits task
limits_by task within =
    let a = and_parts (nat_le (length task.inputs) 4096 && nat_le (length task.outputs) 1024 && nat_le (length task.command) 1048576) (nat_le (env_bytes task.env) 1048576) within in
    let b = and_parts (nat_le (length task.inputs) 4096 && nat_le (length task.outputs) 1024) (nat_le (length task.command) 1048576) a.0 in
    let d = and_parts (nat_le (length task.inputs) 4096) (nat_le (length task.outputs) 1024) b.0 in
    record {
      inputs = leb-true (length task.inputs) 4096 d.0;
      outputs = leb-true (length task.outputs) 1024 d.1;
      command = leb-true (length task.command) 1048576 b.1;
      env = leb-true (env_bytes task.env) 1048576 a.1;
    }

pub task_counts : (task : Submission) (attempt : AttemptNo) → IsShort task → HasCounts (messages.Task (task_of attempt task))
task_counts task attempt is = let l = limits_by task is.0 in (l.inputs, l.outputs)

pub task_short : (task : Submission) (attempt : AttemptNo) → IsShort task → length (spelling (messages.Task (task_of attempt task))) ≤ most_body
task_short task attempt is =
    let short = limits_by task is.0 in
    let named : AreNamed (map (λ (p : Port). p.remote) task.inputs ++ made_names task.outputs) = is.1 in
    let env = rows pair_bytes task.env in
    let inputs = rows input_bytes task.inputs in
    let outputs = rows output_bytes task.outputs in
    let l1 = length-append (big_bytes 1 3) (big_bytes 8 attempt.0 ++ (big_bytes 8 own_run ++ (counted task.command ++ (needs_bytes task.needs ++ (env ++ (inputs ++ outputs)))))) in
    let l2 = length-append (big_bytes 8 attempt.0) (big_bytes 8 own_run ++ (counted task.command ++ (needs_bytes task.needs ++ (env ++ (inputs ++ outputs))))) in
    let l3 = length-append (big_bytes 8 own_run) (counted task.command ++ (needs_bytes task.needs ++ (env ++ (inputs ++ outputs)))) in
    let l4 = length-append (counted task.command) (needs_bytes task.needs ++ (env ++ (inputs ++ outputs))) in
    let l5 = length-append (needs_bytes task.needs) (env ++ (inputs ++ outputs)) in
    let l6 = length-append env (inputs ++ outputs) in
    let l7 = length-append inputs outputs in
    let e = length-append (big_bytes 4 (length task.env)) (flat_map pair_bytes task.env) in
    let i = length-append (big_bytes 4 (length task.inputs)) (flat_map input_bytes task.inputs) in
    let o = length-append (big_bytes 4 (length task.outputs)) (flat_map output_bytes task.outputs) in
    let pairs = pairs_len task.env in
    let bytes = total-is (λ (p : Pair). length p.name + length p.value + 8) task.env in
    let ins = inputs_len task.inputs (made_names task.outputs) named in
    let outs = outputs_len task.outputs (names_right (map (λ (p : Port). p.remote) task.inputs) (made_names task.outputs) named) in
    let n = needs_len task.needs in
    let command = counted_len task.command in
    let few_in = short.inputs in
    let few_out = short.outputs in
    let few_command = short.command in
    let few_env = short.env in
    omega (arith, l1, l2, l3, l4, l5, l6, l7, e, i, o, pairs, bytes, ins, outs, n, command, few_in, few_out, few_command, few_env, len 1 3, len 8 attempt.0, len 8 own_run, len 4 (length task.env), len 4 (length task.inputs), len 4 (length task.outputs))
