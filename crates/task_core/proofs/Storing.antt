-- The account of a table holds what its files and rules say after each step.
use Rattle.std.proofs.Common.{◌≡◌, ◌≤◌, ◌<◌, ◌+◌, ◌*◌, ℕ, zero, suc, Bool, true, false, List, [], ◌∷◌, length, Option, refl, ap, sym, subst, ◌∙◌, arith}
use Rattle.std.specs.Prelude.{◌==◌, is_some, min, slice_get, slice_set, sum_by}
use Rattle.std.specs.List.{list_all}
use Rattle.std.specs.Option.{option_map_or}
use Rattle.std.proofs.Math.Nat.{min-le_right}
use Rattle.std.proofs.lemmas.Bool.{and_parts, eqb-true, eq-eqb, false_from_ne_true, leb-true}
use Rattle.flow_types.specs.declared.plan.Plan.{Plan}
use Rattle.flow_types.specs.declared.plan.Rule.{Rule}
use Rattle.flow_types.specs.declared.numbers.Content.{Content}
use Rattle.flow_types.specs.Plans.{IsValid, bound_of, maker_of, most_bytes, most_files, most_rules}
use Rattle.run_history.specs.declared.states.FileState.{FileState}
use Rattle.run_history.specs.declared.states.FileState.TheVariants as file
use Rattle.run_history.specs.Storage.{is_running_state, rule_bound, size_in}
use Rattle.storage_limit.specs.Holdings.{Holdings}
use Rattle.task_core.specs.declared.rows.RuleRow.{RuleRow}
use Rattle.task_core.specs.Accounts.{bytes_in, holdings_of, state_in, stored_in}
use Rattle.task_core.specs.Known.{Known, reserved_sum, runs_now, stored_sum}
use Rattle.task_core.specs.States.{TableState, known_in, state_of}
use Rattle.task_core.specs.Stands.{with_row}
use Rattle.task_core.proofs.Keeping.{others_run}
use Rattle.task_core.proofs.Mirroring.{row_is, state_is}
use Rattle.task_core.proofs.Sums.{sum-changed, sum-holds, sum-joined, sum-most, sum-none}

abbrev pub held : Option ℕ → ℕ → ℕ → Holdings
held limit stored reserved = record { limit = limit; stored = stored; reserved = reserved }

-- an account that says each of the three holds what the table knows
pub holdings-are : (A : Holdings) (K : Known) → A.limit ≡ K.limit → A.stored ≡ stored_sum K → A.reserved ≡ reserved_sum K → A ≡ holdings_of K
holdings-are A K limit stored reserved =
    ap (λ l. held l A.stored A.reserved) limit ∙ ap (λ n. held K.limit n A.reserved) stored ∙ ap (λ n. held K.limit (stored_sum K) n) reserved

-- a rule runs from now on
pub reserved-more : (t : TableState) (r : ℕ) (row : RuleRow) → r < length t.plan.rules → r < length t.rules → runs_now (known_in t) r ≡ false → is_running_state (state_of t.retries row) ≡ true
    → reserved_sum (known_in (with_row t r row)) ≡ reserved_sum (known_in t) + rule_bound t.plan r
reserved-more t r row inside within idle starts =
    sum-joined (rule_bound t.plan) (runs_now (known_in t)) (runs_now (known_in (with_row t r row))) r (length t.plan.rules) idle
    (ap (λ (w : RuleRow). is_running_state (state_of t.retries w)) (row_is t.rules r r row true (eq-eqb r r refl) within) ∙ starts) inside
    (λ x apart. others_run t r row t.starts within x (false_from_ne_true (r == x) (λ is. apart (eqb-true r x is))))

-- a rule runs no more
pub reserved-less : (t : TableState) (r : ℕ) (row : RuleRow) → r < length t.plan.rules → r < length t.rules → runs_now (known_in t) r ≡ true → is_running_state (state_of t.retries row) ≡ false
    → reserved_sum (known_in t) ≡ reserved_sum (known_in (with_row t r row)) + rule_bound t.plan r
reserved-less t r row inside within runs ends =
    sum-joined (rule_bound t.plan) (runs_now (known_in (with_row t r row))) (runs_now (known_in t)) r (length t.plan.rules)
    (ap (λ (w : RuleRow). is_running_state (state_of t.retries w)) (row_is t.rules r r row true (eq-eqb r r refl) within) ∙ ends) runs inside
    (λ x apart. sym (others_run t r row t.starts within x (false_from_ne_true (r == x) (λ is. apart (eqb-true r x is)))))

-- a running rule's bound is among what is reserved
pub reserved-holds : (t : TableState) (r : ℕ) → r < length t.plan.rules → runs_now (known_in t) r ≡ true → rule_bound t.plan r ≤ reserved_sum (known_in t)
reserved-holds t r inside runs = sum-holds (rule_bound t.plan) (runs_now (known_in t)) r (length t.plan.rules) runs inside

-- where nothing runs nothing is reserved
pub reserved-none : (t : TableState) → ((r : ℕ) → runs_now (known_in t) r ≡ false) → reserved_sum (known_in t) ≡ 0
reserved-none t idle = sum-none (rule_bound t.plan) (runs_now (known_in t)) (length t.plan.rules) (λ r runs. absurd (let none : false ≡ true = sym (idle r) ∙ runs in false_is none))
  where
    false_is : false ≡ true → ⊥
    false_is is = absurd cc

-- one made file is in another state
pub stored-changed : (P : Plan) (states : List FileState) (f : ℕ) (state : FileState) → is_some (maker_of P f) ≡ true → f < length P.files → f < length states
    → stored_in P (slice_set states f state) + bytes_in states f ≡ stored_in P states + option_map_or (λ size. size) (size_in state) 0
stored-changed P states f state made inside within =
    let all = sum-changed (bytes_in (slice_set states f state)) (bytes_in states) (λ g. is_some (maker_of P g)) f (length P.files) made inside
    (λ g apart. ap (λ s. option_map_or (λ size. size) (size_in s) 0) (state_is states f g state false (false_from_ne_true (f == g) (λ is. apart (eqb-true f g is))) within)) in
    let here : bytes_in (slice_set states f state) f ≡ option_map_or (λ size. size) (size_in state) 0 =
    ap (λ s. option_map_or (λ size. size) (size_in s) 0) (state_is states f f state true (eq-eqb f f refl) within) in
    omega (arith, all, here)

-- the bytes of a made file are among what is stored
pub stored-holds : (P : Plan) (states : List FileState) (f : ℕ) → is_some (maker_of P f) ≡ true → f < length P.files → bytes_in states f ≤ stored_in P states
stored-holds P states f made inside = sum-holds (bytes_in states) (λ g. is_some (maker_of P g)) f (length P.files) made inside

-- where no made file is present nothing is stored
pub stored-none : (P : Plan) (states : List FileState) → ((f : ℕ) → is_some (maker_of P f) ≡ true → state_in states f ≡ file.Absent) → stored_in P states ≡ 0
stored-none P states absent = sum-none (bytes_in states) (λ g. is_some (maker_of P g)) (length P.files) (λ f made. ap (λ s. option_map_or (λ size. size) (size_in s) 0) (absent f made))

pub stored-most : (P : Plan) (states : List FileState) → IsValid P → ((f : ℕ) → bytes_in states f ≤ most_bytes) → stored_in P states ≤ most_bytes * most_files
stored-most P states valid small =
    let most : stored_in P states ≤ length P.files * most_bytes = sum-most (bytes_in states) (λ g. is_some (maker_of P g)) most_bytes (length P.files) small in
    let few : length P.files ≤ most_files = leb-true (length P.files) most_files valid.few_files in
    omega (arith, most, few)

rule_small : (P : Plan) (rules : List Rule) (r : ℕ) → list_all (λ row. row.bound == min (sum_by (λ port. bound_of P port.file.0) row.outputs) most_bytes) rules ≡ true
    → option_map_or (λ rule. rule.bound) (slice_get rules r) 0 ≤ most_bytes
rule_small P [] r all = omega arith
rule_small P (rule ∷ rules) zero all =
    let here : rule.bound ≡ min (sum_by (λ port. bound_of P port.file.0) rule.outputs) most_bytes =
    eqb-true rule.bound (min (sum_by (λ port. bound_of P port.file.0) rule.outputs) most_bytes) (and_parts _ _ all).0 in
    omega (arith, here, min-le_right (sum_by (λ port. bound_of P port.file.0) rule.outputs) most_bytes)
rule_small P (rule ∷ rules) (suc r) all = rule_small P rules r (and_parts _ _ all).1

pub reserved-most : (t : TableState) → IsValid t.plan → reserved_sum (known_in t) ≤ most_bytes * most_rules
reserved-most t valid =
    let most : reserved_sum (known_in t) ≤ length t.plan.rules * most_bytes =
    sum-most (rule_bound t.plan) (runs_now (known_in t)) most_bytes (length t.plan.rules) (λ r. rule_small t.plan t.plan.rules r valid.rule_bounds) in
    let few : length t.plan.rules ≤ most_rules = leb-true (length t.plan.rules) most_rules valid.few_rules in
    omega (arith, most, few)

-- each output's bytes take the place of those that its file had
pub stored-step : (P : Plan) (states after : List FileState) (g : ℕ) (c : Content) (A B now : Holdings) → is_some (maker_of P g) ≡ true → g < length P.files → g < length states
    → after ≡ slice_set states g (file.Present c) → now ≡ record A { stored = stored_in P states } → B.stored + bytes_in states g ≡ now.stored + c.size → B ≡ record now { stored = B.stored }
    → B ≡ record A { stored = stored_in P after }
stored-step P states after g c A B now made inside within put before change rest =
    let other = stored-changed P states g (file.Present c) made inside within in
    let was : now.stored ≡ stored_in P states = ap (λ (H : Holdings). H.stored) before in
    let so : B.stored ≡ stored_in P (slice_set states g (file.Present c)) = omega (arith, change, other, was) in
    rest ∙ ap (λ (H : Holdings). held H.limit B.stored H.reserved) before ∙ ap (λ n. held A.limit n A.reserved) (so ∙ ap (stored_in P) (sym put))

pub small-step : (states after : List FileState) (g f : ℕ) (c : Content) → c.size ≤ most_bytes → g < length states → after ≡ slice_set states g (file.Present c) → ((x : ℕ) → bytes_in states x ≤ most_bytes)
    → bytes_in after f ≤ most_bytes
small-step states after g f c few within put small = small_by states after g f c (g == f) refl few within put small
  where
    small_by : (states after : List FileState) (g f : ℕ) (c : Content) (b : Bool) → (g == f) ≡ b → c.size ≤ most_bytes → g < length states → after ≡ slice_set states g (file.Present c)
        → ((x : ℕ) → bytes_in states x ≤ most_bytes) → bytes_in after f ≤ most_bytes
    small_by states after g f c true same few within put small =
        subst (λ n. n ≤ most_bytes) (sym (ap (λ (xs : List FileState). bytes_in xs f) put ∙ ap (λ s. option_map_or (λ size. size) (size_in s) 0) (state_is states g f (file.Present c) true same within))) few
    small_by states after g f c false other few within put small =
        subst (λ n. n ≤ most_bytes) (sym (ap (λ (xs : List FileState). bytes_in xs f) put ∙ ap (λ s. option_map_or (λ size. size) (size_in s) 0) (state_is states g f (file.Present c) false other within))) (small f)
