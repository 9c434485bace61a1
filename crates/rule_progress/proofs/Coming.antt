-- Files that come and go, and a run that is opened.
use Rattle.std.proofs.Common.{◌≡◌, ℕ, zero, suc, ◌+◌, ◌*◌, ◌<◌, ◌≤◌, ◌∙◌, Bool, true, false, cond, not, ◌||◌, Option, Some, None, List, [], ◌∷◌, length, map, replicate, refl, ap, sym, subst, arith}
use Rattle.std.specs.Prelude.{◌==◌, count_by, filter, is_some, nat_lt, slice_index_or, sum_by}
use Rattle.std.specs.Option.{option_map_or}
use Rattle.std.specs.List.{AllWithin, range_with_len}
use Rattle.std.proofs.lemmas.Bool.{eqb-true, eqb-false, eq-eqb, false_from_ne_true, le-leb, lt-leb, ltb-true, ltb-false, true≢false}
use Rattle.std.proofs.Math.Nat.{mul-le-mul_right}
use Rattle.std.proofs.lemmas.List.Sums.{sum_by-cons, count_by-le-length}
use Rattle.flow_types.specs.declared.plan.Plan.{Plan}
use Rattle.flow_types.specs.Plans.{IsValid, contains_number, most_bytes, most_inputs, numbers, rule_numbers, takes}
use Rattle.run_history.specs.declared.options.Options.{Options}
use mathlib.Core.Path.{fun_ext}
use Rattle.file_states.specs.States.{size_at}
use Rattle.run_history.specs.declared.states.FileState.{FileState}
use Rattle.run_history.specs.declared.states.RuleState.{RuleState}
use Rattle.run_history.specs.declared.states.RuleState.TheVariants as rule
use Rattle.run_history.specs.Storage.{is_complete_state, is_failed_state, is_running_state, is_waiting_state}
use Rattle.flow_types.specs.declared.numbers.RuleNo.{RuleNo}
use Rattle.ready_rules.specs.Lines.{Line, number}
use Rattle.ready_rules.specs.Pendings.{Pending, no_weight, waits_in}
use Rattle.ready_rules.specs.Takings.{AreTakers, HaveCome, takers_in, times}
use Rattle.std.proofs.lemmas.List.FromFn.{get_or-map-range_with_len, length-map-range_with_len}
use Rattle.ready_rules.proofs.Filtering.{filter-same}
use Rattle.rule_progress.specs.Progress.{HasGot, HasInputs, HasOpened, IsProgress, IsSame, Knows, MayCome, MayGo, Progressing, SameBut, bytes_by, first_sizes, is_lacking, need_of, passing, sizes_in, with_size}
use Rattle.rule_progress.proofs.Filling.{takes-past}
use Rattle.rule_progress.proofs.Needing.{takes-most}

-- two sums over a list whose terms differ at one number
sum-differs : (a b : ℕ → ℕ) (f d : ℕ) → a f ≡ b f + d → ((x : ℕ) → (x ≡ f → ⊥) → a x ≡ b x) → (xs : List ℕ) → sum_by a xs ≡ sum_by b xs + times f xs * d
sum-differs a b f d here others [] = let none : 0 ≡ 0 + 0 * d = omega arith in none
sum-differs a b f d here others (x ∷ xs) = by_first (x == f) refl (sum-differs a b f d here others xs)
  where
    first : sum_by a (x ∷ xs) ≡ a x + sum_by a xs
    first = sum_by-cons a x xs

    second : sum_by b (x ∷ xs) ≡ b x + sum_by b xs
    second = sum_by-cons b x xs

    by_first : (c : Bool) → (x == f) ≡ c → sum_by a xs ≡ sum_by b xs + times f xs * d → sum_by a (x ∷ xs) ≡ sum_by b (x ∷ xs) + times f (x ∷ xs) * d
    by_first true same rest =
        let is : x ≡ f = eqb-true x f same in
        let more : times f (x ∷ xs) ≡ 1 + times f xs = ap (λ c. cond c 1 0 + times f xs) same in
        let product : times f (x ∷ xs) * d ≡ d + times f xs * d = ap (λ n. n * d) more ∙ (let out : (1 + times f xs) * d ≡ d + times f xs * d = omega arith in out) in
        let at : a x ≡ b x + d = ap a is ∙ here ∙ ap (λ n. b n + d) (sym is) in
        omega (arith, first, second, rest, product, at)
    by_first false other rest =
        let more : times f (x ∷ xs) ≡ times f xs = ap (λ c. cond c 1 0 + times f xs) other ∙ (let none : 0 + times f xs ≡ times f xs = omega arith in none) in
        let product : times f (x ∷ xs) * d ≡ times f xs * d = ap (λ n. n * d) more in
        let at : a x ≡ b x = others x (eqb-false x f other) in
        omega (arith, first, second, rest, product, at)

abbrev one_lacks : Option ℕ → ℕ
one_lacks o = cond (not (is_some o)) 1 0

-- how many ports lack a file before one comes and after
lacks-differ : (before after : ℕ → Option ℕ) (f size : ℕ) → before f ≡ None → after f ≡ Some size → SameBut before after f → (xs : List ℕ) → count_by (is_lacking before) xs ≡ count_by (is_lacking after) xs + times f xs
lacks-differ before after f size gone there same xs =
    let here : one_lacks (before f) ≡ one_lacks (after f) + 1 =
    (let first : one_lacks (before f) ≡ 1 = ap one_lacks gone in let second : one_lacks (after f) ≡ 0 = ap one_lacks there in omega (arith, first, second)) in
    let one : times f xs * 1 ≡ times f xs = omega arith in
    sum-differs (λ g. one_lacks (before g)) (λ g. one_lacks (after g)) f 1 here (λ g apart. ap one_lacks (sym (same g apart))) xs ∙ ap (λ n. sum_by (λ g. one_lacks (after g)) xs + n) one

abbrev bytes_in : Option ℕ → ℕ
bytes_in o = option_map_or (λ n. n) o 0

-- and the bytes
bytes-differ : (before after : ℕ → Option ℕ) (f size : ℕ) → before f ≡ None → after f ≡ Some size → SameBut before after f → (xs : List ℕ) → sum_by (bytes_by after) xs ≡ sum_by (bytes_by before) xs + times f xs * size
bytes-differ before after f size gone there same xs =
    let none : bytes_by before f ≡ 0 = ap bytes_in gone in
    let some : bytes_by after f ≡ size = ap bytes_in there in
    sum-differs (bytes_by after) (bytes_by before) f size (omega (arith, none, some)) (λ g apart. ap bytes_in (same g apart)) xs

-- a file comes
pub inputs-come : (P : Plan) (before after : ℕ → Option ℕ) (T : List (List ℕ)) (W U : Pending) (f size : ℕ) → before f ≡ None → after f ≡ Some size → SameBut before after f → AreTakers P T
    → HaveCome W (takers_in T f) size U → HasInputs P before W → HasInputs P after U
inputs-come P before after T W U f size gone there same takers come has = record {
  lacks = λ r. omega (arith, lacks-differ before after f size gone there same (takes P r), come.lacks r, has.lacks r, takers.ports f r);
  bytes = λ r.
      let product : times r (takers_in T f) * size ≡ times f (takes P r) * size = ap (λ n. n * size) (takers.ports f r) in
      omega (arith, bytes-differ before after f size gone there same (takes P r), product, come.bytes r, has.bytes r);
}

-- a file goes
pub inputs-go : (P : Plan) (before after : ℕ → Option ℕ) (T : List (List ℕ)) (W U : Pending) (f size : ℕ) → before f ≡ Some size → after f ≡ None → SameBut after before f → AreTakers P T
    → HaveCome U (takers_in T f) size W → HasInputs P before W → HasInputs P after U
inputs-go P before after T W U f size there gone same takers come has = record {
  lacks = λ r. omega (arith, lacks-differ after before f size gone there same (takes P r), come.lacks r, has.lacks r, takers.ports f r);
  bytes = λ r.
      let product : times r (takers_in T f) * size ≡ times f (takes P r) * size = ap (λ n. n * size) (takers.ports f r) in
      omega (arith, bytes-differ after before f size gone there same (takes P r), product, come.bytes r, has.bytes r);
}

-- one size is changed
pub with-here : (sizes : ℕ → Option ℕ) (f : ℕ) (size : Option ℕ) → with_size sizes f size f ≡ size
with-here sizes f size = ap (λ b. cond b size (sizes f)) (eq-eqb f f refl)

pub with-others : (sizes : ℕ → Option ℕ) (f : ℕ) (size : Option ℕ) → SameBut sizes (with_size sizes f size) f
with-others sizes f size g apart = by_test (g == f) refl
  where
    by_test : (b : Bool) → (g == f) ≡ b → cond (g == f) size (sizes g) ≡ sizes g
    by_test true same = absurd (apart (eqb-true g f same))
    by_test false other = ap (λ b. cond b size (sizes g)) other

times_most : (f : ℕ) (xs : List ℕ) → times f xs ≤ length xs
times_most f [] = omega arith
times_most f (x ∷ xs) = one (x == f) (times_most f xs)
  where
    one : (b : Bool) → times f xs ≤ length xs → cond b 1 0 + times f xs ≤ suc (length xs)
    one true rest = omega (arith, rest)
    one false rest = omega (arith, rest)

sum_most : (a : ℕ → ℕ) (m : ℕ) → ((x : ℕ) → a x ≤ m) → (xs : List ℕ) → sum_by a xs ≤ length xs * m
sum_most a m each [] = omega arith
sum_most a m each (x ∷ xs) =
    let product : suc (length xs) * m ≡ m + length xs * m = grind arith in
    omega (arith, sum_by-cons a x xs, each x, sum_most a m each xs, product)

-- a rule that takes a file stands in the plan
taker-inside : (P : Plan) (T : List (List ℕ)) (f r n : ℕ) → AreTakers P T → n ≡ length P.rules → 1 ≤ times r (takers_in T f) → r < n
taker-inside P T f r n takers is some = by_test (nat_lt r n) refl
  where
    by_test : (b : Bool) → nat_lt r n ≡ b → r < n
    by_test true less = ltb-true r n less
    by_test false far =
        let past : n ≤ r = ltb-false r n far in
        let none : times f (takes P r) ≡ 0 = ap (times f) (takes-past P r (omega (arith, past, is))) in
        absurd (let wrong : ⊥ = omega (arith, some, takers.ports f r, none) in wrong)

-- a file that isn't there may come
pub may-come : (P : Plan) (sizes : ℕ → Option ℕ) (V : Progressing) (f size : ℕ) → IsValid P → f < length P.files → AreTakers P V.takers → length V.pending.waits ≡ length P.rules → HasInputs P sizes V.pending
    → sizes f ≡ None → size ≤ most_bytes → ((g : ℕ) → bytes_by sizes g ≤ most_bytes) → MayCome V f size
may-come P sizes V f size valid inside takers rules has gone small others = record {
  file = omega (arith, inside, takers.files);
  inside = λ r some. taker-inside P V.takers f r (length V.pending.waits) takers rules some;
  lacks = λ r.
      omega (arith, lacks-differ sizes after f size gone (with-here sizes f (Some size)) (with-others sizes f (Some size)) (takes P r), has.lacks r, takers.ports f r);
  few = λ r.
      let product : times r (takers_in V.takers f) * size ≡ times f (takes P r) * size = ap (λ n. n * size) (takers.ports f r) in
      let most : sum_by (bytes_by after) (takes P r) ≤ length (takes P r) * most_bytes = sum_most (bytes_by after) most_bytes (λ g. each g (g == f) refl) (takes P r) in
      let grows : length (takes P r) * most_bytes ≤ most_inputs * most_bytes = mul-le-mul_right most_bytes (takes-most P r valid) in
      omega (arith, bytes-differ sizes after f size gone (with-here sizes f (Some size)) (with-others sizes f (Some size)) (takes P r), product, most, grows, has.bytes r);
}
  where
    after : ℕ → Option ℕ
    after = with_size sizes f (Some size)

    each : (g : ℕ) (b : Bool) → (g == f) ≡ b → bytes_by (with_size sizes f (Some size)) g ≤ most_bytes
    each g true same = let is : bytes_by (with_size sizes f (Some size)) g ≡ size = ap (λ b. bytes_in (cond b (Some size) (sizes g))) same in omega (arith, is, small)
    each g false other = let is : bytes_by (with_size sizes f (Some size)) g ≡ bytes_by sizes g = ap (λ b. bytes_in (cond b (Some size) (sizes g))) other in omega (arith, is, others g)

-- a file that is there may go
pub may-go : (P : Plan) (sizes : ℕ → Option ℕ) (V : Progressing) (f size : ℕ) → IsValid P → f < length P.files → AreTakers P V.takers → length V.pending.waits ≡ length P.rules → HasInputs P sizes V.pending
    → sizes f ≡ Some size → MayGo V f size
may-go P sizes V f size valid inside takers rules has there = record {
  file = omega (arith, inside, takers.files);
  inside = λ r some. taker-inside P V.takers f r (length V.pending.waits) takers rules some;
  room = λ r.
      omega (arith, has.lacks r, takers.ports f r, takes-most P r valid, times_most f (takes P r), count_by-le-length (is_lacking sizes) (takes P r));
  some = λ r.
      let product : times r (takers_in V.takers f) * size ≡ times f (takes P r) * size = ap (λ n. n * size) (takers.ports f r) in
      omega (arith, bytes-differ after sizes f size (with-here sizes f None) there (λ g apart. sym (with-others sizes f None g apart)) (takes P r), product, has.bytes r);
}
  where
    after : ℕ → Option ℕ
    after = with_size sizes f None

-- what is kept once a file has come
pub got : (P : Plan) (O : Options) (states : ℕ → RuleState) (before after : ℕ → Option ℕ) (V U : Progressing) → HasInputs P after U.pending → U.pending.needs ≡ V.pending.needs → U.pending.waits ≡ V.pending.waits
    → U ≡ record V { pending = U.pending } → IsProgress P O states before V → IsProgress P O states after U
got P O states before after V U has needs waits rest is = record {
  takers = subst (AreTakers P) (sym (ap (λ (X : Progressing). X.takers) rest)) is.takers;
  inputs = has;
  rules = record {
    rules = ap length waits ∙ is.rules.rules;
    needs = λ r inside. ap (λ ws. slice_index_or ws r no_weight) needs ∙ is.rules.needs r inside;
    waits = λ r inside. ap (λ ws. slice_index_or ws r false) waits ∙ is.rules.waits r inside;
  };
  running = ap (λ (X : Progressing). X.running) rest ∙ is.running;
  failed = ap (λ (X : Progressing). X.failed) rest ∙ is.failed;
  done = ap (λ (X : Progressing). X.done) rest ∙ is.done;
}

apart_test : (a r : ℕ) → (a ≡ r → ⊥) → (a == r) ≡ false
apart_test a r apart = false_from_ne_true (a == r) (λ same. apart (eqb-true a r same))

keep : (t : ℕ → Bool) (a : ℕ) (xs : List ℕ) (b : Bool) → t a ≡ b → filter t (a ∷ xs) ≡ cond b (a ∷ filter t xs) (filter t xs)
keep t a xs b is = ap (λ c. cond c (a ∷ filter t xs) (filter t xs)) is

before_by : (t : ℕ → Bool) (r a n : ℕ) → r < a → contains_number r (filter t (range_with_len (a + 1) n)) ≡ false → (b : Bool) → t a ≡ b → contains_number r (filter t (a ∷ range_with_len (a + 1) n)) ≡ false
before_by t r a n below rest true is =
    ap (contains_number r) (keep t a (range_with_len (a + 1) n) true is) ∙ ap (λ c. c || contains_number r (filter t (range_with_len (a + 1) n))) (apart_test a r (λ same. let wrong : ⊥ = omega (arith, below, same) in wrong)) ∙ rest
before_by t r a n below rest false is = ap (contains_number r) (keep t a (range_with_len (a + 1) n) false is) ∙ rest

none-before : (t : ℕ → Bool) (r a n : ℕ) → r < a → contains_number r (filter t (range_with_len a n)) ≡ false
none-before t r a zero below = refl
none-before t r a (suc n) below = before_by t r a n below (none-before t r (a + 1) n (omega (arith, below))) (t a) refl

here_by : (t : ℕ → Bool) (r a n : ℕ) → a ≡ r → (b : Bool) → t a ≡ b → contains_number r (filter t (a ∷ range_with_len (a + 1) n)) ≡ b
here_by t r a n same true is = ap (contains_number r) (keep t a (range_with_len (a + 1) n) true is) ∙ ap (λ c. c || contains_number r (filter t (range_with_len (a + 1) n))) (eq-eqb a r same)
here_by t r a n same false is = ap (contains_number r) (keep t a (range_with_len (a + 1) n) false is) ∙ none-before t r (a + 1) n (omega (arith, same))

later_by : (t : ℕ → Bool) (r a n : ℕ) → (a ≡ r → ⊥) → contains_number r (filter t (range_with_len (a + 1) n)) ≡ t r → (b : Bool) → t a ≡ b → contains_number r (filter t (a ∷ range_with_len (a + 1) n)) ≡ t r
later_by t r a n apart rest true is = ap (contains_number r) (keep t a (range_with_len (a + 1) n) true is) ∙ ap (λ c. c || contains_number r (filter t (range_with_len (a + 1) n))) (apart_test a r apart) ∙ rest
later_by t r a n apart rest false is = ap (contains_number r) (keep t a (range_with_len (a + 1) n) false is) ∙ rest

range_by : (t : ℕ → Bool) (r a n : ℕ) → a ≤ r → (a < r → contains_number r (filter t (range_with_len (a + 1) n)) ≡ t r) → (b : Bool) → (a == r) ≡ b → contains_number r (filter t (a ∷ range_with_len (a + 1) n)) ≡ t r
range_by t r a n low rest true same = here_by t r a n (eqb-true a r same) (t a) refl ∙ ap t (eqb-true a r same)
range_by t r a n low rest false other =
    let apart : a ≡ r → ⊥ = eqb-false a r other in
    later_by t r a n apart (rest (let less : a < r = omega (arith, low, apart) in less)) (t a) refl

-- a number of a range stands among those that pass exactly where it passes
contains-range : (t : ℕ → Bool) (r a n : ℕ) → a ≤ r → r < a + n → contains_number r (filter t (range_with_len a n)) ≡ t r
contains-range t r a zero low high = absurd (let wrong : ⊥ = omega (arith, low, high) in wrong)
contains-range t r a (suc n) low high = range_by t r a n low (λ less. contains-range t r (a + 1) n (omega (arith, less)) (omega (arith, high))) (a == r) refl

past_by : (t : ℕ → Bool) (r a n : ℕ) → a + suc n ≤ r → contains_number r (filter t (range_with_len (a + 1) n)) ≡ false → (b : Bool) → t a ≡ b → contains_number r (filter t (a ∷ range_with_len (a + 1) n)) ≡ false
past_by t r a n past rest true is =
    ap (contains_number r) (keep t a (range_with_len (a + 1) n) true is) ∙ ap (λ c. c || contains_number r (filter t (range_with_len (a + 1) n))) (apart_test a r (λ same. let wrong : ⊥ = omega (arith, past, same) in wrong)) ∙ rest
past_by t r a n past rest false is = ap (contains_number r) (keep t a (range_with_len (a + 1) n) false is) ∙ rest

none-past : (t : ℕ → Bool) (r a n : ℕ) → a + n ≤ r → contains_number r (filter t (range_with_len a n)) ≡ false
none-past t r a zero past = refl
none-past t r a (suc n) past = past_by t r a n past (none-past t r (a + 1) n (omega (arith, past))) (t a) refl

-- a number that stands among those of a plan's rules that pass is one of its rules
pub passing-inside : (P : Plan) (t : ℕ → Bool) (r n : ℕ) → n ≡ length P.rules → contains_number r (passing P t) ≡ true → r < n
passing-inside P t r n is stands = by_test (nat_lt r n) refl
  where
    by_test : (b : Bool) → nat_lt r n ≡ b → r < n
    by_test true less = ltb-true r n less
    by_test false far =
        let past : n ≤ r = ltb-false r n far in
        absurd (true≢false (sym stands ∙ none-past t r 0 (length P.rules) (omega (arith, past, is))))

kinds : (s : RuleState) → is_complete_state s ≡ false → (is_waiting_state s || (is_running_state s || is_failed_state s)) ≡ true
kinds rule.Waiting is = refl
kinds (rule.Running attempt) is = refl
kinds rule.Complete is = absurd (true≢false is)
kinds rule.Failed is = refl

kinds_done : (s : RuleState) → is_complete_state s ≡ true → (is_waiting_state s || (is_running_state s || is_failed_state s)) ≡ false
kinds_done rule.Waiting is = absurd (true≢false (sym is))
kinds_done (rule.Running attempt) is = absurd (true≢false (sym is))
kinds_done rule.Complete is = refl
kinds_done rule.Failed is = absurd (true≢false (sym is))

opened_state : (s after : RuleState) → (is_complete_state s ≡ true → after ≡ rule.Complete) → (is_complete_state s ≡ false → after ≡ rule.Waiting) → (b : Bool) → is_complete_state s ≡ b
    → ((is_waiting_state s || (is_running_state s || is_failed_state s)) ≡ is_waiting_state after) × (is_running_state after ≡ false) × (is_failed_state after ≡ false) × (is_complete_state s ≡ is_complete_state after)
opened_state s after done others true is =
    let now : after ≡ rule.Complete = done is in
    (kinds_done s is ∙ sym (ap is_waiting_state now), ap is_running_state now, ap is_failed_state now, is ∙ sym (ap is_complete_state now))
opened_state s after done others false is =
    let now : after ≡ rule.Waiting = others is in
    (kinds s is ∙ sym (ap is_waiting_state now), ap is_running_state now, ap is_failed_state now, is ∙ sym (ap is_complete_state now))

none_pass : (t : ℕ → Bool) (a n : ℕ) → ((r : ℕ) → r < a + n → t r ≡ false) → filter t (range_with_len a n) ≡ []
none_pass t a zero none = refl
none_pass t a (suc n) none = keep t a (range_with_len (a + 1) n) false (none a (omega arith)) ∙ none_pass t (a + 1) n (λ r less. none r (omega (arith, less)))

-- a run is opened: what isn't complete waits
pub opened : (P : Plan) (O : Options) (states after : ℕ → RuleState) (sizes : ℕ → Option ℕ) (V U : Progressing) → ((r : ℕ) → r < length P.rules → is_complete_state (states r) ≡ true → after r ≡ rule.Complete)
    → ((r : ℕ) → r < length P.rules → is_complete_state (states r) ≡ false → after r ≡ rule.Waiting) → HasOpened V U → IsProgress P O states sizes V → IsProgress P O after sizes U
opened P O states after sizes V U dones others open_is is = record {
  takers = subst (AreTakers P) (sym open_is.takers) is.takers;
  inputs = record {
    lacks = λ r. ap (λ xs. slice_index_or xs r 0) open_is.lacks ∙ is.inputs.lacks r;
    bytes = λ r. ap (λ xs. slice_index_or xs r 0) open_is.bytes ∙ is.inputs.bytes r;
  };
  rules = record {
    rules = open_is.same ∙ is.rules.rules;
    needs = λ r inside. ap (λ ws. slice_index_or ws r no_weight) open_is.needs ∙ is.rules.needs r inside;
    waits = λ r inside.
        open_is.waits r ∙ ap (λ b. b || (contains_number r V.running.numbers || contains_number r V.failed.numbers)) (is.rules.waits r inside)
        ∙ ap (λ b. is_waiting_state (states r) || (b || contains_number r V.failed.numbers)) (ap (λ (l : Line). contains_number r l.numbers) is.running ∙ contains-range (λ q. is_running_state (states q)) r 0 (length P.rules) (omega arith) (omega (arith, inside)))
        ∙ ap (λ b. is_waiting_state (states r) || (is_running_state (states r) || b)) (ap (λ (l : Line). contains_number r l.numbers) is.failed ∙ contains-range (λ q. is_failed_state (states q)) r 0 (length P.rules) (omega arith) (omega (arith, inside)))
        ∙ (each r inside).0;
  };
  running = open_is.running ∙ ap (λ (l : Line). no_line l.places) is.running ∙ sym (ap (a_line (length P.rules)) (none_pass (λ q. is_running_state (after q)) 0 (length P.rules) (λ r inside. (each r (omega (arith, inside))).1)));
  failed = open_is.failed ∙ ap (λ (l : Line). no_line l.places) is.failed ∙ sym (ap (a_line (length P.rules)) (none_pass (λ q. is_failed_state (after q)) 0 (length P.rules) (λ r inside. (each r (omega (arith, inside))).2)));
  done = open_is.done ∙ is.done ∙ ap length (filter-same (λ q. is_complete_state (states q)) (λ q. is_complete_state (after q)) 0 (length P.rules) (λ r low inside. (each r (omega (arith, inside))).3));
}
  where
    a_line : ℕ → List ℕ → Line
    a_line n xs = record { numbers = xs; places = n }

    no_line : ℕ → Line
    no_line n = record { numbers = []; places = n }

    each : (r : ℕ) → r < length P.rules
        → ((is_waiting_state (states r) || (is_running_state (states r) || is_failed_state (states r))) ≡ is_waiting_state (after r)) × (is_running_state (after r) ≡ false) × (is_failed_state (after r) ≡ false) × (is_complete_state (states r) ≡ is_complete_state (after r))
    each r inside = opened_state (states r) (after r) (dones r inside) (others r inside) (is_complete_state (states r)) refl

replicated : (n r x d : ℕ) → r < n → slice_index_or (replicate n x) r d ≡ x
replicated zero r x d less = absurd (let wrong : ⊥ = omega (arith, less) in wrong)
replicated (suc n) zero x d less = refl
replicated (suc n) (suc r) x d less = replicated n r x d (omega (arith, less))

all_lack : (sizes : ℕ → Option ℕ) → ((f : ℕ) → sizes f ≡ None) → (xs : List ℕ) → count_by (is_lacking sizes) xs ≡ length xs
all_lack sizes none [] = refl
all_lack sizes none (x ∷ xs) =
    let one : one_lacks (sizes x) ≡ 1 = ap one_lacks (none x) in
    let first : count_by (is_lacking sizes) (x ∷ xs) ≡ one_lacks (sizes x) + count_by (is_lacking sizes) xs = sum_by-cons (λ g. one_lacks (sizes g)) x xs in
    omega (arith, first, one, all_lack sizes none xs)

no_bytes : (sizes : ℕ → Option ℕ) → ((f : ℕ) → sizes f ≡ None) → (xs : List ℕ) → sum_by (bytes_by sizes) xs ≡ 0
no_bytes sizes none [] = refl
no_bytes sizes none (x ∷ xs) =
    let here : bytes_by sizes x ≡ 0 = ap bytes_in (none x) in
    omega (arith, sum_by-cons (bytes_by sizes) x xs, here, no_bytes sizes none xs)

abbrev zeros_of : ℕ → List ℕ
zeros_of n = replicate n 0

zeros : (n r : ℕ) → slice_index_or (zeros_of n) r 0 ≡ 0
zeros zero r = refl
zeros (suc n) zero = refl
zeros (suc n) (suc r) = zeros n r

read-numbers : {X : Type 0} (g : ℕ → X) (n r : ℕ) (d : X) → r < n → slice_index_or (map g (numbers n)) r d ≡ g r
read-numbers g n r d less = get_or-map-range_with_len g 0 n r r d less (let same : 0 + r ≡ r = omega arith in same)

-- at first all rules wait, and no file is there
pub first-progress : (P : Plan) (O : Options) (states : ℕ → RuleState) (sizes : ℕ → Option ℕ) (V : Progressing) → ((r : ℕ) → r < length P.rules → states r ≡ rule.Waiting) → ((f : ℕ) → sizes f ≡ None) → AreTakers P V.takers
    → V.pending.needs ≡ map (need_of P O) (rule_numbers P) → V.pending.lacks ≡ map (λ r. length (takes P r)) (rule_numbers P) → V.pending.bytes ≡ replicate (length P.rules) 0 → length V.pending.waits ≡ length P.rules
    → ((r : ℕ) → r < length P.rules → waits_in V.pending r ≡ true) → V.running ≡ record { numbers = []; places = length P.rules } → V.failed ≡ record { numbers = []; places = length P.rules } → V.done ≡ 0 → IsProgress P O states sizes V
first-progress P O states sizes V waiting none takers needs lacks bytes count waits running failed done = record {
  takers = takers;
  inputs = record {
    lacks = λ r. ap (λ xs. slice_index_or xs r 0) lacks ∙ ports r (nat_lt r (length P.rules)) refl ∙ sym (all_lack sizes none (takes P r));
    bytes = λ r. ap (λ xs. slice_index_or xs r 0) bytes ∙ zeros (length P.rules) r ∙ sym (no_bytes sizes none (takes P r));
  };
  rules = record {
    rules = count;
    needs = λ r inside. ap (λ ws. slice_index_or ws r no_weight) needs ∙ read-numbers (need_of P O) (length P.rules) r no_weight inside;
    waits = λ r inside. waits r inside ∙ sym (ap is_waiting_state (waiting r inside));
  };
  running = running ∙ sym (ap (a_line (length P.rules)) (none_pass (λ q. is_running_state (states q)) 0 (length P.rules) (λ r inside. ap is_running_state (waiting r (omega (arith, inside))))));
  failed = failed ∙ sym (ap (a_line (length P.rules)) (none_pass (λ q. is_failed_state (states q)) 0 (length P.rules) (λ r inside. ap is_failed_state (waiting r (omega (arith, inside))))));
  done = done ∙ sym (ap length (none_pass (λ q. is_complete_state (states q)) 0 (length P.rules) (λ r inside. ap is_complete_state (waiting r (omega (arith, inside))))));
}
  where
    a_line : ℕ → List ℕ → Line
    a_line n xs = record { numbers = xs; places = n }

    ports : (r : ℕ) (b : Bool) → nat_lt r (length P.rules) ≡ b → slice_index_or (map (λ q. length (takes P q)) (rule_numbers P)) r 0 ≡ length (takes P r)
    ports r true less = read-numbers (λ q. length (takes P q)) (length P.rules) r 0 (ltb-true r (length P.rules) less)
    ports r false far =
        let past : length P.rules ≤ r = ltb-false r (length P.rules) far in
        beyond (map (λ q. length (takes P q)) (rule_numbers P)) r (omega (arith, past, length-map-range_with_len (λ q. length (takes P q)) 0 (length P.rules))) ∙ sym (ap length (takes-past P r past))
      where
        beyond : (xs : List ℕ) (i : ℕ) → length xs ≤ i → slice_index_or xs i 0 ≡ 0
        beyond [] i le = refl
        beyond (x ∷ xs) zero le = absurd (let wrong : ⊥ = omega (arith, le) in wrong)
        beyond (x ∷ xs) (suc i) le = beyond xs i (omega (arith, le))

-- two steps that change what is kept of the files alone
pub same-after : (first second third : Progressing) → IsSame first second → IsSame second third → IsSame first third
same-after first second third one two = record {
  needs = two.needs ∙ one.needs;
  waits = two.waits ∙ one.waits;
  rest = two.rest ∙ ap (λ (X : Progressing). record X { pending = third.pending }) one.rest;
}

-- what a file that came leaves
pub come-same : (V U : Progressing) (f size : ℕ) → HasGot V f size U → IsSame V U
come-same V U f size has = record { needs = has.come.needs; waits = has.come.waits; rest = has.rest }

-- and one that went
pub go-same : (V U : Progressing) (f size : ℕ) → HasGot U f size V → IsSame V U
go-same V U f size has = record {
  needs = sym has.come.needs;
  waits = sym has.come.waits;
  rest = sym (ap (λ (X : Progressing). record X { pending = U.pending }) has.rest);
}

-- a file comes
pub come-knows : (P : Plan) (before after : ℕ → Option ℕ) (V U : Progressing) (f size : ℕ) → before f ≡ None → after f ≡ Some size → SameBut before after f → HasGot V f size U → Knows P before V → Knows P after U
come-knows P before after V U f size gone there same has knows = record {
  takers = subst (AreTakers P) (sym (ap (λ (X : Progressing). X.takers) has.rest)) knows.takers;
  inputs = inputs-come P before after V.takers V.pending U.pending f size gone there same knows.takers has.come knows.inputs;
  rules = ap length has.come.waits ∙ knows.rules;
}

-- a file goes
pub go-knows : (P : Plan) (before after : ℕ → Option ℕ) (V U : Progressing) (f size : ℕ) → before f ≡ Some size → after f ≡ None → SameBut after before f → HasGot U f size V → Knows P before V → Knows P after U
go-knows P before after V U f size there gone same has knows =
    let takers : U.takers ≡ V.takers = sym (ap (λ (X : Progressing). X.takers) has.rest) in
    record {
      takers = subst (AreTakers P) (sym takers) knows.takers;
      inputs = inputs-go P before after V.takers V.pending U.pending f size there gone same knows.takers (subst (λ T. HaveCome U.pending (takers_in T f) size V.pending) takers has.come) knows.inputs;
      rules = sym (ap length has.come.waits) ∙ knows.rules;
    }

-- the same sizes
pub knows-same : (P : Plan) (before after : ℕ → Option ℕ) (V : Progressing) → ((f : ℕ) → before f ≡ after f) → Knows P before V → Knows P after V
knows-same P before after V same knows = subst (λ s. Knows P s V) (fun_ext same) knows

-- the size of a file by its state
pub size-read : (states : List FileState) (f : ℕ) → size_at states f ≡ sizes_in states f
size-read [] f = refl
size-read (x ∷ xs) zero = refl
size-read (x ∷ xs) (suc f) = size-read xs f

pub size-none : (sizes : ℕ → Option ℕ) (f g : ℕ) → sizes f ≡ None → sizes g ≡ with_size sizes f None g
size-none sizes f g none = by_place (g == f) refl
  where
    by_place : (b : Bool) → (g == f) ≡ b → sizes g ≡ cond (g == f) None (sizes g)
    by_place true same = ap sizes (eqb-true g f same) ∙ none ∙ sym (ap (λ b. cond b None (sizes g)) same)
    by_place false other = sym (ap (λ b. cond b None (sizes g)) other)

-- a size that is set twice
pub size-twice : (sizes : ℕ → Option ℕ) (f size : ℕ) → SameBut (with_size sizes f None) (with_size sizes f (Some size)) f
size-twice sizes f size g apart = with-others sizes f (Some size) g apart ∙ sym (with-others sizes f None g apart)

first_more : (states : List FileState) (n g : ℕ) → (g ≡ n → ⊥) → first_sizes states (n + 1) g ≡ first_sizes states n g
first_more states n g apart = by_side (nat_lt g n) refl
  where
    by_side : (b : Bool) → nat_lt g n ≡ b → first_sizes states (n + 1) g ≡ first_sizes states n g
    by_side true less =
        let below : g < n = ltb-true g n less in
        ap (λ b. cond b (sizes_in states g) None) (le-leb (suc g) (n + 1) (omega (arith, below))) ∙ sym (ap (λ b. cond b (sizes_in states g) None) less)
    by_side false far =
        let past : n ≤ g = ltb-false g n far in
        ap (λ b. cond b (sizes_in states g) None) (lt-leb (suc g) (n + 1) (omega (arith, past, apart))) ∙ sym (ap (λ b. cond b (sizes_in states g) None) far)

-- one file more is looked at
pub first-others : (states : List FileState) (n : ℕ) → SameBut (first_sizes states n) (first_sizes states (n + 1)) n
first-others states n g apart = first_more states n g apart

pub first-before : (states : List FileState) (n : ℕ) → first_sizes states n n ≡ None
first-before states n = ap (λ b. cond b (sizes_in states n) None) (lt-leb (suc n) n (omega arith))

pub first-now : (states : List FileState) (n : ℕ) → first_sizes states (n + 1) n ≡ sizes_in states n
first-now states n = ap (λ b. cond b (sizes_in states n) None) (le-leb (suc n) (n + 1) (omega arith))

-- where the file isn't there the sizes are the same
pub first-same : (states : List FileState) (n g : ℕ) → sizes_in states n ≡ None → first_sizes states n g ≡ first_sizes states (n + 1) g
first-same states n g none = by_place (g == n) refl
  where
    by_place : (b : Bool) → (g == n) ≡ b → first_sizes states n g ≡ first_sizes states (n + 1) g
    by_place true same = ap (first_sizes states n) (eqb-true g n same) ∙ first-before states n ∙ sym none ∙ sym (first-now states n) ∙ ap (first_sizes states (n + 1)) (sym (eqb-true g n same))
    by_place false other = sym (first_more states n g (eqb-false g n other))

-- at first no file is there
pub first-none : (states : List FileState) (f : ℕ) → first_sizes states 0 f ≡ None
first-none states f = ap (λ b. cond b (sizes_in states f) None) (lt-leb (suc f) 0 (omega arith))

beyond_files : (states : List FileState) (f : ℕ) → length states ≤ f → sizes_in states f ≡ None
beyond_files [] f past = refl
beyond_files (x ∷ xs) zero past = absurd (let wrong : ⊥ = omega (arith, past) in wrong)
beyond_files (x ∷ xs) (suc f) past = beyond_files xs f (omega (arith, past))

-- and at last all are
pub first-all : (states : List FileState) (n f : ℕ) → length states ≤ n → first_sizes states n f ≡ sizes_in states f
first-all states n f all = by_side (nat_lt f n) refl
  where
    by_side : (b : Bool) → nat_lt f n ≡ b → first_sizes states n f ≡ sizes_in states f
    by_side true less = ap (λ b. cond b (sizes_in states f) None) less
    by_side false far =
        let past : n ≤ f = ltb-false f n far in
        ap (λ b. cond b (sizes_in states f) None) far ∙ sym (beyond_files states f (omega (arith, past, all)))

-- the first files are no larger than all
pub first-small : (states : List FileState) (n f m : ℕ) → bytes_by (sizes_in states) f ≤ m → bytes_by (first_sizes states n) f ≤ m
first-small states n f m small = by_side (nat_lt f n) refl
  where
    by_side : (b : Bool) → nat_lt f n ≡ b → bytes_by (first_sizes states n) f ≤ m
    by_side true less = let same : bytes_by (first_sizes states n) f ≡ bytes_by (sizes_in states) f = ap (λ b. bytes_in (cond b (sizes_in states f) None)) less in omega (arith, same, small)
    by_side false far = let none : bytes_by (first_sizes states n) f ≡ 0 = ap (λ b. bytes_in (cond b (sizes_in states f) None)) far in omega (arith, none)

-- sizes of which one is gone are no larger
pub without-small : (sizes : ℕ → Option ℕ) (f g m : ℕ) → bytes_by sizes g ≤ m → bytes_by (with_size sizes f None) g ≤ m
without-small sizes f g m small = by_place (g == f) refl
  where
    by_place : (b : Bool) → (g == f) ≡ b → bytes_by (with_size sizes f None) g ≤ m
    by_place true same = let none : bytes_by (with_size sizes f None) g ≡ 0 = ap (λ b. bytes_in (cond b None (sizes g))) same in omega (arith, none)
    by_place false other = let is : bytes_by (with_size sizes f None) g ≡ bytes_by sizes g = ap (λ b. bytes_in (cond b None (sizes g))) other in omega (arith, is, small)

abbrev one_if : Bool → ℕ
one_if b = cond b 1 0

counted : (rules : List RuleNo) (k : ℕ) (d : RuleNo) → k < length rules → 1 ≤ times (slice_index_or rules k d).0 (map number rules)
counted [] k d less = absurd (let wrong : ⊥ = omega (arith, less) in wrong)
counted (x ∷ xs) zero d less = let one : one_if (x.0 == x.0) ≡ 1 = ap one_if (eq-eqb x.0 x.0 refl) in omega (arith, one)
counted (x ∷ xs) (suc k) d less = let rest : 1 ≤ times (slice_index_or xs k d).0 (map number xs) = counted xs k d (omega (arith, less)) in omega (arith, rest)

-- the takers of a file are rules of the plan
pub taken-inside : (rules : List RuleNo) (taken : List ℕ) (n : ℕ) → map number rules ≡ taken → ((r : ℕ) → 1 ≤ times r taken → r < n) → AllWithin (λ (rule : RuleNo). rule.0 < n) rules 0 (length rules)
taken-inside rules taken n are each k d low high = each (slice_index_or rules k d).0 (subst (λ xs. 1 ≤ times (slice_index_or rules k d).0 xs) are (counted rules k d high))

or_late : (b : Bool) → (b || true) ≡ true
or_late true = refl
or_late false = refl

listed : (rules : List RuleNo) (k : ℕ) (d : RuleNo) → k < length rules → contains_number (slice_index_or rules k d).0 (map number rules) ≡ true
listed [] k d less = absurd (let wrong : ⊥ = omega (arith, less) in wrong)
listed (x ∷ xs) zero d less = ap (λ b. b || contains_number x.0 (map number xs)) (eq-eqb x.0 x.0 refl)
listed (x ∷ xs) (suc k) d less = ap (λ b. (x.0 == (slice_index_or xs k d).0) || b) (listed xs k d (omega (arith, less))) ∙ or_late (x.0 == (slice_index_or xs k d).0)

-- what is listed are rules of the plan
pub listed-inside : (rules : List RuleNo) (numbers_of : List ℕ) (n : ℕ) → map number rules ≡ numbers_of → ((r : ℕ) → contains_number r numbers_of ≡ true → r < n) → AllWithin (λ (rule : RuleNo). rule.0 < n) rules 0 (length rules)
listed-inside rules numbers_of n are each k d low high = each (slice_index_or rules k d).0 (subst (λ xs. contains_number (slice_index_or rules k d).0 xs ≡ true) are (listed rules k d high))

-- a file that is there is small where its bytes are few
pub small-size : (sizes : ℕ → Option ℕ) (f size m : ℕ) → sizes f ≡ Some size → bytes_by sizes f ≤ m → size ≤ m
small-size sizes f size m there few = let is : bytes_by sizes f ≡ size = ap bytes_in there in omega (arith, is, few)
