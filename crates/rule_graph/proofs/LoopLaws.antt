-- The loop that is named is a loop of the plan and the only one of its kind, and there is one wherever the plan has a loop.
use Rattle.std.proofs.Common.{◌≡◌, ℕ, zero, suc, ◌+◌, ◌<◌, ◌≤◌, Bool, true, false, cond, not, ◌&&◌, List, [], ◌∷◌, ◌++◌, length, get_or, Option, Some, None, refl, ap, sym, ◌∙◌, arith, subst, ◌⊎◌, inl, inr, All}
use Rattle.std.specs.Prelude.{◌↔◌, ◌==◌, nat_lt, find, unwrap_or, map, is_none}
use Rattle.std.specs.List.{list_any, list_all, range_with_len}
use Rattle.std.specs.Option.{option_map_or, option_and_then}
use Rattle.std.proofs.lemmas.Bool.{eq-eqb, and_parts, and_from, and_cases, or_parts, or_left, or_right, true≢false, false_from_ne_true, not-true, not_from_false}
use Rattle.std.proofs.lemmas.List.Elements.{All-head, All-tail}
use Rattle.std.proofs.lemmas.List.{length_push}
use Rattle.std.proofs.lemmas.Option.{none-some, same_Some, option_and_then_some, slice_get_cases}
use Rattle.flow_types.specs.declared.plan.Plan.{Plan}
use Rattle.flow_types.specs.declared.plan.FileRow.{FileRow}
use Rattle.flow_types.specs.declared.numbers.RuleNo.{RuleNo}
use Rattle.flow_types.specs.Plans.{takes, makes, maker_of, is_source, contains_number, is_order, rule_numbers, file_numbers}
use Rattle.flow_types.specs.Serial.{is_made, serial_order}
use Rattle.flow_types.proofs.SerialRun.{find-passes, all_in_range, in_plan}
use Rattle.flow_types.proofs.Orders.{serial_order-stuck}
use Rattle.rule_graph.specs.Progress.{times_in}
use Rattle.rule_graph.specs.Cycles.{left_over, is_made_among, maker_before, from_first, begun_at, walked, least_rule, loop_among}
use Rattle.rule_graph.specs.Faults.{cycle}
use Rattle.rule_graph.specs.Flows.{rule_no}
use Rattle.rule_graph.specs.declared.faults.GraphFault.{GraphFault}
use Rattle.rule_graph.specs.declared.faults.GraphFault.TheVariants as faults
use Rattle.rule_graph.specs.Loops.{IsNumbered, IsFedBy, IsLoop, IsNamedLoop, step}
use Rattle.rule_graph.specs.Walking.{IsWalk, IsTurned}
use Rattle.rule_graph.proofs.Rounds.{takes_inside}
use Rattle.rule_graph.proofs.OrderLaws.{none_fail, all_pass, nothing_left_over}
use Rattle.rule_graph.proofs.Chains.{chain_mapped, in_cons, in_first, in_later, same_loops}
use Rattle.rule_graph.proofs.Walks.{in_filter, in_filter_from, in_range, in_range_from, few_of, walk_more, IsFound, found_at, turned_found, turned_least, turned_at}

-- what a search finds, and that it finds something
pub find_member : (p : ℕ → Bool) (xs : List ℕ) (r : ℕ) → find p xs ≡ Some r → contains_number r xs ≡ true
find_member p [] r found = absurd (none-some r found)
find_member p (x ∷ xs) r found = at_item (p x) found (find_member p xs r)
  where
    at_item : (b : Bool) → cond b (Some x) (find p xs) ≡ Some r → (find p xs ≡ Some r → contains_number r xs ≡ true) → contains_number r (x ∷ xs) ≡ true
    at_item true found later = or_left (x == r) (contains_number r xs) (eq-eqb x r (same_Some x r found))
    at_item false found later = in_later x r xs (later found)

pub find_some : (p : ℕ → Bool) (xs : List ℕ) (q : ℕ) → contains_number q xs ≡ true → p q ≡ true → (r : ℕ) × (find p xs ≡ Some r)
find_some p [] q some passes = absurd (true≢false (sym some))
find_some p (x ∷ xs) q some passes = at_item (p x) refl (in_cons x q xs some) (λ later. find_some p xs q later passes)
  where
    at_item : (b : Bool) → p x ≡ b → (x ≡ q) ⊎ (contains_number q xs ≡ true) → (contains_number q xs ≡ true → (r : ℕ) × (find p xs ≡ Some r))
        → (r : ℕ) × (cond b (Some x) (find p xs) ≡ Some r)
    at_item true is place rest = (x, refl)
    at_item false is place rest =
        elim place [ inl here ↦ absurd (true≢false (sym passes ∙ ap p (sym here) ∙ is)) | inr later ↦ rest later ]

-- a search over a range finds the least that passes
pub find_least : (p : ℕ → Bool) (a n r q : ℕ) → find p (range_with_len a n) ≡ Some r → p q ≡ true → a ≤ q → q < a + n → r ≤ q
find_least p a zero r q found passes from to = absurd (let wrong : ⊥ = omega (arith, from, to) in wrong)
find_least p a (suc n) r q found passes from to =
    at_first (p a) refl found (λ found from. find_least p (a + 1) n r q found passes from (omega (arith, to)))
  where
    at_first : (b : Bool) → p a ≡ b → cond b (Some a) (find p (range_with_len (a + 1) n)) ≡ Some r
        → (find p (range_with_len (a + 1) n) ≡ Some r → a + 1 ≤ q → r ≤ q) → r ≤ q
    at_first true is found rest = let same : a ≡ r = same_Some a r found in omega (arith, same, from)
    at_first false is found rest =
        let ne : a ≡ q → ⊥ = λ same. true≢false (sym passes ∙ ap p (sym same) ∙ is) in rest found (omega (arith, from, ne))

-- where not all of a list pass, one fails
pub one_fails : (p : ℕ → Bool) (xs : List ℕ) → list_all p xs ≡ false → (f : ℕ) × (contains_number f xs ≡ true) × (p f ≡ false)
one_fails p [] fails = absurd (true≢false fails)
one_fails p (x ∷ xs) fails =
    elim (and_cases (p x) (list_all p xs) fails) [
      | inl here ↦ (x, in_first x xs, here)
      | inr later ↦ (let rest = one_fails p xs later in (rest.0, in_later x rest.0 xs rest.1, rest.2))
    ]

pub all_at : (p : ℕ → Bool) (xs : List ℕ) (f : ℕ) → list_all p xs ≡ true → contains_number f xs ≡ true → p f ≡ true
all_at p [] f all some = absurd (true≢false (sym some))
all_at p (x ∷ xs) f all some =
    let parts = and_parts (p x) (list_all p xs) all in
    elim (in_cons x f xs some) [ inl here ↦ ap p (sym here) ∙ parts.0 | inr later ↦ all_at p xs f parts.1 later ]

pub some_at : (p : ℕ → Bool) (xs : List ℕ) (f : ℕ) → p f ≡ true → contains_number f xs ≡ true → list_any p xs ≡ true
some_at p [] f passes some = some
some_at p (x ∷ xs) f passes some =
    elim (in_cons x f xs some) [
      | inl here ↦ or_left (p x) (list_any p xs) (ap p here ∙ passes)
      | inr later ↦ or_right (p x) (list_any p xs) (some_at p xs f passes later)
    ]

within_all : (P : ℕ → Type 0) (xs : List ℕ) (f : ℕ) → All P xs → contains_number f xs ≡ true → P f
within_all P [] f all some = absurd (true≢false (sym some))
within_all P (x ∷ xs) f all some =
    elim (in_cons x f xs some) [ inl here ↦ subst P here (All-head P x xs all) | inr later ↦ within_all P xs f (All-tail P x xs all) later ]

-- the rules left over are the rules that the serial order lacks
pub left_parts : (P : Plan) (r : ℕ) → contains_number r (left_over P) ≡ true → (r < length P.rules) × (contains_number r (serial_order P) ≡ false)
left_parts P r left =
    let parts = in_filter (λ r. not (contains_number r (serial_order P))) (rule_numbers P) r left in
    let range = in_range 0 (length P.rules) r parts.1 in
    (omega (arith, range.1), not-true (contains_number r (serial_order P)) parts.0)

pub left_from : (P : Plan) (r : ℕ) → r < length P.rules → contains_number r (serial_order P) ≡ false → contains_number r (left_over P) ≡ true
left_from P r inside fresh =
    in_filter_from (λ r. not (contains_number r (serial_order P))) (rule_numbers P) r (not_from_false (contains_number r (serial_order P)) fresh)
    (in_range_from 0 (length P.rules) r (omega arith) (omega (arith, inside)))

maker_at : (row : FileRow) (maker : Option RuleNo) → row.maker ≡ maker → is_none row.maker ≡ false → (m : ℕ) × (option_map_or (λ r. let found : Option ℕ = Some r.0 in found) row.maker None ≡ Some m)
maker_at row None is made = absurd (true≢false (sym (ap is_none is) ∙ made))
maker_at row (Some m) is made = (m.0, ap (λ maker. option_map_or (λ r. let found : Option ℕ = Some r.0 in found) maker None) is)

-- a file that is no source has a maker
made_at : (P : Plan) (f : ℕ) → f < length P.files → is_source P f ≡ false → (m : ℕ) × (maker_of P f ≡ Some m)
made_at P f inside other =
    elim (slice_get_cases P.files f).1 [
      | inl here ↦
          (let row : FileRow = here.0 in
          let none : is_none row.maker ≡ false = sym (ap (λ found. option_map_or (λ row. is_none row.maker) found false) here.2) ∙ other in
          let made = maker_at row row.maker refl none in
          (made.0, ap (λ found. option_map_or (λ row. option_map_or (λ r. let found : Option ℕ = Some r.0 in found) row.maker None) found None) here.2 ∙ made.1))
      | inr past ↦ absurd (let low : length P.files ≤ f = past.0 in let wrong : ⊥ = omega (arith, low, inside) in wrong)
    ]

maker_makes : (P : Plan) (f m : ℕ) → IsNumbered P → f < length P.files → maker_of P f ≡ Some m → contains_number f (makes P m) ≡ true
maker_makes P f m numbered inside is =
    ap (λ found. option_map_or (λ r. contains_number f (makes P r)) found true) (sym is)
    ∙ all_in_range (λ f. option_map_or (λ r. contains_number f (makes P r)) (maker_of P f) true) 0 (length P.files) f numbered.makers (omega arith) (omega (arith, inside))

among_some : (left : List ℕ) (maker : Option ℕ) → option_map_or (λ m. contains_number m left) maker false ≡ true → (m : ℕ) × (maker ≡ Some m) × (contains_number m left ≡ true)
among_some left None is = absurd (true≢false (sym is))
among_some left (Some m) is = (m, refl, is)

stepped : (P : Plan) (found : Option ℕ) (f m : ℕ) → found ≡ Some f → maker_of P f ≡ Some m → option_and_then (maker_of P) found ≡ Some m
stepped P found f m is maker = ap (option_and_then (maker_of P)) is ∙ maker

-- a rule that takes in a file whose maker is left over has a rule before it
before_from : (P : Plan) (left : List ℕ) (r f m : ℕ) → f < length P.files → contains_number f (takes P r) ≡ true → maker_of P f ≡ Some m → contains_number m left ≡ true
    → (q : ℕ) × (maker_before P left r ≡ Some q) × (contains_number q left ≡ true)
before_from P left r f m inside taken is some =
    let test : ℕ → Bool = λ f. contains_number f (takes P r) && is_made_among P left f in
    let passes : test f ≡ true =
    and_from (contains_number f (takes P r)) (is_made_among P left f) taken (ap (λ maker. option_map_or (λ m. contains_number m left) maker false) is ∙ some) in
    let found = find_some test (file_numbers P) f (in_range_from 0 (length P.files) f (omega arith) (omega (arith, inside))) passes in
    let parts = and_parts (contains_number found.0 (takes P r)) (is_made_among P left found.0) (find-passes test (file_numbers P) found.0 found.1) in
    let maker = among_some left (maker_of P found.0) parts.1 in
    (maker.0, stepped P (find test (file_numbers P)) found.0 maker.0 found.1 maker.1, maker.2)

-- the maker of a file that no rule of the serial order makes is left over
next_from : (P : Plan) (r f m : ℕ) → IsNumbered P → f < length P.files → contains_number f (takes P r) ≡ true → maker_of P f ≡ Some m
    → list_any (λ t. contains_number f (makes P t)) (serial_order P) ≡ false
    → (q : ℕ) × (maker_before P (left_over P) r ≡ Some q) × (contains_number q (left_over P) ≡ true)
next_from P r f m numbered inside taken is none =
    let makes_it : contains_number f (makes P m) ≡ true = maker_makes P f m numbered inside is in
    let fresh : contains_number m (serial_order P) ≡ false =
    false_from_ne_true (contains_number m (serial_order P)) (λ taken.
    true≢false (sym (some_at (λ t. contains_number f (makes P t)) (serial_order P) m makes_it taken) ∙ none)) in
    before_from P (left_over P) r f m inside taken is (left_from P m (in_plan P m f (nat_lt m (length P.rules)) refl makes_it) fresh)

-- each rule left over takes in a file whose maker is left over
pub next_left : (P : Plan) (r : ℕ) → IsNumbered P → contains_number r (left_over P) ≡ true
    → (q : ℕ) × (maker_before P (left_over P) r ≡ Some q) × (contains_number q (left_over P) ≡ true)
next_left P r numbered left =
    let parts = left_parts P r left in
    let stuck : (not (contains_number r (serial_order P)) && list_all (is_made P (serial_order P)) (takes P r)) ≡ false = serial_order-stuck P r parts.0 in
    let unmade : list_all (is_made P (serial_order P)) (takes P r) ≡ false =
    ap (λ b. not b && list_all (is_made P (serial_order P)) (takes P r)) (sym parts.1) ∙ stuck in
    let input = one_fails (is_made P (serial_order P)) (takes P r) unmade in
    let f : ℕ = input.0 in
    let inside : f < length P.files = within_all (λ f. f < length P.files) (takes P r) f (takes_inside P r numbered.wired) input.1 in
    let none = or_parts (is_source P f) (list_any (λ t. contains_number f (makes P t)) (serial_order P)) input.2 in
    let maker = made_at P f inside none.0 in
    next_from P r f maker.0 numbered inside input.1 maker.1 none.1

-- each of these rules has one of them before it
abbrev GoesOn : Plan → List ℕ → Type 0
GoesOn P left = (r : ℕ) → contains_number r left ≡ true → (q : ℕ) × (maker_before P left r ≡ Some q) × (contains_number q left ≡ true)

walked_at : (P : Plan) (left : List ℕ) (n : ℕ) (path : List ℕ) (r q : ℕ) (b : Bool) → contains_number r path ≡ b → IsWalk (maker_before P left) left path r
    → maker_before P left r ≡ Some q → contains_number q left ≡ true
    → (IsWalk (maker_before P left) left (path ++ (r ∷ [])) q → IsFound (maker_before P left) left (walked P left n (path ++ (r ∷ [])) q))
    → IsFound (maker_before P left) left (cond b (from_first r path) (option_map_or (walked P left n (path ++ (r ∷ []))) (maker_before P left r) path))
walked_at P left n path r q true had walk is some later = found_at (maker_before P left) left path r walk had
walked_at P left n path r q false new walk is some later =
    let Found : Option ℕ → Type 0 = λ maker. IsFound (maker_before P left) left (option_map_or (walked P left n (path ++ (r ∷ []))) maker path) in
    subst Found (sym is) (later (walk_more (maker_before P left) left path r q walk new is some))

-- the walk of the definition finds a loop
walked_found : (P : Plan) (left : List ℕ) (n : ℕ) (path : List ℕ) (r : ℕ) → GoesOn P left → IsWalk (maker_before P left) left path r
    → length path + n ≡ length left + 1 → IsFound (maker_before P left) left (walked P left n path r)
walked_found P left zero path r goes walk count =
    absurd (let few : length path ≤ length left = few_of left path walk.once walk.inside in let wrong : ⊥ = omega (arith, few, count) in wrong)
walked_found P left (suc n) path r goes walk count =
    let q = goes r walk.here in
    let more : length (path ++ (r ∷ [])) + n ≡ length left + 1 = (let e : length (path ++ (r ∷ [])) ≡ length path + 1 = length_push path r in omega (arith, e, count)) in
    walked_at P left n path r q.0 (contains_number r path) refl walk q.1 q.2 (λ walk. walked_found P left n (path ++ (r ∷ [])) q.0 goes walk more)

pub walk_begun : (next : ℕ → Option ℕ) (r : ℕ) (rs : List ℕ) → IsWalk next (r ∷ rs) [] r
walk_begun next r rs = record {
  walk = tt;
  begins = refl;
  once = λ q. let none : times_in q [] ≡ 0 = refl in omega (arith, none);
  inside = λ q some. absurd (true≢false (sym some));
  here = in_first r rs;
}

-- the least rule of a loop of rules of the plan stands in it, and is its least
least_of : (P : Plan) (loop : List ℕ) (q : ℕ) → ((r : ℕ) → contains_number r loop ≡ true → r < length P.rules) → contains_number q loop ≡ true
    → (contains_number (least_rule P loop) loop ≡ true) × ((r : ℕ) → contains_number r loop ≡ true → least_rule P loop ≤ r)
least_of P loop q inside some =
    let found = find_some (λ r. contains_number r loop) (rule_numbers P) q (in_range_from 0 (length P.rules) q (omega arith) (let low : q < length P.rules = inside q some in omega (arith, low))) some in
    let is : least_rule P loop ≡ found.0 = ap (λ found. unwrap_or found 0) found.1 in (
      subst (λ r. contains_number r loop ≡ true) (sym is) (find-passes (λ r. contains_number r loop) (rule_numbers P) found.0 found.1),
      λ r some.
          let low : r < length P.rules = inside r some in
          let le : found.0 ≤ r = find_least (λ r. contains_number r loop) 0 (length P.rules) found.0 r found.1 some (omega arith) (omega (arith, low)) in
          omega (arith, is, le),
    )

-- what the definition computes among these rules
pub record IsComputed (P : Plan) (left loop : List ℕ) : Type 0 where
  pub is : loop_among P left ≡ Some loop
  pub found : IsFound (maker_before P left) left loop
  pub least : (r : ℕ) → contains_number r loop ≡ true → get_or loop 0 0 ≤ r

computed : (P : Plan) (left : List ℕ) → GoesOn P left → ((r : ℕ) → contains_number r left ≡ true → r < length P.rules) → 0 < length left → (loop : List ℕ) × IsComputed P left loop
computed P [] goes inside some = absurd (let wrong : ⊥ = omega (arith, some) in wrong)
computed P (r ∷ rs) goes inside some =
    let next : ℕ → Option ℕ = maker_before P (r ∷ rs) in
    let loop : List ℕ = walked P (r ∷ rs) (length (r ∷ rs) + 1) [] r in
    let found : IsFound next (r ∷ rs) loop = walked_found P (r ∷ rs) (length (r ∷ rs) + 1) [] r goes (walk_begun next r rs) (omega arith) in
    let least = least_of P loop found.reached.1 (λ r some. inside r (found.inside r some)) found.reached.3 in
    let turned : IsTurned loop (begun_at (least_rule P loop) loop) = turned_at (least_rule P loop) loop least.0 least.1 in (
      begun_at (least_rule P loop) loop,
      record {
        is = refl;
        found = turned_found next (r ∷ rs) loop (begun_at (least_rule P loop) loop) found turned;
        least = λ r some. turned_least loop (begun_at (least_rule P loop) loop) r turned some;
      },
    )

-- a loop that is found and begins at its least rule is the named one
pub named_from : (P : Plan) (loop : List ℕ) → IsFound (step P) (left_over P) loop → ((r : ℕ) → contains_number r loop ≡ true → get_or loop 0 0 ≤ r) → IsNamedLoop P loop
named_from P loop found least = record {
  some = found.some;
  once = found.once;
  all_left_over = found.inside;
  steps = found.walk;
  reached = found.reached;
  least_first = least;
}

pub computed_left : (P : Plan) → IsNumbered P → 0 < length (left_over P) → (loop : List ℕ) × IsComputed P (left_over P) loop
computed_left P numbered some = computed P (left_over P) (λ r left. next_left P r numbered left) (λ r left. (left_parts P r left).0) some

some_named : (P : Plan) (left loop : List ℕ) → loop_among P left ≡ Some loop → 0 < length left
some_named P [] loop is = absurd (none-some loop is)
some_named P (r ∷ rs) loop is = omega arith

some_in : (left : List ℕ) (r : ℕ) → contains_number r left ≡ true → 0 < length left
some_in [] r some = absurd (true≢false (sym some))
some_in (x ∷ xs) r some = omega arith

-- the named loop is the only one
pub only_one : (P : Plan) (first second : List ℕ) → IsNamedLoop P first → IsNamedLoop P second → first ≡ second
only_one P first second one two =
    same_loops (step P) first second (get_or (left_over P) 0 0) one.reached.0 one.reached.1 two.reached.0 two.reached.1 one.steps two.steps
    one.reached.2 one.reached.3 two.reached.2 two.reached.3 one.once two.once one.least_first two.least_first

pub computed_is_named : (P : Plan) (loop : List ℕ) → IsNumbered P → loop_among P (left_over P) ≡ Some loop → IsNamedLoop P loop
computed_is_named P loop numbered is =
    let found = computed_left P numbered (some_named P (left_over P) loop is) in
    subst (λ loop. IsNamedLoop P loop) (same_Some found.0 loop (sym found.1.is ∙ is)) (named_from P found.0 found.1.found found.1.least)

pub named_is_computed : (P : Plan) (loop : List ℕ) → IsNumbered P → IsNamedLoop P loop → loop_among P (left_over P) ≡ Some loop
named_is_computed P loop numbered named =
    let found = computed_left P numbered (some_in (left_over P) named.reached.1 (named.all_left_over named.reached.1 named.reached.3)) in
    found.1.is ∙ ap Some (only_one P found.0 loop (named_from P found.0 found.1.found found.1.least) named)

-- a step goes to a rule that makes what the rule takes in
step_fed : (P : Plan) (r q : ℕ) → IsNumbered P → step P r ≡ Some q → IsFedBy P r q
step_fed P r q numbered is =
    let test : ℕ → Bool = λ f. contains_number f (takes P r) && is_made_among P (left_over P) f in
    option_and_then_some (maker_of P) (find test (file_numbers P)) q is
    (λ f found made.
    let inside = in_range 0 (length P.files) f (find_member test (file_numbers P) f found) in
    let parts = and_parts (contains_number f (takes P r)) (is_made_among P (left_over P) f) (find-passes test (file_numbers P) f found) in
    (f, parts.0, maker_makes P f q numbered (omega (arith, inside.1)) made))

pub named_is_loop : (P : Plan) (loop : List ℕ) → IsNumbered P → IsNamedLoop P loop → IsLoop P loop
named_is_loop P loop numbered named = record {
  some = named.some;
  once = named.once;
  fed = chain_mapped (λ r q. step P r ≡ Some q) (IsFedBy P) (λ r q is. step_fed P r q numbered is) loop (get_or loop 0 0) named.steps;
}

-- nothing is computed where no rule is left over, and only there
pub none_computed : (P : Plan) (left : List ℕ) → loop_among P left ≡ None → left ≡ []
none_computed P [] none = refl
none_computed P (r ∷ rs) none = absurd (none-some _ (sym none))

-- where nothing is computed, the serial order is an order of the rules
pub order_from_none : (P : Plan) → loop_among P (left_over P) ≡ None → (order : List ℕ) × (is_order P order ≡ true)
order_from_none P none = (serial_order P, (nothing_left_over P (none_computed P (left_over P) none)).0.order)

-- nothing is named where no rule is left over, and only there
pub none_named : (P : Plan) (left : List ℕ) → option_map_or (λ loop. let fault : Option GraphFault = Some (faults.Cycle (map rule_no loop)) in fault) (loop_among P left) None ≡ None → left ≡ []
none_named P [] none = refl
none_named P (r ∷ rs) none = absurd (none-some _ (sym none))

pub none_named_where_all_are_taken : (P : Plan) → (cycle P ≡ None) ↔ (list_all (λ r. contains_number r (serial_order P)) (rule_numbers P) ≡ true)
none_named_where_all_are_taken P = (
  λ none. none_fail (λ r. contains_number r (serial_order P)) (rule_numbers P) (none_named P (left_over P) none),
  λ all. (nothing_left_over P (all_pass (λ r. contains_number r (serial_order P)) (rule_numbers P) all)).1,
)
