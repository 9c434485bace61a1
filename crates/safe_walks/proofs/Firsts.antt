-- The first rule of the walk that isn't complete is ready, fits the storage and is admitted.
use Rattle.std.proofs.Common.{◌≡◌, ℕ, zero, suc, ◌+◌, ◌≤◌, ◌<◌, Bool, true, false, cond, not, ◌&&◌}
use Rattle.std.proofs.Common.{◌||◌, ◌⊎◌, inl, inr, ⊎_elim, List, [], ◌∷◌, ◌++◌, length, Option}
use Rattle.std.proofs.Common.{Some, None, refl, ap, sym, ◌∙◌, arith, true≢false}
use Rattle.std.specs.Prelude.{sum_by, ◌==◌, is_some, nat_le, find}
use Rattle.std.specs.List.{list_any, list_all, range_with_len}
use Rattle.std.specs.Option.{option_map_or}
use Rattle.std.proofs.lemmas.Bool.{leb-true, eqb-true, eq-eqb, and_parts}
use Rattle.std.proofs.lemmas.List.Folds.{list_any-append}
use Rattle.flow_types.specs.declared.plan.Plan.{Plan}
use Rattle.flow_types.specs.declared.records.Record.{Record}
use Rattle.flow_types.specs.Plans.{IsValid, is_empty, rule_numbers, file_numbers, made_files, takes}
use Rattle.flow_types.specs.Plans.{makes, maker_of, takers_of, is_source, is_kept, contains_number}
use Rattle.flow_types.specs.Serial.{order_from, next_rule, can_take, is_made}
use Rattle.flow_types.proofs.SerialRun.{IsRun, all_in_range}
use Rattle.flow_types.proofs.Totals.{total, total-is, total-le, at_place, place-inside}
use Rattle.run_history.specs.History.{part}
use Rattle.run_history.specs.States.{rule_state}
use Rattle.run_history.specs.Storage.{is_complete, is_running, is_waiting, has_failed, is_present}
use Rattle.run_history.specs.Storage.{is_ready, running_rules, size_of, stored, rule_bound, is_free}
use Rattle.run_history.specs.Storage.{least_free}
use Rattle.run_history.specs.Legal.{is_legal}
use Rattle.run_history.proofs.Bools.{both, not_true, filter_none}
use Rattle.run_history.proofs.Inputs.{all_by, all_contains, or_either}
use Rattle.run_history.proofs.Ready.{has-sources, has-rows, has-dropped, source-present}
use Rattle.run_history.proofs.Ready.{made-present, none-pass, waits_else, empty_list}
use Rattle.run_history.proofs.Stores.{weight, stored-is}
use Rattle.safe_walks.specs.Walk.{Standing, is_over, left_bytes, rule_share, load, is_added}
use Rattle.safe_walks.specs.Walk.{additions, is_claimed, standing, with_claim}
use Rattle.safe_walks.proofs.Walks.{all_within, held, held-is, made_size}
use Rattle.safe_walks.proofs.Records.{size-is}
use Rattle.safe_walks.proofs.Dones.{first_any}

-- each of the rules is complete
abbrev pub AllComplete : List Record → List ℕ → Type 0
AllComplete H rs = (q : ℕ) → contains_number q rs ≡ true → is_complete H q ≡ true

or_split : (a b : Bool) → (a || b) ≡ true → (a ≡ true) ⊎ (b ≡ true)
or_split true b some = inl refl
or_split false b some = inr some

add_first : (H : List Record) (w : ℕ) (rs : List ℕ) → is_complete H w ≡ true → AllComplete H rs
    → AllComplete H (w ∷ rs)
add_first H w rs here all q some =
    ⊎_elim (λ (same : (w == q) ≡ true). ap (is_complete H) (sym (eqb-true w q same)) ∙ here) (all q)
    (or_split (w == q) (contains_number q rs) some)

add_last : (H : List Record) (w : ℕ) (rs : List ℕ) → is_complete H w ≡ true → AllComplete H rs
    → AllComplete H (rs ++ (w ∷ []))
add_last H w rs here all q some =
    ⊎_elim (all q)
    (λ (last : ((w == q) || false) ≡ true). add_first H w [] here
    (λ p none. absurd (true≢false (sym none))) q last)
    (or_split (contains_number q rs) ((w == q) || false)
    (sym (list_any-append (λ y. y == q) rs (w ∷ [])) ∙ some))

-- The first rule of these that isn't complete, and what the walk says of it.
pub record First (P : Plan) (H : List Record) (limit : ℕ) (start rs : List ℕ) : Type 0 where
  pub number : ℕ
  pub listed : contains_number number rs ≡ true
  pub is_first : find (λ q. not (is_complete H q)) rs ≡ Some number
  pub undone : is_complete H number ≡ false
  pub before : List ℕ
  pub done_before : AllComplete H before
  pub supplied : list_all (is_made P before) (takes P number) ≡ true
  pub passed : List ℕ
  pub done_passed : AllComplete H passed
  pub rest : List ℕ
  -- where the rule isn't claimed, its addition stays within
  pub room : is_claimed H number ≡ false
      → nat_le (load P (standing P H) passed + rule_bound P number) limit ≡ true
  pub later : all_within limit (additions P (standing P H) (number ∷ passed) rest) ≡ true
  -- with the rule claimed the walk has no other additions than those behind it
  pub whole : all_within limit
      (additions P (with_claim (standing P H) number) (number ∷ passed) rest) ≡ true
      → all_within limit (additions P (with_claim (standing P H) number) start rs) ≡ true

head_room : (v limit : ℕ) (vs : List ℕ) (c k : Bool) → c ≡ false → k ≡ false
    → all_within limit (cond (not c && not k) (v ∷ vs) vs) ≡ true → nat_le v limit ≡ true
head_room v limit vs true k undone new within = absurd (true≢false undone)
head_room v limit vs false true undone new within = absurd (true≢false new)
head_room v limit vs false false undone new within =
    (and_parts (nat_le v limit) (all_within limit vs) within).0

pub tail_within : (v limit : ℕ) (vs : List ℕ) (b : Bool) → all_within limit (cond b (v ∷ vs) vs)
    ≡ true → all_within limit vs ≡ true
tail_within v limit vs true within = (and_parts (nat_le v limit) (all_within limit vs) within).1
tail_within v limit vs false within = within

skips : (v limit : ℕ) (vs : List ℕ) (b : Bool) → b ≡ false → all_within limit vs ≡ true
    → all_within limit (cond b (v ∷ vs) vs) ≡ true
skips v limit vs true none within = absurd (true≢false none)
skips v limit vs false none within = within

not_added : (c k : Bool) → c ≡ true → (not c && not k) ≡ false
not_added true k done = refl
not_added false k done = absurd (true≢false (sym done))

claimed_not_added : (c e k : Bool) → e ≡ true → (not c && not (e || k)) ≡ false
claimed_not_added true e k same = refl
claimed_not_added false true k same = refl
claimed_not_added false false k same = absurd (true≢false (sym same))

drop_first : (H : List Record) (w r : ℕ) (ws : List ℕ) (b : Bool) → (w == r) ≡ b → is_complete H w
    ≡ true → is_complete H r ≡ false → (b || contains_number r ws) ≡ true → contains_number r ws
    ≡ true
drop_first H w r ws true same done undone some =
    absurd (true≢false (sym done ∙ ap (is_complete H) (eqb-true w r same) ∙ undone))
drop_first H w r ws false other done undone some = some

pub first-of : (P : Plan) (H : List Record) (limit r : ℕ) (before passed rs : List ℕ)
    → is_complete H r ≡ false → contains_number r rs ≡ true
    → AllComplete H before → AllComplete H passed → IsRun P before rs
    → all_within limit (additions P (standing P H) passed rs) ≡ true → First P H limit passed rs
first-of P H limit r before passed [] undone some done_before done_passed run within =
    absurd (true≢false (sym some))
first-of P H limit r before passed (w ∷ ws) undone some done_before done_passed run within =
    by_complete (is_complete H w) refl
    (λ done. first-of P H limit r (before ++ (w ∷ [])) (w ∷ passed) ws undone
    (drop_first H w r ws (w == r) refl done undone some)
    (add_last H w before done done_before) (add_first H w passed done done_passed) run.1
    (tail_within (load P S passed + rule_bound P w) limit (additions P S (w ∷ passed) ws)
    (is_added S w) within))
  where
    S : Standing
    S = standing P H

    by_complete : (b : Bool) → is_complete H w ≡ b
        → (is_complete H w ≡ true → First P H limit (w ∷ passed) ws)
        → First P H limit passed (w ∷ ws)
    by_complete true done next =
        let found = next done in
        let T : Standing = with_claim S found.number in
        record {
          number = found.number;
          listed = or_either (w == found.number) (contains_number found.number ws) found.listed;
          is_first = ap (λ c. cond (not c) (Some w) (find (λ q. not (is_complete H q)) ws)) done
              ∙ found.is_first;
          undone = found.undone;
          before = found.before;
          done_before = found.done_before;
          supplied = found.supplied;
          passed = found.passed;
          done_passed = found.done_passed;
          rest = found.rest;
          room = found.room;
          later = found.later;
          whole = λ rest. skips (load P T passed + rule_bound P w) limit
              (additions P T (w ∷ passed) ws) (is_added T w)
              (not_added (is_complete H w) (T.claimed w) done) (found.whole rest);
        }
    by_complete false undone_here next =
        let T : Standing = with_claim S w in
        record {
          number = w;
          listed = first_any (w == w) (contains_number w ws) (eq-eqb w w refl);
          is_first = ap (λ c. cond (not c) (Some w) (find (λ q. not (is_complete H q)) ws))
              undone_here;
          undone = undone_here;
          before = before;
          done_before = done_before;
          supplied =
              (and_parts (not (contains_number w before)) (list_all (is_made P before) (takes P w))
              run.0).1;
          passed = passed;
          done_passed = done_passed;
          rest = ws;
          room = λ new. head_room (load P S passed + rule_bound P w) limit
              (additions P S (w ∷ passed) ws) (is_complete H w) (is_claimed H w) undone_here new
              within;
          later = tail_within (load P S passed + rule_bound P w) limit
              (additions P S (w ∷ passed) ws) (is_added S w) within;
          whole = λ rest. skips (load P T passed + rule_bound P w) limit
              (additions P T (w ∷ passed) ws) (is_added T w)
              (claimed_not_added (is_complete H w) (w == w) (is_claimed H w) (eq-eqb w w refl))
              rest;
        }

-- The rules of the serial order are of the plan.
find_in : (p : ℕ → Bool) (a n r : ℕ) → find p (range_with_len a n) ≡ Some r → r < a + n
find_in p a zero r found = absurd (none_is_not found)
  where
    none_is_not : (let none : Option ℕ = None in none ≡ Some r) → ⊥
    none_is_not h = cc
find_in p a (suc n) r found = by_test (p a) found
    (λ later. let less : r < (a + 1) + n = find_in p (a + 1) n r later in less)
  where
    by_test : (b : Bool) → cond b (Some a) (find p (range_with_len (a + 1) n)) ≡ Some r
        → (find p (range_with_len (a + 1) n) ≡ Some r → r < (a + 1) + n) → r < a + suc n
    by_test true found later = let same : a ≡ r = cc in omega (arith, same)
    by_test false found later = omega (arith, later found)

abbrev pub AllInside : Plan → List ℕ → Type 0
AllInside P rs = (q : ℕ) → contains_number q rs ≡ true → q < length P.rules

inside_last : (P : Plan) (w : ℕ) (rs : List ℕ) → w < length P.rules → AllInside P rs
    → AllInside P (rs ++ (w ∷ []))
inside_last P w rs here all q some =
    ⊎_elim (all q) (λ (last : ((w == q) || false) ≡ true). ⊎_elim
    (λ (same : (w == q) ≡ true). let one : w ≡ q = eqb-true w q same
    in let less : q < length P.rules = omega (arith, one, here) in less)
    (λ (none : false ≡ true). absurd (true≢false (sym none))) (or_split (w == q) false last))
    (or_split (contains_number q rs) ((w == q) || false)
    (sym (list_any-append (λ y. y == q) rs (w ∷ [])) ∙ some))

next_inside : (P : Plan) (rounds : ℕ) (taken : List ℕ) (next : Option ℕ) → next_rule P taken ≡ next
    → AllInside P taken
    → ((r : ℕ) → AllInside P (taken ++ (r ∷ []))
    → AllInside P (order_from P rounds (taken ++ (r ∷ []))))
    → AllInside P (option_map_or (λ r. order_from P rounds (taken ++ (r ∷ []))) next taken)
next_inside P rounds taken None is all later = all
next_inside P rounds taken (Some r) is all later =
    later r (inside_last P r taken
    (let low : r < 0 + length P.rules = find_in (can_take P taken) 0 (length P.rules) r is
    in omega (arith, low)) all)

pub order_inside : (P : Plan) (rounds : ℕ) (taken : List ℕ) → AllInside P taken
    → AllInside P (order_from P rounds taken)
order_inside P zero taken all = all
order_inside P (suc rounds) taken all = next_inside P rounds taken (next_rule P taken) refl all
    (λ r inside. order_inside P rounds (taken ++ (r ∷ [])) inside)

pub any_found : (p : ℕ → Bool) (xs : List ℕ) → list_any p xs ≡ true → (t : ℕ)
    × (contains_number t xs ≡ true) × (p t ≡ true)
any_found p [] some = absurd (true≢false (sym some))
any_found p (x ∷ xs) some = by_test (p x) refl some (λ rest. any_found p xs rest)
  where
    by_test : (b : Bool) → p x ≡ b → (b || list_any p xs) ≡ true
        → (list_any p xs ≡ true → (t : ℕ) × (contains_number t xs ≡ true) × (p t ≡ true))
        → (t : ℕ) × (contains_number t (x ∷ xs) ≡ true) × (p t ≡ true)
    by_test true is some later =
        (x, first_any (x == x) (contains_number x xs) (eq-eqb x x refl), is)
    by_test false is some later = let found = later some
        in (found.0, or_either (x == found.0) (contains_number found.0 xs) found.1, found.2)

-- The first rule is ready where no rule runs or has failed.
pub first-ready : (P : Plan) (digest : List ℕ) (H : List Record) (r : ℕ) (before : List ℕ)
    → IsValid P → is_legal P digest H ≡ true → is_empty (part H) ≡ false
    → is_empty (running_rules P H) ≡ true → list_any (has_failed H) (rule_numbers P) ≡ false
    → r < length P.rules → is_complete H r ≡ false → AllComplete H before
    → list_all (is_made P before) (takes P r) ≡ true
    → is_ready P H r ≡ true
first-ready P digest H r before valid legal begun idle sound inside undone done supplied =
    let low : 0 ≤ r = omega arith in
    let within : r < 0 + length P.rules = omega (arith, inside) in
    let not_running : is_running H r ≡ false =
    not_true (is_running H r)
    (all_in_range
    (λ r. not (is_running H r)) 0 (length P.rules) r
    (filter_none (is_running H) (rule_numbers P) (empty_list (running_rules P H) idle)) low
    within) in
    let not_failed : has_failed H r ≡ false =
    none-pass (has_failed H) 0 (length P.rules) r sound low within in
    let waits : is_waiting H r ≡ true = waits_else (rule_state H r) not_running not_failed undone in
    let inputs : list_all (is_present P H) (takes P r) ≡ true =
    all_by (is_present P H) (takes P r) (λ f taken. ⊎_elim
    (λ (source : is_source P f ≡ true). source-present P H f (has-sources P digest H legal) begun
    source)
    (λ (made : list_any (λ t. contains_number f (makes P t)) before ≡ true).
    let maker = any_found (λ t. contains_number f (makes P t)) before made in
    made-present P H f r valid (has-rows P digest H legal) (has-dropped P digest H legal) undone
    taken (maker.0, done maker.0 maker.1, maker.2))
    (or_split (is_source P f) (list_any (λ t. contains_number f (makes P t)) before)
    (all_contains (is_made P before) (takes P r) f supplied taken))) in
    both (is_waiting H r) (list_all (is_present P H) (takes P r)) waits inputs

over_complete : (H : List Record) (passed : List ℕ) (q : ℕ) (c m : Bool) → is_complete H q ≡ c
    → contains_number q passed ≡ m → AllComplete H passed → (c || m) ≡ true → c ≡ true
over_complete H passed q true m is here all over = refl
over_complete H passed q false true is here all over = sym is ∙ all q here
over_complete H passed q false false is here all over = over

pub all_over_complete : (P : Plan) (H : List Record) (passed rs : List ℕ) → AllComplete H passed
    → list_all (is_over (standing P H) passed) rs ≡ true → list_all (is_complete H) rs ≡ true
all_over_complete P H passed [] all over = refl
all_over_complete P H passed (q ∷ rs) all over =
    let parts =
    and_parts (is_over (standing P H) passed q) (list_all (is_over (standing P H) passed) rs)
    over in
    both (is_complete H q) (list_all (is_complete H) rs)
    (over_complete H passed q (is_complete H q) (contains_number q passed) refl refl all parts.0)
    (all_over_complete P H passed rs all parts.1)

-- a file that isn't free and counts for something is left
unfree_left : (maker : Bool) (size : Option ℕ) (kept over complete : Bool)
    → (over ≡ true → complete ≡ true) → (((maker && is_some size) && not kept) && complete) ≡ false
    → cond maker (option_map_or (λ n. n) size 0) 0
    ≤ cond (kept || not over) (cond maker (option_map_or (λ n. n) size 0) 0) 0
unfree_left maker size true over complete implies unfree = omega arith
unfree_left maker size false false complete implies unfree = omega arith
unfree_left false size false true complete implies unfree = omega arith
unfree_left true None false true complete implies unfree = omega arith
unfree_left true (Some n) false true true implies unfree = absurd (true≢false unfree)
unfree_left true (Some n) false true false implies unfree = absurd (true≢false (sym (implies refl)))

none_found : (p : ℕ → Bool) (xs : List ℕ) → find p xs ≡ None → list_any p xs ≡ false
none_found p [] none = refl
none_found p (x ∷ xs) none = by_test (p x) none (λ later. none_found p xs later)
  where
    by_test : (b : Bool) → cond b (Some x) (find p xs) ≡ None
        → (find p xs ≡ None → list_any p xs ≡ false) → (b || list_any p xs) ≡ false
    by_test true none later = absurd cc
    by_test false none later = later none

-- what is said of the files of a range
range_le : (f g : ℕ → ℕ) (a n : ℕ) → ((x : ℕ) → a ≤ x → x < a + n → f x ≤ g x)
    → total f (range_with_len a n) ≤ total g (range_with_len a n)
range_le f g a zero le = omega arith
range_le f g a (suc n) le =
    let here : f a ≤ g a = le a (omega arith) (omega arith) in
    let rest : total f (range_with_len (a + 1) n) ≤ total g (range_with_len (a + 1) n) =
    range_le f g (a + 1) n (λ x from to. le x (omega (arith, from)) (omega (arith, to))) in
    omega (arith, here, rest)

-- where no file is free, all that is stored is left
stored-left : (P : Plan) (H : List Record) (passed : List ℕ) → least_free P H ≡ None
    → AllComplete H passed
    → stored P H ≤ sum_by (left_bytes P (standing P H) passed) (made_files P)
stored-left P H passed none all =
    let le : total (weight P H) (file_numbers P)
    ≤ total (held P (standing P H) passed) (file_numbers P) =
    range_le (weight P H) (held P (standing P H) passed) 0 (length P.files)
    (λ f from to.
    let unfree : is_free P H f ≡ false =
    none-pass (is_free P H) 0 (length P.files) f
    (none_found (is_free P H) (file_numbers P) none) from to in
    let here : made_size P (standing P H) f ≤ held P (standing P H) passed f =
    unfree_left (is_some (maker_of P f)) (size_of P H f) (is_kept P f)
    (list_all (is_over (standing P H) passed) (takers_of P f))
    (list_all (is_complete H) (takers_of P f))
    (all_over_complete P H passed (takers_of P f) all) unfree in
    omega (arith, here, size-is P H f)) in
    omega (arith, le, stored-is P H, held-is P (standing P H) passed)

share_at : (P : Plan) (H : List Record) (w r : ℕ) (b : Bool) → (w == r) ≡ b → is_complete H w
    ≡ false → is_claimed H w ≡ true
    → cond b (rule_bound P w) 0 ≤ rule_share P (standing P H) [] r
share_at P H w r true same undone claimed =
    let one : rule_share P (standing P H) [] w ≡ rule_share P (standing P H) [] r =
    ap (rule_share P (standing P H) []) (eqb-true w r same) in
    let is : rule_share P (standing P H) [] w ≡ rule_bound P w =
    ap (λ c. cond c 0 (cond (is_claimed H w) (rule_bound P w) 0)) undone
    ∙ ap (λ k. cond k (rule_bound P w) 0) claimed in
    omega (arith, one, is)
share_at P H w r false other undone claimed = omega arith

-- the bound of a claimed rule is in the start of the walk
claimed-share : (P : Plan) (H : List Record) (w : ℕ) → w < length P.rules → is_complete H w ≡ false
    → is_claimed H w ≡ true
    → rule_bound P w ≤ sum_by (rule_share P (standing P H) []) (rule_numbers P)
claimed-share P H w inside undone claimed =
    let le : total (at_place (rule_bound P w) w) (rule_numbers P)
    ≤ total (rule_share P (standing P H) []) (rule_numbers P) =
    total-le (at_place (rule_bound P w) w) (rule_share P (standing P H) []) (rule_numbers P)
    (λ r. share_at P H w r (w == r) refl undone claimed) in
    let found : rule_bound P w ≤ total (at_place (rule_bound P w) w) (rule_numbers P) =
    place-inside (rule_bound P w) w 0 (length P.rules) (omega arith) (omega (arith, inside)) in
    omega (arith, le, found, total-is (rule_share P (standing P H) []) (rule_numbers P))

-- what is stored and the bound of the first rule are within the limit, where no file is free
pub first-room : (P : Plan) (H : List Record) (limit w : ℕ) (passed : List ℕ) (claimed : Bool)
    → is_claimed H w ≡ claimed → least_free P H ≡ None → w < length P.rules → is_complete H w
    ≡ false
    → AllComplete H passed → nat_le (load P (standing P H) []) limit ≡ true
    → (is_claimed H w ≡ false → nat_le (load P (standing P H) passed + rule_bound P w) limit
    ≡ true)
    → stored P H + rule_bound P w ≤ limit
first-room P H limit w passed true is none inside undone all start room =
    omega (
      arith,
      stored-left P H [] none
          (λ q some. absurd (true≢false (sym some))),
      claimed-share P H w inside undone is,
      leb-true
          (load P (standing P H) []) limit start,
    )
first-room P H limit w passed false is none inside undone all start room =
    let le : load P (standing P H) passed + rule_bound P w ≤ limit =
    leb-true (load P (standing P H) passed + rule_bound P w) limit (room is) in
    omega (arith, stored-left P H passed none all, le)
