-- A Done keeps the walk within: its sizes are at most the bounds that the walk counted.
use Rattle.std.proofs.Common.{◌≡◌, ℕ, ◌+◌, ◌≤◌, ◌<◌, Bool, true, false, cond, not, ◌&&◌, ◌||◌, ◌⊎◌}
use Rattle.std.proofs.Common.{inl, inr, List, [], ◌∷◌, ◌++◌, length, Option, Some, None, refl, ap}
use Rattle.std.proofs.Common.{sym, ◌∙◌, arith, true≢false}
use Rattle.std.specs.Prelude.{sum_by, fold, ◌==◌, is_some, is_none, unwrap_or, nat_le}
use Rattle.std.specs.List.{list_any, range_with_len}
use Rattle.std.specs.Option.{option_map_or}
use Rattle.std.proofs.lemmas.Bool.{leb-true, ltb-true, eqb-true, eq-eqb, and_parts}
use Rattle.std.proofs.lemmas.List.Folds.{list_any-append}
use Rattle.std.proofs.Math.Nat.{le-min}
use Rattle.flow_types.specs.declared.plan.Plan.{Plan}
use Rattle.flow_types.specs.declared.numbers.RuleNo.{RuleNo}
use Rattle.flow_types.specs.declared.numbers.AttemptNo.{AttemptNo}
use Rattle.flow_types.specs.declared.numbers.Content.{Content}
use Rattle.flow_types.specs.declared.records.Record.{Record}
use Rattle.flow_types.specs.declared.records.Record.TheVariants as records
use Rattle.flow_types.specs.Plans.{rule_numbers, file_numbers, makes, maker_of, bound_of}
use Rattle.flow_types.specs.Plans.{contains_number}
use Rattle.flow_types.proofs.Totals.{total, total-is, total-le, total-add, total-take, at_place}
use Rattle.flow_types.proofs.Totals.{place-once, place-inside}
use Rattle.run_history.specs.History.{is_cleaned, is_opening, part, since_opening}
use Rattle.run_history.specs.States.{outs_of, outs_in, row_of, running_in, running_says, rule_state}
use Rattle.run_history.specs.States.{Place}
use Rattle.run_history.specs.Storage.{is_complete, is_running, rule_bound}
use Rattle.run_history.specs.Legal.{is_allowed, are_within}
use Rattle.run_history.proofs.Steps.{complete-is, complete-push, outs-push, running-is}
use Rattle.run_history.proofs.Stores.{row_bytes, weight, done_by, rows-total}
use Rattle.run_history.proofs.Inputs.{or_either}
use Rattle.run_history.proofs.Limits.{runs_running}
use Rattle.run_history.proofs.Allowed.{finishes}
use Rattle.safe_walks.specs.Walk.{Standing, starts, was_started, standing, is_left, left_bound}
use Rattle.safe_walks.specs.Walk.{outputs_share, rule_share, load}
use Rattle.safe_walks.proofs.Walks.{IsLess, Grows, made_size, held, held-is, cond-le, left-less}
use Rattle.safe_walks.proofs.Walks.{share-less}
use Rattle.safe_walks.proofs.Records.{size-is, started_same, claims_from, adds_from}

-- what a list says is said by one of its records
said_started : (r : ℕ) (last : Option (Option Place)) (x : Record)
    → is_some (unwrap_or (option_map_or Some (running_says r x) last) None) ≡ true
    → (is_some (unwrap_or last None) ≡ true) ⊎ (starts r x ≡ true)
said_started r last (records.Started moment rule attempt link) h = by_rule (rule.0 == r) h
  where
    by_rule : (b : Bool)
        → is_some (unwrap_or (option_map_or Some (cond b (Some (Some (attempt, link))) None) last)
        None) ≡ true
        → (is_some (unwrap_or last None) ≡ true) ⊎ (b ≡ true)
    by_rule true h = inr refl
    by_rule false h = inl h
said_started r last (records.Done moment rule attempt outs) h = closes (rule.0 == r) h
  where
    closes : (b : Bool)
        → (let none : Option Place =
        None in is_some (unwrap_or (option_map_or Some (cond b (Some none) None) last) None) ≡ true)
        → (is_some (unwrap_or last None) ≡ true) ⊎ (false ≡ true)
    closes true h = absurd (true≢false (sym h))
    closes false h = inl h
said_started r last (records.Failed moment rule attempt why) h = closes (rule.0 == r) h
  where
    closes : (b : Bool)
        → (let none : Option Place =
        None in is_some (unwrap_or (option_map_or Some (cond b (Some none) None) last) None) ≡ true)
        → (is_some (unwrap_or last None) ≡ true) ⊎ (false ≡ true)
    closes true h = absurd (true≢false (sym h))
    closes false h = inl h
said_started r last (records.Lost moment rule attempt) h = closes (rule.0 == r) h
  where
    closes : (b : Bool)
        → (let none : Option Place =
        None in is_some (unwrap_or (option_map_or Some (cond b (Some none) None) last) None) ≡ true)
        → (is_some (unwrap_or last None) ≡ true) ⊎ (false ≡ true)
    closes true h = absurd (true≢false (sym h))
    closes false h = inl h
said_started r last (records.Opened moment run retries limit plan sources) h = inl h
said_started r last (records.Resumed moment run retries limit) h = inl h
said_started r last (records.Dropped moment f) h = inl h
said_started r last (records.Ended moment kind) h = inl h

either : (a b : Bool) → (a ≡ true) ⊎ (b ≡ true) → (a || b) ≡ true
either true b h = refl
either false b (inl h) = absurd (true≢false (sym h))
either false b (inr h) = h

pub first_any : (b rest : Bool) → b ≡ true → (b || rest) ≡ true
first_any true rest h = refl
first_any false rest h = absurd (true≢false (sym h))

said_along : (r : ℕ) (last : Option (Option Place)) (xs : List Record)
    → is_some (unwrap_or (fold (λ said x. option_map_or Some (running_says r x) said) last xs) None)
    ≡ true
    → (is_some (unwrap_or last None) ≡ true) ⊎ (list_any (starts r) xs ≡ true)
said_along r last [] h = inl h
said_along r last (x ∷ xs) h =
    by_rest (said_along r (option_map_or Some (running_says r x) last) xs h)
  where
    by_first : (is_some (unwrap_or last None) ≡ true) ⊎ (starts r x ≡ true)
        → (is_some (unwrap_or last None) ≡ true) ⊎ (list_any (starts r) (x ∷ xs) ≡ true)
    by_first (inl h) = inl h
    by_first (inr h) = inr (first_any (starts r x) (list_any (starts r) xs) h)

    by_rest : (is_some (unwrap_or (option_map_or Some (running_says r x) last) None) ≡ true)
        ⊎ (list_any (starts r) xs ≡ true)
        → (is_some (unwrap_or last None) ≡ true) ⊎ (list_any (starts r) (x ∷ xs) ≡ true)
    by_rest (inl h) = by_first (said_started r last x h)
    by_rest (inr h) = inr (or_either (starts r x) (list_any (starts r) xs) h)

-- what stands behind the last opening stands in the list
kept_any : (p test : Record → Bool) (kept xs : List Record)
    → list_any p (fold (λ kept x. cond (test x) [] (kept ++ (x ∷ []))) kept xs) ≡ true
    → (list_any p kept ≡ true) ⊎ (list_any p xs ≡ true)
kept_any p test kept [] h = inl h
kept_any p test kept (x ∷ xs) h =
    by_rest (kept_any p test (cond (test x) [] (kept ++ (x ∷ []))) xs h)
  where
    by_any : (a b : Bool) → (a || (b || false)) ≡ true → (a ≡ true) ⊎ ((b || list_any p xs) ≡ true)
    by_any true b h = inl refl
    by_any false true h = inr refl
    by_any false false h = absurd (true≢false (sym h))

    by_test : (b : Bool) → list_any p (cond b [] (kept ++ (x ∷ []))) ≡ true
        → (list_any p kept ≡ true) ⊎ (list_any p (x ∷ xs) ≡ true)
    by_test true h = absurd (true≢false (sym h))
    by_test false h = by_any (list_any p kept) (p x) (sym (list_any-append p kept (x ∷ [])) ∙ h)

    by_rest : (list_any p (cond (test x) [] (kept ++ (x ∷ []))) ≡ true) ⊎ (list_any p xs ≡ true)
        → (list_any p kept ≡ true) ⊎ (list_any p (x ∷ xs) ≡ true)
    by_rest (inl h) = by_test (test x) h
    by_rest (inr h) = inr (or_either (p x) (list_any p xs) h)

right_of : {A : Type 0} → (false ≡ true) ⊎ A → A
right_of (inl h) = absurd (true≢false (sym h))
right_of (inr h) = h

-- A rule that runs was started in the part, and isn't complete.
pub running-started : (H : List Record) (r : ℕ) → is_running H r ≡ true → (is_complete H r ≡ false)
    × (was_started H r ≡ true)
running-started H r running =
    let parts =
    and_parts (is_none (outs_of H r)) (is_some (running_in H r)) (sym (running-is H r)
    ∙ running) in (
      complete-is H r ∙ by_outs (outs_of H r) parts.0,
      right_of (kept_any (starts r) is_opening [] (part H)
          (right_of (said_along r None (since_opening H) parts.1))),
    )
  where
    by_outs : (outs : Option (List Content)) → is_none outs ≡ true → is_some outs ≡ false
    by_outs None h = refl
    by_outs (Some outs) h = sym h

zeros : (xs : List ℕ) → total (λ x. 0) xs ≤ 0
zeros [] = omega arith
zeros (x ∷ xs) = omega (arith, zeros xs)

same_zero : (f : ℕ → ℕ) (xs : List ℕ) → ((x : ℕ) → f x ≤ 0) → total f xs ≤ 0
same_zero f xs none = let le : total f xs ≤ total (λ x. 0) xs = total-le f (λ x. 0) xs none
    in omega (arith, le, zeros xs)

nothing_left : (b : Bool) → cond b 0 0 ≤ 0
nothing_left true = omega arith
nothing_left false = omega arith

first_left : (left : ℕ → Bool) (g f s : ℕ) (rest : Option Content) (row : Content) (b : Bool)
    → (g == f) ≡ b → row.size ≡ s
    → cond (left f) (row_bytes (cond b (Some row) rest)) 0
    ≤ cond b (cond (left g) s 0) 0 + cond (left f) (row_bytes rest) 0
first_left left g f s rest row true same size =
    by_left (left f) (left g) (ap left (sym (eqb-true g f same)))
  where
    by_left : (a b : Bool) → a ≡ b → cond a row.size 0 ≤ cond b s 0 + cond a (row_bytes rest) 0
    by_left true true same = omega (arith, size)
    by_left true false same = absurd (true≢false same)
    by_left false b same = omega arith
first_left left g f s rest row false same size = omega arith

-- the rows of files that are left are together no more than the bounds of these files
rows_left : (P : Plan) (left : ℕ → Bool) (keys : List ℕ) (rows : List Content) (n : ℕ)
    → are_within P keys rows ≡ true
    → total (λ f. cond (left f) (row_bytes (row_of f keys rows)) 0) (range_with_len 0 n) ≤ total
    (λ f. cond (left f) (bound_of P f) 0) keys
rows_left P left [] [] n within = same_zero (λ f. cond (left f) 0 0) (range_with_len 0 n)
    (λ f. nothing_left (left f))
rows_left P left [] (row ∷ rows) n within = absurd (true≢false (sym within))
rows_left P left (g ∷ keys) [] n within = absurd (true≢false (sym within))
rows_left P left (g ∷ keys) (row ∷ rows) n within =
    let parts = and_parts (nat_le row.size (bound_of P g)) (are_within P keys rows) within in
    let fits : row.size ≤ bound_of P g = leb-true row.size (bound_of P g) parts.0 in
    let split : total (λ f. cond (left f) (row_bytes (row_of f (g ∷ keys) (row ∷ rows))) 0)
    (range_with_len 0 n)
    ≤ total (at_place (cond (left g) row.size 0) g) (range_with_len 0 n) + total
    (λ f. cond (left f) (row_bytes (row_of f keys rows)) 0) (range_with_len 0 n) =
    total-add (λ f. cond (left f) (row_bytes (row_of f (g ∷ keys) (row ∷ rows))) 0)
    (at_place (cond (left g) row.size 0) g)
    (λ f. cond (left f) (row_bytes (row_of f keys rows)) 0) (range_with_len 0 n)
    (λ f. first_left left g f row.size (row_of f keys rows) row (g == f) refl refl) in
    let once : total (at_place (cond (left g) row.size 0) g) (range_with_len 0 n)
    ≤ cond (left g) row.size 0 = place-once (cond (left g) row.size 0) g 0 n in
    let here : cond (left g) row.size 0 ≤ cond (left g) (bound_of P g) 0 =
    cond-le (left g) (left g) row.size (bound_of P g) (λ h. h) fits in
    let rest : total (λ f. cond (left f) (row_bytes (row_of f keys rows)) 0) (range_with_len 0 n)
    ≤ total (λ f. cond (left f) (bound_of P f) 0) keys = rows_left P left keys rows n parts.1 in
    omega (arith, split, once, here, rest)

cond_add : (a b : Bool) (m n k : ℕ) → (a ≡ true → b ≡ true) → m ≤ n + k → cond a m 0
    ≤ cond b n 0 + cond a k 0
cond_add false b m n k implies le = omega arith
cond_add true true m n k implies le = le
cond_add true false m n k implies le = absurd (true≢false (sym (implies refl)))

cond_drop : (a : Bool) (m : ℕ) → cond a m 0 ≤ m
cond_drop true m = omega arith
cond_drop false m = omega arith

-- what a claimed rule counts as holds what its Done adds
share_holds : (complete passed claimed : Bool) (extra outputs bound : ℕ) → complete ≡ false
    → claimed ≡ true → extra ≤ outputs → extra ≤ bound
    → extra ≤ cond complete 0 (cond passed outputs (cond claimed bound 0))
share_holds true passed claimed extra outputs bound still is in_outputs in_bound =
    absurd (true≢false still)
share_holds false true claimed extra outputs bound still is in_outputs in_bound = in_outputs
share_holds false false true extra outputs bound still is in_outputs in_bound = in_bound
share_holds false false false extra outputs bound still is in_outputs in_bound =
    absurd (true≢false (sym is))

at_rule : (P : Plan) (S T : Standing) (passed : List ℕ) (place r extra : ℕ) (b : Bool)
    → (place == r) ≡ b → T.complete place ≡ true
    → extra ≤ rule_share P S passed place → rule_share P T passed r ≤ rule_share P S passed r
    → rule_share P T passed r + cond b extra 0 ≤ rule_share P S passed r
at_rule P S T passed place r extra true same complete fits less =
    let one : place ≡ r = eqb-true place r same in
    let none : rule_share P T passed place ≡ 0 =
    ap (λ c. cond c 0
    (cond (contains_number place passed) (outputs_share P T passed place)
    (cond (T.claimed place) (rule_bound P place) 0))) complete in
    let here : rule_share P T passed place ≡ rule_share P T passed r =
    ap (rule_share P T passed) one in
    let there : rule_share P S passed place ≡ rule_share P S passed r =
    ap (rule_share P S passed) one in
    omega (arith, none, here, there, fits)
at_rule P S T passed place r extra false other complete fits less = omega (arith, less)

-- the claimed rule's Done, over any two standings
pub done-load : (P : Plan) (S T : Standing) (place : ℕ) (outs : List Content) (passed : List ℕ)
    → place < length P.rules → are_within P (makes P place) outs ≡ true → sum_by
    (λ row. row.size) outs ≤ rule_bound P place
    → S.complete place ≡ false → S.claimed place ≡ true → T.complete place ≡ true
    → Grows S T → ((r : ℕ) → T.complete r ≡ false → T.claimed r ≡ true → S.claimed r ≡ true)
    → ((f : ℕ) → made_size P T f ≤ made_size P S f + row_bytes (row_of f (makes P place) outs))
    → load P T passed ≤ load P S passed
done-load P S T place outs passed inside within together still claimed complete grows claims sizes =
    let extra : ℕ → ℕ = λ f. cond (is_left P T passed f) (row_bytes (row_of f (makes P place) outs))
    0 in
    let n : ℕ = length P.files in
    let files : total (held P T passed) (file_numbers P)
    ≤ total (held P S passed) (file_numbers P) + total extra (file_numbers P) =
    total-add (held P T passed) (held P S passed) extra (file_numbers P)
    (λ f. cond_add (is_left P T passed f) (is_left P S passed f) (made_size P T f) (made_size P S f)
    (row_bytes (row_of f (makes P place) outs)) (left-less P S T passed f grows) (sizes f)) in
    let all_rows : total extra (file_numbers P) ≤ total
    (λ f. row_bytes (row_of f (makes P place) outs)) (file_numbers P) =
    total-le extra (λ f. row_bytes (row_of f (makes P place) outs)) (file_numbers P)
    (λ f. cond_drop (is_left P T passed f) (row_bytes (row_of f (makes P place) outs))) in
    let in_bound : total extra (file_numbers P) ≤ rule_bound P place =
    omega (
      arith,
      all_rows,
      rows-total (makes P place) outs n,
      total-is
          (λ row. row.size) outs,
      together,
    ) in
    let bounds : total extra (file_numbers P) ≤ total (left_bound P T passed) (makes P place) =
    rows_left P (is_left P T passed) (makes P place) outs n within in
    let fewer : total (left_bound P T passed) (makes P place)
    ≤ total (left_bound P S passed) (makes P place) =
    total-le (left_bound P T passed) (left_bound P S passed) (makes P place)
    (λ f. cond-le (is_left P T passed f) (is_left P S passed f) (bound_of P f) (bound_of P f)
    (left-less P S T passed f grows) (omega arith)) in
    let in_outputs : total extra (file_numbers P) ≤ outputs_share P S passed place =
    le-min in_bound (omega (arith, bounds, fewer, total-is (left_bound P S passed) (makes P place)))
    in
    let fits : total extra (file_numbers P) ≤ rule_share P S passed place =
    share_holds (S.complete place) (contains_number place passed) (S.claimed place)
    (total extra (file_numbers P)) (outputs_share P S passed place) (rule_bound P place) still
    claimed in_outputs in_bound in
    let rules : total (rule_share P T passed) (rule_numbers P) + total
    (at_place (total extra (file_numbers P)) place) (rule_numbers P)
    ≤ total (rule_share P S passed) (rule_numbers P) =
    total-take (rule_share P T passed) (rule_share P S passed)
    (at_place (total extra (file_numbers P)) place) (rule_numbers P)
    (λ r. at_rule P S T passed place r (total extra (file_numbers P)) (place == r) refl complete
    fits (share-less P S T passed r grows claims)) in
    let found : total extra (file_numbers P)
    ≤ total (at_place (total extra (file_numbers P)) place) (rule_numbers P) =
    place-inside (total extra (file_numbers P)) place 0 (length P.rules) (omega arith)
    (omega (arith, inside)) in
    omega (
      arith,
      files,
      rules,
      found,
      held-is P S passed,
      held-is P T passed,
      total-is
          (rule_share P S passed) (rule_numbers P),
      total-is (rule_share P T passed) (rule_numbers P),
    )

done_complete : (H : List Record) (x : Record) (place : ℕ) (outs : List Content) → is_cleaned x
    ≡ false → outs_in place x ≡ Some outs → is_complete (H ++ (x ∷ [])) place ≡ true
done_complete H x place outs more says =
    complete-is (H ++ (x ∷ [])) place
    ∙ ap is_some (outs-push H x place more
    ∙ ap (λ o. option_map_or Some o (outs_of H place)) says)

claims_both : (c s : Bool) → c ≡ false → s ≡ true → (not c && s) ≡ true
claims_both true s still started = absurd (true≢false still)
claims_both false s still started = started

same_number : (n : ℕ) → (n == n) ≡ true
same_number n = eq-eqb n n refl

-- A Done that is allowed leaves a walk that has no more.
pub done-less : (P : Plan) (digest : List ℕ) (H : List Record) (moment : ℕ) (r : RuleNo)
    (attempt : AttemptNo) (outs : List Content)
    → is_allowed P digest H (records.Done moment r attempt outs) ≡ true
    → IsLess P (standing P H) (standing P (H ++ (records.Done moment r attempt outs ∷ [])))
done-less P digest H moment r attempt outs allowed =
    let x : Record = records.Done moment r attempt outs in
    let why = finishes P digest H moment r attempt outs allowed in
    let ran = and_parts _ _ why.runs in
    let was = running-started H r.0 (runs_running (rule_state H r.0) attempt.0 ran.1) in
    record {
      loads = λ passed. done-load P (standing P H) (standing P (H ++ (x ∷ []))) r.0 outs passed
          (ltb-true r.0 (length P.rules) ran.0) why.within
          (leb-true (sum_by (λ row. row.size) outs) (rule_bound P r.0) why.together)
          was.0 (claims_both (is_complete H r.0) (was_started H r.0) was.0 was.1)
          (done_complete H x r.0 outs refl (ap (λ b. cond b (Some outs) None) (same_number r.0)))
          (λ q. complete-push H x q refl)
          (λ q. claims_from (is_complete H q) (is_complete (H ++ (x ∷ [])) q) (was_started H q)
          (was_started (H ++ (x ∷ [])) q) (complete-push H x q refl)
          (started_same H x q refl refl))
          (λ f. let le : weight P (H ++ (x ∷ [])) f
          ≤ weight P H f + row_bytes (row_of f (makes P r.0) outs) =
          done_by P H x f r.0 outs (maker_of P f) refl (λ q. refl) in
          omega (arith, le, size-is P H f, size-is P (H ++ (x ∷ [])) f));
      adds = λ q. adds_from (is_complete H q) (is_complete (H ++ (x ∷ [])) q) (was_started H q)
          (was_started (H ++ (x ∷ [])) q) (complete-push H x q refl) (started_same H x q refl refl);
    }
