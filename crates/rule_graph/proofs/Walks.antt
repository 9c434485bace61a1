-- A walk over numbers of a list that never ends there comes round to one that it had, and the loop from that one on.
use Rattle.std.proofs.Common.{◌≡◌, ℕ, zero, suc, ◌+◌, ◌<◌, ◌≤◌, Bool, true, false, cond, not, List, [], ◌∷◌, ◌++◌, length, get_or, take, drop, append-nil, Option, Some, refl, ap, sym, ◌∙◌, arith, subst, ◌⊎◌, inl, inr}
use Rattle.std.specs.Prelude.{◌==◌, filter, take_while}
use Rattle.std.specs.List.{prefix_len, range_with_len}
use Rattle.std.proofs.lemmas.Bool.{eqb-true, eqb-false, eq-eqb, or_cases, or_left, or_right, true≢false, cases_Bool, cases_lt, not-true}
use Rattle.std.proofs.lemmas.List.Folds.{list_any-append}
use Rattle.std.proofs.lemmas.List.Filters.{length-filter_both}
use Rattle.std.proofs.lemmas.List.Sums.{sum_by-cons, sum_by-append, length-filter}
use Rattle.flow_types.specs.Plans.{contains_number}
use Rattle.rule_graph.specs.Progress.{times_in}
use Rattle.rule_graph.specs.Cycles.{from_first, begun_at}
use Rattle.rule_graph.specs.Loops.{after_steps}
use Rattle.rule_graph.specs.Walking.{IsWalk, IsTurned}
use Rattle.rule_graph.proofs.Wiring.{times-push}
use Rattle.rule_graph.proofs.Chains.{Walks, chain_joined, chain_split, chain_rotated, walk_leads, in_cons, in_first, in_later, in_of_times}

-- what a filter keeps passes and stood in the list
pub in_filter : (p : ℕ → Bool) (xs : List ℕ) (r : ℕ) → contains_number r (filter p xs) ≡ true → (p r ≡ true) × (contains_number r xs ≡ true)
in_filter p [] r some = absurd (true≢false (sym some))
in_filter p (x ∷ xs) r some = at_item (p x) refl some (in_filter p xs r)
  where
    at_item : (b : Bool) → p x ≡ b → contains_number r (cond b (x ∷ filter p xs) (filter p xs)) ≡ true
        → (contains_number r (filter p xs) ≡ true → (p r ≡ true) × (contains_number r xs ≡ true)) → (p r ≡ true) × (contains_number r (x ∷ xs) ≡ true)
    at_item true passes some rest =
        elim (in_cons x r (filter p xs) some) [
          | inl here ↦ (ap p (sym here) ∙ passes, or_left (x == r) (contains_number r xs) (eq-eqb x r here))
          | inr later ↦ ((rest later).0, in_later x r xs (rest later).1)
        ]
    at_item false fails some rest = ((rest some).0, in_later x r xs (rest some).1)

pub in_filter_from : (p : ℕ → Bool) (xs : List ℕ) (r : ℕ) → p r ≡ true → contains_number r xs ≡ true → contains_number r (filter p xs) ≡ true
in_filter_from p [] r passes some = some
in_filter_from p (x ∷ xs) r passes some = at_item (p x) refl (in_cons x r xs some) (in_filter_from p xs r passes)
  where
    at_item : (b : Bool) → p x ≡ b → (x ≡ r) ⊎ (contains_number r xs ≡ true) → (contains_number r xs ≡ true → contains_number r (filter p xs) ≡ true)
        → contains_number r (cond b (x ∷ filter p xs) (filter p xs)) ≡ true
    at_item true is place rest =
        elim place [
          | inl here ↦ or_left (x == r) (contains_number r (filter p xs)) (eq-eqb x r here)
          | inr later ↦ in_later x r (filter p xs) (rest later)
        ]
    at_item false is place rest =
        elim place [
          | inl here ↦ absurd (true≢false (sym passes ∙ ap p (sym here) ∙ is))
          | inr later ↦ rest later
        ]

pub in_range : (a n r : ℕ) → contains_number r (range_with_len a n) ≡ true → (a ≤ r) × (r < a + n)
in_range a zero r some = absurd (true≢false (sym some))
in_range a (suc n) r some =
    elim (in_cons a r (range_with_len (a + 1) n) some) [
      | inl here ↦ (omega (arith, here), omega (arith, here))
      | inr later ↦ (let rest = in_range (a + 1) n r later in (omega (arith, rest.0), omega (arith, rest.1)))
    ]

pub in_range_from : (a n r : ℕ) → a ≤ r → r < a + n → contains_number r (range_with_len a n) ≡ true
in_range_from a zero r from to = absurd (let wrong : ⊥ = omega (arith, from, to) in wrong)
in_range_from a (suc n) r from to =
    elim (cases_Bool (a == r)) [
      | inl same ↦ or_left (a == r) (contains_number r (range_with_len (a + 1) n)) same
      | inr other ↦
          in_later a r (range_with_len (a + 1) n)
          (let ne : a ≡ r → ⊥ = eqb-false a r other in in_range_from (a + 1) n r (omega (arith, from, ne)) (omega (arith, to)))
    ]

times_kept : (p : ℕ → Bool) (xs : List ℕ) (r : ℕ) → times_in r (filter p xs) ≤ times_in r xs
times_kept p [] r = omega arith
times_kept p (x ∷ xs) r = at_item (p x) (times_kept p xs r)
  where
    at_item : (b : Bool) → times_in r (filter p xs) ≤ times_in r xs → times_in r (cond b (x ∷ filter p xs) (filter p xs)) ≤ times_in r (x ∷ xs)
    at_item true rest =
        let e : times_in r (x ∷ xs) ≡ cond (x == r) 1 0 + times_in r xs = sum_by-cons (λ y. cond (y == r) 1 0) x xs in
        let e' : times_in r (x ∷ filter p xs) ≡ cond (x == r) 1 0 + times_in r (filter p xs) = sum_by-cons (λ y. cond (y == r) 1 0) x (filter p xs) in
        omega (arith, e, e', rest)
    at_item false rest =
        let e : times_in r (x ∷ xs) ≡ cond (x == r) 1 0 + times_in r xs = sum_by-cons (λ y. cond (y == r) 1 0) x xs in
        omega (arith, e, rest)

-- numbers of a list, none twice, are no more than the list has
pub few_of : (ys xs : List ℕ) → ((r : ℕ) → times_in r xs ≤ 1) → ((r : ℕ) → contains_number r xs ≡ true → contains_number r ys ≡ true) → length xs ≤ length ys
few_of [] [] once inside = omega arith
few_of [] (x ∷ xs) once inside = absurd (true≢false (sym (inside x (in_first x xs))))
few_of (y ∷ ys) xs once inside =
    let others : ℕ → Bool = λ x. not (x == y) in
    let rest : length (filter others xs) ≤ length ys =
    few_of ys (filter others xs)
    (λ r. let le : times_in r (filter others xs) ≤ times_in r xs = times_kept others xs r in let few : times_in r xs ≤ 1 = once r in omega (arith, le, few))
    (λ r some. let parts = in_filter others xs r some in other r (not-true (r == y) parts.0) (in_cons y r ys (inside r parts.1))) in
    let both : length (filter (λ x. x == y) xs) + length (filter others xs) ≡ length xs = length-filter_both (λ x. x == y) others (λ x. refl) xs in
    let counted : length (filter (λ x. x == y) xs) ≡ times_in y xs = length-filter (λ x. x == y) xs in
    let few : times_in y xs ≤ 1 = once y in
    let goal : length xs ≤ suc (length ys) = omega (arith, rest, both, counted, few) in
    goal
  where
    other : (r : ℕ) → (r == y) ≡ false → (y ≡ r) ⊎ (contains_number r ys ≡ true) → contains_number r ys ≡ true
    other r differs place =
        elim place [
          | inl here ↦ absurd (eqb-false r y differs (sym here))
          | inr later ↦ later
        ]

-- what stands before the first x, and what stands behind it
pub record IsSplit (x : ℕ) (xs before after : List ℕ) : Type 0 where
  pub parts : xs ≡ before ++ (x ∷ after)
  pub from : from_first x xs ≡ x ∷ after
  pub front : take_while (λ y. not (y == x)) xs ≡ before

split_here : (x y : ℕ) (ys : List ℕ) → (y == x) ≡ true → IsSplit x (y ∷ ys) [] ys
split_here x y ys same =
    let one : y ≡ x = eqb-true y x same in
    let none : prefix_len (λ z. not (z == x)) (y ∷ ys) ≡ 0 = ap (λ b. let n : ℕ = cond (not b) (1 + prefix_len (λ z. not (z == x)) ys) 0 in n) same in
    record {
      parts = ap (λ z. z ∷ ys) one;
      from = ap (λ n. drop n (y ∷ ys)) none ∙ ap (λ z. z ∷ ys) one;
      front = ap (λ n. take n (y ∷ ys)) none;
    }

split_later : (x y : ℕ) (ys before after : List ℕ) → (y == x) ≡ false → IsSplit x ys before after → IsSplit x (y ∷ ys) (y ∷ before) after
split_later x y ys before after other rest =
    let n : ℕ = prefix_len (λ z. not (z == x)) ys in
    let next : 1 + n ≡ suc n = omega arith in
    let more : prefix_len (λ z. not (z == x)) (y ∷ ys) ≡ suc n = ap (λ b. let m : ℕ = cond (not b) (1 + prefix_len (λ z. not (z == x)) ys) 0 in m) other ∙ next in
    record {
      parts = ap (λ zs. y ∷ zs) rest.parts;
      from = ap (λ n. drop n (y ∷ ys)) more ∙ rest.from;
      front = ap (λ n. take n (y ∷ ys)) more ∙ ap (λ zs. y ∷ zs) rest.front;
    }

split_at : (x y : ℕ) (ys : List ℕ) (b : Bool) → (y == x) ≡ b → contains_number x (y ∷ ys) ≡ true
    → (contains_number x ys ≡ true → (before after : List ℕ) × IsSplit x ys before after) → (before after : List ℕ) × IsSplit x (y ∷ ys) before after
split_at x y ys true same some rest = ([], ys, split_here x y ys same)
split_at x y ys false other some rest =
    elim (in_cons y x ys some) [
      | inl here ↦ absurd (eqb-false y x other here)
      | inr later ↦ (let found = rest later in (y ∷ found.0, found.1, split_later x y ys found.0 found.1 other found.2))
    ]

pub split_first : (x : ℕ) (xs : List ℕ) → contains_number x xs ≡ true → (before after : List ℕ) × IsSplit x xs before after
split_first x [] some = absurd (true≢false (sym some))
split_first x (y ∷ ys) some = split_at x y ys (y == x) refl some (split_first x ys)

-- one rule more is walked over
pub walk_more : (next : ℕ → Option ℕ) (left path : List ℕ) (r q : ℕ) → IsWalk next left path r → contains_number r path ≡ false
    → next r ≡ Some q → contains_number q left ≡ true → IsWalk next left (path ++ (r ∷ [])) q
walk_more next left path r q walk new is some = record {
  walk = chain_joined (λ q s. next q ≡ Some s) path (r ∷ []) q walk.walk (is, tt);
  begins = sym (first_is path) ∙ walk.begins;
  once = λ s.
      let e : times_in s (path ++ r ∷ []) ≡ times_in s path + cond (r == s) 1 0 = times-push s path r in
      once_at s (r == s) refl e;
  inside = λ s stands.
      elim (or_cases (contains_number s path) (contains_number s (r ∷ [])) (sym (list_any-append (λ y. y == s) path (r ∷ [])) ∙ stands)) [
        | inl before ↦ walk.inside s before
        | inr now ↦ last_in s (in_cons r s [] now)
      ];
  here = some;
}
  where
    first_is : (path : List ℕ) → get_or path 0 r ≡ get_or (path ++ (r ∷ [])) 0 q
    first_is [] = refl
    first_is (x ∷ xs) = refl

    once_at : (s : ℕ) (b : Bool) → (r == s) ≡ b → times_in s (path ++ (r ∷ [])) ≡ times_in s path + cond b 1 0 → times_in s (path ++ (r ∷ [])) ≤ 1
    once_at s true same e =
        let none : times_in s path < 1 =
        elim (cases_some s) [ inl few ↦ few | inr more ↦ absurd (true≢false (sym (in_of_times s path more) ∙ ap (λ k. contains_number k path) (sym (eqb-true r s same)) ∙ new)) ] in
        omega (arith, e, none)
      where
        cases_some : (s : ℕ) → (times_in s path < 1) ⊎ (1 ≤ times_in s path)
        cases_some s = cases_lt (times_in s path) 1
    once_at s false other e = let few : times_in s path ≤ 1 = walk.once s in omega (arith, e, few)

    last_in : (s : ℕ) → (r ≡ s) ⊎ (contains_number s [] ≡ true) → contains_number s left ≡ true
    last_in s place =
        elim place [
          | inl here ↦ subst (λ k. contains_number k left ≡ true) here walk.here
          | inr none ↦ absurd (true≢false (sym none))
        ]

-- A loop of such steps, to which they lead from the first number left.
pub record IsFound (next : ℕ → Option ℕ) (left loop : List ℕ) : Type 0 where
  pub some : 0 < length loop
  pub once : (r : ℕ) → times_in r loop ≤ 1
  pub inside : (r : ℕ) → contains_number r loop ≡ true → contains_number r left ≡ true
  pub walk : Walks next loop (get_or loop 0 0)
  pub reached : (n r : ℕ) × (after_steps next n (get_or left 0 0) ≡ Some r) × (contains_number r loop ≡ true)

found_split : (next : ℕ → Option ℕ) (left path : List ℕ) (r : ℕ) (before after : List ℕ) → IsWalk next left path r → path ≡ before ++ (r ∷ after) → IsFound next left (r ∷ after)
found_split next left path r before after walk parts = record {
  some = omega arith;
  once = λ s.
      let e : times_in s path ≡ times_in s before + times_in s (r ∷ after) = ap (times_in s) parts ∙ sum_by-append (λ y. cond (y == s) 1 0) before (r ∷ after) in
      let few : times_in s path ≤ 1 = walk.once s in
      omega (arith, e, few);
  inside = λ s stands.
      walk.inside s
      (ap (contains_number s) parts ∙ list_any-append (λ y. y == s) before (r ∷ after) ∙ or_right (contains_number s before) (contains_number s (r ∷ after)) stands);
  walk = (chain_split (λ q s. next q ≡ Some s) before (r ∷ after) r (subst (λ path. Walks next path r) parts walk.walk)).1;
  reached = (length path, r, ap (after_steps next (length path)) (sym walk.begins) ∙ walk_leads next path r walk.walk, in_first r after);
}

-- the loop from the number that the walk had
pub found_at : (next : ℕ → Option ℕ) (left path : List ℕ) (r : ℕ) → IsWalk next left path r → contains_number r path ≡ true → IsFound next left (from_first r path)
found_at next left path r walk some =
    let split = split_first r path some in
    subst (λ loop. IsFound next left loop) (sym split.2.from) (found_split next left path r split.0 split.1 walk split.2.parts)

swapped : (xs ys : List ℕ) (r : ℕ) → contains_number r (xs ++ ys) ≡ true → contains_number r (ys ++ xs) ≡ true
swapped xs ys r some =
    list_any-append (λ y. y == r) ys xs
    ∙ elim (or_cases (contains_number r xs) (contains_number r ys) (sym (list_any-append (λ y. y == r) xs ys) ∙ some)) [
      | inl first ↦ or_right (contains_number r ys) (contains_number r xs) first
      | inr second ↦ or_left (contains_number r ys) (contains_number r xs) second
    ]

found_round : (next : ℕ → Option ℕ) (left before from : List ℕ) → IsFound next left (before ++ from) → IsFound next left (from ++ before)
found_round next left before [] found = subst (λ loop. IsFound next left loop) (append-nil before) found
found_round next left before (y ∷ ys) found = record {
  some = omega arith;
  once = λ r.
      let e : times_in r (before ++ (y ∷ ys)) ≡ times_in r before + times_in r (y ∷ ys) = sum_by-append (λ z. cond (z == r) 1 0) before (y ∷ ys) in
      let e' : times_in r ((y ∷ ys) ++ before) ≡ times_in r (y ∷ ys) + times_in r before = sum_by-append (λ z. cond (z == r) 1 0) (y ∷ ys) before in
      let few : times_in r (before ++ (y ∷ ys)) ≤ 1 = found.once r in
      let goal : times_in r ((y ∷ ys) ++ before) ≤ 1 = omega (arith, e, e', few) in
      goal;
  inside = λ r some. found.inside r (swapped (y ∷ ys) before r some);
  walk = chain_rotated (λ q s. next q ≡ Some s) before y ys found.walk;
  reached = (found.reached.0, found.reached.1, found.reached.2, swapped before (y ∷ ys) found.reached.1 found.reached.3);
}

-- a loop that was found, read round from its least number on
pub turned_found : (next : ℕ → Option ℕ) (left xs turned : List ℕ) → IsFound next left xs → IsTurned xs turned → IsFound next left turned
turned_found next left xs turned found turn =
    subst (λ loop. IsFound next left loop) (sym turn.parts.3)
    (found_round next left turn.parts.0 turn.parts.1 (subst (λ loop. IsFound next left loop) turn.parts.2 found))

pub turned_least : (xs turned : List ℕ) (r : ℕ) → IsTurned xs turned → contains_number r turned ≡ true → get_or turned 0 0 ≤ r
turned_least xs turned r turn some =
    turn.least_first r
    (ap (contains_number r) turn.parts.2 ∙ swapped turn.parts.1 turn.parts.0 r (ap (contains_number r) (sym turn.parts.3) ∙ some))

pub turned_at : (x : ℕ) (xs : List ℕ) → contains_number x xs ≡ true → ((r : ℕ) → contains_number r xs ≡ true → x ≤ r) → IsTurned xs (begun_at x xs)
turned_at x xs some least =
    let split = split_first x xs some in
    let is : begun_at x xs ≡ (x ∷ split.1) ++ split.0 = ap (λ zs. zs ++ take_while (λ y. not (y == x)) xs) split.2.from ∙ ap (λ zs. (x ∷ split.1) ++ zs) split.2.front in
    let first : get_or (begun_at x xs) 0 0 ≡ x = ap (λ zs. get_or zs 0 0) is in
    record {
      parts = (split.0, x ∷ split.1, split.2.parts, is);
      least_first = λ r some. let le : x ≤ r = least r some in omega (arith, first, le);
    }
