-- Walks by steps from number to number, and loops of them.
use Rattle.std.proofs.Common.{◌≡◌, ℕ, zero, suc, ◌+◌, ◌≤◌, true, false, cond, List, [], ◌∷◌, ◌++◌, length, get_or, Option, Some, None, refl, ap, sym, ◌∙◌, arith, subst, ◌⊎◌, inl, inr}
use Rattle.std.specs.Prelude.{◌==◌}
use Rattle.std.specs.Option.{option_and_then}
use Rattle.std.proofs.lemmas.Bool.{eqb-true, eq-eqb, or_cases, or_left, or_right, true≢false, false_from_ne_true, cases_Bool}
use Rattle.std.proofs.lemmas.List.Sums.{sum_by-cons}
use Rattle.std.proofs.lemmas.Option.{none-some, same_Some}
use Rattle.flow_types.specs.Plans.{contains_number}
use Rattle.rule_graph.specs.Progress.{times_in}
use Rattle.rule_graph.specs.Loops.{IsChain, after_steps}

-- each number's step goes to the next one, and the last one's to this
abbrev pub Walks : (ℕ → Option ℕ) → List ℕ → ℕ → Type 0
Walks next xs end = IsChain (λ r q. next r ≡ Some q) xs end

first_of_both : (xs ys : List ℕ) (end : ℕ) → get_or xs 0 (get_or ys 0 end) ≡ get_or (xs ++ ys) 0 end
first_of_both [] ys end = refl
first_of_both (x ∷ xs) ys end = refl

pub chain_joined : (R : ℕ → ℕ → Type 0) (xs ys : List ℕ) (end : ℕ) → IsChain R xs (get_or ys 0 end) → IsChain R ys end → IsChain R (xs ++ ys) end
chain_joined R [] ys end first second = second
chain_joined R (x ∷ xs) ys end first second = (subst (R x) (first_of_both xs ys end) first.0, chain_joined R xs ys end first.1 second)

pub chain_split : (R : ℕ → ℕ → Type 0) (xs ys : List ℕ) (end : ℕ) → IsChain R (xs ++ ys) end → IsChain R xs (get_or ys 0 end) × IsChain R ys end
chain_split R [] ys end chain = (tt, chain)
chain_split R (x ∷ xs) ys end chain =
    let rest = chain_split R xs ys end chain.1 in
    ((subst (R x) (sym (first_of_both xs ys end)) chain.0, rest.0), rest.1)

-- a closed chain is one from each of its places on
pub chain_rotated : (R : ℕ → ℕ → Type 0) (xs : List ℕ) (y : ℕ) (ys : List ℕ) → IsChain R (xs ++ (y ∷ ys)) (get_or (xs ++ (y ∷ ys)) 0 0) → IsChain R ((y ∷ ys) ++ xs) y
chain_rotated R xs y ys chain =
    let parts = chain_split R xs (y ∷ ys) (get_or (xs ++ (y ∷ ys)) 0 0) chain in
    let E : ℕ → Type 0 = λ end. IsChain R (y ∷ ys) end in
    chain_joined R (y ∷ ys) xs y (subst E (sym (first_is xs)) parts.1) parts.0
  where
    first_is : (xs : List ℕ) → get_or xs 0 y ≡ get_or (xs ++ (y ∷ ys)) 0 0
    first_is [] = refl
    first_is (x ∷ xs) = refl

-- a chain, link by link
pub chain_mapped : (R S : ℕ → ℕ → Type 0) → ((r q : ℕ) → R r q → S r q) → (xs : List ℕ) (end : ℕ) → IsChain R xs end → IsChain S xs end
chain_mapped R S tells [] end chain = tt
chain_mapped R S tells (x ∷ xs) end chain = (tells x (get_or xs 0 end) chain.0, chain_mapped R S tells xs end chain.1)

-- as many steps as the walk has lead to its end
pub walk_leads : (next : ℕ → Option ℕ) (xs : List ℕ) (end : ℕ) → Walks next xs end → after_steps next (length xs) (get_or xs 0 end) ≡ Some end
walk_leads next [] end walk = refl
walk_leads next (x ∷ xs) end walk = ap (option_and_then (after_steps next (length xs))) walk.0 ∙ walk_leads next xs end walk.1

steps_at : (next : ℕ → Option ℕ) (m n : ℕ) (found : Option ℕ) (b c : ℕ) → option_and_then (after_steps next m) found ≡ Some b
    → ((a : ℕ) → after_steps next m a ≡ Some b → after_steps next (m + n) a ≡ Some c) → option_and_then (after_steps next (m + n)) found ≡ Some c
steps_at next m n None b c first later = absurd (none-some b first)
steps_at next m n (Some a) b c first later = later a first

-- steps after steps
pub steps_added : (next : ℕ → Option ℕ) (m n a b c : ℕ) → after_steps next m a ≡ Some b → after_steps next n b ≡ Some c → after_steps next (m + n) a ≡ Some c
steps_added next zero n a b c first second =
    let none : 0 + n ≡ n = omega arith in
    ap (λ k. after_steps next k a) none ∙ ap (after_steps next n) (same_Some a b first) ∙ second
steps_added next (suc m) n a b c first second =
    let more : suc m + n ≡ suc (m + n) = omega arith in
    ap (λ k. after_steps next k a) more
    ∙ steps_at next m n (next a) b c first (λ a first. steps_added next m n a b c first second)

-- one number leads to another
abbrev pub Leads : (ℕ → Option ℕ) → ℕ → ℕ → Type 0
Leads next a b = (n : ℕ) × (after_steps next n a ≡ Some b)

pub leads_on : (next : ℕ → Option ℕ) (a b c : ℕ) → Leads next a b → Leads next b c → Leads next a c
leads_on next a b c first second = (first.0 + second.0, steps_added next first.0 second.0 a b c first.1 second.1)

one_step : (next : ℕ → Option ℕ) (a b : ℕ) → next a ≡ Some b → Leads next a b
one_step next a b is = (1, ap (option_and_then (after_steps next 0)) is)

-- the number is the first of the list or stands behind it
pub in_cons : (x r : ℕ) (xs : List ℕ) → contains_number r (x ∷ xs) ≡ true → (x ≡ r) ⊎ (contains_number r xs ≡ true)
in_cons x r xs some = elim (or_cases (x == r) (contains_number r xs) some) [ inl same ↦ inl (eqb-true x r same) | inr later ↦ inr later ]

pub in_first : (x : ℕ) (xs : List ℕ) → contains_number x (x ∷ xs) ≡ true
in_first x xs = or_left (x == x) (contains_number x xs) (eq-eqb x x refl)

pub in_later : (x r : ℕ) (xs : List ℕ) → contains_number r xs ≡ true → contains_number r (x ∷ xs) ≡ true
in_later x r xs some = or_right (x == r) (contains_number r xs) some

walk_to_end : (next : ℕ → Option ℕ) (xs : List ℕ) (end r : ℕ) → Walks next xs end → contains_number r xs ≡ true → Leads next r end
walk_to_end next [] end r walk some = absurd (true≢false (sym some))
walk_to_end next (x ∷ xs) end r walk some =
    elim (in_cons x r xs some) [
      | inl here ↦ subst (λ k. Leads next k end) here (suc (length xs), walk_leads next (x ∷ xs) end walk)
      | inr later ↦ walk_to_end next xs end r walk.1 later
    ]

walk_from_first : (next : ℕ → Option ℕ) (x : ℕ) (xs : List ℕ) (end r : ℕ) → Walks next (x ∷ xs) end → contains_number r (x ∷ xs) ≡ true → Leads next x r
walk_from_first next x [] end r walk some =
    elim (in_cons x r [] some) [ inl here ↦ (0, ap Some here) | inr later ↦ absurd (true≢false (sym later)) ]
walk_from_first next x (y ∷ ys) end r walk some =
    elim (in_cons x r (y ∷ ys) some) [
      | inl here ↦ (0, ap Some here)
      | inr later ↦ leads_on next x y r (one_step next x y walk.0) (walk_from_first next y ys end r walk.1 later)
    ]

-- each number of a closed walk leads to each
pub around : (next : ℕ → Option ℕ) (loop : List ℕ) (r q : ℕ) → Walks next loop (get_or loop 0 0) → contains_number r loop ≡ true → contains_number q loop ≡ true → Leads next r q
around next [] r q walk from to = absurd (true≢false (sym from))
around next (x ∷ xs) r q walk from to = leads_on next r x q (walk_to_end next (x ∷ xs) x r walk from) (walk_from_first next x xs x q walk to)

-- a step from a walk stays among these numbers
step_within : (next : ℕ → Option ℕ) (Q : ℕ → Type 0) (xs : List ℕ) (end r : ℕ) → ((q : ℕ) → contains_number q xs ≡ true → Q q) → Q end → Walks next xs end
    → contains_number r xs ≡ true → (q : ℕ) × (next r ≡ Some q) × Q q
step_within next Q [] end r inside last walk some = absurd (true≢false (sym some))
step_within next Q (x ∷ xs) end r inside last walk some =
    elim (in_cons x r xs some) [
      | inl here ↦ (get_or xs 0 end, ap next (sym here) ∙ walk.0, first_in xs inside)
      | inr later ↦ step_within next Q xs end r (λ q some. inside q (in_later x q xs some)) last walk.1 later
    ]
  where
    first_in : (xs : List ℕ) → ((q : ℕ) → contains_number q (x ∷ xs) ≡ true → Q q) → Q (get_or xs 0 end)
    first_in [] inside = last
    first_in (y ∷ ys) inside = inside y (in_later x y (y ∷ ys) (in_first y ys))

first_in_loop : (loop : List ℕ) (r : ℕ) → contains_number r loop ≡ true → contains_number (get_or loop 0 0) loop ≡ true
first_in_loop [] r some = some
first_in_loop (x ∷ xs) r some = in_first x xs

-- steps from a closed walk stay in it
pub stays : (next : ℕ → Option ℕ) (loop : List ℕ) (n r : ℕ) → Walks next loop (get_or loop 0 0) → contains_number r loop ≡ true
    → (q : ℕ) × (after_steps next n r ≡ Some q) × (contains_number q loop ≡ true)
stays next loop zero r walk some = (r, refl, some)
stays next loop (suc n) r walk some =
    let one = step_within next (λ q. contains_number q loop ≡ true) loop (get_or loop 0 0) r (λ q some. some) (first_in_loop loop r some) walk some in
    let rest = stays next loop n one.0 walk one.2 in
    (rest.0, ap (option_and_then (after_steps next n)) one.1 ∙ rest.1, rest.2)

-- what a number of a closed walk leads to stands in it
led_inside : (next : ℕ → Option ℕ) (loop : List ℕ) (r q : ℕ) → Walks next loop (get_or loop 0 0) → contains_number r loop ≡ true → Leads next r q → contains_number q loop ≡ true
led_inside next loop r q walk some led =
    let stayed = stays next loop led.0 r walk some in
    subst (λ k. contains_number k loop ≡ true) (same_Some stayed.0 q (sym stayed.1 ∙ led.1)) stayed.2

-- closed walks with a common number have the same numbers
pub same_members : (next : ℕ → Option ℕ) (first second : List ℕ) (x r : ℕ) → Walks next first (get_or first 0 0) → Walks next second (get_or second 0 0)
    → contains_number x first ≡ true → contains_number x second ≡ true → contains_number r first ≡ true → contains_number r second ≡ true
same_members next first second x r walk walk2 in_one in_two some = led_inside next second x r walk2 in_two (around next first x r walk in_one some)

-- closed walks that one number leads to have a number in common
pub meets : (next : ℕ → Option ℕ) (first second : List ℕ) (start m r n q : ℕ) → Walks next first (get_or first 0 0) → Walks next second (get_or second 0 0)
    → after_steps next m start ≡ Some r → contains_number r first ≡ true → after_steps next n start ≡ Some q → contains_number q second ≡ true
    → (x : ℕ) × (contains_number x first ≡ true) × (contains_number x second ≡ true)
meets next first second start m r n q walk walk2 to_one in_one to_two in_two =
    let one = stays next first n r walk in_one in
    let two = stays next second m q walk2 in_two in
    let by_one : after_steps next (m + n) start ≡ Some one.0 = steps_added next m n start r one.0 to_one one.1 in
    let by_two : after_steps next (n + m) start ≡ Some two.0 = steps_added next n m start q two.0 to_two two.1 in
    let swapped : m + n ≡ n + m = omega arith in
    (one.0, one.2, subst (λ k. contains_number k second ≡ true) (same_Some two.0 one.0 (sym by_two ∙ ap (λ k. after_steps next k start) (sym swapped) ∙ by_one)) two.2)

-- walks from one number to this one are the same
same_walks : (next : ℕ → Option ℕ) (end : ℕ) (xs ys : List ℕ) → Walks next xs end → Walks next ys end → get_or xs 0 end ≡ get_or ys 0 end
    → contains_number end xs ≡ false → contains_number end ys ≡ false → xs ≡ ys
same_walks next end [] [] walk walk2 begin not_one not_two = refl
same_walks next end [] (y ∷ ys) walk walk2 begin not_one not_two =
    absurd (true≢false (sym (subst (λ k. contains_number k (y ∷ ys) ≡ true) (sym begin) (in_first y ys)) ∙ not_two))
same_walks next end (x ∷ xs) [] walk walk2 begin not_one not_two =
    absurd (true≢false (sym (subst (λ k. contains_number k (x ∷ xs) ≡ true) begin (in_first x xs)) ∙ not_one))
same_walks next end (x ∷ xs) (y ∷ ys) walk walk2 begin not_one not_two =
    let rest : xs ≡ ys =
    same_walks next end xs ys walk.1 walk2.1 (same_Some _ _ (sym walk.0 ∙ ap next begin ∙ walk2.0)) (not_later x xs not_one) (not_later y ys not_two) in
    ap (λ z. z ∷ xs) begin ∙ ap (λ zs. y ∷ zs) rest
  where
    not_later : (x : ℕ) (xs : List ℕ) → contains_number end (x ∷ xs) ≡ false → contains_number end xs ≡ false
    not_later x xs none = false_from_ne_true (contains_number end xs) (λ some. true≢false (sym (in_later x end xs some) ∙ none))

-- what stands in a list stands in it once at least
pub times_of_in : (r : ℕ) (xs : List ℕ) → contains_number r xs ≡ true → 1 ≤ times_in r xs
times_of_in r [] some = absurd (true≢false (sym some))
times_of_in r (x ∷ xs) some =
    let e : times_in r (x ∷ xs) ≡ cond (x == r) 1 0 + times_in r xs = sum_by-cons (λ y. cond (y == r) 1 0) x xs in
    elim (in_cons x r xs some) [
      | inl here ↦ (let one : cond (x == r) 1 0 ≡ 1 = ap (λ b. let n : ℕ = cond b 1 0 in n) (eq-eqb x r here) in omega (arith, e, one))
      | inr later ↦ (let rest : 1 ≤ times_in r xs = times_of_in r xs later in omega (arith, e, rest))
    ]

pub in_of_times : (r : ℕ) (xs : List ℕ) → 1 ≤ times_in r xs → contains_number r xs ≡ true
in_of_times r [] some = absurd (let none : times_in r [] ≡ 0 = refl in let wrong : ⊥ = omega (arith, some, none) in wrong)
in_of_times r (x ∷ xs) some =
    let e : times_in r (x ∷ xs) ≡ cond (x == r) 1 0 + times_in r xs = sum_by-cons (λ y. cond (y == r) 1 0) x xs in
    elim (cases_Bool (x == r)) [
      | inl same ↦ or_left (x == r) (contains_number r xs) same
      | inr other ↦
          in_later x r xs (in_of_times r xs (let none : cond (x == r) 1 0 ≡ 0 = ap (λ b. let n : ℕ = cond b 1 0 in n) other in omega (arith, e, none, some)))
    ]

-- the first of a list without repeats doesn't stand behind
pub first_once : (x : ℕ) (xs : List ℕ) → ((r : ℕ) → times_in r (x ∷ xs) ≤ 1) → contains_number x xs ≡ false
first_once x xs once =
    false_from_ne_true (contains_number x xs) (λ some.
    let e : times_in x (x ∷ xs) ≡ cond (x == x) 1 0 + times_in x xs = sum_by-cons (λ y. cond (y == x) 1 0) x xs in
    let one : cond (x == x) 1 0 ≡ 1 = ap (λ b. let n : ℕ = cond b 1 0 in n) (eq-eqb x x refl) in
    let more : 1 ≤ times_in x xs = times_of_in x xs some in
    let few : times_in x (x ∷ xs) ≤ 1 = once x in
    let wrong : ⊥ = omega (arith, e, one, more, few) in wrong)

-- two closed walks without repeats that one number leads to, and that begin at their least numbers, are the same
pub same_loops : (next : ℕ → Option ℕ) (first second : List ℕ) (start m r n q : ℕ) → Walks next first (get_or first 0 0) → Walks next second (get_or second 0 0)
    → after_steps next m start ≡ Some r → contains_number r first ≡ true → after_steps next n start ≡ Some q → contains_number q second ≡ true
    → ((r : ℕ) → times_in r first ≤ 1) → ((r : ℕ) → times_in r second ≤ 1)
    → ((r : ℕ) → contains_number r first ≡ true → get_or first 0 0 ≤ r) → ((r : ℕ) → contains_number r second ≡ true → get_or second 0 0 ≤ r)
    → first ≡ second
same_loops next [] second start m r n q walk walk2 to_one in_one to_two in_two once once2 least least2 = absurd (true≢false (sym in_one))
same_loops next (x ∷ xs) [] start m r n q walk walk2 to_one in_one to_two in_two once once2 least least2 = absurd (true≢false (sym in_two))
same_loops next (x ∷ xs) (y ∷ ys) start m r n q walk walk2 to_one in_one to_two in_two once once2 least least2 =
    let common = meets next (x ∷ xs) (y ∷ ys) start m r n q walk walk2 to_one in_one to_two in_two in
    let below : x ≤ y = least y (same_members next (y ∷ ys) (x ∷ xs) common.0 y walk2 walk common.2 common.1 (in_first y ys)) in
    let above : y ≤ x = least2 x (same_members next (x ∷ xs) (y ∷ ys) common.0 x walk walk2 common.1 common.2 (in_first x xs)) in
    let same : x ≡ y = omega (arith, below, above) in
    by_first x y same walk walk2 once once2
  where
    by_first : (x y : ℕ) → x ≡ y → Walks next (x ∷ xs) x → Walks next (y ∷ ys) y → ((r : ℕ) → times_in r (x ∷ xs) ≤ 1) → ((r : ℕ) → times_in r (y ∷ ys) ≤ 1)
        → (x ∷ xs) ≡ (y ∷ ys)
    by_first x y same walk walk2 once once2 =
        let walk3 : Walks next (x ∷ ys) x = subst (λ k. Walks next (k ∷ ys) k) (sym same) walk2 in
        let once3 : (r : ℕ) → times_in r (x ∷ ys) ≤ 1 = subst (λ k. (r : ℕ) → times_in r (k ∷ ys) ≤ 1) (sym same) once2 in
        ap (λ zs. x ∷ zs) (same_walks next x xs ys walk.1 walk3.1 (same_Some _ _ (sym walk.0 ∙ walk3.0)) (first_once x xs once) (first_once x ys once3))
        ∙ ap (λ z. z ∷ ys) same
