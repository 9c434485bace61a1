-- A rule comes to its place among those of its link, or goes.
use Rattle.std.proofs.Common.{◌≡◌, ℕ, zero, suc, ◌+◌, ◌-◌, ◌<◌, ◌≤◌, ◌∙◌, Bool, true, false, cond, ◌||◌, List, [], ◌∷◌, length, Result, Ok, Err, refl, ap, sym, subst, arith}
use Rattle.std.specs.Prelude.{◌==◌, nat_le, nat_lt, slice_index_or}
use Rattle.std.specs.Result.{IsOk, is_ok}
use Rattle.std.specs.List.{insert, remove}
use Rattle.std.specs.List.Sorted.{IsNonDecreasingBy}
use Rattle.std.proofs.lemmas.Bool.{eqb-true, eqb-false, false_from_ne_true, leb-true, true≢false}
use Rattle.std.proofs.lemmas.List.Edits.{get_or-remove_above, get_or-remove_below, length-remove}
use Rattle.std.proofs.lemmas.List.Sorted.{IsNonDecreasingBy-insert}
use Rattle.flow_types.specs.declared.numbers.LinkNo.{LinkNo}
use Rattle.flow_types.specs.declared.numbers.RuleNo.{RuleNo}
use Rattle.flow_types.specs.Plans.{contains_number}
use Rattle.ready_rules.specs.Lines.{IsAscending, IsPlaceOf, placed, without}
use Rattle.ready_rules.proofs.Places.{ascending-placed, ascending-removed, placed-is, without-is}
use Rattle.running_rules.specs.Tasks.{AreTasks, IsBehind, IsFirstOf, IsTaskPlace, Tasks, rules_at, tasks_on}
use Rattle.running_rules.proofs.Spans.{behind-most, behind-none, behind-not, behind-rest, between-same, first-less, first-none, first-not, first-rest, less-apart, more-apart, none-behind, span-count}

place_rest : (x y n : ℕ) (ys : List ℕ) → IsPlaceOf x (y ∷ ys) (suc n) → IsPlaceOf x ys n
place_rest x y n ys place =
    (omega (arith, place.0), ((λ k d from to. place.1.0 (suc k) d (omega arith) (omega (arith, to))), (λ k d from to. place.1.1 (suc k) d (omega (arith, from)) (omega (arith, to)))))

place_first : (x y n : ℕ) (ys : List ℕ) → IsPlaceOf x (y ∷ ys) (suc n) → nat_lt y x ≡ true
place_first x y n ys place = place.1.0 0 y (omega arith) (omega arith)

place_not : (x y : ℕ) (ys : List ℕ) → IsPlaceOf x (y ∷ ys) 0 → nat_lt y x ≡ false
place_not x y ys place = place.1.1 0 y (omega arith) (omega arith)

-- the rules of a link once a pair stands in front
abbrev front : ℕ → ℕ → ℕ → List ℕ → List ℕ
front l j r rest = cond (l == j) (r ∷ rest) rest

front_is : (l j r : ℕ) (rest : List ℕ) (b : Bool) → (l == j) ≡ b → front l j r rest ≡ cond b (r ∷ rest) rest
front_is l j r rest b is = ap (λ c. cond c (r ∷ rest) rest) is

-- a pair of another link in front
other_front : (l k j r : ℕ) (more S X : List ℕ) → (l == k) ≡ false → X ≡ cond (k == j) S more → front l j r X ≡ cond (k == j) S (front l j r more)
other_front l k j r more S X apart is = by_cases (l == j) refl (k == j) refl is
  where
    by_cases : (a : Bool) → (l == j) ≡ a → (b : Bool) → (k == j) ≡ b → X ≡ cond (k == j) S more → front l j r X ≡ cond (k == j) S (front l j r more)
    by_cases true here true same rest = absurd (eqb-false l k apart (eqb-true l j here ∙ sym (eqb-true k j same)))
    by_cases true here false other rest =
        ap (front l j r) (rest ∙ ap (λ c. cond c S more) other) ∙ sym (ap (λ c. cond c S (front l j r more)) other)
    by_cases false here b same rest = front_is l j r X false here ∙ rest ∙ ap (λ xs. cond (k == j) S xs) (sym (front_is l j r more false here))

-- a pair of the same link in front, whose rule stays in front
same_front : (l k j r : ℕ) (more S Y X : List ℕ) → (l == k) ≡ true → Y ≡ r ∷ S → X ≡ cond (k == j) S more → front l j r X ≡ cond (k == j) Y (front l j r more)
same_front l k j r more S Y X one yields is = by_cases (k == j) refl is
  where
    is_one : l ≡ k
    is_one = eqb-true l k one

    by_cases : (b : Bool) → (k == j) ≡ b → X ≡ cond (k == j) S more → front l j r X ≡ cond (k == j) Y (front l j r more)
    by_cases true same rest =
        front_is l j r X true (ap (λ n. n == j) is_one ∙ same) ∙ ap (λ xs. r ∷ xs) (rest ∙ ap (λ c. cond c S more) same) ∙ sym yields ∙ sym (ap (λ c. cond c Y (front l j r more)) same)
    by_cases false other rest =
        ap (front l j r) (rest ∙ ap (λ c. cond c S more) other) ∙ sym (ap (λ c. cond c Y (front l j r more)) other)

-- a rule comes in front of the others of its link
first_comes : (k j x : ℕ) (all mine : List ℕ) → (k ≡ j → all ≡ mine) → IsPlaceOf x mine 0 → front k j x all ≡ cond (k == j) (placed x mine) all
first_comes k j x all mine same place = by_cases (k == j) refl
  where
    by_cases : (b : Bool) → (k == j) ≡ b → front k j x all ≡ cond (k == j) (placed x mine) all
    by_cases true is = front_is k j x all true is ∙ ap (λ xs. x ∷ xs) (same (eqb-true k j is)) ∙ placed-is x 0 mine place ∙ sym (ap (λ c. cond c (placed x mine) all) is)
    by_cases false is = front_is k j x all false is ∙ sym (ap (λ c. cond c (placed x mine) all) is)

-- the rules of each link once one has come
pub comes : (link : LinkNo) (rule : RuleNo) (j at from to n : ℕ) (links : List LinkNo) (rules : List RuleNo) → length rules ≡ length links → at ≡ from + n → IsFirstOf link.0 links from → IsBehind link.0 links to
    → IsPlaceOf rule.0 (rules_at links rules link.0) n → rules_at (insert links at link) (insert rules at rule) j ≡ cond (link.0 == j) (placed rule.0 (rules_at links rules link.0)) (rules_at links rules j)
comes link rule j zero from to zero links rules long here first last place = first_comes link.0 j rule.0 (rules_at links rules j) (rules_at links rules link.0) (λ same. ap (rules_at links rules) (sym same)) place
comes link rule j zero from to (suc n) links rules long here first last place = absurd (let wrong : ⊥ = omega (arith, here) in wrong)
comes link rule j (suc a) from to n [] [] long here first last place = absurd (let wrong : ⊥ = omega (arith, here, first.0, place.0) in wrong)
comes link rule j (suc a) from to n [] (r ∷ rules) long here first last place = absurd (let wrong : ⊥ = omega (arith, long) in wrong)
comes link rule j (suc a) from to n (l ∷ links) [] long here first last place = absurd (let wrong : ⊥ = omega (arith, long) in wrong)
comes link rule j (suc a) (suc f) zero n (l ∷ links) (r ∷ rules) long here first last place =
    absurd (let less = first-less link.0 f l links first in let more = behind-not link.0 l links last in let wrong : ⊥ = grind (arith, less, more) in wrong)
comes link rule j (suc a) (suc f) (suc t) n (l ∷ links) (r ∷ rules) long here first last place =
    let apart : (l.0 == link.0) ≡ false = less-apart l.0 link.0 (first-less link.0 f l links first) in
    let mine : rules_at (l ∷ links) (r ∷ rules) link.0 ≡ rules_at links rules link.0 = front_is l.0 link.0 r.0 (rules_at links rules link.0) false apart in
    other_front l.0 link.0 j r.0 (rules_at links rules j) (placed rule.0 (rules_at links rules link.0)) (rules_at (insert links a link) (insert rules a rule) j) apart
    (comes link rule j a f t n links rules (omega (arith, long)) (omega (arith, here)) (first-rest link.0 f l links first) (behind-rest link.0 t l links last) (subst (λ xs. IsPlaceOf rule.0 xs n) mine place))
    ∙ ap (λ xs. cond (link.0 == j) (placed rule.0 xs) (rules_at (l ∷ links) (r ∷ rules) j)) (sym mine)
comes link rule j (suc a) zero to zero (l ∷ links) (r ∷ rules) long here first last place = absurd (let wrong : ⊥ = omega (arith, here) in wrong)
comes link rule j (suc a) zero zero (suc n) (l ∷ links) (r ∷ rules) long here first last place =
    absurd (let none : length (rules_at (l ∷ links) (r ∷ rules) link.0) ≡ 0 = ap (λ (xs : List ℕ). length xs) (none-behind link.0 (l ∷ links) (r ∷ rules) last) in let wrong : ⊥ = omega (arith, none, place.0) in wrong)
comes link rule j (suc a) zero (suc t) (suc n) (l ∷ links) (r ∷ rules) long here first last place =
    let one : (l.0 == link.0) ≡ true = between-same l.0 link.0 (first-not link.0 l links first) (behind-most link.0 t l links last) in
    let S : List ℕ = rules_at links rules link.0 in
    let mine : rules_at (l ∷ links) (r ∷ rules) link.0 ≡ r.0 ∷ S = front_is l.0 link.0 r.0 S true one in
    let stands : IsPlaceOf rule.0 (r.0 ∷ S) (suc n) = subst (λ xs. IsPlaceOf rule.0 xs (suc n)) mine place in
    let yields : placed rule.0 (rules_at (l ∷ links) (r ∷ rules) link.0) ≡ r.0 ∷ placed rule.0 S =
    ap (placed rule.0) mine ∙ ap (λ c. cond c (r.0 ∷ placed rule.0 S) (rule.0 ∷ (r.0 ∷ S))) (place_first rule.0 r.0 n S stands) in
    same_front l.0 link.0 j r.0 (rules_at links rules j) (placed rule.0 S) (placed rule.0 (rules_at (l ∷ links) (r ∷ rules) link.0)) (rules_at (insert links a link) (insert rules a rule) j) one yields
    (comes link rule j a 0 t n links rules (omega (arith, long)) (omega (arith, here)) (first-none link.0 l links first) (behind-rest link.0 t l links last) (place_rest rule.0 r.0 n S stands))

-- the first rule of a link goes
first_goes : (l k j r x : ℕ) (all mine : List ℕ) → (l == k) ≡ true → (k ≡ j → all ≡ mine) → nat_lt r x ≡ false → all ≡ cond (k == j) (without x (r ∷ mine)) (front l j r all)
first_goes l k j r x all mine one same more = by_cases (k == j) refl
  where
    by_cases : (b : Bool) → (k == j) ≡ b → all ≡ cond (k == j) (without x (r ∷ mine)) (front l j r all)
    by_cases true is = same (eqb-true k j is) ∙ sym (ap (λ c. cond c (r ∷ without x mine) mine) more) ∙ sym (ap (λ c. cond c (without x (r ∷ mine)) (front l j r all)) is)
    by_cases false is = sym (front_is l j r all false (ap (λ n. n == j) (eqb-true l k one) ∙ is)) ∙ sym (ap (λ c. cond c (without x (r ∷ mine)) (front l j r all)) is)

-- the rules of each link once one has gone
pub goes : (link : LinkNo) (x j at from to n : ℕ) (links : List LinkNo) (rules : List RuleNo) → length rules ≡ length links → at ≡ from + n → IsFirstOf link.0 links from → IsBehind link.0 links to
    → IsPlaceOf x (rules_at links rules link.0) n → n < length (rules_at links rules link.0) → rules_at (remove links at) (remove rules at) j ≡ cond (link.0 == j) (without x (rules_at links rules link.0)) (rules_at links rules j)
goes link x j at from to n [] [] long here first last place some = absurd (let wrong : ⊥ = omega (arith, some) in wrong)
goes link x j at from to n [] (r ∷ rules) long here first last place some = absurd (let wrong : ⊥ = omega (arith, long) in wrong)
goes link x j at from to n (l ∷ links) [] long here first last place some = absurd (let wrong : ⊥ = omega (arith, long) in wrong)
goes link x j zero (suc f) to n (l ∷ links) (r ∷ rules) long here first last place some = absurd (let wrong : ⊥ = omega (arith, here) in wrong)
goes link x j (suc a) (suc f) zero n (l ∷ links) (r ∷ rules) long here first last place some =
    absurd (let less = first-less link.0 f l links first in let more = behind-not link.0 l links last in let wrong : ⊥ = grind (arith, less, more) in wrong)
goes link x j (suc a) (suc f) (suc t) n (l ∷ links) (r ∷ rules) long here first last place some =
    let apart : (l.0 == link.0) ≡ false = less-apart l.0 link.0 (first-less link.0 f l links first) in
    let mine : rules_at (l ∷ links) (r ∷ rules) link.0 ≡ rules_at links rules link.0 = front_is l.0 link.0 r.0 (rules_at links rules link.0) false apart in
    other_front l.0 link.0 j r.0 (rules_at links rules j) (without x (rules_at links rules link.0)) (rules_at (remove links a) (remove rules a) j) apart
    (goes link x j a f t n links rules (omega (arith, long)) (omega (arith, here)) (first-rest link.0 f l links first) (behind-rest link.0 t l links last) (subst (λ xs. IsPlaceOf x xs n) mine place) (subst (λ (xs : List ℕ). n < length xs) mine some))
    ∙ ap (λ xs. cond (link.0 == j) (without x xs) (rules_at (l ∷ links) (r ∷ rules) j)) (sym mine)
goes link x j at zero zero n (l ∷ links) (r ∷ rules) long here first last place some =
    absurd (let none : length (rules_at (l ∷ links) (r ∷ rules) link.0) ≡ 0 = ap (λ (xs : List ℕ). length xs) (none-behind link.0 (l ∷ links) (r ∷ rules) last) in let wrong : ⊥ = omega (arith, none, some) in wrong)
goes link x j zero zero (suc t) (suc n) (l ∷ links) (r ∷ rules) long here first last place some = absurd (let wrong : ⊥ = omega (arith, here) in wrong)
goes link x j (suc a) zero (suc t) zero (l ∷ links) (r ∷ rules) long here first last place some = absurd (let wrong : ⊥ = omega (arith, here) in wrong)
goes link x j zero zero (suc t) zero (l ∷ links) (r ∷ rules) long here first last place some =
    let one : (l.0 == link.0) ≡ true = between-same l.0 link.0 (first-not link.0 l links first) (behind-most link.0 t l links last) in
    let S : List ℕ = rules_at links rules link.0 in
    let mine : rules_at (l ∷ links) (r ∷ rules) link.0 ≡ r.0 ∷ S = front_is l.0 link.0 r.0 S true one in
    first_goes l.0 link.0 j r.0 x (rules_at links rules j) S one (λ same. ap (rules_at links rules) (sym same)) (place_not x r.0 S (subst (λ xs. IsPlaceOf x xs 0) mine place))
    ∙ ap (λ xs. cond (link.0 == j) (without x xs) (rules_at (l ∷ links) (r ∷ rules) j)) (sym mine)
goes link x j (suc a) zero (suc t) (suc n) (l ∷ links) (r ∷ rules) long here first last place some =
    let one : (l.0 == link.0) ≡ true = between-same l.0 link.0 (first-not link.0 l links first) (behind-most link.0 t l links last) in
    let S : List ℕ = rules_at links rules link.0 in
    let mine : rules_at (l ∷ links) (r ∷ rules) link.0 ≡ r.0 ∷ S = front_is l.0 link.0 r.0 S true one in
    let stands : IsPlaceOf x (r.0 ∷ S) (suc n) = subst (λ xs. IsPlaceOf x xs (suc n)) mine place in
    let more : suc n < length (r.0 ∷ S) = subst (λ (xs : List ℕ). suc n < length xs) mine some in
    let yields : without x (rules_at (l ∷ links) (r ∷ rules) link.0) ≡ r.0 ∷ without x S = ap (without x) mine ∙ ap (λ c. cond c (r.0 ∷ without x S) S) (place_first x r.0 n S stands) in
    same_front l.0 link.0 j r.0 (rules_at links rules j) (without x S) (without x (rules_at (l ∷ links) (r ∷ rules) link.0)) (rules_at (remove links a) (remove rules a) j) one yields
    (goes link x j a 0 t n links rules (omega (arith, long)) (omega (arith, here)) (first-none link.0 l links first) (behind-rest link.0 t l links last) (place_rest x r.0 n S stands) (omega (arith, more)))

-- a rule that runs has a place before the end
pub place-inside : (x n : ℕ) (xs : List ℕ) → IsPlaceOf x xs n → contains_number x xs ≡ true → n < length xs
place-inside x n [] place has = absurd (true≢false (sym has))
place-inside x zero (y ∷ ys) place has = omega arith
place-inside x (suc n) (y ∷ ys) place has =
    let other : (y == x) ≡ false = less-apart y x (place_first x y n ys place) in
    let rest : n < length ys = place-inside x n ys (place_rest x y n ys place) (sym (ap (λ b. b || contains_number x ys) other) ∙ has) in
    omega (arith, rest)

-- where a rule comes or goes within the list
pub within-span : (T : Tasks) (k x at : ℕ) (is : IsTaskPlace T k x at) → at ≤ is.to
within-span T k x at is = let count = span-count T k is.from is.to is.span in omega (arith, is.here, is.place.0, count, is.span.ordered)

long_insert : {A : Type 0} (xs : List A) (at : ℕ) (x : A) → length (insert xs at x) ≡ length xs + 1
long_insert xs zero x = omega arith
long_insert [] (suc at) x = omega arith
long_insert (y ∷ ys) (suc at) x = let rest = long_insert ys at x in let same : length (insert (y ∷ ys) (suc at) x) ≡ suc (length (insert ys at x)) = refl in omega (arith, rest, same)

lesser : (l k : ℕ) → nat_le l k ≡ true → l ≤ k
lesser l k is = grind (arith, is)

greater : (l k : ℕ) → nat_lt l k ≡ false → k ≤ l
greater l k is = grind (arith, is)

-- a rule more runs on a link
pub tasks-more : (T : Tasks) (link : LinkNo) (rule : RuleNo) (at places : ℕ) → AreTasks T → IsTaskPlace T link.0 rule.0 at → AreTasks (record { links = insert T.links at link; rules = insert T.rules at rule; places = places })
tasks-more T link rule at places are is = record {
  long = long_insert T.rules at rule ∙ ap (λ n. n + 1) are.long ∙ sym (long_insert T.links at link);
  links = IsNonDecreasingBy-insert (λ l. l.0) T.links at link are.links (omega (arith, inside, is.span.last.0))
      (λ k d to. lesser (slice_index_or T.links k d).0 link.0 (is.span.last.1.0 k d (omega arith) (omega (arith, to, inside))))
      (λ k d from to. greater (slice_index_or T.links k d).0 link.0 (is.span.first.1.1 k d (omega (arith, from, is.here)) to));
  rules = λ j. subst IsAscending (sym (each j)) (by_link j (link.0 == j) refl);
}
  where
    inside : at ≤ is.to
    inside = within-span T link.0 rule.0 at is

    each : (j : ℕ) → rules_at (insert T.links at link) (insert T.rules at rule) j ≡ cond (link.0 == j) (placed rule.0 (tasks_on T link.0)) (tasks_on T j)
    each j = comes link rule j at is.from is.to is.count T.links T.rules are.long is.here is.span.first is.span.last is.place

    by_link : (j : ℕ) (b : Bool) → (link.0 == j) ≡ b → IsAscending (cond (link.0 == j) (placed rule.0 (tasks_on T link.0)) (tasks_on T j))
    by_link j true same =
        subst IsAscending (placed-is rule.0 is.count (tasks_on T link.0) is.place ∙ sym (ap (λ c. cond c (placed rule.0 (tasks_on T link.0)) (tasks_on T j)) same))
        (ascending-placed rule.0 is.count (tasks_on T link.0) (are.rules link.0) is.place)
    by_link j false other = subst IsAscending (sym (ap (λ c. cond c (placed rule.0 (tasks_on T link.0)) (tasks_on T j)) other)) (are.rules j)

-- the rules of each link then, by the link
by_same : (T : Tasks) (change : List ℕ → List ℕ) (k j : ℕ) → cond (k == j) (change (tasks_on T k)) (tasks_on T j) ≡ cond (k == j) (change (tasks_on T j)) (tasks_on T j)
by_same T change k j = by_cases (k == j) refl
  where
    by_cases : (b : Bool) → (k == j) ≡ b → cond (k == j) (change (tasks_on T k)) (tasks_on T j) ≡ cond (k == j) (change (tasks_on T j)) (tasks_on T j)
    by_cases true is = ap (λ n. cond (k == j) (change (tasks_on T n)) (tasks_on T j)) (eqb-true k j is)
    by_cases false is = ap (λ c. cond c (change (tasks_on T k)) (tasks_on T j)) is ∙ sym (ap (λ c. cond c (change (tasks_on T j)) (tasks_on T j)) is)

pub rules-more : (T : Tasks) (link : LinkNo) (rule : RuleNo) (at j : ℕ) → AreTasks T → IsTaskPlace T link.0 rule.0 at
    → rules_at (insert T.links at link) (insert T.rules at rule) j ≡ cond (link.0 == j) (placed rule.0 (tasks_on T j)) (tasks_on T j)
rules-more T link rule at j are is =
    comes link rule j at is.from is.to is.count T.links T.rules are.long is.here is.span.first is.span.last is.place ∙ by_same T (placed rule.0) link.0 j

pub rules-less : (T : Tasks) (link : LinkNo) (x at j : ℕ) → AreTasks T → IsTaskPlace T link.0 x at → contains_number x (tasks_on T link.0) ≡ true
    → rules_at (remove T.links at) (remove T.rules at) j ≡ cond (link.0 == j) (without x (tasks_on T j)) (tasks_on T j)
rules-less T link x at j are is has =
    goes link x j at is.from is.to is.count T.links T.rules are.long is.here is.span.first is.span.last is.place (place-inside x is.count (tasks_on T link.0) is.place has) ∙ by_same T (without x) link.0 j

-- its place is one of the list
pub place-before : (T : Tasks) (k x at : ℕ) (is : IsTaskPlace T k x at) → contains_number x (tasks_on T k) ≡ true → at < length T.rules
place-before T k x at is has =
    let inside : is.count < length (tasks_on T k) = place-inside x is.count (tasks_on T k) is.place has in
    let count = span-count T k is.from is.to is.span in omega (arith, is.here, inside, count, is.span.ordered, is.span.within)

read_left : (xs : List LinkNo) (at k : ℕ) (d : LinkNo) → at < length xs → (b : Bool) → nat_lt k at ≡ b → slice_index_or (remove xs at) k d ≡ slice_index_or xs (cond b k (k + 1)) d
read_left xs at k d inside true less = get_or-remove_below xs at d k (grind (arith, less)) inside
read_left xs at k d inside false more = get_or-remove_above xs at d k (greater k at more) inside

links_removed : (xs : List LinkNo) (at : ℕ) → at < length xs → IsNonDecreasingBy (λ l. l.0) xs → IsNonDecreasingBy (λ l. l.0) (remove xs at)
links_removed xs at inside up i j d before within =
    let count : length (remove xs at) + 1 ≡ length xs = length-remove xs at inside in
    by_cases (nat_lt i at) refl (nat_lt j at) refl (omega (arith, within, count))
  where
    by_cases : (a : Bool) → nat_lt i at ≡ a → (b : Bool) → nat_lt j at ≡ b → j + 1 < length xs → (slice_index_or (remove xs at) i d).0 ≤ (slice_index_or (remove xs at) j d).0
    by_cases true low true less rest = let here : (slice_index_or xs i d).0 ≤ (slice_index_or xs j d).0 = up i j d before (omega (arith, rest)) in omega (arith, here, ap (λ (l : LinkNo). l.0) (read_left xs at i d inside true low), ap (λ (l : LinkNo). l.0) (read_left xs at j d inside true less))
    by_cases true low false less rest = let here : (slice_index_or xs i d).0 ≤ (slice_index_or xs (j + 1) d).0 = up i (j + 1) d (omega (arith, before)) rest in omega (arith, here, ap (λ (l : LinkNo). l.0) (read_left xs at i d inside true low), ap (λ (l : LinkNo). l.0) (read_left xs at j d inside false less))
    by_cases false low true less rest = absurd (let lower : j < at = grind (arith, less) in let upper : at ≤ i = greater i at low in let wrong : ⊥ = omega (arith, lower, upper, before) in wrong)
    by_cases false low false less rest = let here : (slice_index_or xs (i + 1) d).0 ≤ (slice_index_or xs (j + 1) d).0 = up (i + 1) (j + 1) d (omega (arith, before)) rest in omega (arith, here, ap (λ (l : LinkNo). l.0) (read_left xs at i d inside false low), ap (λ (l : LinkNo). l.0) (read_left xs at j d inside false less))

-- a rule less runs on a link
pub tasks-less : (T : Tasks) (link : LinkNo) (x at places : ℕ) → AreTasks T → IsTaskPlace T link.0 x at → contains_number x (tasks_on T link.0) ≡ true → AreTasks (record { links = remove T.links at; rules = remove T.rules at; places = places })
tasks-less T link x at places are is has = record {
  long = omega (arith, length-remove T.rules at before, length-remove T.links at (omega (arith, before, are.long)), are.long);
  links = links_removed T.links at (omega (arith, before, are.long)) are.links;
  rules = λ j. subst IsAscending (sym (each j)) (by_link j (link.0 == j) refl);
}
  where
    before : at < length T.rules
    before = place-before T link.0 x at is has

    each : (j : ℕ) → rules_at (remove T.links at) (remove T.rules at) j ≡ cond (link.0 == j) (without x (tasks_on T link.0)) (tasks_on T j)
    each j = goes link x j at is.from is.to is.count T.links T.rules are.long is.here is.span.first is.span.last is.place (place-inside x is.count (tasks_on T link.0) is.place has)

    by_link : (j : ℕ) (b : Bool) → (link.0 == j) ≡ b → IsAscending (cond (link.0 == j) (without x (tasks_on T link.0)) (tasks_on T j))
    by_link j true same =
        subst IsAscending (without-is x is.count (tasks_on T link.0) is.place ∙ sym (ap (λ c. cond c (without x (tasks_on T link.0)) (tasks_on T j)) same))
        (ascending-removed (tasks_on T link.0) is.count (place-inside x is.count (tasks_on T link.0) is.place has) (are.rules link.0))
    by_link j false other = subst IsAscending (sym (ap (λ c. cond c (without x (tasks_on T link.0)) (tasks_on T j)) other)) (are.rules j)

-- with room for it, an item comes
inserted : {A E : Type 0} (result : Result (Unit {0}) E) (new old more : List A) → new ≡ cond (is_ok result) more old → IsOk result → new ≡ more
inserted (Ok done) new old more is ok = is
inserted (Err failed) new old more is ok = absurd (true≢false (sym ok))

-- the tasks once a rule has come
pub add-step : {E F : Type 0} (T value : Tasks) → T ≡ value → (link : LinkNo) (rule : RuleNo) (at places : ℕ) (links : List LinkNo) (rules : List RuleNo) (first : Result (Unit {0}) E) (second : Result (Unit {0}) F) → AreTasks T
    → IsTaskPlace value link.0 rule.0 at → IsOk first → IsOk second → links ≡ cond (is_ok first) (insert T.links at link) T.links → rules ≡ cond (is_ok second) (insert T.rules at rule) T.rules
    → AreTasks (record { links = links; rules = rules; places = places }) × ((k : ℕ) → rules_at links rules k ≡ cond (link.0 == k) (placed rule.0 (tasks_on value k)) (tasks_on value k)) × (length rules ≡ length value.rules + 1)
add-step T value same link rule at places links rules first second are place one two linked ruled =
    let stands : IsTaskPlace T link.0 rule.0 at = subst (λ (V : Tasks). IsTaskPlace V link.0 rule.0 at) (sym same) place in
    let L : links ≡ insert T.links at link = inserted first links T.links (insert T.links at link) linked one in
    let R : rules ≡ insert T.rules at rule = inserted second rules T.rules (insert T.rules at rule) ruled two in (
      subst (λ (xs : List LinkNo). AreTasks (record { links = xs; rules = rules; places = places })) (sym L)
          (subst (λ (xs : List RuleNo). AreTasks (record { links = insert T.links at link; rules = xs; places = places })) (sym R) (tasks-more T link rule at places are stands)),
      (λ k. ap (λ (xs : List LinkNo). rules_at xs rules k) L ∙ ap (λ (xs : List RuleNo). rules_at (insert T.links at link) xs k) R ∙ rules-more T link rule at k are stands
          ∙ ap (λ (V : Tasks). cond (link.0 == k) (placed rule.0 (tasks_on V k)) (tasks_on V k)) same),
      ap (λ (xs : List RuleNo). length xs) R ∙ long_insert T.rules at rule ∙ ap (λ (V : Tasks). length V.rules + 1) same,
    )

-- the tasks once a rule has gone
pub remove-step : (T value : Tasks) → T ≡ value → (link : LinkNo) (x at places : ℕ) (links : List LinkNo) (rules : List RuleNo) → AreTasks T → IsTaskPlace value link.0 x at → contains_number x (tasks_on value link.0) ≡ true
    → links ≡ remove T.links at → rules ≡ remove T.rules at
    → AreTasks (record { links = links; rules = rules; places = places }) × ((k : ℕ) → rules_at links rules k ≡ cond (link.0 == k) (without x (tasks_on value k)) (tasks_on value k)) × (length rules + 1 ≡ length value.rules)
remove-step T value same link x at places links rules are place has L R =
    let stands : IsTaskPlace T link.0 x at = subst (λ (V : Tasks). IsTaskPlace V link.0 x at) (sym same) place in
    let here : contains_number x (tasks_on T link.0) ≡ true = ap (λ (V : Tasks). contains_number x (tasks_on V link.0)) same ∙ has in
    let before : at < length T.rules = place-before T link.0 x at stands here in (
      subst (λ (xs : List LinkNo). AreTasks (record { links = xs; rules = rules; places = places })) (sym L)
          (subst (λ (xs : List RuleNo). AreTasks (record { links = remove T.links at; rules = xs; places = places })) (sym R) (tasks-less T link x at places are stands here)),
      (λ k. ap (λ (xs : List LinkNo). rules_at xs rules k) L ∙ ap (λ (xs : List RuleNo). rules_at (remove T.links at) xs k) R ∙ rules-less T link x at k are stands here
          ∙ ap (λ (V : Tasks). cond (link.0 == k) (without x (tasks_on V k)) (tasks_on V k)) same),
      ap (λ (xs : List RuleNo). length xs + 1) R ∙ length-remove T.rules at before ∙ ap (λ (V : Tasks). length V.rules) same,
    )

-- where a rule may come, and where one that runs may go
pub place-fits : (T value : Tasks) → T ≡ value → (k x at : ℕ) → AreTasks T → IsTaskPlace value k x at → (at ≤ length T.links) × (at ≤ length T.rules)
place-fits T value same k x at are place =
    let stands : IsTaskPlace T k x at = subst (λ (V : Tasks). IsTaskPlace V k x at) (sym same) place in
    let inside : at ≤ stands.to = within-span T k x at stands in
    (omega (arith, inside, stands.span.within, are.long), omega (arith, inside, stands.span.within))

pub place-runs : (T value : Tasks) → T ≡ value → (k x at : ℕ) → AreTasks T → IsTaskPlace value k x at → contains_number x (tasks_on value k) ≡ true → (at < length T.links) × (at < length T.rules)
place-runs T value same k x at are place has =
    let stands : IsTaskPlace T k x at = subst (λ (V : Tasks). IsTaskPlace V k x at) (sym same) place in
    let before : at < length T.rules = place-before T k x at stands (ap (λ (V : Tasks). contains_number x (tasks_on V k)) same ∙ has) in
    (omega (arith, before, are.long), before)
