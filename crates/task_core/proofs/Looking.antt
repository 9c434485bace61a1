-- A look through the rules for the least of which something holds.
use Rattle.std.proofs.Common.{◌≡◌, ℕ, zero, suc, ◌+◌, ◌<◌, ◌≤◌, ◌∙◌, Bool, true, false, cond, ◌&&◌, Option, Some, None, ◌∷◌, length, refl, ap, sym, arith}
use Rattle.std.specs.Prelude.{find, nat_le, unwrap_or}
use Rattle.std.specs.List.{range_with_len}
use Rattle.std.proofs.lemmas.Bool.{and_parts, leb-true, leb-false, true≢false}
use Rattle.ready_rules.specs.declared.shelf.Weight.{Weight}
use Rattle.task_core.specs.Asked.{AreCandidates, is_candidate, least_candidate}
use Rattle.task_core.specs.Known.{Known, rules_of}

-- r is the least number of a range that passes
pub record IsLeast (p : ℕ → Bool) (a n r : ℕ) : Type 0 where
  pub from : a ≤ r
  pub to : r < a + n
  pub passes : p r ≡ true
  pub least : (q : ℕ) → a ≤ q → q < r → p q ≡ false

abbrev is_nothing : Option ℕ → Bool
is_nothing None = true
is_nothing (Some y) = false

none_some : (x : ℕ) → (let none : Option ℕ = None in none) ≡ Some x → ⊥
none_some x bad = true≢false (ap is_nothing bad)

least_by : (p : ℕ → Bool) (a n r : ℕ) (b : Bool) → p a ≡ b → find p (a ∷ range_with_len (a + 1) n) ≡ Some r → (find p (range_with_len (a + 1) n) ≡ Some r → IsLeast p (a + 1) n r) → IsLeast p a (suc n) r
least_by p a n r true is found rest =
    let here : Some a ≡ Some r = sym (ap (λ b. cond b (Some a) (find p (range_with_len (a + 1) n))) is) ∙ found in
    let same : a ≡ r = ap (λ o. unwrap_or o a) here in
    record {
      from = omega (arith, same);
      to = omega (arith, same);
      passes = ap p (sym same) ∙ is;
      least = λ q low high. absurd (let wrong : ⊥ = omega (arith, low, high, same) in wrong);
    }
least_by p a n r false is found rest =
    let later = rest (sym (ap (λ b. cond b (Some a) (find p (range_with_len (a + 1) n))) is) ∙ found) in
    record {
      from = omega (arith, later.from);
      to = omega (arith, later.to);
      passes = later.passes;
      least = λ q low high. by_place q high (nat_le (a + 1) q) refl low later.least;
    }
  where
    by_place : (q : ℕ) → q < r → (b : Bool) → nat_le (a + 1) q ≡ b → a ≤ q → ((x : ℕ) → a + 1 ≤ x → x < r → p x ≡ false) → p q ≡ false
    by_place q high true behind low each = each q (leb-true (a + 1) q behind) high
    by_place q high false at low each = let same : a ≡ q = (let below : q < a + 1 = leb-false (a + 1) q at in omega (arith, below, low)) in ap p (sym same) ∙ is

pub find-least : (p : ℕ → Bool) (a n r : ℕ) → find p (range_with_len a n) ≡ Some r → IsLeast p a n r
find-least p a zero r found = absurd (none_some r found)
find-least p a (suc n) r found = least_by p a n r (p a) refl found (find-least p (a + 1) n r)

exact_by : (p : ℕ → Bool) (a n r : ℕ) (b : Bool) → p a ≡ b → IsLeast p a (suc n) r → (IsLeast p (a + 1) n r → find p (range_with_len (a + 1) n) ≡ Some r) → find p (a ∷ range_with_len (a + 1) n) ≡ Some r
exact_by p a n r true is least rest =
    ap (λ b. cond b (Some a) (find p (range_with_len (a + 1) n))) is ∙ ap Some (by_place (nat_le (a + 1) r) refl)
  where
    by_place : (b : Bool) → nat_le (a + 1) r ≡ b → a ≡ r
    by_place true behind = absurd (true≢false (sym is ∙ least.least a (omega arith) (let less : a + 1 ≤ r = leb-true (a + 1) r behind in omega (arith, less))))
    by_place false at = let below : r < a + 1 = leb-false (a + 1) r at in omega (arith, below, least.from)
exact_by p a n r false is least rest =
    let apart : a ≡ r → ⊥ = λ same. true≢false (sym (ap p same ∙ least.passes) ∙ is) in
    ap (λ b. cond b (Some a) (find p (range_with_len (a + 1) n))) is
    ∙ rest (record { from = omega (arith, apart, least.from); to = omega (arith, least.to); passes = least.passes; least = λ q low high. least.least q (omega (arith, low)) high })

pub find-exact : (p : ℕ → Bool) (a n r : ℕ) → IsLeast p a n r → find p (range_with_len a n) ≡ Some r
find-exact p a zero r least = absurd (let wrong : ⊥ = omega (arith, least.from, least.to) in wrong)
find-exact p a (suc n) r least = exact_by p a n r (p a) refl least (find-exact p (a + 1) n r)

pub find-never : (p : ℕ → Bool) (a n : ℕ) → ((q : ℕ) → a ≤ q → q < a + n → p q ≡ false) → find p (range_with_len a n) ≡ None
find-never p a zero none = refl
find-never p a (suc n) none = ap (λ b. cond b (Some a) (find p (range_with_len (a + 1) n))) (none a (omega arith) (omega arith)) ∙ find-never p (a + 1) n (λ q low high. none q (omega (arith, low)) (omega (arith, high)))

none_by : (p : ℕ → Bool) (a n q : ℕ) (b : Bool) → p a ≡ b → find p (a ∷ range_with_len (a + 1) n) ≡ None → a ≤ q → (find p (range_with_len (a + 1) n) ≡ None → a + 1 ≤ q → p q ≡ false) → p q ≡ false
none_by p a n q true is none low rest = absurd (none_some a (sym none ∙ ap (λ b. cond b (Some a) (find p (range_with_len (a + 1) n))) is))
none_by p a n q false is none low rest = by_place (nat_le (a + 1) q) refl
  where
    by_place : (b : Bool) → nat_le (a + 1) q ≡ b → p q ≡ false
    by_place true behind = rest (sym (ap (λ b. cond b (Some a) (find p (range_with_len (a + 1) n))) is) ∙ none) (leb-true (a + 1) q behind)
    by_place false at = let same : a ≡ q = (let below : q < a + 1 = leb-false (a + 1) q at in omega (arith, below, low)) in ap p (sym same) ∙ is

pub find-none : (p : ℕ → Bool) (a n q : ℕ) → find p (range_with_len a n) ≡ None → a ≤ q → q < a + n → p q ≡ false
find-none p a zero q none low high = absurd (let wrong : ⊥ = omega (arith, low, high) in wrong)
find-none p a (suc n) q none low high = none_by p a n q (p a) refl none low (λ later behind. find-none p (a + 1) n q later behind (omega (arith, high)))

-- The rules before this one were looked at, and it holds of none.
pub record IsLooking (K : Known) (test : ℕ → Bool) (from : ℕ) : Type 0 where
  pub within : from ≤ length K.plan.rules
  pub passed : (r : ℕ) → r < from → test r ≡ false

pub looking-first : (K : Known) (test : ℕ → Bool) → IsLooking K test 0
looking-first K test = record { within = omega arith; passed = λ r less. absurd (let wrong : ⊥ = omega (arith, less) in wrong) }

no_test : (K : Known) (limits : Weight) (test : ℕ → Bool) (q : ℕ) → AreCandidates K limits test → q < length K.plan.rules → is_candidate K limits q ≡ false → (b : Bool) → test q ≡ b → test q ≡ false
no_test K limits test q are inside none true holds = absurd (true≢false (sym (are q inside holds) ∙ none))
no_test K limits test q are inside none false fails = fails

and_false : (a b : Bool) → a ≡ true → (a && b) ≡ false → b ≡ false
and_false true b is none = none
and_false false b is none = absurd (true≢false (sym is))

-- what fails before the next candidate
skipped : (K : Known) (limits : Weight) (test : ℕ → Bool) (from q : ℕ) → AreCandidates K limits test → IsLooking K test from → q < length K.plan.rules → (nat_le from q && is_candidate K limits q) ≡ false → test q ≡ false
skipped K limits test from q are looking inside none = by_place (nat_le from q) refl
  where
    by_place : (b : Bool) → nat_le from q ≡ b → test q ≡ false
    by_place true behind = no_test K limits test q are inside (and_false (nat_le from q) (is_candidate K limits q) behind none) (test q) refl
    by_place false before = looking.passed q (leb-false from q before)

-- the next candidate
pub next-one : (K : Known) (limits : Weight) (from r : ℕ) → least_candidate K from limits ≡ Some r → (from ≤ r) × (r < length K.plan.rules)
next-one K limits from r found =
    let least = find-least (λ q. nat_le from q && is_candidate K limits q) 0 (length K.plan.rules) r found in
    (leb-true from r (and_parts (nat_le from r) (is_candidate K limits r) least.passes).0, omega (arith, least.to))

-- it holds of the next candidate
pub look-found : (K : Known) (limits : Weight) (test : ℕ → Bool) (from r : ℕ) → AreCandidates K limits test → IsLooking K test from → least_candidate K from limits ≡ Some r → test r ≡ true → find test (rules_of K) ≡ Some r
look-found K limits test from r are looking found holds =
    let least = find-least (λ q. nat_le from q && is_candidate K limits q) 0 (length K.plan.rules) r found in
    find-exact test 0 (length K.plan.rules) r
    (record { from = omega arith; to = least.to; passes = holds; least = λ q low high. skipped K limits test from q are looking (omega (arith, high, least.to)) (least.least q low high) })

-- it doesn't
pub look-on : (K : Known) (limits : Weight) (test : ℕ → Bool) (from r : ℕ) → AreCandidates K limits test → IsLooking K test from → least_candidate K from limits ≡ Some r → test r ≡ false → IsLooking K test (r + 1)
look-on K limits test from r are looking found fails =
    let least = find-least (λ q. nat_le from q && is_candidate K limits q) 0 (length K.plan.rules) r found in
    record {
      within = omega (arith, least.to);
      passed = λ q less. by_place q less (nat_le r q) refl least;
    }
  where
    by_place : (q : ℕ) → q < r + 1 → (b : Bool) → nat_le r q ≡ b → IsLeast (λ x. nat_le from x && is_candidate K limits x) 0 (length K.plan.rules) r → test q ≡ false
    by_place q less true at least = let same : r ≡ q = (let low : r ≤ q = leb-true r q at in omega (arith, low, less)) in ap test (sym same) ∙ fails
    by_place q less false before least = let high : q < r = leb-false r q before in skipped K limits test from q are looking (omega (arith, high, least.to)) (least.least q (omega arith) high)

-- there is no further candidate
pub look-none : (K : Known) (limits : Weight) (test : ℕ → Bool) (from : ℕ) → AreCandidates K limits test → IsLooking K test from → least_candidate K from limits ≡ None → find test (rules_of K) ≡ None
look-none K limits test from are looking none =
    find-never test 0 (length K.plan.rules) (λ q low high. skipped K limits test from q are looking (omega (arith, high)) (find-none (λ x. nat_le from x && is_candidate K limits x) 0 (length K.plan.rules) q none low high))

-- all rules were looked at
pub look-end : (K : Known) (test : ℕ → Bool) (from : ℕ) → length K.plan.rules ≤ from → IsLooking K test from → find test (rules_of K) ≡ None
look-end K test from all looking = find-never test 0 (length K.plan.rules) (λ q low high. looking.passed q (omega (arith, high, all)))
