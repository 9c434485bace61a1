-- Where the rules of a link begin and end.
use Rattle.std.proofs.Common.{◌≡◌, ℕ, zero, suc, ◌+◌, ◌-◌, ◌<◌, ◌≤◌, ◌∙◌, Bool, true, false, cond, List, [], ◌∷◌, length, map, take, drop, refl, ap, sym, subst, arith}
use Rattle.std.specs.Prelude.{◌==◌, nat_le, nat_lt, slice_index_or}
use Rattle.std.proofs.lemmas.Bool.{eqb-true, eqb-false, eq-eqb, false_from_ne_true, leb-true, true≢false}
use Rattle.std.proofs.lemmas.List.{length-drop, length-map, length-take-le}
use Rattle.flow_types.specs.declared.numbers.LinkNo.{LinkNo}
use Rattle.flow_types.specs.declared.numbers.RuleNo.{RuleNo}
use Rattle.ready_rules.specs.Lines.{number}
use Rattle.running_rules.specs.Tasks.{AreTasks, IsBehind, IsFirstOf, IsSpan, Tasks, rules_at}

-- of the first of these links
pub first-less : (k f : ℕ) (l : LinkNo) (links : List LinkNo) → IsFirstOf k (l ∷ links) (suc f) → nat_lt l.0 k ≡ true
first-less k f l links is = is.1.0 0 l (omega arith) (omega arith)

pub first-not : (k : ℕ) (l : LinkNo) (links : List LinkNo) → IsFirstOf k (l ∷ links) 0 → nat_lt l.0 k ≡ false
first-not k l links is = is.1.1 0 l (omega arith) (omega arith)

pub behind-most : (k t : ℕ) (l : LinkNo) (links : List LinkNo) → IsBehind k (l ∷ links) (suc t) → nat_le l.0 k ≡ true
behind-most k t l links is = is.1.0 0 l (omega arith) (omega arith)

pub behind-not : (k : ℕ) (l : LinkNo) (links : List LinkNo) → IsBehind k (l ∷ links) 0 → nat_le l.0 k ≡ false
behind-not k l links is = is.1.1 0 l (omega arith) (omega arith)

-- of the rest
pub first-rest : (k f : ℕ) (l : LinkNo) (links : List LinkNo) → IsFirstOf k (l ∷ links) (suc f) → IsFirstOf k links f
first-rest k f l links is =
    (omega (arith, is.0), ((λ i d from to. is.1.0 (suc i) d (omega arith) (omega (arith, to))), (λ i d from to. is.1.1 (suc i) d (omega (arith, from)) (omega (arith, to)))))

pub first-none : (k : ℕ) (l : LinkNo) (links : List LinkNo) → IsFirstOf k (l ∷ links) 0 → IsFirstOf k links 0
first-none k l links is = (omega arith, ((λ i d from to. absurd (let wrong : ⊥ = omega (arith, to) in wrong)), (λ i d from to. is.1.1 (suc i) d (omega arith) (omega (arith, to)))))

pub behind-rest : (k t : ℕ) (l : LinkNo) (links : List LinkNo) → IsBehind k (l ∷ links) (suc t) → IsBehind k links t
behind-rest k t l links is =
    (omega (arith, is.0), ((λ i d from to. is.1.0 (suc i) d (omega arith) (omega (arith, to))), (λ i d from to. is.1.1 (suc i) d (omega (arith, from)) (omega (arith, to)))))

pub behind-none : (k : ℕ) (l : LinkNo) (links : List LinkNo) → IsBehind k (l ∷ links) 0 → IsBehind k links 0
behind-none k l links is = (omega arith, ((λ i d from to. absurd (let wrong : ⊥ = omega (arith, to) in wrong)), (λ i d from to. is.1.1 (suc i) d (omega arith) (omega (arith, to)))))

-- a lesser link is another, and so is a greater one
pub less-apart : (l k : ℕ) → nat_lt l k ≡ true → (l == k) ≡ false
less-apart l k less = false_from_ne_true (l == k) (λ same. let is : l ≡ k = eqb-true l k same in let wrong : ⊥ = grind (arith, less, is) in wrong)

pub more-apart : (l k : ℕ) → nat_le l k ≡ false → (l == k) ≡ false
more-apart l k more = false_from_ne_true (l == k) (λ same. let is : l ≡ k = eqb-true l k same in let wrong : ⊥ = grind (arith, more, is) in wrong)

pub between-same : (l k : ℕ) → nat_lt l k ≡ false → nat_le l k ≡ true → (l == k) ≡ true
between-same l k low high = eq-eqb l k (let is : l ≡ k = grind (arith, low, high) in is)

-- behind its place no rule of the link stands
pub none-behind : (k : ℕ) (links : List LinkNo) (rules : List RuleNo) → IsBehind k links 0 → rules_at links rules k ≡ []
none-behind k [] rules is = refl
none-behind k (l ∷ links) [] is = refl
none-behind k (l ∷ links) (r ∷ rules) is =
    ap (λ b. cond b (r.0 ∷ rules_at links rules k) (rules_at links rules k)) (more-apart l.0 k (behind-not k l links is)) ∙ none-behind k links rules (behind-none k l links is)

-- the first place of a link isn't behind its last
pub in-order : (k from to : ℕ) (links : List LinkNo) → IsFirstOf k links from → IsBehind k links to → from ≤ to
in-order k zero to links first last = omega arith
in-order k (suc f) to [] first last = absurd (let wrong : ⊥ = omega (arith, first.0) in wrong)
in-order k (suc f) zero (l ∷ links) first last = absurd (let less = first-less k f l links first in let more = behind-not k l links last in let wrong : ⊥ = grind (arith, less, more) in wrong)
in-order k (suc f) (suc t) (l ∷ links) first last = let rest : f ≤ t = in-order k f t links (first-rest k f l links first) (behind-rest k t l links last) in omega (arith, rest)

-- between its places stand the rules of the link
pub between : (k from to n : ℕ) (links : List LinkNo) (rules : List RuleNo) → length rules ≡ length links → to ≡ from + n → IsFirstOf k links from → IsBehind k links to → map number (take n (drop from rules)) ≡ rules_at links rules k
between k from to n [] [] long here first last = nothing n from
  where
    nothing : (n from : ℕ) → map number (take n (drop from [])) ≡ []
    nothing zero zero = refl
    nothing zero (suc f) = refl
    nothing (suc n) zero = refl
    nothing (suc n) (suc f) = refl
between k from to n [] (r ∷ rules) long here first last = absurd (let wrong : ⊥ = omega (arith, long) in wrong)
between k from to n (l ∷ links) [] long here first last = absurd (let wrong : ⊥ = omega (arith, long) in wrong)
between k (suc f) zero n (l ∷ links) (r ∷ rules) long here first last = absurd (let wrong : ⊥ = omega (arith, here) in wrong)
between k (suc f) (suc t) n (l ∷ links) (r ∷ rules) long here first last =
    between k f t n links rules (omega (arith, long)) (omega (arith, here)) (first-rest k f l links first) (behind-rest k t l links last)
    ∙ sym (ap (λ b. cond b (r.0 ∷ rules_at links rules k) (rules_at links rules k)) (less-apart l.0 k (first-less k f l links first)))
between k zero zero zero (l ∷ links) (r ∷ rules) long here first last = sym (none-behind k (l ∷ links) (r ∷ rules) last)
between k zero zero (suc n) (l ∷ links) (r ∷ rules) long here first last = absurd (let wrong : ⊥ = omega (arith, here) in wrong)
between k zero (suc t) zero (l ∷ links) (r ∷ rules) long here first last = absurd (let wrong : ⊥ = omega (arith, here) in wrong)
between k zero (suc t) (suc n) (l ∷ links) (r ∷ rules) long here first last =
    ap (λ xs. r.0 ∷ xs) (between k 0 t n links rules (omega (arith, long)) (omega (arith, here)) (first-none k l links first) (behind-rest k t l links last))
    ∙ sym (ap (λ b. cond b (r.0 ∷ rules_at links rules k) (rules_at links rules k)) (between-same l.0 k (first-not k l links first) (behind-most k t l links last)))

pub span-of : (T : Tasks) (k from to : ℕ) → AreTasks T → IsFirstOf k T.links from → IsBehind k T.links to → IsSpan T k from to
span-of T k from to are first last =
    let ordered : from ≤ to = in-order k from to T.links first last in
    record {
      first = first;
      last = last;
      ordered = ordered;
      within = omega (arith, last.0, are.long);
      rules = between k from to (to - from) T.links T.rules are.long (omega (arith, ordered)) first last;
    }

-- how many rules a link has
pub span-count : (T : Tasks) (k from to : ℕ) → IsSpan T k from to → length (rules_at T.links T.rules k) ≡ to - from
span-count T k from to is =
    sym (ap (λ (xs : List ℕ). length xs) is.rules) ∙ length-map (take (to - from) (drop from T.rules)) number
    ∙ length-take-le (to - from) (drop from T.rules) (omega (arith, length-drop from T.rules, is.within, is.ordered))
