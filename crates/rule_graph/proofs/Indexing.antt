-- The index of the takers, rule by rule.
use Rattle.std.proofs.Common.{◌≡◌, ℕ, ◌+◌, ◌<◌, ◌≤◌, Bool, true, false, cond, List, [], length, get_or, Some, refl, ap, sym, ◌∙◌, arith, All}
use Rattle.std.specs.Prelude.{◌==◌, nat_lt, slice_get}
use Rattle.std.specs.Option.{option_map_or}
use Rattle.std.proofs.lemmas.Option.{slice_get_read}
use Rattle.std.proofs.lemmas.Bool.{eqb-true, eqb-false, eq-eqb, lt-ltb, le-ltb, ltb-true, ltb-false}
use Rattle.flow_types.specs.declared.plan.Plan.{Plan}
use Rattle.flow_types.specs.declared.plan.Rule.{Rule}
use Rattle.flow_types.specs.Plans.{takes, makes, files_of}
use Rattle.rule_graph.specs.Progress.{times_in, IsIndexBelow}

pub takes_of : (P : Plan) (r : ℕ) (rule : Rule) (rules : List Rule) → r < length P.rules → rules ≡ P.rules → rule ≡ get_or rules r rule → takes P r ≡ files_of rule.inputs
takes_of P r rule rules inside same is =
    ap (λ found. option_map_or (λ rule. files_of rule.inputs) found [])
    (slice_get_read P.rules (length P.rules) r rule refl inside (is ∙ ap (λ rules. get_or rules r rule) same))

pub makes_of : (P : Plan) (r : ℕ) (rule : Rule) (rules : List Rule) → r < length P.rules → rules ≡ P.rules → rule ≡ get_or rules r rule → makes P r ≡ files_of rule.outputs
makes_of P r rule rules inside same is =
    ap (λ found. option_map_or (λ rule. files_of rule.outputs) found [])
    (slice_get_read P.rules (length P.rules) r rule refl inside (is ∙ ap (λ rules. get_or rules r rule) same))

-- a number is below the next one exactly where it is below, but for the number itself
below_next : (t r : ℕ) (b : Bool) → nat_lt t r ≡ b → (r == t) ≡ false → nat_lt t (r + 1) ≡ b
below_next t r true below other = lt-ltb t (r + 1) (let lt : t < r = ltb-true t r below in omega (arith, lt))
below_next t r false above other =
    le-ltb t (r + 1) (let le : r ≤ t = ltb-false t r above in let ne : r ≡ t → ⊥ = eqb-false r t other in omega (arith, le, ne))

count_at : (P : Plan) (r t f : ℕ) (old new inputs : List ℕ) (b : Bool) → (r == t) ≡ b → takes P r ≡ inputs
    → times_in r new ≡ times_in r old + times_in f inputs
    → ((r == t) ≡ false → times_in t new ≡ times_in t old)
    → times_in t old ≡ cond (nat_lt t r) (times_in f (takes P t)) 0
    → times_in t new ≡ cond (nat_lt t (r + 1)) (times_in f (takes P t)) 0
count_at P r t f old new inputs true same is own others before =
    let e : r ≡ t = eqb-true r t same in
    let none : times_in t old ≡ 0 = before ∙ ap (λ b. cond b (times_in f (takes P t)) 0) (le-ltb t r (omega (arith, e))) in
    let now : cond (nat_lt t (r + 1)) (times_in f (takes P t)) 0 ≡ times_in f (takes P t) = ap (λ b. cond b (times_in f (takes P t)) 0) (lt-ltb t (r + 1) (omega (arith, e))) in
    let own_t : times_in t new ≡ times_in t old + times_in f inputs = ap (λ t. times_in t new) (sym e) ∙ own ∙ ap (λ r. times_in r old + times_in f inputs) e in
    let taken : times_in f (takes P t) ≡ times_in f inputs = ap (λ r. times_in f (takes P r)) (sym e) ∙ ap (times_in f) is in
    omega (arith, none, now, own_t, taken)
count_at P r t f old new inputs false other is own others before =
    others other ∙ before ∙ ap (λ b. cond b (times_in f (takes P t)) 0) (sym (below_next t r (nat_lt t r) refl other))

-- the index with one rule more
pub index_more : (P : Plan) (r : ℕ) (rule : Rule) (rules : List Rule) (old new : List (List ℕ)) → r < length P.rules → rules ≡ P.rules → rule ≡ get_or rules r rule
    → IsIndexBelow P r old → length new ≡ length old
    → ((n : ℕ) → r < n → All (All (λ t. t < n)) old → All (All (λ t. t < n)) new)
    → ((f : ℕ) → f < length old → times_in r (get_or new f []) ≡ times_in r (get_or old f []) + times_in f (files_of rule.inputs))
    → ((t f : ℕ) → (r == t) ≡ false → times_in t (get_or new f []) ≡ times_in t (get_or old f []))
    → IsIndexBelow P (r + 1) new
index_more P r rule rules old new inside same is before len all own others = record {
  files = len ∙ before.files;
  inside = all (length P.rules) inside before.inside;
  counts = λ t f f_inside.
      count_at P r t f (get_or old f []) (get_or new f []) (files_of rule.inputs) (r == t) refl (takes_of P r rule rules inside same is)
      (own f (omega (arith, f_inside, before.files))) (others t f) (before.counts t f f_inside);
}
