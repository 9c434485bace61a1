-- One round of a serial run: the least ready rule is the next one.
use Rattle.std.proofs.Common.{◌≡◌, ℕ, zero, suc, ◌+◌, ◌<◌, ◌≤◌, Bool, true, false, cond, not, ◌&&◌, ◌||◌, List, [], ◌∷◌, ◌++◌, length, get_or, Option, Some, None, refl, ap, sym, ◌∙◌, arith, subst, All, IsTrue, inl, inr}
use Rattle.std.specs.Prelude.{◌==◌, nat_lt, find, slice_get, count_by, map}
use Rattle.std.specs.List.{list_all, list_any, range_with_len}
use Rattle.std.specs.Option.{option_map_or}
use Rattle.std.specs.Ordering.{nat_cmp, is_gt, is_eq}
use Rattle.std.specs.BTreeMap.{is_at}
use Rattle.std.specs.BTreeSet.{BTreeSet, contains, IsLowerBound}
use Rattle.std.specs.declared.cmp.Ordering.TheVariants.{Less, Equal, Greater}
use Rattle.std.proofs.lemmas.Bool.{eqb-true, eqb-false, eq-eqb, ne_eqb, lt-ltb, le-ltb, ltb-true, ltb-false, and_parts, false_from_ne_true, true≢false, or_cases}
use Rattle.std.proofs.lemmas.List.Folds.{list_any-append, sum_by-zero}
use Rattle.std.proofs.lemmas.List.Elements.{All-map, All-nil, All-head, All-tail}
use Rattle.std.proofs.lemmas.Option.{slice_get_cases}
use Rattle.flow_types.specs.declared.plan.Plan.{Plan}
use Rattle.flow_types.specs.declared.plan.Rule.{Rule}
use Rattle.flow_types.specs.declared.plan.Port.{Port}
use Rattle.flow_types.specs.Plans.{takes, makes, files_of, contains_number, is_source, rule_numbers}
use Rattle.flow_types.specs.Serial.{is_made, can_take, next_rule}
use Rattle.rule_graph.specs.declared.order.Progress.{Progress}
use Rattle.rule_graph.specs.Progress.{unmade, times_in, IsInside, IsWired, IsUnderWay, IsMarked}

-- what a set holds after a key was taken out
at_key : (r q : ℕ) (b c : Bool) → nat_lt r q ≡ b → (r == q) ≡ c → is_eq (cond b Less (cond c Equal Greater)) ≡ c
at_key r q true true less same = absurd (let lt : r < q = ltb-true r q less in let e : r ≡ q = eqb-true r q same in let wrong : ⊥ = omega (arith, lt, e) in wrong)
at_key r q true false less other = refl
at_key r q false true not_less same = refl
at_key r q false false not_less other = refl

key_is : (r q : ℕ) → is_at (nat_cmp r) q ≡ (r == q)
key_is r q = at_key r q (nat_lt r q) (r == q) refl refl

greater : (r q : ℕ) → q < r → is_gt (nat_cmp r q) ≡ true
greater r q less =
    ap (λ b. is_gt (cond b Less (cond (r == q) Equal Greater))) (le-ltb r q (omega (arith, less)))
    ∙ ap (λ b. is_gt (cond b Equal Greater)) (ne_eqb r q (λ e. let wrong : ⊥ = omega (arith, less, e) in wrong))

all_agree : (p q : ℕ → Bool) (P : ℕ → Type 0) (xs : List ℕ) → ((x : ℕ) → P x → p x ≡ q x) → All P xs → list_all p xs ≡ list_all q xs
all_agree p q P [] same all = refl
all_agree p q P (x ∷ xs) same all =
    ap (λ b. b && list_all p xs) (same x (All-head P x xs all)) ∙ ap (λ b. q x && b) (all_agree p q P xs same (All-tail P x xs all))

counted : (b : Bool) → (cond (not b) 1 0 == 0) ≡ b
counted true = refl
counted false = refl

inside_at : (P : Plan) (rule : Rule) → All (IsInside P) rule.inputs → All (λ f. f < length P.files) (files_of rule.inputs)
inside_at P rule all = All-map (λ f. f < length P.files) (λ (port : Port). port.file.0) rule.inputs all

takes_at : (P : Plan) (t : ℕ) (found : Option Rule) → ((rule : Rule) → found ≡ Some rule → All (IsInside P) rule.inputs)
    → All (λ f. f < length P.files) (option_map_or (λ rule. files_of rule.inputs) found [])
takes_at P t None all = All-nil (λ f. f < length P.files)
takes_at P t (Some rule) all = inside_at P rule (all rule refl)

some_same : (x y : Rule) → Some x ≡ Some y → x ≡ y
some_same x y e = cc

pub takes_inside : (P : Plan) (t : ℕ) → IsWired P → All (λ f. f < length P.files) (takes P t)
takes_inside P t wired =
    takes_at P t (slice_get P.rules t)
    (λ rule found. elim (slice_get_cases P.rules t).1 [
      | inl here ↦
          let same : here.0 ≡ rule = some_same here.0 rule (sym here.2 ∙ found) in
          let A : Rule → Type 0 = λ rule. All (IsInside P) rule.inputs in
          subst A (here.3 ∙ same) (wired.inputs_inside t here.0 here.1)
      | inr past ↦ absurd (none_some rule (sym past.1 ∙ found))
    ])
  where
    none_some : (rule : Rule) → (let none : Option Rule = None in none ≡ Some rule) → ⊥
    none_some rule h = cc

-- a rule misses nothing exactly where all its inputs are made
all_made : (P : Plan) (taken : List ℕ) (made : List Bool) (files : List ℕ) → IsMarked P taken made → All (λ f. f < length P.files) files
    → (unmade made files == 0) ≡ list_all (is_made P taken) files
all_made P taken made files marked inside =
    sum_by-zero (λ f. cond (not (get_or made f false)) 1 0) files
    ∙ all_agree (λ f. cond (not (get_or made f false)) 1 0 == 0) (is_made P taken) (λ f. f < length P.files) files
    (λ f f_inside. counted (get_or made f false) ∙ marked f f_inside) inside

-- the ready rules are those that can be taken
can_is : (P : Plan) (taken : List ℕ) (progress : Progress) (t : ℕ) → IsWired P → IsUnderWay P taken [] progress → IsMarked P taken progress.made.items
    → t < length P.rules → can_take P taken t ≡ contains nat_cmp progress.ready t
can_is P taken progress t wired way marked inside =
    let missing : get_or progress.missing.items t 0 ≡ unmade progress.made.items (takes P t) =
    (let e : get_or progress.missing.items t 0 ≡ unmade progress.made.items (takes P t) + 0 = way.counts t inside in omega (arith, e)) in
    let zero_is : (get_or progress.missing.items t 0 == 0) ≡ list_all (is_made P taken) (takes P t) =
    ap (λ n. n == 0) missing ∙ all_made P taken progress.made.items (takes P t) marked (takes_inside P t wired) in
    sym (way.ready t
    ∙ ap (λ b. b && (get_or progress.missing.items t 0 == 0) && not (contains_number t taken)) (lt-ltb t (length P.rules) inside)
    ∙ ap (λ b. b && not (contains_number t taken)) zero_is
    ∙ swap_and (list_all (is_made P taken) (takes P t)) (not (contains_number t taken)))
  where
    swap_and : (a b : Bool) → (a && b) ≡ (b && a)
    swap_and true true = refl
    swap_and true false = refl
    swap_and false true = refl
    swap_and false false = refl

find_step : (p : ℕ → Bool) (a n r : ℕ) (b : Bool) → (a == r) ≡ b → a ≤ r → r < a + suc n → p r ≡ true → ((q : ℕ) → q < r → p q ≡ false)
    → (a + 1 ≤ r → r < a + 1 + n → find p (range_with_len (a + 1) n) ≡ Some r) → find p (range_with_len a (suc n)) ≡ Some r
find_step p a n r true same from to passes below rest =
    let e : a ≡ r = eqb-true a r same in ap (λ b. cond b (Some a) (find p (range_with_len (a + 1) n))) (ap p e ∙ passes) ∙ ap Some e
find_step p a n r false other from to passes below rest =
    let ne : a ≡ r → ⊥ = eqb-false a r other in
    ap (λ b. cond b (Some a) (find p (range_with_len (a + 1) n))) (below a (omega (arith, from, ne)))
    ∙ rest (omega (arith, from, ne)) (omega (arith, to))

pub find_at : (p : ℕ → Bool) (a n r : ℕ) → a ≤ r → r < a + n → p r ≡ true → ((q : ℕ) → q < r → p q ≡ false) → find p (range_with_len a n) ≡ Some r
find_at p a zero r from to passes below = absurd (let wrong : ⊥ = omega (arith, from, to) in wrong)
find_at p a (suc n) r from to passes below =
    find_step p a n r (a == r) refl from to passes below (λ from to. find_at p (a + 1) n r from to passes below)

pub find_none : (p : ℕ → Bool) (a n : ℕ) → ((q : ℕ) → q < a + n → p q ≡ false) → find p (range_with_len a n) ≡ None
find_none p a zero fails = refl
find_none p a (suc n) fails =
    ap (λ b. cond b (Some a) (find p (range_with_len (a + 1) n))) (fails a (omega arith)) ∙ find_none p (a + 1) n (λ q low. fails q (omega (arith, low)))

-- a ready rule is a rule of the plan that misses nothing
ready_parts : (P : Plan) (taken : List ℕ) (progress : Progress) (r : ℕ) → IsUnderWay P taken [] progress → contains nat_cmp progress.ready r ≡ true
    → (r < length P.rules) × (get_or progress.missing.items r 0 ≡ 0) × (contains_number r taken ≡ false)
ready_parts P taken progress r way has =
    let parts = and_parts (nat_lt r (length P.rules) && (get_or progress.missing.items r 0 == 0)) (not (contains_number r taken)) (sym (way.ready r) ∙ has) in
    let more = and_parts (nat_lt r (length P.rules)) (get_or progress.missing.items r 0 == 0) parts.0 in
    (ltb-true r (length P.rules) more.0, eqb-true (get_or progress.missing.items r 0) 0 more.1, not_true (contains_number r taken) parts.1)
  where
    not_true : (b : Bool) → not b ≡ true → b ≡ false
    not_true true h = sym h
    not_true false h = refl

pub ready_inside : (P : Plan) (taken : List ℕ) (progress : Progress) (r : ℕ) → IsUnderWay P taken [] progress → contains nat_cmp progress.ready r ≡ true → r < length P.rules
ready_inside P taken progress r way has = (ready_parts P taken progress r way has).0

-- the least ready rule is the next one
pub next_is : (P : Plan) (taken : List ℕ) (progress : Progress) (r : ℕ) → IsWired P → IsUnderWay P taken [] progress → IsMarked P taken progress.made.items
    → contains nat_cmp progress.ready r ≡ true → IsLowerBound nat_cmp progress.ready r → next_rule P taken ≡ Some r
next_is P taken progress r wired way marked has least =
    let inside : r < length P.rules = (ready_parts P taken progress r way has).0 in
    find_at (can_take P taken) 0 (length P.rules) r (omega arith) (omega (arith, inside))
    (can_is P taken progress r wired way marked inside ∙ has)
    (λ q below. can_is P taken progress q wired way marked (omega (arith, below, inside))
    ∙ false_from_ne_true (contains nat_cmp progress.ready q) (λ has_q. true≢false (sym (greater r q below) ∙ least q has_q)))

pub next_none : (P : Plan) (taken : List ℕ) (progress : Progress) → IsWired P → IsUnderWay P taken [] progress → IsMarked P taken progress.made.items
    → ((q : ℕ) → contains nat_cmp progress.ready q ≡ false) → next_rule P taken ≡ None
next_none P taken progress wired way marked none =
    find_none (can_take P taken) 0 (length P.rules) (λ q inside. can_is P taken progress q wired way marked (omega (arith, inside)) ∙ none q)

ready_at : (a b c d : Bool) → cond d false (a && b && not c) ≡ (a && b && not (c || (d || false)))
ready_at true true true true = refl
ready_at true true true false = refl
ready_at true true false true = refl
ready_at true true false false = refl
ready_at true false true true = refl
ready_at true false true false = refl
ready_at true false false true = refl
ready_at true false false false = refl
ready_at false b c true = refl
ready_at false b c false = refl

-- the ready rule is taken
pub popped_under_way : (P : Plan) (taken : List ℕ) (r : ℕ) (old new : Progress) → IsUnderWay P taken [] old → contains nat_cmp old.ready r ≡ true
    → ((q : ℕ) → contains nat_cmp new.ready q ≡ cond (is_at (nat_cmp r) q) false (contains nat_cmp old.ready q))
    → new.made ≡ old.made → new.missing ≡ old.missing
    → IsUnderWay P (taken ++ r ∷ []) [] new
popped_under_way P taken r old new way has out made missing = record {
  files = ap (λ v. length v.items) made ∙ way.files;
  rules = ap (λ v. length v.items) missing ∙ way.rules;
  counts = λ t inside.
      ap (λ v. get_or v.items t 0) missing ∙ way.counts t inside ∙ ap (λ v. unmade v.items (takes P t) + 0) (sym made);
  ready = λ t.
      out t ∙ ap (λ b. cond b false (contains nat_cmp old.ready t)) (key_is r t)
      ∙ ap (λ b. cond (r == t) false b) (way.ready t)
      ∙ ready_at (nat_lt t (length P.rules)) (get_or old.missing.items t 0 == 0) (contains_number t taken) (r == t)
      ∙ ap (λ b. nat_lt t (length P.rules) && (get_or old.missing.items t 0 == 0) && not b) (sym (list_any-append (λ y. y == t) taken (r ∷ [])))
      ∙ ap (λ v. nat_lt t (length P.rules) && (get_or v.items t 0 == 0) && not (contains_number t (taken ++ r ∷ []))) (sym missing);
  done = λ t some.
      ap (λ v. get_or v.items t 0) missing
      ∙ by_part t (contains_number t taken) (r == t) refl refl (sym (list_any-append (λ y. y == t) taken (r ∷ [])) ∙ some);
}
  where
    by_part : (t : ℕ) (a b : Bool) → contains_number t taken ≡ a → (r == t) ≡ b → (a || (b || false)) ≡ true → get_or old.missing.items t 0 ≡ 0
    by_part t true b is same some = way.done t is
    by_part t false true is same some =
        ap (λ k. get_or old.missing.items k 0) (sym (eqb-true r t same)) ∙ (ready_parts P taken old r way has).1
    by_part t false false is same some = absurd (true≢false (sym some))

-- the marks after the outputs of a rule
pub marked_more : (P : Plan) (taken : List ℕ) (r : ℕ) (old new : List Bool) → IsMarked P taken old
    → ((f : ℕ) → f < length P.files → get_or new f false ≡ (get_or old f false || contains_number f (makes P r)))
    → IsMarked P (taken ++ r ∷ []) new
marked_more P taken r old new marked more f inside =
    more f inside ∙ ap (λ b. b || contains_number f (makes P r)) (marked f inside)
    ∙ assoc (is_source P f) (list_any (λ t. contains_number f (makes P t)) taken) (contains_number f (makes P r))
    ∙ ap (λ b. is_source P f || b) (sym (list_any-append (λ t. contains_number f (makes P t)) taken (r ∷ [])))
  where
    assoc : (a b c : Bool) → ((a || b) || c) ≡ (a || (b || (c || false)))
    assoc true b c = refl
    assoc false true c = refl
    assoc false false true = refl
    assoc false false false = refl

empty_at : (keys : List ℕ) (q : ℕ) → (0 < length keys → false ≡ true) → list_any (is_at (nat_cmp q)) keys ≡ false
empty_at [] q none = refl
empty_at (k ∷ ks) q none = absurd (true≢false (sym (none (omega arith))))

-- a set of no keys has none
pub none_ready : (ready : BTreeSet ℕ) (q : ℕ) → (0 < length ready.keys → false ≡ true) → contains nat_cmp ready q ≡ false
none_ready ready q none = empty_at ready.keys q none
