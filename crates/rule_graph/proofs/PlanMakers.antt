-- In a numbered plan, where no file has two makers, the maker of what a rule makes is that rule, and the maker of a file makes it.
use Rattle.std.proofs.Common.{◌≡◌, ℕ, zero, suc, ◌+◌, ◌<◌, ◌≤◌, Bool, true, false, cond, ◌||◌, List, [], ◌∷◌, length, map, get_or, Option, Some, None, refl, ap, sym, ◌∙◌, subst, arith, IsTrue, All}
use Rattle.std.specs.Prelude.{◌==◌, position, find, flat_map, unwrap_or, slice_get}
use Rattle.std.specs.List.{list_all, enumerate_from, position_from, range_with_len}
use Rattle.std.specs.Option.{option_map, option_map_or}
use Rattle.std.specs.Str.{bytes_eq}
use Rattle.std.proofs.lemmas.Bool.{eq-eqb, and_from}
use Rattle.std.proofs.lemmas.Cmp.{nat_list_cmp_total, tied_itself}
use Rattle.std.proofs.lemmas.Iterator.Adapters.{position_from-zero}
use Rattle.std.proofs.lemmas.List.{length-map, map-id}
use Rattle.std.proofs.lemmas.List.Elements.{All-nil, All-cons, All-head, All-tail}
use Rattle.std.proofs.lemmas.Option.{slice_get-map, slice_get-get_or, get_or_from_slice_get, same_Some}
use Rattle.std.proofs.lemmas.Slice.Eq.{bytes_eq-Decides}
use Rattle.flow_types.specs.declared.flow.RawFlow.{RawFlow}
use Rattle.flow_types.specs.declared.flow.RawRule.{RawRule}
use Rattle.flow_types.specs.declared.plan.Rule.{Rule}
use Rattle.flow_types.specs.declared.plan.FileRow.{FileRow}
use Rattle.flow_types.specs.Plans.{files_of, makes, maker_of, is_made_by, contains_number, rule_numbers, file_numbers}
use Rattle.rule_graph.specs.declared.faults.GraphFault.TheVariants as faults
use Rattle.rule_graph.specs.declared.numbering.Making.{Making}
use Rattle.rule_graph.specs.declared.raw.RawPort.{RawPort}
use Rattle.rule_graph.specs.Flows.{rule_no, raw_outputs, raw_inputs, names_of, number_of, has_local, raw_maker, port_for, row_for, rule_for, plan_without_faults}
use Rattle.rule_graph.specs.Faults.{makings, second_maker}
use Rattle.rule_graph.specs.Checked.{HasNames}
use Rattle.rule_graph.specs.Numbering.{is_known, first_maker, second_among, IsPortAmong, IsRuleAmong}
use Rattle.rule_graph.proofs.Ports.{names_ascending}
use Rattle.rule_graph.proofs.NamePlaces.{place_found}
use Rattle.rule_graph.proofs.Tables.{look_found, known_place}
use Rattle.rule_graph.proofs.Makings.{makings_by, first_more, bytes_eq-sym, first_is_maker}
use Rattle.rule_graph.proofs.Known.{All-parts, rules_among, or_right}
use Rattle.rule_graph.proofs.RuleFaults.{none_both}

pub all_range : (p : ℕ → Bool) (a n : ℕ) → ((r : ℕ) → a ≤ r → r < a + n → p r ≡ true) → list_all p (range_with_len a n) ≡ true
all_range p a zero each = refl
all_range p a (suc n) each =
    and_from (p a) (list_all p (range_with_len (a + 1) n)) (each a (omega arith) (omega arith)) (all_range p (a + 1) n (λ r low high. each r (omega (arith, low)) (omega (arith, high))))

-- ---- each making is the first one of its name

find_on : {A : Type 0} (p : A → Bool) (x : A) (xs : List A) (b : Bool) → p x ≡ b → (find p xs ≡ None → All (λ x. p x ≡ false) xs) → cond b (Some x) (find p xs) ≡ None
    → All (λ x. p x ≡ false) (x ∷ xs)
find_on p x xs true e rest none = absurd (let wrong : ⊥ = cc none in wrong)
find_on p x xs false e rest none = All-cons (λ x. p x ≡ false) x xs e (rest none)

pub find_none : {A : Type 0} (p : A → Bool) (xs : List A) → find p xs ≡ None → All (λ x. p x ≡ false) xs
find_none p [] none = All-nil (λ x. p x ≡ false)
find_none p (x ∷ xs) none = find_on p x xs (p x) refl (find_none p xs) none

pub no_second : (making : Making) (more : List Making) → second_among making more ≡ None → find (λ second. bytes_eq second.name making.name) more ≡ None
no_second making more = on (find (λ second. bytes_eq second.name making.name) more)
  where
    on : (found : Option Making)
        → option_map_or (λ second. Some (faults.TwoMakers making.name (rule_no making.maker) (rule_no second.maker))) found None ≡ None → found ≡ None
    on None e = refl
    on (Some x) e = absurd (let wrong : ⊥ = cc e in wrong)

-- the first making of the name of a making is this one
abbrev IsFirst : List Making → ℕ → List ℕ → Type 0
IsFirst ms maker name = first_maker ms name ≡ Some (rule_no maker)

-- what is said of each item goes on where it goes on for one item
pub all_step : {A : Type 0} (P Q R : A → Type 0) → ((x : A) → P x → Q x → R x) → (xs : List A) → All P xs → All Q xs → All R xs
all_step P Q R go [] ps qs = All-nil R
all_step P Q R go (x ∷ xs) ps qs =
    All-cons R x xs (go x (All-head P x xs ps) (All-head Q x xs qs)) (all_step P Q R go xs (All-tail P x xs ps) (All-tail Q x xs qs))

each_first : (ms : List Making) → second_maker ms ≡ None → All (λ m. IsFirst ms m.maker m.name) ms
each_first [] none = All-nil (λ m. IsFirst [] m.maker m.name)
each_first (making ∷ more) none =
    let both = none_both (second_among making more) (second_maker more) none in
    let others = find_none (λ second. bytes_eq second.name making.name) more (no_second making more both.0) in
    All-cons (λ m. IsFirst (making ∷ more) m.maker m.name) making more
    (first_more making more making.name ∙ ap (λ b. cond b (Some (rule_no making.maker)) (first_maker more making.name)) ((bytes_eq-Decides making.name making.name).1 refl))
    (all_step (λ second. bytes_eq second.name making.name ≡ false) (λ m. IsFirst more m.maker m.name) (λ m. IsFirst (making ∷ more) m.maker m.name)
    (λ m other first.
    first_more making more m.name ∙ ap (λ b. cond b (Some (rule_no making.maker)) (first_maker more m.name)) (bytes_eq-sym making.name m.name ∙ other) ∙ first)
    more others (each_first more both.1))

pub unmap : {A B : Type 0} (P : B → Type 0) (f : A → B) (xs : List A) → All P (map f xs) → All (λ x. P (f x)) xs
unmap P f [] all = All-nil (λ x. P (f x))
unmap P f (x ∷ xs) all = All-cons (λ x. P (f x)) x xs (All-head P (f x) (map f xs) all) (unmap P f xs (All-tail P (f x) (map f xs) all))

-- what holds of each making holds of each output of each rule
of_outputs : (Q : ℕ → List ℕ → Type 0) (rules : List RawRule) (n : ℕ) → All (λ m. Q m.maker m.name) (flat_map makings_by (enumerate_from n rules)) → (r : ℕ) (raw : RawRule)
    → slice_get rules r ≡ Some raw → All (λ port. Q (n + r) port.local) (raw_outputs raw)
of_outputs Q [] n all r raw at = absurd (let wrong : ⊥ = cc at in wrong)
of_outputs Q (rule ∷ rules) n all zero raw at =
    let same : rule ≡ raw = same_Some rule raw at in
    let mine = (All-parts (λ m. Q m.maker m.name) (makings_by (n, rule)) (flat_map makings_by (enumerate_from (n + 1) rules)) all).0 in
    let here : All (λ port. Q n port.local) (raw_outputs rule) = unmap (λ m. Q m.maker m.name) (λ port. let making : Making = record { maker = n; name = port.local } in making) (raw_outputs rule) mine in
    let zeros : n ≡ n + 0 = omega arith in
    subst (λ m. All (λ port. Q m port.local) (raw_outputs raw)) zeros (subst (λ x. All (λ port. Q n port.local) (raw_outputs x)) same here)
of_outputs Q (rule ∷ rules) n all (suc r) raw at =
    let rest = (All-parts (λ m. Q m.maker m.name) (makings_by (n, rule)) (flat_map makings_by (enumerate_from (n + 1) rules)) all).1 in
    let sums : n + 1 + r ≡ n + suc r = omega arith in
    subst (λ m. All (λ port. Q m port.local) (raw_outputs raw)) sums (of_outputs Q rules (n + 1) rest r raw at)

same_rule : (m : Option ℕ) (r : ℕ) → option_map rule_no m ≡ Some (rule_no r) → m ≡ Some r
same_rule None r e = absurd (let wrong : ⊥ = cc e in wrong)
same_rule (Some k) r e = let same : rule_no k ≡ rule_no r = cc e in ap (λ x. Some x.0) same

-- the least rule that makes an output of a rule is this rule
pub maker_of_output : (flow : RawFlow) → second_maker (makings flow) ≡ None → (r : ℕ) (raw : RawRule) → slice_get flow.rules r ≡ Some raw
    → All (λ port. raw_maker flow port.local ≡ Some r) (raw_outputs raw)
maker_of_output flow none r raw at =
    let firsts = of_outputs (IsFirst (makings flow)) flow.rules 0 (each_first (makings flow) none) r raw at in
    let zeros : 0 + r ≡ r = omega arith in
    let mine : All (λ port. IsFirst (makings flow) r port.local) (raw_outputs raw) = subst (λ m. All (λ port. IsFirst (makings flow) m port.local) (raw_outputs raw)) zeros firsts in
    all_step (λ port. IsFirst (makings flow) r port.local) (λ port. IsFirst (makings flow) r port.local) (λ port. raw_maker flow port.local ≡ Some r)
    (λ port first again. same_rule (raw_maker flow port.local) r (sym (first_is_maker flow port.local) ∙ first))
    (raw_outputs raw) mine mine

-- ---- the makers of the plan's files

row_maker : (flow : RawFlow) (name : List ℕ) (m : Option ℕ) → option_map_or (λ r. Some r.0) (row_for flow name m).maker None ≡ m
row_maker flow name None = refl
row_maker flow name (Some r) = refl

-- the maker of a file with this number
maker_at : (flow : RawFlow) (f : ℕ) (name : List ℕ) → slice_get (names_of flow) f ≡ Some name → maker_of (plan_without_faults flow) f ≡ raw_maker flow name
maker_at flow f name at =
    let row_of : List ℕ → FileRow = λ name. row_for flow name (raw_maker flow name) in
    ap (λ (o : Option FileRow). option_map_or (λ row. option_map_or (λ r. Some r.0) row.maker None) o None) (slice_get-map row_of (names_of flow) f ∙ ap (option_map row_of) at)
    ∙ row_maker flow name (raw_maker flow name)

-- the place of a name among the names
pub place : (names : List (List ℕ)) (x : List ℕ) → IsTrue (is_known names x) → slice_get names (number_of names x) ≡ Some x
place names x known = on (position (bytes_eq x) names) refl
  where
    on : (p : Option ℕ) → position (bytes_eq x) names ≡ p → slice_get names (unwrap_or p 0) ≡ Some x
    on None e = absurd (known_place names x known e)
    on (Some i) e = ap (λ ys. slice_get ys i) (sym (map-id names)) ∙ look_found names (λ n. n) x i e

maker_of_name : (flow : RawFlow) (x : List ℕ) → IsTrue (is_known (names_of flow) x) → maker_of (plan_without_faults flow) (number_of (names_of flow) x) ≡ raw_maker flow x
maker_of_name flow x known = maker_at flow (number_of (names_of flow) x) x (place (names_of flow) x known)

-- the outputs of a rule of the plan
makes_at : (flow : RawFlow) (r : ℕ) (raw : RawRule) → slice_get flow.rules r ≡ Some raw
    → makes (plan_without_faults flow) r ≡ files_of (map (port_for (names_of flow)) (raw_outputs raw))
makes_at flow r raw at =
    ap (λ (o : Option Rule). option_map_or (λ rule. files_of rule.outputs) o []) (slice_get-map (rule_for flow (names_of flow)) flow.rules r ∙ ap (option_map (rule_for flow (names_of flow))) at)

pub all_files : (p : ℕ → Bool) (names : List (List ℕ)) (ports : List RawPort) → All (λ port. p (number_of names port.local) ≡ true) ports
    → list_all p (files_of (map (port_for names) ports)) ≡ true
all_files p names [] all = refl
all_files p names (port ∷ ports) all =
    and_from (p (number_of names port.local)) (list_all p (files_of (map (port_for names) ports)))
    (All-head (λ port. p (number_of names port.local) ≡ true) port ports all)
    (all_files p names ports (All-tail (λ port. p (number_of names port.local) ≡ true) port ports all))

made_by_rule : (flow : RawFlow) → All HasNames flow.rules → second_maker (makings flow) ≡ None → (r : ℕ) → r < length flow.rules
    → list_all (is_made_by (plan_without_faults flow) r) (makes (plan_without_faults flow) r) ≡ true
made_by_rule flow names none r inside = on (slice_get flow.rules r) refl
  where
    on : (o : Option RawRule) → slice_get flow.rules r ≡ o → list_all (is_made_by (plan_without_faults flow) r) (makes (plan_without_faults flow) r) ≡ true
    on None e = ap (list_all (is_made_by (plan_without_faults flow) r)) (let nothing : makes (plan_without_faults flow) r ≡ [] = ap (λ (o : Option Rule). option_map_or (λ rule. files_of rule.outputs) o []) (slice_get-map (rule_for flow (names_of flow)) flow.rules r ∙ ap (option_map (rule_for flow (names_of flow))) e) in nothing)
    on (Some raw) e =
        let among : All (IsPortAmong (names_of flow)) (raw_outputs raw) =
        (All-parts (IsPortAmong (names_of flow)) (raw_outputs raw) (raw_inputs raw)
        (subst (IsRuleAmong (names_of flow)) (get_or_from_slice_get flow.rules r raw raw e) (rules_among flow names r raw inside))).0 in
        ap (list_all (is_made_by (plan_without_faults flow) r)) (makes_at flow r raw e)
        ∙ all_files (is_made_by (plan_without_faults flow) r) (names_of flow) (raw_outputs raw)
        (all_step (IsPortAmong (names_of flow)) (λ port. raw_maker flow port.local ≡ Some r) (λ port. is_made_by (plan_without_faults flow) r (number_of (names_of flow) port.local) ≡ true)
        (λ port known made.
        ap (λ (o : Option ℕ). option_map_or (λ m. m == r) o false) (maker_of_name flow port.local known.known ∙ made) ∙ eq-eqb r r refl)
        (raw_outputs raw) among (maker_of_output flow none r raw e))

-- The maker of what a rule of the plan makes is that rule.
pub plan_made_by : (flow : RawFlow) → All HasNames flow.rules → second_maker (makings flow) ≡ None
    → IsTrue (list_all (λ r. list_all (λ f. is_made_by (plan_without_faults flow) r f) (makes (plan_without_faults flow) r)) (rule_numbers (plan_without_faults flow)))
plan_made_by flow names none =
    let level : length (plan_without_faults flow).rules ≡ length flow.rules = length-map flow.rules (rule_for flow (names_of flow)) in
    all_range (λ r. list_all (is_made_by (plan_without_faults flow) r) (makes (plan_without_faults flow) r)) 0 (length (plan_without_faults flow).rules)
    (λ r low high. made_by_rule flow names none r (omega (arith, high, level)))

-- ---- the maker of a file makes it

made_place : {A : Type 0} (p : A → Bool) (x : A) (xs : List A) (n i : ℕ) (b : Bool) → p x ≡ b → cond b (Some n) (position_from p (n + 1) xs) ≡ Some i
    → (position_from p (n + 1) xs ≡ Some i → (j : ℕ) × (y : A) × (i ≡ n + 1 + j) × (slice_get xs j ≡ Some y) × (p y ≡ true))
    → (j : ℕ) × (y : A) × (i ≡ n + j) × (slice_get (x ∷ xs) j ≡ Some y) × (p y ≡ true)
made_place p x xs n i true e found rest = let same : n ≡ i = cc found in (0, x, omega (arith, same), refl, e)
made_place p x xs n i false e found rest = let r = rest found in (suc r.0, r.1, omega (arith, r.2), r.3, r.4)

from_place : {A : Type 0} (p : A → Bool) (xs : List A) (n i : ℕ) → position_from p n xs ≡ Some i → (j : ℕ) × (y : A) × (i ≡ n + j) × (slice_get xs j ≡ Some y) × (p y ≡ true)
from_place p [] n i found = absurd (let wrong : ⊥ = cc found in wrong)
from_place p (x ∷ xs) n i found = made_place p x xs n i (p x) refl found (from_place p xs (n + 1) i)

pub contains_file : (names : List (List ℕ)) (x : List ℕ) (f : ℕ) (ports : List RawPort) → number_of names x ≡ f → has_local x ports ≡ true
    → contains_number f (files_of (map (port_for names) ports)) ≡ true
contains_file names x f [] is has = has
contains_file names x f (port ∷ ports) is has = on (bytes_eq x port.local) refl has (contains_file names x f ports is)
  where
    on : (b : Bool) → bytes_eq x port.local ≡ b → (b || has_local x ports) ≡ true → (has_local x ports ≡ true → contains_number f (files_of (map (port_for names) ports)) ≡ true)
        → ((number_of names port.local == f) || contains_number f (files_of (map (port_for names) ports))) ≡ true
    on true e h rest =
        ap (λ b. b || contains_number f (files_of (map (port_for names) ports)))
        (eq-eqb (number_of names port.local) f (ap (number_of names) (sym ((bytes_eq-Decides x port.local).0 e)) ∙ is))
    on false e h rest = or_right (number_of names port.local == f) (contains_number f (files_of (map (port_for names) ports))) (rest h)

-- the number of the name at a place is this place
pub number_at : (flow : RawFlow) (f : ℕ) → f < length (names_of flow) → number_of (names_of flow) (get_or (names_of flow) f []) ≡ f
number_at flow f inside =
    ap (λ o. unwrap_or o 0) (place_found (names_of flow) (get_or (names_of flow) f []) f (names_ascending flow) inside (tied_itself nat_list_cmp_total (get_or (names_of flow) f [])))

maker_makes : (flow : RawFlow) (f : ℕ) → f < length (names_of flow)
    → option_map_or (λ r. contains_number f (makes (plan_without_faults flow) r)) (maker_of (plan_without_faults flow) f) true ≡ true
maker_makes flow f inside =
    ap (λ (o : Option ℕ). option_map_or (λ r. contains_number f (makes (plan_without_faults flow) r)) o true) (maker_at flow f name (slice_get-get_or (names_of flow) f [] inside))
    ∙ on (raw_maker flow name) refl
  where
    name : List ℕ
    name = get_or (names_of flow) f []

    number : number_of (names_of flow) (get_or (names_of flow) f []) ≡ f
    number = ap (λ o. unwrap_or o 0) (place_found (names_of flow) (get_or (names_of flow) f []) f (names_ascending flow) inside (tied_itself nat_list_cmp_total (get_or (names_of flow) f [])))

    on : (m : Option ℕ) → raw_maker flow (get_or (names_of flow) f []) ≡ m → option_map_or (λ r. contains_number f (makes (plan_without_faults flow) r)) m true ≡ true
    on None e = refl
    on (Some r) e =
        let x : List ℕ = get_or (names_of flow) f [] in
        let at = from_place (λ rule. has_local x (raw_outputs rule)) flow.rules 0 r (sym (position_from-zero (λ rule. has_local x (raw_outputs rule)) flow.rules) ∙ e) in
        let same : at.0 ≡ r = omega (arith, at.2) in
        let raw : slice_get flow.rules r ≡ Some at.1 = ap (slice_get flow.rules) (sym same) ∙ at.3 in
        ap (contains_number f) (makes_at flow r at.1 raw) ∙ contains_file (names_of flow) x f (raw_outputs at.1) number at.4

-- The maker of a file of the plan makes it.
pub plan_makers : (flow : RawFlow)
    → IsTrue (list_all (λ f. option_map_or (λ r. contains_number f (makes (plan_without_faults flow) r)) (maker_of (plan_without_faults flow) f) true) (file_numbers (plan_without_faults flow)))
plan_makers flow =
    let level : length (plan_without_faults flow).files ≡ length (names_of flow) = length-map (names_of flow) (λ name. row_for flow name (raw_maker flow name)) in
    all_range (λ f. option_map_or (λ r. contains_number f (makes (plan_without_faults flow) r)) (maker_of (plan_without_faults flow) f) true) 0 (length (plan_without_faults flow).files)
    (λ f low high. maker_makes flow f (omega (arith, high, level)))
