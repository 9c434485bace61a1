-- What the files and the bounds of a numbered plan have.
use Rattle.std.proofs.Common.{◌≡◌, ℕ, zero, suc, ◌+◌, ◌<◌, ◌≤◌, Bool, true, false, cond, not, ◌||◌, List, [], ◌∷◌, ◌++◌, length, map, fold, get_or, Option, Some, None, inl, inr, refl, ap, sym, ◌∙◌, subst, arith, IsTrue, All, min}
use Rattle.std.specs.Prelude.{◌==◌, nat_le, nat_lt, is_none, filter, flat_map, slice_get, sum_by}
use Rattle.std.specs.List.{list_all, enumerate_from, range_with_len}
use Rattle.std.specs.Option.{option_map, option_map_or}
use Rattle.std.specs.Str.{bytes_eq}
use Rattle.std.proofs.lemmas.Bool.{eq-eqb, eqb-true, le-leb, lt-ltb, cases_lt, and_from, false_from_ne_true, true≢false}
use Rattle.std.proofs.lemmas.List.{length-map, get_or_default}
use Rattle.std.proofs.lemmas.List.Elements.{All-head, All-tail}
use Rattle.std.proofs.lemmas.List.Folds.{Any-from_list_any, list_all-map, list_all-append}
use Rattle.std.proofs.lemmas.List.Sums.{sum_by-cons}
use Rattle.std.proofs.lemmas.Option.{slice_get-map, slice_get-get_or, slice_get_within, same_Some}
use Rattle.std.proofs.lemmas.Slice.Eq.{bytes_eq-Decides}
use Rattle.flow_types.specs.declared.flow.RawFlow.{RawFlow}
use Rattle.flow_types.specs.declared.flow.RawRule.{RawRule}
use Rattle.flow_types.specs.declared.flow.SizeBound.{SizeBound}
use Rattle.flow_types.specs.declared.plan.FileRow.{FileRow}
use Rattle.flow_types.specs.declared.plan.Rule.{Rule}
use Rattle.flow_types.specs.Plans.{most_bytes, all_pairs, files_of, takes, takers_of, bound_of, is_source, is_kept, is_empty, sources_of, contains_number, file_numbers}
use Rattle.rule_graph.specs.declared.numbering.Making.{Making}
use Rattle.rule_graph.specs.declared.raw.RawPort.{RawPort}
use Rattle.rule_graph.specs.Flows.{raw_outputs, raw_inputs, names_of, number_of, has_local, is_text_of, is_taken, is_named_kept, stated_bound, raw_maker, port_for, row_for, rule_for, plan_without_faults}
use Rattle.rule_graph.specs.Faults.{makings, second_maker}
use Rattle.rule_graph.specs.Checked.{HasNames}
use Rattle.rule_graph.specs.Numbering.{is_known, second_among, IsPortAmong, IsRuleAmong}
use Rattle.rule_graph.proofs.Makings.{makings_by}
use Rattle.rule_graph.proofs.Known.{All-parts, rules_among}
use Rattle.rule_graph.proofs.RuleFaults.{none_both}
use Rattle.rule_graph.proofs.PlanMakers.{all_range, all_step, all_files, find_none, no_second, place, number_at, contains_file, maker_of_output, unmap}

pub all_to : {A : Type 0} (p : A → Bool) (xs : List A) → All (λ x. p x ≡ true) xs → list_all p xs ≡ true
all_to p [] all = refl
all_to p (x ∷ xs) all = and_from (p x) (list_all p xs) (All-head (λ x. p x ≡ true) x xs all) (all_to p xs (All-tail (λ x. p x ≡ true) x xs all))

-- ---- the files

row_at : (flow : RawFlow) (f : ℕ) → slice_get (plan_without_faults flow).files f ≡ option_map (λ name. row_for flow name (raw_maker flow name)) (slice_get (names_of flow) f)
row_at flow f = slice_get-map (λ name. row_for flow name (raw_maker flow name)) (names_of flow) f

filter_step : (p q : ℕ → Bool) (x : ℕ) (xs : List ℕ) (b : Bool) → p x ≡ b → (p x ≡ true → q x ≡ true) → list_all q (filter p xs) ≡ true → list_all q (cond b (x ∷ filter p xs) (filter p xs)) ≡ true
filter_step p q x xs true e go rest = and_from (q x) (list_all q (filter p xs)) (go e) rest
filter_step p q x xs false e go rest = rest

all_filter : (p q : ℕ → Bool) → ((x : ℕ) → p x ≡ true → q x ≡ true) → (xs : List ℕ) → list_all q (filter p xs) ≡ true
all_filter p q go [] = refl
all_filter p q go (x ∷ xs) = filter_step p q x xs (p x) refl (go x) (all_filter p q go xs)

source_unkept : (flow : RawFlow) (name : List ℕ) (m : Option ℕ) → is_none (row_for flow name m).maker ≡ true → not (row_for flow name m).kept ≡ true
source_unkept flow name None source = refl
source_unkept flow name (Some r) source = absurd (true≢false (sym source))

at_source : (flow : RawFlow) (o : Option (List ℕ))
    → option_map_or (λ row. is_none row.maker) (option_map (λ name. row_for flow name (raw_maker flow name)) o) false ≡ true
    → not (option_map_or (λ row. row.kept) (option_map (λ name. row_for flow name (raw_maker flow name)) o) false) ≡ true
at_source flow None source = refl
at_source flow (Some name) source = source_unkept flow name (raw_maker flow name) source

-- A source is never kept.
pub plan_sources_not_kept : (flow : RawFlow) → IsTrue (list_all (λ f. not (is_kept (plan_without_faults flow) f)) (sources_of (plan_without_faults flow)))
plan_sources_not_kept flow =
    all_filter (is_source (plan_without_faults flow)) (λ f. not (is_kept (plan_without_faults flow) f))
    (λ f source.
    let told : option_map_or (λ row. is_none row.maker) (option_map (λ name. row_for flow name (raw_maker flow name)) (slice_get (names_of flow) f)) false ≡ true =
    ap (λ (o : Option FileRow). option_map_or (λ row. is_none row.maker) o false) (sym (row_at flow f)) ∙ source in
    ap (λ (o : Option FileRow). not (option_map_or (λ row. row.kept) o false)) (row_at flow f) ∙ at_source flow (slice_get (names_of flow) f) told)
    (file_numbers (plan_without_faults flow))

-- a list from which something is filtered isn't empty
filter_on : (p : ℕ → Bool) (a n j : ℕ) (b : Bool) → p a ≡ b → a ≤ j → j < a + suc n → p j ≡ true
    → (a + 1 ≤ j → not (is_empty (filter p (range_with_len (a + 1) n))) ≡ true)
    → not (is_empty (cond b (a ∷ filter p (range_with_len (a + 1) n)) (filter p (range_with_len (a + 1) n)))) ≡ true
filter_on p a n j true e low high passes rest = refl
filter_on p a n j false e low high passes rest =
    elim (cases_lt a j) [
      | inl before ↦ rest (omega (arith, before))
      | inr after ↦ let same : j ≡ a = omega arith in absurd (true≢false (sym passes ∙ ap p same ∙ e))
    ]

filter_some : (p : ℕ → Bool) (a n j : ℕ) → a ≤ j → j < a + n → p j ≡ true → not (is_empty (filter p (range_with_len a n))) ≡ true
filter_some p a zero j low high passes = absurd (omega arith)
filter_some p a (suc n) j low high passes = filter_on p a n j (p a) refl low high passes (λ above. filter_some p (a + 1) n j above (omega (arith, high)) passes)

takes_at : (flow : RawFlow) (r : ℕ) (raw : RawRule) → slice_get flow.rules r ≡ Some raw
    → takes (plan_without_faults flow) r ≡ files_of (map (port_for (names_of flow)) (raw_inputs raw))
takes_at flow r raw at =
    ap (λ (o : Option Rule). option_map_or (λ rule. files_of rule.inputs) o []) (slice_get-map (rule_for flow (names_of flow)) flow.rules r ∙ ap (option_map (rule_for flow (names_of flow))) at)

-- a file that a rule takes in has a taker
has_taker : (flow : RawFlow) (f : ℕ) (name : List ℕ) → number_of (names_of flow) name ≡ f → is_taken flow name ≡ true → not (is_empty (takers_of (plan_without_faults flow) f)) ≡ true
has_taker flow f name number taken =
    let any = Any-from_list_any (λ rule. has_local name (raw_inputs rule)) flow.rules taken in
    let at : slice_get flow.rules any.0 ≡ Some any.1 = slice_get-get_or flow.rules any.0 any.1 any.2 ∙ ap (λ x. Some x) any.3 in
    let level : length (plan_without_faults flow).rules ≡ length flow.rules = length-map flow.rules (rule_for flow (names_of flow)) in
    filter_some (λ r. contains_number f (takes (plan_without_faults flow) r)) 0 (length (plan_without_faults flow).rules) any.0 (omega arith) (omega (arith, any.2, level))
    (ap (contains_number f) (takes_at flow any.0 any.1 at) ∙ contains_file (names_of flow) name f (raw_inputs any.1) number any.4)

kept_or_taken : (named taken some : Bool) → (taken ≡ true → some ≡ true) → ((named || not taken) || some) ≡ true
kept_or_taken true taken some go = refl
kept_or_taken false true some go = go refl
kept_or_taken false false some go = refl

row_kept : (flow : RawFlow) (name : List ℕ) (m : Option ℕ) (some : Bool) → (is_taken flow name ≡ true → some ≡ true)
    → (is_none (row_for flow name m).maker || (row_for flow name m).kept || some) ≡ true
row_kept flow name None some go = refl
row_kept flow name (Some r) some go = kept_or_taken (is_named_kept flow name) (is_taken flow name) some go

file_kept : (flow : RawFlow) (f : ℕ) → f < length (names_of flow)
    → (is_source (plan_without_faults flow) f || is_kept (plan_without_faults flow) f || not (is_empty (takers_of (plan_without_faults flow) f))) ≡ true
file_kept flow f inside =
    let name : List ℕ = get_or (names_of flow) f [] in
    let some : Bool = not (is_empty (takers_of (plan_without_faults flow) f)) in
    let row : slice_get (plan_without_faults flow).files f ≡ Some (row_for flow name (raw_maker flow name)) =
    row_at flow f ∙ ap (option_map (λ name. row_for flow name (raw_maker flow name))) (slice_get-get_or (names_of flow) f [] inside) in
    ap (λ (o : Option FileRow). option_map_or (λ row. is_none row.maker) o false || option_map_or (λ row. row.kept) o false || some) row
    ∙ row_kept flow name (raw_maker flow name) some (has_taker flow f name (number_at flow f inside))

-- A made file that no rule takes in is kept.
pub plan_kept : (flow : RawFlow)
    → IsTrue (list_all (λ f. is_source (plan_without_faults flow) f || is_kept (plan_without_faults flow) f || not (is_empty (takers_of (plan_without_faults flow) f))) (file_numbers (plan_without_faults flow)))
plan_kept flow =
    let level : length (plan_without_faults flow).files ≡ length (names_of flow) = length-map (names_of flow) (λ name. row_for flow name (raw_maker flow name)) in
    all_range (λ f. is_source (plan_without_faults flow) f || is_kept (plan_without_faults flow) f || not (is_empty (takers_of (plan_without_faults flow) f))) 0 (length (plan_without_faults flow).files)
    (λ f low high. file_kept flow f (omega (arith, high, level)))

-- ---- the bounds

line_step : (name : List ℕ) (line : SizeBound) (bound : ℕ) (b : Bool) → bound ≤ most_bytes → line.bytes ≤ most_bytes → cond b line.bytes bound ≤ most_bytes
line_step name line bound true low few = few
line_step name line bound false low few = low

lines_within : (name : List ℕ) (lines : List SizeBound) (bound : ℕ) → bound ≤ most_bytes → All (λ line. line.bytes ≤ most_bytes) lines
    → fold (λ bound line. cond (is_text_of name line.name) line.bytes bound) bound lines ≤ most_bytes
lines_within name [] bound low all = low
lines_within name (line ∷ lines) bound low all =
    lines_within name lines (cond (is_text_of name line.name) line.bytes bound)
    (line_step name line bound (is_text_of name line.name) low (All-head (λ line. line.bytes ≤ most_bytes) line lines all))
    (All-tail (λ line. line.bytes ≤ most_bytes) line lines all)

row_within : (flow : RawFlow) (name : List ℕ) (m : Option ℕ) → All (λ line. line.bytes ≤ most_bytes) flow.bounds → nat_le (row_for flow name m).bound most_bytes ≡ true
row_within flow name None all = le-leb most_bytes most_bytes (omega arith)
row_within flow name (Some r) all = le-leb (stated_bound flow name) most_bytes (lines_within name flow.bounds most_bytes (omega arith) all)

-- The bound of a file is within the most bytes where all lines are.
pub plan_file_bounds : (flow : RawFlow) → All (λ line. line.bytes ≤ most_bytes) flow.bounds → IsTrue (list_all (λ row. nat_le row.bound most_bytes) (plan_without_faults flow).files)
plan_file_bounds flow all =
    list_all-map (λ row. nat_le row.bound most_bytes) (λ name. row_for flow name (raw_maker flow name)) (names_of flow)
    ∙ all_to (λ name. nat_le (row_for flow name (raw_maker flow name)).bound most_bytes) (names_of flow) (λ k d inside. row_within flow (get_or (names_of flow) k d) (raw_maker flow (get_or (names_of flow) k d)) all)

made_bound : (flow : RawFlow) (name : List ℕ) (r : ℕ) → raw_maker flow name ≡ Some r → (row_for flow name (raw_maker flow name)).bound ≡ stated_bound flow name
made_bound flow name r made = ap (λ m. (row_for flow name m).bound) made

bound_at : (flow : RawFlow) (name : List ℕ) (r : ℕ) → IsTrue (is_known (names_of flow) name) → raw_maker flow name ≡ Some r
    → bound_of (plan_without_faults flow) (number_of (names_of flow) name) ≡ stated_bound flow name
bound_at flow name r known made =
    ap (λ (o : Option FileRow). option_map_or (λ row. row.bound) o 0)
    (row_at flow (number_of (names_of flow) name) ∙ ap (option_map (λ name. row_for flow name (raw_maker flow name))) (place (names_of flow) name known))
    ∙ made_bound flow name r made

sum_same : (flow : RawFlow) (ports : List RawPort) → All (λ port. bound_of (plan_without_faults flow) (number_of (names_of flow) port.local) ≡ stated_bound flow port.local) ports
    → sum_by (λ port. bound_of (plan_without_faults flow) port.file.0) (map (port_for (names_of flow)) ports) ≡ sum_by (λ port. stated_bound flow port.local) ports
sum_same flow [] all = refl
sum_same flow (port ∷ ports) all =
    let E : RawPort → Type 0 = λ port. bound_of (plan_without_faults flow) (number_of (names_of flow) port.local) ≡ stated_bound flow port.local in
    sum_by-cons (λ port. bound_of (plan_without_faults flow) port.file.0) (port_for (names_of flow) port) (map (port_for (names_of flow)) ports)
    ∙ ap (λ b. b + sum_by (λ port. bound_of (plan_without_faults flow) port.file.0) (map (port_for (names_of flow)) ports)) (All-head E port ports all)
    ∙ ap (λ s. stated_bound flow port.local + s) (sum_same flow ports (All-tail E port ports all))
    ∙ sym (sum_by-cons (λ port. stated_bound flow port.local) port ports)

outputs_of : (flow : RawFlow) → All HasNames flow.rules → (r : ℕ) (raw : RawRule) → r < length flow.rules → get_or flow.rules r raw ≡ raw → All (IsPortAmong (names_of flow)) (raw_outputs raw)
outputs_of flow names r raw inside is =
    (All-parts (IsPortAmong (names_of flow)) (raw_outputs raw) (raw_inputs raw) (subst (IsRuleAmong (names_of flow)) is (rules_among flow names r raw inside))).0

rule_bound : (flow : RawFlow) → All HasNames flow.rules → second_maker (makings flow) ≡ None → (r : ℕ) (raw : RawRule) → r < length flow.rules → get_or flow.rules r raw ≡ raw
    → ((rule_for flow (names_of flow) raw).bound == min (sum_by (λ port. bound_of (plan_without_faults flow) port.file.0) (rule_for flow (names_of flow) raw).outputs) most_bytes) ≡ true
rule_bound flow names none r raw inside is =
    let at : slice_get flow.rules r ≡ Some raw = slice_get-get_or flow.rules r raw inside ∙ ap (λ x. Some x) is in
    eq-eqb _ _
    (ap (λ s. min s most_bytes) (sym (sum_same flow (raw_outputs raw)
    (all_step (IsPortAmong (names_of flow)) (λ port. raw_maker flow port.local ≡ Some r) (λ port. bound_of (plan_without_faults flow) (number_of (names_of flow) port.local) ≡ stated_bound flow port.local)
    (λ port known made. bound_at flow port.local r known.known made) (raw_outputs raw) (outputs_of flow names r raw inside is) (maker_of_output flow none r raw at)))))

-- A rule's bound is the sum of its outputs' bounds, or the most bytes if that is less.
pub plan_rule_bounds : (flow : RawFlow) → All HasNames flow.rules → second_maker (makings flow) ≡ None
    → IsTrue (list_all (λ rule. rule.bound == min (sum_by (λ port. bound_of (plan_without_faults flow) port.file.0) rule.outputs) most_bytes) (plan_without_faults flow).rules)
plan_rule_bounds flow names none =
    list_all-map (λ rule. rule.bound == min (sum_by (λ port. bound_of (plan_without_faults flow) port.file.0) rule.outputs) most_bytes) (rule_for flow (names_of flow)) flow.rules
    ∙ all_to (λ raw. (rule_for flow (names_of flow) raw).bound == min (sum_by (λ port. bound_of (plan_without_faults flow) port.file.0) (rule_for flow (names_of flow) raw).outputs) most_bytes) flow.rules
    (λ k d inside. rule_bound flow names none k (get_or flow.rules k d) inside (get_or_default flow.rules k (get_or flow.rules k d) d inside))

-- ---- the ports

port_inside : (flow : RawFlow) (name : List ℕ) → IsTrue (is_known (names_of flow) name) → nat_lt (number_of (names_of flow) name) (length (plan_without_faults flow).files) ≡ true
port_inside flow name known =
    let level : length (plan_without_faults flow).files ≡ length (names_of flow) = length-map (names_of flow) (λ name. row_for flow name (raw_maker flow name)) in
    let inside = slice_get_within (names_of flow) (number_of (names_of flow) name) name (place (names_of flow) name known) in
    lt-ltb (number_of (names_of flow) name) (length (plan_without_faults flow).files) (omega (arith, inside, level))

ports_inside_of : (flow : RawFlow) (ports : List RawPort) → All (IsPortAmong (names_of flow)) ports
    → list_all (λ port. nat_lt port.file.0 (length (plan_without_faults flow).files)) (map (port_for (names_of flow)) ports) ≡ true
ports_inside_of flow ports all =
    list_all-map (λ port. nat_lt port.file.0 (length (plan_without_faults flow).files)) (port_for (names_of flow)) ports
    ∙ all_to (λ port. nat_lt (number_of (names_of flow) port.local) (length (plan_without_faults flow).files)) ports (λ k d inside. port_inside flow (get_or ports k d).local (all k d inside).known)

rule_inside : (flow : RawFlow) (raw : RawRule) → IsRuleAmong (names_of flow) raw
    → list_all (λ port. nat_lt port.file.0 (length (plan_without_faults flow).files)) ((rule_for flow (names_of flow) raw).inputs ++ (rule_for flow (names_of flow) raw).outputs) ≡ true
rule_inside flow raw all =
    let parts = All-parts (IsPortAmong (names_of flow)) (raw_outputs raw) (raw_inputs raw) all in
    list_all-append (λ port. nat_lt port.file.0 (length (plan_without_faults flow).files)) (rule_for flow (names_of flow) raw).inputs (rule_for flow (names_of flow) raw).outputs
    ∙ and_from _ _ (ports_inside_of flow (raw_inputs raw) parts.1) (ports_inside_of flow (raw_outputs raw) parts.0)

-- Each port has a file of the plan.
pub plan_ports_inside : (flow : RawFlow) → All HasNames flow.rules
    → IsTrue (list_all (λ rule. list_all (λ port. nat_lt port.file.0 (length (plan_without_faults flow).files)) (rule.inputs ++ rule.outputs)) (plan_without_faults flow).rules)
plan_ports_inside flow names =
    list_all-map (λ rule. list_all (λ port. nat_lt port.file.0 (length (plan_without_faults flow).files)) (rule.inputs ++ rule.outputs)) (rule_for flow (names_of flow)) flow.rules
    ∙ all_to (λ raw. list_all (λ port. nat_lt port.file.0 (length (plan_without_faults flow).files)) ((rule_for flow (names_of flow) raw).inputs ++ (rule_for flow (names_of flow) raw).outputs)) flow.rules
    (λ k d inside. rule_inside flow (get_or flow.rules k d) (rules_among flow names k d inside))

-- names that differ have two numbers
apart_numbers : (names : List (List ℕ)) (x y : List ℕ) → IsTrue (is_known names x) → IsTrue (is_known names y) → bytes_eq y x ≡ false → not (number_of names x == number_of names y) ≡ true
apart_numbers names x y x_known y_known apart =
    ap not (false_from_ne_true (number_of names x == number_of names y)
    (λ same.
    let e : Some x ≡ Some y = sym (place names x x_known) ∙ ap (slice_get names) (eqb-true (number_of names x) (number_of names y) same) ∙ place names y y_known in
    true≢false (sym ((bytes_eq-Decides y x).1 (sym (same_Some x y e))) ∙ apart)))

-- two outputs of a rule have two files
outputs_differ : (names : List (List ℕ)) (r : ℕ) (ports : List RawPort) (rest : List Making) → All (IsPortAmong names) ports
    → second_maker (map (λ port. let making : Making = record { maker = r; name = port.local } in making) ports ++ rest) ≡ None
    → all_pairs (λ f g. not (f == g)) (files_of (map (port_for names) ports)) ≡ true
outputs_differ names r [] rest all none = refl
outputs_differ names r (port ∷ ports) rest all none =
    let making : Making = record { maker = r; name = port.local } in
    let made : List Making = map (λ port. let making : Making = record { maker = r; name = port.local } in making) ports in
    let both = none_both (second_among making (made ++ rest)) (second_maker (made ++ rest)) none in
    let others = find_none (λ second. bytes_eq second.name port.local) (made ++ rest) (no_second making (made ++ rest) both.0) in
    let mine = (All-parts (λ second. bytes_eq second.name port.local ≡ false) made rest others).0 in
    let differ = unmap (λ second. bytes_eq second.name port.local ≡ false) (λ port. let making : Making = record { maker = r; name = port.local } in making) ports mine in
    let known = All-head (IsPortAmong names) port ports all in
    and_from (list_all (λ g. not (number_of names port.local == g)) (files_of (map (port_for names) ports))) (all_pairs (λ f g. not (f == g)) (files_of (map (port_for names) ports)))
    (all_files (λ g. not (number_of names port.local == g)) names ports
    (all_step (IsPortAmong names) (λ other. bytes_eq other.local port.local ≡ false) (λ other. not (number_of names port.local == number_of names other.local) ≡ true)
    (λ other among apart. apart_numbers names port.local other.local known.known among.known apart)
    ports (All-tail (IsPortAmong names) port ports all) differ))
    (outputs_differ names r ports rest (All-tail (IsPortAmong names) port ports all) both.1)

later_none : (ms rest : List Making) → second_maker (ms ++ rest) ≡ None → second_maker rest ≡ None
later_none [] rest none = none
later_none (m ∷ ms) rest none = later_none ms rest (none_both (second_among m (ms ++ rest)) (second_maker (ms ++ rest)) none).1

rules_differ : (names : List (List ℕ)) (rules : List RawRule) (n : ℕ) (flow : RawFlow) → All (IsRuleAmong names) rules → second_maker (flat_map makings_by (enumerate_from n rules)) ≡ None
    → list_all (λ raw. all_pairs (λ f g. not (f == g)) (files_of (rule_for flow names raw).outputs)) rules ≡ true
rules_differ names [] n flow all none = refl
rules_differ names (rule ∷ rules) n flow all none =
    let rest : List Making = flat_map makings_by (enumerate_from (n + 1) rules) in
    let outputs = (All-parts (IsPortAmong names) (raw_outputs rule) (raw_inputs rule) (All-head (IsRuleAmong names) rule rules all)).0 in
    and_from (all_pairs (λ f g. not (f == g)) (files_of (map (port_for names) (raw_outputs rule)))) (list_all (λ raw. all_pairs (λ f g. not (f == g)) (files_of (rule_for flow names raw).outputs)) rules)
    (outputs_differ names n (raw_outputs rule) rest outputs none)
    (rules_differ names rules (n + 1) flow (All-tail (IsRuleAmong names) rule rules all) (later_none (makings_by (n, rule)) rest none))

-- No rule makes a file by two ports.
pub plan_one_port : (flow : RawFlow) → All HasNames flow.rules → second_maker (makings flow) ≡ None
    → IsTrue (list_all (λ rule. all_pairs (λ f g. not (f == g)) (files_of rule.outputs)) (plan_without_faults flow).rules)
plan_one_port flow names none =
    list_all-map (λ rule. all_pairs (λ f g. not (f == g)) (files_of rule.outputs)) (rule_for flow (names_of flow)) flow.rules
    ∙ rules_differ (names_of flow) flow.rules 0 flow (rules_among flow names) none
