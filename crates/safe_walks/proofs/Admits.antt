-- The law of the safe admission: where a safe run stands still, the first rule of the walk may
-- start.
use Rattle.std.proofs.Common.{◌≡◌, ℕ, zero, suc, ◌+◌, ◌≤◌, ◌<◌, Bool, true, false, cond, not, ◌&&◌}
use Rattle.std.proofs.Common.{◌||◌, List, [], ◌∷◌, length, Option, Some, None, refl, ap, sym, subst}
use Rattle.std.proofs.Common.{◌∙◌, arith, true≢false}
use Rattle.std.specs.Prelude.{find, sum_by, ◌==◌, is_none, nat_le, nat_lt, filter, unwrap_or}
use Rattle.std.specs.List.{list_any, list_all, range_with_len}
use Rattle.std.proofs.lemmas.Bool.{leb-true, le-leb, lt-ltb, ltb-true, eqb-true, eq-eqb, and_parts}
use Rattle.std.proofs.lemmas.Bool.{false_from_ne_true}
use Rattle.flow_types.specs.declared.plan.Plan.{Plan}
use Rattle.flow_types.specs.declared.records.Record.{Record}
use Rattle.flow_types.specs.Plans.{IsValid, is_empty, rule_numbers, made_files, takers_of, is_kept}
use Rattle.flow_types.specs.Plans.{contains_number}
use Rattle.flow_types.specs.Serial.{serial_order}
use Rattle.flow_types.proofs.SerialRun.{IsRun, find-passes, order-run}
use Rattle.flow_types.proofs.Orders.{every-rule-taken}
use Rattle.flow_types.proofs.Totals.{total, total-is, total-add, at_place, place-once}
use Rattle.run_history.specs.History.{part, last_said}
use Rattle.run_history.specs.declared.options.Options.{Options}
use Rattle.run_history.specs.declared.options.Mode.{Mode}
use Rattle.run_history.specs.declared.options.Mode.TheVariants as modes
use Rattle.run_history.specs.States.{limit_of, limit_in}
use Rattle.run_history.proofs.Limits.{empty_is as empty_records}
use Rattle.run_history.specs.Storage.{is_complete, is_waiting, has_failed, is_present, is_ready}
use Rattle.run_history.specs.Storage.{ready_rules, running_rules, stored, reserved, rule_bound}
use Rattle.run_history.specs.Storage.{is_within, fits_storage, least_free, wanted}
use Rattle.flow_types.specs.Plans.{takes}
use Rattle.run_history.specs.Legal.{is_legal}
use Rattle.run_history.proofs.Bools.{both, filter_all, not_true}
use Rattle.run_history.proofs.Inputs.{all_contains, or_either}
use Rattle.run_history.proofs.Keeps.{complete-not_waiting}
use Rattle.run_history.proofs.Ready.{filter-has, empty_list}
use Rattle.safe_walks.specs.Walk.{Standing, is_over, is_left, left_bytes, outputs_share}
use Rattle.safe_walks.specs.Walk.{rule_share, load, is_added, additions, is_claimed, standing}
use Rattle.safe_walks.specs.Walk.{with_claim, stays_within}
use Rattle.safe_walks.specs.Laws.{MayStartFirst}
use Rattle.safe_walks.specs.Safe.{collects, is_safe, admits_under, admits_by, safely_admitted}
use Rattle.safe_walks.proofs.Walks.{all_within, next_within, cond-le, sum-le}
use Rattle.safe_walks.proofs.Records.{adds_once}
use Rattle.safe_walks.proofs.Firsts.{AllComplete, First, first-of, order_inside, any_found}
use Rattle.safe_walks.proofs.Firsts.{first-ready, first-room, all_over_complete}

share_claimed : (c p e k : Bool) (m b : ℕ) → (e ≡ true → p ≡ true)
    → cond c 0 (cond p m (cond (e || k) b 0)) ≤ cond c 0 (cond p m (cond k b 0))
share_claimed true p e k m b passed = omega arith
share_claimed false true e k m b passed = omega arith
share_claimed false false true k m b passed = absurd (true≢false (sym (passed refl)))
share_claimed false false false k m b passed = omega arith

-- behind its place a claim counts for nothing
load_behind : (P : Plan) (S : Standing) (w : ℕ) (passed : List ℕ) → contains_number w passed ≡ true
    → load P (with_claim S w) passed ≤ load P S passed
load_behind P S w passed some =
    let rules : sum_by (rule_share P (with_claim S w) passed) (rule_numbers P)
    ≤ sum_by (rule_share P S passed) (rule_numbers P) =
    sum-le (rule_share P (with_claim S w) passed) (rule_share P S passed) (rule_numbers P)
    (λ r. share_claimed (S.complete r) (contains_number r passed) (w == r) (S.claimed r)
    (outputs_share P S passed r) (rule_bound P r)
    (λ same. ap (λ q. contains_number q passed) (sym (eqb-true w r same)) ∙ some)) in
    omega (arith, rules)

pub tail-claimed : (P : Plan) (S : Standing) (w limit : ℕ) (passed rs : List ℕ)
    → contains_number w passed ≡ true
    → all_within limit (additions P S passed rs) ≡ true
    → all_within limit (additions P (with_claim S w) passed rs) ≡ true
tail-claimed P S w limit passed [] some within = refl
tail-claimed P S w limit passed (r ∷ rs) some within =
    let le : load P (with_claim S w) passed ≤ load P S passed = load_behind P S w passed some in
    next_within (load P S passed + rule_bound P r) (load P (with_claim S w) passed + rule_bound P r)
    limit (additions P S (r ∷ passed) rs) (additions P (with_claim S w) (r ∷ passed) rs)
    (is_added S r) (is_added (with_claim S w) r) (omega (arith, le))
    (adds_once (S.complete r) (S.claimed r) (w == r))
    (tail-claimed P S w limit (r ∷ passed) rs (or_either (r == w) (contains_number w passed) some))
    within

complete_over : (H : List Record) (P : Plan) (rs : List ℕ) → list_all (is_complete H) rs ≡ true
    → list_all (is_over (standing P H) []) rs ≡ true
complete_over H P [] all = refl
complete_over H P (q ∷ rs) all =
    let parts = and_parts (is_complete H q) (list_all (is_complete H) rs) all in
    both (is_over (standing P H) [] q) (list_all (is_over (standing P H) []) rs)
    (ap (λ c. c || false) parts.0) (complete_over H P rs parts.1)

left_still : (k a b : Bool) → (b ≡ true → a ≡ true) → (k || not a) ≡ true → (k || not b) ≡ true
left_still true a b implies h = refl
left_still false a false implies h = refl
left_still false a true implies h = absurd (true≢false (sym (sym (ap not (implies refl)) ∙ h)))

share_still : (c p k : Bool) (m b : ℕ) → (p ≡ true → c ≡ true) → cond c 0 (cond k b 0)
    ≤ cond c 0 (cond p m (cond k b 0))
share_still true p k m b passed = omega arith
share_still false true k m b passed = absurd (true≢false (sym (passed refl)))
share_still false false k m b passed = omega arith

-- passing complete rules changes nothing
load_start : (P : Plan) (H : List Record) (passed : List ℕ) → AllComplete H passed
    → load P (standing P H) [] ≤ load P (standing P H) passed
load_start P H passed all =
    let S : Standing = standing P H in
    let files : sum_by (left_bytes P S []) (made_files P)
    ≤ sum_by (left_bytes P S passed) (made_files P) =
    sum-le (left_bytes P S []) (left_bytes P S passed) (made_files P)
    (λ f. cond-le (is_left P S [] f) (is_left P S passed f) (S.bytes f) (S.bytes f)
    (left_still (is_kept P f) (list_all (is_over S []) (takers_of P f))
    (list_all (is_over S passed) (takers_of P f))
    (λ over. complete_over H P (takers_of P f)
    (all_over_complete P H passed (takers_of P f) all over)))
    (omega arith)) in
    let rules : sum_by (rule_share P S []) (rule_numbers P)
    ≤ sum_by (rule_share P S passed) (rule_numbers P) =
    sum-le (rule_share P S []) (rule_share P S passed) (rule_numbers P)
    (λ r. share_still (is_complete H r) (contains_number r passed) (is_claimed H r)
    (outputs_share P S passed r) (rule_bound P r) (all r)) in
    omega (arith, files, rules)

pub share_more : (c p e k : Bool) (m b n : ℕ) → (e ≡ true → b ≡ n)
    → cond c 0 (cond p m (cond (e || k) b 0)) ≤ cond c 0 (cond p m (cond k b 0)) + cond e n 0
share_more true p e k m b n same = omega arith
share_more false true e k m b n same = omega arith
share_more false false true k m b n same = let is : b ≡ n = same refl in omega (arith, is)
share_more false false false k m b n same = omega arith

-- one claim more adds at most its bound
load_claimed : (P : Plan) (S : Standing) (w : ℕ) → load P (with_claim S w) []
    ≤ load P S [] + rule_bound P w
load_claimed P S w =
    let T : Standing = with_claim S w in
    let rules : total (rule_share P T []) (rule_numbers P)
    ≤ total (rule_share P S []) (rule_numbers P) + total (at_place (rule_bound P w) w)
    (rule_numbers P) =
    total-add (rule_share P T []) (rule_share P S []) (at_place (rule_bound P w) w) (rule_numbers P)
    (λ r. share_more (S.complete r) false (w == r) (S.claimed r) (outputs_share P S [] r)
    (rule_bound P r) (rule_bound P w) (λ same. ap (rule_bound P) (sym (eqb-true w r same)))) in
    omega (
      arith,
      rules,
      place-once (rule_bound P w) w 0 (length P.rules),
      total-is
          (rule_share P S []) (rule_numbers P),
      total-is (rule_share P T []) (rule_numbers P),
    )

-- the first rule is admitted
first-admitted : (P : Plan) (H : List Record) (limit : ℕ)
    (first : First P H limit [] (serial_order P)) (claimed : Bool) → is_claimed H first.number
    ≡ claimed
    → admits_under P H limit first.number ≡ true
first-admitted P H limit first true is =
    ap (λ k. (not (is_safe P H limit) || k)
    || stays_within P (with_claim (standing P H) first.number) limit) is
    ∙ known (not (is_safe P H limit))
    (stays_within P (with_claim (standing P H) first.number) limit)
  where
    known : (a b : Bool) → ((a || true) || b) ≡ true
    known true b = refl
    known false b = refl
first-admitted P H limit first false is =
    let S : Standing = standing P H in
    let w : ℕ = first.number in
    let added : load P S first.passed + rule_bound P w ≤ limit =
    leb-true (load P S first.passed + rule_bound P w) limit (first.room is) in
    let start : load P (with_claim S w) [] ≤ limit =
    omega (arith, added, load_start P H first.passed first.done_passed, load_claimed P S w) in
    let rest : all_within limit (additions P (with_claim S w) (w ∷ first.passed) first.rest)
    ≡ true =
    tail-claimed P S w limit (w ∷ first.passed) first.rest
    (ap (λ b. b || contains_number w first.passed) (eq-eqb w w refl)) first.later in
    or_either (not (is_safe P H limit) || is_claimed H w) (stays_within P (with_claim S w) limit)
    (both (nat_le (load P (with_claim S w) []) limit)
    (all_within limit (additions P (with_claim S w) [] (serial_order P)))
    (le-leb (load P (with_claim S w) []) limit start) (first.whole rest))

none_is : {A : Type 0} (o : Option A) → is_none o ≡ true → o ≡ None
none_is None is = refl
none_is (Some x) is = absurd (true≢false (sym is))

any_not : (p : ℕ → Bool) (xs : List ℕ) (r : ℕ) → list_any (λ q. not (p q)) xs ≡ false
    → contains_number r xs ≡ true → p r ≡ true
any_not p [] r none some = absurd (true≢false (sym some))
any_not p (x ∷ xs) r none some = by_tests (p x) (x == r) refl refl none some
    (λ rest later. any_not p xs r rest later)
  where
    by_tests : (a b : Bool) → p x ≡ a → (x == r) ≡ b → (not a || list_any (λ q. not (p q)) xs)
        ≡ false → (b || contains_number r xs) ≡ true
        → (list_any (λ q. not (p q)) xs ≡ false → contains_number r xs ≡ true → p r ≡ true) → p r
        ≡ true
    by_tests false b is same none some later = absurd (true≢false none)
    by_tests true true is same none some later = ap p (sym (eqb-true x r same)) ∙ is
    by_tests true false is same none some later = later none some

-- the first rule fits the storage: no file is free, or each ready rule fits
first-fits : (P : Plan) (H : List Record) (mode : Mode) (limit w : ℕ) (passed : List ℕ)
    → collects mode ≡ true → limit_of H ≡ Some limit → is_none (wanted P mode H) ≡ true
    → is_empty (running_rules P H) ≡ true → contains_number w (ready_rules P H) ≡ true
    → (least_free P H ≡ None → stored P H + rule_bound P w ≤ limit) → fits_storage P H w ≡ true
first-fits P H mode limit w passed collecting under unwanted idle ready room =
    by_mode mode collecting unwanted
  where
    idle_reserve : reserved P H ≡ 0
    idle_reserve = ap (sum_by (rule_bound P)) (empty_list (running_rules P H) idle)

    by_free : least_free P H ≡ None → fits_storage P H w ≡ true
    by_free none =
        ap (is_within (stored P H + reserved P H + rule_bound P w)) under
        ∙ le-leb (stored P H + reserved P H + rule_bound P w) limit
        (let less : stored P H + rule_bound P w ≤ limit =
        room none in omega (arith, less, idle_reserve))

    by_demand : (b : Bool) → list_any (λ r. not (fits_storage P H r)) (ready_rules P H) ≡ b
        → is_none (cond b (least_free P H) None) ≡ true → fits_storage P H w ≡ true
    by_demand true some none = by_free (none_is (least_free P H) none)
    by_demand false none unused = any_not (fits_storage P H) (ready_rules P H) w none ready

    by_mode : (mode : Mode) → collects mode ≡ true → is_none (wanted P mode H) ≡ true
        → fits_storage P H w ≡ true
    by_mode modes.Never collecting unwanted = absurd (true≢false (sym collecting))
    by_mode modes.RefCount collecting unwanted = by_free (none_is (least_free P H) unwanted)
    by_mode modes.OnDemand collecting unwanted =
        by_demand (list_any (λ r. not (fits_storage P H r)) (ready_rules P H)) refl unwanted

-- Where a safe run stands still and some rule isn't complete, a rule is ready, fits the storage and
-- is admitted.
pub record MayStart (P : Plan) (H : List Record) (limit : ℕ) : Type 0 where
  pub number : ℕ
  pub is_first : find (λ q. not (is_complete H q)) (serial_order P) ≡ Some number
  pub is_ready : is_ready P H number ≡ true
  pub ready : contains_number number (ready_rules P H) ≡ true
  pub fits : fits_storage P H number ≡ true
  pub admitted : admits_under P H limit number ≡ true

pub first-rule : (P : Plan) (digest : List ℕ) (H : List Record) (mode : Mode) (limit r : ℕ)
    → IsValid P → is_legal P digest H ≡ true → is_empty (part H) ≡ false
    → collects mode ≡ true → limit_of H ≡ Some limit → is_safe P H limit ≡ true
    → is_empty (running_rules P H) ≡ true → list_any (has_failed H) (rule_numbers P) ≡ false
    → is_none (wanted P mode H) ≡ true
    → r < length P.rules → is_complete H r ≡ false → MayStart P H limit
first-rule P digest H mode limit r valid legal begun collecting under safe idle sound unwanted
    inside undone =
    let S : Standing = standing P H in
    let parts =
    and_parts (nat_le (load P S []) limit)
    (all_within limit (additions P S [] (serial_order P))) safe in
    let took = order-run P (length P.rules) [] in
    let run : IsRun P [] (serial_order P) = subst (IsRun P []) (sym took.1) took.2 in
    let none : AllComplete H [] = λ q some. absurd (true≢false (sym some)) in
    let first : First P H limit [] (serial_order P) =
    first-of P H limit r [] [] (serial_order P) undone (every-rule-taken P r valid inside) none
    none run parts.1 in
    let w : ℕ = first.number in
    let within : w < length P.rules = order_inside P (length P.rules) []
    (λ q some. absurd (true≢false (sym some))) w first.listed in
    let ready : is_ready P H w ≡ true =
    first-ready P digest H w first.before valid legal begun idle sound within first.undone
    first.done_before first.supplied in
    let listed : contains_number w (ready_rules P H) ≡ true =
    filter-has (is_ready P H) 0 (length P.rules) w (omega arith) (omega (arith, within)) ready
    in
    record {
      number = w;
      is_first = first.is_first;
      is_ready = ready;
      ready = listed;
      fits = first-fits P H mode limit w first.passed collecting under unwanted idle listed
          (λ free. first-room P H limit w first.passed (is_claimed H w) refl free within
          first.undone first.done_passed parts.0 first.room);
      admitted = first-admitted P H limit first (is_claimed H w) refl;
    }

any_from : (p : ℕ → Bool) (xs : List ℕ) (w : ℕ) → contains_number w xs ≡ true → p w ≡ true
    → list_any p xs ≡ true
any_from p [] w some passes = absurd (true≢false (sym some))
any_from p (x ∷ xs) w some passes = by_same (x == w) refl some
    (λ later. any_from p xs w later passes)
  where
    by_same : (b : Bool) → (x == w) ≡ b → (b || contains_number w xs) ≡ true
        → (contains_number w xs ≡ true → list_any p xs ≡ true) → (p x || list_any p xs) ≡ true
    by_same true same some later = ap (λ c. c || list_any p xs) (ap p (eqb-true x w same) ∙ passes)
    by_same false other some later = or_either (p x) (list_any p xs) (later some)

pub some_fails : (p : ℕ → Bool) (a n m : ℕ) → a + n ≤ m → list_all p (range_with_len a n) ≡ false
    → (r : ℕ) × (nat_lt r m ≡ true) × (p r ≡ false)
some_fails p a zero m le all = absurd (true≢false all)
some_fails p a (suc n) m le all = by_test (p a) refl all
    (λ rest. some_fails p (a + 1) n m (omega (arith, le)) rest)
  where
    by_test : (b : Bool) → p a ≡ b → (b && list_all p (range_with_len (a + 1) n)) ≡ false
        → (list_all p (range_with_len (a + 1) n) ≡ false → (r : ℕ) × (nat_lt r m ≡ true)
        × (p r ≡ false))
        → (r : ℕ) × (nat_lt r m ≡ true) × (p r ≡ false)
    by_test true here all rest = rest all
    by_test false here all rest = (a, lt-ltb a m (omega (arith, le)), here)

pub admits_from : (P : Plan) (O : Options) (H : List Record) (limit r : ℕ) → limit_of H ≡ Some limit
    → admits_under P H limit r ≡ true → safely_admitted P O H r ≡ true
admits_from P O H limit r under admitted =
    or_either (not (collects O.mode)) (admits_by P H r (limit_of H)) (ap (admits_by P H r) under
    ∙ admitted)

-- In a safe run that stands still some rule may start.
pub safe-has_rule : (P : Plan) (digest : List ℕ) (O : Options) (H : List Record) (limit : ℕ)
    → IsValid P → is_legal P digest H ≡ true → is_empty (part H) ≡ false
    → collects O.mode ≡ true → limit_of H ≡ Some limit → is_safe P H limit ≡ true
    → is_empty (running_rules P H) ≡ true → list_any (has_failed H) (rule_numbers P) ≡ false
    → is_none (wanted P O.mode H) ≡ true
    → list_all (is_complete H) (rule_numbers P) ≡ false
    → list_any (λ r. safely_admitted P O H r && fits_storage P H r) (ready_rules P H) ≡ true
safe-has_rule P digest O H limit valid legal begun collecting under safe idle sound unwanted
    unfinished =
    let some = some_fails (is_complete H) 0 (length P.rules) (length P.rules) (omega arith)
    unfinished in
    let found : MayStart P H limit =
    first-rule P digest H O.mode limit some.0 valid legal begun collecting under safe idle sound
    unwanted (ltb-true some.0 (length P.rules) some.1) some.2 in
    any_from (λ r. safely_admitted P O H r && fits_storage P H r) (ready_rules P H) found.number
    found.ready
    (both (safely_admitted P O H found.number) (fits_storage P H found.number)
    (admits_from P O H limit found.number under found.admitted) found.fits)

-- where all that fit are admitted, one that fits is admitted
all_admitted : (admitted fits : ℕ → Bool) (xs : List ℕ) → ((r : ℕ) → admitted r ≡ true)
    → list_any fits xs ≡ true → list_any (λ r. admitted r && fits r) xs ≡ true
all_admitted admitted fits [] all some = some
all_admitted admitted fits (x ∷ xs) all some = by_test (fits x) refl some
    (λ rest. all_admitted admitted fits xs all rest)
  where
    by_test : (b : Bool) → fits x ≡ b → (b || list_any fits xs) ≡ true
        → (list_any fits xs ≡ true → list_any (λ r. admitted r && fits r) xs ≡ true)
        → ((admitted x && fits x) || list_any (λ r. admitted r && fits r) xs) ≡ true
    by_test true is some later =
        ap (λ b. b || list_any (λ r. admitted r && fits r) xs)
        (both (admitted x) (fits x) (all x) is)
    by_test false is some later =
        or_either (admitted x && fits x) (list_any (λ r. admitted r && fits r) xs) (later some)

contains_kept : (p : ℕ → Bool) (xs : List ℕ) (r : ℕ) → contains_number r (filter p xs) ≡ true
    → contains_number r xs ≡ true
contains_kept p [] r some = some
contains_kept p (x ∷ xs) r some = by_test (p x) some (λ later. contains_kept p xs r later)
  where
    by_first : (b : Bool) → (b || contains_number r (filter p xs)) ≡ true
        → (contains_number r (filter p xs) ≡ true → contains_number r xs ≡ true)
        → (b || contains_number r xs) ≡ true
    by_first true some later = refl
    by_first false some later = later some

    by_test : (b : Bool) → contains_number r (cond b (x ∷ filter p xs) (filter p xs)) ≡ true
        → (contains_number r (filter p xs) ≡ true → contains_number r xs ≡ true)
        → ((x == r) || contains_number r xs) ≡ true
    by_test true some later = by_first (x == r) some later
    by_test false some later = or_either (x == r) (contains_number r xs) (later some)

range_in : (a n r : ℕ) → contains_number r (range_with_len a n) ≡ true → r < a + n
range_in a zero r some = absurd (true≢false (sym some))
range_in a (suc n) r some = by_same (a == r) refl some
    (λ later. let less : r < (a + 1) + n = range_in (a + 1) n r later in less)
  where
    by_same : (b : Bool) → (a == r) ≡ b → (b || contains_number r (range_with_len (a + 1) n)) ≡ true
        → (contains_number r (range_with_len (a + 1) n) ≡ true → r < (a + 1) + n) → r < a + suc n
    by_same true same some later = let one : a ≡ r = eqb-true a r same in omega (arith, one)
    by_same false other some later = omega (arith, later some)

-- a list with some rule ready isn't all complete
ready_undone : (P : Plan) (H : List Record) (r : ℕ) → contains_number r (ready_rules P H) ≡ true
    → (r < length P.rules) × (is_complete H r ≡ false)
ready_undone P H r some =
    let ready : is_ready P H r ≡ true =
    all_contains (is_ready P H) (ready_rules P H) r (filter_all (is_ready P H) (rule_numbers P))
    some in
    let waits : is_waiting H r ≡ true =
    (and_parts (is_waiting H r) (list_all (is_present P H) (takes P r)) ready).0 in (
      (let less : r < 0 + length P.rules =
          range_in 0 (length P.rules) r (contains_kept (is_ready P H) (rule_numbers P) r some)
          in omega (arith, less)),
      false_from_ne_true (is_complete H r)
          (λ complete. true≢false (sym waits ∙ complete-not_waiting H r complete)),
    )

begun_by : (H : List Record) (limit : ℕ) (b : Bool) → is_empty (part H) ≡ b → limit_of H
    ≡ Some limit → b ≡ false
begun_by H limit false is some = refl
begun_by H limit true is some =
    absurd (wrong
    (sym (ap (λ xs. unwrap_or (last_said limit_in xs) None) (empty_records (part H) is)) ∙ some))
  where
    wrong : (let nothing : Option ℕ = None in nothing ≡ Some limit) → ⊥
    wrong h = cc

admits_unsafe : (P : Plan) (O : Options) (H : List Record) (limit r : ℕ) → limit_of H ≡ Some limit
    → is_safe P H limit ≡ false → safely_admitted P O H r ≡ true
admits_unsafe P O H limit r under unsafe =
    admits_from P O H limit r under
    (ap (λ b. (not b || is_claimed H r) || stays_within P (with_claim (standing P H) r) limit)
    unsafe)

-- The law of an admission holds of the safe one.
pub safe-admits_one : (P : Plan) (digest : List ℕ) (O : Options) (H : List Record) → IsValid P
    → is_legal P digest H ≡ true
    → is_empty (running_rules P H) ≡ true → list_any (has_failed H) (rule_numbers P) ≡ false
    → is_none (wanted P O.mode H) ≡ true
    → list_any (fits_storage P H) (ready_rules P H) ≡ true
    → list_any (λ r. safely_admitted P O H r && fits_storage P H r) (ready_rules P H) ≡ true
safe-admits_one P digest O H valid legal idle sound unwanted some = by_mode (collects O.mode) refl
  where
    by_safe : (limit : ℕ) → collects O.mode ≡ true → limit_of H ≡ Some limit → (b : Bool)
        → is_safe P H limit ≡ b
        → list_any (λ r. safely_admitted P O H r && fits_storage P H r) (ready_rules P H) ≡ true
    by_safe limit collecting under false unsafe =
        all_admitted (safely_admitted P O H) (fits_storage P H) (ready_rules P H)
        (λ r. admits_unsafe P O H limit r under unsafe) some
    by_safe limit collecting under true safe =
        let one = any_found (fits_storage P H) (ready_rules P H) some in
        let there = ready_undone P H one.0 one.1 in
        let found : MayStart P H limit =
        first-rule P digest H O.mode limit one.0 valid legal
        (begun_by H limit (is_empty (part H)) refl under) collecting under safe idle sound
        unwanted there.0 there.1 in
        any_from (λ r. safely_admitted P O H r && fits_storage P H r) (ready_rules P H) found.number
        found.ready
        (both (safely_admitted P O H found.number) (fits_storage P H found.number)
        (admits_from P O H limit found.number under found.admitted) found.fits)

    by_limit : (limit : Option ℕ) → limit_of H ≡ limit → collects O.mode ≡ true → list_any
        (λ r. safely_admitted P O H r && fits_storage P H r) (ready_rules P H) ≡ true
    by_limit None under collecting =
        all_admitted (safely_admitted P O H) (fits_storage P H) (ready_rules P H)
        (λ r. or_either (not (collects O.mode)) (admits_by P H r (limit_of H))
        (ap (admits_by P H r) under)) some
    by_limit (Some limit) under collecting = by_safe limit collecting under (is_safe P H limit) refl

    by_mode : (b : Bool) → collects O.mode ≡ b → list_any
        (λ r. safely_admitted P O H r && fits_storage P H r) (ready_rules P H) ≡ true
    by_mode false never =
        all_admitted (safely_admitted P O H) (fits_storage P H) (ready_rules P H)
        (λ r. ap (λ b. not b || admits_by P H r (limit_of H)) never) some
    by_mode true collecting = by_limit (limit_of H) refl collecting

-- what a search finds is listed
find_listed : (p : ℕ → Bool) (xs : List ℕ) (r : ℕ) → find p xs ≡ Some r
    → contains_number r xs ≡ true
find_listed p [] r found = absurd (wrong found)
  where
    wrong : (let nothing : Option ℕ = None in nothing ≡ Some r) → ⊥
    wrong h = cc
find_listed p (x ∷ xs) r found = by_test (p x) found (find_listed p xs r)
  where
    by_test : (b : Bool) → cond b (Some x) (find p xs) ≡ Some r
        → (find p xs ≡ Some r → contains_number r xs ≡ true)
        → ((x == r) || contains_number r xs) ≡ true
    by_test true is later = let same : x ≡ r = cc in
        ap (λ b. b || contains_number r xs) (eq-eqb x r same)
    by_test false is later = or_either (x == r) (contains_number r xs) (later is)

-- The first rule of the serial order that isn't complete may start, where a safe run stands still.
pub first-may_start : (P : Plan) (digest : List ℕ) (O : Options) (H : List Record) (limit r : ℕ)
    → IsValid P → is_legal P digest H ≡ true → is_empty (part H) ≡ false
    → collects O.mode ≡ true → limit_of H ≡ Some limit → is_safe P H limit ≡ true
    → is_empty (running_rules P H) ≡ true → list_any (has_failed H) (rule_numbers P) ≡ false
    → is_none (wanted P O.mode H) ≡ true
    → find (λ q. not (is_complete H q)) (serial_order P) ≡ Some r
    → MayStartFirst P O H r
first-may_start P digest O H limit r valid legal begun collecting under safe idle sound unwanted
    is =
    let listed : contains_number r (serial_order P) ≡ true =
    find_listed (λ q. not (is_complete H q)) (serial_order P) r is in
    let inside : r < length P.rules =
    order_inside P (length P.rules) [] (λ q some. absurd (true≢false (sym some))) r listed in
    let undone : is_complete H r ≡ false = not_true (is_complete H r)
    (find-passes (λ q. not (is_complete H q)) (serial_order P) r is) in
    let found : MayStart P H limit = first-rule P digest H O.mode limit r valid legal begun
    collecting under safe idle sound unwanted inside undone in
    let same : found.number ≡ r = some_is found.number r (sym found.is_first ∙ is) in
    record {
      ready = ap (is_ready P H) (sym same) ∙ found.is_ready;
      fits = ap (fits_storage P H) (sym same) ∙ found.fits;
      admitted = ap (safely_admitted P O H) (sym same)
          ∙ admits_from P O H limit found.number under found.admitted;
    }
  where
    some_is : (a b : ℕ) → (let first : Option ℕ = Some a in first ≡ Some b) → a ≡ b
    some_is a b h = cc
