-- A rule that a claim may take can be taken in.
use Rattle.std.proofs.Common.{◌≡◌, ◌<◌, ℕ, arith, length, Bool, true, false, cond, not, ◌&&◌, ◌||◌, ◌==◌, List, [], ◌∷◌, Option, Some, None, Result, Ok, Err, refl, ap, sym, subst, ◌∙◌, true≢false}
use Rattle.std.specs.Prelude.{filter, find, is_some, nat_lt, unwrap_or}
use Rattle.std.specs.Option.{option_map_or}
use Rattle.std.proofs.lemmas.Bool.{and_parts, eq-eqb, eqb-true, le-leb, lt-ltb, ltb-false, ltb-true}
use Rattle.flow_types.specs.declared.numbers.AttemptNo.{AttemptNo}
use Rattle.flow_types.specs.declared.numbers.LinkNo.{LinkNo}
use Rattle.flow_types.specs.declared.numbers.RuleNo.{RuleNo}
use Rattle.flow_types.specs.declared.records.Record.TheVariants as records
use Rattle.flow_types.specs.Plans.{is_empty, most_input_bytes, numbers}
use Rattle.run_history.specs.declared.moves.Move.{Move}
use Rattle.run_history.specs.declared.answers.Nothing.{Nothing}
use Rattle.run_history.specs.declared.answers.Nothing.TheVariants as nothing
use Rattle.run_history.specs.declared.answers.Stop.{Stop}
use Rattle.run_history.specs.Admissions.{is_among, is_claimable, takes_one}
use Rattle.run_history.specs.Answers.{file_no, first_of, of_least, rule_no, startable_on, where_none, where_so}
use Rattle.task_core.specs.declared.asking.AskedFor.TheVariants as asked_for
use Rattle.task_core.specs.Admissions.{IsStartAllowed, Takes}
use Rattle.task_core.specs.Allowed.{has_small_inputs, may_start}
use Rattle.task_core.specs.Asked.{asks_for}
use Rattle.task_core.specs.Known.{Known, can_start, claim_in, claim_with, fits_link, fitting_for, has_storage, input_sum, is_over, leaves_places, passes_most, ready_for, short_of_storage, startable_for, wants}
use Rattle.task_core.specs.Stands.{IsStill, Stands, after_start, logged}
use Rattle.task_core.specs.States.{TableState, known_in}
use Rattle.task_core.proofs.Agreeing.{allows-same}
use Rattle.task_core.proofs.Allowing.{any-both}
use Rattle.task_core.proofs.Closing.{started-stands}
use Rattle.task_core.proofs.Looking.{find-least}
use Rattle.task_core.proofs.Permits.{may-start, startables}
use Rattle.task_core.proofs.Same.{claim-same}
use Rattle.task_core.proofs.Standing.{knows}

-- what is among those that pass is in the range, and passes
among-numbers : (p : ℕ → Bool) (n r : ℕ) → is_among (filter p (numbers n)) r ≡ true → (r < n) × (p r ≡ true)
among-numbers p n r is = by_found (find (λ x. p x && (x == r)) (numbers n)) refl (any-both p (λ x. x == r) (numbers n) ∙ is)
  where
    by_found : (found : Option ℕ) → find (λ x. p x && (x == r)) (numbers n) ≡ found → is_some (find (λ x. p x && (x == r)) (numbers n)) ≡ true → (r < n) × (p r ≡ true)
    by_found None none some = absurd (true≢false (sym some ∙ ap is_some none))
    by_found (Some x) found some =
        let least = find-least (λ y. p y && (y == r)) 0 n x found in
        let parts = and_parts (p x) (x == r) least.passes in
        let same : x ≡ r = eqb-true x r parts.1 in
        (omega (arith, least.to, same), subst (λ y. p y ≡ true) same parts.0)

or_true : (a b : Bool) → b ≡ true → (a || b) ≡ true
or_true true b is = refl
or_true false b is = is

-- what is among those that pass is among all
among-all : (p : ℕ → Bool) (xs : List ℕ) (r : ℕ) → is_among (filter p xs) r ≡ true → is_among xs r ≡ true
among-all p [] r is = is
among-all p (x ∷ xs) r is = by_test (p x) is (among-all p xs r)
  where
    by_first : (b : Bool) → (b || is_among (filter p xs) r) ≡ true → (is_among (filter p xs) r ≡ true → is_among xs r ≡ true) → (b || is_among xs r) ≡ true
    by_first true here rest = refl
    by_first false here rest = rest here

    by_test : (b : Bool) → is_among (cond b (x ∷ filter p xs) (filter p xs)) r ≡ true → (is_among (filter p xs) r ≡ true → is_among xs r ≡ true) → ((x == r) || is_among xs r) ≡ true
    by_test true here rest = by_first (x == r) here rest
    by_test false here rest = or_true (x == r) (is_among xs r) (rest here)

-- where none passes, none that is among them does
none-among : (p : ℕ → Bool) (xs : List ℕ) (r : ℕ) → filter p xs ≡ [] → is_among xs r ≡ true → p r ≡ false
none-among p [] r none is = absurd (true≢false (sym is))
none-among p (x ∷ xs) r none is = by_test (p x) refl none (none-among p xs r)
  where
    by_first : (b : Bool) → (x == r) ≡ b → p x ≡ false → (b || is_among xs r) ≡ true → (is_among xs r ≡ true → p r ≡ false) → p r ≡ false
    by_first true here fails some rest = subst (λ y. p y ≡ false) (eqb-true x r here) fails
    by_first false other fails some rest = rest some

    by_test : (b : Bool) → p x ≡ b → cond b (x ∷ filter p xs) (filter p xs) ≡ [] → (filter p xs ≡ [] → is_among xs r ≡ true → p r ≡ false) → p r ≡ false
    by_test true passes here rest = absurd cc
    by_test false fails here rest = by_first (x == r) refl fails is (rest here)

-- a claim that answers a rule finds nothing in its way
record IsUnrefused (over places : Bool) (large : List ℕ) : Type 0 where
  goes_on : over ≡ false
  has_places : places ≡ true
  none_large : large ≡ []

unrefused : (over : Bool) (collect : Option Nothing) (places empty : Bool) (large : List ℕ) (said : ℕ → Nothing) (rest : List (Option Nothing)) (answer : Result ℕ Nothing)
    → takes_one (option_map_or Err (first_of (where_so over nothing.Stopping ∷ collect ∷ where_so (not places) nothing.LogPlaces ∷ where_so empty nothing.NoneReady ∷ of_least large said ∷ rest)) answer) ≡ true
    → IsUnrefused over places large
unrefused true collect places empty large said rest answer takes = absurd (true≢false (sym takes))
unrefused false (Some why) places empty large said rest answer takes = absurd (true≢false (sym takes))
unrefused false None false empty large said rest answer takes = absurd (true≢false (sym takes))
unrefused false None true true large said rest answer takes = absurd (true≢false (sym takes))
unrefused false None true false (r ∷ rs) said rest answer takes = absurd (true≢false (sym takes))
unrefused false None true false [] said rest answer takes = record { goes_on = refl; has_places = refl; none_large = refl }

neither : (a b : Bool) → (a || b) ≡ false → b ≡ false
neither true b is = absurd (true≢false is)
neither false b is = is

both : (a b : Bool) → a ≡ true → b ≡ true → (a && b) ≡ true
both true b first second = second
both false b first second = absurd (true≢false (sym first))

-- by what a table knows
claimable_known : (t : TableState) (M : List Move) (k r : ℕ) → Stands t M → is_claimable t.plan t.options M t.stop k r ≡ true → (takes_one (claim_in (known_in t) t.stop k) && is_among (startable_for (known_in t) k) r) ≡ true
claimable_known t M k r stands is =
    ap (λ (K : Known). takes_one (claim_in K t.stop k) && is_among (startable_for K k) r) (knows t M stands)
    ∙ ap (λ c. takes_one c && is_among (startable_on t.plan t.options M k) r) (claim-same t.plan t.options M t.stop k) ∙ is

small_inputs : (K : Known) (k r : ℕ) → filter (passes_most K) (ready_for K k) ≡ [] → is_among (startable_for K k) r ≡ true → has_small_inputs K r ≡ true
small_inputs K k r none is =
    let ready : is_among (ready_for K k) r ≡ true = among-all (fits_link K k) (ready_for K k) r (among-all (has_storage K) (fitting_for K k) r is) in
    le-leb (input_sum K r) most_input_bytes (ltb-false most_input_bytes (input_sum K r) (none-among (passes_most K) (ready_for K k) r none ready))

unrefused_in : (K : Known) (file : Option ℕ) (stop : Option Stop) (k : ℕ) → takes_one (claim_with K file stop k) ≡ true → IsUnrefused (is_some stop || is_over K) (leaves_places K 2) (filter (passes_most K) (ready_for K k))
unrefused_in K file stop k takes =
    unrefused (is_some stop || is_over K) (option_map_or (λ f. Some (nothing.CollectFirst (file_no f))) file None) (leaves_places K 2) (is_empty (ready_for K k)) (filter (passes_most K) (ready_for K k))
    (λ q. nothing.InputsTooLarge (rule_no q) (input_sum K q))
    (where_none (fitting_for K k) (ready_for K k) (λ q. nothing.NoFit (rule_no q)) ∷ where_none (startable_for K k) (fitting_for K k) (short_of_storage K) ∷ [])
    (unwrap_or (of_least (startable_for K k) Ok) (Err nothing.NoneReady)) takes

-- A rule that a claim may take may start.
pub claimable-may : (t : TableState) (M : List Move) (k r : ℕ) → Stands t M → t.begun ≡ true → is_claimable t.plan t.options M t.stop k r ≡ true → may_start (known_in t) r t.starts ≡ true
claimable-may t M k r stands begun is =
    let K : Known = known_in t in
    let parts = and_parts (takes_one (claim_in K t.stop k)) (is_among (startable_for K k) r) (claimable_known t M k r stands is) in
    let free = unrefused_in K (wants K) t.stop k parts.0 in
    let startable = among-numbers (asks_for K k asked_for.Startable) (length t.plan.rules) r (ap (λ (xs : List ℕ). is_among xs r) (sym (startables K k)) ∙ parts.1) in
    let starts = may-start K k r startable.1 in
    both t.begun _ begun
    (both (not (is_over K)) _ (ap not (neither (is_some t.stop) (is_over K) free.goes_on))
    (both (nat_lt r (length t.plan.rules)) _ (lt-ltb r (length t.plan.rules) startable.0)
    (both (can_start K r) _ starts.0
    (both (has_small_inputs K r) _ (small_inputs K k r free.none_large parts.1)
    (both (t.starts == t.starts) _ (eq-eqb t.starts t.starts refl)
    (both (has_storage K r) (leaves_places K 2) starts.1 free.has_places))))))

-- what is known of a rule that may start
pub record IsOpenTo (t : TableState) (r : ℕ) : Type 0 where
  pub begun : t.begun ≡ true
  pub ended : t.ended ≡ false
  pub places : leaves_places (known_in t) 2 ≡ true
  pub inside : r < length t.plan.rules
  pub starts : can_start (known_in t) r ≡ true
  pub room : has_storage (known_in t) r ≡ true

not_true : (b : Bool) → not b ≡ true → b ≡ false
not_true false is = refl
not_true true is = absurd (true≢false (sym is))

first_false : (a b : Bool) → (a || b) ≡ false → a ≡ false
first_false true b is = is
first_false false b is = refl

pub may-open : (t : TableState) (r a : ℕ) → may_start (known_in t) r a ≡ true → IsOpenTo t r
may-open t r a is =
    let K : Known = known_in t in
    let begun = and_parts t.begun _ is in
    let over = and_parts (not (is_over K)) _ begun.1 in
    let inside = and_parts (nat_lt r (length t.plan.rules)) _ over.1 in
    let starts = and_parts (can_start K r) _ inside.1 in
    let small = and_parts (has_small_inputs K r) _ starts.1 in
    let number = and_parts (a == t.starts) _ small.1 in
    let room = and_parts (has_storage K r) (leaves_places K 2) number.1 in
    record {
      begun = begun.0;
      ended = first_false t.ended _ (not_true (is_over K) over.0);
      places = room.1;
      inside = ltb-true r (length t.plan.rules) inside.0;
      starts = starts.0;
      room = room.0;
    }

abbrev attempt_no : ℕ → AttemptNo
attempt_no n = record { 0 = n }

-- a table behind a start that it took in
pub take-stands : (t after : TableState) (M : List Move) (rule : RuleNo) (link : LinkNo) (given : AttemptNo) → given.0 ≡ t.starts → after ≡ after_start t rule.0 given link → rule.0 < length t.rules → t.begun ≡ true → Stands t M → Takes t M rule link true after
take-stands t after M rule link given number is inside begun stands = (
  λ moment attempt next.
      let same : given ≡ attempt = ap attempt_no (number ∙ stands.starts ∙ sym next) in
      subst (λ (v : TableState). Stands v (logged M (records.Started moment rule attempt link))) (ap (λ a. after_start t rule.0 a link) (sym same) ∙ sym is)
      (started-stands t M rule attempt link moment inside begun stands),
  subst (IsStill t) (sym is) (refl, refl, refl),
)

-- whether the records allow it
pub start-allowed : (t : TableState) (M : List Move) (rule : RuleNo) (link : LinkNo) (given : AttemptNo) (allowed : Bool) → given.0 ≡ t.starts → may_start (known_in t) rule.0 given.0 ≡ allowed → Stands t M → IsStartAllowed t.plan M rule link allowed
start-allowed t M rule link given allowed number is stands digest moment attempt next =
    sym (allows-same t M digest (records.Started moment rule attempt link) stands) ∙ ap (may_start (known_in t) rule.0) (next ∙ sym stands.starts ∙ sym number) ∙ is
