-- What a wait in vain shows of each link.
use Rattle.std.proofs.Common.{◌≡◌, ◌≢◌, ◌≤◌, ◌<◌, ◌+◌, inl, inr, ◌∙◌, ℕ, zero, suc, Bool, true, false, cond, not, ◌&&◌, List, [], ◌∷◌, ◌++◌, map, Option, Some, None, Result, Ok, Err, length, length-append, refl, sym, ap, subst, arith, append_assoc, true≢false}
use Rattle.std.specs.Prelude.{◌==◌, ◌||◌, IfOk, count_by, filter, find, if◌then◌else◌, is_none, is_some, nat_le, nat_lt, unwrap_or}
use Rattle.std.specs.List.{AllByRecursion, list_all, list_any, range_with_len}
use Rattle.std.specs.Option.{option_and_then, option_map_or}
use Rattle.std.proofs.lemmas.Bool.{and_parts, eqb-false, eqb-true, leb-false, leb-true, or_left, or_right}
use Rattle.std.proofs.lemmas.List.{append-nil}
use Rattle.std.proofs.lemmas.List.Elements.{All-from_recursion}
use Rattle.std.proofs.lemmas.List.Sums.{count_by-le-length, sum_by-append, sum_by-cons}
use Rattle.flow_types.specs.declared.plan.Plan.{Plan}
use Rattle.flow_types.specs.declared.numbers.LinkNo.{LinkNo}
use Rattle.flow_types.specs.declared.numbers.Needs.{Needs}
use Rattle.flow_types.specs.declared.numbers.Needs.TheVariants as needs
use Rattle.flow_types.specs.declared.job.Failure.{Failure}
use Rattle.flow_types.specs.declared.job.Job.{Job}
use Rattle.flow_types.specs.declared.records.Record.{Record}
use Rattle.flow_types.specs.Plans.{is_empty, numbers, rule_numbers}
use Rattle.flow_types.specs.Serial.{Function}
use Rattle.run_history.specs.declared.answers.Check.{Check}
use Rattle.run_history.specs.declared.answers.Check.TheVariants as checks
use Rattle.run_history.specs.declared.answers.Stop.{Stop}
use Rattle.run_history.specs.declared.answers.Stop.TheVariants as stops
use Rattle.run_history.specs.declared.moves.Move.{Move}
use Rattle.run_history.specs.declared.options.Options.{Options}
use Rattle.run_history.specs.Admissions.{Admitting, is_in_vain_by, may_be_stored}
use Rattle.run_history.specs.Answers.{collected_count, end_over, failed_answer, has_link, idles_in, is_halt, last_why, log_full, no_room, of_least, or_else, passes_inputs, rule_no, where_none, where_so}
use Rattle.run_history.specs.Legal.{has_places}
use Rattle.run_history.specs.Links.{Load, LinkRow, amounts_on, fits, has_room, is_at_most, is_live, is_local_rule, leaves_amounts, leaves_bytes, link_row, load_of, loads_on, local_row, may_run_on, most_tasks, records_of, runs_on, taken_on, with_amounts}
use Rattle.run_history.specs.Moves.{is_join, joins_and_changes, most_links, next_link}
use Rattle.run_history.specs.Storage.{fits_storage, has_failed, input_bytes, is_complete, ready_rules, running_rules, wanted}
use Rattle.links.specs.declared.passing.Passed.{Passed}
use Rattle.links.specs.Ill as ill
use Rattle.links.specs.Ill.{Account, IsIll}
use Rattle.links.specs.Passings.{received_in}
use Rattle.peers.specs.Serves.{WasHonest}
use Rattle.task_core.proofs.Collecting.{any-filter}
use Rattle.local_run.specs.Links.{link_moves}
use Rattle.local_run.proofs.EndKinds.{Says, least_says, so_says}
use Rattle.local_run.proofs.Going.{links_grown}
use Rattle.wq_run.specs.Dues.{IsFull, IsIllLink}
use Rattle.wq_run.specs.Earned.{AreEarned, HasEarned, IsOffered, OffersAsStated, numbered_in, stated_by}
use Rattle.wq_run.specs.Losses.{account_of, accounts_of}
use Rattle.wq_run.specs.Seats.{AreSeats, SeatState}
use Rattle.wq_run.specs.Vain.{AreVain, HandsBack, IfWaited, IsVainLink, TakesNone, fits_empty}
use Rattle.wq_run.proofs.Earned.{joins_same, offered_later, stated_same}
use Rattle.wq_run.proofs.Hands.{hands_so}

-- ---- of what an end answers

-- if the answer is a wait, this was the stop
abbrev pub Because : Option Stop → Check → Type 0
Because stop (checks.Waited wait) = stop ≡ Some (stops.Waited wait.idles)
Because stop ended = Unit {0}

else_says : (Q : Check → Type 0) (first rest : Option Check) → Says Q first → Says Q rest → Says Q (or_else first rest)
else_says Q None rest here later = later
else_says Q (Some ended) rest here later = here

at_last : (Q : Check → Type 0) (o : Option Check) → Q checks.Going → Says Q o → Q (unwrap_or o checks.Going)
at_last Q None going said = going
at_last Q (Some ended) going said = said

failed_says : (Q : Check → Type 0) (H : List Record) (o : Option ℕ) → ((r : ℕ) (why : Failure) → Q (checks.CommandFailed (rule_no r) why)) → Says Q (option_and_then (failed_answer H) o)
failed_says Q H None each = tt
failed_says Q H (Some r) each = by_why (last_why H r)
  where
    by_why : (w : Option Failure) → Says Q (option_map_or (λ why. Some (checks.CommandFailed (rule_no r) why)) w None)
    by_why None = tt
    by_why (Some why) = each r why

none_says : (Q : Check → Type 0) (others xs : List ℕ) (said : ℕ → Check) → ((r : ℕ) → Q (said r)) → Says Q (where_none others xs said)
none_says Q [] xs said each = least_says Q xs said each
none_says Q (y ∷ ys) xs said each = tt

wait_says : (stop : Option Stop) (roomy : List ℕ) → Says (Because stop) (option_and_then (λ idles. of_least roomy (λ r. checks.Waited (record { idles = idles; rule = rule_no r }))) (option_and_then idles_in stop))
wait_says None roomy = tt
wait_says (Some stops.Halt) roomy = tt
wait_says (Some (stops.Waited idles)) roomy = least_says (Because (Some (stops.Waited idles))) roomy (λ r. checks.Waited (record { idles = idles; rule = rule_no r })) (λ r. refl)

-- An end answers a wait only by a stop for it.
pub waits_by : (P : Plan) (O : Options) (H : List Record) (stop : Option Stop) → Because stop (end_over P O H stop)
waits_by P O H stop =
    let Q : Check → Type 0 = Because stop in
    let ready : List ℕ = ready_rules P H in
    let roomy : List ℕ = filter (fits_storage P H) ready in
    let wants : Bool = is_some (wanted P O.mode H) in
    at_last Q _ tt
    (else_says Q (where_so (not (is_empty (running_rules P H))) checks.Going) _ (so_says Q (not (is_empty (running_rules P H))) checks.Going (λ is. tt))
    (else_says Q (where_so (option_map_or is_halt stop false) checks.Halted) _ (so_says Q (option_map_or is_halt stop false) checks.Halted (λ is. tt))
    (else_says Q (option_and_then (failed_answer H) (find (has_failed H) (rule_numbers P))) _ (failed_says Q H (find (has_failed H) (rule_numbers P)) (λ r why. tt))
    (else_says Q (where_so (wants && not (has_places P H 1)) (log_full H)) _ (so_says Q (wants && not (has_places P H 1)) (log_full H) (λ is. tt))
    (else_says Q (where_so wants checks.Going) _ (so_says Q wants checks.Going (λ is. tt))
    (else_says Q (where_so (list_all (is_complete H) (rule_numbers P)) (checks.Complete (collected_count P H))) _ (so_says Q (list_all (is_complete H) (rule_numbers P)) (checks.Complete (collected_count P H)) (λ is. tt))
    (else_says Q (option_and_then (λ idles. of_least roomy (λ r. checks.Waited (record { idles = idles; rule = rule_no r }))) (option_and_then idles_in stop)) _ (wait_says stop roomy)
    (else_says Q (of_least (filter (passes_inputs P H) ready) (λ r. checks.InputsTooLarge (rule_no r) (input_bytes P H r))) _ (least_says Q (filter (passes_inputs P H) ready) (λ r. checks.InputsTooLarge (rule_no r) (input_bytes P H r)) (λ r. tt))
    (else_says Q (where_so (not (has_places P H 2)) (log_full H)) _ (so_says Q (not (has_places P H 2)) (log_full H) (λ is. tt))
    (else_says Q (where_none roomy ready (no_room P H)) None (none_says Q roomy ready (no_room P H) (λ r. tt)) tt))))))))))

-- an end that answers by no stop answers no wait
pub unwaited : (P : Plan) (O : Options) (H : List Record) (stop : Option Stop) (check : Check) → stop ≡ None → check ≡ end_over P O H stop → IfWaited check ⊥
unwaited P O H stop (checks.Waited wait) none is = true≢false (sym (ap is_none none) ∙ ap is_none (subst (Because stop) (sym is) (waits_by P O H stop)))
unwaited P O H stop (checks.Complete collected) none is = tt
unwaited P O H stop (checks.CommandFailed rule why) none is = tt
unwaited P O H stop (checks.InputsTooLarge rule total) none is = tt
unwaited P O H stop (checks.LogFull count) none is = tt
unwaited P O H stop (checks.NoRoom rule need bytes limit) none is = tt
unwaited P O H stop checks.Going none is = tt
unwaited P O H stop checks.Halted none is = tt

pub never_waits : (check : Check) (so : Type 0) → IfWaited check ⊥ → IfWaited check so
never_waits (checks.Waited wait) so never = absurd never
never_waits (checks.Complete collected) so never = tt
never_waits (checks.CommandFailed rule why) so never = tt
never_waits (checks.InputsTooLarge rule total) so never = tt
never_waits (checks.LogFull count) so never = tt
never_waits (checks.NoRoom rule need bytes limit) so never = tt
never_waits checks.Going so never = tt
never_waits checks.Halted so never = tt

if_waits : (check : Check) (so : Type 0) → so → IfWaited check so
if_waits (checks.Waited wait) so is = is
if_waits (checks.Complete collected) so is = tt
if_waits (checks.CommandFailed rule why) so is = tt
if_waits (checks.InputsTooLarge rule total) so is = tt
if_waits (checks.LogFull count) so is = tt
if_waits (checks.NoRoom rule need bytes limit) so is = tt
if_waits checks.Going so is = tt
if_waits checks.Halted so is = tt

pub ok_waits : {E : Type 0} (r : Result Check E) (so : Type 0) → so → IfOk r (λ check. IfWaited check so)
ok_waits (Ok check) so is = if_waits check so is
ok_waits (Err why) so is = tt

-- ---- what links take

other_number : (k : ℕ) → 0 < k → (k == 0) ≡ false
other_number k beyond = by_test (k == 0) refl
  where
    by_test : (b : Bool) → (k == 0) ≡ b → b ≡ false
    by_test true is = let zero_is = eqb-true k 0 is in let wrong : ⊥ = omega (arith, beyond, zero_is) in absurd wrong
    by_test false is = refl

next_more : (a k : ℕ) → a ≤ k → a ≢ k → a + 1 ≤ k
next_more a k low other = by_less (nat_le k a) refl
  where
    by_less : (b : Bool) → nat_le k a ≡ b → a + 1 ≤ k
    by_less true less = absurd (other (let down = leb-true k a less in omega (arith, down, low)))
    by_less false more = let up = leb-false k a more in omega (arith, up)

any_step : (p : ℕ → Bool) (n a k : ℕ) → (a + 1 ≤ k → k < a + 1 + n → list_any p (range_with_len (a + 1) n) ≡ true) → a ≤ k → k < a + suc n → p k ≡ true → (test : Bool) → (a == k) ≡ test → list_any p (range_with_len a (suc n)) ≡ true
any_step p n a k rest low high is true same = or_left (p a) (list_any p (range_with_len (a + 1) n)) (ap p (eqb-true a k same) ∙ is)
any_step p n a k rest low high is false apart = or_right (p a) (list_any p (range_with_len (a + 1) n)) (rest (next_more a k low (eqb-false a k apart)) (omega (arith, high)))

pub any_range : (p : ℕ → Bool) (n a k : ℕ) → a ≤ k → k < a + n → p k ≡ true → list_any p (range_with_len a n) ≡ true
any_range p zero a k low high is = let wrong : ⊥ = omega (arith, low, high) in absurd wrong
any_range p (suc n) a k low high is = any_step p n a k (λ up within. any_range p n (a + 1) k up within is) low high is (a == k) refl

all_weaker : (p q : ℕ → Bool) → ((r : ℕ) → p r ≡ true → q r ≡ true) → (xs : List ℕ) → list_all p xs ≡ true → list_all q xs ≡ true
all_weaker p q step [] all = refl
all_weaker p q step (x ∷ xs) all =
    let parts = and_parts (p x) (list_all p xs) all in
    ap (λ (b : Bool). b && list_all q xs) (step x parts.0) ∙ all_weaker p q step xs parts.1

-- the whole of a link is left where nothing runs there
whole_left : (j : ℕ) (row : LinkRow) → (j == 0) ≡ false → leaves_amounts j row [] needs.Whole ≡ true
whole_left j row away =
    ap (λ (b : Bool). if not b then true else (is_at_most (amounts_on j row.total needs.Whole) row.largest && is_at_most (with_amounts (taken_on j row.total []) (amounts_on j row.total needs.Whole)) row.total)) away

leaves_same : (j k : ℕ) (row : LinkRow) → (j == 0) ≡ false → (k == 0) ≡ false → (n : Needs) → leaves_amounts j row [] n ≡ leaves_amounts k row [] n
leaves_same j k row away beyond needs.Whole = whole_left j row away ∙ sym (whole_left k row beyond)
leaves_same j k row away beyond (needs.Stated amounts) = refl

-- with nothing running there, one link has room for what another of the same offer has
room_same : (j k : ℕ) (row : LinkRow) (load : Load) → (j == 0) ≡ false → (k == 0) ≡ false → has_room j row [] load ≡ has_room k row [] load
room_same j k row load away beyond =
    let none : List Load = [] in
    ap (λ (b : Bool). nat_lt (length none) most_tasks && b && leaves_bytes row.cache none load.bytes) (leaves_same j k row away beyond load.needs)

filter_empty : (p : ℕ → Bool) (xs : List ℕ) → xs ≡ [] → filter p xs ≡ []
filter_empty p xs none = ap (filter p) none

empty_is : (xs : List ℕ) → is_empty xs ≡ true → xs ≡ []
empty_is [] none = refl
empty_is (x ∷ xs) none = absurd (true≢false (sym none))

-- Where waiting is in vain, no admitted ready rule that fits the storage fits what a live link states.
pub takes_none : (A : Admitting) (P : Plan) (O : Options) (M : List Move) (k : ℕ) (row : LinkRow) → is_in_vain_by A P O M ≡ true → 0 < k → k < next_link M → stated_by k M ≡ Some row → TakesNone A P O (records_of M) row
takes_none A P O M k row vain beyond joined stated j away =
    let H : List Record = records_of M in
    let some : Bool = list_any (may_be_stored A P O H) (ready_rules P H) in
    let every : Bool = list_all (λ r. not (may_be_stored A P O H r) || not (has_link P O M r)) (ready_rules P H) in
    let idle : Bool = is_empty (running_rules P H) && is_none (wanted P O.mode H) in
    let parts = and_parts (idle && some) every vain in
    let idle_parts = and_parts (is_empty (running_rules P H)) (is_none (wanted P O.mode H)) (and_parts idle some parts.0).0 in
    all_weaker (λ r. not (may_be_stored A P O H r) || not (has_link P O M r)) (λ r. not (may_be_stored A P O H r) || not (fits_empty P O H j row r)) (λ r is. step r (empty_is (running_rules P H) idle_parts.0) (may_be_stored A P O H r) (has_link P O M r) (fits_empty P O H j row r) refl refl is) (ready_rules P H) parts.1
  where
    here : (k == 0) ≡ false
    here = other_number k beyond

    there : (j == 0) ≡ false
    there = other_number j away

    row_is : link_row O M k ≡ Some row
    row_is = ap (λ (b : Bool). if b then Some (local_row O) else stated_by k M) here ∙ stated

    live : is_live O M k ≡ true
    live = ap is_some row_is

    fits_is : (r : ℕ) → running_rules P (records_of M) ≡ [] → fits P O M r k ≡ has_room k row [] (load_of P (records_of M) r)
    fits_is r none =
        ap (λ (o : Option LinkRow). option_map_or (λ (x : LinkRow). has_room k x (loads_on P (records_of M) k) (load_of P (records_of M) r)) o false) row_is
        ∙ ap (λ (xs : List ℕ). has_room k row (map (load_of P (records_of M)) xs) (load_of P (records_of M) r)) (filter_empty (runs_on (records_of M) k) (running_rules P (records_of M)) none)

    may_is : (r : ℕ) → may_run_on P O r j ≡ may_run_on P O r k
    may_is r = ap (λ (b : Bool). if b then (is_local_rule P r || not O.wq) else (not (is_local_rule P r) && O.wq)) (there ∙ sym here)

    linked : (r : ℕ) → running_rules P (records_of M) ≡ [] → fits_empty P O (records_of M) j row r ≡ true → has_link P O M r ≡ true
    linked r none is =
        let p : ℕ → Bool = λ x. may_run_on P O r x && fits P O M r x in
        let both = and_parts (may_run_on P O r j) (has_room j row [] (load_of P (records_of M) r)) is in
        let room : fits P O M r k ≡ true = fits_is r none ∙ sym (room_same j k row (load_of P (records_of M) r) there here) ∙ both.1 in
        let fit : p k ≡ true = ap (λ (b : Bool). b && fits P O M r k) (sym (may_is r) ∙ both.0) ∙ room in
        any-filter (is_live O M) p (numbers (next_link M)) ∙ any_range (λ x. is_live O M x && p x) (next_link M) 0 k (omega arith) (omega (arith, joined)) (ap (λ (b : Bool). b && p k) live ∙ fit)

    step : (r : ℕ) → running_rules P (records_of M) ≡ [] → (storage has fit : Bool) → has_link P O M r ≡ has → fits_empty P O (records_of M) j row r ≡ fit → (not storage || not has) ≡ true → (not storage || not fit) ≡ true
    step r none false has fit is_has is_fit so = refl
    step r none true true fit is_has is_fit so = absurd (true≢false (sym so))
    step r none true false true is_has is_fit so = absurd (true≢false (sym (linked r none is_fit) ∙ is_has))
    step r none true false false is_has is_fit so = refl

-- a link that lives stated something
pub lives_states : (O : Options) (M : List Move) (k : ℕ) → 0 < k → is_live O M k ≡ true → (row : LinkRow) × (stated_by k M ≡ Some row)
lives_states O M k beyond lives = by_row (stated_by k M) refl
  where
    by_row : (o : Option LinkRow) → stated_by k M ≡ o → (row : LinkRow) × (stated_by k M ≡ Some row)
    by_row (Some row) is = (row, is)
    by_row None is =
        let dead : is_live O M k ≡ false = ap (λ (b : Bool). is_some (if b then Some (local_row O) else stated_by k M)) (other_number k beyond) ∙ ap is_some is in
        absurd (true≢false (sym lives ∙ dead))

-- ---- all links

-- what a wait in vain shows of what was received over a link
abbrev pub IsVainOffer : Admitting → Plan → Options → List Record → List ℕ → Type 0
IsVainOffer A P O H up = (row : LinkRow) × IsOffered up row × TakesNone A P O H row

-- the same of one with a number
abbrev pub IsVainSeat : Admitting → Plan → Options → List Record → Option LinkNo → List ℕ → Type 0
IsVainSeat A P O H number up = (is_some number ≡ true) × IsVainOffer A P O H up

module _ {L : Type 0} (gives : Function) (may_fail : Job → Failure → Type 0) (history : L → List Passed) (count idles : L → ℕ) (closed : L → Bool) (limit : ℕ) where
  abbrev Back : Type 0
  Back = Option LinkNo × L

  many_accounts : (links : List Back) → length (accounts_of history count idles closed links) ≡ length links
  many_accounts [] = refl
  many_accounts (x ∷ links) = ap (λ (n : ℕ). suc n) (many_accounts links)

  -- What is ill under any number is ill without one.
  unnumbered : (honest : Type 0) (others : List Account) (link : LinkNo) (way : L) → IsIll limit honest others (account_of history count idles closed (Some link) way) → IsIll limit honest others (account_of history count idles closed None way)
  unnumbered honest others link way (ill.closed is) = ill.closed is
  unnumbered honest others link way (ill.failed is) = ill.failed is
  unnumbered honest others link way (ill.silent long none) = ill.silent long none
  unnumbered honest others link way (ill.idle long owed) = ill.idle long owed
  unnumbered honest others link way (ill.misspeaks is) = ill.misspeaks is
  unnumbered honest others link way (ill.too_many_links none many) = absurd (true≢false (sym (ap is_none none)))
  unnumbered honest others link way (ill.too_many_offers n many came) = ill.too_many_offers n many came

  module _ (A : Admitting) (P : Plan) (O : Options) (H : List Record) (all : List Move) (links : List Back) (crowds : IsFull all → (n : ℕ) × (1000000 ≤ n) × ill.OffersCame (accounts_of history count idles closed links) n) (crowded : (way : L) (front behind : List Back) → (let none : Option LinkNo = None in links ≡ front ++ ((none, way) ∷ behind)) → most_links ≤ count_by is_join all → 33 ≤ length links) where
    abbrev Shown : Back → Type 0
    Shown x = IsVainLink gives may_fail history count idles closed limit A P O H links x

    earned_shown : (number : Option LinkNo) (way : L) (front behind : List Back) → links ≡ front ++ ((number, way) ∷ behind) → HasEarned (IsIllLink gives may_fail history count idles closed limit) all number way → Shown (number, way)
    earned_shown (Some link) way front behind are (inl is) = inl (is (accounts_of history count idles closed links))
    earned_shown (Some link) way front behind are (inr full) = let many = crowds full in inl (ill.too_many_offers many.0 many.1 many.2)
    earned_shown None way front behind are (inl is) = inl (unnumbered (WasHonest gives may_fail (history way)) (accounts_of history count idles closed links) (record { 0 = 0 }) way (is (record { 0 = 0 }) (accounts_of history count idles closed links)))
    earned_shown None way front behind are (inr (inl many)) =
        inl (ill.too_many_links refl (let enough = crowded way front behind are many in let same = many_accounts links in omega (arith, enough, same)))
    earned_shown None way front behind are (inr (inr full)) = let many = crowds full in inl (ill.too_many_offers many.0 many.1 many.2)

    all_earned : (front more behind : List Back) → links ≡ front ++ (more ++ behind) → AllByRecursion (λ (x : Back). HasEarned (IsIllLink gives may_fail history count idles closed limit) all x.0 x.1) more → AllByRecursion Shown more
    all_earned front [] behind are each = tt
    all_earned front (x ∷ more) behind are each =
        (earned_shown x.0 x.1 front (more ++ behind) are each.0, all_earned (front ++ (x ∷ [])) more behind (are ∙ sym (append_assoc front (x ∷ []) (more ++ behind))) each.1)

    all_offered : (more : List Back) → AllByRecursion (λ (x : Back). IsVainSeat A P O H x.0 (received_in (history x.1))) more → AllByRecursion Shown more
    all_offered [] each = tt
    all_offered (x ∷ more) each = (inr each.0.1, all_offered more each.1)

  all_joined : (Q : Back → Type 0) (xs ys : List Back) → AllByRecursion Q xs → AllByRecursion Q ys → AllByRecursion Q (xs ++ ys)
  all_joined Q [] ys one two = two
  all_joined Q (x ∷ xs) ys one two = (one.0, all_joined Q xs ys one.1 two)

  -- one without a number is none of those that have one
  numbered_less : (way : L) (front behind : List Back) → (let none : Option LinkNo = None in numbered_in (front ++ ((none, way) ∷ behind)) + 1 ≤ length (front ++ ((none, way) ∷ behind)))
  numbered_less way front behind =
      let none : Option LinkNo = None in
      let sums : numbered_in (front ++ ((none, way) ∷ behind)) ≡ numbered_in front + numbered_in ((none, way) ∷ behind) = sum_by-append (λ (x : Back). cond (is_some x.0) 1 0) front ((none, way) ∷ behind) in
      let rest : numbered_in ((none, way) ∷ behind) ≡ 0 + numbered_in behind = sum_by-cons (λ (x : Back). cond (is_some x.0) 1 0) (none, way) behind in
      let one : numbered_in front ≤ length front = count_by-le-length (λ (x : Back). is_some x.0) front in
      let two : numbered_in behind ≤ length behind = count_by-le-length (λ (x : Back). is_some x.0) behind in
      let many = length-append front ((none, way) ∷ behind) in
      omega (arith, sums, rest, one, two, many)

  numbered_all : (A : Admitting) (P : Plan) (O : Options) (H : List Record) (xs : List Back) → AllByRecursion (λ (x : Back). IsVainSeat A P O H x.0 (received_in (history x.1))) xs → numbered_in xs ≡ length xs
  numbered_all A P O H [] each = refl
  numbered_all A P O H (x ∷ xs) each =
      let cons : numbered_in (x ∷ xs) ≡ cond (is_some x.0) 1 0 + numbered_in xs = sum_by-cons (λ (y : Back). cond (is_some y.0) 1 0) x xs in
      let one : ◌≡◌ {A = ℕ} (cond (is_some x.0) 1 0) 1 = ap (λ (b : Bool). cond b 1 0) each.0.0 in
      let rest : numbered_in xs ≡ length xs = numbered_all A P O H xs each.1 in
      omega (arith, cons, one, rest)

  -- What was offered at the seats of a run that waited in vain takes none of the rules.
  pub seats_vain : (A : Admitting) (P : Plan) (O : Options) (M all more : List Move) → is_in_vain_by A P O M ≡ true → all ≡ M ++ more → link_moves more ≡ [] → (seats : List (SeatState L)) → AreSeats P O all seats → AllByRecursion (OffersAsStated history all) seats
      → AllByRecursion (λ (s : SeatState L). IsVainSeat A P O (records_of M) (Some s.link) (received_in (history s.peer.way))) seats
  seats_vain A P O M all more vain are none [] placed offered = tt
  seats_vain A P O M all more vain are none (s ∷ seats) placed offered =
      let linked : link_moves all ≡ link_moves M ++ [] = ap link_moves are ∙ links_grown M more ∙ ap (λ (l : List Move). link_moves M ++ l) none in
      let states = lives_states O all s.link.0 placed.0.placed.beyond placed.0.placed.lives in
      let was : stated_by s.link.0 M ≡ Some states.0 = sym (stated_same s.link.0 M [] all linked refl) ∙ states.1 in
      let joined = offered.0.joined in
      let same = joins_same M all (linked ∙ append-nil (link_moves M)) in (
        (refl, (states.0, offered.0.offered states.0 states.1, takes_none A P O M s.link.0 states.0 vain placed.0.placed.beyond (omega (arith, joined, same)) was)),
        seats_vain A P O M all more vain are none seats placed.2 offered.1,
      )

  -- Each link of a run that waited in vain is so.
  pub all_vain : (A : Admitting) (P : Plan) (O : Options) (M all : List Move) (first : List Move) (seats : List (SeatState L)) (before got got_now : List Back) → joins_and_changes first ≡ 0
      → AreEarned (IsIllLink gives may_fail history count idles closed limit) history before first all seats got → HandsBack history seats got got_now → AllByRecursion (λ (s : SeatState L). IsVainSeat A P O (records_of M) (Some s.link) (received_in (history s.peer.way))) seats
      → ((links : List Back) → got_now ≡ before ++ links → IsFull all → (n : ℕ) × (1000000 ≤ n) × ill.OffersCame (accounts_of history count idles closed links) n)
      → AreVain gives may_fail history count idles closed limit A P O (records_of M) before got_now
  all_vain A P O M all first seats before got got_now anew earned hands shown crowds = record {
    links = earned.links ++ hands.links;
    back = back;
    each = All-from_recursion (IsVainLink gives may_fail history count idles closed limit A P O (records_of M) (earned.links ++ hands.links)) (earned.links ++ hands.links)
        (all_joined (IsVainLink gives may_fail history count idles closed limit A P O (records_of M) (earned.links ++ hands.links)) earned.links hands.links
        (all_earned A P O (records_of M) all (earned.links ++ hands.links) (crowds (earned.links ++ hands.links) back) crowded [] earned.links hands.links refl earned.each)
        (all_offered A P O (records_of M) all (earned.links ++ hands.links) (crowds (earned.links ++ hands.links) back) crowded hands.links offers));
  }
    where
      offers : AllByRecursion (λ (x : Back). IsVainSeat A P O (records_of M) x.0 (received_in (history x.1))) hands.links
      offers = hands_so history (IsVainSeat A P O (records_of M)) (λ number up added so. (so.0, (so.1.0, offered_later up added (up ++ added) so.1.0 refl so.1.1, so.1.2))) seats shown hands.links hands.each

      back : got_now ≡ before ++ (earned.links ++ hands.links)
      back = hands.are ∙ ap (λ (xs : List Back). xs ++ hands.links) earned.are ∙ append_assoc before earned.links hands.links

      crowded : (way : L) (front behind : List Back) → (let none : Option LinkNo = None in earned.links ++ hands.links ≡ front ++ ((none, way) ∷ behind)) → most_links ≤ count_by is_join all → 33 ≤ length (earned.links ++ hands.links)
      crowded way front behind are many =
          let joins = earned.joins in
          let seated = hands.many in
          let less = numbered_less way front behind in
          let same = ap length are in
          let same_numbers = ap (λ (xs : List Back). numbered_in xs) are in
          let both : numbered_in (earned.links ++ hands.links) ≡ numbered_in earned.links + numbered_in hands.links = sum_by-append (λ (x : Back). cond (is_some x.0) 1 0) earned.links hands.links in
          let numbered = numbered_all A P O (records_of M) hands.links offers in
          omega (arith, joins, seated, less, same, same_numbers, both, numbered, many, anew)
