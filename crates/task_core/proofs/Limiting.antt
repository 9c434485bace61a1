-- Each rule that is asked for is under the limits.
use Rattle.std.proofs.Common.{◌≡◌, ℕ, zero, suc, ◌+◌, ◌-◌, ◌*◌, ◌<◌, ◌≤◌, ◌∙◌, Bool, true, false, cond, not, ◌&&◌, ◌||◌, Option, Some, None, List, [], ◌∷◌, length, refl, ap, sym, arith}
use Rattle.std.specs.Prelude.{◌==◌, min, nat_le, nat_lt, slice_get, sum_by}
use Rattle.std.specs.List.{list_all}
use Rattle.std.specs.Option.{option_map_or}
use Rattle.std.proofs.Math.Nat.{le-min, min-le_right, mul-le-mul_right}
use Rattle.std.proofs.lemmas.Bool.{and_parts, eqb-true, le-leb, leb-true, leb-false, ltb-true, ltb-false, true≢false}
use Rattle.std.proofs.lemmas.List.Sums.{sum_by-cons}
use Rattle.flow_types.specs.declared.plan.Plan.{Plan}
use Rattle.flow_types.specs.declared.plan.Rule.{Rule}
use Rattle.flow_types.specs.declared.numbers.Amounts.{Amounts}
use Rattle.flow_types.specs.declared.numbers.Needs.{Needs}
use Rattle.flow_types.specs.declared.numbers.Needs.TheVariants.{Whole, Stated}
use Rattle.flow_types.specs.Plans.{IsValid, bound_of, fits_amounts, is_empty, is_within_limits, most_amount, most_bytes, most_input_bytes, most_inputs, takes}
use Rattle.run_history.specs.Links.{LinkRow, Load, amounts_on, has_room, is_at_most, is_local_rule, leaves_amounts, leaves_bytes, may_run_on, needs_of, taken_on, with_amounts}
use Rattle.run_history.specs.Storage.{is_within, rule_bound}
use Rattle.ready_rules.specs.declared.shelf.Weight.{Weight}
use Rattle.ready_rules.specs.Pendings.{most_taken}
use Rattle.ready_rules.specs.Shelves.{is_under, shares_kind}
use Rattle.resource_pack.specs.declared.occupied.Stated.{Stated as Stating}
use Rattle.resource_pack.specs.Occupancy.{occupancy_of, stated_row}
use Rattle.rule_progress.specs.Progress.{is_here, is_whole, stated_amounts}
use Rattle.rule_progress.proofs.Needing.{takes-most}
use Rattle.task_core.specs.declared.loads.Beside.{Beside}
use Rattle.task_core.specs.Asked.{AreCandidates, bytes_under, kinds_for, large_limits, link_limits, no_limits, room_in, room_under, short_left, short_limits, taken_of}
use Rattle.task_core.specs.Ends.{is_taken_now}
use Rattle.task_core.specs.Known.{Known, can_start, fits_link, has_storage, input_sum, is_taken_by_one, known_bytes, known_load, known_loads, passes_most, reserved_sum, stored_sum}
use Rattle.task_core.specs.Surveys.{IsBeside, is_ready_for, stated_in}

both : (a b : Bool) → a ≡ true → b ≡ true → (a && b) ≡ true
both true b one two = two
both false b one two = absurd (true≢false (sym one))

-- under each of the limits
pub under-all : (limits weight : Weight) → shares_kind limits weight ≡ true → weight.cores ≤ limits.cores → weight.memory ≤ limits.memory → weight.disk ≤ limits.disk → weight.bytes ≤ limits.bytes → weight.bound ≤ limits.bound
    → weight.bytes_left ≤ limits.bytes_left → weight.bound_left ≤ limits.bound_left → is_under limits weight ≡ true
under-all limits weight kind cores memory disk bytes bound bytes_left bound_left =
    both (shares_kind limits weight) _ kind
    (both (nat_le weight.cores limits.cores) _ (le-leb weight.cores limits.cores cores)
    (both (nat_le weight.memory limits.memory) _ (le-leb weight.memory limits.memory memory)
    (both (nat_le weight.disk limits.disk) _ (le-leb weight.disk limits.disk disk)
    (both (nat_le weight.bytes limits.bytes) _ (le-leb weight.bytes limits.bytes bytes)
    (both (nat_le weight.bound limits.bound) _ (le-leb weight.bound limits.bound bound)
    (both (nat_le weight.bytes_left limits.bytes_left) _ (le-leb weight.bytes_left limits.bytes_left bytes_left) (le-leb weight.bound_left limits.bound_left bound_left)))))))

-- what a rule of a valid plan takes at most
pub record IsSmall (K : Known) (r : ℕ) : Type 0 where
  pub cores : (taken_of K r).cores ≤ 1000000000
  pub memory : (taken_of K r).memory ≤ 1000000000
  pub disk : (taken_of K r).disk ≤ 1000000000
  pub bytes : (taken_of K r).bytes ≤ most_taken
  pub bound : (taken_of K r).bound ≤ most_bytes

needs_few : (rules : List Rule) (r : ℕ) → list_all is_within_limits rules ≡ true → fits_amounts (option_map_or (λ (rule : Rule). rule.needs) (slice_get rules r) Whole) ≡ true
needs_few [] r all = refl
needs_few (rule ∷ rules) zero all = (and_parts _ (fits_amounts rule.needs) (and_parts (is_within_limits rule) (list_all is_within_limits rules) all).0).1
needs_few (rule ∷ rules) (suc r) all = needs_few rules r (and_parts (is_within_limits rule) (list_all is_within_limits rules) all).1

bound_few : (P : Plan) (rules : List Rule) (r : ℕ) → list_all (λ rule. rule.bound == min (sum_by (λ port. bound_of P port.file.0) rule.outputs) most_bytes) rules ≡ true → option_map_or (λ (rule : Rule). rule.bound) (slice_get rules r) 0 ≤ most_bytes
bound_few P [] r all = omega arith
bound_few P (rule ∷ rules) zero all =
    let is : rule.bound ≡ min (sum_by (λ port. bound_of P port.file.0) rule.outputs) most_bytes =
    eqb-true rule.bound (min (sum_by (λ port. bound_of P port.file.0) rule.outputs) most_bytes) (and_parts (rule.bound == min (sum_by (λ port. bound_of P port.file.0) rule.outputs) most_bytes) _ all).0 in
    omega (arith, is, min-le_right (sum_by (λ port. bound_of P port.file.0) rule.outputs) most_bytes)
bound_few P (rule ∷ rules) (suc r) all = bound_few P rules r (and_parts (rule.bound == min (sum_by (λ port. bound_of P port.file.0) rule.outputs) most_bytes) _ all).1

amounts_few : (here : Bool) (needs : Needs) → fits_amounts needs ≡ true → ((stated_amounts here needs).cores ≤ 1000000000) × ((stated_amounts here needs).memory ≤ 1000000000) × ((stated_amounts here needs).disk ≤ 1000000000)
amounts_few true Whole few = (omega arith, omega arith, omega arith)
amounts_few false Whole few = (omega arith, omega arith, omega arith)
amounts_few here (Stated a) few =
    let first = and_parts (nat_le a.cores most_amount && nat_le a.memory most_amount) (nat_le a.disk most_amount) few in
    let second = and_parts (nat_le a.cores most_amount) (nat_le a.memory most_amount) first.0 in
    (leb-true a.cores most_amount second.0, leb-true a.memory most_amount second.1, leb-true a.disk most_amount first.1)

sum_few : (a : ℕ → ℕ) (m : ℕ) → ((x : ℕ) → a x ≤ m) → (xs : List ℕ) → sum_by a xs ≤ length xs * m
sum_few a m each [] = omega arith
sum_few a m each (x ∷ xs) =
    let product : suc (length xs) * m ≡ m + length xs * m = grind arith in
    omega (arith, sum_by-cons a x xs, each x, sum_few a m each xs, product)

pub small-rule : (K : Known) (r : ℕ) → IsValid K.plan → ((f : ℕ) → known_bytes K f ≤ most_bytes) → IsSmall K r
small-rule K r valid small =
    let amounts = amounts_few (is_here K.plan K.options r) (needs_of K.plan r) (needs_few K.plan.rules r valid.within_limits) in
    let most : input_sum K r ≤ length (takes K.plan r) * most_bytes = sum_few (known_bytes K) most_bytes small (takes K.plan r) in
    let grows : length (takes K.plan r) * most_bytes ≤ most_inputs * most_bytes = mul-le-mul_right most_bytes (takes-most K.plan r valid) in
    record {
      cores = amounts.0;
      memory = amounts.1;
      disk = amounts.2;
      bytes = omega (arith, most, grows);
      bound = bound_few K.plan K.plan.rules r valid.rule_bounds;
    }

kinds : (here whole : Bool) → ((true && here) || ((true && (not here && not whole)) || (true && (not here && whole)))) ≡ true
kinds true whole = refl
kinds false true = refl
kinds false false = refl

-- each rule is under no limits
pub under-none : (K : Known) (r : ℕ) → IsSmall K r → is_under no_limits (taken_of K r) ≡ true
under-none K r few =
    under-all no_limits (taken_of K r) (kinds (is_here K.plan K.options r) (is_whole (needs_of K.plan r))) few.cores few.memory few.disk few.bytes few.bound (omega arith) (omega arith)

-- what can start
pub ready-candidates : (K : Known) → IsValid K.plan → ((f : ℕ) → known_bytes K f ≤ most_bytes) → AreCandidates K no_limits (can_start K)
ready-candidates K valid small r inside holds = both (can_start K r) _ holds (under-none K r (small-rule K r valid small))

-- inputs that are too large
pub under-large : (K : Known) (r : ℕ) → IsSmall K r → passes_most K r ≡ true → is_under large_limits (taken_of K r) ≡ true
under-large K r few large =
    let more : most_input_bytes < input_sum K r = ltb-true most_input_bytes (input_sum K r) large in
    under-all large_limits (taken_of K r) (kinds (is_here K.plan K.options r) (is_whole (needs_of K.plan r))) few.cores few.memory few.disk few.bytes few.bound (omega (arith, more)) (omega arith)

pub large-candidates : (K : Known) → IsValid K.plan → ((f : ℕ) → known_bytes K f ≤ most_bytes) → AreCandidates K large_limits (λ r. can_start K r && passes_most K r)
large-candidates K valid small r inside holds =
    let parts = and_parts (can_start K r) (passes_most K r) holds in
    both (can_start K r) _ parts.0 (under-large K r (small-rule K r valid small) parts.1)

room_for : (limit : Option ℕ) (held bound : ℕ) → bound ≤ most_bytes → is_within (held + bound) limit ≡ true → bound ≤ room_under limit held
room_for None held bound few fits = few
room_for (Some limit) held bound few fits = let within : held + bound ≤ limit = leb-true (held + bound) limit fits in omega (arith, within)

no_room_for : (limit : Option ℕ) (held bound : ℕ) → bound ≤ most_bytes → is_within (held + bound) limit ≡ false → most_bytes - bound ≤ short_left limit held
no_room_for None held bound few short = absurd (true≢false short)
no_room_for (Some limit) held bound few short = by_side (nat_lt limit held) refl
  where
    by_side : (b : Bool) → nat_lt limit held ≡ b → most_bytes - bound ≤ cond (nat_lt limit held) most_bytes (most_bytes - (limit - held) - 1)
    by_side true passed =
        let is : cond (nat_lt limit held) most_bytes (most_bytes - (limit - held) - 1) ≡ most_bytes = ap (λ b. cond b most_bytes (most_bytes - (limit - held) - 1)) passed in
        omega (arith, is)
    by_side false within =
        let is : cond (nat_lt limit held) most_bytes (most_bytes - (limit - held) - 1) ≡ most_bytes - (limit - held) - 1 = ap (λ b. cond b most_bytes (most_bytes - (limit - held) - 1)) within in
        let low : held ≤ limit = ltb-false limit held within in
        let over : limit < held + bound = leb-false (held + bound) limit short in
        omega (arith, is, low, over)

-- what the storage has room for
pub under-roomy : (K : Known) (r : ℕ) → IsSmall K r → has_storage K r ≡ true → is_under (record no_limits { bound = room_in K }) (taken_of K r) ≡ true
under-roomy K r few fits =
    under-all (record no_limits { bound = room_in K }) (taken_of K r) (kinds (is_here K.plan K.options r) (is_whole (needs_of K.plan r))) few.cores few.memory few.disk few.bytes
    (room_for K.limit (stored_sum K + reserved_sum K) (rule_bound K.plan r) few.bound fits) (omega arith) (omega arith)

pub roomy-candidates : (K : Known) → IsValid K.plan → ((f : ℕ) → known_bytes K f ≤ most_bytes) → AreCandidates K (record no_limits { bound = room_in K }) (λ r. can_start K r && has_storage K r)
roomy-candidates K valid small r inside holds =
    let parts = and_parts (can_start K r) (has_storage K r) holds in
    both (can_start K r) _ parts.0 (under-roomy K r (small-rule K r valid small) parts.1)

pub taken-candidates : (K : Known) → IsValid K.plan → ((f : ℕ) → known_bytes K f ≤ most_bytes) → AreCandidates K (record no_limits { bound = room_in K }) (is_taken_now K)
taken-candidates K valid small r inside holds =
    let parts = and_parts (can_start K r) (has_storage K r && is_taken_by_one K r) holds in
    both (can_start K r) _ parts.0 (under-roomy K r (small-rule K r valid small) (and_parts (has_storage K r) (is_taken_by_one K r) parts.1).0)

not_so : (b : Bool) → not b ≡ true → b ≡ false
not_so true is = absurd (true≢false (sym is))
not_so false is = refl

-- what it has no room for
pub short-candidates : (K : Known) → IsValid K.plan → ((f : ℕ) → known_bytes K f ≤ most_bytes) → AreCandidates K (short_limits K) (λ r. can_start K r && not (has_storage K r))
short-candidates K valid small r inside holds =
    let parts = and_parts (can_start K r) (not (has_storage K r)) holds in
    let few = small-rule K r valid small in
    let more : most_bytes - rule_bound K.plan r ≤ short_left K.limit (stored_sum K + reserved_sum K) = no_room_for K.limit (stored_sum K + reserved_sum K) (rule_bound K.plan r) few.bound (not_so (has_storage K r) parts.1) in
    both (can_start K r) _ parts.0
    (under-all (short_limits K) (taken_of K r) (kinds (is_here K.plan K.options r) (is_whole (needs_of K.plan r))) few.cores few.memory few.disk few.bytes few.bound (omega arith) more)

-- what a task takes of a link beside what runs there is left of it
record IsLeft (limits weight : Weight) : Type 0 where
  kind : shares_kind limits weight ≡ true
  cores : weight.cores ≤ limits.cores
  memory : weight.memory ≤ limits.memory
  disk : weight.disk ≤ limits.disk

bytes_fit : (cache : Option ℕ) (loads : List Load) (bytes : ℕ) → bytes ≤ most_taken → leaves_bytes cache loads bytes ≡ true → bytes ≤ bytes_under cache (sum_by (λ (load : Load). load.bytes) loads)
bytes_fit None loads bytes few leaves = few
bytes_fit (Some cache) loads bytes few leaves =
    let within : sum_by (λ (load : Load). load.bytes) loads + bytes ≤ cache = leb-true (sum_by (λ (load : Load). load.bytes) loads + bytes) cache leaves in
    omega (arith, within)

-- within what is left and within the largest
within_both : (total taken largest amount w : ℕ) → w ≡ amount → taken + amount ≤ total → amount ≤ largest → w ≤ min (total - taken) largest
within_both total taken largest amount w is fits low = le-min (omega (arith, is, fits)) (omega (arith, is, low))

none_within : (a b w : ℕ) → w ≡ 0 → w ≤ min a b
none_within a b w none = le-min (omega (arith, none)) (omega (arith, none))

at_most : (a b : Amounts) → is_at_most a b ≡ true → (a.cores ≤ b.cores) × (a.memory ≤ b.memory) × (a.disk ≤ b.disk)
at_most a b is =
    let first = and_parts (nat_le a.cores b.cores && nat_le a.memory b.memory) (nat_le a.disk b.disk) is in
    let second = and_parts (nat_le a.cores b.cores) (nat_le a.memory b.memory) first.0 in
    (leb-true a.cores b.cores second.0, leb-true a.memory b.memory second.1, leb-true a.disk b.disk first.1)

no_loads : (loads : List Load) → is_empty loads ≡ true → (length loads == 0) ≡ true
no_loads [] none = refl
no_loads (x ∷ xs) none = absurd (true≢false (sym none))

here_is : (local wq zero_link : Bool) → cond zero_link (local || not wq) (not local && wq) ≡ true → (local || not wq) ≡ zero_link
here_is local wq true may = may
here_is true wq false may = absurd (true≢false (sym may))
here_is false true false may = refl
here_is false false false may = absurd (true≢false (sym may))

kinds_link : (zero_link whole : Bool) → ((zero_link && zero_link) || ((not zero_link && (not zero_link && not whole)) || (not zero_link && (not zero_link && whole)))) ≡ true
kinds_link true whole = refl
kinds_link false true = refl
kinds_link false false = refl

-- a rule that may run on a link is of a kind that it takes
kind_is : (K : Known) (k r : ℕ) (limits : Weight) → may_run_on K.plan K.options r k ≡ true → shares_kind (kinds_for k limits) (taken_of K r) ≡ true
kind_is K k r limits may =
    ap (λ b. ((k == 0) && b) || ((not (k == 0) && (not b && not (is_whole (needs_of K.plan r)))) || (not (k == 0) && (not b && is_whole (needs_of K.plan r))))) (here_is (is_local_rule K.plan r) K.options.wq (k == 0) may)
    ∙ kinds_link (k == 0) (is_whole (needs_of K.plan r))

-- for a link: what may run there, and what is too large
pub ready-for-candidates : (K : Known) (k : ℕ) → IsValid K.plan → ((f : ℕ) → known_bytes K f ≤ most_bytes) → AreCandidates K (kinds_for k no_limits) (is_ready_for K k)
ready-for-candidates K k valid small r inside holds =
    let ready = and_parts (can_start K r) (may_run_on K.plan K.options r k) holds in
    let few = small-rule K r valid small in
    both (can_start K r) _ ready.0
    (under-all (kinds_for k no_limits) (taken_of K r) (kind_is K k r no_limits ready.1) few.cores few.memory few.disk few.bytes few.bound (omega arith) (omega arith))

pub large-for-candidates : (K : Known) (k : ℕ) → IsValid K.plan → ((f : ℕ) → known_bytes K f ≤ most_bytes) → AreCandidates K (kinds_for k large_limits) (λ r. is_ready_for K k r && passes_most K r)
large-for-candidates K k valid small r inside holds =
    let parts = and_parts (is_ready_for K k r) (passes_most K r) holds in
    let ready = and_parts (can_start K r) (may_run_on K.plan K.options r k) parts.0 in
    let few = small-rule K r valid small in
    let more : most_input_bytes < input_sum K r = ltb-true most_input_bytes (input_sum K r) parts.1 in
    both (can_start K r) _ ready.0
    (under-all (kinds_for k large_limits) (taken_of K r) (kind_is K k r large_limits ready.1) few.cores few.memory few.disk few.bytes few.bound (omega (arith, more)) (omega arith))

left_by : (k : ℕ) (stated : Stating) (loads : List Load) (needs : Needs) (weight : Weight) (zero_link : Bool) → (k == 0) ≡ zero_link → weight.here ≡ zero_link → weight.stated ≡ (not zero_link && not (is_whole needs)) → weight.whole ≡ (not zero_link && is_whole needs)
    → weight.cores ≡ (stated_amounts zero_link needs).cores → weight.memory ≡ (stated_amounts zero_link needs).memory → weight.disk ≡ (stated_amounts zero_link needs).disk
    → leaves_amounts k (stated_row stated) loads needs ≡ true → IsLeft (link_limits k (Some stated) (occupancy_of k stated.total loads)) weight
left_by k stated loads Whole weight true zero_is here stated_is whole cores memory disk leaves =
    let fits = and_parts (is_at_most (amounts_on k stated.total Whole) stated.largest) (is_at_most (with_amounts (taken_on k stated.total loads) (amounts_on k stated.total Whole)) stated.total)
    (sym (ap (λ b. cond (not b) (is_empty loads) (is_at_most (amounts_on k stated.total Whole) stated.largest && is_at_most (with_amounts (taken_on k stated.total loads) (amounts_on k stated.total Whole)) stated.total)) zero_is) ∙ leaves) in
    let within = at_most (with_amounts (taken_on k stated.total loads) (amounts_on k stated.total Whole)) stated.total fits.1 in
    let low = at_most (amounts_on k stated.total Whole) stated.largest fits.0 in
    let one : (amounts_on k stated.total Whole).cores ≡ 1 = ap (λ b. (cond b one_of stated.total).cores) zero_is in
    record {
      kind = ap (λ b. (b && weight.here) || ((not b && weight.stated) || ((not b && (length loads == 0)) && weight.whole))) zero_is ∙ ap (λ b. b || (false || false)) here;
      cores = within_both stated.total.cores (taken_on k stated.total loads).cores stated.largest.cores (amounts_on k stated.total Whole).cores weight.cores (cores ∙ sym one) within.0 low.0;
      memory = none_within (stated.total.memory - (taken_on k stated.total loads).memory) stated.largest.memory weight.memory memory;
      disk = none_within (stated.total.disk - (taken_on k stated.total loads).disk) stated.largest.disk weight.disk disk;
    }
  where
    one_of : Amounts
    one_of = record { cores = 1; memory = 0; disk = 0 }
left_by k stated loads Whole weight false zero_is here stated_is whole cores memory disk leaves =
    let none : (length loads == 0) ≡ true = no_loads loads (sym (ap (λ b. cond (not b) (is_empty loads) (is_at_most (amounts_on k stated.total Whole) stated.largest && is_at_most (with_amounts (taken_on k stated.total loads) (amounts_on k stated.total Whole)) stated.total)) zero_is) ∙ leaves) in
    record {
      kind = ap (λ b. (b && weight.here) || ((not b && weight.stated) || ((not b && (length loads == 0)) && weight.whole))) zero_is
          ∙ ap (λ b. weight.stated || (b && weight.whole)) none ∙ ap (λ b. b || weight.whole) stated_is ∙ whole;
      cores = none_within (stated.total.cores - (taken_on k stated.total loads).cores) stated.largest.cores weight.cores cores;
      memory = none_within (stated.total.memory - (taken_on k stated.total loads).memory) stated.largest.memory weight.memory memory;
      disk = none_within (stated.total.disk - (taken_on k stated.total loads).disk) stated.largest.disk weight.disk disk;
    }
left_by k stated loads (Stated a) weight zero_link zero_is here stated_is whole cores memory disk leaves =
    let fits = and_parts (is_at_most a stated.largest) (is_at_most (with_amounts (taken_on k stated.total loads) a) stated.total) leaves in
    let within = at_most (with_amounts (taken_on k stated.total loads) a) stated.total fits.1 in
    let low = at_most a stated.largest fits.0 in
    record {
      kind = ap (λ b. (b && weight.here) || ((not b && weight.stated) || ((not b && (length loads == 0)) && weight.whole))) zero_is ∙ by_link zero_link here stated_is;
      cores = within_both stated.total.cores (taken_on k stated.total loads).cores stated.largest.cores a.cores weight.cores cores within.0 low.0;
      memory = within_both stated.total.memory (taken_on k stated.total loads).memory stated.largest.memory a.memory weight.memory memory within.1 low.1;
      disk = within_both stated.total.disk (taken_on k stated.total loads).disk stated.largest.disk a.disk weight.disk disk within.2 low.2;
    }
  where
    by_link : (b : Bool) → weight.here ≡ b → weight.stated ≡ (not b && true) → ((b && weight.here) || ((not b && weight.stated) || ((not b && (length loads == 0)) && weight.whole))) ≡ true
    by_link true is_here_ is_stated = ap (λ c. c || (false || false)) is_here_
    by_link false is_here_ is_stated = ap (λ c. c || ((length loads == 0) && weight.whole)) is_stated

-- what fits a link is under its limits
pub under-link : (K : Known) (beside : Beside) (r : ℕ) → IsBeside K beside → IsSmall K r → may_run_on K.plan K.options r beside.link.0 ≡ true → fits_link K beside.link.0 r ≡ true → (bound : ℕ) → (taken_of K r).bound ≤ bound
    → is_under (record (link_limits beside.link.0 beside.stated beside.occupied) { bound = bound }) (taken_of K r) ≡ true
under-link K beside r is few may fits bound low = by_row beside.stated refl
  where
    by_row : (stated : Option Stating) → beside.stated ≡ stated → is_under (record (link_limits beside.link.0 beside.stated beside.occupied) { bound = bound }) (taken_of K r) ≡ true
    by_row None none =
        ap (λ s. is_under (record (link_limits beside.link.0 s beside.occupied) { bound = bound }) (taken_of K r)) none
        ∙ under-all (record no_limits { bound = bound }) (taken_of K r) (kinds (is_here K.plan K.options r) (is_whole (needs_of K.plan r))) few.cores few.memory few.disk few.bytes low (omega arith) (omega arith)
    by_row (Some stated) states =
        let k : ℕ = beside.link.0 in
        let row : K.rows k ≡ Some (stated_row stated) = sym is.row ∙ ap stated_in states in
        let room : has_room k (stated_row stated) (known_loads K k) (known_load K r) ≡ true = sym (ap (λ (o : Option LinkRow). option_map_or (λ row. has_room k row (known_loads K k) (known_load K r)) o false) row) ∙ fits in
        let leaves : leaves_amounts k (stated_row stated) (known_loads K k) (needs_of K.plan r) ≡ true = (and_parts _ _ (and_parts _ _ room).0).1 in
        let here : is_here K.plan K.options r ≡ (k == 0) = here_is (is_local_rule K.plan r) K.options.wq (k == 0) may in
        let left = left_by k stated (known_loads K k) (needs_of K.plan r) (taken_of K r) (k == 0) refl here
        (ap (λ b. not b && not (is_whole (needs_of K.plan r))) here) (ap (λ b. not b && is_whole (needs_of K.plan r)) here)
        (ap (λ b. (stated_amounts b (needs_of K.plan r)).cores) here) (ap (λ b. (stated_amounts b (needs_of K.plan r)).memory) here) (ap (λ b. (stated_amounts b (needs_of K.plan r)).disk) here) leaves in
        ap (λ s. is_under (record (link_limits k s beside.occupied) { bound = bound }) (taken_of K r)) states
        ∙ ap (λ o. is_under (record (link_limits k (Some stated) o) { bound = bound }) (taken_of K r)) (is.occupied stated states)
        ∙ under-all (record (link_limits k (Some stated) (occupancy_of k stated.total (known_loads K k))) { bound = bound }) (taken_of K r) left.kind left.cores left.memory left.disk
        (bytes_fit stated.cache (known_loads K k) (input_sum K r) few.bytes (and_parts _ _ room).1) low (omega arith) (omega arith)

pub fitting-candidates : (K : Known) (beside : Beside) → IsBeside K beside → IsValid K.plan → ((f : ℕ) → known_bytes K f ≤ most_bytes)
    → AreCandidates K (link_limits beside.link.0 beside.stated beside.occupied) (λ r. is_ready_for K beside.link.0 r && fits_link K beside.link.0 r)
fitting-candidates K beside is valid small r inside holds =
    let parts = and_parts (is_ready_for K beside.link.0 r) (fits_link K beside.link.0 r) holds in
    let ready = and_parts (can_start K r) (may_run_on K.plan K.options r beside.link.0) parts.0 in
    let few = small-rule K r valid small in
    both (can_start K r) _ ready.0 (by_row beside.stated refl (under-link K beside r is few ready.1 parts.1 most_bytes few.bound))
  where
    by_row : (stated : Option Stating) → beside.stated ≡ stated → is_under (record (link_limits beside.link.0 beside.stated beside.occupied) { bound = most_bytes }) (taken_of K r) ≡ true
        → is_under (link_limits beside.link.0 beside.stated beside.occupied) (taken_of K r) ≡ true
    by_row None none under =
        ap (λ s. is_under (link_limits beside.link.0 s beside.occupied) (taken_of K r)) none ∙ sym (ap (λ s. is_under (record (link_limits beside.link.0 s beside.occupied) { bound = most_bytes }) (taken_of K r)) none) ∙ under
    by_row (Some stated) states under =
        ap (λ s. is_under (link_limits beside.link.0 s beside.occupied) (taken_of K r)) states ∙ sym (ap (λ s. is_under (record (link_limits beside.link.0 s beside.occupied) { bound = most_bytes }) (taken_of K r)) states) ∙ under

pub startable-candidates : (K : Known) (beside : Beside) → IsBeside K beside → IsValid K.plan → ((f : ℕ) → known_bytes K f ≤ most_bytes)
    → AreCandidates K (record (link_limits beside.link.0 beside.stated beside.occupied) { bound = room_in K }) (λ r. is_ready_for K beside.link.0 r && (fits_link K beside.link.0 r && has_storage K r))
startable-candidates K beside is valid small r inside holds =
    let parts = and_parts (is_ready_for K beside.link.0 r) (fits_link K beside.link.0 r && has_storage K r) holds in
    let ready = and_parts (can_start K r) (may_run_on K.plan K.options r beside.link.0) parts.0 in
    let fits = and_parts (fits_link K beside.link.0 r) (has_storage K r) parts.1 in
    let few = small-rule K r valid small in
    both (can_start K r) _ ready.0 (under-link K beside r is few ready.1 fits.0 (room_in K) (room_for K.limit (stored_sum K + reserved_sum K) (rule_bound K.plan r) few.bound fits.1))
