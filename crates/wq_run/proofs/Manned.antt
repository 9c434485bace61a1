-- Over a hall that is manned for what the rules need no run waits in vain.
use Rattle.std.proofs.Common.{◌≡◌, ◌≤◌, ◌<◌, ◌+◌, ⊎_elim, inl, ◌∙◌, ℕ, Bool, true, false, not, ◌&&◌, List, [], ◌∷◌, Option, Some, None, Result, Ok, Err, length, refl, sym, ap, subst, arith, true≢false}
use Rattle.std.specs.Prelude.{◌||◌, IfOk, OnOk, is_none, nat_le, nat_lt, unwrap_or}
use Rattle.std.specs.List.{AllByRecursion, list_all, list_any}
use Rattle.std.proofs.lemmas.Bool.{and_parts, le-leb, ltb-false, ltb-true}
use Rattle.std.proofs.lemmas.List.{append-nil}
use Rattle.flow_types.specs.declared.plan.Plan.{Plan}
use Rattle.flow_types.specs.declared.numbers.Amounts.{Amounts}
use Rattle.flow_types.specs.declared.numbers.LinkNo.{LinkNo}
use Rattle.flow_types.specs.declared.numbers.Needs.{Needs}
use Rattle.flow_types.specs.declared.numbers.Needs.TheVariants as needs
use Rattle.flow_types.specs.declared.job.Failure.{Failure}
use Rattle.flow_types.specs.declared.job.Job.{Job}
use Rattle.flow_types.specs.declared.records.Record.{Record}
use Rattle.flow_types.specs.Plans.{is_empty, most_input_bytes, numbers, rule_numbers}
use Rattle.flow_types.specs.Serial.{Function}
use Rattle.run_history.specs.declared.answers.Check.{Check}
use Rattle.run_history.specs.declared.answers.Check.TheVariants as checks
use Rattle.run_history.specs.declared.moves.Move.{Move}
use Rattle.run_history.specs.declared.options.Options.{Options}
use Rattle.run_history.specs.Admissions.{Admitting, is_in_vain_by, may_be_stored}
use Rattle.run_history.specs.Answers.{before_end, has_link, passes_inputs}
use Rattle.run_history.specs.Links.{Load, amounts_on, fits, has_room, is_at_most, is_live, is_local_rule, leaves_amounts, leaves_bytes, load_of, may_run_on, most_tasks, needs_of, no_amounts, records_of, with_amounts}
use Rattle.run_history.specs.Moves.{joins_and_changes, next_link}
use Rattle.run_history.specs.Storage.{input_bytes, is_ready, ready_rules, running_rules, wanted}
use Rattle.run_history.proofs.Bools.{both, filter_keeps, range_all}
use Rattle.run_history.proofs.Going.{idle-fits}
use Rattle.links.specs.declared.passing.Passed.{Passed}
use Rattle.links.specs.Honesty.{IsAtLeast, IsOfferOf, OffersAtLeast}
use Rattle.links.specs.Passings.{received_in}
use Rattle.task_core.proofs.Collecting.{any-filter}
use Rattle.local_run.specs.declared.ended.Stopped.{Stopped}
use Rattle.local_run.specs.declared.halt.Halt.{Halt}
use Rattle.wq_run.specs.Calm.{Asked, IsSureOf, IsSureCompany, IsSureSeat}
use Rattle.wq_run.specs.Earned.{AreEarnedIf, OffersAsStated, row_of}
use Rattle.wq_run.specs.Ends.{EndsHere, IsVain}
use Rattle.wq_run.specs.Keeping.{KeepsOn}
use Rattle.wq_run.specs.Seats.{AreSeats, CompanyState, SeatState}
use Rattle.wq_run.specs.Vain.{IfWaited, NeedsAtMost, TakesNone, fits_empty}
use Rattle.wq_run.proofs.Vain.{Because, IsVainOffer, IsVainSeat, any_range, seats_vain, waits_by}

-- ---- a rule among these

-- It passes the test, and whatever all pass.
pub record Found (p : ℕ → Bool) (xs : List ℕ) : Type 0 where
  pub rule : ℕ
  pub so : p rule ≡ true
  pub each : (q : ℕ → Bool) → list_all q xs ≡ true → q rule ≡ true

found_in : (p : ℕ → Bool) (x : ℕ) (xs : List ℕ) → (list_any p xs ≡ true → Found p xs) → (b : Bool) → p x ≡ b → list_any p (x ∷ xs) ≡ true → Found p (x ∷ xs)
found_in p x xs rest true here is = record { rule = x; so = here; each = λ q all. (and_parts (q x) (list_all q xs) all).0 }
found_in p x xs rest false here is =
    let f = rest (ap (λ (b : Bool). b || list_any p xs) (sym here) ∙ is) in
    record { rule = f.rule; so = f.so; each = λ q all. f.each q (and_parts (q x) (list_all q xs) all).1 }

found : (p : ℕ → Bool) (xs : List ℕ) → list_any p xs ≡ true → Found p xs
found p [] is = absurd (true≢false (sym is))
found p (x ∷ xs) is = found_in p x xs (λ more. found p xs more) (p x) refl is

-- ---- what fits

at_most : (a b : Amounts) → a.cores ≤ b.cores → a.memory ≤ b.memory → a.disk ≤ b.disk → is_at_most a b ≡ true
at_most a b cores memory disk =
    both (nat_le a.cores b.cores && nat_le a.memory b.memory) (nat_le a.disk b.disk) (both (nat_le a.cores b.cores) (nat_le a.memory b.memory) (le-leb a.cores b.cores cores) (le-leb a.memory b.memory memory)) (le-leb a.disk b.disk disk)

up_to : (a b c : ℕ) → a ≤ b → b ≤ c → a ≤ c
up_to a b c one two = omega (arith, one, two)

none_up_to : (a b c : ℕ) → a ≤ b → b ≤ c → 0 + a ≤ c
none_up_to a b c one two = omega (arith, one, two)

amounts_left : (total largest : Amounts) (cache : ℕ) (least : Amounts) (n : Needs) → IsAtLeast least total → IsAtLeast least largest → ((amounts : Amounts) → n ≡ needs.Stated amounts → IsAtLeast amounts least) → leaves_amounts 1 (row_of total largest cache) [] n ≡ true
amounts_left total largest cache least needs.Whole one two within = refl
amounts_left total largest cache least (needs.Stated a) one two within =
    let up = within a refl in
    both (is_at_most a largest) (is_at_most (with_amounts no_amounts a) total)
    (at_most a largest (up_to a.cores least.cores largest.cores up.cores two.cores) (up_to a.memory least.memory largest.memory up.memory two.memory) (up_to a.disk least.disk largest.disk up.disk two.disk))
    (at_most (with_amounts no_amounts a) total (none_up_to a.cores least.cores total.cores up.cores one.cores) (none_up_to a.memory least.memory total.memory up.memory one.memory) (none_up_to a.disk least.disk total.disk up.disk one.disk))

-- A rule that states no more than these amounts, and has no more inputs than one job may have, fits a link that offers them, with nothing running there.
fits_offered : (P : Plan) (O : Options) (H : List Record) (least total largest : Amounts) (cache r : ℕ) → IsOfferOf least total largest cache → may_run_on P O r 1 ≡ true → ((amounts : Amounts) → needs_of P r ≡ needs.Stated amounts → IsAtLeast amounts least)
    → passes_inputs P H r ≡ false → fits_empty P O H 1 (row_of total largest cache) r ≡ true
fits_offered P O H least total largest cache r offer may within small =
    let none : List Load = [] in
    let few = ltb-false most_input_bytes (input_bytes P H r) small in
    both (may_run_on P O r 1) (has_room 1 (row_of total largest cache) none (load_of P H r)) may
    (both (nat_lt (length none) most_tasks && leaves_amounts 1 (row_of total largest cache) none (needs_of P r)) (leaves_bytes (Some cache) none (input_bytes P H r))
    (both (nat_lt (length none) most_tasks) (leaves_amounts 1 (row_of total largest cache) none (needs_of P r)) refl (amounts_left total largest cache least (needs_of P r) offer.total_is offer.largest_is within))
    (le-leb (0 + input_bytes P H r) cache (none_up_to (input_bytes P H r) most_input_bytes cache few offer.cache_is)))

-- A rule that needs no more than there is fits the local place, with nothing running there.
has_here : (P : Plan) (O : Options) (M : List Move) (r : ℕ) → is_empty (running_rules P (records_of M)) ≡ true → may_run_on P O r 0 ≡ true → is_at_most (amounts_on 0 O.local (needs_of P r)) O.local ≡ true → has_link P O M r ≡ true
has_here P O M r idle may within =
    let p : ℕ → Bool = λ x. may_run_on P O r x && fits P O M r x in
    let fit : p 0 ≡ true = both (may_run_on P O r 0) (fits P O M r 0) may (idle-fits P O M r idle within) in
    any-filter (is_live O M) p (numbers (next_link M)) ∙ any_range (λ x. is_live O M x && p x) (next_link M) 0 0 (omega arith) (omega arith) fit

not_both : (s h : Bool) → s ≡ true → (not s || not h) ≡ true → h ≡ true → ⊥
not_both true true one so two = true≢false (sym so)
not_both true false one so two = true≢false (sym two)
not_both false h one so two = true≢false (sym one)

elsewhere : (l w : Bool) → (l || not w) ≡ false → (not l && w) ≡ true
elsewhere true w is = absurd (true≢false is)
elsewhere false true is = refl
elsewhere false false is = absurd (true≢false is)

-- ---- a wait

-- A ready rule that fits the storage fits the local place, or such a link.
never_left_over : (A : Admitting) (P : Plan) (O : Options) (M : List Move) (least total largest : Amounts) (cache r : ℕ) → is_empty (running_rules P (records_of M)) ≡ true → may_be_stored A P O (records_of M) r ≡ true
    → (not (may_be_stored A P O (records_of M) r) || not (has_link P O M r)) ≡ true → (not (may_be_stored A P O (records_of M) r) || not (fits_empty P O (records_of M) 1 (row_of total largest cache) r)) ≡ true
    → r < length P.rules → IsOfferOf least total largest cache → NeedsAtMost P O least → passes_inputs P (records_of M) r ≡ false → (here : Bool) → may_run_on P O r 0 ≡ here → ⊥
never_left_over A P O M least total largest cache r idle storage unlinked unfit inside offer most small true may =
    not_both (may_be_stored A P O (records_of M) r) (has_link P O M r) storage unlinked (has_here P O M r idle may (most.here r inside may))
never_left_over A P O M least total largest cache r idle storage unlinked unfit inside offer most small false may =
    not_both (may_be_stored A P O (records_of M) r) (fits_empty P O (records_of M) 1 (row_of total largest cache) r) storage unfit
    (fits_offered P O (records_of M) least total largest cache r offer (elsewhere (is_local_rule P r) O.wq may) (λ amounts states. most.there r amounts inside may states) small)

-- So waiting isn't in vain where such a link is there.
not_vain : (A : Admitting) (P : Plan) (O : Options) (M : List Move) (least total largest : Amounts) (cache : ℕ) → is_in_vain_by A P O M ≡ true → TakesNone A P O (records_of M) (row_of total largest cache) → IsOfferOf least total largest cache → NeedsAtMost P O least → ((r : ℕ) → passes_inputs P (records_of M) r ≡ false) → ⊥
not_vain A P O M least total largest cache vain takes offer most small =
    let H : List Record = records_of M in
    let some : Bool = list_any (may_be_stored A P O H) (ready_rules P H) in
    let every : Bool = list_all (λ r. not (may_be_stored A P O H r) || not (has_link P O M r)) (ready_rules P H) in
    let idle : Bool = is_empty (running_rules P H) && is_none (wanted P O.mode H) in
    let parts = and_parts (idle && some) every vain in
    let firsts = and_parts idle some parts.0 in
    let idle_parts = and_parts (is_empty (running_rules P H)) (is_none (wanted P O.mode H)) firsts.0 in
    let f = found (may_be_stored A P O H) (ready_rules P H) firsts.1 in
    let within = filter_keeps (λ r. nat_lt r (length P.rules)) (is_ready P H) (rule_numbers P) (range_all 0 (length P.rules) (length P.rules) (omega arith)) in
    never_left_over A P O M least total largest cache f.rule idle_parts.0 f.so (f.each (λ r. not (may_be_stored A P O H r) || not (has_link P O M r)) parts.1)
    (f.each (λ r. not (may_be_stored A P O H r) || not (fits_empty P O H 1 (row_of total largest cache) r)) (takes 1 (omega arith)))
    (ltb-true f.rule (length P.rules) (f.each (λ r. nat_lt r (length P.rules)) within)) offer most (small f.rule) (may_run_on P O f.rule 0) refl

-- nor where a link offered as much
offer_never : (A : Admitting) (P : Plan) (O : Options) (M : List Move) (least : Amounts) (up : List ℕ) → is_in_vain_by A P O M ≡ true → IsVainOffer A P O (records_of M) up → OffersAtLeast least up → NeedsAtMost P O least → ((r : ℕ) → passes_inputs P (records_of M) r ≡ false) → ⊥
offer_never A P O M least up vain shown offers most small =
    let o = shown.1 in
    not_vain A P O M least o.total o.largest o.cache vain (subst (TakesNone A P O (records_of M)) o.is shown.2)
    (⊎_elim (λ hello. offers.hello o.total o.largest o.cache hello) (λ totals. offers.totals o.total o.largest o.cache totals) o.came) most small

-- ---- a whole run

-- no rule's inputs pass their limit by the records before the end
abbrev pub AreSmall : Plan → List Move → Type 0
AreSmall P all = (r : ℕ) → passes_inputs P (before_end (records_of all)) r ≡ false

module _ {L : Type 0} (gives : Function) (may_fail : Job → Failure → Type 0) (history : L → List Passed) (count idles : L → ℕ) (closed : L → Bool) (limit : ℕ) where
  -- what the seats' links stated was offered there
  pub stated_ended : {X E : Type 0} (ill : LinkNo → L → Type 0) (M all : List Move) (c c_now : CompanyState L) (got got_now : List (Option LinkNo × L)) (r : Result X E) → c.seats ≡ [] → (let none : Option Halt = None in OnOk r (KeepsOn ill history M all none none c c_now got got_now))
      → OnOk r ((c_now.failed ≡ false) × (c_now.lost ≡ false)) → OnOk r (AllByRecursion (OffersAsStated history all) c_now.seats)
  stated_ended ill M all c c_now got got_now (Ok x) none keeps sound =
      let first : (let halt : Option Halt = None in AreEarnedIf ill history got M M halt c got) = λ halt fine kept. record { links = []; are = sym (append-nil got); each = tt; joins = omega arith; offered = subst (AllByRecursion (OffersAsStated history M)) (sym none) tt } in
      (keeps.earns.goes got M first refl sound.0 sound.1).offered
  stated_ended ill M all c c_now got got_now (Err why) none keeps sound = tt

  module _ (sure : L → Type 0) (offers : L → Amounts → Type 0) (asked : Asked) (offers_is : (way : L) → offers way asked.least → OffersAtLeast asked.least (received_in (history way))) (A : Admitting) (P : Plan) (O : Options) (most : NeedsAtMost P O asked.least) where
    abbrev Relied : L → Type 0
    Relied way = IsSureOf sure offers (Some asked) way

    seats_never : (M : List Move) → is_in_vain_by A P O M ≡ true → ((r : ℕ) → passes_inputs P (records_of M) r ≡ false) → (seats : List (SeatState L)) → 0 < length seats → AllByRecursion (IsSureSeat gives may_fail history Relied) seats
        → AllByRecursion (λ (s : SeatState L). IsVainSeat A P O (records_of M) (Some s.link) (received_in (history s.peer.way))) seats → ⊥
    seats_never M vain small [] some are shown = (let wrong : ⊥ = omega (arith, some) in wrong)
    seats_never M vain small (s ∷ seats) some are shown = offer_never A P O M asked.least (received_in (history s.peer.way)) vain shown.0.1 (offers_is s.peer.way (are.0.tended.surely.offering asked refl)) most small

    module _ (rise : ℕ) (all : List Move) (c : CompanyState L) (coming unmet : Type 0) (some : 1 ≤ limit) (unrisen : unmet → rise ≤ 0) (placed : AreSeats P O all c.seats) where
      waited : (check : Check) (ended : EndsHere A P O limit rise all check) → Because ended.ends.stop check → IsSureCompany gives may_fail history idles Relied coming unmet all c → AllByRecursion (OffersAsStated history all) c.seats → IfWaited check (c.guests ≡ []) → IfWaited check (AreSmall P all → ⊥)
      waited (checks.Waited wait) ended because is stated alone = λ small.
          let M = ended.ends.moves in
          let vain = subst (IsVain A P O M limit rise) because ended.ends.vain in
          let shown = seats_vain gives may_fail history count idles closed limit A P O M all ended.more vain.2 ended.are ended.none c.seats placed stated in
          let least : limit ≤ wait.idles = vain.0 in
          let up : wait.idles ≤ rise = vain.1 in
          ⊎_elim (λ unmet. let none = unrisen unmet in let wrong : ⊥ = omega (arith, some, none, least, up) in wrong)
          (λ there. let guests = ap length alone in
          seats_never M vain.2 (subst (λ (H : List Record). (r : ℕ) → passes_inputs P H r ≡ false) (sym ended.ends.logged) small) c.seats (omega (arith, there, guests)) is.links.seats shown)
          is.met
      waited (checks.Complete collected) ended because is stated alone = tt
      waited (checks.CommandFailed rule why) ended because is stated alone = tt
      waited (checks.InputsTooLarge rule total) ended because is stated alone = tt
      waited (checks.LogFull records) ended because is stated alone = tt
      waited (checks.NoRoom rule need bytes most_bytes) ended because is stated alone = tt
      waited checks.Going ended because is stated alone = tt
      waited checks.Halted ended because is stated alone = tt

      -- What a whole run shows.
      pub manned_whole : (r : Result Check Stopped) → OnOk r (IsSureCompany gives may_fail history idles Relied coming unmet all c) → OnOk r (AllByRecursion (OffersAsStated history all) c.seats) → IfOk r (λ check. IfWaited check (c.guests ≡ [])) → IfOk r (EndsHere A P O limit rise all)
          → IfOk r (λ check. IfWaited check (AreSmall P all → ⊥))
      manned_whole (Ok check) is stated alone ended =
          waited check ended (subst (Because ended.ends.stop) (sym ended.ends.answer) (waits_by P O (before_end (records_of all)) ended.ends.stop)) is stated alone
      manned_whole (Err why) is stated alone ended = tt

-- ---- its beginning

pub none_asked : (a : Asked) → (let none : Option Asked = None in none ≡ Some a) → ⊥
none_asked a so = true≢false (ap is_none so)

pub same_asked : (asked a : Asked) → (let one : Option Asked = Some asked in one ≡ Some a) → asked ≡ a
same_asked asked a so = ap (λ (o : Option Asked). unwrap_or o asked) so

-- Nobody has come.
pub company_begins : {L : Type 0} (gives : Function) (may_fail : Job → Failure → Type 0) (history : L → List Passed) (idles : L → ℕ) (sure : L → Type 0) {coming unmet : Type 0} (M : List Move) (c : CompanyState L) → c ≡ record { seats = []; guests = []; failed = false; lost = false; newest = 0 } → joins_and_changes M ≡ 0
    → coming → unmet → IsSureCompany gives may_fail history idles sure coming unmet M c
company_begins {L} gives may_fail history idles sure {coming} {unmet} M c empty first hall still =
    subst (λ (x : CompanyState L). IsSureCompany gives may_fail history idles sure coming unmet M x) (sym empty)
    (record { links = record { hall = hall; seats = tt; guests = tt; joins = omega (arith, first) }; met = inl still })
