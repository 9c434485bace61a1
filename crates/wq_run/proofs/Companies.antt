-- What calls make of a company.
use Rattle.std.proofs.Common.{◌≡◌, ◌≢◌, ◌+◌, ◌<◌, ◌≤◌, ◌⊎◌, inl, inr, ⊎_elim, ℕ, zero, suc, Bool, false, true, List, [], ◌∷◌, ◌++◌, Option, Some, None, Result, Ok, Err, drop, length, length-append, refl, sym, ap, ◌∙◌, subst, arith, true≢false}
use Rattle.std.specs.Prelude.{◌==◌, ◌||◌, is_some, nat_lt, remove, slice_get, slice_index_or, slice_set, unwrap_or}
use Rattle.std.specs.List.{list_any}
use Rattle.std.proofs.lemmas.Bool.{eq-eqb, ltb-true}
use Rattle.std.proofs.lemmas.List.{append-nil}
use Rattle.std.proofs.lemmas.Option.{slice_get-get_or}
use Rattle.flow_types.specs.declared.plan.Plan.{Plan}
use Rattle.flow_types.specs.declared.numbers.Amounts.{Amounts}
use Rattle.flow_types.specs.declared.numbers.LinkNo.{LinkNo}
use Rattle.flow_types.specs.declared.job.Job.{Job}
use Rattle.flow_types.specs.declared.job.Failure.{Failure}
use Rattle.flow_types.specs.declared.job.Start.{Start}
use Rattle.flow_types.specs.Plans.{IsValid, is_empty}
use Rattle.flow_types.specs.Serial.{Contents, Function}
use Rattle.run_history.specs.declared.links.JoinRefused.{JoinRefused}
use Rattle.run_history.specs.Links.{is_live}
use Rattle.outside.specs.Disk.{Outcomes}
use Rattle.outside.specs.Files.{Files}
use Rattle.worker_pool.specs.declared.hand.Tally.{Tally}
use Rattle.desk.specs.declared.attempt.Attempt.{Attempt}
use Rattle.desk.specs.Links.{Joins, Leaves}
use Rattle.desk.specs.State.{DeskState}
use Rattle.peers.specs.declared.leave.Leave.{Leave}
use Rattle.peers.specs.States.{PeerState}
use Rattle.local_run.specs.declared.halt.Halt.{Halt}
use Rattle.local_run.specs.Beyond.{joined_by, left_by}
use Rattle.local_run.specs.Underway.{AwayState, HeldState, NoneOn, Underway}
use Rattle.wq_run.specs.Seats.{AreGuests, AreOn, AtPlace, CompanyState, IsGuest, IsManned, IsParting, IsPartingAt, IsUnseated, KeepsManned, Manned, Meets, Parts, PartsAt, SeatAfter, SeatState, SeatsAfter, Stays, Inside, KeepsNumbers, gathered, inside_of, links_in, seats_under, with_hand}
use Rattle.wq_run.proofs.Counting.{IsLike, meets_none, meets_then, numbers_back, numbers_like, numbers_lost, seated_as}
use Rattle.wq_run.proofs.Shares.{from_place, to_seat}
use Rattle.wq_run.proofs.Splits.{inside_length, rest_length, split_at}
use Rattle.wq_run.proofs.Visits.{emptied, joins_none, joins_one, kept_whole, left_whole, none_there, visit_err, visit_ok}

-- ---- counts, one behind another

module _ {L : Type 0} where
  pub same_met : {count : ℕ} {got : List (Option LinkNo × L)} {given idles : ℕ} {inside : Inside} {failed lost : Bool} → Meets count count got got given given idles idles inside inside failed failed lost lost
  same_met {count} {got} {given} {idles} {inside} {failed} {lost} = meets_none count got given idles inside failed lost

  pub met_then : {count count_mid count_now : ℕ} {got got_mid got_now : List (Option LinkNo × L)} {given given_mid given_now idles idles_mid idles_now : ℕ} {inside inside_mid inside_now : Inside} {failed failed_mid failed_now lost lost_mid lost_now : Bool}
      → Meets count count_mid got got_mid given given_mid idles idles_mid inside inside_mid failed failed_mid lost lost_mid
      → Meets count_mid count_now got_mid got_now given_mid given_now idles_mid idles_now inside_mid inside_now failed_mid failed_now lost_mid lost_now
      → Meets count count_now got got_now given given_now idles idles_now inside inside_now failed failed_now lost lost_now
  met_then one two = meets_then _ _ _ _ _ _ _ _ _ _ _ _ _ _ _ _ _ _ _ _ _ one two

  -- The hall is left alone.
  pub still_met : {count : ℕ} {got : List (Option LinkNo × L)} {given idles : ℕ} {inside inside_now : Inside} {failed failed_now lost lost_now : Bool} → IsLike inside inside_now → failed_now ≡ failed → lost_now ≡ lost
      → Meets count count got got given given idles idles inside inside_now failed failed_now lost lost_now
  still_met {count} {got} {given} {idles} {inside} {inside_now} {failed} {failed_now} {lost} {lost_now} like fails loses = record {
    later = omega arith;
    idles_later = omega arith;
    fails = λ is. inl (sym fails ∙ is);
    stays = λ is. fails ∙ is;
    counted = λ is. (sym loses ∙ is, record { more = []; are = sym (append-nil got); many = (let same = like.links in omega (arith, same)) });
    numbers = numbers_like got inside inside_now like;
  }

  -- The same, where the link in hand got a seat.
  pub seat_met : {count : ℕ} {got : List (Option LinkNo × L)} {given idles : ℕ} {inside inside_now : Inside} {failed failed_now lost lost_now : Bool} → inside_now.links ≡ inside.links → KeepsNumbers got got inside inside_now → failed_now ≡ failed → lost_now ≡ lost
      → Meets count count got got given given idles idles inside inside_now failed failed_now lost lost_now
  seat_met {count} {got} {given} {idles} {inside} {inside_now} {failed} {failed_now} {lost} {lost_now} same numbers fails loses = record {
    later = omega arith;
    idles_later = omega arith;
    fails = λ is. inl (sym fails ∙ is);
    stays = λ is. fails ∙ is;
    counted = λ is. (sym loses ∙ is, record { more = []; are = sym (append-nil got); many = omega (arith, same) });
    numbers = numbers;
  }

  -- What a call makes, with a link lost behind it.
  pub lost_met : {count count_now : ℕ} {got got_now : List (Option LinkNo × L)} {given given_now idles idles_now : ℕ} {inside inside_now other other_now : Inside} {failed failed_mid failed_then failed_now lost lost_then was : Bool}
      → Meets count count_now got got_now given given_now idles idles_now inside inside_now failed_mid failed_then lost lost_then → KeepsNumbers got got_now other other_now → failed_now ≡ failed_then → failed_mid ≡ failed
      → Meets count count_now got got_now given given_now idles idles_now other other_now failed failed_now was true
  lost_met met numbers now same = record {
    later = met.later;
    idles_later = met.idles_later;
    fails = λ is. ⊎_elim (λ before. inl (sym same ∙ before)) (λ rose. inr rose) (met.fails (sym now ∙ is));
    stays = λ is. now ∙ met.stays (same ∙ is);
    counted = λ is. absurd (true≢false is);
    numbers = numbers;
  }

-- The same of equal links, failures and losses before.
pub met_moved : {L : Type 0} {count count_now : ℕ} {got got_now : List (Option LinkNo × L)} {given given_now idles idles_now : ℕ} {inside other inside_now : Inside} {failed failed_then failed_now lost lost_then lost_now : Bool}
    → Meets count count_now got got_now given given_now idles idles_now inside inside_now failed failed_now lost lost_now → inside ≡ other → failed ≡ failed_then → lost ≡ lost_then
    → Meets count count_now got got_now given given_now idles idles_now other inside_now failed_then failed_now lost_then lost_now
met_moved {L} {count} {count_now} {got} {got_now} {given} {given_now} {idles} {idles_now} {inside} {other} {inside_now} {failed} {failed_then} {failed_now} {lost} {lost_then} {lost_now} met same fails loses =
    subst (λ (n : Inside). Meets count count_now got got_now given given_now idles idles_now n inside_now failed_then failed_now lost_then lost_now) same
    (subst (λ (b : Bool). Meets count count_now got got_now given given_now idles idles_now inside inside_now b failed_now lost_then lost_now) fails
    (subst (λ (b : Bool). Meets count count_now got got_now given given_now idles idles_now inside inside_now failed failed_now b lost_now) loses met))

-- A link was handed back.
pub back_met : {L : Type 0} {count count_now : ℕ} {got got_now : List (Option LinkNo × L)} {given given_now idles idles_now : ℕ} {inside : Inside} {failed lost : Bool} (x : Option LinkNo × L) → count_now ≡ count → got_now ≡ got ++ (x ∷ []) → given_now ≡ given → idles_now ≡ idles
    → Meets count count_now got got_now given given_now idles idles_now (with_hand x.0 inside) inside failed failed lost lost
back_met {L} {count} {count_now} {got} {got_now} {given} {given_now} {idles} {idles_now} {inside} x counts gots givens idle =
    let one : length (x ∷ []) ≡ 1 = refl in
    record {
      later = omega (arith, counts);
      idles_later = omega (arith, idle);
      fails = λ is. inl is;
      stays = λ is. is;
      counted = λ none. (none, record { more = x ∷ []; are = gots; many = omega (arith, one, givens) });
      numbers = numbers_back got got_now inside x gots;
    }

-- A link was lost since it couldn't be handed back.
pub unback_met : {L : Type 0} {count count_now : ℕ} {got got_now : List (Option LinkNo × L)} {given given_now idles idles_now : ℕ} {failed failed_now lost lost_now : Bool} (inside inside_now : Inside) (link : Option LinkNo) → count_now ≡ count → got_now ≡ got → idles_now ≡ idles
    → inside_now.newest ≡ inside.newest → ((k : ℕ) → inside_now.numbered k ≤ inside.numbered k) → failed_now ≡ failed → lost_now ≡ true → Meets count count_now got got_now given given_now idles idles_now (with_hand link inside) inside_now failed failed_now lost lost_now
unback_met {L} {count} {count_now} {got} {got_now} {given} {given_now} {idles} {idles_now} inside inside_now link counts gots idle newest fewer fails loses = record {
  later = omega (arith, counts);
  idles_later = omega (arith, idle);
  fails = λ is. inl (sym fails ∙ is);
  stays = λ is. fails ∙ is;
  counted = λ none. absurd (true≢false (sym loses ∙ none));
  numbers = numbers_lost got got_now inside inside_now link gots newest fewer;
}

-- The company is left alone.
pub met_same : {L : Type 0} {count : ℕ} {got : List (Option LinkNo × L)} {given idles : ℕ} {c c_now : CompanyState L} → c_now ≡ c → Meets count count got got given given idles idles (inside_of c) (inside_of c_now) c.failed c_now.failed c.lost c_now.lost
met_same {L} {count} {got} {given} {idles} {c} {c_now} same =
    still_met (record {
      links = ap (λ (x : CompanyState L). links_in x) same;
      fewer = λ k. let e = ap (λ (x : CompanyState L). seats_under k x.seats) same in omega (arith, e);
      newest = ap (λ (x : CompanyState L). x.newest) same;
    }) (ap (λ (x : CompanyState L). x.failed) same) (ap (λ (x : CompanyState L). x.lost) same)

-- A mark is set, which stays.
pub marked_met : {L : Type 0} {count : ℕ} {got : List (Option LinkNo × L)} {given idles : ℕ} {inside : Inside} {failed lost lost_now : Bool} → (lost_now ≡ false → lost ≡ false) → Meets count count got got given given idles idles inside inside failed failed lost lost_now
marked_met {L} {count} {got} {given} {idles} {inside} {failed} {lost} {lost_now} keeps =
    let met = meets_none count got given idles inside failed lost in
    record { later = met.later; idles_later = met.idles_later; fails = met.fails; stays = met.stays; counted = λ is. (keeps is, (met.counted (keeps is)).1); numbers = met.numbers }

-- with a link in hand, and the company otherwise the same
pub marked_hand : {L : Type 0} {count : ℕ} {got : List (Option LinkNo × L)} {given idles : ℕ} (link : Option LinkNo) (c c_now : CompanyState L) (lost_now : Bool) → (lost_now ≡ false → c.lost ≡ false) → c_now ≡ record c { lost = lost_now }
    → Meets count count got got given given idles idles (with_hand link (inside_of c)) (with_hand link (inside_of c_now)) c.failed c_now.failed c.lost c_now.lost
marked_hand {L} {count} {got} {given} {idles} link c c_now lost_now keeps same =
    subst (λ (x : CompanyState L). Meets count count got got given given idles idles (with_hand link (inside_of c)) (with_hand link (inside_of x)) c.failed x.failed c.lost x.lost) (sym same) (marked_met keeps)

-- ---- guests and seats

pub guests_more : {L : Type 0} {fact : PeerState L → Type 0} (guests : List (PeerState L)) (p : PeerState L) → AreGuests fact guests → IsGuest fact p → AreGuests fact (guests ++ (p ∷ []))
guests_more [] p are guest = (guest, tt)
guests_more (x ∷ guests) p are guest = (are.0, guests_more guests p are.1 guest)

pub guests_less : {L : Type 0} {fact : PeerState L → Type 0} (guests : List (PeerState L)) (p : PeerState L) → AreGuests fact (guests ++ (p ∷ [])) → AreGuests fact guests × IsGuest fact p
guests_less [] p are = (tt, are.0)
guests_less (x ∷ guests) p are = let rest = guests_less guests p are.1 in ((are.0, rest.0), rest.1)

-- the first and the others
pub guests_first : {L : Type 0} {fact : PeerState L → Type 0} (guests : List (PeerState L)) (p : PeerState L) → slice_get guests 0 ≡ Some p → AreGuests fact guests → AreGuests fact (remove guests 0) × IsGuest fact p
guests_first [] p is are = absurd (true≢false (sym (ap is_some is)))
guests_first {L} {fact} (x ∷ guests) p is are =
    let same : x ≡ p = ap (λ (o : Option (PeerState L)). unwrap_or o p) is in
    (are.1, subst (IsGuest fact) same are.0)

unseated_by : {L : Type 0} (k : ℕ) (s : SeatState L) (b c : Bool) → (s.link.0 == k) ≡ b → (b || c) ≡ false → (s.link.0 ≢ k) × (c ≡ false)
unseated_by k s true c is none = absurd (true≢false none)
unseated_by k s false c is none = ((λ same. true≢false (sym (eq-eqb s.link.0 k same) ∙ is)), none)

-- no seat is at this link
pub unseated_of : {L : Type 0} (k : ℕ) (seats : List (SeatState L)) → list_any (λ (s : SeatState L). s.link.0 == k) seats ≡ false → IsUnseated k seats
unseated_of k [] none = tt
unseated_of k (s ∷ seats) none =
    let by = unseated_by k s (s.link.0 == k) (list_any (λ x. x.link.0 == k) seats) refl none in
    (by.0, unseated_of k seats by.1)

both_none : {X : Type 0} (xs ys : List X) → xs ++ ys ≡ [] → (xs ≡ []) × (ys ≡ [])
both_none [] ys is = (refl, is)
both_none (x ∷ xs) ys is = let long = ap length is in let wrong : ⊥ = omega (arith, long) in absurd wrong

-- without the first
pub fewer_first : {X : Type 0} (xs : List X) → length xs ≢ 0 → length (remove xs 0) + 1 ≡ length xs
fewer_first [] some = absurd (some refl)
fewer_first (x ∷ xs) some = omega arith

-- Nothing runs at the last one nor at the others.
pub gathered_less : {L : Type 0} (xs : List (SeatState L)) (s : SeatState L) → gathered (xs ++ (s ∷ [])) ≡ [] → (gathered xs ≡ []) × (s.attempts ≡ [])
gathered_less [] s is = (refl, (both_none s.attempts [] is).0)
gathered_less (x ∷ xs) s is =
    let both = both_none x.attempts (gathered (xs ++ (s ∷ []))) is in
    let rest = gathered_less xs s both.1 in
    (ap (λ (l : List Attempt). l ++ gathered xs) both.0 ∙ rest.0, rest.1)

none_in : {X : Type 0} (xs : List X) → is_empty xs ≡ true → xs ≡ []
none_in [] is = refl
none_in (x ∷ xs) is = absurd (true≢false (sym is))

-- Nothing runs at one, nor at those behind it.
pub idle_step : {L : Type 0} (at : ℕ) (seats : List (SeatState L)) (s : SeatState L) → slice_get seats at ≡ Some s → is_empty s.attempts ≡ true → gathered (drop (suc at) seats) ≡ [] → gathered (drop at seats) ≡ []
idle_step at [] s is none rest = absurd (true≢false (sym (ap is_some is)))
idle_step {L} zero (x ∷ seats) s is none rest =
    let same : x ≡ s = ap (λ (o : Option (SeatState L)). unwrap_or o s) is in
    ap (λ (l : List Attempt). l ++ gathered seats) (ap (λ (z : SeatState L). z.attempts) same ∙ none_in s.attempts none) ∙ rest
idle_step (suc at) (x ∷ seats) s is none rest = idle_step at seats s is none rest

pub idle_next : {L : Type 0} (at : ℕ) (seats : List (SeatState L)) (s : SeatState L) → slice_get seats at ≡ Some s → is_empty s.attempts ≡ true → gathered (drop (at + 1) seats) ≡ [] → gathered (drop at seats) ≡ []
idle_next at seats s is none rest = let next : at + 1 ≡ suc at = omega arith in idle_step at seats s is none (subst (λ n. gathered (drop n seats) ≡ []) next rest)

index_or_length : {X : Type 0} (before : List X) (x : X) (behind : List X) (d : X) → slice_index_or (before ++ (x ∷ behind)) (length before) d ≡ x
index_or_length [] x behind d = refl
index_or_length (y ∷ before) x behind d = index_or_length before x behind d

-- the one at this place
pub taken_at : {X : Type 0} (xs : List X) (at : ℕ) (y : X) (before : List X) (x : X) (behind : List X) → xs ≡ before ++ (x ∷ behind) → length before ≡ at → y ≡ slice_index_or xs at y → y ≡ x
taken_at {X} xs at y before x behind are place is =
    is ∙ ap (λ (l : List X). slice_index_or l at y) are ∙ ap (λ n. slice_index_or (before ++ (x ∷ behind)) n y) (sym place) ∙ index_or_length before x behind y

-- and the others
pub rest_at : {X : Type 0} (xs : List X) (at : ℕ) (before : List X) (x : X) (behind : List X) → xs ≡ before ++ (x ∷ behind) → length before ≡ at → remove xs at ≡ before ++ behind
rest_at {X} xs at before x behind are place = ap (λ (l : List X). remove l at) are ∙ ap (λ n. remove (before ++ (x ∷ behind)) n) (sym place) ∙ rest_length before x behind

-- ---- what the run has come to

-- what a leave asks
pub record MayLeave {S : Type 0} (trust : Type 0) (gives : Function) (may_fail : Job → Failure → Type 0) (sources : Contents) (tells kept sure : Type 0) (files : S → Files) (may_leave : S → Outcomes) (moment : S → ℕ)
    (images_since : S → ℕ → Files → Type 0) (after : DeskState S) (link : LinkNo) : Type 0 where
  pub apart : 0 < link.0
  pub lives : is_live after.options after.moves link.0 ≡ true
  pub none : (away : AwayState) × (first : DeskState S) × (held : List Attempt) × (waiting : List Start) × (heard : Tally) × (halt : Option Halt) × NoneOn link.0 away.attempts
      × Underway trust gives may_fail sources tells kept sure files may_leave moment images_since away first after held waiting None heard halt

module _ {S : Type 0} {trust : Type 0} {gives : Function} {may_fail : Job → Failure → Type 0} {sources : Contents} {tells kept sure : Type 0} {files : S → Files} {may_leave : S → Outcomes} {moment : S → ℕ} {images_since : S → ℕ → Files → Type 0} where
  module _ {L : Type 0} where
    pub is_then : {d after : DeskState S} {held held_now : HeldState} {seats seats_now : List (SeatState L)} → IsManned trust gives may_fail sources tells kept sure files may_leave moment images_since d held seats
        → KeepsManned trust gives may_fail sources tells kept sure files may_leave moment images_since d after held held_now seats seats_now
        → IsManned trust gives may_fail sources tells kept sure files may_leave moment images_since after held_now seats_now
    is_then is keeps = record { first = is.first; waiting = is.waiting; heard = is.heard; manned = keeps is.first is.waiting is.heard is.manned }

    pub valid_then : {d after : DeskState S} {held held_now : HeldState} {seats seats_now : List (SeatState L)} → IsManned trust gives may_fail sources tells kept sure files may_leave moment images_since d held seats
        → KeepsManned trust gives may_fail sources tells kept sure files may_leave moment images_since d after held held_now seats seats_now
        → IsValid d.plan → IsValid after.plan
    valid_then is keeps valid = subst IsValid (sym ((keeps is.first is.waiting is.heard is.manned).under.goes.plan ∙ sym is.manned.under.goes.plan)) valid

    pub standing_then : {d after : DeskState S} {held held_now : HeldState} {seats seats_now : List (SeatState L)} (stands : Plan → Type 0) → IsManned trust gives may_fail sources tells kept sure files may_leave moment images_since d held seats
        → KeepsManned trust gives may_fail sources tells kept sure files may_leave moment images_since d after held held_now seats seats_now
        → stands d.plan → stands after.plan
    standing_then stands is keeps so = subst stands (sym ((keeps is.first is.waiting is.heard is.manned).under.goes.plan ∙ sym is.manned.under.goes.plan)) so

    -- the same seats
    pub man_as : {first d : DeskState S} {held : HeldState} {waiting : List Start} {heard : Tally} {seats seats_now : List (SeatState L)} → seats_now ≡ seats
        → Manned trust gives may_fail sources tells kept sure files may_leave moment images_since first d held waiting heard seats → Manned trust gives may_fail sources tells kept sure files may_leave moment images_since first d held waiting heard seats_now
    man_as {first} {d} {held} {waiting} {heard} same m = subst (λ (xs : List (SeatState L)). Manned trust gives may_fail sources tells kept sure files may_leave moment images_since first d held waiting heard xs) (sym same) m

    pub is_as : {d : DeskState S} {held : HeldState} {seats seats_now : List (SeatState L)} → seats_now ≡ seats
        → IsManned trust gives may_fail sources tells kept sure files may_leave moment images_since d held seats → IsManned trust gives may_fail sources tells kept sure files may_leave moment images_since d held seats_now
    is_as {d} {held} same is = subst (λ (xs : List (SeatState L)). IsManned trust gives may_fail sources tells kept sure files may_leave moment images_since d held xs) (sym same) is

    -- the plan is the same one at a seat that is to be left
    pub valid_parts : {d after : DeskState S} {held held_now : HeldState} {seats seats_now : List (SeatState L)} {at : ℕ} → (is : IsManned trust gives may_fail sources tells kept sure files may_leave moment images_since d held seats)
        → PartsAt trust gives may_fail sources tells kept sure files may_leave moment images_since is.first after held_now is.waiting is.heard seats_now at
        → IsValid d.plan → IsValid after.plan
    valid_parts is parts valid = subst IsValid (sym (parts.parts.at.under.goes.plan ∙ sym is.manned.under.goes.plan)) valid

    pub inside_parts : {first now : DeskState S} {held : HeldState} {waiting : List Start} {heard : Tally} {seats : List (SeatState L)} {at : ℕ} → PartsAt trust gives may_fail sources tells kept sure files may_leave moment images_since first now held waiting heard seats at
        → at < length seats
    inside_parts parts =
        let inside = inside_length parts.before parts.seat parts.behind in
        let place = parts.place in
        let many = ap length parts.are in
        omega (arith, inside, place, many)

    -- the seat at this place, which was taken out
    pub parts_of : {first d : DeskState S} {held : HeldState} {waiting : List Start} {heard : Tally} {seats : List (SeatState L)} {at : ℕ} {s : SeatState L} → (p : PartsAt trust gives may_fail sources tells kept sure files may_leave moment images_since first d held waiting heard seats at)
        → s ≡ slice_index_or seats at s → Parts trust gives may_fail sources tells kept sure files may_leave moment images_since first d held waiting heard p.before p.behind s
    parts_of {first} {d} {held} {waiting} {heard} {seats} {at} {s} p is =
        subst (λ (x : SeatState L). Parts trust gives may_fail sources tells kept sure files may_leave moment images_since first d held waiting heard p.before p.behind x) (sym (taken_at seats at s p.before p.seat p.behind p.are p.place is)) p.parts

    pub parting_of : {d : DeskState S} {held : HeldState} {seats others : List (SeatState L)} {at : ℕ} {s : SeatState L} → others ≡ remove seats at → s ≡ slice_index_or seats at s
        → IsPartingAt trust gives may_fail sources tells kept sure files may_leave moment images_since d held seats at → IsParting trust gives may_fail sources tells kept sure files may_leave moment images_since d held others s
    parting_of {d} {held} {seats} {others} {at} {s} rest is p = record {
      before = p.parts.before;
      behind = p.parts.behind;
      are = rest ∙ rest_at seats at p.parts.before p.parts.seat p.parts.behind p.parts.are p.parts.place;
      first = p.first;
      waiting = p.waiting;
      heard = p.heard;
      parts = parts_of p.parts is;
    }

    -- the last of the seats, which has another peer by now
    pub last_parts : {first d : DeskState S} {held : HeldState} {waiting : List Start} {heard : Tally} (seats others : List (SeatState L)) (s s_now : SeatState L) → seats ≡ others ++ (s ∷ []) → s_now.link ≡ s.link → s_now.attempts ≡ s.attempts
        → Manned trust gives may_fail sources tells kept sure files may_leave moment images_since first d held waiting heard seats
        → Parts trust gives may_fail sources tells kept sure files may_leave moment images_since first d held waiting heard others [] s_now
    last_parts {first} {d} {held} {waiting} {heard} seats others s s_now are link attempts m =
        let whole = subst (λ (xs : List (SeatState L)). Manned trust gives may_fail sources tells kept sure files may_leave moment images_since first d held waiting heard xs) are m in
        let at = to_seat trust gives may_fail sources tells kept sure files may_leave moment images_since first d held waiting heard others s [] whole in
        from_place trust gives may_fail sources tells kept sure files may_leave moment images_since first d d held held waiting heard others s s_now [] whole (record { live = λ k lives. lives; link = link }) (record {
          away = at.away;
          are = at.are ∙ ap (λ (xs : List Attempt). gathered others ++ (xs ++ [])) (sym attempts);
          under = at.under;
          place = record {
            beyond = subst (λ (k : LinkNo). 0 < k.0) (sym link) at.seat.placed.beyond;
            lives = subst (λ (k : LinkNo). is_live d.options d.moves k.0 ≡ true) (sym link) at.seat.placed.lives;
            there = subst (λ (k : LinkNo). AreOn k.0 s_now.attempts) (sym link) (subst (AreOn s.link.0) (sym attempts) at.seat.placed.there);
          };
        })

    pub last_is : {d : DeskState S} {held : HeldState} (seats others : List (SeatState L)) (s s_now : SeatState L) → seats ≡ others ++ (s ∷ []) → s_now.link ≡ s.link → s_now.attempts ≡ s.attempts
        → IsManned trust gives may_fail sources tells kept sure files may_leave moment images_since d held seats → IsParting trust gives may_fail sources tells kept sure files may_leave moment images_since d held others s_now
    last_is seats others s s_now are link attempts is = record {
      before = others;
      behind = [];
      are = sym (append-nil others);
      first = is.first;
      waiting = is.waiting;
      heard = is.heard;
      parts = last_parts seats others s s_now are link attempts is.manned;
    }

    -- a guest gets its seat, or its link is handed back
    pub seated : {fact : PeerState L → Type 0} (d after : DeskState S) (total largest : Amounts) (cache : ℕ) (link : LinkNo) (seats seats_now : List (SeatState L)) (s : SeatState L) → (let r : Result LinkNo JoinRefused = Ok link in Joins d total largest cache r after)
        → ((held : List Attempt) (halt : Option Halt) (away : AwayState) (first : DeskState S) (waiting : List Start) (heard : Tally) → Underway trust gives may_fail sources tells kept sure files may_leave moment images_since away first d held waiting None heard halt
        → Underway trust gives may_fail sources tells kept sure files may_leave moment images_since (joined_by total largest cache (Ok link) away) first after held waiting None heard halt)
        → s.link ≡ link → s.attempts ≡ [] → IsGuest fact s.peer → (seats_now ≡ seats) ⊎ (IsUnseated s.link.0 seats × (seats_now ≡ seats ++ (s ∷ []))) → (held : HeldState)
        → KeepsManned trust gives may_fail sources tells kept sure files may_leave moment images_since d after held held seats seats_now
    seated d after total largest cache link seats seats_now s h under on none guest now held first waiting heard m =
        ⊎_elim
        (λ same. subst (λ (xs : List (SeatState L)). Manned trust gives may_fail sources tells kept sure files may_leave moment images_since first after held waiting heard xs) (sym same)
        (joins_none trust gives may_fail sources tells kept sure files may_leave moment images_since d after held total largest cache (Ok link) seats h (under held.attempts held.halt) first waiting heard m))
        (λ more. subst (λ (xs : List (SeatState L)). Manned trust gives may_fail sources tells kept sure files may_leave moment images_since first after held waiting heard xs) (sym more.1)
        (joins_one trust gives may_fail sources tells kept sure files may_leave moment images_since d after held total largest cache link seats s h (under held.attempts held.halt) on none guest more.0 first waiting heard m))
        now

    -- ---- a seat that was taken out, once nothing runs there

    pub leave_asks : (d after : DeskState S) (held held_now : HeldState) (others : List (SeatState L)) (s s_now : SeatState L) (link : LinkNo) → (is : IsParting trust gives may_fail sources tells kept sure files may_leave moment images_since d held others s) → Stays d after s s_now → s_now.attempts ≡ []
        → ((front back : List Attempt) (first : DeskState S) (waiting : List Start) (heard : Tally) → AtPlace trust gives may_fail sources tells kept sure files may_leave moment images_since front back first d held waiting heard s
        → AtPlace trust gives may_fail sources tells kept sure files may_leave moment images_since front back first after held_now waiting heard s_now) → link ≡ s.link → MayLeave trust gives may_fail sources tells kept sure files may_leave moment images_since after link
    leave_asks d after held held_now others s s_now link is stays none keeps same =
        let e = emptied trust gives may_fail sources tells kept sure files may_leave moment images_since is.first d after held held_now is.waiting is.heard is.before is.behind s s_now is.parts stays none
        (keeps (gathered is.before) (gathered is.behind) is.first is.waiting is.heard is.parts.at) in
        let on = none_there trust gives may_fail sources tells kept sure files may_leave moment images_since is.first d after held_now is.waiting is.heard is.before is.behind s e in
        record {
          apart = subst (λ (l : LinkNo). 0 < l.0) (sym same) e.beyond;
          lives = subst (λ (l : LinkNo). is_live after.options after.moves l.0 ≡ true) (sym same) e.lives;
          none = (e.away, is.first, held_now.attempts, is.waiting, is.heard, held_now.halt, subst (λ (l : LinkNo). NoneOn l.0 e.away.attempts) (sym same) on, e.under);
        }

    -- The desk works no more, and the link isn't left there.
    pub parted_still : {first d after : DeskState S} {held held_now : HeldState} {waiting : List Start} {heard : Tally} {before behind seats : List (SeatState L)} {s s_now : SeatState L} → Stays d after s s_now → s_now.attempts ≡ []
        → ((front back : List Attempt) (first : DeskState S) (waiting : List Start) (heard : Tally) → AtPlace trust gives may_fail sources tells kept sure files may_leave moment images_since front back first d held waiting heard s
        → AtPlace trust gives may_fail sources tells kept sure files may_leave moment images_since front back first after held_now waiting heard s_now) → seats ≡ before ++ behind
        → Parts trust gives may_fail sources tells kept sure files may_leave moment images_since first d held waiting heard before behind s → Manned trust gives may_fail sources tells kept sure files may_leave moment images_since first after held_now waiting heard seats
    parted_still {first} {d} {after} {held} {held_now} {waiting} {heard} {before} {behind} {seats} {s} {s_now} stays none keeps are parts =
        let e = emptied trust gives may_fail sources tells kept sure files may_leave moment images_since first d after held held_now waiting heard before behind s s_now parts stays none
        (keeps (gathered before) (gathered behind) first waiting heard parts.at) in
        subst (λ (xs : List (SeatState L)). Manned trust gives may_fail sources tells kept sure files may_leave moment images_since first after held_now waiting heard xs) (sym are)
        (kept_whole trust gives may_fail sources tells kept sure files may_leave moment images_since first d after held_now waiting heard before behind s e)

    -- The link is left there.
    pub parted_left : {first d after last : DeskState S} {held held_now : HeldState} {waiting : List Start} {heard : Tally} {before behind seats : List (SeatState L)} {s s_now : SeatState L} {link : LinkNo} → Stays d after s s_now → s_now.attempts ≡ []
        → ((front back : List Attempt) (first : DeskState S) (waiting : List Start) (heard : Tally) → AtPlace trust gives may_fail sources tells kept sure files may_leave moment images_since front back first d held waiting heard s
        → AtPlace trust gives may_fail sources tells kept sure files may_leave moment images_since front back first after held_now waiting heard s_now) → link ≡ s.link → Leaves after link last
        → ((away : AwayState) → Underway trust gives may_fail sources tells kept sure files may_leave moment images_since away first after held_now.attempts waiting None heard held_now.halt
        → Underway trust gives may_fail sources tells kept sure files may_leave moment images_since (left_by link away) first last held_now.attempts waiting None heard held_now.halt) → seats ≡ before ++ behind
        → Parts trust gives may_fail sources tells kept sure files may_leave moment images_since first d held waiting heard before behind s → Manned trust gives may_fail sources tells kept sure files may_leave moment images_since first last held_now waiting heard seats
    parted_left {first} {d} {after} {last} {held} {held_now} {waiting} {heard} {before} {behind} {seats} {s} {s_now} {link} stays none keeps same leaves under are parts =
        let e = emptied trust gives may_fail sources tells kept sure files may_leave moment images_since first d after held held_now waiting heard before behind s s_now parts stays none
        (keeps (gathered before) (gathered behind) first waiting heard parts.at) in
        subst (λ (xs : List (SeatState L)). Manned trust gives may_fail sources tells kept sure files may_leave moment images_since first last held_now waiting heard xs) (sym are)
        (left_whole trust gives may_fail sources tells kept sure files may_leave moment images_since first d after last held_now waiting heard before behind s link same e leaves (under e.away e.under))

module _ {S : Type 0} (trust : Type 0) (gives : Function) (may_fail : Job → Failure → Type 0) (sources : Contents) (tells kept sure : Type 0) (files : S → Files) (may_leave : S → Outcomes) (moment : S → ℕ)
    (images_since : S → ℕ → Files → Type 0) where
  module _ {L A : Type 0} where
    -- what a call makes of a seat keeps its number
    pub link_stays : (d after : DeskState S) (held held_now : HeldState) (s s_now : SeatState L) (result : Result A Leave) → SeatAfter trust gives may_fail sources tells kept sure files may_leave moment images_since d after held held_now s s_now result → s_now.link ≡ s.link
    link_stays d after held held_now s s_now (Ok x) keeps = keeps.stays.link
    link_stays d after held held_now s s_now (Err leave) leaves = leaves.stays.link

    -- what a call makes of the seats by what it makes of one
    pub visited : (d after : DeskState S) (held held_now : HeldState) (seats seats_now : List (SeatState L)) (at : ℕ) (s s_now : SeatState L) (result : Result A Leave) → slice_get seats at ≡ Some s → seats_now ≡ slice_set seats at s_now
        → SeatAfter trust gives may_fail sources tells kept sure files may_leave moment images_since d after held held_now s s_now result
        → SeatsAfter trust gives may_fail sources tells kept sure files may_leave moment images_since at d after held held_now seats seats_now result
    visited d after held held_now seats seats_now at s s_now (Ok x) is now keeps = visit_ok trust gives may_fail sources tells kept sure files may_leave moment images_since d after held held_now seats seats_now at s s_now (split_at seats at s is) now keeps
    visited d after held held_now seats seats_now at s s_now (Err leave) is now leaves = visit_err trust gives may_fail sources tells kept sure files may_leave moment images_since d after held held_now seats seats_now at s s_now (split_at seats at s is) now leaves

-- what was lent of a list stands there
pub got_at : {X : Type 0} (xs : List X) (at : ℕ) (x : X) → true ≡ nat_lt at (length xs) → x ≡ slice_index_or xs at x → slice_get xs at ≡ Some x
got_at {X} xs at x within is = slice_get-get_or xs at x (ltb-true at (length xs) (sym within)) ∙ ap (λ (y : X). Some y) (sym is)

-- as many as before
pub set_many : {X : Type 0} (xs : List X) (at : ℕ) (x y : X) → slice_get xs at ≡ Some x → length (slice_set xs at y) ≡ length xs
set_many xs at x y is =
    let split = split_at xs at x is in
    let now = ap length (split.set y) in
    let were = ap length split.are in
    let many = length-append split.before (y ∷ split.behind) in
    let all = length-append split.before (x ∷ split.behind) in
    omega (arith, now, were, many, all)

-- as many seats of each number as before
pub set_seated : {L : Type 0} (xs : List (SeatState L)) (at : ℕ) (x y : SeatState L) → slice_get xs at ≡ Some x → y.link ≡ x.link → (k : ℕ) → seats_under k (slice_set xs at y) ≡ seats_under k xs
set_seated xs at x y is same k =
    let split = split_at xs at x is in
    ap (seats_under k) (split.set y) ∙ seated_as k split.before split.behind x y same ∙ sym (ap (seats_under k) split.are)

-- The hall failed.
pub failed_met : {L : Type 0} {count count_now : ℕ} {got got_now : List (Option LinkNo × L)} {given given_now idles idles_now : ℕ} {inside inside_now : Inside} {failed failed_now lost lost_now : Bool} → failed_now ≡ true → count < count_now → got_now ≡ got → given_now ≡ given → idles ≤ idles_now → IsLike inside inside_now → lost_now ≡ lost
    → Meets count count_now got got_now given given_now idles idles_now inside inside_now failed failed_now lost lost_now
failed_met {L} {count} {count_now} {got} {got_now} {given} {given_now} {idles} {idles_now} {inside} {inside_now} {failed} {failed_now} {lost} {lost_now} sets more gots givens idle like loses = record {
  later = omega (arith, more);
  idles_later = idle;
  fails = λ is. inr more;
  stays = λ is. sets;
  counted = λ is. (sym loses ∙ is, record { more = []; are = gots ∙ sym (append-nil got); many = (let same = like.links in omega (arith, same, givens)) });
  numbers = subst (λ (xs : List (Option LinkNo × L)). KeepsNumbers got xs inside inside_now) (sym gots) (numbers_like got inside inside_now like);
}

-- There was no memory for a link.
pub lacking_met : {L : Type 0} {count count_now : ℕ} {got got_now : List (Option LinkNo × L)} {given given_now idles idles_now : ℕ} {inside inside_now : Inside} {failed failed_now lost lost_now : Bool} → count ≤ count_now → got_now ≡ got → idles ≤ idles_now → IsLike inside inside_now → failed_now ≡ failed → lost_now ≡ true
    → Meets count count_now got got_now given given_now idles idles_now inside inside_now failed failed_now lost lost_now
lacking_met {L} {count} {count_now} {got} {got_now} {given} {given_now} {idles} {idles_now} {inside} {inside_now} {failed} {failed_now} {lost} {lost_now} later gots idle like fails loses = record {
  later = later;
  idles_later = idle;
  fails = λ is. inl (sym fails ∙ is);
  stays = λ is. fails ∙ is;
  counted = λ none. absurd (true≢false (sym loses ∙ none));
  numbers = subst (λ (xs : List (Option LinkNo × L)). KeepsNumbers got xs inside inside_now) (sym gots) (numbers_like got inside inside_now like);
}
