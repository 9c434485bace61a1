-- Seats that are visited, left and taken.
use Rattle.std.proofs.Common.{◌≡◌, ◌≢◌, ◌<◌, ℕ, Bool, true, false, List, [], ◌∷◌, ◌++◌, Option, None, Result, Ok, Err, refl, sym, ap, ◌∙◌, subst, arith}
use Rattle.std.specs.Prelude.{◌==◌, is_some, slice_set}
use Rattle.std.specs.List.{AllByRecursion}
use Rattle.std.proofs.lemmas.Bool.{eq-eqb, eqb-true}
use Rattle.std.proofs.lemmas.List.{append-nil}
use Rattle.flow_types.specs.declared.plan.Plan.{Plan}
use Rattle.flow_types.specs.declared.numbers.Amounts.{Amounts}
use Rattle.flow_types.specs.declared.numbers.LinkNo.{LinkNo}
use Rattle.flow_types.specs.declared.job.Job.{Job}
use Rattle.flow_types.specs.declared.job.Failure.{Failure}
use Rattle.flow_types.specs.declared.job.Start.{Start}
use Rattle.flow_types.specs.Serial.{Contents, Function}
use Rattle.run_history.specs.declared.links.JoinRefused.{JoinRefused}
use Rattle.run_history.specs.declared.links.JoinRefused.TheVariants as refused
use Rattle.run_history.specs.declared.moves.Move.{Move}
use Rattle.run_history.specs.declared.moves.Move.TheVariants as moves
use Rattle.run_history.specs.declared.options.Options.{Options}
use Rattle.run_history.specs.Links.{is_live, names_link, row_in}
use Rattle.outside.specs.Disk.{Outcomes}
use Rattle.outside.specs.Files.{Files}
use Rattle.worker_pool.specs.declared.hand.Tally.{Tally}
use Rattle.task_core.proofs.Linking.{local-row, named-row, other-row}
use Rattle.desk.specs.declared.attempt.Attempt.{Attempt}
use Rattle.desk.specs.Links.{Changes, Joins, Leaves}
use Rattle.desk.specs.State.{DeskState}
use Rattle.link_session.specs.declared.open.Open.{Open}
use Rattle.peers.specs.States.{PeerState}
use Rattle.peers.proofs.Opens.{all_map}
use Rattle.local_run.specs.declared.halt.Halt.{Halt}
use Rattle.local_run.specs.Beyond.{joined_by, left_by}
use Rattle.local_run.specs.Underway.{AwayState, HeldState, NoneOn, Underway}
use Rattle.wq_run.specs.Seats.{AreOn, AreSeats, AtPlace, IsAtPlace, IsAtSeat, IsGuest, IsManned, IsOpenAt, IsParting, IsUnseated, KeepsManned, KeepsSeat, LeavesSeat, Manned, Parts, PartsAt, SeatState, Stays, gathered}
use Rattle.wq_run.proofs.Shares.{from_place, from_seat, gathered_append, none_on, seats_join, seats_live, seats_spared, to_seat}
use Rattle.wq_run.proofs.Splits.{SplitAt}

-- ---- links that live

pub live_other : (O : Options) (M : List Move) (m : Move) (k : ℕ) → names_link k m ≡ false → is_live O M k ≡ true → is_live O (M ++ (m ∷ [])) k ≡ true
live_other O M m k other lives = ap is_some (other-row O M m k other) ∙ lives

-- a link that states something lives
live_named : (O : Options) (M : List Move) (m : Move) (k : ℕ) (b : Bool) → (k == 0) ≡ b → names_link k m ≡ true → is_some (row_in m) ≡ true → is_live O (M ++ (m ∷ [])) k ≡ true
live_named O M m k true here named states = ap is_some (local-row O (M ++ (m ∷ [])) k here)
live_named O M m k false here named states = ap is_some (named-row O M m k here named) ∙ states

live_by : (O : Options) (M : List Move) (m : Move) (k : ℕ) (b : Bool) → names_link k m ≡ b → is_some (row_in m) ≡ true → is_live O M k ≡ true → is_live O (M ++ (m ∷ [])) k ≡ true
live_by O M m k true named states lives = live_named O M m k (k == 0) refl named states
live_by O M m k false named states lives = live_other O M m k named lives

pub live_joined : (O : Options) (M : List Move) (link : LinkNo) (total largest : Amounts) (cache k : ℕ) → is_live O M k ≡ true → is_live O (M ++ (moves.Joined link total largest cache ∷ [])) k ≡ true
live_joined O M link total largest cache k lives = live_by O M (moves.Joined link total largest cache) k (link.0 == k) refl refl lives

pub live_changed : (O : Options) (M : List Move) (link : LinkNo) (total largest : Amounts) (cache k : ℕ) → is_live O M k ≡ true → is_live O (M ++ (moves.Changed link total largest cache ∷ [])) k ≡ true
live_changed O M link total largest cache k lives = live_by O M (moves.Changed link total largest cache) k (link.0 == k) refl refl lives

same_self : (n : ℕ) → (n == n) ≡ true
same_self n = eq-eqb n n refl

-- the one that joined lives
pub live_new : (O : Options) (M : List Move) (link : LinkNo) (total largest : Amounts) (cache : ℕ) → is_live O (M ++ (moves.Joined link total largest cache ∷ [])) link.0 ≡ true
live_new O M link total largest cache = live_named O M (moves.Joined link total largest cache) link.0 (link.0 == 0) refl (same_self link.0) refl

-- and the others live on where one leaves
pub live_left : (O : Options) (M : List Move) (link : LinkNo) (k : ℕ) → k ≢ link.0 → is_live O M k ≡ true → is_live O (M ++ (moves.Left link ∷ [])) k ≡ true
live_left O M link k other lives = by_name (link.0 == k) refl
  where
    by_name : (b : Bool) → (link.0 == k) ≡ b → is_live O (M ++ (moves.Left link ∷ [])) k ≡ true
    by_name true is = absurd (other (sym (eqb-true link.0 k is)))
    by_name false is = live_other O M (moves.Left link) k is lives

-- ---- over changes

pub change_live : {S : Type 0} (d after : DeskState S) (link : LinkNo) (total largest : Amounts) (cache : ℕ) (r : Result (Unit {0}) JoinRefused) → Changes d link total largest cache r after → (k : ℕ) → is_live d.options d.moves k ≡ true → is_live after.options after.moves k ≡ true
change_live {S} d after link total largest cache (Ok done) h k lives = subst (λ (a : DeskState S). is_live a.options a.moves k ≡ true) (sym h.1) (live_changed d.options d.moves link total largest cache k lives)
change_live {S} d after link total largest cache (Err refused.Memory) h k lives = subst (λ (a : DeskState S). is_live a.options a.moves k ≡ true) (sym h) lives
change_live {S} d after link total largest cache (Err refused.TooManyLinks) h k lives = subst (λ (a : DeskState S). is_live a.options a.moves k ≡ true) (sym h.1) lives
change_live {S} d after link total largest cache (Err refused.TooManyJoins) h k lives = subst (λ (a : DeskState S). is_live a.options a.moves k ≡ true) (sym h.1) lives

pub join_live : {S : Type 0} (d after : DeskState S) (total largest : Amounts) (cache : ℕ) (r : Result LinkNo JoinRefused) → Joins d total largest cache r after → (k : ℕ) → is_live d.options d.moves k ≡ true → is_live after.options after.moves k ≡ true
join_live {S} d after total largest cache (Ok link) h k lives = subst (λ (a : DeskState S). is_live a.options a.moves k ≡ true) (sym h.2) (live_joined d.options d.moves link total largest cache k lives)
join_live {S} d after total largest cache (Err refused.Memory) h k lives = subst (λ (a : DeskState S). is_live a.options a.moves k ≡ true) (sym h) lives
join_live {S} d after total largest cache (Err refused.TooManyLinks) h k lives = subst (λ (a : DeskState S). is_live a.options a.moves k ≡ true) (sym h.1) lives
join_live {S} d after total largest cache (Err refused.TooManyJoins) h k lives = subst (λ (a : DeskState S). is_live a.options a.moves k ≡ true) (sym h.1) lives

no_opens : (P : Plan) (os : List Open) → AllByRecursion (λ (o : Open). ⊥) os → AllByRecursion (IsOpenAt P []) os
no_opens P os none = all_map (λ (o : Open). ⊥) (IsOpenAt P []) (λ o wrong. absurd wrong) os none

unseated_end : {L : Type 0} (k : ℕ) (xs : List (SeatState L)) → IsUnseated k xs → IsUnseated k (xs ++ [])
unseated_end k xs none = subst (IsUnseated k) (sym (append-nil xs)) none

module _ {S : Type 0} (trust : Type 0) (gives : Function) (may_fail : Job → Failure → Type 0) (sources : Contents) (tells kept sure : Type 0) (files : S → Files) (may_leave : S → Outcomes) (moment : S → ℕ)
    (images_since : S → ℕ → Files → Type 0) where
  abbrev pub UnderBy : AwayState → DeskState S → DeskState S → List Attempt → List Start → Tally → Option Halt → Type 0
  UnderBy away first now held waiting heard halt = Underway trust gives may_fail sources tells kept sure files may_leave moment images_since away first now held waiting None heard halt

  module _ {L : Type 0} where
    abbrev pub ManBy : DeskState S → DeskState S → HeldState → List Start → Tally → List (SeatState L) → Type 0
    ManBy first now held waiting heard seats = Manned trust gives may_fail sources tells kept sure files may_leave moment images_since first now held waiting heard seats

    abbrev pub IsMan : DeskState S → HeldState → List (SeatState L) → Type 0
    IsMan now held seats = IsManned trust gives may_fail sources tells kept sure files may_leave moment images_since now held seats

    -- ---- a visit

    pub visit_at : (d : DeskState S) (held : HeldState) (seats : List (SeatState L)) (at : ℕ) (s : SeatState L) → SplitAt seats at s → IsMan d held seats → IsAtSeat trust gives may_fail sources tells kept sure files may_leave moment images_since d held s
    visit_at d held seats at s split is = record {
      front = gathered split.before;
      back = gathered split.behind;
      first = is.first;
      waiting = is.waiting;
      heard = is.heard;
      at = to_seat trust gives may_fail sources tells kept sure files may_leave moment images_since is.first d held is.waiting is.heard split.before s split.behind (subst (ManBy is.first d held is.waiting is.heard) split.are is.manned);
    }

    pub visit_ok : (d after : DeskState S) (held held_now : HeldState) (seats seats_now : List (SeatState L)) (at : ℕ) (s s_now : SeatState L) → SplitAt seats at s → seats_now ≡ slice_set seats at s_now
        → KeepsSeat trust gives may_fail sources tells kept sure files may_leave moment images_since d after held held_now s s_now
        → KeepsManned trust gives may_fail sources tells kept sure files may_leave moment images_since d after held held_now seats seats_now
    visit_ok d after held held_now seats seats_now at s s_now split now keeps first waiting heard m =
        let whole = subst (ManBy first d held waiting heard) split.are m in
        subst (ManBy first after held_now waiting heard) (sym (now ∙ split.set s_now))
        (from_seat trust gives may_fail sources tells kept sure files may_leave moment images_since first d after held held_now waiting heard split.before s s_now split.behind whole keeps.stays
        (keeps.keeps (gathered split.before) (gathered split.behind) first waiting heard
        (to_seat trust gives may_fail sources tells kept sure files may_leave moment images_since first d held waiting heard split.before s split.behind whole)))

    pub visit_err : (d after : DeskState S) (held held_now : HeldState) (seats seats_now : List (SeatState L)) (at : ℕ) (s s_now : SeatState L) → SplitAt seats at s → seats_now ≡ slice_set seats at s_now
        → LeavesSeat trust gives may_fail sources tells kept sure files may_leave moment images_since d after held held_now s s_now → (first : DeskState S) (waiting : List Start) (heard : Tally) → ManBy first d held waiting heard seats
        → PartsAt trust gives may_fail sources tells kept sure files may_leave moment images_since first after held_now waiting heard seats_now at
    visit_err d after held held_now seats seats_now at s s_now split now leaves first waiting heard m =
        let whole = subst (ManBy first d held waiting heard) split.are m in
        record {
          before = split.before;
          seat = s_now;
          behind = split.behind;
          are = now ∙ split.set s_now;
          place = split.place;
          parts = from_place trust gives may_fail sources tells kept sure files may_leave moment images_since first d after held held_now waiting heard split.before s s_now split.behind whole leaves.stays
              (leaves.leaves (gathered split.before) (gathered split.behind) first waiting heard
              (to_seat trust gives may_fail sources tells kept sure files may_leave moment images_since first d held waiting heard split.before s split.behind whole));
        }

    -- ---- leaving

    pub parting_at : (d : DeskState S) (held : HeldState) (others : List (SeatState L)) (s : SeatState L) → IsParting trust gives may_fail sources tells kept sure files may_leave moment images_since d held others s
        → IsAtPlace trust gives may_fail sources tells kept sure files may_leave moment images_since d held s
    parting_at d held others s is = record { front = gathered is.before; back = gathered is.behind; first = is.first; waiting = is.waiting; heard = is.heard; at = is.parts.at }

    -- The seat with nothing that runs there, and the others.
    pub record Emptied (first d after : DeskState S) (held_now : HeldState) (waiting : List Start) (heard : Tally) (before behind : List (SeatState L)) (s : SeatState L) : Type 0 where
      pub away : AwayState
      pub are : away.attempts ≡ gathered (before ++ behind)
      pub under : UnderBy away first after held_now.attempts waiting heard held_now.halt
      pub others : AreSeats after.plan after.options after.moves (before ++ behind)
      pub apart : IsUnseated s.link.0 (before ++ behind)
      pub beyond : 0 < s.link.0
      pub lives : is_live after.options after.moves s.link.0 ≡ true

    pub emptied : (first d after : DeskState S) (held held_now : HeldState) (waiting : List Start) (heard : Tally) (before behind : List (SeatState L)) (s s_now : SeatState L)
        → Parts trust gives may_fail sources tells kept sure files may_leave moment images_since first d held waiting heard before behind s → Stays d after s s_now → s_now.attempts ≡ []
        → AtPlace trust gives may_fail sources tells kept sure files may_leave moment images_since (gathered before) (gathered behind) first after held_now waiting heard s_now → Emptied first d after held_now waiting heard before behind s
    emptied first d after held held_now waiting heard before behind s s_now parts stays none at = record {
      away = at.away;
      are = at.are ∙ ap (λ (xs : List Attempt). gathered before ++ (xs ++ gathered behind)) none ∙ sym (gathered_append before behind);
      under = at.under;
      others = seats_live d.plan after.plan d.options after.options d.moves after.moves (at.under.goes.plan ∙ sym parts.at.under.goes.plan) (before ++ behind) stays.live parts.others;
      apart = parts.apart;
      beyond = parts.at.place.beyond;
      lives = stays.live s.link.0 parts.at.place.lives;
    }

    -- what a leave asks
    pub none_there : (first d after : DeskState S) (held_now : HeldState) (waiting : List Start) (heard : Tally) (before behind : List (SeatState L)) (s : SeatState L) → (e : Emptied first d after held_now waiting heard before behind s) → NoneOn s.link.0 e.away.attempts
    none_there first d after held_now waiting heard before behind s e =
        subst (NoneOn s.link.0) (sym e.are) (none_on after.plan after.options after.moves s.link.0 (before ++ behind) e.others e.apart)

    pub kept_whole : (first d after : DeskState S) (held_now : HeldState) (waiting : List Start) (heard : Tally) (before behind : List (SeatState L)) (s : SeatState L) → Emptied first d after held_now waiting heard before behind s → ManBy first after held_now waiting heard (before ++ behind)
    kept_whole first d after held_now waiting heard before behind s e = record { away = e.away; are = e.are; under = e.under; placed = e.others }

    pub left_whole : (first d after last : DeskState S) (held_now : HeldState) (waiting : List Start) (heard : Tally) (before behind : List (SeatState L)) (s : SeatState L) (link : LinkNo) → link ≡ s.link → (e : Emptied first d after held_now waiting heard before behind s)
        → Leaves after link last → UnderBy (left_by link e.away) first last held_now.attempts waiting heard held_now.halt → ManBy first last held_now waiting heard (before ++ behind)
    left_whole first d after last held_now waiting heard before behind s link same e leaves under = record {
      away = left_by link e.away;
      are = e.are;
      under = under;
      placed = seats_spared after.plan last.plan after.options last.options after.moves last.moves s.link.0 (ap (λ (x : DeskState S). x.plan) leaves) (before ++ behind) e.apart
          (λ k other lives. subst (λ (x : DeskState S). is_live x.options x.moves k ≡ true) (sym leaves) (live_left after.options after.moves link k (subst (λ (l : LinkNo). k ≢ l.0) (sym same) other) lives)) e.others;
    }

    -- ---- joining

    pub join_seats : (d after : DeskState S) (total largest : Amounts) (cache : ℕ) (r : Result LinkNo JoinRefused) (seats : List (SeatState L)) → Joins d total largest cache r after → AreSeats d.plan d.options d.moves seats → AreSeats after.plan after.options after.moves seats
    join_seats d after total largest cache r seats h are = seats_live d.plan after.plan d.options after.options d.moves after.moves (same_plan r h) seats (join_live d after total largest cache r h) are
      where
        same_plan : (r : Result LinkNo JoinRefused) → Joins d total largest cache r after → after.plan ≡ d.plan
        same_plan (Ok link) h = ap (λ (x : DeskState S). x.plan) h.2
        same_plan (Err refused.Memory) h = ap (λ (x : DeskState S). x.plan) h
        same_plan (Err refused.TooManyLinks) h = ap (λ (x : DeskState S). x.plan) h.1
        same_plan (Err refused.TooManyJoins) h = ap (λ (x : DeskState S). x.plan) h.1

    -- a call of join, of which no seat comes
    pub joins_none : (d after : DeskState S) (held : HeldState) (total largest : Amounts) (cache : ℕ) (r : Result LinkNo JoinRefused) (seats : List (SeatState L)) → Joins d total largest cache r after
        → ((away : AwayState) (first : DeskState S) (waiting : List Start) (heard : Tally) → UnderBy away first d held.attempts waiting heard held.halt → UnderBy (joined_by total largest cache r away) first after held.attempts waiting heard held.halt)
        → KeepsManned trust gives may_fail sources tells kept sure files may_leave moment images_since d after held held seats seats
    joins_none d after held total largest cache r seats h under first waiting heard m = record {
      away = joined_by total largest cache r m.away;
      are = same_attempts r ∙ m.are;
      under = under m.away first waiting heard m.under;
      placed = join_seats d after total largest cache r seats h m.placed;
    }
      where
        same_attempts : (r : Result LinkNo JoinRefused) → (joined_by total largest cache r m.away).attempts ≡ m.away.attempts
        same_attempts (Ok link) = refl
        same_attempts (Err why) = refl

    -- a new seat behind the others
    pub joins_one : {fact : PeerState L → Type 0} (d after : DeskState S) (held : HeldState) (total largest : Amounts) (cache : ℕ) (link : LinkNo) (seats : List (SeatState L)) (s : SeatState L) → (let r : Result LinkNo JoinRefused = Ok link in Joins d total largest cache r after)
        → ((away : AwayState) (first : DeskState S) (waiting : List Start) (heard : Tally) → UnderBy away first d held.attempts waiting heard held.halt → UnderBy (joined_by total largest cache (Ok link) away) first after held.attempts waiting heard held.halt)
        → s.link ≡ link → s.attempts ≡ [] → IsGuest fact s.peer → IsUnseated s.link.0 seats → KeepsManned trust gives may_fail sources tells kept sure files may_leave moment images_since d after held held seats (seats ++ (s ∷ []))
    joins_one d after held total largest cache link seats s h under on none guest apart first waiting heard m = record {
      away = joined_by total largest cache (Ok link) m.away;
      are = m.are ∙ sym (append-nil (gathered seats)) ∙ sym (ap (λ (xs : List Attempt). gathered seats ++ (xs ++ [])) none) ∙ sym (gathered_append seats (s ∷ []));
      under = under m.away first waiting heard m.under;
      placed = seats_join after.plan after.options after.moves seats s [] (record {
        seat = record {
          placed = record {
            beyond = subst (λ (l : LinkNo). 0 < l.0) (sym on) (let is = h.1 in omega (arith, is));
            lives = subst (λ (l : LinkNo). is_live after.options after.moves l.0 ≡ true) (sym on) (subst (λ (x : DeskState S). is_live x.options x.moves link.0 ≡ true) (sym h.2) (live_new d.options d.moves link total largest cache));
            there = subst (AreOn s.link.0) (sym none) tt;
          };
          opens = subst (λ (xs : List Attempt). AllByRecursion (IsOpenAt after.plan xs) s.peer.session.attempts) (sym none) (no_opens after.plan s.peer.session.attempts guest.opens);
          going = guest.going;
        };
        apart = unseated_end s.link.0 seats apart;
        rest = subst (AreSeats after.plan after.options after.moves) (sym (append-nil seats)) (join_seats d after total largest cache (Ok link) seats h m.placed);
      });
    }
