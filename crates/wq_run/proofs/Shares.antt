-- Seats among others, and what a run with workers has come to.
use Rattle.std.proofs.Common.{◌≡◌, ◌≢◌, ◌<◌, ℕ, true, List, [], ◌∷◌, ◌++◌, Option, None, refl, sym, ap, ◌∙◌, subst}
use Rattle.std.specs.List.{AllByRecursion}
use Rattle.std.proofs.lemmas.List.{append_assoc}
use Rattle.flow_types.specs.declared.plan.Plan.{Plan}
use Rattle.flow_types.specs.declared.numbers.LinkNo.{LinkNo}
use Rattle.flow_types.specs.declared.job.Job.{Job}
use Rattle.flow_types.specs.declared.job.Failure.{Failure}
use Rattle.flow_types.specs.declared.job.Start.{Start}
use Rattle.flow_types.specs.Serial.{Contents, Function}
use Rattle.run_history.specs.declared.moves.Move.{Move}
use Rattle.run_history.specs.declared.options.Options.{Options}
use Rattle.run_history.specs.Links.{is_live}
use Rattle.outside.specs.Disk.{Outcomes}
use Rattle.outside.specs.Files.{Files}
use Rattle.worker_pool.specs.declared.hand.Tally.{Tally}
use Rattle.desk.specs.declared.attempt.Attempt.{Attempt}
use Rattle.desk.specs.State.{DeskState}
use Rattle.link_session.specs.Sessions.{State}
use Rattle.local_run.specs.declared.halt.Halt.{Halt}
use Rattle.local_run.specs.Underway.{AwayState, HeldState, NoneOn, Underway}
use Rattle.local_run.proofs.Linked.{lives_by}
use Rattle.wq_run.specs.Seats.{AreOn, AreSeats, AtPlace, AtSeat, IsOpenAt, IsSeat, IsUnseated, KeepsSeat, LeavesSeat, Manned, Parts, SeatState, Stays, gathered}

-- ---- lists of seats

pub gathered_append : {L : Type 0} (xs ys : List (SeatState L)) → gathered (xs ++ ys) ≡ gathered xs ++ gathered ys
gathered_append [] ys = refl
gathered_append (x ∷ xs) ys = ap (λ (l : List Attempt). x.attempts ++ l) (gathered_append xs ys) ∙ sym (append_assoc x.attempts (gathered xs) (gathered ys))

pub unseated_less : {L : Type 0} (k : ℕ) (xs : List (SeatState L)) (s : SeatState L) (ys : List (SeatState L)) → IsUnseated k (xs ++ (s ∷ ys)) → IsUnseated k (xs ++ ys) × (s.link.0 ≢ k)
unseated_less k [] s ys none = (none.1, none.0)
unseated_less k (x ∷ xs) s ys none = let rest = unseated_less k xs s ys none.1 in ((none.0, rest.0), rest.1)

pub unseated_more : {L : Type 0} (k : ℕ) (xs : List (SeatState L)) (s : SeatState L) (ys : List (SeatState L)) → IsUnseated k (xs ++ ys) → s.link.0 ≢ k → IsUnseated k (xs ++ (s ∷ ys))
unseated_more k [] s ys none other = (other, none)
unseated_more k (x ∷ xs) s ys none other = (none.0, unseated_more k xs s ys none.1 other)

-- A seat among others, apart from them.
pub record Among {L : Type 0} (P : Plan) (O : Options) (M : List Move) (others : List (SeatState L)) (s : SeatState L) : Type 0 where
  pub seat : IsSeat P O M s
  pub apart : IsUnseated s.link.0 others
  pub rest : AreSeats P O M others

pub seats_split : {L : Type 0} (P : Plan) (O : Options) (M : List Move) (xs : List (SeatState L)) (s : SeatState L) (ys : List (SeatState L)) → AreSeats P O M (xs ++ (s ∷ ys)) → Among P O M (xs ++ ys) s
seats_split P O M [] s ys are = record { seat = are.0; apart = are.1; rest = are.2 }
seats_split P O M (x ∷ xs) s ys are =
    let among = seats_split P O M xs s ys are.2 in
    let less = unseated_less x.link.0 xs s ys are.1 in
    record { seat = among.seat; apart = ((λ is. less.1 (sym is)), among.apart); rest = (are.0, less.0, among.rest) }

pub seats_join : {L : Type 0} (P : Plan) (O : Options) (M : List Move) (xs : List (SeatState L)) (s : SeatState L) (ys : List (SeatState L)) → Among P O M (xs ++ ys) s → AreSeats P O M (xs ++ (s ∷ ys))
seats_join P O M [] s ys among = (among.seat, among.apart, among.rest)
seats_join P O M (x ∷ xs) s ys among = (
  among.rest.0,
  unseated_more x.link.0 xs s ys among.rest.1 (λ is. among.apart.0 (sym is)),
  seats_join P O M xs s ys (record { seat = among.seat; apart = among.apart.1; rest = among.rest.2 }),
)

-- none of the others has its link
pub apart_at : {L : Type 0} (P : Plan) (O : Options) (M : List Move) (xs : List (SeatState L)) (s : SeatState L) (ys seats : List (SeatState L)) → seats ≡ xs ++ (s ∷ ys) → AreSeats P O M seats → IsUnseated s.link.0 (xs ++ ys)
apart_at P O M xs s ys seats are placed = (seats_split P O M xs s ys (subst (AreSeats P O M) are placed)).apart

-- Seats stay seats where links live on.
pub seats_live : {L : Type 0} (P Q : Plan) (O N : Options) (M K : List Move) → Q ≡ P → (xs : List (SeatState L))
    → ((k : ℕ) → is_live O M k ≡ true → is_live N K k ≡ true) → AreSeats P O M xs → AreSeats Q N K xs
seats_live P Q O N M K same [] live are = tt
seats_live {L} P Q O N M K same (x ∷ xs) live are = (
  record {
    placed = record { beyond = are.0.placed.beyond; lives = live x.link.0 are.0.placed.lives; there = are.0.placed.there };
    opens = subst (λ (R : Plan). AllByRecursion (IsOpenAt R x.attempts) x.peer.session.attempts) (sym same) are.0.opens;
    going = are.0.going;
  },
  are.1,
  seats_live P Q O N M K same xs live are.2,
)

-- The same where all links but one live on, which none of them has.
pub seats_spared : {L : Type 0} (P Q : Plan) (O N : Options) (M K : List Move) (gone : ℕ) → Q ≡ P → (xs : List (SeatState L)) → IsUnseated gone xs
    → ((k : ℕ) → k ≢ gone → is_live O M k ≡ true → is_live N K k ≡ true) → AreSeats P O M xs → AreSeats Q N K xs
seats_spared P Q O N M K gone same [] un live are = tt
seats_spared P Q O N M K gone same (x ∷ xs) un live are = (
  record {
    placed = record { beyond = are.0.placed.beyond; lives = live x.link.0 un.0 are.0.placed.lives; there = are.0.placed.there };
    opens = subst (λ (R : Plan). AllByRecursion (IsOpenAt R x.attempts) x.peer.session.attempts) (sym same) are.0.opens;
    going = are.0.going;
  },
  are.1,
  seats_spared P Q O N M K gone same xs un.1 live are.2,
)

none_append : (k : ℕ) (xs ys : List Attempt) → NoneOn k xs → NoneOn k ys → NoneOn k (xs ++ ys)
none_append k [] ys left right = right
none_append k (x ∷ xs) ys left right = (left.0, none_append k xs ys left.1 right)

elsewhere : (k j : ℕ) (xs : List Attempt) → AreOn j xs → j ≢ k → NoneOn k xs
elsewhere k j [] on other = tt
elsewhere k j (x ∷ xs) on other = ((λ is. other (sym on.0 ∙ is)), elsewhere k j xs on.1 other)

-- What runs at other seats runs on other links.
pub none_on : {L : Type 0} (P : Plan) (O : Options) (M : List Move) (k : ℕ) (xs : List (SeatState L)) → AreSeats P O M xs → IsUnseated k xs → NoneOn k (gathered xs)
none_on P O M k [] are un = tt
none_on P O M k (x ∷ xs) are un = none_append k x.attempts (gathered xs) (elsewhere k x.link.0 x.attempts are.0.placed.there un.0) (none_on P O M k xs are.2 un.1)

-- ---- what the run has come to

module _ {S : Type 0} (trust : Type 0) (gives : Function) (may_fail : Job → Failure → Type 0) (sources : Contents) (tells kept sure : Type 0) (files : S → Files) (may_leave : S → Outcomes) (moment : S → ℕ)
    (images_since : S → ℕ → Files → Type 0) where
  abbrev pub UnderBy : AwayState → DeskState S → DeskState S → List Attempt → List Start → Tally → Option Halt → Type 0
  UnderBy away first now held waiting heard halt = Underway trust gives may_fail sources tells kept sure files may_leave moment images_since away first now held waiting None heard halt

  module _ {L : Type 0} where
    abbrev pub ManBy : DeskState S → DeskState S → HeldState → List Start → Tally → List (SeatState L) → Type 0
    ManBy first now held waiting heard seats = Manned trust gives may_fail sources tells kept sure files may_leave moment images_since first now held waiting heard seats

    abbrev pub SeatBy : List Attempt → List Attempt → DeskState S → DeskState S → HeldState → List Start → Tally → SeatState L → Type 0
    SeatBy front back first now held waiting heard s = AtSeat trust gives may_fail sources tells kept sure files may_leave moment images_since front back first now held waiting heard s

    abbrev pub PlaceBy : List Attempt → List Attempt → DeskState S → DeskState S → HeldState → List Start → Tally → SeatState L → Type 0
    PlaceBy front back first now held waiting heard s = AtPlace trust gives may_fail sources tells kept sure files may_leave moment images_since front back first now held waiting heard s

    -- one seat of the run
    pub to_seat : (first now : DeskState S) (held : HeldState) (waiting : List Start) (heard : Tally) (xs : List (SeatState L)) (s : SeatState L) (ys : List (SeatState L)) → ManBy first now held waiting heard (xs ++ (s ∷ ys))
        → SeatBy (gathered xs) (gathered ys) first now held waiting heard s
    to_seat first now held waiting heard xs s ys m = record {
      away = m.away;
      are = m.are ∙ gathered_append xs (s ∷ ys);
      under = m.under;
      seat = (seats_split now.plan now.options now.moves xs s ys m.placed).seat;
    }

  same_plan : (away next : AwayState) (first d after : DeskState S) (held held_now : HeldState) (waiting waiting_now : List Start) (heard heard_now : Tally) → UnderBy away first d held.attempts waiting heard held.halt
      → UnderBy next first after held_now.attempts waiting_now heard_now held_now.halt → after.plan ≡ d.plan
  same_plan away next first d after held held_now waiting waiting_now heard heard_now u v = v.goes.plan ∙ sym u.goes.plan

  module _ {L : Type 0} where
    -- and back
    pub from_seat : (first d after : DeskState S) (held held_now : HeldState) (waiting : List Start) (heard : Tally) (xs : List (SeatState L)) (s s_now : SeatState L) (ys : List (SeatState L)) → ManBy first d held waiting heard (xs ++ (s ∷ ys))
        → Stays d after s s_now → SeatBy (gathered xs) (gathered ys) first after held_now waiting heard s_now → ManBy first after held_now waiting heard (xs ++ (s_now ∷ ys))
    from_seat first d after held held_now waiting heard xs s s_now ys m stays at =
        let among = seats_split d.plan d.options d.moves xs s ys m.placed in
        let plan = same_plan m.away at.away first d after held held_now waiting waiting heard heard m.under at.under in
        record {
          away = at.away;
          are = at.are ∙ sym (gathered_append xs (s_now ∷ ys));
          under = at.under;
          placed = seats_join after.plan after.options after.moves xs s_now ys (record {
            seat = at.seat;
            apart = subst (λ (k : LinkNo). IsUnseated k.0 (xs ++ ys)) (sym stays.link) among.apart;
            rest = seats_live d.plan after.plan d.options after.options d.moves after.moves plan (xs ++ ys) stays.live among.rest;
          });
        }

    -- or one that is to be left
    pub from_place : (first d after : DeskState S) (held held_now : HeldState) (waiting : List Start) (heard : Tally) (xs : List (SeatState L)) (s s_now : SeatState L) (ys : List (SeatState L)) → ManBy first d held waiting heard (xs ++ (s ∷ ys))
        → Stays d after s s_now → PlaceBy (gathered xs) (gathered ys) first after held_now waiting heard s_now
        → Parts trust gives may_fail sources tells kept sure files may_leave moment images_since first after held_now waiting heard xs ys s_now
    from_place first d after held held_now waiting heard xs s s_now ys m stays at =
        let among = seats_split d.plan d.options d.moves xs s ys m.placed in
        let plan = same_plan m.away at.away first d after held held_now waiting waiting heard heard m.under at.under in
        record {
          at = at;
          others = seats_live d.plan after.plan d.options after.options d.moves after.moves plan (xs ++ ys) stays.live among.rest;
          apart = subst (λ (k : LinkNo). IsUnseated k.0 (xs ++ ys)) (sym stays.link) among.apart;
        }

  -- a link lives on over a call that leaves links alone
  pub lives_on : (away : AwayState) (first d after : DeskState S) (held held_now : List Attempt) (waiting waiting_now : List Start) (heard heard_now : Tally) (halt halt_now : Option Halt) → UnderBy away first d held waiting heard halt
      → UnderBy away first after held_now waiting_now heard_now halt_now → (k : ℕ) → is_live d.options d.moves k ≡ true → is_live after.options after.moves k ≡ true
  lives_on away first d after held held_now waiting waiting_now heard heard_now halt halt_now u v k lives =
      ap (λ (O : Options). is_live O after.moves k) v.goes.options
      ∙ lives_by trust gives may_fail sources tells kept sure files may_leave moment images_since away first after held_now waiting_now None heard_now halt_now first.options k v
      ∙ sym (lives_by trust gives may_fail sources tells kept sure files may_leave moment images_since away first d held waiting None heard halt first.options k u)
      ∙ sym (ap (λ (O : Options). is_live O d.moves k) u.goes.options) ∙ lives

  module _ {L : Type 0} where
    -- and so do all seats
    pub manned_on : (first d after : DeskState S) (held held_now : HeldState) (waiting waiting_now : List Start) (heard heard_now : Tally) (seats : List (SeatState L)) → (m : ManBy first d held waiting heard seats)
        → UnderBy m.away first after held_now.attempts waiting_now heard_now held_now.halt → ManBy first after held_now waiting_now heard_now seats
    manned_on first d after held held_now waiting waiting_now heard heard_now seats m v = record {
      away = m.away;
      are = m.are;
      under = v;
      placed = seats_live d.plan after.plan d.options after.options d.moves after.moves (same_plan m.away m.away first d after held held_now waiting waiting_now heard heard_now m.under v) seats
          (lives_on m.away first d after held.attempts held_now.attempts waiting waiting_now heard heard_now held.halt held_now.halt m.under v) m.placed;
    }

    -- what a call does to one seat, and then another
    pub keeps_then : (d mid after : DeskState S) (held held_mid held_now : HeldState) (s s_mid s_now : SeatState L) → KeepsSeat trust gives may_fail sources tells kept sure files may_leave moment images_since d mid held held_mid s s_mid
        → KeepsSeat trust gives may_fail sources tells kept sure files may_leave moment images_since mid after held_mid held_now s_mid s_now
        → KeepsSeat trust gives may_fail sources tells kept sure files may_leave moment images_since d after held held_now s s_now
    keeps_then d mid after held held_mid held_now s s_mid s_now one two = record {
      keeps = λ front back first waiting heard at. two.keeps front back first waiting heard (one.keeps front back first waiting heard at);
      stays = record { live = λ k lives. two.stays.live k (one.stays.live k lives); link = two.stays.link ∙ one.stays.link };
    }

    pub leaves_then : (d mid after : DeskState S) (held held_mid held_now : HeldState) (s s_mid s_now : SeatState L) → KeepsSeat trust gives may_fail sources tells kept sure files may_leave moment images_since d mid held held_mid s s_mid
        → LeavesSeat trust gives may_fail sources tells kept sure files may_leave moment images_since mid after held_mid held_now s_mid s_now
        → LeavesSeat trust gives may_fail sources tells kept sure files may_leave moment images_since d after held held_now s s_now
    leaves_then d mid after held held_mid held_now s s_mid s_now one two = record {
      leaves = λ front back first waiting heard at. two.leaves front back first waiting heard (one.keeps front back first waiting heard at);
      stays = record { live = λ k lives. two.stays.live k (one.stays.live k lives); link = two.stays.link ∙ one.stays.link };
    }

    -- one that is kept may be left
    pub may_leave_it : (d after : DeskState S) (held held_now : HeldState) (s s_now : SeatState L) → KeepsSeat trust gives may_fail sources tells kept sure files may_leave moment images_since d after held held_now s s_now
        → LeavesSeat trust gives may_fail sources tells kept sure files may_leave moment images_since d after held held_now s s_now
    may_leave_it d after held held_now s s_now keeps = record {
      leaves = λ front back first waiting heard at.
          let now = keeps.keeps front back first waiting heard at in
          record { away = now.away; are = now.are; under = now.under; place = now.seat.placed };
      stays = keeps.stays;
    }

    -- a call that changes the desk, what is held and why it stopped, and of the seat the peer alone
    pub keeps_by : (d after : DeskState S) (held held_now : HeldState) (s s_now : SeatState L) → s_now.link ≡ s.link → s_now.attempts ≡ s.attempts → s_now.peer.session ≡ s.peer.session
        → (s.peer.feed.stop ≡ None → s_now.peer.feed.stop ≡ None)
        → ((away : AwayState) (first : DeskState S) (waiting : List Start) (heard : Tally) → UnderBy away first d held.attempts waiting heard held.halt → UnderBy away first after held_now.attempts waiting heard held_now.halt)
        → ((k : ℕ) → is_live d.options d.moves k ≡ true → is_live after.options after.moves k ≡ true)
        → KeepsSeat trust gives may_fail sources tells kept sure files may_leave moment images_since d after held held_now s s_now
    keeps_by d after held held_now s s_now link attempts session going under live = record {
      keeps = λ front back first waiting heard at.
          let now = under at.away first waiting heard at.under in
          let plan = same_plan at.away at.away first d after held held_now waiting waiting heard heard at.under now in
          record {
            away = at.away;
            are = at.are ∙ ap (λ (xs : List Attempt). front ++ (xs ++ back)) (sym attempts);
            under = now;
            seat = record {
              placed = record {
                beyond = subst (λ (k : LinkNo). 0 < k.0) (sym link) at.seat.placed.beyond;
                lives = subst (λ (k : LinkNo). is_live after.options after.moves k.0 ≡ true) (sym link) (live s.link.0 at.seat.placed.lives);
                there = subst (λ (k : LinkNo). AreOn k.0 s_now.attempts) (sym link) (subst (AreOn s.link.0) (sym attempts) at.seat.placed.there);
              };
              opens = subst (λ (x : State). AllByRecursion (IsOpenAt after.plan s_now.attempts) x.attempts) (sym session)
                  (subst (λ (xs : List Attempt). AllByRecursion (IsOpenAt after.plan xs) s.peer.session.attempts) (sym attempts)
                  (subst (λ (P : Plan). AllByRecursion (IsOpenAt P s.attempts) s.peer.session.attempts) (sym plan) at.seat.opens));
              going = going at.seat.going;
            };
          };
      stays = record { live = live; link = link };
    }
