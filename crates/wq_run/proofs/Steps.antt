-- What calls at a seat come to, by what they answer.
use Rattle.std.proofs.Common.{◌≡◌, ◌∙◌, ◌<◌, ℕ, true, List, [], ◌∷◌, ◌++◌, Option, Some, None, Result, Ok, Err, refl, sym, ap, subst, true≢false}
use Rattle.std.specs.Prelude.{is_none}
use Rattle.std.proofs.lemmas.List.{append-nil}
use Rattle.std.specs.List.{AllByRecursion}
use Rattle.flow_types.specs.declared.plan.Plan.{Plan}
use Rattle.flow_types.specs.declared.numbers.Amounts.{Amounts}
use Rattle.flow_types.specs.declared.numbers.LinkNo.{LinkNo}
use Rattle.run_history.specs.declared.links.JoinRefused.{JoinRefused}
use Rattle.run_history.specs.Links.{is_live}
use Rattle.desk.specs.Links.{Changes}
use Rattle.local_run.specs.Beyond.{changed_by}
use Rattle.flow_types.specs.declared.job.Job.{Job}
use Rattle.flow_types.specs.declared.job.Failure.{Failure}
use Rattle.flow_types.specs.declared.job.Start.{Start}
use Rattle.flow_types.specs.Serial.{Contents, Function}
use Rattle.outside.specs.Disk.{Outcomes}
use Rattle.outside.specs.Files.{Files}
use Rattle.worker_pool.specs.declared.hand.Tally.{Tally}
use Rattle.desk.specs.declared.attempt.Attempt.{Attempt}
use Rattle.desk.specs.State.{DeskState}
use Rattle.peers.specs.declared.leave.Leave.{Leave}
use Rattle.local_run.specs.declared.halt.Halt.{Halt}
use Rattle.local_run.specs.Underway.{AwayState, HeldState, Underway, halt_after}
use Rattle.wq_run.specs.Seats.{AreOn, AtPlace, IsAtPlace, IsAtSeat, IsOpenAt, IsPlaced, KeepsSeat, LeavesSeat, SeatAfter, SeatState, Stays, seat_with}
use Rattle.wq_run.proofs.Closes.{EndsAway, lives_linked, place_less, stands}
use Rattle.link_session.specs.declared.open.Open.{Open}
use Rattle.link_session.specs.Sessions.{missed}
use Rattle.peers.specs.declared.told.Told.{Told as Saying}
use Rattle.peers.specs.Hears.{Hears}
use Rattle.desk.specs.declared.answers.Claim.{Claim}
use Rattle.desk.specs.declared.answers.Claim.TheVariants as claims
use Rattle.local_run.specs.Beyond.{claimed_by}
use Rattle.wq_run.proofs.Asks.{Begins, GoesBy}
use Rattle.wq_run.proofs.Told.{Heard, hears_on}
use Rattle.wq_run.proofs.Visits.{change_live}
use Rattle.wq_run.proofs.Shares.{keeps_then, leaves_then, may_leave_it}

-- nothing stopped the run
pub none_of : (h : Option Halt) → is_none h ≡ true → h ≡ None
none_of None is = refl
none_of (Some why) is = absurd (true≢false (sym is))

-- What a miss leaves of an open attempt is still of one of these.
pub missed_on : (P : Plan) (xs : List Attempt) (o : Open) → IsOpenAt P xs o → IsOpenAt P xs (missed o)
missed_on P xs o is = record { held = is.held; suits = is.suits }

module _ {S : Type 0} (trust : Type 0) (gives : Function) (may_fail : Job → Failure → Type 0) (sources : Contents) (tells kept sure : Type 0) (files : S → Files) (may_leave : S → Outcomes) (moment : S → ℕ)
    (images_since : S → ℕ → Files → Type 0) where
  abbrev UnderBy : AwayState → DeskState S → DeskState S → List Attempt → List Start → Tally → Option Halt → Type 0
  UnderBy away first now held waiting heard halt = Underway trust gives may_fail sources tells kept sure files may_leave moment images_since away first now held waiting None heard halt

  -- A call that leaves alone what goes on on links, where nothing had stopped the run.
  pub goes_by : {A : Type 0} (d after : DeskState S) (held held_now : HeldState) (r : Result A Halt) → held.halt ≡ None → held_now.attempts ≡ held.attempts → held_now.halt ≡ halt_after r None
      → ((away : AwayState) (first : DeskState S) (xs : List Attempt) (waiting : List Start) (heard : Tally) → UnderBy away first d xs waiting heard None → UnderBy away first after xs waiting heard (halt_after r None))
      → (away : AwayState) (first : DeskState S) (waiting : List Start) (heard : Tally) → UnderBy away first d held.attempts waiting heard held.halt → UnderBy away first after held_now.attempts waiting heard held_now.halt
  goes_by d after held held_now r none holds halts step away first waiting heard u =
      let v = step away first held.attempts waiting heard (subst (UnderBy away first d held.attempts waiting heard) none u) in
      subst (λ (xs : List Attempt). UnderBy away first after xs waiting heard held_now.halt) (sym holds) (subst (UnderBy away first after held.attempts waiting heard) (sym halts) v)

  -- A claim that gave a rule began its attempt.
  pub begins_by : (d after : DeskState S) (held : HeldState) (a : Attempt) (r : Result Claim Halt) → held.halt ≡ None → r ≡ Ok (claims.Taken a)
      → ((away : AwayState) (front back : List Attempt) (first : DeskState S) (xs : List Attempt) (waiting : List Start) (heard : Tally) → away.attempts ≡ front ++ back → UnderBy away first d xs waiting heard None → UnderBy (claimed_by r front back away) first after xs waiting heard (halt_after r None))
      → Begins trust gives may_fail sources tells kept sure files may_leave moment images_since d after held a
  begins_by d after held a r none is claim away front back first waiting heard are u =
      let v = claim away front back first held.attempts waiting heard are (subst (UnderBy away first d held.attempts waiting heard) none u) in
      subst (UnderBy (record away { attempts = front ++ (a ∷ back) }) first after held.attempts waiting heard) (sym none)
      (subst (λ (x : Result Claim Halt). UnderBy (claimed_by x front back away) first after held.attempts waiting heard (halt_after x None)) is v)

  -- One that gave none left alone what goes on on links.
  pub rests_by : (d after : DeskState S) (held held_now : HeldState) (r : Result Claim Halt) → held.halt ≡ None → ((front back : List Attempt) (away : AwayState) → claimed_by r front back away ≡ away) → held_now.attempts ≡ held.attempts → held_now.halt ≡ halt_after r None
      → ((away : AwayState) (front back : List Attempt) (first : DeskState S) (xs : List Attempt) (waiting : List Start) (heard : Tally) → away.attempts ≡ front ++ back → UnderBy away first d xs waiting heard None → UnderBy (claimed_by r front back away) first after xs waiting heard (halt_after r None))
      → GoesBy trust gives may_fail sources tells kept sure files may_leave moment images_since d after held held_now
  rests_by d after held held_now r none same holds halts claim =
      goes_by d after held held_now r none holds halts
      (λ away first xs waiting heard u. subst (λ (next : AwayState). UnderBy next first after xs waiting heard (halt_after r None)) (same away.attempts [] away)
      (claim away away.attempts [] first xs waiting heard (sym (append-nil away.attempts)) u))

  module _ {L : Type 0} where
    -- one that is kept, however it is answered
    pub after_kept : {A : Type 0} (d after : DeskState S) (held held_now : HeldState) (s s_now : SeatState L) (r : Result A Leave) → KeepsSeat trust gives may_fail sources tells kept sure files may_leave moment images_since d after held held_now s s_now
        → SeatAfter trust gives may_fail sources tells kept sure files may_leave moment images_since d after held held_now s s_now r
    after_kept d after held held_now s s_now (Ok x) keeps = keeps
    after_kept d after held held_now s s_now (Err leave) keeps = may_leave_it trust gives may_fail sources tells kept sure files may_leave moment images_since d after held held_now s s_now keeps

    -- one call behind another
    pub after_then : {A : Type 0} (d mid after : DeskState S) (held held_mid held_now : HeldState) (s s_mid s_now : SeatState L) (r : Result A Leave) → KeepsSeat trust gives may_fail sources tells kept sure files may_leave moment images_since d mid held held_mid s s_mid
        → SeatAfter trust gives may_fail sources tells kept sure files may_leave moment images_since mid after held_mid held_now s_mid s_now r → SeatAfter trust gives may_fail sources tells kept sure files may_leave moment images_since d after held held_now s s_now r
    after_then d mid after held held_mid held_now s s_mid s_now (Ok x) one two = keeps_then trust gives may_fail sources tells kept sure files may_leave moment images_since d mid after held held_mid held_now s s_mid s_now one two
    after_then d mid after held held_mid held_now s s_mid s_now (Err leave) one two = leaves_then trust gives may_fail sources tells kept sure files may_leave moment images_since d mid after held held_mid held_now s s_mid s_now one two

    -- What is kept is at a seat.
    pub at_then : (d after : DeskState S) (held held_now : HeldState) (s s_now : SeatState L) → IsAtSeat trust gives may_fail sources tells kept sure files may_leave moment images_since d held s
        → KeepsSeat trust gives may_fail sources tells kept sure files may_leave moment images_since d after held held_now s s_now → IsAtSeat trust gives may_fail sources tells kept sure files may_leave moment images_since after held_now s_now
    at_then d after held held_now s s_now is keeps = record {
      front = is.front;
      back = is.back;
      first = is.first;
      waiting = is.waiting;
      heard = is.heard;
      at = keeps.keeps is.front is.back is.first is.waiting is.heard is.at;
    }

    -- The plan stays.
    pub plan_kept : (d after : DeskState S) (held held_now : HeldState) (s s_now : SeatState L) → IsAtSeat trust gives may_fail sources tells kept sure files may_leave moment images_since d held s
        → KeepsSeat trust gives may_fail sources tells kept sure files may_leave moment images_since d after held held_now s s_now → after.plan ≡ d.plan
    plan_kept d after held held_now s s_now is keeps =
        let now = keeps.keeps is.front is.back is.first is.waiting is.heard is.at in now.under.goes.plan ∙ sym is.at.under.goes.plan

    -- The last attempt there was taken out, and has ended.
    its_rest : (s s_now : SeatState L) (a : Attempt) → s ≡ seat_with s_now (s_now.attempts ++ (a ∷ [])) → seat_with s (s_now.attempts ++ []) ≡ s_now
    its_rest s s_now a is = ap (λ (x : SeatState L). seat_with x (s_now.attempts ++ [])) is ∙ ap (seat_with s_now) (append-nil s_now.attempts)

    pub last_place : (front back : List Attempt) (first d after : DeskState S) (held held_now : HeldState) (waiting : List Start) (heard : Tally) (s s_now : SeatState L) (a : Attempt) (stopped : Option Halt → Option Halt) → s ≡ seat_with s_now (s_now.attempts ++ (a ∷ []))
        → held_now.attempts ≡ held.attempts → held_now.halt ≡ stopped held.halt → EndsAway trust gives may_fail sources tells kept sure files may_leave moment images_since d after a stopped
        → AtPlace trust gives may_fail sources tells kept sure files may_leave moment images_since front back first d held waiting heard s
        → AtPlace trust gives may_fail sources tells kept sure files may_leave moment images_since front back first after held_now waiting heard s_now
    last_place front back first d after held held_now waiting heard s s_now a stopped was holds halts ends at =
        let split : s.attempts ≡ s_now.attempts ++ (a ∷ []) = ap (λ (x : SeatState L). x.attempts) was in
        let e = ends at.away (front ++ s_now.attempts) ([] ++ back) first held.attempts waiting heard held.halt
        (stands trust gives may_fail sources tells kept sure files may_leave moment images_since front back first d held waiting heard s s_now.attempts a [] split at) at.under in
        subst (AtPlace trust gives may_fail sources tells kept sure files may_leave moment images_since front back first after held_now waiting heard) (its_rest s s_now a was)
        (place_less trust gives may_fail sources tells kept sure files may_leave moment images_since front back first d after held held_now waiting heard s s_now.attempts a [] e.0 split at e.1 e.2
        (subst (λ (xs : List Attempt). UnderBy e.0 first after xs waiting heard held_now.halt) (sym holds) (subst (UnderBy e.0 first after held.attempts waiting heard) (sym halts) e.3)))

    pub last_stays : (d after : DeskState S) (held : HeldState) (s s_now : SeatState L) (a : Attempt) (stopped : Option Halt → Option Halt) → s ≡ seat_with s_now (s_now.attempts ++ (a ∷ []))
        → EndsAway trust gives may_fail sources tells kept sure files may_leave moment images_since d after a stopped
        → IsAtPlace trust gives may_fail sources tells kept sure files may_leave moment images_since d held s → Stays d after s s_now
    last_stays d after held s s_now a stopped was ends is = record {
      live = (
          let at = is.at in
          let split : s.attempts ≡ s_now.attempts ++ (a ∷ []) = ap (λ (x : SeatState L). x.attempts) was in
          let e = ends at.away (is.front ++ s_now.attempts) ([] ++ is.back) is.first held.attempts is.waiting is.heard held.halt
          (stands trust gives may_fail sources tells kept sure files may_leave moment images_since is.front is.back is.first d held is.waiting is.heard s s_now.attempts a [] split at) at.under in
          lives_linked trust gives may_fail sources tells kept sure files may_leave moment images_since at.away e.0 is.first d after held.attempts held.attempts is.waiting is.waiting is.heard is.heard held.halt (stopped held.halt) e.2 at.under e.3
          );
      link = sym (ap (λ (x : SeatState L). x.link) was);
    }

    -- A link that states something else keeps its seat.
    pub changes_keep : (d after : DeskState S) (held : HeldState) (s : SeatState L) (link : LinkNo) (total largest : Amounts) (cache : ℕ) (r : Result (Unit {0}) JoinRefused) → Changes d link total largest cache r after
        → ((away : AwayState) (first : DeskState S) (waiting : List Start) (heard : Tally) → UnderBy away first d held.attempts waiting heard held.halt → UnderBy (changed_by link total largest cache r away) first after held.attempts waiting heard held.halt)
        → KeepsSeat trust gives may_fail sources tells kept sure files may_leave moment images_since d after held held s s
    changes_keep d after held s link total largest cache r h under = record {
      keeps = λ front back first waiting heard at.
          let now = under at.away first waiting heard at.under in
          let plan : after.plan ≡ d.plan = now.goes.plan ∙ sym at.under.goes.plan in
          record {
            away = changed_by link total largest cache r at.away;
            are = same at.away r ∙ at.are;
            under = now;
            seat = record {
              placed = record { beyond = at.seat.placed.beyond; lives = change_live d after link total largest cache r h s.link.0 at.seat.placed.lives; there = at.seat.placed.there };
              opens = subst (λ (P : Plan). AllByRecursion (IsOpenAt P s.attempts) s.peer.session.attempts) (sym plan) at.seat.opens;
              going = at.seat.going;
            };
          };
      stays = record { live = change_live d after link total largest cache r h; link = refl };
    }
      where
        same : (away : AwayState) (r : Result (Unit {0}) JoinRefused) → (changed_by link total largest cache r away).attempts ≡ away.attempts
        same away (Ok done) = refl
        same away (Err why) = refl

    -- ---- what a peer tells

    placed_as : (d : DeskState S) (s s_now : SeatState L) → s_now.link ≡ s.link → s_now.attempts ≡ s.attempts → IsPlaced d.options d.moves s → IsPlaced d.options d.moves s_now
    placed_as d s s_now link attempts placed = record {
      beyond = subst (λ (k : LinkNo). 0 < k.0) (sym link) placed.beyond;
      lives = subst (λ (k : LinkNo). is_live d.options d.moves k.0 ≡ true) (sym link) placed.lives;
      there = subst (λ (k : LinkNo). AreOn k.0 s_now.attempts) (sym link) (subst (AreOn s.link.0) (sym attempts) placed.there);
    }

    -- what is known of what was told
    pub heard_of : (d : DeskState S) (s s_now : SeatState L) (t : Saying) → s.peer.feed.stop ≡ None → AllByRecursion (IsOpenAt d.plan s.attempts) s.peer.session.attempts
        → (let r : Result Saying Leave = Ok t in s.peer.feed.stop ≡ None → Hears s.peer.feed s.peer.session r s_now.peer.feed s_now.peer.session)
        → Heard (IsOpenAt d.plan s.attempts) (missed_on d.plan s.attempts) s_now.peer.feed s_now.peer.session t
    heard_of d s s_now t going opens hears = hears_on (IsOpenAt d.plan s.attempts) (missed_on d.plan s.attempts) s.peer.feed s_now.peer.feed s.peer.session s_now.peer.session t going opens (hears going)

    pub heard_keeps : (d : DeskState S) (held : HeldState) (s s_now : SeatState L) (t : Saying) → s_now.link ≡ s.link → s_now.attempts ≡ s.attempts
        → (let r : Result Saying Leave = Ok t in s.peer.feed.stop ≡ None → Hears s.peer.feed s.peer.session r s_now.peer.feed s_now.peer.session)
        → KeepsSeat trust gives may_fail sources tells kept sure files may_leave moment images_since d d held held s s_now
    heard_keeps d held s s_now t link attempts hears = record {
      keeps = λ front back first waiting heard at.
          let h = heard_of d s s_now t at.seat.going at.seat.opens hears in
          record {
            away = at.away;
            are = at.are ∙ ap (λ (xs : List Attempt). front ++ (xs ++ back)) (sym attempts);
            under = at.under;
            seat = record {
              placed = placed_as d s s_now link attempts at.seat.placed;
              opens = subst (λ (xs : List Attempt). AllByRecursion (IsOpenAt d.plan xs) s_now.peer.session.attempts) (sym attempts) h.opens;
              going = h.going;
            };
          };
      stays = record { live = λ k lives. lives; link = link };
    }

    -- A peer that is heard no more is to be left.
    pub unheard_leaves : (d : DeskState S) (held : HeldState) (s s_now : SeatState L) → s_now.link ≡ s.link → s_now.attempts ≡ s.attempts → LeavesSeat trust gives may_fail sources tells kept sure files may_leave moment images_since d d held held s s_now
    unheard_leaves d held s s_now link attempts = record {
      leaves = λ front back first waiting heard at. record {
        away = at.away;
        are = at.are ∙ ap (λ (xs : List Attempt). front ++ (xs ++ back)) (sym attempts);
        under = at.under;
        place = placed_as d s s_now link attempts at.seat.placed;
      };
      stays = record { live = λ k lives. lives; link = link };
    }
