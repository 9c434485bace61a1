-- Attempts at a worker that begin, and what is sent for them.
use Rattle.std.proofs.Common.{◌≡◌, ◌<◌, ℕ, true, false, List, [], ◌∷◌, ◌++◌, Option, Some, None, map, refl, sym, ap, ◌∙◌, subst, true≢false}
use Rattle.std.specs.Prelude.{is_some, option_map, slice_get, unwrap_or}
use Rattle.std.specs.List.{AllByRecursion}
use Rattle.std.proofs.lemmas.List.{append_assoc}
use Rattle.flow_types.specs.declared.plan.Plan.{Plan}
use Rattle.flow_types.specs.declared.plan.Rule.{Rule}
use Rattle.flow_types.specs.declared.numbers.AttemptNo.{AttemptNo}
use Rattle.flow_types.specs.declared.numbers.LinkNo.{LinkNo}
use Rattle.flow_types.specs.declared.job.Job.{Job}
use Rattle.flow_types.specs.declared.job.Failure.{Failure}
use Rattle.flow_types.specs.declared.job.Start.{Start}
use Rattle.flow_types.specs.declared.job.Task.{Task}
use Rattle.flow_types.specs.declared.records.Record.{Record}
use Rattle.flow_types.specs.Serial.{Contents, Function}
use Rattle.run_history.specs.Links.{is_live, records_of}
use Rattle.outside.specs.Disk.{Outcomes}
use Rattle.outside.specs.Files.{Files}
use Rattle.worker_pool.specs.declared.hand.Tally.{Tally}
use Rattle.desk.specs.declared.attempt.Attempt.{Attempt}
use Rattle.desk.specs.State.{DeskState, IsFine}
use Rattle.desk.specs.Tasks.{task_of, task_with, want_at}
use Rattle.link_session.specs.declared.open.Open.{Open}
use Rattle.link_session.specs.Sessions.{State, is_open, opened, place, started}
use Rattle.peers.proofs.Opens.{IsOther, all_append, all_get, placed as placed_at}
use Rattle.local_run.specs.declared.halt.Halt.{Halt}
use Rattle.local_run.specs.declared.halt.Halt.TheVariants as halts
use Rattle.local_run.specs.Underway.{AreAway, AwayState, HeldState, NoneHas, Underway}
use Rattle.local_run.proofs.StandsBegun.{wants_on}
use Rattle.wq_run.specs.Seats.{AreOn, AtSeat, IsAtSeat, IsOpenAt, KeepsSeat, SeatState, Suits, seat_with}
use Rattle.wq_run.proofs.Closes.{lives_linked, placed, stands}
use Rattle.wq_run.proofs.Places.{none_left, none_right, not_open, on_more, opens_alone, opens_more, split_in, unique_back, unique_front}
use Rattle.wq_run.proofs.Shares.{keeps_by}

-- one that is no open one's isn't open
pub other_closed : (n : AttemptNo) (os : List Open) → AllByRecursion (IsOther n) os → is_open n os ≡ false
other_closed n os all = by_place (place n os) refl
  where
    by_place : (p : Option ℕ) → place n os ≡ p → is_open n os ≡ false
    by_place None is = ap (λ (p : Option ℕ). is_some p) is
    by_place (Some at) is =
        let p = placed_at n os at is in
        absurd (all_get (IsOther n) os at p.it p.there_it_is all p.of_it)

some_rule : (x y : Rule) → Some x ≡ Some y → x ≡ y
some_rule x y is = ap (λ (o : Option Rule). unwrap_or o x) is

some_task : (x y : Task) → Some x ≡ Some y → x ≡ y
some_task x y is = ap (λ (o : Option Task). unwrap_or o x) is

abbrev WantsAt : Plan → Rule → Task → Type 0
WantsAt P r x = map (λ want. want.bound) x.outputs ≡ map (λ want. want.bound) (map (want_at P) r.outputs)

suits_by : (P : Plan) (a : Attempt) (run : ℕ) (t : Task) (row : Option Rule) → slice_get P.rules a.rule.0 ≡ row → option_map (λ rule. task_with P rule a.number run) row ≡ Some t → Suits P a.rule.0 (opened t) × (t.attempt ≡ a.number)
suits_by P a run t None is same = absurd (true≢false (sym (ap is_some same)))
suits_by P a run t (Some rule) is same =
    let one : task_with P rule a.number run ≡ t = some_task (task_with P rule a.number run) t same in (
      (λ other there. subst (λ (r : Rule). WantsAt P r t) (some_rule rule other (sym is ∙ there)) (ap (λ (x : Task). map (λ want. want.bound) x.outputs) (sym one))),
      ap (λ (x : Task). x.attempt) (sym one),
    )

-- What is kept of the task of an attempt suits its rule.
pub suits_of : (P : Plan) (H : List Record) (a : Attempt) (t : Task) → task_of P H a ≡ Some t → Suits P a.rule.0 (opened t) × (t.attempt ≡ a.number)
suits_of P H a t is = suits_by P a _ t (slice_get P.rules a.rule.0) refl is

module _ {S : Type 0} (trust : Type 0) (gives : Function) (may_fail : Job → Failure → Type 0) (sources : Contents) (tells kept sure : Type 0) (files : S → Files) (may_leave : S → Outcomes) (moment : S → ℕ)
    (images_since : S → ℕ → Files → Type 0) where
  abbrev pub UnderBy : AwayState → DeskState S → DeskState S → List Attempt → List Start → Tally → Option Halt → Type 0
  UnderBy away first now held waiting heard halt = Underway trust gives may_fail sources tells kept sure files may_leave moment images_since away first now held waiting None heard halt

  module _ {L : Type 0} where
    abbrev pub Keeps : DeskState S → DeskState S → HeldState → HeldState → SeatState L → SeatState L → Type 0
    Keeps d after held held_now s s_now = KeepsSeat trust gives may_fail sources tells kept sure files may_leave moment images_since d after held held_now s s_now

    abbrev pub IsAt : DeskState S → HeldState → SeatState L → Type 0
    IsAt d held s = IsAtSeat trust gives may_fail sources tells kept sure files may_leave moment images_since d held s

  -- What a call does that leaves alone what goes on on links.
  abbrev pub GoesBy : DeskState S → DeskState S → HeldState → HeldState → Type 0
  GoesBy d after held held_now = (away : AwayState) (first : DeskState S) (waiting : List Start) (heard : Tally) → UnderBy away first d held.attempts waiting heard held.halt → UnderBy away first after held_now.attempts waiting heard held_now.halt

  module _ {L : Type 0} where
    live_by : (d after : DeskState S) (held held_now : HeldState) (s : SeatState L) → GoesBy d after held held_now → IsAt d held s → (k : ℕ) → is_live d.options d.moves k ≡ true → is_live after.options after.moves k ≡ true
    live_by d after held held_now s goes is =
        let at = is.at in
        lives_linked trust gives may_fail sources tells kept sure files may_leave moment images_since at.away at.away is.first d after held.attempts held_now.attempts is.waiting is.waiting is.heard is.heard held.halt held_now.halt refl at.under (goes at.away is.first is.waiting is.heard at.under)

    -- The seat is kept over a call that does no more to its peer than to pass bytes.
    pub keeps_still : (d after : DeskState S) (held held_now : HeldState) (s s_now : SeatState L) → s_now.link ≡ s.link → s_now.attempts ≡ s.attempts → s_now.peer.session ≡ s.peer.session → (s.peer.feed.stop ≡ None → s_now.peer.feed.stop ≡ None)
        → GoesBy d after held held_now → IsAt d held s → Keeps d after held held_now s s_now
    keeps_still d after held held_now s s_now link attempts session going goes is =
        keeps_by trust gives may_fail sources tells kept sure files may_leave moment images_since d after held held_now s s_now link attempts session going goes (live_by d after held held_now s goes is)

    -- nothing happens
    pub keeps_same : (d : DeskState S) (held : HeldState) (s : SeatState L) → Keeps d d held held s s
    keeps_same d held s = record { keeps = λ front back first waiting heard at. at; stays = record { live = λ k lives. lives; link = refl } }

  -- memory is wanting
  pub stops_want : (d : DeskState S) (held : HeldState) → GoesBy d d held (record held { halt = Some halts.Memory })
  stops_want d held away first waiting heard u = wants_on trust gives may_fail sources tells kept sure files may_leave moment images_since away first d held.attempts waiting None heard held.halt u

  module _ {L : Type 0} where
    -- and the seat stays as it is
    pub keeps_want : (d : DeskState S) (held held_now : HeldState) (s : SeatState L) → held_now ≡ record held { halt = Some halts.Memory } → IsAt d held s → Keeps d d held held_now s s
    keeps_want d held held_now s stopped is = keeps_still d d held held_now s s refl refl refl (λ was. was) (subst (GoesBy d d held) (sym stopped) (stops_want d held)) is

  -- An attempt begins there.
  abbrev pub Begins : DeskState S → DeskState S → HeldState → Attempt → Type 0
  Begins d after held a =
      (away : AwayState) (front back : List Attempt) (first : DeskState S) (waiting : List Start) (heard : Tally) → away.attempts ≡ front ++ back → UnderBy away first d held.attempts waiting heard held.halt
      → UnderBy (record away { attempts = front ++ (a ∷ back) }) first after held.attempts waiting heard held.halt

  module _ {L : Type 0} where
    -- what is known of an attempt that has begun
    pub record Begun (front back : List Attempt) (first after : DeskState S) (held : HeldState) (waiting : List Start) (heard : Tally) (s : SeatState L) (a : Attempt) : Type 0 where
      pub at : AtSeat trust gives may_fail sources tells kept sure files may_leave moment images_since front back first after held waiting heard (seat_with s (s.attempts ++ (a ∷ [])))
      pub none : NoneHas a.number s.attempts

    pub begins_at : (d after : DeskState S) (held : HeldState) (s : SeatState L) (a : Attempt) → a.link ≡ s.link → Begins d after held a → (front back : List Attempt) (first : DeskState S) (waiting : List Start) (heard : Tally)
        → AtSeat trust gives may_fail sources tells kept sure files may_leave moment images_since front back first d held waiting heard s → Begun front back first after held waiting heard s a
    begins_at d after held s a on begins front back first waiting heard at =
        let next : AwayState = record at.away { attempts = (front ++ s.attempts) ++ (a ∷ back) } in
        let under : UnderBy next first after held.attempts waiting heard held.halt = begins at.away (front ++ s.attempts) back first waiting heard (at.are ∙ sym (append_assoc front s.attempts back)) at.under in
        let before : NoneHas a.number (front ++ s.attempts) = unique_front after.plan (IsFine after.trouble) after.moves held.attempts (front ++ s.attempts) a back under.beyond in
        let none = none_right a.number front s.attempts before in
        let plan : after.plan ≡ d.plan = under.goes.plan ∙ sym at.under.goes.plan in
        record {
          at = record {
            away = next;
            are = sym (split_in front s.attempts a [] back);
            under = under;
            seat = record {
              placed = record {
                beyond = at.seat.placed.beyond;
                lives = lives_linked trust gives may_fail sources tells kept sure files may_leave moment images_since at.away next first d after held.attempts held.attempts waiting waiting heard heard held.halt held.halt refl at.under under s.link.0 at.seat.placed.lives;
                there = on_more s.link.0 s.attempts a at.seat.placed.there (ap (λ (k : LinkNo). k.0) on);
              };
              opens = opens_more after.plan s.attempts a s.peer.session.attempts none (subst (λ (P : Plan). AllByRecursion (IsOpenAt P s.attempts) s.peer.session.attempts) (sym plan) at.seat.opens);
              going = at.seat.going;
            };
          };
          none = none;
        }

    pub begin_keeps : (d after : DeskState S) (held : HeldState) (s : SeatState L) (a : Attempt) → a.link ≡ s.link → Begins d after held a → IsAt d held s → Keeps d after held held s (seat_with s (s.attempts ++ (a ∷ [])))
    begin_keeps d after held s a on begins is = record {
      keeps = λ front back first waiting heard at. (begins_at d after held s a on begins front back first waiting heard at).at;
      stays = record {
        live = (
            let at = is.at in
            let next : AwayState = record at.away { attempts = (is.front ++ s.attempts) ++ (a ∷ is.back) } in
            lives_linked trust gives may_fail sources tells kept sure files may_leave moment images_since at.away next is.first d after held.attempts held.attempts is.waiting is.waiting is.heard is.heard held.halt held.halt refl at.under
            (begins at.away (is.front ++ s.attempts) is.back is.first is.waiting is.heard (at.are ∙ sym (append_assoc is.front s.attempts is.back)) at.under)
            );
        link = refl;
      };
    }

    -- it isn't open yet
    pub begin_fresh : (d after : DeskState S) (held : HeldState) (s : SeatState L) (a : Attempt) → a.link ≡ s.link → Begins d after held a → IsAt d held s → is_open a.number s.peer.session.attempts ≡ false
    begin_fresh d after held s a on begins is =
        let at = is.at in
        let begun = begins_at d after held s a on begins is.front is.back is.first is.waiting is.heard at in
        other_closed a.number s.peer.session.attempts (not_open d.plan s.attempts a.number s.peer.session.attempts begun.none at.seat.opens)

    -- and the seat is at it
    pub begin_at : (d after : DeskState S) (held : HeldState) (s : SeatState L) (a : Attempt) → a.link ≡ s.link → Begins d after held a → IsAt d held s → IsAt after held (seat_with s (s.attempts ++ (a ∷ [])))
    begin_at d after held s a on begins is = record {
      front = is.front;
      back = is.back;
      first = is.first;
      waiting = is.waiting;
      heard = is.heard;
      at = (begins_at d after held s a on begins is.front is.back is.first is.waiting is.heard is.at).at;
    }

    -- The seat is still one once its attempt is opened.
    pub open_keeps : (d : DeskState S) (held : HeldState) (s s_now : SeatState L) (number : AttemptNo) (f : List Attempt) (a : Attempt) (b : List Attempt) (t : Task) → s.attempts ≡ f ++ (a ∷ b) → a.number ≡ number → task_of d.plan (records_of d.moves) a ≡ Some t
        → s_now.link ≡ s.link → s_now.attempts ≡ s.attempts → s_now.peer.session ≡ started s.peer.session t → s_now.peer.feed ≡ s.peer.feed → Keeps d d held held s s_now
    open_keeps d held s s_now number f a b t split same is link attempts session feed = record {
      keeps = λ front back first waiting heard at.
          let place = placed trust gives may_fail sources tells kept sure files may_leave moment images_since front back first d held waiting heard s at in
          let all : AreAway d.plan (IsFine d.trouble) d.moves held.attempts None ((front ++ f) ++ (a ∷ (b ++ back))) = subst (AreAway d.plan (IsFine d.trouble) d.moves held.attempts None)
          (stands trust gives may_fail sources tells kept sure files may_leave moment images_since front back first d held waiting heard s f a b split place) at.under.beyond in
          let before : NoneHas a.number f = none_right a.number front f (unique_front d.plan (IsFine d.trouble) d.moves held.attempts (front ++ f) a (b ++ back) all) in
          let behind : NoneHas a.number b = none_left a.number b back (unique_back d.plan (IsFine d.trouble) d.moves held.attempts (front ++ f) a (b ++ back) all) in
          let suits = suits_of d.plan (records_of d.moves) a t is in
          let new : IsOpenAt d.plan (f ++ (a ∷ b)) (opened t) = opens_alone d.plan f a b (opened t) before behind suits.1 suits.0 in
          record {
            away = at.away;
            are = at.are ∙ ap (λ (xs : List Attempt). front ++ (xs ++ back)) (sym attempts);
            under = at.under;
            seat = record {
              placed = record {
                beyond = subst (λ (k : LinkNo). 0 < k.0) (sym link) at.seat.placed.beyond;
                lives = subst (λ (k : LinkNo). is_live d.options d.moves k.0 ≡ true) (sym link) at.seat.placed.lives;
                there = subst (λ (k : LinkNo). AreOn k.0 s_now.attempts) (sym link) (subst (AreOn s.link.0) (sym attempts) at.seat.placed.there);
              };
              opens = subst (λ (x : State). AllByRecursion (IsOpenAt d.plan s_now.attempts) x.attempts) (sym session)
                  (subst (λ (xs : List Attempt). AllByRecursion (IsOpenAt d.plan xs) (s.peer.session.attempts ++ (opened t ∷ []))) (sym attempts)
                  (all_append (IsOpenAt d.plan s.attempts) s.peer.session.attempts (opened t ∷ []) at.seat.opens (subst (λ (xs : List Attempt). IsOpenAt d.plan xs (opened t)) (sym split) new, tt)));
              going = ap (λ x. x.stop) feed ∙ at.seat.going;
            };
          };
      stays = record { live = λ k lives. lives; link = link };
    }
