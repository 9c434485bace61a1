-- Attempts at a worker that end.
use Rattle.std.proofs.Common.{◌≡◌, ◌<◌, ℕ, true, false, List, ◌∷◌, ◌++◌, Option, None, sym, ap, ◌∙◌, subst, arith}
use Rattle.std.specs.List.{AllByRecursion}
use Rattle.flow_types.specs.declared.plan.Plan.{Plan}
use Rattle.flow_types.specs.declared.numbers.AttemptNo.{AttemptNo}
use Rattle.flow_types.specs.declared.job.Job.{Job}
use Rattle.flow_types.specs.declared.job.Failure.{Failure}
use Rattle.flow_types.specs.declared.job.Start.{Start}
use Rattle.flow_types.specs.Serial.{Contents, Function}
use Rattle.run_history.specs.declared.moves.Move.{Move}
use Rattle.run_history.specs.declared.options.Options.{Options}
use Rattle.run_history.specs.Links.{is_live, records_of}
use Rattle.outside.specs.Disk.{Outcomes}
use Rattle.outside.specs.Files.{Files}
use Rattle.worker_pool.specs.declared.hand.Tally.{Tally}
use Rattle.desk.specs.declared.attempt.Attempt.{Attempt}
use Rattle.desk.specs.State.{DeskState, IsFine}
use Rattle.link_session.specs.Sessions.{is_open}
use Rattle.local_run.specs.declared.halt.Halt.{Halt}
use Rattle.local_run.specs.Links.{link_moves}
use Rattle.local_run.specs.Underway.{AreAway, AwayState, HeldState, RunsAt, Underway}
use Rattle.local_run.proofs.AwayClosed.{away_at}
use Rattle.local_run.proofs.Linked.{lives_by}
use Rattle.wq_run.specs.Seats.{AreOn, AtPlace, AtSeat, IsAtSeat, IsInside, IsOpenAt, KeepsSeat, SeatState, seat_with}
use Rattle.local_run.specs.Course.{GoesOn}
use Rattle.wq_run.proofs.Earned.{unlinked_by}
use Rattle.wq_run.proofs.Places.{inside_all, on_at, on_less, opens_less, split_in, split_out}

module _ {S : Type 0} (trust : Type 0) (gives : Function) (may_fail : Job → Failure → Type 0) (sources : Contents) (tells kept sure : Type 0) (files : S → Files) (may_leave : S → Outcomes) (moment : S → ℕ)
    (images_since : S → ℕ → Files → Type 0) where
  abbrev pub UnderBy : AwayState → DeskState S → DeskState S → List Attempt → List Start → Tally → Option Halt → Type 0
  UnderBy away first now held waiting heard halt = Underway trust gives may_fail sources tells kept sure files may_leave moment images_since away first now held waiting None heard halt

  module _ {L : Type 0} where
    abbrev pub SeatBy : List Attempt → List Attempt → DeskState S → DeskState S → HeldState → List Start → Tally → SeatState L → Type 0
    SeatBy front back first now held waiting heard s = AtSeat trust gives may_fail sources tells kept sure files may_leave moment images_since front back first now held waiting heard s

    abbrev pub PlaceBy : List Attempt → List Attempt → DeskState S → DeskState S → HeldState → List Start → Tally → SeatState L → Type 0
    PlaceBy front back first now held waiting heard s = AtPlace trust gives may_fail sources tells kept sure files may_leave moment images_since front back first now held waiting heard s

    -- one that is kept has its place
    abbrev pub placed : (front back : List Attempt) (first now : DeskState S) (held : HeldState) (waiting : List Start) (heard : Tally) (s : SeatState L) → SeatBy front back first now held waiting heard s → PlaceBy front back first now held waiting heard s
    placed front back first now held waiting heard s at = record { away = at.away; are = at.are; under = at.under; place = at.seat.placed }

    -- where one of its attempts stands among all
    pub stands : (front back : List Attempt) (first now : DeskState S) (held : HeldState) (waiting : List Start) (heard : Tally) (s : SeatState L) (f : List Attempt) (a : Attempt) (b : List Attempt) → s.attempts ≡ f ++ (a ∷ b)
        → (at : PlaceBy front back first now held waiting heard s) → at.away.attempts ≡ (front ++ f) ++ (a ∷ (b ++ back))
    stands front back first now held waiting heard s f a b split at = at.are ∙ ap (λ (xs : List Attempt). front ++ (xs ++ back)) split ∙ split_in front f a b back

    -- it runs
    pub runs : (front back : List Attempt) (first now : DeskState S) (held : HeldState) (waiting : List Start) (heard : Tally) (s : SeatState L) (f : List Attempt) (a : Attempt) (b : List Attempt) → s.attempts ≡ f ++ (a ∷ b)
        → PlaceBy front back first now held waiting heard s → RunsAt now.plan (IsFine now.trouble) (records_of now.moves) a
    runs front back first now held waiting heard s f a b split at =
        (away_at now.plan (IsFine now.trouble) now.moves held.attempts (front ++ f) a (b ++ back)
        (subst (AreAway now.plan (IsFine now.trouble) now.moves held.attempts None) (stands front back first now held waiting heard s f a b split at) at.under.beyond)).0.at

    -- each is at a rule of the plan
    pub inside : (front back : List Attempt) (first now : DeskState S) (held : HeldState) (waiting : List Start) (heard : Tally) (s : SeatState L) → PlaceBy front back first now held waiting heard s → AllByRecursion (IsInside now.plan) s.attempts
    inside front back first now held waiting heard s at =
        inside_all now.plan (IsFine now.trouble) now.moves held.attempts front s.attempts back (subst (AreAway now.plan (IsFine now.trouble) now.moves held.attempts None) at.are at.under.beyond)

    -- and not at the local place
    pub away_from : (front back : List Attempt) (first now : DeskState S) (held : HeldState) (waiting : List Start) (heard : Tally) (s : SeatState L) (f : List Attempt) (a : Attempt) (b : List Attempt) → s.attempts ≡ f ++ (a ∷ b)
        → PlaceBy front back first now held waiting heard s → 0 < a.link.0
    away_from front back first now held waiting heard s f a b split at =
        let on = on_at s.link.0 f a b (subst (AreOn s.link.0) split at.place.there) in
        let some = at.place.beyond in
        omega (arith, on, some)

  same_plan : (away next : AwayState) (first d after : DeskState S) (held held_now : List Attempt) (waiting waiting_now : List Start) (heard heard_now : Tally) (halt halt_now : Option Halt) → UnderBy away first d held waiting heard halt
      → UnderBy next first after held_now waiting_now heard_now halt_now → after.plan ≡ d.plan
  same_plan away next first d after held held_now waiting waiting_now heard heard_now halt halt_now u v = v.goes.plan ∙ sym u.goes.plan

  -- Links live on over a call that makes no move of a link.
  pub lives_linked : (away next : AwayState) (first d after : DeskState S) (held held_now : List Attempt) (waiting waiting_now : List Start) (heard heard_now : Tally) (halt halt_now : Option Halt) → next.links ≡ away.links
      → UnderBy away first d held waiting heard halt → UnderBy next first after held_now waiting_now heard_now halt_now → (k : ℕ) → is_live d.options d.moves k ≡ true → is_live after.options after.moves k ≡ true
  lives_linked away next first d after held held_now waiting waiting_now heard heard_now halt halt_now links u v k lives =
      ap (λ (O : Options). is_live O after.moves k) v.goes.options
      ∙ lives_by trust gives may_fail sources tells kept sure files may_leave moment images_since next first after held_now waiting_now None heard_now halt_now first.options k v
      ∙ ap (λ (M : List Move). is_live first.options (link_moves first.moves ++ M) k) links
      ∙ sym (lives_by trust gives may_fail sources tells kept sure files may_leave moment images_since away first d held waiting None heard halt first.options k u)
      ∙ sym (ap (λ (O : Options). is_live O d.moves k) u.goes.options) ∙ lives

  module _ {L : Type 0} where
    -- One of its attempts has ended.
    pub place_less : (front back : List Attempt) (first d after : DeskState S) (held held_now : HeldState) (waiting : List Start) (heard : Tally) (s : SeatState L) (f : List Attempt) (a : Attempt) (b : List Attempt) (next : AwayState) → s.attempts ≡ f ++ (a ∷ b)
        → (at : PlaceBy front back first d held waiting heard s) → next.attempts ≡ (front ++ f) ++ (b ++ back) → next.links ≡ at.away.links → UnderBy next first after held_now.attempts waiting heard held_now.halt
        → PlaceBy front back first after held_now waiting heard (seat_with s (f ++ b))
    place_less front back first d after held held_now waiting heard s f a b next split at are links v = record {
      away = next;
      are = are ∙ sym (split_out front f b back);
      under = v;
      place = record {
        beyond = at.place.beyond;
        lives = lives_linked at.away next first d after held.attempts held_now.attempts waiting waiting heard heard held.halt held_now.halt links at.under v s.link.0 at.place.lives;
        there = on_less s.link.0 f a b (subst (AreOn s.link.0) split at.place.there);
      };
    }

    -- The same at a seat, where it isn't open at the peer.
    pub seat_less : (front back : List Attempt) (first d after : DeskState S) (held held_now : HeldState) (waiting : List Start) (heard : Tally) (s : SeatState L) (f : List Attempt) (a : Attempt) (b : List Attempt) (next : AwayState) → s.attempts ≡ f ++ (a ∷ b)
        → is_open a.number s.peer.session.attempts ≡ false → (at : SeatBy front back first d held waiting heard s) → next.attempts ≡ (front ++ f) ++ (b ++ back) → next.links ≡ at.away.links
        → UnderBy next first after held_now.attempts waiting heard held_now.halt → SeatBy front back first after held_now waiting heard (seat_with s (f ++ b))
    seat_less front back first d after held held_now waiting heard s f a b next split gone at are links v =
        let place = place_less front back first d after held held_now waiting heard s f a b next split (placed front back first d held waiting heard s at) are links v in
        let plan = same_plan at.away next first d after held.attempts held_now.attempts waiting waiting heard heard held.halt held_now.halt at.under v in
        record {
          away = place.away;
          are = place.are;
          under = place.under;
          seat = record {
            placed = place.place;
            opens = opens_less after.plan f a b s.peer.session.attempts
                (subst (λ (P : Plan). AllByRecursion (IsOpenAt P (f ++ (a ∷ b))) s.peer.session.attempts) (sym plan)
                (subst (λ (xs : List Attempt). AllByRecursion (IsOpenAt d.plan xs) s.peer.session.attempts) split at.seat.opens)) gone;
            going = at.seat.going;
          };
        }

  -- What the end of an attempt does, by where it stands among all.
  abbrev pub EndsAway : DeskState S → DeskState S → Attempt → (Option Halt → Option Halt) → Type 0
  EndsAway d after a stopped =
      (away : AwayState) (front back : List Attempt) (first : DeskState S) (held : List Attempt) (waiting : List Start) (heard : Tally) (halt : Option Halt) → away.attempts ≡ front ++ (a ∷ back)
      → UnderBy away first d held waiting heard halt → (next : AwayState) × (next.attempts ≡ front ++ back) × (next.links ≡ away.links) × UnderBy next first after held waiting heard (stopped halt)

  module _ {L : Type 0} where
    -- No link stated anything over the end of an attempt.
    pub close_unlinked : (d after : DeskState S) (held : HeldState) (s : SeatState L) (a : Attempt) (f b : List Attempt) (stopped : Option Halt → Option Halt) → s.attempts ≡ f ++ (a ∷ b) → EndsAway d after a stopped
        → IsAtSeat trust gives may_fail sources tells kept sure files may_leave moment images_since d held s → link_moves after.moves ≡ link_moves d.moves
    close_unlinked d after held s a f b stopped split ends is =
        let at = is.at in
        let e = ends at.away (is.front ++ f) (b ++ is.back) is.first held.attempts is.waiting is.heard held.halt (stands is.front is.back is.first d held is.waiting is.heard s f a b split (placed is.front is.back is.first d held is.waiting is.heard s at)) at.under in
        unlinked_by trust gives may_fail sources tells files may_leave moment images_since e.0.links is.first d after
        (subst (λ (l : List Move). GoesOn trust gives may_fail sources tells files may_leave moment images_since l is.first d) (sym e.2) at.under.goes) e.3.goes

    -- The seat is kept over the end of an attempt that isn't open any more.
    pub close_keeps : (d after : DeskState S) (held held_now : HeldState) (s s_now : SeatState L) (number : AttemptNo) (a : Attempt) (f b : List Attempt) (stopped : Option Halt → Option Halt) → s.attempts ≡ f ++ (a ∷ b) → a.number ≡ number
        → s_now ≡ seat_with s (f ++ b) → is_open number s.peer.session.attempts ≡ false → held_now.attempts ≡ held.attempts → held_now.halt ≡ stopped held.halt → EndsAway d after a stopped
        → IsAtSeat trust gives may_fail sources tells kept sure files may_leave moment images_since d held s → KeepsSeat trust gives may_fail sources tells kept sure files may_leave moment images_since d after held held_now s s_now
    close_keeps d after held held_now s s_now number a f b stopped split same now gone holds halts ends is =
        let closed : is_open a.number s.peer.session.attempts ≡ false = subst (λ (n : AttemptNo). is_open n s.peer.session.attempts ≡ false) (sym same) gone in
        record {
          keeps = λ front back first waiting heard at.
              let e = ends at.away (front ++ f) (b ++ back) first held.attempts waiting heard held.halt (stands front back first d held waiting heard s f a b split (placed front back first d held waiting heard s at)) at.under in
              subst (SeatBy front back first after held_now waiting heard) (sym now)
              (seat_less front back first d after held held_now waiting heard s f a b e.0 split closed at e.1 e.2
              (subst (λ (xs : List Attempt). UnderBy e.0 first after xs waiting heard held_now.halt) (sym holds) (subst (UnderBy e.0 first after held.attempts waiting heard) (sym halts) e.3)));
          stays = record {
            live = (
                let at = is.at in
                let e = ends at.away (is.front ++ f) (b ++ is.back) is.first held.attempts is.waiting is.heard held.halt (stands is.front is.back is.first d held is.waiting is.heard s f a b split (placed is.front is.back is.first d held is.waiting is.heard s at)) at.under in
                lives_linked at.away e.0 is.first d after held.attempts held.attempts is.waiting is.waiting is.heard is.heard held.halt (stopped held.halt) e.2 at.under e.3
                );
            link = ap (λ (x : SeatState L). x.link) now;
          };
        }
