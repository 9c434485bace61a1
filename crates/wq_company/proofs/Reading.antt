-- All peers, of which one was read after the other.
use Rattle.std.proofs.Common.{◌≡◌, ◌≤◌, ◌+◌, ℕ, Bool, true, false, zero, suc, List, [], ◌∷◌, ◌++◌, length, take, Some, refl, sym, ap, ◌∙◌, subst, arith}
use Rattle.std.specs.Prelude.{◌&&◌, slice_get, slice_set}
use Rattle.std.specs.List.{AllByRecursion}
use Rattle.flow_types.specs.declared.job.Failure.{Failure}
use Rattle.flow_types.specs.declared.job.Job.{Job}
use Rattle.flow_types.specs.Serial.{Function}
use Rattle.links.specs.declared.passing.Passed.{Passed}
use Rattle.task_book.specs.declared.task.Held.{Held}
use Rattle.task_book.specs.Stages.{RunsOn}
use Rattle.task_book.proofs.Positions.{all_at, all_set, as_long}
use Rattle.wq_company.specs.Companies.{AreServed, ways_of}
use Rattle.wq_seats.specs.Shown.{EndsRight, ShowsEnds}
use Rattle.wq_seats.specs.Turns.{IsQuiet, IsServed}
use Rattle.wq_company.specs.Rounds.{ReadsAt}
use Rattle.wq_seats.specs.Seats.{SeatState}
use Rattle.wq_company.proofs.Serving.{served_on}
use Rattle.wq_company.proofs.Showing.{shows_next}

pub both_first : (a b : Bool) → (a && b) ≡ true → a ≡ true
both_first true b is = refl
both_first false b is = is

pub both_second : (a b : Bool) → (a && b) ≡ true → b ≡ true
both_second true b is = is
both_second false b is = absurd cc

module _ {L : Type 0} where
  -- the links up to a place, and the one there
  pub ways_next : (seats : List (SeatState L)) (at : ℕ) (was s : SeatState L) → slice_get seats at ≡ Some was → ways_of (take (at + 1) (slice_set seats at s)) ≡ ways_of (take at seats) ++ s.peer.way ∷ []
  ways_next seats at was s there = rw add_one_is (by seats at there)
    where
      add_one_is : at + 1 ≡ suc at
      add_one_is = omega arith

      by : (xs : List (SeatState L)) (k : ℕ) → slice_get xs k ≡ Some was → ways_of (take (suc k) (slice_set xs k s)) ≡ ways_of (take k xs) ++ s.peer.way ∷ []
      by [] k is = absurd cc
      by (x ∷ xs) zero is = refl
      by (x ∷ xs) (suc k) is = ap (λ (ws : List L). x.peer.way ∷ ws) (by xs k is)

  pub honest_at : (honest : L → Type 0) (seats : List (SeatState L)) (at : ℕ) (s : SeatState L) → slice_get seats at ≡ Some s → AllByRecursion honest (ways_of seats) → honest s.peer.way
  honest_at honest [] at s is all = absurd cc
  honest_at honest (x ∷ xs) zero s is all = let same : x ≡ s = cc in subst (λ (y : SeatState L). honest y.peer.way) same all.0
  honest_at honest (x ∷ xs) (suc at) s is all = honest_at honest xs at s is all.1

  pub honest_set : (honest : L → Type 0) (seats : List (SeatState L)) (at : ℕ) (s : SeatState L) → honest s.peer.way → AllByRecursion honest (ways_of seats) → AllByRecursion honest (ways_of (slice_set seats at s))
  honest_set honest [] zero s is all = tt
  honest_set honest [] (suc at) s is all = tt
  honest_set honest (x ∷ xs) zero s is all = (is, all.1)
  honest_set honest (x ∷ xs) (suc at) s is all = (all.0, honest_set honest xs at s is all.1)

  -- the peers up to a place, and the one there
  pub all_next : (P : SeatState L → Type 0) (seats : List (SeatState L)) (at : ℕ) (was s : SeatState L) → slice_get seats at ≡ Some was → AllByRecursion P (take at seats) → P s → AllByRecursion P (take (at + 1) (slice_set seats at s))
  all_next P seats at was s there all is = rw add_one_is (by seats at there all)
    where
      add_one_is : at + 1 ≡ suc at
      add_one_is = omega arith

      by : (xs : List (SeatState L)) (k : ℕ) → slice_get xs k ≡ Some was → AllByRecursion P (take k xs) → AllByRecursion P (take (suc k) (slice_set xs k s))
      by [] k there all = absurd cc
      by (x ∷ xs) zero there all = (is, tt)
      by (x ∷ xs) (suc k) there all = (all.0, by xs k there all.1)

  -- so many peers and no more
  pub all_taken : (P : SeatState L → Type 0) (seats : List (SeatState L)) (at : ℕ) → length seats ≤ at → AllByRecursion P (take at seats) → AllByRecursion P seats
  all_taken P [] at few all = tt
  all_taken P (x ∷ seats) zero few all = absurd (let wrong : ⊥ = omega (arith, few) in wrong)
  all_taken P (x ∷ seats) (suc at) few all = (all.0, all_taken P seats at (omega (arith, few)) all.1)

  module _ (tells : Type 0) (gives : Function) (may_fail : Job → Failure → Type 0) (history : L → List Passed) (honest : L → Type 0) (idles : L → ℕ) where
    abbrev pub Reads : ℕ → List Held → List Held → List (SeatState L) → List (SeatState L) → Bool → Type 0
    Reads at old new seats after idle = ReadsAt tells gives may_fail history honest idles at old new seats after idle

    pub read_quiet : (at : ℕ) (old new : List Held) (seats after : List (SeatState L)) (idle : Bool) → Reads at old new seats after idle → idle ≡ true → AllByRecursion (IsQuiet idles) (take at seats)
        → AllByRecursion (IsQuiet idles) (take (at + 1) after)
    read_quiet at old new seats after idle r is all = subst (λ (xs : List (SeatState L)). AllByRecursion (IsQuiet idles) (take (at + 1) xs)) (sym r.set) (all_next (IsQuiet idles) seats at r.was r.is r.there all (r.quiet is))

    pub read_many : (at : ℕ) (old new : List Held) (seats after : List (SeatState L)) (idle : Bool) → Reads at old new seats after idle → length after ≡ length seats
    read_many at old new seats after idle r = ap (λ (xs : List (SeatState L)). length xs) r.set ∙ as_long seats at r.is

    pub read_served : (at : ℕ) (old new : List Held) (seats after : List (SeatState L)) (idle : Bool) → Reads at old new seats after idle → RunsOn old new → (files : List (List ℕ)) (next : ℕ) → tells
        → AreServed gives may_fail history files old next seats → AreServed gives may_fail history files new next after
    read_served at old new seats after idle r on files next told all =
        let was = all_at (IsServed gives may_fail history files old next) seats at r.was r.there all in
        let is = r.reads files next told was in
        subst (λ (xs : List (SeatState L)). AreServed gives may_fail history files new next xs) (sym r.set)
        (all_set (IsServed gives may_fail history files new next) seats at r.is is.served (served_on gives may_fail history files old new next seats on all))

    pub read_shows : (at : ℕ) (first old new : List Held) (seats after : List (SeatState L)) (idle : Bool) → Reads at old new seats after idle → (files : List (List ℕ)) (next : ℕ) → tells
        → AreServed gives may_fail history files old next seats → ShowsEnds history first old (ways_of (take at seats)) → ShowsEnds history first new (ways_of (take (at + 1) after))
    read_shows at first old new seats after idle r files next told all shown =
        let was = all_at (IsServed gives may_fail history files old next) seats at r.was r.there all in
        let is = r.reads files next told was in
        let ways = ap (λ (xs : List (SeatState L)). ways_of (take (at + 1) xs)) r.set ∙ ways_next seats at r.was r.is r.there in
        subst (ShowsEnds history first new) (sym ways) (shows_next history first old new (ways_of (take at seats)) r.is.peer.way shown is.shows)

    pub read_right : (at : ℕ) (old new : List Held) (seats after : List (SeatState L)) (idle : Bool) → Reads at old new seats after idle → (files : List (List ℕ)) (next : ℕ) → tells → AllByRecursion honest (ways_of seats)
        → AreServed gives may_fail history files old next seats → EndsRight gives may_fail files old new
    read_right at old new seats after idle r files next told fair all =
        r.right files next told (honest_at honest seats at r.was r.there fair) (all_at (IsServed gives may_fail history files old next) seats at r.was r.there all)

    pub read_honest : (at : ℕ) (old new : List Held) (seats after : List (SeatState L)) (idle : Bool) → Reads at old new seats after idle → AllByRecursion honest (ways_of seats) → AllByRecursion honest (ways_of after)
    read_honest at old new seats after idle r fair =
        subst (λ (xs : List (SeatState L)). AllByRecursion honest (ways_of xs)) (sym r.set) (honest_set honest seats at r.is (r.honestly (honest_at honest seats at r.was r.there fair)) fair)
