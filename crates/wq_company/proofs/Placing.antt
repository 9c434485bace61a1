-- Which tasks run at peers, which peers are at sure links, and which live, where one of them changes.
use Rattle.std.proofs.Common.{◌≡◌, ◌≤◌, ◌<◌, ◌+◌, ◌⊎◌, inl, inr, ℕ, zero, suc, Bool, true, false, cond, List, [], ◌∷◌, ◌++◌, length, take, Option, Some, None, Result, refl, sym, ap, ◌∙◌, subst, arith, true≢false}
use Rattle.std.specs.Prelude.{IfSome, OnOk, remove, slice_get, slice_set}
use Rattle.std.specs.List.{AllByRecursion}
use Rattle.flow_types.specs.declared.numbers.Amounts.{Amounts}
use Rattle.flow_types.specs.declared.numbers.AttemptNo.{AttemptNo}
use Rattle.peers.proofs.Serving.{at_ok}
use Rattle.task_book.specs.declared.task.Held.{Held}
use Rattle.task_book.specs.declared.task.TaskId.{TaskId}
use Rattle.task_book.specs.Stages.{RunsAs}
use Rattle.task_book.proofs.Positions.{all_at, all_set}
use Rattle.wq_company.specs.Companies.{AreSureOf, AreReady, AreRun, AreRunBut, AreSure, IsRunBy, StaySure, gone_of, live_of}
use Rattle.wq_seats.specs.Turns.{BeginsRun, IsOf, IsReady, IsSureAt, StaysSureAt}
use Rattle.wq_seats.specs.Seats.{KeepsRuns, RunsAt, SeatState}
use Rattle.wq_seats.proofs.Keeping.{has_none}

abbrev count : List Bool → ℕ
count [] = 0
count (b ∷ bs) = cond b 0 1 + count bs

head_is : (a b : Bool) (xs ys : List Bool) → a ∷ xs ≡ b ∷ ys → a ≡ b
head_is a b xs ys is = cc

tail_is : (a b : Bool) (xs ys : List Bool) → a ∷ xs ≡ b ∷ ys → xs ≡ ys
tail_is a b xs ys is = cc

pub gone_or : (b : Bool) → (b ≡ false → ⊥) → b ≡ true
gone_or true none = refl
gone_or false none = absurd (none refl)

module _ {L : Type 0} where
  -- ---- where tasks run

  run_at : (id : TaskId) (a : AttemptNo) (seats : List (SeatState L)) (at : ℕ) (was s : SeatState L) → slice_get seats at ≡ Some was → (RunsAt id a was → RunsAt id a s) → IsRunBy id a seats → IsRunBy id a (slice_set seats at s)
  run_at id a [] at was s is keeps run = absurd run
  run_at id a (x ∷ seats) zero was s is keeps (inl here) = let same : x ≡ was = cc in inl (keeps (subst (RunsAt id a) same here))
  run_at id a (x ∷ seats) zero was s is keeps (inr later) = inr later
  run_at id a (x ∷ seats) (suc at) was s is keeps (inl here) = inl here
  run_at id a (x ∷ seats) (suc at) was s is keeps (inr later) = inr (run_at id a seats at was s is keeps later)

  put_at : (id : TaskId) (a : AttemptNo) (seats : List (SeatState L)) (at : ℕ) (was s : SeatState L) → slice_get seats at ≡ Some was → RunsAt id a s → IsRunBy id a (slice_set seats at s)
  put_at id a [] at was s is run = absurd cc
  put_at id a (x ∷ seats) zero was s is run = inl run
  put_at id a (x ∷ seats) (suc at) was s is run = inr (put_at id a seats at was s is run)

  -- one peer was told something
  pub run_set : (held new : List Held) (seats : List (SeatState L)) (at : ℕ) (was s : SeatState L) → slice_get seats at ≡ Some was → KeepsRuns held new was s → AreRun held seats → AreRun new (slice_set seats at s)
  run_set held new seats at was s is keeps are id a run = let k = keeps id a run in run_at id a seats at was s is k.1 (are id a k.0)

  -- a task begins at one peer
  pub run_begun : (p : Option Held) (begun : AttemptNo) (held new : List Held) (seats : List (SeatState L)) (at : ℕ) (was s : SeatState L) → slice_get seats at ≡ Some was → BeginsRun p begun held new was s
      → AreRunBut p begun held seats → AreRun new (slice_set seats at s)
  run_begun p begun held new seats at was s is begins are id a run = by (are id a k.0)
    where
      k : RunsAs held id a × (RunsAt id a was ⊎ IsOf p begun id a → RunsAt id a s)
      k = begins id a run

      by : IsRunBy id a seats ⊎ IsOf p begun id a → IsRunBy id a (slice_set seats at s)
      by (inl runs) = run_at id a seats at was s is (λ here. k.1 (inl here)) runs
      by (inr one) = put_at id a seats at was s is (k.1 (inr one))

  run_more : (id : TaskId) (a : AttemptNo) (seats more : List (SeatState L)) → IsRunBy id a seats → IsRunBy id a (seats ++ more)
  run_more id a [] more run = absurd run
  run_more id a (x ∷ seats) more (inl here) = inl here
  run_more id a (x ∷ seats) more (inr later) = inr (run_more id a seats more later)

  -- a peer comes
  pub run_came : (held : List Held) (seats more : List (SeatState L)) → AreRun held seats → AreRun held (seats ++ more)
  run_came held seats more are id a run = run_more id a seats more (are id a run)

  run_left : (id : TaskId) (a : AttemptNo) (seats : List (SeatState L)) (at : ℕ) → IfSome (slice_get seats at) (λ s. s.gone ≡ true) → IsRunBy id a seats → IsRunBy id a (remove seats at)
  run_left id a [] at gone run = absurd run
  run_left id a (x ∷ seats) zero gone (inl here) = absurd (true≢false (sym gone ∙ here.0))
  run_left id a (x ∷ seats) zero gone (inr later) = later
  run_left id a (x ∷ seats) (suc at) gone (inl here) = inl here
  run_left id a (x ∷ seats) (suc at) gone (inr later) = inr (run_left id a seats at gone later)

  -- one that is gone is taken out
  pub run_parted : (held : List Held) (seats : List (SeatState L)) (at : ℕ) → IfSome (slice_get seats at) (λ s. s.gone ≡ true) → AreRun held seats → AreRun held (remove seats at)
  run_parted held seats at gone are id a run = run_left id a seats at gone (are id a run)

  -- ---- which live

  live_by : (x : SeatState L) (xs ys : List (SeatState L)) (b : Bool) → x.gone ≡ b → live_of xs ≡ live_of ys → live_of (x ∷ xs) ≡ live_of (x ∷ ys)
  live_by x xs ys true is same = rw is same
  live_by x xs ys false is same = rw is (ap (λ (ws : List L). x.peer.way ∷ ws) same)

  live_gone : (x : SeatState L) (xs : List (SeatState L)) → x.gone ≡ true → live_of (x ∷ xs) ≡ live_of xs
  live_gone x xs is = rw is refl

  pub live_parted : (seats : List (SeatState L)) (at : ℕ) → IfSome (slice_get seats at) (λ s. s.gone ≡ true) → live_of (remove seats at) ≡ live_of seats
  live_parted [] zero gone = refl
  live_parted [] (suc at) gone = refl
  live_parted (x ∷ seats) zero gone = sym (live_gone x seats gone)
  live_parted (x ∷ seats) (suc at) gone = live_by x (remove seats at) seats x.gone refl (live_parted seats at gone)

  live_last : (s : SeatState L) → s.gone ≡ false → live_of (s ∷ []) ≡ s.peer.way ∷ []
  live_last s is = rw is refl

  live_append : (x : SeatState L) (xs : List (SeatState L)) (ws : List L) (b : Bool) → x.gone ≡ b → (more : List (SeatState L)) → live_of (xs ++ more) ≡ live_of xs ++ ws → live_of ((x ∷ xs) ++ more) ≡ live_of (x ∷ xs) ++ ws
  live_append x xs ws true is more same = rw is same
  live_append x xs ws false is more same = rw is (ap (λ (zs : List L). x.peer.way ∷ zs) same)

  -- one more lives
  pub live_came : (seats : List (SeatState L)) (s : SeatState L) → s.gone ≡ false → live_of (seats ++ s ∷ []) ≡ live_of seats ++ s.peer.way ∷ []
  live_came [] s is = live_last s is
  live_came (x ∷ seats) s is = live_append x seats (s.peer.way ∷ []) x.gone refl (s ∷ []) (live_came seats s is)

  count_by : (x : SeatState L) (xs : List (SeatState L)) (b : Bool) → x.gone ≡ b → length (live_of xs) ≡ count (gone_of xs) → length (live_of (x ∷ xs)) ≡ count (gone_of (x ∷ xs))
  count_by x xs true is same = rw is (omega (arith, same))
  count_by x xs false is same = rw is (omega (arith, same))

  counted : (seats : List (SeatState L)) → length (live_of seats) ≡ count (gone_of seats)
  counted [] = refl
  counted (x ∷ seats) = count_by x seats x.gone refl (counted seats)

  -- as many live where the same are gone
  pub as_many : (seats now : List (SeatState L)) → gone_of now ≡ gone_of seats → length (live_of now) ≡ length (live_of seats)
  as_many seats now same = counted now ∙ ap count same ∙ sym (counted seats)

  pub gone_set : (seats : List (SeatState L)) (at : ℕ) (was s : SeatState L) → slice_get seats at ≡ Some was → s.gone ≡ was.gone → gone_of (slice_set seats at s) ≡ gone_of seats
  gone_set [] at was s is same = absurd cc
  gone_set (x ∷ seats) zero was s is same = let one : x ≡ was = cc in ap (λ (b : Bool). b ∷ gone_of seats) (same ∙ ap (λ (y : SeatState L). y.gone) (sym one))
  gone_set (x ∷ seats) (suc at) was s is same = ap (λ (bs : List Bool). x.gone ∷ bs) (gone_set seats at was s is same)

  pub gone_there : (seats : List (SeatState L)) (at : ℕ) (was s : SeatState L) → slice_get seats at ≡ Some was → gone_of (slice_set seats at s) ≡ gone_of seats → s.gone ≡ was.gone
  gone_there [] at was s is same = absurd cc
  gone_there (x ∷ seats) zero was s is same = let one : x ≡ was = cc in head_is s.gone x.gone (gone_of seats) (gone_of seats) same ∙ ap (λ (y : SeatState L). y.gone) one
  gone_there (x ∷ seats) (suc at) was s is same = gone_there seats at was s is (tail_is x.gone x.gone (gone_of (slice_set seats at s)) (gone_of seats) same)

  -- ---- which are at sure links

  module _ (sure : L → Type 0) (offers : L → Amounts → Type 0) (least : Amounts) where
    -- one stays so
    pub sure_set : (seats : List (SeatState L)) (at : ℕ) (was s : SeatState L) → slice_get seats at ≡ Some was → StaysSureAt sure offers least was s → AreSure sure offers least seats → StaySure sure offers least seats (slice_set seats at s)
    sure_set seats at was s is stays are = record {
      surely = all_set (IsSureAt sure offers least) seats at s stays.surely are;
      gone = gone_set seats at was s is stays.gone;
    }

    pub stay_same : (seats : List (SeatState L)) → AreSure sure offers least seats → StaySure sure offers least seats seats
    stay_same seats are = record { surely = are; gone = refl }

    pub stay_then : (seats mid now : List (SeatState L)) → StaySure sure offers least seats mid → StaySure sure offers least mid now → StaySure sure offers least seats now
    stay_then seats mid now one two = record { surely = two.surely; gone = two.gone ∙ one.gone }

    live_sure_by : (x : SeatState L) (xs : List (SeatState L)) (b : Bool) → x.gone ≡ b → IsSureAt sure offers least x → AreSureOf sure offers least (live_of xs) → AreSureOf sure offers least (live_of (x ∷ xs))
    live_sure_by x xs true is here rest = rw is rest
    live_sure_by x xs false is here rest = rw is (here is, rest)

    pub live_sure : (seats : List (SeatState L)) → AreSure sure offers least seats → AreSureOf sure offers least (live_of seats)
    live_sure [] are = tt
    live_sure (x ∷ seats) are = live_sure_by x seats x.gone refl are.0 (live_sure seats are.1)

    sure_first : (x : SeatState L) (xs : List (SeatState L)) → AreSureOf sure offers least (live_of (x ∷ xs)) → (b : Bool) → x.gone ≡ b → IsSureAt sure offers least x × AreSureOf sure offers least (live_of xs)
    sure_first x xs are true is = ((λ here. absurd (true≢false (sym is ∙ here))), subst (λ (ws : List L). AreSureOf sure offers least ws) (ap (λ (b : Bool). cond b (live_of xs) (x.peer.way ∷ live_of xs)) is) are)
    sure_first x xs are false is =
        let all = subst (λ (ws : List L). AreSureOf sure offers least ws) (ap (λ (b : Bool). cond b (live_of xs) (x.peer.way ∷ live_of xs)) is) are in
        ((λ here. all.0), all.1)

    pub sure_live : (seats : List (SeatState L)) → AreSureOf sure offers least (live_of seats) → AreSure sure offers least seats
    sure_live [] are = tt
    sure_live (x ∷ seats) are = let parts = sure_first x seats are x.gone refl in (parts.0, sure_live seats parts.1)

  -- ---- which are ready

  set_there : (seats : List (SeatState L)) (at : ℕ) (was s : SeatState L) → slice_get seats at ≡ Some was → slice_get (slice_set seats at s) at ≡ Some s
  set_there [] at was s is = absurd cc
  set_there (x ∷ seats) zero was s is = refl
  set_there (x ∷ seats) (suc at) was s is = set_there seats at was s is

  -- at one that was set nothing runs, where each is ready
  pub ready_set : (least : Amounts) (seats : List (SeatState L)) (at : ℕ) (was s : SeatState L) → slice_get seats at ≡ Some was → AreReady least (slice_set seats at s) → s.gone ≡ false → s.runs ≡ []
  ready_set least seats at was s is are lives = (all_at (λ (x : SeatState L). x.gone ≡ false → IsReady least x) (slice_set seats at s) at s (set_there seats at was s is) are lives).idle

  -- ---- the peers up to a place

  pub taken_next : (P : SeatState L → Type 0) (seats : List (SeatState L)) (at : ℕ) (x : SeatState L) → slice_get seats at ≡ Some x → AllByRecursion P (take at seats) → P x → AllByRecursion P (take (at + 1) seats)
  taken_next P seats at x there all is = rw add_one_is (by seats at there all)
    where
      add_one_is : at + 1 ≡ suc at
      add_one_is = omega arith

      by : (xs : List (SeatState L)) (k : ℕ) → slice_get xs k ≡ Some x → AllByRecursion P (take k xs) → AllByRecursion P (take (suc k) xs)
      by [] k there all = absurd cc
      by (y ∷ xs) zero there all = let same : y ≡ x = cc in (subst P (sym same) is, tt)
      by (y ∷ xs) (suc k) there all = (all.0, by xs k there all.1)

  all_gone : (x : SeatState L) (xs : List (SeatState L)) → x.gone ≡ true → length (live_of xs) ≡ 0 → length (live_of (x ∷ xs)) ≡ 0
  all_gone x xs is none = rw is none

  -- where each is gone none lives
  pub none_live : (seats : List (SeatState L)) → AllByRecursion (λ s. s.gone ≡ true) seats → length (live_of seats) ≡ 0
  none_live [] all = refl
  none_live (x ∷ seats) all = all_gone x seats all.0 (none_live seats all.1)

  -- ---- a task that begins

  -- where each peer is ready and the same are gone, none began
  pub busy_at : {T E : Type 0} (least : Amounts) (seats : List (SeatState L)) (at : ℕ) (was now : SeatState L) (p : Option Held) (r : Result T E) → slice_get seats at ≡ Some was
      → OnOk r (IfSome p (λ h. now.gone ≡ false → now.runs ≡ [] → ⊥))
      → IfSome p (λ h. IfSome (slice_get seats at) (λ s. s.gone ≡ false → gone_of (slice_set seats at now) ≡ gone_of seats → AreReady least (slice_set seats at now) → OnOk r ⊥))
  busy_at {T} {E} least seats at was now None r is busy = tt
  busy_at {T} {E} least seats at was now (Some h) r is busy =
      subst (λ (q : Option (SeatState L)). IfSome q (λ s. s.gone ≡ false → gone_of (slice_set seats at now) ≡ gone_of seats → AreReady least (slice_set seats at now) → OnOk r ⊥)) (sym is)
      (λ lives same ready. let gone = gone_there seats at was now is same ∙ lives in at_ok (now.gone ≡ false → now.runs ≡ [] → ⊥) ⊥ r (λ never. never gone (ready_set least seats at was now is ready gone)) busy)

  get_other : (xs : List (SeatState L)) (at k : ℕ) (y : SeatState L) → at < k → slice_get (slice_set xs at y) k ≡ slice_get xs k
  get_other [] zero k y less = refl
  get_other [] (suc at) k y less = refl
  get_other (x ∷ xs) zero zero y less = absurd (let wrong : ⊥ = omega (arith, less) in wrong)
  get_other (x ∷ xs) zero (suc k) y less = refl
  get_other (x ∷ xs) (suc at) zero y less = absurd (let wrong : ⊥ = omega (arith, less) in wrong)
  get_other (x ∷ xs) (suc at) (suc k) y less = get_other xs at k y (omega (arith, less))

  -- those behind a place stay where it is set
  pub rest_after : (first seats now : List (SeatState L)) (at : ℕ) (s : SeatState L) → now ≡ slice_set seats at s → ((k : ℕ) → at ≤ k → slice_get seats k ≡ slice_get first k) → (k : ℕ) → at + 1 ≤ k → slice_get now k ≡ slice_get first k
  rest_after first seats now at s is rest k less =
      ap (λ (xs : List (SeatState L)). slice_get xs k) is ∙ get_other seats at k s (omega (arith, less)) ∙ rest k (omega (arith, less))

  -- one more is ready
  pub ready_next : (least : Amounts) (first seats : List (SeatState L)) (at : ℕ) → slice_get seats at ≡ slice_get first at → AreReady least (take at first) → IfSome (slice_get seats at) (λ s. s.gone ≡ false → IsReady least s) → AreReady least (take (at + 1) first)
  ready_next least first seats at same all here = rw add_one_is (by first at all (subst (λ (p : Option (SeatState L)). IfSome p (λ s. s.gone ≡ false → IsReady least s)) same here))
    where
      add_one_is : at + 1 ≡ suc at
      add_one_is = omega arith

      by : (xs : List (SeatState L)) (k : ℕ) → AreReady least (take k xs) → IfSome (slice_get xs k) (λ s. s.gone ≡ false → IsReady least s) → AreReady least (take (suc k) xs)
      by [] zero all here = tt
      by [] (suc k) all here = tt
      by (x ∷ xs) zero all here = (here, tt)
      by (x ∷ xs) (suc k) all here = (all.0, by xs k all.1 here)

  pub run_pushed : (held : List Held) (ok : Bool) (old new : List (SeatState L)) (s : SeatState L) → new ≡ cond ok (old ++ s ∷ []) old → AreRun held old → AreRun held new
  run_pushed held true old new s is are = subst (λ (xs : List (SeatState L)). AreRun held xs) (sym is) (run_came held old (s ∷ []) are)
  run_pushed held false old new s is are = subst (λ (xs : List (SeatState L)). AreRun held xs) (sym is) are

-- ---- where each peer is ready nothing runs

pub ready_none : {L : Type 0} (least : Amounts) (seats : List (SeatState L)) (id : TaskId) (a : AttemptNo) → AreReady least seats → IsRunBy id a seats → ⊥
ready_none least [] id a ready run = run
ready_none least (x ∷ seats) id a ready (inl here) = has_none id a x.runs here.1 (ready.0 here.0).idle
ready_none least (x ∷ seats) id a ready (inr later) = ready_none least seats id a ready.1 later
