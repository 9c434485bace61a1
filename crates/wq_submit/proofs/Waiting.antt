-- A queue that waits.
use Rattle.std.proofs.Common.{◌≡◌, ◌≤◌, ◌⊎◌, ◌∙◌, inl, inr, ℕ, false, List, [], ◌∷◌, ◌++◌, map, None, Result, Ok, Err, refl, sym, ap, subst, true≢false, arith}
use Rattle.std.specs.List.{AllByRecursion}
use Rattle.flow_types.specs.declared.job.Failure.{Failure}
use Rattle.flow_types.specs.declared.job.Job.{Job}
use Rattle.flow_types.specs.declared.job.Outcome.{Outcome}
use Rattle.flow_types.specs.declared.numbers.AttemptNo.{AttemptNo}
use Rattle.flow_types.specs.Serial.{Function}
use Rattle.links.specs.declared.passing.Passed.{Passed}
use Rattle.task_book.specs.declared.task.Held.{Held}
use Rattle.task_book.specs.declared.task.Ready.{Ready}
use Rattle.task_book.specs.declared.task.Submission.{Submission}
use Rattle.task_book.specs.Kept.{Kept, is_end, place_ended}
use Rattle.task_book.specs.Stages.{Ends, EndsOn}
use Rattle.task_book.proofs.Positions.{none_passes_at}
use Rattle.wq_submit.specs.declared.cause.QueueCame.{QueueCame}
use Rattle.wq_submit.specs.declared.cause.QueueCame.TheVariants as came
use Rattle.wq_submit.specs.declared.cause.WaitFault.{WaitFault}
use Rattle.wq_submit.specs.declared.cause.WaitFault.TheVariants as faults
use Rattle.wq_submit.specs.Queues.{AreIdle, Gives, GivesRight, Goes, GoesOnTo, IsAfter, IsEmptyExactly, IsHallFault, IsIdleThen, IsTrusted, IsUnder, QueueState}
use Rattle.wq_company.specs.Rounds.{IsIdleHall, Comes}
use Rattle.wq_seats.specs.Works.{IsSameWork, work_of}
use Rattle.wq_seats.specs.Shown.{EndsRight, IsRightOf, ShowsEnds}
use Rattle.wq_seats.proofs.Going.{work_same, work_then}
use Rattle.wq_company.proofs.Showing.{shows_after, shows_more}

-- where none is found to have come to its end, none has
pub none_ended : (held : List Held) → place_ended held ≡ None → (a : AttemptNo) (o : Outcome) (task : Submission) → Ends held a o task → ⊥
none_ended held none a o task end = by held (none_passes_at (λ (h : Held). is_end h.stage) held none) end
  where
    by : (xs : List Held) → AllByRecursion (λ (h : Held). is_end h.stage ≡ false) xs → Ends xs a o task → ⊥
    by [] all is = is
    by (x ∷ xs) all (inl this) = true≢false (ap is_end (sym this.0) ∙ all.0)
    by (x ∷ xs) all (inr rest) = by xs all.1 rest

module _ {L : Type 0} (tells : Type 0) (gives : Function) (may_fail : Job → Failure → Type 0) (history : L → List Passed) (honest : L → Type 0) where
  abbrev pub Trusted : QueueState L → Type 0
  Trusted q = IsTrusted tells gives may_fail honest q

  -- the queue is trusted once it worked
  pub trusted_work : (q mid : QueueState L) → (tells → AllByRecursion honest q.ways → EndsRight gives may_fail q.files q.kept.held mid.kept.held) → (AllByRecursion honest q.ways → AllByRecursion honest mid.ways)
      → mid.files ≡ q.files → Trusted q → Trusted mid
  trusted_work q mid right links files t = record {
    told = t.told;
    links = links t.links;
    ends = λ a o task end. subst (λ (fs : List (List ℕ)). IsRightOf gives may_fail fs task o) (sym files) (by a o task (right t.told t.links a o task end));
  }
    where
      by : (a : AttemptNo) (o : Outcome) (task : Submission) → Ends q.kept.held a o task ⊎ IsRightOf gives may_fail q.files task o → IsRightOf gives may_fail q.files task o
      by a o task (inl was) = t.ends a o task was
      by a o task (inr here) = here

  -- from where none had come to its end
  pub shows_from : (first old new : List Held) (ways : List L) → place_ended old ≡ None → ShowsEnds history old new ways → ShowsEnds history first new ways
  shows_from first old new ways none shows = shows_after history first old new ways (λ a o task end. absurd (none_ended old none a o task end)) shows

  -- ---- what a call of wait does

  given_right : (q : QueueState L) (files : List (List ℕ)) (ready : Ready) → q.files ≡ files → Trusted q → GivesRight gives may_fail files q.kept (Ok (came.Got ready))
  given_right q files ready same t attempt task end = subst (λ (fs : List (List ℕ)). IsRightOf gives may_fail fs task ready.outcome) same (t.ends attempt ready.outcome task end)

  abbrev pub GoesAs : Type 0 → QueueState L → QueueState L → Result QueueCame WaitFault → Type 0
  GoesAs fair old new answer = Goes tells gives may_fail history fair old new answer

  -- a task is given at once
  pub goes_now : (old new : QueueState L) (ready : Ready) → Gives old.kept new.kept ready → GoesAs (Trusted old) old new (Ok (came.Got ready))
  goes_now old new ready gave = record {
    before = old.kept;
    does = (work_same old.kept, gave);
    shows = λ told a o task end. inl end;
    right = λ t. given_right old old.files ready refl t;
  }

  -- nothing is held
  pub goes_empty : (q : QueueState L) → q.kept.held ≡ [] → GoesAs (Trusted q) q q (Ok came.Empty)
  goes_empty q none = record { before = q.kept; does = (refl, refl, none); shows = λ told a o task end. inl end; right = λ t. tt }

  -- what a round came to
  pub goes_after : (fair : Type 0) (old mid new : QueueState L) (c : QueueCame) → IsSameWork old.kept mid.kept → (tells → ShowsEnds history old.kept.held mid.kept.held mid.ways) → mid.files ≡ old.files → (fair → Trusted mid)
      → IsAfter mid new c → GoesAs fair old new (Ok c)
  goes_after fair old mid new (came.Got ready) work shows files trust after = record {
    before = mid.kept;
    does = (work, after.0);
    shows = λ told. subst (λ (ws : List L). ShowsEnds history old.kept.held mid.kept.held ws) (sym after.1) (shows told);
    right = λ f. given_right mid old.files ready files (trust f);
  }
  goes_after fair old mid new came.Empty work shows files trust after = absurd after
  goes_after fair old mid new came.Idle work shows files trust after = record {
    before = mid.kept;
    does = (work, ap (λ (q : QueueState L). q.kept) after);
    shows = λ told. subst (λ (q : QueueState L). ShowsEnds history old.kept.held mid.kept.held q.ways) (sym after) (shows told);
    right = λ f. tt;
  }

  -- a round failed
  pub goes_fault : (fair : Type 0) (old new : QueueState L) (fault : WaitFault) → IsSameWork old.kept new.kept → (tells → ShowsEnds history old.kept.held new.kept.held new.ways) → GoesAs fair old new (Err fault)
  goes_fault fair old new fault work shows = record { before = new.kept; does = (work, refl); shows = shows; right = λ f. tt }

  does_from : (first old before new : Kept) (answer : Result QueueCame WaitFault) → IsSameWork first old → (answer ≡ Ok came.Empty → ⊥) → GoesOnTo old answer before new → GoesOnTo first answer before new
  does_from first old before new (Ok (came.Got ready)) work never does = (work_then first old before work does.0, does.1)
  does_from first old before new (Ok came.Empty) work never does = absurd (never refl)
  does_from first old before new (Ok came.Idle) work never does = (work_then first old before work does.0, does.1)
  does_from first old before new (Err fault) work never does = (work_then first old before work does.0, does.1)

  -- from where the call began
  pub goes_from : (fair fair_now : Type 0) (first old new : QueueState L) (answer : Result QueueCame WaitFault) → IsUnder first.kept old.kept → old.files ≡ first.files → (fair → fair_now) → (answer ≡ Ok came.Empty → ⊥)
      → GoesAs fair_now old new answer → GoesAs fair first new answer
  goes_from fair fair_now first old new answer under files to never g = record {
    before = g.before;
    does = does_from first.kept old.kept g.before new.kept answer under.work never g.does;
    shows = λ told. shows_from first.kept.held old.kept.held g.before.held new.ways under.none (g.shows told);
    right = λ f. subst (λ (fs : List (List ℕ)). GivesRight gives may_fail fs g.before answer) files (g.right (to f));
  }

  -- from where the left links were handed back
  pub goes_parted : (fair fair_now : Type 0) (old parted new : QueueState L) (answer : Result QueueCame WaitFault) → parted.kept ≡ old.kept → parted.files ≡ old.files → (fair → fair_now)
      → GoesAs fair_now parted new answer → GoesAs fair old new answer
  goes_parted fair fair_now old parted new answer kept files to g = record {
    before = g.before;
    does = subst (λ (k : Kept). GoesOnTo k answer g.before new.kept) kept g.does;
    shows = λ told. subst (λ (k : Kept). ShowsEnds history k.held g.before.held new.ways) kept (g.shows told);
    right = λ f. subst (λ (fs : List (List ℕ)). GivesRight gives may_fail fs g.before answer) files (g.right (to f));
  }

-- some work is left where the same is held
pub some_left : (k n : Kept) → IsSameWork k n → (k.held ≡ [] → ⊥) → n.held ≡ [] → ⊥
some_left k n work some none = some (by k.held (sym work.held ∙ ap (λ (h : List Held). map work_of h) none))
  where
    by : (held : List Held) → map work_of held ≡ [] → held ≡ []
    by [] is = refl
    by (h ∷ held) is = absurd (let wrong : ⊥ = cc in wrong)

-- the call goes on behind a round of which nothing came to its end
pub under_on : (k n : Kept) → IsSameWork k n → place_ended n.held ≡ None → IsUnder k k → IsUnder k n
under_on k n work none under = record { work = work; none = none; some = some_left k n work under.some }

pub under_then : (first k n : Kept) → IsUnder first k → IsUnder k n → IsUnder first n
under_then first k n a b = record { work = work_then first k n a.work b.work; none = b.none; some = b.some }

-- the call goes on from here
pub under_here : (first k : Kept) → IsUnder first k → IsUnder k k
under_here first k under = record { work = work_same k; none = under.none; some = under.some }

pub empty_never : (k : Kept) (answer : Result QueueCame WaitFault) → (answer ≡ Ok came.Empty → ⊥) → (k.held ≡ [] → ⊥) → IsEmptyExactly k answer
empty_never k answer never some = (λ is. absurd (never is), λ none. absurd (some none))

-- the call begins to wait
pub under_of : (k : Kept) → place_ended k.held ≡ None → (k.held ≡ [] → ⊥) → IsUnder k k
under_of k none some = record { work = work_same k; none = none; some = some }

pub after_files : {L : Type 0} (mid new : QueueState L) (c : QueueCame) → IsAfter mid new c → new.files ≡ mid.files
after_files {L} mid new (came.Got ready) after = after.2
after_files {L} mid new came.Empty after = absurd after
after_files {L} mid new came.Idle after = ap (λ (q : QueueState L). q.files) after

pub after_held : {L : Type 0} (mid new : QueueState L) (c : QueueCame) → IsAfter mid new c → (let answer : Result QueueCame WaitFault = Ok c in answer ≡ Ok came.Empty) → ⊥
after_held mid new (came.Got ready) after is = let wrong : ⊥ = cc in wrong
after_held mid new came.Empty after is = after
after_held mid new came.Idle after is = let wrong : ⊥ = cc in wrong

pub empty_parted : (k n : Kept) (answer : Result QueueCame WaitFault) → n ≡ k → IsEmptyExactly n answer → IsEmptyExactly k answer
empty_parted k n answer same is = subst (λ (x : Kept). IsEmptyExactly x answer) same is

pub fault_wider : (low before now : ℕ) (answer : Result QueueCame WaitFault) → low ≤ before → IsHallFault before now answer → IsHallFault low now answer
fault_wider low before now (Ok c) less is = tt
fault_wider low before now (Err (faults.Hall a b)) less is = let from = is.0 in (omega (arith, less, from), is.1, is.2)
fault_wider low before now (Err faults.Memory) less is = tt

-- ---- idle answers

pub idle_never : {L : Type 0} (idles : L → ℕ) (before now : ℕ) (live : List L) (c : QueueCame) → (c ≡ came.Idle → ⊥) → IsIdleThen idles before now live (Ok c)
idle_never idles before now live (came.Got ready) never = tt
idle_never idles before now live came.Empty never = tt
idle_never idles before now live came.Idle never = absurd (never refl)

pub idle_after : {L : Type 0} (idles : L → ℕ) (before now : ℕ) (mid new : QueueState L) (c : QueueCame) → IsAfter mid new c → (c ≡ came.Idle → AreIdle idles before now mid.live) → IsIdleThen idles before now new.live (Ok c)
idle_after {L} idles before now mid new (came.Got ready) after is = tt
idle_after {L} idles before now mid new came.Empty after is = tt
idle_after {L} idles before now mid new came.Idle after is = subst (λ (q : QueueState L). AreIdle idles before now q.live) (sym after) (is refl)

rises : {L : Type 0} (low before now : ℕ) (live : List L) → low ≤ before → IsIdleHall before now live → IsIdleHall low now live
rises low before now live less (inl rose) = inl (omega (arith, less, rose))
rises low before now live less (inr many) = inr many

pub idle_wider : {L : Type 0} (idles : L → ℕ) (low before now : ℕ) (live : List L) (answer : Result QueueCame WaitFault) → low ≤ before → IsIdleThen idles before now live answer → IsIdleThen idles low now live answer
idle_wider idles low before now live (Ok (came.Got ready)) less is = tt
idle_wider idles low before now live (Ok came.Empty) less is = tt
idle_wider idles low before now live (Ok came.Idle) less is = record { links = is.links; hall = rises low before now live less is.hall }
idle_wider idles low before now live (Err fault) less is = tt

-- what came to its end before in another way
pub right_after : (gives : Function) (may_fail : Job → Failure → Type 0) (files : List (List ℕ)) (first old new : List Held) → EndsOn first old → EndsRight gives may_fail files old new → EndsRight gives may_fail files first new
right_after gives may_fail files first old new on right a o task end = by (right a o task end)
  where
    by : Ends old a o task ⊎ IsRightOf gives may_fail files task o → Ends first a o task ⊎ IsRightOf gives may_fail files task o
    by (inl was) = inl (on a o task was)
    by (inr is) = inr is

-- once the hall was asked
pub shows_came : {L : Type 0} (history : L → List Passed) (honest : L → Type 0) (fair fair_now : Type 0) (old new : List Held) (ways after : List L) → Comes honest fair fair_now ways after
    → ShowsEnds history old new ways → ShowsEnds history old new after
shows_came {L} history honest fair fair_now old new ways after comes shows = by comes.links
  where
    by : (after ≡ ways) ⊎ ((way : L) × (after ≡ ways ++ way ∷ []) × (fair → honest way)) → ShowsEnds history old new after
    by (inl same) = subst (λ (ws : List L). ShowsEnds history old new ws) (sym same) shows
    by (inr more) = subst (λ (ws : List L). ShowsEnds history old new ws) (sym more.1) (shows_more history old new ways (more.0 ∷ []) shows)
