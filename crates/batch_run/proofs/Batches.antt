-- The tasks of a batch, of which one after the other is given.
use Rattle.std.proofs.Common.{◌≡◌, ◌≤◌, ◌<◌, ◌+◌, ◌⊎◌, ◌∙◌, inl, inr, ℕ, zero, suc, List, [], ◌∷◌, ◌++◌, length, map, drop, Some, Ok, Err, Bool, true, ◌&&◌, refl, sym, ap, subst, arith}
use Rattle.std.specs.Prelude.{IfErr, IfOk, Result, remove, replicate, slice_get, slice_set}
use Rattle.std.specs.List.{AllByRecursion, list_all}
use Rattle.flow_types.specs.declared.job.Failure.{Failure}
use Rattle.flow_types.specs.declared.job.Job.{Job}
use Rattle.flow_types.specs.declared.job.Outcome.{Outcome}
use Rattle.flow_types.specs.declared.numbers.AttemptNo.{AttemptNo}
use Rattle.flow_types.specs.Serial.{Function}
use Rattle.links.specs.declared.passing.Passed.{Passed}
use Rattle.task_book.specs.declared.task.Held.{Held}
use Rattle.task_book.specs.declared.task.Ready.{Ready}
use Rattle.task_book.specs.declared.task.Stage.TheVariants as stages
use Rattle.task_book.specs.declared.task.Submission.{Submission}
use Rattle.task_book.specs.declared.task.TaskId.{TaskId}
use Rattle.task_book.specs.Kept.{Kept, next_id, nothing_kept, submitted_to, waiting_as}
use Rattle.task_book.specs.Stages.{Ends, EndsOn}
use Rattle.wq_submit.specs.declared.cause.QueueCame.{QueueCame}
use Rattle.wq_submit.specs.declared.cause.QueueCame.TheVariants as came
use Rattle.wq_submit.specs.declared.cause.WaitFault.{WaitFault}
use Rattle.wq_submit.specs.declared.cause.WaitFault.TheVariants as faults
use Rattle.wq_submit.specs.Queues.{AreIdle, IsIdleThen, Gives, Goes, IsSameWork, IsTrusted, QueueState, work_of}
use Rattle.wq_submit.specs.Shown.{IsRightOf, IsShownBy, ShowsEnds}
use Rattle.batch_run.specs.declared.cause.BatchCause.{BatchCause}
use Rattle.batch_run.specs.declared.cause.BatchCause.TheVariants as causes
use Rattle.batch_run.specs.declared.ends.End.{End}
use Rattle.batch_run.specs.declared.ends.End.TheVariants as ends
use Rattle.batch_run.specs.Batch.{end_of, is_over, printed}
use Rattle.batch_run.specs.Ends.{AreLulls, AreOf, AreOver, AreShown, CountsIdle, EndSo, IfGiven, IsBrought, IsEndOf, IsGiven, IsShown, Lull, MayEndSo, Notes, RunFails, WasIdle, noted}

-- ---- how the tasks ended

module _ (brought : Submission → Outcome → Type 0) where
  noted_at : (tasks : List Submission) (done : List End) (id : ℕ) (task : Submission) (end : End) → slice_get tasks id ≡ Some task → IsEndOf brought task end → MayEndSo brought tasks done
      → MayEndSo brought tasks (slice_set done id end)
  noted_at [] done id task end is so all = absurd (let wrong : ⊥ = cc in wrong)
  noted_at (t ∷ tasks) [] id task end is so all = absurd all
  noted_at (t ∷ tasks) (e ∷ done) zero task end is so all =
      let same : t ≡ task = cc in
      (inr (subst (λ (x : Submission). IsEndOf brought x end) (sym same) so), all.1)
  noted_at (t ∷ tasks) (e ∷ done) (suc id) task end is so all = (all.0, noted_at tasks done id task end is so all.1)

  -- none was given yet
  pub open_so : (tasks : List Submission) → MayEndSo brought tasks (replicate (length tasks) ends.Open)
  open_so [] = tt
  open_so (t ∷ tasks) = (inl refl, open_so tasks)

  over_at : (t : Submission) (e : End) → (e ≡ ends.Open) ⊎ IsEndOf brought t e → is_over e ≡ true → IsEndOf brought t e
  over_at t ends.Open all over = absurd (let wrong : ⊥ = cc in wrong)
  over_at t ends.Failed (inl open_still) over = absurd (let wrong : ⊥ = cc in wrong)
  over_at t ends.Failed (inr so) over = so
  over_at t (ends.Size size) (inl open_still) over = absurd (let wrong : ⊥ = cc in wrong)
  over_at t (ends.Size size) (inr so) over = so

  over_and : (t : Submission) (e : End) (tasks : List Submission) (done : List End) → (e ≡ ends.Open) ⊎ IsEndOf brought t e → (is_over e && list_all is_over done) ≡ true → (list_all is_over done ≡ true → EndSo brought tasks done)
      → IsEndOf brought t e × EndSo brought tasks done
  over_and t ends.Open tasks done all over rest = absurd (let wrong : ⊥ = cc in wrong)
  over_and t ends.Failed tasks done all over rest = (over_at t ends.Failed all refl, rest over)
  over_and t (ends.Size size) tasks done all over rest = (over_at t (ends.Size size) all refl, rest over)

  -- each was given
  pub over_so : (tasks : List Submission) (done : List End) → MayEndSo brought tasks done → AreOver done → EndSo brought tasks done
  over_so [] [] all over = tt
  over_so [] (e ∷ done) all over = all
  over_so (t ∷ tasks) [] all over = all
  over_so (t ∷ tasks) (e ∷ done) all over = over_and t e tasks done all.0 over (over_so tasks done all.1)

-- what was brought by the one was by the other
module _ (brought brought_now : Submission → Outcome → Type 0) (to : (t : Submission) (o : Outcome) → brought_now t o → brought t o) where
  end_so : (t : Submission) (e : End) → IsEndOf brought_now t e → IsEndOf brought t e
  end_so t e so = (so.0, so.1, to t so.0 so.2)

  pub ends_noted : (tasks : List Submission) (old new : List End) → Notes brought_now tasks old new → MayEndSo brought tasks old → MayEndSo brought tasks new
  ends_noted tasks old new (inl same) all = subst (λ (es : List End). MayEndSo brought tasks es) (sym same) all
  ends_noted tasks old new (inr n) all = subst (λ (es : List End). MayEndSo brought tasks es) (sym n.5) (noted_at brought tasks old n.0 n.1 n.2 n.3 (end_so n.1 n.2 n.4) all)

  by_one : (t : Submission) (e : End) → (e ≡ ends.Open) ⊎ IsEndOf brought_now t e → (e ≡ ends.Open) ⊎ IsEndOf brought t e
  by_one t e (inl open_still) = inl open_still
  by_one t e (inr so) = inr (end_so t e so)

  pub ends_so : (tasks : List Submission) (done : List End) → MayEndSo brought_now tasks done → MayEndSo brought tasks done
  ends_so [] [] all = tt
  ends_so [] (e ∷ done) all = all
  ends_so (t ∷ tasks) [] all = all
  ends_so (t ∷ tasks) (e ∷ done) all = (by_one t e all.0, ends_so tasks done all.1)

  ends_all : (tasks : List Submission) (done : List End) → EndSo brought_now tasks done → EndSo brought tasks done
  ends_all [] [] all = tt
  ends_all [] (e ∷ done) all = all
  ends_all (t ∷ tasks) [] all = all
  ends_all (t ∷ tasks) (e ∷ done) all = (end_so t e all.0, ends_all tasks done all.1)

  -- what is printed of them
  pub text_so : {A : Type 0} (bytes : A → List ℕ) (tasks : List Submission) (r : Result A BatchCause) → IfOk r (λ text. (done : List End) × EndSo brought_now tasks done × (bytes text ≡ printed done))
      → IfOk r (λ text. (done : List End) × EndSo brought tasks done × (bytes text ≡ printed done))
  text_so bytes tasks (Ok text) so = (so.0, ends_all tasks so.0 so.1, so.2)
  text_so bytes tasks (Err cause) so = tt

pub text_of_ends : {A : Type 0} (bytes : A → List ℕ) (brought : Submission → Outcome → Type 0) (tasks : List Submission) (done : List End) (r : Result A BatchCause) → EndSo brought tasks done → IfOk r (λ text. bytes text ≡ printed done)
    → IfOk r (λ text. (ends : List End) × EndSo brought tasks ends × (bytes text ≡ printed ends))
text_of_ends bytes brought tasks done (Ok text) so is = (done, so, is)
text_of_ends bytes brought tasks done (Err cause) so is = tt

module _ {L : Type 0} (tells : Type 0) (gives : Function) (may_fail : Job → Failure → Type 0) (history : L → List Passed) where
  -- links that are honest from the begin are later
  pub brought_fairer : (fair fair_now : Type 0) → (fair → fair_now) → (t : Submission) (o : Outcome) → IsBrought tells fair_now gives may_fail history t o → IsBrought tells fair gives may_fail history t o
  brought_fairer fair fair_now to t o b = (b.0, λ f. b.1 (to f))

-- a new queue
pub new_trusted : {L : Type 0} (tells : Type 0) (gives : Function) (may_fail : Job → Failure → Type 0) (honest : L → Type 0) (q : QueueState L) → q ≡ record { files = []; kept = nothing_kept; ways = []; live = []; next = 0 } → tells
    → IsTrusted tells gives may_fail honest q
new_trusted {L} tells gives may_fail honest q is told = subst (λ (x : QueueState L). IsTrusted tells gives may_fail honest x) (sym is) (record {
  told = told;
  links = tt;
  ends = λ a o t end. absurd end;
})

-- ---- the tasks that are held

of_on : (tasks : List Submission) (k n : Kept) → IsSameWork k n → AreOf tasks k → AreOf tasks n
of_on tasks k n work all = subst (λ (ws : List (TaskId × Submission)). AllByRecursion (λ w. slice_get tasks w.0.0 ≡ Some w.1) ws) (sym work.held) all

of_left : (tasks : List Submission) (held : List Held) (at : ℕ) → AllByRecursion (λ w. slice_get tasks w.0.0 ≡ Some w.1) (map work_of held) → AllByRecursion (λ w. slice_get tasks w.0.0 ≡ Some w.1) (map work_of (remove held at))
of_left tasks [] zero all = tt
of_left tasks [] (suc at) all = tt
of_left tasks (h ∷ held) zero all = all.1
of_left tasks (h ∷ held) (suc at) all = (all.0, of_left tasks held at all.1)

of_at : (tasks : List Submission) (held : List Held) (at : ℕ) (h : Held) → slice_get held at ≡ Some h → AllByRecursion (λ w. slice_get tasks w.0.0 ≡ Some w.1) (map work_of held) → slice_get tasks h.id.0 ≡ Some h.task
of_at tasks [] at h is all = absurd (let wrong : ⊥ = cc in wrong)
of_at tasks (x ∷ held) zero h is all = let same : x ≡ h = cc in subst (λ (y : Held). slice_get tasks y.id.0 ≡ Some y.task) same all.0
of_at tasks (x ∷ held) (suc at) h is all = of_at tasks held at h is all.1

of_more : (tasks : List Submission) (held : List Held) (id : TaskId) (task : Submission) → slice_get tasks id.0 ≡ Some task → AllByRecursion (λ w. slice_get tasks w.0.0 ≡ Some w.1) (map work_of held)
    → AllByRecursion (λ w. slice_get tasks w.0.0 ≡ Some w.1) (map work_of (held ++ waiting_as id task ∷ []))
of_more tasks [] id task is all = (is, tt)
of_more tasks (h ∷ held) id task is all = (all.0, of_more tasks held id task is all.1)

-- a task was submitted, which is the next of these
of_submitted : (tasks : List Submission) (k n : Kept) (task : Submission) → slice_get tasks (length k.submitted) ≡ Some task → n ≡ submitted_to k task → AreOf tasks k → AreOf tasks n
of_submitted tasks k n task is to all = subst (λ (x : Kept). AreOf tasks x) (sym to) (of_more tasks k.held (next_id k) task is all)

ends_at : (held : List Held) (at : ℕ) (h : Held) (a : AttemptNo) (o : Outcome) → slice_get held at ≡ Some h → h.stage ≡ stages.Ended a o → Ends held a o h.task
ends_at [] at h a o is ended = absurd (let wrong : ⊥ = cc in wrong)
ends_at (x ∷ held) zero h a o is ended = let same : x ≡ h = cc in inl (ap (λ (y : Held). y.stage) same ∙ ended, ap (λ (y : Held). y.task) same)
ends_at (x ∷ held) (suc at) h a o is ended = inr (ends_at held at h a o is ended)

left_ends : (held : List Held) (at : ℕ) → EndsOn held (remove held at)
left_ends [] zero a o t end = end
left_ends [] (suc at) a o t end = end
left_ends (h ∷ held) zero a o t end = inr end
left_ends (h ∷ held) (suc at) a o t (inl here) = inl here
left_ends (h ∷ held) (suc at) a o t (inr there) = inr (left_ends held at a o t there)

-- ---- what links show

module _ {L : Type 0} (history : L → List Passed) where
  shown_by : (ways : List L) (task : Submission) (a : AttemptNo) (o : Outcome) → IsShownBy history task a o ways → IsShown history task o
  shown_by [] task a o by = absurd by
  shown_by (w ∷ ways) task a o (inl here) = (a, w, here)
  shown_by (w ∷ ways) task a o (inr there) = shown_by ways task a o there

  shown_of : (old : List Held) (ways : List L) (a : AttemptNo) (o : Outcome) (t : Submission) → AreShown history old → Ends old a o t ⊎ IsShownBy history t a o ways → IsShown history t o
  shown_of old ways a o t all (inl before) = all a o t before
  shown_of old ways a o t all (inr by) = shown_by ways t a o by

  shown_then : (old new : List Held) (ways : List L) → ShowsEnds history old new ways → AreShown history old → AreShown history new
  shown_then old new ways shows all a o t end = shown_of old ways a o t all (shows a o t end)

  pub shown_on : (old new : List Held) → EndsOn old new → AreShown history old → AreShown history new
  shown_on old new on all a o t end = all a o t (on a o t end)

  -- none came to its end
  pub shown_none : AreShown history []
  shown_none a o t end = absurd end

-- ---- a task is given

-- it is noted
pub given_noted : (brought : Submission → Outcome → Type 0) (tasks : List Submission) (answer : Result QueueCame WaitFault) (old new : List End) → IfGiven answer (IsGiven brought tasks) → new ≡ noted answer old → Notes brought tasks old new
given_noted brought tasks (Ok (came.Got ready)) old new g is = inr (ready.id.0, g.task, end_of ready.outcome, g.there, (ready.outcome, refl, g.by), is)
given_noted brought tasks (Ok came.Empty) old new g is = inl is
given_noted brought tasks (Ok came.Idle) old new g is = inl is
given_noted brought tasks (Err fault) old new g is = inl is

module _ {L : Type 0} (tells : Type 0) (gives : Function) (may_fail : Job → Failure → Type 0) (history : L → List Passed) (fair : Type 0) where
  pub given_is : (tasks : List Submission) (old new : QueueState L) (ready : Ready) → old.files ≡ [] → Goes tells gives may_fail history fair old new (Ok (came.Got ready)) → AreOf tasks old.kept → (tells → AreShown history old.kept.held)
      → IsGiven (IsBrought tells fair gives may_fail history) tasks ready
  given_is tasks old new ready none g all shown =
      let gave = g.does.1 in
      let h = gave.ended.0 in
      let there = of_at tasks g.before.held gave.at h gave.ended.1 (of_on tasks old.kept g.before g.does.0 all) in
      let end = ends_at g.before.held gave.at h gave.attempt ready.outcome gave.ended.1 gave.ended.3 in
      record {
        task = h.task;
        there = subst (λ (id : TaskId). slice_get tasks id.0 ≡ Some h.task) gave.ended.2 there;
        by = (
          λ t. shown_then history old.kept.held g.before.held new.ways (g.shows t) (shown t) gave.attempt ready.outcome h.task end,
          λ f. subst (λ (files : List (List ℕ)). IsRightOf gives may_fail files h.task ready.outcome) none (g.right f gave.attempt h.task end),
        );
      }

  pub given_so : (tasks : List Submission) (old new : QueueState L) (answer : Result QueueCame WaitFault) → old.files ≡ [] → Goes tells gives may_fail history fair old new answer → AreOf tasks old.kept → (tells → AreShown history old.kept.held)
      → IfGiven answer (IsGiven (IsBrought tells fair gives may_fail history) tasks)
  given_so tasks old new (Ok (came.Got ready)) none g all shown = given_is tasks old new ready none g all shown
  given_so tasks old new (Ok came.Empty) none g all shown = tt
  given_so tasks old new (Ok came.Idle) none g all shown = tt
  given_so tasks old new (Err fault) none g all shown = tt

  -- the tasks are those of the batch after a call
  pub of_waited : (tasks : List Submission) (old new : QueueState L) (answer : Result QueueCame WaitFault) → Goes tells gives may_fail history fair old new answer → AreOf tasks old.kept → AreOf tasks new.kept
  of_waited tasks old new (Ok (came.Got ready)) g all =
      let gave = g.does.1 in
      subst (λ (k : Kept). AreOf tasks k) (sym gave.after_is) (of_left tasks g.before.held gave.at (of_on tasks old.kept g.before g.does.0 all))
  of_waited tasks old new (Ok came.Empty) g all = subst (λ (k : Kept). AreOf tasks k) (sym g.does.1) all
  of_waited tasks old new (Ok came.Idle) g all = subst (λ (k : Kept). AreOf tasks k) (sym g.does.1) (of_on tasks old.kept g.before g.does.0 all)
  of_waited tasks old new (Err fault) g all = subst (λ (k : Kept). AreOf tasks k) (sym g.does.1) (of_on tasks old.kept g.before g.does.0 all)

  -- and those that came to an end are shown
  pub shown_waited : (old new : QueueState L) (answer : Result QueueCame WaitFault) → Goes tells gives may_fail history fair old new answer → tells → AreShown history old.kept.held → AreShown history new.kept.held
  shown_waited old new (Ok (came.Got ready)) g t all =
      let gave = g.does.1 in
      subst (λ (k : Kept). AreShown history k.held) (sym gave.after_is) (shown_on history g.before.held (remove g.before.held gave.at) (left_ends g.before.held gave.at) (shown_then history old.kept.held g.before.held new.ways (g.shows t) all))
  shown_waited old new (Ok came.Empty) g t all = subst (λ (k : Kept). AreShown history k.held) (sym g.does.1) all
  shown_waited old new (Ok came.Idle) g t all = subst (λ (k : Kept). AreShown history k.held) (sym g.does.1) (shown_then history old.kept.held g.before.held new.ways (g.shows t) all)
  shown_waited old new (Err fault) g t all = subst (λ (k : Kept). AreShown history k.held) (sym g.does.1) (shown_then history old.kept.held g.before.held new.ways (g.shows t) all)

-- ---- turns in which nothing came

module _ {L : Type 0} (idles : L → ℕ) where
  later : (before now after : ℕ) (lulls : List (Lull L)) → now ≤ after → AreLulls idles before now lulls → AreLulls idles before after lulls
  later before now after [] le all = omega (arith, le, all)
  later before now after (l ∷ lulls) le all = (all.0, all.1, all.2, omega (arith, le, all.3))

  pub idle_later : (before now after count : ℕ) → now ≤ after → WasIdle idles before now count → WasIdle idles before after count
  idle_later before now after count le was = (was.0, was.1, later before now after was.0 le was.2)

  pub idle_more : (before now after count next : ℕ) (live : List L) → now ≤ after → next ≡ count + 1 → AreIdle idles now after live → WasIdle idles before now count → WasIdle idles before after next
  idle_more before now after count next live le is idle was = (
    (record { low = now; high = after; live = live }) ∷ was.0,
    (let many : length was.0 ≡ count = was.1 in omega (arith, many, is)),
    (was.2, idle, le, (let same : after ≤ after = omega arith in same)),
  )

  -- an answer is counted
  pub idle_counted : (before now after old new : ℕ) (live : List L) (answer : Result QueueCame WaitFault) → now ≤ after → IsIdleThen idles now after live answer → CountsIdle answer old new → WasIdle idles before now old → WasIdle idles before after new
  idle_counted before now after old new live (Ok (came.Got ready)) le idle is was = subst (λ (n : ℕ). WasIdle idles before after n) (sym is) (idle_later before now after old le was)
  idle_counted before now after old new live (Ok came.Empty) le idle is was = subst (λ (n : ℕ). WasIdle idles before after n) (sym is) (idle_later before now after old le was)
  idle_counted before now after old new live (Ok came.Idle) le idle is was = idle_more before now after old new live le is idle was
  idle_counted before now after old new live (Err fault) le idle is was = subst (λ (n : ℕ). WasIdle idles before after n) (sym is) (idle_later before now after old le was)

-- ---- faults

-- what is told of a part of a run is so of the whole
pub fails_wider : (idle idle_then : Type 0) (before low high now : ℕ) (cause : BatchCause) → (idle → idle_then) → before ≤ low → high ≤ now → RunFails idle low high cause → RunFails idle_then before now cause
fails_wider idle idle_then before low high now (causes.HallFault a b) to le ge rose = (omega (arith, le, rose.0), rose.1, omega (arith, ge, rose.2))
fails_wider idle idle_then before low high now causes.Idle to le ge was = to was
fails_wider idle idle_then before low high now causes.Memory to le ge was = tt
fails_wider idle idle_then before low high now causes.Done to le ge was = was
fails_wider idle idle_then before low high now causes.Usage to le ge was = was
fails_wider idle idle_then before low high now causes.FileMissing to le ge was = was
fails_wider idle idle_then before low high now (causes.BadLine line) to le ge was = was
fails_wider idle idle_then before low high now causes.TooMany to le ge was = was
fails_wider idle idle_then before low high now (causes.SiteFault a b) to le ge was = was
fails_wider idle idle_then before low high now (causes.SinkFault a b) to le ge was = was

pub run_wider : {A : Type 0} (idle idle_then : Type 0) (before low high now : ℕ) (r : Result A BatchCause) → (idle → idle_then) → before ≤ low → high ≤ now → IfErr r (RunFails idle low high) → IfErr r (RunFails idle_then before now)
run_wider idle idle_then before low high now (Ok done) to le ge fails = tt
run_wider idle idle_then before low high now (Err cause) to le ge fails = fails_wider idle idle_then before low high now cause to le ge fails

-- ---- what is left of a list

len_more : {A : Type 0} (xs : List A) (x : A) → length (xs ++ x ∷ []) ≡ suc (length xs)
len_more [] x = refl
len_more (y ∷ xs) x = ap suc (len_more xs x)

-- what begins there is there, and what is left behind it
first_of_rest : {A : Type 0} (xs : List A) (n : ℕ) (x : A) (rest : List A) → drop n xs ≡ x ∷ rest → (slice_get xs n ≡ Some x) × (drop (suc n) xs ≡ rest)
first_of_rest [] zero x rest is = absurd (let wrong : ⊥ = cc in wrong)
first_of_rest [] (suc n) x rest is = absurd (let wrong : ⊥ = cc in wrong)
first_of_rest (y ∷ xs) zero x rest is = ((let same : Some y ≡ Some x = cc in same), (let same : xs ≡ rest = cc in same))
first_of_rest (y ∷ xs) (suc n) x rest is = first_of_rest xs n x rest is

-- the next of the tasks was submitted
pub left_submitted : (tasks : List Submission) (k n : Kept) (task : Submission) (rest : List Submission) → drop (length k.submitted) tasks ≡ task ∷ rest → n ≡ submitted_to k task → drop (length n.submitted) tasks ≡ rest
left_submitted tasks k n task rest is to =
    let behind = (first_of_rest tasks (length k.submitted) task rest is).1 in
    subst (λ (x : Kept). drop (length x.submitted) tasks ≡ rest) (sym to) (subst (λ (m : ℕ). drop m tasks ≡ rest) (sym (len_more k.submitted (next_id k))) behind)

pub of_next : (tasks : List Submission) (k n : Kept) (task : Submission) (rest : List Submission) → drop (length k.submitted) tasks ≡ task ∷ rest → n ≡ submitted_to k task → AreOf tasks k → AreOf tasks n
of_next tasks k n task rest is to all = of_submitted tasks k n task (first_of_rest tasks (length k.submitted) task rest is).0 to all

more_ends : (held : List Held) (id : TaskId) (task : Submission) → EndsOn held (held ++ waiting_as id task ∷ [])
more_ends [] id task a o t (inl this) = absurd (let is = this.0 in let wrong : ⊥ = cc in wrong)
more_ends [] id task a o t (inr none) = none
more_ends (h ∷ held) id task a o t (inl here) = inl here
more_ends (h ∷ held) id task a o t (inr there) = inr (more_ends held id task a o t there)

pub ends_submitted : (k n : Kept) (task : Submission) → n ≡ submitted_to k task → EndsOn k.held n.held
ends_submitted k n task to = subst (λ (x : Kept). EndsOn k.held x.held) (sym to) (more_ends k.held (next_id k) task)
