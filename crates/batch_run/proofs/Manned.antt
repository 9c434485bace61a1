-- A batch over a hall that is manned.
use Rattle.std.proofs.Common.{◌≡◌, ◌≤◌, ◌<◌, ◌⊎◌, inl, inr, ℕ, Bool, true, false, List, [], ◌∷◌, ◌++◌, length, Option, Some, None, Result, Ok, Err, refl, sym, subst, arith}
use Rattle.std.specs.Prelude.{◌==◌, IfErr, IfNone, if◌then◌else◌, is_ok}
use Rattle.std.specs.List.{AllByRecursion, flat_map}
use Rattle.flow_types.specs.declared.numbers.Amounts.{Amounts}
use Rattle.task_book.specs.declared.task.Submission.{Submission}
use Rattle.wq_submit.specs.declared.cause.QueueCame.{QueueCame}
use Rattle.wq_submit.specs.declared.cause.WaitFault.{WaitFault}
use Rattle.wq_submit.specs.declared.cause.WaitFault.TheVariants as faults
use Rattle.wq_submit.specs.Queues.{UnlessMemory}
use Rattle.batch_run.specs.declared.cause.BatchCause.{BatchCause}
use Rattle.batch_run.specs.declared.cause.BatchCause.TheVariants as causes
use Rattle.batch_run.specs.Batch.{batch_task, line_tasks, one_core}
use Rattle.batch_run.specs.Ends.{AreFit, Called, EndsWell, IsNotIdle, Prints, Rose, RunFails, Stops}

-- ---- tasks

fit_append : (least : Amounts) (xs ys : List Submission) → AreFit least xs → AreFit least ys → AreFit least (xs ++ ys)
fit_append least [] ys one two = two
fit_append least (x ∷ xs) ys one two = (one.0, fit_append least xs ys one.1 two)

fit_line : (line : List ℕ) (b : Bool) → AreFit one_core (let none : List Submission = [] in if b then none else batch_task line ∷ [])
fit_line line true = tt
fit_line line false = (record { cores = omega arith; memory = omega arith; disk = omega arith }, tt)

-- each task of a batch needs one core
pub fit_lines : (lines : List (List ℕ)) → AreFit one_core (flat_map line_tasks lines)
fit_lines [] = tt
fit_lines (line ∷ lines) = fit_append one_core (line_tasks line) (flat_map line_tasks lines) (fit_line line (length line == 0)) (fit_lines lines)

-- ---- answers

-- a batch that goes on didn't want memory
pub goes_staffed : {A : Type 0} (r : Option A) (answer : Result QueueCame WaitFault) (fact : Type 0) → IfNone r (is_ok answer ≡ true) → UnlessMemory answer fact → IfNone r fact
goes_staffed (Some x) answer fact on so = tt
goes_staffed None (Ok c) fact on so = so
goes_staffed None (Err e) fact on so = absurd (let wrong : ⊥ = cc in wrong)

pub memory_not_idle : {T : Type 0} (r : Result T BatchCause) → IfErr r (λ why. why ≡ causes.Memory) → IsNotIdle r
memory_not_idle (Ok x) is = tt
memory_not_idle (Err why) is = λ idle. let same = sym is in let wrong : ⊥ = cc in wrong

pub never_idle : (before now : ℕ) (why : BatchCause) → RunFails ⊥ before now why → why ≡ causes.Idle → ⊥
never_idle before now why fails idle = subst (RunFails ⊥ before now) idle fails

pub stops_not_idle : (tells : Type 0) (c : Called) (why : BatchCause) → Stops tells ⊥ c why → why ≡ causes.Idle → ⊥
stops_not_idle tells c why stops idle = (subst (Stops tells ⊥ c) idle stops).2

-- ---- the end

not_rose : (before now low high : ℕ) → Rose before now low high → now ≡ before → ⊥
not_rose before now low high rose same = let a = rose.0 in let b = rose.1 in let d = rose.2 in omega (arith, a, b, d, same)

pub prints_well : (tells : Type 0) (before now : ℕ) (old new text : List ℕ) (cause : BatchCause) → Prints tells before now old new text cause → now ≡ before → EndsWell cause
prints_well tells before now old new text causes.Done prints same = tt
prints_well tells before now old new text causes.Memory prints same = tt
prints_well tells before now old new text (causes.SinkFault low high) prints same = not_rose before now low high prints.0 same
prints_well tells before now old new text causes.Usage prints same = tt
prints_well tells before now old new text causes.FileMissing prints same = tt
prints_well tells before now old new text (causes.BadLine line) prints same = tt
prints_well tells before now old new text causes.TooMany prints same = tt
prints_well tells before now old new text (causes.SiteFault low high) prints same = prints
prints_well tells before now old new text (causes.HallFault low high) prints same = prints
prints_well tells before now old new text causes.Idle prints same = prints

pub stops_well : (tells idle : Type 0) (c : Called) (cause : BatchCause) → Stops tells idle c cause → c.site_now ≡ c.site_before → c.hall_now ≡ c.hall_before → (cause ≡ causes.Idle → ⊥) → EndsWell cause
stops_well tells idle c causes.Done stops site hall never = tt
stops_well tells idle c causes.Memory stops site hall never = tt
stops_well tells idle c causes.Usage stops site hall never = tt
stops_well tells idle c causes.FileMissing stops site hall never = tt
stops_well tells idle c (causes.BadLine line) stops site hall never = tt
stops_well tells idle c causes.TooMany stops site hall never = tt
stops_well tells idle c (causes.SiteFault low high) stops site hall never = not_rose c.site_before c.site_now low high stops.2 site
stops_well tells idle c (causes.HallFault low high) stops site hall never = not_rose c.hall_before c.hall_now low high stops.2 hall
stops_well tells idle c (causes.SinkFault low high) stops site hall never = stops
stops_well tells idle c causes.Idle stops site hall never = never refl
