-- What is so of each held task.
use Rattle.std.proofs.Common.{◌≡◌, ◌∙◌, ℕ, zero, suc, List, [], ◌∷◌, length, map, Some, sym, ap, subst}
use Rattle.std.specs.Prelude.{slice_get}
use Rattle.std.specs.List.{AllByRecursion}
use Rattle.std.proofs.lemmas.List.{length-map}
use Rattle.flow_types.specs.declared.numbers.Amounts.{Amounts}
use Rattle.task_book.specs.declared.task.Held.{Held}
use Rattle.task_book.specs.declared.task.Submission.{Submission}
use Rattle.task_book.specs.declared.task.TaskId.{TaskId}
use Rattle.task_book.specs.Kept.{Kept}
use Rattle.wq_seats.specs.Works.{IsKnown, IsSameWork, IsWithin, work_of}

-- The task of a held one takes in files alone that are there.
abbrev pub Known : List (List ℕ) → TaskId × Submission → Type 0
Known files w = IsKnown files w.1

-- It states no more than these amounts.
abbrev pub Within : Amounts → TaskId × Submission → Type 0
Within least w = IsWithin least w.1.needs

module _ (P : TaskId × Submission → Type 0) where
  pub known_on : (k m : Kept) → IsSameWork k m → AllByRecursion P (map work_of k.held) → AllByRecursion P (map work_of m.held)
  known_on k m work all = subst (λ (ws : List (TaskId × Submission)). AllByRecursion P ws) (sym work.held) all

  pub known_at : (held : List Held) (at : ℕ) (h : Held) → slice_get held at ≡ Some h → AllByRecursion P (map work_of held) → P (work_of h)
  known_at [] at h is all = absurd cc
  known_at (x ∷ held) zero h is all = let same : x ≡ h = cc in subst (λ (y : Held). P (work_of y)) same all.0
  known_at (x ∷ held) (suc at) h is all = known_at held at h is all.1

-- as many are held where the same work goes on
pub held_long : (k m : Kept) → IsSameWork k m → length m.held ≡ length k.held
held_long k m work = sym (length-map m.held work_of) ∙ ap (λ (ws : List (TaskId × Submission)). length ws) work.held ∙ length-map k.held work_of
