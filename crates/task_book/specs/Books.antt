-- What is so of a book at any time.
use Rattle.std.specs.Prelude.{◌≡◌, ◌≤◌, ◌+◌, ℕ, length}
use Rattle.std.specs.List.{AllByRecursion}
use Rattle.task_book.specs.Kept.{AreKept, Kept, times}
use Rattle.task_book.specs.Submissions.{IsShort}

-- The ids are kept, those submitted are less than their number, each held task is short enough to be
-- sent, and there is room for each held task among the given and among the cancelled ones.
pub record IsBook (k : Kept) (room_given room_cancelled : ℕ) : Type 0 where
  pub kept : AreKept k
  pub below : (n : ℕ) → length k.submitted ≤ n → times n k.submitted ≡ 0
  pub short : AllByRecursion (λ h. IsShort h.task) k.held
  pub may_give : length k.given + length k.held ≤ room_given
  pub may_cancel : length k.cancelled + length k.held ≤ room_cancelled
