-- Calls of a site that change nothing.
use Rattle.std.specs.Prelude.{◌≡◌, ◌<◌, ◌-◌, ◌^◌, ℕ, Result, OnOk}
use Rattle.outside.specs.Disk.{Outcomes, IsImage, Within, LeavesOnly}
use Rattle.outside.specs.Files.{Files}

-- Reads give what they gave, there is no new outcome, and at any moment a crash leaves what it might have left before.
pub record IsQuiet {D : Type 0} (files : D → Files) (may_leave : D → Outcomes) (moment : D → ℕ) (images_since : D → ℕ → Files → Type 0) (old new : D) : Type 0 where
  pub same : files new ≡ files old
  pub within : Within (may_leave old) (may_leave new)
  pub any_moment : LeavesOnly moment images_since old new (IsImage (may_leave old))

-- An ample site stays ample at Ok, and otherwise until its count is at its last value.
pub record KeepsAmple {A E : Type 0} (before after : Type 0) (now : ℕ) (result : Result A E) : Type 0 where
  pub stays : before → OnOk result after
  pub goes_on : before → now < 2 ^ 64 - 1 → after
