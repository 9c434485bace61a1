-- Calls of a site that write under some names alone.
use Rattle.std.proofs.Common.{ℕ, List, Option}
use Rattle.outside.specs.Disk.{Outcomes, IsImage, Elapses, LeavesOnly}
use Rattle.outside.specs.Files.{Files}
use Rattle.outside.proofs.Moments.{started, goes_on}

module _ {D : Type 0} (may_leave : D → Outcomes) (moment : D → ℕ) (images_since : D → ℕ → Files → Type 0) (other : List ℕ → Type 0) where
  -- under each other name an outcome that was one
  abbrev Beside : D → Files → Type 0
  Beside old image = (m : List ℕ) → other m → may_leave old m (image m)

  -- one call
  pub first_call : (old new : D) → ((image : Files) → images_since old (moment old) image → IsImage (may_leave old) image)
      → ((m : List ℕ) (file : Option (List ℕ)) → other m → may_leave new m file → may_leave old m file)
      → Elapses (moment old) (moment new) (images_since old) (images_since new) (may_leave new)
      → LeavesOnly moment images_since old new (λ image. (m : List ℕ) → other m → may_leave old m (image m))
  first_call old new only_now stay time =
      goes_on moment images_since old old new (Beside old) (may_leave new) (started moment images_since old (Beside old) (λ image left m is. only_now image left m)) time
      (λ image now m is. stay m (image m) is (now m))

  -- one call more
  pub next_call : (old mid new : D) → LeavesOnly moment images_since old mid (λ image. (m : List ℕ) → other m → may_leave old m (image m))
      → ((m : List ℕ) (file : Option (List ℕ)) → other m → may_leave mid m file → may_leave old m file)
      → ((m : List ℕ) (file : Option (List ℕ)) → other m → may_leave new m file → may_leave mid m file)
      → Elapses (moment mid) (moment new) (images_since mid) (images_since new) (may_leave new)
      → LeavesOnly moment images_since old new (λ image. (m : List ℕ) → other m → may_leave old m (image m))
  next_call old mid new so_far stayed stay time =
      goes_on moment images_since old mid new (Beside old) (may_leave new) so_far time (λ image now m is. stayed m (image m) is (stay m (image m) is (now m)))
