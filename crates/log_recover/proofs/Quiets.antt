-- Calls of a site that change nothing, one after another.
use Rattle.std.proofs.Common.{◌≡◌, ℕ, ◌∙◌, refl}
use Rattle.outside.specs.Disk.{Outcomes, IsImage, Within, Elapses, LeavesOnly}
use Rattle.outside.specs.Files.{Files}
use Rattle.outside.proofs.Moments.{started, goes_on, joined}
use Rattle.log_recover.specs.Quiet.{IsQuiet}

module _ {D : Type 0} (files : D → Files) (may_leave : D → Outcomes) (moment : D → ℕ) (images_since : D → ℕ → Files → Type 0) where
  -- no call yet
  pub quiet_start : (old : D) → ((image : Files) → images_since old (moment old) image → IsImage (may_leave old) image) → IsQuiet files may_leave moment images_since old old
  quiet_start old only_now = record { same = refl; within = λ name entry left. left; any_moment = started moment images_since old (IsImage (may_leave old)) only_now }

  -- one call
  pub quiet_call : (old new : D) → ((image : Files) → images_since old (moment old) image → IsImage (may_leave old) image) → files new ≡ files old → Within (may_leave old) (may_leave new)
      → Elapses (moment old) (moment new) (images_since old) (images_since new) (may_leave new) → IsQuiet files may_leave moment images_since old new
  quiet_call old new only_now same within time = record {
    same = same;
    within = within;
    any_moment = goes_on moment images_since old old new (IsImage (may_leave old)) (may_leave new) (started moment images_since old (IsImage (may_leave old)) only_now) time
        (λ image now name. within name (image name) (now name));
  }

  -- one after another
  pub quiet_joined : (old mid new : D) → IsQuiet files may_leave moment images_since old mid → IsQuiet files may_leave moment images_since mid new
      → IsQuiet files may_leave moment images_since old new
  quiet_joined old mid new first second = record {
    same = second.same ∙ first.same;
    within = λ name entry left. first.within name entry (second.within name entry left);
    any_moment = joined moment images_since old mid new (IsImage (may_leave old)) (IsImage (may_leave mid)) (IsImage (may_leave old)) first.any_moment second.any_moment
        (λ image was. was) (λ image now name. first.within name (image name) (now name));
  }

  -- a call that makes no new outcome, whatever reads give after it
  pub still_call : (old mid new : D) → LeavesOnly moment images_since old mid (IsImage (may_leave old)) → Within (may_leave old) (may_leave mid) → Within (may_leave mid) (may_leave new)
      → Elapses (moment mid) (moment new) (images_since mid) (images_since new) (may_leave new) → LeavesOnly moment images_since old new (IsImage (may_leave old))
  still_call old mid new so_far first second time =
      goes_on moment images_since old mid new (IsImage (may_leave old)) (may_leave new) so_far time
      (λ image now name. first name (image name) (second name (image name) (now name)))
