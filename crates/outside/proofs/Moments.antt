-- How a run of a site's calls goes on.
use Rattle.std.proofs.Common.{inl, inr, ⊎_elim, ℕ, List, Option, Some, None, refl, arith}
use Rattle.outside.specs.Files.{Files}
use Rattle.outside.specs.Disk.{Outcomes, IsImage, IsTorn, IsShortened, IsRemoved, Elapses, LeavesOnly}

module _ {D : Type 0} (moment : D → ℕ) (images_since : D → ℕ → Files → Type 0) where
  -- before the first call
  pub started : (old : D) (P : Files → Type 0) → ((image : Files) → images_since old (moment old) image → P image) → LeavesOnly moment images_since old old P
  started old P here = record { later = omega arith; each = here; before = λ t image le left. inl left }

  -- one call more, after which a crash leaves what has P
  pub goes_on : (old mid new : D) (P : Files → Type 0) (outcomes : Outcomes) → LeavesOnly moment images_since old mid P
      → Elapses (moment mid) (moment new) (images_since mid) (images_since new) outcomes
      → ((image : Files) → IsImage outcomes image → P image) → LeavesOnly moment images_since old new P
  goes_on old mid new P outcomes so_far time here = record {
    later = omega (arith, so_far.later, time.later);
    each = λ image left. ⊎_elim (so_far.each image) (here image) (time.nothing_else (moment old) image so_far.later left);
    before = λ t image le left. ⊎_elim (so_far.before t image le) (λ now. inr (here image now)) (time.nothing_else t image (omega (arith, le, so_far.later)) left);
  }

  -- one run after another
  pub joined : (old mid new : D) (P Q R : Files → Type 0) → LeavesOnly moment images_since old mid P → LeavesOnly moment images_since mid new Q
      → ((image : Files) → P image → R image) → ((image : Files) → Q image → R image) → LeavesOnly moment images_since old new R
  joined old mid new P Q R first second p q = record {
    later = omega (arith, first.later, second.later);
    each = λ image left. ⊎_elim (λ was. p image (first.each image was)) (q image) (second.before (moment old) image first.later left);
    before = λ t image le left. ⊎_elim (λ was. ⊎_elim (λ earlier. inl earlier) (λ now. inr (p image now)) (first.before t image le was)) (λ now. inr (q image now))
        (second.before t image (omega (arith, le, first.later)) left);
  }

  -- what a run leaves has whatever follows from it
  pub weakened : (old new : D) (P R : Files → Type 0) → LeavesOnly moment images_since old new P → ((image : Files) → P image → R image) → LeavesOnly moment images_since old new R
  weakened old new P R run p = record {
    later = run.later;
    each = λ image left. p image (run.each image left);
    before = λ t image le left. ⊎_elim (λ was. inl was) (λ now. inr (p image now)) (run.before t image le left);
  }

-- a write may have done nothing yet
pub torn_same : (at n : ℕ) (entry : Option (List ℕ)) → IsTorn at n entry entry
torn_same at n None = tt
torn_same at n (Some bytes) = record { before = refl; after = refl; no_shorter = omega arith; no_longer = omega arith }

-- so may a cut
pub shortened_same : (len : ℕ) (entry : Option (List ℕ)) → IsShortened len entry entry
shortened_same len None = tt
shortened_same len (Some bytes) = record { front = refl; no_longer = omega arith }

-- and a removal
pub removed_same : (entry : Option (List ℕ)) → IsRemoved entry entry
removed_same None = tt
removed_same (Some bytes) = omega arith
