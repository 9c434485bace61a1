-- The reading of a log, as a part of a call.
use Rattle.std.proofs.Common.{◌≡◌, ◌≢◌, ℕ, Bool, true, false, inl, List, [], Option, refl, sym, subst, true≢false, ◌∙◌}
use Rattle.std.specs.Str.{bytes_eq}
use Rattle.std.proofs.lemmas.Slice.Eq.{bytes_eq-Decides}
use Rattle.flow_types.specs.declared.plan.Plan.{Plan}
use Rattle.outside.specs.Disk.{IsImage, LeavesOnly, Outcomes}
use Rattle.outside.specs.Files.{Files}
use Rattle.outside.proofs.Moments.{weakened}
use Rattle.log_recover.specs.Recovery.{IsRecovering}
use Rattle.local_run.specs.Course.{LeavesAlone}
use Rattle.local_run.specs.Moments.{IsBefore, KeepsSome}
use Rattle.local_run.specs.Runs.{Held}
use Rattle.local_run.proofs.Joining.{goes_on_from}

-- reads give what they gave
pub reads_all : (name : List ℕ) (old new : Files) → new name ≡ old name → ((m : List ℕ) → m ≢ name → new m ≡ old m) → (m : List ℕ) → new m ≡ old m
reads_all name old new here others m = by_test (bytes_eq m name) refl
  where
    by_test : (t : Bool) → bytes_eq m name ≡ t → new m ≡ old m
    by_test true is = subst (λ (n : List ℕ). new n ≡ old n) (sym ((bytes_eq-Decides m name).0 is)) here
    by_test false is = others m (λ same. true≢false (sym ((bytes_eq-Decides m name).1 same) ∙ is))

module _ {S : Type 0} (files : S → Files) (may_leave : S → Outcomes) (moment_of : S → ℕ) (images_since : S → ℕ → Files → Type 0) (name : List ℕ) (old new : S)
    (run : LeavesOnly moment_of images_since old new (IsRecovering name (files old name) (may_leave old))) where
  -- each image is one of before the log was read
  pub read_moments : LeavesOnly moment_of images_since old new (IsBefore name (files old name) (may_leave old))
  read_moments =
      weakened moment_of images_since old new (IsRecovering name (files old name) (may_leave old)) (IsBefore name (files old name) (may_leave old)) run
      (λ image here. record { spelled = here.log; others = here.others })

  -- and keeps some list where each did
  pub read_keeps : (P : Plan) → ((image : Files) → IsImage (may_leave old) image → KeepsSome Held P name image) → LeavesOnly moment_of images_since old new (KeepsSome Held P name)
  read_keeps P some =
      weakened moment_of images_since old new (IsBefore name (files old name) (may_leave old)) (KeepsSome Held P name) read_moments
      (λ image was. goes_on_from Held P name (files old) (may_leave old) [] [] ⊥ image some (inl was))

  -- other files stay
  pub read_alone : ((m : List ℕ) (file : Option (List ℕ)) → m ≢ name → may_leave new m file → may_leave old m file) → ((m : List ℕ) → m ≢ name → files new m ≡ files old m)
      → LeavesAlone files may_leave moment_of images_since (λ m. m ≢ name) old new
  read_alone crash others = record {
    crash = record {
      now = λ m file other left. crash m file other left;
      any_moment = weakened moment_of images_since old new (IsRecovering name (files old name) (may_leave old)) (λ image. (m : List ℕ) → m ≢ name → may_leave old m (image m)) run
          (λ image here. here.others);
    };
    reads = others;
  }
