-- What is kept at each moment, where a call may be cut short.
use Rattle.std.proofs.Common.{◌≡◌, ◌∙◌, ⊎_elim, inl, inr, ℕ, Bool, true, false, List, [], ◌∷◌, ◌++◌, length, Option, refl, sym, ap, subst, true≢false}
use Rattle.std.specs.Str.{bytes_eq}
use Rattle.std.proofs.lemmas.Slice.Eq.{bytes_eq-Decides}
use Rattle.flow_types.specs.declared.plan.Plan.{Plan}
use Rattle.flow_types.specs.declared.records.Record.{Record}
use Rattle.outside.specs.Disk.{IsImage, LeavesOnly, Outcomes}
use Rattle.outside.specs.Files.{Files}
use Rattle.outside.proofs.Moments.{weakened}
use Rattle.txn_log.specs.Spells.{IsUnbegun}
use Rattle.desk.specs.Kept.{WasKept}
use Rattle.local_run.specs.Moments.{IsBefore, IsMoment}
use Rattle.report.specs.declared.cause.Cause.{Cause}
use Rattle.master_run.specs.declared.ask.Ask.{Ask}
use Rattle.master_run.specs.Serves.{AllMoments, Fit, IsCut}

pub append_nothing : (H : List Record) → H ++ [] ≡ H
append_nothing [] = refl
append_nothing (x ∷ H) = ap (λ (xs : List Record). x ∷ xs) (append_nothing H)

-- where the log was begun, an image of before it was read has under each name an outcome that it had
pub begun_image : (log : List ℕ) (file : Option (List ℕ)) (outcomes : Outcomes) (image : Files) → (IsUnbegun file → ⊥) → IsBefore log file outcomes image → IsImage outcomes image
begun_image log file outcomes image begun was m = by_test (bytes_eq m log) refl
  where
    here : outcomes log (image log)
    here = ⊎_elim (λ spelled. spelled) (λ (fresh : IsUnbegun file × IsUnbegun (image log)). absurd (begun fresh.0)) was.spelled

    by_test : (t : Bool) → bytes_eq m log ≡ t → outcomes m (image m)
    by_test true is = subst (λ (n : List ℕ). outcomes n (image n)) (sym ((bytes_eq-Decides m log).0 is)) here
    by_test false is = was.others m (λ same. true≢false (sym ((bytes_eq-Decides m log).1 same) ∙ is))

module _ {S : Type 0} (files : S → Files) (may_leave : S → Outcomes) (moment : S → ℕ) (images_since : S → ℕ → Files → Type 0) (log : List ℕ) (old new : S) where
  pub begun_still : LeavesOnly moment images_since old new (IsBefore log (files old log) (may_leave old)) → (IsUnbegun (files old log) → ⊥) → LeavesOnly moment images_since old new (IsImage (may_leave old))
  begun_still only begun =
      weakened moment images_since old new (IsBefore log (files old log) (may_leave old)) (IsImage (may_leave old)) only (λ image was. begun_image log (files old log) (may_leave old) image begun was)

pub cut_after : (fits : Fit) (P : Plan) (log : List ℕ) (base : ℕ) (all : List Record) (cut now : Type 0) (image : Files) → (cut → now) → WasKept fits P log base all cut image → WasKept fits P log base all now image
cut_after fits P log base all cut now image cuts k = record {
  records = k.records;
  since = k.since;
  kept = k.kept;
  known = ⊎_elim (λ first. inl first) (λ (more : cut × ((x : Record) × (k.records ≡ all ++ (x ∷ [])))). inr (cuts more.0, more.1)) k.known;
}

pub moment_after : (fits : Fit) (P : Plan) (log : List ℕ) (files : Files) (outcomes : Outcomes) (H all : List Record) (cut now : Type 0) (image : Files) → (cut → now) → IsMoment fits P log files outcomes H all cut image
    → IsMoment fits P log files outcomes H all now image
moment_after fits P log files outcomes H all cut now image cuts m =
    ⊎_elim (λ before. inl before) (λ (k : WasKept fits P log (length H) all cut image). inr (cut_after fits P log (length H) all cut now image cuts k)) m

module _ {S : Type 0} (files : S → Files) (may_leave : S → Outcomes) (images_since : S → ℕ → Files → Type 0) (born : ℕ) (ask : Ask) (old new : S) (records : List Record) where
  pub all_after : (fits : Fit) (H : List Record) (cause now : Cause) → (IsCut cause → IsCut now) → AllMoments files may_leave images_since fits born ask H old new records cause
      → AllMoments files may_leave images_since fits born ask H old new records now
  all_after fits H cause now cuts all resumable image left =
      ⊎_elim (λ was. inl was)
      (λ (m : IsMoment fits ask.plan ask.log (files old) (may_leave old) H records (IsCut cause) image).
      inr (moment_after fits ask.plan ask.log (files old) (may_leave old) H records (IsCut cause) (IsCut now) image cuts m))
      (all resumable image left)
