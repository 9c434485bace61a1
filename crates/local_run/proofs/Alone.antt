-- Files that a call has nothing to do with.
use Rattle.std.proofs.Common.{◌≡◌, ◌≢◌, ◌∙◌, ℕ, zero, suc, Bool, true, false, List, [], ◌∷◌, Some, refl, sym, ap, true≢false}
use Rattle.std.specs.Prelude.{◌==◌, is_some, slice_get, unwrap_or}
use Rattle.std.proofs.lemmas.Bool.{eqb-false, or_left, or_right}
use Rattle.flow_types.specs.declared.plan.Plan.{Plan}
use Rattle.flow_types.specs.declared.records.Record.{Record}
use Rattle.flow_types.specs.Plans.{IsValid, contains_number, makes}
use Rattle.flow_types.proofs.SerialRun.{has-makers}
use Rattle.run_history.specs.Links.{records_of}
use Rattle.run_history.specs.Storage.{is_complete}
use Rattle.run_history.proofs.Steps.{complete-is}
use Rattle.outside.specs.Disk.{IsImage, Outcomes}
use Rattle.outside.specs.Files.{Files}
use Rattle.outside.proofs.Moments.{weakened}
use Rattle.desk.specs.Collections.{IsUncollected}
use Rattle.desk.specs.Kept.{IsElse, ReadsStay, StaysBeside}
use Rattle.desk.specs.State.{DeskState}
use Rattle.desk.proofs.Collected.{freed}
use Rattle.desk.proofs.Others.{by_within, then_stays}
use Rattle.desk.proofs.Quiets.{no_call}
use Rattle.desk.proofs.Removing.{chosen-free}
use Rattle.local_run.specs.Collecting.{IsUntouched}
use Rattle.local_run.specs.Course.{LeavesAlone}
use Rattle.local_run.proofs.Collecting.{present_uncollected, undone_uncollected}

module _ {S : Type 0} (files : S → Files) (may_leave : S → Outcomes) (moment : S → ℕ) (images_since : S → ℕ → Files → Type 0) where
  -- no call
  pub alone_same : (beside : List ℕ → Type 0) (old : S) → ((image : Files) → images_since old (moment old) image → IsImage (may_leave old) image)
      → LeavesAlone files may_leave moment images_since beside old old
  alone_same beside old only_now = record {
    crash = by_within may_leave moment images_since beside old old (λ m file left. left) (no_call may_leave moment images_since old only_now);
    reads = λ m other. refl;
  }

  -- one call behind another
  pub alone_then : (beside : List ℕ → Type 0) (old mid new : S) → LeavesAlone files may_leave moment images_since beside old mid
      → LeavesAlone files may_leave moment images_since beside mid new → LeavesAlone files may_leave moment images_since beside old new
  alone_then beside old mid new first second = record {
    crash = then_stays may_leave moment images_since beside old mid new first.crash second.crash;
    reads = λ m other. second.reads m other ∙ first.reads m other;
  }

  -- fewer names
  pub beside_less : (more fewer : List ℕ → Type 0) (old new : S) → ((m : List ℕ) → fewer m → more m) → StaysBeside may_leave moment images_since more old new
      → StaysBeside may_leave moment images_since fewer old new
  beside_less more fewer old new so stays = record {
    now = λ m file other left. stays.now m file (so m other) left;
    any_moment = weakened moment images_since old new (λ image. (m : List ℕ) → more m → may_leave old m (image m)) (λ image. (m : List ℕ) → fewer m → may_leave old m (image m))
        stays.any_moment (λ image left m other. left m (so m other));
  }

  pub alone_less : (more fewer : List ℕ → Type 0) (old new : S) → ((m : List ℕ) → fewer m → more m) → StaysBeside may_leave moment images_since more old new → ReadsStay files more old new
      → LeavesAlone files may_leave moment images_since fewer old new
  alone_less more fewer old new so stays reads = record {
    crash = beside_less more fewer old new so stays;
    reads = λ m other. reads m (so m other);
  }

  -- a call that only reads
  pub reads_alone : (P : Plan) (log : List ℕ) (H : List Record) (old new : S) → LeavesAlone files may_leave moment images_since (λ m. Unit {0}) old new
      → LeavesAlone files may_leave moment images_since (IsUntouched P log H) old new
  reads_alone P log H old new alone = alone_less (λ m. Unit {0}) (IsUntouched P log H) old new (λ m other. tt) alone.crash alone.reads

  -- a call that writes to the log alone
  pub log_alone : (P : Plan) (log : List ℕ) (H : List Record) (old new : S) → StaysBeside may_leave moment images_since (λ m. m ≢ log) old new → ReadsStay files (λ m. m ≢ log) old new
      → LeavesAlone files may_leave moment images_since (IsUntouched P log H) old new
  log_alone P log H old new stays reads = alone_less (λ m. m ≢ log) (IsUntouched P log H) old new (λ m other. other.0) stays reads

itself : (n : ℕ) → (n == n) ≡ true
itself n = by_itself (n == n) refl
  where
    by_itself : (b : Bool) → (n == n) ≡ b → b ≡ true
    by_itself true is = refl
    by_itself false is = absurd (eqb-false n n is refl)

contains_at : (xs : List ℕ) (k f : ℕ) → slice_get xs k ≡ Some f → contains_number f xs ≡ true
contains_at [] k f is = absurd (true≢false (sym (ap is_some is)))
contains_at (x ∷ xs) zero f is = or_left (x == f) (contains_number f xs) (ap (λ y. y == f) (ap (λ o. unwrap_or o x) is) ∙ itself f)
contains_at (x ∷ xs) (suc k) f is = or_right (x == f) (contains_number f xs) (contains_at xs k f is)

-- a name that isn't touched is that of no output of a rule that isn't done
pub untouched_else : (P : Plan) (log : List ℕ) (H : List Record) (r : ℕ) → IsValid P → is_complete H r ≡ false → (m : List ℕ) → IsUntouched P log H m → IsElse P log (makes P r) m
untouched_else P log H r valid undone m untouched =
    (untouched.0, λ k f is. let maker = has-makers P valid r f (contains_at (makes P r) k f is) in untouched.1 f (ap is_some maker) (undone_uncollected P H f r maker (sym (complete-is H r) ∙ undone)))

-- a call that writes to the log and to the outputs of such a rule
pub outputs_alone : {S : Type 0} (files : S → Files) (may_leave : S → Outcomes) (moment : S → ℕ) (images_since : S → ℕ → Files → Type 0) (P : Plan) (log : List ℕ) (H : List Record) (r : ℕ) (old new : S) → IsValid P
    → is_complete H r ≡ false → StaysBeside may_leave moment images_since (IsElse P log (makes P r)) old new → ReadsStay files (IsElse P log (makes P r)) old new
    → LeavesAlone files may_leave moment images_since (IsUntouched P log H) old new
outputs_alone {S} files may_leave moment images_since P log H r old new valid undone stays reads =
    alone_less files may_leave moment images_since (IsElse P log (makes P r)) (IsUntouched P log H) old new (untouched_else P log H r valid undone) stays reads

-- a collection
pub collection_alone : {S : Type 0} (files : S → Files) (may_leave : S → Outcomes) (moment : S → ℕ) (images_since : S → ℕ → Files → Type 0) (d : DeskState S) (new : S)
    → StaysBeside may_leave moment images_since (IsUncollected d) d.site new → ReadsStay files (IsUncollected d) d.site new
    → LeavesAlone files may_leave moment images_since (IsUntouched d.plan d.log (records_of d.moves)) d.site new
collection_alone {S} files may_leave moment images_since d new stays reads =
    alone_less files may_leave moment images_since (IsUncollected d) (IsUntouched d.plan d.log (records_of d.moves)) d.site new
    (λ m untouched. (
      untouched.0,
      λ file chosen.
          let is = freed d.plan (records_of d.moves) file.0 (chosen-free d file chosen) in untouched.1 file.0 is.made (present_uncollected d.plan (records_of d.moves) file.0 is.present),
    )) stays reads
