-- What stands behind a cleaning.
use Rattle.std.proofs.Common.{◌≡◌, ◌≢◌, ◌∙◌, inl, inr, ⊎_elim, ℕ, Bool, true, false, cond, ◌&&◌, ◌||◌, List, [], ◌∷◌, ◌++◌, Option, Result, Ok, Err, refl, sym, ap}
use Rattle.std.specs.Prelude.{OnOk}
use Rattle.std.specs.List.{list_any}
use Rattle.std.proofs.lemmas.Bool.{and_parts}
use Rattle.flow_types.specs.declared.plan.Plan.{Plan}
use Rattle.flow_types.specs.declared.numbers.Content.{Content}
use Rattle.flow_types.specs.declared.records.Record.{Record}
use Rattle.flow_types.specs.declared.records.Record.TheVariants as records
use Rattle.run_history.specs.History.{is_cleaned}
use Rattle.run_history.specs.Legal.{is_allowed, is_legal_from, is_numbered}
use Rattle.run_history.proofs.Steps.{part-cleaned}
use Rattle.rule_graph.specs.Spelling.{plan_digest}
use Rattle.outside.specs.Disk.{IsImage, LeavesOnly, Outcomes}
use Rattle.outside.specs.Files.{Files}
use Rattle.outside.proofs.Moments.{joined, weakened}
use Rattle.txn_log.specs.Spells.{IsLogOf}
use Rattle.txn_log.specs.Logs.{IsAppended}
use Rattle.file_store.specs.Outputs.{IsBeside, file_name}
use Rattle.desk.specs.Kept.{IsElse, IsLegal, Keeps, KeepsEither}
use Rattle.desk.proofs.Others.{beside_log}
use Rattle.local_run.specs.Course.{LeavesAlone}
use Rattle.local_run.proofs.Alone.{alone_less}
use Rattle.desk.proofs.Images.{files_hold}
use Rattle.desk.proofs.Keeping.{log_spells}
use Rattle.local_run.proofs.Joining.{none_present}
use Rattle.cleaning.specs.Cleanings.{cleaned}

-- ---- the history stays legal

-- a record that is allowed has its number
numbered : (P : Plan) (digest : List ℕ) (H : List Record) (x : Record) → is_allowed P digest H x ≡ true → is_numbered H x ≡ true
numbered P digest H (records.Opened moment run retries limit plan sources) is =
    (and_parts _ _ (and_parts _ _ (and_parts _ _ (and_parts _ _ (and_parts _ _ is).0).0).0).0).1
numbered P digest H (records.Resumed moment run retries limit) is = (and_parts _ _ (and_parts _ _ (and_parts _ _ is).0).0).1
numbered P digest H (records.Started moment r attempt link) is = (and_parts _ _ (and_parts _ _ (and_parts _ _ is).0).0).1
numbered P digest H (records.Done moment r attempt outs) is = refl
numbered P digest H (records.Failed moment r attempt why) is = refl
numbered P digest H (records.Lost moment r attempt) is = refl
numbered P digest H (records.Dropped moment f) is = refl
numbered P digest H (records.Ended moment kind) is = refl

either_numbered : (P : Plan) (digest : List ℕ) (H : List Record) (x : Record) (b : Bool) → cond b (is_numbered H x) (is_allowed P digest H x) ≡ true → is_numbered H x ≡ true
either_numbered P digest H x true is = is
either_numbered P digest H x false is = numbered P digest H x is

still_cleaned : (a : Bool) (xs : List Record) (c : Record) → is_cleaned c ≡ true → (a || list_any is_cleaned (xs ++ (c ∷ []))) ≡ true
still_cleaned true xs c is = refl
still_cleaned false [] c is = ap (λ b. b || false) is
still_cleaned false (y ∷ ys) c is = still_cleaned (is_cleaned y) ys c is

legal_from : (P : Plan) (digest : List ℕ) (before xs : List Record) (moment : ℕ) → is_legal_from P digest before xs ≡ true → is_legal_from P digest before (xs ++ (cleaned moment ∷ [])) ≡ true
legal_from P digest before [] moment is = refl
legal_from P digest before (x ∷ xs) moment is =
    let parts = and_parts _ _ is in
    ap (λ (b : Bool). cond b (is_numbered before x) (is_allowed P digest before x) && is_legal_from P digest (before ++ (x ∷ [])) (xs ++ (cleaned moment ∷ []))) (still_cleaned (is_cleaned x) xs (cleaned moment) refl)
    ∙ ap (λ (b : Bool). b && is_legal_from P digest (before ++ (x ∷ [])) (xs ++ (cleaned moment ∷ []))) (either_numbered P digest before x (list_any is_cleaned (x ∷ xs)) parts.0)
    ∙ legal_from P digest (before ++ (x ∷ [])) xs moment parts.1

-- with a cleaning behind it a legal history is legal
pub legal_cleaned : (P : Plan) (H : List Record) (moment : ℕ) → IsLegal P H → IsLegal P (H ++ (cleaned moment ∷ []))
legal_cleaned P H moment is = legal_from P (plan_digest P) [] H moment is

-- ---- what a crash leaves

module _ (fits : Plan → ℕ → Content → Option (List ℕ) → Type 0) (P : Plan) (log : List ℕ) (H : List Record) (moment : ℕ) where
  -- the log ends in a cleaning
  pub keeps_cleaned : (image : Files) → IsLegal P H → IsLogOf (H ++ (cleaned moment ∷ [])) (image log) → Keeps fits P log (H ++ (cleaned moment ∷ [])) image
  keeps_cleaned image legal spelled = record {
    spells = log_spells (H ++ (cleaned moment ∷ [])) (image log) spelled;
    legal = legal_cleaned P H moment legal;
    files = λ f c present. absurd (none_present P (H ++ (cleaned moment ∷ [])) f c (part-cleaned H (cleaned moment) refl) present);
  }

  -- while it is appended
  pub appending : (outcomes : Outcomes) (files image : Files) → IsLegal P H → ((f : ℕ) → file_name P f ≢ log) → IsImage outcomes files
      → ((there : Files) → IsImage outcomes there → Keeps fits P log H there) → IsAppended log H (cleaned moment) outcomes image → KeepsEither fits P log H (cleaned moment) image
  appending outcomes files image legal apart reads keeps left =
      ⊎_elim (λ (old : IsLogOf H (image log)). inl (record {
        spells = log_spells H (image log) old;
        legal = legal;
        files = λ f c present. files_hold fits P log H outcomes files reads keeps f c present (image (file_name P f)) (left.others (file_name P f) (apart f));
      }))
      (λ (new : IsLogOf (H ++ (cleaned moment ∷ [])) (image log)). inr (keeps_cleaned image legal new)) left.log

-- At every moment of a cleaning.
module _ {S : Type 0} (may_leave : S → Outcomes) (moment_of : S → ℕ) (images_since : S → ℕ → Files → Type 0) (fits : Plan → ℕ → Content → Option (List ℕ) → Type 0)
    (P : Plan) (log : List ℕ) (H : List Record) (moment : ℕ) where
  pub ending_moments : (old mid : S) (files : Files) → IsLegal P H → ((f : ℕ) → file_name P f ≢ log) → IsImage (may_leave old) files
      → LeavesOnly moment_of images_since old mid (IsAppended log H (cleaned moment) (may_leave old)) → ((there : Files) → IsImage (may_leave old) there → Keeps fits P log H there)
      → LeavesOnly moment_of images_since old mid (KeepsEither fits P log H (cleaned moment))
  ending_moments old mid files legal apart reads run keeps =
      weakened moment_of images_since old mid (IsAppended log H (cleaned moment) (may_leave old)) (KeepsEither fits P log H (cleaned moment)) run
      (λ image left. appending fits P log H moment (may_leave old) files image legal apart reads keeps left)

  pub cleaning_moments : (old mid new : S) (files : Files) (fs : List ℕ) → IsLegal P H → ((f : ℕ) → file_name P f ≢ log) → IsImage (may_leave old) files
      → LeavesOnly moment_of images_since old mid (IsAppended log H (cleaned moment) (may_leave old)) → LeavesOnly moment_of images_since mid new (IsBeside P fs (may_leave mid))
      → ((file : Option (List ℕ)) → may_leave mid log file → IsLogOf (H ++ (cleaned moment ∷ [])) file) → ((there : Files) → IsImage (may_leave old) there → Keeps fits P log H there)
      → LeavesOnly moment_of images_since old new (KeepsEither fits P log H (cleaned moment))
  cleaning_moments old mid new files fs legal apart reads run removal spelled keeps =
      joined moment_of images_since old mid new (KeepsEither fits P log H (cleaned moment)) (IsBeside P fs (may_leave mid)) (KeepsEither fits P log H (cleaned moment))
      (ending_moments old mid files legal apart reads run keeps) removal (λ image either. either)
      (λ image left. inr (keeps_cleaned fits P log H moment image legal (spelled (image log) (left log (λ k f at same. apart f (sym same))))))

-- what the end of a part leaves of other files
pub end_alone : {S : Type 0} (files : S → Files) (may_leave : S → Outcomes) (moment_of : S → ℕ) (images_since : S → ℕ → Files → Type 0) (P : Plan) (log : List ℕ) (fs : List ℕ) (H : List Record) (moment : ℕ) (old new : S)
    → ((m : List ℕ) (file : Option (List ℕ)) → m ≢ log → may_leave new m file → may_leave old m file) → LeavesOnly moment_of images_since old new (IsAppended log H (cleaned moment) (may_leave old))
    → ((m : List ℕ) → m ≢ log → files new m ≡ files old m) → LeavesAlone files may_leave moment_of images_since (IsElse P log fs) old new
end_alone {S} files may_leave moment_of images_since P log fs H moment old new crash run reads =
    alone_less files may_leave moment_of images_since (λ m. m ≢ log) (IsElse P log fs) old new (λ m is. is.0) (beside_log may_leave moment_of images_since log H (cleaned moment) old new crash run) reads

pub any_ok : {A E : Type 0} (r : Result A E) (P : Type 0) → P → OnOk r P
any_ok (Ok x) P p = p
any_ok (Err why) P p = tt
