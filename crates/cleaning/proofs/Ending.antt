-- How a cleaning ends behind the reading of the log.
use Rattle.std.proofs.Common.{◌≡◌, ◌≤◌, ◌<◌, ◌∙◌, inl, inr, ⊎_elim, ℕ, Bool, true, false, cond, List, [], ◌∷◌, ◌++◌, length, Option, None, Result, Ok, Err, refl, sym, ap, subst, arith, append-nil, length-append}
use Rattle.flow_types.specs.declared.plan.Plan.{Plan}
use Rattle.flow_types.specs.declared.numbers.Content.{Content}
use Rattle.flow_types.specs.declared.records.Record.{Record}
use Rattle.flow_types.specs.Plans.{is_empty}
use Rattle.run_history.specs.History.{part}
use Rattle.run_history.proofs.Steps.{part-cleaned}
use Rattle.outside.specs.Disk.{IsImage, LeavesOnly, Outcomes}
use Rattle.outside.specs.Files.{Files}
use Rattle.outside.proofs.Moments.{started, weakened}
use Rattle.desk.specs.Kept.{IsElse, IsLegal, Keeps, KeepsEither, WasKept}
use Rattle.local_run.specs.Course.{LeavesAlone}
use Rattle.local_run.specs.Runs.{Held, IsKeeping, IsStanding, SerialFits}
use Rattle.flow_types.specs.Serial.{Contents, Function}
use Rattle.local_run.proofs.Alone.{alone_same}
use Rattle.cleaning.specs.declared.answers.Cleaned.{Cleaned}
use Rattle.cleaning.specs.declared.answers.CleanFault.{CleanFault}
use Rattle.cleaning.specs.declared.answers.CleanFault.TheVariants as cleans
use Rattle.cleaning.specs.declared.answers.CleanRefused.{CleanRefused}
use Rattle.cleaning.specs.Behind.{CleansOver, IsBehind, IsUnmoved, WasBehind}
use Rattle.cleaning.specs.Cleanings.{AreEither, AreGone, CleanEnds, EndsPart, FailsRisen, GivesLegal, GivesRecords, HasGone, IsCleanFault, IsCutClean, IsCutFor, IsLeft, IsOfSite, clean_fault, cleaned, made_count, present_made, records_in}
use Rattle.cleaning.specs.Looks.{IsLookFault, WasRead}
use Rattle.cleaning.specs.declared.answers.LookFault.{LookFault}
use Rattle.std.specs.Prelude.{◌&&◌, nat_le, not}
use Rattle.std.proofs.lemmas.Bool.{le-leb, leb-true}
use Rattle.desk.specs.declared.answers.StartFault.TheVariants as faults
use Rattle.desk.specs.Histories.{history_fault}
use Rattle.run_history.specs.Answers.{or_else, where_so}
use Rattle.run_history.specs.Legal.{most_records}
use Rattle.cleaning.proofs.Absent.{none_counted, none_to_go}
use Rattle.cleaning.proofs.Kept.{legal_cleaned}
use Rattle.cleaning.proofs.Looked.{clean_fault_by, given_back, legal_of, read_site}

-- ---- what an image keeps

module _ (fits : Plan → ℕ → Content → Option (List ℕ) → Type 0) (P : Plan) (log : List ℕ) (H : List Record) where
  -- the records, and the call gave them
  pub kept_same : (all : List Record) (cut : Type 0) (image : Files) → all ≡ H → Keeps fits P log H image → WasKept fits P log (length H) all cut image
  kept_same all cut image same k = record {
    records = H;
    since = omega arith;
    kept = k;
    known = inl ([], append-nil H ∙ sym same);
  }

  -- the records, and the call gave them and one more
  kept_less : (all : List Record) (x : Record) (cut : Type 0) (image : Files) → all ≡ H ++ (x ∷ []) → Keeps fits P log H image → WasKept fits P log (length H) all cut image
  kept_less all x cut image more k = record {
    records = H;
    since = omega arith;
    kept = k;
    known = inl (x ∷ [], sym more);
  }

  -- the records and one more, and the call gave these
  kept_more : (all : List Record) (x : Record) (cut : Type 0) (image : Files) → all ≡ H ++ (x ∷ []) → Keeps fits P log (H ++ (x ∷ [])) image → WasKept fits P log (length H) all cut image
  kept_more all x cut image more k = record {
    records = H ++ (x ∷ []);
    since = let long = length-append H (x ∷ []) in omega (arith, long);
    kept = k;
    known = inl ([], append-nil (H ++ (x ∷ [])) ∙ sym more);
  }

  -- the records and one more, and the call was cut short
  kept_cut : (all : List Record) (x : Record) (cut : Type 0) (image : Files) → all ≡ H → cut → Keeps fits P log (H ++ (x ∷ [])) image → WasKept fits P log (length H) all cut image
  kept_cut all x cut image same short k = record {
    records = H ++ (x ∷ []);
    since = let long = length-append H (x ∷ []) in omega (arith, long);
    kept = k;
    known = inr (short, (x, ap (λ (l : List Record). l ++ (x ∷ [])) (sym same)));
  }

  pub kept_done : (all : List Record) (x : Record) (cut : Type 0) (image : Files) → all ≡ H ++ (x ∷ []) → KeepsEither fits P log H x image → WasKept fits P log (length H) all cut image
  kept_done all x cut image more either = ⊎_elim (λ (k : Keeps fits P log H image). kept_less all x cut image more k) (λ (k : Keeps fits P log (H ++ (x ∷ [])) image). kept_more all x cut image more k) either

  pub kept_either : (all : List Record) (moment : ℕ) (cut : Type 0) (image : Files) → AreEither H moment all → cut → KeepsEither fits P log H (cleaned moment) image → WasKept fits P log (length H) all cut image
  kept_either all moment cut image are short either =
      ⊎_elim
      (λ (same : all ≡ H). ⊎_elim (λ (k : Keeps fits P log H image). kept_same all cut image same k) (λ (k : Keeps fits P log (H ++ (cleaned moment ∷ [])) image). kept_cut all (cleaned moment) cut image same short k) either)
      (λ (more : all ≡ H ++ (cleaned moment ∷ [])). kept_done all (cleaned moment) cut image more either) are

-- ---- a call that makes no call of the site

lt-leb-false : (a b : ℕ) → b < a → nat_le a b ≡ false
lt-leb-false a b less = by_test (nat_le a b) refl
  where
    by_test : (t : Bool) → nat_le a b ≡ t → t ≡ false
    by_test true is = let le = leb-true a b is in absurd (omega (arith, le, less))
    by_test false is = refl

-- What it ends with, where the records stay.
pub record IsStill (P : Plan) (H : List Record) (moment : ℕ) (result : Result Cleaned CleanRefused) : Type 0 where
  pub ends : CleanEnds P H result
  pub records : GivesRecords H moment result
  pub same : records_in result ≡ H
  pub behind : WasBehind result
  pub legal : GivesLegal P result
  pub ended : EndsPart result
  pub gone : (there : Files) → HasGone P H there result
  pub cause : (n : ℕ) → FailsRisen n n result

module _ (P : Plan) (H : List Record) (moment : ℕ) where
  none_full : (is_full : Bool) → history_fault P H ≡ None → (not (is_empty (part H)) && nat_le most_records (length H)) ≡ is_full → is_full ≡ false → clean_fault P H ≡ None
  none_full is_full fine is free = clean_fault_by P H is_full fine is ∙ ap (λ (b : Bool). or_else (where_so b (faults.LogFull (length H))) None) free

  begun_full : is_empty (part H) ≡ false → (not (is_empty (part H)) && nat_le most_records (length H)) ≡ nat_le most_records (length H)
  begun_full begun = ap (λ (b : Bool). not b && nat_le most_records (length H)) begun

  -- nothing stands in the way of a part that is begun, where the log isn't full
  pub none_in_way : history_fault P H ≡ None → is_empty (part H) ≡ false → length H < most_records → clean_fault P H ≡ None
  none_in_way fine begun less = none_full (nat_le most_records (length H)) fine (begun_full begun) (lt-leb-false most_records (length H) less)

  -- a part that isn't begun
  pub empty_still : history_fault P H ≡ None → part H ≡ [] → IsStill P H moment (Ok (record { records = H; removed = 0 }))
  empty_still fine none = record {
    ends = (none_full false fine (ap (λ (xs : List Record). not (is_empty xs) && nat_le most_records (length H)) none) refl, sym (none_counted P H none));
    records = sym (ap (λ (xs : List Record). cond (is_empty xs) H (H ++ (cleaned moment ∷ []))) none);
    same = refl;
    behind = tt;
    legal = legal_of P H fine;
    ended = none;
    gone = λ there. none_to_go P H there none;
    cause = λ n. tt;
  }

  -- a log that is full
  pub full_still : history_fault P H ≡ None → is_empty (part H) ≡ false → most_records ≤ length H → IsStill P H moment (Err (record { why = cleans.LogFull (length H); records = H }))
  full_still fine begun full = record {
    ends = clean_fault_by P H (nat_le most_records (length H)) fine (begun_full begun) ∙ ap (λ (b : Bool). or_else (where_so b (faults.LogFull (length H))) None) (le-leb most_records (length H) full);
    records = refl;
    same = refl;
    behind = tt;
    legal = λ admitted. legal_of P H fine;
    ended = tt;
    gone = λ there. tt;
    cause = λ n is. absurd is;
  }

  -- there is no memory for the list of the files
  pub memory_still : history_fault P H ≡ None → is_empty (part H) ≡ false → length H < most_records → IsStill P H moment (Err (record { why = cleans.Memory; records = H }))
  memory_still fine begun less = record {
    ends = none_in_way fine begun less;
    records = inl refl;
    same = refl;
    behind = tt;
    legal = λ admitted. legal_of P H fine;
    ended = tt;
    gone = λ there. tt;
    cause = λ n is. absurd is;
  }

  -- the records can't be used
  pub look_still : (why : LookFault) → WasRead why → IsLookFault P H why → IsStill P H moment (Err (record { why = cleans.Look why; records = H }))
  look_still why read fault = record {
    ends = fault;
    records = given_back H why H read refl;
    same = refl;
    behind = read;
    legal = λ admitted. absurd admitted;
    ended = tt;
    gone = λ there. tt;
    cause = λ n is. absurd (read_site why read is);
  }

-- ---- the call

module _ {S : Type 0} (tells : Type 0) (files : S → Files) (may_leave : S → Outcomes) (moment_of : S → ℕ) (images_since : S → ℕ → Files → Type 0) (count : S → ℕ)
    (P : Plan) (log : List ℕ) (H : List Record) (moment : ℕ) where
  abbrev pub Over : S → S → Result Cleaned CleanRefused → Type 0
  Over old new result = CleansOver tells files may_leave moment_of images_since count P log H moment old new result

  pub unmoved_same : (old : S) (result : Result Cleaned CleanRefused) → IsUnmoved old old result
  unmoved_same old (Ok done) = tt
  unmoved_same old (Err refused) = λ uncut. refl

  pub still_over : (old : S) (result : Result Cleaned CleanRefused) → (tells → (image : Files) → images_since old (moment_of old) image → IsImage (may_leave old) image) → IsStill P H moment result → Over old old result
  still_over old result only_now is = record {
    ends = is.ends;
    records = is.records;
    behind = is.behind;
    legal = is.legal;
    ended = is.ended;
    unmoved = unmoved_same old result;
    gone = λ told. is.gone (files old);
    kept = λ told keeps. started moment_of images_since old (WasKept Held P log (length H) (records_in result) (IsCutClean result))
        (λ image left. kept_same Held P log H (records_in result) (IsCutClean result) image is.same (keeps image (only_now told image left)));
    serial = λ told gives sources keeps. started moment_of images_since old (WasKept (SerialFits gives sources) P log (length H) (records_in result) (IsCutClean result))
        (λ image left. kept_same (SerialFits gives sources) P log H (records_in result) (IsCutClean result) image is.same (keeps image (only_now told image left)));
    now = λ told keeps uncut image left. subst (λ (K : List Record). Keeps Held P log K image) (sym is.same) (keeps image left);
    others = λ told. alone_same files may_leave moment_of images_since (IsElse P log (present_made P H)) old (only_now told);
    later = omega arith;
    cause = is.cause (count old);
  }

  -- ---- behind the append

  module _ (old new : S) (all : List Record) (legal_in : IsLegal P H)
      (kept_in : tells → IsKeeping P log H (may_leave old) → LeavesOnly moment_of images_since old new (KeepsEither Held P log H (cleaned moment)))
      (serial_in : tells → (gives : Function) (sources : Contents) → IsStanding gives sources P log H (may_leave old) → LeavesOnly moment_of images_since old new (KeepsEither (SerialFits gives sources) P log H (cleaned moment)))
      (others_in : tells → LeavesAlone files may_leave moment_of images_since (IsElse P log (present_made P H)) old new) (later_in : count old ≤ count new) where
    pub done_over : (removed : ℕ) → all ≡ H ++ (cleaned moment ∷ []) → clean_fault P H ≡ None → removed ≡ made_count P H → is_empty (part H) ≡ false → (tells → AreGone P (present_made P H) (files new))
        → (tells → IsKeeping P log H (may_leave old) → (image : Files) → IsImage (may_leave new) image → Keeps Held P log (H ++ (cleaned moment ∷ [])) image)
        → Over old new (Ok (record { records = all; removed = removed }))
    done_over removed more none counted begun gone_in now_in = record {
      ends = (none, counted);
      records = more ∙ sym (ap (λ (b : Bool). cond b H (H ++ (cleaned moment ∷ []))) begun);
      behind = tt;
      legal = subst (IsLegal P) (sym more) (legal_cleaned P H moment legal_in);
      ended = ap part more ∙ part-cleaned H (cleaned moment) refl;
      unmoved = tt;
      gone = gone_in;
      kept = λ told keeps. weakened moment_of images_since old new (KeepsEither Held P log H (cleaned moment)) (WasKept Held P log (length H) all ⊥) (kept_in told keeps)
          (λ image either. kept_done Held P log H all (cleaned moment) ⊥ image more either);
      serial = λ told gives sources keeps. weakened moment_of images_since old new (KeepsEither (SerialFits gives sources) P log H (cleaned moment)) (WasKept (SerialFits gives sources) P log (length H) all ⊥) (serial_in told gives sources keeps)
          (λ image either. kept_done (SerialFits gives sources) P log H all (cleaned moment) ⊥ image more either);
      now = λ told keeps uncut image left. subst (λ (K : List Record). Keeps Held P log K image) (sym more) (now_in told keeps image left);
      others = others_in;
      later = later_in;
      cause = tt;
    }

    pub cut_over : (why : CleanFault) → AreEither H moment all → IsCleanFault P H why → IsLeft H moment why all → IsBehind why → IsCutFor why → (IsOfSite why → count old < count new)
        → Over old new (Err (record { why = why; records = all }))
    cut_over why are fault left behind_in cut risen = record {
      ends = fault;
      records = left;
      behind = behind_in;
      legal = λ admitted. ⊎_elim (λ (same : all ≡ H). subst (IsLegal P) (sym same) legal_in) (λ (more : all ≡ H ++ (cleaned moment ∷ [])). subst (IsLegal P) (sym more) (legal_cleaned P H moment legal_in)) are;
      ended = tt;
      unmoved = λ uncut. absurd (uncut cut);
      gone = λ told. tt;
      kept = λ told keeps. weakened moment_of images_since old new (KeepsEither Held P log H (cleaned moment)) (WasKept Held P log (length H) all (IsCutFor why)) (kept_in told keeps)
          (λ image either. kept_either Held P log H all moment (IsCutFor why) image are cut either);
      serial = λ told gives sources keeps. weakened moment_of images_since old new (KeepsEither (SerialFits gives sources) P log H (cleaned moment)) (WasKept (SerialFits gives sources) P log (length H) all (IsCutFor why)) (serial_in told gives sources keeps)
          (λ image either. kept_either (SerialFits gives sources) P log H all moment (IsCutFor why) image are cut either);
      now = λ told keeps uncut. absurd (uncut cut);
      others = others_in;
      later = later_in;
      cause = risen;
    }
