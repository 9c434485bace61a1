-- From a start to the run of its desk.
use Rattle.std.proofs.Common.{◌≡◌, ◌≤◌, ◌+◌, ◌⊎◌, ◌∙◌, inl, inr, ⊎_elim, ℕ, Bool, true, false, cond, ◌||◌, List, [], ◌∷◌, ◌++◌, length, map, Option, Some, None, Result, Ok, Err, refl, sym, ap, subst, arith, append_assoc, length-append, true≢false}
use Rattle.std.specs.Prelude.{All, filter, is_none, is_some, option_map}
use Rattle.std.specs.Option.{option_and_then, option_map_or}
use Rattle.std.specs.List.{list_any}
use Rattle.std.specs.Str.{bytes_eq}
use Rattle.std.proofs.lemmas.Bool.{and_right}
use Rattle.std.proofs.lemmas.List.{append-nil, map-append}
use Rattle.std.proofs.lemmas.List.Elements.{All-nil, All-cons}
use Rattle.flow_types.specs.declared.plan.Plan.{Plan}
use Rattle.flow_types.specs.declared.numbers.Content.{Content}
use Rattle.flow_types.specs.declared.numbers.Digest.{Digest}
use Rattle.flow_types.specs.declared.job.Job.{Job}
use Rattle.flow_types.specs.declared.job.Failure.{Failure}
use Rattle.flow_types.specs.declared.records.Record.{Record}
use Rattle.flow_types.specs.Plans.{rule_numbers}
use Rattle.flow_types.specs.Serial.{Contents, Function, serial}
use Rattle.run_history.specs.declared.options.Options.{Options}
use Rattle.run_history.specs.declared.answers.Check.{Check}
use Rattle.run_history.specs.declared.moves.Move.TheVariants as moves
use Rattle.run_history.specs.Answers.{or_else}
use Rattle.run_history.specs.History.{is_cleaned, is_opening}
use Rattle.run_history.specs.Legal.{first_illegal}
use Rattle.run_history.specs.Links.{records_of}
use Rattle.run_history.specs.States.{drops, limit_in, outs_in, outs_of, running_in}
use Rattle.run_history.specs.Storage.{is_running, running_rules}
use Rattle.run_history.proofs.Grows.{records-push}
use Rattle.run_history.proofs.Steps.{running-is, running-opened}
use Rattle.rule_graph.specs.Spelling.{plan_digest}
use Rattle.outside.specs.Disk.{IsImage, LeavesOnly, Outcomes, Within}
use Rattle.outside.specs.Files.{Files}
use Rattle.desk.specs.declared.answers.StartRefused.{StartRefused}
use Rattle.desk.specs.declared.answers.StartFault.{StartFault}
use Rattle.desk.specs.declared.answers.StartFault.TheVariants as faults
use Rattle.local_run.specs.declared.halt.Halt.TheVariants as halts
use Rattle.local_run.specs.declared.ended.Stopped.{Stopped}
use Rattle.local_run.specs.declared.ended.Stopped.TheVariants as stopped
use Rattle.desk.specs.Begins.{BeginsRun, IsRefusal, KeepsOpening, run_over}
use Rattle.desk.specs.Kept.{IsLegal, Keeps, WasKept}
use Rattle.desk.specs.Openings.{Opens, early_fault, opened_plan, opening, other_flow}
use Rattle.desk.proofs.Starting.{early_legal, none_illegal}
use Rattle.desk.specs.State.{DeskState, IsFine}
use Rattle.local_run.specs.Course.{FailsHonestly}
use Rattle.local_run.specs.Ends.{BeganOver, IsFresh, is_failed, records_due}
use Rattle.local_run.specs.Losses.{is_lost}
use Rattle.local_run.specs.Runs.{Adds, HasCauses, IsAdmitted, IsCutRun, LosesNone}
use Rattle.local_run.proofs.Fresh.{due_more, fresh_opened}
use Rattle.local_run.proofs.Going.{records_more}

pub none_pass : (p : ℕ → Bool) (xs : List ℕ) → ((x : ℕ) → p x ≡ false) → filter p xs ≡ []
none_pass p [] fails = refl
none_pass p (x ∷ xs) fails = ap (λ (b : Bool). cond b (x ∷ filter p xs) (filter p xs)) (fails x) ∙ none_pass p xs fails

opened_idle : (P : Plan) (H : List Record) (x : Record) → is_cleaned x ≡ false → is_opening x ≡ true → length (running_rules P (H ++ (x ∷ []))) ≤ 0
opened_idle P H x more opens =
    let idle : (r : ℕ) → is_running (H ++ (x ∷ [])) r ≡ false =
    λ r. running-is (H ++ (x ∷ [])) r ∙ and_right (is_none (outs_of (H ++ (x ∷ [])) r)) (is_some (running_in (H ++ (x ∷ [])) r)) (ap is_some (running-opened H x r more opens)) in
    let none : length (running_rules P (H ++ (x ∷ []))) ≡ 0 = ap length (none_pass (is_running (H ++ (x ∷ []))) (rule_numbers P) idle) in
    omega (arith, none)

-- a refusal for the length or for what is stored, or behind these
abbrev is_late : StartFault → Bool
is_late (faults.OtherFlow logged found) = false
is_late (faults.NotLegal at) = false
is_late why = true

-- the refusal of another plan is no later one
no_other : (digest : List ℕ) (logged : Option Digest) (why : StartFault) → is_late why ≡ true → option_and_then (other_flow digest) logged ≡ Some why → ⊥
no_other digest None why late is = true≢false (sym (ap is_some is))
no_other digest (Some logged) why late is = by_test (bytes_eq logged.0 digest) is
  where
    by_test : (t : Bool) → cond t None (Some (faults.OtherFlow logged (record { 0 = digest }))) ≡ Some why → ⊥
    by_test true is = true≢false (sym (ap is_some is))
    by_test false is = true≢false (sym late ∙ sym (ap (λ o. option_map_or is_late o false) is))

none_illegal_by : (illegal : Option ℕ) (rest : Option StartFault) (why : StartFault) → is_late why ≡ true → or_else (option_map faults.NotLegal illegal) rest ≡ Some why → illegal ≡ None
none_illegal_by None rest why late is = refl
none_illegal_by (Some at) rest why late is = absurd (true≢false (sym late ∙ sym (ap (λ o. option_map_or is_late o false) is)))

legal_behind : (P : Plan) (H : List Record) (other rest : Option StartFault) (why : StartFault) → is_late why ≡ true → (other ≡ Some why → ⊥)
    → or_else other (or_else (option_map faults.NotLegal (first_illegal P (plan_digest P) H)) rest) ≡ Some why → IsLegal P H
legal_behind P H None rest why late none is = none_illegal P (plan_digest P) H (none_illegal_by (first_illegal P (plan_digest P) H) rest why late is)
legal_behind P H (Some x) rest why late none is = absurd (none is)

-- A history that is refused for its length or for what is stored is legal.
late_legal : (P : Plan) (O : Options) (H : List Record) (why : StartFault) → early_fault P O H ≡ Some why → is_late why ≡ true → IsLegal P H
late_legal P O H why is late =
    legal_behind P H (option_and_then (other_flow (plan_digest P)) (opened_plan H)) _ why late (no_other (plan_digest P) (opened_plan H) why late) is

opening_by : (P : Plan) (O : Options) (first : Bool) (number moment : ℕ) (rows : List Content) (may_fail : Job → Failure → Type 0) (contents : Contents)
    → let x : Record = opening P O (record { first = first; number = number; moment = moment }) rows in (is_cleaned x ≡ false) × (is_opening x ≡ true) × FailsHonestly P may_fail contents x × (is_lost x ≡ false)
    × (limit_in x ≡ Some O.limit) × (is_failed x ≡ false) × (((r : ℕ) → outs_in r x ≡ None) × ((f : ℕ) → drops f x ≡ false))
opening_by P O true number moment rows may_fail contents = (refl, refl, tt, refl, refl, refl, ((λ r. refl), λ f. refl))
opening_by P O false number moment rows may_fail contents = (refl, refl, tt, refl, refl, refl, ((λ r. refl), λ f. refl))

-- What a start tells of its desk.
pub record IsBegun {S : Type 0} (first : ℕ) (P : Plan) (O : Options) (log : List ℕ) (H : List Record) (may_fail : Job → Failure → Type 0) (contents : Contents) (d : DeskState S) : Type 0 where
  pub plan : d.plan ≡ P
  pub options : d.options ≡ O
  pub log_is : d.log ≡ log
  pub base : d.base ≡ length H
  pub faults : d.faults ≡ first
  pub fine : IsFine d.trouble
  pub unset : d.stop ≡ None
  pub entry : Record
  pub records : records_of d.moves ≡ H ++ (entry ∷ [])
  pub honest : FailsHonestly P may_fail contents entry
  pub kept : is_lost entry ≡ false
  pub idle : length (running_rules d.plan (records_of d.moves)) ≤ 0
  pub fresh : IsFresh O.limit (records_of d.moves)
  pub due : records_due P (records_of d.moves) ≤ records_due P H + 1
  pub failed : is_failed entry ≡ false
  pub keeps : (f : ℕ) → drops f entry ≡ false
  pub over : BeganOver d H

pub begun : {S : Type 0} (count : S → ℕ) (P : Plan) (O : Options) (log : List ℕ) (H : List Record) (moment : ℕ) (tells : Type 0) (files : Files) (old : S) (may_fail : Job → Failure → Type 0) (contents : Contents) (d : DeskState S)
    → (let begun : Result (DeskState S) (StartRefused S) = Ok d in BeginsRun count P O log H moment tells files old begun) → IsBegun (count old) P O log H may_fail contents d
begun {S} count P O log H moment tells files old may_fail contents d h =
    let x = h.2.0 in
    let opens = h.2.1 in
    let by = opening_by P O (run_over H moment).first (run_over H moment).number moment opens.0 may_fail contents in
    let records : records_of d.moves ≡ H ++ (x ∷ []) =
    ap (λ (v : DeskState S). records_of v.moves) h.2.2 ∙ records-push (map moves.Logged H) x ∙ ap (λ (G : List Record). G ++ (x ∷ [])) (records_more [] H) in
    record {
      plan = ap (λ (v : DeskState S). v.plan) h.2.2;
      options = ap (λ (v : DeskState S). v.options) h.2.2;
      log_is = ap (λ (v : DeskState S). v.log) h.2.2;
      base = ap (λ (v : DeskState S). v.base) h.2.2;
      faults = ap (λ (v : DeskState S). v.faults) h.2.2;
      fine = subst (λ (v : DeskState S). IsFine v.trouble) (sym h.2.2) tt;
      unset = ap (λ (v : DeskState S). v.stop) h.2.2;
      entry = x;
      records = records;
      honest = subst (FailsHonestly P may_fail contents) (sym opens.1) by.2;
      kept = ap is_lost opens.1 ∙ by.3;
      idle = subst (λ (G : List Record). length (running_rules d.plan G) ≤ 0) (sym records)
          (opened_idle d.plan H x (ap is_cleaned opens.1 ∙ by.0) (ap is_opening opens.1 ∙ by.1));
      fresh = subst (IsFresh O.limit) (sym records) (fresh_opened H x O.limit (ap is_cleaned opens.1 ∙ by.0) (ap is_opening opens.1 ∙ by.1) (ap limit_in opens.1 ∙ by.4));
      due = subst (λ (G : List Record). records_due P G ≤ records_due P H + 1) (sym records) (due_more P H x (ap is_cleaned opens.1 ∙ by.0) (λ r. ap (outs_in r) opens.1 ∙ by.6.0 r));
      failed = ap is_failed opens.1 ∙ by.5;
      keeps = λ f. ap (drops f) opens.1 ∙ by.6.1 f;
      over = (ap (λ (v : DeskState S). v.base) h.2.2, (x, ap is_opening opens.1 ∙ by.1, ap (λ (v : DeskState S). v.moves) h.2.2 ∙ sym (map-append moves.Logged H (x ∷ []))));
    }

-- what the run of the desk added, and the record with which it began
pub adds_more : {S : Type 0} (first : ℕ) (trust : Type 0) (gives : Function) (may_fail : Job → Failure → Type 0) (sources : Contents) (P : Plan) (O : Options) (log : List ℕ) (H all : List Record) (d : DeskState S)
    → IsBegun first P O log H may_fail (serial P gives sources) d → Adds trust gives may_fail sources d.plan (records_of d.moves) all → Adds trust gives may_fail sources P H all
adds_more {S} first trust gives may_fail sources P O log H all d begun adds = record {
  more = begun.entry ∷ adds.more;
  are = adds.are ∙ ap (λ (G : List Record). G ++ adds.more) begun.records ∙ append_assoc H (begun.entry ∷ []) adds.more;
  honest = λ trusted. All-cons (FailsHonestly P may_fail (serial P gives sources)) begun.entry adds.more begun.honest
      (subst (λ (Q : Plan). All (FailsHonestly Q may_fail (serial Q gives sources)) adds.more) begun.plan (adds.honest trusted));
}

pub adds_nothing : (trust : Type 0) (gives : Function) (may_fail : Job → Failure → Type 0) (sources : Contents) (P : Plan) (H all : List Record) → all ≡ H → Adds trust gives may_fail sources P H all
adds_nothing trust gives may_fail sources P H all same = record {
  more = [];
  are = same ∙ sym (append-nil H);
  honest = λ trusted. All-nil (FailsHonestly P may_fail (serial P gives sources));
}

module _ {S : Type 0} (fits : Plan → ℕ → Content → Option (List ℕ) → Type 0) (P : Plan) (O : Options) (log : List ℕ) (H all : List Record) where
  pub begun_kept : (first : ℕ) (may_fail : Job → Failure → Type 0) (contents : Contents) (past cut : Type 0) (d : DeskState S) (image : Files) → IsBegun first P O log H may_fail contents d
      → past ⊎ WasKept fits d.plan d.log d.base all cut image → past ⊎ WasKept fits P log (length H) all cut image
  begun_kept first may_fail contents past cut d image begun left =
      ⊎_elim (λ (p : past). inl p)
      (λ (k : WasKept fits d.plan d.log d.base all cut image). inr (subst (λ (Q : Plan). WasKept fits Q log (length H) all cut image) begun.plan
      (subst (λ (n : List ℕ). WasKept fits d.plan n (length H) all cut image) begun.log_is (subst (λ (b : ℕ). WasKept fits d.plan d.log b all cut image) begun.base k)))) left

  pub begun_now : (first : ℕ) (may_fail : Job → Failure → Type 0) (contents : Contents) (d : DeskState S) (image : Files) → IsBegun first P O log H may_fail contents d → Keeps fits d.plan d.log all image → Keeps fits P log all image
  begun_now first may_fail contents d image begun k =
      subst (λ (Q : Plan). Keeps fits Q log all image) begun.plan (subst (λ (n : List ℕ). Keeps fits d.plan n all image) begun.log_is k)

-- a run is cut short or isn't
cut_or_not : (how : Result Check Stopped) → IsCutRun how ⊎ (IsCutRun how → ⊥)
cut_or_not (Ok check) = inr (λ cut. cut)
cut_or_not (Err (stopped.Refused (faults.OtherFlow logged found))) = inr (λ cut. cut)
cut_or_not (Err (stopped.Refused (faults.NotLegal at))) = inr (λ cut. cut)
cut_or_not (Err (stopped.Refused (faults.LogFull records))) = inr (λ cut. cut)
cut_or_not (Err (stopped.Refused (faults.StoredAboveLimit stored limit))) = inr (λ cut. cut)
cut_or_not (Err (stopped.Refused (faults.SourceMissing file))) = inr (λ cut. cut)
cut_or_not (Err (stopped.Refused (faults.SourceTooLarge file size))) = inr (λ cut. cut)
cut_or_not (Err (stopped.Refused (faults.SourceChanged file logged found))) = inr (λ cut. cut)
cut_or_not (Err (stopped.Refused (faults.FileDamaged file logged found))) = inr (λ cut. cut)
cut_or_not (Err (stopped.Refused (faults.Site before after))) = inl tt
cut_or_not (Err (stopped.Refused faults.Memory)) = inl tt
cut_or_not (Err (stopped.Halted (halts.Damaged file logged found))) = inr (λ cut. cut)
cut_or_not (Err (stopped.Halted halts.Runner)) = inr (λ cut. cut)
cut_or_not (Err (stopped.Halted halts.Site)) = inl tt
cut_or_not (Err (stopped.Halted halts.Memory)) = inl tt
cut_or_not (Err stopped.Hall) = inr (λ cut. cut)
cut_or_not (Err (stopped.Unheard fault)) = inr (λ cut. cut)
cut_or_not (Err (stopped.Unopened fault)) = inl tt

module _ {S : Type 0} (may_leave : S → Outcomes) (moment : S → ℕ) (images_since : S → ℕ → Files → Type 0) (fits : Plan → ℕ → Content → Option (List ℕ) → Type 0) (P : Plan) (log : List ℕ) (H all : List Record)
    (old new : S) (how : Result Check Stopped) where
  -- a start that was cut short may have added its record
  cut_kept : (O : Options) (time : ℕ) (tells : Type 0) (files : Files) (image : Files) → all ≡ H → IsCutRun how → KeepsOpening fits P O log H time tells files image → WasKept fits P log (length H) all (IsCutRun how) image
  cut_kept O time tells files image same cut left =
      subst (λ (G : List Record). WasKept fits P log (length H) G (IsCutRun how) image) (sym same)
      (⊎_elim (λ (k : Keeps fits P log H image). record { records = H; since = omega arith; kept = k; known = inl ([], append-nil H) })
      (λ (k : (x : Record) × Opens P O (run_over H time) tells files x × Keeps fits P log (H ++ (x ∷ [])) image). record {
        records = H ++ (k.0 ∷ []);
        since = let long = length-append H (k.0 ∷ []) in omega (arith, long);
        kept = k.2;
        known = inr (cut, (k.0, refl));
      }) left)

  -- one that wasn't left the history
  uncut_kept : (image : Files) → all ≡ H → Keeps fits P log H image → WasKept fits P log (length H) all (IsCutRun how) image
  uncut_kept image same k =
      subst (λ (G : List Record). WasKept fits P log (length H) G (IsCutRun how) image) (sym same) (record { records = H; since = omega arith; kept = k; known = inl ([], append-nil H) })

  -- what a run that wasn't started leaves at each moment
  pub refused_kept : (O : Options) (time : ℕ) (tells : Type 0) (files : Files) (past : Files → Type 0) (born : ℕ) (image : Files) → all ≡ H → born ≤ moment old
      → ((image : Files) → images_since old born image → past image) → ((image : Files) → IsImage (may_leave old) image → Keeps fits P log H image)
      → LeavesOnly moment images_since old new (KeepsOpening fits P O log H time tells files)
      → ((IsCutRun how → ⊥) → Within (may_leave old) (may_leave new) × LeavesOnly moment images_since old new (IsImage (may_leave old)))
      → images_since new born image → past image ⊎ WasKept fits P log (length H) all (IsCutRun how) image
  refused_kept O time tells files past born image same later before kept any quiet left =
      ⊎_elim
      (λ (cut : IsCutRun how). ⊎_elim (λ (was : images_since old born image). inl (before image was))
      (λ (k : KeepsOpening fits P O log H time tells files image). inr (cut_kept O time tells files image same cut k)) (any.before born image later left))
      (λ (uncut : IsCutRun how → ⊥). ⊎_elim (λ (was : images_since old born image). inl (before image was))
      (λ (is : IsImage (may_leave old) image). inr (uncut_kept image same (kept image is))) ((quiet uncut).1.before born image later left))
      (cut_or_not how)

  -- and behind it
  pub refused_now : (image : Files) → all ≡ H → ((image : Files) → IsImage (may_leave old) image → Keeps fits P log H image)
      → ((IsCutRun how → ⊥) → Within (may_leave old) (may_leave new) × LeavesOnly moment images_since old new (IsImage (may_leave old))) → (IsCutRun how → ⊥)
      → IsImage (may_leave new) image → Keeps fits P log all image
  refused_now image same kept quiet whole is =
      subst (λ (G : List Record). Keeps fits P log G image) (sym same) (kept image (λ m. (quiet whole).0 m (image m) (is m)))

-- A history over which no file had to be looked at is legal where it isn't that which is wrong.
pub refused_legal : {S : Type 0} (count : S → ℕ) (P : Plan) (O : Options) (H : List Record) (tells : Type 0) (files : Files) (old new : S) (why : StartFault) → IsRefusal count P O H tells files old new why
    → IsAdmitted (Err (stopped.Refused why)) → IsLegal P H
refused_legal {S} count P O H tells files old new (faults.OtherFlow logged found) h admitted = absurd admitted
refused_legal {S} count P O H tells files old new (faults.NotLegal at) h admitted = absurd admitted
refused_legal {S} count P O H tells files old new (faults.LogFull records) h admitted = late_legal P O H (faults.LogFull records) h.0 refl
refused_legal {S} count P O H tells files old new (faults.StoredAboveLimit stored limit) h admitted = late_legal P O H (faults.StoredAboveLimit stored limit) h.0 refl
refused_legal {S} count P O H tells files old new (faults.SourceMissing file) h admitted = early_legal P O H h.0
refused_legal {S} count P O H tells files old new (faults.SourceTooLarge file size) h admitted = early_legal P O H h.0
refused_legal {S} count P O H tells files old new (faults.SourceChanged file logged found) h admitted = early_legal P O H h.0
refused_legal {S} count P O H tells files old new (faults.FileDamaged file logged found) h admitted = early_legal P O H h.0
refused_legal {S} count P O H tells files old new (faults.Site before after) h admitted = early_legal P O H h.0
refused_legal {S} count P O H tells files old new faults.Memory h admitted = absurd admitted

-- a start stops by its site only where that object's count rose
pub refused_causes : {S : Type 0} (count : S → ℕ) (P : Plan) (O : Options) (H : List Record) (tells : Type 0) (files : Files) (old new : S) (before now : ℕ) (why : StartFault) → IsRefusal count P O H tells files old new why
    → HasCauses (count old) (count new) before now (Err (stopped.Refused why))
refused_causes {S} count P O H tells files old new before now (faults.OtherFlow logged found) h = tt
refused_causes {S} count P O H tells files old new before now (faults.NotLegal at) h = tt
refused_causes {S} count P O H tells files old new before now (faults.LogFull records) h = tt
refused_causes {S} count P O H tells files old new before now (faults.StoredAboveLimit stored limit) h = tt
refused_causes {S} count P O H tells files old new before now (faults.SourceMissing file) h = tt
refused_causes {S} count P O H tells files old new before now (faults.SourceTooLarge file size) h = tt
refused_causes {S} count P O H tells files old new before now (faults.SourceChanged file logged found) h = tt
refused_causes {S} count P O H tells files old new before now (faults.FileDamaged file logged found) h = tt
refused_causes {S} count P O H tells files old new before now (faults.Site first after) h = let start = h.1.0 in let here = h.1.1 in let up = h.1.2 in omega (arith, start, here, up)
refused_causes {S} count P O H tells files old new before now faults.Memory h = tt

-- no attempt was given up, from the start of the run on
pub begun_loses : {S : Type 0} (first : ℕ) (P : Plan) (O : Options) (log : List ℕ) (H all : List Record) (may_fail : Job → Failure → Type 0) (contents : Contents) (d : DeskState S) → IsBegun first P O log H may_fail contents d
    → LosesNone (records_of d.moves) all → LosesNone H all
begun_loses {S} first P O log H all may_fail contents d begun loses = (
  begun.entry ∷ loses.0,
  loses.1 ∙ ap (λ (G : List Record). G ++ loses.0) begun.records ∙ append_assoc H (begun.entry ∷ []) loses.0,
  ap (λ b. b || list_any is_lost loses.0) begun.kept ∙ loses.2,
)
