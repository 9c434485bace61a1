-- What a call does that cleans or prints, by how that ended.
use Rattle.std.proofs.Common.{◌≡◌, ◌≤◌, ◌<◌, ◌⊎◌, ⊎_elim, inl, inr, ◌∙◌, ℕ, suc, ◌+◌, fold, Bool, true, false, cond, List, [], ◌∷◌, ◌++◌, length, Option, Some, None, refl, sym, ap, subst, arith, true≢false, option_map, if◌then◌else◌}
use Rattle.std.proofs.lemmas.List.Elements.{All-nil, All-cons}
use Rattle.flow_types.specs.declared.plan.Plan.{Plan}
use Rattle.flow_types.specs.declared.job.Job.{Job}
use Rattle.flow_types.specs.declared.job.Failure.{Failure}
use Rattle.flow_types.specs.declared.records.Record.{Record}
use Rattle.flow_types.specs.Plans.{is_empty}
use Rattle.flow_types.specs.Serial.{Contents, Function, serial}
use Rattle.std.specs.Prelude.{nat_le, not, ◌&&◌}
use Rattle.run_history.specs.Admissions.{Admitting}
use Rattle.run_history.specs.Answers.{or_else, where_so}
use Rattle.run_history.specs.Legal.{most_records}
use Rattle.run_history.specs.History.{is_cleaned, part}
use Rattle.outside.specs.Files.{Files}
use Rattle.txn_log.specs.Spells.{IsUnbegun, Spells}
use Rattle.log_recover.specs.Laws.{HasAHeader, IsWhole, SpellsOneList}
use Rattle.log_recover.specs.Recovery.{HasBadRecord}
use Rattle.log_recover.specs.declared.fault.RecoverFault.TheVariants as recovery
use Rattle.desk.specs.declared.answers.StartFault.{StartFault}
use Rattle.desk.specs.declared.answers.StartFault.TheVariants as faults
use Rattle.desk.specs.Histories.{history_fault}
use Rattle.desk.specs.Kept.{IsLegal}
use Rattle.run_history.specs.declared.options.Mode.{Mode}
use Rattle.run_history.specs.declared.options.Options.{Options as RunOptions}
use Rattle.flow_run.specs.Places.{PlacedBy, StartsWhere}
use Rattle.flow_run.proofs.Placed.{placed_none}
use Rattle.run_history.specs.Storage.{wanted}
use Rattle.local_run.specs.Collecting.{AreGone, CollectsBy, StandsWhere}
use Rattle.local_run.specs.Course.{FailsHonestly}
use Rattle.local_run.specs.Ends.{failed_count, is_failed}
use Rattle.local_run.specs.Runs.{Adds, BeginsWith, LosesNone}
use Rattle.cleaning.specs.declared.answers.CleanFault.{CleanFault}
use Rattle.cleaning.specs.declared.answers.CleanFault.TheVariants as cleans
use Rattle.cleaning.specs.declared.answers.LookFault.{LookFault}
use Rattle.cleaning.specs.declared.answers.LookFault.TheVariants as looks
use Rattle.cleaning.specs.Cleanings.{AreEither, IsCleanFault, IsCleanOfFile, IsCutFor, IsLeft, IsOfSite, IsUnreadFor, WasAdmitted, clean_fault, cleaned}
use Rattle.cleaning.specs.Looks.{GivesBack, IsCutFault, IsLookFault, IsOfFile, IsSiteFault, WasRead}
use Rattle.command_words.specs.declared.options.Work.TheVariants as works
use Rattle.report.specs.declared.cause.Cause.{Cause}
use Rattle.report.specs.declared.cause.Cause.TheVariants as causes
use Rattle.report.specs.declared.cause.Kind.{Kind}
use Rattle.report.specs.declared.cause.Kind.TheVariants as kinds
use Rattle.report.specs.Causes.{is_cut, is_failing, is_refusal, kind_of, was_read}
use Rattle.master_run.proofs.Counted.{site_rise}
use Rattle.master_run.specs.declared.ask.Ask.{Ask}
use Rattle.master_run.specs.Counts.{Counts}
use Rattle.master_run.specs.declared.rises.Rise.{Rise}
use Rattle.master_run.specs.Ends.{Answers, FaultEnd, GoesOn, IsDamagedAt, IsReadOr, Yields, start_cause}
use Rattle.master_run.specs.Headline.{HasLog, IsCleanedBy, IsLegalOr, StartsNone, is_early, is_run_end}
use Rattle.master_run.specs.Runs.{clean_cause, look_cause}
use Rattle.master_run.proofs.Faults.{collects_none, fault_goes}
use Rattle.master_run.proofs.Moved.{append_nothing}

absent : {A : Type 0} → false ≡ true → A
absent wrong = absurd (true≢false (sym wrong))

-- the end of a part adds nothing that runs
pub records_are : (H all : List Record) (moment : ℕ) → AreEither H moment all → (more : List Record) × (all ≡ H ++ more) × ((more ≡ []) ⊎ (more ≡ cleaned moment ∷ []))
records_are H all moment either =
    ⊎_elim (λ (same : all ≡ H). ([], same ∙ sym (append_nothing H), inl refl)) (λ (more : all ≡ H ++ (cleaned moment ∷ [])). (cleaned moment ∷ [], more, inr refl)) either

pub starts_nothing : (H all : List Record) (moment : ℕ) → AreEither H moment all → StartsNone H all
starts_nothing H all moment either =
    ⊎_elim (λ (same : all ≡ H). ([], same ∙ sym (append_nothing H), refl)) (λ (more : all ≡ H ++ (cleaned moment ∷ [])). (cleaned moment ∷ [], more, refl)) either

pub loses_nothing : (H all : List Record) (moment : ℕ) → AreEither H moment all → LosesNone H all
loses_nothing H all moment either =
    ⊎_elim (λ (same : all ≡ H). ([], same ∙ sym (append_nothing H), refl)) (λ (more : all ≡ H ++ (cleaned moment ∷ [])). (cleaned moment ∷ [], more, refl)) either

pub adds_nothing : (gives : Function) (may_fail : Job → Failure → Type 0) (sources : Contents) (P : Plan) (H all : List Record) (moment : ℕ) → AreEither H moment all → Adds (Unit {0}) gives may_fail sources P H all
adds_nothing gives may_fail sources P H all moment either =
    ⊎_elim (λ (same : all ≡ H). record { more = []; are = same ∙ sym (append_nothing H); honest = λ trust. All-nil (FailsHonestly P may_fail (serial P gives sources)) })
    (λ (more : all ≡ H ++ (cleaned moment ∷ [])). record { more = cleaned moment ∷ []; are = more; honest = λ trust. All-cons (FailsHonestly P may_fail (serial P gives sources)) (cleaned moment) [] tt (All-nil (FailsHonestly P may_fail (serial P gives sources))) }) either

failed_push : (count : ℕ) (H : List Record) (moment : ℕ) → fold (λ n x. n + cond (is_failed x) 1 0) count (H ++ (cleaned moment ∷ [])) ≡ fold (λ n x. n + cond (is_failed x) 1 0) count H
failed_push count [] moment = omega arith
failed_push count (x ∷ H) moment = failed_push (count + cond (is_failed x) 1 0) H moment

pub fails_nothing : (H all : List Record) (moment : ℕ) → AreEither H moment all → failed_count all ≡ failed_count H
fails_nothing H all moment either =
    ⊎_elim (λ (same : all ≡ H). ap failed_count same) (λ (more : all ≡ H ++ (cleaned moment ∷ [])). ap failed_count more ∙ failed_push 0 H moment) either

stands_alone : (file : Option ℕ) (moment : ℕ) (x : Record) (before after : List Record) → cleaned moment ∷ [] ≡ before ++ (x ∷ after) → StandsWhere file x
stands_alone file moment x [] after is = let same : cleaned moment ≡ x = cc in subst (StandsWhere file) same tt
stands_alone file moment x (y ∷ []) after is = absurd (cc)
stands_alone file moment x (y ∷ z ∷ before) after is = absurd (cc)

pub collects_nothing : (P : Plan) (mode : Mode) (H all : List Record) (moment : ℕ) → AreEither H moment all → CollectsBy P mode H all
collects_nothing P mode H all moment either =
    ⊎_elim (λ (same : all ≡ H). collects_none P mode H all (same ∙ sym (append_nothing H)))
    (λ (more : all ≡ H ++ (cleaned moment ∷ [])). record { more = cleaned moment ∷ []; are = more; each = λ before after x at. stands_alone (wanted P mode (H ++ before)) moment x before after at }) either

pub places_nothing : (P : Plan) (O : RunOptions) (H all : List Record) (moment : ℕ) → AreEither H moment all → PlacedBy P O H all
places_nothing P O H all moment either =
    ⊎_elim (λ (same : all ≡ H). placed_none P O H all same)
    (λ (more : all ≡ H ++ (cleaned moment ∷ [])). record { more = cleaned moment ∷ []; are = more; each = All-cons (StartsWhere P O) (cleaned moment) [] tt (All-nil (StartsWhere P O)) }) either

pub drops_nothing : (P : Plan) (files : Files) (H all : List Record) (moment : ℕ) → AreEither H moment all → AreGone P files H all
drops_nothing P files H all moment either =
    ⊎_elim (λ (same : all ≡ H). record { more = []; are = same ∙ sym (append_nothing H); gone = λ f wrong. absent wrong })
    (λ (more : all ≡ H ++ (cleaned moment ∷ [])). record { more = cleaned moment ∷ []; are = more; gone = λ f wrong. absent wrong }) either

pub begins_so : (H all : List Record) (moment : ℕ) → AreEither H moment all → BeginsWith H all
begins_so H all moment either = let r = records_are H all moment either in (r.0, r.1)

pub ended_either : (H : List Record) (moment : ℕ) (empty : Bool) → AreEither H moment (if empty then H else (H ++ (cleaned moment ∷ [])))
ended_either H moment true = inl refl
ended_either H moment false = inr refl

-- ---- of a look that is refused

pub look_cut : (s : Rise) (why : LookFault) → IsCutFault why → is_cut (kind_of (look_cause s why)) ≡ true
look_cut s (looks.Log recovery.Site) cut = refl
look_cut s (looks.Log recovery.BadHeader) cut = absurd cut
look_cut s (looks.Log (recovery.BadRecord at)) cut = absurd cut
look_cut s (looks.Log recovery.Memory) cut = refl
look_cut s (looks.OtherFlow logged found) cut = absurd cut
look_cut s (looks.NotLegal at) cut = absurd cut
look_cut s looks.Memory cut = refl

pub cut_look : (s : Rise) (why : LookFault) → is_refusal (kind_of (look_cause s why)) ≡ true → IsCutFault why → ⊥
cut_look s why refused cut = by_kind (kind_of (look_cause s why)) (look_cut s why cut) refused
  where
    by_kind : (kind : Kind) → is_cut kind ≡ true → is_refusal kind ≡ true → ⊥
    by_kind kinds.SiteBroke cut refused = true≢false (sym refused)
    by_kind kinds.NoMemory cut refused = true≢false (sym refused)
    by_kind _ cut refused = true≢false (sym cut)

pub look_faults : (b a : Counts) (s0 s1 : ℕ) (why : LookFault) → b.site ≤ s0 → a.site ≡ s1 → (IsSiteFault why → s0 < s1) → FaultEnd b a (look_cause (site_rise b a) why)
look_faults b a s0 s1 (looks.Log recovery.Site) le is rises = (refl, refl, omega (arith, le, is, rises tt))
look_faults b a s0 s1 (looks.Log recovery.BadHeader) le is rises = tt
look_faults b a s0 s1 (looks.Log (recovery.BadRecord at)) le is rises = tt
look_faults b a s0 s1 (looks.Log recovery.Memory) le is rises = tt
look_faults b a s0 s1 (looks.OtherFlow logged found) le is rises = tt
look_faults b a s0 s1 (looks.NotLegal at) le is rises = tt
look_faults b a s0 s1 looks.Memory le is rises = tt

pub look_log : (s : Rise) (P : Plan) (H given : List Record) (why : LookFault) → IsLookFault P H why → GivesBack H why given → HasLog H given (kind_of (look_cause s why))
look_log s P H given (looks.Log recovery.Site) is gives = inr (gives, refl)
look_log s P H given (looks.Log recovery.BadHeader) is gives = absurd is
look_log s P H given (looks.Log (recovery.BadRecord at)) is gives = absurd is
look_log s P H given (looks.Log recovery.Memory) is gives = inr (gives, refl)
look_log s P H given (looks.OtherFlow logged found) is gives = inl ([], gives ∙ sym (append_nothing H))
look_log s P H given (looks.NotLegal at) is gives = inl ([], gives ∙ sym (append_nothing H))
look_log s P H given looks.Memory is gives = inl ([], gives ∙ sym (append_nothing H))

pub look_legal : (s : Rise) (P : Plan) (H given : List Record) (why : LookFault) → GivesBack H why given → IsLegalOr P H given (kind_of (look_cause s why))
look_legal s P H given (looks.Log recovery.Site) gives = inr (inr gives, refl)
look_legal s P H given (looks.Log recovery.BadHeader) gives = inr (inr gives, refl)
look_legal s P H given (looks.Log (recovery.BadRecord at)) gives = inr (inr gives, refl)
look_legal s P H given (looks.Log recovery.Memory) gives = inr (inr gives, refl)
look_legal s P H given (looks.OtherFlow logged found) gives = inr (inl gives, refl)
look_legal s P H given (looks.NotLegal at) gives = inr (inl gives, refl)
look_legal s P H given looks.Memory gives = inr (inl gives, refl)

pub look_unread : (s : Rise) (why : LookFault) → was_read (kind_of (look_cause s why)) ≡ false
look_unread s (looks.Log recovery.Site) = refl
look_unread s (looks.Log recovery.BadHeader) = refl
look_unread s (looks.Log (recovery.BadRecord at)) = refl
look_unread s (looks.Log recovery.Memory) = refl
look_unread s (looks.OtherFlow logged found) = refl
look_unread s (looks.NotLegal at) = refl
look_unread s looks.Memory = refl

-- where the records were given back, none was added
pub look_either : (H given : List Record) (moment : ℕ) (s : Rise) (P : Plan) (why : LookFault) → IsLookFault P H why → GivesBack H why given → (is_cut (kind_of (look_cause s why)) ≡ true → ⊥) → AreEither H moment given
look_either H given moment s P (looks.Log recovery.Site) is gives whole = absurd (whole refl)
look_either H given moment s P (looks.Log recovery.BadHeader) is gives whole = absurd is
look_either H given moment s P (looks.Log (recovery.BadRecord at)) is gives whole = absurd is
look_either H given moment s P (looks.Log recovery.Memory) is gives whole = absurd (whole refl)
look_either H given moment s P (looks.OtherFlow logged found) is gives whole = inl gives
look_either H given moment s P (looks.NotLegal at) is gives whole = inl gives
look_either H given moment s P looks.Memory is gives whole = absurd (whole refl)

pub look_read : (s : Rise) (file : Option (List ℕ)) (given : List Record) (why : LookFault) → IsOfFile file why given → IsReadOr file (look_cause s why)
look_read s file given (looks.Log recovery.Site) is = inr (inr refl)
look_read s file given (looks.Log recovery.BadHeader) is = inr (inl (0, refl))
look_read s file given (looks.Log (recovery.BadRecord at)) is = inr (inl (at, refl))
look_read s file given (looks.Log recovery.Memory) is = inr (inr refl)
look_read s file given (looks.OtherFlow logged found) is = inl (given, is)
look_read s file given (looks.NotLegal at) is = inl (given, is)
look_read s file given looks.Memory is = inl (given, is)

at_of : (x y : ℕ) → causes.LogDamaged x ≡ causes.LogDamaged y → x ≡ y
at_of x y is = ap at is
  where
    at : Cause → ℕ
    at (causes.LogDamaged n) = n
    at _ = 0

pub look_damaged : (s : Rise) (file : Option (List ℕ)) (given : List Record) (why : LookFault) (at : ℕ) → IsOfFile file why given → look_cause s why ≡ causes.LogDamaged at → IsDamagedAt file at
look_damaged s file given (looks.Log recovery.Site) at is told = absurd (cc)
look_damaged s file given (looks.Log recovery.BadHeader) at is told = inl (is, sym (at_of 0 at told))
look_damaged s file given (looks.Log (recovery.BadRecord place)) at is told = inr (subst (HasBadRecord file) (at_of place at told) is)
look_damaged s file given (looks.Log recovery.Memory) at is told = absurd (cc)
look_damaged s file given (looks.OtherFlow logged found) at is told = absurd (cc)
look_damaged s file given (looks.NotLegal at_record) at is told = absurd (cc)
look_damaged s file given looks.Memory at is told = absurd (cc)

said_goes : (refusal : Option StartFault) (why : StartFault) (rest : Type 0) → refusal ≡ Some why → Yields (option_map start_cause refusal) (start_cause why) rest
said_goes refusal why rest is = subst (λ (o : Option StartFault). Yields (option_map start_cause o) (start_cause why) rest) (sym is) (λ stays. inl refl)

pub look_goes : (E : Admitting) (s : Rise) (ask : Ask) (rise : ℕ) (H : List Record) (before after : Files) (records : List Record) (why : LookFault) → IsLookFault ask.plan H why
    → GoesOn E works.PrintLog ask rise H before after records (look_cause s why)
look_goes E s ask rise H before after records (looks.Log recovery.Site) is = fault_goes E works.PrintLog ask rise H before after records (causes.SiteFault s.before s.after) refl
look_goes E s ask rise H before after records (looks.Log recovery.BadHeader) is = absurd is
look_goes E s ask rise H before after records (looks.Log (recovery.BadRecord at)) is = absurd is
look_goes E s ask rise H before after records (looks.Log recovery.Memory) is = fault_goes E works.PrintLog ask rise H before after records causes.Memory refl
look_goes E s ask rise H before after records (looks.OtherFlow logged found) is = said_goes (history_fault ask.plan H) (faults.OtherFlow logged found) _ is
look_goes E s ask rise H before after records (looks.NotLegal at) is = said_goes (history_fault ask.plan H) (faults.NotLegal at) _ is
look_goes E s ask rise H before after records looks.Memory is = fault_goes E works.PrintLog ask rise H before after records causes.Memory refl

-- a log that isn't begun is refused by nothing
pub look_begun : (one : SpellsOneList) (header : HasAHeader) (whole : IsWhole) (P : Plan) (file : Option (List ℕ)) (given : List Record) (why : LookFault) → (IsCutFault why → ⊥) → IsOfFile file why given
    → ((H : List Record) → Spells H file → IsLookFault P H why) → IsUnbegun file → ⊥
look_begun one header whole P file given (looks.Log recovery.Site) uncut is ends unbegun = uncut tt
look_begun one header whole P file given (looks.Log recovery.BadHeader) uncut is ends unbegun = header [] file (inl unbegun) is
look_begun one header whole P file given (looks.Log (recovery.BadRecord at)) uncut is ends unbegun = whole [] file at (inl unbegun) is
look_begun one header whole P file given (looks.Log recovery.Memory) uncut is ends unbegun = uncut tt
look_begun one header whole P file given (looks.OtherFlow logged found) uncut is ends unbegun = absurd (let wrong : None ≡ Some (faults.OtherFlow logged found) = ends [] (inl unbegun) in cc)
look_begun one header whole P file given (looks.NotLegal at) uncut is ends unbegun = absurd (let wrong : None ≡ Some (faults.NotLegal at) = ends [] (inl unbegun) in cc)
look_begun one header whole P file given looks.Memory uncut is ends unbegun = uncut tt

-- ---- of a cleaning that is refused

pub clean_cut : (s : Rise) (why : CleanFault) → IsCutFor why → is_cut (kind_of (clean_cause s why)) ≡ true
clean_cut s (cleans.Look why) cut = look_cut s why cut
clean_cut s (cleans.LogFull count) cut = absurd cut
clean_cut s cleans.Site cut = refl
clean_cut s cleans.Memory cut = refl

pub cut_clean : (s : Rise) (why : CleanFault) → is_refusal (kind_of (clean_cause s why)) ≡ true → IsCutFor why → ⊥
cut_clean s (cleans.Look why) refused cut = cut_look s why refused cut
cut_clean s (cleans.LogFull count) refused cut = cut
cut_clean s cleans.Site refused cut = true≢false (sym refused)
cut_clean s cleans.Memory refused cut = true≢false (sym refused)

pub clean_faults : (b a : Counts) (s0 s1 : ℕ) (why : CleanFault) → b.site ≤ s0 → a.site ≡ s1 → (IsOfSite why → s0 < s1) → FaultEnd b a (clean_cause (site_rise b a) why)
clean_faults b a s0 s1 (cleans.Look why) le is rises = look_faults b a s0 s1 why le is rises
clean_faults b a s0 s1 (cleans.LogFull count) le is rises = tt
clean_faults b a s0 s1 cleans.Site le is rises = (refl, refl, omega (arith, le, is, rises tt))
clean_faults b a s0 s1 cleans.Memory le is rises = tt

pub clean_log : (s : Rise) (P : Plan) (H given : List Record) (moment : ℕ) (why : CleanFault) → IsCleanFault P H why → IsLeft H moment why given → HasLog H given (kind_of (clean_cause s why))
clean_log s P H given moment (cleans.Look why) is left = look_log s P H given why is left
clean_log s P H given moment (cleans.LogFull count) is left = inl ([], left ∙ sym (append_nothing H))
clean_log s P H given moment cleans.Site is left = inl (begins_so H given moment left)
clean_log s P H given moment cleans.Memory is left = inl (begins_so H given moment left)

-- where other records were given back than those of the log and more, it wasn't read
pub clean_unread : (P : Plan) (H given : List Record) (moment : ℕ) (why : CleanFault) → IsCleanFault P H why → IsLeft H moment why given → (BeginsWith H given → ⊥) → IsUnreadFor why
clean_unread P H given moment (cleans.Look (looks.Log fault)) is left none = tt
clean_unread P H given moment (cleans.Look (looks.OtherFlow logged found)) is left none = none ([], left ∙ sym (append_nothing H))
clean_unread P H given moment (cleans.Look (looks.NotLegal at)) is left none = none ([], left ∙ sym (append_nothing H))
clean_unread P H given moment (cleans.Look looks.Memory) is left none = none ([], left ∙ sym (append_nothing H))
clean_unread P H given moment (cleans.LogFull count) is left none = none ([], left ∙ sym (append_nothing H))
clean_unread P H given moment cleans.Site is left none = none (begins_so H given moment left)
clean_unread P H given moment cleans.Memory is left none = none (begins_so H given moment left)

pub clean_legal : (s : Rise) (P : Plan) (H given : List Record) (moment : ℕ) (why : CleanFault) → IsLeft H moment why given → (WasAdmitted why → IsLegal P given) → IsLegalOr P H given (kind_of (clean_cause s why))
clean_legal s P H given moment (cleans.Look why) left legal = look_legal s P H given why left
clean_legal s P H given moment (cleans.LogFull count) left legal = inl (legal tt)
clean_legal s P H given moment cleans.Site left legal = inl (legal tt)
clean_legal s P H given moment cleans.Memory left legal = inl (legal tt)

pub clean_read : (s : Rise) (P : Plan) (given : List Record) (why : CleanFault) → (WasAdmitted why → IsLegal P given) → was_read (kind_of (clean_cause s why)) ≡ true → IsLegal P given
clean_read s P given (cleans.Look why) legal read = absent (sym (look_unread s why) ∙ read)
clean_read s P given (cleans.LogFull count) legal read = legal tt
clean_read s P given cleans.Site legal read = legal tt
clean_read s P given cleans.Memory legal read = legal tt

pub clean_either : (H given : List Record) (moment : ℕ) (s : Rise) (P : Plan) (why : CleanFault) → IsCleanFault P H why → IsLeft H moment why given → (is_cut (kind_of (clean_cause s why)) ≡ true → ⊥) → AreEither H moment given
clean_either H given moment s P (cleans.Look why) is left whole = look_either H given moment s P why is left whole
clean_either H given moment s P (cleans.LogFull count) is left whole = inl left
clean_either H given moment s P cleans.Site is left whole = left
clean_either H given moment s P cleans.Memory is left whole = left

pub clean_of : (s : Rise) (file : Option (List ℕ)) (given : List Record) (why : CleanFault) → IsCleanOfFile file why given → IsReadOr file (clean_cause s why)
clean_of s file given (cleans.Look why) is = look_read s file given why is
clean_of s file given (cleans.LogFull count) is = inl is
clean_of s file given cleans.Site is = inl is
clean_of s file given cleans.Memory is = inl is

pub clean_damaged : (s : Rise) (file : Option (List ℕ)) (given : List Record) (why : CleanFault) (at : ℕ) → IsCleanOfFile file why given → clean_cause s why ≡ causes.LogDamaged at → IsDamagedAt file at
clean_damaged s file given (cleans.Look why) at is told = look_damaged s file given why at is told
clean_damaged s file given (cleans.LogFull count) at is told = absurd (cc)
clean_damaged s file given cleans.Site at is told = absurd (cc)
clean_damaged s file given cleans.Memory at is told = absurd (cc)

first_said : (P : Plan) (H : List Record) (why : StartFault) → history_fault P H ≡ Some why → clean_fault P H ≡ Some why
first_said P H why is = ap (λ (o : Option StartFault). or_else o (or_else (where_so (not (is_empty (part H)) && nat_le most_records (length H)) (faults.LogFull (length H))) None)) is

pub clean_goes : (E : Admitting) (s : Rise) (ask : Ask) (rise : ℕ) (H : List Record) (before after : Files) (records : List Record) (why : CleanFault) → IsCleanFault ask.plan H why
    → GoesOn E works.Clean ask rise H before after records (clean_cause s why)
clean_goes E s ask rise H before after records (cleans.Look (looks.Log recovery.Site)) is = fault_goes E works.Clean ask rise H before after records (causes.SiteFault s.before s.after) refl
clean_goes E s ask rise H before after records (cleans.Look (looks.Log recovery.BadHeader)) is = absurd is
clean_goes E s ask rise H before after records (cleans.Look (looks.Log (recovery.BadRecord at))) is = absurd is
clean_goes E s ask rise H before after records (cleans.Look (looks.Log recovery.Memory)) is = fault_goes E works.Clean ask rise H before after records causes.Memory refl
clean_goes E s ask rise H before after records (cleans.Look (looks.OtherFlow logged found)) is = said_goes (clean_fault ask.plan H) (faults.OtherFlow logged found) _ (first_said ask.plan H (faults.OtherFlow logged found) is)
clean_goes E s ask rise H before after records (cleans.Look (looks.NotLegal at)) is = said_goes (clean_fault ask.plan H) (faults.NotLegal at) _ (first_said ask.plan H (faults.NotLegal at) is)
clean_goes E s ask rise H before after records (cleans.Look looks.Memory) is = fault_goes E works.Clean ask rise H before after records causes.Memory refl
clean_goes E s ask rise H before after records (cleans.LogFull count) is = said_goes (clean_fault ask.plan H) (faults.LogFull count) _ is
clean_goes E s ask rise H before after records cleans.Site is = fault_goes E works.Clean ask rise H before after records (causes.SiteFault s.before s.after) refl
clean_goes E s ask rise H before after records cleans.Memory is = fault_goes E works.Clean ask rise H before after records causes.Memory refl

pub clean_begun : (one : SpellsOneList) (header : HasAHeader) (whole : IsWhole) (P : Plan) (file : Option (List ℕ)) (given : List Record) (why : CleanFault) (s : Rise) → is_refusal (kind_of (clean_cause s why)) ≡ true
    → IsCleanOfFile file why given → ((H : List Record) → Spells H file → IsCleanFault P H why) → IsUnbegun file → ⊥
clean_begun one header whole P file given (cleans.Look why) s refused is ends unbegun = look_begun one header whole P file given why (cut_look s why refused) is ends unbegun
clean_begun one header whole P file given (cleans.LogFull count) s refused is ends unbegun = true≢false (sym refused)
clean_begun one header whole P file given cleans.Site s refused is ends unbegun = true≢false (sym refused)
clean_begun one header whole P file given cleans.Memory s refused is ends unbegun = true≢false (sym refused)

pub done_goes : (refusal : Option StartFault) (expected cause : Cause) → refusal ≡ None → cause ≡ expected → Yields (option_map start_cause refusal) cause (Answers expected cause)
done_goes refusal expected cause none same = subst (λ (o : Option StartFault). Yields (option_map start_cause o) cause (Answers expected cause)) (sym none) (λ stays. inl same)

-- ---- kinds

pub look_late : (s : Rise) (why : LookFault) → is_early (kind_of (look_cause s why)) ≡ false
look_late s (looks.Log recovery.Site) = refl
look_late s (looks.Log recovery.BadHeader) = refl
look_late s (looks.Log (recovery.BadRecord at)) = refl
look_late s (looks.Log recovery.Memory) = refl
look_late s (looks.OtherFlow logged found) = refl
look_late s (looks.NotLegal at) = refl
look_late s looks.Memory = refl

pub look_still : (s : Rise) (why : LookFault) → (is_run_end (kind_of (look_cause s why)) ≡ false) × (is_failing (kind_of (look_cause s why)) ≡ false)
look_still s (looks.Log recovery.Site) = (refl, refl)
look_still s (looks.Log recovery.BadHeader) = (refl, refl)
look_still s (looks.Log (recovery.BadRecord at)) = (refl, refl)
look_still s (looks.Log recovery.Memory) = (refl, refl)
look_still s (looks.OtherFlow logged found) = (refl, refl)
look_still s (looks.NotLegal at) = (refl, refl)
look_still s looks.Memory = (refl, refl)

pub look_cleans : (s : Rise) (P : Plan) (H : List Record) (files : Files) (why : LookFault) → IsCleanedBy P H files (look_cause s why)
look_cleans s P H files (looks.Log recovery.Site) = tt
look_cleans s P H files (looks.Log recovery.BadHeader) = tt
look_cleans s P H files (looks.Log (recovery.BadRecord at)) = tt
look_cleans s P H files (looks.Log recovery.Memory) = tt
look_cleans s P H files (looks.OtherFlow logged found) = tt
look_cleans s P H files (looks.NotLegal at) = tt
look_cleans s P H files looks.Memory = tt

pub clean_cleans : (s : Rise) (P : Plan) (H : List Record) (files : Files) (why : CleanFault) → IsCleanedBy P H files (clean_cause s why)
clean_cleans s P H files (cleans.Look why) = look_cleans s P H files why
clean_cleans s P H files (cleans.LogFull count) = tt
clean_cleans s P H files cleans.Site = tt
clean_cleans s P H files cleans.Memory = tt

pub clean_late : (s : Rise) (why : CleanFault) → is_early (kind_of (clean_cause s why)) ≡ false
clean_late s (cleans.Look why) = look_late s why
clean_late s (cleans.LogFull count) = refl
clean_late s cleans.Site = refl
clean_late s cleans.Memory = refl

pub clean_still : (s : Rise) (why : CleanFault) → (is_run_end (kind_of (clean_cause s why)) ≡ false) × (is_failing (kind_of (clean_cause s why)) ≡ false)
clean_still s (cleans.Look why) = look_still s why
clean_still s (cleans.LogFull count) = (refl, refl)
clean_still s cleans.Site = (refl, refl)
clean_still s cleans.Memory = (refl, refl)

-- where the records begin those that are given, or none are given
pub look_begins : (H given : List Record) (time : ℕ) (why : LookFault) → GivesBack H why given → AreEither H time given ⊎ (given ≡ [])
look_begins H given time (looks.Log why) gives = inr gives
look_begins H given time (looks.OtherFlow logged found) gives = inl (inl gives)
look_begins H given time (looks.NotLegal at) gives = inl (inl gives)
look_begins H given time looks.Memory gives = inl (inl gives)

pub clean_begins : (H given : List Record) (time : ℕ) (why : CleanFault) → IsLeft H time why given → AreEither H time given ⊎ (given ≡ [])
clean_begins H given time (cleans.Look why) left = look_begins H given time why left
clean_begins H given time (cleans.LogFull count) left = inl (inl left)
clean_begins H given time cleans.Site left = inl left
clean_begins H given time cleans.Memory left = inl left

-- what isn't cut was read, where the file spells a list
pub look_seen : (s : Rise) (P : Plan) (H given : List Record) (why : LookFault) → IsLookFault P H why → GivesBack H why given → (is_cut (kind_of (look_cause s why)) ≡ true → ⊥) → WasRead why × (given ≡ H)
look_seen s P H given (looks.Log recovery.Site) is gives whole = absurd (whole refl)
look_seen s P H given (looks.Log recovery.BadHeader) is gives whole = absurd is
look_seen s P H given (looks.Log (recovery.BadRecord at)) is gives whole = absurd is
look_seen s P H given (looks.Log recovery.Memory) is gives whole = absurd (whole refl)
look_seen s P H given (looks.OtherFlow logged found) is gives whole = (tt, gives)
look_seen s P H given (looks.NotLegal at) is gives whole = (tt, gives)
look_seen s P H given looks.Memory is gives whole = absurd (whole refl)

pub clean_uncut : (s : Rise) (why : CleanFault) → (is_cut (kind_of (clean_cause s why)) ≡ true → ⊥) → IsCutFor why → ⊥
clean_uncut s why whole cut = whole (clean_cut s why cut)

-- a part isn't longer than its history
pushed : (xs : List Record) (x : Record) → length (xs ++ (x ∷ [])) ≡ length xs + 1
pushed [] x = refl
pushed (y ∷ xs) x = let rest : length (xs ++ (x ∷ [])) ≡ length xs + 1 = pushed xs x in omega (arith, rest)

no_longer : (test : Record → Bool) (kept xs : List Record) → length (fold (λ held x. if test x then [] else (held ++ (x ∷ []))) kept xs) ≤ length kept + length xs
no_longer test kept [] = omega arith
no_longer test kept (x ∷ xs) = by_test (test x) refl (no_longer test [] xs) (no_longer test (kept ++ (x ∷ [])) xs)
  where
    by_test : (t : Bool) → test x ≡ t → length (fold (λ held y. if test y then [] else (held ++ (y ∷ []))) [] xs) ≤ 0 + length xs
        → length (fold (λ held y. if test y then [] else (held ++ (y ∷ []))) (kept ++ (x ∷ [])) xs) ≤ length (kept ++ (x ∷ [])) + length xs
        → length (fold (λ held y. if test y then [] else (held ++ (y ∷ []))) (if test x then [] else (kept ++ (x ∷ []))) xs) ≤ length kept + suc (length xs)
    by_test true is low high = subst (λ b. length (fold (λ held y. if test y then [] else (held ++ (y ∷ []))) (if b then [] else (kept ++ (x ∷ []))) xs) ≤ length kept + suc (length xs)) (sym is) (omega (arith, low))
    by_test false is low high =
        let many : length (kept ++ (x ∷ [])) ≡ length kept + 1 = pushed kept x in
        subst (λ b. length (fold (λ held y. if test y then [] else (held ++ (y ∷ []))) (if b then [] else (kept ++ (x ∷ []))) xs) ≤ length kept + suc (length xs)) (sym is) (omega (arith, high, many))

pub part_within : (H : List Record) → length (part H) ≤ length H
part_within H = let le : length (part H) ≤ 0 + length H = no_longer is_cleaned [] H in omega (arith, le)
