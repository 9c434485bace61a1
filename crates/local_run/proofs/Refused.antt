-- What a run that didn't start leaves.
use Rattle.std.proofs.Common.{◌≡◌, ◌≢◌, ◌∙◌, ℕ, Bool, true, false, List, [], ◌∷◌, map, length, Option, Some, None, Result, Ok, Err, refl, sym, ap, true≢false}
use Rattle.std.specs.Prelude.{nat_le, nat_lt, if◌then◌else◌}
use Rattle.flow_types.specs.declared.plan.Plan.{Plan}
use Rattle.flow_types.specs.declared.records.Record.{Record}
use Rattle.run_history.specs.declared.options.Options.{Options}
use Rattle.run_history.specs.declared.answers.Check.{Check}
use Rattle.flow_types.specs.Plans.{file_numbers, is_source, most_bytes}
use Rattle.run_history.specs.Answers.{file_no, first_of, or_else}
use Rattle.run_history.specs.States.{file_state}
use Rattle.run_history.specs.Storage.{stored}
use Rattle.file_store.specs.Outputs.{file_name}
use Rattle.outside.specs.Files.{Files}
use Rattle.std.specs.Str.{bytes_eq}
use Rattle.std.proofs.lemmas.Slice.Eq.{bytes_eq-Decides}
use Rattle.txn_log.specs.Logs.{LogState}
use Rattle.log_recover.specs.declared.fault.RecoverFault.{RecoverFault}
use Rattle.log_recover.specs.declared.fault.RecoverFault.TheVariants as recovery
use Rattle.log_recover.specs.Recovery.{IsDamage}
use Rattle.local_run.specs.Moments.{IsDamageFault}
use Rattle.desk.specs.declared.answers.StartFault.{StartFault}
use Rattle.desk.specs.declared.answers.StartFault.TheVariants as faults
use Rattle.desk.specs.Begins.{IsRefusal, IsUncutBy}
use Rattle.desk.specs.Openings.{early_fault, file_fault, source_fault, stored_fault}
use Rattle.local_run.specs.declared.halt.Halt.{Halt}
use Rattle.local_run.specs.declared.ended.Stopped.{Stopped}
use Rattle.local_run.specs.declared.ended.Stopped.TheVariants as stopped
use Rattle.local_run.specs.Ends.{StartEnds, first_file_fault, run_fault}
use Rattle.local_run.specs.Runs.{IsEarlyBy, IsEarlyRun, IsRefusedRun, ended_by}

-- a run that was started isn't refused
pub not_refused : (done : Result Check Halt) → IsRefusedRun (ended_by done) → ⊥
not_refused (Ok check) refused = refused
not_refused (Err halt) refused = refused

pub early_refused : (how : Result Check Stopped) → IsEarlyRun how → IsRefusedRun how
early_refused (Ok check) early = early
early_refused (Err (stopped.Refused why)) early = tt
early_refused (Err (stopped.Halted halt)) early = early
early_refused (Err stopped.Hall) early = early
early_refused (Err (stopped.Unheard fault)) early = tt
early_refused (Err (stopped.Unopened fault)) early = tt

-- where the records are refused the site stays
pub early_same : {S : Type 0} (count : S → ℕ) (P : Plan) (O : Options) (H : List Record) (tells : Type 0) (files : Files) (old new : S) (why : StartFault)
    → IsRefusal count P O H tells files old new why → IsEarlyBy why → new ≡ old
early_same count P O H tells files old new (faults.OtherFlow logged found) refusal early = refusal.1
early_same count P O H tells files old new (faults.NotLegal at) refusal early = refusal.1
early_same count P O H tells files old new (faults.LogFull records) refusal early = absurd early
early_same count P O H tells files old new (faults.StoredAboveLimit bytes limit) refusal early = absurd early
early_same count P O H tells files old new (faults.SourceMissing file) refusal early = absurd early
early_same count P O H tells files old new (faults.SourceTooLarge file size) refusal early = absurd early
early_same count P O H tells files old new (faults.SourceChanged file logged found) refusal early = absurd early
early_same count P O H tells files old new (faults.FileDamaged file logged found) refusal early = absurd early
early_same count P O H tells files old new (faults.Site before after) refusal early = absurd early
early_same count P O H tells files old new faults.Memory refusal early = absurd early

-- a refusal for the records
abbrev is_early : StartFault → Bool
is_early (faults.OtherFlow logged found) = true
is_early (faults.NotLegal at) = true
is_early why = false

abbrev is_early_in : Option StartFault → Bool
is_early_in None = false
is_early_in (Some why) = is_early why

early_uncut : (why : StartFault) → IsEarlyBy why → IsUncutBy why × (is_early why ≡ true)
early_uncut (faults.OtherFlow logged found) early = (tt, refl)
early_uncut (faults.NotLegal at) early = (tt, refl)
early_uncut (faults.LogFull records) early = absurd early
early_uncut (faults.StoredAboveLimit bytes limit) early = absurd early
early_uncut (faults.SourceMissing file) early = absurd early
early_uncut (faults.SourceTooLarge file size) early = absurd early
early_uncut (faults.SourceChanged file logged found) early = absurd early
early_uncut (faults.FileDamaged file logged found) early = absurd early
early_uncut (faults.Site before after) early = absurd early
early_uncut faults.Memory early = absurd early

early_within : (b : Bool) (o : Option StartFault) → is_early_in o ≡ false → is_early_in (if b then o else None) ≡ false
early_within true o is = is
early_within false o is = refl

source_late : (f : ℕ) (there : Option (List ℕ)) → is_early_in (source_fault f there) ≡ false
source_late f None = refl
source_late f (Some bytes) = early_within (nat_lt most_bytes (length bytes)) (Some (faults.SourceTooLarge (file_no f) (length bytes))) refl

late_first : (o rest : Option StartFault) → is_early_in o ≡ false → is_early_in rest ≡ false → is_early_in (or_else o rest) ≡ false
late_first None rest is later = later
late_first (Some why) rest is later = is

late_among : (said : ℕ → Option StartFault) → ((f : ℕ) → is_early_in (said f) ≡ false) → (fs : List ℕ) → is_early_in (first_of (map said fs)) ≡ false
late_among said late [] = refl
late_among said late (f ∷ fs) = late_first (said f) (first_of (map said fs)) (late f) (late_among said late fs)

above_late : (bytes : ℕ) (limit : Option ℕ) → is_early_in (stored_fault bytes limit) ≡ false
above_late bytes None = refl
above_late bytes (Some most) = by_test (nat_le bytes most)
  where
    by_test : (b : Bool) → is_early_in (if b then None else Some (faults.StoredAboveLimit bytes most)) ≡ false
    by_test true = refl
    by_test false = refl

file_late : (P : Plan) (files : Files) (f : ℕ) → is_early_in (file_fault P true (file_state P []) files f) ≡ false
file_late P files f = early_within (is_source P f) (source_fault f (files (file_name P f))) (source_late f (files (file_name P f)))

last_late : (o : Option StartFault) → is_early_in o ≡ false → is_early_in (or_else o None) ≡ false
last_late None is = is
last_late (Some why) is = is

empty_late : (P : Plan) (O : Options) (files : Files) → is_early_in (run_fault P O [] files) ≡ false
empty_late P O files =
    late_first (early_fault P O []) (or_else (first_file_fault P [] files) None) (last_late (stored_fault (stored P []) O.limit) (above_late (stored P []) O.limit))
    (last_late (first_file_fault P [] files) (late_among (file_fault P true (file_state P []) files) (file_late P files) (file_numbers P)))

-- Only over records a run is refused for them.
pub early_over : (P : Plan) (O : Options) (H : List Record) (files : Files) (how : Result Check Stopped) → StartEnds (run_fault P O H files) how → IsEarlyRun how → H ≡ [] → ⊥
early_over P O H files (Ok check) starts early none = early
early_over P O H files (Err (stopped.Halted halt)) starts early none = early
early_over P O H files (Err stopped.Hall) starts early none = early
early_over P O H files (Err (stopped.Unheard fault)) starts early none = early
early_over P O H files (Err (stopped.Unopened fault)) starts early none = early
early_over P O H files (Err (stopped.Refused why)) starts early none =
    let refusal = early_uncut why early in
    let same : run_fault P O [] files ≡ Some why = ap (λ (G : List Record). run_fault P O G files) (sym none) ∙ starts refusal.0 in
    let wrong : true ≡ false = sym refusal.1 ∙ sym (ap is_early_in same) ∙ empty_late P O files in
    true≢false wrong

-- what a recovery answers that finds damage
pub damage_told : (why : RecoverFault) → IsDamageFault why → IsDamage (let refused : Result (LogState × List Record) RecoverFault = Err why in refused)
damage_told recovery.Site damaged = absurd damaged
damage_told recovery.BadHeader damaged = tt
damage_told (recovery.BadRecord at) damaged = tt
damage_told recovery.Memory damaged = absurd damaged

-- a read under each name, where one under the log's and those beside it stay
pub reads_same : (log m : List ℕ) (old new : Files) → new log ≡ old log → (m ≢ log → new m ≡ old m) → new m ≡ old m
reads_same log m old new here beside = by_test (bytes_eq m log) refl
  where
    by_test : (t : Bool) → bytes_eq m log ≡ t → new m ≡ old m
    by_test true is = let same : m ≡ log = (bytes_eq-Decides m log).0 is in ap new same ∙ here ∙ sym (ap old same)
    by_test false is = beside (λ same. true≢false (sym ((bytes_eq-Decides m log).1 same) ∙ is))
