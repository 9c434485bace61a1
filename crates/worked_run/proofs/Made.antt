-- What a file has that is present at the end.
use Rattle.std.proofs.Common.{◌≡◌, ⊎_elim, inl, ℕ, zero, suc, List, [], Option, None, refl, sym, ap, subst}
use Rattle.flow_types.specs.declared.numbers.Content.{Content}
use Rattle.flow_types.specs.declared.records.Record.{Record}
use Rattle.flow_types.specs.Serial.{serial}
use Rattle.run_history.specs.Laws.{IsPresent}
use Rattle.outside.specs.Disk.{Outcomes}
use Rattle.outside.specs.Files.{Files}
use Rattle.file_store.specs.Outputs.{file_name}
use Rattle.txn_log.specs.Spells.{IsUnbegun}
use Rattle.log_recover.specs.Laws.{SpellsOneList}
use Rattle.desk.specs.Kept.{Keeps, WasKept}
use Rattle.local_run.specs.Moments.{IsBefore, IsMoment}
use Rattle.local_run.specs.Runs.{Held, SerialFits}
use Rattle.worked_run.specs.Premises.{ask, entry_sources}
use Rattle.worked_run.specs.Worked.{entry_files, joins, plan}

-- by no records no file is present
none_present : (f : ℕ) (content : Content) → IsPresent plan [] f content → ⊥
none_present zero content is = (let wrong : ⊥ = cc in wrong)
none_present (suc zero) content is = (let wrong : ⊥ = cc in wrong)
none_present (suc (suc zero)) content is = (let wrong : ⊥ = cc in wrong)
none_present (suc (suc (suc f))) content is = (let wrong : ⊥ = cc in wrong)

-- what stands at the end is no image of before, unless there are no records, and so each present file is that of the serial run
pub are_made : SpellsOneList → (outcomes : Outcomes) → ((entry : Option (List ℕ)) → outcomes ask.log entry → entry ≡ None)
    → (records : List Record) (cut : Type 0) (image : Files) → Keeps Held plan ask.log records image
    → IsMoment (SerialFits joins entry_sources) plan ask.log entry_files outcomes [] records cut image
    → (f : ℕ) (content : Content) → IsPresent plan records f content → image (file_name plan f) ≡ serial plan joins entry_sources f
are_made one outcomes settled records cut image keeps moment f content present =
    ⊎_elim
    (λ (was : IsBefore ask.log (entry_files ask.log) outcomes image).
    let short : IsUnbegun (image ask.log) = ⊎_elim
    (λ (left : outcomes ask.log (image ask.log)). subst IsUnbegun (sym (settled (image ask.log) left)) tt)
    (λ (both : IsUnbegun (entry_files ask.log) × IsUnbegun (image ask.log)). both.1) was.spelled in
    let none : records ≡ [] = one records [] (image ask.log) keeps.spells (inl short) in
    absurd (none_present f content (subst (λ (H : List Record). IsPresent plan H f content) none present)))
    (λ (k : WasKept (SerialFits joins entry_sources) plan ask.log 0 records cut image).
    let same : records ≡ k.records = one records k.records (image ask.log) keeps.spells k.kept.spells in
    (k.kept.files f content (subst (λ (H : List Record). IsPresent plan H f content) same present)).1)
    moment
