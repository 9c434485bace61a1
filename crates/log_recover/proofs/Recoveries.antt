-- What is recovered of a file.
use Rattle.std.proofs.Common.{Result, Ok, Err, OnOk, ◌≡◌, ◌≢◌, ◌≤◌, ◌<◌, ◌∙◌, ℕ, Bool, true, false, List, [], ◌∷◌, length, Option, Some, None, inr, refl, sym, subst, arith, true≢false}
use Rattle.std.specs.Prelude.{option_map}
use Rattle.std.specs.Str.{bytes_eq}
use Rattle.std.proofs.lemmas.Slice.Eq.{bytes_eq-Decides}
use Rattle.outside.specs.Files.{Files, content}
use Rattle.outside.specs.Disk.{Outcomes}
use Rattle.flow_types.specs.declared.records.Record.{Record}
use Rattle.txn_log.specs.Logs.{LogState, IsLog}
use Rattle.txn_log.specs.Spells.{front_of, IsUnbegun, IsLogOf, Spells}
use Rattle.log_recover.specs.Recovery.{Resumes, Recovers, IsNamed}
use Rattle.log_recover.specs.declared.fault.RecoverFault.{RecoverFault}
use Rattle.log_recover.specs.declared.fault.RecoverFault.TheVariants.{Site, BadHeader, BadRecord, Memory}

-- how long a file is, where there is one
pub unbegun_size : (file : Option (List ℕ)) (size : Option ℕ) → size ≡ option_map length file → ((len : ℕ) → size ≡ Some len → len ≤ 9) → IsUnbegun file
unbegun_size None size is few = tt
unbegun_size (Some bytes) size is few = few (length bytes) is

pub spells_some : (records : List Record) (file : Option (List ℕ)) → IsLogOf records file → Spells records file
spells_some [] file spelled = inr spelled
spells_some (r ∷ records) file spelled = spelled

-- what was read of a long file is what is recovered of it
pub recovers_long : (file : Option (List ℕ)) (len : ℕ) (result : Result (LogState × List Record) RecoverFault) → Some len ≡ option_map length file → 9 < len
    → Resumes (content file) result → Recovers file result
recovers_long None len result is long read = absurd (some_none len is)
  where
    some_none : (n : ℕ) → ◌≡◌ {A = Option ℕ} (Some n) None → ⊥
    some_none n e = cc
recovers_long (Some bytes) len (Ok p) is long read = spells_some p.1 (Some bytes) read.0
recovers_long (Some bytes) len (Err BadHeader) is long read = (longer len bytes is long, read)
  where
    longer : (n : ℕ) (bs : List ℕ) → ◌≡◌ {A = Option ℕ} (Some n) (Some (length bs)) → 9 < n → 9 < length bs
    longer n bs e few = let same : n ≡ length bs = cc in omega (arith, same, few)
recovers_long (Some bytes) len (Err (BadRecord at)) is long read = (longer len bytes is long, read)
  where
    longer : (n : ℕ) (bs : List ℕ) → ◌≡◌ {A = Option ℕ} (Some n) (Some (length bs)) → 9 < n → 9 < length bs
    longer n bs e few = let same : n ≡ length bs = cc in omega (arith, same, few)
recovers_long (Some bytes) len (Err Site) is long read = tt
recovers_long (Some bytes) len (Err Memory) is long read = tt

-- a log that was read stands on the disk
pub stands_long : (name : List ℕ) (file : Option (List ℕ)) (p : LogState × List Record) (outcomes : Outcomes) → IsNamed name p → IsLogOf p.1 file → p.0.gate ≡ length (front_of p.1)
    → ((left : Option (List ℕ)) → outcomes name left → left ≡ file) → IsLog p.0 p.1 outcomes
stands_long name file p outcomes named spelled gate durable = record {
  many = named.many;
  at = record {
    place = gate;
    each = λ left was. subst (λ (e : Option (List ℕ)). IsLogOf p.1 e) (sym (durable left (subst (λ (n : List ℕ). outcomes n left) named.same_name was))) spelled;
  };
}

-- reads under this name stay, and those under the others
pub all_same : (old new : Files) (name : List ℕ) → new name ≡ old name → ((m : List ℕ) → m ≢ name → new m ≡ old m) → (m : List ℕ) → new m ≡ old m
all_same old new name here others m = by_name (bytes_eq m name) refl
  where
    by_name : (t : Bool) → bytes_eq m name ≡ t → new m ≡ old m
    by_name true same = subst (λ (n : List ℕ). new n ≡ old n) (sym ((bytes_eq-Decides m name).0 same)) here
    by_name false other = others m (λ same. true≢false (sym ((bytes_eq-Decides m name).1 same) ∙ other))

-- what is so is so at Ok
pub always_ok : {T E A : Type 0} (result : Result T E) → A → OnOk result A
always_ok (Ok x) a = a
always_ok (Err e) a = tt
