-- A file spells one list of records, or is damaged at one place.
use Rattle.std.proofs.Common.{Result, Ok, Err, ◌≡◌, ◌<◌, ℕ, List, [], ◌∷◌, ◌++◌, length, take, drop, Option, Some, None, ◌⊎◌, inl, inr, refl, sym, ap, subst, ◌∙◌, arith, length-append, append_assoc}
use Rattle.std.proofs.lemmas.List.{take_at, drop_at}
use Rattle.std.specs.List.{AllByRecursion}
use Rattle.byteorder.specs.Endian.{big_bytes}
use Rattle.byte_fields.specs.Spelling.{counted}
use Rattle.flow_types.specs.declared.records.Record.{Record}
use Rattle.log_records.specs.Spelling.{spelling, HasSpelling}
use Rattle.log_records.proofs.Whole.{spelled_apart}
use Rattle.txn_log.specs.Gates.{open_gate}
use Rattle.txn_log.specs.Logs.{LogState}
use Rattle.txn_log.specs.Spells.{header, entries, front_of, IsUnbegun, IsSpelled, Spells}
use Rattle.outside.specs.Disk.{Outcomes}
use Rattle.outside.specs.Files.{Files}
use Rattle.log_recover.specs.Steps.{IsShut, IsEntry, IsBroken}
use Rattle.log_recover.specs.Recovery.{IsBadAt, HasBadHeader, HasBadRecord, Recovers, IsThese, IsRecovering, IsKept}
use Rattle.log_recover.specs.declared.fault.RecoverFault.{RecoverFault}
use Rattle.log_recover.specs.declared.fault.RecoverFault.TheVariants.{Site, BadHeader, BadRecord, Memory}
use Rattle.log_recover.proofs.Heads.{entry_same, cons_head}
use Rattle.log_recover.proofs.Sizes.{spelled_few}

-- the entries and what stands behind them, one entry off
entry_first : (r : Record) (records : List Record) (tail : List ℕ) → HasSpelling r → IsEntry r (entries (r ∷ records) ++ tail) (entries records ++ tail)
entry_first r records tail fits = record { fits = fits; text = ap (λ (l : List ℕ). open_gate ∷ l) (append_assoc (counted (spelling r)) (entries records) tail) }

same_front : (a b c d : List ℕ) → length a ≡ length b → a ++ c ≡ b ++ d → a ≡ b
same_front a b c d long same = sym (take_at a c (length a) refl) ∙ ap (λ (l : List ℕ). take (length a) l) same ∙ take_at b d (length a) (sym long)

same_back : (a b c d : List ℕ) → length a ≡ length b → a ++ c ≡ b ++ d → c ≡ d
same_back a b c d long same = sym (drop_at a c (length a) refl) ∙ ap (λ (l : List ℕ). drop (length a) l) same ∙ drop_at b d (length a) (sym long)

-- what stands behind an open gate is one record, and then one rest
entry_unique : (r s : Record) (bytes more other : List ℕ) → IsEntry r bytes more → IsEntry s bytes other → (r ≡ s) × (more ≡ other)
entry_unique r s bytes more other first second =
    let both = entry_same bytes (spelling r ++ more) (length (spelling r)) s other (omega (arith, spelled_few r first.fits))
    (first.text ∙ ap (λ (l : List ℕ). open_gate ∷ l) (append_assoc (big_bytes 4 (length (spelling r))) (spelling r) more)) second in (
      spelled_apart r s first.fits second.fits (same_front (spelling r) (spelling s) more other (sym both.0) both.1),
      same_back (spelling r) (spelling s) more other (sym both.0) both.1,
    )

unique : (records others : List Record) (tail other : List ℕ) → AllByRecursion HasSpelling records → AllByRecursion HasSpelling others → IsShut tail → IsShut other
    → entries records ++ tail ≡ entries others ++ other → records ≡ others
unique [] [] tail other fit fits shut closed same = refl
unique [] (s ∷ others) [] other fit fits shut closed same = absurd shut
unique [] (s ∷ others) (g ∷ tail) other fit fits shut closed same = absurd (shut (cons_head _ _ _ _ same))
unique (r ∷ records) [] tail [] fit fits shut closed same = absurd closed
unique (r ∷ records) [] tail (g ∷ other) fit fits shut closed same = absurd (closed (cons_head _ _ _ _ (sym same)))
unique (r ∷ records) (s ∷ others) tail other fit fits shut closed same =
    let both = entry_unique r s (entries (r ∷ records) ++ tail) (entries records ++ tail) (entries others ++ other) (entry_first r records tail fit.0)
    (subst (λ (l : List ℕ). IsEntry s l (entries others ++ other)) (sym same) (entry_first s others other fits.0)) in
    ap (λ (x : Record). x ∷ records) both.0 ∙ ap (λ (l : List Record). s ∷ l) (unique records others tail other fit.1 fits.1 shut closed both.1)

never_broken : (records others : List Record) (tail other : List ℕ) → AllByRecursion HasSpelling records → AllByRecursion HasSpelling others → IsShut tail → IsBroken other
    → entries records ++ tail ≡ entries others ++ other → ⊥
never_broken [] [] tail other fit fits shut broken same = broken.not_shut (subst (λ (l : List ℕ). IsShut l) same shut)
never_broken [] (s ∷ others) [] other fit fits shut broken same = shut
never_broken [] (s ∷ others) (g ∷ tail) other fit fits shut broken same = shut (cons_head _ _ _ _ same)
never_broken (r ∷ records) [] tail other fit fits shut broken same =
    broken.no_entry r (entries records ++ tail) (subst (λ (l : List ℕ). IsEntry r l (entries records ++ tail)) same (entry_first r records tail fit.0))
never_broken (r ∷ records) (s ∷ others) tail other fit fits shut broken same =
    let both = entry_unique r s (entries (r ∷ records) ++ tail) (entries records ++ tail) (entries others ++ other) (entry_first r records tail fit.0)
    (subst (λ (l : List ℕ). IsEntry s l (entries others ++ other)) (sym same) (entry_first s others other fits.0)) in
    never_broken records others tail other fit.1 fits.1 shut broken both.1

-- behind the header
behind_header : (records : List Record) (bytes tail : List ℕ) → bytes ≡ front_of records ++ tail → drop 8 bytes ≡ entries records ++ tail
behind_header records bytes tail split = ap (λ (l : List ℕ). drop 8 l) (split ∙ append_assoc header (entries records) tail)

begins : (records : List Record) (bytes : List ℕ) → IsSpelled records bytes → take 8 bytes ≡ header
begins records bytes spelled =
    ap (λ (l : List ℕ). take 8 l) (spelled.closed.split ∙ append_assoc header (entries records) (spelled.closed.gate ∷ spelled.closed.rest))

one_list : (records others : List Record) (bytes : List ℕ) → IsSpelled records bytes → IsSpelled others bytes → records ≡ others
one_list records others bytes first second =
    unique records others (first.closed.gate ∷ first.closed.rest) (second.closed.gate ∷ second.closed.rest) first.fit second.fit first.closed.shut second.closed.shut
    (sym (behind_header records bytes _ first.closed.split) ∙ behind_header others bytes _ second.closed.split)

no_damage : (records : List Record) (bytes : List ℕ) (at : ℕ) → IsSpelled records bytes → IsBadAt bytes at → ⊥
no_damage records bytes at spelled bad =
    never_broken records bad.records (spelled.closed.gate ∷ spelled.closed.rest) (drop at bytes) spelled.fit bad.before.fit spelled.closed.shut bad.broken
    (sym (behind_header records bytes _ spelled.closed.split) ∙ behind_header bad.records bytes (drop at bytes) bad.before.parts)

-- a file that has a record is longer than a log that isn't begun
begun_long : (r : Record) (records : List Record) (bytes : List ℕ) → IsSpelled (r ∷ records) bytes → 9 < length bytes
begun_long r records bytes spelled =
    omega (arith, ap length spelled.closed.split, length-append (front_of (r ∷ records)) (spelled.closed.gate ∷ spelled.closed.rest), length-append (counted (spelling r)) (entries records))

pub one_spelled : (records others : List Record) (file : Option (List ℕ)) → Spells records file → Spells others file → records ≡ others
one_spelled [] [] file first second = refl
one_spelled [] (s ∷ others) None first second = absurd second
one_spelled [] (s ∷ others) (Some bytes) (inl short) second = absurd (omega (arith, short, begun_long s others bytes second))
one_spelled [] (s ∷ others) (Some bytes) (inr first) second = one_list [] (s ∷ others) bytes first second
one_spelled (r ∷ records) [] None first second = absurd first
one_spelled (r ∷ records) [] (Some bytes) first (inl short) = absurd (omega (arith, short, begun_long r records bytes first))
one_spelled (r ∷ records) [] (Some bytes) first (inr second) = one_list (r ∷ records) [] bytes first second
one_spelled (r ∷ records) (s ∷ others) None first second = absurd first
one_spelled (r ∷ records) (s ∷ others) (Some bytes) first second = one_list (r ∷ records) (s ∷ others) bytes first second

long_spelled : (records : List Record) (bytes : List ℕ) → 9 < length bytes → Spells records (Some bytes) → IsSpelled records bytes
long_spelled [] bytes long (inl short) = absurd (omega (arith, short, long))
long_spelled [] bytes long (inr spelled) = spelled
long_spelled (r ∷ records) bytes long spelled = spelled

-- what is recovered of a file that spells records
pub recovers_these : (file : Option (List ℕ)) (result : Result (LogState × List Record) RecoverFault) (records : List Record) → Recovers file result → Spells records file → IsThese records result
recovers_these file (Ok p) records is spells = one_spelled p.1 records file is spells
recovers_these None (Err BadHeader) records is spells = absurd is
recovers_these (Some bytes) (Err BadHeader) records is spells = is.1 (begins records bytes (long_spelled records bytes is.0 spells))
recovers_these None (Err (BadRecord at)) records is spells = absurd is
recovers_these (Some bytes) (Err (BadRecord at)) records is spells = no_damage records bytes at (long_spelled records bytes is.0 spells) is.1
recovers_these file (Err Site) records is spells = tt
recovers_these file (Err Memory) records is spells = tt

-- a file that isn't begun spells no records, and so does any other
unbegun_spells : (records : List Record) (file other : Option (List ℕ)) → IsUnbegun file → IsUnbegun other → Spells records file → Spells records other
unbegun_spells [] file other short also spells = inl also
unbegun_spells (r ∷ records) None other short also spells = absurd spells
unbegun_spells (r ∷ records) (Some bytes) other short also spells = absurd (omega (arith, short, begun_long r records bytes spells))

-- each moment keeps what every outcome spelled
pub kept_at : (name : List ℕ) (file : Option (List ℕ)) (outcomes : Outcomes) (records : List Record) → outcomes name file
    → ((left : Option (List ℕ)) → outcomes name left → Spells records left) → (image : Files) → IsRecovering name file outcomes image → IsKept name records outcomes image
kept_at name file outcomes records now spelled image step = record {
  log = kept_log (image name) step.log;
  others = step.others;
}
  where
    kept_log : (left : Option (List ℕ)) → outcomes name left ⊎ (IsUnbegun file × IsUnbegun left) → Spells records left
    kept_log left (inl was) = spelled left was
    kept_log left (inr short) = unbegun_spells records file left short.0 short.1 (spelled file now)

pub never_bad_header : (records : List Record) (file : Option (List ℕ)) → Spells records file → HasBadHeader file → ⊥
never_bad_header records None spells bad = bad
never_bad_header records (Some bytes) spells bad = bad.1 (begins records bytes (long_spelled records bytes bad.0 spells))

pub never_bad_record : (records : List Record) (file : Option (List ℕ)) (at : ℕ) → Spells records file → HasBadRecord file at → ⊥
never_bad_record records None at spells bad = bad
never_bad_record records (Some bytes) at spells bad = no_damage records bytes at (long_spelled records bytes bad.0 spells) bad.1
