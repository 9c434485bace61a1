-- How a log's file spells one record more.
use Rattle.std.proofs.Common.{Result, Ok, Err, OnOk, ◌≡◌, ℕ, ◌+◌, ◌-◌, List, [], ◌∷◌, ◌++◌, length, take, Option, Some, None, inl, inr, ◌⊎◌, sym, ◌∙◌, ap, subst, arith, append_assoc, length-append, append-nil}
use Rattle.std.proofs.lemmas.List.{take_at}
use Rattle.std.specs.List.{AllByRecursion}
use Rattle.byte_fields.specs.Spelling.{counted}
use Rattle.flow_types.specs.declared.records.Record.{Record}
use Rattle.log_records.specs.Spelling.{spelling, HasSpelling}
use Rattle.outside.specs.Disk.{Outcomes}
use Rattle.outside.specs.Files.{Files, content}
use Rattle.txn_log.specs.Gates.{open_gate, closed_gate, Stands, staged, grown, IsGrown}
use Rattle.txn_log.specs.Spells.{header, entries, front_of, IsLogOf}
use Rattle.txn_log.specs.Logs.{around, IsAppended}
use Rattle.txn_log.proofs.Gates.{front_is}

-- a file that spells records is their front before a closed gate
pub stands_of : (records : List Record) (file : Option (List ℕ)) → IsLogOf records file → Stands (front_of records) file
stands_of records None spelled = absurd spelled
stands_of records (Some bytes) spelled = spelled.closed

pub fit_of : (records : List Record) (file : Option (List ℕ)) → IsLogOf records file → AllByRecursion HasSpelling records
fit_of records None spelled = absurd spelled
fit_of records (Some bytes) spelled = spelled.fit

pub log_of : (records : List Record) (file : Option (List ℕ)) → AllByRecursion HasSpelling records → Stands (front_of records) file → IsLogOf records file
log_of records None fit stands = absurd stands
log_of records (Some bytes) fit stands = record { fit = fit; closed = stands }

-- what stands before the gate
pub front_at : (records : List Record) (gate : ℕ) (file : Option (List ℕ)) → gate ≡ length (front_of records) → IsLogOf records file
    → take gate (content file) ≡ front_of records
front_at records gate file place spelled = front_is (front_of records) gate file (stands_of records file spelled) (sym place)

entries-push : (records : List Record) (r : Record) → entries (records ++ r ∷ []) ≡ entries records ++ open_gate ∷ counted (spelling r)
entries-push [] r = ap (λ (l : List ℕ). open_gate ∷ l) (append-nil (counted (spelling r)))
entries-push (s ∷ records) r =
    ap (λ (l : List ℕ). open_gate ∷ (counted (spelling s) ++ l)) (entries-push records r)
    ∙ ap (λ (l : List ℕ). open_gate ∷ l) (sym (append_assoc (counted (spelling s)) (entries records) (open_gate ∷ counted (spelling r))))

pub front-push : (records : List Record) (r : Record) → front_of (records ++ r ∷ []) ≡ grown (front_of records) (counted (spelling r))
front-push records r = ap (λ (l : List ℕ). header ++ l) (entries-push records r) ∙ sym (append_assoc header (entries records) (open_gate ∷ counted (spelling r)))

pub fit-push : (records : List Record) (r : Record) → AllByRecursion HasSpelling records → HasSpelling r → AllByRecursion HasSpelling (records ++ r ∷ [])
fit-push [] r fit fits = (fits, tt)
fit-push (s ∷ records) r fit fits = (fit.0, fit-push records r fit.1 fits)

-- the staged entry without its closed gate
pub staged_entry : (behind text : List ℕ) → behind ≡ text ++ closed_gate ∷ [] → staged behind ≡ text
staged_entry behind text is =
    let long : length behind ≡ length text + 1 = ap length is ∙ length-append text (closed_gate ∷ []) in
    ap (λ (l : List ℕ). take (length behind - 1) l) is ∙ take_at text (closed_gate ∷ []) (length behind - 1) (omega arith)

-- the closed gate of the grown log
pub place-push : (records : List Record) (r : Record) (gate : ℕ) → gate ≡ length (front_of records)
    → gate + (around + length (spelling r)) ≡ length (front_of (records ++ r ∷ []))
place-push records r gate place =
    let long : length (front_of (records ++ r ∷ [])) ≡ length (front_of records) + length (open_gate ∷ counted (spelling r)) =
    ap length (front-push records r) ∙ length-append (front_of records) (open_gate ∷ counted (spelling r)) in
    omega (arith, long, place)

module _ (records : List Record) (r : Record) (gate : ℕ) (file : Option (List ℕ)) (behind : List ℕ) (place : gate ≡ length (front_of records)) (spelled : IsLogOf records file)
    (fits : HasSpelling r) (text : behind ≡ counted (spelling r) ++ closed_gate ∷ []) where
  -- the front with the staged entry is the front of the grown list
  front_grown : grown (take gate (content file)) (staged behind) ≡ front_of (records ++ r ∷ [])
  front_grown = ap (λ (l : List ℕ). grown l (staged behind)) (front_at records gate file place spelled)
      ∙ ap (λ (l : List ℕ). grown (front_of records) l) (staged_entry behind (counted (spelling r)) text) ∙ sym (front-push records r)

  -- a file with the entry
  pub grown_log : (after : Option (List ℕ)) → Stands (grown (take gate (content file)) (staged behind)) after → IsLogOf (records ++ r ∷ []) after
  grown_log after stands = log_of (records ++ r ∷ []) after (fit-push records r (fit_of records file spelled) fits) (subst (λ (l : List ℕ). Stands l after) front_grown stands)

  -- a file without it
  pub same_log : (after : Option (List ℕ)) → Stands (take gate (content file)) after → IsLogOf records after
  same_log after stands = log_of records after (fit_of records file spelled) (subst (λ (l : List ℕ). Stands l after) (front_at records gate file place spelled) stands)

  -- at each moment of the append
  pub appended_log : (name : List ℕ) (outcomes : Outcomes) (image : Files) → IsGrown name (take gate (content file)) (staged behind) outcomes image → IsAppended name records r outcomes image
  appended_log name outcomes image step = record {
    log = either_log (image name) step.log;
    others = step.others;
  }
    where
      either_log : (after : Option (List ℕ)) → Stands (take gate (content file)) after ⊎ Stands (grown (take gate (content file)) (staged behind)) after
          → IsLogOf records after ⊎ IsLogOf (records ++ r ∷ []) after
      either_log after (inl stands) = inl (same_log after stands)
      either_log after (inr stands) = inr (grown_log after stands)

-- the file before the gate, in terms of the file itself
pub stands_at : (records : List Record) (gate : ℕ) (file after : Option (List ℕ)) → gate ≡ length (front_of records) → IsLogOf records file → IsLogOf records after
    → Stands (take gate (content file)) after
stands_at records gate file after place spelled also = subst (λ (l : List ℕ). Stands l after) (sym (front_at records gate file place spelled)) (stands_of records after also)

-- two things that are so at Ok
pub both_ok : {T E A B C : Type 0} (result : Result T E) → (A → B → C) → OnOk result A → OnOk result B → OnOk result C
both_ok (Ok x) f a b = f a b
both_ok (Err e) f a b = a
