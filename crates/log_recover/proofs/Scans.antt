-- How far a file is read.
use Rattle.std.proofs.Common.{◌≡◌, ◌≤◌, ℕ, ◌+◌, List, [], ◌∷◌, ◌++◌, length, take, drop, refl, sym, ap, ◌∙◌, arith, length-append, length-drop, append_assoc, take-append-drop}
use Rattle.byte_fields.specs.Spelling.{counted}
use Rattle.flow_types.specs.declared.records.Record.{Record}
use Rattle.log_records.specs.Spelling.{spelling}
use Rattle.txn_log.specs.Gates.{open_gate, IsClosed}
use Rattle.txn_log.specs.Spells.{header, front_of, IsSpelled}
use Rattle.txn_log.proofs.Growing.{front-push, fit-push}
use Rattle.log_recover.specs.Steps.{IsShut, IsEntry, IsBroken}
use Rattle.log_recover.specs.Recovery.{IsRead, IsBadAt}

pub read_start : (bytes : List ℕ) → take 8 bytes ≡ header → IsRead bytes [] 8
read_start bytes begins = record {
  fit = tt;
  parts = sym (take-append-drop 8 bytes) ∙ ap (λ (l : List ℕ). l ++ drop 8 bytes) begins;
  place = refl;
}

pub read_more : (bytes : List ℕ) (records : List Record) (r : Record) (at end : ℕ) → end ≤ length bytes → IsRead bytes records at → IsEntry r (drop at bytes) (drop end bytes)
    → IsRead bytes (records ++ r ∷ []) end
read_more bytes records r at end within read entry =
    let long : length (front_of (records ++ r ∷ [])) ≡ length (front_of records) + length (open_gate ∷ counted (spelling r)) =
    ap length (front-push records r) ∙ length-append (front_of records) (open_gate ∷ counted (spelling r)) in
    record {
      fit = fit-push records r read.fit entry.fits;
      parts = read.parts ∙ ap (λ (l : List ℕ). front_of records ++ l) entry.text
          ∙ sym (append_assoc (front_of records) (open_gate ∷ counted (spelling r)) (drop end bytes))
          ∙ ap (λ (l : List ℕ). l ++ drop end bytes) (sym (front-push records r));
      place = omega (arith, long, read.place, within, ap length entry.text, length-append (counted (spelling r)) (drop end bytes), length-drop at bytes, length-drop end bytes);
    }

-- a closed gate
pub read_closed : (bytes : List ℕ) (records : List Record) (at : ℕ) → IsRead bytes records at → IsShut (drop at bytes) → IsSpelled records bytes
read_closed bytes records at read shut = record { fit = read.fit; closed = closed (drop at bytes) read.parts shut }
  where
    closed : (tail : List ℕ) → bytes ≡ front_of records ++ tail → IsShut tail → IsClosed (front_of records) bytes
    closed [] parts shut = absurd shut
    closed (g ∷ tail) parts shut = record { gate = g; rest = tail; shut = shut; split = parts }

pub read_bad : (bytes : List ℕ) (records : List Record) (at : ℕ) → IsRead bytes records at → IsBroken (drop at bytes) → IsBadAt bytes at
read_bad bytes records at read broken = record { records = records; before = read; broken = broken }
