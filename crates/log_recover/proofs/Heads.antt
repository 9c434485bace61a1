-- What the first five bytes at a gate tell.
use Rattle.std.proofs.Common.{nat_lt, ◌≡◌, ◌≤◌, ◌<◌, ℕ, ◌+◌, ◌^◌, List, [], ◌∷◌, ◌++◌, length, get_or, take, drop, Some, None, Ok, Err, sym, ap, subst, ◌∙◌, arith, length-append, length-take, append_assoc, append-nil, take-append-drop}
use Rattle.std.proofs.lemmas.List.{nil_from_length, drop-drop}
use Rattle.std.proofs.lemmas.Bool.{ltb-true}
use Rattle.byteorder.specs.Endian.{big_number}
use Rattle.byte_fields.specs.declared.fault.FieldFault.TheVariants.{Short}
use Rattle.byte_fields.proofs.Prompt.{guard_err}
use Rattle.byteorder.specs.Endian.{big_bytes}
use Rattle.byte_fields.specs.declared.fault.FieldFault.{FieldFault}
use Rattle.byte_fields.specs.Laws.{IsBytes}
use Rattle.byte_fields.specs.Reading.{number_at}
use Rattle.byte_fields.proofs.Fields.{u32_is_field, ok_is}
use Rattle.flow_types.specs.declared.records.Record.{Record}
use Rattle.log_records.specs.Spelling.{spelling, most_spelled}
use Rattle.txn_log.specs.Gates.{open_gate}
use Rattle.log_recover.specs.Steps.{IsShut, IsShort, IsHead, BeginsSo, IsEntry, IsBroken, IsBody}
use Rattle.log_recover.specs.declared.step.Head.{Head}
use Rattle.log_recover.specs.declared.step.Head.TheVariants.{Shut, Length, Cut}
use Rattle.log_recover.proofs.Sizes.{spelled_few}

nil_cons : (x : ℕ) (xs : List ℕ) → [] ≡ x ∷ xs → ⊥
nil_cons x xs e = cc

pub cons_tail : (x y : ℕ) (xs ys : List ℕ) → x ∷ xs ≡ y ∷ ys → xs ≡ ys
cons_tail x y xs ys e = ap (λ (l : List ℕ). drop 1 l) e

pub cons_head : (x y : ℕ) (xs ys : List ℕ) → x ∷ xs ≡ y ∷ ys → x ≡ y
cons_head x y xs ys e = ap (λ (l : List ℕ). get_or l 0 0) e

-- a whole number and nothing more
pub number_whole : (rest after : List ℕ) (len : ℕ) → length rest ≤ 4 → IsBytes rest → number_at 4 rest ≡ Ok (len, after) → rest ≡ big_bytes 4 len
number_whole rest after len few small number =
    let read = u32_is_field.takes rest len after small number in
    let empty : after ≡ [] = nil_from_length after (omega (arith, few, ap length read.0.parts, length-append (big_bytes 4 len) after)) in
    read.0.parts ∙ ap (λ (l : List ℕ). big_bytes 4 len ++ l) empty ∙ append-nil (big_bytes 4 len)

-- no whole number
pub number_short : (rest : List ℕ) (e : FieldFault) → number_at 4 rest ≡ Err e → length rest < 4
number_short rest e number = let short = (guard_err (nat_lt (length rest) 4) Short e (big_number 4 rest, drop 4 rest) number).0 in ltb-true (length rest) 4 short

-- what some bytes begin with
abbrev BeginsTail : List ℕ → Head → Type 0
BeginsTail tail Shut = IsShut tail
BeginsTail tail (Length len) = tail ≡ open_gate ∷ (big_bytes 4 len ++ drop 5 tail)
BeginsTail tail Cut = IsBroken tail

-- a gate that isn't open
shut_at : (tail : List ℕ) → IsShut (take 5 tail) → IsShut tail
shut_at [] shut = shut
shut_at (g ∷ tail) shut = shut

open_not_shut : (rest bytes : List ℕ) → bytes ≡ open_gate ∷ rest → IsShut bytes → ⊥
open_not_shut rest [] is shut = shut
open_not_shut rest (g ∷ bytes) is shut = shut (cons_head _ _ _ _ is)

-- too few bytes for an entry
broken_short : (tail : List ℕ) → IsShort (take 5 tail) → IsBroken tail
broken_short [] short = record { not_shut = λ shut. shut; no_entry = λ r more entry. absurd (nil_cons _ _ entry.text) }
broken_short (g ∷ tail) short = record {
  not_shut = λ shut. shut short.0;
  no_entry = λ r more entry. absurd (omega (arith, short.1, ap length entry.text, length-take 4 tail));
}

-- what the first five bytes tell
begins_tail : (tail : List ℕ) (head : Head) → IsHead (take 5 tail) head → BeginsTail tail head
begins_tail tail Shut is = shut_at tail is
begins_tail tail (Length len) is = sym (take-append-drop 5 tail) ∙ ap (λ (l : List ℕ). l ++ drop 5 tail) is
begins_tail tail Cut is = broken_short tail is

begins_at : (bytes : List ℕ) (at : ℕ) (head : Head) → BeginsTail (drop at bytes) head → BeginsSo bytes at head
begins_at bytes at Shut is = is
begins_at bytes at (Length len) is = is ∙ ap (λ (l : List ℕ). open_gate ∷ (big_bytes 4 len ++ l)) (drop-drop 5 at bytes)
begins_at bytes at Cut is = is

pub begins_of : (bytes front : List ℕ) (at : ℕ) (head : Head) → front ≡ take 5 (drop at bytes) → IsHead front head → BeginsSo bytes at head
begins_of bytes front at head is begun = begins_at bytes at head (begins_tail (drop at bytes) head (subst (λ (l : List ℕ). IsHead l head) is begun))

-- what stands behind a length is fixed
pub entry_same : (tail rest : List ℕ) (len : ℕ) (r : Record) (more : List ℕ) → len < 2 ^ 32 → tail ≡ open_gate ∷ (big_bytes 4 len ++ rest) → IsEntry r tail more
    → (length (spelling r) ≡ len) × (rest ≡ spelling r ++ more)
entry_same tail rest len r more fit is entry =
    let n = length (spelling r) in
    let same : big_bytes 4 n ++ (spelling r ++ more) ≡ big_bytes 4 len ++ rest =
    sym (append_assoc (big_bytes 4 n) (spelling r) more) ∙ cons_tail _ _ _ _ (sym entry.text ∙ is) in
    let both = ok_is _ _ (sym (u32_is_field.again n (spelling r ++ more) (omega (arith, spelled_few r entry.fits))) ∙ ap (number_at 4) same ∙ u32_is_field.again len rest fit) in
    (ap (λ (p : ℕ × List ℕ). p.0) both, sym (ap (λ (p : ℕ × List ℕ). p.1) both))

module _ (tail rest : List ℕ) (len : ℕ) (fit : len < 2 ^ 32) (is : tail ≡ open_gate ∷ (big_bytes 4 len ++ rest)) where
  -- no record is so long
  pub broken_long : most_spelled < len → IsBroken tail
  broken_long long = record {
    not_shut = open_not_shut _ tail is;
    no_entry = λ r more entry. absurd (let same = entry_same tail rest len r more fit is entry in omega (arith, same.0, spelled_few r entry.fits, long));
  }

  -- the length passes the file
  pub broken_past : length rest < len → IsBroken tail
  broken_past past = record {
    not_shut = open_not_shut _ tail is;
    no_entry = λ r more entry. absurd (let same = entry_same tail rest len r more fit is entry in omega (arith, same.0, ap length same.1, length-append (spelling r) more, past));
  }

  -- no record stands there
  pub broken_body : (bytes : List ℕ) (at : ℕ) → drop at bytes ≡ rest → IsBody bytes at len None → IsBroken tail
  broken_body bytes at here none = record {
    not_shut = open_not_shut _ tail is;
    no_entry = λ r more entry. let same = entry_same tail rest len r more fit is entry in none r more entry.fits same.0 (here ∙ same.1);
  }

  -- a record stands there
  pub entry_of : (bytes : List ℕ) (at : ℕ) (r : Record) → drop at bytes ≡ rest → IsBody bytes at len (Some r) → IsEntry r tail (drop (at + len) bytes)
  entry_of bytes at r here body = record {
    fits = body.0;
    text = is ∙ ap (λ (l : List ℕ). open_gate ∷ l)
        (ap (λ (l : List ℕ). big_bytes 4 len ++ l) (sym here ∙ sym (take-append-drop len (drop at bytes)) ∙ ap (λ (l : List ℕ). l ++ drop len (drop at bytes)) body.2
        ∙ ap (λ (l : List ℕ). spelling r ++ l) (drop-drop len at bytes))
        ∙ ap (λ (n : ℕ). big_bytes 4 n ++ (spelling r ++ drop (at + len) bytes)) (sym body.1)
        ∙ sym (append_assoc (big_bytes 4 (length (spelling r))) (spelling r) (drop (at + len) bytes)));
  }
