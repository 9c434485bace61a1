-- One message that goes out in parts.
use Rattle.std.proofs.Common.{◌≡◌, ◌≤◌, ◌<◌, ◌+◌, ℕ, zero, suc, List, [], ◌∷◌, ◌++◌, length, get_or, take, drop, Result, Ok, Err, inl, inr, refl, sym, ap, ◌∙◌, subst, append_assoc, append-nil, arith}
use Rattle.std.specs.Prelude.{flat_map}
use Rattle.std.specs.List.{AllByRecursion}
use Rattle.std.proofs.lemmas.Bool.{le-leb}
use Rattle.std.proofs.lemmas.List.{length-append, take-append-drop}
use Rattle.byteorder.specs.Endian.{big_bytes}
use Rattle.byte_fields.specs.Spelling.{counted, rows}
use Rattle.flow_types.specs.declared.job.Failure.{Failure}
use Rattle.flow_types.specs.declared.job.Job.{Job}
use Rattle.flow_types.specs.declared.job.Outcome.TheVariants as outcomes
use Rattle.flow_types.specs.declared.messages.Message.{Message}
use Rattle.flow_types.specs.declared.messages.Message.TheVariants as messages
use Rattle.flow_types.specs.declared.numbers.AttemptNo.{AttemptNo}
use Rattle.flow_types.specs.Serial.{Function}
use Rattle.links.specs.declared.passing.Passed.{Passed}
use Rattle.links.specs.declared.passing.Passed.TheVariants.{Sent}
use Rattle.links.specs.Passings.{Transmits, received_in, sent_in}
use Rattle.links.specs.Honesty.{IsHonestSoFar}
use Rattle.links.specs.Peers.{IsRight}
use Rattle.links.proofs.Honesties.{honest_so_far, right_said}
use Rattle.message_forms.proofs.Parses.{frames_append}
use Rattle.message_forms.specs.Streams.{IsFramed, framed, frames_of}
use Rattle.outside.specs.declared.fault.Fault.{Fault}
use Rattle.wq_messages.specs.Spelling.{IsContent, most_outputs, spelling}
use Rattle.peer_run.specs.Says.{CanBeTold}
use Rattle.peer_run.proofs.Sizes.{done_len, len}
use Rattle.foreman_run.specs.Says.{IsSaying, IsSayingBy, SaysOne, result_head}

-- ---- parts

module _ (gives : Function) (may_fail : Job → Failure → Type 0) (first : List Passed) (whole : List ℕ) where
  -- Of the whole, all is left.
  pub saying_first : (left : List ℕ) → sent_in first ++ left ≡ whole → IsSaying gives may_fail first whole left first
  saying_first left all = record { received = refl; begun = all; honest = λ ms right are honest. honest }

  -- Some bytes went out that were next.
  sent_some : (bytes rest : List ℕ) (old : List Passed) → IsSaying gives may_fail first whole (bytes ++ rest) old → IsSaying gives may_fail first whole rest (Sent bytes ∷ old)
  sent_some bytes rest old s =
      let all : (sent_in old ++ bytes) ++ rest ≡ whole = append_assoc (sent_in old) bytes rest ∙ s.begun in
      record {
        received = s.received;
        begun = all;
        honest = λ ms right are honest.
            (subst (λ (down : List ℕ). IsHonestSoFar gives may_fail down (sent_in old ++ bytes)) (sym s.received) (honest_so_far gives may_fail (received_in first) (sent_in old ++ bytes) rest ms right (all ∙ sym are)), s.honest ms right are honest);
      }

  -- the same, whatever is left
  pub saying_as : (left other : List ℕ) (h : List Passed) → left ≡ other → IsSaying gives may_fail first whole left h → IsSaying gives may_fail first whole other h
  saying_as left other h is s = subst (λ (l : List ℕ). IsSaying gives may_fail first whole l h) is s

  -- What a call of send makes of it.
  pub says_some : (r : Result (Unit {0}) Fault) (bytes rest : List ℕ) (old new : List Passed) → Transmits r bytes old new → IsSaying gives may_fail first whole (bytes ++ rest) old
      → IsSayingBy gives may_fail first whole (λ x. rest) new r
  says_some (Ok x) bytes rest old new is s = subst (IsSaying gives may_fail first whole rest) (sym is) (sent_some bytes rest old s)
  says_some (Err fault) bytes rest old new (inl is) s = (bytes ++ rest, subst (IsSaying gives may_fail first whole (bytes ++ rest)) (sym is) s)
  says_some (Err fault) bytes rest old new (inr (n, is)) s =
      let left = drop n bytes ++ rest in
      let split : bytes ++ rest ≡ take n bytes ++ left = ap (λ (b : List ℕ). b ++ rest) (sym (take-append-drop n bytes)) ∙ append_assoc (take n bytes) (drop n bytes) rest in
      (left, subst (IsSaying gives may_fail first whole left) (sym is) (sent_some (take n bytes) left old (saying_as (bytes ++ rest) (take n bytes ++ left) old split s)))

  -- A piece goes out with a content's length behind it, and the content is to be next.
  pub piece_out : (r : Result (Unit {0}) Fault) (piece new bytes content rest : List ℕ) (old h : List Passed) → new ≡ piece ++ big_bytes 4 (length content) → bytes ≡ new → Transmits r bytes old h
      → IsSaying gives may_fail first whole (piece ++ (counted content ++ rest)) old → IsSayingBy gives may_fail first whole (λ x. content ++ rest) h r
  piece_out r piece new bytes content rest old h longer is sends s =
      let n : List ℕ = big_bytes 4 (length content) in
      let same : piece ++ (counted content ++ rest) ≡ bytes ++ (content ++ rest) =
      ap (λ (w : List ℕ). piece ++ w) (append_assoc n content rest) ∙ sym (append_assoc piece n (content ++ rest)) ∙ ap (λ (w : List ℕ). w ++ (content ++ rest)) (sym (is ∙ longer)) in
      says_some r bytes (content ++ rest) old h sends (saying_as (piece ++ (counted content ++ rest)) (bytes ++ (content ++ rest)) old same s)

  -- The next content is at the front of what is left.
  pub next_content : (piece content : List ℕ) (left others : List (List ℕ)) (h : List Passed) → left ≡ content ∷ others → IsSaying gives may_fail first whole (piece ++ flat_map counted left) h
      → IsSaying gives may_fail first whole (piece ++ (counted content ++ flat_map counted others)) h
  next_content piece content left others h steps s =
      saying_as (piece ++ flat_map counted left) (piece ++ (counted content ++ flat_map counted others)) h (ap (λ (l : List (List ℕ)). piece ++ flat_map counted l) steps) s

  -- More stands behind the piece that waits.
  pub behind_piece : (old new more rest : List ℕ) (h : List Passed) → new ≡ old ++ more → IsSaying gives may_fail first whole (old ++ (more ++ rest)) h → IsSaying gives may_fail first whole (new ++ rest) h
  behind_piece old new more rest h is s = saying_as (old ++ (more ++ rest)) (new ++ rest) h (sym (append_assoc old more rest) ∙ ap (λ (b : List ℕ). b ++ rest) (sym is)) s

-- ---- one message

-- A message whose frame went out in parts was said.
pub says_one : (gives : Function) (may_fail : Job → Failure → Type 0) (tells : Type 0) (m : Message) (old new : List Passed) (r : Result (Unit {0}) Fault) → (tells → IsFramed m)
    → (tells → IsSayingBy gives may_fail old (sent_in old ++ framed m) (λ x. []) new r) → SaysOne gives may_fail tells m old new r
says_one gives may_fail tells m old new (Ok x) fits saying = record {
  said = λ said t link may.
      let s = saying t in
      let right = right_said gives may_fail (received_in old) said m link.right (fits t) may in
      let are : frames_of (said ++ m ∷ []) ≡ sent_in old ++ framed m =
      frames_append said (m ∷ []) ∙ ap (λ (w : List ℕ). frames_of said ++ w) (append-nil (framed m)) ∙ ap (λ (w : List ℕ). w ++ framed m) (sym link.are_sent) in
      record {
        right = subst (λ (down : List ℕ). IsRight gives may_fail down (said ++ m ∷ [])) (sym s.received) right;
        are_sent = sym (append-nil (sent_in new)) ∙ s.begun ∙ sym are;
        honest = s.honest (said ++ m ∷ []) right are link.honest;
      };
  sent = λ t. let s = saying t in (s.received, sym (append-nil (sent_in new)) ∙ s.begun ∙ ap (λ (w : List ℕ). sent_in old ++ w) (sym (append-nil (framed m))));
}
says_one gives may_fail tells m old new (Err fault) fits saying = record {
  said = λ said t link may.
      let s = (saying t).1 in
      let right = right_said gives may_fail (received_in old) said m link.right (fits t) may in
      let are : frames_of (said ++ m ∷ []) ≡ sent_in old ++ framed m =
      frames_append said (m ∷ []) ∙ ap (λ (w : List ℕ). frames_of said ++ w) (append-nil (framed m)) ∙ ap (λ (w : List ℕ). w ++ framed m) (sym link.are_sent) in
      s.honest (said ++ m ∷ []) right are link.honest;
  sent = λ t. let s = (saying t).1 in (s.received, ((saying t).0, s.begun ∙ ap (λ (w : List ℕ). sent_in old ++ w) (sym (append-nil (framed m)))));
}

-- ---- a success

contents_fit : (contents : List (List ℕ)) → length (flat_map counted contents) < 4294967296 → AllByRecursion IsContent contents
contents_fit [] short = tt
contents_fit (c ∷ cs) short =
    let all = length-append (counted c) (flat_map counted cs) in
    let one = length-append (big_bytes 4 (length c)) c in
    (omega (arith, short, all, one), contents_fit cs (omega (arith, short, all)))

-- what is left is no longer
pub others_short : (content : List ℕ) (left others : List (List ℕ)) (most : ℕ) → left ≡ content ∷ others → length (flat_map counted left) ≤ most → length (flat_map counted others) ≤ most
others_short content left others most steps short =
    let all : length (flat_map counted (content ∷ others)) ≤ most = subst (λ (l : List (List ℕ)). length (flat_map counted l) ≤ most) steps short in
    omega (arith, all, length-append (counted content) (flat_map counted others))

-- one content more is within all of them
pub counted_more : (contents : List (List ℕ)) (i : ℕ) (d : List ℕ) → i < length contents → length (flat_map counted (take i contents)) + (4 + length (get_or contents i d)) ≤ length (flat_map counted contents)
counted_more [] i d lt = absurd (let h : ⊥ = omega (arith, lt) in h)
counted_more (c ∷ cs) zero d lt = omega (arith, length-append (counted c) (flat_map counted cs), length-append (big_bytes 4 (length c)) c, len 4 (length c))
counted_more (c ∷ cs) (suc i) d lt =
    omega (arith, length-append (counted c) (flat_map counted (take i cs)), length-append (counted c) (flat_map counted cs), counted_more cs i d (omega (arith, lt)))

pub result_len : (attempt : AttemptNo) (contents : List (List ℕ)) → length (spelling (messages.Done attempt (outcomes.Success contents))) ≡ 14 + length (flat_map counted contents)
result_len attempt contents =
    omega (arith, done_len attempt (outcomes.Success contents), length-append (big_bytes 1 0) (rows counted contents), length-append (big_bytes 4 (length contents)) (flat_map counted contents), len 1 0, len 4 (length contents))

pub result_framed : (attempt : AttemptNo) (contents : List (List ℕ)) → attempt.0 < 18446744073709551616 → CanBeTold (messages.Done attempt (outcomes.Success contents)) → IsFramed (messages.Done attempt (outcomes.Success contents))
result_framed attempt contents small told =
    let size = result_len attempt contents in
    let few : length contents ≤ most_outputs = told.0 in
    ((small, ((omega (arith, few), le-leb (length contents) most_outputs few), contents_fit contents (omega (arith, told.1, size)))), told.1)

pub result_whole : (attempt : AttemptNo) (contents : List (List ℕ)) → result_head attempt (length contents) (length (flat_map counted contents)) ++ flat_map counted contents ≡ framed (messages.Done attempt (outcomes.Success contents))
result_whole attempt contents =
    let all = flat_map counted contents in
    let a = big_bytes 1 4 in
    let b = big_bytes 8 attempt.0 in
    let c = big_bytes 1 0 in
    let d = big_bytes 4 (length contents) in
    let body : (a ++ (b ++ (c ++ d))) ++ all ≡ spelling (messages.Done attempt (outcomes.Success contents)) =
    append_assoc a (b ++ (c ++ d)) all ∙ ap (λ (w : List ℕ). a ++ w) (append_assoc b (c ++ d) all ∙ ap (λ (w : List ℕ). b ++ w) (append_assoc c d all)) in
    append_assoc (big_bytes 4 (14 + length all)) (a ++ (b ++ (c ++ d))) all
    ∙ ap (λ (n : ℕ). big_bytes 4 n ++ ((a ++ (b ++ (c ++ d))) ++ all)) (sym (result_len attempt contents))
    ∙ ap (λ (w : List ℕ). big_bytes 4 (length (spelling (messages.Done attempt (outcomes.Success contents)))) ++ w) body
