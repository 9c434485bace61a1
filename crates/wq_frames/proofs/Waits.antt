-- Where a feeder waits.
use Rattle.std.proofs.Common.{◌≡◌, ◌≤◌, ◌<◌, ◌+◌, ◌-◌, ℕ, Bool, true, false, ltb, List, [], ◌++◌, length, drop, Ok, refl, sym, ap, ◌∙◌, append_assoc, ◌⊎◌, inl, inr, arith}
use Rattle.std.proofs.lemmas.Bool.{cases_lt, ltb-true, ltb-false, lt-ltb, le-ltb}
use Rattle.std.proofs.lemmas.List.{length-append, length-drop, append-nil, nil_from_length}
use Rattle.byteorder.specs.Endian.{big_bytes, big_number}
use Rattle.byteorder.specs.Numbers.{big_from-append, big_number-reads_back, big_from-lt}
use Rattle.byte_fields.specs.Laws.{IsBytes}
use Rattle.byte_fields.specs.Reading.{number_at}
use Rattle.byte_fields.proofs.Fields.{u32_is_field}
use Rattle.byte_fields.proofs.Prompt.{IsBytes-append, zeros, length-zeros, IsBytes-zeros}
use Rattle.wq_messages.specs.Spelling.{most_body}
use Rattle.wq_frames.specs.Frames.{part, front, front_by}
use Rattle.wq_frames.specs.Fronts.{IsBegun, HasNoLongLength, WaitsForTheRest}

-- a whole head of some bytes is that of a frame whose body has that many bytes
head : (bytes : List ℕ) → IsBytes bytes → 4 ≤ length bytes → bytes ≡ big_bytes 4 (big_number 4 bytes) ++ drop 4 bytes
head bytes small four =
    let long : ltb (length bytes) 4 ≡ false = le-ltb _ _ four in
    let read : number_at 4 bytes ≡ Ok (big_number 4 bytes, drop 4 bytes) = rw long refl in
    (u32_is_field.takes bytes (big_number 4 bytes) (drop 4 bytes) small read).0.parts

-- what is missing of a frame whose head is there
begun_long : (bytes : List ℕ) → IsBytes bytes → 4 ≤ length bytes → length bytes < big_number 4 bytes + 4 → IsBegun bytes
begun_long bytes small four short =
    let n = big_number 4 bytes in
    let missing : List ℕ = zeros (n + 4 - length bytes) in
    let body : List ℕ = drop 4 bytes ++ missing in
    let len : length body ≡ n = omega (arith, four, short, length-append (drop 4 bytes) missing, length-drop 4 bytes, length-zeros (n + 4 - length bytes)) in
    record {
      body = body;
      short = omega (arith, len, big_from-lt 0 4 bytes small);
      missing = missing;
      some = omega (arith, short, length-zeros (n + 4 - length bytes));
      parts = ap (λ (w : List ℕ). w ++ missing) (head bytes small four) ∙ append_assoc (big_bytes 4 n) (drop 4 bytes) missing ∙ ap (λ (k : ℕ). big_bytes 4 k ++ body) (sym len);
    }

-- fewer bytes than a head: with zeros behind them they are one
begun_short : (bytes : List ℕ) → IsBytes bytes → length bytes < 4 → IsBegun bytes
begun_short bytes small few =
    let filled : List ℕ = zeros (4 - length bytes) in
    let all : List ℕ = bytes ++ filled in
    let n = big_number 4 all in
    let len : length all ≡ 4 = omega (arith, few, length-append bytes filled, length-zeros (4 - length bytes)) in
    let fits : IsBytes all = IsBytes-append bytes filled small (IsBytes-zeros (4 - length bytes)) in
    let none : drop 4 all ≡ [] = nil_from_length (drop 4 all) (omega (arith, len, length-drop 4 all)) in
    let is : all ≡ big_bytes 4 n = head all fits (omega (arith, len)) ∙ ap (λ (w : List ℕ). big_bytes 4 n ++ w) none ∙ append-nil (big_bytes 4 n) in
    record {
      body = zeros n;
      short = omega (arith, length-zeros n, big_from-lt 0 4 all fits);
      missing = filled ++ zeros n;
      some = omega (arith, few, length-append filled (zeros n), length-zeros (4 - length bytes));
      parts = sym (append_assoc bytes filled (zeros n)) ∙ ap (λ (w : List ℕ). w ++ zeros n) is ∙ ap (λ (k : ℕ). big_bytes 4 k ++ zeros n) (sym (length-zeros n));
    }

-- what is known of a front that is less than a frame
part_is : (b1 b2 b3 : Bool) (n : ℕ) (behind : List ℕ) → front_by b1 b2 b3 n behind ≡ part → (b1 ≡ true) ⊎ ((b1 ≡ false) × (b2 ≡ false) × (b3 ≡ true))
part_is true b2 b3 n behind e = inl refl
part_is false true b3 n behind e = absurd cc
part_is false false true n behind e = inr (refl, refl, refl)
part_is false false false n behind e = absurd cc

is_begun : (bytes : List ℕ) → IsBytes bytes → front bytes ≡ part → IsBegun bytes × HasNoLongLength bytes
is_begun bytes small e =
    elim (part_is (ltb (length bytes) 4) (ltb most_body (big_number 4 bytes)) (ltb (length bytes) (big_number 4 bytes + 4)) (big_number 4 bytes) (drop 4 bytes) e) [
      | inl few ↦ (begun_short bytes small (ltb-true _ _ few), λ four. absurd (omega (arith, four, ltb-true _ _ few)))
      | inr h ↦ (begun_long bytes small (ltb-false _ _ h.0) (ltb-true _ _ h.2), λ four. ltb-false _ _ h.1)
    ]

waits_short : (bytes : List ℕ) → length bytes < 4 → front bytes ≡ part
waits_short bytes few =
    ap (λ (b : Bool). front_by b (ltb most_body (big_number 4 bytes)) (ltb (length bytes) (big_number 4 bytes + 4)) (big_number 4 bytes) (drop 4 bytes)) (lt-ltb _ _ few)

waits_long : (bytes : List ℕ) → 4 ≤ length bytes → IsBegun bytes → big_number 4 bytes ≤ most_body → front bytes ≡ part
waits_long bytes four h low =
    let n = big_number 4 bytes in
    let number : n ≡ length h.body =
    sym (big_from-append 4 bytes h.missing four) ∙ ap (big_number 4) h.parts ∙ big_number-reads_back 4 (length h.body) h.body h.short in
    let len : length bytes + length h.missing ≡ 4 + length h.body =
    sym (length-append bytes h.missing) ∙ ap (λ (w : List ℕ). length w) h.parts ∙ length-append (big_bytes 4 (length h.body)) h.body in
    let short : length bytes < n + 4 = omega (arith, number, len, h.some) in
    ap (λ (b : Bool). front_by b (ltb most_body n) (ltb (length bytes) (n + 4)) n (drop 4 bytes)) (le-ltb _ _ four)
    ∙ ap (λ (b : Bool). front_by false b (ltb (length bytes) (n + 4)) n (drop 4 bytes)) (le-ltb _ _ low)
    ∙ ap (λ (b : Bool). front_by false false b n (drop 4 bytes)) (lt-ltb _ _ short)

waits_begun : (bytes : List ℕ) → IsBegun bytes × HasNoLongLength bytes → front bytes ≡ part
waits_begun bytes h =
    elim (cases_lt (length bytes) 4) [
      | inl few ↦ waits_short bytes few
      | inr four ↦ waits_long bytes four h.0 (h.1 four)
    ]

pub waits_for_the_rest : WaitsForTheRest
waits_for_the_rest bytes small = (is_begun bytes small, waits_begun bytes)
