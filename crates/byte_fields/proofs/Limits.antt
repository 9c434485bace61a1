-- Numbers up to a limit.
use Rattle.std.proofs.Common.{◌≡◌, ℕ, zero, suc, ◌+◌, ◌-◌, ◌*◌, ◌^◌, ◌<◌, ◌≤◌, inl, inr, Bool, true, false, ltb, List, [], ◌++◌, length, get_or, take, drop, Ok, Err, refl, sym, ap, subst, ◌∙◌, arith}
use Rattle.std.proofs.lemmas.Bool.{cases_lt, ltb-false, ltb-true, le-ltb}
use Rattle.std.proofs.lemmas.List.{append-nil, take-append-drop, take_all, drop_all, length-append, length-take, length-drop, get_or-take, get_or_append_left, get_or-append_right, get_or_past}
use Rattle.std.proofs.Math.Seq.{take-append-add}
use Rattle.std.proofs.Math.Nat.{mul-le-mul_right}
use Rattle.byteorder.specs.Endian.{big_bytes, big_number, big_from}
use Rattle.byteorder.specs.Numbers.{big_from-take, big_number-reads_back}
use Rattle.byte_fields.specs.declared.fault.FieldFault.{FieldFault}
use Rattle.byte_fields.specs.declared.fault.FieldFault.TheVariants.{Short, Kind}
use Rattle.byte_fields.specs.Faults.{left_of}
use Rattle.byte_fields.specs.Reading.{number_at, up_from, up_to_at}
use Rattle.byte_fields.specs.Laws.{IsField, Consumes, Halts, IsPrompt}
use Rattle.byte_fields.proofs.Fields.{guard_ok, u32_is_field}
use Rattle.byte_fields.proofs.Prompt.{zeros, zeros-get, length-zeros, IsBytes-zeros, guard_err, nil_from_take, number_is_prompt, number_long}

-- ---- the number that the first bytes begin

byte-take : (k i : ℕ) (xs : List ℕ) → get_or (take k xs) i 0 ≤ get_or xs i 0
byte-take k i xs =
    elim (cases_lt i k) [
      | inl lt ↦ let same = get_or-take k xs i 0 lt in omega (arith, same)
      | inr le ↦ let none = get_or_past (take k xs) i 0 (omega (arith, length-take k xs)) in omega (arith, none)
    ]

big_from-take-le : (i n k : ℕ) (xs : List ℕ) → big_from i n (take k xs) ≤ big_from i n xs
big_from-take-le i zero k xs = omega arith
big_from-take-le i (suc n) k xs =
    let front : get_or (take k xs) i 0 * 256 ^ n ≤ get_or xs i 0 * 256 ^ n = mul-le-mul_right (256 ^ n) (byte-take k i xs) in
    let others = big_from-take-le (suc i) n k xs in
    omega (arith, front, others)

big_from-same : (i n : ℕ) (xs ys : List ℕ) → ((k : ℕ) → get_or xs k 0 ≡ get_or ys k 0) → big_from i n xs ≡ big_from i n ys
big_from-same i zero xs ys h = refl
big_from-same i (suc n) xs ys h = rw (h i, big_from-same (suc i) n xs ys h) refl

filled-get : (xs : List ℕ) (n k : ℕ) → get_or (xs ++ zeros n) k 0 ≡ get_or xs k 0
filled-get xs n k =
    elim (cases_lt k (length xs)) [
      | inl lt ↦ get_or_append_left xs (zeros n) 0 k lt
      | inr le ↦ get_or-append_right xs (zeros n) (length xs) k 0 refl le ∙ zeros-get n (k - length xs) ∙ sym (get_or_past xs k 0 le)
    ]

-- zeros behind the bytes don't change the number that they begin
filled : (xs : List ℕ) (n : ℕ) → big_number 4 (xs ++ zeros n) ≡ big_number 4 xs
filled xs n = big_from-same 0 4 (xs ++ zeros n) xs (filled-get xs n)

number_value : (bytes : List ℕ) (x : ℕ) (rest : List ℕ) → number_at 4 bytes ≡ Ok (x, rest) → big_number 4 bytes ≡ x
number_value bytes x rest e =
    let g = guard_ok (ltb (length bytes) 4) Short (big_number 4 bytes, drop 4 bytes) (x, rest) e in
    ap (λ (p : ℕ × List ℕ). p.0) g.1

-- ---- below the limit and above it

below : (most n seen : ℕ) (bytes : List ℕ) → big_number 4 bytes ≤ most → up_from most n seen bytes ≡ number_at 4 bytes
unfolding up_from
below most zero seen bytes h = refl
below most (suc n) seen bytes h =
    let low : big_number 4 (take (seen + 1) bytes) ≤ most = omega (arith, big_from-take-le 0 4 (seen + 1) bytes, h) in
    let test : ltb most (big_number 4 (take (seen + 1) bytes)) ≡ false = le-ltb _ _ low in
    rw test (below most n (seen + 1) bytes h)

-- how many bytes don't pass the limit alone, where the next one does
record Passes (most n seen : ℕ) (bytes : List ℕ) : Type 0 where
  kept : ℕ
  few : kept < 4
  fault : up_from most n seen bytes ≡ Err (Kind (length bytes - kept))
  low : big_number 4 (take kept bytes) ≤ most
  high : most < big_number 4 (take (kept + 1) bytes)

above : (most n seen : ℕ) (bytes : List ℕ) → n + seen ≡ 4 → big_number 4 (take seen bytes) ≤ most → most < big_number 4 bytes → Passes most n seen bytes
unfolding up_from
above most zero seen bytes sum low high =
    let all : seen ≡ 4 = omega arith in
    let same : big_number 4 (take 4 bytes) ≡ big_number 4 bytes = big_from-take 0 4 4 bytes (omega arith) in
    let under : big_number 4 (take 4 bytes) ≤ most = subst (λ (k : ℕ). big_number 4 (take k bytes) ≤ most) all low in
    let most_under : big_number 4 bytes ≤ most = subst (λ (k : ℕ). k ≤ most) same under in
    absurd (omega (arith, most_under, high))
above most (suc n) seen bytes sum low high =
    let go : (b : Bool) → ltb most (big_number 4 (take (seen + 1) bytes)) ≡ b → Passes most (suc n) seen bytes
    = λ b. elim b as (λ v. ltb most (big_number 4 (take (seen + 1) bytes)) ≡ v → Passes most (suc n) seen bytes) [
      | true ↦ λ test. record { kept = seen; few = omega (arith, sum); fault = rw test refl; low = low; high = ltb-true _ _ test }
      | false ↦ λ test.
          let p = above most n (seen + 1) bytes (omega (arith, sum)) (ltb-false _ _ test) high in
          record { kept = p.kept; few = p.few; fault = rw test p.fault; low = p.low; high = p.high }
    ] in
    go (ltb most (big_number 4 (take (seen + 1) bytes))) refl

above_all : (most : ℕ) (bytes : List ℕ) → most < big_number 4 bytes → Passes most 4 0 bytes
above_all most bytes high = above most 4 0 bytes refl (omega arith) high

-- ---- the laws

up_value : (most : ℕ) (bytes : List ℕ) (x : ℕ) (rest : List ℕ) → up_to_at most bytes ≡ Ok (x, rest) → (number_at 4 bytes ≡ Ok (x, rest)) × (x ≤ most)
up_value most bytes x rest e =
    elim (cases_lt most (big_number 4 bytes)) [
      | inl high ↦ let p = above_all most bytes high in absurd (cc (p.fault, e))
      | inr low ↦
          let same = sym (below most 4 0 bytes low) ∙ e in
          (same, subst (λ (n : ℕ). n ≤ most) (number_value bytes x rest same) low)
    ]

pub up_is_field : (most : ℕ) → IsField (big_bytes 4) (λ n. (n < 2 ^ 32) × (n ≤ most)) (up_to_at most)
up_is_field most = record {
  takes = λ bytes x rest small e.
      let v = up_value most bytes x rest e in
      let t = u32_is_field.takes bytes x rest small v.0 in
      (t.0, (t.1, v.1));
  again = λ x rest h.
      let same : big_number 4 (big_bytes 4 x ++ rest) ≡ x = big_number-reads_back 4 x rest h.0 in
      below most 4 0 (big_bytes 4 x ++ rest) (subst (λ (n : ℕ). n ≤ most) (sym same) h.1) ∙ u32_is_field.again x rest h.0;
}

up_consumes : (most : ℕ) (bytes : List ℕ) (x : ℕ) (rest : List ℕ) → up_to_at most bytes ≡ Ok (x, rest) → Consumes (up_to_at most) bytes x rest
up_consumes most bytes x rest e =
    let v = up_value most bytes x rest e in
    let c = (number_is_prompt 4).consumes bytes x rest v.0 in
    record {
      front = c.front;
      parts = c.parts;
      same = λ other.
          let number = number_value (c.front ++ other) x other (c.same other) in
          below most 4 0 (c.front ++ other) (subst (λ (n : ℕ). n ≤ most) (sym number) v.1) ∙ c.same other;
    }

-- four bytes that begin with these and end in zeros
up_filled : (most : ℕ) (front : List ℕ) → length front < 4 → big_number 4 front ≤ most
    → up_to_at most (front ++ zeros (4 - length front)) ≡ Ok (big_number 4 (front ++ zeros (4 - length front)), [])
up_filled most front few low =
    let bytes : List ℕ = front ++ zeros (4 - length front) in
    let len : length bytes ≡ 4 = omega (arith, length-append front (zeros (4 - length front)), length-zeros (4 - length front)) in
    below most 4 0 bytes (subst (λ (n : ℕ). n ≤ most) (sym (filled front (4 - length front))) low)
    ∙ number_long 4 bytes (omega (arith, len)) ∙ rw (drop_all 4 bytes (omega (arith, len))) refl

up_short : (most : ℕ) (bytes : List ℕ) (e : FieldFault) → big_number 4 bytes ≤ most → up_to_at most bytes ≡ Err e → Halts (up_to_at most) bytes (left_of e)
up_short most bytes e low h =
    let g = guard_err (ltb (length bytes) 4) Short e (big_number 4 bytes, drop 4 bytes) (sym (below most 4 0 bytes low) ∙ h) in
    record {
      front = bytes;
      behind = [];
      parts = sym (append-nil bytes);
      there = ap left_of g.1;
      more = zeros (4 - length bytes);
      small = IsBytes-zeros (4 - length bytes);
      made = big_number 4 (bytes ++ zeros (4 - length bytes));
      begun = up_filled most bytes (ltb-true _ _ g.0) low;
      never = λ other same. (e, ap (λ (w : List ℕ). up_to_at most (bytes ++ w)) (nil_from_take other same) ∙ ap (up_to_at most) (append-nil bytes) ∙ h);
    }

up_over : (most : ℕ) (bytes : List ℕ) (e : FieldFault) → most < big_number 4 bytes → up_to_at most bytes ≡ Err e → Halts (up_to_at most) bytes (left_of e)
up_over most bytes e high h =
    let p = above_all most bytes high in
    let is : Kind (length bytes - p.kept) ≡ e = cc (p.fault, h) in
    let front : List ℕ = take p.kept bytes in
    let behind : List ℕ = drop p.kept bytes in
    let inside : p.kept < length bytes = elim (cases_lt p.kept (length bytes)) [
      | inl lt ↦ lt
      | inr le ↦
          let all = take_all p.kept bytes le in
          let next = take_all (p.kept + 1) bytes (omega (arith, le)) in
          let low = subst (λ (w : List ℕ). big_number 4 w ≤ most) all p.low in
          let over = subst (λ (w : List ℕ). most < big_number 4 w) next p.high in
          absurd (omega (arith, low, over))
    ] in
    let len : length front ≡ p.kept = omega (arith, length-take p.kept bytes) in
    let begun = up_filled most front (omega (arith, len, p.few)) p.low in
    record {
      front = front;
      behind = behind;
      parts = sym (take-append-drop p.kept bytes);
      there = length-drop p.kept bytes ∙ ap left_of is;
      more = zeros (4 - length front);
      small = IsBytes-zeros (4 - length front);
      made = big_number 4 (front ++ zeros (4 - length front));
      begun = begun;
      never = λ other same.
          let seen : take (p.kept + 1) (front ++ other) ≡ take (p.kept + 1) bytes
          = subst (λ (k : ℕ). take (k + 1) (front ++ other) ≡ take (k + 1) bytes) len
          (take-append-add front other 1 ∙ ap (λ (w : List ℕ). front ++ w) same ∙ sym (take-append-add front behind 1) ∙ ap (take (length front + 1)) (take-append-drop p.kept bytes)) in
          let over : most < big_number 4 (take (p.kept + 1) (front ++ other)) = subst (λ (w : List ℕ). most < big_number 4 w) (sym seen) p.high in
          let q = above_all most (front ++ other) (omega (arith, over, big_from-take-le 0 4 (p.kept + 1) (front ++ other))) in
          (Kind (length (front ++ other) - q.kept), q.fault);
    }

pub up_is_prompt : (most : ℕ) → IsPrompt (up_to_at most)
up_is_prompt most = record {
  consumes = up_consumes most;
  halts = λ bytes e h.
      elim (cases_lt most (big_number 4 bytes)) [
        | inl high ↦ up_over most bytes e high h
        | inr low ↦ up_short most bytes e low h
      ];
  field =
      let empty : List ℕ = [] in
      record { bytes = zeros 4; value = big_number 4 (zeros 4); small = IsBytes-zeros 4; read_so = up_filled most empty (omega arith) (omega arith) };
}
