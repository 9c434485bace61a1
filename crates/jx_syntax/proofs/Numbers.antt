-- What is written for a number is read as that number.
use Rattle.std.proofs.Common.{◌≡◌, ℕ, suc, ◌+◌, ◌-◌, ◌*◌, ◌/◌, ◌%◌, ◌^◌, ◌<◌, ◌≤◌, true, false, cond, ◌==◌, nat_lt, List, [], ◌∷◌, ◌++◌, length, take, drop, get_or, Ok, ◌⊎◌, inl, inr, refl, sym, ap, subst, ◌∙◌, arith}
use Rattle.std.proofs.lemmas.Bool.{le-ltb}
use Rattle.std.proofs.lemmas.Bool.Decides.{nat_tests}
use Rattle.std.proofs.lemmas.List.{length-append}
use Rattle.std.proofs.Math.Seq.{take-append_seam, drop-append_seam}
use Rattle.std.proofs.lemmas.List.Sums.{fold-append}
use Rattle.std.proofs.lemmas.Fmt.{decimal_by_steps_wide, IsAscii-decimal, length-decimal-le}
use Rattle.std.proofs.lemmas.Str.{IsUtf8-from_ascii, is_utf8-from_IsUtf8}
use Rattle.std.specs.Prelude.{decimal}
use Rattle.std.specs.Char.{is_ascii_digit}
use Rattle.std.specs.List.{prefix_len}
use Rattle.std.specs.Str.{is_utf8}
use Rattle.jx_tokens.specs.declared.token.Kind.TheVariants as kind
use Rattle.jx_tokens.specs.declared.token.Piece.TheVariants as piece
use Rattle.jx_tokens.specs.Tokens.{Scan, scan, scan_of, onto, front, number, decimal_value, goes_on_as_float, tokens_of}
use Rattle.jx_tokens.specs.Tokens as spec
use Rattle.jx_syntax.proofs.Scans.{one_token}
use Rattle.jx_tokens.specs.Bytes.{in_name}

abbrev AllDigits : List ℕ → Type 0
AllDigits [] = Unit {0}
AllDigits (x ∷ xs) = (is_ascii_digit x ≡ true) × AllDigits xs

all_digits-append : (xs ys : List ℕ) → AllDigits xs → AllDigits ys → AllDigits (xs ++ ys)
all_digits-append [] ys a b = b
all_digits-append (x ∷ xs) ys a b = (a.0, all_digits-append xs ys a.1 b)

-- what stands behind a value in a text: nothing, a comma, or what closes a list or an object
abbrev pub IsEnd : List ℕ → Type 0
IsEnd [] = Unit {0}
IsEnd (b ∷ bs) = (b ≡ 44) ⊎ ((b ≡ 93) ⊎ (b ≡ 125))

-- it goes on with no number and no name
pub record GoesOnWithNone (rest : List ℕ) : Type 0 where
  pub digits : prefix_len is_ascii_digit rest ≡ 0
  pub float : goes_on_as_float rest ≡ false
  pub letters : prefix_len in_name rest ≡ 0

at_comma : (bs : List ℕ) → GoesOnWithNone (44 ∷ bs)
at_comma bs = record { digits = refl; float = refl; letters = refl }

at_bracket : (bs : List ℕ) → GoesOnWithNone (93 ∷ bs)
at_bracket bs = record { digits = refl; float = refl; letters = refl }

at_brace : (bs : List ℕ) → GoesOnWithNone (125 ∷ bs)
at_brace bs = record { digits = refl; float = refl; letters = refl }

pub goes_on_with_none : (rest : List ℕ) → IsEnd rest → GoesOnWithNone rest
goes_on_with_none [] h = record { digits = refl; float = refl; letters = refl }
goes_on_with_none (b ∷ bs) (inl e) = subst (λ (n : ℕ). GoesOnWithNone (n ∷ bs)) (sym e) (at_comma bs)
goes_on_with_none (b ∷ bs) (inr (inl e)) = subst (λ (n : ℕ). GoesOnWithNone (n ∷ bs)) (sym e) (at_bracket bs)
goes_on_with_none (b ∷ bs) (inr (inr e)) = subst (λ (n : ℕ). GoesOnWithNone (n ∷ bs)) (sym e) (at_brace bs)

prefix_len-digits : (xs rest : List ℕ) → AllDigits xs → prefix_len is_ascii_digit rest ≡ 0 → prefix_len is_ascii_digit (xs ++ rest) ≡ length xs
prefix_len-digits [] rest h e = e
prefix_len-digits (x ∷ xs) rest h e =
    let n : 1 + length xs ≡ suc (length xs) = omega arith in
    ap (λ b. cond b (1 + prefix_len is_ascii_digit (xs ++ rest)) 0) h.0 ∙ ap (λ n. 1 + n) (prefix_len-digits xs rest h.1 e) ∙ n

digit_at_first : (xs rest : List ℕ) → AllDigits xs → 0 < length xs → is_ascii_digit (get_or (xs ++ rest) 0 0) ≡ true
digit_at_first [] rest h lt = absurd (omega arith)
digit_at_first (x ∷ xs) rest h lt = h.0

record Writes (n : ℕ) (ds : List ℕ) : Type 0 where
  value : decimal_value ds ≡ n
  digits : AllDigits ds
  some : 0 < length ds

digit_is : (n : ℕ) → n < 10 → is_ascii_digit (48 + n) ≡ true
digit_is n lt = grind (arith, nat_tests)

one_digit : (n : ℕ) → n < 10 → Writes n ((48 + n) ∷ [])
one_digit n lt = record { value = omega arith; digits = (digit_is n lt, tt); some = omega arith }

more_digits : (n : ℕ) (ds : List ℕ) → 10 ≤ n → Writes (n / 10) ds → Writes n (ds ++ ((48 + n % 10) ∷ []))
more_digits n ds le h =
    let last : n % 10 < 10 = omega arith in
    let v : decimal_value ds ≡ n / 10 = h.value in
    let sum : decimal_value ds * 10 + (48 + n % 10 - 48) ≡ n = omega arith in
    record {
      value = fold-append (λ m d. m * 10 + (d - 48)) 0 ds ((48 + n % 10) ∷ []) ∙ sum;
      digits = all_digits-append ds ((48 + n % 10) ∷ []) h.digits (digit_is (n % 10) last, tt);
      some = omega (arith, length-append ds ((48 + n % 10) ∷ []));
    }

number_reads : (n at : ℕ) (ds rest : List ℕ) → n ≤ 2 ^ 63 → Writes n ds → GoesOnWithNone rest → number at (ds ++ rest) ≡ Ok (piece.Token (kind.Number n) (length ds))
unfolding number
number_reads n at ds rest le h ends =
    let all = prefix_len-digits ds rest h.digits ends.digits in
    let behind : drop (length ds) (ds ++ rest) ≡ rest = drop-append_seam ds rest in
    let whole : take (length ds) (ds ++ rest) ≡ ds = take-append_seam ds rest in
    let float = ends.float in
    let small : nat_lt 9223372036854775808 n ≡ false = le-ltb 9223372036854775808 n le in
    rw (all, behind, float, whole, h.value, small) refl

front_reads : (n at : ℕ) (ds rest : List ℕ) → n ≤ 2 ^ 63 → Writes n ds → GoesOnWithNone rest → front at (ds ++ rest) ≡ Ok (piece.Token (kind.Number n) (length ds))
unfolding front
front_reads n at ds rest le h ends =
    let b = get_or (ds ++ rest) 0 0 in
    let digit : is_ascii_digit b ≡ true = digit_at_first ds rest h.digits h.some in
    let a1 : (b == 32) ≡ false = grind (arith, nat_tests) in
    let a2 : (b == 9) ≡ false = grind (arith, nat_tests) in
    let a3 : (b == 13) ≡ false = grind (arith, nat_tests) in
    let a4 : (b == 10) ≡ false = grind (arith, nat_tests) in
    let a5 : (b == 35) ≡ false = grind (arith, nat_tests) in
    rw (a1, a2, a3, a4, a5, digit) (number_reads n at ds rest le h ends)

decimal_writes : (n : ℕ) → n ≤ 2 ^ 63 → Writes n (decimal n)
decimal_writes n le = decimal_by_steps_wide Writes one_digit more_digits n (omega arith)

pub decimal_some : (n : ℕ) → n ≤ 2 ^ 63 → 0 < length (decimal n)
decimal_some n le = (decimal_writes n le).some

-- a number in decimal stands in front, where no digit and no letter follows
pub decimal_front : (n at : ℕ) (rest : List ℕ) → n ≤ 2 ^ 63 → IsEnd rest → front at (decimal n ++ rest) ≡ Ok (piece.Token (kind.Number n) (length (decimal n)))
decimal_front n at rest le h = front_reads n at (decimal n) rest le (decimal_writes n le) (goes_on_with_none rest h)

-- the text of a number is one token, which is that number
pub numbers-read_back : (n : ℕ) → n ≤ 2 ^ 63 → tokens_of (decimal n) ≡ Ok (record { place = 0; kind = kind.Number n } ∷ [])
unfolding scan_of
numbers-read_back n le =
    let d = decimal n in
    let fits : n < 2 ^ 64 = omega arith in
    let short : length d ≤ 20 = length-decimal-le 20 n (omega arith) (omega arith) fits in
    let good : is_utf8 d ≡ true = is_utf8-from_IsUtf8 d (IsUtf8-from_ascii d (IsAscii-decimal n fits)) in
    let small : nat_lt 16777216 (length d) ≡ false = le-ltb 16777216 (length d) (omega arith) in
    rw (small, good) (ap (λ (s : Scan). spec.result_of s.tokens s.fault) (one_token d (kind.Number n) (decimal_some n le) (decimal_front n 0 [] le tt)))
