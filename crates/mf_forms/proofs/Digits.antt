-- The library's words for decimal digits are ours, and what its reading of them says.
use Rattle.std.proofs.Common.{◌≡◌, ℕ, zero, suc, ◌+◌, ◌-◌, ◌*◌, ◌^◌, ◌<◌, ◌≤◌, true, false, cond, ltb, leb, eqb, List, length, Some, None, Result, Ok, Err, refl, sym, ap, subst, ◌∙◌, lit≤, arith, rules}
use Rattle.std.proofs.lemmas.Bool.{lt-ltb, le-leb, lt-leb, eqb-false}
use Rattle.std.proofs.lemmas.Str.Parse.{IsNumeralModel, IsDigitsTest, FoldsDigits, numerals_by_fold, parse_digits, digits_value_short}
use Rattle.std.specs.List.{list_all, fold}
use Rattle.std.specs.Result.{OkIff}
use Rattle.std.specs.Str.Parse.{ParsesUnsigned}
use Rattle.mf_forms.specs.Numbers.{is_digit, decimal_value, number_within}

abbrev pub AreDigits : List ℕ → Type 0
AreDigits text = list_all is_digit text ≡ true

abbrev pub read_on : ℕ → List ℕ → ℕ
read_on n digits = fold (λ m c. m * 10 + (c - 48)) n digits

tests : IsDigitsTest AreDigits
tests = search rules

folds : FoldsDigits read_on
folds = search rules

pub numerals : IsNumeralModel AreDigits decimal_value
numerals = numerals_by_fold AreDigits tests read_on folds

-- the text has the form of a number
abbrev pub IsNumber : List ℕ → Type 0
IsNumber text = (0 < length text) × (length text ≤ 10) × AreDigits text

filled_from : (n : ℕ) → (n ≡ 0 → ⊥) → 0 < n
filled_from zero h = absurd (h refl)
filled_from (suc n) h = omega arith

pub number_from : (text : List ℕ) → eqb (length text) 0 ≡ false → length text ≤ 10 → AreDigits text → IsNumber text
number_from text filled short digits = (filled_from (length text) (eqb-false (length text) 0 filled), short, digits)

number_is : (most : ℕ) (text : List ℕ) → IsNumber text → number_within most text ≡ cond (leb (decimal_value text) most) (Some (decimal_value text)) None
number_is most text is =
    let a : ltb 0 (length text) ≡ true = lt-ltb 0 (length text) is.0 in
    let b : leb (length text) 10 ≡ true = le-leb (length text) 10 is.1 in
    rw (a, b, is.2) refl

value_is : {E : Type 0} (text : List ℕ) (r : Result ℕ E) (n : ℕ) → IsNumber text → ParsesUnsigned 64 10 text r → r ≡ Ok n → n ≡ decimal_value text
value_is {E} text r n is parses ok =
    (subst (λ (s : Result ℕ E). OkIff s ((0 < length text) × (decimal_value text < 2 ^ 64)) (decimal_value text)) ok (parse_digits numerals 64 text r parses is.2)).1

pub accepted : {E : Type 0} (most : ℕ) (text : List ℕ) (r : Result ℕ E) (n : ℕ) → IsNumber text → ParsesUnsigned 64 10 text r → r ≡ Ok n → n ≤ most → Some n ≡ number_within most text
accepted most text r n is parses ok le =
    let e : n ≡ decimal_value text = value_is text r n is parses ok in
    let t : leb (decimal_value text) most ≡ true = le-leb (decimal_value text) most (omega (arith, e, le)) in
    sym (number_is most text is ∙ rw t (ap Some (sym e)))

pub above : {E : Type 0} (most : ℕ) (text : List ℕ) (r : Result ℕ E) (n : ℕ) → IsNumber text → ParsesUnsigned 64 10 text r → r ≡ Ok n → most < n → None ≡ number_within most text
above most text r n is parses ok gt =
    let e : n ≡ decimal_value text = value_is text r n is parses ok in
    let t : leb (decimal_value text) most ≡ false = lt-leb (decimal_value text) most (omega (arith, e, gt)) in
    sym (number_is most text is ∙ rw t refl)

pub unread : {E : Type 0} (text : List ℕ) (r : Result ℕ E) (e : E) → IsNumber text → ParsesUnsigned 64 10 text r → r ≡ Err e → ⊥
unread {E} text r e is parses err =
    let small : decimal_value text < 10 ^ 10 = digits_value_short numerals text 10 is.2 is.1 in
    let bound : 10 ^ 10 ≤ 2 ^ 64 = lit≤ tt in
    subst (λ (s : Result ℕ E). OkIff s ((0 < length text) × (decimal_value text < 2 ^ 64)) (decimal_value text)) err (parse_digits numerals 64 text r parses is.2) (is.0, omega (arith, small, bound))
