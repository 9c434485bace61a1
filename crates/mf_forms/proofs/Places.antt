-- Where a text may be cut: next to bytes below 128.
use Rattle.std.proofs.Common.{◌≡◌, ℕ, zero, suc, ◌-◌, ◌<◌, ◌≤◌, Bool, true, not, List, length, get_or, reverse, ap, subst, ◌∙◌, inl, inr, arith, add-one}
use Rattle.std.proofs.lemmas.Bool.Decides.{nat_tests}
use Rattle.std.proofs.lemmas.Bool.{cases_lt}
use Rattle.std.proofs.lemmas.List.{get_or-reverse}
use Rattle.std.proofs.lemmas.List.Sums.{prefix_len-le-length, prefix_len_passes, passes_at_first, suffix_len-le-length}
use Rattle.std.proofs.lemmas.Str.{IsCharBoundary-start, IsCharBoundary-end, IsCharBoundary-after_ascii, IsCharBoundary-before_ascii}
use Rattle.std.specs.List.{position_or_len, prefix_len, suffix_len}
use Rattle.std.specs.Str.{IsUtf8, IsCharBoundary}
use Rattle.mf_forms.specs.Words.{is_blank}

-- a test that only bytes below 128 pass
abbrev pub PassesAscii : (ℕ → Bool) → Type 0
PassesAscii p = (c : ℕ) → p c ≡ true → c < 128

pub blanks_are_ascii : PassesAscii is_blank
blanks_are_ascii c h = grind (arith, nat_tests)

pub behind_prefix : (p : ℕ → Bool) → PassesAscii p → (bs : List ℕ) (n : ℕ) → IsUtf8 bs → n ≡ prefix_len p bs → IsCharBoundary bs n
behind_prefix p ascii bs zero u e = IsCharBoundary-start bs u
behind_prefix p ascii bs (suc m) u e =
    let within : suc m ≤ length bs = omega (arith, prefix_len-le-length p bs) in
    let passes : p (get_or bs m 0) ≡ true = prefix_len_passes p bs m 0 (omega arith) in
    subst (λ k. IsCharBoundary bs k) (add-one m) (IsCharBoundary-after_ascii bs m u (omega arith) (ascii (get_or bs m 0) passes))

pub before_first_pass : (p : ℕ → Bool) → PassesAscii p → (bs : List ℕ) (n : ℕ) → n ≡ position_or_len p bs → IsCharBoundary bs n
before_first_pass p ascii bs n e =
    elim (cases_lt (position_or_len p bs) (length bs)) [
      | inl lt ↦ rw e (IsCharBoundary-before_ascii bs (position_or_len p bs) lt (ascii (get_or bs (position_or_len p bs) 0) (passes_at_first p bs 0 lt)))
      | inr ge ↦
          let all : position_or_len p bs ≡ length bs = omega (arith, ge, prefix_len-le-length (λ b. not (p b)) bs) in
          rw (e, all) (IsCharBoundary-end bs)
    ]

pub before_suffix : (p : ℕ → Bool) → PassesAscii p → (bs : List ℕ) (n : ℕ) → n ≡ suffix_len p bs → IsCharBoundary bs (length bs - n)
before_suffix p ascii bs zero e =
    let whole : length bs - 0 ≡ length bs = omega arith in rw whole (IsCharBoundary-end bs)
before_suffix p ascii bs (suc m) e =
    let within : suc m ≤ length bs = omega (arith, suffix_len-le-length p bs) in
    let passes : p (get_or (reverse bs) m 0) ≡ true = prefix_len_passes p (reverse bs) m 0 (omega arith) in
    let at : get_or (reverse bs) m 0 ≡ get_or bs (length bs - suc m) 0 = get_or-reverse bs m 0 (omega arith) ∙ ap (λ k. get_or bs k 0) (omega arith) in
    IsCharBoundary-before_ascii bs (length bs - suc m) (omega arith) (ascii (get_or bs (length bs - suc m) 0) (rw (← at) passes))
