-- Runs at the front of a text.
use Rattle.std.proofs.Common.{◌≡◌, ℕ, ◌+◌, ◌-◌, ◌<◌, Bool, true, cond, ◌||◌, List, length, drop, get_or, sym, ap, ◌∙◌, subst, arith}
use Rattle.std.proofs.lemmas.List.{drop_more, get_or-drop, length-drop}
use Rattle.std.proofs.lemmas.List.Sums.{prefix_len_passes, prefix_len-le-length}
use Rattle.std.proofs.lemmas.Bool.Decides.{nat_tests}
use Rattle.std.proofs.lemmas.Str.{IsCharBoundary-after_ascii}
use Rattle.std.specs.Char.{is_ascii_digit}
use Rattle.std.specs.List.{prefix_len}
use Rattle.std.specs.Str.{IsUtf8, IsCharBoundary}
use Rattle.jx_tokens.specs.Bytes.{in_name, begins_name}

-- a run whose first byte passes is not empty
pub prefix_len-pos : (p : ℕ → Bool) (d : List ℕ) (i : ℕ) → i < length d → p (get_or d i 0) ≡ true → 0 < prefix_len p (drop i d)
prefix_len-pos p d i h e =
    let one : prefix_len p (drop i d) ≡ 1 + prefix_len p (drop (i + 1) d) = ap (prefix_len p) (drop_more d i 0 h) ∙ ap (λ b. cond b (1 + prefix_len p (drop (i + 1) d)) 0) e in
    omega arith

name_is_ascii : (b : ℕ) → in_name b ≡ true → b < 128
name_is_ascii b e = grind (arith, nat_tests)

-- what begins a name goes on in one
pub begins_in_name : (b : ℕ) → begins_name b ≡ true → in_name b ≡ true
begins_in_name b e = ap (λ t. t || is_ascii_digit b) e

-- a text may be cut behind a word
pub boundary_at_word_end : (d : List ℕ) (i stop : ℕ) → IsUtf8 d → i < length d → in_name (get_or d i 0) ≡ true → stop ≡ i + prefix_len in_name (drop i d) → IsCharBoundary d stop
boundary_at_word_end d i stop u h e is =
    let n = prefix_len in_name (drop i d) in
    let pos = prefix_len-pos in_name d i h e in
    let short = prefix_len-le-length in_name (drop i d) in
    let long = length-drop i d in
    let passes : in_name (get_or (drop i d) (n - 1) 0) ≡ true = prefix_len_passes in_name (drop i d) (n - 1) 0 (omega arith) in
    let low : get_or d (i + (n - 1)) 0 < 128 = name_is_ascii (get_or d (i + (n - 1)) 0) (ap in_name (sym (get_or-drop i d (n - 1) 0)) ∙ passes) in
    let next : i + (n - 1) + 1 ≡ stop = omega arith in
    subst (IsCharBoundary d) next (IsCharBoundary-after_ascii d (i + (n - 1)) u (omega arith) low)
