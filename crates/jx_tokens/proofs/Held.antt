-- What a text in quotes holds, read run by run.
use Rattle.std.proofs.Common.{◌≡◌, ℕ, zero, suc, ◌+◌, ◌-◌, ◌<◌, ◌≤◌, Bool, true, false, cond, ◌==◌, nat_lt, List, [], ◌∷◌, ◌++◌, length, take, drop, get_or, Some, None, Result, Ok, Err, refl, sym, ap, ◌∙◌, arith}
use Rattle.std.proofs.lemmas.List.{drop_more, append_assoc, drop-drop, drop_all, take_all, get_or-drop, length-drop}
use Rattle.std.proofs.lemmas.Bool.{or_parts, not-true, ne_eqb}
use Rattle.std.proofs.lemmas.Bool.Decides.{nat_tests}
use Rattle.std.specs.Str.{IsCharBoundary}
use Rattle.std.proofs.lemmas.List.Sums.{prefix_len_stops}
use Rattle.std.specs.List.{prefix_len}
use Rattle.std.specs.Char.{encode_utf8}
use Rattle.jx_tokens.specs.declared.fault.JxFault.{JxFault}
use Rattle.jx_tokens.specs.declared.fault.JxFault.TheVariants.{Unexpected}
use Rattle.jx_tokens.specs.Bytes.{is_plain}
use Rattle.jx_tokens.specs.Texts.{content, before, escaped, escape}

pub content-nil : (k at : ℕ) → content k at [] ≡ Ok []
unfolding content
content-nil zero at = refl
content-nil (suc k) at = refl

-- bytes that are read already stand aside
pub content-skip : (k at : ℕ) (bs : List ℕ) → content k at bs ≡ content 0 (at + k) (drop k bs)
unfolding content
content-skip zero at bs = let e : at ≡ at + 0 = omega arith in ap (λ n. content 0 n bs) e
content-skip (suc k) at [] = refl
content-skip (suc k) at (b ∷ bs) = let e : at + 1 + k ≡ at + suc k = omega arith in content-skip k (at + 1) bs ∙ ap (λ n. content 0 n (drop k bs)) e

pub before-before : (a b : List ℕ) (r : Result (List ℕ) JxFault) → before a (before b r) ≡ before (a ++ b) r
before-before a b (Ok s) = ap Ok (sym (append_assoc a b s))
before-before a b (Err e) = refl

pub before-nil : (r : Result (List ℕ) JxFault) → before [] r ≡ r
before-nil (Ok s) = refl
before-nil (Err e) = refl

run_byte : (p : Bool) (x n at : ℕ) (xs : List ℕ) → p ≡ is_plain x → content 0 (at + 1) xs ≡ before (take n xs) (content 0 (at + 1 + n) (drop n xs))
    → content 0 at (x ∷ xs) ≡ before (take (cond p (1 + n) 0) (x ∷ xs)) (content 0 (at + cond p (1 + n) 0) (drop (cond p (1 + n) 0) (x ∷ xs)))
unfolding content
run_byte false x n at xs e ih = let z : at ≡ at + 0 = omega arith in ap (λ k. content 0 k (x ∷ xs)) z ∙ sym (before-nil _)
run_byte true x n at xs e ih =
    let next : 1 + n ≡ suc n = omega arith in
    let there : at + 1 + n ≡ at + suc n = omega arith in
    let tests = or_parts (x == 92) _ (not-true _ (sym e)) in
    (λ i. cond (tests.0 i) (escaped at (escape xs) (λ k. content k (at + 1) xs)) (cond (tests.1 i) (Err (Unexpected at)) (before (x ∷ []) (ih i))))
    ∙ before-before (x ∷ []) (take n xs) _
    ∙ ap (λ m. before (x ∷ take n xs) (content 0 m (drop n xs))) there
    ∙ ap (λ k. before (take k (x ∷ xs)) (content 0 (at + k) (drop k (x ∷ xs)))) (sym next)

-- plain bytes stand for themselves
content-run : (at : ℕ) (xs : List ℕ) → content 0 at xs ≡ before (take (prefix_len is_plain xs) xs) (content 0 (at + prefix_len is_plain xs) (drop (prefix_len is_plain xs) xs))
content-run at [] = let z : at ≡ at + 0 = omega arith in ap (λ k. content 0 k []) z ∙ sym (before-nil _)
content-run at (x ∷ xs) = run_byte (is_plain x) x (prefix_len is_plain xs) at xs refl (content-run (at + 1) xs)

-- from one place up to the place where the plain bytes stop
pub content-to_stop : (d : List ℕ) (at i stop : ℕ) → stop ≡ i + prefix_len is_plain (drop i d)
    → content 0 (at + i) (drop i d) ≡ before (take (stop - i) (drop i d)) (content 0 (at + stop) (drop stop d))
content-to_stop d at i stop is =
    let n : prefix_len is_plain (drop i d) ≡ stop - i = omega arith in
    let there : at + i + prefix_len is_plain (drop i d) ≡ at + stop = omega arith in
    content-run (at + i) (drop i d)
    ∙ ap (λ l. before (take (prefix_len is_plain (drop i d)) (drop i d)) (content 0 (at + i + prefix_len is_plain (drop i d)) l)) (drop-drop _ i d ∙ ap (λ k. drop k d) (sym is))
    ∙ ap (λ m. before (take (prefix_len is_plain (drop i d)) (drop i d)) (content 0 m (drop stop d))) there
    ∙ ap (λ k. before (take k (drop i d)) (content 0 (at + stop) (drop stop d))) n

pub content-at : (d : List ℕ) (at i : ℕ) → i < length d → content 0 (at + i) (drop i d)
    ≡ cond (get_or d i 0 == 92) (escaped (at + i) (escape (drop (i + 1) d)) (λ k. content k (at + i + 1) (drop (i + 1) d)))
    (cond (nat_lt (get_or d i 0) 32) (Err (Unexpected (at + i))) (before (get_or d i 0 ∷ []) (content 0 (at + i + 1) (drop (i + 1) d))))
unfolding content
content-at d at i h = ap (content 0 (at + i)) (drop_more d i 0 h)

module _ (d : List ℕ) (i stop : ℕ) (is : stop ≡ i + prefix_len is_plain (drop i d)) where
  -- where plain bytes stop there is a byte that isn't plain
  pub not_plain : stop < length d → is_plain (get_or d stop 0) ≡ false
  not_plain h = ap (λ k. is_plain (get_or d k 0)) is ∙ ap is_plain (sym (get_or-drop i d _ 0)) ∙ prefix_len_stops is_plain (drop i d) 0 (omega (arith, length-drop i d))

  pub stop_is_ascii : stop < length d → get_or d stop 0 < 128
  stop_is_ascii h = ascii (get_or d stop 0) (not_plain h)
    where
      ascii : (b : ℕ) → is_plain b ≡ false → b < 128
      ascii b e = grind (arith, nat_tests)

  pub boundary_at_stop : stop ≤ length d → IsCharBoundary d stop
  boundary_at_stop le = (le, λ lt ge. absurd (omega (arith, stop_is_ascii lt)))

  pub content-stop : (at : ℕ) (held : List ℕ) (all : Result (List ℕ) JxFault) → before held (content 0 (at + i) (drop i d)) ≡ all
      → before (held ++ take (stop - i) (drop i d)) (content 0 (at + stop) (drop stop d)) ≡ all
  content-stop at held all h = sym (before-before held (take (stop - i) (drop i d)) _) ∙ ap (before held) (sym (content-to_stop d at i stop is)) ∙ h

  -- a raw control character
  pub content-control : (at : ℕ) → stop < length d → (get_or d stop 0 ≡ 92 → ⊥) → content 0 (at + stop) (drop stop d) ≡ Err (Unexpected (at + stop))
  content-control at h ne =
      let b = get_or d stop 0 in
      let low : nat_lt b 32 ≡ true = control b ne (not_plain h) in
      content-at d at stop h
      ∙ ap (λ t. cond t (escaped (at + stop) (escape (drop (stop + 1) d)) (λ k. content k (at + stop + 1) (drop (stop + 1) d)))
      (cond (nat_lt b 32) (Err (Unexpected (at + stop))) (before (b ∷ []) (content 0 (at + stop + 1) (drop (stop + 1) d))))) (ne_eqb b 92 ne)
      ∙ ap (λ t. cond t (Err (Unexpected (at + stop))) (before (b ∷ []) (content 0 (at + stop + 1) (drop (stop + 1) d)))) low
    where
      control : (b : ℕ) → (b ≡ 92 → ⊥) → is_plain b ≡ false → nat_lt b 32 ≡ true
      control b ne e = grind (arith, nat_tests)

content-backslash : (d : List ℕ) (at stop : ℕ) → stop < length d → get_or d stop 0 ≡ 92
    → content 0 (at + stop) (drop stop d) ≡ escaped (at + stop) (escape (drop (stop + 1) d)) (λ k. content k (at + stop + 1) (drop (stop + 1) d))
unfolding content
content-backslash d at stop h e = ap (content 0 (at + stop)) (drop_more d stop 0 h ∙ ap (λ b. b ∷ drop (stop + 1) d) e)

-- a backslash that begins no escape
pub content-no_escape : (d : List ℕ) (at stop : ℕ) → stop < length d → get_or d stop 0 ≡ 92 → escape (drop (stop + 1) d) ≡ None
    → content 0 (at + stop) (drop stop d) ≡ Err (Unexpected (at + stop))
content-no_escape d at stop h e none = content-backslash d at stop h e ∙ ap (λ o. escaped (at + stop) o (λ k. content k (at + stop + 1) (drop (stop + 1) d))) none

-- an escape
pub content-escape : (d : List ℕ) (at stop c n : ℕ) → stop < length d → get_or d stop 0 ≡ 92 → escape (drop (stop + 1) d) ≡ Some (c, n)
    → content 0 (at + stop) (drop stop d) ≡ before (encode_utf8 c) (content 0 (at + (stop + 1 + n)) (drop (stop + 1 + n) d))
content-escape d at stop c n h e some =
    let there : at + stop + 1 + n ≡ at + (stop + 1 + n) = omega arith in
    content-backslash d at stop h e ∙ ap (λ o. escaped (at + stop) o (λ k. content k (at + stop + 1) (drop (stop + 1) d))) some
    ∙ ap (before (encode_utf8 c)) (content-skip n (at + stop + 1) (drop (stop + 1) d) ∙ ap (λ m. content 0 m (drop n (drop (stop + 1) d))) there
    ∙ ap (content 0 (at + (stop + 1 + n))) (drop-drop n (stop + 1) d))

pub content-end : (d : List ℕ) (at i : ℕ) → length d ≤ i → content 0 (at + i) (drop i d) ≡ Ok []
content-end d at i h = ap (content 0 (at + i)) (drop_all i d h) ∙ content-nil 0 (at + i)

-- what a slice from here on shows
pub from_here : (b d : List ℕ) (k : ℕ) → b ≡ d → take (length b - k) (drop k b) ≡ drop k d
from_here b d k e = take_all (length b - k) (drop k b) (omega (arith, length-drop k b)) ∙ ap (drop k) e
