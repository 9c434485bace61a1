-- Where a text in quotes ends, byte by byte.
use Rattle.std.proofs.Common.{◌≡◌, ℕ, ◌+◌, ◌<◌, ◌≤◌, Bool, true, false, cond, ◌==◌, List, ◌∷◌, length, drop, get_or, Option, Some, None, refl, sym, ap, ◌∙◌, arith}
use Rattle.std.proofs.lemmas.List.{drop_more, drop_all}
use Rattle.std.specs.Option.{option_map}
use Rattle.jx_tokens.specs.Texts.{closing}

abbrev pub shifted : ℕ → Option ℕ → Option ℕ
shifted i o = option_map (λ n. n + i) o

shifted_more : (i : ℕ) (o : Option ℕ) → shifted (i + 1) o ≡ shifted i (shifted 1 o)
shifted_more i None = refl
shifted_more i (Some n) = let e : n + (i + 1) ≡ n + 1 + i = omega arith in ap Some e

-- a hidden byte is passed over
pub closing-hidden : (d : List ℕ) (i : ℕ) → i < length d → shifted (i + 1) (closing false (drop (i + 1) d)) ≡ shifted i (closing true (drop i d))
unfolding closing
closing-hidden d i h = shifted_more i _ ∙ ap (λ l. shifted i (closing true l)) (sym (drop_more d i 0 h))

-- and so is one that is no quote
pub closing-shown : (d : List ℕ) (i : ℕ) → i < length d → (get_or d i 0 == 34) ≡ false
    → shifted (i + 1) (closing (get_or d i 0 == 92) (drop (i + 1) d)) ≡ shifted i (closing false (drop i d))
unfolding closing
closing-shown d i h e =
    shifted_more i _
    ∙ ap (λ b. shifted i (cond b (Some 0) (shifted 1 (closing (get_or d i 0 == 92) (drop (i + 1) d))))) (sym e)
    ∙ ap (λ l. shifted i (closing false l)) (sym (drop_more d i 0 h))

-- a quote ends it
pub closing-quote : (d : List ℕ) (i : ℕ) → i < length d → get_or d i 0 ≡ 34 → shifted i (closing false (drop i d)) ≡ Some i
unfolding closing
closing-quote d i h e =
    let z : 0 + i ≡ i = omega arith in
    ap (λ l. shifted i (closing false l)) (drop_more d i 0 h ∙ ap (λ x. x ∷ drop (i + 1) d) e) ∙ ap Some z

pub closing-end : (d : List ℕ) (i : ℕ) (hidden : Bool) → length d ≤ i → shifted i (closing hidden (drop i d)) ≡ None
unfolding closing
closing-end d i true h = ap (λ l. shifted i (closing true l)) (drop_all i d h)
closing-end d i false h = ap (λ l. shifted i (closing false l)) (drop_all i d h)
