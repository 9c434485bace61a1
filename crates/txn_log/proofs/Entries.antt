-- The bytes of an entry.
use Rattle.std.proofs.Common.{◌≡◌, ℕ, ◌+◌, ◌≤◌, List, [], ◌∷◌, ◌++◌, length, take, sym, ◌∙◌, ap, arith, append_assoc}
use Rattle.std.proofs.lemmas.List.{take_all}
use Rattle.std.proofs.lemmas.Slice.{take-put_mid}
use borrow.Rule.Slice.PartMut.{put_mid}

-- a number, a text behind it, and a closed gate
pub staged_is : (first text whole number : List ℕ) (len k end : ℕ) → take 4 first ≡ number → k ≡ len → length text ≡ len → 4 + len ≤ length first
    → take end whole ≡ take (4 + len) (put_mid 4 k first text) ++ 0 ∷ [] → length whole ≤ end → whole ≡ number ++ (text ++ 0 ∷ [])
staged_is first text whole number len k end front same long fits last all =
    sym (take_all end whole all) ∙ last
    ∙ ap (λ (l : List ℕ). l ++ 0 ∷ []) (take-put_mid 4 k first text (4 + len) (omega arith) (omega arith) ∙ ap (λ (l : List ℕ). l ++ text) front)
    ∙ append_assoc number text (0 ∷ [])
