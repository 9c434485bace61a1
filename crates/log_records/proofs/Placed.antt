-- Texts placed one after the other.
use Rattle.std.proofs.Common.{◌≡◌, ℕ, List, ◌++◌, ap, ◌∙◌, append_assoc}

pub placed_two : (start a b mid end : List ℕ) → mid ≡ start ++ a → end ≡ mid ++ b → end ≡ start ++ (a ++ b)
placed_two start a b mid end p q = q ∙ ap (λ (w : List ℕ). w ++ b) p ∙ append_assoc start a b

pub placed_three : (start a b c first second end : List ℕ) → first ≡ start ++ a → second ≡ first ++ b → end ≡ second ++ c → end ≡ start ++ (a ++ (b ++ c))
placed_three start a b c first second end p q r = placed_two start a (b ++ c) first end p (placed_two first b c second end q r)

pub placed_four : (start a b c d first second third end : List ℕ) → first ≡ start ++ a → second ≡ first ++ b → third ≡ second ++ c → end ≡ third ++ d → end ≡ start ++ (a ++ (b ++ (c ++ d)))
placed_four start a b c d first second third end p q r s = placed_two start a (b ++ (c ++ d)) first end p (placed_three first b c d second third end q r s)
