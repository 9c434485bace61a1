-- Loops over all peers, and over all that a foreman sends down.
use Rattle.std.proofs.Common.{◌≡◌, ◌<◌, ◌+◌, ℕ, zero, suc, List, [], ◌∷◌, ◌++◌, length, take, drop, refl, ap, sym, ◌∙◌, arith}
use Rattle.std.specs.Prelude.{Option, filter_map, map, slice_set}
use Rattle.std.specs.List.{slice_index_or}
use Rattle.std.proofs.lemmas.List.{append_assoc}
use Rattle.std.proofs.lemmas.List.Elements.{filter_map-append}

-- the first i items mapped
abbrev pub mapped_below : {A : Type 0} → (A → A) → ℕ → List A → List A
mapped_below g i xs = map g (take i xs) ++ drop i xs

mapped_suc : {A : Type 0} (g : A → A) (i : ℕ) (xs : List A) (d : A) → i < length xs → slice_set (mapped_below g i xs) i (g (slice_index_or (mapped_below g i xs) i d)) ≡ mapped_below g (suc i) xs
mapped_suc g i [] d inside = absurd (omega (arith, inside))
mapped_suc g zero (x ∷ xs) d inside = refl
mapped_suc g (suc i) (x ∷ xs) d inside = ap (λ ys. g x ∷ ys) (mapped_suc g i xs d (omega (arith, inside)))

-- one item more
pub mapped_step : {A : Type 0} (g : A → A) (i : ℕ) (xs now : List A) (d : A) → i < length xs → now ≡ mapped_below g i xs → slice_set now i (g (slice_index_or now i d)) ≡ mapped_below g (i + 1) xs
mapped_step g i xs now d inside is =
    let next : suc i ≡ i + 1 = omega arith in
    ap (λ ys. slice_set ys i (g (slice_index_or ys i d))) is ∙ mapped_suc g i xs d inside ∙ ap (λ n. mapped_below g n xs) next

pub mapped_all : {A : Type 0} (g : A → A) (xs : List A) → mapped_below g (length xs) xs ≡ map g xs
mapped_all g [] = refl
mapped_all g (x ∷ xs) = ap (λ ys. g x ∷ ys) (mapped_all g xs)

-- one message more was sent, of those that are left
pub sent_step : {A B : Type 0} (f : A → Option B) (x : A) (rest : List A) (bag after all : List B) → after ≡ bag ++ filter_map f (x ∷ []) → bag ++ filter_map f (x ∷ rest) ≡ all
    → after ++ filter_map f rest ≡ all
sent_step f x rest bag after all then was =
    ap (λ sent. sent ++ filter_map f rest) then ∙ append_assoc bag (filter_map f (x ∷ [])) (filter_map f rest)
    ∙ ap (λ more. bag ++ more) (sym (filter_map-append f (x ∷ []) rest)) ∙ was
