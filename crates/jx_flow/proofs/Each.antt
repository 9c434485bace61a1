-- Items that are read one after the other.
use Rattle.std.proofs.Common.{◌≡◌, ℕ, ◌+◌, ◌<◌, List, [], ◌∷◌, ◌++◌, length, get_or, drop, map, Ok, Err, refl, sym, ap, ◌∙◌, append_assoc}
use Rattle.std.proofs.lemmas.List.{drop_more}
use Rattle.jx_flow.specs.Reading.{Found, and_then, each_at, next_index}

-- what was read so far, and then what is left
abbrev pub behind : {B : Type 0} → List B → Found (List B) → Found (List B)
behind done (Ok more) = Ok (done ++ more)
behind done (Err e) = Err e

left_from : {A : Type 0} (xs : List A) (i : ℕ) (x : A) → i < length xs → x ≡ get_or xs i x → drop i xs ≡ x ∷ drop (i + 1) xs
left_from xs i x lt is = drop_more xs i x lt ∙ ap (λ y. y ∷ drop (i + 1) xs) (sym is)

one_more : {B : Type 0} (done : List B) (y : B) (rest : Found (List B)) → behind done (and_then rest (λ ys. Ok (y ∷ ys))) ≡ behind (done ++ y ∷ []) rest
one_more done y (Ok ys) = ap (λ l. Ok l) (sym (append_assoc done (y ∷ []) ys))
one_more done y (Err e) = refl

here : {B : Type 0} (done : List B) (first : Found B) (y : B) (rest : Found (List B)) → first ≡ Ok y
    → behind done (and_then first (λ z. and_then rest (λ ys. Ok (z ∷ ys)))) ≡ behind (done ++ y ∷ []) rest
here done first y rest e = ap (λ f. behind done (and_then f (λ z. and_then rest (λ ys. Ok (z ∷ ys))))) e ∙ one_more done y rest

pub each_at_more : {A C B : Type 0} (view : A → C) (read : ℕ → C → Found B) (n : ℕ) (xs : List A) (i : ℕ) (x : A) (y : B) (done : List B) (whole : Found (List B))
    → i < length xs → x ≡ get_or xs i x → read n (view x) ≡ Ok y → behind done (each_at read n (map view (drop i xs))) ≡ whole
    → behind (done ++ y ∷ []) (each_at read (next_index n) (map view (drop (i + 1) xs))) ≡ whole
each_at_more view read n xs i x y done whole lt is e h =
    sym (here done (read n (view x)) y (each_at read (next_index n) (map view (drop (i + 1) xs))) e)
    ∙ ap (λ l. behind done (each_at read n (map view l))) (sym (left_from xs i x lt is)) ∙ h
