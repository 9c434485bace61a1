-- Pieces written one after the other.
use Rattle.std.proofs.Common.{◌≡◌, ℕ, ◌+◌, ◌<◌, ◌≤◌, List, [], ◌∷◌, ◌++◌, length, get_or, take, drop, sym, ap, ◌∙◌, append_assoc}
use Rattle.std.proofs.lemmas.List.{drop_more, drop_all, append-nil, take_more, flat_map_more}
use Rattle.std.specs.List.{flat_map, enumerate_from}

-- one item more: what is left is written behind it
pub flat_map-more : {A : Type 0} (f : A → List ℕ) (out now start : List ℕ) (xs : List A) (n : ℕ) (x : A) → n < length xs → x ≡ get_or xs n x → now ≡ out ++ f x
    → out ++ flat_map f (drop n xs) ≡ start → now ++ flat_map f (drop (n + 1) xs) ≡ start
flat_map-more f out now start xs n x lt is e h =
    let d : drop n xs ≡ x ∷ drop (n + 1) xs = drop_more xs n x lt ∙ ap (λ y. y ∷ drop (n + 1) xs) (sym is) in
    ap (λ o. o ++ flat_map f (drop (n + 1) xs)) e
    ∙ append_assoc out (f x) (flat_map f (drop (n + 1) xs))
    ∙ ap (λ l. out ++ flat_map f l) (sym d) ∙ h

-- no item more
pub flat_map-end : {A : Type 0} (f : A → List ℕ) (out start : List ℕ) (xs : List A) (n : ℕ) → length xs ≤ n → out ++ flat_map f (drop n xs) ≡ start → out ≡ start
flat_map-end f out start xs n le h = sym (append-nil out) ∙ ap (λ l. out ++ flat_map f l) (sym (drop_all n xs le)) ∙ h

-- one numbered item more
pub enumerated-more : {A : Type 0} (f : ℕ → A → List ℕ) (out now start : List ℕ) (xs : List A) (n : ℕ) (x : A) → n < length xs → x ≡ get_or xs n x → now ≡ out ++ f n x
    → out ++ flat_map (λ p. f p.0 p.1) (enumerate_from n (drop n xs)) ≡ start → now ++ flat_map (λ p. f p.0 p.1) (enumerate_from (n + 1) (drop (n + 1) xs)) ≡ start
enumerated-more f out now start xs n x lt is e h =
    let d : drop n xs ≡ x ∷ drop (n + 1) xs = drop_more xs n x lt ∙ ap (λ y. y ∷ drop (n + 1) xs) (sym is) in
    ap (λ o. o ++ flat_map (λ p. f p.0 p.1) (enumerate_from (n + 1) (drop (n + 1) xs))) e
    ∙ append_assoc out (f n x) (flat_map (λ p. f p.0 p.1) (enumerate_from (n + 1) (drop (n + 1) xs)))
    ∙ ap (λ l. out ++ flat_map (λ p. f p.0 p.1) (enumerate_from n l)) (sym d) ∙ h

-- no numbered item more
pub enumerated-end : {A : Type 0} (f : ℕ → A → List ℕ) (out start : List ℕ) (xs : List A) (n : ℕ) → length xs ≤ n
    → out ++ flat_map (λ p. f p.0 p.1) (enumerate_from n (drop n xs)) ≡ start → out ≡ start
enumerated-end f out start xs n le h =
    sym (append-nil out) ∙ ap (λ l. out ++ flat_map (λ p. f p.0 p.1) (enumerate_from n l)) (sym (drop_all n xs le)) ∙ h

-- one item more of those that are written
pub written-more : {A : Type 0} (f : A → List ℕ) (out now start : List ℕ) (xs : List A) (n : ℕ) (x : A) → n < length xs → x ≡ get_or xs n x → now ≡ out ++ f x
    → out ≡ start ++ flat_map f (take n xs) → now ≡ start ++ flat_map f (take (n + 1) xs)
written-more f out now start xs n x lt is e h =
    let t : take (n + 1) xs ≡ take n xs ++ x ∷ [] = take_more xs n x lt ∙ ap (λ y. take n xs ++ y ∷ []) (sym is) in
    e ∙ ap (λ o. o ++ f x) h ∙ flat_map_more f start (take n xs) x ∙ ap (λ l. start ++ flat_map f l) (sym t)
