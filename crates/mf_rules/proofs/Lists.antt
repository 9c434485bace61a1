-- Lists that grow at their ends.
use Rattle.std.proofs.Common.{◌≡◌, ◌+◌, List, [], ◌∷◌, ◌++◌, map, reverse, length, refl, sym, ap, ◌∙◌, append_assoc, arith, length-append}
use Rattle.std.proofs.lemmas.List.{map-append, reverse-append}
use Rattle.mf_rules.specs.declared.steps.Formed.{Formed}
use Rattle.mf_rules.specs.declared.steps.Step.{Step}
use Rattle.mf_rules.specs.Faults.{is_answered}
use Rattle.mf_rules.specs.Progress.{stack_of}

-- a list with an item more is not empty
pub not_pushed : {A : Type 0} (xs : List A) (x : A) → [] ≡ xs ++ x ∷ [] → ⊥
not_pushed {A} xs x e = let n : 0 ≡ length xs + 1 = ap length e ∙ length-append xs (x ∷ []) in omega arith

-- a list without a length is empty
pub no_items : {A : Type 0} (xs : List A) → length xs ≡ 0 → [] ≡ xs
no_items [] e = refl
no_items (x ∷ xs) e = absurd (omega arith)

-- what was put at the end of a list
pub same_push : {A : Type 0} (xs ys : List A) (x y : A) → xs ++ x ∷ [] ≡ ys ++ y ∷ [] → (xs ≡ ys) × (x ≡ y)
same_push [] [] x y e = (refl, cc)
same_push [] (b ∷ ys) x y e = absurd (not_pushed ys y cc)
same_push (a ∷ xs) [] x y e = absurd (not_pushed xs x cc)
same_push (a ∷ xs) (b ∷ ys) x y e =
    let tail : xs ++ x ∷ [] ≡ ys ++ y ∷ [] = cc in
    let head : a ≡ b = cc in
    let rest : (xs ≡ ys) × (x ≡ y) = same_push xs ys x y tail in
    (cc, rest.1)

-- the next step of a stack, and the stack of the lines behind it
pub popped : (xs : List Step) (s : Step) (later : List Formed) → xs ++ s ∷ [] ≡ stack_of later
    → (rest : List Formed) × ((later ≡ s.line ∷ rest) × ((xs ≡ stack_of rest) × (s.is_answered ≡ is_answered rest)))
popped xs s [] e = absurd (not_pushed xs s (sym e))
popped xs s (line ∷ rest) e =
    let both : (xs ≡ stack_of rest) × (s ≡ record { line = line; is_answered = is_answered rest }) = same_push xs (stack_of rest) s (record { line = line; is_answered = is_answered rest }) e in
    (rest, (ap (λ (t : Step). t.line ∷ rest) (sym both.1), (both.0, ap (λ (t : Step). t.is_answered) both.1)))

-- a stack without steps
pub all_popped : (later : List Formed) → [] ≡ stack_of later → later ≡ []
all_popped [] e = refl
all_popped (line ∷ rest) e = absurd (not_pushed (stack_of rest) (record { line = line; is_answered = is_answered rest }) e)

-- one more line is turned round
pub turned : (line : Formed) (rest earlier : List Formed) → reverse (line ∷ rest) ++ earlier ≡ reverse rest ++ line ∷ earlier
turned line rest earlier =
    ap (λ (xs : List Formed). xs ++ earlier) (reverse-append (line ∷ []) rest) ∙ append_assoc (reverse rest) (line ∷ []) earlier

-- the last of the lines that are left goes before those behind it
pub before_rest : {A B : Type 0} (f : A → B) (xs : List A) (x : A) (rest : List B) → map f (xs ++ x ∷ []) ++ rest ≡ map f xs ++ f x ∷ rest
before_rest f xs x rest = ap (λ ys. ys ++ rest) (map-append f xs (x ∷ [])) ∙ append_assoc (map f xs) (f x ∷ []) rest
