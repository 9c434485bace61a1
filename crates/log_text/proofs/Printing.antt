-- The lines of a part, one by one.
use Rattle.std.proofs.Common.{◌≡◌, ◌∙◌, ℕ, zero, suc, ◌+◌, ◌<◌, ◌≤◌, List, [], ◌∷◌, ◌++◌, length, take, drop, get_or, ap, sym, refl, arith, append-nil, append_assoc}
use Rattle.std.specs.Prelude.{codes}
use Rattle.std.proofs.lemmas.List.{take_more}
use Rattle.std.proofs.Math.Seq.{drop-cons}
use Rattle.flow_types.specs.declared.plan.Plan.{Plan}
use Rattle.flow_types.specs.declared.records.Record.{Record}
use Rattle.log_text.specs.Lines.{lines_behind, record_line}

pub take-more : (xs : List Record) (i : ℕ) (x : Record) → i < length xs → x ≡ get_or xs i x → take (i + 1) xs ≡ take i xs ++ (x ∷ [])
take-more xs i x inside here = take_more xs i x inside ∙ ap (λ (y : Record). take i xs ++ (y ∷ [])) (sym here)

pub drop-more : (xs : List Record) (i : ℕ) (x : Record) → i < length xs → x ≡ get_or xs i x → drop i xs ≡ x ∷ drop (i + 1) xs
drop-more xs i x inside here =
    let next : suc i ≡ i + 1 = omega arith in
    drop-cons xs i x inside ∙ ap (λ (y : Record). y ∷ drop (suc i) xs) (sym here) ∙ ap (λ n. x ∷ drop n xs) next

-- with the line of one record more, less is left
pub lines-more : (P : Plan) (xs : List Record) (i : ℕ) (x : Record) (before after all : List ℕ) → i < length xs → x ≡ get_or xs i x
    → after ≡ before ++ (record_line P (take i xs ++ (x ∷ [])) x ++ codes "\n")
    → before ++ lines_behind P (take i xs) (drop i xs) ≡ all → after ++ lines_behind P (take (i + 1) xs) (drop (i + 1) xs) ≡ all
lines-more P xs i x before after all inside here wrote so =
    let rest : List ℕ = lines_behind P (take i xs ++ (x ∷ [])) (drop (i + 1) xs) in
    let line : List ℕ = record_line P (take i xs ++ (x ∷ [])) x in
    ap (λ (front : List Record). after ++ lines_behind P front (drop (i + 1) xs)) (take-more xs i x inside here)
    ∙ ap (λ (text : List ℕ). text ++ rest) wrote
    ∙ append_assoc before (line ++ codes "\n") rest
    ∙ ap (λ (left : List Record). before ++ lines_behind P (take i xs) left) (sym (drop-more xs i x inside here))
    ∙ so

-- nothing is left behind the last
pub lines-end : (P : Plan) (xs : List Record) (i : ℕ) (text all : List ℕ) → length xs ≤ i → text ++ lines_behind P (take i xs) (drop i xs) ≡ all → text ≡ all
lines-end P xs i text all past so =
    sym (append-nil text) ∙ ap (λ (left : List Record). text ++ lines_behind P (take i xs) left) (sym (none xs i past)) ∙ so
  where
    none : (ys : List Record) (n : ℕ) → length ys ≤ n → drop n ys ≡ []
    none [] zero le = refl
    none [] (suc n) le = refl
    none (y ∷ ys) zero le = absurd (let wrong : ⊥ = omega (arith, le) in wrong)
    none (y ∷ ys) (suc n) le = none ys n (omega (arith, le))
