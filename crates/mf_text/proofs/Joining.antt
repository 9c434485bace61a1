-- Lines that are joined one after the other, as the loop does.
use Rattle.std.proofs.Common.{◌≡◌, ◌≢◌, ℕ, suc, ◌+◌, ◌-◌, ◌<◌, ◌≤◌, Bool, true, false, cond, eqb, List, [], ◌∷◌, ◌++◌, length, get_or, take, drop, Option, Some, None, refl, sym, ap, ◌∙◌, append_assoc, arith}
use Rattle.std.proofs.lemmas.Bool.{eqb-true}
use Rattle.std.proofs.lemmas.List.{take_more, take_all, drop_more}
use Rattle.std.proofs.lemmas.List.Sums.{count_by-le-length}
use Rattle.std.specs.List.{slice_split}
use Rattle.std.specs.Prelude.{string_bytes}
use Rattle.std.specs.Str.Lines.{lines, lines_of_parts}
use Rattle.std.proofs.lemmas.List.Splits.{length-slice_split}
use Rattle.mf_text.specs.declared.lines.Line.{Line}
use Rattle.mf_text.specs.declared.lines.Open.{Open}
use Rattle.mf_text.specs.Lines.{goes_on, body, continued, joined, finished}

pub not_true : (b : Bool) → (b ≡ true → ⊥) → b ≡ false
not_true true h = absurd (h refl)
not_true false h = refl

last_is : (l : List ℕ) → get_or l (length l - 1) 0 ≡ 92 → l ≡ take (length l - 1) l ++ (92 ∷ [])
last_is [] h = absurd (omega arith)
last_is (x ∷ xs) h =
    let l : List ℕ = x ∷ xs in
    let k : length xs + 1 ≡ suc (length xs) = omega arith in
    let n : suc (length xs) - 1 ≡ length xs = omega arith in
    let at : get_or l (length xs) 0 ≡ 92 = rw (← n) h in
    let all : take (suc (length xs)) l ≡ l = take_all (suc (length xs)) l (omega arith) in
    rw n (sym all ∙ ap (λ (m : ℕ). take m l) (sym k) ∙ take_more l (length xs) 0 (omega arith) ∙ ap (λ (b : ℕ). take (length xs) l ++ (b ∷ [])) at)

pub no_mark : (l : List ℕ) → ((front : List ℕ) → l ≢ front ++ (92 ∷ [])) → goes_on l ≡ false
no_mark l h = not_true (goes_on l) (λ e. h (take (length l - 1) l) (last_is l (eqb-true _ _ e)))

-- an open line takes the body of the next, which goes on too
pub continued-continued : (m : ℕ) (t : List ℕ) (n : ℕ) (b : List ℕ) (rest : List Line) → continued m t (continued n b rest) ≡ continued m (t ++ 32 ∷ b) rest
continued-continued m t n b [] = refl
continued-continued m t n b (next ∷ more) = ap (λ (x : List ℕ). record { number = m; text = x } ∷ more) (sym (append_assoc t (32 ∷ b) (32 ∷ next.text)))

lines_le : (parts : List (List ℕ)) → length (lines_of_parts parts) ≤ length parts
lines_le [] = omega arith
lines_le (x ∷ []) = elim (eqb (length x) 0) as (λ b. length (cond b [] (x ∷ [])) ≤ 1) [ true ↦ omega arith | false ↦ omega arith ]
lines_le (x ∷ y ∷ more) = omega (arith, lines_le (y ∷ more))

-- no text has more lines than one more than its bytes
pub count_le : (bs : List ℕ) → length (lines bs) ≤ length bs + 1
count_le bs = omega (arith, lines_le (slice_split (λ b. eqb b 10) bs), length-slice_split (λ b. eqb b 10) bs, count_by-le-length (λ b. eqb b 10) bs)

-- one more line, which goes on
pub marked : (pending : Option Open) (n : ℕ) (ls : List (List ℕ)) (k : ℕ) (l : List ℕ) (now : Open) → k < length ls → l ≡ get_or ls k l → goes_on l ≡ true
    → ((rest : List Line) → continued now.number (string_bytes now.text) rest ≡ finished pending (continued n (body l) rest))
    → finished (Some now) (joined (n + 1) (drop (k + 1) ls)) ≡ finished pending (joined n (drop k ls))
unfolding joined
marked pending n ls k l now lt is mark step =
    let d : drop k ls ≡ l ∷ drop (k + 1) ls = rw (drop_more ls k l lt, ← is) refl in
    rw d (rw mark (rw mark at (step (joined (n + 1) (drop (k + 1) ls)))))

finished-line : (pending : Option Open) (l : Line) (rest : List Line) → finished pending (l ∷ rest) ≡ finished pending (l ∷ []) ++ rest
finished-line None l rest = refl
finished-line (Some o) l rest = refl

-- one more line, which ends
pub ended : (done : List Line) (pending : Option Open) (n : ℕ) (ls : List (List ℕ)) (k : ℕ) (l : List ℕ) (now : Line) → k < length ls → l ≡ get_or ls k l → goes_on l ≡ false
    → ((rest : List Line) → continued now.number now.text rest ≡ finished pending (continued n (body l) rest))
    → (done ++ now ∷ []) ++ joined (n + 1) (drop (k + 1) ls) ≡ done ++ finished pending (joined n (drop k ls))
unfolding joined
ended done pending n ls k l now lt is mark step =
    let d : drop k ls ≡ l ∷ drop (k + 1) ls = rw (drop_more ls k l lt, ← is) refl in
    let rest : List Line = joined (n + 1) (drop (k + 1) ls) in
    let one : now ∷ [] ≡ finished pending (record { number = n; text = l } ∷ []) = rw mark at (step []) in
    rw d (rw mark (append_assoc done (now ∷ []) rest ∙ ap (λ (x : List Line). done ++ x) (ap (λ (x : List Line). x ++ rest) one ∙ sym (finished-line pending (record { number = n; text = l }) rest))))
