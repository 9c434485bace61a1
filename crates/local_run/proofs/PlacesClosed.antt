-- Where an attempt stands among those that are held.
use Rattle.std.proofs.Common.{◌≡◌, ◌≤◌, ◌<◌, ◌+◌, ◌∙◌, ℕ, zero, suc, Bool, true, false, cond, List, [], ◌∷◌, ◌++◌, length, Some, None, refl, sym, ap, arith, get_or, take, drop, length-append, true≢false}
use Rattle.std.specs.Prelude.{◌==◌, is_some, nat_lt}
use Rattle.std.specs.List.{position, position_or_len}
use Rattle.std.proofs.lemmas.Bool.{eqb-false, eqb-true, ltb-false}
use Rattle.std.proofs.lemmas.List.Quantifiers.{position-Some}
use Rattle.std.proofs.lemmas.List.Sums.{fails_before_first}
use Rattle.flow_types.specs.declared.numbers.AttemptNo.{AttemptNo}
use Rattle.desk.specs.declared.attempt.Attempt.{Attempt}
use Rattle.local_run.specs.Underway.{IsHeld}

abbrev numbered : AttemptNo → Attempt → Bool
numbered number a = a.number.0 == number.0

itself : (n : ℕ) → (n == n) ≡ true
itself n = by_itself (n == n) refl
  where
    by_itself : (b : Bool) → (n == n) ≡ b → b ≡ true
    by_itself true is = refl
    by_itself false is = absurd (eqb-false n n is refl)

at_front : (front : List Attempt) (a : Attempt) (back : List Attempt) (d : Attempt) → get_or (front ++ (a ∷ back)) (length front) d ≡ a
at_front [] a back d = refl
at_front (f ∷ fs) a back d = at_front fs a back d

-- one that is held is found
pub held_found : (number : AttemptNo) (attempts : List Attempt) → IsHeld number attempts → position (λ (a : Attempt). a.number.0 == number.0) attempts ≡ None → ⊥
held_found number attempts held none =
    by_place (nat_lt (position_or_len (numbered number) attempts) (length attempts)) refl none
  where
    by_place : (b : Bool) → nat_lt (position_or_len (numbered number) attempts) (length attempts) ≡ b → cond b (Some (position_or_len (numbered number) attempts)) None ≡ None → ⊥
    by_place true is none = true≢false (ap is_some none)
    by_place false is none =
        let past : length attempts ≤ position_or_len (numbered number) attempts = ltb-false (position_or_len (numbered number) attempts) (length attempts) is in
        let long : length attempts ≡ length held.0 + length (held.1 ∷ held.2) = ap length held.3 ∙ length-append held.0 (held.1 ∷ held.2) in
        let fails : numbered number (get_or attempts (length held.0) held.1) ≡ false = fails_before_first (numbered number) attempts (length held.0) held.1 (omega (arith, past, long)) in
        let here : get_or attempts (length held.0) held.1 ≡ held.1 = ap (λ (l : List Attempt). get_or l (length held.0) held.1) held.3 ∙ at_front held.0 held.1 held.2 held.1 in
        let passes : numbered number held.1 ≡ true = ap (λ (n : AttemptNo). n.0 == number.0) held.4 ∙ itself number.0 in
        true≢false (sym passes ∙ sym (ap (numbered number) here) ∙ fails)

split_at : (xs : List Attempt) (i : ℕ) (d : Attempt) → i < length xs → xs ≡ take i xs ++ (get_or xs i d ∷ drop (suc i) xs)
split_at [] i d inside = absurd (let wrong : ⊥ = omega (arith, inside) in wrong)
split_at (x ∷ xs) zero d inside = refl
split_at (x ∷ xs) (suc i) d inside = ap (λ (l : List Attempt). x ∷ l) (split_at xs i d (omega (arith, inside)))

-- where it stands it may be taken out
pub taken_at : (number : AttemptNo) (attempts : List Attempt) (at : ℕ) (d : Attempt) → position (λ (a : Attempt). a.number.0 == number.0) attempts ≡ Some at
    → (at < length attempts) × (attempts ≡ take at attempts ++ (get_or attempts at d ∷ drop (suc at) attempts)) × ((get_or attempts at d).number ≡ number)
taken_at number attempts at d found =
    let is = position-Some (numbered number) attempts at d found in
    (is.0, split_at attempts at d is.0, ap (λ (n : ℕ). let m : AttemptNo = record { 0 = n } in m) (eqb-true (get_or attempts at d).number.0 number.0 is.1))
