-- Texts that lack a byte, and the pieces that a dollar or a plain run begins.
use Rattle.std.proofs.Common.{◌≡◌, ◌≢◌, ℕ, zero, suc, ◌+◌, ◌<◌, ◌≤◌, Bool, true, false, not, cond, eqb, ◌||◌, List, [], ◌∷◌, ◌++◌, map, length, get_or, take, drop, Some, None, refl, ap, subst, arith, add-one, length-drop}
use Rattle.std.proofs.lemmas.Bool.{ne_eqb, or_parts, or_from}
use Rattle.std.proofs.lemmas.Bool.Decides.{nat_tests}
use Rattle.std.proofs.lemmas.List.Sums.{prefix_len-le-length, prefix_len_passes}
use Rattle.std.proofs.lemmas.Str.{IsCharBoundary-start, IsCharBoundary-after_ascii}
use Rattle.std.specs.List.{position_or_len, prefix_len, take_while}
use Rattle.std.specs.Str.{IsUtf8, IsCharBoundary}
use Rattle.mf_text.specs.Names.{begins_name, continues_name}
use Rattle.mf_text.specs.Expansion.{Piece, plain, dollar, named, unclosed, holds, between, after_dollar, pieces, pieces_from}
use Rattle.mf_text.specs.Parts.{Lacks}

-- ---- what a text lacks

pub lacks_later : (c n : ℕ) (bs : List ℕ) → holds c bs ≡ false → holds c (drop n bs) ≡ false
lacks_later c zero bs h = h
lacks_later c (suc n) [] h = refl
lacks_later c (suc n) (b ∷ bs) h = lacks_later c n bs (or_parts (eqb b c) (holds c bs) h).1

pub lacks_before : (c k : ℕ) (bs : List ℕ) → ((i : ℕ) → i < k → get_or bs i 0 ≢ c) → holds c (take k bs) ≡ false
lacks_before c zero bs h = refl
lacks_before c (suc k) [] h = refl
lacks_before c (suc k) (b ∷ bs) h = or_from (eqb b c) (holds c (take k bs)) (ne_eqb b c (h 0 (omega arith))) (lacks_before c k bs (λ i lt. h (suc i) (omega arith)))

pub lacks_everywhere : (c : ℕ) (bs : List ℕ) → ((i : ℕ) → i < length bs → get_or bs i 0 ≢ c) → holds c bs ≡ false
lacks_everywhere c [] h = refl
lacks_everywhere c (b ∷ bs) h = or_from (eqb b c) (holds c bs) (ne_eqb b c (h 0 (omega arith))) (lacks_everywhere c bs (λ i lt. h (suc i) (omega arith)))

pub lacks_without_place : (c : ℕ) (bs : List ℕ) → position_or_len (λ b. eqb b c) bs ≡ length bs → holds c bs ≡ false
lacks_without_place c [] h = refl
lacks_without_place c (b ∷ bs) h =
    elim (eqb b c) as (λ t. cond (not t) (1 + position_or_len (λ b. eqb b c) bs) 0 ≡ suc (length bs) → (t || holds c bs) ≡ false) [
      | true ↦ λ e. absurd (omega (arith, e))
      | false ↦ λ e. lacks_without_place c bs (omega (arith, e))
    ] h

-- what was missed in a text is missing behind its first byte too
pub Lacks-behind : (missed : Bool) (close first n : ℕ) (text behind rest : List ℕ) → text ≡ first ∷ behind → rest ≡ drop n behind → Lacks missed close text → Lacks missed close rest
Lacks-behind missed close first n text behind rest t r lacks m =
    rw r (lacks_later close n behind (or_parts (eqb first close) (holds close behind) (rw t at (lacks m))).1)

pub Lacks-drop : (missed : Bool) (close n : ℕ) (text rest : List ℕ) → rest ≡ drop n text → Lacks missed close text → Lacks missed close rest
Lacks-drop missed close n text rest r lacks m = rw r (lacks_later close n text (lacks m))

pub between-lacking : (c : ℕ) (bs : List ℕ) → holds c bs ≡ false → between c bs ≡ (unclosed, 0)
between-lacking c bs h = rw h refl

-- ---- names

ascii : (c : ℕ) → continues_name c ≡ true → c < 128
unfolding continues_name begins_name
ascii c h = grind (arith, nat_tests)

pub name_boundary : (bs : List ℕ) (n : ℕ) → IsUtf8 bs → n ≡ prefix_len continues_name bs → IsCharBoundary bs n
name_boundary bs zero u e = IsCharBoundary-start bs u
name_boundary bs (suc m) u e =
    let within : suc m ≤ length bs = omega (arith, prefix_len-le-length continues_name bs) in
    let passes : continues_name (get_or bs m 0) ≡ true = prefix_len_passes continues_name bs m 0 (omega arith) in
    subst (λ k. IsCharBoundary bs k) (add-one m) (IsCharBoundary-after_ascii bs m u (omega arith) (ascii (get_or bs m 0) passes))

pub len_of_name : (b : Bool) (n m : ℕ) → Some n ≡ cond b (Some m) None → (b ≡ true) × (n ≡ m)
len_of_name true n m h = (refl, cc)
len_of_name false n m h = cc

-- ---- what a dollar begins

abbrev pub BeginsOtherwise : ℕ → List ℕ → Type 0
BeginsOtherwise c bs = (rest : List ℕ) → bs ≢ c ∷ rest

otherwise : (c b : ℕ) (bs : List ℕ) → BeginsOtherwise c (b ∷ bs) → eqb b c ≡ false
otherwise c b bs h = ne_eqb b c (λ e. h bs (ap (λ x. x ∷ bs) e))

pub after_dollar-name : (bs : List ℕ) → BeginsOtherwise 36 bs → BeginsOtherwise 40 bs → BeginsOtherwise 123 bs → begins_name (get_or bs 0 0) ≡ true
    → after_dollar bs ≡ (named (take_while continues_name bs), prefix_len continues_name bs)
unfolding begins_name
after_dollar-name [] d p b h = cc
after_dollar-name (c ∷ bs) d p b h =
    let e : eqb c 36 ≡ false = otherwise 36 c bs d in
    let f : eqb c 40 ≡ false = otherwise 40 c bs p in
    let g : eqb c 123 ≡ false = otherwise 123 c bs b in
    rw (e, f, g, h) refl

pub after_dollar-other : (bs : List ℕ) → BeginsOtherwise 36 bs → BeginsOtherwise 40 bs → BeginsOtherwise 123 bs → begins_name (get_or bs 0 0) ≡ false
    → after_dollar bs ≡ (dollar, 0)
after_dollar-other [] d p b h = refl
after_dollar-other (c ∷ bs) d p b h =
    let e : eqb c 36 ≡ false = otherwise 36 c bs d in
    let f : eqb c 40 ≡ false = otherwise 40 c bs p in
    let g : eqb c 123 ≡ false = otherwise 123 c bs b in
    rw (e, f, g, h) refl

-- ---- the pieces of a text

pub pieces_from-is : (n : ℕ) (bs : List ℕ) → pieces_from n bs ≡ pieces (drop n bs)
unfolding pieces_from
pieces_from-is zero bs = refl
pieces_from-is (suc n) [] = refl
pieces_from-is (suc n) (b ∷ bs) = pieces_from-is n bs

pub pieces-dollar : (text behind rest : List ℕ) (ps : List Piece) → text ≡ 36 ∷ behind → ps ≡ (after_dollar behind).0 ∷ [] → rest ≡ drop (after_dollar behind).1 behind
    → pieces text ≡ ps ++ pieces rest
unfolding pieces_from
pieces-dollar text behind rest ps t p r = rw (t, p, r) (ap (λ (qs : List Piece). (after_dollar behind).0 ∷ qs) (pieces_from-is (after_dollar behind).1 behind))

plain_run : (front rest : List ℕ) → holds 36 front ≡ false → pieces (front ++ rest) ≡ map plain front ++ pieces rest
unfolding pieces_from
plain_run [] rest h = refl
plain_run (b ∷ bs) rest h =
    let parts : (eqb b 36 ≡ false) × (holds 36 bs ≡ false) = or_parts (eqb b 36) (holds 36 bs) h in
    rw parts.0 (ap (λ (qs : List Piece). plain b ∷ qs) (plain_run bs rest parts.1))

pub pieces-plain : (text front rest : List ℕ) → text ≡ front ++ rest → holds 36 front ≡ false → pieces text ≡ map plain front ++ pieces rest
pieces-plain text front rest t h = rw t (plain_run front rest h)

pub length-behind : (text behind rest : List ℕ) (n : ℕ) → text ≡ 36 ∷ behind → rest ≡ drop n behind → length rest < length text
length-behind text behind rest n t r = rw (t, r) (omega (arith, length-drop n behind))
