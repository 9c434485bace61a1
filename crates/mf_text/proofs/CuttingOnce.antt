-- A text is cut into its pieces, and into no others.
use Rattle.std.proofs.Common.{◌≡◌, ℕ, zero, suc, ◌+◌, ◌<◌, ◌≤◌, Bool, true, false, not, cond, eqb, ◌||◌, List, [], ◌∷◌, ◌++◌, length, get_or, take, drop, inl, inr, refl, sym, ap, subst, ◌∙◌, append_assoc, arith, length-drop}
use Rattle.std.proofs.lemmas.Bool.{or_parts, and_parts, and_from, eq-eqb, eqb-true, eqb-false, false≢true, or_left}
use Rattle.std.proofs.lemmas.List.{take-append-drop, take_more}
use Rattle.std.proofs.lemmas.List.Sums.{passes_at_first, fails_before_first, take_while-cons}
use Rattle.std.specs.List.{position_or_len, before_first, prefix_len, take_while, list_all}
use Rattle.mf_text.specs.Names.{begins_name, continues_name, is_variable}
use Rattle.mf_text.specs.Expansion.{Piece, plain, dollar, named, unclosed, holds, between, with_mark, after_dollar, pieces, pieces_from}
use Rattle.mf_text.specs.Cuts.{Encloses, StaysOpen, IsBareName, Spells, IsCut, TextsAreCutOnce}
use Rattle.mf_text.proofs.Cutting.{BeginsOtherwise, after_dollar-name, after_dollar-other, between-lacking, pieces-dollar, lacks_before}

-- ---- the first place of a mark

at_mark : (c n : ℕ) → eqb c c ≡ true → cond (not (eqb c c)) n 0 ≡ 0
at_mark c n h = rw h refl

place-before : (c : ℕ) (x behind : List ℕ) → holds c x ≡ false → position_or_len (λ b. eqb b c) (x ++ c ∷ behind) ≡ length x
place-before c [] behind h = at_mark c (1 + position_or_len (λ b. eqb b c) behind) (eq-eqb c c refl)
place-before c (b ∷ bs) behind h =
    let parts : (eqb b c ≡ false) × (holds c bs ≡ false) = or_parts (eqb b c) (holds c bs) h in
    rw (parts.0, place-before c bs behind parts.1) (omega arith)

held-before : (c : ℕ) (x behind : List ℕ) → holds c (x ++ c ∷ behind) ≡ true
held-before c [] behind = or_left (eqb c c) (holds c behind) (eq-eqb c c refl)
held-before c (b ∷ bs) behind = elim (eqb b c) as (λ t. (t || holds c (bs ++ c ∷ behind)) ≡ true) [ true ↦ refl | false ↦ held-before c bs behind ]

take_front : (x y : List ℕ) → take (length x) (x ++ y) ≡ x
take_front [] y = refl
take_front (b ∷ bs) y = ap (λ z. b ∷ z) (take_front bs y)

drop_front : (x y : List ℕ) → drop (length x) (x ++ y) ≡ y
drop_front [] y = refl
drop_front (b ∷ bs) y = drop_front bs y

one_past : (n : ℕ) → suc n + 1 ≡ suc (n + 1)
one_past n = omega arith

drop_past : (x y : List ℕ) (c : ℕ) → drop (length x + 1) (x ++ c ∷ y) ≡ y
drop_past [] y c = refl
drop_past (b ∷ bs) y c = ap (λ (n : ℕ). drop n (b ∷ (bs ++ c ∷ y))) (one_past (length bs)) ∙ drop_past bs y c

between-closed : (c : ℕ) (x behind : List ℕ) → holds c x ≡ false → between c (x ++ c ∷ behind) ≡ (named x, length x + 1)
between-closed c x behind h =
    rw (held-before c x behind, place-before c x behind h, take_front x (c ∷ behind)) refl

-- ---- names

name_len-before : (x behind : List ℕ) → list_all continues_name x ≡ true → continues_name (get_or behind 0 0) ≡ false → prefix_len continues_name (x ++ behind) ≡ length x
name_len-before [] [] a h = refl
name_len-before [] (b ∷ bs) a h = rw h refl
name_len-before (b ∷ bs) behind a h =
    let parts : (continues_name b ≡ true) × (list_all continues_name bs ≡ true) = and_parts (continues_name b) (list_all continues_name bs) a in
    rw (parts.0, name_len-before bs behind parts.1 h) (omega arith)

first_of_name : (x behind : List ℕ) → begins_name (get_or x 0 0) ≡ true → get_or (x ++ behind) 0 0 ≡ get_or x 0 0
unfolding begins_name
first_of_name [] behind h = cc
first_of_name (b ∷ bs) behind h = refl

not_first : (c : ℕ) (bs : List ℕ) → begins_name c ≡ false → begins_name (get_or bs 0 0) ≡ true → BeginsOtherwise c bs
not_first c bs no_name h rest e = false≢true (sym no_name ∙ ap begins_name (sym (ap (λ (l : List ℕ). get_or l 0 0) e)) ∙ h)

dollar_no_name : begins_name 36 ≡ false
unfolding begins_name
dollar_no_name = refl

parenthesis_no_name : begins_name 40 ≡ false
unfolding begins_name
parenthesis_no_name = refl

brace_no_name : begins_name 123 ≡ false
unfolding begins_name
brace_no_name = refl

after_dollar-bare : (x behind : List ℕ) → is_variable x ≡ true → continues_name (get_or behind 0 0) ≡ false → after_dollar (x ++ behind) ≡ (named x, length x)
after_dollar-bare x behind v h =
    let parts : (begins_name (get_or x 0 0) ≡ true) × (list_all continues_name x ≡ true) = and_parts (begins_name (get_or x 0 0)) (list_all continues_name x) v in
    let begins : begins_name (get_or (x ++ behind) 0 0) ≡ true = ap begins_name (first_of_name x behind parts.0) ∙ parts.0 in
    after_dollar-name (x ++ behind) (not_first 36 (x ++ behind) dollar_no_name begins) (not_first 40 (x ++ behind) parenthesis_no_name begins) (not_first 123 (x ++ behind) brace_no_name begins) begins
    ∙ ap (λ (n : ℕ). let p : Piece × ℕ = (named (take n (x ++ behind)), n) in p) (name_len-before x behind parts.1 h)
    ∙ ap (λ (l : List ℕ). let p : Piece × ℕ = (named l, length x) in p) (take_front x behind)

otherwise_first : (c : ℕ) (bs : List ℕ) → eqb (get_or bs 0 0) c ≡ false → BeginsOtherwise c bs
otherwise_first c bs h rest e = eqb-false (get_or bs 0 0) c h (ap (λ (l : List ℕ). get_or l 0 0) e)

-- ---- each cut is the pieces

-- a dollar with these bytes behind it, of which the piece takes n
dollar_step : (bytes behind after : List ℕ) (p : Piece) (n : ℕ) → bytes ≡ 36 ∷ after → after_dollar (after ++ behind) ≡ (p, n) → drop n (after ++ behind) ≡ behind
    → pieces (bytes ++ behind) ≡ p ∷ pieces behind
dollar_step bytes behind after p n b is rest =
    pieces-dollar (bytes ++ behind) (after ++ behind) behind (p ∷ []) (ap (λ (l : List ℕ). l ++ behind) b) (ap (λ (q : Piece × ℕ). q.0 ∷ []) (sym is))
    (sym rest ∙ ap (λ (q : Piece × ℕ). drop q.1 (after ++ behind)) (sym is))

enclosed_step : (opening closing : ℕ) (x bytes behind : List ℕ) → Encloses opening closing x bytes
    → ((l : List ℕ) → after_dollar (opening ∷ l) ≡ with_mark (between closing l))
    → pieces (bytes ++ behind) ≡ named x ∷ pieces behind
enclosed_step opening closing x bytes behind e mark =
    let inside : (x ++ closing ∷ []) ++ behind ≡ x ++ closing ∷ behind = append_assoc x (closing ∷ []) behind in
    dollar_step bytes behind (opening ∷ (x ++ closing ∷ [])) (named x) (suc (length x + 1)) e.0
    (mark ((x ++ closing ∷ []) ++ behind) ∙ ap (λ (l : List ℕ). with_mark (between closing l)) inside ∙ ap with_mark (between-closed closing x behind e.1))
    (ap (λ (l : List ℕ). drop (length x + 1) l) inside ∙ drop_past x behind closing)

open_step : (opening closing : ℕ) (bytes behind : List ℕ) → StaysOpen opening closing bytes behind
    → ((l : List ℕ) → after_dollar (opening ∷ l) ≡ with_mark (between closing l))
    → pieces (bytes ++ behind) ≡ unclosed ∷ pieces behind
open_step opening closing bytes behind e mark =
    dollar_step bytes behind (opening ∷ []) unclosed 1 e.0 (mark behind ∙ ap with_mark (between-lacking closing behind e.1)) refl

bare_step : (x bytes behind : List ℕ) → IsBareName x bytes behind → pieces (bytes ++ behind) ≡ named x ∷ pieces behind
bare_step x bytes behind e = dollar_step bytes behind x (named x) (length x) e.0 (after_dollar-bare x behind e.1 e.2) (drop_front x behind)

plain_step : (b : ℕ) (behind : List ℕ) → eqb b 36 ≡ false → pieces (b ∷ behind) ≡ plain b ∷ pieces behind
unfolding pieces_from
plain_step b behind h = rw h refl

cut_step : (p : Piece) (bytes behind : List ℕ) → Spells p bytes behind → pieces (bytes ++ behind) ≡ p ∷ pieces behind
cut_step (plain b) bytes behind s = ap (λ (l : List ℕ). pieces (l ++ behind)) s.0 ∙ plain_step b behind s.1
cut_step dollar bytes behind s = elim s [
  | inl two ↦ dollar_step bytes behind (36 ∷ []) dollar 1 two refl refl
  | inr one ↦ dollar_step bytes behind [] dollar 0 one.0
      (after_dollar-other behind (otherwise_first 36 behind one.1.0) (otherwise_first 40 behind one.1.1) (otherwise_first 123 behind one.1.2) one.1.3) refl
]
cut_step (named x) bytes behind s = elim s [
  | inl bare ↦ bare_step x bytes behind bare
  | inr marked ↦ elim marked [ inl round ↦ enclosed_step 40 41 x bytes behind round (λ l. refl) | inr curly ↦ enclosed_step 123 125 x bytes behind curly (λ l. refl) ]
]
cut_step unclosed bytes behind s = elim s [ inl round ↦ open_step 40 41 bytes behind round (λ l. refl) | inr curly ↦ open_step 123 125 bytes behind curly (λ l. refl) ]

pub cut_once : (ps : List Piece) (text : List ℕ) → IsCut ps text → ps ≡ pieces text
unfolding pieces_from
cut_once [] text e = rw e refl
cut_once (p ∷ ps) text (bytes, (behind, (t, (spells, more)))) =
    ap (λ (qs : List Piece). p ∷ qs) (cut_once ps behind more) ∙ sym (cut_step p bytes behind spells) ∙ ap (λ (l : List ℕ). pieces l) (sym t)

-- ---- the pieces are a cut

abbrev pub SpellsFront : Piece × ℕ → List ℕ → Type 0
SpellsFront piece bs = Spells piece.0 (36 ∷ take piece.1 bs) (drop piece.1 bs)

place_within : (c : ℕ) (bs : List ℕ) → holds c bs ≡ true → position_or_len (λ b. eqb b c) bs < length bs
place_within c [] h = cc
place_within c (b ∷ bs) h =
    elim (eqb b c) as (λ t. (t || holds c bs) ≡ true → cond (not t) (1 + position_or_len (λ b. eqb b c) bs) 0 < suc (length bs)) [
      | true ↦ λ _. omega arith
      | false ↦ λ e. let within = place_within c bs e in omega (arith, within)
    ] h

enclosed_at : (opening closing : ℕ) (bs : List ℕ) → holds closing bs ≡ true
    → Encloses opening closing (before_first (λ b. eqb b closing) bs) (36 ∷ opening ∷ take (position_or_len (λ b. eqb b closing) bs + 1) bs)
enclosed_at opening closing bs h =
    let at : ℕ = position_or_len (λ b. eqb b closing) bs in
    let within : at < length bs = place_within closing bs h in
    let mark : get_or bs at 0 ≡ closing = eqb-true (get_or bs at 0) closing (passes_at_first (λ b. eqb b closing) bs 0 within) in (
      ap (λ (l : List ℕ). 36 ∷ opening ∷ l) (take_more bs at 0 within ∙ ap (λ (b : ℕ). take at bs ++ b ∷ []) mark),
      lacks_before closing at bs (λ i lt. eqb-false (get_or bs i 0) closing (fails_before_first (λ b. eqb b closing) bs i 0 lt)),
    )

between-held : (c : ℕ) (bs : List ℕ) → holds c bs ≡ true → between c bs ≡ (named (before_first (λ b. eqb b c) bs), position_or_len (λ b. eqb b c) bs + 1)
between-held c bs h = rw h refl

marked_front : (opening closing : ℕ) (bs : List ℕ) (h : Bool) → holds closing bs ≡ h
    → ((x bytes behind : List ℕ) → Encloses opening closing x bytes → Spells (named x) bytes behind)
    → ((bytes behind : List ℕ) → StaysOpen opening closing bytes behind → Spells unclosed bytes behind)
    → SpellsFront (with_mark (between closing bs)) (opening ∷ bs)
marked_front opening closing bs true h enclosed opened =
    subst (λ (q : Piece × ℕ). SpellsFront (with_mark q) (opening ∷ bs)) (sym (between-held closing bs h))
    (enclosed (before_first (λ b. eqb b closing) bs) (36 ∷ opening ∷ take (position_or_len (λ b. eqb b closing) bs + 1) bs) (drop (position_or_len (λ b. eqb b closing) bs + 1) bs) (enclosed_at opening closing bs h))
marked_front opening closing bs false h enclosed opened =
    subst (λ (q : Piece × ℕ). SpellsFront (with_mark q) (opening ∷ bs)) (sym (between-lacking closing bs h))
    (opened (36 ∷ opening ∷ []) bs (refl, h))

-- ---- a name at the front

all_of_front : (b : ℕ) (bs : List ℕ) (t : Bool) → continues_name b ≡ t → list_all continues_name (take_while continues_name bs) ≡ true
    → list_all continues_name (cond t (b ∷ take_while continues_name bs) []) ≡ true
all_of_front b bs true h rest = and_from (continues_name b) (list_all continues_name (take_while continues_name bs)) h rest
all_of_front b bs false h rest = refl

all_of_name : (bs : List ℕ) → list_all continues_name (take_while continues_name bs) ≡ true
all_of_name [] = refl
all_of_name (b ∷ bs) =
    subst (λ (l : List ℕ). list_all continues_name l ≡ true) (sym (take_while-cons continues_name b bs)) (all_of_front b bs (continues_name b) refl (all_of_name bs))

first_kept : (c : ℕ) (bs : List ℕ) → continues_name c ≡ true → get_or (take_while continues_name (c ∷ bs)) 0 0 ≡ c
first_kept c bs h = ap (λ (l : List ℕ). get_or l 0 0) (take_while-cons continues_name c bs) ∙ rw h refl

begun_continues : (c : ℕ) → begins_name c ≡ true → continues_name c ≡ true
unfolding continues_name
begun_continues c h = or_left (begins_name c) _ h

none_continues : continues_name 0 ≡ false
unfolding continues_name begins_name
none_continues = refl

none_begins : begins_name 0 ≡ false
unfolding begins_name
none_begins = refl

one_more : (n : ℕ) → 1 + n ≡ suc n
one_more n = omega arith

name_ends_by : (b : ℕ) (bs : List ℕ) (t : Bool) → continues_name b ≡ t → continues_name (get_or (drop (prefix_len continues_name bs) bs) 0 0) ≡ false
    → continues_name (get_or (drop (cond t (1 + prefix_len continues_name bs) 0) (b ∷ bs)) 0 0) ≡ false
name_ends_by b bs true h rest = subst (λ (n : ℕ). continues_name (get_or (drop n (b ∷ bs)) 0 0) ≡ false) (sym (one_more (prefix_len continues_name bs))) rest
name_ends_by b bs false h rest = h

name_ends : (bs : List ℕ) → continues_name (get_or (drop (prefix_len continues_name bs) bs) 0 0) ≡ false
name_ends [] = none_continues
name_ends (b ∷ bs) = name_ends_by b bs (continues_name b) refl (name_ends bs)

name_front : (c : ℕ) (bs : List ℕ) → begins_name c ≡ true → SpellsFront (named (take_while continues_name (c ∷ bs)), prefix_len continues_name (c ∷ bs)) (c ∷ bs)
name_front c bs h =
    let first : begins_name (get_or (take_while continues_name (c ∷ bs)) 0 0) ≡ true = ap begins_name (first_kept c bs (begun_continues c h)) ∙ h in
    inl (refl, and_from (begins_name (get_or (take_while continues_name (c ∷ bs)) 0 0)) (list_all continues_name (take_while continues_name (c ∷ bs))) first (all_of_name (c ∷ bs)), name_ends (c ∷ bs))

-- ---- whatever stands behind a dollar

front_by : (bs : List ℕ) (q : Piece × ℕ) → after_dollar bs ≡ q → SpellsFront q bs → SpellsFront (after_dollar bs) bs
front_by bs q e s = subst (λ (r : Piece × ℕ). SpellsFront r bs) (sym e) s

front_at : (c : ℕ) (bs : List ℕ) (d : ℕ) → eqb c d ≡ true → SpellsFront (after_dollar (d ∷ bs)) (d ∷ bs) → SpellsFront (after_dollar (c ∷ bs)) (c ∷ bs)
front_at c bs d e s = subst (λ (x : ℕ). SpellsFront (after_dollar (x ∷ bs)) (x ∷ bs)) (sym (eqb-true c d e)) s

front_of : (c : ℕ) (bs : List ℕ) (d p b n : Bool) → eqb c 36 ≡ d → eqb c 40 ≡ p → eqb c 123 ≡ b → begins_name c ≡ n → SpellsFront (after_dollar (c ∷ bs)) (c ∷ bs)
front_of c bs true p b n d' p' b' n' = front_at c bs 36 d' (inl refl)
front_of c bs false true b n d' p' b' n' =
    front_at c bs 40 p' (marked_front 40 41 bs (holds 41 bs) refl (λ x bytes behind e. inr (inl e)) (λ bytes behind o. inl o))
front_of c bs false false true n d' p' b' n' =
    front_at c bs 123 b' (marked_front 123 125 bs (holds 125 bs) refl (λ x bytes behind e. inr (inr e)) (λ bytes behind o. inr o))
front_of c bs false false false true d' p' b' n' =
    front_by (c ∷ bs) (named (take_while continues_name (c ∷ bs)), prefix_len continues_name (c ∷ bs))
    (after_dollar-name (c ∷ bs) (otherwise_first 36 (c ∷ bs) d') (otherwise_first 40 (c ∷ bs) p') (otherwise_first 123 (c ∷ bs) b') n') (name_front c bs n')
front_of c bs false false false false d' p' b' n' =
    front_by (c ∷ bs) (dollar, 0)
    (after_dollar-other (c ∷ bs) (otherwise_first 36 (c ∷ bs) d') (otherwise_first 40 (c ∷ bs) p') (otherwise_first 123 (c ∷ bs) b') n') (inr (refl, (d', p', b', n')))

front : (bs : List ℕ) → SpellsFront (after_dollar bs) bs
front [] = inr (refl, (refl, refl, refl, none_begins))
front (c ∷ bs) = front_of c bs (eqb c 36) (eqb c 40) (eqb c 123) (begins_name c) refl refl refl refl

cut_by : (b : ℕ) (bs : List ℕ) (t : Bool) → eqb b 36 ≡ t → IsCut (pieces bs) bs → IsCut (pieces (drop (after_dollar bs).1 bs)) (drop (after_dollar bs).1 bs) → IsCut (pieces (b ∷ bs)) (b ∷ bs)
cut_by b bs true h plain_rest rest =
    let is : pieces (b ∷ bs) ≡ (after_dollar bs).0 ∷ pieces (drop (after_dollar bs).1 bs) = pieces-dollar (b ∷ bs) bs (drop (after_dollar bs).1 bs) ((after_dollar bs).0 ∷ []) (ap (λ (x : ℕ). x ∷ bs) (eqb-true b 36 h)) refl refl in
    subst (λ (ps : List Piece). IsCut ps (b ∷ bs)) (sym is) (
      36 ∷ take (after_dollar bs).1 bs,
      (
        drop (after_dollar bs).1 bs,
        (ap (λ (x : ℕ). x ∷ bs) (eqb-true b 36 h) ∙ ap (λ (l : List ℕ). 36 ∷ l) (sym (take-append-drop (after_dollar bs).1 bs)), (front bs, rest)),
      ),
    )
cut_by b bs false h plain_rest rest =
    subst (λ (ps : List Piece). IsCut ps (b ∷ bs)) (sym (plain_step b bs h)) (b ∷ [], (bs, (refl, ((refl, h), plain_rest))))

cut_to : (n : ℕ) (text : List ℕ) → length text ≤ n → IsCut (pieces text) text
unfolding pieces_from
cut_to n [] h = refl
cut_to zero (b ∷ bs) h = absurd (omega (arith, h))
cut_to (suc n) (b ∷ bs) h =
    cut_by b bs (eqb b 36) refl (cut_to n bs (omega (arith, h)))
    (cut_to n (drop (after_dollar bs).1 bs) (omega (arith, h, length-drop (after_dollar bs).1 bs)))

pub texts_are_cut_once : TextsAreCutOnce
texts_are_cut_once text = (cut_to (length text) text (omega arith), λ ps cut. cut_once ps text cut)
