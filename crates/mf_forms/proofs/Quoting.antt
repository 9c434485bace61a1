-- The bytes of a text with their places, from left to right.
use lib.Utf8.{encodes, encode}
use Rattle.std.proofs.Common.{◌≡◌, ◌≢◌, ℕ, zero, suc, ◌+◌, ◌<◌, ◌≤◌, Bool, true, false, not, ◌&&◌, cond, eqb, ltb, List, [], ◌∷◌, ◌++◌, map, length, get_or, take, drop, codes, Option, Some, None, refl, sym, ap, subst, ◌∙◌, inl, inr, arith, append_assoc}
use Rattle.std.proofs.lemmas.Bool.{cases_lt, and_parts, and_right, both_ways, eqb-true, eqb-false, ltb-true, ne_eqb, le-ltb}
use Rattle.std.proofs.lemmas.Bool.Decides.{nat_tests}
use Rattle.std.proofs.lemmas.List.{drop_more, drop_all, append-nil}
use Rattle.std.proofs.lemmas.List.Folds.{length-prefix_len}
use Rattle.std.proofs.lemmas.List.Sums.{prefix_len-le-length, passes_at_first}
use Rattle.std.proofs.lemmas.Str.{IsCharBoundary-end, IsCharBoundary-before_ascii, IsCharBoundary-after_ascii, encode_ascii, inside_one}
use Rattle.std.specs.List.{position_or_len, prefix_len, before_first}
use Rattle.std.specs.Str.{IsUtf8, IsCharBoundary}
use Rattle.mf_text.specs.Expansion.{holds}
use Rattle.mf_forms.specs.Words.{is_blank, without_front, runs}
use Rattle.mf_forms.specs.Quotes.{Place, bare, quoted, mark, place_behind, open_behind, placed_behind, placed, is_bare, is_mark, is_quote, is_bare_among, bare_position, is_enclosed, without_marks}
use Rattle.mf_forms.specs.Heads.{is_gap, items, files_of_head}
use Rattle.mf_forms.proofs.Places.{PassesAscii}
use Rattle.mf_forms.proofs.Runs.{runs-none, runs-first, runs-front}

module _ (f : ℕ × Place → Bool) where
  pub position-passes : (m : Option ℕ) (c : ℕ) (more : List ℕ) → f (c, place_behind m c) ≡ true → position_or_len f (placed_behind m (c ∷ more)) ≡ 0
  position-passes m c more h = rw h refl

  pub position-fails : (m : Option ℕ) (c : ℕ) (more : List ℕ) → f (c, place_behind m c) ≡ false
      → position_or_len f (placed_behind m (c ∷ more)) ≡ 1 + position_or_len f (placed_behind (open_behind m c) more)
  position-fails m c more h = rw h refl

  -- the byte at a place is the first that passes
  pub position-found : (m : Option ℕ) (text : List ℕ) (at c whole : ℕ) → at < length text → c ≡ get_or text at 0 → f (c, place_behind m c) ≡ true
      → at + position_or_len f (placed_behind m (drop at text)) ≡ whole → at ≡ whole
  position-found m text at c whole lt is h inv =
      let d : drop at text ≡ c ∷ drop (at + 1) text = rw is (drop_more text at 0 lt) in
      let here : position_or_len f (placed_behind m (drop at text)) ≡ 0 = rw d (position-passes m c (drop (at + 1) text) h) in
      omega (arith, here, inv)

  -- the byte at a place doesn't pass
  pub position-missed : (m : Option ℕ) (text : List ℕ) (at c whole : ℕ) → at < length text → c ≡ get_or text at 0 → f (c, place_behind m c) ≡ false
      → at + position_or_len f (placed_behind m (drop at text)) ≡ whole → (at + 1) + position_or_len f (placed_behind (open_behind m c) (drop (at + 1) text)) ≡ whole
  position-missed m text at c whole lt is h inv =
      let d : drop at text ≡ c ∷ drop (at + 1) text = rw is (drop_more text at 0 lt) in
      let here : position_or_len f (placed_behind m (drop at text)) ≡ 1 + position_or_len f (placed_behind (open_behind m c) (drop (at + 1) text)) = rw d (position-fails m c (drop (at + 1) text) h) in
      omega (arith, here, inv)

-- ---- bytes by their places

pub length-placed : (m : Option ℕ) (text : List ℕ) → length (placed_behind m text) ≡ length text
length-placed m [] = refl
length-placed m (c ∷ more) = ap suc (length-placed (open_behind m c) more)

pub byte-placed : (m : Option ℕ) (text : List ℕ) (k : ℕ) → (get_or (placed_behind m text) k (0, bare)).0 ≡ get_or text k 0
byte-placed m [] k = refl
byte-placed m (c ∷ more) zero = refl
byte-placed m (c ∷ more) (suc k) = byte-placed (open_behind m c) more k

pub take-placed : (k : ℕ) (m : Option ℕ) (text : List ℕ) → take k (placed_behind m text) ≡ placed_behind m (take k text)
take-placed zero m text = refl
take-placed (suc k) m [] = refl
take-placed (suc k) m (c ∷ more) = ap (λ bs. (c, place_behind m c) ∷ bs) (take-placed k (open_behind m c) more)

not_bare_inside : (b : Bool) → is_bare (cond b mark quoted) ≡ true → ⊥
not_bare_inside true h = cc
not_bare_inside false h = cc

-- no quote is open before a bare byte
pub drop-placed : (k : ℕ) (m : Option ℕ) (text : List ℕ) → k < length text → is_bare (get_or (placed_behind m text) k (0, bare)).1 ≡ true
    → drop k (placed_behind m text) ≡ placed (drop k text)
drop-placed k m [] lt h = absurd (omega (arith, lt))
drop-placed zero None (c ∷ more) lt h = refl
drop-placed zero (Some x) (c ∷ more) lt h = absurd (not_bare_inside (eqb c x) h)
drop-placed (suc k) m (c ∷ more) lt h = drop-placed k (open_behind m c) more (omega (arith, lt)) h

-- ---- where a text may be cut

-- the byte at the place is one that was wanted
pub wanted-there : (wanted text : List ℕ) → bare_position wanted text < length text → holds (get_or text (bare_position wanted text) 0) wanted ≡ true
wanted-there wanted text lt =
    let f : ℕ × Place → Bool = is_bare_among wanted in
    let passes : f (get_or (placed text) (bare_position wanted text) (0, bare)) ≡ true = passes_at_first f (placed text) (0, bare) (omega (arith, lt, length-placed None text)) in
    subst (λ c. holds c wanted ≡ true) (byte-placed None text (bare_position wanted text)) (and_parts _ _ passes).1

pub before_bare : (wanted : List ℕ) → PassesAscii (λ c. holds c wanted) → (text : List ℕ) (n : ℕ) → n ≡ bare_position wanted text → IsCharBoundary text n
before_bare wanted ascii text n e =
    elim (cases_lt (bare_position wanted text) (length text)) [
      | inl lt ↦
          rw e (IsCharBoundary-before_ascii text (bare_position wanted text) lt (ascii (get_or text (bare_position wanted text) 0) (wanted-there wanted text lt)))
      | inr ge ↦
          let all : bare_position wanted text ≡ length text = omega (arith, ge, prefix_len-le-length (λ b. not (is_bare_among wanted b)) (placed text), length-placed None text) in
          rw (e, all) (IsCharBoundary-end text)
    ]

pub hash_is_ascii : PassesAscii (λ c. holds c (codes "#"))
hash_is_ascii c h = grind (arith, nat_tests)

pub colon_is_ascii : PassesAscii (λ c. holds c (codes ":"))
colon_is_ascii c h = grind (arith, nat_tests)

quotes_are_ascii : (c : ℕ) → is_quote c ≡ true → c < 128
quotes_are_ascii c h = grind (arith, nat_tests)

pub behind_mark : (text : List ℕ) → IsUtf8 text → is_enclosed text ≡ true → IsCharBoundary text 1
behind_mark text u h =
    let front : ((ltb 1 (length text) && is_quote (get_or text 0 0)) ≡ true) = (and_parts _ _ h).0 in
    let long : 1 < length text = ltb-true 1 (length text) (and_parts _ _ front).0 in
    IsCharBoundary-after_ascii text 0 u (omega arith) (quotes_are_ascii (get_or text 0 0) (and_parts _ _ front).1)

-- ---- items

blanks_are_no_quotes : (c : ℕ) → is_blank c ≡ true → is_quote c ≡ false
blanks_are_no_quotes c h = grind (arith, nat_tests)

gap_front_by : (c : ℕ) (more : List ℕ) (b : Bool) → is_blank c ≡ b → drop (prefix_len is_gap (placed more)) (placed more) ≡ placed (without_front more)
    → drop (prefix_len is_gap (placed (c ∷ more))) (placed (c ∷ more)) ≡ placed (without_front (c ∷ more))
gap_front_by c more true h inner =
    let e : 1 + prefix_len is_gap (placed more) ≡ suc (prefix_len is_gap (placed more)) = omega arith in
    let f : 1 + prefix_len is_blank more ≡ suc (prefix_len is_blank more) = omega arith in
    rw (blanks_are_no_quotes c h, h, e, f) inner
gap_front_by c more false h inner =
    let g : is_gap (c, place_behind None c) ≡ false = and_right _ _ h in
    rw (g, h) refl

-- the blanks at the front stand outside quotes
pub gap-front : (text : List ℕ) → drop (prefix_len is_gap (placed text)) (placed text) ≡ placed (without_front text)
gap-front [] = refl
gap-front (c ∷ more) = gap_front_by c more (is_blank c) refl (gap-front more)

run_length : (rest : List ℕ) → length (before_first is_gap (placed rest)) ≡ length (take (position_or_len is_gap (placed rest)) rest)
run_length rest = ap length (take-placed (position_or_len is_gap (placed rest)) None rest) ∙ length-placed None (take (position_or_len is_gap (placed rest)) rest)

pub items-none : (text rest item : List ℕ) (n : ℕ) → rest ≡ without_front text → n ≡ position_or_len is_gap (placed rest) → item ≡ take n rest → eqb (length item) 0 ≡ true → items text ≡ []
items-none text rest item n r e i empty =
    let none : length (before_first is_gap (placed rest)) ≡ 0 = run_length rest ∙ ap (λ k. length (take k rest)) (sym e) ∙ ap length (sym i) ∙ eqb-true (length item) 0 empty in
    let front : drop (prefix_len is_gap (placed text)) (placed text) ≡ placed rest = gap-front text ∙ ap placed (sym r) in
    ap (λ rs. map without_marks rs) (runs-none is_gap (placed text) (rw front none))

-- behind a run no quote is open
behind_run : (rest : List ℕ) → drop (position_or_len is_gap (placed rest)) (placed rest) ≡ placed (drop (position_or_len is_gap (placed rest)) rest)
behind_run rest =
    let n : ℕ = position_or_len is_gap (placed rest) in
    elim (cases_lt n (length rest)) [
      | inl lt ↦
          let passes : is_gap (get_or (placed rest) n (0, bare)) ≡ true = passes_at_first is_gap (placed rest) (0, bare) (omega (arith, lt, length-placed None rest)) in
          drop-placed n None rest lt (and_parts _ _ passes).0
      | inr ge ↦
          let left : drop n (placed rest) ≡ [] = drop_all n (placed rest) (omega (arith, ge, length-placed None rest)) in
          let right : drop n rest ≡ [] = drop_all n rest ge in
          rw (left, right) refl
    ]

filled_from : (n : ℕ) → (n ≡ 0 → ⊥) → 0 < n
filled_from zero h = absurd (h refl)
filled_from (suc n) h = omega arith

pub items-next : (text rest item behind : List ℕ) (n : ℕ) → rest ≡ without_front text → n ≡ position_or_len is_gap (placed rest) → item ≡ take n rest → behind ≡ drop n rest → eqb (length item) 0 ≡ false
    → items text ≡ without_marks (placed item) ∷ items behind
items-next text rest item behind n r e i b filled =
    let p : ℕ = position_or_len is_gap (placed rest) in
    let run : before_first is_gap (placed rest) ≡ placed item = take-placed p None rest ∙ ap (λ k. placed (take k rest)) (sym e) ∙ ap placed (sym i) in
    let size : length (before_first is_gap (placed rest)) ≡ p = length-prefix_len (λ y. not (is_gap y)) (placed rest) in
    let some : 0 < length (before_first is_gap (placed rest)) = omega (arith, ap length run, length-placed None item, filled_from (length item) (eqb-false (length item) 0 filled)) in
    let left : drop (length (before_first is_gap (placed rest))) (placed rest) ≡ placed behind =
    ap (λ k. drop k (placed rest)) size ∙ behind_run rest ∙ ap (λ k. placed (drop k rest)) (sym e) ∙ ap placed (sym b) in
    let next : runs is_gap (placed rest) ≡ placed item ∷ runs is_gap (placed behind) =
    runs-first is_gap (placed rest) some ∙ ap (λ r. r ∷ runs is_gap (drop (length (before_first is_gap (placed rest))) (placed rest))) run ∙ ap (λ r. placed item ∷ runs is_gap r) left in
    let front : drop (prefix_len is_gap (placed text)) (placed text) ≡ placed rest = gap-front text ∙ ap placed (sym r) in
    ap (λ rs. map without_marks rs) (sym (runs-front is_gap (placed text)) ∙ ap (λ bs. runs is_gap bs) front ∙ next)

-- ---- texts without their quotation marks

-- a mark is a quotation mark
abbrev pub IsMark : Option ℕ → Type 0
IsMark None = Unit {0}
IsMark (Some m) = is_quote m ≡ true

mark_behind_by : (c : ℕ) (b : Bool) → is_quote c ≡ b → IsMark (cond b (Some c) None)
mark_behind_by c true h = h
mark_behind_by c false h = tt

mark_left_by : (m : ℕ) (b : Bool) → is_quote m ≡ true → IsMark (cond b None (Some m))
mark_left_by m true h = tt
mark_left_by m false h = h

pub IsMark-behind : (m : Option ℕ) (c : ℕ) → IsMark m → IsMark (open_behind m c)
IsMark-behind None c h = mark_behind_by c (is_quote c) refl
IsMark-behind (Some m) c h = mark_left_by m (eqb c m) h

-- a byte above ASCII
no_quote : (c : ℕ) → 128 ≤ c → is_quote c ≡ false
no_quote c h = grind (arith, nat_tests)

no_mark : (m : Option ℕ) (c : ℕ) → IsMark m → 128 ≤ c → (is_mark (place_behind m c) ≡ false) × (open_behind m c ≡ m)
no_mark None c h high = let q : is_quote c ≡ false = no_quote c high in (rw q refl, rw q refl)
no_mark (Some m) c h high =
    let small : m < 128 = quotes_are_ascii m h in
    let other : eqb c m ≡ false = ne_eqb c m (λ e. omega (arith, e, small, high)) in
    (rw other refl, rw other refl)

abbrev pub AreHigh : List ℕ → Type 0
AreHigh bs = (k : ℕ) → k < length bs → 128 ≤ get_or bs k 0

high-run : (m : Option ℕ) (bs more : List ℕ) → IsMark m → AreHigh bs → without_marks (placed_behind m (bs ++ more)) ≡ bs ++ without_marks (placed_behind m more)
high-run m [] more h high = refl
high-run m (b ∷ bs) more h high =
    let none : (is_mark (place_behind m b) ≡ false) × (open_behind m b ≡ m) = no_mark m b h (high 0 (omega arith)) in
    rw (none.0, none.1) (ap (λ rest. b ∷ rest) (high-run m bs more h (λ k lt. high (suc k) (omega (arith, lt)))))

high_char : (c : ℕ) → 128 ≤ c → AreHigh (encode c)
high_char c high k lt =
    elim (cases_lt (get_or (encode c) k 0) 128) [
      | inl small ↦
          let e : encode c ≡ encode c ++ [] = sym (append-nil (encode c)) in
          absurd (omega (arith, small, high, inside_one c [] (encode c) k e lt small))
      | inr ge ↦ ge
    ]

-- a character that is no mark stays
pub kept-char : (m : Option ℕ) (c : ℕ) (more : List ℕ) → IsMark m → is_mark (place_behind m c) ≡ false
    → without_marks (placed_behind m (encode c ++ more)) ≡ encode c ++ without_marks (placed_behind (open_behind m c) more)
kept-char m c more h plain =
    elim (cases_lt c 128) [
      | inl small ↦ let e : encode c ≡ c ∷ [] = encode_ascii c small in rw e (rw plain refl)
      | inr high ↦
          let same : open_behind m c ≡ m = (no_mark m c h high).1 in
          rw same (high-run m (encode c) more h (high_char c high))
    ]

mark_small : (m : Option ℕ) (c : ℕ) → IsMark m → is_mark (place_behind m c) ≡ true → c < 128
mark_small m c h is =
    elim (cases_lt c 128) [
      | inl small ↦ small
      | inr high ↦ absurd (both_ways (is_mark (place_behind m c)) (no_mark m c h high).0 is)
    ]

-- a mark is taken off
pub dropped-char : (m : Option ℕ) (c : ℕ) (more : List ℕ) → IsMark m → is_mark (place_behind m c) ≡ true
    → without_marks (placed_behind m (encode c ++ more)) ≡ without_marks (placed_behind (open_behind m c) more)
dropped-char m c more h is = let e : encode c ≡ c ∷ [] = encode_ascii c (mark_small m c h is) in rw e (rw is refl)

-- one more character
next_char : (m : Option ℕ) (cs : List ℕ) (n c : ℕ) → (n < length cs) × (c ≡ get_or cs n c) → encodes (drop n cs) ≡ encode c ++ encodes (drop (n + 1) cs)
next_char m cs n c at = ap encodes (drop_more cs n c at.0 ∙ ap (λ x. x ∷ drop (n + 1) cs) (sym at.1))

pub kept-step : (m : Option ℕ) (cs kept now whole : List ℕ) (n c : ℕ) → IsMark m → (n < length cs) × (c ≡ get_or cs n c) → is_mark (place_behind m c) ≡ false → now ≡ kept ++ encode c
    → kept ++ without_marks (placed_behind m (encodes (drop n cs))) ≡ whole → now ++ without_marks (placed_behind (open_behind m c) (encodes (drop (n + 1) cs))) ≡ whole
kept-step m cs kept now whole n c h at plain is inv =
    let rest : List ℕ = encodes (drop (n + 1) cs) in
    ap (λ x. x ++ without_marks (placed_behind (open_behind m c) rest)) is
    ∙ append_assoc kept (encode c) (without_marks (placed_behind (open_behind m c) rest))
    ∙ ap (λ x. kept ++ x) (sym (kept-char m c rest h plain) ∙ ap (λ bs. without_marks (placed_behind m bs)) (sym (next_char m cs n c at)))
    ∙ inv

pub dropped-step : (m : Option ℕ) (cs kept whole : List ℕ) (n c : ℕ) → IsMark m → (n < length cs) × (c ≡ get_or cs n c) → is_mark (place_behind m c) ≡ true
    → kept ++ without_marks (placed_behind m (encodes (drop n cs))) ≡ whole → kept ++ without_marks (placed_behind (open_behind m c) (encodes (drop (n + 1) cs))) ≡ whole
dropped-step m cs kept whole n c h at is inv =
    let rest : List ℕ = encodes (drop (n + 1) cs) in
    ap (λ x. kept ++ x) (sym (dropped-char m c rest h is) ∙ ap (λ bs. without_marks (placed_behind m bs)) (sym (next_char m cs n c at))) ∙ inv

-- ---- the colon of a head

is_colon : (c : ℕ) → holds c (codes ":") ≡ true → c ≡ 58
is_colon c h = grind (arith, nat_tests)

pub head-none : (text rest : List ℕ) (n : ℕ) → n ≡ bare_position (codes ":") text → rest ≡ drop n text → ((more : List ℕ) → rest ≢ 58 ∷ more) → None ≡ files_of_head text
head-none text rest n e r lacks =
    elim (cases_lt (bare_position (codes ":") text) (length text)) [
      | inl lt ↦
          let at : get_or text (bare_position (codes ":") text) 0 ≡ 58 = is_colon (get_or text (bare_position (codes ":") text) 0) (wanted-there (codes ":") text lt) in
          let begins : rest ≡ 58 ∷ drop (bare_position (codes ":") text + 1) text =
          r ∙ ap (λ k. drop k text) e ∙ drop_more text (bare_position (codes ":") text) 0 lt ∙ ap (λ c. c ∷ drop (bare_position (codes ":") text + 1) text) at in
          absurd (lacks (drop (bare_position (codes ":") text + 1) text) begins)
      | inr ge ↦ let past : ltb (bare_position (codes ":") text) (length text) ≡ false = le-ltb (bare_position (codes ":") text) (length text) ge in rw past refl
    ]
