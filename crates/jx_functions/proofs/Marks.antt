-- Marks of formats.
use Rattle.std.proofs.Common.{◌≡◌, ℕ, suc, ◌+◌, ◌<◌, ◌≤◌, ◌==◌, Bool, true, false, List, [], ◌∷◌, ◌++◌, length, get_or, drop, map, Bor, subst, Option, Some, None, Ok, Err, refl, sym, ap, ◌∙◌, arith, append_assoc}
use Rattle.std.specs.Prelude.{ℤ, if◌then◌else◌}
use Rattle.std.specs.Fmt.{signed_decimal}
use Rattle.std.proofs.lemmas.List.{append-nil, drop_more, drop_all, drop-drop}
use Rattle.std.specs.Str.{IsUtf8, chars, encode_utf8_all}
use Rattle.std.specs.Char.{encode_utf8}
use Rattle.std.proofs.lemmas.Bool.{ne_eqb}
use Rattle.std.proofs.lemmas.Str.{encode_ascii, inside_one, length-encode, len_utf8_bounds, encodes-chars}
use Rattle.jx_syntax.specs.declared.value.JxValue.{JxValue}
use Rattle.jx_meaning.specs.declared.fault.EvalFault.{EvalFault}
use Rattle.jx_meaning.specs.declared.fault.EvalFault.TheVariants.{WrongKind, ArgCount, BadMark}
use Rattle.jx_meaning.specs.Values.{Value, null, truth, number, text, list, object, plain}
use Rattle.jx_meaning.specs.Texts.{Piece, Mark, decimal, any, mark_of, before, behind, number_text, marked, shown, all_used, formatted, made}
use Rattle.jx_meaning.specs.Answers.{Fails}
use Rattle.jx_meaning.specs.Numbers.{Answer}
use Rattle.jx_values.specs.Kinds.{number_in}
use Rattle.jx_functions.specs.Drafts.{extended, finished}
use Rattle.jx_values.proofs.Cuts.{map-drop}
use Rattle.jx_functions.proofs.Drafting.{put_first, begun}

-- ---- bytes that are no marks

-- none of the bytes is this one
abbrev pub IsFree : ℕ → List ℕ → Type 0
IsFree b [] = Unit {0}
IsFree b (c ∷ cs) = (c ≡ b → ⊥) × IsFree b cs

free_by : (b : ℕ) (xs : List ℕ) → ((k : ℕ) → k < length xs → get_or xs k 0 ≡ b → ⊥) → IsFree b xs
free_by b [] h = tt
free_by b (x ∷ xs) h = (h 0 (omega arith), free_by b xs (λ k lt. h (suc k) (omega arith)))

-- an ASCII character stands in no other character
pub free : (b c : ℕ) → b < 128 → (c ≡ b → ⊥) → IsFree b (encode_utf8 c)
free b c lt h = free_by b (encode_utf8 c) (λ k less e. h (inside_one c [] (encode_utf8 c) k (sym (append-nil (encode_utf8 c))) less (omega (arith, e, lt)) ∙ e))

-- ---- what a mark gives

number_shown : (at : ℕ) (v : Value) (z : ℤ) → Some z ≡ number_in v → number_text at v ≡ Ok (signed_decimal z)
number_shown at (number x) z h = let e : x ≡ z = cc in ap (λ (n : ℤ). Ok (signed_decimal n)) e
number_shown at null z h = absurd (let o : Option ℤ = None in let e : o ≡ Some z = sym h in cc)
number_shown at (truth b) z h = absurd (let o : Option ℤ = None in let e : o ≡ Some z = sym h in cc)
number_shown at (text t) z h = absurd (let o : Option ℤ = None in let e : o ≡ Some z = sym h in cc)
number_shown at (list vs) z h = absurd (let o : Option ℤ = None in let e : o ≡ Some z = sym h in cc)
number_shown at (object ps) z h = absurd (let o : Option ℤ = None in let e : o ≡ Some z = sym h in cc)

no_number : (at : ℕ) (v : Value) → None ≡ number_in v → number_text at v ≡ Err (WrongKind at)
no_number at (number x) h = absurd (let o : Option ℤ = None in let e : o ≡ Some x = h in cc)
no_number at null h = refl
no_number at (truth b) h = refl
no_number at (text t) h = refl
no_number at (list vs) h = refl
no_number at (object ps) h = refl

-- the arguments as plain data
abbrev pub worths : List (Bor JxValue) → List Value
worths vs = map (λ v. plain v.now) vs

pub decimal_taken : (at : ℕ) (d new : Option (List ℕ)) (vs rest : List (Bor JxValue)) (v : Bor JxValue) (z : ℤ) (more : List Value → Piece) → vs ≡ v ∷ rest → Some z ≡ number_in (plain v.now)
    → new ≡ extended d (signed_decimal z) → finished at new (more (drop 1 (worths vs))) ≡ finished at d (marked at (Some decimal) (worths vs) more)
decimal_taken at d new vs rest v z more is h e =
    ap (λ (l : List (Bor JxValue)). finished at new (more (drop 1 (worths l)))) is ∙ ap (λ (o : Option (List ℕ)). finished at o (more (worths rest))) e ∙ put_first at d (signed_decimal z) (more (worths rest))
    ∙ ap (λ (p : Piece). finished at d (behind p (λ bs. more (worths rest)))) (sym (number_shown at (plain v.now) z h))
    ∙ ap (λ (l : List (Bor JxValue)). finished at d (marked at (Some decimal) (worths l) more)) (sym is)

pub decimal_wrong : (at : ℕ) (d : Option (List ℕ)) (vs rest : List (Bor JxValue)) (v : Bor JxValue) (more : List Value → Piece) → vs ≡ v ∷ rest → None ≡ number_in (plain v.now)
    → finished at d (marked at (Some decimal) (worths vs) more) ≡ Err (WrongKind at)
decimal_wrong at d vs rest v more is h =
    ap (λ (l : List (Bor JxValue)). finished at d (marked at (Some decimal) (worths l) more)) is
    ∙ ap (λ (p : Piece). finished at d (behind p (λ bs. more (worths rest)))) (no_number at (plain v.now) h)

pub decimal_missing : (at : ℕ) (d : Option (List ℕ)) (vs : List (Bor JxValue)) (more : List Value → Piece) → length vs ≡ 0 → finished at d (marked at (Some decimal) (worths vs) more) ≡ Err (ArgCount at)
decimal_missing at d [] more h = refl
decimal_missing at d (v ∷ vs) more h = absurd (omega (arith, h))

pub any_taken : (at : ℕ) (d new : Option (List ℕ)) (vs rest : List (Bor JxValue)) (v : Bor JxValue) (more : List Value → Piece) → vs ≡ v ∷ rest
    → new ≡ extended d (shown (plain v.now)) → finished at new (more (drop 1 (worths vs))) ≡ finished at d (marked at (Some any) (worths vs) more)
any_taken at d new vs rest v more is e =
    ap (λ (l : List (Bor JxValue)). finished at new (more (drop 1 (worths l)))) is ∙ ap (λ (o : Option (List ℕ)). finished at o (more (worths rest))) e ∙ put_first at d (shown (plain v.now)) (more (worths rest))
    ∙ ap (λ (l : List (Bor JxValue)). finished at d (marked at (Some any) (worths l) more)) (sym is)

pub any_missing : (at : ℕ) (d : Option (List ℕ)) (vs : List (Bor JxValue)) (more : List Value → Piece) → length vs ≡ 0 → finished at d (marked at (Some any) (worths vs) more) ≡ Err (ArgCount at)
any_missing at d [] more h = refl
any_missing at d (v ∷ vs) more h = absurd (omega (arith, h))

-- ---- a format character by character

behind_mark : (at c : ℕ) (cs : List ℕ) (vs : List Value) → formatted true at (c ∷ cs) vs ≡ marked at (mark_of c) vs (formatted false at cs)
unfolding formatted
behind_mark at c cs vs = refl

no_mark : (at c : ℕ) (cs : List ℕ) (vs : List Value) → formatted false at (c ∷ cs) vs ≡ before (if c == 37 then [] else c ∷ []) (formatted (c == 37) at cs vs)
unfolding formatted
no_mark at c cs vs = refl

pub lone_mark : (at : ℕ) (vs : List Value) → formatted true at [] vs ≡ Err (BadMark at)
unfolding formatted
lone_mark at vs = refl

pub at_end : (at : ℕ) (vs : List Value) → formatted false at [] vs ≡ all_used at vs
unfolding formatted
at_end at vs = refl

pub before_nil : (p : Piece) → before [] p ≡ p
before_nil (Ok bs) = refl
before_nil (Err e) = refl

pub before_twice : (xs ys : List ℕ) (p : Piece) → before xs (before ys p) ≡ before (xs ++ ys) p
before_twice xs ys (Ok bs) = ap (λ (l : List ℕ). Ok l) (sym (append_assoc xs ys bs))
before_twice xs ys (Err e) = refl

-- bytes that are no marks stand as they are
plain_bytes : (at : ℕ) (xs rest : List ℕ) (vs : List Value) → IsFree 37 xs → formatted false at (xs ++ rest) vs ≡ before xs (formatted false at rest vs)
plain_bytes at [] rest vs h = sym (before_nil (formatted false at rest vs))
plain_bytes at (c ∷ cs) rest vs h =
    let e : (c == 37) ≡ false = ne_eqb c 37 h.0 in
    no_mark at c (cs ++ rest) vs ∙ ap (λ (b : Bool). before (if b then [] else c ∷ []) (formatted b at (cs ++ rest) vs)) e
    ∙ ap (before (c ∷ [])) (plain_bytes at cs rest vs h.1) ∙ before_twice (c ∷ []) cs (formatted false at rest vs)

-- a character that is no mark
pub other_char : (at c : ℕ) (rest : List ℕ) (vs : List Value) → (c ≡ 37 → ⊥) → formatted false at (encode_utf8 c ++ rest) vs ≡ before (encode_utf8 c) (formatted false at rest vs)
other_char at c rest vs h = plain_bytes at (encode_utf8 c) rest vs (free 37 c (omega arith) h)

-- a character that begins a mark
pub mark_char : (at c : ℕ) (rest : List ℕ) (vs : List Value) → c ≡ 37 → formatted false at (encode_utf8 c ++ rest) vs ≡ formatted true at rest vs
mark_char at c rest vs h =
    ap (λ (n : ℕ). formatted false at (encode_utf8 n ++ rest) vs) h ∙ ap (λ (l : List ℕ). formatted false at (l ++ rest) vs) (encode_ascii 37 (omega arith))
    ∙ no_mark at 37 rest vs ∙ before_nil (formatted true at rest vs)

-- a character behind a mark
pub ascii_mark : (at c : ℕ) (rest : List ℕ) (vs : List Value) → c < 128 → formatted true at (encode_utf8 c ++ rest) vs ≡ marked at (mark_of c) vs (formatted false at rest)
ascii_mark at c rest vs lt = ap (λ (l : List ℕ). formatted true at (l ++ rest) vs) (encode_ascii c lt) ∙ behind_mark at c rest vs

pub percent_mark : (at : ℕ) (d new : Option (List ℕ)) (c : ℕ) (rest : List ℕ) (vs : List Value) → c ≡ 37 → new ≡ extended d (37 ∷ [])
    → finished at new (formatted false at rest vs) ≡ finished at d (formatted true at (encode_utf8 c ++ rest) vs)
percent_mark at d new c rest vs is e =
    ap (λ (o : Option (List ℕ)). finished at o (formatted false at rest vs)) e ∙ put_first at d (37 ∷ []) (formatted false at rest vs)
    ∙ ap (finished at d) (sym (ascii_mark at 37 rest vs (omega arith))) ∙ ap (λ (n : ℕ). finished at d (formatted true at (encode_utf8 n ++ rest) vs)) (sym is)

bad_by : (at : ℕ) (xs rest : List ℕ) (vs : List Value) → 0 < length xs → IsFree 37 xs → IsFree 100 xs → IsFree 105 xs → IsFree 115 xs → formatted true at (xs ++ rest) vs ≡ Err (BadMark at)
bad_by at [] rest vs lt a b c d = absurd (omega arith)
bad_by at (x ∷ xs) rest vs lt a b c d =
    let none : mark_of x ≡ None = rw (ne_eqb x 37 a.0, ne_eqb x 100 b.0, ne_eqb x 105 c.0, ne_eqb x 115 d.0) refl in
    behind_mark at x (xs ++ rest) vs ∙ ap (λ (o : Option Mark). marked at o vs (formatted false at (xs ++ rest))) none

-- a character that is no mark behind a `%`
pub bad_mark : (at c : ℕ) (d : Option (List ℕ)) (rest : List ℕ) (vs : List Value) → (c ≡ 37 → ⊥) → (c ≡ 100 → ⊥) → (c ≡ 105 → ⊥) → (c ≡ 115 → ⊥)
    → finished at d (formatted true at (encode_utf8 c ++ rest) vs) ≡ Err (BadMark at)
bad_mark at c d rest vs h i j k =
    ap (finished at d) (bad_by at (encode_utf8 c) rest vs (omega (arith, length-encode c, len_utf8_bounds c)) (free 37 c (omega arith) h) (free 100 c (omega arith) i) (free 105 c (omega arith) j) (free 115 c (omega arith) k))

-- ---- a format from its beginning to its end

-- what is still to come from the characters that are left
abbrev pub to_come : Bool → ℕ → List ℕ → ℕ → List (Bor JxValue) → Piece
to_come behind at cs n vs = formatted behind at (encode_utf8_all (drop n cs)) (worths vs)

pub all_to_come : (at : ℕ) (bytes : List ℕ) (vs : List (Bor JxValue)) (d : Option (List ℕ)) → IsUtf8 bytes → d ≡ Some [] → finished at d (to_come false at (chars bytes) 0 vs) ≡ made at (formatted false at bytes (worths vs))
all_to_come at bytes vs d utf8 e =
    ap (λ (o : Option (List ℕ)). finished at o (to_come false at (chars bytes) 0 vs)) e ∙ begun at (to_come false at (chars bytes) 0 vs)
    ∙ ap (λ (l : List ℕ). made at (formatted false at l (worths vs))) (encodes-chars bytes utf8)

one_left : (b : Bool) (at : ℕ) (cs : List ℕ) (n c : ℕ) (vs : List (Bor JxValue)) → n < length cs → c ≡ get_or cs n c → to_come b at cs n vs ≡ formatted b at (encode_utf8 c ++ encode_utf8_all (drop (n + 1) cs)) (worths vs)
one_left b at cs n c vs lt is = ap (λ (l : List ℕ). formatted b at (encode_utf8_all l) (worths vs)) (drop_more cs n c lt ∙ ap (λ (x : ℕ). x ∷ drop (n + 1) cs) (sym is))

read_by : (at : ℕ) (d new : Option (List ℕ)) (whole : Answer) (cs : List ℕ) (n c taken : ℕ) (vs rest : List (Bor JxValue)) (b : Bool) → n < length cs → c ≡ get_or cs n c → b ≡ true → rest ≡ drop taken vs
    → ((more : List ℕ) → finished at new (formatted false at more (drop taken (worths vs))) ≡ finished at d (formatted true at (encode_utf8 c ++ more) (worths vs)))
    → finished at d (to_come b at cs n vs) ≡ whole → finished at new (to_come false at cs (n + 1) rest) ≡ whole
read_by at d new whole cs n c taken vs rest b lt is behind_ left h inv =
    ap (λ (l : List Value). finished at new (formatted false at (encode_utf8_all (drop (n + 1) cs)) l)) (ap worths left ∙ sym (map-drop (λ (v : Bor JxValue). plain v.now) taken vs))
    ∙ h (encode_utf8_all (drop (n + 1) cs)) ∙ ap (finished at d) (sym (one_left true at cs n c vs lt is)) ∙ ap (λ (t : Bool). finished at d (to_come t at cs n vs)) (sym behind_) ∙ inv

fails_by : (at : ℕ) (d : Option (List ℕ)) (whole : Answer) (cs : List ℕ) (n c : ℕ) (vs : List (Bor JxValue)) (b : Bool) (e : EvalFault) → n < length cs → c ≡ get_or cs n c → b ≡ true
    → ((more : List ℕ) → Fails e (finished at d (formatted true at (encode_utf8 c ++ more) (worths vs)))) → finished at d (to_come b at cs n vs) ≡ whole → Fails e whole
fails_by at d whole cs n c vs b e lt is behind_ h inv =
    subst (λ (a : Answer). Fails e a) (ap (finished at d) (sym (one_left true at cs n c vs lt is)) ∙ ap (λ (t : Bool). finished at d (to_come t at cs n vs)) (sym behind_) ∙ inv) (h (encode_utf8_all (drop (n + 1) cs)))

-- a character behind a mark
pub mark_read : (at : ℕ) (d new : Option (List ℕ)) (whole : Answer) (cs : List ℕ) (n c used taken : ℕ) (vs left : List (Bor JxValue)) (b : Bool) → n < length cs → c ≡ get_or cs n c → b ≡ true → left ≡ drop used vs
    → ((more : List ℕ) → finished at new (formatted false at more (drop taken (worths left))) ≡ finished at d (formatted true at (encode_utf8 c ++ more) (worths left)))
    → finished at d (to_come b at cs n (drop used vs)) ≡ whole → finished at new (to_come false at cs (n + 1) (drop (used + taken) vs)) ≡ whole
mark_read at d new whole cs n c used taken vs left b lt is behind_ e h inv =
    read_by at d new whole cs n c taken (drop used vs) (drop (used + taken) vs) b lt is behind_ (sym (drop-drop taken used vs))
    (subst (λ (l : List (Bor JxValue)). (more : List ℕ) → finished at new (formatted false at more (drop taken (worths l))) ≡ finished at d (formatted true at (encode_utf8 c ++ more) (worths l))) e h) inv

-- the fault of a character behind a mark
pub mark_fails : (at : ℕ) (d : Option (List ℕ)) (whole : Answer) (cs : List ℕ) (n c : ℕ) (vs left : List (Bor JxValue)) (b : Bool) (f : EvalFault) → n < length cs → c ≡ get_or cs n c → b ≡ true → left ≡ vs
    → ((more : List ℕ) → Fails f (finished at d (formatted true at (encode_utf8 c ++ more) (worths left)))) → finished at d (to_come b at cs n vs) ≡ whole → Fails f whole
mark_fails at d whole cs n c vs left b f lt is behind_ e h inv =
    fails_by at d whole cs n c vs b f lt is behind_ (subst (λ (l : List (Bor JxValue)). (more : List ℕ) → Fails f (finished at d (formatted true at (encode_utf8 c ++ more) (worths l)))) e h) inv

-- a character that begins a mark
pub mark_begun : (at : ℕ) (d : Option (List ℕ)) (whole : Answer) (cs : List ℕ) (n c : ℕ) (vs : List (Bor JxValue)) (b : Bool) → n < length cs → c ≡ get_or cs n c → b ≡ false → c ≡ 37
    → finished at d (to_come b at cs n vs) ≡ whole → finished at d (to_come true at cs (n + 1) vs) ≡ whole
mark_begun at d whole cs n c vs b lt is behind_ e inv =
    ap (finished at d) (sym (one_left false at cs n c vs lt is ∙ mark_char at c (encode_utf8_all (drop (n + 1) cs)) (worths vs) e)) ∙ ap (λ (t : Bool). finished at d (to_come t at cs n vs)) (sym behind_) ∙ inv

-- a character that stands as it is
pub char_kept : (at : ℕ) (d new : Option (List ℕ)) (whole : Answer) (cs : List ℕ) (n c : ℕ) (vs : List (Bor JxValue)) (b : Bool) → n < length cs → c ≡ get_or cs n c → b ≡ false → (c ≡ 37 → ⊥)
    → new ≡ extended d (encode_utf8 c) → finished at d (to_come b at cs n vs) ≡ whole → finished at new (to_come b at cs (n + 1) vs) ≡ whole
char_kept at d new whole cs n c vs b lt is behind_ other e inv =
    let more : Piece = to_come false at cs (n + 1) vs in
    ap (λ (t : Bool). finished at new (to_come t at cs (n + 1) vs)) behind_ ∙ ap (λ (o : Option (List ℕ)). finished at o more) e ∙ put_first at d (encode_utf8 c) more
    ∙ ap (finished at d) (sym (one_left false at cs n c vs lt is ∙ other_char at c (encode_utf8_all (drop (n + 1) cs)) (worths vs) other)) ∙ ap (λ (t : Bool). finished at d (to_come t at cs n vs)) (sym behind_) ∙ inv

nothing_left : (b : Bool) (at : ℕ) (cs : List ℕ) (n : ℕ) (vs : List (Bor JxValue)) → length cs ≤ n → to_come b at cs n vs ≡ formatted b at [] (worths vs)
nothing_left b at cs n vs le = ap (λ (l : List ℕ). formatted b at (encode_utf8_all l) (worths vs)) (drop_all n cs le)

pub ends_lone : (at : ℕ) (d : Option (List ℕ)) (whole : Answer) (cs : List ℕ) (n : ℕ) (vs : List (Bor JxValue)) (b : Bool) → length cs ≤ n → b ≡ true → finished at d (to_come b at cs n vs) ≡ whole → whole ≡ Err (BadMark at)
ends_lone at d whole cs n vs b le h inv = sym inv ∙ ap (finished at d) (nothing_left b at cs n vs le ∙ ap (λ (t : Bool). formatted t at [] (worths vs)) h ∙ lone_mark at (worths vs))

pub ends_spare : (at : ℕ) (d : Option (List ℕ)) (whole : Answer) (cs : List ℕ) (n : ℕ) (vs : List (Bor JxValue)) (b : Bool) → length cs ≤ n → b ≡ false → (length vs ≡ 0 → ⊥)
    → finished at d (to_come b at cs n vs) ≡ whole → whole ≡ Err (ArgCount at)
ends_spare at d whole cs n [] b le h some inv = absurd (some refl)
ends_spare at d whole cs n (v ∷ vs) b le h some inv =
    sym inv ∙ ap (finished at d) (nothing_left b at cs n (v ∷ vs) le ∙ ap (λ (t : Bool). formatted t at [] (worths (v ∷ vs))) h ∙ at_end at (worths (v ∷ vs)))

pub ends_well : (at : ℕ) (d : Option (List ℕ)) (whole : Answer) (cs : List ℕ) (n : ℕ) (vs : List (Bor JxValue)) (b : Bool) → length cs ≤ n → b ≡ false → length vs ≡ 0
    → finished at d (to_come b at cs n vs) ≡ whole → finished at d (Ok []) ≡ whole
ends_well at d whole cs n (v ∷ vs) b le h none inv = absurd (omega (arith, none))
ends_well at d whole cs n [] b le h none inv =
    ap (finished at d) (sym (nothing_left b at cs n [] le ∙ ap (λ (t : Bool). formatted t at [] (worths [])) h ∙ at_end at [])) ∙ inv

pub ruleset marks = (ascii_mark, mark_char, lone_mark)
