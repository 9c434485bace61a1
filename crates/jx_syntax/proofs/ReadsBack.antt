-- What is written for a text in quotes is read as that text.
use lib.Utf8.{encode, encodes, scalars, scalar}
use Rattle.std.proofs.Common.{◌≡◌, ℕ, suc, ◌+◌, ◌*◌, ◌/◌, ◌%◌, ◌<◌, ◌≤◌, Bool, true, false, cond, ◌&&◌, ◌==◌, nat_lt, List, [], ◌∷◌, ◌++◌, length, get_or, Option, Some, None, Result, Ok, Err, ◌⊎◌, inl, inr, refl, sym, ap, subst, ◌∙◌, append_assoc, arith}
use Rattle.std.proofs.lemmas.Bool.{eqb-true, le-ltb, lt-ltb}
use Rattle.std.proofs.lemmas.Bool.Decides.{nat_tests}
use Rattle.std.proofs.lemmas.List.{append-nil, length-append}
use Rattle.std.proofs.Math.Seq.{take-append_seam}
use Rattle.std.proofs.lemmas.Str.{inside_one, digit_value-digit_char, encode_ascii, IsUtf8-append, IsUtf8-nil, IsUtf8-from_is_utf8, is_utf8-from_IsUtf8, encodes-chars, scalars-chars}
use Rattle.std.specs.Option.{option_map}
use Rattle.std.specs.List.{flat_map}
use Rattle.std.specs.Char.{digit_char, digit_value, is_digit}
use Rattle.jx_tokens.specs.declared.fault.JxFault.{JxFault}
use Rattle.jx_tokens.specs.Bytes.{is_plain}
use Rattle.jx_tokens.specs.Texts.{content, before, escaped, escape, unit_at, unicode, is_high, is_low, closing}
use Rattle.std.specs.Str.{IsUtf8, is_utf8, chars}
use Rattle.jx_tokens.specs.declared.token.Kind.TheVariants as kind
use Rattle.jx_tokens.specs.declared.token.Piece.TheVariants as piece
use Rattle.jx_tokens.specs.Tokens.{Scan, scan, scan_of, onto, front, literal, text_piece, tokens_of}
use Rattle.jx_tokens.specs.Tokens as spec
use Rattle.jx_syntax.specs.Written.{char_text, quoted}
use Rattle.jx_syntax.proofs.Scans.{one_token}

before-before : (a b : List ℕ) (r : Result (List ℕ) JxFault) → before a (before b r) ≡ before (a ++ b) r
before-before a b (Ok s) = ap Ok (sym (append_assoc a b s))
before-before a b (Err e) = refl

before-nil : (r : Result (List ℕ) JxFault) → before [] r ≡ r
before-nil (Ok s) = refl
before-nil (Err e) = refl

-- these bytes are read as the character
abbrev Reads : ℕ → ℕ → List ℕ → List ℕ → Type 0
Reads c at rest text = content 0 at (text ++ rest) ≡ before (encode c) (content 0 (at + length text) rest)

-- ---- short forms

two : (at : ℕ) → at + 1 + 1 ≡ at + 2
two at = omega arith

quote_reads : (at : ℕ) (rest : List ℕ) → Reads 34 at rest (92 ∷ 34 ∷ [])
unfolding content escape
quote_reads at rest = ap (λ n. before (encode 34) (content 0 n rest)) (two at)

backslash_reads : (at : ℕ) (rest : List ℕ) → Reads 92 at rest (92 ∷ 92 ∷ [])
unfolding content escape
backslash_reads at rest = ap (λ n. before (encode 92) (content 0 n rest)) (two at)

newline_reads : (at : ℕ) (rest : List ℕ) → Reads 10 at rest (92 ∷ 110 ∷ [])
unfolding content escape
newline_reads at rest = ap (λ n. before (encode 10) (content 0 n rest)) (two at)

return_reads : (at : ℕ) (rest : List ℕ) → Reads 13 at rest (92 ∷ 114 ∷ [])
unfolding content escape
return_reads at rest = ap (λ n. before (encode 13) (content 0 n rest)) (two at)

tab_reads : (at : ℕ) (rest : List ℕ) → Reads 9 at rest (92 ∷ 116 ∷ [])
unfolding content escape
tab_reads at rest = ap (λ n. before (encode 9) (content 0 n rest)) (two at)

-- ---- a code in hexadecimal

unit_reads : (h l c : ℕ) (rest : List ℕ) → is_digit h 16 ≡ true → is_digit l 16 ≡ true → digit_value h * 16 + digit_value l ≡ c → unit_at 1 (117 ∷ 48 ∷ 48 ∷ h ∷ l ∷ rest) ≡ Some c
unfolding unit_at
unit_reads h l c rest a b e =
    let n : 0 * 4096 + 0 * 256 + digit_value h * 16 + digit_value l ≡ c = omega arith in
    rw (a, b) (ap Some n)

escape_reads : (h l c : ℕ) (rest : List ℕ) → c < 32 → is_digit h 16 ≡ true → is_digit l 16 ≡ true → digit_value h * 16 + digit_value l ≡ c → escape (117 ∷ 48 ∷ 48 ∷ h ∷ l ∷ rest) ≡ Some (c, 5)
unfolding escape
escape_reads h l c rest lt a b e =
    let bs : List ℕ = 117 ∷ 48 ∷ 48 ∷ h ∷ l ∷ rest in
    let high : is_high c ≡ false = grind (arith, nat_tests) in
    let low : is_low c ≡ false = grind (arith, nat_tests) in
    ap (unicode bs) (unit_reads h l c rest a b e) ∙ rw (high, low) refl

code_reads : (c at : ℕ) (rest : List ℕ) → c < 32 → Reads c at rest (92 ∷ 117 ∷ 48 ∷ 48 ∷ digit_char (c / 16) ∷ digit_char (c % 16) ∷ [])
unfolding content
code_reads c at rest lt =
    let h = c / 16 in
    let l = c % 16 in
    let small : h < 16 = omega arith in
    let less : l < 16 = omega arith in
    let dh = digit_value-digit_char h (omega arith) in
    let dl = digit_value-digit_char l (omega arith) in
    let is_h : is_digit (digit_char h) 16 ≡ true = rw dh (lt-ltb h 16 small) in
    let is_l : is_digit (digit_char l) 16 ≡ true = rw dl (lt-ltb l 16 less) in
    let value : digit_value (digit_char h) * 16 + digit_value (digit_char l) ≡ c = rw (dh, dl) (omega arith) in
    let there : at + 1 + 1 + 1 + 1 + 1 + 1 ≡ at + 6 = omega arith in
    ap (λ o. escaped at o (λ k. content k (at + 1) (117 ∷ 48 ∷ 48 ∷ digit_char h ∷ digit_char l ∷ rest))) (escape_reads (digit_char h) (digit_char l) c rest lt is_h is_l value)
    ∙ ap (λ n. before (encode c) (content 0 n rest)) there

-- ---- plain characters

abbrev AllPlain : List ℕ → Type 0
AllPlain [] = Unit {0}
AllPlain (x ∷ xs) = (is_plain x ≡ true) × AllPlain xs

plain_byte : (x at : ℕ) (xs : List ℕ) → is_plain x ≡ true → content 0 at (x ∷ xs) ≡ before (x ∷ []) (content 0 (at + 1) xs)
unfolding content
plain_byte x at xs e =
    let a : (x == 92) ≡ false = grind (arith, nat_tests) in
    let b : nat_lt x 32 ≡ false = grind (arith, nat_tests) in
    rw (a, b) refl

plain_reads : (xs : List ℕ) (at : ℕ) (rest : List ℕ) → AllPlain xs → content 0 at (xs ++ rest) ≡ before xs (content 0 (at + length xs) rest)
plain_reads [] at rest h = let z : at ≡ at + 0 = omega arith in ap (λ n. content 0 n rest) z ∙ sym (before-nil _)
plain_reads (x ∷ xs) at rest h =
    let there : at + 1 + length xs ≡ at + suc (length xs) = omega arith in
    plain_byte x at (xs ++ rest) h.0 ∙ ap (before (x ∷ [])) (plain_reads xs (at + 1) rest h.1) ∙ before-before (x ∷ []) xs _
    ∙ ap (λ n. before (x ∷ xs) (content 0 n rest)) there

all_plain : (xs : List ℕ) → ((k : ℕ) → k < length xs → is_plain (get_or xs k 0) ≡ true) → AllPlain xs
all_plain [] f = tt
all_plain (x ∷ xs) f = (f 0 (omega arith), all_plain xs (λ k h. f (suc k) (omega arith)))

byte_is_plain : (b c : ℕ) → (b < 128 → c ≡ b) → nat_lt c 32 ≡ false → (c == 92) ≡ false → is_plain b ≡ true
byte_is_plain b c h low slash = grind (arith, nat_tests)

encode_is_plain : (c : ℕ) → nat_lt c 32 ≡ false → (c == 92) ≡ false → AllPlain (encode c)
encode_is_plain c low slash =
    all_plain (encode c) (λ k h. byte_is_plain (get_or (encode c) k 0) c (λ small. inside_one c [] (encode c) k (sym (append-nil (encode c))) h small) low slash)

-- ---- every character

choose : (c at : ℕ) (rest x y : List ℕ) (test : Bool) → (test ≡ true → Reads c at rest x) → (test ≡ false → Reads c at rest y) → Reads c at rest (cond test x y)
choose c at rest x y true f g = f refl
choose c at rest x y false f g = g refl

literal_at : (n c at : ℕ) (rest x : List ℕ) → (c == n) ≡ true → Reads n at rest x → Reads c at rest x
literal_at n c at rest x e h = subst (λ (m : ℕ). Reads m at rest x) (sym (eqb-true c n e)) h

pub char_reads : (c at : ℕ) (rest : List ℕ) → Reads c at rest (char_text c)
char_reads c at rest =
    choose c at rest _ _ (c == 34) (λ e. literal_at 34 c at rest (92 ∷ 34 ∷ []) e (quote_reads at rest)) (λ n34.
    choose c at rest _ _ (c == 92) (λ e. literal_at 92 c at rest (92 ∷ 92 ∷ []) e (backslash_reads at rest)) (λ n92.
    choose c at rest _ _ (c == 10) (λ e. literal_at 10 c at rest (92 ∷ 110 ∷ []) e (newline_reads at rest)) (λ n10.
    choose c at rest _ _ (c == 13) (λ e. literal_at 13 c at rest (92 ∷ 114 ∷ []) e (return_reads at rest)) (λ n13.
    choose c at rest _ _ (c == 9) (λ e. literal_at 9 c at rest (92 ∷ 116 ∷ []) e (tab_reads at rest)) (λ n9.
    choose c at rest _ _ (nat_lt c 32) (λ e. code_reads c at rest (grind (arith, nat_tests))) (λ low. plain_reads (encode c) at rest (encode_is_plain c low n92)))))))

content-nil : (at : ℕ) → content 0 at [] ≡ Ok []
unfolding content
content-nil at = refl

-- what is written for characters is read as them
pub content-written : (cs : List ℕ) (at : ℕ) → content 0 at (flat_map char_text cs) ≡ Ok (encodes cs)
content-written [] at = content-nil at
content-written (c ∷ cs) at =
    char_reads c at (flat_map char_text cs) ∙ ap (before (encode c)) (content-written cs (at + length (char_text c)))

-- ---- where it ends

abbrev longer : ℕ → Option ℕ → Option ℕ
longer n o = option_map (λ k. k + n) o

longer-longer : (m n : ℕ) (o : Option ℕ) → longer m (longer n o) ≡ longer (m + n) o
longer-longer m n None = refl
longer-longer m n (Some k) = let e : k + n + m ≡ k + (m + n) = omega arith in ap Some e

longer-zero : (o : Option ℕ) → longer 0 o ≡ o
longer-zero None = refl
longer-zero (Some k) = let e : k + 0 ≡ k = omega arith in ap Some e

abbrev Closes : List ℕ → List ℕ → Type 0
Closes rest text = closing false (text ++ rest) ≡ longer (length text) (closing false rest)

hidden_closes : (x : ℕ) (rest : List ℕ) → Closes rest (92 ∷ x ∷ [])
unfolding closing
hidden_closes x rest = longer-longer 1 1 (closing false rest)

-- neither a quote nor a backslash
abbrev IsShown : ℕ → Type 0
IsShown x = ((x == 34) ≡ false) × ((x == 92) ≡ false)

abbrev AllShown : List ℕ → Type 0
AllShown [] = Unit {0}
AllShown (x ∷ xs) = IsShown x × AllShown xs

shown_byte : (x : ℕ) (rest : List ℕ) → IsShown x → closing false (x ∷ rest) ≡ longer 1 (closing false rest)
unfolding closing
shown_byte x rest h = rw (h.0, h.1) refl

shown_closes : (xs rest : List ℕ) → AllShown xs → Closes rest xs
shown_closes [] rest h = sym (longer-zero (closing false rest))
shown_closes (x ∷ xs) rest h =
    let e : 1 + length xs ≡ suc (length xs) = omega arith in
    shown_byte x (xs ++ rest) h.0 ∙ ap (longer 1) (shown_closes xs rest h.1) ∙ longer-longer 1 (length xs) (closing false rest)
    ∙ ap (λ n. longer n (closing false rest)) e

all_shown : (xs : List ℕ) → ((k : ℕ) → k < length xs → IsShown (get_or xs k 0)) → AllShown xs
all_shown [] f = tt
all_shown (x ∷ xs) f = (f 0 (omega arith), all_shown xs (λ k h. f (suc k) (omega arith)))

byte_is_no : (n b c : ℕ) → n < 128 → (b < 128 → c ≡ b) → (c == n) ≡ false → (b == n) ≡ false
byte_is_no n b c lt h e = grind (arith, nat_tests)

encode_is_shown : (c : ℕ) → (c == 34) ≡ false → (c == 92) ≡ false → AllShown (encode c)
encode_is_shown c quote slash =
    all_shown (encode c) (λ k h. let same : get_or (encode c) k 0 < 128 → c ≡ get_or (encode c) k 0 = λ small. inside_one c [] (encode c) k (sym (append-nil (encode c))) h small in
    (byte_is_no 34 (get_or (encode c) k 0) c (omega arith) same quote, byte_is_no 92 (get_or (encode c) k 0) c (omega arith) same slash))

digit_is_high : (d : ℕ) → 48 ≤ digit_char d
digit_is_high d = pick (nat_lt d 10)
  where
    pick : (b : Bool) → 48 ≤ cond b (48 + d) (87 + d)
    pick true = omega arith
    pick false = omega arith

digit_is_low : (d : ℕ) → d < 16 → (digit_char d < 92) ⊎ (92 < digit_char d)
digit_is_low d lt = pick (nat_lt d 10) refl
  where
    pick : (b : Bool) → nat_lt d 10 ≡ b → (cond b (48 + d) (87 + d) < 92) ⊎ (92 < cond b (48 + d) (87 + d))
    pick true e = let small : d < 10 = grind (arith, nat_tests) in inl (omega arith)
    pick false e = let great : 10 ≤ d = grind (arith, nat_tests) in inr (omega arith)

not_it : (a b : ℕ) → (a < b) ⊎ (b < a) → (a == b) ≡ false
not_it a b (inl h) = grind (arith, nat_tests)
not_it a b (inr h) = grind (arith, nat_tests)

digit_is_shown : (d : ℕ) → d < 16 → IsShown (digit_char d)
digit_is_shown d lt = (not_it (digit_char d) 34 (inr (omega (arith, digit_is_high d))), not_it (digit_char d) 92 (digit_is_low d lt))

code_closes : (h l : ℕ) (rest : List ℕ) → h < 16 → l < 16 → Closes rest (92 ∷ 117 ∷ 48 ∷ 48 ∷ digit_char h ∷ digit_char l ∷ [])
code_closes h l rest a b =
    let four : List ℕ = 48 ∷ 48 ∷ digit_char h ∷ digit_char l ∷ [] in
    hidden_closes 117 (four ++ rest) ∙ ap (longer 2) (shown_closes four rest ((refl, refl), ((refl, refl), (digit_is_shown h a, (digit_is_shown l b, tt)))))
    ∙ longer-longer 2 4 (closing false rest)

choose_closes : (rest x y : List ℕ) (test : Bool) → (test ≡ true → Closes rest x) → (test ≡ false → Closes rest y) → Closes rest (cond test x y)
choose_closes rest x y true f g = f refl
choose_closes rest x y false f g = g refl

char_closes : (c : ℕ) (rest : List ℕ) → Closes rest (char_text c)
char_closes c rest =
    choose_closes rest _ _ (c == 34) (λ e. hidden_closes 34 rest) (λ n34.
    choose_closes rest _ _ (c == 92) (λ e. hidden_closes 92 rest) (λ n92.
    choose_closes rest _ _ (c == 10) (λ e. hidden_closes 110 rest) (λ n10.
    choose_closes rest _ _ (c == 13) (λ e. hidden_closes 114 rest) (λ n13.
    choose_closes rest _ _ (c == 9) (λ e. hidden_closes 116 rest) (λ n9.
    choose_closes rest _ _ (nat_lt c 32) (λ e. let lt : c < 32 = grind (arith, nat_tests) in code_closes (c / 16) (c % 16) rest (omega arith) (omega arith))
    (λ low. shown_closes (encode c) rest (encode_is_shown c n34 n92)))))))

closing-quote : (rest : List ℕ) → closing false (34 ∷ rest) ≡ Some 0
unfolding closing
closing-quote rest = refl

pub closing-written : (cs rest : List ℕ) → closing false (flat_map char_text cs ++ 34 ∷ rest) ≡ Some (length (flat_map char_text cs))
closing-written [] rest = closing-quote rest
closing-written (c ∷ cs) rest =
    let more = flat_map char_text cs in
    let sum : length more + length (char_text c) ≡ length (char_text c ++ more) = omega (arith, length-append (char_text c) more) in
    ap (closing false) (append_assoc (char_text c) more (34 ∷ rest)) ∙ char_closes c (more ++ 34 ∷ rest) ∙ ap (longer (length (char_text c))) (closing-written cs rest) ∙ ap Some sum

-- ---- the one token

literal_reads : (cs rest : List ℕ) (at : ℕ) → literal at (flat_map char_text cs ++ 34 ∷ rest) ≡ Ok (piece.Token (kind.Text (encodes cs)) (length (flat_map char_text cs) + 2))
unfolding literal
literal_reads cs rest at =
    let w = flat_map char_text cs in
    let all : List ℕ = w ++ 34 ∷ rest in
    ap (spec.quoted at all) (closing-written cs rest)
    ∙ ap (λ l. text_piece (length w) (content 0 (at + 1) l)) (take-append_seam w (34 ∷ rest))
    ∙ ap (text_piece (length w)) (content-written cs (at + 1))

-- a text in quotes stands in front, whatever follows
pub quoted_front : (t rest : List ℕ) (at : ℕ) → is_utf8 t ≡ true → front at (quoted t ++ rest) ≡ Ok (piece.Token (kind.Text t) (length (quoted t)))
unfolding front
quoted_front t rest at u =
    let cs = chars t in
    let w = flat_map char_text cs in
    let same : encodes cs ≡ t = encodes-chars t (IsUtf8-from_is_utf8 t u) in
    let size : length w + 2 ≡ length (quoted t) = omega (arith, length-append w (34 ∷ [])) in
    ap (λ l. literal at l) (append_assoc w (34 ∷ []) rest) ∙ literal_reads cs rest at
    ∙ ap (λ x. Ok (piece.Token (kind.Text x) (length w + 2))) same ∙ ap (λ n. Ok (piece.Token (kind.Text t) n)) size

-- ---- UTF-8

abbrev pub AllAscii : List ℕ → Type 0
AllAscii [] = Unit {0}
AllAscii (x ∷ xs) = (x < 128) × AllAscii xs

pub ascii_is_utf8 : (xs : List ℕ) → AllAscii xs → IsUtf8 xs
ascii_is_utf8 [] h = IsUtf8-nil
ascii_is_utf8 (x ∷ xs) h =
    let s : scalar x ≡ true = grind (arith, nat_tests) in
    let one : IsUtf8 (x ∷ []) = (x ∷ [], (rw s refl, append-nil (encode x) ∙ encode_ascii x h.0)) in
    IsUtf8-append (x ∷ []) xs one (ascii_is_utf8 xs h.1)

char_is_utf8 : (c : ℕ) → scalar c ≡ true → IsUtf8 (encode c)
char_is_utf8 c s = (c ∷ [], (rw s refl, append-nil (encode c)))

choose_utf8 : (x y : List ℕ) (test : Bool) → (test ≡ true → IsUtf8 x) → (test ≡ false → IsUtf8 y) → IsUtf8 (cond test x y)
choose_utf8 x y true f g = f refl
choose_utf8 x y false f g = g refl

digit_is_ascii : (d : ℕ) → d < 16 → digit_char d < 128
digit_is_ascii d lt = pick (nat_lt d 10) refl
  where
    pick : (b : Bool) → nat_lt d 10 ≡ b → cond b (48 + d) (87 + d) < 128
    pick true e = omega arith
    pick false e = omega arith

written_is_utf8 : (c : ℕ) → scalar c ≡ true → IsUtf8 (char_text c)
written_is_utf8 c s =
    choose_utf8 _ _ (c == 34) (λ e. ascii_is_utf8 (92 ∷ 34 ∷ []) (omega arith, (omega arith, tt))) (λ n34.
    choose_utf8 _ _ (c == 92) (λ e. ascii_is_utf8 (92 ∷ 92 ∷ []) (omega arith, (omega arith, tt))) (λ n92.
    choose_utf8 _ _ (c == 10) (λ e. ascii_is_utf8 (92 ∷ 110 ∷ []) (omega arith, (omega arith, tt))) (λ n10.
    choose_utf8 _ _ (c == 13) (λ e. ascii_is_utf8 (92 ∷ 114 ∷ []) (omega arith, (omega arith, tt))) (λ n13.
    choose_utf8 _ _ (c == 9) (λ e. ascii_is_utf8 (92 ∷ 116 ∷ []) (omega arith, (omega arith, tt))) (λ n9.
    choose_utf8 _ _ (nat_lt c 32) (λ e. let lt : c < 32 = grind (arith, nat_tests) in
    ascii_is_utf8 (92 ∷ 117 ∷ 48 ∷ 48 ∷ digit_char (c / 16) ∷ digit_char (c % 16) ∷ [])
    (omega arith, (omega arith, (omega arith, (omega arith, (digit_is_ascii (c / 16) (omega arith), (digit_is_ascii (c % 16) (omega arith), tt)))))))
    (λ low. char_is_utf8 c s))))))

pub both_of : (a b : Bool) → (a && b) ≡ true → (a ≡ true) × (b ≡ true)
both_of true b h = (refl, h)
both_of false b h = (h, absurd cc)

all_written_are_utf8 : (cs : List ℕ) → scalars cs ≡ true → IsUtf8 (flat_map char_text cs)
all_written_are_utf8 [] h = IsUtf8-nil
all_written_are_utf8 (c ∷ cs) h =
    let b = both_of (scalar c) (scalars cs) h in
    IsUtf8-append (char_text c) (flat_map char_text cs) (written_is_utf8 c b.0) (all_written_are_utf8 cs b.1)

quoted_is_utf8 : (cs : List ℕ) → scalars cs ≡ true → IsUtf8 (34 ∷ (flat_map char_text cs ++ 34 ∷ []))
quoted_is_utf8 cs h =
    let mark : IsUtf8 (34 ∷ []) = ascii_is_utf8 (34 ∷ []) (omega arith, tt) in
    IsUtf8-append (34 ∷ []) (flat_map char_text cs ++ 34 ∷ []) mark (IsUtf8-append (flat_map char_text cs) (34 ∷ []) (all_written_are_utf8 cs h) mark)

pub quoted_text_is_utf8 : (t : List ℕ) → is_utf8 t ≡ true → IsUtf8 (quoted t)
quoted_text_is_utf8 t u = quoted_is_utf8 (chars t) (scalars-chars t (IsUtf8-from_is_utf8 t u))

-- the text of a text is one token, which holds it
pub texts-read_back : (t : List ℕ) → is_utf8 t ≡ true → length (quoted t) ≤ 16777216 → tokens_of (quoted t) ≡ Ok (record { place = 0; kind = kind.Text t } ∷ [])
unfolding scan_of
texts-read_back t u le =
    let good : is_utf8 (quoted t) ≡ true = is_utf8-from_IsUtf8 (quoted t) (quoted_text_is_utf8 t u) in
    let small : nat_lt 16777216 (length (quoted t)) ≡ false = le-ltb 16777216 (length (quoted t)) le in
    let some : 0 < length (quoted t) = omega arith in
    rw (small, good) (ap (λ (s : Scan). spec.result_of s.tokens s.fault) (one_token (quoted t) (kind.Text t) some (quoted_front t [] 0 u)))
