-- Templates.
use Rattle.std.proofs.Common.{◌≡◌, ℕ, ◌+◌, ◌<◌, ◌≤◌, ◌==◌, Bool, true, false, List, [], ◌∷◌, ◌++◌, length, get_or, drop, Option, Some, None, Ok, Err, refl, sym, subst, ap, ◌∙◌, arith, append_assoc}
use Rattle.std.specs.Char.{encode_utf8}
use Rattle.std.proofs.lemmas.Bool.{ne_eqb}
use Rattle.std.proofs.lemmas.List.{append-nil, drop_more, drop_all}
use Rattle.std.specs.Str.{IsUtf8, chars, encode_utf8_all}
use Rattle.std.proofs.lemmas.Str.{encode_ascii, length-encode, len_utf8_bounds, encodes-chars}
use Rattle.jx_meaning.specs.declared.fault.EvalFault.{EvalFault}
use Rattle.jx_meaning.specs.declared.fault.EvalFault.TheVariants.{UnknownName, BadMark}
use Rattle.jx_meaning.specs.Values.{Value}
use Rattle.jx_meaning.specs.Answers.{Fails}
use Rattle.jx_meaning.specs.Numbers.{Answer}
use Rattle.jx_meaning.specs.Texts.{Piece, Spot, outside, opened, naming, closed, before, behind, shown, named, filled, made}
use Rattle.jx_functions.specs.declared.templates.Spot as declared
use Rattle.jx_functions.specs.declared.templates.Spot.TheVariants as here
use Rattle.jx_functions.specs.Spots.{spot_of}
use Rattle.jx_functions.specs.Drafts.{extended, finished}
use Rattle.jx_functions.proofs.Drafting.{put_first, begun}
use Rattle.jx_functions.proofs.Marks.{IsFree, free, before_nil, before_twice}

-- ---- the value of a name

pub value_named : (at : ℕ) (d new : Option (List ℕ)) (v : Value) (o : Option Value) (more : Piece) → Some v ≡ o → new ≡ extended d (shown v) → finished at new more ≡ finished at d (behind (named at o) (λ bs. more))
value_named at d new v o more h e =
    ap (λ (x : Option (List ℕ)). finished at x more) e ∙ put_first at d (shown v) more ∙ ap (λ (x : Option Value). finished at d (behind (named at x) (λ bs. more))) h

pub not_named : (at : ℕ) (d : Option (List ℕ)) (o : Option Value) (more : Piece) → None ≡ o → finished at d (behind (named at o) (λ bs. more)) ≡ Err (UnknownName at)
not_named at d o more h = ap (λ (x : Option Value). finished at d (behind (named at x) (λ bs. more))) (sym h)

-- ---- a template byte by byte

nil_byte : (at : ℕ) (look : List ℕ → Option Value) (c : ℕ) (cs : List ℕ) → (c ≡ 123 → ⊥) → (c ≡ 125 → ⊥) → filled at look outside (c ∷ cs) ≡ before (c ∷ []) (filled at look outside cs)
unfolding filled
nil_byte at look c cs h k = rw (ne_eqb c 123 h, ne_eqb c 125 k) refl

opened_byte : (at : ℕ) (look : List ℕ → Option Value) (c : ℕ) (cs : List ℕ) → (c ≡ 123 → ⊥) → (c ≡ 125 → ⊥) → filled at look opened (c ∷ cs) ≡ filled at look (naming (c ∷ [])) cs
unfolding filled
opened_byte at look c cs h k = rw (ne_eqb c 123 h, ne_eqb c 125 k) refl

naming_byte : (at : ℕ) (look : List ℕ → Option Value) (x : List ℕ) (c : ℕ) (cs : List ℕ) → (c ≡ 123 → ⊥) → (c ≡ 125 → ⊥) → filled at look (naming x) (c ∷ cs) ≡ filled at look (naming (x ++ c ∷ [])) cs
unfolding filled
naming_byte at look x c cs h k = rw (ne_eqb c 123 h, ne_eqb c 125 k) refl

closed_by : (at : ℕ) (look : List ℕ → Option Value) (c : ℕ) (cs : List ℕ) (b : Bool) → (c == 123) ≡ b → (c ≡ 125 → ⊥) → filled at look closed (c ∷ cs) ≡ Err (BadMark at)
unfolding filled
closed_by at look c cs true h k = rw h refl
closed_by at look c cs false h k = rw (h, ne_eqb c 125 k) refl

outside_bytes : (at : ℕ) (look : List ℕ → Option Value) (xs rest : List ℕ) → IsFree 123 xs → IsFree 125 xs → filled at look outside (xs ++ rest) ≡ before xs (filled at look outside rest)
outside_bytes at look [] rest h k = sym (before_nil (filled at look outside rest))
outside_bytes at look (c ∷ cs) rest h k =
    nil_byte at look c (cs ++ rest) h.0 k.0 ∙ ap (before (c ∷ [])) (outside_bytes at look cs rest h.1 k.1) ∙ before_twice (c ∷ []) cs (filled at look outside rest)

naming_bytes : (at : ℕ) (look : List ℕ → Option Value) (x xs rest : List ℕ) → IsFree 123 xs → IsFree 125 xs → filled at look (naming x) (xs ++ rest) ≡ filled at look (naming (x ++ xs)) rest
naming_bytes at look x [] rest h k = ap (λ (l : List ℕ). filled at look (naming l) rest) (sym (append-nil x))
naming_bytes at look x (c ∷ cs) rest h k =
    naming_byte at look x c (cs ++ rest) h.0 k.0 ∙ naming_bytes at look (x ++ c ∷ []) cs rest h.1 k.1 ∙ ap (λ (l : List ℕ). filled at look (naming l) rest) (append_assoc x (c ∷ []) cs)

opened_bytes : (at : ℕ) (look : List ℕ → Option Value) (xs rest : List ℕ) → 0 < length xs → IsFree 123 xs → IsFree 125 xs → filled at look opened (xs ++ rest) ≡ filled at look (naming xs) rest
opened_bytes at look [] rest lt h k = absurd (omega arith)
opened_bytes at look (c ∷ cs) rest lt h k = opened_byte at look c (cs ++ rest) h.0 k.0 ∙ naming_bytes at look (c ∷ []) cs rest h.1 k.1

closed_bytes : (at : ℕ) (look : List ℕ → Option Value) (xs rest : List ℕ) → 0 < length xs → IsFree 125 xs → filled at look closed (xs ++ rest) ≡ Err (BadMark at)
closed_bytes at look [] rest lt k = absurd (omega arith)
closed_bytes at look (c ∷ cs) rest lt k = closed_by at look c (cs ++ rest) (c == 123) refl k.0

-- ---- a template character by character

some_bytes : (c : ℕ) → 0 < length (encode_utf8 c)
some_bytes c = omega (arith, length-encode c, len_utf8_bounds c)

brace_bytes : (at : ℕ) (look : List ℕ → Option Value) (s : Spot) (c b : ℕ) (rest : List ℕ) → c ≡ b → b < 128 → filled at look s (encode_utf8 c ++ rest) ≡ filled at look s (b ∷ rest)
brace_bytes at look s c b rest e lt = ap (λ (n : ℕ). filled at look s (encode_utf8 n ++ rest)) e ∙ ap (λ (l : List ℕ). filled at look s (l ++ rest)) (encode_ascii b lt)

opening_outside : (at : ℕ) (look : List ℕ → Option Value) (rest : List ℕ) → filled at look outside (123 ∷ rest) ≡ filled at look opened rest
unfolding filled
opening_outside at look rest = refl

closing_outside : (at : ℕ) (look : List ℕ → Option Value) (rest : List ℕ) → filled at look outside (125 ∷ rest) ≡ filled at look closed rest
unfolding filled
closing_outside at look rest = refl

closing_closed : (at : ℕ) (look : List ℕ → Option Value) (rest : List ℕ) → filled at look closed (125 ∷ rest) ≡ before (125 ∷ []) (filled at look outside rest)
unfolding filled
closing_closed at look rest = refl

opening_opened : (at : ℕ) (look : List ℕ → Option Value) (rest : List ℕ) → filled at look opened (123 ∷ rest) ≡ before (123 ∷ []) (filled at look outside rest)
unfolding filled
opening_opened at look rest = refl

closing_opened : (at : ℕ) (look : List ℕ → Option Value) (rest : List ℕ) → filled at look opened (125 ∷ rest) ≡ behind (named at (look [])) (λ bs. filled at look outside rest)
unfolding filled
closing_opened at look rest = refl

opening_naming : (at : ℕ) (look : List ℕ → Option Value) (x rest : List ℕ) → filled at look (naming x) (123 ∷ rest) ≡ Err (BadMark at)
unfolding filled
opening_naming at look x rest = refl

closing_naming : (at : ℕ) (look : List ℕ → Option Value) (x rest : List ℕ) → filled at look (naming x) (125 ∷ rest) ≡ behind (named at (look x)) (λ bs. filled at look outside rest)
unfolding filled
closing_naming at look x rest = refl

-- what a piece was written for needs no more to come
written_first : (at : ℕ) (d new : Option (List ℕ)) (p : List ℕ) (more whole : Piece) → new ≡ extended d p → whole ≡ before p more → finished at new more ≡ finished at d whole
written_first at d new p more whole e h = ap (λ (o : Option (List ℕ)). finished at o more) e ∙ put_first at d p more ∙ ap (finished at d) (sym h)

pub outside_open : (at : ℕ) (look : List ℕ → Option Value) (d : Option (List ℕ)) (c : ℕ) (rest : List ℕ) → c ≡ 123 → finished at d (filled at look opened rest) ≡ finished at d (filled at look outside (encode_utf8 c ++ rest))
outside_open at look d c rest e = ap (finished at d) (sym (brace_bytes at look outside c 123 rest e (omega arith) ∙ opening_outside at look rest))

pub outside_close : (at : ℕ) (look : List ℕ → Option Value) (d : Option (List ℕ)) (c : ℕ) (rest : List ℕ) → c ≡ 125 → finished at d (filled at look closed rest) ≡ finished at d (filled at look outside (encode_utf8 c ++ rest))
outside_close at look d c rest e = ap (finished at d) (sym (brace_bytes at look outside c 125 rest e (omega arith) ∙ closing_outside at look rest))

pub outside_char : (at : ℕ) (look : List ℕ → Option Value) (d new : Option (List ℕ)) (c : ℕ) (rest : List ℕ) → (c ≡ 123 → ⊥) → (c ≡ 125 → ⊥) → new ≡ extended d (encode_utf8 c)
    → finished at new (filled at look outside rest) ≡ finished at d (filled at look outside (encode_utf8 c ++ rest))
outside_char at look d new c rest h k e =
    written_first at d new (encode_utf8 c) (filled at look outside rest) (filled at look outside (encode_utf8 c ++ rest)) e
    (outside_bytes at look (encode_utf8 c) rest (free 123 c (omega arith) h) (free 125 c (omega arith) k))

pub closed_close : (at : ℕ) (look : List ℕ → Option Value) (d new : Option (List ℕ)) (c : ℕ) (rest : List ℕ) → c ≡ 125 → new ≡ extended d (125 ∷ [])
    → finished at new (filled at look outside rest) ≡ finished at d (filled at look closed (encode_utf8 c ++ rest))
closed_close at look d new c rest is e =
    written_first at d new (125 ∷ []) (filled at look outside rest) (filled at look closed (encode_utf8 c ++ rest)) e (brace_bytes at look closed c 125 rest is (omega arith) ∙ closing_closed at look rest)

pub closed_char : (at : ℕ) (look : List ℕ → Option Value) (d : Option (List ℕ)) (c : ℕ) (rest : List ℕ) → (c ≡ 125 → ⊥) → finished at d (filled at look closed (encode_utf8 c ++ rest)) ≡ Err (BadMark at)
closed_char at look d c rest k = ap (finished at d) (closed_bytes at look (encode_utf8 c) rest (some_bytes c) (free 125 c (omega arith) k))

pub opened_open : (at : ℕ) (look : List ℕ → Option Value) (d new : Option (List ℕ)) (c : ℕ) (rest : List ℕ) → c ≡ 123 → new ≡ extended d (123 ∷ [])
    → finished at new (filled at look outside rest) ≡ finished at d (filled at look opened (encode_utf8 c ++ rest))
opened_open at look d new c rest is e =
    written_first at d new (123 ∷ []) (filled at look outside rest) (filled at look opened (encode_utf8 c ++ rest)) e (brace_bytes at look opened c 123 rest is (omega arith) ∙ opening_opened at look rest)

pub opened_close : (at : ℕ) (look : List ℕ → Option Value) (d : Option (List ℕ)) (c : ℕ) (rest : List ℕ) → c ≡ 125
    → finished at d (behind (named at (look [])) (λ bs. filled at look outside rest)) ≡ finished at d (filled at look opened (encode_utf8 c ++ rest))
opened_close at look d c rest is = ap (finished at d) (sym (brace_bytes at look opened c 125 rest is (omega arith) ∙ closing_opened at look rest))

pub opened_char : (at : ℕ) (look : List ℕ → Option Value) (d : Option (List ℕ)) (c : ℕ) (name rest : List ℕ) → (c ≡ 123 → ⊥) → (c ≡ 125 → ⊥) → name ≡ encode_utf8 c
    → finished at d (filled at look (naming name) rest) ≡ finished at d (filled at look opened (encode_utf8 c ++ rest))
opened_char at look d c name rest h k e =
    ap (λ (l : List ℕ). finished at d (filled at look (naming l) rest)) e
    ∙ ap (finished at d) (sym (opened_bytes at look (encode_utf8 c) rest (some_bytes c) (free 123 c (omega arith) h) (free 125 c (omega arith) k)))

pub naming_open : (at : ℕ) (look : List ℕ → Option Value) (d : Option (List ℕ)) (c : ℕ) (x rest : List ℕ) → c ≡ 123 → finished at d (filled at look (naming x) (encode_utf8 c ++ rest)) ≡ Err (BadMark at)
naming_open at look d c x rest is = ap (finished at d) (brace_bytes at look (naming x) c 123 rest is (omega arith) ∙ opening_naming at look x rest)

pub naming_close : (at : ℕ) (look : List ℕ → Option Value) (d : Option (List ℕ)) (c : ℕ) (x name rest : List ℕ) → c ≡ 125 → name ≡ x
    → finished at d (behind (named at (look name)) (λ bs. filled at look outside rest)) ≡ finished at d (filled at look (naming x) (encode_utf8 c ++ rest))
naming_close at look d c x name rest is e =
    ap (λ (l : List ℕ). finished at d (behind (named at (look l)) (λ bs. filled at look outside rest))) e
    ∙ ap (finished at d) (sym (brace_bytes at look (naming x) c 125 rest is (omega arith) ∙ closing_naming at look x rest))

pub naming_char : (at : ℕ) (look : List ℕ → Option Value) (d : Option (List ℕ)) (c : ℕ) (x name rest : List ℕ) → (c ≡ 123 → ⊥) → (c ≡ 125 → ⊥) → name ≡ x ++ encode_utf8 c
    → finished at d (filled at look (naming name) rest) ≡ finished at d (filled at look (naming x) (encode_utf8 c ++ rest))
naming_char at look d c x name rest h k e =
    ap (λ (l : List ℕ). finished at d (filled at look (naming l) rest)) e
    ∙ ap (finished at d) (sym (naming_bytes at look x (encode_utf8 c) rest (free 123 c (omega arith) h) (free 125 c (omega arith) k)))

-- ---- a template from its beginning to its end

-- what is still to come from the characters that are left
abbrev pub to_come : ℕ → (List ℕ → Option Value) → Spot → List ℕ → ℕ → Piece
to_come at look s cs n = filled at look s (encode_utf8_all (drop n cs))

pub all_to_come : (at : ℕ) (look : List ℕ → Option Value) (bytes : List ℕ) (d : Option (List ℕ)) → IsUtf8 bytes → d ≡ Some [] → finished at d (to_come at look outside (chars bytes) 0) ≡ made at (filled at look outside bytes)
all_to_come at look bytes d utf8 e =
    ap (λ (o : Option (List ℕ)). finished at o (to_come at look outside (chars bytes) 0)) e ∙ begun at (to_come at look outside (chars bytes) 0)
    ∙ ap (λ (l : List ℕ). made at (filled at look outside l)) (encodes-chars bytes utf8)

one_left : (at : ℕ) (look : List ℕ → Option Value) (s : Spot) (cs : List ℕ) (n c : ℕ) → n < length cs → c ≡ get_or cs n c → to_come at look s cs n ≡ filled at look s (encode_utf8 c ++ encode_utf8_all (drop (n + 1) cs))
one_left at look s cs n c lt is = ap (λ (l : List ℕ). filled at look s (encode_utf8_all l)) (drop_more cs n c lt ∙ ap (λ (x : ℕ). x ∷ drop (n + 1) cs) (sym is))

pub char_read : (at : ℕ) (look : List ℕ → Option Value) (d new : Option (List ℕ)) (s t : Spot) (whole : Answer) (cs : List ℕ) (n c : ℕ) → n < length cs → c ≡ get_or cs n c
    → ((rest : List ℕ) → finished at new (filled at look t rest) ≡ finished at d (filled at look s (encode_utf8 c ++ rest)))
    → finished at d (to_come at look s cs n) ≡ whole → finished at new (to_come at look t cs (n + 1)) ≡ whole
char_read at look d new s t whole cs n c lt is h inv = h (encode_utf8_all (drop (n + 1) cs)) ∙ ap (finished at d) (sym (one_left at look s cs n c lt is)) ∙ inv

pub char_fails : (at : ℕ) (look : List ℕ → Option Value) (d : Option (List ℕ)) (s : Spot) (whole : Answer) (cs : List ℕ) (n c : ℕ) (f : EvalFault) → n < length cs → c ≡ get_or cs n c
    → ((rest : List ℕ) → Fails f (finished at d (filled at look s (encode_utf8 c ++ rest)))) → finished at d (to_come at look s cs n) ≡ whole → Fails f whole
char_fails at look d s whole cs n c f lt is h inv =
    subst (λ (a : Answer). Fails f a) (ap (finished at d) (sym (one_left at look s cs n c lt is)) ∙ inv) (h (encode_utf8_all (drop (n + 1) cs)))

nothing_left : (at : ℕ) (look : List ℕ → Option Value) (s : Spot) (cs : List ℕ) (n : ℕ) → length cs ≤ n → to_come at look s cs n ≡ filled at look s []
nothing_left at look s cs n le = ap (λ (l : List ℕ). filled at look s (encode_utf8_all l)) (drop_all n cs le)

end_outside : (at : ℕ) (look : List ℕ → Option Value) → filled at look outside [] ≡ Ok []
unfolding filled
end_outside at look = refl

end_elsewhere : (at : ℕ) (look : List ℕ → Option Value) (s : Spot) → (s ≡ outside → ⊥) → filled at look s [] ≡ Err (BadMark at)
unfolding filled
end_elsewhere at look outside h = absurd (h refl)
end_elsewhere at look opened h = refl
end_elsewhere at look (naming x) h = refl
end_elsewhere at look closed h = refl

pub ends_well : (at : ℕ) (look : List ℕ → Option Value) (d : Option (List ℕ)) (s : Spot) (whole : Answer) (cs : List ℕ) (n : ℕ) → length cs ≤ n → s ≡ outside → finished at d (to_come at look s cs n) ≡ whole → finished at d (Ok []) ≡ whole
ends_well at look d s whole cs n le is inv = ap (finished at d) (sym (nothing_left at look s cs n le ∙ ap (λ (t : Spot). filled at look t []) is ∙ end_outside at look)) ∙ inv

pub ends_within : (at : ℕ) (look : List ℕ → Option Value) (d : Option (List ℕ)) (s : Spot) (whole : Answer) (cs : List ℕ) (n : ℕ) → length cs ≤ n → (s ≡ outside → ⊥) → finished at d (to_come at look s cs n) ≡ whole → whole ≡ Err (BadMark at)
ends_within at look d s whole cs n le is inv = sym inv ∙ ap (finished at d) (nothing_left at look s cs n le ∙ end_elsewhere at look s is)

-- a place that isn't outside of names
pub elsewhere : (s : declared.Spot) (name : List ℕ) → (s ≡ here.Outside → ⊥) → spot_of s name ≡ outside → ⊥
elsewhere here.Outside name h e = h refl
elsewhere here.Opened name h e = cc
elsewhere here.Naming name h e = cc
elsewhere here.Closed name h e = cc

pub ruleset fillings = (value_named, not_named, outside_open, outside_close, outside_char, closed_close, closed_char, opened_open, naming_open)
