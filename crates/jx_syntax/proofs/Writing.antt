-- Pieces written one after the other.
use Rattle.std.proofs.Common.{◌≡◌, ℕ, ◌+◌, ◌<◌, ◌≤◌, Bool, true, false, cond, List, [], ◌∷◌, ◌++◌, length, get_or, take, drop, map, refl, sym, ap, ◌∙◌, append_assoc, arith, rules}
use Rattle.std.proofs.lemmas.List.{drop_more, drop_all, take_more, append-nil, map-append}
use Rattle.std.specs.List.{flat_map}
use lib.Utf8.{encode}
use Rattle.std.proofs.lemmas.Str.{encode_ascii}
use Rattle.jx_syntax.specs.declared.value.JxValue.{JxValue}
use Rattle.jx_syntax.specs.declared.value.JxValue.TheVariants as value
use Rattle.jx_syntax.specs.declared.value.JxValue.TheFolds.{the_lemmas}
use Rattle.jx_syntax.specs.declared.value.JxPair.{JxPair}
use Rattle.jx_syntax.specs.Written.{char_text, separated, quoted, value_text, pair_text}

-- one character more
pub flat_map-more : (out now start cs : List ℕ) (n c : ℕ) → n < length cs → c ≡ get_or cs n c → now ≡ out ++ char_text c
    → out ++ flat_map char_text (drop n cs) ≡ start → now ++ flat_map char_text (drop (n + 1) cs) ≡ start
flat_map-more out now start cs n c lt is e h =
    let d : drop n cs ≡ c ∷ drop (n + 1) cs = drop_more cs n c lt ∙ ap (λ x. x ∷ drop (n + 1) cs) (sym is) in
    ap (λ o. o ++ flat_map char_text (drop (n + 1) cs)) e
    ∙ append_assoc out (char_text c) (flat_map char_text (drop (n + 1) cs))
    ∙ ap (λ l. out ++ flat_map char_text l) (sym d) ∙ h

-- no character more
pub flat_map-end : (out start cs : List ℕ) (n : ℕ) → length cs ≤ n → out ++ flat_map char_text (drop n cs) ≡ start → out ≡ start
flat_map-end out start cs n le h = sym (append-nil out) ∙ ap (λ l. out ++ flat_map char_text l) (sym (drop_all n cs le)) ∙ h

abbrev pub is_nil : {A : Type 0} → List A → Bool
is_nil [] = true
is_nil (x ∷ xs) = false

pub is_nil-push : {A : Type 0} (xs : List A) (x : A) → is_nil (xs ++ x ∷ []) ≡ false
is_nil-push [] x = refl
is_nil-push (y ∷ ys) x = refl

separated-push : (xs : List (List ℕ)) (x : List ℕ) → separated (xs ++ x ∷ []) ≡ separated xs ++ (cond (is_nil xs) [] (44 ∷ []) ++ x)
separated-push [] x = refl
separated-push (y ∷ []) x = refl
separated-push (y ∷ z ∷ ys) x =
    ap (λ l. y ++ 44 ∷ l) (separated-push (z ∷ ys) x) ∙ sym (append_assoc y (44 ∷ separated (z ∷ ys)) (44 ∷ x))

-- one piece more
pub one_more : (out comma now start : List ℕ) (xs : List (List ℕ)) (x : List ℕ) (first : Bool) → out ≡ start ++ separated xs → first ≡ is_nil xs
    → comma ≡ out ++ cond first [] (44 ∷ []) → now ≡ comma ++ x → now ≡ start ++ separated (xs ++ x ∷ [])
one_more out comma now start xs x first h f c n =
    n ∙ ap (λ o. o ++ x) (c ∙ ap (λ b. out ++ cond b [] (44 ∷ [])) f ∙ ap (λ o. o ++ cond (is_nil xs) [] (44 ∷ [])) h)
    ∙ append_assoc (start ++ separated xs) (cond (is_nil xs) [] (44 ∷ [])) x
    ∙ append_assoc start (separated xs) (cond (is_nil xs) [] (44 ∷ []) ++ x)
    ∙ ap (λ l. start ++ l) (sym (separated-push xs x))

pub map-take-more : {A : Type 0} (f : A → List ℕ) (vs : List A) (i : ℕ) (v : A) → i < length vs → v ≡ get_or vs i v → map f (take (i + 1) vs) ≡ map f (take i vs) ++ f v ∷ []
map-take-more f vs i v lt is =
    ap (map f) (take_more vs i v lt ∙ ap (λ x. take i vs ++ x ∷ []) (sym is)) ∙ map-append f (take i vs) (v ∷ [])

-- what stands between two marks
pub enclosed : (start mid : List ℕ) (open_ close : ℕ) → ((start ++ open_ ∷ []) ++ mid) ++ close ∷ [] ≡ start ++ (open_ ∷ (mid ++ close ∷ []))
enclosed start mid open_ close = append_assoc (start ++ open_ ∷ []) mid (close ∷ []) ∙ append_assoc start (open_ ∷ []) (mid ++ close ∷ [])

-- a mark, what stands between, and a mark
pub between : (out opened read closed mid : List ℕ) (open_ close : ℕ) → open_ < 128 → close < 128 → opened ≡ out ++ encode open_ → read ≡ opened ++ mid → closed ≡ read ++ encode close
    → closed ≡ out ++ (open_ ∷ (mid ++ close ∷ []))
between out opened read closed mid open_ close lo lc o r c =
    c ∙ ap (λ e. read ++ e) (encode_ascii close lc) ∙ ap (λ x. x ++ close ∷ []) (r ∙ ap (λ x. x ++ mid) (o ∙ ap (λ e. out ++ e) (encode_ascii open_ lo)))
    ∙ enclosed out mid open_ close

pub text-list : (vs : List JxValue) → value_text (value.List vs) ≡ 91 ∷ (separated (map value_text vs) ++ 93 ∷ [])
text-list vs = search (rules, the_lemmas)

pub text-object : (ps : List JxPair) → value_text (value.Object ps) ≡ 123 ∷ (separated (map pair_text ps) ++ 125 ∷ [])
text-object ps = search (rules, the_lemmas)

pub text-pair : (p : JxPair) → pair_text p ≡ quoted p.key ++ 58 ∷ value_text p.value
text-pair p = search (rules, the_lemmas)

-- a key, a colon and a value
pub one_pair : (comma key colon now : List ℕ) (p : JxPair) → key ≡ comma ++ quoted p.key → colon ≡ key ++ encode 58 → now ≡ colon ++ value_text p.value → now ≡ comma ++ pair_text p
one_pair comma key colon now p k c n =
    n ∙ ap (λ x. x ++ value_text p.value) (c ∙ ap (λ e. key ++ e) (encode_ascii 58 (omega arith)) ∙ ap (λ x. x ++ 58 ∷ []) k)
    ∙ append_assoc (comma ++ quoted p.key) (58 ∷ []) (value_text p.value)
    ∙ append_assoc comma (quoted p.key) (58 ∷ value_text p.value)
    ∙ ap (λ x. comma ++ x) (sym (text-pair p))
