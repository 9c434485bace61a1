-- A text is refused for one reason.
use Rattle.std.proofs.Common.{◌≡◌, ℕ, true, false, List, [], ◌∷◌, ◌++◌, length, Option, Some, None, refl, sym, ap, subst, ◌∙◌, append_assoc, inl, inr}
use Rattle.std.proofs.lemmas.List.{append-nil}
use Rattle.jx_tokens.specs.declared.fault.JxFault.{JxFault}
use Rattle.jx_tokens.specs.declared.fault.JxFault.TheVariants.{NotUtf8, Unexpected, OpenText, FloatUnsupported, IntTooWide, TooDeep, TooLarge, Memory}
use Rattle.jx_tokens.specs.declared.token.Token.{Token}
use Rattle.jx_tokens.specs.Tokens.{scan_of}
use Rattle.jx_syntax.specs.Grammar.{Derivation, IsViable, Derives, StopsAt, is_wide, IsRefused, Refusal, IsWritten, IsNoExpression}

-- what begins what begins an expression begins it
shorter : (limit : ℕ) (xs ys : List Token) → IsViable limit (xs ++ ys) → IsViable limit xs
shorter limit xs ys v = (v.0, ys ++ v.1, v.2, v.3 ∙ append_assoc xs ys v.1)

first_is : (x y : Token) (a b : List Token) → x ∷ a ≡ y ∷ b → x ≡ y
first_is x y a b e = cc

rest_is : (x y : Token) (a b : List Token) → x ∷ a ≡ y ∷ b → a ≡ b
rest_is x y a b e = cc

-- two tokens of one list at which it stops are one
same_stop : (P : List Token → Type 0) → ((xs ys : List Token) → P (xs ++ ys) → P xs) → (xs ys bs cs : List Token) (t u : Token) → xs ++ t ∷ bs ≡ ys ++ u ∷ cs
    → P xs → P ys → (P (xs ++ t ∷ []) → ⊥) → (P (ys ++ u ∷ []) → ⊥) → (xs ≡ ys) × (t ≡ u)
same_stop P less [] [] bs cs t u e p q f g = (refl, first_is t u bs cs e)
same_stop P less [] (y ∷ ys) bs cs t u e p q f g =
    absurd (f (subst (λ (z : Token). P (z ∷ [])) (sym (first_is t y bs (ys ++ u ∷ cs) e)) (less (y ∷ []) ys q)))
same_stop P less (x ∷ xs) [] bs cs t u e p q f g =
    absurd (g (subst (λ (z : Token). P (z ∷ [])) (first_is x u (xs ++ t ∷ bs) cs e) (less (x ∷ []) xs p)))
same_stop P less (x ∷ xs) (y ∷ ys) bs cs t u e p q f g =
    let h : x ≡ y = first_is x y (xs ++ t ∷ bs) (ys ++ u ∷ cs) e in
    let r = same_stop (λ zs. P (x ∷ zs)) (λ as_ zs. less (x ∷ as_) zs) xs ys bs cs t u (rest_is x y (xs ++ t ∷ bs) (ys ++ u ∷ cs) e)
    p (subst (λ (z : Token). P (z ∷ ys)) (sym h) q) f (λ v. g (subst (λ (z : Token). P (z ∷ (ys ++ u ∷ []))) h v)) in
    (ap (λ (zs : List Token). x ∷ zs) r.0 ∙ ap (λ (z : Token). z ∷ ys) h, r.1)

abbrev one_stop : (tokens : List Token) (t u : Token) (s : StopsAt tokens t) (r : StopsAt tokens u) → (s.before ≡ r.before) × (t ≡ u)
one_stop tokens t u s r =
    same_stop (IsViable 128) (shorter 128) s.before r.before s.behind r.behind t u (sym s.split ∙ r.split) s.viable r.viable s.stuck r.stuck

-- tokens that begin an expression don't stop
pub goes_on : (tokens : List Token) (t : Token) → StopsAt tokens t → IsViable 128 tokens → ⊥
goes_on tokens t s v =
    s.stuck (shorter 128 (s.before ++ t ∷ []) s.behind (subst (IsViable 128) (s.split ∙ sym (append_assoc s.before (t ∷ []) s.behind)) v))

one_place : (tokens : List Token) (t u : Token) (p q : ℕ) → StopsAt tokens t → StopsAt tokens u → t.place ≡ p → u.place ≡ q → p ≡ q
one_place tokens t u p q s r a b = sym a ∙ ap (λ (z : Token). z.place) (one_stop tokens t u s r).1 ∙ b

not_deep : (tokens : List Token) (t u : Token) (s : StopsAt tokens t) (r : StopsAt tokens u) (limit : ℕ) → ((n : ℕ) → IsViable n (s.before ++ t ∷ []) → ⊥) → IsViable limit (r.before ++ u ∷ []) → ⊥
not_deep tokens t u s r limit never v =
    let one = one_stop tokens t u s r in
    never limit (subst (IsViable limit) (ap (λ (xs : List Token). xs ++ u ∷ []) (sym one.0) ∙ ap (λ (z : Token). s.before ++ z ∷ []) (sym one.1)) v)

not_wide : (tokens : List Token) (t u : Token) → StopsAt tokens t → StopsAt tokens u → is_wide t.kind ≡ false → is_wide u.kind ≡ true → ⊥
not_wide tokens t u s r a b = differ (sym a ∙ ap (λ (z : Token). is_wide z.kind) (one_stop tokens t u s r).1 ∙ b) where
  differ : false ≡ true → ⊥
  differ e = cc

refused_once : (len : ℕ) (tokens : List Token) (e f : JxFault) → IsRefused len tokens e → IsRefused len tokens f → e ≡ f
refused_once len tokens (NotUtf8 p) f h g = absurd h
refused_once len tokens (OpenText p) f h g = absurd h
refused_once len tokens (FloatUnsupported p) f h g = absurd h
refused_once len tokens TooLarge f h g = absurd h
refused_once len tokens Memory f h g = absurd h
refused_once len tokens e (NotUtf8 q) h g = absurd g
refused_once len tokens e (OpenText q) h g = absurd g
refused_once len tokens e (FloatUnsupported q) h g = absurd g
refused_once len tokens e TooLarge h g = absurd g
refused_once len tokens e Memory h g = absurd g
refused_once len tokens (Unexpected p) (Unexpected q) h g = elim h [
  | inl a ↦ elim g [
    | inl b ↦ ap Unexpected (one_place tokens a.0 b.0 p q a.1 b.1 a.2 b.2)
    | inr b ↦ absurd (goes_on tokens a.0 a.1 b.1)
  ]
  | inr a ↦ elim g [
    | inl b ↦ absurd (goes_on tokens b.0 b.1 a.1)
    | inr b ↦ ap Unexpected (a.0 ∙ sym b.0)
  ]
]
refused_once len tokens (Unexpected p) (TooDeep q) h g = elim h [
  | inl a ↦ absurd (not_deep tokens a.0 g.0 a.1 g.1 g.3 a.4 g.4)
  | inr a ↦ absurd (goes_on tokens g.0 g.1 a.1)
]
refused_once len tokens (Unexpected p) (IntTooWide q) h g = elim h [
  | inl a ↦ absurd (not_wide tokens a.0 g.0 a.1 g.1 a.3 g.3)
  | inr a ↦ absurd (goes_on tokens g.0 g.1 a.1)
]
refused_once len tokens (TooDeep p) (Unexpected q) h g = elim g [
  | inl b ↦ absurd (not_deep tokens b.0 h.0 b.1 h.1 h.3 b.4 h.4)
  | inr b ↦ absurd (goes_on tokens h.0 h.1 b.1)
]
refused_once len tokens (TooDeep p) (TooDeep q) h g = ap TooDeep (one_place tokens h.0 g.0 p q h.1 g.1 h.2 g.2)
refused_once len tokens (TooDeep p) (IntTooWide q) h g = absurd (not_deep tokens g.0 h.0 g.1 h.1 h.3 g.4 h.4)
refused_once len tokens (IntTooWide p) (Unexpected q) h g = elim g [
  | inl b ↦ absurd (not_wide tokens b.0 h.0 b.1 h.1 b.3 h.3)
  | inr b ↦ absurd (goes_on tokens h.0 h.1 b.1)
]
refused_once len tokens (IntTooWide p) (TooDeep q) h g = absurd (not_deep tokens h.0 g.0 h.1 g.1 g.3 h.4 g.4)
refused_once len tokens (IntTooWide p) (IntTooWide q) h g = ap IntTooWide (one_place tokens h.0 g.0 p q h.1 g.1 h.2 g.2)

one_refusal : (len : ℕ) (tokens : List Token) (x : Option JxFault) (e f : JxFault) → Refusal len tokens x e → Refusal len tokens x f → e ≡ f
one_refusal len tokens None e f h g = refused_once len tokens e f h g
one_refusal len tokens (Some x) e f h g = elim h [
  | inl a ↦ elim g [
    | inl b ↦ a.1 ∙ sym b.1
    | inr b ↦ absurd (goes_on tokens b.0.0 b.0.1 a.0)
  ]
  | inr a ↦ elim g [
    | inl b ↦ absurd (goes_on tokens a.0.0 a.0.1 b.0)
    | inr b ↦ refused_once len tokens e f a.1 b.1
  ]
]

pub one_reason : (bytes : List ℕ) (e f : JxFault) → IsNoExpression bytes e → IsNoExpression bytes f → e ≡ f
one_reason bytes e f h g = one_refusal (length bytes) (scan_of bytes).tokens (scan_of bytes).fault e f h g

-- ---- an expression isn't refused

viable_all : (tokens : List Token) (d : Derivation) → Derives tokens d → IsViable 128 tokens
viable_all tokens d h = (d, [], h.0, h.1 ∙ sym (append-nil tokens))

not_refused : (len : ℕ) (tokens : List Token) (d : Derivation) (e : JxFault) → Derives tokens d → IsRefused len tokens e → ⊥
not_refused len tokens d (NotUtf8 p) h g = g
not_refused len tokens d (OpenText p) h g = g
not_refused len tokens d (FloatUnsupported p) h g = g
not_refused len tokens d TooLarge h g = g
not_refused len tokens d Memory h g = g
not_refused len tokens d (Unexpected p) h g = elim g [
  | inl a ↦ goes_on tokens a.0 a.1 (viable_all tokens d h)
  | inr a ↦ a.2 d h
]
not_refused len tokens d (TooDeep p) h g = goes_on tokens g.0 g.1 (viable_all tokens d h)
not_refused len tokens d (IntTooWide p) h g = goes_on tokens g.0 g.1 (viable_all tokens d h)

not_at_all : (len : ℕ) (tokens : List Token) (x : Option JxFault) (d : Derivation) (e : JxFault) → Derives tokens d → x ≡ None → Refusal len tokens x e → ⊥
not_at_all len tokens None d e h n g = not_refused len tokens d e h g
not_at_all len tokens (Some f) d e h n g = absurd cc

pub not_both : (bytes : List ℕ) (d : Derivation) (e : JxFault) → IsWritten bytes d → IsNoExpression bytes e → ⊥
not_both bytes d e h g = not_at_all (length bytes) (scan_of bytes).tokens (scan_of bytes).fault d e h.0 h.1 g
