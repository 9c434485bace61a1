-- Texts that are joined.
use Rattle.std.proofs.Common.{◌≡◌, ℕ, ◌+◌, ◌<◌, ◌≤◌, Bool, true, false, ◌&&◌, nat_le, List, [], ◌∷◌, ◌++◌, length, get_or, drop, map, Option, Some, None, is_some, Err, refl, sym, ap, ◌∙◌, arith, append_assoc}
use Rattle.std.proofs.lemmas.Bool.{lt-leb}
use Rattle.std.proofs.lemmas.List.{drop_more, drop_all, append-nil, length-append}
use Rattle.jx_syntax.specs.declared.value.JxValue.{JxValue}
use Rattle.jx_meaning.specs.declared.fault.EvalFault.TheVariants.{TooMuch}
use Rattle.jx_meaning.specs.Values.{Value, null, truth, number, text, list, object, plain}
use Rattle.jx_meaning.specs.Lists.{limited}
use Rattle.jx_meaning.specs.Texts.{also, texts_of, joined, join_texts}
use Rattle.jx_values.specs.Kinds.{text_in}
use Rattle.jx_functions.specs.Pieces.{piece, remaining}

-- ---- whether all are texts

also-some : (v : Value) (o : Option (List (List ℕ))) → is_some (also v o) ≡ (is_some (text_in v) && is_some o)
also-some (text t) (Some ts) = refl
also-some (text t) None = refl
also-some null o = refl
also-some (truth t) o = refl
also-some (number z) o = refl
also-some (list vs) o = refl
also-some (object ps) o = refl

texts_from : (vs : List JxValue) (i : ℕ) (v : JxValue) → i < length vs → v ≡ get_or vs i v → texts_of (map plain (drop i vs)) ≡ also (plain v) (texts_of (map plain (drop (i + 1) vs)))
texts_from vs i v lt is = ap (λ (l : List JxValue). texts_of (map plain l)) (drop_more vs i v lt ∙ ap (λ (x : JxValue). x ∷ drop (i + 1) vs) (sym is))

-- whether what is left are texts
abbrev pub AreTexts : List JxValue → ℕ → Bool
AreTexts vs i = is_some (texts_of (map plain (drop i vs)))

pub one_text : (vs : List JxValue) (i : ℕ) (v : JxValue) → i < length vs → v ≡ get_or vs i v → AreTexts vs i ≡ (is_some (text_in (plain v)) && AreTexts vs (i + 1))
one_text vs i v lt is = ap (λ (o : Option (List (List ℕ))). is_some o) (texts_from vs i v lt is) ∙ also-some (plain v) (texts_of (map plain (drop (i + 1) vs)))

pub no_more : (vs : List JxValue) (i : ℕ) → length vs ≤ i → AreTexts vs i ≡ true
no_more vs i le = ap (λ (l : List JxValue). is_some (texts_of (map plain l))) (drop_all i vs le)

pub text_passes : (vs : List JxValue) (i : ℕ) (v : JxValue) (t : List ℕ) (all : Bool) → i < length vs → v ≡ get_or vs i v → Some t ≡ text_in (plain v) → AreTexts vs i ≡ all → AreTexts vs (i + 1) ≡ all
text_passes vs i v t all lt is e h = ap (λ (o : Option (List ℕ)). is_some o && AreTexts vs (i + 1)) e ∙ sym (one_text vs i v lt is) ∙ h

pub text_fails : (vs : List JxValue) (i : ℕ) (v : JxValue) (all : Bool) → i < length vs → v ≡ get_or vs i v → None ≡ text_in (plain v) → AreTexts vs i ≡ all → false ≡ all
text_fails vs i v all lt is e h = ap (λ (o : Option (List ℕ)). is_some o && AreTexts vs (i + 1)) e ∙ sym (one_text vs i v lt is) ∙ h

-- ---- joined piece by piece

remaining_false : (sep u : List ℕ) (us : List (List ℕ)) → remaining false sep (u ∷ us) ≡ sep ++ joined sep (u ∷ us)
remaining_false sep u [] = append-nil (sep ++ u)
remaining_false sep u (w ∷ ws) = append_assoc sep u (remaining false sep (w ∷ ws)) ∙ ap (λ (l : List ℕ). sep ++ (u ++ l)) (remaining_false sep w ws)

remaining_true : (sep : List ℕ) (ts : List (List ℕ)) → remaining true sep ts ≡ joined sep ts
remaining_true sep [] = refl
remaining_true sep (t ∷ []) = append-nil t
remaining_true sep (t ∷ u ∷ us) = ap (λ (l : List ℕ). t ++ l) (remaining_false sep u us)

same : (ts all : List (List ℕ)) → (let o : Option (List (List ℕ)) = Some ts in o) ≡ Some all → ts ≡ all
same ts all h = cc

some_of : (o : Option (List (List ℕ))) → is_some o ≡ true → (ts : List (List ℕ)) × (o ≡ Some ts)
some_of (Some ts) h = (ts, refl)
some_of None h = absurd (let e : false ≡ true = h in cc)

also-text : (v : Value) (t : List ℕ) (ts : List (List ℕ)) → Some t ≡ text_in v → also v (Some ts) ≡ Some (t ∷ ts)
also-text (text x) t ts h = let e : x ≡ t = cc in ap (λ (l : List ℕ). Some (l ∷ ts)) e
also-text null t ts h = absurd (let o : Option (List ℕ) = None in let e : o ≡ Some t = sym h in cc)
also-text (truth b) t ts h = absurd (let o : Option (List ℕ) = None in let e : o ≡ Some t = sym h in cc)
also-text (number z) t ts h = absurd (let o : Option (List ℕ) = None in let e : o ≡ Some t = sym h in cc)
also-text (list vs) t ts h = absurd (let o : Option (List ℕ) = None in let e : o ≡ Some t = sym h in cc)
also-text (object ps) t ts h = absurd (let o : Option (List ℕ) = None in let e : o ≡ Some t = sym h in cc)

-- what stands, with what is still to be joined, is what all texts give
abbrev pub IsJoined : List JxValue → ℕ → List ℕ → Bool → List ℕ → Type 0
IsJoined vs i sep first out = (ts all : List (List ℕ)) → texts_of (map plain (drop i vs)) ≡ Some ts → texts_of (map plain vs) ≡ Some all → out ++ remaining first sep ts ≡ joined sep all

pub nothing_joined : (vs : List JxValue) (sep out : List ℕ) → out ≡ [] → IsJoined vs 0 sep true out
nothing_joined vs sep out e = λ ts all h k. ap (λ (l : List ℕ). l ++ remaining true sep ts) e ∙ remaining_true sep ts ∙ ap (joined sep) (same ts all (sym h ∙ k))

with_rest : (vs : List JxValue) (i : ℕ) (v : JxValue) (t : List ℕ) (ts all : List (List ℕ)) (sep out : List ℕ) (first : Bool) → i < length vs → v ≡ get_or vs i v → Some t ≡ text_in (plain v) → IsJoined vs i sep first out
    → texts_of (map plain (drop (i + 1) vs)) ≡ Some ts → texts_of (map plain vs) ≡ Some all → (out ++ piece first sep t) ++ remaining false sep ts ≡ joined sep all
with_rest vs i v t ts all sep out first lt is e inv h k =
    let here : texts_of (map plain (drop i vs)) ≡ Some (t ∷ ts) = texts_from vs i v lt is ∙ ap (also (plain v)) h ∙ also-text (plain v) t ts e in
    append_assoc out (piece first sep t) (remaining false sep ts) ∙ inv (t ∷ ts) all here k

pub one_joined : (vs : List JxValue) (i : ℕ) (v : JxValue) (t sep out new : List ℕ) (first : Bool) → i < length vs → v ≡ get_or vs i v → Some t ≡ text_in (plain v) → IsJoined vs i sep first out
    → new ≡ out ++ piece first sep t → IsJoined vs (i + 1) sep false new
one_joined vs i v t sep out new first lt is e inv n = λ ts all h k. ap (λ (l : List ℕ). l ++ remaining false sep ts) n ∙ with_rest vs i v t ts all sep out first lt is e inv h k

long_text : (at : ℕ) (front rest whole : List ℕ) → front ++ rest ≡ whole → 16777216 < length front → limited at (text whole) ≡ Err (TooMuch at)
long_text at front rest whole e lt =
    let len : length front + length rest ≡ length whole = sym (length-append front rest) ∙ ap (λ (l : List ℕ). length l) e in
    let no_ : nat_le (length whole) 16777216 ≡ false = lt-leb (length whole) 16777216 (omega arith) in
    rw no_ refl

pub too_long : (at : ℕ) (vs : List JxValue) (i : ℕ) (v : JxValue) (t sep out : List ℕ) (first : Bool) → i < length vs → v ≡ get_or vs i v → Some t ≡ text_in (plain v) → IsJoined vs i sep first out
    → AreTexts vs i ≡ true → is_some (texts_of (map plain vs)) ≡ true → 16777216 < length (out ++ piece first sep t) → join_texts at sep (texts_of (map plain vs)) ≡ Err (TooMuch at)
too_long at vs i v t sep out first lt is e inv are whole long =
    let all = some_of (texts_of (map plain vs)) whole in
    let ts = some_of (texts_of (map plain (drop (i + 1) vs))) (text_passes vs i v t true lt is e are) in
    ap (join_texts at sep) all.1
    ∙ long_text at (out ++ piece first sep t) (remaining false sep ts.0) (joined sep all.0) (with_rest vs i v t ts.0 all.0 sep out first lt is e inv ts.1 all.1) long

pub all_joined : (at : ℕ) (vs : List JxValue) (i : ℕ) (sep out : List ℕ) (first : Bool) → length vs ≤ i → IsJoined vs i sep first out → is_some (texts_of (map plain vs)) ≡ true
    → limited at (text out) ≡ join_texts at sep (texts_of (map plain vs))
all_joined at vs i sep out first le inv whole =
    let all = some_of (texts_of (map plain vs)) whole in
    let none : texts_of (map plain (drop i vs)) ≡ Some [] = ap (λ (l : List JxValue). texts_of (map plain l)) (drop_all i vs le) in
    ap (λ (l : List ℕ). limited at (text l)) (sym (append-nil out) ∙ inv [] all.0 none all.1) ∙ ap (join_texts at sep) (sym all.1)
