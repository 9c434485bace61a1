-- Texts that are being written.
use Rattle.std.proofs.Common.{◌≡◌, ℕ, ◌+◌, ◌≤◌, ◌<◌, Bool, true, false, nat_lt, List, [], ◌∷◌, ◌++◌, length, get_or, drop, Option, Some, None, Ok, Err, refl, sym, ap, ◌∙◌, arith, append_assoc}
use Rattle.std.specs.Prelude.{if◌then◌else◌}
use Rattle.std.proofs.lemmas.Bool.{lt-leb, le-leb, leb-false, ltb-true, ltb-false}
use Rattle.std.proofs.lemmas.List.{length-append, append-nil, drop_more, drop_all}
use Rattle.std.specs.List.{flat_map}
use Rattle.jx_meaning.specs.Values.{text, may_be}
use Rattle.jx_meaning.specs.Lists.{limited}
use Rattle.jx_meaning.specs.Texts.{Piece, before, made}
use Rattle.jx_functions.specs.Drafts.{extended, text_or_much, finished}

-- ---- one piece

-- a text that is too long can't be built
long : (t : List ℕ) → 16777216 < length t → may_be (text t) ≡ false
long t lt = lt-leb (length t) 16777216 lt

-- any other can
short : (t : List ℕ) → length t ≤ 16777216 → may_be (text t) ≡ true
short t le = le-leb (length t) 16777216 le

-- what a draft comes to, by its fields
abbrev pub kept : Bool → List ℕ → Option (List ℕ)
kept full out = if full then None else Some out

pub is_full : (full : Bool) (out p : List ℕ) → full ≡ true → kept full out ≡ extended (kept full out) p
is_full true out p h = refl
is_full false out p h = absurd (let e : false ≡ true = h in cc)

pub gets_full : (full : Bool) (out p : List ℕ) → full ≡ false → 16777216 < length out + length p → (let o : Option (List ℕ) = None in o) ≡ extended (kept full out) p
gets_full true out p h lt = absurd (let e : true ≡ false = h in cc)
gets_full false out p h lt = let z = long (out ++ p) (omega (arith, lt, length-append out p)) in rw z refl

pub takes : (full : Bool) (out p new : List ℕ) → full ≡ false → length out + length p ≤ 16777216 → new ≡ out ++ p → kept full new ≡ extended (kept full out) p
takes true out p new h le e = absurd (let e : true ≡ false = h in cc)
takes false out p new h le e = let z = short (out ++ p) (omega (arith, le, length-append out p)) in rw (e, z) refl

taken : (now : Bool) (out p new : List ℕ) → now ≡ nat_lt 16777216 (length new) → new ≡ out ++ p → kept now new ≡ extended (Some out) p
taken true out p new h e = let z = long (out ++ p) (ltb-true 16777216 (length (out ++ p)) (ap (λ (l : List ℕ). nat_lt 16777216 (length l)) (sym e) ∙ sym h)) in rw z refl
taken false out p new h e = let z = short (out ++ p) (ltb-false 16777216 (length (out ++ p)) (ap (λ (l : List ℕ). nat_lt 16777216 (length l)) (sym e) ∙ sym h)) in rw (e, z) refl

pub measured : (full now : Bool) (out p new : List ℕ) → full ≡ false → now ≡ nat_lt 16777216 (length new) → new ≡ out ++ p → kept now new ≡ extended (kept full out) p
measured true now out p new f h e = absurd (let e : true ≡ false = f in cc)
measured false now out p new f h e = taken now out p new h e

-- ---- pieces one behind the other

twice_by : (out p q : List ℕ) (b : Bool) → may_be (text (out ++ p)) ≡ b → extended (if b then Some (out ++ p) else None) q ≡ extended (Some out) (p ++ q)
twice_by out p q true h = ap (λ (l : List ℕ). if may_be (text l) then Some l else None) (append_assoc out p q)
twice_by out p q false h =
    let lt : 16777216 < length (out ++ p) = leb-false (length (out ++ p)) 16777216 h in
    let z = long (out ++ (p ++ q)) (omega (arith, lt, length-append (out ++ p) q, ap (λ (l : List ℕ). length l) (append_assoc out p q))) in
    rw z refl

-- a piece and another one are both at once
pub twice : (d : Option (List ℕ)) (p q : List ℕ) → extended (extended d p) q ≡ extended d (p ++ q)
twice None p q = refl
twice (Some out) p q = twice_by out p q (may_be (text (out ++ p))) refl

-- a piece that was put at the end need not come any more
pub put_first : (at : ℕ) (d : Option (List ℕ)) (p : List ℕ) (rest : Piece) → finished at (extended d p) rest ≡ finished at d (before p rest)
put_first at d p (Ok more) = ap (text_or_much at) (twice d p more)
put_first at d p (Err e) = refl

begun_by : (at : ℕ) (t : List ℕ) (b : Bool) → may_be (text t) ≡ b → text_or_much at (if may_be (text t) then Some t else None) ≡ limited at (text t)
begun_by at t true h = rw h refl
begun_by at t false h = rw h refl

-- where no text stands so far, all of it comes
pub begun : (at : ℕ) (p : Piece) → finished at (Some []) p ≡ made at p
begun at (Ok bs) = begun_by at bs (may_be (text bs)) refl
begun at (Err e) = refl

-- where nothing comes any more, the text so far is all
pub ended : (at : ℕ) (full : Bool) (out : List ℕ) → full ≡ false → limited at (text out) ≡ finished at (kept full out) (Ok [])
ended at true out f = absurd (let e : true ≡ false = f in cc)
ended at false out f =
    sym (begun_by at out (may_be (text out)) refl) ∙ ap (λ (l : List ℕ). text_or_much at (if may_be (text l) then Some l else None)) (sym (append-nil out))

-- ---- texts that are made character by character

pub one_char : (f : ℕ → List ℕ) (d new whole : Option (List ℕ)) (cs tail : List ℕ) (n c : ℕ) → n < length cs → c ≡ get_or cs n c → new ≡ extended d (f c)
    → extended d (flat_map f (drop n cs) ++ tail) ≡ whole → extended new (flat_map f (drop (n + 1) cs) ++ tail) ≡ whole
one_char f d new whole cs tail n c lt is e h =
    let more : drop n cs ≡ c ∷ drop (n + 1) cs = drop_more cs n c lt ∙ ap (λ (x : ℕ). x ∷ drop (n + 1) cs) (sym is) in
    ap (λ (o : Option (List ℕ)). extended o (flat_map f (drop (n + 1) cs) ++ tail)) e ∙ twice d (f c) (flat_map f (drop (n + 1) cs) ++ tail)
    ∙ ap (extended d) (sym (append_assoc (f c) (flat_map f (drop (n + 1) cs)) tail)) ∙ ap (λ (l : List ℕ). extended d (flat_map f l ++ tail)) (sym more) ∙ h

pub no_char : (f : ℕ → List ℕ) (d whole : Option (List ℕ)) (cs tail : List ℕ) (n : ℕ) → length cs ≤ n
    → extended d (flat_map f (drop n cs) ++ tail) ≡ whole → extended d tail ≡ whole
no_char f d whole cs tail n le h = ap (λ (l : List ℕ). extended d (flat_map f l ++ tail)) (sym (drop_all n cs le)) ∙ h

pub ruleset drafts = (is_full, gets_full, takes, measured)
