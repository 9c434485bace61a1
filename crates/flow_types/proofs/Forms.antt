-- A name in its one form is its own form.
use Rattle.std.proofs.Common.{◌≡◌, ℕ, zero, suc, ◌+◌, ◌<◌, Bool, true, false, cond, List, [], ◌∷◌, ◌++◌, length, get_or, Some, None, refl, ap, sym, ◌∙◌, subst, arith, length-append, lit<}
use Rattle.std.specs.Prelude.{◌==◌, nat_eq, nat_lt, filter, codes, IsTrue}
use Rattle.std.specs.List.{All, list_any, onto_first, join_with_byte, starts_with}
use Rattle.std.specs.Str.{IsUtf8, IsCharBoundary, bytes_eq, is_utf8}
use Rattle.std.proofs.Math.Seq.{take-append_seam, drop-append-add, get_or-append_seam}
use Rattle.std.proofs.lemmas.Bool.{and_from, and_parts, and_left, or_parts, or_from, not-true, not-false, not_from_true, not_from_false, eqb-false, ne_eqb}
use Rattle.std.proofs.lemmas.Slice.Eq.{bytes_eq-Decides}
use Rattle.std.proofs.lemmas.List.Elements.{All-nil, All-cons, All-head, All-tail, All-filter, filter_passes}
use Rattle.std.proofs.lemmas.List.Folds.{list_any-append}
use Rattle.std.proofs.lemmas.List.Splits.{slice_split_none, slice_split_at, slice_split-cons_yes, slice_split-cons_no, join_with_byte-slice_split}
use Rattle.std.proofs.lemmas.Str.{IsUtf8-append, IsUtf8-nil, IsUtf8-from_ascii, IsUtf8-take, IsUtf8-drop, IsCharBoundary-after_ascii, is_utf8-from_IsUtf8, IsUtf8-from_is_utf8}
use Rattle.flow_types.specs.Names.{parts_of, form_of, is_bad, is_kept_part, name_of, is_name}

-- A property that two texts with a slash between them have exactly where both have it.
pub record GoesByParts (P : List ℕ → Type 0) : Type 0 where
  pub nothing : P []
  pub joined : (xs ys : List ℕ) → P xs → P ys → P (xs ++ 47 ∷ ys)
  pub front : (xs ys : List ℕ) → P (xs ++ 47 ∷ ys) → P xs
  pub back : (xs ys : List ℕ) → P (xs ++ 47 ∷ ys) → P ys

to_parts : (P : List ℕ → Type 0) → GoesByParts P → (parts : List (List ℕ)) → P (join_with_byte 47 parts) → All P parts
to_parts P goes [] p = All-nil P
to_parts P goes (part ∷ []) p = All-cons P part [] p (All-nil P)
to_parts P goes (part ∷ q ∷ qs) p =
    All-cons P part (q ∷ qs) (goes.front part (join_with_byte 47 (q ∷ qs)) p) (to_parts P goes (q ∷ qs) (goes.back part (join_with_byte 47 (q ∷ qs)) p))

from_parts : (P : List ℕ → Type 0) → GoesByParts P → (parts : List (List ℕ)) → All P parts → P (join_with_byte 47 parts)
from_parts P goes [] all = goes.nothing
from_parts P goes (part ∷ []) all = All-head P part [] all
from_parts P goes (part ∷ q ∷ qs) all =
    goes.joined part (join_with_byte 47 (q ∷ qs)) (All-head P part (q ∷ qs) all) (from_parts P goes (q ∷ qs) (All-tail P part (q ∷ qs) all))

-- the form of a text has what the text has
form-keeps : (P : List ℕ → Type 0) → GoesByParts P → (text : List ℕ) → P text → P (form_of text)
form-keeps P goes text p =
    from_parts P goes (filter is_kept_part (parts_of text))
    (All-filter is_kept_part P (parts_of text) (to_parts P goes (parts_of text) (subst P (sym (join_with_byte-slice_split 47 text)) p)))

slash_is_text : IsUtf8 (47 ∷ [])
slash_is_text = IsUtf8-from_ascii (47 ∷ []) low
  where
    low : (i : ℕ) → get_or (47 ∷ []) i 0 < 128
    low zero = lit< tt
    low (suc i) = lit< tt

at_slash : (xs ys : List ℕ) → IsUtf8 (xs ++ 47 ∷ ys) → IsCharBoundary (xs ++ 47 ∷ ys) (length xs)
at_slash xs ys text =
    let seam = get_or-append_seam xs 47 ys 0 in
    (omega (arith, length-append xs (47 ∷ ys)), λ inside high. absurd (let wrong : ⊥ = omega (arith, seam, high) in wrong))

past_slash : (xs ys : List ℕ) → IsUtf8 (xs ++ 47 ∷ ys) → IsCharBoundary (xs ++ 47 ∷ ys) (length xs + 1)
past_slash xs ys text =
    let seam = get_or-append_seam xs 47 ys 0 in
    IsCharBoundary-after_ascii (xs ++ 47 ∷ ys) (length xs) text (omega (arith, length-append xs (47 ∷ ys))) (omega (arith, seam))

utf8-parts : GoesByParts IsUtf8
utf8-parts = record {
  nothing = IsUtf8-nil;
  joined = λ xs ys x y. IsUtf8-append xs (47 ∷ ys) x (IsUtf8-append (47 ∷ []) ys slash_is_text y);
  front = λ xs ys text. subst IsUtf8 (take-append_seam xs (47 ∷ ys)) (IsUtf8-take (xs ++ 47 ∷ ys) (length xs) text (at_slash xs ys text));
  back = λ xs ys text. subst IsUtf8 (drop-append-add xs (47 ∷ ys) 1) (IsUtf8-drop (xs ++ 47 ∷ ys) (length xs + 1) text (past_slash xs ys text));
}

-- no byte is zero
abbrev HasNoZero : List ℕ → Type 0
HasNoZero text = list_any (λ b. b == 0) text ≡ false

zero-parts : GoesByParts HasNoZero
zero-parts = record {
  nothing = refl;
  joined = λ xs ys x y. list_any-append (λ b. b == 0) xs (47 ∷ ys) ∙ or_from _ _ x y;
  front = λ xs ys text. (or_parts _ _ (sym (list_any-append (λ b. b == 0) xs (47 ∷ ys)) ∙ text)).0;
  back = λ xs ys text. (or_parts _ _ (sym (list_any-append (λ b. b == 0) xs (47 ∷ ys)) ∙ text)).1;
}

-- no byte is a slash
abbrev pub HasNoSlash : List ℕ → Type 0
HasNoSlash part = All (λ b. (b == 47) ≡ false) part

onto_first-no_slash : (b : ℕ) (parts : List (List ℕ)) → (b == 47) ≡ false → All HasNoSlash parts → All HasNoSlash (onto_first b parts)
onto_first-no_slash b [] h all = All-cons HasNoSlash (b ∷ []) [] (All-cons (λ b. (b == 47) ≡ false) b [] h (All-nil (λ b. (b == 47) ≡ false))) (All-nil HasNoSlash)
onto_first-no_slash b (part ∷ parts) h all =
    All-cons HasNoSlash (b ∷ part) parts (All-cons (λ b. (b == 47) ≡ false) b part h (All-head HasNoSlash part parts all)) (All-tail HasNoSlash part parts all)

by_slash : (b : ℕ) (text : List ℕ) (t : Bool) → (b == 47) ≡ t → All HasNoSlash (parts_of text) → All HasNoSlash (parts_of (b ∷ text))
by_slash b text true h all =
    subst (λ parts. All HasNoSlash parts) (sym (slice_split-cons_yes (λ b. b == 47) b text h)) (All-cons HasNoSlash [] (parts_of text) (All-nil (λ b. (b == 47) ≡ false)) all)
by_slash b text false h all =
    subst (λ parts. All HasNoSlash parts) (sym (slice_split-cons_no (λ b. b == 47) b text h)) (onto_first-no_slash b (parts_of text) h all)

pub parts-no_slash : (text : List ℕ) → All HasNoSlash (parts_of text)
parts-no_slash [] = All-cons HasNoSlash [] [] (All-nil (λ b. (b == 47) ≡ false)) (All-nil HasNoSlash)
parts-no_slash (b ∷ text) = by_slash b text (b == 47) refl (parts-no_slash text)

-- joining parts and cutting at the slashes gives the parts back
parts_of-joined : (part : List ℕ) (parts : List (List ℕ)) → All HasNoSlash (part ∷ parts) → parts_of (join_with_byte 47 (part ∷ parts)) ≡ part ∷ parts
parts_of-joined part [] all = slice_split_none (λ b. b == 47) part (All-head HasNoSlash part [] all)
parts_of-joined part (q ∷ qs) all =
    slice_split_at (λ b. b == 47) part 47 (join_with_byte 47 (q ∷ qs)) (All-head HasNoSlash part (q ∷ qs) all) refl
    ∙ ap (λ parts. part ∷ parts) (parts_of-joined q qs (All-tail HasNoSlash part (q ∷ qs) all))

-- a form that isn't empty is its own form
form-form : (parts : List (List ℕ)) → All HasNoSlash parts → bytes_eq (join_with_byte 47 (filter is_kept_part parts)) [] ≡ false
    → parts_of (join_with_byte 47 (filter is_kept_part parts)) ≡ filter is_kept_part parts
form-form parts all some = by_form (filter is_kept_part parts) (All-filter is_kept_part HasNoSlash parts all) some
  where
    by_form : (kept : List (List ℕ)) → All HasNoSlash kept → bytes_eq (join_with_byte 47 kept) [] ≡ false → parts_of (join_with_byte 47 kept) ≡ kept
    by_form [] all some = cc
    by_form (part ∷ parts) all some = parts_of-joined part parts all

pub all_kept : (parts : List (List ℕ)) → All (λ part. is_kept_part part ≡ true) parts → filter is_kept_part parts ≡ parts
all_kept [] all = refl
all_kept (part ∷ parts) all =
    rw (All-head (λ part. is_kept_part part ≡ true) part parts all) (ap (λ parts. part ∷ parts) (all_kept parts (All-tail (λ part. is_kept_part part ≡ true) part parts all)))

-- what no item has, no kept item has
any-filter : (p q : List ℕ → Bool) (xs : List (List ℕ)) → list_any p xs ≡ false → list_any p (filter q xs) ≡ false
any-filter p q [] none = refl
any-filter p q (x ∷ xs) none = by_kept p q x xs (q x) refl (or_parts _ _ none).0 (any-filter p q xs (or_parts _ _ none).1)
  where
    by_kept : (p q : List ℕ → Bool) (x : List ℕ) (xs : List (List ℕ)) (b : Bool) → q x ≡ b → p x ≡ false → list_any p (filter q xs) ≡ false → list_any p (filter q (x ∷ xs)) ≡ false
    by_kept p q x xs true h here rest = rw h (or_from _ _ here rest)
    by_kept p q x xs false h here rest = rw h rest

first_differs : (b : ℕ) (bs : List ℕ) → HasNoSlash (b ∷ bs) → starts_with nat_eq (b ∷ bs) (codes "/") ≡ false
first_differs b bs free =
    let other : (b == 47) ≡ false = All-head (λ b. (b == 47) ≡ false) b bs free in
    and_left (nat_eq 47 b) true (ne_eqb 47 b (λ same. eqb-false b 47 other (sym same)))

-- kept parts, joined, don't begin with a slash
no_slash_first : (kept : List (List ℕ)) → All HasNoSlash kept → All (λ part. is_kept_part part ≡ true) kept → starts_with nat_eq (join_with_byte 47 kept) (codes "/") ≡ false
no_slash_first [] free all = refl
no_slash_first ([] ∷ parts) free all = let wrong = All-head (λ part. is_kept_part part ≡ true) [] parts all in cc
no_slash_first ((b ∷ bs) ∷ []) free all = first_differs b bs (All-head HasNoSlash (b ∷ bs) [] free)
no_slash_first ((b ∷ bs) ∷ q ∷ qs) free all = first_differs b bs (All-head HasNoSlash (b ∷ bs) (q ∷ qs) free)

-- what a text that isn't bad has
pub record IsGood (text : List ℕ) : Type 0 where
  pub utf8 : is_utf8 text ≡ true
  pub relative : starts_with nat_eq text (codes "/") ≡ false
  pub no_parent : list_any (bytes_eq (codes "..")) (parts_of text) ≡ false
  pub no_zero : list_any (λ b. b == 0) text ≡ false
  pub some : bytes_eq (form_of text) [] ≡ false
  pub short : nat_lt 1024 (length (form_of text)) ≡ false

pub good : (text : List ℕ) → is_bad text ≡ false → IsGood text
good text h =
    let short = or_parts _ _ h in
    let some = or_parts _ _ short.0 in
    let no_zero = or_parts _ _ some.0 in
    let no_parent = or_parts _ _ no_zero.0 in
    let relative = or_parts _ _ no_parent.0 in
    record { utf8 = not-false (is_utf8 text) relative.0; relative = relative.1; no_parent = no_parent.1; no_zero = no_zero.1; some = some.1; short = short.1 }

pub from_good : (text : List ℕ) → IsGood text → is_bad text ≡ false
from_good text g =
    or_from _ _ (or_from _ _ (or_from _ _ (or_from _ _ (or_from _ _ (not_from_true (is_utf8 text) g.utf8) g.relative) g.no_parent) g.no_zero) g.some) g.short

-- the parts of the form of a good text
pub parts_of-form : (text : List ℕ) → IsGood text → parts_of (form_of text) ≡ filter is_kept_part (parts_of text)
parts_of-form text g = form-form (parts_of text) (parts-no_slash text) g.some

form_of-form : (text : List ℕ) → IsGood text → form_of (form_of text) ≡ form_of text
form_of-form text g =
    ap (λ parts. join_with_byte 47 (filter is_kept_part parts)) (parts_of-form text g)
    ∙ ap (join_with_byte 47) (all_kept (filter is_kept_part (parts_of text)) (filter_passes is_kept_part (parts_of text)))

form-good : (text : List ℕ) → IsGood text → IsGood (form_of text)
form-good text g = record {
  utf8 = is_utf8-from_IsUtf8 (form_of text) (form-keeps IsUtf8 utf8-parts text (IsUtf8-from_is_utf8 text g.utf8));
  relative = no_slash_first (filter is_kept_part (parts_of text)) (All-filter is_kept_part HasNoSlash (parts_of text) (parts-no_slash text)) (filter_passes is_kept_part (parts_of text));
  no_parent = ap (list_any (bytes_eq (codes ".."))) (parts_of-form text g) ∙ any-filter (bytes_eq (codes "..")) is_kept_part (parts_of text) g.no_parent;
  no_zero = form-keeps HasNoZero zero-parts text g.no_zero;
  some = ap (λ form. bytes_eq form []) (form_of-form text g) ∙ g.some;
  short = ap (λ form. nat_lt 1024 (length form)) (form_of-form text g) ∙ g.short;
}

form-name : (text : List ℕ) → IsGood text → IsTrue (is_name (form_of text))
form-name text g =
    and_from _ _ (not_from_false (is_bad (form_of text)) (from_good (form_of text) (form-good text g)))
    ((bytes_eq-Decides (form_of (form_of text)) (form_of text)).1 (form_of-form text g))

-- the same of a list that is the form
pub is_name-form : (text form : List ℕ) → form ≡ form_of text → is_bad text ≡ false → IsTrue (is_name form)
is_name-form text form same fine = subst (λ form. IsTrue (is_name form)) (sym same) (form-name text (good text fine))

-- what a text gives as its name is a name in its one form
pub form-is_name : (text name : List ℕ) → name_of text ≡ Some name → IsTrue (is_name name)
form-is_name text name given = by_bad text name (is_bad text) refl given
  where
    by_bad : (text name : List ℕ) (b : Bool) → is_bad text ≡ b → cond b None (Some (form_of text)) ≡ Some name → IsTrue (is_name name)
    by_bad text name true h given = cc
    by_bad text name false h given = let same : form_of text ≡ name = cc in is_name-form text name (sym same) h

-- what a name in its one form has
pub name-good : (name : List ℕ) → IsTrue (is_name name) → IsGood name
name-good name h = good name (not-true (is_bad name) (and_parts _ _ h).0)

pub form_of-name : (name : List ℕ) → IsTrue (is_name name) → form_of name ≡ name
form_of-name name h = (bytes_eq-Decides (form_of name) name).0 (and_parts _ _ h).1

-- a name in its one form gives itself
pub name-is_form : (name : List ℕ) → IsTrue (is_name name) → name_of name ≡ Some name
name-is_form name h =
    let fine : is_bad name ≡ false = not-true (is_bad name) (and_parts _ _ h).0 in
    rw fine (ap (λ form. Some form) (form_of-name name h))
