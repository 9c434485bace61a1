-- A name with an ending that has no slash.
use Rattle.std.proofs.Common.{◌≡◌, ◌∙◌, ℕ, ◌<◌, Bool, true, false, List, [], ◌∷◌, ◌++◌, length, Some, None, refl, sym, ap, subst, arith, rules, append_assoc, length-append}
use Rattle.std.specs.Prelude.{◌==◌, ◌||◌, nat_eq, nat_le, nat_lt, filter, codes, if◌then◌else◌, IsTrue}
use Rattle.std.specs.List.{All, list_any, join_with_byte, starts_with}
use Rattle.std.specs.Char.{encode_utf8}
use Rattle.std.specs.Str.{bytes_eq, chars, is_utf8}
use Rattle.std.proofs.lemmas.Bool.{or_parts, or_from, not_from_true}
use Rattle.std.proofs.lemmas.Bool.Decides.{nat_tests}
use Rattle.std.proofs.lemmas.Slice.Eq.{bytes_eq-Decides}
use Rattle.std.proofs.lemmas.List.Elements.{All-append, All-cons, All-head, All-nil, All-tail, filter_passes}
use Rattle.std.proofs.lemmas.List.Folds.{list_any-append}
use Rattle.std.proofs.lemmas.List.Splits.{slice_split_none, slice_split_at, join_with_byte-slice_split}
use Rattle.std.proofs.lemmas.Str.{IsUtf8-append, is_utf8-from_IsUtf8, IsUtf8-from_is_utf8}
use Rattle.flow_types.specs.Names.{parts_of, form_of, is_bad, is_kept_part, name_of, is_name, most_name_bytes}
use Rattle.flow_types.proofs.Forms.{HasNoSlash, all_kept, form_of-name, name-good, parts-no_slash, parts_of-form}

-- what an ending has
pub record IsEnding (ending : List ℕ) : Type 0 where
  pub utf8 : is_utf8 ending ≡ true
  pub no_slash : All (λ b. (b == 47) ≡ false) ending
  pub no_zero : list_any (λ b. b == 0) ending ≡ false
  pub long : 2 < length ending

-- the parts, the last of them with an ending
abbrev ended : List ℕ → List (List ℕ) → List ℕ → List (List ℕ)
ended part [] ending = (part ++ ending) ∷ []
ended part (q ∷ qs) ending = part ∷ ended q qs ending

All-ended : (P : List ℕ → Type 0) (part : List ℕ) (parts : List (List ℕ)) (ending : List ℕ)
    → All P (part ∷ parts) → ((x : List ℕ) → P x → P (x ++ ending)) → All P (ended part parts ending)
All-ended P part [] ending all last = All-cons P (part ++ ending) [] (last part (All-head P part [] all)) (All-nil P)
All-ended P part (q ∷ qs) ending all last =
    All-cons P part (ended q qs ending) (All-head P part (q ∷ qs) all) (All-ended P q qs ending (All-tail P part (q ∷ qs) all) last)

any-ended : (p : List ℕ → Bool) (part : List ℕ) (parts : List (List ℕ)) (ending : List ℕ)
    → list_any p (part ∷ parts) ≡ false → ((x : List ℕ) → p (x ++ ending) ≡ false) → list_any p (ended part parts ending) ≡ false
any-ended p part [] ending none last = or_from _ _ (last part) refl
any-ended p part (q ∷ qs) ending none last =
    or_from _ _ (or_parts _ _ none).0 (any-ended p q qs ending (or_parts _ _ none).1 last)

-- the parts of joined parts with an ending
parts_of-ended : (part : List ℕ) (parts : List (List ℕ)) (ending : List ℕ) → All HasNoSlash (part ∷ parts) → All (λ b. (b == 47) ≡ false) ending
    → parts_of (join_with_byte 47 (part ∷ parts) ++ ending) ≡ ended part parts ending
parts_of-ended part [] ending all free =
    slice_split_none (λ b. b == 47) (part ++ ending) (All-append (λ b. (b == 47) ≡ false) part ending (All-head HasNoSlash part [] all) free)
parts_of-ended part (q ∷ qs) ending all free =
    ap parts_of (append_assoc part (47 ∷ join_with_byte 47 (q ∷ qs)) ending)
    ∙ (slice_split_at (λ b. b == 47) part 47 (join_with_byte 47 (q ∷ qs) ++ ending) (All-head HasNoSlash part (q ∷ qs) all) refl
    ∙ ap (λ parts. part ∷ parts) (parts_of-ended q qs ending (All-tail HasNoSlash part (q ∷ qs) all) free))

-- texts of different lengths are different
unequal : (xs ys : List ℕ) → length xs < length ys → bytes_eq xs ys ≡ false
unequal xs ys less = by_test (bytes_eq xs ys) refl
  where
    by_test : (b : Bool) → bytes_eq xs ys ≡ b → b ≡ false
    by_test true e = let same : length xs ≡ length ys = ap length ((bytes_eq-Decides xs ys).0 e) in absurd (omega arith)
    by_test false e = refl

unequal_back : (xs ys : List ℕ) → length ys < length xs → bytes_eq xs ys ≡ false
unequal_back xs ys less = by_test (bytes_eq xs ys) refl
  where
    by_test : (b : Bool) → bytes_eq xs ys ≡ b → b ≡ false
    by_test true e = let same : length xs ≡ length ys = ap length ((bytes_eq-Decides xs ys).0 e) in absurd (omega arith)
    by_test false e = refl

kept : (part ending : List ℕ) → 2 < length ending → is_kept_part (part ++ ending) ≡ true
kept part ending long =
    let none = unequal_back (part ++ ending) [] (omega (arith, length-append part ending)) in
    let dot = unequal_back (part ++ ending) (codes ".") (omega (arith, length-append part ending)) in
    rw (none, dot) refl

no_parent : (part ending : List ℕ) → 2 < length ending → bytes_eq (codes "..") (part ++ ending) ≡ false
no_parent part ending long = unequal (codes "..") (part ++ ending) (omega (arith, length-append part ending))

relative : (name ending : List ℕ) → bytes_eq (form_of name) [] ≡ false → starts_with nat_eq name (codes "/") ≡ false → starts_with nat_eq (name ++ ending) (codes "/") ≡ false
relative [] ending some rel = cc
relative (b ∷ bs) ending some rel = rel

-- the form of an ended text is that text
record IsForm (text : List ℕ) : Type 0 where
  form : form_of text ≡ text
  no_parent : list_any (bytes_eq (codes "..")) (parts_of text) ≡ false

by_parts : (part : List ℕ) (parts : List (List ℕ)) (ending : List ℕ) → IsEnding ending → All HasNoSlash (part ∷ parts) → All (λ p. is_kept_part p ≡ true) (part ∷ parts)
    → list_any (bytes_eq (codes "..")) (part ∷ parts) ≡ false → IsForm (join_with_byte 47 (part ∷ parts) ++ ending)
by_parts part parts ending e free all none =
    let text = join_with_byte 47 (part ∷ parts) ++ ending in
    let cut : parts_of text ≡ ended part parts ending = parts_of-ended part parts ending free e.no_slash in
    let stay : filter is_kept_part (parts_of text) ≡ parts_of text =
    ap (filter is_kept_part) cut ∙ (all_kept (ended part parts ending) (All-ended (λ p. is_kept_part p ≡ true) part parts ending all (λ x _. kept x ending e.long)) ∙ sym cut) in
    record {
      form = ap (join_with_byte 47) stay ∙ join_with_byte-slice_split 47 text;
      no_parent = ap (list_any (bytes_eq (codes ".."))) cut ∙ any-ended (bytes_eq (codes "..")) part parts ending none (λ x. no_parent x ending e.long);
    }

ended_form : (name ending : List ℕ) → IsTrue (is_name name) → IsEnding ending → (parts : List (List ℕ)) → parts_of name ≡ parts → IsForm (name ++ ending)
ended_form name ending h e [] is =
    let g = name-good name h in
    let empty : form_of name ≡ [] = ap (λ parts. join_with_byte 47 (filter is_kept_part parts)) is in
    let wrong : bytes_eq [] [] ≡ false = ap (λ form. bytes_eq form []) (sym empty) ∙ g.some in
    cc
ended_form name ending h e (part ∷ parts) is =
    let g = name-good name h in
    let whole : join_with_byte 47 (part ∷ parts) ≡ name = ap (join_with_byte 47) (sym is) ∙ join_with_byte-slice_split 47 name in
    let free : All HasNoSlash (part ∷ parts) = subst (λ ps. All HasNoSlash ps) is (parts-no_slash name) in
    let all_parts : parts_of name ≡ filter is_kept_part (parts_of name) = ap parts_of (sym (form_of-name name h)) ∙ parts_of-form name g in
    let all : All (λ p. is_kept_part p ≡ true) (part ∷ parts) =
    subst (λ ps. All (λ p. is_kept_part p ≡ true) ps) (sym all_parts ∙ is) (filter_passes is_kept_part (parts_of name)) in
    let none : list_any (bytes_eq (codes "..")) (part ∷ parts) ≡ false = ap (list_any (bytes_eq (codes ".."))) (sym is) ∙ g.no_parent in
    subst (λ text. IsForm (text ++ ending)) whole (by_parts part parts ending e free all none)

-- an ended name is bad exactly where it is too long
ended_bad : (name ending : List ℕ) → IsTrue (is_name name) → IsEnding ending → IsForm (name ++ ending) → is_bad (name ++ ending) ≡ nat_lt most_name_bytes (length (name ++ ending))
ended_bad name ending h e f =
    let g = name-good name h in
    let text = name ++ ending in
    let utf8 : is_utf8 text ≡ true = is_utf8-from_IsUtf8 text (IsUtf8-append name ending (IsUtf8-from_is_utf8 name g.utf8) (IsUtf8-from_is_utf8 ending e.utf8)) in
    let rel : starts_with nat_eq text (codes "/") ≡ false = relative name ending g.some g.relative in
    let zero_free : list_any (λ b. b == 0) text ≡ false = list_any-append (λ b. b == 0) name ending ∙ or_from _ _ g.no_zero e.no_zero in
    let some : bytes_eq (form_of text) [] ≡ false = ap (λ form. bytes_eq form []) f.form ∙ unequal_back text [] (let long = e.long in omega (arith, length-append name ending)) in
    let good : (Rattle.std.specs.Prelude.not (is_utf8 text) || starts_with nat_eq text (codes "/") || list_any (bytes_eq (codes "..")) (parts_of text) || list_any (λ b. b == 0) text || bytes_eq (form_of text) []) ≡ false =
    or_from _ _ (or_from _ _ (or_from _ _ (or_from _ _ (not_from_true (is_utf8 text) utf8) rel) f.no_parent) zero_free) some in
    ap (λ b. b || nat_lt most_name_bytes (length (form_of text))) good ∙ ap (λ form. nat_lt most_name_bytes (length form)) f.form

-- the name that a name with an ending gives
pub name_of-ended : (name ending : List ℕ) → IsTrue (is_name name) → IsEnding ending
    → name_of (name ++ ending) ≡ (if nat_le (length (name ++ ending)) most_name_bytes then Some (name ++ ending) else None)
name_of-ended name ending h e =
    let f = ended_form name ending h e (parts_of name) refl in
    by_length (name ++ ending) f.form (ended_bad name ending h e f) (nat_lt most_name_bytes (length (name ++ ending))) refl
  where
    by_length : (text : List ℕ) → form_of text ≡ text → is_bad text ≡ nat_lt most_name_bytes (length text) → (b : Bool) → nat_lt most_name_bytes (length text) ≡ b
        → name_of text ≡ (if nat_le (length text) most_name_bytes then Some text else None)
    by_length text form bad true is =
        let le : nat_le (length text) most_name_bytes ≡ false = grind (arith, nat_tests) in
        rw (bad ∙ is, le) refl
    by_length text form bad false is =
        let le : nat_le (length text) most_name_bytes ≡ true = grind (arith, nat_tests) in
        rw (bad ∙ is, le) (ap (λ t. Some t) form)

-- `.makeflowlog` is an ending
pub log-ending : IsEnding (codes ".makeflowlog")
unfolding is_utf8 chars encode_utf8
log-ending = record { utf8 = refl; no_slash = search rules; no_zero = refl; long = omega arith }

-- the default name of a generated flow's log
pub generated-name : name_of (codes "generated.makeflowlog") ≡ Some (codes "generated.makeflowlog")
unfolding is_utf8 chars encode_utf8
generated-name = refl
