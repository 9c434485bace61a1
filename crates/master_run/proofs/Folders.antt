-- One name below another.
use Rattle.std.proofs.Common.{◌≡◌, ◌≢◌, ℕ, zero, suc, Bool, true, false, not, cond, ◌&&◌, ◌||◌, ◌==◌, List, [], ◌∷◌, length, drop, take, map, find, Option, Some, None, refl, sym, ap, subst, ◌∙◌, ◌-◌, arith, true≢false}
use Rattle.std.specs.Prelude.{codes, nat_eq, nat_lt, slice_get}
use Rattle.std.specs.List.{list_any, starts_with}
use Rattle.std.specs.Option.{option_map_or}
use Rattle.std.specs.Str.{bytes_eq, is_utf8}
use Rattle.std.proofs.lemmas.Bool.{and_parts}
use Rattle.std.proofs.lemmas.List.{length-drop, take_all}
use Rattle.std.proofs.lemmas.Slice.Eq.{bytes_eq-Decides}
use Rattle.flow_types.specs.declared.plan.FileRow.{FileRow}
use Rattle.flow_types.specs.Names.{are_nested, form_of, is_bad, is_folder_of, is_name, parts_of}
use Rattle.master_run.specs.LogNames.{clash}

both : (b c : Bool) (d : Bool) → (b && (c && d)) ≡ ((b && c) && d)
both true c d = refl
both false c d = refl

-- A name stands below a folder where it begins with it and goes on with a slash.
pub below : (folder name : List ℕ) → is_folder_of folder name ≡ (starts_with nat_eq name folder && starts_with nat_eq (drop (length folder) name) (47 ∷ []))
below [] name = refl
below (a ∷ folder) [] = refl
below (a ∷ folder) (b ∷ name) = ap (λ t. nat_eq a b && t) (below folder name) ∙ both (nat_eq a b) _ _

whole_rest : (f n : List ℕ) → take (length n - length f) (drop (length f) n) ≡ drop (length f) n
whole_rest f n = take_all (length n - length f) (drop (length f) n) (let same : length (drop (length f) n) ≡ length n - length f = length-drop (length f) n in omega (arith, same))

pub then_below : (f n : List ℕ) (r : Bool) → starts_with nat_eq n f ≡ true → r ≡ starts_with nat_eq (take (length n - length f) (drop (length f) n)) (47 ∷ []) → r ≡ is_folder_of f n
then_below f n r begins value = value ∙ ap (λ rest. starts_with nat_eq rest (47 ∷ [])) (whole_rest f n) ∙ sym (ap (λ t. t && starts_with nat_eq (drop (length f) n) (47 ∷ [])) begins) ∙ sym (below f n)

pub else_below : (f n : List ℕ) (r : Bool) → r ≡ starts_with nat_eq n f → r ≡ false → r ≡ is_folder_of f n
else_below f n r value other = other ∙ sym (ap (λ t. t && starts_with nat_eq (drop (length f) n) (47 ∷ [])) (sym value ∙ other)) ∙ sym (below f n)

-- neither of two that are both false
either_false : (a b : Bool) → (a || b) ≡ false → (a ≡ false) × (b ≡ false)
either_false true b is = absurd (true≢false is)
either_false false b is = (refl, is)

-- no bytes are no name
empty_by : (u : Bool) → (u || starts_with nat_eq [] (codes "/") || list_any (bytes_eq (codes "..")) (parts_of []) || list_any (λ b. b == 0) [] || bytes_eq (form_of []) [] || nat_lt 1024 (length (form_of []))) ≡ true
empty_by true = refl
empty_by false = refl

not_empty : (n : List ℕ) → is_name n ≡ true → n ≡ [] → ⊥
not_empty n name empty =
    let one = subst (λ (m : List ℕ). is_name m ≡ true) empty name in
    true≢false (sym (and_parts (not (is_bad [])) (bytes_eq (form_of []) []) one).0 ∙ ap (λ b. not b) (empty_by (not (is_utf8 []))))

found_none : (t : Bool) (name : List ℕ) (rest : Option (List ℕ)) → cond t (Some name) rest ≡ None → (t ≡ false) × (rest ≡ None)
found_none true name rest is = absurd (cc)
found_none false name rest is = (refl, is)

-- a file that has the log's name would be found
pub none_named : (rows : List FileRow) (log : List ℕ) → is_name log ≡ true → find (clash log) (map (λ (row : FileRow). row.name) rows) ≡ None
    → (f : ℕ) → option_map_or (λ (row : FileRow). row.name) (slice_get rows f) [] ≢ log
none_named [] log is none f same = absurd (not_empty log is (sym same))
none_named (row ∷ rows) log is none zero same =
    let parts = found_none (clash log row.name) row.name (find (clash log) (map (λ (row : FileRow). row.name) rows)) none in
    absurd (true≢false (sym ((bytes_eq-Decides log row.name).1 (sym same)) ∙ (either_false (bytes_eq log row.name) (are_nested log row.name) parts.0).0))
none_named (row ∷ rows) log is none (suc f) same =
    none_named rows log is (found_none (clash log row.name) row.name (find (clash log) (map (λ (row : FileRow). row.name) rows)) none).1 f same
