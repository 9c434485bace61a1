-- Looking names up in a scope, whose keys are strings, as in the finite map that it is seen as.
use Rattle.std.proofs.Common.{◌≡◌, ℕ, Bool, true, false, cond, List, [], ◌∷◌, map, Option, Some, refl, sym, ap, ◌∙◌, string_bytes, String, Global, Result, Ok, Err, OnOk, OnErr}
use Rattle.std.specs.Option.{option_map}
use Rattle.std.specs.Ordering.{nat_cmp, eq_by_cmp}
use Rattle.std.specs.Cmp.{eq_by_cmp_equiv, Equal-is}
use Rattle.std.specs.Str.{bytes_eq}
use Rattle.std.specs.String.{string_cmp}
use Rattle.std.proofs.lemmas.Map.Text.{btree_map_updates_text, is_eq-slice_cmp}
use Rattle.std.specs.Cmp.Lexicographic.{slice_cmp, nat_list_cmp_total}
use Rattle.std.specs.BTreeMap.{BTreeMap, get_by_text, is_at, UpdatesBy}
use Rattle.std.specs.Map.{lookup}
use Rattle.std.specs.FinMap as finite
use Rattle.mf_text.specs.Names.{Values}

abbrev pub Entry : Type 0
Entry = String Global × String Global

abbrev pub bytes_of : Entry → List ℕ × List ℕ
bytes_of e = (string_bytes e.0, string_bytes e.1)

-- what a map of strings is seen as
abbrev pub seen : BTreeMap (String Global) (String Global) → Values
seen m = finite.from_entries (map bytes_of m.entries)

found : (b : Bool) (v : String Global) (more : Option (String Global)) (rest : Option (List ℕ)) → rest ≡ option_map string_bytes more
    → cond b (Some (string_bytes v)) rest ≡ option_map string_bytes (cond b (Some v) more)
found true v more rest h = refl
found false v more rest h = h

find-bytes : (q : List ℕ) (es : List Entry) → finite.find (slice_cmp nat_cmp) q (map bytes_of es) ≡ option_map string_bytes (lookup (is_at (λ k. slice_cmp nat_cmp q (string_bytes k))) es)
find-bytes q [] = refl
find-bytes q (e ∷ es) = found (is_at (λ k. slice_cmp nat_cmp q (string_bytes k)) e.0) e.1 (lookup (is_at (λ k. slice_cmp nat_cmp q (string_bytes k))) es) (finite.find (slice_cmp nat_cmp) q (map bytes_of es)) (find-bytes q es)

pub get-seen : (m : BTreeMap (String Global) (String Global)) (q : List ℕ) → finite.get (seen m) q ≡ option_map string_bytes (get_by_text m q)
get-seen m q = finite.get-from_entries nat_list_cmp_total (map bytes_of m.entries) q ∙ find-bytes q m.entries

same_either_way : (a b : List ℕ) → bytes_eq a b ≡ eq_by_cmp (slice_cmp nat_cmp) b a
same_either_way a b = sym (is_eq-slice_cmp a b) ∙ (eq_by_cmp_equiv nat_list_cmp_total).symm a b

written : (b : Bool) (v : String Global) (old : Option (String Global)) → option_map string_bytes (cond b (Some v) old) ≡ cond b (Some (string_bytes v)) (option_map string_bytes old)
written true v old = refl
written false v old = refl

-- a value that is put in at these bytes is put into the finite map
pub insert-seen_at : (m n : BTreeMap (String Global) (String Global)) (k : List ℕ) (v : String Global)
    → UpdatesBy string_cmp (λ x. slice_cmp nat_cmp k (string_bytes x)) m n (Some v)
    → seen n ≡ finite.insert (seen m) k (string_bytes v)
insert-seen_at m n k v updates =
    let is : (q : List ℕ) → finite.get (seen n) q ≡ finite.get (finite.insert (seen m) k (string_bytes v)) q = λ q.
    get-seen n q
    ∙ ap (λ (o : Option (String Global)). option_map string_bytes o) (btree_map_updates_text k m n (Some v) updates q)
    ∙ written (bytes_eq k q) v (get_by_text m q)
    ∙ ap (λ (b : Bool). cond b (Some (string_bytes v)) (option_map string_bytes (get_by_text m q))) (same_either_way k q)
    ∙ ap (λ (o : Option (List ℕ)). cond (eq_by_cmp (slice_cmp nat_cmp) q k) (Some (string_bytes v)) o) (sym (get-seen m q))
    ∙ sym (finite.get-insert nat_list_cmp_total (seen m) k (string_bytes v) q) in
    finite.same_map nat_list_cmp_total (finite.slice_cmp-IsAntisymmetric finite.nat_cmp-IsAntisymmetric) (seen n) (finite.insert (seen m) k (string_bytes v)) is

-- a value that is put in is put into the finite map
pub insert-seen : (m n : BTreeMap (String Global) (String Global)) (k v : String Global)
    → UpdatesBy string_cmp (λ x. slice_cmp nat_cmp (string_bytes k) (string_bytes x)) m n (Some v)
    → seen n ≡ finite.insert (seen m) (string_bytes k) (string_bytes v)
insert-seen m n k v updates = insert-seen_at m n (string_bytes k) v updates

-- a value that is put in where it stands already changes nothing
pub insert-same : (m : Values) (k v : List ℕ) → finite.get m k ≡ Some v → finite.insert m k v ≡ m
insert-same m k v has =
    let is : (q : List ℕ) → finite.get (finite.insert m k v) q ≡ finite.get m q = λ q.
    finite.get-insert nat_list_cmp_total m k v q
    ∙ elim (eq_by_cmp (slice_cmp nat_cmp) q k) as (λ (b : Bool). eq_by_cmp (slice_cmp nat_cmp) q k ≡ b → cond b (Some v) (finite.get m q) ≡ finite.get m q) [
      | true ↦ λ e. sym has ∙ finite.get_tied nat_list_cmp_total m q k ((Equal-is (slice_cmp nat_cmp q k)).0 e)
      | false ↦ λ e. refl
    ] refl in
    finite.same_map nat_list_cmp_total (finite.slice_cmp-IsAntisymmetric finite.nat_cmp-IsAntisymmetric) (finite.insert m k v) m is

-- a fact of a call that went well, carried on
pub on_ok : {X E : Type 0} (r : Result X E) (A B : Type 0) → OnOk r A → (A → B) → OnOk r B
on_ok (Ok x) A B h step = step h
on_ok (Err e) A B h step = tt

-- a fact of a call that failed, carried on
pub on_err : {X E : Type 0} (r : Result X E) (A B : Type 0) → OnErr r A → (A → B) → OnErr r B
on_err (Ok x) A B h step = tt
on_err (Err e) A B h step = step h
