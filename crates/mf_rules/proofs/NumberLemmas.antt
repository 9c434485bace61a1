-- Looking numbers up by name, whose keys are strings, as in the finite map that they are seen as.
use Rattle.std.proofs.Common.{◌≡◌, ℕ, Bool, cond, List, [], ◌∷◌, map, Option, Some, refl, sym, ap, ◌∙◌, string_bytes, String, Global}
use Rattle.std.specs.Ordering.{nat_cmp, eq_by_cmp}
use Rattle.std.specs.Cmp.{eq_by_cmp_equiv}
use Rattle.std.specs.Str.{bytes_eq}
use Rattle.std.specs.String.{string_cmp}
use Rattle.std.proofs.lemmas.Map.Text.{btree_map_updates_text, is_eq-slice_cmp}
use Rattle.std.specs.Cmp.Lexicographic.{slice_cmp, nat_list_cmp_total}
use Rattle.std.specs.BTreeMap.{BTreeMap, get_by_text, is_at, UpdatesBy}
use Rattle.std.specs.Map.{lookup}
use Rattle.std.specs.FinMap as finite
use Rattle.mf_rules.specs.Tables.{Counts}

abbrev pub Entry : Type 0
Entry = String Global × ℕ

abbrev pub bytes_of : Entry → List ℕ × ℕ
bytes_of e = (string_bytes e.0, e.1)

-- what a map of strings is seen as
abbrev pub seen : BTreeMap (String Global) ℕ → Counts
seen m = finite.from_entries (map bytes_of m.entries)

find-bytes : (q : List ℕ) (es : List Entry) → finite.find (slice_cmp nat_cmp) q (map bytes_of es) ≡ lookup (is_at (λ k. slice_cmp nat_cmp q (string_bytes k))) es
find-bytes q [] = refl
find-bytes q (e ∷ es) = ap (λ (o : Option ℕ). cond (is_at (λ k. slice_cmp nat_cmp q (string_bytes k)) e.0) (Some e.1) o) (find-bytes q es)

pub get-seen : (m : BTreeMap (String Global) ℕ) (q : List ℕ) → finite.get (seen m) q ≡ get_by_text m q
get-seen m q = finite.get-from_entries nat_list_cmp_total (map bytes_of m.entries) q ∙ find-bytes q m.entries

pub same_either_way : (a b : List ℕ) → bytes_eq a b ≡ eq_by_cmp (slice_cmp nat_cmp) b a
same_either_way a b = sym (is_eq-slice_cmp a b) ∙ (eq_by_cmp_equiv nat_list_cmp_total).symm a b

-- a number that is put in is put into the finite map
pub insert-seen : (m n : BTreeMap (String Global) ℕ) (k : List ℕ) (v : ℕ)
    → UpdatesBy string_cmp (λ x. slice_cmp nat_cmp k (string_bytes x)) m n (Some v)
    → seen n ≡ finite.insert (seen m) k v
insert-seen m n k v updates =
    let is : (q : List ℕ) → finite.get (seen n) q ≡ finite.get (finite.insert (seen m) k v) q = λ q.
    get-seen n q
    ∙ btree_map_updates_text k m n (Some v) updates q
    ∙ ap (λ (b : Bool). cond b (Some v) (get_by_text m q)) (same_either_way k q)
    ∙ ap (λ (o : Option ℕ). cond (eq_by_cmp (slice_cmp nat_cmp) q k) (Some v) o) (sym (get-seen m q))
    ∙ sym (finite.get-insert nat_list_cmp_total (seen m) k v q) in
    finite.same_map nat_list_cmp_total (finite.slice_cmp-IsAntisymmetric finite.nat_cmp-IsAntisymmetric) (seen n) (finite.insert (seen m) k v) is
