-- Entries as files, after a change of one.
use Rattle.std.proofs.Common.{◌≡◌, ⊎_elim, refl, sym, ◌∙◌, ap, subst, ℕ, Bool, true, false, List, Option, option_map, Vec, ◌≢◌, Result, Ok, Err, OnOk, OnErr}
use Rattle.std.proofs.lemmas.Bool.{cases_Bool, cond-true, cond-false}
use Rattle.std.proofs.lemmas.Map.Text.{is_eq-slice_cmp}
use Rattle.std.proofs.lemmas.Slice.Eq.{bytes_eq-Decides}
use Rattle.std.specs.Str.{bytes_eq}
use Rattle.std.specs.Ordering.{nat_cmp, is_eq}
use Rattle.std.specs.Cmp.{eq_by_cmp_equiv}
use Rattle.std.specs.Cmp.Lexicographic.{slice_cmp, nat_list_cmp_total, nat_list_eq_equiv}
use Rattle.std.specs.Map.{KeepsOthers, IsKeyTest, AreApart, lookup}
use Rattle.std.specs.BTreeMap.{BTreeMap, UpdatesBy, is_at}
use Rattle.std.specs.declared.alloc.Global.{Global}
use Rattle.outside.specs.declared.fault.Fault.{Fault}
use Rattle.outside.specs.Files.{Sets, Keeps}
use Rattle.mem_outside.specs.Entries.{files_in, with_file}

apart : (name other key : List ℕ) → bytes_eq name other ≡ false → is_eq (slice_cmp nat_cmp name key) ≡ true → is_eq (slice_cmp nat_cmp other key) ≡ false
apart name other key differ same =
    is_eq-slice_cmp other key ∙ nat_list_eq_equiv.symm other key
    ∙ sym (nat_list_eq_equiv.congr name key other (sym (is_eq-slice_cmp name key) ∙ same)) ∙ differ

kept : {K X : Type 0} (eq : K → K → Bool) (test : K → Bool) (old new : List (K × X)) → KeepsOthers eq test old new
    → (other : K → Bool) → IsKeyTest eq other → AreApart test other → lookup other new ≡ lookup other old
unfolding KeepsOthers
kept eq test old new keeps = keeps

by_name : (old new : List ℕ → Option (List ℕ)) (name : List ℕ) (value : Option (List ℕ)) → new name ≡ value
    → ((other : List ℕ) → bytes_eq name other ≡ false → new other ≡ old other) → new ≡ with_file name value old
by_name old new name value here others = λ i other. at other i
  where
    at : (other : List ℕ) → new other ≡ with_file name value old other
    at other =
        ⊎_elim
        (λ same. subst (λ (n : List ℕ). new n ≡ value) ((bytes_eq-Decides name other).0 same) here ∙ sym (cond-true (bytes_eq name other) value (old other) same))
        (λ differ. others other differ ∙ sym (cond-false (bytes_eq name other) value (old other) differ))
        (cases_Bool (bytes_eq name other))

-- one value was set or removed
pub updated_files : (name : List ℕ) (old new : BTreeMap (Vec ℕ Global) (Vec ℕ Global)) (value : Option (Vec ℕ Global))
    → UpdatesBy (λ x y. slice_cmp nat_cmp x.items y.items) (λ key. slice_cmp nat_cmp name key.items) old new value
    → files_in new ≡ with_file name (option_map (λ bytes. bytes.items) value) (files_in old)
updated_files name old new value updates =
    by_name (files_in old) (files_in new) name (option_map (λ bytes. bytes.items) value)
    (ap (λ (v : Option (Vec ℕ Global)). option_map (λ bytes. bytes.items) v) updates.1)
    (λ other differ. ap (λ (v : Option (Vec ℕ Global)). option_map (λ bytes. bytes.items) v)
    (kept _ _ _ _ updates.3 (is_at (λ key. slice_cmp nat_cmp other key.items)) (λ x y. (eq_by_cmp_equiv nat_list_cmp_total).congr other x.items y.items) (λ key. apart name other key.items differ)))

-- what stands there already changes nothing
pub with_file-same : (files : List ℕ → Option (List ℕ)) (name : List ℕ) (value : Option (List ℕ)) → files name ≡ value → with_file name value files ≡ files
with_file-same files name value is = sym (by_name files files name value is (λ other differ. refl))

apart_bytes : (name other : List ℕ) → other ≢ name → bytes_eq name other ≡ false
apart_bytes name other differ =
    ⊎_elim (λ same. absurd (differ (sym ((bytes_eq-Decides name other).0 same)))) (λ is. is) (cases_Bool (bytes_eq name other))

-- a call that changed one file where it succeeded, as the trait says it
pub changed_sets : {T : Type 0} (r : Result T Fault) (name : List ℕ) (value : Option (List ℕ)) (old new : List ℕ → Option (List ℕ))
    → OnOk r (new ≡ with_file name value old) → OnErr r (new ≡ old) → Sets r name value old new
changed_sets (Ok x) name value old new ok err = record {
  done = ap (λ (files : List ℕ → Option (List ℕ)). files name) ok ∙ cond-true (bytes_eq name name) value (old name) ((bytes_eq-Decides name name).1 refl);
  others = λ other differ. ap (λ (files : List ℕ → Option (List ℕ)). files other) ok ∙ cond-false (bytes_eq name other) value (old other) (apart_bytes name other differ);
  refused = λ never. absurd (cc);
}
changed_sets (Err e) name value old new ok err = record {
  done = tt;
  others = λ other differ. ap (λ (files : List ℕ → Option (List ℕ)). files other) err;
  refused = λ is. ap (λ (files : List ℕ → Option (List ℕ)). files name) err;
}

-- what stood there was set
pub synced_same : {T : Type 0} (r : Result T Fault) (name : List ℕ) (old new : List ℕ → Option (List ℕ))
    → OnOk r (new ≡ with_file name (old name) old) → OnErr r (new ≡ old) → new ≡ old
synced_same (Ok x) name old new ok err = ok ∙ with_file-same old name (old name) refl
synced_same (Err e) name old new ok err = err

-- a call that changed no file, as the trait says it
pub same_keeps : {T : Type 0} (r : Result T Fault) (name : List ℕ) (old new : List ℕ → Option (List ℕ)) → new ≡ old → Keeps r name old new
same_keeps (Ok x) name old new same = record {
  done = ap (λ (files : List ℕ → Option (List ℕ)). files name) same;
  others = λ other differ. ap (λ (files : List ℕ → Option (List ℕ)). files other) same;
  refused = λ never. absurd (cc);
}
same_keeps (Err e) name old new same = record {
  done = tt;
  others = λ other differ. ap (λ (files : List ℕ → Option (List ℕ)). files other) same;
  refused = λ is. ap (λ (files : List ℕ → Option (List ℕ)). files name) same;
}
