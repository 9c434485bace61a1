-- Values of the code as plain data.
use Rattle.std.proofs.Common.{◌≡◌, ℕ, Bool, true, false, List, [], ◌∷◌, map, Some, None, refl, sym, ap, ◌∙◌, rules}
use Rattle.std.specs.Prelude.{ℤ}
use Rattle.jx_syntax.specs.declared.value.JxValue.{JxValue, out-JxValue, roll-JxValue, roll-out-JxValue}
use Rattle.jx_syntax.specs.declared.value.JxValue.TheVariants as value
use Rattle.jx_syntax.specs.declared.value.JxValue.TheOpen.{JxValue-F}
use Rattle.jx_syntax.specs.declared.value.JxValue.TheFolds.{the_lemmas, fold-JxPair}
use Rattle.jx_syntax.specs.declared.value.JxPair.{JxPair}
use Rattle.jx_meaning.specs.Values.{Value, Values, Pairs, Entry, null, truth, number, text, list, object, items, values, entries, pairs, no_values, item, no_pairs, pair, plain, value_step, entry_step}
use Rattle.jx_values.specs.Kinds.{plain_pair, is_null as null_test, truth_in, number_in, text_in, items_in, entries_in}

pub plain-null : plain value.Null ≡ null
plain-null = search (rules, the_lemmas)

pub plain-truth : (t : Bool) → plain (value.Truth t) ≡ truth t
plain-truth t = search (rules, the_lemmas)

pub plain-number : (z : ℤ) → plain (value.Number z) ≡ number z
plain-number z = search (rules, the_lemmas)

pub plain-text : (t : List ℕ) → plain (value.Text t) ≡ text t
plain-text t = search (rules, the_lemmas)

pub plain-list : (vs : List JxValue) → plain (value.List vs) ≡ list (values (map plain vs))
plain-list vs = search (rules, the_lemmas)

entry_of-pair : (p : JxPair) → fold-JxPair Value Entry value_step entry_step p ≡ plain_pair p
entry_of-pair p = search (rules, the_lemmas)

object-by-fold : (ps : List JxPair) → plain (value.Object ps) ≡ object (pairs (map (fold-JxPair Value Entry value_step entry_step) ps))
object-by-fold ps = search (rules, the_lemmas)

map-alike : {A B : Type 0} (f g : A → B) → ((a : A) → f a ≡ g a) → (xs : List A) → map f xs ≡ map g xs
map-alike f g h [] = refl
map-alike f g h (x ∷ xs) = rw (h x, map-alike f g h xs) refl

pub plain-object : (ps : List JxPair) → plain (value.Object ps) ≡ object (pairs (map plain_pair ps))
plain-object ps = object-by-fold ps ∙ ap (λ (es : List Entry). object (pairs es)) (map-alike (fold-JxPair Value Entry value_step entry_step) plain_pair entry_of-pair ps)

pub items-values : (vs : List Value) → items (values vs) ≡ vs
items-values [] = refl
items-values (v ∷ vs) = ap (λ (l : List Value). v ∷ l) (items-values vs)

pub values-items : (vs : Values) → values (items vs) ≡ vs
values-items no_values = refl
values-items (item v vs) = ap (item v) (values-items vs)

pub entries-pairs : (es : List Entry) → entries (pairs es) ≡ es
entries-pairs [] = refl
entries-pairs (e ∷ es) = ap (λ (l : List Entry). e ∷ l) (entries-pairs es)

pub pairs-entries : (ps : Pairs) → pairs (entries ps) ≡ ps
pairs-entries no_pairs = refl
pairs-entries (pair k v ps) = ap (pair k v) (pairs-entries ps)

-- ---- the kinds of a value

-- which variant a value is
pub data Kind (v : JxValue) : Type 0 where
  is_null : v ≡ value.Null → Kind v
  is_truth : (t : Bool) → v ≡ value.Truth t → Kind v
  is_number : (z : ℤ) → v ≡ value.Number z → Kind v
  is_text : (t : List ℕ) → v ≡ value.Text t → Kind v
  is_list : (vs : List JxValue) → v ≡ value.List vs → Kind v
  is_object : (ps : List JxPair) → v ≡ value.Object ps → Kind v

kind_by : (v : JxValue) (o : JxValue-F JxValue JxPair) → roll-JxValue o ≡ v → Kind v
kind_by v JxValue-F.Null h = is_null (sym h ∙ value.rolls-Null)
kind_by v (JxValue-F.Truth t) h = is_truth t (sym h ∙ value.rolls-Truth t)
kind_by v (JxValue-F.Number z) h = is_number z (sym h ∙ value.rolls-Number z)
kind_by v (JxValue-F.Text t) h = is_text t (sym h ∙ value.rolls-Text t)
kind_by v (JxValue-F.List vs) h = is_list vs (sym h ∙ value.rolls-List vs)
kind_by v (JxValue-F.Object ps) h = is_object ps (sym h ∙ value.rolls-Object ps)

pub kind : (v : JxValue) → Kind v
kind v = kind_by v (out-JxValue v) (roll-out-JxValue v)

-- ---- what a value of another kind doesn't hold

no_truth_by : (v : JxValue) → Kind v → ((t : Bool) → v ≡ value.Truth t → ⊥) → truth_in (plain v) ≡ None
no_truth_by v (is_null e) h = ap (λ (w : JxValue). truth_in (plain w)) e ∙ ap truth_in (plain-null)
no_truth_by v (is_truth t e) h = absurd (h t e)
no_truth_by v (is_number z e) h = ap (λ (w : JxValue). truth_in (plain w)) e ∙ ap truth_in (plain-number z)
no_truth_by v (is_text t e) h = ap (λ (w : JxValue). truth_in (plain w)) e ∙ ap truth_in (plain-text t)
no_truth_by v (is_list vs e) h = ap (λ (w : JxValue). truth_in (plain w)) e ∙ ap truth_in (plain-list vs)
no_truth_by v (is_object ps e) h = ap (λ (w : JxValue). truth_in (plain w)) e ∙ ap truth_in (plain-object ps)

pub no_truth : (v : JxValue) → ((t : Bool) → v ≡ value.Truth t → ⊥) → truth_in (plain v) ≡ None
no_truth v h = no_truth_by v (kind v) h

pub some_truth : (v : JxValue) (t : Bool) → v ≡ value.Truth t → truth_in (plain v) ≡ Some t
some_truth v t e = ap (λ (w : JxValue). truth_in (plain w)) e ∙ ap truth_in (plain-truth t)

no_number_by : (v : JxValue) → Kind v → ((z : ℤ) → v ≡ value.Number z → ⊥) → number_in (plain v) ≡ None
no_number_by v (is_null e) h = ap (λ (w : JxValue). number_in (plain w)) e ∙ ap number_in (plain-null)
no_number_by v (is_truth t e) h = ap (λ (w : JxValue). number_in (plain w)) e ∙ ap number_in (plain-truth t)
no_number_by v (is_number z e) h = absurd (h z e)
no_number_by v (is_text t e) h = ap (λ (w : JxValue). number_in (plain w)) e ∙ ap number_in (plain-text t)
no_number_by v (is_list vs e) h = ap (λ (w : JxValue). number_in (plain w)) e ∙ ap number_in (plain-list vs)
no_number_by v (is_object ps e) h = ap (λ (w : JxValue). number_in (plain w)) e ∙ ap number_in (plain-object ps)

pub no_number : (v : JxValue) → ((z : ℤ) → v ≡ value.Number z → ⊥) → number_in (plain v) ≡ None
no_number v h = no_number_by v (kind v) h

pub some_number : (v : JxValue) (z : ℤ) → v ≡ value.Number z → number_in (plain v) ≡ Some z
some_number v z e = ap (λ (w : JxValue). number_in (plain w)) e ∙ ap number_in (plain-number z)

no_text_by : (v : JxValue) → Kind v → ((t : List ℕ) → v ≡ value.Text t → ⊥) → text_in (plain v) ≡ None
no_text_by v (is_null e) h = ap (λ (w : JxValue). text_in (plain w)) e ∙ ap text_in (plain-null)
no_text_by v (is_truth t e) h = ap (λ (w : JxValue). text_in (plain w)) e ∙ ap text_in (plain-truth t)
no_text_by v (is_number z e) h = ap (λ (w : JxValue). text_in (plain w)) e ∙ ap text_in (plain-number z)
no_text_by v (is_text t e) h = absurd (h t e)
no_text_by v (is_list vs e) h = ap (λ (w : JxValue). text_in (plain w)) e ∙ ap text_in (plain-list vs)
no_text_by v (is_object ps e) h = ap (λ (w : JxValue). text_in (plain w)) e ∙ ap text_in (plain-object ps)

pub no_text : (v : JxValue) → ((t : List ℕ) → v ≡ value.Text t → ⊥) → text_in (plain v) ≡ None
no_text v h = no_text_by v (kind v) h

pub some_text : (v : JxValue) (t : List ℕ) → v ≡ value.Text t → text_in (plain v) ≡ Some t
some_text v t e = ap (λ (w : JxValue). text_in (plain w)) e ∙ ap text_in (plain-text t)

no_items_by : (v : JxValue) → Kind v → ((vs : List JxValue) → v ≡ value.List vs → ⊥) → items_in (plain v) ≡ None
no_items_by v (is_null e) h = ap (λ (w : JxValue). items_in (plain w)) e ∙ ap items_in (plain-null)
no_items_by v (is_truth t e) h = ap (λ (w : JxValue). items_in (plain w)) e ∙ ap items_in (plain-truth t)
no_items_by v (is_number z e) h = ap (λ (w : JxValue). items_in (plain w)) e ∙ ap items_in (plain-number z)
no_items_by v (is_text t e) h = ap (λ (w : JxValue). items_in (plain w)) e ∙ ap items_in (plain-text t)
no_items_by v (is_list vs e) h = absurd (h vs e)
no_items_by v (is_object ps e) h = ap (λ (w : JxValue). items_in (plain w)) e ∙ ap items_in (plain-object ps)

pub no_items : (v : JxValue) → ((vs : List JxValue) → v ≡ value.List vs → ⊥) → items_in (plain v) ≡ None
no_items v h = no_items_by v (kind v) h

pub some_items : (v : JxValue) (vs : List JxValue) → v ≡ value.List vs → items_in (plain v) ≡ Some (map plain vs)
some_items v vs e = ap (λ (w : JxValue). items_in (plain w)) e ∙ ap items_in (plain-list vs) ∙ ap (λ (l : List Value). Some l) (items-values (map plain vs))

no_entries_by : (v : JxValue) → Kind v → ((ps : List JxPair) → v ≡ value.Object ps → ⊥) → entries_in (plain v) ≡ None
no_entries_by v (is_null e) h = ap (λ (w : JxValue). entries_in (plain w)) e ∙ ap entries_in (plain-null)
no_entries_by v (is_truth t e) h = ap (λ (w : JxValue). entries_in (plain w)) e ∙ ap entries_in (plain-truth t)
no_entries_by v (is_number z e) h = ap (λ (w : JxValue). entries_in (plain w)) e ∙ ap entries_in (plain-number z)
no_entries_by v (is_text t e) h = ap (λ (w : JxValue). entries_in (plain w)) e ∙ ap entries_in (plain-text t)
no_entries_by v (is_list vs e) h = ap (λ (w : JxValue). entries_in (plain w)) e ∙ ap entries_in (plain-list vs)
no_entries_by v (is_object ps e) h = absurd (h ps e)

pub no_entries : (v : JxValue) → ((ps : List JxPair) → v ≡ value.Object ps → ⊥) → entries_in (plain v) ≡ None
no_entries v h = no_entries_by v (kind v) h

pub some_entries : (v : JxValue) (ps : List JxPair) → v ≡ value.Object ps → entries_in (plain v) ≡ Some (map plain_pair ps)
some_entries v ps e = ap (λ (w : JxValue). entries_in (plain w)) e ∙ ap entries_in (plain-object ps) ∙ ap (λ (l : List Entry). Some l) (entries-pairs (map plain_pair ps))

not_null_by : (v : JxValue) → Kind v → (v ≡ value.Null → ⊥) → null_test (plain v) ≡ false
not_null_by v (is_null e) h = absurd (h e)
not_null_by v (is_truth t e) h = ap (λ (w : JxValue). null_test (plain w)) e ∙ ap null_test (plain-truth t)
not_null_by v (is_number z e) h = ap (λ (w : JxValue). null_test (plain w)) e ∙ ap null_test (plain-number z)
not_null_by v (is_text t e) h = ap (λ (w : JxValue). null_test (plain w)) e ∙ ap null_test (plain-text t)
not_null_by v (is_list vs e) h = ap (λ (w : JxValue). null_test (plain w)) e ∙ ap null_test (plain-list vs)
not_null_by v (is_object ps e) h = ap (λ (w : JxValue). null_test (plain w)) e ∙ ap null_test (plain-object ps)

pub not_null : (v : JxValue) → (v ≡ value.Null → ⊥) → null_test (plain v) ≡ false
not_null v h = not_null_by v (kind v) h

pub some_null : (v : JxValue) → v ≡ value.Null → null_test (plain v) ≡ true
some_null v e = ap (λ (w : JxValue). null_test (plain w)) e ∙ ap null_test plain-null

pub ruleset views = (not_null, some_null, no_truth, no_number, no_text, no_items, no_entries, some_truth, some_number, some_text, some_items, some_entries)

pub ruleset plain_laws = (plain-null, plain-truth, plain-number, plain-text, plain-list, plain-object)
