-- Items and characters by their number.
use Rattle.std.proofs.Common.{◌≡◌, ℕ, zero, suc, ◌≤◌, List, [], ◌∷◌, length, map, Option, Some, None, Err, refl, sym, ap, ◌∙◌, arith, option_map}
use Rattle.std.specs.Prelude.{ℤ, slice_get, option_and_then}
use Rattle.std.specs.Str.{chars}
use Rattle.std.proofs.lemmas.List.{length-map}
use Rattle.jx_syntax.specs.declared.value.JxValue.{JxValue}
use Rattle.jx_meaning.specs.declared.fault.EvalFault.TheVariants.{WrongKind}
use Rattle.jx_meaning.specs.Values.{Value, Entry, null, truth, number, text, list, object, plain, find}
use Rattle.jx_meaning.specs.Numbers.{Answer}
use Rattle.jx_meaning.specs.Lists.{index_of, at_index, or_no_item, or_no_key, char_value, indexed}
use Rattle.jx_values.specs.Kinds.{number_in, text_in, items_in, entries_in}
use Rattle.jx_values.proofs.Plain.{plain-text}

-- ---- items

get-map : {A B : Type 0} (f : A → B) (xs : List A) (i : ℕ) → slice_get (map f xs) i ≡ option_map f (slice_get xs i)
get-map f [] i = refl
get-map f (x ∷ xs) zero = refl
get-map f (x ∷ xs) (suc i) = get-map f xs i

pub item_by : (xs : List JxValue) (z : ℤ) (o : Option ℕ) → o ≡ index_of (length xs) z → at_index (map plain xs) z ≡ option_map plain (option_and_then (slice_get xs) o)
item_by xs z o e = ap (λ (n : ℕ). option_and_then (slice_get (map plain xs)) (index_of n z)) (length-map xs plain) ∙ ap (option_and_then (slice_get (map plain xs))) (sym e) ∙ by o
  where
    by : (o : Option ℕ) → option_and_then (slice_get (map plain xs)) o ≡ option_map plain (option_and_then (slice_get xs) o)
    by None = refl
    by (Some i) = get-map plain xs i

pub ruleset parts = (item_by, plain-text)

-- ---- what an index comes to by the kinds

abbrev pub of_items : ℕ → Option (List Value) → Option (List ℕ) → ℤ → Answer
of_items at (Some vs) t z = or_no_item at (at_index vs z)
of_items at None (Some t) z = or_no_item at (char_value (at_index (chars t) z))
of_items at None None z = Err (WrongKind at)

abbrev pub of_entries : ℕ → Option (List Entry) → List ℕ → Answer
of_entries at (Some es) key = or_no_key at (find key es)
of_entries at None key = Err (WrongKind at)

abbrev pub by_index : ℕ → Value → Option ℤ → Option (List ℕ) → Answer
by_index at v (Some z) key = of_items at (items_in v) (text_in v) z
by_index at v None (Some key) = of_entries at (entries_in v) key
by_index at v None None = Err (WrongKind at)

pub indexed-views : (at : ℕ) (v i : Value) → indexed at v i ≡ by_index at v (number_in i) (text_in i)
indexed-views at null null = refl
indexed-views at null (truth u) = refl
indexed-views at null (number y) = refl
indexed-views at null (text y) = refl
indexed-views at null (list ws) = refl
indexed-views at null (object qs) = refl
indexed-views at (truth t) null = refl
indexed-views at (truth t) (truth u) = refl
indexed-views at (truth t) (number y) = refl
indexed-views at (truth t) (text y) = refl
indexed-views at (truth t) (list ws) = refl
indexed-views at (truth t) (object qs) = refl
indexed-views at (number x) null = refl
indexed-views at (number x) (truth u) = refl
indexed-views at (number x) (number y) = refl
indexed-views at (number x) (text y) = refl
indexed-views at (number x) (list ws) = refl
indexed-views at (number x) (object qs) = refl
indexed-views at (text x) null = refl
indexed-views at (text x) (truth u) = refl
indexed-views at (text x) (number y) = refl
indexed-views at (text x) (text y) = refl
indexed-views at (text x) (list ws) = refl
indexed-views at (text x) (object qs) = refl
indexed-views at (list vs) null = refl
indexed-views at (list vs) (truth u) = refl
indexed-views at (list vs) (number y) = refl
indexed-views at (list vs) (text y) = refl
indexed-views at (list vs) (list ws) = refl
indexed-views at (list vs) (object qs) = refl
indexed-views at (object ps) null = refl
indexed-views at (object ps) (truth u) = refl
indexed-views at (object ps) (number y) = refl
indexed-views at (object ps) (text y) = refl
indexed-views at (object ps) (list ws) = refl
indexed-views at (object ps) (object qs) = refl

pub ruleset indices = (indexed-views)

pub get-past : {A : Type 0} (xs : List A) (i : ℕ) → length xs ≤ i → slice_get xs i ≡ None
get-past [] i le = refl
get-past (x ∷ xs) zero le = absurd (omega arith)
get-past (x ∷ xs) (suc i) le = get-past xs i (omega arith)
