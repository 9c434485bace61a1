-- Values of names behind one more assignment, and those that were given.
use Rattle.std.proofs.Common.{◌≡◌, ℕ, ◌+◌, ◌<◌, Bool, true, false, cond, List, ◌∷◌, length, drop, get_or, Option, Some, None, is_some, refl, sym, ap, ◌∙◌, String, Global, string_bytes}
use Rattle.std.proofs.lemmas.List.{drop_more}
use Rattle.std.specs.FinMap as finite
use Rattle.std.specs.Str.{bytes_eq}
use Rattle.std.specs.Ordering.{nat_cmp}
use Rattle.std.specs.Cmp.{Equal-is}
use Rattle.std.specs.Cmp.Lexicographic.{slice_cmp, nat_list_cmp_total}
use Rattle.mf_text.specs.Names.{Values}
use Rattle.mf_rules.specs.Flow.{given_pairs}
use Rattle.mf_rules.specs.Values.{first_pair, or_given}
use Rattle.mf_rules.proofs.NumberLemmas.{same_either_way}

-- functions with equal values are one
pub same_functions : {A B : Type 0} {f g : A → B} → ((x : A) → f x ≡ g x) → f ≡ g
same_functions h = λ i x. h x i

-- a value that was put in comes before the others
pub get_put : (m : Values) (k v x : List ℕ) → finite.get (finite.insert m k v) x ≡ cond (bytes_eq k x) (Some v) (finite.get m x)
get_put m k v x =
    finite.get-insert nat_list_cmp_total m k v x
    ∙ ap (λ (b : Bool). cond b (Some v) (finite.get m x)) (sym (same_either_way k x))

-- names with equal bytes have one value
same_value : (m : Values) (k x : List ℕ) → bytes_eq k x ≡ true → finite.get m k ≡ finite.get m x
same_value m k x e = finite.get_tied nat_list_cmp_total m x k ((Equal-is (slice_cmp nat_cmp x k)).0 (sym (same_either_way k x) ∙ e))

chosen : (b : Bool) (v : List ℕ) (old rest : Option (List ℕ)) → (b ≡ true → old ≡ None) → or_given (cond b (Some v) old) rest ≡ or_given old (cond b (Some v) rest)
chosen true v old rest none = rw (none refl) refl
chosen false v old rest none = refl

hidden : (b : Bool) (v : List ℕ) (old rest : Option (List ℕ)) → (b ≡ true → is_some old ≡ true) → or_given old rest ≡ or_given old (cond b (Some v) rest)
hidden true v None rest some = absurd (let e = some refl in cc)
hidden true v (Some o) rest some = refl
hidden false v old rest some = refl

none_there : (o : Option (List ℕ)) → is_some o ≡ false → o ≡ None
none_there None e = refl
none_there (Some v) e = cc

-- one more pair, which counts where its name has no value before it
pub one_pair : (m new : Values) (k v x : List ℕ) (rest : Option (List ℕ)) (b : Bool) → finite.contains_key m k ≡ b
    → new ≡ cond b m (finite.insert m k v) → or_given (finite.get new x) rest ≡ or_given (finite.get m x) (cond (bytes_eq k x) (Some v) rest)
one_pair m new k v x rest true has is =
    ap (λ (n : Values). or_given (finite.get n x) rest) is
    ∙ hidden (bytes_eq k x) v (finite.get m x) rest (λ e. ap (λ (o : Option (List ℕ)). is_some o) (sym (same_value m k x e)) ∙ has)
one_pair m new k v x rest false has is =
    ap (λ (n : Values). or_given (finite.get n x) rest) is
    ∙ ap (λ (o : Option (List ℕ)). or_given o rest) (get_put m k v x)
    ∙ chosen (bytes_eq k x) v (finite.get m x) rest (λ e. sym (same_value m k x e) ∙ none_there (finite.get m k) has)

abbrev pub GivenPair : Type 0
GivenPair = String Global × String Global

-- the pairs from one of them on
pub pairs_from : (env : List GivenPair) (i : ℕ) (pair : GivenPair) (x : List ℕ) → i < length env → pair ≡ get_or env i pair
    → first_pair (given_pairs (drop i env)) x ≡ cond (bytes_eq (string_bytes pair.0) x) (Some (string_bytes pair.1)) (first_pair (given_pairs (drop (i + 1) env)) x)
pairs_from env i pair x lt is =
    let d : drop i env ≡ pair ∷ drop (i + 1) env = drop_more env i pair lt ∙ ap (λ (p : GivenPair). p ∷ drop (i + 1) env) (sym is) in
    ap (λ (l : List GivenPair). first_pair (given_pairs l) x) d
