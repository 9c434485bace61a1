-- The name at the front of a text, and the sign behind it.
use Rattle.std.proofs.Common.{◌≡◌, ◌≢◌, ℕ, ◌<◌, Bool, true, false, ◌&&◌, cond, eqb, List, [], ◌∷◌, get_or, Some, None, refl, sym, ap, arith, lit<}
use Rattle.std.proofs.lemmas.Bool.{or_parts, ne_eqb}
use Rattle.std.proofs.lemmas.Bool.Decides.{nat_tests}
use Rattle.std.proofs.lemmas.List.Sums.{take_while-cons}
use Rattle.std.specs.List.{list_all, take_while}
use Rattle.mf_text.specs.Names.{begins_name, continues_name, is_variable}
use Rattle.mf_forms.specs.Forms.{leading_name, behind_sign}
use Rattle.mf_forms.proofs.Places.{PassesAscii}

pub names_are_ascii : PassesAscii continues_name
unfolding continues_name begins_name
names_are_ascii c h = grind (arith, nat_tests)

all_by : (p : ℕ → Bool) (x : ℕ) (xs : List ℕ) (b : Bool) → p x ≡ b → list_all p (take_while p xs) ≡ true → list_all p (cond b (x ∷ take_while p xs) []) ≡ true
all_by p x xs true h more = rw (h, more) refl
all_by p x xs false h more = refl

all-take_while : (p : ℕ → Bool) (xs : List ℕ) → list_all p (take_while p xs) ≡ true
all-take_while p [] = refl
all-take_while p (x ∷ xs) = rw (take_while-cons p x xs) (all_by p x xs (p x) refl (all-take_while p xs))

and_true : (b : Bool) → (b && true) ≡ b
and_true true = refl
and_true false = refl

leading_by : (c : ℕ) (more : List ℕ) (b : Bool) → continues_name c ≡ b → is_variable (cond b (c ∷ leading_name more) []) ≡ begins_name c
unfolding continues_name begins_name
leading_by c more true h = rw (h, all-take_while continues_name more) (and_true (begins_name c))
leading_by c more false h = sym (or_parts _ _ h).0

-- the name at the front is one where its first byte may begin one
pub leading-is_variable : (text : List ℕ) → is_variable (leading_name text) ≡ begins_name (get_or text 0 0)
unfolding begins_name
leading-is_variable [] = refl
leading-is_variable (c ∷ more) = rw (take_while-cons continues_name c more) (leading_by c more (continues_name c) refl)

pub named : (b : Bool) (len n : ℕ) → Some len ≡ cond b (Some n) None → (b ≡ true) × (len ≡ n)
named true len n h = (refl, cc)
named false len n h = cc

pub unnamed : (b : Bool) (n : ℕ) → None ≡ cond b (Some n) None → b ≡ false
unnamed true n h = cc
unnamed false n h = refl

abbrev pub BeginsOtherwise : ℕ → List ℕ → Type 0
BeginsOtherwise c text = (rest : List ℕ) → text ≢ c ∷ rest

otherwise : (c : ℕ) (text : List ℕ) → 0 < c → BeginsOtherwise c text → eqb (get_or text 0 0) c ≡ false
otherwise c [] some h = ne_eqb 0 c (λ e. omega (arith, e, some))
otherwise c (b ∷ rest) some h = ne_eqb b c (λ e. h rest (ap (λ x. x ∷ rest) e))

-- neither sign stands at the front
pub no_sign : (text : List ℕ) → BeginsOtherwise 61 text → BeginsOtherwise 43 text → None ≡ behind_sign text
no_sign text equals plus = let e : eqb (get_or text 0 0) 61 ≡ false = otherwise 61 text (lit< tt) equals in let p : eqb (get_or text 0 0) 43 ≡ false = otherwise 43 text (lit< tt) plus in rw (e, p) refl

pub plus_alone : (text rest : List ℕ) → text ≡ 43 ∷ rest → BeginsOtherwise 61 rest → None ≡ behind_sign text
plus_alone text rest is equals = let e : eqb (get_or rest 0 0) 61 ≡ false = otherwise 61 rest (lit< tt) equals in rw (is, e) refl
