-- Parts of lists and texts.
use Rattle.std.proofs.Common.{◌≡◌, ℕ, zero, suc, ◌-◌, ◌<◌, ◌≤◌, Bool, ◌&&◌, nat_le, List, [], ◌∷◌, ◌++◌, length, take, drop, map, Option, Some, None, Result, Ok, Err, refl, sym, ap, ◌∙◌, arith, append_assoc}
use Rattle.std.specs.Prelude.{ℤ, flat_map}
use Rattle.std.specs.Char.{encode_utf8}
use Rattle.std.proofs.lemmas.List.{length-map, append-nil, drop_all}
use Rattle.jx_syntax.specs.declared.value.JxValue.{JxValue}
use Rattle.jx_meaning.specs.declared.fault.EvalFault.{EvalFault}
use Rattle.jx_meaning.specs.declared.fault.EvalFault.TheVariants.{WrongKind}
use Rattle.jx_meaning.specs.Values.{Value, null, truth, number, text, list, object, items, values, plain, may_be}
use Rattle.jx_meaning.specs.Numbers.{Answer}
use Rattle.jx_meaning.specs.Lists.{limited, between, cut, start_in, stop_in, number_ends, sliced_by, sliced}
use Rattle.jx_values.specs.declared.size.Size.{Size}
use Rattle.jx_values.specs.Kinds.{items_in}
use Rattle.jx_values.specs.Sizes.{size_of, items_size}
use Rattle.jx_values.specs.Ends.{number_end}
use Rattle.jx_values.proofs.Plain.{plain-list}
use Rattle.jx_values.proofs.SizeLemmas.{around, list-around}
use Rattle.jx_values.proofs.Room.{small, list_may_be}

-- ---- lists

pub list_is : (xs : List JxValue) (s r : Size) (b : Bool) → s ≡ items_size (values (map plain xs)) → r ≡ around s → b ≡ (nat_le (length xs) 1000000 && small r) → may_be (list (values (map plain xs))) ≡ b
list_is xs s r b h e f =
    let size : size_of (list (values (map plain xs))) ≡ r = list-around (values (map plain xs)) ∙ ap around (sym h) ∙ sym e in
    list_may_be (map plain xs) ∙ ap (λ (n : ℕ). nat_le n 1000000 && small (size_of (list (values (map plain xs))))) (length-map xs plain)
    ∙ ap (λ (x : Size). nat_le (length xs) 1000000 && small x) size ∙ sym f

-- ---- characters

pub passed_over : (a : List ℕ) (k left skip : ℕ) (c : ℕ) (rest : List ℕ) → 0 < skip → k ≡ skip - 1
    → a ++ flat_map encode_utf8 (take left (drop k rest)) ≡ a ++ flat_map encode_utf8 (take left (drop skip (c ∷ rest)))
passed_over a k left zero c rest lt e = absurd (omega arith)
passed_over a k left (suc n) c rest lt e = let f : k ≡ n = omega arith in ap (λ (m : ℕ). a ++ flat_map encode_utf8 (take left (drop m rest))) f

pub ruleset kept = (passed_over)

pub kept_one : (a new : List ℕ) (left skip c : ℕ) (rest : List ℕ) → skip ≤ 0 → 0 < left → new ≡ a ++ encode_utf8 c
    → new ++ flat_map encode_utf8 (take (left - 1) (drop skip rest)) ≡ a ++ flat_map encode_utf8 (take left (drop skip (c ∷ rest)))
kept_one a new zero skip c rest le lt e = absurd (omega arith)
kept_one a new (suc n) (suc k) c rest le lt e = absurd (omega arith)
kept_one a new (suc n) zero c rest le lt e =
    let m : suc n - 1 ≡ n = omega arith in
    ap (λ (x : List ℕ). x ++ flat_map encode_utf8 (take (suc n - 1) rest)) e
    ∙ append_assoc a (encode_utf8 c) (flat_map encode_utf8 (take (suc n - 1) rest))
    ∙ ap (λ (k : ℕ). a ++ (encode_utf8 c ++ flat_map encode_utf8 (take k rest))) m

nothing_left : (left skip : ℕ) → take left (drop {A = ℕ} skip []) ≡ []
nothing_left zero zero = refl
nothing_left zero (suc k) = refl
nothing_left (suc n) zero = refl
nothing_left (suc n) (suc k) = refl

pub all_kept : (out whole cs : List ℕ) (n left skip : ℕ) → length cs ≤ n → out ++ flat_map encode_utf8 (take left (drop skip (drop n cs))) ≡ whole → out ≡ whole
all_kept out whole cs n left skip le h =
    sym (append-nil out) ∙ ap (λ (l : List ℕ). out ++ flat_map encode_utf8 l) (sym (nothing_left left skip))
    ∙ ap (λ (l : List ℕ). out ++ flat_map encode_utf8 (take left (drop skip l))) (sym (drop_all n cs le)) ∙ h

-- ---- slices

pub map-drop : {A B : Type 0} (f : A → B) (n : ℕ) (xs : List A) → drop n (map f xs) ≡ map f (drop n xs)
map-drop f zero xs = refl
map-drop f (suc n) [] = refl
map-drop f (suc n) (x ∷ xs) = map-drop f n xs

map-take : {A B : Type 0} (f : A → B) (n : ℕ) (xs : List A) → take n (map f xs) ≡ map f (take n xs)
map-take f zero xs = refl
map-take f (suc n) [] = refl
map-take f (suc n) (x ∷ xs) = ap (λ l. f x ∷ l) (map-take f n xs)

map-between : (a b : ℕ) (xs : List JxValue) → between a b (map plain xs) ≡ map plain (between a b xs)
map-between a b xs = ap (take (b - a)) (map-drop plain a xs) ∙ map-take plain (b - a) (drop a xs)

one : (i j : Option ℤ) → (let r : Result (Option ℤ) EvalFault = Ok i in r) ≡ Ok j → i ≡ j
one i j h = cc

never : (f : EvalFault) (j : Option ℤ) → (let r : Result (Option ℤ) EvalFault = Err f in r) ≡ Ok j → ⊥
never f j h = cc

some : (vs ws : List Value) → (let o : Option (List Value) = Some vs in o) ≡ Some ws → vs ≡ ws
some vs ws h = cc

no_list : (ws : List Value) → (let o : Option (List Value) = None in o) ≡ Some ws → ⊥
no_list ws h = cc

then_end : (at : ℕ) (e : Option Value) (i : Option ℤ) (f : Option ℤ → Answer) → number_end at e ≡ Ok i → number_ends at e f ≡ f i
then_end at None i f h = ap f (one None i h)
then_end at (Some (number z)) i f h = ap f (one (Some z) i h)
then_end at (Some null) i f h = absurd (never (WrongKind at) i h)
then_end at (Some (truth t)) i f h = absurd (never (WrongKind at) i h)
then_end at (Some (text t)) i f h = absurd (never (WrongKind at) i h)
then_end at (Some (list vs)) i f h = absurd (never (WrongKind at) i h)
then_end at (Some (object ps)) i f h = absurd (never (WrongKind at) i h)

of_list : (at : ℕ) (v : Value) (vs : List Value) (i j : Option ℤ) → items_in v ≡ Some vs → sliced_by at v i j ≡ limited at (list (values (cut vs i j)))
of_list at (list ws) vs i j h = ap (λ (l : List Value). limited at (list (values (cut l i j)))) (some (items ws) vs h)
of_list at null vs i j h = absurd (no_list vs h)
of_list at (truth t) vs i j h = absurd (no_list vs h)
of_list at (number z) vs i j h = absurd (no_list vs h)
of_list at (text t) vs i j h = absurd (no_list vs h)
of_list at (object ps) vs i j h = absurd (no_list vs h)

-- a slice of a list
pub sliced_list : (at : ℕ) (v : Value) (s e : Option Value) (i j : Option ℤ) (xs part : List JxValue) (a b : ℕ) → number_end at s ≡ Ok i → number_end at e ≡ Ok j
    → items_in v ≡ Some (map plain xs) → a ≡ start_in (length xs) i → b ≡ stop_in (length xs) j → part ≡ between a b xs
    → limited at (list (values (map plain part))) ≡ sliced at v s e
sliced_list at v s e i j xs part a b hs he hv ha hb hp =
    ap (λ (l : List Value). limited at (list (values l)))
    (ap (map plain) (hp ∙ ap (λ (n : ℕ). between n b xs) ha ∙ ap (λ (n : ℕ). between (start_in (length xs) i) n xs) hb)
    ∙ sym (map-between (start_in (length xs) i) (stop_in (length xs) j) xs)
    ∙ ap (λ (n : ℕ). between (start_in n i) (stop_in n j) (map plain xs)) (sym (length-map xs plain)))
    ∙ sym (then_end at s i (λ i. number_ends at e (λ j. sliced_by at v i j)) hs ∙ then_end at e j (λ j. sliced_by at v i j) he ∙ of_list at v (map plain xs) i j hv)

pub ruleset slices = (plain-list)
