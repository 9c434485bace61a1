-- Items of joined, filtered and mapped lists.
use Rattle.std.proofs.Common.{◌≡◌, ◌⊎◌, inl, inr, ℕ, zero, suc, ◌+◌, ◌<◌, Bool, true, false, cond, List, [], ◌∷◌, ◌++◌, length, Option, Some, None, refl, ap, sym, ◌∙◌, arith, subst}
use Rattle.std.specs.Prelude.{filter, map, find, slice_get, slice_set, filter_map}
use Rattle.std.specs.List.{cons_option, range_with_len}
use Rattle.std.specs.Option.{option_map}
use Rattle.world_laws.specs.Members.{Stands, Every}

pub stands_left : {A : Type 0} (x : A) (xs ys : List A) → Stands x xs → Stands x (xs ++ ys)
stands_left x [] ys here = absurd here
stands_left x (z ∷ xs) ys (inl same) = inl same
stands_left x (z ∷ xs) ys (inr later) = inr (stands_left x xs ys later)

pub stands_right : {A : Type 0} (x : A) (xs ys : List A) → Stands x ys → Stands x (xs ++ ys)
stands_right x [] ys there = there
stands_right x (z ∷ xs) ys there = inr (stands_right x xs ys there)

pub every_append : {A : Type 0} (P : A → Type 0) (xs ys : List A) → Every P xs → Every P ys → Every P (xs ++ ys)
every_append P [] ys left right x there = right x there
every_append P (z ∷ xs) ys left right x (inl same) = left x (inl same)
every_append P (z ∷ xs) ys left right x (inr later) = every_append P xs ys (λ y there. left y (inr there)) right x later

-- what stands in joined lists stands in one of them
pub stands_either : {A : Type 0} (x : A) (xs ys : List A) → Stands x (xs ++ ys) → Stands x xs ⊎ Stands x ys
stands_either x [] ys there = inr there
stands_either x (z ∷ xs) ys (inl same) = inl (inl same)
stands_either x (z ∷ xs) ys (inr there) = by (stands_either x xs ys there)
  where
    by : Stands x xs ⊎ Stands x ys → ((x ≡ z) ⊎ Stands x xs) ⊎ Stands x ys
    by (inl left) = inl (inr left)
    by (inr right) = inr right

pub every_nil : {A : Type 0} (P : A → Type 0) → Every P []
every_nil P x here = absurd here

pub every_one : {A : Type 0} (P : A → Type 0) (x : A) → P x → Every P (x ∷ [])
every_one P x is y (inl same) = subst P (sym same) is
every_one P x is y (inr later) = absurd later

pub every_cons : {A : Type 0} (P : A → Type 0) (x : A) (xs : List A) → P x → Every P xs → Every P (x ∷ xs)
every_cons P x xs is rest y (inl same) = subst P (sym same) is
every_cons P x xs is rest y (inr later) = rest y later

filter_at : {A : Type 0} (P : A → Type 0) (test : A → Bool) (x : A) (xs : List A) (b : Bool) → P x → Every P (filter test xs) → Every P (cond b (x ∷ filter test xs) (filter test xs))
filter_at P test x xs true is rest = every_cons P x (filter test xs) is rest
filter_at P test x xs false is rest = rest

pub every_filter : {A : Type 0} (P : A → Type 0) (test : A → Bool) (xs : List A) → Every P xs → Every P (filter test xs)
every_filter P test [] all = all
every_filter P test (x ∷ xs) all = filter_at P test x xs (test x) (all x (inl refl)) (every_filter P test xs (λ y there. all y (inr there)))

pub every_map : {A B : Type 0} (P : B → Type 0) (g : A → B) (xs : List A) → Every (λ x. P (g x)) xs → Every P (map g xs)
every_map P g [] all = every_nil P
every_map P g (x ∷ xs) all = every_cons P (g x) (map g xs) (all x (inl refl)) (every_map P g xs (λ y there. all y (inr there)))

filter_map_at : {A B : Type 0} (P : B → Type 0) (g : A → Option B) (xs : List A) (found : Option B) → ((y : B) → found ≡ Some y → P y) → Every P (filter_map g xs)
    → Every P (cons_option found (filter_map g xs))
filter_map_at P g xs None is rest = rest
filter_map_at P g xs (Some y) is rest = every_cons P y (filter_map g xs) (is y refl) rest

pub every_filter_map : {A B : Type 0} (P : B → Type 0) (g : A → Option B) (xs : List A) → ((x : A) (y : B) → g x ≡ Some y → P y) → Every P (filter_map g xs)
every_filter_map P g [] all = every_nil P
every_filter_map P g (x ∷ xs) all = filter_map_at P g xs (g x) (all x) (every_filter_map P g xs all)

-- the same, where what is asked of an item may rest on its standing there
pub every_filter_map_in : {A B : Type 0} (P : B → Type 0) (g : A → Option B) (xs : List A) → ((x : A) → Stands x xs → (y : B) → g x ≡ Some y → P y) → Every P (filter_map g xs)
every_filter_map_in P g [] all = every_nil P
every_filter_map_in P g (x ∷ xs) all = filter_map_at P g xs (g x) (all x (inl refl)) (every_filter_map_in P g xs (λ y there. all y (inr there)))

found_at : {A : Type 0} (test : A → Bool) (y : A) (ys : List A) (x : A) (b : Bool) → test y ≡ b → cond b (Some y) (find test ys) ≡ Some x
    → (find test ys ≡ Some x → Stands x ys × (test x ≡ true)) → Stands x (y ∷ ys) × (test x ≡ true)
found_at test y ys x true is found later = let same : x ≡ y = cc in (inl same, ap test same ∙ is)
found_at test y ys x false is found later = let rest : Stands x ys × (test x ≡ true) = later found in (inr rest.0, rest.1)

-- what is found stands in the list, and passes
pub found_stands : {A : Type 0} (test : A → Bool) (xs : List A) (x : A) → find test xs ≡ Some x → Stands x xs × (test x ≡ true)
found_stands test [] x found = absurd (let h : ⊥ = cc in h)
found_stands test (y ∷ ys) x found = found_at test y ys x (test y) refl found (found_stands test ys x)

pub get_stands : {A : Type 0} (xs : List A) (n : ℕ) (x : A) → slice_get xs n ≡ Some x → Stands x xs
get_stands [] n x got = absurd (let h : ⊥ = cc in h)
get_stands (y ∷ ys) zero x got = inl (let same : x ≡ y = cc in same)
get_stands (y ∷ ys) (suc n) x got = inr (get_stands ys n x got)

-- what stands at a place stays there as the list grows
pub get_left : {A : Type 0} (xs ys : List A) (n : ℕ) (x : A) → slice_get xs n ≡ Some x → slice_get (xs ++ ys) n ≡ Some x
get_left [] ys n x got = absurd (let h : ⊥ = cc in h)
get_left (z ∷ xs) ys zero x got = got
get_left (z ∷ xs) ys (suc n) x got = get_left xs ys n x got

pub get_last : {A : Type 0} (xs : List A) (x : A) (n : ℕ) → n ≡ length xs → slice_get (xs ++ (x ∷ [])) n ≡ Some x
get_last [] x n end = ap (slice_get (x ∷ [])) end
get_last (z ∷ xs) x n end = ap (slice_get (z ∷ (xs ++ (x ∷ [])))) end ∙ get_last xs x (length xs) refl

-- a place that was replaced holds the new item, and every other one what it held
pub get_set : {A : Type 0} (xs : List A) (i : ℕ) (old x : A) (n : ℕ) → slice_get xs i ≡ Some old
    → ((n ≡ i) × (slice_get (slice_set xs i x) n ≡ Some x)) ⊎ ((n ≡ i → ⊥) × (slice_get (slice_set xs i x) n ≡ slice_get xs n))
get_set [] i old x n at = absurd (let h : ⊥ = cc in h)
get_set (z ∷ xs) zero old x zero at = inl (refl, refl)
get_set (z ∷ xs) zero old x (suc n) at = inr (λ same. let h : ⊥ = omega (arith, same) in h, refl)
get_set (z ∷ xs) (suc i) old x zero at = inr (λ same. let h : ⊥ = omega (arith, same) in h, refl)
get_set (z ∷ xs) (suc i) old x (suc n) at = more (get_set xs i old x n at)
  where
    more : ((n ≡ i) × (slice_get (slice_set xs i x) n ≡ Some x)) ⊎ ((n ≡ i → ⊥) × (slice_get (slice_set xs i x) n ≡ slice_get xs n))
        → ((suc n ≡ suc i) × (slice_get (slice_set xs i x) n ≡ Some x)) ⊎ ((suc n ≡ suc i → ⊥) × (slice_get (slice_set xs i x) n ≡ slice_get xs n))
    more (inl new) = inl (ap suc new.0, new.1)
    more (inr old) = inr (λ same. old.0 (omega (arith, same)), old.1)

-- one more item: an earlier place holds what it held, and a later one nothing
pub get_more : {A : Type 0} (xs : List A) (x : A) (n : ℕ) → ((n ≡ length xs) × (slice_get (xs ++ x ∷ []) n ≡ Some x)) ⊎ (slice_get (xs ++ x ∷ []) n ≡ slice_get xs n)
get_more [] x zero = inl (refl, refl)
get_more [] x (suc n) = inr refl
get_more (z ∷ xs) x zero = inr refl
get_more (z ∷ xs) x (suc n) = more (get_more xs x n)
  where
    more : ((n ≡ length xs) × (slice_get (xs ++ x ∷ []) n ≡ Some x)) ⊎ (slice_get (xs ++ x ∷ []) n ≡ slice_get xs n)
        → ((suc n ≡ suc (length xs)) × (slice_get (xs ++ x ∷ []) n ≡ Some x)) ⊎ (slice_get (xs ++ x ∷ []) n ≡ slice_get xs n)
    more (inl new) = inl (ap suc new.0, new.1)
    more (inr old) = inr old

-- a mapped list holds at each place the image of what stood there
pub get_map : {A B : Type 0} (g : A → B) (xs : List A) (n : ℕ) → slice_get (map g xs) n ≡ option_map g (slice_get xs n)
get_map g [] n = refl
get_map g (x ∷ xs) zero = refl
get_map g (x ∷ xs) (suc n) = get_map g xs n

-- nothing stands behind the last item
pub get_past : {A : Type 0} (xs : List A) → slice_get xs (length xs) ≡ None
get_past [] = refl
get_past (x ∷ xs) = get_past xs

stands_kept : {A : Type 0} (test : A → Bool) (y : A) (ys : List A) (x : A) (b : Bool) → test y ≡ b → Stands x (cond b (y ∷ filter test ys) (filter test ys))
    → (Stands x (filter test ys) → Stands x ys × (test x ≡ true)) → Stands x (y ∷ ys) × (test x ≡ true)
stands_kept test y ys x true is (inl same) later = (inl same, ap test same ∙ is)
stands_kept test y ys x true is (inr there) later = let rest : Stands x ys × (test x ≡ true) = later there in (inr rest.0, rest.1)
stands_kept test y ys x false is there later = let rest : Stands x ys × (test x ≡ true) = later there in (inr rest.0, rest.1)

-- what a filter keeps stands in the list, and passes
pub stands_filter : {A : Type 0} (test : A → Bool) (xs : List A) (x : A) → Stands x (filter test xs) → Stands x xs × (test x ≡ true)
stands_filter test [] x there = absurd there
stands_filter test (y ∷ ys) x there = stands_kept test y ys x (test y) refl there (stands_filter test ys x)

-- a search that finds nothing: no item passes
pub not_found : {A : Type 0} (test : A → Bool) (xs : List A) (x : A) → find test xs ≡ None → Stands x xs → test x ≡ false
not_found test [] x none there = absurd there
not_found test (y ∷ ys) x none there = not_found_at test y ys x (test y) refl none there (not_found test ys x)
  where
    not_found_at : {A : Type 0} (test : A → Bool) (y : A) (ys : List A) (x : A) (b : Bool) → test y ≡ b → cond b (Some y) (find test ys) ≡ None → (x ≡ y) ⊎ Stands x ys
        → (find test ys ≡ None → Stands x ys → test x ≡ false) → test x ≡ false
    not_found_at test y ys x true is none there later = absurd (let h : ⊥ = cc in h)
    not_found_at test y ys x false is none (inl same) later = ap test same ∙ is
    not_found_at test y ys x false is none (inr there) later = later none there

pub range_below : (a n x : ℕ) → Stands x (range_with_len a n) → x < a + n
range_below a zero x there = absurd there
range_below a (suc n) x (inl same) = omega (arith, same)
range_below a (suc n) x (inr there) = omega (arith, range_below (a + 1) n x there)
