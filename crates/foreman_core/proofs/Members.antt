-- Items of joined, filtered and mapped lists.
use Rattle.std.proofs.Common.{◌≡◌, inl, inr, ℕ, zero, suc, Bool, true, false, cond, List, [], ◌∷◌, ◌++◌, Option, Some, None, refl, ap, sym, ◌∙◌, subst}
use Rattle.std.specs.Prelude.{filter, map, slice_get, slice_set, remove, take, drop, filter_map}
use Rattle.std.specs.List.{cons_option}
use Rattle.foreman_core.specs.Members.{Stands, Every}

pub stands_left : {A : Type 0} (x : A) (xs ys : List A) → Stands x xs → Stands x (xs ++ ys)
stands_left x [] ys here = absurd here
stands_left x (z ∷ xs) ys (inl same) = inl same
stands_left x (z ∷ xs) ys (inr later) = inr (stands_left x xs ys later)

pub stands_right : {A : Type 0} (x : A) (xs ys : List A) → Stands x ys → Stands x (xs ++ ys)
stands_right x [] ys there = there
stands_right x (z ∷ xs) ys there = inr (stands_right x xs ys there)

pub every_append : {A : Type 0} (P : A → Type 0) (xs ys : List A) → Every P xs → Every P ys → Every P (xs ++ ys)
every_append P [] ys left right x there = right x there
every_append P (z ∷ xs) ys left right x (inl same) = left x (inl same)
every_append P (z ∷ xs) ys left right x (inr later) = every_append P xs ys (λ y there. left y (inr there)) right x later

pub every_nil : {A : Type 0} (P : A → Type 0) → Every P []
every_nil P x here = absurd here

pub every_one : {A : Type 0} (P : A → Type 0) (x : A) → P x → Every P (x ∷ [])
every_one P x is y (inl same) = subst P (sym same) is
every_one P x is y (inr later) = absurd later

pub every_cons : {A : Type 0} (P : A → Type 0) (x : A) (xs : List A) → P x → Every P xs → Every P (x ∷ xs)
every_cons P x xs is rest y (inl same) = subst P (sym same) is
every_cons P x xs is rest y (inr later) = rest y later

filter_at : {A : Type 0} (P : A → Type 0) (test : A → Bool) (x : A) (xs : List A) (b : Bool) → P x → Every P (filter test xs) → Every P (cond b (x ∷ filter test xs) (filter test xs))
filter_at P test x xs true is rest = every_cons P x (filter test xs) is rest
filter_at P test x xs false is rest = rest

pub every_filter : {A : Type 0} (P : A → Type 0) (test : A → Bool) (xs : List A) → Every P xs → Every P (filter test xs)
every_filter P test [] all = all
every_filter P test (x ∷ xs) all = filter_at P test x xs (test x) (all x (inl refl)) (every_filter P test xs (λ y there. all y (inr there)))

pub every_map : {A B : Type 0} (P : B → Type 0) (g : A → B) (xs : List A) → Every (λ x. P (g x)) xs → Every P (map g xs)
every_map P g [] all = every_nil P
every_map P g (x ∷ xs) all = every_cons P (g x) (map g xs) (all x (inl refl)) (every_map P g xs (λ y there. all y (inr there)))

filter_map_at : {A B : Type 0} (P : B → Type 0) (g : A → Option B) (xs : List A) (found : Option B) → ((y : B) → found ≡ Some y → P y) → Every P (filter_map g xs)
    → Every P (cons_option found (filter_map g xs))
filter_map_at P g xs None is rest = rest
filter_map_at P g xs (Some y) is rest = every_cons P y (filter_map g xs) (is y refl) rest

pub every_filter_map : {A B : Type 0} (P : B → Type 0) (g : A → Option B) (xs : List A) → ((x : A) (y : B) → g x ≡ Some y → P y) → Every P (filter_map g xs)
every_filter_map P g [] all = every_nil P
every_filter_map P g (x ∷ xs) all = filter_map_at P g xs (g x) (all x) (every_filter_map P g xs all)

pub get_stands : {A : Type 0} (xs : List A) (n : ℕ) (x : A) → slice_get xs n ≡ Some x → Stands x xs
get_stands [] n x got = absurd (let h : ⊥ = cc in h)
get_stands (y ∷ ys) zero x got = inl (let same : x ≡ y = cc in same)
get_stands (y ∷ ys) (suc n) x got = inr (get_stands ys n x got)

stands_kept : {A : Type 0} (test : A → Bool) (y : A) (ys : List A) (x : A) (b : Bool) → test y ≡ b → Stands x (cond b (y ∷ filter test ys) (filter test ys))
    → (Stands x (filter test ys) → Stands x ys × (test x ≡ true)) → Stands x (y ∷ ys) × (test x ≡ true)
stands_kept test y ys x true is (inl same) later = (inl same, ap test same ∙ is)
stands_kept test y ys x true is (inr there) later = let rest : Stands x ys × (test x ≡ true) = later there in (inr rest.0, rest.1)
stands_kept test y ys x false is there later = let rest : Stands x ys × (test x ≡ true) = later there in (inr rest.0, rest.1)

-- what a filter keeps stands in the list, and passes
pub stands_filter : {A : Type 0} (test : A → Bool) (xs : List A) (x : A) → Stands x (filter test xs) → Stands x xs × (test x ≡ true)
stands_filter test [] x there = absurd there
stands_filter test (y ∷ ys) x there = stands_kept test y ys x (test y) refl there (stands_filter test ys x)

pub every_set : {A : Type 0} (P : A → Type 0) (xs : List A) (n : ℕ) (x : A) → P x → Every P xs → Every P (slice_set xs n x)
every_set P [] n x is all = all
every_set P (y ∷ ys) zero x is all = every_cons P x ys is (λ z there. all z (inr there))
every_set P (y ∷ ys) (suc n) x is all = every_cons P y (slice_set ys n x) (all y (inl refl)) (every_set P ys n x is (λ z there. all z (inr there)))

every_take : {A : Type 0} (P : A → Type 0) (n : ℕ) (xs : List A) → Every P xs → Every P (take n xs)
every_take P zero xs all = every_nil P
every_take P (suc n) [] all = all
every_take P (suc n) (y ∷ ys) all = every_cons P y (take n ys) (all y (inl refl)) (every_take P n ys (λ z there. all z (inr there)))

every_drop : {A : Type 0} (P : A → Type 0) (n : ℕ) (xs : List A) → Every P xs → Every P (drop n xs)
every_drop P zero xs all = all
every_drop P (suc n) [] all = all
every_drop P (suc n) (y ∷ ys) all = every_drop P n ys (λ z there. all z (inr there))

pub every_remove : {A : Type 0} (P : A → Type 0) (xs : List A) (n : ℕ) → Every P xs → Every P (remove xs n)
every_remove P xs n all = every_append P (take n xs) (drop (suc n) xs) (every_take P n xs all) (every_drop P (suc n) xs all)
