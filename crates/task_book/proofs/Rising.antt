-- Lines of held tasks, whose ids rise, and marks before which no task is in some stage.
use Rattle.std.proofs.Common.{◌≡◌, ◌≤◌, ◌<◌, ◌⊎◌, ⊎_elim, inl, inr, ℕ, zero, suc, ◌+◌, Bool, true, false, cond, List, [], ◌∷◌, ◌++◌, length, get_or, drop, take, Option, Some, None, Result, Ok, Err, refl, sym, ap, subst, ◌∙◌, arith}
use Rattle.std.specs.Prelude.{◌==◌, ◌&&◌, IfSome, position, slice_get, slice_set, remove}
use Rattle.std.specs.List.{AllByRecursion}
use Rattle.std.specs.List.Sorted.{IsBinarySearchResult, IsPartitionPoint}
use Rattle.std.specs.Ordering.{nat_cmp, ordering_index}
use Rattle.std.specs.declared.cmp.Ordering.TheVariants.{Less, Equal, Greater}
use Rattle.std.proofs.lemmas.Bool.{eqb-true}
use Rattle.std.proofs.lemmas.List.{length-append}
use Rattle.std.proofs.lemmas.Option.{slice_get-get_or, slice_get_within}
use Rattle.task_book.specs.declared.task.Held.{Held}
use Rattle.task_book.specs.declared.task.Stage.{Stage}
use Rattle.task_book.specs.Kept.{staged, staged_by}
use Rattle.task_book.specs.Kept.{is_end}
use Rattle.task_book.specs.Lines.{AreFrom, IsLine, is_waiting}
use Rattle.task_book.proofs.Positions.{as_long, here, less_long, next, none_passes_at, there}

-- ---- marks

module _ {A : Type 0} (p : A → Bool) where
  -- none of the first n passes
  abbrev pub Clear : ℕ → List A → Type 0
  Clear n xs = AllByRecursion (λ (x : A). p x ≡ false) (take n xs)

  pub clear_none : (n : ℕ) → Clear n []
  clear_none zero = tt
  clear_none (suc n) = tt

  pub clear_less : (n m : ℕ) (xs : List A) → m ≤ n → Clear n xs → Clear m xs
  clear_less n zero xs le all = tt
  clear_less zero (suc m) xs le all = absurd (omega (arith, le))
  clear_less (suc n) (suc m) [] le all = tt
  clear_less (suc n) (suc m) (x ∷ xs) le all = (all.0, clear_less n m xs (omega (arith, le)) all.1)

  pub clear_more : (n : ℕ) (xs : List A) (y : A) → n ≤ length xs → Clear n xs → Clear n (xs ++ y ∷ [])
  clear_more zero xs y le all = tt
  clear_more (suc n) [] y le all = absurd (omega (arith, le))
  clear_more (suc n) (x ∷ xs) y le all = (all.0, clear_more n xs y (omega (arith, le)) all.1)

  -- a mark behind the one that leaves
  pub clear_removed : (n at : ℕ) (xs : List A) → at ≤ n → Clear (suc n) xs → Clear n (remove xs at)
  clear_removed n zero [] le all = clear_none n
  clear_removed n (suc at) [] le all = clear_none n
  clear_removed n zero (x ∷ xs) le all = all.1
  clear_removed zero (suc at) (x ∷ xs) le all = absurd (omega (arith, le))
  clear_removed (suc n) (suc at) (x ∷ xs) le all = (all.0, clear_removed n at xs (omega (arith, le)) all.1)

  -- a mark that isn't
  pub clear_kept : (n at : ℕ) (xs : List A) → n ≤ at → Clear n xs → Clear n (remove xs at)
  clear_kept zero at xs le all = tt
  clear_kept (suc n) zero xs le all = absurd (omega (arith, le))
  clear_kept (suc n) (suc at) [] le all = tt
  clear_kept (suc n) (suc at) (x ∷ xs) le all = (all.0, clear_kept n at xs (omega (arith, le)) all.1)

  fails_by : (x : A) (b : Bool) → p x ≡ b → (p x ≡ true → ⊥) → p x ≡ false
  fails_by x true e not = absurd (not e)
  fails_by x false e not = e

  pub clear_set : (n at : ℕ) (xs : List A) (y : A) → (p y ≡ true → n ≤ at) → Clear n xs → Clear n (slice_set xs at y)
  clear_set zero at xs y low all = tt
  clear_set (suc n) zero [] y low all = tt
  clear_set (suc n) (suc at) [] y low all = tt
  clear_set (suc n) zero (x ∷ xs) y low all = (fails_by y (p y) refl (λ e. let le = low e in omega (arith, le)), all.1)
  clear_set (suc n) (suc at) (x ∷ xs) y low all =
      (all.0, clear_set n at xs y (λ e. let le = low e in omega (arith, le)) all.1)

  -- one further
  pub clear_next : (n : ℕ) (xs : List A) (x : A) → slice_get xs n ≡ Some x → p x ≡ false → Clear n xs → Clear (suc n) xs
  clear_next zero [] x is no_pass all = tt
  clear_next (suc n) [] x is no_pass all = tt
  clear_next zero (y ∷ xs) x is no_pass all = let same : y ≡ x = cc in (subst (λ (z : A). p z ≡ false) (sym same) no_pass, tt)
  clear_next (suc n) (y ∷ xs) x is no_pass all = (all.0, clear_next n xs x is no_pass all.1)

  pub clear_first : (n : ℕ) (xs : List A) (x : A) → slice_get xs n ≡ Some x → p x ≡ true → Clear n xs → position p xs ≡ Some n
  clear_first n [] x is passes all = absurd cc
  clear_first zero (y ∷ xs) x is passes all = let same : y ≡ x = cc in here p y xs (subst (λ (z : A). p z ≡ true) (sym same) passes)
  clear_first (suc n) (y ∷ xs) x is passes all = there p y xs all.0 ∙ ap next (clear_first n xs x is passes all.1)

  pub clear_all : (n : ℕ) (xs : List A) → length xs ≤ n → Clear n xs → position p xs ≡ None
  clear_all n [] le all = refl
  clear_all zero (y ∷ xs) le all = absurd (omega (arith, le))
  clear_all (suc n) (y ∷ xs) le all = there p y xs all.0 ∙ ap next (clear_all n xs (omega (arith, le)) all.1)

  -- none from this place on passes
  abbrev pub Over : ℕ → List A → Type 0
  Over n xs = AllByRecursion (λ (x : A). p x ≡ false) (drop n xs)

  pub over_none : (n : ℕ) → Over n []
  over_none zero = tt
  over_none (suc n) = tt

  pub over_high : (n m : ℕ) (xs : List A) → n ≤ m → Over n xs → Over m xs
  over_high zero zero xs le all = all
  over_high zero (suc m) [] le all = tt
  over_high zero (suc m) (x ∷ xs) le all = over_high zero m xs (omega arith) all.1
  over_high (suc n) zero xs le all = absurd (omega (arith, le))
  over_high (suc n) (suc m) [] le all = tt
  over_high (suc n) (suc m) (x ∷ xs) le all = over_high n m xs (omega (arith, le)) all

  pub over_more : (n : ℕ) (xs : List A) (y : A) → (p y ≡ true → length xs < n) → Over n xs → Over n (xs ++ y ∷ [])
  over_more zero [] y high all = (fails_by y (p y) refl (λ e. let less = high e in omega (arith, less)), tt)
  over_more zero (x ∷ xs) y high all = (all.0, over_more zero xs y (λ e. let less = high e in omega (arith, less)) all.1)
  over_more (suc n) [] y high all = over_none n
  over_more (suc n) (x ∷ xs) y high all = over_more n xs y (λ e. let less = high e in omega (arith, less)) all

  pub over_removed : (n at : ℕ) (xs : List A) → Over n xs → Over n (remove xs at)
  over_removed n zero [] all = over_none n
  over_removed n (suc at) [] all = over_none n
  over_removed zero zero (x ∷ xs) all = all.1
  over_removed zero (suc at) (x ∷ xs) all = (all.0, over_removed zero at xs all.1)
  over_removed (suc n) zero (x ∷ xs) all = over_high n (suc n) xs (omega arith) all
  over_removed (suc n) (suc at) (x ∷ xs) all = over_removed n at xs all

  pub over_set : (n at : ℕ) (xs : List A) (y : A) → (p y ≡ true → at < n) → Over n xs → Over n (slice_set xs at y)
  over_set n zero [] y high all = over_none n
  over_set n (suc at) [] y high all = over_none n
  over_set zero zero (x ∷ xs) y high all = (fails_by y (p y) refl (λ e. let less = high e in omega (arith, less)), all.1)
  over_set zero (suc at) (x ∷ xs) y high all = (all.0, over_set zero at xs y (λ e. let less = high e in omega (arith, less)) all.1)
  over_set (suc n) zero (x ∷ xs) y high all = all
  over_set (suc n) (suc at) (x ∷ xs) y high all = over_set n at xs y (λ e. let less = high e in omega (arith, less)) all

  pub over_long : (n : ℕ) (xs : List A) → length xs ≤ n → Over n xs
  over_long n [] le = over_none n
  over_long zero (x ∷ xs) le = absurd (omega (arith, le))
  over_long (suc n) (x ∷ xs) le = over_long n xs (omega (arith, le))

  -- none passes before a mark nor from it on, so none does
  pub none_here : (n : ℕ) (xs : List A) → Clear n xs → Over n xs → AllByRecursion (λ (x : A). p x ≡ false) xs
  none_here zero xs clear over = over
  none_here (suc n) [] clear over = tt
  none_here (suc n) (x ∷ xs) clear over = (clear.0, none_here n xs clear.1 over)

  pub over_of : (n : ℕ) (xs : List A) → AllByRecursion (λ (x : A). p x ≡ false) xs → Over n xs
  over_of zero xs all = all
  over_of (suc n) [] all = tt
  over_of (suc n) (x ∷ xs) all = over_of n xs all.1

-- ---- ids

pub rise_lower : (n m : ℕ) (held : List Held) → m ≤ n → AreFrom n held → AreFrom m held
rise_lower n m [] le rise = tt
rise_lower n m (h ∷ held) le rise = (let low = rise.0 in omega (arith, le, low), rise.1)

pub rise_more : (n : ℕ) (held : List Held) (y : Held) → n ≤ y.id.0 → AllByRecursion (λ (h : Held). h.id.0 < y.id.0) held → AreFrom n held → AreFrom n (held ++ y ∷ [])
rise_more n [] y le all rise = (le, tt)
rise_more n (h ∷ held) y le all rise = (rise.0, rise_more (h.id.0 + 1) held y (let less = all.0 in omega (arith, less)) all.1 rise.1)

pub rise_removed : (n at : ℕ) (held : List Held) → AreFrom n held → AreFrom n (remove held at)
rise_removed n zero [] rise = tt
rise_removed n (suc at) [] rise = tt
rise_removed n zero (h ∷ held) rise = rise_lower (h.id.0 + 1) n held (let low = rise.0 in omega (arith, low)) rise.1
rise_removed n (suc at) (h ∷ held) rise = (rise.0, rise_removed (h.id.0 + 1) at held rise.1)

pub rise_set : (n at : ℕ) (held : List Held) (h : Held) (stage : Stage) → slice_get held at ≡ Some h → AreFrom n held → AreFrom n (slice_set held at (staged stage h))
rise_set n at [] h stage is rise = absurd cc
rise_set n zero (x ∷ held) h stage is rise =
    let same : x ≡ h = cc in
    subst (λ (y : Held). (n ≤ y.id.0) × AreFrom (y.id.0 + 1) held) same rise
rise_set n (suc at) (x ∷ held) h stage is rise = (rise.0, rise_set (x.id.0 + 1) at held h stage is rise.1)

pub rise_at : (n at : ℕ) (held : List Held) (h : Held) → slice_get held at ≡ Some h → AreFrom n held → n ≤ h.id.0
rise_at n at [] h is rise = absurd cc
rise_at n zero (x ∷ held) h is rise = let same : x ≡ h = cc in subst (λ (y : Held). n ≤ y.id.0) same rise.0
rise_at n (suc at) (x ∷ held) h is rise =
    let later = rise_at (x.id.0 + 1) at held h is rise.1 in
    let low = rise.0 in
    omega (arith, later, low)

-- the test for an id
abbrev pub is_id : ℕ → Held → Bool
is_id n h = h.id.0 == n

other_id : (n : ℕ) (h : Held) (b : Bool) → is_id n h ≡ b → (h.id.0 ≡ n → ⊥) → is_id n h ≡ false
other_id n h true e differs = absurd (differs (eqb-true h.id.0 n e))
other_id n h false e differs = e

same_id : (n : ℕ) (h : Held) (b : Bool) → is_id n h ≡ b → h.id.0 ≡ n → is_id n h ≡ true
same_id n h b e same = ap (λ (m : ℕ). m == n) same ∙ search arith

pub place_found : (low n at : ℕ) (held : List Held) (h : Held) → slice_get held at ≡ Some h → h.id.0 ≡ n → AreFrom low held → position (is_id n) held ≡ Some at
place_found low n at [] h is same rise = absurd cc
place_found low n zero (x ∷ held) h is same rise =
    let one : x ≡ h = cc in
    here (is_id n) x held (same_id n x (is_id n x) refl (ap (λ (y : Held). y.id.0) one ∙ same))
place_found low n (suc at) (x ∷ held) h is same rise =
    let later = rise_at (x.id.0 + 1) at held h is rise.1 in
    let differs : x.id.0 ≡ n → ⊥ = λ e. omega (arith, later, same, e) in
    there (is_id n) x held (other_id n x (is_id n x) refl differs) ∙ ap next (place_found (x.id.0 + 1) n at held h is same rise.1)

pub place_none : (n : ℕ) (held : List Held) → ((k : ℕ) (d : Held) → k < length held → (get_or held k d).id.0 ≡ n → ⊥) → position (is_id n) held ≡ None
place_none n [] none = refl
place_none n (x ∷ held) none =
    there (is_id n) x held (other_id n x (is_id n x) refl (none 0 x (omega arith)))
    ∙ ap next (place_none n held (λ k d less. none (suc k) d (omega (arith, less))))

pub rise_index : (low i j : ℕ) (held : List Held) (d : Held) → i ≤ j → j < length held → AreFrom low held → (get_or held i d).id.0 ≤ (get_or held j d).id.0
rise_index low i j [] d le less rise = absurd (omega (arith, less))
rise_index low zero zero (x ∷ held) d le less rise = omega arith
rise_index low (suc i) zero (x ∷ held) d le less rise = absurd (omega (arith, le))
rise_index low zero (suc j) (x ∷ held) d le less rise =
    let later = rise_at (x.id.0 + 1) j held (get_or held j d) (slice_get-get_or held j d (omega (arith, less))) rise.1 in
    omega (arith, later)
rise_index low (suc i) (suc j) (x ∷ held) d le less rise = rise_index (x.id.0 + 1) i j held d (omega (arith, le)) (omega (arith, less)) rise.1

cmp_rises : (a b n : ℕ) → a ≤ b → ordering_index (nat_cmp a n) ≤ ordering_index (nat_cmp b n)
cmp_rises a b n le = grind arith

cmp_equal : (a n : ℕ) → nat_cmp a n ≡ Equal → a ≡ n
cmp_equal a n e = grind arith

cmp_less : (a n : ℕ) → nat_cmp a n ≡ Less → a ≡ n → ⊥
cmp_less a n e same = grind arith

cmp_greater : (a n : ℕ) → nat_cmp a n ≡ Greater → a ≡ n → ⊥
cmp_greater a n e same = grind arith

-- what a binary search for an id answers
pub searched_place : (n : ℕ) (held : List Held) (r : Result ℕ ℕ) → AreFrom 0 held → IsBinarySearchResult (λ (y : Held). nat_cmp y.id.0 n) held r
    → (k : ℕ) → r ≡ Ok k → k < length held → position (is_id n) held ≡ Some k
searched_place n [] r rise is k e less = absurd (omega (arith, less))
searched_place n (x ∷ held) (Ok at) rise is k e less =
    let same : at ≡ k = cc in
    let h = get_or (x ∷ held) k x in
    let equal = cmp_equal h.id.0 n (subst (λ (m : ℕ). nat_cmp (get_or (x ∷ held) m x).id.0 n ≡ Equal) same (is x)) in
    place_found 0 n k (x ∷ held) h (slice_get-get_or (x ∷ held) k x less) equal rise
searched_place n (x ∷ held) (Err at) rise is k e less = absurd cc

below_or : (k at : ℕ) → (k < at) ⊎ (at ≤ k)
below_or k at = grind arith

apart_at : (n at : ℕ) (held : List Held) → IsPartitionPoint (λ (y : Held). nat_cmp y.id.0 n ≡ Less) (λ (y : Held). nat_cmp y.id.0 n ≡ Greater) held at
    → (k : ℕ) (d : Held) → k < length held → (k < at) ⊎ (at ≤ k) → (get_or held k d).id.0 ≡ n → ⊥
apart_at n at held point k d less (inl low) same = cmp_less (get_or held k d).id.0 n (point.0 k d (omega arith) low) same
apart_at n at held point k d less (inr high) same = cmp_greater (get_or held k d).id.0 n (point.1 k d high less) same

pub searched_none : (n : ℕ) (held : List Held) (r : Result ℕ ℕ) → AreFrom 0 held → IsBinarySearchResult (λ (y : Held). nat_cmp y.id.0 n) held r
    → (k : ℕ) → r ≡ Err k → position (is_id n) held ≡ None
searched_none n held (Ok at) rise is k e = absurd cc
searched_none n held (Err at) rise is k e =
    let point = is (λ i j d le less. cmp_rises (get_or held i d).id.0 (get_or held j d).id.0 n (rise_index 0 i j held d le less rise)) in
    place_none n held (λ m d less same. apart_at n at held point m d less (below_or m at) same)

-- ---- whole lines

pub none_all : {A : Type 0} (q : A → Bool) (xs : List A) → AllByRecursion (λ (x : A). q x ≡ false) xs → position q xs ≡ None
none_all q [] all = refl
none_all q (x ∷ xs) all = there q x xs all.0 ∙ ap next (none_all q xs all.1)

-- the one of an id, where it passes as well
abbrev pub is_both : (Held → Bool) → ℕ → Held → Bool
is_both q n h = is_id n h && q h

fails_both : (q : Held → Bool) (n : ℕ) (h : Held) → is_id n h ≡ false → is_both q n h ≡ false
fails_both q n h e = ap (λ (b : Bool). b && q h) e

passes_both : (q : Held → Bool) (n : ℕ) (h : Held) (b : Bool) → is_id n h ≡ true → q h ≡ b → is_both q n h ≡ b
passes_both q n h b e f = ap (λ (a : Bool). a && q h) e ∙ f

all_fail_both : (q : Held → Bool) (n : ℕ) (held : List Held) → AllByRecursion (λ (x : Held). is_id n x ≡ false) held → AllByRecursion (λ (x : Held). is_both q n x ≡ false) held
all_fail_both q n [] all = tt
all_fail_both q n (h ∷ held) all = (fails_both q n h all.0, all_fail_both q n held all.1)

pub both_none : (q : Held → Bool) (n : ℕ) (held : List Held) → position (is_id n) held ≡ None → position (is_both q n) held ≡ None
both_none q n held is = none_all (is_both q n) held (all_fail_both q n held (none_passes_at (is_id n) held is))

later_fail : (low n : ℕ) (held : List Held) → n < low → AreFrom low held → AllByRecursion (λ (x : Held). is_id n x ≡ false) held
later_fail low n [] less rise = tt
later_fail low n (h ∷ held) less rise =
    let low_is = rise.0 in
    (other_id n h (is_id n h) refl (λ e. omega (arith, less, low_is, e)), later_fail (h.id.0 + 1) n held (omega (arith, less, low_is)) rise.1)

next_if : (b : Bool) (at : ℕ) → next (cond b (Some at) None) ≡ cond b (Some (suc at)) None
next_if true at = refl
next_if false at = refl

first_if : (q : Held → Bool) (n : ℕ) (h : Held) (held : List Held) (b : Bool) → is_id n h ≡ true → q h ≡ b → AllByRecursion (λ (x : Held). is_id n x ≡ false) held
    → position (is_both q n) (h ∷ held) ≡ cond b (Some 0) None
first_if q n h held true e f rest = here (is_both q n) h held (passes_both q n h true e f)
first_if q n h held false e f rest =
    there (is_both q n) h held (passes_both q n h false e f) ∙ ap next (none_all (is_both q n) held (all_fail_both q n held rest))

pub both_at : (q : Held → Bool) (low n at : ℕ) (held : List Held) (h : Held) (b : Bool) → slice_get held at ≡ Some h → h.id.0 ≡ n → q h ≡ b → AreFrom low held
    → position (is_both q n) held ≡ cond b (Some at) None
both_at q low n at [] h b is same f rise = absurd cc
both_at q low n zero (x ∷ held) h b is same f rise =
    let one : x ≡ h = cc in
    let id : x.id.0 ≡ n = ap (λ (y : Held). y.id.0) one ∙ same in
    first_if q n x held b (same_id n x (is_id n x) refl id) (ap q one ∙ f) (later_fail (x.id.0 + 1) n held (omega (arith, id)) rise.1)
both_at q low n (suc at) (x ∷ held) h b is same f rise =
    let later = rise_at (x.id.0 + 1) at held h is rise.1 in
    let differs : x.id.0 ≡ n → ⊥ = λ e. omega (arith, later, same, e) in
    there (is_both q n) x held (fails_both q n x (other_id n x (is_id n x) refl differs))
    ∙ ap next (both_at q (x.id.0 + 1) n at held h b is same f rise.1) ∙ next_if b at

pub ended_place : (p : Held → Bool) (e : ℕ) (held : List Held) → Clear p e held → IfSome (slice_get held e) (λ (h : Held). p h ≡ true) → e < length held → position p held ≡ Some e
ended_place p e [] clear is less = absurd (omega (arith, less))
ended_place p zero (x ∷ held) clear is less = here p x held is
ended_place p (suc e) (x ∷ held) clear is less = there p x held clear.0 ∙ ap next (ended_place p e held clear.1 is (omega (arith, less)))

-- the ended ones, as a test of held ones
abbrev pub Ends : Held → Bool
Ends h = is_end h.stage

-- the places of a line from which on none ended, by its last mark
pub behind_last : (last to : ℕ) (held : List Held) → (last < length held → to ≡ last + 1) → (length held ≤ last → to ≡ length held) → Over Ends (suc last) held → Over Ends to held
behind_last last to held next all over =
    ⊎_elim (λ (less : last < length held). let same : to ≡ suc last = let is = next less in omega (arith, is) in subst (λ (k : ℕ). Over Ends k held) (sym same) over)
    (λ (le : length held ≤ last). let same = all le in over_long Ends to held (omega (arith, same)))
    (below_or last (length held))

pub behind_within : (last to n : ℕ) → (last < n → to ≡ last + 1) → (n ≤ last → to ≡ n) → to ≤ n
behind_within last to n next all =
    ⊎_elim (λ (less : last < n). let is = next less in omega (arith, is, less)) (λ (le : n ≤ last). let same = all le in omega (arith, same)) (below_or last n)

-- where the first mark is behind all places at which one may have ended, none has
pub none_ended : (held : List Held) (last to e : ℕ) → (last < length held → to ≡ last + 1) → (length held ≤ last → to ≡ length held) → Over Ends (suc last) held → Clear Ends e held → to ≤ e
    → AllByRecursion (λ (h : Held). is_end h.stage ≡ false) held
none_ended held last to e next all over clear le = none_here Ends e held clear (over_high Ends to e held le (behind_last last to held next all over))

pub line_none : IsLine [] 0 0 0
line_none = record { rise = tt; waits = tt; waits_within = omega arith; ended = tt; ended_within = omega arith; behind = tt }

-- the marks of the ended ones have moved on
pub line_marked : (held : List Held) (n e l f m : ℕ) → IsLine held n e l → Clear Ends f held → f ≤ length held → Over Ends (suc m) held → IsLine held n f m
line_marked held n e l f m is clear within over =
    record { rise = is.rise; waits = is.waits; waits_within = is.waits_within; ended = clear; ended_within = within; behind = over }

pub line_pushed : (held : List Held) (n e l m : ℕ) (task : Held) → IsLine held n e l → AllByRecursion (λ (h : Held). h.id.0 < task.id.0) held → l ≤ m → (is_end task.stage ≡ true → length held ≤ m)
    → IsLine (held ++ task ∷ []) n e m
line_pushed held n e l m task is below high there =
    let long = length-append held (task ∷ []) in
    let n_in = is.waits_within in
    let e_in = is.ended_within in
    record {
      rise = rise_more 0 held task (omega arith) below is.rise;
      waits = clear_more (λ (h : Held). is_waiting h.stage) n held task n_in is.waits;
      waits_within = omega (arith, long, n_in);
      ended = clear_more (λ (h : Held). is_end h.stage) e held task e_in is.ended;
      ended_within = omega (arith, long, e_in);
      behind = over_more Ends (suc m) held task (λ e. let le = there e in omega (arith, le)) (over_high Ends (suc l) (suc m) held (omega (arith, high)) is.behind);
    }

clear_left_by : (p : Held → Bool) (n m at : ℕ) (held : List Held) → (at < n) ⊎ (n ≤ at) → (at < n → m + 1 ≡ n) → (n ≤ at → m ≡ n) → Clear p n held → Clear p m (remove held at)
clear_left_by p n m at held (inl low) behind before all =
    let same : n ≡ suc m = let one = behind low in omega (arith, one) in
    clear_removed p m at held (omega (arith, same, low)) (subst (λ (k : ℕ). Clear p k held) same all)
clear_left_by p n m at held (inr high) behind before all =
    subst (λ (k : ℕ). Clear p k (remove held at)) (sym (before high)) (clear_kept p n at held high all)

within_left : (n m at l k : ℕ) → (at < n) ⊎ (n ≤ at) → (at < n → m + 1 ≡ n) → (n ≤ at → m ≡ n) → at < l → 1 + k ≡ l → n ≤ l → m ≤ k
within_left n m at l k (inl low) behind before less one le = let same = behind low in omega (arith, same, one, le)
within_left n m at l k (inr high) behind before less one le = let same = before high in omega (arith, same, one, less, high)

pub line_left : (held : List Held) (n e l m f at : ℕ) (h : Held) → slice_get held at ≡ Some h → IsLine held n e l → (at < n → m + 1 ≡ n) → (n ≤ at → m ≡ n) → (at < e → f + 1 ≡ e) → (e ≤ at → f ≡ e)
    → IsLine (remove held at) m f l
line_left held n e l m f at h is line behind before behind_e before_e =
    let less = slice_get_within held at h is in
    let one = less_long held at h is in
    record {
      rise = rise_removed 0 at held line.rise;
      waits = clear_left_by (λ (h : Held). is_waiting h.stage) n m at held (below_or at n) behind before line.waits;
      waits_within = within_left n m at (length held) (length (remove held at)) (below_or at n) behind before less one line.waits_within;
      ended = clear_left_by (λ (h : Held). is_end h.stage) e f at held (below_or at e) behind_e before_e line.ended;
      ended_within = within_left e f at (length held) (length (remove held at)) (below_or at e) behind_e before_e less one line.ended_within;
      behind = over_removed Ends (suc l) at held line.behind;
    }

pub line_staged : (held : List Held) (n e l m f k at : ℕ) (stage : Stage) (p : Option Held) → slice_get held at ≡ p → IsLine held n e l → m ≤ n → f ≤ e → l ≤ k → (is_waiting stage ≡ true → m ≤ at)
    → (is_end stage ≡ true → f ≤ at) → (is_end stage ≡ true → at ≤ k) → IsLine (staged_by held at stage p) m f k
line_staged held n e l m f k at stage None is line le_m le_f le_k low_m low_f high =
    let n_in = line.waits_within in
    let e_in = line.ended_within in
    record {
      rise = line.rise;
      waits = clear_less (λ (h : Held). is_waiting h.stage) n m held le_m line.waits;
      waits_within = omega (arith, n_in, le_m);
      ended = clear_less (λ (h : Held). is_end h.stage) e f held le_f line.ended;
      ended_within = omega (arith, e_in, le_f);
      behind = over_high Ends (suc l) (suc k) held (omega (arith, le_k)) line.behind;
    }
line_staged held n e l m f k at stage (Some h) is line le_m le_f le_k low_m low_f high =
    let n_in = line.waits_within in
    let e_in = line.ended_within in
    let long = as_long held at (staged stage h) in
    record {
      rise = rise_set 0 at held h stage is line.rise;
      waits = clear_set (λ (x : Held). is_waiting x.stage) m at held (staged stage h) low_m (clear_less (λ (x : Held). is_waiting x.stage) n m held le_m line.waits);
      waits_within = omega (arith, n_in, le_m, long);
      ended = clear_set (λ (x : Held). is_end x.stage) f at held (staged stage h) low_f (clear_less (λ (x : Held). is_end x.stage) e f held le_f line.ended);
      ended_within = omega (arith, e_in, le_f, long);
      behind = over_set Ends (suc k) at held (staged stage h) (λ e. let le = high e in omega (arith, le)) (over_high Ends (suc l) (suc k) held (omega (arith, le_k)) line.behind);
    }

-- with the list as it came to be
pub line_is : (held new : List Held) (n e l : ℕ) → new ≡ held → IsLine held n e l → IsLine new n e l
line_is held new n e l same is = subst (λ (x : List Held). IsLine x n e l) (sym same) is
