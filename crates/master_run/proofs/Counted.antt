-- Counts of faults, before a call and after it.
use Rattle.std.proofs.Common.{◌≡◌, ◌≤◌, ◌<◌, ◌++◌, ◌∷◌, ℕ, zero, suc, List, [], Some, drop, sum, arith}
use Rattle.std.specs.Prelude.{slice_get}
use Rattle.std.proofs.lemmas.List.Sums.{sum_by-cons}
use Rattle.master_run.specs.Counts.{Counts}
use Rattle.master_run.specs.declared.rises.Rise.{Rise}

-- both counts of the site
abbrev pub site_rise : Counts → Counts → Rise
site_rise b a = record { before = b.site; after = a.site }

-- and both of the hall
abbrev pub hall_rise : Counts → Counts → Rise
hall_rise b a = record { before = b.hall; after = a.hall }

-- where one didn't rise, the others behind it did
pub rises_behind : (b a : List ℕ) (at x y : ℕ) → slice_get b at ≡ Some x → slice_get a at ≡ Some y → y ≤ x → sum (drop at b) < sum (drop at a) → sum (drop (suc at) b) < sum (drop (suc at) a)
rises_behind (p ∷ b) (q ∷ a) zero x y is_x is_y le more =
    let same : p ≡ x = cc in
    let also : q ≡ y = cc in
    omega (arith, same, also, le, more, sum_by-cons (λ n. n) p b, sum_by-cons (λ n. n) q a)
rises_behind (p ∷ b) (q ∷ a) (suc at) x y is_x is_y le more = rises_behind b a at x y is_x is_y le more
rises_behind [] a at x y is_x is_y le more = absurd (cc)
rises_behind (p ∷ b) [] at x y is_x is_y le more = absurd (cc)

-- the item stands there in a longer list too
pub stands_before : {A : Type 0} (front back : List A) (at : ℕ) (x : A) → slice_get front at ≡ Some x → slice_get (front ++ back) at ≡ Some x
stands_before [] back at x is = absurd (cc)
stands_before (y ∷ front) back zero x is = is
stands_before (y ∷ front) back (suc at) x is = stands_before front back at x is
