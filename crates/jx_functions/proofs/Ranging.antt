-- Numbers in steps.
use Rattle.std.proofs.Common.{◌≡◌, ℕ, zero, suc, ◌+◌, ◌-◌, ◌*◌, ◌<◌, ◌≤◌, ◌/◌, ◌%◌, ◌^◌, Bool, true, false, nat_le, min, List, [], ◌∷◌, ◌++◌, map, Ok, Err, refl, sym, ap, ◌∙◌, arith, append_assoc, ℤ, pos, negsuc, neg_ℤ, inl, inr, ◌⊎◌, ◌+ℤ◌, ◌-ℤ◌, ◌<ℤ◌, ◌≤ℤ◌, w64}
use Rattle.std.specs.Prelude.{unsigned_abs, if◌then◌else◌}
use Rattle.std.specs.Int.{div_ceil, saturate_signed}
use Rattle.std.specs.Int.Signed.{mag}
use borrow.Author.Differences.{up, down, same_in}
use Rattle.std.proofs.lemmas.Bool.{leb-true, leb-false}
use Rattle.std.proofs.lemmas.Int.{ints}
use Rattle.std.proofs.lemmas.Nat.{div-mul-add, div-add-mod', mod_below}
use Rattle.std.proofs.lemmas.List.{map-append, append-nil}
use Rattle.jx_syntax.specs.declared.value.JxValue.{JxValue}
use Rattle.jx_syntax.specs.declared.value.JxValue.TheVariants as value
use Rattle.jx_meaning.specs.declared.fault.EvalFault.TheVariants.{ZeroDivisor}
use Rattle.jx_meaning.specs.Values.{Value, number, list, values, plain}
use Rattle.jx_meaning.specs.Numbers.{is_zero, whole, steps_in, range_len, stepped, ranged, ranged_if}
use Rattle.jx_values.proofs.Plain.{plain-number, plain-list}

-- ---- steps of one size

suc_times : (q n : ℕ) → (q + 1) * n ≡ q * n + n
suc_times q n = omega arith

ceil_by : (q r n : ℕ) → r < n → (q * n + r + n - 1) / n ≡ q + min 1 r
ceil_by q zero n lt = ap (λ x. x / n) (let e : q * n + zero + n - 1 ≡ q * n + (n - 1) = omega (arith, lt) in e) ∙ div-mul-add q n (n - 1) (omega (arith, lt)) ∙ omega arith
ceil_by q (suc k) n lt =
    ap (λ x. x / n) (let e : q * n + suc k + n - 1 ≡ (q + 1) * n + k = omega (arith, lt, suc_times q n) in e) ∙ div-mul-add (q + 1) n k (omega (arith, lt)) ∙ omega arith

-- the steps are the quotient, rounded up
steps_ceil : (d n : ℕ) → 0 < n → steps_in d n ≡ div_ceil d n
steps_ceil d n lt = ap (λ x. (x + n - 1) / n) (sym (div-add-mod' d n)) ∙ ceil_by (d / n) (d % n) n (mod_below d n lt)

steps_none : (n : ℕ) → 0 < n → steps_in 0 n ≡ 0
steps_none n lt = ap (λ x. x / n) (let e : 0 + n - 1 ≡ 0 * n + (n - 1) = omega (arith, lt) in e) ∙ div-mul-add 0 n (n - 1) (omega (arith, lt))

steps_suc : (e n : ℕ) → 0 < n → steps_in (suc e) n ≡ suc (e / n)
steps_suc e n lt =
    ap (λ x. x / n) (let h : suc e + n - 1 ≡ (e / n + 1) * n + e % n = omega (arith, div-add-mod' e n, suc_times (e / n) n) in h)
    ∙ div-mul-add (e / n + 1) n (e % n) (mod_below e n lt) ∙ omega arith

one_less : (e n : ℕ) (b : Bool) → 0 < n → nat_le (suc e) n ≡ b → e / n ≡ steps_in (suc e - n) n
one_less e n true lt h =
    let le : suc e ≤ n = leb-true (suc e) n h in
    let z : suc e - n ≡ 0 = omega (arith, le) in
    ap (λ x. x / n) (let k : e ≡ 0 * n + e = omega arith in k) ∙ div-mul-add 0 n e (omega (arith, le)) ∙ sym (ap (λ x. steps_in x n) z ∙ steps_none n lt)
one_less e n false lt h =
    let gt : n < suc e = leb-false (suc e) n h in
    ap (λ x. x / n) (let k : e ≡ suc e - n + n - 1 = omega (arith, gt, lt) in k)

-- the first step is one of them
steps_next : (d n : ℕ) → 0 < n → 0 < d → steps_in d n ≡ suc (steps_in (d - n) n)
steps_next zero n lt more = absurd (omega arith)
steps_next (suc e) n lt more = steps_suc e n lt ∙ ap suc (one_less e n (nat_le (suc e) n) lt refl)

-- where there are steps, there is a distance
some_distance : (d n m : ℕ) → 0 < n → steps_in d n ≡ suc m → 0 < d
some_distance zero n m lt h = absurd (omega (arith, h, steps_none n lt))
some_distance (suc e) n m lt h = omega arith

-- ---- the length of a range

pub range_up : (a b s : ℤ) → pos 0 <ℤ s → range_len a b s ≡ div_ceil (whole (b -ℤ a)) (unsigned_abs s)
range_up a b (pos n) h = steps_ceil (whole (b -ℤ a)) n (omega (arith, ints))
range_up a b (negsuc n) h = absurd (omega (arith, ints))

pub range_down : (a b s : ℤ) → s ≤ℤ pos 0 → is_zero s ≡ false → range_len a b s ≡ div_ceil (whole (a -ℤ b)) (unsigned_abs s)
range_down a b (pos zero) h k = absurd (let e : true ≡ false = k in cc)
range_down a b (pos (suc n)) h k = absurd (omega (arith, ints))
range_down a b (negsuc n) h k = steps_ceil (whole (a -ℤ b)) (suc n) (omega arith)

-- ---- the next number

whole-up : (z : ℤ) → whole z ≡ up z
whole-up (pos n) = refl
whole-up (negsuc n) = refl

bounds : (z : ℤ) → mag z < 2 ^ 63 → (up z < 2 ^ 63) × (down z ≤ 2 ^ 63)
bounds (pos n) h = (h, omega arith)
bounds (negsuc n) h = (omega arith, h)

-- the nearest number of 64 bits
nearest : (z : ℤ) → (up (saturate_signed w64 z) ≡ min (up z) (2 ^ 63 - 1)) × (down (saturate_signed w64 z) ≡ min (down z) (2 ^ 63))
nearest (pos m) = (refl, omega arith)
nearest (negsuc m) = (omega arith, omega arith)

one_zero : (z : ℤ) → (up z ≡ 0) ⊎ (down z ≡ 0)
one_zero (pos n) = inr refl
one_zero (negsuc n) = inl refl

diff : (x y : ℤ) → up (x +ℤ neg_ℤ y) ≡ (up x + down y) - (up y + down x)
diff x y = omega (arith, ints, one_zero (x +ℤ neg_ℤ y), one_zero x, one_zero y)

sum_up : (x y : ℤ) → up (x +ℤ y) ≡ (up x + up y) - (down x + down y)
sum_up x y = omega (arith, ints, one_zero (x +ℤ y))

sum_down : (x y : ℤ) → down (x +ℤ y) ≡ (down x + down y) - (up x + up y)
sum_down x y = omega (arith, ints, one_zero (x +ℤ y))

up_nat : (ua da ub db uz dz uy dy n : ℕ) → uz ≡ (ua + n) - (da + 0) → dz ≡ (da + 0) - (ua + n) → uy ≡ min uz (2 ^ 63 - 1) → dy ≡ min dz (2 ^ 63) → ub < 2 ^ 63 → da ≤ 2 ^ 63 → (ua ≡ 0) ⊎ (da ≡ 0) → (ub ≡ 0) ⊎ (db ≡ 0)
    → (ub + dy) - (uy + db) ≡ ((ub + da) - (ua + db)) - n
up_nat ua da ub db uz dz uy dy n e f g h i j k l = omega arith

up_nat_exact : (ua da ub db uz dz uy dy n : ℕ) → uz ≡ (ua + n) - (da + 0) → dz ≡ (da + 0) - (ua + n) → uy ≡ min uz (2 ^ 63 - 1) → dy ≡ min dz (2 ^ 63) → ub < 2 ^ 63 → da ≤ 2 ^ 63 → (ua ≡ 0) ⊎ (da ≡ 0) → (ub ≡ 0) ⊎ (db ≡ 0)
    → 0 < ((ub + da) - (ua + db)) - n → uy + dz ≡ uz + dy
up_nat_exact ua da ub db uz dz uy dy n e f g h i j k l lt = omega arith

down_nat : (ua da ub db uz dz uy dy n : ℕ) → uz ≡ (ua + 0) - (da + n) → dz ≡ (da + n) - (ua + 0) → uy ≡ min uz (2 ^ 63 - 1) → dy ≡ min dz (2 ^ 63) → ua < 2 ^ 63 → db ≤ 2 ^ 63 → (ua ≡ 0) ⊎ (da ≡ 0) → (ub ≡ 0) ⊎ (db ≡ 0)
    → (uy + db) - (ub + dy) ≡ ((ua + db) - (ub + da)) - n
down_nat ua da ub db uz dz uy dy n e f g h i j k l = omega arith

down_nat_exact : (ua da ub db uz dz uy dy n : ℕ) → uz ≡ (ua + 0) - (da + n) → dz ≡ (da + n) - (ua + 0) → uy ≡ min uz (2 ^ 63 - 1) → dy ≡ min dz (2 ^ 63) → ua < 2 ^ 63 → db ≤ 2 ^ 63 → (ua ≡ 0) ⊎ (da ≡ 0) → (ub ≡ 0) ⊎ (db ≡ 0)
    → 0 < ((ua + db) - (ub + da)) - n → uy + dz ≡ uz + dy
down_nat_exact ua da ub db uz dz uy dy n e f g h i j k l lt = omega arith

-- how far the end is ahead, in the direction of the steps
abbrev pub ahead : ℤ → ℤ → ℤ → ℕ
ahead (pos n) a b = up (b +ℤ neg_ℤ a)
ahead (negsuc n) a b = up (a +ℤ neg_ℤ b)

-- the next number is a step nearer to the end
nearer : (a b s : ℤ) → mag a < 2 ^ 63 → mag b < 2 ^ 63 → ahead s (saturate_signed w64 (a +ℤ s)) b ≡ ahead s a b - unsigned_abs s
nearer a b (pos n) ha hb =
    let z : ℤ = a +ℤ pos n in
    let y : ℤ = saturate_signed w64 z in
    diff b y ∙ up_nat (up a) (down a) (up b) (down b) (up z) (down z) (up y) (down y) n (sum_up a (pos n)) (sum_down a (pos n)) (nearest z).0 (nearest z).1 (bounds b hb).0 (bounds a ha).1 (one_zero a) (one_zero b)
    ∙ ap (λ (m : ℕ). m - n) (sym (diff b a))
nearer a b (negsuc n) ha hb =
    let z : ℤ = a +ℤ negsuc n in
    let y : ℤ = saturate_signed w64 z in
    diff y b ∙ down_nat (up a) (down a) (up b) (down b) (up z) (down z) (up y) (down y) (suc n) (sum_up a (negsuc n)) (sum_down a (negsuc n)) (nearest z).0 (nearest z).1 (bounds a ha).0 (bounds b hb).1 (one_zero a) (one_zero b)
    ∙ ap (λ (m : ℕ). m - suc n) (sym (diff a b))

-- where it lies before the end, it is exact
exact : (a b s : ℤ) → mag a < 2 ^ 63 → mag b < 2 ^ 63 → 0 < ahead s a b - unsigned_abs s → saturate_signed w64 (a +ℤ s) ≡ a +ℤ s
exact a b (pos n) ha hb lt =
    let z : ℤ = a +ℤ pos n in
    let y : ℤ = saturate_signed w64 z in
    same_in y z (up_nat_exact (up a) (down a) (up b) (down b) (up z) (down z) (up y) (down y) n (sum_up a (pos n)) (sum_down a (pos n)) (nearest z).0 (nearest z).1 (bounds b hb).0 (bounds a ha).1 (one_zero a) (one_zero b)
    (omega (arith, lt, diff b a)))
exact a b (negsuc n) ha hb lt =
    let z : ℤ = a +ℤ negsuc n in
    let y : ℤ = saturate_signed w64 z in
    same_in y z (down_nat_exact (up a) (down a) (up b) (down b) (up z) (down z) (up y) (down y) (suc n) (sum_up a (negsuc n)) (sum_down a (negsuc n)) (nearest z).0 (nearest z).1 (bounds a ha).0 (bounds b hb).1 (one_zero a) (one_zero b)
    (omega (arith, lt, diff a b)))

-- ---- a range number by number

len_ahead : (a b s : ℤ) → range_len a b s ≡ steps_in (ahead s a b) (unsigned_abs s)
len_ahead a b (pos n) = ap (λ (d : ℕ). steps_in d n) (whole-up (b -ℤ a))
len_ahead a b (negsuc n) = ap (λ (d : ℕ). steps_in d (suc n)) (whole-up (a -ℤ b))

some_size : (s : ℤ) → is_zero s ≡ false → 0 < unsigned_abs s
some_size (pos zero) h = absurd (let e : true ≡ false = h in cc)
some_size (pos (suc n)) h = omega arith
some_size (negsuc n) h = omega arith

suc_same : (m n : ℕ) → suc m ≡ suc n → m ≡ n
suc_same m n e = omega (arith, e)

-- the numbers that are left are one less
pub one_passed : (a b s : ℤ) (m : ℕ) → is_zero s ≡ false → mag a < 2 ^ 63 → mag b < 2 ^ 63 → range_len a b s ≡ suc m → range_len (saturate_signed w64 (a +ℤ s)) b s ≡ m
one_passed a b s m h ha hb e =
    let n : ℕ = unsigned_abs s in
    let lt : 0 < n = some_size s h in
    let k : steps_in (ahead s a b) n ≡ suc m = sym (len_ahead a b s) ∙ e in
    len_ahead (saturate_signed w64 (a +ℤ s)) b s ∙ ap (λ (d : ℕ). steps_in d n) (nearer a b s ha hb)
    ∙ suc_same (steps_in (ahead s a b - n) n) m (sym (steps_next (ahead s a b) n lt (some_distance (ahead s a b) n m lt k)) ∙ k)

stepped_zero : (a s : ℤ) → stepped 0 a s ≡ []
unfolding stepped
stepped_zero a s = refl

stepped_suc : (m : ℕ) (a s : ℤ) → stepped (suc m) a s ≡ number a ∷ stepped m (a +ℤ s) s
unfolding stepped
stepped_suc m a s = refl

rest_of : (a b s : ℤ) (m : ℕ) → is_zero s ≡ false → mag a < 2 ^ 63 → mag b < 2 ^ 63 → range_len (saturate_signed w64 (a +ℤ s)) b s ≡ m → stepped m (a +ℤ s) s ≡ stepped m (saturate_signed w64 (a +ℤ s)) s
rest_of a b s zero h ha hb e = stepped_zero (a +ℤ s) s ∙ sym (stepped_zero (saturate_signed w64 (a +ℤ s)) s)
rest_of a b s (suc m) h ha hb e =
    let n : ℕ = unsigned_abs s in
    let k : steps_in (ahead s a b - n) n ≡ suc m = ap (λ (d : ℕ). steps_in d n) (sym (nearer a b s ha hb)) ∙ sym (len_ahead (saturate_signed w64 (a +ℤ s)) b s) ∙ e in
    ap (λ (z : ℤ). stepped (suc m) z s) (sym (exact a b s ha hb (some_distance (ahead s a b - n) n m (some_size s h) k)))

-- a number, and those that are left
pub one_number : (a b s : ℤ) (m : ℕ) → is_zero s ≡ false → mag a < 2 ^ 63 → mag b < 2 ^ 63 → range_len a b s ≡ suc m → stepped (suc m) a s ≡ number a ∷ stepped m (saturate_signed w64 (a +ℤ s)) s
one_number a b s m h ha hb e = stepped_suc m a s ∙ ap (λ (l : List Value). number a ∷ l) (rest_of a b s m h ha hb (one_passed a b s m h ha hb e))

-- a number more in a list, and those that are left
pub number_pushed : (a y b s : ℤ) (n i : ℕ) (items new : List JxValue) (whole_list : List Value) → is_zero s ≡ false → mag a < 2 ^ 63 → mag b < 2 ^ 63 → i < n → y ≡ saturate_signed w64 (a +ℤ s) → range_len a b s ≡ n - i
    → new ≡ items ++ value.Number a ∷ [] → map plain items ++ stepped (n - i) a s ≡ whole_list → (range_len y b s ≡ n - (i + 1)) × (map plain new ++ stepped (n - (i + 1)) y s ≡ whole_list)
number_pushed a y b s n i items new whole_list h ha hb lt next left push inv =
    let m : ℕ = n - (i + 1) in
    let more : n - i ≡ suc m = omega (arith, lt) in (
      ap (λ (z : ℤ). range_len z b s) next ∙ one_passed a b s m h ha hb (left ∙ more),
      ap (λ (l : List JxValue). map plain l ++ stepped m y s) push ∙ ap (λ (l : List Value). l ++ stepped m y s) (map-append plain items (value.Number a ∷ []) ∙ ap (λ (v : Value). map plain items ++ v ∷ []) (plain-number a))
          ∙ append_assoc (map plain items) (number a ∷ []) (stepped m y s) ∙ ap (λ (z : ℤ). map plain items ++ number a ∷ stepped m z s) next
          ∙ ap (λ (l : List Value). map plain items ++ l) (sym (ap (λ (k : ℕ). stepped k a s) more ∙ one_number a b s m h ha hb (left ∙ more))) ∙ inv,
    )

-- no number more
pub all_pushed : (at : ℕ) (a b s y : ℤ) (n i : ℕ) (items rows : List JxValue) → is_zero s ≡ false → n ≡ range_len a b s → nat_le n 1000000 ≡ true → n ≤ i → rows ≡ items
    → map plain items ++ stepped (n - i) y s ≡ stepped n a s → ranged at a b s ≡ Ok (plain (value.List rows))
all_pushed at a b s y n i items rows h len fits le same inv =
    let none : n - i ≡ 0 = omega (arith, le) in
    let all : map plain rows ≡ stepped n a s = ap (map plain) same ∙ sym (append-nil (map plain items)) ∙ ap (λ (l : List Value). map plain items ++ l) (sym (ap (λ (k : ℕ). stepped k y s) none ∙ stepped_zero y s)) ∙ inv in
    let t : nat_le (range_len a b s) 1000000 ≡ true = ap (λ (k : ℕ). nat_le k 1000000) (sym len) ∙ fits in
    ap (λ (z : Bool). if z then Err (ZeroDivisor at) else ranged_if (nat_le (range_len a b s) 1000000) at (range_len a b s) a s) h
    ∙ ap (λ (z : Bool). ranged_if z at (range_len a b s) a s) t
    ∙ ap (λ (l : List Value). Ok (list (values l))) (ap (λ (k : ℕ). stepped k a s) (sym len) ∙ sym all) ∙ ap Ok (sym (plain-list rows))

pub ruleset ranges = (range_up, range_down)
