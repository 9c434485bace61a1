-- All marked files are counted.
use Rattle.std.proofs.Common.{◌≡◌, ℕ, ◌+◌, ◌*◌, ◌/◌, ◌<◌, ◌≤◌, Bool, true, false, cond, List, length, Option, None, refl, ap, sym, ◌∙◌, arith, true≢false}
use mathlib.Core.Bool.{beq}
use Rattle.std.specs.Prelude.{◌==◌, find, replicate, slice_index_or, slice_set, sum_by}
use Rattle.std.specs.List.{range_with_len}
use Rattle.std.proofs.lemmas.List.{get_or-set_same, get_or-set_other, length-set}
use Rattle.flow_types.specs.Plans.{most_files, numbers}
use Rattle.flow_types.proofs.Totals.{total, total-is, total-le, at_place, place-inside}
use Rattle.gc_refcount.specs.Marks.{AreBlocks, AreCounted, Marking, is_marked, mark, marked_files}
use Rattle.gc_refcount.proofs.Blocks.{as_number, at-most-one, find-nothing, marked-place, marked_as, none-at, same-at}
use Rattle.gc_refcount.proofs.Changing.{same-item, total-changed, total-most}

all_is : (M : Marking) (count : ℕ) → AreCounted M count → count ≡ total (mark M) (range_with_len 0 (length M.marks))
all_is M count are = are.all ∙ sym (total-is (mark M) (range_with_len 0 (length M.marks)))

-- where none is counted, none is marked
pub none-marked : (M : Marking) → AreCounted M 0 → None ≡ find (is_marked M) (numbers (length M.marks))
none-marked M are = sym (find-nothing (is_marked M) 0 (length M.marks) (none-at M 0 (length M.marks) (sym (all_is M 0 are))))

-- one more may be counted
room : (M : Marking) (count : ℕ) → AreCounted M count → count ≤ most_files
room M count are =
    let most : total (mark M) (range_with_len 0 (length M.marks)) ≤ length M.marks * 1 = total-most (mark M) 1 0 (length M.marks) (λ x. at-most-one (is_marked M x)) in
    omega (arith, most, all_is M count are, are.blocks.few)

-- a marked file is counted
some : (M : Marking) (f count : ℕ) → f < length M.marks → is_marked M f ≡ true → AreCounted M count → 1 ≤ count
some M f count inside marked are =
    let one : 1 ≤ total (at_place 1 f) (range_with_len 0 (length M.marks)) = place-inside 1 f 0 (length M.marks) (omega arith) (omega (arith, inside)) in
    let le : total (at_place 1 f) (range_with_len 0 (length M.marks)) ≤ total (mark M) (range_with_len 0 (length M.marks)) =
    total-le (at_place 1 f) (mark M) (range_with_len 0 (length M.marks)) (λ x. marked-place M f x (f == x) refl marked) in
    omega (arith, one, le, all_is M count are)

-- the count by the mark that was read
pub read-count : (M : Marking) (f count : ℕ) (was v : Bool) → f < length M.marks → was ≡ slice_index_or M.marks f was → beq was v ≡ false → AreCounted M count
    → (v ≡ true → count ≤ most_files) × (v ≡ false → 1 ≤ count) × ((next : ℕ) → next + cond v 0 1 ≡ count + as_number v → next + mark M f ≡ count + as_number v)
read-count M f count was v inside read other are = by_mark was v (read ∙ same-item M.marks f was false inside) other
  where
    by_mark : (w u : Bool) → w ≡ slice_index_or M.marks f false → beq w u ≡ false
        → (u ≡ true → count ≤ most_files) × (u ≡ false → 1 ≤ count) × ((next : ℕ) → next + cond u 0 1 ≡ count + as_number u → next + mark M f ≡ count + as_number u)
    by_mark true true is other = absurd (true≢false other)
    by_mark true false is other = (
      λ h. absurd (true≢false (sym h)),
      λ h. some M f count inside (sym is) are,
      λ next sum. let one : mark M f ≡ 1 = ap as_number (sym is) in omega (arith, sum, one),
    )
    by_mark false true is other = (
      λ h. room M count are,
      λ h. absurd (true≢false h),
      λ next sum. let one : mark M f ≡ 0 = ap as_number (sym is) in omega (arith, sum, one),
    )
    by_mark false false is other = absurd (true≢false other)

-- all of them after a file was marked or not
pub count-step : (M : Marking) (f block count next : ℕ) (v : Bool) → f < length M.marks → next + mark M f ≡ count + as_number v → AreCounted M count → AreBlocks (marked_as M f v block) → AreCounted (marked_as M f v block) next
count-step M f block count next v inside counted are blocks =
    let N : Marking = marked_as M f v block in
    let changed : total (mark N) (range_with_len 0 (length M.marks)) + mark M f ≡ total (mark M) (range_with_len 0 (length M.marks)) + mark N f =
    total-changed (mark N) (mark M) f 0 (length M.marks) (omega arith) (omega (arith, inside)) (λ x apart. ap as_number (get_or-set_other M.marks f x v false (λ same. apart (sym same)))) in
    let new : mark N f ≡ as_number v = ap as_number (get_or-set_same M.marks f v false inside) in
    let said : next ≡ total (mark N) (range_with_len 0 (length M.marks)) = omega (arith, changed, new, counted, all_is M count are) in
    record { blocks = blocks; all = said ∙ total-is (mark N) (range_with_len 0 (length M.marks)) ∙ ap (λ n. sum_by (mark N) (range_with_len 0 n)) (sym (length-set M.marks f v)) }

-- nothing is marked
pub count-blank : (M : Marking) (n : ℕ) → M.marks ≡ replicate n false → AreBlocks M → AreCounted M 0
count-blank M n marks blocks =
    let none : total (mark M) (range_with_len 0 (length M.marks)) ≤ length M.marks * 0 =
    total-most (mark M) 0 0 (length M.marks) (λ x. let unmarked_is : mark M x ≡ 0 = ap (λ (xs : List Bool). as_number (slice_index_or xs x false)) marks ∙ ap as_number (same-at n x false) in omega (arith, unmarked_is)) in
    record { blocks = blocks; all = omega (arith, none, total-is (mark M) (range_with_len 0 (length M.marks))) }
