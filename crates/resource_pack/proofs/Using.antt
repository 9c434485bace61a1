-- What loads take of a link, amount by amount.
use Rattle.std.proofs.Common.{◌≡◌, ◌≤◌, ◌+◌, ◌*◌, ◌∙◌, ℕ, zero, suc, Bool, true, false, cond, not, ◌&&◌, List, [], ◌∷◌, ◌++◌, length, refl, ap, sym, subst, true≢false, arith}
use Rattle.std.specs.Prelude.{◌==◌, fold, nat_le, nat_lt, sum_by}
use Rattle.std.proofs.lemmas.Bool.{and_parts, leb-true}
use Rattle.std.proofs.lemmas.List.Sums.{fold-append, sum_by-cons}
use Rattle.flow_types.specs.declared.numbers.Amounts.{Amounts}
use Rattle.flow_types.specs.declared.numbers.Needs.{Needs}
use Rattle.flow_types.specs.declared.numbers.Needs.TheVariants.{Whole, Stated}
use Rattle.flow_types.specs.Plans.{is_empty}
use Rattle.run_history.specs.Links.{LinkRow, Load, amounts_on, has_room, is_at_most, is_whole_link, leaves_amounts, leaves_bytes, no_amounts, one_core, taken_on, with_amounts}
use Rattle.resource_pack.specs.Packing.{is_load, without_load}
use Rattle.resource_pack.specs.Used.{IsUsable, beside, most_amount, wholes}

-- an amount of amounts: none of no amounts, and of two together the sum
pub record IsAmount (amount : Amounts → ℕ) : Type 0 where
  pub none : amount no_amounts ≡ 0
  pub both : (a b : Amounts) → amount (with_amounts a b) ≡ amount a + amount b

pub of-cores : IsAmount (λ a. a.cores)
of-cores = record { none = refl; both = λ a b. refl }

pub of-memory : IsAmount (λ a. a.memory)
of-memory = record { none = refl; both = λ a b. refl }

pub of-disk : IsAmount (λ a. a.disk)
of-disk = record { none = refl; both = λ a b. refl }

taken_from : (amount : Amounts → ℕ) (k : ℕ) (total acc : Amounts) (loads : List Load) → IsAmount amount
    → amount (fold (λ taken (load : Load). with_amounts taken (amounts_on k total load.needs)) acc loads) ≡ amount acc + sum_by (λ (load : Load). amount (amounts_on k total load.needs)) loads
taken_from amount k total acc [] is = let same : amount acc ≡ amount acc + 0 = omega arith in same
taken_from amount k total acc (load ∷ loads) is =
    let here : amount (with_amounts acc (amounts_on k total load.needs)) ≡ amount acc + amount (amounts_on k total load.needs) = is.both acc (amounts_on k total load.needs) in
    let rest = taken_from amount k total (with_amounts acc (amounts_on k total load.needs)) loads is in
    let sum = sum_by-cons (λ (x : Load). amount (amounts_on k total x.needs)) load loads in
    rest ∙ (let same : amount (with_amounts acc (amounts_on k total load.needs)) + sum_by (λ (x : Load). amount (amounts_on k total x.needs)) loads ≡ amount acc + sum_by (λ (x : Load). amount (amounts_on k total x.needs)) (load ∷ loads) = omega (arith, here, sum) in same)

abbrev count_of : ℕ → Needs → ℕ
count_of k needs = cond (is_whole_link k needs) 1 0

one_split : (amount : Amounts → ℕ) (k : ℕ) (total : Amounts) (needs : Needs) → IsAmount amount → amount (amounts_on k total needs) ≡ amount (amounts_on k no_amounts needs) + count_of k needs * amount total
one_split amount k total (Stated a) is = let same : amount a ≡ amount a + 0 * amount total = grind arith in same
one_split amount k total Whole is = by_place (k == 0)
  where
    by_place : (b : Bool) → amount (cond b one_core total) ≡ amount (cond b one_core no_amounts) + cond (not b) 1 0 * amount total
    by_place true = let same : amount one_core ≡ amount one_core + 0 * amount total = grind arith in same
    by_place false = let none : amount no_amounts ≡ 0 = is.none in let same : amount total ≡ amount no_amounts + 1 * amount total = omega (arith, none) in same

all_split : (amount : Amounts → ℕ) (k : ℕ) (total : Amounts) (loads : List Load) → IsAmount amount
    → sum_by (λ (load : Load). amount (amounts_on k total load.needs)) loads ≡ beside amount k loads + wholes k loads * amount total
all_split amount k total [] is = let same : 0 ≡ 0 + 0 * amount total = grind arith in same
all_split amount k total (load ∷ loads) is =
    let here = one_split amount k total load.needs is in
    let rest = all_split amount k total loads is in
    let all = sum_by-cons (λ (x : Load). amount (amounts_on k total x.needs)) load loads in
    let parts = sum_by-cons (λ (x : Load). amount (amounts_on k no_amounts x.needs)) load loads in
    let counts : wholes k (load ∷ loads) ≡ count_of k load.needs + wholes k loads = sum_by-cons (λ (x : Load). count_of k x.needs) load loads in
    let product : (count_of k load.needs + wholes k loads) * amount total ≡ count_of k load.needs * amount total + wholes k loads * amount total = grind arith in
    let whole : wholes k (load ∷ loads) * amount total ≡ (count_of k load.needs + wholes k loads) * amount total = ap (λ n. n * amount total) counts in
    omega (arith, here, rest, all, parts, product, whole)

-- an amount of what loads take of link k
pub taken-split : (amount : Amounts → ℕ) (k : ℕ) (total : Amounts) (loads : List Load) → IsAmount amount → amount (taken_on k total loads) ≡ beside amount k loads + wholes k loads * amount total
taken-split amount k total loads is =
    let none : amount no_amounts ≡ 0 = is.none in
    taken_from amount k total no_amounts loads is ∙ (let same : amount no_amounts + sum_by (λ (load : Load). amount (amounts_on k total load.needs)) loads ≡ beside amount k loads + wholes k loads * amount total = omega (arith, none, all_split amount k total loads is) in same)

within_by : (n rest most total : ℕ) → n ≤ 1 → rest ≤ most → total ≤ most → (n ≡ 1 → rest ≡ 0) → rest + n * total ≤ most
within_by zero rest most total few small fits alone = let none : zero * total ≡ 0 = grind arith in omega (arith, small, none)
within_by (suc zero) rest most total few small fits alone = let same : suc zero * total ≡ total = grind arith in let zero_is : rest ≡ 0 = alone refl in omega (arith, same, zero_is, fits)
within_by (suc (suc n)) rest most total few small fits alone = absurd (let wrong : ⊥ = omega (arith, few) in wrong)

-- what usable loads take of a link is no more than an amount can say
pub usable-small : (k : ℕ) (total : Amounts) (loads : List Load) → total.cores ≤ most_amount → total.memory ≤ most_amount → total.disk ≤ most_amount → IsUsable k loads
    → ((taken_on k total loads).cores ≤ most_amount) × ((taken_on k total loads).memory ≤ most_amount) × ((taken_on k total loads).disk ≤ most_amount)
usable-small k total loads cores memory disk is = (
  subst (λ n. n ≤ most_amount) (sym (taken-split (λ a. a.cores) k total loads of-cores)) (within_by (wholes k loads) _ most_amount total.cores is.few is.cores cores (λ one. (is.alone one).0)),
  subst (λ n. n ≤ most_amount) (sym (taken-split (λ a. a.memory) k total loads of-memory)) (within_by (wholes k loads) _ most_amount total.memory is.few is.memory memory (λ one. (is.alone one).1)),
  subst (λ n. n ≤ most_amount) (sym (taken-split (λ a. a.disk) k total loads of-disk)) (within_by (wholes k loads) _ most_amount total.disk is.few is.disk disk (λ one. (is.alone one).2)),
)

-- nothing runs
pub usable-none : (k : ℕ) → IsUsable k []
usable-none k = record { few = omega arith; cores = omega arith; memory = omega arith; disk = omega arith; alone = λ one. absurd (let wrong : ⊥ = omega (arith, one) in wrong) }

sum_push : (f : Load → ℕ) (loads : List Load) (load : Load) → sum_by f (loads ++ (load ∷ [])) ≡ sum_by f loads + f load
sum_push f loads load = fold-append (λ (n : ℕ) (x : Load). n + f x) 0 loads (load ∷ [])

none_runs : (loads : List Load) → is_empty loads ≡ true → loads ≡ []
none_runs [] none = refl
none_runs (x ∷ xs) none = absurd (true≢false (sym none))

-- the whole of link k, where nothing runs
whole_alone : (k : ℕ) (load : Load) → is_whole_link k load.needs ≡ true → IsUsable k (load ∷ [])
whole_alone k load whole = by_needs load.needs whole refl
  where
    by_place : (b : Bool) → not b ≡ true → (amount : Amounts → ℕ) → IsAmount amount → amount (cond b one_core no_amounts) ≡ 0
    by_place true wrong amount is = absurd (true≢false (sym wrong))
    by_place false apart amount is = is.none

    none_of : (needs : Needs) → is_whole_link k needs ≡ true → (amount : Amounts → ℕ) → IsAmount amount → amount (amounts_on k no_amounts needs) ≡ 0
    none_of Whole whole amount is = by_place (k == 0) whole amount is
    none_of (Stated a) wrong amount is = absurd (true≢false (sym wrong))

    by_needs : (needs : Needs) → is_whole_link k needs ≡ true → load.needs ≡ needs → IsUsable k (load ∷ [])
    by_needs needs whole same =
        let one : count_of k load.needs ≡ 1 = ap (λ (b : Bool). let n : ℕ = cond b 1 0 in n) (ap (is_whole_link k) same ∙ whole) in
        let cores : (amounts_on k no_amounts load.needs).cores ≡ 0 = none_of load.needs (ap (is_whole_link k) same ∙ whole) (λ a. a.cores) of-cores in
        let memory : (amounts_on k no_amounts load.needs).memory ≡ 0 = none_of load.needs (ap (is_whole_link k) same ∙ whole) (λ a. a.memory) of-memory in
        let disk : (amounts_on k no_amounts load.needs).disk ≡ 0 = none_of load.needs (ap (is_whole_link k) same ∙ whole) (λ a. a.disk) of-disk in
        record {
          few = omega (arith, one);
          cores = omega (arith, cores);
          memory = omega (arith, memory);
          disk = omega (arith, disk);
          alone = λ only. (omega (arith, cores), omega (arith, memory), omega (arith, disk));
        }

-- what is asked of a load that isn't a whole link
same_amounts : (k : ℕ) (total : Amounts) (needs : Needs) → is_whole_link k needs ≡ false → amounts_on k total needs ≡ amounts_on k no_amounts needs
same_amounts k total (Stated a) part = refl
same_amounts k total Whole part = by_place (k == 0) part
  where
    by_place : (b : Bool) → not b ≡ false → cond b one_core total ≡ cond b one_core no_amounts
    by_place true part = refl
    by_place false wrong = absurd (true≢false wrong)

fits_by : (amount : Amounts → ℕ) (k : ℕ) (total : Amounts) (loads : List Load) (load : Load) → IsAmount amount → is_whole_link k load.needs ≡ false
    → amount (with_amounts (taken_on k total loads) (amounts_on k total load.needs)) ≤ amount total → beside amount k (loads ++ (load ∷ [])) + wholes k loads * amount total ≤ amount total
fits_by amount k total loads load is part within =
    let both = is.both (taken_on k total loads) (amounts_on k total load.needs) in
    let taken = taken-split amount k total loads is in
    let here : amount (amounts_on k total load.needs) ≡ amount (amounts_on k no_amounts load.needs) = ap amount (same_amounts k total load.needs part) in
    let push = sum_push (λ (x : Load). amount (amounts_on k no_amounts x.needs)) loads load in
    omega (arith, both, taken, here, push, within)

small_by : (n rest most total : ℕ) → rest + n * total ≤ total → total ≤ most → rest ≤ most
small_by n rest most total within fits = omega (arith, within, fits)

alone_by : (n rest total : ℕ) → rest + n * total ≤ total → n ≡ 1 → rest ≡ 0
alone_by n rest total within one =
    let same : n * total ≡ total = ap (λ m. m * total) one ∙ (let once : 1 * total ≡ total = grind arith in once) in omega (arith, same, within)

-- one load more that fits beside usable ones
pub usable-more : (k : ℕ) (row : LinkRow) (loads : List Load) (load : Load) → row.total.cores ≤ most_amount → row.total.memory ≤ most_amount → row.total.disk ≤ most_amount
    → has_room k row loads load ≡ true → IsUsable k loads → IsUsable k (loads ++ (load ∷ []))
usable-more k row loads load cores memory disk room is =
    let amounts : leaves_amounts k row loads load.needs ≡ true =
    (and_parts (nat_lt (length loads) 64) (leaves_amounts k row loads load.needs) (and_parts (nat_lt (length loads) 64 && leaves_amounts k row loads load.needs) (leaves_bytes row.cache loads load.bytes) room).0).1 in
    by_whole (is_whole_link k load.needs) refl amounts
  where
    by_whole : (b : Bool) → is_whole_link k load.needs ≡ b
        → cond b (is_empty loads) (is_at_most (amounts_on k row.total load.needs) row.largest && is_at_most (with_amounts (taken_on k row.total loads) (amounts_on k row.total load.needs)) row.total) ≡ true
        → IsUsable k (loads ++ (load ∷ []))
    by_whole true whole left = subst (λ (ls : List Load). IsUsable k (ls ++ (load ∷ []))) (sym (none_runs loads left)) (whole_alone k load whole)
    by_whole false part left =
        let a : Amounts = with_amounts (taken_on k row.total loads) (amounts_on k row.total load.needs) in
        let within : is_at_most a row.total ≡ true = (and_parts (is_at_most (amounts_on k row.total load.needs) row.largest) (is_at_most a row.total) left).1 in
        let two = and_parts (nat_le a.cores row.total.cores && nat_le a.memory row.total.memory) (nat_le a.disk row.total.disk) within in
        let one = and_parts (nat_le a.cores row.total.cores) (nat_le a.memory row.total.memory) two.0 in
        let of_cores = fits_by (λ x. x.cores) k row.total loads load of-cores part (leb-true a.cores row.total.cores one.0) in
        let of_memory = fits_by (λ x. x.memory) k row.total loads load of-memory part (leb-true a.memory row.total.memory one.1) in
        let of_disk = fits_by (λ x. x.disk) k row.total loads load of-disk part (leb-true a.disk row.total.disk two.1) in
        let count : wholes k (loads ++ (load ∷ [])) ≡ wholes k loads = sum_push (λ (x : Load). count_of k x.needs) loads load ∙ (let zero_is : count_of k load.needs ≡ 0 = ap (λ (b : Bool). let n : ℕ = cond b 1 0 in n) part in let same : wholes k loads + count_of k load.needs ≡ wholes k loads = omega (arith, zero_is) in same) in
        record {
          few = omega (arith, count, is.few);
          cores = small_by (wholes k loads) _ most_amount row.total.cores of_cores cores;
          memory = small_by (wholes k loads) _ most_amount row.total.memory of_memory memory;
          disk = small_by (wholes k loads) _ most_amount row.total.disk of_disk disk;
          alone = λ only. (alone_by (wholes k loads) _ row.total.cores of_cores (sym count ∙ only), alone_by (wholes k loads) _ row.total.memory of_memory (sym count ∙ only), alone_by (wholes k loads) _ row.total.disk of_disk (sym count ∙ only));
        }

fewer_by : (f : Load → ℕ) (load : Load) (loads : List Load) → sum_by f (without_load load loads) ≤ sum_by f loads
fewer_by f load [] = omega arith
fewer_by f load (x ∷ xs) = by_test (is_load load x) (fewer_by f load xs)
  where
    by_test : (b : Bool) → sum_by f (without_load load xs) ≤ sum_by f xs → sum_by f (cond b xs (x ∷ without_load load xs)) ≤ sum_by f (x ∷ xs)
    by_test true rest = omega (arith, sum_by-cons f x xs)
    by_test false rest = omega (arith, rest, sum_by-cons f x xs, sum_by-cons f x (without_load load xs))

-- one load less
pub usable-less : (k : ℕ) (loads : List Load) (load : Load) → IsUsable k loads → IsUsable k (without_load load loads)
usable-less k loads load is =
    let count : wholes k (without_load load loads) ≤ wholes k loads = fewer_by (λ (x : Load). count_of k x.needs) load loads in
    let cores = fewer_by (λ (x : Load). (amounts_on k no_amounts x.needs).cores) load loads in
    let memory = fewer_by (λ (x : Load). (amounts_on k no_amounts x.needs).memory) load loads in
    let disk = fewer_by (λ (x : Load). (amounts_on k no_amounts x.needs).disk) load loads in
    record {
      few = omega (arith, count, is.few);
      cores = omega (arith, cores, is.cores);
      memory = omega (arith, memory, is.memory);
      disk = omega (arith, disk, is.disk);
      alone = λ only.
          let all : wholes k loads ≡ 1 = omega (arith, only, count, is.few) in
          let none = is.alone all in
          (omega (arith, cores, none.0), omega (arith, memory, none.1), omega (arith, disk, none.2));
    }
