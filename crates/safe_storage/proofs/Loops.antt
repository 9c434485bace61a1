-- Loops over rules, files and ports.
use Rattle.std.proofs.Common.{◌≡◌, ℕ, zero, suc, ◌+◌, ◌*◌, ◌≤◌, ◌<◌, Bool, true, false, cond, List}
use Rattle.std.proofs.Common.{[], ◌∷◌, length, get_or, drop, refl, ap, sym, subst, ◌∙◌, arith}
use Rattle.std.specs.Prelude.{nat_lt, is_some, slice_index_or, sum_by}
use Rattle.std.specs.List.{range_with_len}
use Rattle.std.proofs.lemmas.Bool.{ltb-true, ltb-false}
use Rattle.std.proofs.lemmas.List.{get_or_past}
use Rattle.flow_types.specs.declared.plan.Plan.{Plan}
use Rattle.flow_types.specs.declared.plan.Port.{Port}
use Rattle.flow_types.specs.Plans.{IsValid, file_numbers, files_of, made_files, maker_of}
use Rattle.flow_types.specs.Plans.{most_inputs}
use Rattle.flow_types.specs.Plans.{takes}
use Rattle.flow_types.proofs.Totals.{total, total-filter, total-is}
use Rattle.gc_refcount.specs.Counting.{open_ports, times}
use Rattle.gc_refcount.proofs.Changing.{total-more}
use Rattle.gc_refcount.proofs.Ports.{ports-from, takes-most}
use Rattle.safe_storage.specs.declared.stand.Phase.{Phase}
use Rattle.safe_storage.specs.declared.stand.Phase.TheVariants as phase
use Rattle.safe_storage.specs.Counters.{counting, is_complete_phase, is_marked, phase_at}

-- what holds below n and from there on holds of all
pub below-or-past : (Q : ℕ → Type 0) (n : ℕ) → ((r : ℕ) → r < n → Q r)
    → ((r : ℕ) → n ≤ r → Q r) → (r : ℕ) → Q r
below-or-past Q n below past r = by_less (nat_lt r n) refl
  where
    by_less : (b : Bool) → nat_lt r n ≡ b → Q r
    by_less true is = below r (ltb-true r n is)
    by_less false is = past r (ltb-false r n is)

-- the marks of all rules, from those below the number of phases
pub marks-all : (over : List Bool) (phases : List Phase) (n : ℕ) → length over ≡ length phases
    → length phases ≤ n
    → ((r : ℕ) → r < n → is_marked over r ≡ is_complete_phase (phase_at phases r))
    → (r : ℕ) → is_marked over r ≡ is_complete_phase (phase_at phases r)
marks-all over phases n same long below =
    below-or-past (λ r. is_marked over r ≡ is_complete_phase (phase_at phases r)) n below
    (λ r past. get_or_past over r false (omega (arith, same, long, past))
    ∙ sym (ap is_complete_phase (get_or_past phases r phase.Open (omega (arith, long, past)))))

-- all counts are 0, where those below their number are
pub zero-all : (counts : List ℕ) (n : ℕ) → length counts ≤ n
    → ((f : ℕ) → f < n → slice_index_or counts f 0 ≡ 0) → (f : ℕ) → slice_index_or counts f 0 ≡ 0
zero-all counts n long below =
    below-or-past (λ f. slice_index_or counts f 0 ≡ 0) n below
    (λ f past. get_or_past counts f 0 (omega (arith, long, past)))

-- the sum over the first numbers, and how large it is at most
pub record IsSummedTo (g : ℕ → ℕ) (most i sum : ℕ) : Type 0 where
  pub is : sum ≡ total g (range_with_len 0 i)
  pub small : sum ≤ i * most

pub summed-first : (g : ℕ → ℕ) (most : ℕ) → IsSummedTo g most 0 0
summed-first g most = record { is = refl; small = omega arith }

pub summed-step : (g : ℕ → ℕ) (most i sum more : ℕ) → more ≡ g i → more ≤ most
    → IsSummedTo g most i sum → IsSummedTo g most (i + 1) (sum + more)
summed-step g most i sum more here few done =
    let last : g (0 + i) ≡ g i = ap g (let same : 0 + i ≡ i = omega arith in same) in
    let product : (i + 1) * most ≡ i * most + most = grind arith in
    record {
      is = omega (arith, done.is, total-more g 0 i, last, here);
      small = omega (arith, done.small, few, product);
    }

-- the sum over the ports before place i, by what is left
pub record IsAddedTo (g : ℕ → ℕ) (most : ℕ) (ports : List Port) (i sum : ℕ) : Type 0 where
  pub is : sum + total g (files_of (drop i ports)) ≡ total g (files_of ports)
  pub small : sum ≤ i * most

pub added-first : (g : ℕ → ℕ) (most : ℕ) (ports : List Port) → IsAddedTo g most ports 0 0
added-first g most ports = record { is = omega arith; small = omega arith }

pub added-step : (g : ℕ → ℕ) (most : ℕ) (ports : List Port) (i sum more : ℕ) (port : Port)
    → i < length ports → get_or ports i port ≡ port → more ≡ g port.file.0 → more ≤ most
    → IsAddedTo g most ports i sum → IsAddedTo g most ports (i + 1) (sum + more)
added-step g most ports i sum more port inside here same few done =
    let front : total g (files_of (drop i ports))
    ≡ total g (port.file.0 ∷ files_of (drop (i + 1) ports)) =
    ap (total g) (ports-from ports i port inside here) in
    let product : (i + 1) * most ≡ i * most + most = grind arith in
    record {
      is = omega (arith, done.is, front, same);
      small = omega (arith, done.small, few, product);
    }

drop_end : (ports : List Port) (i : ℕ) → length ports ≤ i → drop i ports ≡ []
drop_end [] zero past = refl
drop_end [] (suc i) past = refl
drop_end (p ∷ ps) zero past = absurd (let none : ⊥ = omega (arith, past) in none)
drop_end (p ∷ ps) (suc i) past = drop_end ps i (omega (arith, past))

pub added-last : (g : ℕ → ℕ) (most : ℕ) (ports : List Port) (i sum : ℕ) → length ports ≤ i
    → IsAddedTo g most ports i sum → sum ≡ total g (files_of ports)
added-last g most ports i sum past done =
    let none : total g (files_of (drop i ports)) ≡ 0 =
    ap (λ (ps : List Port). total g (files_of ps)) (drop_end ports i past) in
    omega (arith, done.is, none)

-- the sum over all rules, or all files
pub summed-all : (g : ℕ → ℕ) (most i n sum : ℕ) → i ≡ n → IsSummedTo g most i sum
    → sum ≡ sum_by g (range_with_len 0 n)
summed-all g most i n sum all done =
    done.is ∙ ap (λ k. total g (range_with_len 0 k)) all ∙ total-is g (range_with_len 0 n)

-- the sum over the files that rules make
pub summed-made : (P : Plan) (g : ℕ → ℕ) (most i sum : ℕ) → i ≡ length P.files
    → IsSummedTo (λ f. cond (is_some (maker_of P f)) (g f) 0) most i sum
    → sum ≡ sum_by g (made_files P)
summed-made P g most i sum all done =
    done.is
    ∙ ap (λ k. total (λ f. cond (is_some (maker_of P f)) (g f) 0) (range_with_len 0 k)) all
    ∙ sym (total-filter g (λ f. is_some (maker_of P f)) (file_numbers P))
    ∙ total-is g (made_files P)

open_few : (b : Bool) (n most : ℕ) → n ≤ most → cond b 0 n ≤ most
open_few true n most le = omega arith
open_few false n most le = le

-- the counts once the ports of one rule more are counted
pub opened-step : (P : Plan) (over : List Bool) (f i count more : ℕ) → IsValid P
    → more ≡ count + open_ports (counting P over) f i
    → IsSummedTo (open_ports (counting P over) f) most_inputs i count
    → IsSummedTo (open_ports (counting P over) f) most_inputs (i + 1) more
opened-step P over f i count more valid is done =
    let few : open_ports (counting P over) f i ≤ most_inputs =
    open_few (is_marked over i) (times f (takes P i)) most_inputs (takes-most P f i valid) in
    subst (IsSummedTo (open_ports (counting P over) f) most_inputs (i + 1)) (sym is)
    (summed-step (open_ports (counting P over) f) most_inputs i count
    (open_ports (counting P over) f i) refl few done)
