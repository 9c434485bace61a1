-- From an empty part the walk is that of the peak.
use Rattle.std.proofs.Common.{◌≡◌, ℕ, ◌≤◌, Bool, true, false, cond, not, ◌&&◌, List, [], ◌∷◌}
use Rattle.std.proofs.Common.{Option, Some, None, refl, ap, sym, ◌∙◌, arith, true≢false}
use Rattle.std.specs.Prelude.{nat_le, is_some}
use Rattle.std.specs.List.{list_any}
use Rattle.std.specs.Option.{option_map_or}
use Rattle.std.proofs.lemmas.Bool.{leb-true, le-leb, and_parts}
use Rattle.std.proofs.Math.Nat.{le-max_left, le-max_right, max-le}
use Rattle.flow_types.specs.declared.plan.Plan.{Plan}
use Rattle.flow_types.specs.declared.records.Record.{Record}
use Rattle.flow_types.specs.Plans.{makes, maker_of}
use Rattle.run_history.specs.History.{part, last_said}
use Rattle.run_history.specs.States.{outs_of, outs_in, drops}
use Rattle.run_history.specs.Storage.{is_complete}
use Rattle.run_history.proofs.Bools.{both}
use Rattle.run_history.proofs.Steps.{complete-is}
use Rattle.run_history.proofs.Stores.{made_bytes, weight}
use Rattle.safe_walks.specs.Walk.{starts, was_started, standing, blank, greatest, peak, walk}
use Rattle.safe_walks.specs.Safe.{is_safe}
use Rattle.safe_walks.proofs.Walks.{IsLess, is-less, less-within, made_size, all_within}
use Rattle.safe_walks.proofs.Records.{size-is}

pub greatest_within : (vs : List ℕ) (limit : ℕ) → all_within limit vs ≡ true → greatest vs ≤ limit
greatest_within [] limit within = omega arith
greatest_within (v ∷ vs) limit within =
    let parts = and_parts (nat_le v limit) (all_within limit vs) within in
    max-le (leb-true v limit parts.0) (greatest_within vs limit parts.1)

pub within_greatest : (vs : List ℕ) (limit : ℕ) → greatest vs ≤ limit → all_within limit vs ≡ true
within_greatest [] limit le = refl
within_greatest (v ∷ vs) limit le =
    both (nat_le v limit) (all_within limit vs)
    (le-leb v limit (omega (arith, le, le-max_left v (greatest vs))))
    (within_greatest vs limit (omega (arith, le, le-max_right v (greatest vs))))

pub same_truth : (a b : Bool) → (a ≡ true → b ≡ true) → (b ≡ true → a ≡ true) → a ≡ b
same_truth true b to from = sym (to refl)
same_truth false true to from = from refl
same_truth false false to from = refl

no_outs : (H : List Record) (r : ℕ) → part H ≡ [] → outs_of H r ≡ None
no_outs H r empty = ap (last_said (outs_in r)) empty

none_complete : (H : List Record) (r : ℕ) → part H ≡ [] → is_complete H r ≡ false
none_complete H r empty = complete-is H r ∙ ap is_some (no_outs H r empty)

none_started : (H : List Record) (r : ℕ) → part H ≡ [] → was_started H r ≡ false
none_started H r empty = ap (list_any (starts r)) empty

no_weight : (P : Plan) (H : List Record) (f : ℕ) (maker : Option ℕ) → ((r : ℕ) → outs_of H r ≡ None)
    → option_map_or (λ r. made_bytes f (makes P r) (outs_of H r) (list_any (drops f) (part H)))
    maker 0 ≤ 0
no_weight P H f None none = omega arith
no_weight P H f (Some r) none = rw (none r) (let zeros : 0 ≤ 0 = omega arith in zeros)

no_claim : (c s : Bool) → s ≡ false → (not c && s) ≡ true → ⊥
no_claim true s none claimed = true≢false (sym claimed)
no_claim false s none claimed = true≢false (sym claimed ∙ none)

is_new : (c s : Bool) → c ≡ false → s ≡ false → (not c && not (not c && s)) ≡ true
is_new true s undone none = absurd (true≢false undone)
is_new false s undone none = ap not none

blank-less : (P : Plan) (H : List Record) → part H ≡ [] → IsLess P blank (standing P H)
blank-less P H empty =
    is-less P blank (standing P H)
    (λ r complete. absurd (true≢false (sym complete)))
    (λ r still claimed. absurd
    (no_claim (is_complete H r) (was_started H r) (none_started H r empty) claimed))
    (λ f. let none : weight P H f ≤ 0 = no_weight P H f (maker_of P f) (λ r. no_outs H r empty)
    in omega (arith, none, size-is P H f))
    (λ r adds. refl)

less-blank : (P : Plan) (H : List Record) → part H ≡ [] → IsLess P (standing P H) blank
less-blank P H empty =
    is-less P (standing P H) blank
    (λ r complete. absurd (true≢false (sym complete ∙ none_complete H r empty)))
    (λ r still claimed. absurd (true≢false (sym claimed)))
    (λ f. nothing (is_some (maker_of P f)) (made_size P (standing P H) f))
    (λ r adds. is_new (is_complete H r) (was_started H r) (none_complete H r empty)
    (none_started H r empty))
  where
    nothing : (b : Bool) (n : ℕ) → cond b 0 0 ≤ n
    nothing true n = omega arith
    nothing false n = omega arith

-- From an empty part the walk stays within a limit exactly where the peak is at most the limit.
pub peak-walked : (P : Plan) (H : List Record) (limit : ℕ) → part H ≡ [] → is_safe P H limit
    ≡ nat_le (peak P) limit
peak-walked P H limit empty =
    same_truth (is_safe P H limit) (nat_le (peak P) limit)
    (λ safe. le-leb (peak P) limit
    (greatest_within (walk P blank) limit
    (less-within P (standing P H) blank limit (less-blank P H empty) safe)))
    (λ le. less-within P blank (standing P H) limit (blank-less P H empty)
    (within_greatest (walk P blank) limit (leb-true (peak P) limit le)))
