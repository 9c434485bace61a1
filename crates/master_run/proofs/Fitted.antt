-- Rules that need no more than there is.
use Rattle.std.proofs.Common.{◌≡◌, ◌<◌, ◌+◌, ◌∙◌, ℕ, zero, suc, Bool, true, false, not, ◌&&◌, ◌||◌, List, [], ◌∷◌, length, Option, Some, None, refl, sym, ap, arith, if◌then◌else◌}
use Rattle.std.specs.Prelude.{nat_le, nat_lt, slice_get}
use Rattle.std.specs.Option.{option_map_or}
use Rattle.std.proofs.lemmas.Bool.{le-leb, ltb-false}
use Rattle.flow_types.specs.declared.numbers.Amounts.{Amounts}
use Rattle.flow_types.specs.declared.numbers.Needs.{Needs}
use Rattle.flow_types.specs.declared.numbers.Needs.TheVariants.{Whole, Stated}
use Rattle.flow_types.specs.declared.plan.Plan.{Plan}
use Rattle.flow_types.specs.declared.plan.Rule.{Rule}
use Rattle.rule_graph.specs.Faults.{or_else}
use Rattle.run_history.specs.declared.options.Options.{Options}
use Rattle.run_history.specs.Links.{amounts_on, is_at_most, is_local_rule}
use Rattle.local_run.specs.Ends.{FitsHere}
use Rattle.wq_run.specs.Vain.{NeedsAtMost}
use Rattle.master_run.specs.declared.needs.Excess.{Excess}
use Rattle.master_run.specs.Needs.{NeedsFit, StatesAtMost, exceeds, excess_among, excess_of, here_excess, rule_excess, runs_here, taken_here}

taken_so : (total : Amounts) (needs : Needs) → amounts_on 0 total needs ≡ taken_here needs
taken_so total Whole = refl
taken_so total (Stated amounts) = refl

some_is_none : {A : Type 0} {B : Type 0} (x : A) → (let none : Option A = None in Some x ≡ none) → B
some_is_none x wrong = absurd (cc)

by_test : (b : Bool) (r need total : ℕ) (rest : Option Excess) → (if b then exceeds r need total else rest) ≡ None → (b ≡ false) × (rest ≡ None)
by_test true r need total rest is = some_is_none _ is
by_test false r need total rest is = (refl, is)

all_three : (a b c : Bool) → a ≡ true → b ≡ true → c ≡ true → (a && b && c) ≡ true
all_three a b c is_a is_b is_c = ap (λ t. t && b && c) is_a ∙ ap (λ t. t && c) is_b ∙ is_c

within : (r : ℕ) (need total : Amounts) → rule_excess r need total ≡ None → is_at_most need total ≡ true
within r need total none =
    let cores = by_test (nat_lt total.cores need.cores) r need.cores total.cores _ none in
    let memory = by_test (nat_lt total.memory need.memory) r need.memory total.memory _ cores.1 in
    let disk = by_test (nat_lt total.disk need.disk) r need.disk total.disk _ memory.1 in
    all_three (nat_le need.cores total.cores) (nat_le need.memory total.memory) (nat_le need.disk total.disk)
    (le-leb need.cores total.cores (ltb-false total.cores need.cores cores.0)) (le-leb need.memory total.memory (ltb-false total.memory need.memory memory.0)) (le-leb need.disk total.disk (ltb-false total.disk need.disk disk.0))

first_none : {A : Type 0} (first rest : Option A) → or_else first rest ≡ None → (first ≡ None) × (rest ≡ None)
first_none None rest none = (refl, none)
first_none (Some x) rest none = some_is_none x none

-- a rule that runs here is asked
here_none : (O : Options) (r : ℕ) (rule : Rule) → runs_here O rule ≡ true → here_excess O r rule ≡ None → rule_excess r (taken_here rule.needs) O.local ≡ None
here_none O r rule runs none = sym (ap (λ (b : Bool). if b then rule_excess r (taken_here rule.needs) O.local else None) runs) ∙ none

pub all_fit : (O : Options) (rules : List Rule) (first : ℕ) → excess_among O first rules ≡ None → (r : ℕ) → r < length rules
    → (option_map_or (λ (rule : Rule). rule.local) (slice_get rules r) false || not O.wq) ≡ true
    → is_at_most (amounts_on 0 O.local (option_map_or (λ (rule : Rule). rule.needs) (slice_get rules r) Whole)) O.local ≡ true
all_fit O [] first none r inside runs = absurd (let wrong : ⊥ = omega (arith, inside) in wrong)
all_fit O (rule ∷ rules) first none zero inside runs =
    let parts = first_none (excess_of O first rule) _ none in
    let needs = first_none (here_excess O first rule) _ parts.0 in
    ap (λ (a : Amounts). is_at_most a O.local) (taken_so O.local rule.needs) ∙ within first (taken_here rule.needs) O.local (here_none O first rule runs needs.0)
all_fit O (rule ∷ rules) first none (suc r) inside runs =
    let parts = first_none (excess_of O first rule) _ none in
    all_fit O rules (first + 1) parts.1 r (omega (arith, inside)) runs

-- Where all rules run here none needs more than there is.
pub fits_here : (P : Plan) (O : Options) → NeedsFit O P → O.wq ≡ false → FitsHere P O
fits_here P O fit alone = record {
  here = alone;
  needs = λ r inside. fit r inside (ap (λ (b : Bool). is_local_rule P r || not b) alone ∙ either (is_local_rule P r));
}
  where
    either : (b : Bool) → (b || not false) ≡ true
    either true = refl
    either false = refl

-- Over a hall that is manned for what rules state that run at workers, none needs more than there is.
pub at_most : (P : Plan) (O : Options) (least : Amounts) → NeedsFit O P → StatesAtMost O least P → NeedsAtMost P O least
at_most P O least fit stated = record { here = fit; there = stated }
