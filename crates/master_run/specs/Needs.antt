-- What rules need, against what there is on this machine and in its storage.
use Rattle.std.specs.Prelude.{◌≡◌, ◌<◌, ◌||◌, Bool, true, false, not, length, ℕ, List, nat_lt, Option, Some, None, Result, Ok, Err, if◌then◌else◌}
use Rattle.std.specs.List.{enumerate_from}
use Rattle.flow_types.specs.declared.numbers.Amounts.{Amounts}
use Rattle.flow_types.specs.declared.numbers.Needs.{Needs}
use Rattle.flow_types.specs.declared.numbers.Needs.TheVariants.{Whole, Stated}
use Rattle.flow_types.specs.declared.plan.Plan.{Plan}
use Rattle.flow_types.specs.declared.plan.Rule.{Rule}
use Rattle.rule_graph.specs.Faults.{first_said, or_else}
use Rattle.links.specs.Honesty.{IsAtLeast}
use Rattle.run_history.specs.declared.options.Options.{Options}
use Rattle.run_history.specs.Links.{amounts_on, is_at_most, may_run_on, needs_of}
use Rattle.report.specs.declared.cause.Cause.{Cause}
use Rattle.report.specs.declared.cause.Cause.TheVariants.{NeedsTooMuch}
use Rattle.master_run.specs.declared.needs.Excess.{Excess}

-- what a rule takes of this machine: one core where it states nothing
abbrev pub taken_here : Needs → Amounts
taken_here Whole = record { cores = 1; memory = 0; disk = 0 }
taken_here (Stated amounts) = amounts

-- this rule needs so much of a resource, of which there is so much
abbrev pub exceeds : ℕ → ℕ → ℕ → Option Excess
exceeds r need total = Some (record { rule = record { 0 = r }; need = need; total = total })

-- the first resource of which the rule needs more than there is: cores, then memory, then disk
abbrev pub rule_excess : ℕ → Amounts → Amounts → Option Excess
rule_excess r need total =
    if nat_lt total.cores need.cores then exceeds r need.cores total.cores
    else if nat_lt total.memory need.memory then exceeds r need.memory total.memory
    else if nat_lt total.disk need.disk then exceeds r need.disk total.disk
    else None

-- the rule may make so many bytes, which is more than the storage may hold
abbrev pub bound_excess : ℕ → ℕ → Option ℕ → Option Excess
bound_excess r bound None = None
bound_excess r bound (Some limit) = if nat_lt limit bound then exceeds r bound limit else None

-- the rule runs on this machine: it is a LOCAL one, or all rules run here
abbrev pub runs_here : Options → Rule → Bool
runs_here O rule = rule.local || not O.wq

-- what a rule that runs on this machine needs too much of it
abbrev pub here_excess : Options → ℕ → Rule → Option Excess
here_excess O r rule = if runs_here O rule then rule_excess r (taken_here rule.needs) O.local else None

-- the first of what a rule of the plan needs too much: cores, memory, disk, then storage
abbrev pub excess_of : Options → ℕ → Rule → Option Excess
excess_of O r rule = or_else (here_excess O r rule) (bound_excess r rule.bound O.limit)

-- the first of these rules, numbered from here, that needs more than there is
abbrev pub excess_among : Options → ℕ → List Rule → Option Excess
excess_among O first rules = first_said (λ numbered. excess_of O numbered.0 numbered.1) (enumerate_from first rules)

-- the plan, or its rule that needs too much
abbrev pub needs_checked : Plan → Option Excess → Result Plan Cause
needs_checked P None = Ok P
needs_checked P (Some over) = Err (NeedsTooMuch over.rule over.need over.total)

-- the plan, where no rule needs more than there is by these options
abbrev pub with_needs : Options → Plan → Result Plan Cause
with_needs O P = needs_checked P (excess_among O 0 P.rules)

-- No rule that runs on this machine needs more of it than there is.
abbrev pub NeedsFit : Options → Plan → Type 0
NeedsFit O P = (r : ℕ) → r < length P.rules → may_run_on P O r 0 ≡ true → is_at_most (amounts_on 0 O.local (needs_of P r)) O.local ≡ true

-- What each rule states that runs at a worker is at most these amounts.
abbrev pub StatesAtMost : Options → Amounts → Plan → Type 0
StatesAtMost O least P = (r : ℕ) (amounts : Amounts) → r < length P.rules → may_run_on P O r 0 ≡ false → needs_of P r ≡ Stated amounts → IsAtLeast amounts least
