-- How large what a peer sends may be.
use Rattle.std.specs.Prelude.{◌≤◌, length, sum_by}
use Rattle.flow_types.specs.declared.job.Outcome.{Outcome}
use Rattle.flow_types.specs.declared.job.Outcome.TheVariants as outcomes
use Rattle.flow_types.specs.Plans.{most_bytes}
use Rattle.wq_messages.specs.Spelling.{most_outputs}

-- the contents of an outcome are few and small
abbrev pub IsSmall : Outcome → Type 0
IsSmall (outcomes.Success contents) =
    (length contents ≤ most_outputs) × (sum_by (λ c. length c) contents ≤ most_bytes)
IsSmall (outcomes.Failed why) = Unit {0}
IsSmall outcomes.NotRun = Unit {0}
