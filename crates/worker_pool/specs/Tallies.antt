-- How many jobs weren't run, and how many failed.
use Rattle.std.specs.Prelude.{◌≡◌, ◌≤◌, ◌+◌, ℕ}
use Rattle.flow_types.specs.declared.job.Outcome.{Outcome}
use Rattle.flow_types.specs.declared.job.Outcome.TheVariants.{Success, Failed, NotRun}
use Rattle.worker_pool.specs.declared.hand.Tally.{Tally}

-- so many of both
abbrev pub tally : ℕ → ℕ → Tally
tally unrun failed = record { unrun = unrun; failed = failed }

-- neither
abbrev pub none : Tally
none = tally 0 0

-- both together
abbrev pub plus : Tally → Tally → Tally
plus a b = tally (a.unrun + b.unrun) (a.failed + b.failed)

-- one job that wasn't run, or one that failed, or neither
abbrev pub tally_of : Outcome → Tally
tally_of (Success contents) = none
tally_of (Failed why) = tally 0 1
tally_of NotRun = tally 1 0

-- neither of the one is more than of the other
abbrev pub IsWithin : Tally → Tally → Type 0
IsWithin a b = (a.unrun ≤ b.unrun) × (a.failed ≤ b.failed)

-- At most as many jobs weren't run as the first count rose, and at most as many failed as the second rose.
abbrev pub AreCounted : Tally → ℕ → ℕ → ℕ → ℕ → Type 0
AreCounted jobs faults faults_now failures failures_now =
    (jobs.unrun + faults ≤ faults_now) × (jobs.failed + failures ≤ failures_now)

-- At most as many jobs weren't run as the first count rose, and exactly as many failed as the second rose.
abbrev pub AllFailuresCount : Tally → ℕ → ℕ → ℕ → ℕ → Type 0
AllFailuresCount jobs faults faults_now failures failures_now =
    (jobs.unrun + faults ≤ faults_now) × (jobs.failed + failures ≡ failures_now)

-- The same of the jobs by which a tally grew.
abbrev pub GrowsWith : Tally → Tally → ℕ → ℕ → ℕ → ℕ → Type 0
GrowsWith before after faults faults_now failures failures_now =
    (after.unrun + faults ≤ before.unrun + faults_now) × (after.failed + failures ≡ before.failed + failures_now)
