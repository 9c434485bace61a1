-- What a runner told before goes on.
use Rattle.std.proofs.Common.{◌≡◌, ◌≤◌, ◌+◌, ℕ, List, refl, arith}
use Rattle.flow_types.specs.declared.job.Job.{Job}
use Rattle.flow_types.specs.Serial.{Function}
use Rattle.flow_types.specs.declared.job.Failure.{Failure}
use Rattle.flow_types.specs.declared.job.Outcome.{Outcome}
use Rattle.flow_types.specs.declared.job.Outcome.TheVariants.{Success, Failed, NotRun}
use Rattle.outside.specs.declared.fault.Fault.{Fault}
use Rattle.outside.specs.Jobs.{CountsFailure}
use Rattle.std.specs.Prelude.{Ok, Err}
use Rattle.worker_pool.specs.Courses.{Answers, StaysTrue}
use Rattle.worker_pool.specs.Tallies.{tally_of}

module _ {R : Type 0} (tells : R → Job → Type 0) (sure : R → Type 0) where
  pub stays_self : (r : R) → StaysTrue tells sure r r
  stays_self r = ((λ job t. t), (λ s. s))

  pub stays_on : (a b c : R) → StaysTrue tells sure a b → StaysTrue tells sure b c → StaysTrue tells sure a c
  stays_on a b c p q = ((λ job t. q.0 job (p.0 job t)), (λ s. q.1 (p.1 s)))

  pub answered : (gives : Function) (may_fail : Job → Failure → Type 0) (old new : R) → StaysTrue tells sure old new
      → (job : Job) (outcome : Outcome) → Answers gives may_fail tells sure new job outcome → Answers gives may_fail tells sure old job outcome
  answered gives may_fail old new s job outcome a = (a.0, (λ t. a.1 (s.0 job t)), (λ u. a.2 (s.1 u)))

-- a job that ended counts as a failed command exactly where it is one
pub counts_failure : (outcome : Outcome) (before now : ℕ) → CountsFailure before now (Ok outcome) → (tally_of outcome).failed + before ≡ now
counts_failure (Success contents) before now counts = let same = counts.stood refl in omega (arith, same)
counts_failure (Failed why) before now counts = let more = counts.rose refl in omega (arith, more)
counts_failure NotRun before now counts = let same = counts.stood refl in omega (arith, same)

-- a call that gave no outcome leaves that count
pub stands : (fault : Fault) (before now : ℕ) → CountsFailure before now (Err fault) → before ≡ now
stands fault before now counts = let same = counts.stood refl in omega (arith, same)
