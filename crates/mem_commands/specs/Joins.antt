-- What the commands in memory make of their inputs, and how they fail.
use Rattle.std.specs.Prelude.{◌≡◌, ℕ, ◌-◌, ◌||◌, suc, Bool, List, [], ◌∷◌, ◌++◌, length, map, codes, Option, Some, None, if◌then◌else◌, nat_lt, pos, refl}
use Rattle.std.specs.List.{flat_map}
use Rattle.std.specs.Str.{bytes_eq}
use Rattle.std.proofs.Common.{ap}
use Rattle.flow_types.specs.declared.job.Failure.{Failure}
use Rattle.flow_types.specs.declared.job.Failure.TheVariants.{Status, TooLong}
use Rattle.flow_types.specs.declared.job.Given.{Given}
use Rattle.flow_types.specs.declared.job.Job.{Job}
use Rattle.flow_types.specs.declared.job.Outcome.{Outcome}
use Rattle.flow_types.specs.declared.job.Outcome.TheVariants.{Success, Failed, NotRun}
use Rattle.flow_types.specs.declared.job.Want.{Want}
use Rattle.flow_types.specs.Plans.{most_bytes}
use Rattle.mem_commands.specs.declared.runner.JoinedRunner.{JoinedRunner}

-- the inputs one after the other, and then the command's text
abbrev pub content_of : List ℕ → List Given → List ℕ
content_of command inputs = flat_map (λ given. given.content) inputs ++ command

-- each output has that content
abbrev pub outputs_of : List ℕ → List Given → List (List ℕ) → List (List ℕ)
outputs_of command inputs outputs = map (λ name. content_of command inputs) outputs

-- one content for each output
pub length-outputs : (command : List ℕ) (inputs : List Given) (outputs : List (List ℕ)) → length (outputs_of command inputs outputs) ≡ length outputs
length-outputs command inputs [] = refl
length-outputs command inputs (name ∷ outputs) = ap (λ (n : ℕ). suc n) (length-outputs command inputs outputs)

-- The first of these outputs, numbered from here, whose bound so many bytes pass, or with which all pass what is left for them together.
abbrev pub too_long : ℕ → ℕ → ℕ → List Want → Option Failure
too_long index left size [] = None
too_long index left size (want ∷ wants) =
    if nat_lt want.bound size || nat_lt left size then Some (TooLong index size) else too_long (suc index) (left - size) size wants

-- why a job fails each of whose outputs has so many bytes: its command is `false`, or an output is too long
abbrev pub failure_by : Job → ℕ → Option Failure
failure_by job size = if bytes_eq job.command (codes "false") then Some (Status (pos 1)) else too_long 0 most_bytes size job.outputs

-- why the job fails, if it does
abbrev pub failure_of : Job → Option Failure
failure_of job = failure_by job (length (content_of job.command job.inputs))

-- what the commands give for the job
abbrev pub given_for : Job → List (List ℕ)
given_for job = outputs_of job.command job.inputs (map (λ want. want.remote) job.outputs)

-- The job may end with this failure.
abbrev pub FailsWith : Job → Failure → Type 0
FailsWith job why = failure_of job ≡ Some why

-- The job ends so: with why it fails, or else with what its commands give.
abbrev pub EndsBy : Job → Outcome → Type 0
EndsBy job (Success contents) = (failure_of job ≡ None) × (contents ≡ given_for job)
EndsBy job (Failed why) = FailsWith job why
EndsBy job NotRun = ⊥

-- the runner's answers are all successes, or want of memory
abbrev pub is_sure : JoinedRunner → Bool
is_sure runner = runner.is_sure

-- how many of its answers were that a command failed
abbrev pub failures_of : JoinedRunner → ℕ
failures_of runner = runner.failures
