-- What a job's outputs have, against their bounds.
use Rattle.std.proofs.Common.{◌≡◌, ◌∙◌, ◌≤◌, ◌<◌, ◌+◌, ◌-◌, ℕ, suc, Bool, true, false, List, [], ◌∷◌, length, map, replicate, sum_by, Some, None, Result, Ok, Err, IfOk, refl, ap, arith, subst, sym}
use Rattle.std.specs.Prelude.{◌||◌, nat_lt, if◌then◌else◌, codes, pos}
use Rattle.std.specs.Str.{bytes_eq}
use Rattle.std.proofs.lemmas.List.Sums.{sum_by-cons}
use Rattle.flow_types.specs.declared.job.Failure.{Failure}
use Rattle.flow_types.specs.declared.job.Failure.TheVariants.{Status, TooLong}
use Rattle.flow_types.specs.declared.job.Job.{Job}
use Rattle.flow_types.specs.declared.job.Outcome.{Outcome}
use Rattle.flow_types.specs.declared.job.Outcome.TheVariants.{Failed}
use Rattle.flow_types.specs.declared.job.Want.{Want}
use Rattle.flow_types.specs.Plans.{most_bytes}
use Rattle.outside.specs.declared.fault.Fault.{Fault}
use Rattle.outside.specs.Jobs.{AllFit, IsShaped, NamesOutput}
use Rattle.mem_commands.specs.Joins.{EndsBy, content_of, failure_by, failure_of, outputs_of, too_long}

-- so many copies of a content are one for each output
one_for_each : (wants : List Want) (content : List ℕ) → replicate (length wants) content ≡ map (λ name. content) (map (λ (want : Want). want.remote) wants)
one_for_each [] content = refl
one_for_each (want ∷ wants) content = ap (λ (contents : List (List ℕ)). content ∷ contents) (one_for_each wants content)

-- nothing is too long where there are no bytes
none_of_nothing : (wants : List Want) (index left : ℕ) → too_long index left 0 wants ≡ None
none_of_nothing [] index left = refl
none_of_nothing (want ∷ wants) index left = by (nat_lt want.bound 0 || nat_lt left 0) refl (none_of_nothing wants (suc index) (left - 0))
  where
    by : (b : Bool) → (nat_lt want.bound 0 || nat_lt left 0) ≡ b → too_long (suc index) (left - 0) 0 wants ≡ None
        → (if b then Some (TooLong index 0) else too_long (suc index) (left - 0) 0 wants) ≡ None
    by true is rest = absurd (let wrong : ⊥ = grind arith in wrong)
    by false is rest = rest

-- copies of a content that isn't too long for an output fit
fit : (wants : List Want) (content : List ℕ) (index left : ℕ) → too_long index left (length content) wants ≡ None
    → AllFit wants (replicate (length wants) content) × (sum_by (λ (c : List ℕ). length c) (replicate (length wants) content) ≤ left)
fit [] content index left none = (tt, omega arith)
fit (want ∷ wants) content index left none =
    by (nat_lt want.bound (length content) || nat_lt left (length content)) refl none (λ rest. fit wants content (suc index) (left - length content) rest)
  where
    by : (b : Bool) → (nat_lt want.bound (length content) || nat_lt left (length content)) ≡ b
        → (if b then Some (TooLong index (length content)) else too_long (suc index) (left - length content) (length content) wants) ≡ None
        → (too_long (suc index) (left - length content) (length content) wants ≡ None → AllFit wants (replicate (length wants) content) × (sum_by (λ (c : List ℕ). length c) (replicate (length wants) content) ≤ left - length content))
        → AllFit (want ∷ wants) (content ∷ replicate (length wants) content) × (sum_by (λ (c : List ℕ). length c) (content ∷ replicate (length wants) content) ≤ left)
    by true is wrong rest = absurd (let none : ⊥ = cc in none)
    by false is left_over rest =
        let others = rest left_over in
        let bound : length content ≤ want.bound = grind arith in
        let room : length content ≤ left = grind arith in
        ((bound, others.0), omega (arith, room, others.1, sum_by-cons (λ (c : List ℕ). length c) content (replicate (length wants) content)))

-- an output that is too long is one of these
named : (wants : List Want) (index left size : ℕ) (why : Failure) → too_long index left size wants ≡ Some why → NamesOutput why (index + length wants)
named [] index left size why is = absurd (let none : ⊥ = cc in none)
named (want ∷ wants) index left size why is =
    by (nat_lt want.bound size || nat_lt left size) is (λ rest. named wants (suc index) (left - size) size why rest)
  where
    here : (w : Failure) → TooLong index size ≡ w → NamesOutput w (index + suc (length wants))
    here w same = subst (λ (f : Failure). NamesOutput f (index + suc (length wants))) same (let lt : index < index + suc (length wants) = omega arith in lt)

    by : (b : Bool) → (if b then Some (TooLong index size) else too_long (suc index) (left - size) size wants) ≡ Some why
        → (too_long (suc index) (left - size) size wants ≡ Some why → NamesOutput why (suc index + length wants))
        → NamesOutput why (index + suc (length wants))
    by true same rest = here why (let equal : TooLong index size ≡ why = cc in equal)
    by false later rest = subst (λ (n : ℕ). NamesOutput why n) (let plus : suc index + length wants ≡ index + suc (length wants) = omega arith in plus) (rest later)

-- a job whose outputs have no bytes, and whose command isn't `false`, doesn't fail
pub never_fails : (job : Job) (size : ℕ) → bytes_eq job.command (codes "false") ≡ false → size ≡ 0 → None ≡ failure_by job size
never_fails job size other none =
    subst (λ (b : Bool). None ≡ (if b then Some (Status (pos 1)) else too_long 0 most_bytes size job.outputs)) (sym other)
    (subst (λ (n : ℕ). None ≡ too_long 0 most_bytes n job.outputs) (sym none) (sym (none_of_nothing job.outputs 0 most_bytes)))

-- what a job fails with names no output beyond its own
names_output : (job : Job) (size : ℕ) (why : Failure) → failure_by job size ≡ Some why → NamesOutput why (length job.outputs)
names_output job size why is = by (bytes_eq job.command (codes "false")) is
  where
    here : (w : Failure) → Status (pos 1) ≡ w → NamesOutput w (length job.outputs)
    here w same = subst (λ (f : Failure). NamesOutput f (length job.outputs)) same tt

    by : (b : Bool) → (if b then Some (Status (pos 1)) else too_long 0 most_bytes size job.outputs) ≡ Some why → NamesOutput why (length job.outputs)
    by true same = here why (let equal : Status (pos 1) ≡ why = cc in equal)
    by false long = subst (λ (n : ℕ). NamesOutput why n) (let plus : 0 + length job.outputs ≡ length job.outputs = omega arith in plus) (named job.outputs 0 most_bytes size why long)

pub failed_shape : (job : Job) (size : ℕ) (why : Failure) (result : Result Outcome Fault) → failure_by job size ≡ Some why
    → IfOk result (λ outcome. outcome ≡ Failed why) → IfOk result (IsShaped job)
failed_shape job size why (Ok outcome) is same = subst (IsShaped job) (sym same) (names_output job size why is)
failed_shape job size why (Err fault) is same = tt

-- copies of what a job makes that doesn't fail have the form of its outputs
pub whole_shape : (job : Job) (content : List ℕ) (contents : List (List ℕ)) → failure_by job (length content) ≡ None
    → contents ≡ replicate (length job.outputs) content
    → AllFit job.outputs contents × (sum_by (λ (c : List ℕ). length c) contents ≤ most_bytes)
whole_shape job content contents none are =
    let none_long = by (bytes_eq job.command (codes "false")) none in
    subst (λ (l : List (List ℕ)). AllFit job.outputs l × (sum_by (λ (c : List ℕ). length c) l ≤ most_bytes)) (sym are) (fit job.outputs content 0 most_bytes none_long)
  where
    by : (b : Bool) → (if b then Some (Status (pos 1)) else too_long 0 most_bytes (length content) job.outputs) ≡ None → too_long 0 most_bytes (length content) job.outputs ≡ None
    by true wrong = absurd (let none : ⊥ = cc in none)
    by false long = long

-- and are what its commands give
pub whole_given : (job : Job) (content : List ℕ) (contents : List (List ℕ)) → content ≡ content_of job.command job.inputs
    → contents ≡ replicate (length job.outputs) content → contents ≡ outputs_of job.command job.inputs (map (λ (want : Want). want.remote) job.outputs)
whole_given job content contents is are =
    are ∙ one_for_each job.outputs content ∙ ap (λ (c : List ℕ). map (λ name. c) (map (λ (want : Want). want.remote) job.outputs)) is

-- a job that fails ends so
pub failed_ends : (job : Job) (content : List ℕ) (why : Failure) (result : Result Outcome Fault) → content ≡ content_of job.command job.inputs
    → failure_by job (length content) ≡ Some why → IfOk result (λ outcome. outcome ≡ Failed why) → IfOk result (EndsBy job)
failed_ends job content why (Ok outcome) is fails same =
    subst (EndsBy job) (sym same) (subst (λ (c : List ℕ). failure_by job (length c) ≡ Some why) is fails)
failed_ends job content why (Err fault) is fails same = tt

-- and so does one that doesn't fail
pub whole_ends : (job : Job) (content : List ℕ) (contents : List (List ℕ)) → content ≡ content_of job.command job.inputs
    → failure_by job (length content) ≡ None → contents ≡ replicate (length job.outputs) content
    → (failure_of job ≡ None) × (contents ≡ outputs_of job.command job.inputs (map (λ (want : Want). want.remote) job.outputs))
whole_ends job content contents is none are =
    (subst (λ (c : List ℕ). failure_by job (length c) ≡ None) is none, whole_given job content contents is are)
