-- How a run is settled whose attempts aren't heard.
use Rattle.std.proofs.Common.{◌≡◌, ◌⊎◌, ⊎_elim, ℕ, List, [], ◌∷◌, Option, Some, None, refl, sym, subst}
use Rattle.flow_types.specs.declared.plan.Plan.{Plan}
use Rattle.flow_types.specs.declared.job.Job.{Job}
use Rattle.flow_types.specs.declared.job.Failure.{Failure}
use Rattle.flow_types.specs.declared.job.Start.{Start}
use Rattle.flow_types.specs.declared.records.Record.{Record}
use Rattle.flow_types.specs.Serial.{Contents, Function, serial}
use Rattle.run_history.specs.Links.{records_of}
use Rattle.outside.specs.Disk.{Outcomes}
use Rattle.outside.specs.Files.{Files}
use Rattle.worker_pool.specs.declared.hand.Tally.{Tally}
use Rattle.desk.specs.declared.answers.Trouble.{Trouble}
use Rattle.desk.specs.declared.answers.Trouble.TheVariants as trouble
use Rattle.desk.specs.declared.attempt.Attempt.{Attempt}
use Rattle.desk.specs.State.{DeskState, IsFine}
use Rattle.local_run.specs.declared.halt.Halt.{Halt}
use Rattle.local_run.specs.declared.halt.Halt.TheVariants as halts
use Rattle.local_run.specs.Course.{GivesUp, IsBroken}
use Rattle.local_run.specs.Underway.{AwayState, IsWant, IsWantHalt, Matches, Underway, settled}

broken_works : (t : Trouble) → IsBroken t → IsFine t → ⊥
broken_works trouble.Fine broken fine = broken
broken_works (trouble.Broken before now) broken fine = fine
broken_works trouble.Wants broken fine = fine

-- an attempt that is given up for want of memory
pub gives_want : (before after : Trouble) (result : Halt) → GivesUp halts.Memory before after result → IsFine after → IsWantHalt (Some result)
gives_want before after result h fine =
    ⊎_elim (λ same. subst (λ (why : Halt). IsWantHalt (Some why)) (sym same.0) tt)
    (λ (rest : ((result ≡ halts.Site) × IsBroken after) ⊎ (result ≡ halts.Memory)). ⊎_elim (λ site. absurd (broken_works after site.1 fine)) (λ memory. subst (λ (why : Halt). IsWantHalt (Some why)) (sym memory) tt) rest) h

-- what is told of it
pub settled_want : (halt : Option Halt) → IsWantHalt halt → IsWant (settled halt)
settled_want None want = want
settled_want (Some (halts.Damaged file logged found)) want = want
settled_want (Some halts.Runner) want = want
settled_want (Some halts.Site) want = want
settled_want (Some halts.Memory) want = want

-- where nothing is held no start waits
pub none_waits : (P : Plan) (fine : Type 0) (H : List Record) (trust : Type 0) (contents : Contents) (held : List Attempt) (waiting : List Start) → held ≡ [] → Matches P fine H trust contents held waiting → waiting ≡ []
none_waits P fine H trust contents held waiting none m = by_none waiting (subst (λ (l : List Attempt). Matches P fine H trust contents l waiting) none m)
  where
    by_none : (starts : List Start) → Matches P fine H trust contents [] starts → starts ≡ []
    by_none [] m = refl
    by_none (start ∷ starts) m = absurd m

module _ {S : Type 0} (trust : Type 0) (gives : Function) (may_fail : Job → Failure → Type 0) (sources : Contents) (tells kept sure : Type 0) (files : S → Files) (may_leave : S → Outcomes) (moment : S → ℕ)
    (images_since : S → ℕ → Files → Type 0) (away : AwayState) where
  abbrev pub Under : DeskState S → DeskState S → List Attempt → List Start → Option Attempt → Tally → Option Halt → Type 0
  Under first now held waiting loose heard halt = Underway trust gives may_fail sources tells kept sure files may_leave moment images_since away first now held waiting loose heard halt

  -- with nothing held and nothing waiting
  pub settles_on : (first now : DeskState S) (held : List Attempt) (waiting : List Start) (heard : Tally) (halt : Option Halt) → held ≡ [] → Under first now held waiting None heard halt → Under first now [] [] None heard halt
  settles_on first now held waiting heard halt none u =
      let unwaited = none_waits now.plan (IsFine now.trouble) (records_of now.moves) trust (serial now.plan gives sources) held waiting none u.matches in
      subst (λ (l : List Attempt). Under first now l [] None heard halt) none (subst (λ (starts : List Start). Under first now held starts None heard halt) unwaited u)
