-- What the caller's thread of a run with workers asks and gives, over equal parts.
use Rattle.std.proofs.Common.{◌≡◌, ℕ, Bool, List, [], Option, subst}
use denote.Exit.{if_kept, unseen}
use denote.Param.Send.{Quiet, Quiet-if}
use Rattle.flow_types.specs.declared.plan.Plan.{Plan}
use Rattle.flow_types.specs.declared.numbers.LinkNo.{LinkNo}
use Rattle.flow_types.specs.declared.job.Failure.{Failure}
use Rattle.flow_types.specs.declared.job.Job.{Job}
use Rattle.flow_types.specs.declared.job.Outcome.{Outcome}
use Rattle.flow_types.specs.declared.job.Start.{Start}
use Rattle.flow_types.specs.Serial.{Contents, Function}
use Rattle.outside.specs.Disk.{Outcomes}
use Rattle.outside.specs.Files.{Files}
use Rattle.worker_pool.specs.Pools.{PoolState}
use Rattle.desk.specs.State.{DeskState}
use Rattle.local_run.specs.declared.halt.Halt.{Halt}
use Rattle.local_run.specs.Underway.{HeldState, IsWantHalt}
use Rattle.run_history.specs.declared.options.Options.{Options}
use Rattle.wq_run.specs.Seats.{CompanyState, Meets, inside_of}
use Rattle.wq_run.specs.Trusted.{IsOpen}
use Rattle.wq_run.specs.Turns.{AsOne, MayServe, as_one}

module _ {S L : Type 0} (stands : Plan → Type 0) (trust : Type 0) (gives : Function) (may_fail : Job → Failure → Type 0) (sources : Contents) (tells kept : Type 0) (files : S → Files) (may_leave : S → Outcomes) (moment : S → ℕ)
    (images_since : S → ℕ → Files → Type 0) (fits : Job → Outcome → Type 0) (keen : ℕ → Type 0) (holds : Type 0) (plan : Plan) (options : Options) (run : ℕ) (due : Contents) (listens honest : Type 0) (most : ℕ) where
  pub may_serve_at : (d e : DeskState S) (held : HeldState) (pool : PoolState) (company other : CompanyState L) → d ≡ e → company ≡ other
      → MayServe (stands d.plan) trust gives may_fail sources tells kept files may_leave moment images_since fits keen holds plan options run due listens honest most d held pool company.seats
      → MayServe (stands e.plan) trust gives may_fail sources tells kept files may_leave moment images_since fits keen holds plan options run due listens honest most e held pool other.seats
  may_serve_at d e held pool company other same like may =
      subst (λ (x : DeskState S). MayServe (stands x.plan) trust gives may_fail sources tells kept files may_leave moment images_since fits keen holds plan options run due listens honest most x held pool other.seats) same
      (subst (λ (x : CompanyState L). MayServe (stands d.plan) trust gives may_fail sources tells kept files may_leave moment images_since fits keen holds plan options run due listens honest most d held pool x.seats) like may)

-- what is stated as one fact
pub stated : {A : Type 0} → AsOne A → A
stated (as_one a) = a

-- where the hall and the company are these
pub met_at : {X L : Type 0} (count : X → ℕ) (got : X → List (Option LinkNo × L)) (given idles : X → ℕ) (hall hall_now hall_then : X) (company other company_now company_then : CompanyState L) → hall_now ≡ hall_then → company ≡ other → company_now ≡ company_then
    → Meets (count hall) (count hall_now) (got hall) (got hall_now) (given hall) (given hall_now) (idles hall) (idles hall_now) (inside_of company) (inside_of company_now) company.failed company_now.failed company.lost company_now.lost
    → Meets (count hall) (count hall_then) (got hall) (got hall_then) (given hall) (given hall_then) (idles hall) (idles hall_then) (inside_of other) (inside_of company_then) other.failed company_then.failed other.lost company_then.lost
met_at {X} {L} count got given idles hall hall_now hall_then company other company_now company_then halls before after met =
    subst (λ (x : X). Meets (count hall) (count x) (got hall) (got x) (given hall) (given x) (idles hall) (idles x) (inside_of other) (inside_of company_then) other.failed company_then.failed other.lost company_then.lost) halls
    (subst (λ (c : CompanyState L). Meets (count hall) (count hall_now) (got hall) (got hall_now) (given hall) (given hall_now) (idles hall) (idles hall_now) (inside_of c) (inside_of company_then) c.failed company_then.failed c.lost company_then.lost) before
    (subst (λ (c : CompanyState L). Meets (count hall) (count hall_now) (got hall) (got hall_now) (given hall) (given hall_now) (idles hall) (idles hall_now) (inside_of company) (inside_of c) company.failed c.failed company.lost c.lost) after met))

-- where the hall is this one
pub open_at : {X : Type 0} (holds : Type 0) (listens honest : X → Type 0) (hall other : X) → hall ≡ other → IsOpen holds (listens hall) (honest hall) → IsOpen holds (listens other) (honest other)
open_at {X} holds listens honest hall other same coming = subst (λ (x : X). IsOpen holds (listens x) (honest x)) same coming

-- where the stop is this one, and these starts wait
pub heard_at : (halt other : Option Halt) (waiting left : List Start) → halt ≡ other → waiting ≡ left → ((IsWantHalt halt → ⊥) → waiting ≡ []) → (IsWantHalt other → ⊥) → left ≡ []
heard_at halt other waiting left same like heard =
    subst (λ (h : Option Halt). (IsWantHalt h → ⊥) → left ≡ []) same
    (subst (λ (w : List Start). (IsWantHalt halt → ⊥) → w ≡ []) like heard)

-- where the line is this one
pub line_at : {X : Type 0} (line other first : X) → line ≡ other → line ≡ first → other ≡ first
line_at {X} line other first same is = subst (λ (x : X). x ≡ first) same is

-- nothing that a thread holds is told of such a parameter
pub silent : {D : Type 0} (b : Bool) → Quiet {D = D} (if_kept b unseen unseen)
silent b = Quiet-if b unseen unseen (λ x w. tt) (λ x w. tt)
