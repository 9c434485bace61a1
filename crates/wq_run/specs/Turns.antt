-- What a run with workers asks and gives where its caller's thread serves it.
use Rattle.std.specs.Prelude.{◌≡◌, ◌≤◌, ◌<◌, ℕ, List, [], Option}
use Rattle.flow_types.specs.declared.plan.Plan.{Plan}
use Rattle.flow_types.specs.declared.numbers.LinkNo.{LinkNo}
use Rattle.flow_types.specs.declared.job.Failure.{Failure}
use Rattle.flow_types.specs.declared.job.Job.{Job}
use Rattle.flow_types.specs.declared.job.Outcome.{Outcome}
use Rattle.flow_types.specs.Plans.{IsValid}
use Rattle.flow_types.specs.Serial.{Contents, Function}
use Rattle.run_history.specs.declared.options.Options.{Options}
use Rattle.run_history.specs.Links.{records_of}
use Rattle.outside.specs.Disk.{Outcomes}
use Rattle.outside.specs.Files.{Files}
use Rattle.worker_pool.specs.Pools.{PoolState}
use Rattle.desk.specs.State.{DeskState}
use Rattle.links.specs.declared.passing.Passed.{Passed}
use Rattle.local_run.specs.Course.{TellsJobs}
use Rattle.local_run.specs.Underway.{HeldState, IsShapedPool, IsSurePool, IsWantHalt, ToldOf}
use Rattle.wq_run.specs.Keeping.{KeepsOn}
use Rattle.wq_run.specs.Calm.{Asked, KeepsCalm}
use Rattle.wq_run.specs.Seats.{CompanyState, IsServed, KeepsServed, Meets, SeatState, inside_of}
use Rattle.wq_run.specs.Trusted.{IsOf, IsOpen}

-- This, as one fact, into whose parts no search looks.
pub data AsOne (A : Type 0) : Type 0 where
  as_one : A → AsOne A

-- The plan is valid, the admission stands for it, what is relied on is so, nothing is wanted of the log, at most so many run here at once, and the run has come to something.
pub record MayServe {S L : Type 0} (standing : Type 0) (trust : Type 0) (gives : Function) (may_fail : Job → Failure → Type 0) (sources : Contents) (tells kept : Type 0) (files : S → Files) (may_leave : S → Outcomes) (moment : S → ℕ)
    (images_since : S → ℕ → Files → Type 0) (fits : Job → Outcome → Type 0) (keen : ℕ → Type 0) (holds : Type 0) (plan : Plan) (options : Options) (run : ℕ) (due : Contents) (listens honest : Type 0) (most : ℕ) (now : DeskState S) (held : HeldState)
    (pool : PoolState) (seats : List (SeatState L)) : Type 0 where
  pub valid : IsValid now.plan
  pub stands : standing
  pub of : IsOf trust gives sources tells kept holds plan options run due now.plan now.options (records_of now.moves)
  pub told : trust → TellsJobs plan options (ToldOf gives may_fail fits) due
  pub eager : (k : ℕ) → 0 < k → keen k → ⊥
  pub shaped : IsShapedPool fits
  pub coming : IsOpen holds listens honest
  pub some : 0 < most
  pub few : most ≤ 64
  pub served : IsServed trust gives may_fail sources tells kept (IsSurePool fits) files may_leave moment images_since now held pool.waiting pool.heard seats

-- It went on from there: the run came to the like, peers can come, the hall and the company are as after such calls, nothing that runs here is unheard but where there was no memory, and the admission stays.
pub record ServedOn {S L : Type 0} (staying : Type 0) (trust : Type 0) (gives : Function) (may_fail : Job → Failure → Type 0) (sources : Contents) (tells kept : Type 0) (files : S → Files) (may_leave : S → Outcomes) (moment : S → ℕ)
    (images_since : S → ℕ → Files → Type 0) (fits : Job → Outcome → Type 0) (ill : LinkNo → L → Type 0) (told : Type 0) (history : L → List Passed) (rests rests_now : Option Asked → Type 0) (holds listens honest : Type 0) (count count_now : ℕ) (got got_now : List (Option LinkNo × L)) (given given_now idles idles_now : ℕ) (d after : DeskState S)
    (held held_now : HeldState) (pool pool_now : PoolState) (company company_now : CompanyState L) : Type 0 where
  pub served : KeepsServed trust gives may_fail sources tells kept (IsSurePool fits) files may_leave moment images_since d after held held_now pool.waiting pool_now.waiting pool.heard pool_now.heard company.seats company_now.seats
  pub line : pool_now.line ≡ pool.line
  pub coming : IsOpen holds listens honest
  pub due : told → KeepsOn ill history d.moves after.moves held.halt held_now.halt company company_now got got_now
  pub calm : (asked : Option Asked) → told → IsSurePool fits → KeepsCalm (rests asked) (rests_now asked) d.moves after.moves held.halt held_now.halt company company_now
  pub met : Meets count count_now got got_now given given_now idles idles_now (inside_of company) (inside_of company_now) company.failed company_now.failed company.lost company_now.lost
  pub heard : (IsWantHalt held_now.halt → ⊥) → pool_now.waiting ≡ []
  pub stays : staying
