-- What the reading of an attempt's inputs, and a claim that is refused, make of a run.
use Rattle.std.proofs.Common.{◌≡◌, ◌∙◌, ℕ, List, map, Option, Some, None, Result, Ok, Err, sym, ap, subst}
use Rattle.std.specs.Prelude.{slice_get}
use Rattle.flow_types.specs.declared.plan.Rule.{Rule}
use Rattle.flow_types.specs.declared.job.Job.{Job}
use Rattle.flow_types.specs.declared.job.Failure.{Failure}
use Rattle.flow_types.specs.declared.job.Start.{Start}
use Rattle.flow_types.specs.declared.numbers.LinkNo.{LinkNo}
use Rattle.flow_types.specs.Serial.{Contents, Function, job_of, serial}
use Rattle.run_history.specs.Admissions.{Admitting}
use Rattle.run_history.specs.Links.{records_of}
use Rattle.outside.specs.Disk.{Outcomes}
use Rattle.outside.specs.Files.{Files}
use Rattle.worker_pool.specs.declared.hand.Tally.{Tally}
use Rattle.desk.specs.declared.answers.ClaimRefused.TheVariants as unclaimed
use Rattle.desk.specs.declared.answers.InputRefused.{InputRefused}
use Rattle.desk.specs.declared.answers.InputRefused.TheVariants as refused
use Rattle.desk.specs.declared.attempt.Attempt.{Attempt}
use Rattle.desk.specs.Claims.{ClaimsBy}
use Rattle.desk.specs.State.{DeskState, IsFine}
use Rattle.desk.specs.Tasks.{want_at}
use Rattle.local_run.specs.declared.halt.Halt.{Halt}
use Rattle.local_run.specs.declared.halt.Halt.TheVariants as halts
use Rattle.local_run.specs.Collecting.{IsUntouched}
use Rattle.local_run.specs.Course.{IsBroken, LeavesAlone}
use Rattle.local_run.specs.Jobs.{IsRefusedDamage, IsWholeInput, ReadsOver, halt_by}
use Rattle.local_run.specs.Underway.{AwayState, IsJobAt, MayStop, Underway}
use Rattle.local_run.proofs.Claimed.{claim_breaks}
use Rattle.local_run.proofs.Closings.{is_broken}
use Rattle.local_run.proofs.Logging.{reads_moves, refused_same}
use Rattle.local_run.proofs.Reading.{reads_goes}
use Rattle.local_run.proofs.StandsBegun.{may_want, stands_on, stops_site}

-- the job of an attempt whose inputs were read
pub job_at : {S : Type 0} (trust tells kept : Type 0) (gives : Function) (sources : Contents) (d mid : DeskState S) (rule : ℕ) (job : Job) → mid ≡ record d { site = mid.site } → (trust → tells × kept)
    → ((row : Rule) → slice_get d.plan.rules rule ≡ Some row → job.outputs ≡ map (want_at d.plan) row.outputs)
    → (tells → kept → trust → (row : Rule) → slice_get d.plan.rules rule ≡ Some row → job ≡ job_of d.plan row (serial d.plan gives sources)) → IsJobAt mid.plan trust (serial mid.plan gives sources) rule job
job_at {S} trust tells kept gives sources d mid rule job same base wants due =
    subst (λ (a : DeskState S). IsJobAt a.plan trust (serial a.plan gives sources) rule job) (sym same) (record {
      wants = wants;
      due = λ trusted. due (base trusted).0 (base trusted).1 trusted;
    })

module _ {S : Type 0} (trust : Type 0) (gives : Function) (may_fail : Job → Failure → Type 0) (sources : Contents) (tells kept sure : Type 0) (files : S → Files) (may_leave : S → Outcomes) (moment : S → ℕ)
    (images_since : S → ℕ → Files → Type 0) (away : AwayState) where
  abbrev pub Under : DeskState S → DeskState S → List Attempt → List Start → Option Attempt → Tally → Option Halt → Type 0
  Under first now held waiting loose heard halt = Underway trust gives may_fail sources tells kept sure files may_leave moment images_since away first now held waiting loose heard halt

  abbrev pub Alone : DeskState S → S → Type 0
  Alone d s = tells → LeavesAlone files may_leave moment images_since (IsUntouched d.plan d.log (records_of d.moves)) d.site s

  abbrev pub OnlyReads : DeskState S → S → Type 0
  OnlyReads d s = tells → LeavesAlone files may_leave moment images_since (λ m. Unit {0}) d.site s

  -- inputs that were read
  pub reads_on : (first d mid : DeskState S) (held : List Attempt) (waiting : List Start) (loose : Option Attempt) (heard : Tally) → IsFine d.trouble → mid ≡ record d { site = mid.site } → OnlyReads d mid.site
      → Under first d held waiting loose heard None → Under first mid held waiting loose heard None
  reads_on first d mid held waiting loose heard fine same others u =
      let r : Result (Unit {0}) InputRefused = Ok tt in
      let works : IsFine mid.trouble = subst IsFine (sym (ap (λ (a : DeskState S). a.trouble) same)) fine in
      stands_on trust gives may_fail sources tells kept sure files may_leave moment images_since away first d mid held waiting loose heard None None
      (reads_goes trust gives may_fail sources tells files may_leave moment images_since (Unit {0}) d mid r fine same others)
      (ap (λ (a : DeskState S). records_of a.moves) same) (works, ap (λ (a : DeskState S). a.stop) same ∙ u.stopped.1) (λ going. tt) u

  -- why a run may stop at an input
  pub refused_stops : (A : Type 0) (d mid : DeskState S) (heard : Tally) (why : InputRefused) → IsFine d.trouble → (let r : Result A InputRefused = Err why in ReadsOver d r mid)
      → (tells → IsRefusedDamage mid.plan (records_of mid.moves) (files mid.site) why) → (tells → kept → IsWholeInput why) → MayStop tells kept sure files mid heard (halt_by why)
  refused_stops A d mid heard (refused.Damaged file logged found) fine h damage whole = record {
    is = subst IsFine (sym (ap (λ (a : DeskState S). a.trouble) h)) fine;
    damage = λ told apart. damage told;
    whole = λ told keeps. whole told keeps;
    never = λ sure. tt;
  }
  refused_stops A d mid heard (refused.Broken before now) fine h damage whole =
      stops_site tells kept sure files d mid heard (subst IsBroken (sym (ap (λ (a : DeskState S). a.trouble) h)) tt)
  refused_stops A d mid heard refused.Memory fine h damage whole = may_want tells kept sure files d mid heard

  -- inputs that weren't
  pub refused_on : (A : Type 0) (first d mid : DeskState S) (held : List Attempt) (waiting : List Start) (loose : Option Attempt) (heard : Tally) (why : InputRefused) → IsFine d.trouble
      → (let r : Result A InputRefused = Err why in ReadsOver d r mid) → OnlyReads d mid.site → MayStop tells kept sure files mid heard (halt_by why) → Under first d held waiting loose heard None
      → Under first mid held waiting loose heard (Some (halt_by why))
  refused_on A first d mid held waiting loose heard why fine h others stops u =
      let r : Result A InputRefused = Err why in
      stands_on trust gives may_fail sources tells kept sure files may_leave moment images_since away first d mid held waiting loose heard None (Some (halt_by why))
      (reads_goes trust gives may_fail sources tells files may_leave moment images_since A d mid r fine h others) (reads_moves d r mid h) stops (λ going. absurd going) u

  -- a claim at which the site failed
  pub broken_on : (A : Admitting) (count : S → ℕ) (first d after : DeskState S) (held : List Attempt) (waiting : List Start) (loose : Option Attempt) (heard : Tally) (halt : Option Halt) (link : LinkNo) (time before now : ℕ)
      → Alone d after.site → ClaimsBy A count d link time (Err (unclaimed.Broken before now)) after → Under first d held waiting loose heard halt → Under first after held waiting loose heard (Some halts.Site)
  broken_on A count first d after held waiting loose heard halt link time before now others h u =
      stands_on trust gives may_fail sources tells kept sure files may_leave moment images_since away first d after held waiting loose heard halt (Some halts.Site)
      (claim_breaks trust gives may_fail sources tells files may_leave moment images_since A count d after link time (unclaimed.Broken before now) others h)
      (refused_same A count d after link time (unclaimed.Broken before now) h) (stops_site tells kept sure files first after heard (is_broken count d before now after h)) (λ going. absurd going) u

  -- or memory was wanting
  pub wanting_on : (A : Admitting) (count : S → ℕ) (first d after : DeskState S) (held : List Attempt) (waiting : List Start) (loose : Option Attempt) (heard : Tally) (halt : Option Halt) (link : LinkNo) (time : ℕ) → Alone d after.site
      → ClaimsBy A count d link time (Err unclaimed.Memory) after → Under first d held waiting loose heard halt → Under first after held waiting loose heard (Some halts.Memory)
  wanting_on A count first d after held waiting loose heard halt link time others h u =
      stands_on trust gives may_fail sources tells kept sure files may_leave moment images_since away first d after held waiting loose heard halt (Some halts.Memory)
      (claim_breaks trust gives may_fail sources tells files may_leave moment images_since A count d after link time unclaimed.Memory others h)
      (refused_same A count d after link time unclaimed.Memory h) (may_want tells kept sure files first after heard) (λ going. absurd going) u
