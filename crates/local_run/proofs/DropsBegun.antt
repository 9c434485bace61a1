-- What the drop of a file makes of a run.
use Rattle.std.proofs.Common.{◌≡◌, ◌∙◌, ⊎_elim, ℕ, List, Option, Some, None, Result, Ok, Err, sym, ap, subst}
use Rattle.std.specs.Prelude.{IfOk, IfSome}
use Rattle.flow_types.specs.declared.job.Job.{Job}
use Rattle.flow_types.specs.declared.job.Failure.{Failure}
use Rattle.flow_types.specs.declared.job.Start.{Start}
use Rattle.flow_types.specs.declared.numbers.FileNo.{FileNo}
use Rattle.flow_types.specs.Serial.{Contents, Function}
use Rattle.run_history.specs.Links.{records_of}
use Rattle.outside.specs.Disk.{Outcomes}
use Rattle.outside.specs.Files.{Files}
use Rattle.worker_pool.specs.declared.hand.Tally.{Tally}
use Rattle.file_store.specs.Outputs.{file_name}
use Rattle.desk.specs.declared.answers.CollectRefused.{CollectRefused}
use Rattle.desk.specs.declared.answers.CollectRefused.TheVariants as refused
use Rattle.desk.specs.declared.attempt.Attempt.{Attempt}
use Rattle.desk.specs.Collections.{Collects, dropped_in}
use Rattle.desk.specs.State.{DeskState, IsFine}
use Rattle.local_run.specs.declared.halt.Halt.{Halt}
use Rattle.local_run.specs.declared.halt.Halt.TheVariants as halts
use Rattle.local_run.specs.Collecting.{IsUntouched}
use Rattle.local_run.specs.Course.{IsBroken, LeavesAlone}
use Rattle.local_run.specs.Underway.{AwayState, Underway}
use Rattle.local_run.proofs.Closings.{is_broken}
use Rattle.local_run.proofs.Dropping.{collects_due, collects_goes, collects_logs}
use Rattle.local_run.proofs.RunsBegun.{run_on_drop}
use Rattle.local_run.proofs.StandsBegun.{may_want, runs_on, stops_site}

-- a collection at which the site failed leaves a broken desk
collects_broken : {S : Type 0} (count : S → ℕ) (d : DeskState S) (time before now : ℕ) (after : DeskState S) → Collects count d time (Err (refused.Broken before now)) after → IsBroken after.trouble
collects_broken {S} count d time before now after h =
    ⊎_elim (λ first. is_broken count d before now after first)
    (λ later. ⊎_elim (λ first. is_broken count d before now after first) (λ behind. is_broken count (dropped_in d time later.0 behind.0) before now after behind.2) later.3) h

-- why a run stops by a collection
abbrev pub halt_of : Result (Option FileNo) CollectRefused → Option Halt
halt_of (Ok dropped) = None
halt_of (Err refused.LogPlaces) = None
halt_of (Err (refused.Broken before now)) = Some halts.Site
halt_of (Err refused.Memory) = Some halts.Memory

module _ {S : Type 0} (trust : Type 0) (gives : Function) (may_fail : Job → Failure → Type 0) (sources : Contents) (tells kept sure : Type 0) (files : S → Files) (may_leave : S → Outcomes) (moment : S → ℕ)
    (images_since : S → ℕ → Files → Type 0) (away : AwayState) where
  abbrev pub Under : DeskState S → DeskState S → List Attempt → List Start → Option Attempt → Tally → Option Halt → Type 0
  Under first now held waiting loose heard halt = Underway trust gives may_fail sources tells kept sure files may_leave moment images_since away first now held waiting loose heard halt

  abbrev pub Alone : DeskState S → S → Type 0
  Alone d s = tells → LeavesAlone files may_leave moment images_since (IsUntouched d.plan d.log (records_of d.moves)) d.site s

  abbrev pub Removed : DeskState S → Result (Option FileNo) CollectRefused → S → Type 0
  Removed d r s = IfOk r (λ dropped. IfSome dropped (λ file. tells → files s (file_name d.plan file.0) ≡ None))

  stays_on : (first d after : DeskState S) (held : List Attempt) (waiting : List Start) (heard : Tally) → after ≡ d → Under first d held waiting None heard None → Under first after held waiting None heard None
  stays_on first d after held waiting heard same u = subst (λ (a : DeskState S). Under first a held waiting None heard None) (sym same) u

  -- whatever a collection answers
  pub collects_on : (count : S → ℕ) (first d after : DeskState S) (held : List Attempt) (waiting : List Start) (heard : Tally) (time : ℕ) (r : Result (Option FileNo) CollectRefused) → Removed d r after.site
      → Alone d after.site → Collects count d time r after → Under first d held waiting None heard None → Under first after held waiting None heard (halt_of r)
  collects_on count first d after held waiting heard time (Ok (Some file)) removed others h u =
      runs_on trust gives may_fail sources tells kept sure files may_leave moment images_since away first d after held waiting None heard None None
      (collects_goes trust gives may_fail sources tells files may_leave moment images_since count d time (Ok (Some file)) after removed others h)
      (run_on_drop d.plan (records_of d.moves) (records_of after.moves) (collects_logs count d time (Ok (Some file)) after h))
      (subst IsFine (sym (ap (λ (a : DeskState S). a.trouble) h.2)) h.0, ap (λ (a : DeskState S). a.stop) h.2 ∙ u.stopped.1)
      (λ going. (tt, collects_due count d time file after h)) u
  collects_on count first d after held waiting heard time (Ok None) removed others h u = stays_on first d after held waiting heard h.2 u
  collects_on count first d after held waiting heard time (Err refused.LogPlaces) removed others h u = stays_on first d after held waiting heard h.2 u
  collects_on count first d after held waiting heard time (Err (refused.Broken before now)) removed others h u =
      runs_on trust gives may_fail sources tells kept sure files may_leave moment images_since away first d after held waiting None heard None (Some halts.Site)
      (collects_goes trust gives may_fail sources tells files may_leave moment images_since count d time (Err (refused.Broken before now)) after removed others h)
      (run_on_drop d.plan (records_of d.moves) (records_of after.moves) (collects_logs count d time (Err (refused.Broken before now)) after h))
      (stops_site tells kept sure files first after heard (collects_broken count d time before now after h)) (λ going. absurd going) u
  collects_on count first d after held waiting heard time (Err refused.Memory) removed others h u =
      runs_on trust gives may_fail sources tells kept sure files may_leave moment images_since away first d after held waiting None heard None (Some halts.Memory)
      (collects_goes trust gives may_fail sources tells files may_leave moment images_since count d time (Err refused.Memory) after removed others h)
      (run_on_drop d.plan (records_of d.moves) (records_of after.moves) (collects_logs count d time (Err refused.Memory) after h)) (may_want tells kept sure files first after heard) (λ going. absurd going) u
