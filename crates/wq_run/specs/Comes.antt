-- What a run with workers comes to.
use Rattle.std.specs.Prelude.{◌≡◌, ◌≤◌, ℕ, false, List, [], length, Option, None, Result, IfErr}
use Rattle.flow_types.specs.declared.job.Job.{Job}
use Rattle.flow_types.specs.declared.job.Failure.{Failure}
use Rattle.flow_types.specs.Serial.{Contents, Function}
use Rattle.run_history.specs.declared.moves.Move.{Move}
use Rattle.run_history.specs.Answers.{has_ended}
use Rattle.run_history.specs.Links.{records_of}
use Rattle.run_history.specs.Storage.{running_rules}
use Rattle.outside.specs.Disk.{Outcomes}
use Rattle.outside.specs.Files.{Files}
use Rattle.worker_pool.specs.declared.hand.Tally.{Tally}
use Rattle.desk.specs.State.{DeskState, IsFine}
use Rattle.local_run.specs.declared.halt.Halt.{Halt}
use Rattle.local_run.specs.Course.{Closed, GoesOn, HaltsBy}
use Rattle.local_run.specs.Ends.{IsApart, IsFoundDamaged, IsSureHalt, IsWholeHalt}
use Rattle.local_run.specs.Underway.{AwayState, Underway, settled}
use Rattle.wq_run.specs.Seats.{AreSeats, SeatState, gathered}

-- What a run comes to whose runners rise from these counts to those: nothing runs, and where it stopped this is why.
pub record ComesOn {S A : Type 0} (trust : Type 0) (gives : Function) (may_fail : Job → Failure → Type 0) (sources : Contents) (tells kept sure : Type 0) (files : S → Files) (may_leave : S → Outcomes) (moment : S → ℕ)
    (images_since : S → ℕ → Files → Type 0) (d after : DeskState S) (count count_now failures failures_now : ℕ) (result : Result A Halt) : Type 0 where
  pub links : List Move
  pub goes : GoesOn trust gives may_fail sources tells files may_leave moment images_since links d after
  pub idle : IsFine after.trouble → length (running_rules after.plan (records_of after.moves)) ≤ 0
  pub closed : Closed d after result
  pub halts : HaltsBy after.trouble count count_now result
  pub damage : IfErr result (λ why. tells → IsApart after.plan after.log → IsFoundDamaged after.plan (records_of after.moves) (files after.site) why)
  pub whole : IfErr result (λ why. tells → kept → IsWholeHalt why)
  pub never : IfErr result (λ why. sure → IsSureHalt why)
  pub later : count ≤ count_now
  pub risen : failures ≤ failures_now
  pub unended : has_ended (records_of d.moves) ≡ false → has_ended (records_of after.moves) ≡ false

-- Nothing is held any more, here or at a worker, and why the run stopped is told.
pub record Finished {S L : Type 0} (trust : Type 0) (gives : Function) (may_fail : Job → Failure → Type 0) (sources : Contents) (tells kept sure : Type 0) (files : S → Files) (may_leave : S → Outcomes) (moment : S → ℕ)
    (images_since : S → ℕ → Files → Type 0) (first now : DeskState S) (heard : Tally) (seats : List (SeatState L)) (result : Result (Unit {0}) Halt) : Type 0 where
  pub away : AwayState
  pub none : away.attempts ≡ []
  pub halt : Option Halt
  pub is : result ≡ settled halt
  pub under : Underway trust gives may_fail sources tells kept sure files may_leave moment images_since away first now [] [] None heard halt
  pub placed : AreSeats now.plan now.options now.moves seats
  pub empty : gathered seats ≡ []
