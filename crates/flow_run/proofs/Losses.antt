-- Attempts that a run gives up.
use Rattle.std.proofs.Common.{◌≡◌, ◌∙◌, ℕ, false, List, [], ◌∷◌, ◌++◌, None, Result, Ok, Err, ap, append_assoc, true≢false}
use Rattle.std.specs.Prelude.{All, OnOk}
use Rattle.std.specs.List.{list_any}
use Rattle.std.proofs.lemmas.Bool.{or_parts}
use Rattle.std.proofs.lemmas.List.Elements.{All-nil, All-cons}
use Rattle.flow_types.specs.declared.job.Job.{Job}
use Rattle.flow_types.specs.declared.job.Failure.{Failure}
use Rattle.flow_types.specs.declared.records.Record.{Record}
use Rattle.flow_types.specs.declared.records.Record.TheVariants as records
use Rattle.flow_types.specs.Serial.{Contents, Function}
use Rattle.run_history.specs.declared.answers.Check.{Check}
use Rattle.run_history.specs.declared.moves.Move.{Move}
use Rattle.run_history.specs.Links.{records_of}
use Rattle.outside.specs.Disk.{Outcomes}
use Rattle.outside.specs.Files.{Files}
use Rattle.desk.specs.State.{DeskState}
use Rattle.local_run.specs.declared.halt.Halt.{Halt}
use Rattle.local_run.specs.Course.{Closed, GoesOn}
use Rattle.local_run.specs.Losses.{LosesAway, is_lost}
use Rattle.local_run.specs.Runs.{LosesNone, ended_by}
use Rattle.local_run.proofs.Going.{goes_records}
use Rattle.wq_run.specs.Ends.{LosesOnLinks}

-- a record that gives no attempt up
pub kept_away : (H : List Record) (x : Record) → is_lost x ≡ false → LosesAway H x
kept_away H (records.Opened moment run retries limit plan sources) none = tt
kept_away H (records.Resumed moment run retries limit) none = tt
kept_away H (records.Started moment rule attempt link) none = tt
kept_away H (records.Done moment rule attempt outs) none = tt
kept_away H (records.Failed moment rule attempt why) none = tt
kept_away H (records.Lost moment rule attempt) none = absurd (true≢false none)
kept_away H (records.Dropped moment file) none = tt
kept_away H (records.Ended moment kind) none = tt

all_kept : (H xs : List Record) → list_any is_lost xs ≡ false → All (LosesAway H) xs
all_kept H [] none = All-nil (LosesAway H)
all_kept H (x ∷ xs) none =
    let parts = or_parts (is_lost x) (list_any is_lost xs) none in
    All-cons (LosesAway H) x xs (kept_away H x parts.0) (all_kept H xs parts.1)

-- a run that gives up none
pub away_none : (H all : List Record) → LosesNone H all → LosesOnLinks H all
away_none H all loses = record {
  more = loses.0;
  are = loses.1;
  each = all_kept all loses.0 loses.2;
}

-- what the run of a desk gives up, where no stop was set
pub loses_away : {S : Type 0} (trust : Type 0) (gives : Function) (may_fail : Job → Failure → Type 0) (sources : Contents) (tells : Type 0) (files : S → Files) (may_leave : S → Outcomes) (moment : S → ℕ)
    (images_since : S → ℕ → Files → Type 0) (links : List Move) (d after : DeskState S) (r : Result Check Halt) → d.stop ≡ None
    → GoesOn trust gives may_fail sources tells files may_leave moment images_since links d after → Closed d after r → OnOk (ended_by r) (LosesOnLinks (records_of d.moves) (records_of after.moves))
loses_away {S} trust gives may_fail sources tells files may_leave moment images_since links d after (Ok check) unset goes closed = record {
  more = goes.more;
  are = goes_records trust gives may_fail sources tells files may_leave moment images_since links d after goes;
  each = goes.lost (closed.1 ∙ unset);
}
loses_away {S} trust gives may_fail sources tells files may_leave moment images_since links d after (Err halt) unset goes closed = tt

-- over the records before the one with which the run began
pub loses_begun : (H mid all : List Record) (x : Record) → mid ≡ H ++ (x ∷ []) → is_lost x ≡ false → LosesOnLinks mid all → LosesOnLinks H all
loses_begun H mid all x begun keeps loses = record {
  more = x ∷ loses.more;
  are = loses.are ∙ ap (λ (G : List Record). G ++ loses.more) begun ∙ append_assoc H (x ∷ []) loses.more;
  each = All-cons (LosesAway all) x loses.more (kept_away all x keeps) loses.each;
}
