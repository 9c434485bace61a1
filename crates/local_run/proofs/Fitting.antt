-- What is kept by one measure is kept by another.
use Rattle.std.proofs.Common.{◌⊎◌, inl, inr, ⊎_elim, ℕ, List, Option}
use Rattle.flow_types.specs.declared.plan.Plan.{Plan}
use Rattle.flow_types.specs.declared.numbers.Content.{Content}
use Rattle.flow_types.specs.declared.job.Job.{Job}
use Rattle.flow_types.specs.declared.job.Failure.{Failure}
use Rattle.flow_types.specs.declared.records.Record.{Record}
use Rattle.flow_types.specs.Serial.{Contents, Function}
use Rattle.outside.specs.Disk.{IsImage, Outcomes}
use Rattle.outside.specs.Files.{Files}
use Rattle.file_store.specs.Outputs.{file_name}
use Rattle.desk.specs.Kept.{Fits, Keeps, WasKept}
use Rattle.local_run.specs.Runs.{Adds, Held, IsKeeping, IsStanding, SerialFits}

module _ (one two : Plan → ℕ → Content → Option (List ℕ) → Type 0) (P : Plan) (log : List ℕ) (so : (f : ℕ) (c : Content) (file : Option (List ℕ)) → one P f c file → two P f c file) where
  pub keeps_fits : (H : List Record) (image : Files) → Keeps one P log H image → Keeps two P log H image
  keeps_fits H image k = record { spells = k.spells; legal = k.legal; files = λ f c present. so f c (image (file_name P f)) (k.files f c present) }

  pub was_fits : (past : Type 0) (base : ℕ) (H : List Record) (cut : Type 0) (image : Files) → past ⊎ WasKept one P log base H cut image → past ⊎ WasKept two P log base H cut image
  was_fits past base H cut image left =
      ⊎_elim (λ (p : past). inl p)
      (λ (k : WasKept one P log base H cut image). inr (record { records = k.records; since = k.since; kept = keeps_fits k.records image k.kept; known = k.known })) left

-- what stands for the serial run is kept
pub standing_keeps : (gives : Function) (sources : Contents) (P : Plan) (log : List ℕ) (H : List Record) (outcomes : Outcomes) → IsStanding gives sources P log H outcomes → IsKeeping P log H outcomes
standing_keeps gives sources P log H outcomes standing image is = keeps_fits (SerialFits gives sources) Held P log (λ f c file fit. fit.0) H image (standing image is)

-- where there is trust the images fit
pub trusted_keeps : (trust : Type 0) (gives : Function) (sources : Contents) (P : Plan) (log : List ℕ) (H : List Record) (outcomes : Outcomes) → (trust → IsStanding gives sources P log H outcomes) → IsKeeping P log H outcomes
    → (image : Files) → IsImage outcomes image → Keeps (Fits trust gives sources) P log H image
trusted_keeps trust gives sources P log H outcomes stands keeps image is = record {
  spells = (keeps image is).spells;
  legal = (keeps image is).legal;
  files = λ f c present. ((keeps image is).files f c present, λ trusted. ((stands trusted image is).files f c present).1);
}

pub adds_always : (trust : Type 0) (gives : Function) (may_fail : Job → Failure → Type 0) (sources : Contents) (P : Plan) (H all : List Record) → trust → Adds trust gives may_fail sources P H all
    → Adds (Unit {0}) gives may_fail sources P H all
adds_always trust gives may_fail sources P H all trusted adds = record { more = adds.more; are = adds.are; honest = λ always. adds.honest trusted }
