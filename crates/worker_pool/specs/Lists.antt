-- A list of jobs, each of which is run once.
use Rattle.std.specs.Prelude.{◌≡◌, ◌≤◌, ◌<◌, ◌+◌, ℕ, Bool, true, List, [], ◌∷◌, ◌++◌, length, nat_lt, if◌then◌else◌}
use Rattle.flow_types.specs.declared.job.Job.{Job}
use Rattle.flow_types.specs.declared.job.Outcome.{Outcome}
use Rattle.flow_types.specs.declared.job.Start.{Start}
use Rattle.flow_types.specs.declared.job.Report.{Report}
use Rattle.worker_pool.specs.declared.step.Step.{Step}
use Rattle.worker_pool.specs.declared.step.Step.TheVariants.{Give, Look, Done}
use Rattle.worker_pool.specs.declared.hand.Tally.{Tally}
use Rattle.worker_pool.specs.Courses.{NoneHas, TakesOut}
use Rattle.worker_pool.specs.Tallies.{none, plus, tally_of}

-- No two jobs have one attempt.
abbrev pub AreApart : List Start → Type 0
AreApart [] = Unit {0}
AreApart (start ∷ starts) = NoneHas start.attempt starts × AreApart starts

-- the jobs that are left, the reports so far, and how many reports there is room for
pub record JobsState : Type 0 where
  pub left : List Start
  pub reports : List Report
  pub room : ℕ

-- The first job goes, and Done comes only where none is left.
abbrev pub IsAsked : JobsState → Step → JobsState → Type 0
IsAsked old (Give start) new = old ≡ record new { left = start ∷ new.left }
IsAsked old Look new = ⊥
IsAsked old Done new = (new ≡ old) × (old.left ≡ [])

-- The report is added behind the others, where there is room.
abbrev pub IsTold : JobsState → Report → JobsState → Type 0
IsTold old report new = new ≡ record old {
  reports = if nat_lt (length old.reports) old.room then old.reports ++ (report ∷ []) else old.reports;
}

-- Each job is reported once, in some order: the report has the job's attempt, and its outcome fits the job.
abbrev pub Reported : (Job → Outcome → Type 0) → List Start → List Report → Type 0
Reported fits jobs [] = jobs ≡ []
Reported fits jobs (report ∷ reports) =
    (start : Start) × (rest : List Start) × TakesOut start jobs rest
    × (start.attempt ≡ report.attempt) × fits start.job report.outcome × Reported fits rest reports

-- how many of the reported jobs weren't run, and how many failed
abbrev pub reported_of : List Report → Tally
reported_of [] = none
reported_of (report ∷ reports) = plus (tally_of report.outcome) (reported_of reports)
