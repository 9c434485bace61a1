-- What comes of the opening of a run.
use Rattle.std.specs.Prelude.{◌≡◌, ◌≢◌, ◌<◌, ℕ, true, List, Option, Result, Ok, Err}
use Rattle.flow_types.specs.declared.numbers.LinkNo.{LinkNo}
use Rattle.flow_types.specs.declared.plan.Plan.{Plan}
use Rattle.flow_types.specs.declared.records.Record.{Record}
use Rattle.run_history.specs.declared.answers.Check.{Check}
use Rattle.run_history.specs.declared.options.Options.{Options}
use Rattle.outside.specs.Disk.{IsImage, LeavesOnly, Outcomes, Within}
use Rattle.outside.specs.Files.{Files}
use Rattle.desk.specs.declared.answers.StartRefused.{StartRefused}
use Rattle.desk.specs.Begins.{BeginsRun}
use Rattle.desk.specs.Kept.{IsLegal}
use Rattle.desk.specs.Openings.{IsNoSource}
use Rattle.desk.specs.State.{DeskState}
use Rattle.local_run.specs.declared.ended.Stopped.{Stopped}
use Rattle.local_run.specs.Ends.{StartEnds, run_fault}
use Rattle.local_run.specs.Runs.{HasCauses, IsAdmitted, IsCutAtStart, IsCutRun, IsEarlyRun, IsHallEnd, IsRefusedRun}
use Rattle.flow_run.specs.declared.opening.Unopened.{Unopened}

-- how a run ended that wasn't opened
abbrev pub how_of : {S : Type 0} → Unopened S → Result Check Stopped
how_of left = Err left.why

-- the site that is left
abbrev pub site_at : {S : Type 0} → Result (DeskState S) (Unopened S) → S
site_at (Ok d) = d.site
site_at (Err left) = left.site

-- It is the desk of a run that begins over these records.
abbrev pub OpensDesk : {S : Type 0} → (S → ℕ) → Plan → Options → List ℕ → List Record → ℕ → Type 0 → Files → S → DeskState S → Type 0
OpensDesk {S} count P O log H moment tells files old d = BeginsRun count P O log H moment tells files old (let begun : Result (DeskState S) (StartRefused S) = Ok d in begun)

-- The run wasn't opened, and the records are as they were. It is told why: for what stands in its way, or by a failure of the site, or of the hall where that is asked.
pub record Declines {S : Type 0} (count : S → ℕ) (P : Plan) (O : Options) (H : List Record) (tells : Type 0) (files : Files) (old : S) (hall hall_now : ℕ) (left : Unopened S) : Type 0 where
  pub refused : IsRefusedRun (how_of left)
  pub same : left.records ≡ H
  pub legal : IsAdmitted (how_of left) → IsLegal P H
  pub causes : (runner runner_now : ℕ) → HasCauses (count old) (count left.site) runner runner_now (how_of left)
  pub starts : tells → StartEnds (run_fault P O H files) (how_of left)
  pub early : IsEarlyRun (how_of left) → left.site ≡ old
  pub failed : IsHallEnd (how_of left) → (O.wq ≡ true) × (hall < hall_now)

-- Unless the site failed or memory was wanting, a crash leaves what it might have left before.
abbrev pub LeavesAsWas : {S : Type 0} → (S → Outcomes) → (S → ℕ) → (S → ℕ → Files → Type 0) → S → Unopened S → Type 0
LeavesAsWas may_leave moment images_since old left =
    (IsCutRun (how_of left) → ⊥) → Within (may_leave old) (may_leave left.site) × LeavesOnly moment images_since old left.site (IsImage (may_leave old))

-- The name isn't the log's. Where the looks at the files were cut short it isn't that of a source either.
abbrev pub IsSparedAt : {S : Type 0} → Plan → List ℕ → Result (DeskState S) (Unopened S) → List ℕ → Type 0
IsSparedAt P log (Ok d) m = m ≢ log
IsSparedAt P log (Err left) m = (m ≢ log) × (IsCutAtStart (how_of left) → IsNoSource P m)

-- The hall gave no link and was handed none back, and nobody was waited for.
pub record MeetsNobody {L : Type 0} (got got_now : List (Option LinkNo × L)) (given given_now idles idles_now : ℕ) : Type 0 where
  pub none_back : got_now ≡ got
  pub none_given : given_now ≡ given
  pub none_awaited : idles_now ≡ idles
