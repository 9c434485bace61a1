-- What the promises on contents and on the end of a run ask of a call, and that it holds of one over the flow.
use Rattle.std.specs.Prelude.{◌≡◌, ℕ, true, false, List, [], Option, None, Ok}
use Rattle.flow_types.specs.declared.job.Job.{Job}
use Rattle.flow_types.specs.Serial.{Contents, serial}
use Rattle.outside.specs.Disk.{Outcomes}
use Rattle.outside.specs.Files.{Files}
use Rattle.txn_log.specs.Spells.{Spells}
use Rattle.worker_pool.specs.Crews.{AllSure, AllTell}
use Rattle.local_run.specs.Completing.{HasRecordRoom, HasSources, SerialInputsFit}
use Rattle.local_run.specs.Course.{TellsJobs}
use Rattle.local_run.specs.Moments.{IsMoment, IsResumable}
use Rattle.local_run.specs.Runs.{SerialFits, read_sources}
use Rattle.command_words.specs.declared.options.Work.TheVariants.{Run}
use Rattle.report.specs.declared.cause.Cause.{Cause}
use Rattle.master_run.specs.declared.ask.Ask.{Ask}
use Rattle.master_run.specs.Asked.{ask_of, asked}
use Rattle.master_run.specs.Counts.{Counts}
use Rattle.master_run.specs.Ends.{NoneRose, run_refusal}
use Rattle.master_run.specs.Serves.{CanComplete, Completes}
use Rattle.mem_commands.specs.declared.runner.JoinedRunner.{JoinedRunner}
use Rattle.mem_commands.specs.Joins.{is_sure}
use Rattle.mem_outside.specs.declared.mem_site.MemSite.{MemSite}
use Rattle.mem_outside.specs.MemSite.{leaves_of}
use Rattle.worked_run.specs.Worked.{call_words, chosen_options, entry_files, joins, plan}

-- what the words and the files ask for
abbrev pub ask : Ask
ask = ask_of chosen_options plan

-- the contents of the sources, as reads give them at the entry
abbrev pub entry_sources : Contents
entry_sources = read_sources ask.plan entry_files

-- Each of the runners tells of the job, as each does of every job.
abbrev pub AreTold : List JoinedRunner → Job → Type 0
AreTold runners job = AllTell (λ runner told. Unit {0}) runners job

-- Each of the runners is sure.
abbrev pub AreSure : List JoinedRunner → Type 0
AreSure runners = AllSure (λ runner. is_sure runner ≡ true) runners

-- All that the promises on contents and on the end of a run ask, but that the runners are sure and that nothing fails: of a call with these runners, whatever a crash might leave at its entry.
pub record Meets (runners : List JoinedRunner) (outcomes : Outcomes) : Type 0 where
  pub asked : asked call_words [] entry_files ≡ Ok ask
  pub spelled : Spells [] (entry_files ask.log)
  pub resumable : IsResumable (SerialFits joins entry_sources) ask.plan ask.log [] outcomes
  pub told : TellsJobs ask.plan ask.options (AreTold runners) (serial ask.plan joins entry_sources)
  pub here : ask.options.wq ≡ false
  pub runs : ask.work ≡ Run
  pub unlimited : ask.options.limit ≡ None
  pub free : run_refusal ask.plan ask.options [] entry_files ≡ None
  pub sources : HasSources ask.plan entry_files
  pub fit : SerialInputsFit ask.plan joins entry_sources
  pub room : HasRecordRoom ask.plan []

-- They hold together.
abbrev pub PremisesHold : Type 0
PremisesHold = (runners : List JoinedRunner) (site : MemSite) → Meets runners (leaves_of site)

-- So with sure runners, where no count rises, what is said of how a run ends that can be completed says of such a call that every rule is complete, or that memory was wanting.
abbrev pub RunsComplete : Type 0
RunsComplete =
    (runners : List JoinedRunner) (site : MemSite) (before after : Counts) (cause : Cause) → AreSure runners → NoneRose before after
    → CanComplete joins (AreTold runners) (AreSure runners) ask entry_files (leaves_of site) [] before after cause
    → Completes None cause
