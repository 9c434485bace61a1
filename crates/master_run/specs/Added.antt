-- What a call adds to the records of the log.
use Rattle.std.specs.Prelude.{◌≡◌, ◌≢◌, ◌⊎◌, ℕ, List, [], Some, None}
use Rattle.flow_types.specs.declared.records.Record.{Record}
use Rattle.flow_types.specs.declared.records.EndKind.{EndKind}
use Rattle.flow_types.specs.declared.records.EndKind.TheVariants as kinds
use Rattle.run_history.specs.declared.options.Options.{Options as RunOptions}
use Rattle.cleaning.specs.Cleanings.{AreEither, ended_records}
use Rattle.command_words.specs.declared.options.Work.{Work}
use Rattle.command_words.specs.declared.options.Work.TheVariants as works
use Rattle.local_run.specs.Added.{AddsOneRun}
use Rattle.report.specs.declared.cause.Cause.{Cause}
use Rattle.report.specs.declared.cause.Cause.TheVariants as causes
use Rattle.master_run.specs.declared.ask.Ask.{Ask}

-- One run with this Ended.
abbrev pub AddsEnded : RunOptions → List Record → List Record → EndKind → Type 0
AddsEnded O H all kind = AddsOneRun O H all (λ k. k ≡ Some kind)

-- One run without an Ended.
abbrev pub AddsStopped : RunOptions → List Record → List Record → Type 0
AddsStopped O H all = AddsOneRun O H all (λ k. k ≡ None)

-- One run, which may have any Ended but a cleaning's.
abbrev pub AddsSome : RunOptions → List Record → List Record → Type 0
AddsSome O H all = AddsOneRun O H all (λ k. k ≢ Some kinds.Cleaned)

-- nothing was added, or the log wasn't read
abbrev pub AddsNone : List Record → List Record → Type 0
AddsNone H all = (all ≡ H) ⊎ (all ≡ [])

-- What a run adds to these records by this cause. An end but that of a full log asks for one run with its Ended; what stops a run leaves one without; where a run isn't started nothing is added. Where memory was wanting, or the sink failed, it may be each of these.
abbrev pub RunAddsBy : RunOptions → List Record → List Record → Cause → Type 0
RunAddsBy O H all (causes.Complete rules collected) = AddsEnded O H all kinds.Complete
RunAddsBy O H all (causes.CommandFailed rule why) = AddsEnded O H all kinds.CommandFailed
RunAddsBy O H all (causes.InputsTooLarge rule total) = AddsEnded O H all kinds.InputsTooLarge
RunAddsBy O H all (causes.NoRoom rule need stored limit) = AddsEnded O H all kinds.NoRoom
RunAddsBy O H all (causes.Waited wait) = AddsEnded O H all kinds.Waited
RunAddsBy O H all (causes.LogFull records) = (all ≡ H) ⊎ AddsStopped O H all
RunAddsBy O H all (causes.SourceChanged file logged found) = (all ≡ H) ⊎ AddsStopped O H all
RunAddsBy O H all (causes.FileDamaged file logged found) = (all ≡ H) ⊎ AddsStopped O H all
RunAddsBy O H all (causes.RunnerFault old new) = AddsStopped O H all
RunAddsBy O H all (causes.HallFault old new) = (all ≡ H) ⊎ AddsStopped O H all
RunAddsBy O H all (causes.SiteFault old new) = AddsNone H all ⊎ AddsStopped O H all
RunAddsBy O H all (causes.SinkFault old new) = (all ≡ H) ⊎ AddsSome O H all
RunAddsBy O H all causes.Memory = AddsNone H all ⊎ AddsSome O H all
RunAddsBy O H all cause = all ≡ H

-- What a cleaning adds by this cause: one end of the part where that was begun, and nothing where it is refused. Where the site failed, memory was wanting or the sink failed, it may be either.
abbrev pub CleanAddsBy : List Record → List Record → Cause → Type 0
CleanAddsBy H all (causes.Cleaned removed) = (moment : ℕ) × (all ≡ ended_records H moment)
CleanAddsBy H all (causes.SinkFault old new) = (moment : ℕ) × AreEither H moment all
CleanAddsBy H all (causes.SiteFault old new) = (all ≡ []) ⊎ ((moment : ℕ) × AreEither H moment all)
CleanAddsBy H all causes.Memory = (all ≡ []) ⊎ ((moment : ℕ) × AreEither H moment all)
CleanAddsBy H all cause = all ≡ H

-- What a printing adds by this cause: nothing.
abbrev pub PrintAddsBy : List Record → List Record → Cause → Type 0
PrintAddsBy H all (causes.SiteFault old new) = AddsNone H all
PrintAddsBy H all causes.Memory = AddsNone H all
PrintAddsBy H all cause = all ≡ H

-- the same of what was asked for
abbrev pub AddsBy : Work → RunOptions → List Record → List Record → Cause → Type 0
AddsBy works.Run O H all cause = RunAddsBy O H all cause
AddsBy works.Clean O H all cause = CleanAddsBy H all cause
AddsBy works.PrintLog O H all cause = PrintAddsBy H all cause

-- What a call adds of which this was asked, and which ended by this cause.
abbrev pub CallAdds : Ask → List Record → List Record → Cause → Type 0
CallAdds ask H all cause = AddsBy ask.work ask.options H all cause
