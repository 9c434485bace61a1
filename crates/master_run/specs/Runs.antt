-- The causes of how the parts of a call end.
use Rattle.std.specs.Prelude.{length, Result, Ok, Err, if◌then◌else◌}
use Rattle.flow_types.specs.declared.plan.Plan.{Plan}
use Rattle.flow_types.specs.declared.numbers.Content.{Content}
use Rattle.flow_types.specs.declared.numbers.FileNo.{FileNo}
use Rattle.flow_types.specs.Plans.{is_source}
use Rattle.run_history.specs.declared.answers.Check.{Check}
use Rattle.run_history.specs.declared.states.Found.{Found}
use Rattle.outside.specs.declared.fault.Fault.{Fault}
use Rattle.outside.specs.declared.fault.Fault.TheVariants as devices
use Rattle.log_recover.specs.declared.fault.RecoverFault.{RecoverFault}
use Rattle.log_recover.specs.declared.fault.RecoverFault.TheVariants as recovery
use Rattle.desk.specs.declared.answers.StartFault.{StartFault}
use Rattle.desk.specs.declared.answers.StartFault.TheVariants as faults
use Rattle.local_run.specs.declared.halt.Halt.{Halt}
use Rattle.local_run.specs.declared.halt.Halt.TheVariants as halts
use Rattle.local_run.specs.declared.ended.Stopped.{Stopped}
use Rattle.local_run.specs.declared.ended.Stopped.TheVariants as stopped
use Rattle.cleaning.specs.declared.answers.CleanFault.{CleanFault}
use Rattle.cleaning.specs.declared.answers.CleanFault.TheVariants as cleans
use Rattle.cleaning.specs.declared.answers.LookFault.{LookFault}
use Rattle.cleaning.specs.declared.answers.LookFault.TheVariants as looks
use Rattle.report.specs.declared.cause.Cause.{Cause}
use Rattle.report.specs.declared.cause.Cause.TheVariants as causes
use Rattle.master_run.specs.declared.asking.Refusal.{Refusal}
use Rattle.master_run.specs.declared.asking.Refusal.TheVariants as refusals
use Rattle.master_run.specs.declared.rises.Rise.{Rise}
use Rattle.master_run.specs.Ends.{end_cause, start_cause}

-- the cause of the site's failure, with its two counts
abbrev pub site_cause : Rise → Cause
site_cause site = causes.SiteFault site.before site.after

-- the cause of a start that is refused
abbrev pub refused_cause : Rise → StartFault → Cause
refused_cause site (faults.Site old new) = site_cause site
refused_cause site why = start_cause why

-- the cause of a damaged input, by whether it is a source
abbrev pub damage_cause : Plan → FileNo → Content → Found → Cause
damage_cause P file logged found = if is_source P file.0 then causes.SourceChanged file logged found else causes.FileDamaged file logged found

-- the cause of a halt, by the two counts of the site and those of a runner
abbrev pub halt_cause : Rise → Rise → Plan → Halt → Cause
halt_cause site runner P (halts.Damaged file logged found) = damage_cause P file logged found
halt_cause site runner P halts.Runner = causes.RunnerFault runner.before runner.after
halt_cause site runner P halts.Site = site_cause site
halt_cause site runner P halts.Memory = causes.Memory

-- the cause of a hall that can't listen
abbrev pub unheard_cause : Rise → Fault → Cause
unheard_cause hall devices.Failed = causes.HallFault hall.before hall.after
unheard_cause hall devices.Memory = causes.Memory

-- the cause of an opening that isn't logged
abbrev pub unopened_cause : Rise → Fault → Cause
unopened_cause site devices.Failed = site_cause site
unopened_cause site devices.Memory = causes.Memory

-- the cause of how a run ended, by the two counts of the site, those of a runner and those of the hall
abbrev pub run_cause : Rise → Rise → Rise → Plan → Result Check Stopped → Cause
run_cause site runner hall P (Ok check) = end_cause (length P.rules) check
run_cause site runner hall P (Err (stopped.Refused why)) = refused_cause site why
run_cause site runner hall P (Err (stopped.Halted halt)) = halt_cause site runner P halt
run_cause site runner hall P (Err stopped.Hall) = causes.HallFault hall.before hall.after
run_cause site runner hall P (Err (stopped.Unheard fault)) = unheard_cause hall fault
run_cause site runner hall P (Err (stopped.Unopened fault)) = unopened_cause site fault

-- the cause of a log that isn't read
abbrev pub unread_cause : Rise → RecoverFault → Cause
unread_cause site recovery.Site = site_cause site
unread_cause site recovery.BadHeader = causes.LogDamaged 0
unread_cause site (recovery.BadRecord at) = causes.LogDamaged at
unread_cause site recovery.Memory = causes.Memory

-- the cause of a log that can't be used
abbrev pub look_cause : Rise → LookFault → Cause
look_cause site (looks.Log why) = unread_cause site why
look_cause site (looks.OtherFlow logged found) = causes.OtherFlow logged found
look_cause site (looks.NotLegal at) = causes.NotLegal at
look_cause site looks.Memory = causes.Memory

-- the cause of a part that isn't cleaned
abbrev pub clean_cause : Rise → CleanFault → Cause
clean_cause site (cleans.Look why) = look_cause site why
clean_cause site (cleans.LogFull records) = causes.LogFull records
clean_cause site cleans.Site = site_cause site
clean_cause site cleans.Memory = causes.Memory

-- the cause of a refusal
abbrev pub refusal_cause : Rise → Refusal → Cause
refusal_cause site (refusals.Said cause) = cause
refusal_cause site refusals.Site = site_cause site
refusal_cause site refusals.Memory = causes.Memory
