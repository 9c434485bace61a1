-- The kinds of causes, their exit statuses, and what a call that ended so may have done.
use Rattle.std.specs.Prelude.{ℕ, Bool, true, false}
use Rattle.report.specs.declared.cause.Cause.{Cause}
use Rattle.report.specs.declared.cause.Cause.TheVariants.{Complete, Cleaned, Printed, CommandFailed, Usage, FlowMissing, FlowRefused, LogNameTaken, NeedsTooMuch, LogDamaged, OtherFlow, NotLegal, StoredAboveLimit, SourceMissing, SourceTooLarge, SourceChanged, FileDamaged, SiteFault, RunnerFault, HallFault, SinkFault, NoRoom, InputsTooLarge, Waited, Memory, LogFull}
use Rattle.report.specs.declared.cause.Kind.{Kind}
use Rattle.report.specs.declared.cause.Kind.TheVariants.{Completed, Told, LogPrinted, RuleFailed, WrongWords, WrongFlow, WrongLog, WrongFile, PastLimit, LogFilled, SiteBroke, RunnerBroke, HallBroke, SinkBroke, WaitedOut, NoMemory}

-- the kind of a cause
abbrev pub kind_of : Cause → Kind
kind_of (Complete rules collected) = Completed
kind_of (Cleaned removed) = Told
kind_of (Printed lines) = LogPrinted
kind_of (CommandFailed rule why) = RuleFailed
kind_of Usage = WrongWords
kind_of (FlowMissing name) = WrongFlow
kind_of (FlowRefused flow fault) = WrongFlow
kind_of (LogNameTaken file) = WrongFlow
kind_of (NeedsTooMuch rule need total) = WrongFlow
kind_of (LogDamaged at) = WrongLog
kind_of (OtherFlow logged found) = WrongLog
kind_of (NotLegal at) = WrongLog
kind_of (StoredAboveLimit stored limit) = WrongFile
kind_of (SourceMissing file) = WrongFile
kind_of (SourceTooLarge file size) = WrongFile
kind_of (SourceChanged file logged found) = WrongFile
kind_of (FileDamaged file logged found) = WrongFile
kind_of (SiteFault before after) = SiteBroke
kind_of (RunnerFault before after) = RunnerBroke
kind_of (HallFault before after) = HallBroke
kind_of (SinkFault before after) = SinkBroke
kind_of (NoRoom rule need stored limit) = PastLimit
kind_of (InputsTooLarge rule total) = PastLimit
kind_of (Waited wait) = WaitedOut
kind_of Memory = NoMemory
kind_of (LogFull records) = LogFilled

-- the exit status of a kind
abbrev pub status_of_kind : Kind → ℕ
status_of_kind Completed = 0
status_of_kind Told = 0
status_of_kind LogPrinted = 0
status_of_kind RuleFailed = 1
status_of_kind WrongWords = 2
status_of_kind WrongFlow = 3
status_of_kind WrongLog = 4
status_of_kind WrongFile = 4
status_of_kind SiteBroke = 5
status_of_kind RunnerBroke = 5
status_of_kind HallBroke = 5
status_of_kind SinkBroke = 5
status_of_kind PastLimit = 6
status_of_kind WaitedOut = 7
status_of_kind NoMemory = 8
status_of_kind LogFilled = 9

-- the exit status of a cause
abbrev pub status_of : Cause → ℕ
status_of cause = status_of_kind (kind_of cause)

-- a line is printed for each kind but a fault of what takes the lines, and a printed log, whose own lines stand in its place
abbrev pub is_printed : Kind → Bool
is_printed SinkBroke = false
is_printed LogPrinted = false
is_printed _ = true

-- what may come in the place of any other cause
abbrev pub may_replace : Kind → Bool
may_replace SiteBroke = true
may_replace NoMemory = true
may_replace _ = false

-- the end of what was asked for: only of these a fault of what takes the lines takes the place
abbrev pub is_end : Kind → Bool
is_end Completed = true
is_end Told = true
is_end LogPrinted = true
is_end RuleFailed = true
is_end PastLimit = true
is_end WaitedOut = true
is_end LogFilled = true
is_end _ = false

-- a run that was stopped at once: by a file that isn't what it has to be, by what runs the commands, by the network where workers are met, by the folder or by want of memory
abbrev pub is_stopped : Kind → Bool
is_stopped WrongFile = true
is_stopped SiteBroke = true
is_stopped RunnerBroke = true
is_stopped HallBroke = true
is_stopped NoMemory = true
is_stopped _ = false

-- a call that changed no file
abbrev pub is_refusal : Kind → Bool
is_refusal WrongWords = true
is_refusal WrongFlow = true
is_refusal WrongLog = true
is_refusal _ = false

-- the log was read, and nothing was wrong with it
abbrev pub was_read : Kind → Bool
was_read WrongWords = false
was_read WrongFlow = false
was_read WrongLog = false
was_read SiteBroke = false
was_read NoMemory = false
was_read _ = true

-- only where a call ended so an attempt on this machine was given up
abbrev pub may_lose : Kind → Bool
may_lose kind = is_stopped kind

-- what doesn't come where no command fails and what runs them doesn't either
abbrev pub is_failing : Kind → Bool
is_failing RuleFailed = true
is_failing RunnerBroke = true
is_failing _ = false

-- how a run ends that can come to its end
abbrev pub is_completion : Kind → Bool
is_completion Completed = true
is_completion NoMemory = true
is_completion _ = false

-- the call may have ended in the midst of an append
abbrev pub is_cut : Kind → Bool
is_cut SiteBroke = true
is_cut NoMemory = true
is_cut _ = false
