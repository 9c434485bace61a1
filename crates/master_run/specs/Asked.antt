-- What words, environment and files ask for, or the first refusal. Each stage is asked once the ones before it let pass.
use Rattle.std.specs.Prelude.{◌≡◌, ℕ, Bool, true, false, List, map, string_bytes, Option, Some, None, Result, Ok, Err, ok_or}
use Rattle.std.proofs.Common.{String, Global}
use Rattle.flow_types.specs.declared.flow.RawFlow.{RawFlow}
use Rattle.flow_types.specs.declared.plan.Plan.{Plan}
use Rattle.mf_text.specs.declared.fault.MakeFault.{MakeFault}
use Rattle.mf_rules.specs.Flow.{flow_of, given_pairs}
use Rattle.jx_flow.specs.declared.fault.JxFlowFault.{JxFlowFault}
use Rattle.jx_flow.specs.Flow.{flow_of_text}
use Rattle.flow_gen.specs.Generated.{generated}
use Rattle.rule_graph.specs.declared.faults.GraphFault.{GraphFault}
use Rattle.rule_graph.specs.Faults.{plan_of}
use Rattle.outside.specs.Files.{Files}
use Rattle.run_history.specs.declared.options.Options.{Options as RunOptions}
use Rattle.run_history.specs.declared.options.Mode.{Mode as RunMode}
use Rattle.run_history.specs.declared.options.Mode.TheVariants as run_modes
use Rattle.command_words.specs.declared.options.Mode.{Mode}
use Rattle.command_words.specs.declared.options.Mode.TheVariants.{Never, RefCount, OnDemand}
use Rattle.command_words.specs.declared.options.Options.{Options}
use Rattle.command_words.specs.declared.options.Transport.{Transport}
use Rattle.command_words.specs.declared.options.Transport.TheVariants as transports
use Rattle.wq_run.specs.declared.workers.Workers.{Workers}
use Rattle.command_words.specs.declared.options.Flow.{Flow}
use Rattle.command_words.specs.declared.options.Flow.TheVariants.{File, Generated}
use Rattle.command_words.specs.declared.options.Language.{Language}
use Rattle.command_words.specs.declared.options.Language.TheVariants as language
use Rattle.report.specs.declared.cause.FlowFault.TheVariants.{Make, Jx, Graph}
use Rattle.report.specs.declared.cause.Cause.{Cause}
use Rattle.report.specs.declared.cause.Cause.TheVariants.{FlowMissing, FlowRefused}
use Rattle.master_run.specs.declared.ask.Ask.{Ask}
use Rattle.master_run.specs.Words.{and_then, chosen, generated_name}
use Rattle.master_run.specs.LogNames.{with_log_name}
use Rattle.master_run.specs.Needs.{with_needs}

-- the text of the flow file
abbrev pub flow_text : Files → List ℕ → Result (List ℕ) Cause
flow_text files name = ok_or (files name) (FlowMissing name)

-- the flow of a Makeflow text, or its refusal
abbrev pub read_make : List ℕ → Result RawFlow MakeFault → Result RawFlow Cause
read_make name (Ok flow) = Ok flow
read_make name (Err fault) = Err (FlowRefused name (Make fault))

-- the flow of a JX text, or its refusal
abbrev pub read_jx : List ℕ → Result RawFlow JxFlowFault → Result RawFlow Cause
read_jx name (Ok flow) = Ok flow
read_jx name (Err fault) = Err (FlowRefused name (Jx fault))

-- the flow of a text in this language, or its refusal
abbrev pub read_flow : Language → List (List ℕ × List ℕ) → List ℕ → List ℕ → Result RawFlow Cause
read_flow language.Make env name text = read_make name (flow_of env text)
read_flow language.Jx env name text = read_jx name (flow_of_text text)

-- the plan of a flow, or its refusal
abbrev pub read_rules : List ℕ → Result Plan GraphFault → Result Plan Cause
read_rules name (Ok plan) = Ok plan
read_rules name (Err fault) = Err (FlowRefused name (Graph fault))

-- the plan of the text of the flow of this name, in this language
abbrev pub flow_plan : Language → List (List ℕ × List ℕ) → List ℕ → List ℕ → Result Plan Cause
flow_plan language env name text = and_then (read_flow language env name text) (λ flow. read_rules name (plan_of flow))

-- the plan of the flow of so many rules that is made up
abbrev pub generated_rules : ℕ → Result Plan Cause
generated_rules rules = read_rules generated_name (plan_of (generated rules))

-- the plan, where the log can have its name beside that of the flow file, if there is one, and no rule needs more than there is by these options
abbrev pub checked : List ℕ → Option (List ℕ) → RunOptions → Plan → Result Plan Cause
checked log name O P = and_then (with_log_name log name P) (with_needs O)

-- the plan of the flow file of this name, where its log and its needs let it be run
abbrev pub file_plan : Language → List (List ℕ × List ℕ) → Files → List ℕ → List ℕ → RunOptions → Result Plan Cause
file_plan language env files name log O = and_then (and_then (flow_text files name) (flow_plan language env name)) (checked log (Some name) O)

-- the plan of the flow of so many rules that is made up, where its log and its needs let it be run; no file is read
abbrev pub generated_plan : ℕ → List ℕ → RunOptions → Result Plan Cause
generated_plan rules log O = and_then (generated_rules rules) (checked log None O)

-- the plan of this flow, where its log and its needs let it be run
abbrev pub plan_by : Flow → List (List ℕ × List ℕ) → Files → List ℕ → RunOptions → Result Plan Cause
plan_by (File name language) env files log O = file_plan language env files name log O
plan_by (Generated rules) env files log O = generated_plan rules log O

-- when a run collects files, by the words
abbrev pub run_mode : Mode → RunMode
run_mode Never = run_modes.Never
run_mode RefCount = run_modes.RefCount
run_mode OnDemand = run_modes.OnDemand

-- rules run at workers, but for the LOCAL ones
abbrev pub has_workers : Transport → Bool
has_workers transports.Local = false
has_workers transports.WorkQueue = true

-- what a run goes by
abbrev pub run_options : Options → RunOptions
run_options options = record { mode = run_mode options.mode; limit = options.limits.storage; retries = options.limits.retries; wq = has_workers options.service.transport; local = options.local }

-- where workers come, and how long is waited for them
abbrev pub workers_of : Options → Workers
workers_of options = record { port = options.service.port; limit = options.limits.idle }

-- No worker is asked for: every rule runs on this machine.
abbrev pub IsLocal : Result Options Cause → Type 0
IsLocal (Ok options) = has_workers options.service.transport ≡ false
IsLocal (Err refusal) = Unit {0}

-- what is asked for of this plan
abbrev pub ask_of : Options → Plan → Ask
ask_of options P = record { plan = P; work = options.work; log = options.log; options = run_options options; workers = workers_of options; jobs = options.service.jobs }

-- the same where there is a plan
abbrev pub ask_by : Options → Result Plan Cause → Result Ask Cause
ask_by options (Ok P) = Ok (ask_of options P)
ask_by options (Err cause) = Err cause

-- what these options ask for
abbrev pub asked_by : List (List ℕ × List ℕ) → Files → Options → Result Ask Cause
asked_by env files options = ask_by options (plan_by options.flow env files options.log (run_options options))

-- what words, environment and files ask for
abbrev pub asked : List (List ℕ) → List (List ℕ × List ℕ) → Files → Result Ask Cause
asked words env files = and_then (chosen words) (asked_by env files)

-- what the words of a call choose
abbrev pub choice : List (String Global) → Result Options Cause
choice words = chosen (map string_bytes words)

-- what a call with these words and this environment asks for over these files
abbrev pub request : List (String Global) → List (String Global × String Global) → Files
    → Result Ask Cause
request words env files = asked (map string_bytes words) (given_pairs env) files
