-- The printed line of each cause.
use Rattle.std.specs.Prelude.{ℕ, List, [], ◌++◌, codes, slice_get, if◌then◌else◌}
use Rattle.std.specs.List.{flat_map}
use Rattle.std.specs.Option.{option_map_or}
use Rattle.std.specs.Fmt.{decimal, signed_decimal}
use Rattle.flow_types.specs.declared.plan.Plan.{Plan}
use Rattle.flow_types.specs.declared.plan.Rule.{Rule}
use Rattle.flow_types.specs.declared.job.Failure.{Failure}
use Rattle.flow_types.specs.declared.job.Failure.TheVariants.{Status, MissingOutput, TooLong}
use Rattle.mf_text.specs.declared.fault.MakeFault.{MakeFault}
use Rattle.mf_text.specs.declared.fault.MakeFault.TheVariants as make
use Rattle.rule_graph.specs.declared.faults.GraphFault.{GraphFault}
use Rattle.rule_graph.specs.declared.faults.GraphFault.TheVariants as graph
use Rattle.report.specs.declared.cause.FlowFault.{FlowFault}
use Rattle.jx_tokens.specs.declared.fault.JxFault.{JxFault}
use Rattle.jx_tokens.specs.declared.fault.JxFault.TheVariants as syntax
use Rattle.jx_meaning.specs.declared.fault.EvalFault.{EvalFault}
use Rattle.jx_meaning.specs.declared.fault.EvalFault.TheVariants as evaluation
use Rattle.jx_flow.specs.declared.fault.JxFlowFault.{JxFlowFault}
use Rattle.jx_flow.specs.declared.fault.JxFlowFault.TheVariants as jx
use Rattle.report.specs.declared.cause.FlowFault.TheVariants.{Make, Jx, Graph}
use Rattle.report.specs.declared.cause.Cause.{Cause}
use Rattle.report.specs.declared.cause.Cause.TheVariants.{Complete, Cleaned, Printed, CommandFailed, Usage, FlowMissing, FlowRefused, LogNameTaken, NeedsTooMuch, LogDamaged, OtherFlow, NotLegal, StoredAboveLimit, SourceMissing, SourceTooLarge, SourceChanged, FileDamaged, SiteFault, RunnerFault, HallFault, SinkFault, NoRoom, InputsTooLarge, Waited, Memory, LogFull}
use Rattle.report.specs.Causes.{kind_of, is_printed}

-- the plan's name of a file; no bytes where the plan has no such file
abbrev pub file_name : Plan → ℕ → List ℕ
file_name plan file = option_map_or (λ row. row.name) (slice_get plan.files file) []

-- the plan's name of a rule's output; no bytes where the rule has no such output
abbrev pub output_name_in : Plan → Rule → ℕ → List ℕ
output_name_in plan rule index = option_map_or (λ port. file_name plan port.file.0) (slice_get rule.outputs index) []

-- the same of a rule by its number; no bytes where the plan has no such rule
abbrev pub output_name : Plan → ℕ → ℕ → List ℕ
output_name plan rule index = option_map_or (λ row. output_name_in plan row index) (slice_get plan.rules rule) []

-- what a rule failed with
abbrev pub failure_text : Plan → ℕ → Failure → List ℕ
failure_text plan rule (Status status) = codes "status " ++ signed_decimal status
failure_text plan rule (MissingOutput index) = codes "output " ++ output_name plan rule index ++ codes " missing"
failure_text plan rule (TooLong index size) =
    codes "output " ++ output_name plan rule index ++ (codes " too long, " ++ decimal size ++ codes " bytes")

-- what is said of a failed rule
abbrev pub rule_text : Plan → ℕ → Failure → List ℕ
rule_text plan rule why = codes "rule " ++ decimal rule ++ codes " failed: " ++ failure_text plan rule why

-- what is said of a line of a flow
abbrev pub line_text : ℕ → List ℕ → List ℕ
line_text line what = codes "line " ++ decimal line ++ codes ": " ++ what

-- why a text is no Makeflow text
abbrev pub make_text : MakeFault → List ℕ
make_text (make.NotUtf8 at) = codes "not UTF-8 at " ++ decimal at
make_text (make.OpenQuote line) = line_text line (codes "open quote")
make_text (make.UnknownName line name) = line_text line (codes "unknown name " ++ name)
make_text (make.OpenParen line) = line_text line (codes "open parenthesis")
make_text (make.NoColon line) = line_text line (codes "no colon")
make_text (make.NoCommand line) = line_text line (codes "no command")
make_text (make.StrayCommand line) = line_text line (codes "stray command")
make_text (make.BadNumber line) = line_text line (codes "bad number")
make_text (make.TooLarge limit) = codes "too large"
make_text make.Memory = codes "out of memory"

-- a place of a JX text at which it is no expression
abbrev pub syntax_at : ℕ → List ℕ
syntax_at at = codes "syntax fault at " ++ decimal at

-- why a JX text is no expression
abbrev pub syntax_text : JxFault → List ℕ
syntax_text (syntax.NotUtf8 at) = syntax_at at
syntax_text (syntax.Unexpected at) = syntax_at at
syntax_text (syntax.OpenText at) = syntax_at at
syntax_text (syntax.FloatUnsupported at) = syntax_at at
syntax_text (syntax.IntTooWide at) = syntax_at at
syntax_text (syntax.TooDeep at) = syntax_at at
syntax_text syntax.TooLarge = codes "too large"
syntax_text syntax.Memory = codes "out of memory"

-- a place of a JX text at which it has no value
abbrev pub evaluation_at : ℕ → List ℕ
evaluation_at at = codes "evaluation fault at " ++ decimal at

-- why a part of a JX text has no value
abbrev pub evaluation_text : EvalFault → List ℕ
evaluation_text (evaluation.UnknownName at) = evaluation_at at
evaluation_text (evaluation.WrongKind at) = evaluation_at at
evaluation_text (evaluation.Overflow at) = evaluation_at at
evaluation_text (evaluation.ZeroDivisor at) = evaluation_at at
evaluation_text (evaluation.IndexRange at) = evaluation_at at
evaluation_text (evaluation.NoSuchKey at) = evaluation_at at
evaluation_text (evaluation.BadMark at) = evaluation_at at
evaluation_text (evaluation.ArgCount at) = evaluation_at at
evaluation_text (evaluation.TooMuch at) = evaluation_at at
evaluation_text evaluation.Memory = codes "out of memory"

-- why a JX text says no flow
abbrev pub jx_text : JxFlowFault → List ℕ
jx_text (jx.Syntax fault) = syntax_text fault
jx_text (jx.Evaluation fault) = evaluation_text fault
jx_text (jx.MissingField rule field) = codes "missing field " ++ field
jx_text (jx.FieldKind rule field) = codes "bad field " ++ field
jx_text (jx.UnknownCategory rule) = codes "unknown category"
jx_text (jx.TooLarge limit) = codes "too large"
jx_text jx.Memory = codes "out of memory"

-- what is said of a rule of a flow
abbrev pub of_rule : ℕ → List ℕ → List ℕ
of_rule rule what = codes "rule " ++ decimal rule ++ codes ": " ++ what

-- why the rules of a flow are no plan
abbrev pub graph_text : GraphFault → List ℕ
graph_text (graph.TooMany limit) = codes "too many"
graph_text (graph.BadName rule text) = of_rule rule.0 (codes "bad name " ++ text)
graph_text (graph.NoOutput rule) = of_rule rule.0 (codes "no output")
graph_text (graph.SameName rule name) = of_rule rule.0 (codes "same name " ++ name)
graph_text (graph.NestedName folder name) = codes "nested names " ++ folder ++ codes " and " ++ name
graph_text (graph.TwoMakers name rule other) =
    codes "two rules make " ++ name ++ (codes ": " ++ decimal rule.0 ++ codes " and " ++ decimal other.0)
graph_text (graph.Cycle rules) = codes "cycle of rules" ++ flat_map (λ rule. codes " " ++ decimal rule.0) rules
graph_text graph.Memory = codes "out of memory"

-- why a flow is refused
abbrev pub fault_text : FlowFault → List ℕ
fault_text (Make fault) = make_text fault
fault_text (Jx fault) = jx_text fault
fault_text (Graph fault) = graph_text fault

-- what a rule needs more than there is
abbrev pub needs_text : ℕ → ℕ → ℕ → List ℕ
needs_text rule need total = codes "rule " ++ decimal rule ++ (codes " needs " ++ decimal need ++ (codes ", there is " ++ decimal total))

-- how much the made files have together
abbrev pub stored_text : ℕ → ℕ → List ℕ
stored_text stored limit = codes "stored " ++ decimal stored ++ (codes " is above the limit " ++ decimal limit)

-- for which rule there is no room
abbrev pub room_text : ℕ → ℕ → ℕ → ℕ → List ℕ
room_text rule need stored limit = codes "no room for rule " ++ decimal rule ++ (codes ": needs " ++ decimal need ++ (codes ", stored " ++ decimal stored ++ (codes ", limit " ++ decimal limit)))

-- how much the inputs of a rule have together
abbrev pub inputs_text : ℕ → ℕ → List ℕ
inputs_text rule total = codes "inputs of rule " ++ decimal rule ++ (codes " too large: " ++ decimal total)

-- for which rule nobody came, and for how many idle looks
abbrev pub wait_text : ℕ → ℕ → List ℕ
wait_text idles rule = codes "waited, " ++ decimal idles ++ (codes " idle, rule " ++ decimal rule)

-- what is said of a file that no rule makes
abbrev pub source_text : Plan → ℕ → List ℕ → List ℕ
source_text plan file what = codes "source " ++ file_name plan file ++ what

-- what is said of a cause
abbrev pub text_of : Plan → Cause → List ℕ
text_of plan (Complete rules collected) =
    codes "complete, " ++ decimal rules ++ (codes " rules, " ++ decimal collected ++ codes " files collected")
text_of plan (Cleaned removed) = codes "cleaned, " ++ decimal removed ++ codes " files removed"
text_of plan (Printed lines) = []
text_of plan (CommandFailed rule why) = rule_text plan rule.0 why
text_of plan Usage = codes "usage: makeflow [options] FILE"
text_of plan (FlowMissing name) = codes "no flow file " ++ name
text_of plan (FlowRefused flow fault) = flow ++ codes ": " ++ fault_text fault
text_of plan (LogNameTaken file) = codes "the log's name is in the flow"
text_of plan (NeedsTooMuch rule need total) = needs_text rule.0 need total
text_of plan (LogDamaged at) = codes "log damaged at " ++ decimal at
text_of plan (OtherFlow logged found) = codes "the log is of another flow"
text_of plan (NotLegal at) = codes "log record " ++ decimal at ++ codes " is not allowed"
text_of plan (StoredAboveLimit stored limit) = stored_text stored limit
text_of plan (SourceMissing file) = source_text plan file.0 (codes " missing")
text_of plan (SourceTooLarge file size) = source_text plan file.0 (codes " too large")
text_of plan (SourceChanged file logged found) = source_text plan file.0 (codes " changed")
text_of plan (FileDamaged file logged found) = codes "file " ++ file_name plan file.0 ++ codes " damaged"
text_of plan (SiteFault before after) = codes "folder fault"
text_of plan (RunnerFault before after) = codes "runner fault"
text_of plan (HallFault before after) = codes "network fault"
text_of plan (SinkFault before after) = []
text_of plan (NoRoom rule need stored limit) = room_text rule.0 need stored limit
text_of plan (InputsTooLarge rule total) = inputs_text rule.0 total
text_of plan (Waited wait) = wait_text wait.idles wait.rule.0
text_of plan Memory = codes "out of memory"
text_of plan (LogFull records) = codes "log full"

-- the printed line of a cause, with its newline; no bytes where none is printed
abbrev pub line_of : Plan → Cause → List ℕ
line_of plan cause = if is_printed (kind_of cause) then codes "makeflow: " ++ text_of plan cause ++ codes "\n" else []
