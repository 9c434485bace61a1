-- What the stages before the run answer.
use Rattle.std.specs.Prelude.{◌≡◌, ℕ, ◌≤◌, ◌<◌, List, Result, Ok, Err, IsErrOf, Bool, true, false, IsTrue, IsOk}
use Rattle.report.specs.declared.cause.Cause.{Cause}
use Rattle.report.specs.declared.cause.Cause.TheVariants.{FlowRefused}
use Rattle.report.specs.declared.cause.FlowFault.TheVariants.{Make, Jx, Graph}
use Rattle.mf_text.specs.declared.fault.MakeFault.{MakeFault}
use Rattle.mf_text.specs.declared.fault.MakeFault.TheVariants as make
use Rattle.jx_flow.specs.declared.fault.JxFlowFault.{JxFlowFault}
use Rattle.jx_flow.specs.declared.fault.JxFlowFault.TheVariants as jx
use Rattle.rule_graph.specs.declared.faults.GraphFault.{GraphFault}
use Rattle.rule_graph.specs.declared.faults.GraphFault.TheVariants as graph
use Rattle.command_words.specs.declared.options.Options.{Options}
use Rattle.master_run.specs.declared.asking.Refusal.{Refusal}
use Rattle.master_run.specs.declared.asking.Refusal.TheVariants.{Said, Site, Memory}
use Rattle.report.specs.declared.cause.Kind.{Kind}
use Rattle.report.specs.declared.cause.Kind.TheVariants.{WrongWords, WrongFlow}
use Rattle.report.specs.Causes.{kind_of}
use Rattle.master_run.specs.Ends.{WordsEnd, SaysOfFlow}

-- A stage answers what is expected; a fault of the site or want of memory may come instead.
abbrev pub Stage : {T : Type 0} → Result T Cause → Result T Refusal → Type 0
Stage expected (Ok value) = expected ≡ Ok value
Stage expected (Err (Said cause)) = expected ≡ Err cause
Stage expected (Err Site) = Unit {0}
Stage expected (Err Memory) = Unit {0}

-- Where the words are refused, nothing comes but their refusal or want of memory.
abbrev pub WordsStage : {T : Type 0} → Result Options Cause → Result T Refusal → Type 0
WordsStage words (Ok value) = IsOk words
WordsStage words (Err (Said cause)) = WordsEnd words cause
WordsStage words (Err Site) = IsOk words
WordsStage words (Err Memory) = Unit {0}

-- What a stage behind the words says of a flow has its name.
abbrev pub OfFlow : {T : Type 0} → List ℕ → Result T Refusal → Type 0
OfFlow name (Ok value) = Unit {0}
OfFlow name (Err (Said cause)) = SaysOfFlow name cause
OfFlow name (Err Site) = Unit {0}
OfFlow name (Err Memory) = Unit {0}

-- a refusal by the words or by the flow
abbrev pub is_refusal : Kind → Bool
is_refusal WrongWords = true
is_refusal WrongFlow = true
is_refusal _ = false

-- What is said is a refusal by the words or by the flow.
abbrev pub SaysRefusal : {T : Type 0} → Result T Refusal → Type 0
SaysRefusal (Ok value) = Unit {0}
SaysRefusal (Err (Said cause)) = IsTrue (is_refusal (kind_of cause))
SaysRefusal (Err Site) = Unit {0}
SaysRefusal (Err Memory) = Unit {0}

-- The site's count doesn't fall, and a stage answers its fault only where it rose.
pub record SiteTrace {T : Type 0} (before now : ℕ) (result : Result T Refusal) : Type 0 where
  pub later : before ≤ now
  pub rose : IsErrOf result Site → before < now

-- why a Makeflow text is refused; want of memory is none of the text's
abbrev pub make_refusal : List ℕ → MakeFault → Refusal
make_refusal name make.Memory = Memory
make_refusal name fault = Said (FlowRefused name (Make fault))

-- why a JX text is refused; want of memory is none of the text's
abbrev pub jx_refusal : List ℕ → JxFlowFault → Refusal
jx_refusal name jx.Memory = Memory
jx_refusal name fault = Said (FlowRefused name (Jx fault))

-- why a flow's rules are refused; want of memory is none of the rules'
abbrev pub graph_refusal : List ℕ → GraphFault → Refusal
graph_refusal name graph.Memory = Memory
graph_refusal name fault = Said (FlowRefused name (Graph fault))
