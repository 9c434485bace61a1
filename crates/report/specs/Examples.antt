-- A plan of one rule, and causes over it.
use Rattle.std.specs.Prelude.{ℕ, true, false, [], ◌∷◌, codes}
use Rattle.flow_types.specs.declared.plan.Plan.{Plan}
use Rattle.flow_types.specs.declared.numbers.Needs.TheVariants.{Whole}
use Rattle.flow_types.specs.declared.job.Failure.{Failure}
use Rattle.flow_types.specs.Examples.{port, source_row, made_row}
use Rattle.report.specs.declared.cause.Cause.{Cause}
use Rattle.report.specs.declared.cause.Cause.TheVariants.{CommandFailed, FlowRefused, SourceMissing}
use Rattle.jx_flow.specs.declared.fault.JxFlowFault.{JxFlowFault}
use Rattle.report.specs.declared.cause.FlowFault.TheVariants.{Make, Jx, Graph}
use Rattle.mf_text.specs.declared.fault.MakeFault.{MakeFault}
use Rattle.rule_graph.specs.declared.faults.GraphFault.{GraphFault}

-- the plan of `out->made: in`: file 0 is the source `in`, and rule 0 makes file 1, which it calls `made`
abbrev pub one_rule : Plan
one_rule = record {
  rules = record {
    inputs = port 0 (codes "in") ∷ [];
    outputs = port 1 (codes "made") ∷ [];
    command = codes "cat in > made";
    local = false;
    needs = Whole;
    env = [];
    bound = 67108864;
  } ∷ [];
  files = source_row (codes "in") ∷ made_row (codes "out") 0 true 67108864 ∷ [];
}

-- the rule of that number failed so
abbrev pub rule_failed : ℕ → Failure → Cause
rule_failed rule why = CommandFailed (record { 0 = rule }) why

-- the source of that number isn't there
abbrev pub source_missing : ℕ → Cause
source_missing file = SourceMissing (record { 0 = file })

-- the text of the flow `flow` is refused
abbrev pub refused_text : MakeFault → Cause
refused_text fault = FlowRefused (codes "flow") (Make fault)

-- the JX text of the flow `flow` is refused
abbrev pub refused_jx : JxFlowFault → Cause
refused_jx fault = FlowRefused (codes "flow") (Jx fault)

-- the rules of the flow `flow` are no plan
abbrev pub refused_rules : GraphFault → Cause
refused_rules fault = FlowRefused (codes "flow") (Graph fault)
