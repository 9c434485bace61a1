use Rattle.std.proofs.Common.{◌≡◌, map, take}
use Rattle.flow_types.specs.declared.flow.RawFlow.{RawFlow}
use Rattle.rule_graph.specs.Flows.{names_of, raw_maker, row_for}
use Rattle.rule_graph.specs.Numbering.{AreOf}
use Rattle.rule_graph.proofs.rows.rows_of.Given as goal

-- the rows of the files so far
abbrev pub invariant-files : goal.invariant-files
invariant-files l = (flow : RawFlow) → AreOf flow l.tables → l.rows.items ≡ map (λ name. row_for flow name (raw_maker flow name)) (take l.file (names_of flow))
