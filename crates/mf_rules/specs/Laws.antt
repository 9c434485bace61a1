-- What holds of every flow that a text says.
use Rattle.std.specs.Prelude.{◌≡◌, ℕ, List, Ok}
use Rattle.flow_types.specs.declared.flow.RawFlow.{RawFlow}
use Rattle.flow_types.specs.Flows.{FitsLimits}
use Rattle.mf_rules.specs.Flow.{flow_of}

-- A flow that a text says without a fault keeps the limits of commands, environments, amounts and stated bounds.
abbrev pub FlowsFitTheirLimits : Type 0
FlowsFitTheirLimits = (env : List (List ℕ × List ℕ)) (text : List ℕ) (flow : RawFlow) → flow_of env text ≡ Ok flow → FitsLimits flow
