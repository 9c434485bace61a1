-- What holds of every flow that a text says.
use Rattle.std.specs.Prelude.{◌≡◌, ℕ, List, Ok}
use Rattle.flow_types.specs.declared.flow.RawFlow.{RawFlow}
use Rattle.flow_types.specs.Flows.{FitsLimits}
use Rattle.jx_flow.specs.Flow.{flow_of_text}

-- a flow that a text says keeps the limits of commands, environments, amounts and stated bounds
abbrev pub FlowsFitTheirLimits : Type 0
FlowsFitTheirLimits = (text : List ℕ) (flow : RawFlow) → flow_of_text text ≡ Ok flow → FitsLimits flow
