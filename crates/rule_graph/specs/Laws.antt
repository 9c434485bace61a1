-- What a plan's spelling tells of it, that a serial run takes rules in an order, and which plans are valid.
use Rattle.std.specs.Prelude.{◌≡◌, ℕ, List, [], Option, None, map, not, ◌==◌, nat_lt, length, IsTrue}
use Rattle.std.specs.List.{list_all}
use Rattle.flow_types.specs.declared.plan.Plan.{Plan}
use Rattle.flow_types.specs.declared.plan.Rule.{Rule}
use Rattle.flow_types.specs.declared.plan.Port.{Port}
use Rattle.flow_types.specs.declared.flow.Pair.{Pair}
use Rattle.flow_types.specs.Plans.{IsValid, is_order, all_pairs}
use Rattle.flow_types.specs.Serial.{serial_order}
use Rattle.rule_graph.specs.Cycles.{left_over}
use Rattle.rule_graph.specs.Faults.{cycle, fault_of}
use Rattle.rule_graph.specs.Flows.{plan_without_faults}
use Rattle.flow_types.specs.Flows.{FitsLimits}
use Rattle.flow_types.specs.declared.flow.RawFlow.{RawFlow}
use Rattle.rule_graph.specs.Spelling.{plan_bytes}

-- a rule but for its needs and its local mark
pub record Spelled : Type 0 where
  pub command : List ℕ
  pub env : List Pair
  pub inputs : List Port
  pub outputs : List Port
  pub bound : ℕ

-- what the spelling of a plan has of a rule
abbrev pub spelled_part : Rule → Spelled
spelled_part rule =
    record { command = rule.command; env = rule.env; inputs = rule.inputs; outputs = rule.outputs; bound = rule.bound }

-- Two valid plans with one spelling differ in needs and local marks at most.
abbrev pub SpellingTells : Type 0
SpellingTells = (P Q : Plan) → IsValid P → IsValid Q → plan_bytes P ≡ plan_bytes Q
    → (map spelled_part P.rules ≡ map spelled_part Q.rules) × (P.files ≡ Q.files)

-- The serial order of a valid plan is an order in which each rule takes in only sources and files made earlier; it has each
-- rule once, and no number beside them.
pub record IsSerialOrder (P : Plan) : Type 0 where
  pub order : IsTrue (is_order P (serial_order P))
  pub once : IsTrue (all_pairs (λ r s. not (r == s)) (serial_order P))
  pub inside : IsTrue (list_all (λ r. nat_lt r (length P.rules)) (serial_order P))

-- A valid plan's serial order has each rule once, after the makers of its inputs.
abbrev pub SerialOrderIsAnOrder : Type 0
SerialOrderIsAnOrder = (P : Plan) → IsValid P → IsSerialOrder P

-- Where a serial run leaves no rule over, its order is an order of the rules, and no loop is named; a valid plan leaves none over.
abbrev pub NothingLeftOverIsAnOrder : Type 0
NothingLeftOverIsAnOrder = (P : Plan) → left_over P ≡ [] → IsSerialOrder P × (cycle P ≡ None)

-- A serial run of a valid plan comes to every rule.
abbrev pub ValidPlansLeaveNothingOver : Type 0
ValidPlansLeaveNothingOver = (P : Plan) → IsValid P → left_over P ≡ []

-- The plan of a flow without a fault that keeps the limits is valid.
abbrev pub FaultlessPlansAreValid : Type 0
FaultlessPlansAreValid = (flow : RawFlow) → FitsLimits flow → fault_of flow ≡ None → IsValid (plan_without_faults flow)
