use Rattle.std.proofs.Common.{◌≡◌, ℕ, List, map, take, min}
use Rattle.std.specs.Prelude.{sum_by}
use Rattle.flow_types.specs.Plans.{most_bytes}
use Rattle.rule_graph.proofs.rows.bound_of.Given as goal

-- the sum of the ports so far, or the most bytes
abbrev pub invariant-loop-port : goal.invariant-loop-port
invariant-loop-port l = (says : List ℕ → ℕ) → l.bounds ≡ map says l.names → l.bound ≡ min (sum_by (λ port. says port.local) (take l.port-index l.ports)) most_bytes
