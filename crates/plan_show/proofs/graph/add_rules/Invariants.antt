use Rattle.std.proofs.Common.{◌≡◌, ◌++◌, drop, string_bytes}
use Rattle.std.specs.List.{flat_map, enumerate_from}
use Rattle.plan_show.specs.Graph.{rule_lines, numbered_lines}
use Rattle.plan_show.proofs.graph.add_rules.Given as goal

abbrev pub invariant-loop-number : goal.invariant-loop-number
invariant-loop-number l =
    string_bytes l.out ++ flat_map (λ numbered. rule_lines l.plan numbered.0 numbered.1) (enumerate_from l.number (drop l.number l.rules))
    ≡ string_bytes l.initial.out ++ numbered_lines l.plan l.rules
