use Rattle.std.proofs.Common.{◌≡◌, ◌++◌, codes, take}
use Rattle.std.specs.List.{flat_map}
use Rattle.std.specs.Fmt.{decimal}
use Rattle.report.proofs.flow_text.cycle_text.Given as goal

abbrev pub invariant-loop-rule : goal.invariant-loop-rule
invariant-loop-rule l =
    l.text.items ≡ codes "cycle of rules" ++ flat_map (λ rule. codes " " ++ decimal rule.0) (take l.rule-index l.rules)
