use Rattle.std.proofs.Common.{◌≡◌, ◌++◌, drop, string_bytes}
use Rattle.std.specs.List.{flat_map, enumerate_from}
use Rattle.plan_show.specs.Rules.{rule_block, numbered_blocks}
use Rattle.plan_show.proofs.rules.add_rules.Given as goal

abbrev pub invariant-loop-number : goal.invariant-loop-number
invariant-loop-number l =
    string_bytes l.out ++ flat_map (λ numbered. rule_block l.plan numbered.0 numbered.1) (enumerate_from l.number (drop l.number l.rules))
    ≡ string_bytes l.initial.out ++ numbered_blocks l.plan l.rules
