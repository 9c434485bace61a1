use Rattle.std.proofs.Common.{◌≡◌, ◌++◌, take, string_bytes}
use Rattle.plan_show.specs.Files.{rules_list}
use Rattle.plan_show.proofs.files.add_rules.Given as goal

abbrev pub invariant-loop-rule : goal.invariant-loop-rule
invariant-loop-rule l = string_bytes l.out ≡ string_bytes l.initial.out ++ rules_list (take l.rule-index l.rules)
