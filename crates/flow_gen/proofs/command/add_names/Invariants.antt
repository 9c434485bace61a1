use Rattle.std.proofs.Common.{◌≡◌, ◌++◌, take, string_bytes}
use Rattle.std.specs.List.{flat_map}
use Rattle.flow_gen.specs.Generated.{read_name}
use Rattle.flow_gen.proofs.command.add_names.Given as goal

abbrev pub invariant-loop-rule : goal.invariant-loop-rule
invariant-loop-rule l = string_bytes l.out ≡ string_bytes l.initial.out ++ flat_map read_name (take l.rule-index l.rules)
