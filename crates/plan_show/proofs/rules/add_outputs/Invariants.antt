use Rattle.std.proofs.Common.{◌≡◌, ◌++◌, take, string_bytes}
use Rattle.std.specs.List.{flat_map}
use Rattle.plan_show.specs.Rules.{output_line}
use Rattle.plan_show.proofs.rules.add_outputs.Given as goal

abbrev pub invariant-loop-port : goal.invariant-loop-port
invariant-loop-port l = string_bytes l.out ≡ string_bytes l.initial.out ++ flat_map (output_line l.plan) (take l.port-index l.port-items)
