use Rattle.std.proofs.Common.{◌≡◌, map, take}
use Rattle.flow_gen.specs.Generated.{made_file}
use Rattle.flow_gen.proofs.makers.made_files.Given as goal

abbrev pub invariant-loop-rule : goal.invariant-loop-rule
invariant-loop-rule l = l.files ≡ map made_file (take l.rule-index l.rules)
