use Rattle.std.proofs.Common.{◌≡◌, ◌≤◌, length, map}
use Rattle.std.specs.Prelude.{filter}
use Rattle.flow_types.specs.Plans.{is_source, numbers}
use Rattle.world_contents.proofs.sources.sources_of.Given as goal

-- those below the next one are found
abbrev pub invariant-loop-file : goal.invariant-loop-file
invariant-loop-file l = record {
  found : map (λ file. file.0) l.files.items ≡ filter (is_source l.plan) (numbers l.file);
  within : l.file ≤ length l.plan.files;
}
