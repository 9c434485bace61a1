use Rattle.std.proofs.Common.{◌≡◌, ◌≤◌, length}
use Rattle.std.specs.Prelude.{filter}
use Rattle.flow_types.specs.Plans.{is_source, numbers}
use Rattle.world_contents.proofs.sources.source_count.Given as goal

-- those below the next one are counted
abbrev pub invariant-loop-file : goal.invariant-loop-file
invariant-loop-file l = record {
  counted : l.count ≡ length (filter (is_source l.plan) (numbers l.file));
  most : l.count ≤ l.file;
  within : l.file ≤ length l.plan.files;
}
