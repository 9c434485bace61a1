use Rattle.std.proofs.Common.{◌≡◌}
use Rattle.std.specs.Prelude.{filter}
use Rattle.flow_types.specs.Plans.{numbers}
use Rattle.cleaning.specs.Cleanings.{numbers_of}
use Rattle.cleaning.specs.Present.{is_there}
use Rattle.cleaning.proofs.present.present_made.Given as goal

abbrev pub invariant-loop-file : goal.invariant-loop-file
invariant-loop-file l = record {
  these : numbers_of l.files ≡ filter (is_there l.table) (numbers l.file);
}
