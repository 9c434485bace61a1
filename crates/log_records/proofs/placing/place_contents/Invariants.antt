use Rattle.std.proofs.Common.{◌≡◌, ◌+◌, ◌++◌, take, length}
use Rattle.std.specs.List.{flat_map, AllByRecursion}
use Rattle.log_records.specs.Spelling.{content_bytes, IsContent}
use Rattle.log_records.proofs.placing.place_contents.Given as goal

abbrev pub invariant-loop-content : goal.invariant-loop-content
invariant-loop-content l = record {
  text : take l.at l.into ≡ take l.initial.at l.initial.into ++ flat_map content_bytes (take l.content-index l.contents);
  end : l.at ≡ l.initial.at + length (flat_map content_bytes (take l.content-index l.contents));
  fits : AllByRecursion IsContent (take l.content-index l.contents);
}
