use Rattle.std.proofs.Common.{◌≡◌, ◌+◌, ◌*◌, ◌≤◌, take, length}
use Rattle.std.specs.List.{flat_map}
use Rattle.log_records.specs.Spelling.{content_bytes}
use Rattle.log_records.proofs.writing.contents_len.Given as goal

abbrev pub invariant-loop-content : goal.invariant-loop-content
invariant-loop-content l = record {
  len : l.len ≡ 4 + length (flat_map content_bytes (take l.content-index l.contents));
  few : l.len ≤ 4 + 40 * l.content-index;
}
