use Rattle.std.proofs.Common.{◌≡◌, length, take}
use Rattle.std.specs.Prelude.{flat_map}
use Rattle.byte_fields.specs.Spelling.{counted}
use Rattle.foreman_run.proofs.voice.size_of.Given as goal

abbrev pub invariant-loop-content : goal.invariant-loop-content
invariant-loop-content l = l.size ≡ length (flat_map counted (take l.content-index l.contents))
