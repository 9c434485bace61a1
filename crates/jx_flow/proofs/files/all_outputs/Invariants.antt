use Rattle.std.proofs.Common.{◌≡◌, drop, map}
use Rattle.jx_meaning.specs.Values.{plain}
use Rattle.jx_flow.specs.Reading.{each}
use Rattle.jx_flow.specs.Files.{output_of}
use Rattle.jx_flow.proofs.Each.{behind}
use Rattle.jx_flow.proofs.files.all_outputs.Given as goal

-- what is left decides
abbrev pub invariant-loop-item : goal.invariant-loop-item
invariant-loop-item l = behind l.outputs.items (each (output_of l.rule) (map plain (drop l.item-index l.items))) ≡ each (output_of l.rule) (map plain l.items)
