use Rattle.std.proofs.Common.{◌≡◌, drop, map, codes}
use Rattle.jx_meaning.specs.Values.{plain}
use Rattle.jx_flow.specs.Reading.{each}
use Rattle.jx_flow.specs.Files.{file_of}
use Rattle.jx_flow.proofs.Each.{behind}
use Rattle.jx_flow.proofs.files.all_inputs.Given as goal

-- what is left decides
abbrev pub invariant-loop-item : goal.invariant-loop-item
invariant-loop-item l = behind l.inputs.items (each (file_of l.rule (codes "inputs")) (map plain (drop l.item-index l.items))) ≡ each (file_of l.rule (codes "inputs")) (map plain l.items)
