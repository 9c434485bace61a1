use Rattle.std.proofs.Common.{◌≡◌, map, take}
use Rattle.flow_types.specs.Plans.{files_of}
use Rattle.world_contents.proofs.contents.files_of.Given as goal

abbrev pub invariant-loop-port : goal.invariant-loop-port
invariant-loop-port l = map (λ file. file.0) l.files.items ≡ files_of (take l.port-index l.ports)
