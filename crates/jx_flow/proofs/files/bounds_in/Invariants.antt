use Rattle.std.proofs.Common.{◌≡◌, ◌++◌, drop}
use Rattle.jx_flow.specs.Files.{bounds_in}
use Rattle.jx_flow.proofs.files.bounds_in.Given as goal

-- what is left decides
abbrev pub invariant-loop-output : goal.invariant-loop-output
invariant-loop-output l = l.bounds.items ++ bounds_in (drop l.output-index l.outputs) ≡ bounds_in l.outputs
