use Rattle.std.proofs.Common.{◌≡◌, ◌++◌}
use Rattle.jx_flow.specs.Files.{files_in}
use Rattle.jx_flow.proofs.files.files_in.Given as goal

-- what is left decides
abbrev pub invariant-loop-output : goal.invariant-loop-output
invariant-loop-output l = l.files.items ++ files_in l.output-iterator.rest.items ≡ files_in l.fn.outputs
