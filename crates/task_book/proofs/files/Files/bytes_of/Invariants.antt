use Rattle.std.proofs.Common.{◌≤◌, ◌+◌, drop}
use Rattle.task_book.specs.Submissions.{input_bytes}
use Rattle.task_book.proofs.files.Files.bytes_of.Given as goal

-- what is left decides
abbrev pub invariant-loop-port : goal.invariant-loop-port
invariant-loop-port l = l.total + input_bytes l.self (drop l.port-index l.ports) ≤ input_bytes l.self l.ports
