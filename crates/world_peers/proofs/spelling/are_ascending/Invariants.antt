use Rattle.std.proofs.Common.{◌≡◌, drop}
use Rattle.wq_messages.specs.Spelling.{is_ascending_from}
use Rattle.world_peers.proofs.spelling.are_ascending.Given as goal

-- what is left decides
abbrev pub invariant-loop-file : goal.invariant-loop-file
invariant-loop-file l = is_ascending_from l.low (drop l.file-index l.files) ≡ is_ascending_from 0 l.files
