use Rattle.std.proofs.Common.{◌≡◌, ◌++◌, map}
use Rattle.world_peers.specs.Peers.{told_to}
use Rattle.world_peers.proofs.company.send_to.Given as goal

-- what is left decides
abbrev pub invariant-loop-message : goal.invariant-loop-message
invariant-loop-message l = l.bag.items ++ map (told_to l.to l.peer) l.message-iterator.rest.items ≡ l.fn.bag.items ++ map (told_to l.to l.peer) l.fn.messages
