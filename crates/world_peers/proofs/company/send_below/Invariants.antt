use Rattle.std.proofs.Common.{◌≡◌, ◌++◌}
use Rattle.std.specs.Prelude.{filter_map}
use Rattle.world_peers.specs.Company.{sent_down}
use Rattle.world_peers.proofs.company.send_below.Given as goal

-- what is left decides
abbrev pub invariant-loop-sent : goal.invariant-loop-sent
invariant-loop-sent l = l.bag.items ++ filter_map (sent_down l.peers l.foreman) l.sent-iterator.rest.items ≡ l.fn.bag.items ++ filter_map (sent_down l.peers l.foreman) l.fn.down
