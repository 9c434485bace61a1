use Rattle.std.proofs.Common.{◌≡◌, take}
use Rattle.link_session.proofs.known.copy_of.Given as goal

abbrev pub invariant-loop-key : goal.invariant-loop-key
invariant-loop-key l = l.copy.keys ≡ take l.key-index l.key-items
