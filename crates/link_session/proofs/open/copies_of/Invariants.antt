use Rattle.std.proofs.Common.{◌≡◌, take}
use Rattle.link_session.proofs.open.copies_of.Given as goal

abbrev pub invariant-loop-open : goal.invariant-loop-open
invariant-loop-open l = l.copies.items ≡ take l.open-index l.attempts
