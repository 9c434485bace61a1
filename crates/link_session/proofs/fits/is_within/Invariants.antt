use Rattle.std.proofs.Common.{◌≡◌, drop}
use Rattle.wq_messages.specs.Views.{contents_of}
use Rattle.link_session.specs.Fits.{are_within}
use Rattle.link_session.proofs.fits.is_within.Given as goal

abbrev pub invariant-loop-at : goal.invariant-loop-at
invariant-loop-at l = are_within l.bounds (contents_of l.message) ≡ are_within (drop l.at l.bounds) (drop l.at (contents_of l.message))
