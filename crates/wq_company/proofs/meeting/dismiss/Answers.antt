use Rattle.std.proofs.Common.{arith}
use Rattle.wq_company.proofs.meeting.dismiss.Goals as goal

pub returns-clause-back : goal.returns-clause-back
returns-clause-back g c is = let none = c.is_empty.ensures is in omega (arith, none, c.loop.invariant.back)
