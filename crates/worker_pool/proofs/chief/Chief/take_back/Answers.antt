use Rattle.std.proofs.Common.{subst}
use Rattle.worker_pool.specs.Courses.{TakesOut}
use Rattle.worker_pool.specs.Tickets.{entry_of, known, starts}
use Rattle.worker_pool.proofs.TakenBack.{takes_starts, took_back}
use Rattle.worker_pool.proofs.chief.Chief.take_back.Goals as goal

pub returns-clause-waiting : goal.returns-clause-waiting
returns-clause-waiting g c =
    let s = c.requires.0 in
    let e = entry_of s.2.0 c.args.ran.start in
    let new = known c.redeem.new.chief in
    subst (λ w. TakesOut c.args.ran.start w (starts new.waiting)) c.self.view_is
    (takes_starts e (known c.self.inside.pass).waiting new.waiting (took_back (known c.self.inside.pass) new (known c.args.ran.ticket).ticket e s.2.1 c.redeem.ensures.views c.redeem.ensures.took))
