use Rattle.std.proofs.Common.{rules, ◌≡◌, ap, arith}
use Rattle.wq_run.specs.Seats.{inside_of, seats_under}
use Rattle.wq_run.proofs.Companies.{back_met, unback_met}
use Rattle.wq_run.proofs.company.hall.hand_back.Goals as goal

pub returns-in-Ok-clause-met : goal.returns-in-Ok-clause-met
returns-in-Ok-clause-met g c = back_met (c.args.link, c.args.way) c.back.ensures.faults c.in-Ok.ensures.ok c.back.ensures.given c.back.ensures.idles

pub returns-in-Err-clause-met : goal.returns-in-Err-clause-met
returns-in-Err-clause-met g c =
    let seats : c.company.inside.seats.items ≡ c.args.company.now.seats = search rules in
    unback_met (inside_of c.args.company.now) _ c.args.link c.back.ensures.faults c.in-Err.ensures.err c.back.ensures.idles (search rules) (λ k. let e = ap (seats_under k) seats in omega (arith, e)) (search rules) (search rules)
