use Rattle.std.proofs.Common.{Ok, Result, ap, arith, length, refl, rules, subst, sym, true≢false, ◌<◌, ◌≡◌, ◌≤◌}
use Rattle.wq_run.specs.Seats.{seats_under}
use Rattle.wq_run.specs.Calm.{IsSureOf}
use Rattle.wq_run.proofs.Companies.{failed_met, lacking_met}
use Rattle.outside.specs.declared.fault.Fault.{Fault}
use Rattle.links.specs.declared.passing.Came.{Came}
use Rattle.links.specs.Halls.{IfLink, IsIdle}
use Rattle.wq_run.proofs.Calmly.{company_as}
use Rattle.wq_run.proofs.company.hall.wait.Goals as goal

pub returns-in-Err-Failed-clause-met : goal.returns-in-Err-Failed-clause-met
returns-in-Err-Failed-clause-met g c =
    let own = c.in-Err-Failed.company-own.given.1 in
    let more : g.H.Hall.count c.args.hall.now < g.H.Hall.count c.wait.new.self = search rules in
    let given : g.H.Hall.given c.wait.new.self ≡ g.H.Hall.given c.args.hall.now = search rules in
    let seats : own.seats.items ≡ c.args.company.now.seats = search rules in
    let guests : length own.guests.items ≡ length c.args.company.now.guests = search rules in
    let many = ap length seats in
    let newest : own.newest ≡ c.args.company.now.newest = search rules in
    let lost : own.lost ≡ c.args.company.now.lost = search rules in
    failed_met refl more c.wait.ensures.got given c.wait.ensures.later (record { links = omega (arith, many, guests); fewer = λ k. let e = ap (seats_under k) seats in omega (arith, e); newest = newest }) lost

pub returns-in-Err-Memory-clause-met : goal.returns-in-Err-Memory-clause-met
returns-in-Err-Memory-clause-met g c =
    let own = c.in-Err-Memory.company-own.given.1 in
    let seats : own.seats.items ≡ c.args.company.now.seats = search rules in
    let guests : length own.guests.items ≡ length c.args.company.now.guests = search rules in
    let many = ap length seats in
    let newest : own.newest ≡ c.args.company.now.newest = search rules in
    let failed : own.failed ≡ c.args.company.now.failed = search rules in
    lacking_met c.wait.ensures.cause.later c.wait.ensures.got c.wait.ensures.later (record { links = omega (arith, many, guests); fewer = λ k. let e = ap (seats_under k) seats in omega (arith, e); newest = newest }) failed refl

pub returns-in-Ok-Link-clause-calm : goal.returns-in-Ok-Link-clause-calm
returns-in-Ok-Link-clause-calm g c asked moves tells kept was =
    let hall = was.links.hall in
    let came = c.in-Ok-Link.ensures.sure hall.surely in
    let relied : IsSureOf g.H.Way.Link.sure g.H.Way.Link.offers asked c.in-Ok-Link.way = record {
      surely = subst (λ (x : Came g.row.H-Way.Denot). let r : Result (Came g.row.H-Way.Denot) Fault = Ok x in IfLink r g.H.Way.Link.sure) c.in-Ok-Link.field-0-is came.1;
      offering = λ a so. (subst (λ (x : Came g.row.H-Way.Denot). let r : Result (Came g.row.H-Way.Denot) Fault = Ok x in IfLink r (λ way. g.H.Way.Link.sure way × g.H.Way.Link.offers way a.least × (g.H.Hall.given c.wait.new.self ≤ 32))) c.in-Ok-Link.field-0-is (c.in-Ok-Link.ensures.staffed a.least (hall.offering a so)).1).1;
    } in
    let links = was.links in
    c.let_in.ensures.calm asked moves tells relied kept (record {
      hall = record { surely = came.0; offering = λ a so. (c.in-Ok-Link.ensures.staffed a.least (hall.offering a so)).0 };
      seats = links.seats;
      guests = links.guests;
      joins = links.joins;
    })

pub returns-in-Ok-Idle-clause-calm : goal.returns-in-Ok-Idle-clause-calm
returns-in-Ok-Idle-clause-calm g c asked moves tells kept was =
    company_as g.F.Commands.gives g.F.Commands.may_fail g.H.Way.Link.history g.H.Way.Link.idle_count (IsSureOf g.H.Way.Link.sure g.H.Way.Link.offers asked) c.args.company.now c.args.company.now
    (λ is. record { surely = (c.in-Ok-Idle.ensures.sure is.surely).0; offering = λ a so. (c.in-Ok-Idle.ensures.staffed a.least (is.offering a so)).0 })
    (λ is. record { still = λ a so. absurd ((c.in-Ok-Idle.ensures.manned a.least (is.still a so).0).0 (subst (λ (x : Came g.row.H-Way.Denot). let r : Result (Came g.row.H-Way.Denot) Fault = Ok x in IsIdle r) (sym c.in-Ok-Idle.field-0-is) tt)) }) refl refl was

pub returns-in-Err-Failed-clause-calm : goal.returns-in-Err-Failed-clause-calm
returns-in-Err-Failed-clause-calm g c asked moves tells kept was =
    let own = c.in-Err-Failed.company-own.given.1 in
    let seats : own.seats.items ≡ c.args.company.now.seats = search rules in
    let guests : own.guests.items ≡ c.args.company.now.guests = search rules in
    company_as g.F.Commands.gives g.F.Commands.may_fail g.H.Way.Link.history g.H.Way.Link.idle_count (IsSureOf g.H.Way.Link.sure g.H.Way.Link.offers asked) c.args.company.now _
    (λ is. record { surely = (c.in-Err-Failed.ensures.sure is.surely).0; offering = λ a so. (c.in-Err-Failed.ensures.staffed a.least (is.offering a so)).0 })
    (λ is. record { still = λ a so. absurd ((c.in-Err-Failed.ensures.manned a.least (is.still a so).0).1 (search rules)) }) seats guests was

pub returns-in-Err-Memory-clause-calm : goal.returns-in-Err-Memory-clause-calm
returns-in-Err-Memory-clause-calm g c asked moves tells kept was = absurd (true≢false kept)
