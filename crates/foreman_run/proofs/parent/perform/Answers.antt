use Rattle.std.proofs.Common.{false, Ok, Err, Result}
use Rattle.foreman_run.specs.Lost.{seen_of}
use Rattle.outside.specs.declared.fault.Fault.{Fault}
use Rattle.peer_run.specs.Works.{way_of}
use Rattle.foreman_run.proofs.Going.{Said, fails_by, said_all, said_not, went_down}
use Rattle.foreman_run.proofs.parent.perform.Goals as goal

pub send_all-requires-clause-told : goal.send_all-requires-clause-told
send_all-requires-clause-told g c κs within =
    c.requires.down

pub returns-in-Err-clause-goes : goal.returns-in-Err-clause-goes
returns-in-Err-clause-goes g c = λ trusted cap book ear core works.
    let old = way_of g.U.Link.history g.U.Link.is_closed g.U.Link.count c.args.link.now in
    let new = way_of g.U.Link.history g.U.Link.is_closed g.U.Link.count c.say_all.new.link in
    let answer : Result (Unit {0}) Fault = Err c.in-Err.fault in
    let said : Said g.F.Commands.gives g.F.Commands.may_fail g.U.Link.tells trusted g.L.Link.tells (seen_of g.L.Link.history g.L.Link.is_closed g.L.Link.count g.L.Link.idle_count) g.L.Link.honest cap book answer c.args.acts.up old new =
    ((λ t. c.in-Err.ensures.sent t), (λ said t link may. c.in-Err.ensures.said said t link may), c.in-Err.ensures.closed, c.in-Err.ensures.cause.later) in
    said_not g.F.Commands.gives g.F.Commands.may_fail g.U.Link.tells trusted g.L.Link.tells (seen_of g.L.Link.history g.L.Link.is_closed g.L.Link.count g.L.Link.idle_count) g.L.Link.honest cap book old new ear core c.args.company.now c.args.acts.up c.args.acts.down c.in-Err.fault c.of.result
    said
    (fails_by book.faults old.faults new c.in-Err.fault c.of.result c.in-Err.ensures.cause works.later c.of.ensures.link c.of.ensures.memory) works

pub returns-clause-goes : goal.returns-clause-goes
returns-clause-goes g c = λ trusted cap book ear core works.
    let old = way_of g.U.Link.history g.U.Link.is_closed g.U.Link.count c.args.link.now in
    let new = way_of g.U.Link.history g.U.Link.is_closed g.U.Link.count c.say_all.new.link in
    let answer : Result (Unit {0}) Fault = Ok tt in
    let said : Said g.F.Commands.gives g.F.Commands.may_fail g.U.Link.tells trusted g.L.Link.tells (seen_of g.L.Link.history g.L.Link.is_closed g.L.Link.count g.L.Link.idle_count) g.L.Link.honest cap book answer c.args.acts.up old new =
    ((λ t. c.in_default.ensures.sent t), (λ said t link may. c.in_default.ensures.said said t link may), c.in_default.ensures.closed, c.in_default.ensures.cause.later) in
    went_down g.F.Commands.gives g.F.Commands.may_fail g.U.Link.tells trusted g.L.Link.tells (seen_of g.L.Link.history g.L.Link.is_closed g.L.Link.count g.L.Link.idle_count) g.L.Link.honest cap book new ear core c.args.company.now c.send_all.new.self c.args.acts.down
    c.send_all.ensures
    (said_all g.F.Commands.gives g.F.Commands.may_fail g.U.Link.tells trusted g.L.Link.tells (seen_of g.L.Link.history g.L.Link.is_closed g.L.Link.count g.L.Link.idle_count) g.L.Link.honest cap book old new ear core c.args.company.now c.args.acts.up c.args.acts.down false
    said works)
