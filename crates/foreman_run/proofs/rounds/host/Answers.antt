use Rattle.std.proofs.Common.{Bool, Result, Ok, Err, length}
use Rattle.foreman_run.specs.Lost.{seen_of}
use Rattle.foreman_run.specs.declared.stop.Stop.{Stop}
use Rattle.peer_run.specs.Works.{way_of}
use Rattle.foreman_run.specs.Tied.{with_hall}
use Rattle.foreman_run.proofs.Going.{gained, gained_not}
use Rattle.foreman_run.proofs.Hosted.{by_then}
use Rattle.foreman_run.proofs.rounds.host.Goals as goal

pub returns-in-Err-clause-goes : goal.returns-in-Err-clause-goes
returns-in-Err-clause-goes g c = λ trusted cap book ear trusts works. c.in-Err.ensures.goes trusted cap (with_hall book (g.H.Hall.got c.args.hall.now) c.args.numbered.now) ear works

pub returns-in-Err-meet-clause-goes : goal.returns-in-Err-meet-clause-goes
returns-in-Err-meet-clause-goes g c = λ trusted cap book ear trusts works.
    gained_not g.F.Commands.gives g.F.Commands.may_fail g.U.Link.tells trusted g.H.Way.Link.tells (seen_of g.H.Way.Link.history g.H.Way.Link.is_closed g.H.Way.Link.count g.H.Way.Link.idle_count) g.H.Way.Link.honest cap (with_hall book (g.H.Hall.got c.tend.new.hall) c.args.numbered.now) (way_of g.U.Link.history g.U.Link.is_closed g.U.Link.count c.tend.new.parent) ear c.tend.new.core c.tend.new.company c.meet.new.company (g.H.Hall.honest c.tend.new.hall) c.in-Err-meet.stop (g.H.Hall.got c.meet.new.hall) c.meet.new.numbered c.in-Err-meet.ensures.gains c.in-Err-meet.ensures.fails
    (c.in-Ok.ensures.goes trusted cap (with_hall book (g.H.Hall.got c.args.hall.now) c.args.numbered.now) ear works)

pub returns-then-did-clause-goes : goal.returns-then-did-clause-goes
returns-then-did-clause-goes g c = λ trusted cap book ear trusts works.
    gained g.F.Commands.gives g.F.Commands.may_fail g.U.Link.tells trusted g.H.Way.Link.tells (seen_of g.H.Way.Link.history g.H.Way.Link.is_closed g.H.Way.Link.count g.H.Way.Link.idle_count) g.H.Way.Link.honest cap (with_hall book (g.H.Hall.got c.tend.new.hall) c.args.numbered.now) Stop (way_of g.U.Link.history g.U.Link.is_closed g.U.Link.count c.tend.new.parent) ear c.tend.new.core c.tend.new.company c.meet.new.company (g.H.Hall.honest c.tend.new.hall) c.in-Ok-meet.came (g.H.Hall.got c.meet.new.hall) c.meet.new.numbered c.in-Ok-meet.ensures.gains (λ e. c.in-Ok.ensures.honest (trusts e))
    (c.in-Ok.ensures.goes trusted cap (with_hall book (g.H.Hall.got c.args.hall.now) c.args.numbered.now) ear works)

pub returns-else-did-clause-goes : goal.returns-else-did-clause-goes
returns-else-did-clause-goes g c = λ trusted cap book ear trusts works.
    gained g.F.Commands.gives g.F.Commands.may_fail g.U.Link.tells trusted g.H.Way.Link.tells (seen_of g.H.Way.Link.history g.H.Way.Link.is_closed g.H.Way.Link.count g.H.Way.Link.idle_count) g.H.Way.Link.honest cap (with_hall book (g.H.Hall.got c.tend.new.hall) c.args.numbered.now) Stop (way_of g.U.Link.history g.U.Link.is_closed g.U.Link.count c.tend.new.parent) ear c.tend.new.core c.tend.new.company c.meet.new.company (g.H.Hall.honest c.tend.new.hall) c.in-Ok-meet.came (g.H.Hall.got c.meet.new.hall) c.meet.new.numbered c.in-Ok-meet.ensures.gains (λ e. c.in-Ok.ensures.honest (trusts e))
    (c.in-Ok.ensures.goes trusted cap (with_hall book (g.H.Hall.got c.args.hall.now) c.args.numbered.now) ear works)

pub returns-then-did-clause-hosts : goal.returns-then-did-clause-hosts
returns-then-did-clause-hosts g c =
    let r : Result Bool Stop = Ok c.in-Ok-meet.came in
    by_then (g.H.Hall.count c.args.hall.now) (g.H.Hall.count c.tend.new.hall) (g.H.Hall.count c.meet.new.hall) (g.H.Hall.got c.args.hall.now) (g.H.Hall.got c.tend.new.hall) (g.H.Hall.got c.meet.new.hall) (g.H.Hall.given c.args.hall.now) (g.H.Hall.given c.tend.new.hall) (g.H.Hall.given c.meet.new.hall)
    (length c.args.company.now) (length c.tend.new.company) (length c.meet.new.company) c.in-Ok.did r c.in-Ok.ensures.hosts c.in-Ok-meet.ensures.hosts

pub returns-else-did-clause-hosts : goal.returns-else-did-clause-hosts
returns-else-did-clause-hosts g c =
    let r : Result Bool Stop = Ok c.in-Ok-meet.came in
    by_then (g.H.Hall.count c.args.hall.now) (g.H.Hall.count c.tend.new.hall) (g.H.Hall.count c.meet.new.hall) (g.H.Hall.got c.args.hall.now) (g.H.Hall.got c.tend.new.hall) (g.H.Hall.got c.meet.new.hall) (g.H.Hall.given c.args.hall.now) (g.H.Hall.given c.tend.new.hall) (g.H.Hall.given c.meet.new.hall)
    (length c.args.company.now) (length c.tend.new.company) (length c.meet.new.company) c.in-Ok.did r c.in-Ok.ensures.hosts c.in-Ok-meet.ensures.hosts

pub returns-in-Err-meet-clause-hosts : goal.returns-in-Err-meet-clause-hosts
returns-in-Err-meet-clause-hosts g c =
    let r : Result Bool Stop = Err c.in-Err-meet.stop in
    by_then (g.H.Hall.count c.args.hall.now) (g.H.Hall.count c.tend.new.hall) (g.H.Hall.count c.meet.new.hall) (g.H.Hall.got c.args.hall.now) (g.H.Hall.got c.tend.new.hall) (g.H.Hall.got c.meet.new.hall) (g.H.Hall.given c.args.hall.now) (g.H.Hall.given c.tend.new.hall) (g.H.Hall.given c.meet.new.hall)
    (length c.args.company.now) (length c.tend.new.company) (length c.meet.new.company) c.in-Ok.did r c.in-Ok.ensures.hosts c.in-Err-meet.ensures.hosts
