use Rattle.std.proofs.Common.{◌∙◌, Err, Result}
use Rattle.foreman_run.specs.Lost.{seen_of}
use Rattle.links.specs.declared.passing.Got.{Got}
use Rattle.outside.specs.declared.fault.Fault.{Fault}
use Rattle.peer_run.specs.Works.{way_of}
use Rattle.foreman_run.proofs.Going.{fails_by, hears_not}
use Rattle.foreman_run.proofs.parent.push_on.Goals as goal

pub returns-in-Err-clause-goes : goal.returns-in-Err-clause-goes
returns-in-Err-clause-goes g c = λ trusted cap book ear core lowers works.
    let old = way_of g.U.Link.history g.U.Link.is_closed g.U.Link.count c.args.link.now in
    let new = way_of g.U.Link.history g.U.Link.is_closed g.U.Link.count c.flush.new.self in
    let answer : Result Got Fault = Err c.in-Err.fault in
    hears_not g.F.Commands.gives g.F.Commands.may_fail g.U.Link.tells trusted g.L.Link.tells (seen_of g.L.Link.history g.L.Link.is_closed g.L.Link.count g.L.Link.idle_count) g.L.Link.honest cap book old new ear core lowers answer c.of.result
    (λ t. c.in-Err.ensures.history t) (c.in-Err.ensures.closed ∙ works.closed)
    (fails_by book.faults old.faults new c.in-Err.fault c.of.result c.in-Err.ensures.cause works.later c.of.ensures.link c.of.ensures.memory) works
