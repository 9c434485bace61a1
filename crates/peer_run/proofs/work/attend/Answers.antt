use Rattle.std.proofs.Common.{Ok, Option, Result, subst}
use Rattle.flow_types.specs.declared.messages.Message.{Message}
use Rattle.peer_run.specs.declared.halt.Halt.{Halt}
use Rattle.peer_run.specs.Ends.{Takes}
use Rattle.peer_run.specs.Works.{IsToldPool, way_of}
use Rattle.peer_run.proofs.Attending.{takes_not}
use Rattle.peer_run.proofs.work.attend.Goals as goal

pub returns-in-Err-await_more-clause-goes : goal.returns-in-Err-await_more-clause-goes
returns-in-Err-await_more-clause-goes g c = λ first faults works.
    c.in-Err-await_more.ensures.goes first faults c.args.ear.now c.args.core.now c.args.pool.now.waiting c.args.pool.now.heard
    (subst (λ (o : Option Message). let r : Result (Option Message) Halt = Ok o in Takes c.args.ear.now r c.next.new.self) c.in-Ok-None.field-0-is c.in-Ok-None.ensures) works

pub returns-in-Err-clause-goes : goal.returns-in-Err-clause-goes
returns-in-Err-clause-goes g c = λ first faults works.
    let told = IsToldPool g.F.Commands.gives g.F.Commands.may_fail g.B.Terms.fits in
    takes_not g.F.Commands.gives g.F.Commands.may_fail g.L.Link.tells told g.B.Terms.fits first faults (way_of g.L.Link.history g.L.Link.is_closed g.L.Link.count c.args.link.now) c.args.ear.now c.next.new.self c.args.core.now c.args.pool.now.waiting c.args.pool.now.heard c.in-Err.halt c.in-Err.ensures works
