use Rattle.std.proofs.Common.{rules, Ok, Option, Result, subst}
use Rattle.foreman_run.specs.Lost.{seen_of}
use Rattle.flow_types.specs.declared.messages.Message.{Message}
use Rattle.peer_run.specs.declared.halt.Halt.{Halt}
use Rattle.peer_run.specs.Ends.{Takes}
use Rattle.peer_run.specs.Works.{way_of}
use Rattle.foreman_run.proofs.Attending.{takes_not}
use Rattle.foreman_run.proofs.parent.attend.Goals as goal

pub next-requires : goal.next-requires
next-requires g c = c.requires.works.works.going

pub obey-requires-clause-works : goal.obey-requires-clause-works
obey-requires-clause-works g c κs within = (c.args.ear.now, c.next.new.self, subst (λ (o : Option Message). let r : Result (Option Message) Halt = Ok o in Takes c.args.ear.now r c.next.new.self) c.in-Ok-Some.field-0-is c.in-Ok-Some.ensures, c.requires.works)

pub returns-in-Err-listen-clause-goes : goal.returns-in-Err-listen-clause-goes
returns-in-Err-listen-clause-goes g c = λ trusted cap book works.
    c.in-Err-listen.ensures.goes trusted cap book c.args.ear.now c.args.core.now c.args.company.now
    (subst (λ (o : Option Message). let r : Result (Option Message) Halt = Ok o in Takes c.args.ear.now r c.next.new.self) c.in-Ok-None.field-0-is c.in-Ok-None.ensures) works

pub returns-in-Err-clause-goes : goal.returns-in-Err-clause-goes
returns-in-Err-clause-goes g c = λ trusted cap book works.
    takes_not g.F.Commands.gives g.F.Commands.may_fail g.U.Link.tells trusted g.L.Link.tells (seen_of g.L.Link.history g.L.Link.is_closed g.L.Link.count g.L.Link.idle_count) g.L.Link.honest cap book (way_of g.U.Link.history g.U.Link.is_closed g.U.Link.count c.args.link.now) c.args.ear.now c.next.new.self c.args.core.now c.args.company.now c.in-Err.halt c.in-Err.ensures works

pub returns-in-Err-obey-clause-goes : goal.returns-in-Err-obey-clause-goes
returns-in-Err-obey-clause-goes g c = λ trusted cap book works.
    c.in-Err-obey.ensures.goes trusted cap book c.args.ear.now c.next.new.self (search rules)
    (subst (λ (o : Option Message). let r : Result (Option Message) Halt = Ok o in Takes c.args.ear.now r c.next.new.self) c.in-Ok-Some.field-0-is c.in-Ok-Some.ensures) works
