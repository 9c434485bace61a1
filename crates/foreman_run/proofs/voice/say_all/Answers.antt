use Rattle.std.proofs.Common.{◌∙◌, arith}
use Rattle.foreman_run.proofs.Saying.{said_more, said_short}
use Rattle.foreman_run.proofs.voice.say_all.Goals as goal

pub loop-message-preserved : goal.loop-message-preserved
loop-message-preserved g c = record {
  said = said_more g.F.Commands.gives g.F.Commands.may_fail g.U.Link.tells c.args.messages c.loop-message.message-iterator.rest.items c.next.new.self.rest.items c.in-Some.message (g.U.Link.history c.args.link.now) (g.U.Link.history c.loop-message.link) (g.U.Link.history c.say_one.new.link)
      c.in-Some.ensures.steps.0 c.loop-message.invariant.said c.in-Ok.ensures.one;
  closed = c.in-Ok.ensures.closed ∙ c.loop-message.invariant.closed;
  later = omega (arith, c.loop-message.invariant.later, c.in-Ok.ensures.cause.later);
}

pub returns-in-Err-clause-said : goal.returns-in-Err-clause-said
returns-in-Err-clause-said g c =
    (said_short g.F.Commands.gives g.F.Commands.may_fail g.U.Link.tells c.args.messages c.loop-message.message-iterator.rest.items c.next.new.self.rest.items c.in-Some.message (g.U.Link.history c.args.link.now) (g.U.Link.history c.loop-message.link) (g.U.Link.history c.say_one.new.link)
    c.in-Err.fault c.in-Some.ensures.steps.0 c.loop-message.invariant.said c.in-Err.ensures.one).1

pub returns-in-Err-clause-sent : goal.returns-in-Err-clause-sent
returns-in-Err-clause-sent g c =
    (said_short g.F.Commands.gives g.F.Commands.may_fail g.U.Link.tells c.args.messages c.loop-message.message-iterator.rest.items c.next.new.self.rest.items c.in-Some.message (g.U.Link.history c.args.link.now) (g.U.Link.history c.loop-message.link) (g.U.Link.history c.say_one.new.link)
    c.in-Err.fault c.in-Some.ensures.steps.0 c.loop-message.invariant.said c.in-Err.ensures.one).0
