use Rattle.std.proofs.Common.{refl, subst, sym}
use Rattle.wq_submit.specs.Queues.{IsUnder, QueueState}
use Rattle.wq_submit.proofs.Waiting.{empty_never, goes_empty, goes_now, under_of}
use Rattle.wq_submit.proofs.queue.Queue.at_once.Goals as goal

pub returns-then-is_empty-clause-goes : goal.returns-then-is_empty-clause-goes
returns-then-is_empty-clause-goes g c = goes_empty g.H.Way.Link.tells g.F.Commands.gives g.F.Commands.may_fail g.H.Way.Link.history g.H.Way.Link.honest c.args.self.now (c.is_empty.ensures.empty c.if-is_empty.true)

pub returns-in-Some-clause-goes : goal.returns-in-Some-clause-goes
returns-in-Some-clause-goes g c = goes_now g.H.Way.Link.tells g.F.Commands.gives g.F.Commands.may_fail g.H.Way.Link.history g.H.Way.Link.honest c.args.self.now c.give.new.self c.in-Some.ready c.in-Some.ensures.given

pub returns-in-None-clause-none : goal.returns-in-None-clause-none
returns-in-None-clause-none g c = (
  subst (λ (q : QueueState g.row.H-Way.Denot). IsUnder q.kept q.kept) (sym c.in-None.ensures.none.1) (under_of c.args.self.now.kept c.in-None.ensures.none.0 (c.is_empty.ensures.held c.if-is_empty.false)),
  c.in-None.ensures.none.1,
)

pub returns-then-is_empty-clause-empty : goal.returns-then-is_empty-clause-empty
returns-then-is_empty-clause-empty g c = (λ is. c.is_empty.ensures.empty c.if-is_empty.true, λ none. refl)

pub returns-in-Some-clause-empty : goal.returns-in-Some-clause-empty
returns-in-Some-clause-empty g c = empty_never c.args.self.now.kept _ (λ is. let wrong : ⊥ = cc in wrong) (c.is_empty.ensures.held c.if-is_empty.false)
