use Rattle.std.proofs.Common.{◌≡◌, [], List, None, rules, subst, sym}
use Rattle.desk.specs.declared.attempt.Attempt.{Attempt}
use Rattle.wq_run.specs.Trusted.{IsFair, IsTrusted}
use Rattle.wq_run.proofs.Trusts.{guest_trusted}
use Rattle.wq_run.proofs.seat.Seat.new.Goals as goal

pub invariant_of-result : goal.invariant_of-result
invariant_of-result g c ready held =
    let none : c.new.result.items ≡ [] = search rules in
    subst (λ (xs : List Attempt). IsTrusted g.T.Trust.holds g.F.Commands.gives g.F.Commands.may_fail g.L.Link.history (IsFair g.T.Trust.holds g.L.Link.tells g.L.Link.honest) g.T.Trust.plan g.T.Trust.run g.T.Trust.due (record { peer = c.args.peer; link = c.args.link; attempts = xs; newest = None })) (sym none)
    (guest_trusted g.T.Trust.holds g.F.Commands.gives g.F.Commands.may_fail g.L.Link.history (IsFair g.T.Trust.holds g.L.Link.tells g.L.Link.honest) g.T.Trust.plan g.T.Trust.run g.T.Trust.due c.args.peer c.args.link (c.requires.meant held))
