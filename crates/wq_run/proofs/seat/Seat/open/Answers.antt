use Rattle.std.proofs.Common.{◌≡◌, Some, ap, subst, sym}
use Rattle.std.specs.List.{AllByRecursion}
use Rattle.peers.specs.States.{PeerState}
use Rattle.wq_run.specs.Seats.{SeatState}
use Rattle.wq_run.specs.Trusted.{IsFair, IsOwn, MayOpen}
use Rattle.wq_run.specs.Calm.{IsSureOf, IsSureSeat}
use Rattle.wq_run.proofs.Trusts.{open_asks}
use Rattle.wq_run.proofs.Calm.{if_three, sure_opened}
use Rattle.wq_run.proofs.seat.Seat.open.Goals as goal

pub returns-clause-asks : goal.returns-clause-asks
returns-clause-asks g c held may own =
    if_three c.open.result _ _ _ _ c.open.ensures.files c.open.ensures.ok c.open.ensures.serves
    (λ files left is serves. open_asks g.T.Trust.holds g.F.Commands.gives g.F.Commands.may_fail g.L.Link.history (IsFair g.T.Trust.holds g.L.Link.tells g.L.Link.honest) g.T.Trust.plan g.T.Trust.run g.T.Trust.due (record { peer = c.self.inside.peer; link = c.self.inside.link; attempts = c.self.inside.attempts.items; newest = c.self.inside.newest }) c.open.new.self c.args.task.now files (ap (λ (p : PeerState g.row.L.Denot). p.session) is) left (λ said heard honest was new. serves said heard honest.0 was new)
    (λ honest. subst (λ (p : PeerState g.row.L.Denot). IsFair g.T.Trust.holds g.L.Link.tells g.L.Link.honest p.way) (sym is) honest) (subst (λ (s : SeatState g.row.L.Denot). MayOpen g.T.Trust.holds g.F.Commands.gives g.F.Commands.may_fail g.L.Link.history (IsFair g.T.Trust.holds g.L.Link.tells g.L.Link.honest) g.T.Trust.plan g.T.Trust.run g.T.Trust.due s c.args.task.now.attempt) (sym c.self.view_is) may)
    (subst (λ (s : SeatState g.row.L.Denot). AllByRecursion (IsOwn g.T.Trust.plan g.T.Trust.run c.args.task.now) s.attempts) (sym c.self.view_is) own))

pub returns-clause-calm : goal.returns-clause-calm
returns-clause-calm g c asked tells was newer =
    if_three c.open.result _ _ _ _ c.open.ensures.files c.open.ensures.ok c.open.ensures.serves
    (λ files left is serves. sure_opened g.F.Commands.gives g.F.Commands.may_fail g.L.Link.history (IsSureOf g.L.Link.sure g.L.Link.offers asked) (record { peer = c.self.inside.peer; link = c.self.inside.link; attempts = c.self.inside.attempts.items; newest = c.self.inside.newest }) c.open.new.self c.args.task.now files c.tasks_come_behind_their_inputs.ensures.opened (ap (λ (p : PeerState g.row.L.Denot). p.session) is) left
    (λ said heard was new. serves said heard tells was new) (λ on. subst (λ (p : PeerState g.row.L.Denot). IsSureOf g.L.Link.sure g.L.Link.offers asked p.way) (sym is) on)
    (λ last same. newer last (subst (λ (s : SeatState g.row.L.Denot). s.newest ≡ Some last) c.self.view_is same)) (subst (IsSureSeat g.F.Commands.gives g.F.Commands.may_fail g.L.Link.history (IsSureOf g.L.Link.sure g.L.Link.offers asked)) (sym c.self.view_is) was))
