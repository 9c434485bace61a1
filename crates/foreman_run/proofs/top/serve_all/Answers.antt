use Rattle.std.proofs.Common.{◌≡◌, [], false, ℕ, List, length, ap, sym, subst}
use Rattle.foreman_run.specs.Lost.{seen_of}
use Rattle.peer_run.specs.Works.{way_of}
use Rattle.foreman_run.specs.Ends.{StopsOver}
use Rattle.foreman_run.specs.Hosts.{HostsTill, LetsGo}
use Rattle.foreman_run.specs.Lowers.{LowerState}
use Rattle.foreman_run.specs.Tied.{with_hall}
use Rattle.foreman_run.specs.Works.{IsAtHall, Works}
use Rattle.foreman_run.proofs.Ending.{over_by}
use Rattle.foreman_run.proofs.Hosted.{lets_go}
use Rattle.foreman_run.proofs.top.serve_all.Goals as goal

pub serve-stop-requires-clause-works : goal.serve-stop-requires-clause-works
serve-stop-requires-clause-works g c κs within =
    subst (IsAtHall g.F.Commands.gives g.F.Commands.may_fail g.U.Link.tells g.H.Way.Link.tells (seen_of g.H.Way.Link.history g.H.Way.Link.is_closed g.H.Way.Link.count g.H.Way.Link.idle_count) g.H.Way.Link.honest (g.H.Hall.got c.args.hall.now) 0 (way_of g.U.Link.history g.U.Link.is_closed g.U.Link.count c.args.parent.now) c.args.ear.now c.args.core.now) (sym c.new-company.ensures) c.requires.works

pub returns-clause-stops : goal.returns-clause-stops
returns-clause-stops g c = λ trusted cap book trusts works.
    let way = (way_of g.U.Link.history g.U.Link.is_closed g.U.Link.count c.serve-stop.new.parent) in
    let begun = subst (λ (ls : List (LowerState g.row.H-Way.Denot)). Works g.F.Commands.gives g.F.Commands.may_fail g.U.Link.tells trusted g.H.Way.Link.tells (seen_of g.H.Way.Link.history g.H.Way.Link.is_closed g.H.Way.Link.count g.H.Way.Link.idle_count) g.H.Way.Link.honest cap (with_hall book (g.H.Hall.got c.args.hall.now) 0) (way_of g.U.Link.history g.U.Link.is_closed g.U.Link.count c.args.parent.now) c.args.ear.now c.args.core.now ls [] [] false) (sym c.new-company.ensures) works in
    subst (StopsOver g.F.Commands.gives g.F.Commands.may_fail g.U.Link.tells trusted g.H.Way.Link.tells (seen_of g.H.Way.Link.history g.H.Way.Link.is_closed g.H.Way.Link.count g.H.Way.Link.idle_count) cap book (g.H.Hall.got c.dismiss-whole.new.hall) (g.H.Hall.given c.args.hall.now) (g.H.Hall.given c.dismiss-whole.new.hall) way []) (sym c.stop_by.ensures)
    (over_by g.F.Commands.gives g.F.Commands.may_fail g.U.Link.tells trusted g.H.Way.Link.tells (seen_of g.H.Way.Link.history g.H.Way.Link.is_closed g.H.Way.Link.count g.H.Way.Link.idle_count) cap book (g.H.Hall.got c.serve-stop.new.hall) (g.H.Hall.got c.dismiss-whole.new.hall) (g.H.Hall.given c.args.hall.now) (g.H.Hall.given c.serve-stop.new.hall) (g.H.Hall.given c.dismiss-whole.new.hall) way c.serve-stop.new.company c.serve-stop.result c.dismiss-whole.result
    c.dismiss-whole.ensures.given c.dismiss-whole.ensures.ties (c.serve-stop.ensures.stops trusted cap book trusts begun))

pub returns-clause-hosts : goal.returns-clause-hosts
returns-clause-hosts g c =
    let none : length c.new-company.result ≡ 0 = ap length c.new-company.ensures in
    let rounds = subst (λ (n : ℕ). HostsTill (g.H.Hall.count c.args.hall.now) (g.H.Hall.count c.serve-stop.new.hall) (g.H.Hall.got c.args.hall.now) (g.H.Hall.got c.serve-stop.new.hall) (g.H.Hall.given c.args.hall.now) (g.H.Hall.given c.serve-stop.new.hall) n (length c.serve-stop.new.company) c.serve-stop.result) none c.serve-stop.ensures.hosts in
    subst (LetsGo (g.H.Hall.count c.args.hall.now) (g.H.Hall.count c.dismiss-whole.new.hall) (g.H.Hall.got c.args.hall.now) (g.H.Hall.got c.dismiss-whole.new.hall) (g.H.Hall.given c.args.hall.now) (g.H.Hall.given c.dismiss-whole.new.hall)) (sym c.stop_by.ensures)
    (lets_go (g.H.Hall.count c.args.hall.now) (g.H.Hall.count c.serve-stop.new.hall) (g.H.Hall.count c.dismiss-whole.new.hall) (g.H.Hall.got c.args.hall.now) (g.H.Hall.got c.serve-stop.new.hall) (g.H.Hall.got c.dismiss-whole.new.hall)
    (g.H.Hall.given c.args.hall.now) (g.H.Hall.given c.serve-stop.new.hall) (g.H.Hall.given c.dismiss-whole.new.hall) (length c.serve-stop.new.company) c.serve-stop.result c.dismiss-whole.result rounds c.dismiss-whole.ensures.hosts)
