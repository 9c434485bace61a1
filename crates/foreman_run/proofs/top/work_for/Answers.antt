use Rattle.std.proofs.Common.{rules, ◌≡◌}
use Rattle.foreman_run.specs.Lost.{seen_of}
use Rattle.peer_run.specs.Works.{way_of}
use Rattle.foreman_run.specs.Ended.{cap_by, cause_by}
use Rattle.foreman_run.proofs.Ending.{has_stopped, none_handed}
use Rattle.foreman_run.proofs.top.work_for.Goals as goal

pub returns-in-Err-Memory-dial-clause-back : goal.returns-in-Err-Memory-dial-clause-back
returns-in-Err-Memory-dial-clause-back g c = none_handed (g.H.Hall.count c.args.hall.now) (g.H.Hall.got c.args.hall.now) (g.H.Hall.given c.args.hall.now) _

pub returns-in-Err-Failed-clause-back : goal.returns-in-Err-Failed-clause-back
returns-in-Err-Failed-clause-back g c = none_handed (g.H.Hall.count c.args.hall.now) (g.H.Hall.got c.args.hall.now) (g.H.Hall.given c.args.hall.now) _

pub returns-clause-ended : goal.returns-clause-ended
returns-clause-ended g c =
    let way = way_of g.D.Way.Link.history g.D.Way.Link.is_closed g.D.Way.Link.count c.work-stop.new.parent in
    let is : c.cause_by-cause.result ≡ cause_by (g.D.Way.Link.count c.work-stop.new.parent) (g.H.Hall.count c.args.hall.now) (g.H.Hall.count c.work-stop.new.hall) c.work-stop.result = search rules in (
      c.in-Ok.options,
      c.in-Ok.ensures.ok,
      has_stopped g.F.Commands.gives g.F.Commands.may_fail g.D.Way.Link.tells (g.H.Hall.honest c.args.hall.now) g.H.Way.Link.tells (seen_of g.H.Way.Link.history g.H.Way.Link.is_closed g.H.Way.Link.count g.H.Way.Link.idle_count) (cap_by c.in-Ok.options) way (g.H.Hall.count c.args.hall.now) (g.H.Hall.count c.work-stop.new.hall)
          (g.H.Hall.got c.args.hall.now) (g.H.Hall.got c.work-stop.new.hall) (g.H.Hall.given c.args.hall.now) (g.H.Hall.given c.work-stop.new.hall) c.work-stop.result c.cause_by-cause.result is c.work-stop.ensures.hosts c.work-stop.ensures.stops,
    )
