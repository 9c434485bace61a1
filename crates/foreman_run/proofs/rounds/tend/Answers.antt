use Rattle.std.proofs.Common.{Bool, Result, Err, length, sym, ◌∙◌}
use Rattle.foreman_run.specs.Lost.{seen_of}
use Rattle.peer_run.specs.Works.{way_of}
use Rattle.foreman_run.specs.declared.stop.Stop.{Stop}
use Rattle.foreman_run.specs.Tied.{with_got, with_hall}
use Rattle.foreman_run.proofs.Going.{still_kept}
use Rattle.foreman_run.proofs.Hosted.{by_left}
use Rattle.foreman_run.proofs.rounds.tend.Goals as goal

pub hear_all-requires-clause-works : goal.hear_all-requires-clause-works
hear_all-requires-clause-works g c κs within =
    let w = c.requires.works.2 in
    let ear = c.requires.works.0 in
    (ear, record { trusted = w.trusted; untrusted = w.untrusted; cap = w.cap; book = (with_hall w.book (g.H.Hall.got c.args.hall.now) c.requires.works.1); works = still_kept g.F.Commands.gives g.F.Commands.may_fail g.U.Link.tells w.trusted g.H.Way.Link.tells (seen_of g.H.Way.Link.history g.H.Way.Link.is_closed g.H.Way.Link.count g.H.Way.Link.idle_count) g.H.Way.Link.honest w.cap (with_hall w.book (g.H.Hall.got c.args.hall.now) c.requires.works.1) (way_of g.U.Link.history g.U.Link.is_closed g.U.Link.count c.args.parent.now) ear c.args.core.now c.args.company.now c.check.new.self c.check.ensures w.works })

pub lose_all-requires-clause-works : goal.lose_all-requires-clause-works
lose_all-requires-clause-works g c κs within =
    let w = c.requires.works.2 in
    let ear = c.requires.works.0 in
    (ear, c.requires.works.1, record { trusted = w.trusted; untrusted = w.untrusted; cap = w.cap; book = w.book; works = c.in-Ok.ensures.goes w.trusted w.cap (with_hall w.book (g.H.Hall.got c.args.hall.now) c.requires.works.1) ear (still_kept g.F.Commands.gives g.F.Commands.may_fail g.U.Link.tells w.trusted g.H.Way.Link.tells (seen_of g.H.Way.Link.history g.H.Way.Link.is_closed g.H.Way.Link.count g.H.Way.Link.idle_count) g.H.Way.Link.honest w.cap (with_hall w.book (g.H.Hall.got c.args.hall.now) c.requires.works.1) (way_of g.U.Link.history g.U.Link.is_closed g.U.Link.count c.args.parent.now) ear c.args.core.now c.args.company.now c.check.new.self c.check.ensures w.works) })

pub returns-in-Err-lose_all-clause-goes : goal.returns-in-Err-lose_all-clause-goes
returns-in-Err-lose_all-clause-goes g c = λ trusted cap book ear works.
    c.in-Err-lose_all.ensures.goes trusted cap book ear (c.in-Ok.ensures.goes trusted cap (with_got book (g.H.Hall.got c.args.hall.now)) ear (still_kept g.F.Commands.gives g.F.Commands.may_fail g.U.Link.tells trusted g.H.Way.Link.tells (seen_of g.H.Way.Link.history g.H.Way.Link.is_closed g.H.Way.Link.count g.H.Way.Link.idle_count) g.H.Way.Link.honest cap (with_got book (g.H.Hall.got c.args.hall.now)) (way_of g.U.Link.history g.U.Link.is_closed g.U.Link.count c.args.parent.now) ear c.args.core.now c.args.company.now c.check.new.self c.check.ensures works))

pub returns-in-Err-clause-hosts : goal.returns-in-Err-clause-hosts
returns-in-Err-clause-hosts g c =
    let r : Result Bool Stop = Err c.in-Err.stop in
    by_left (g.H.Hall.count c.args.hall.now) (g.H.Hall.got c.args.hall.now) (g.H.Hall.given c.args.hall.now) (length c.args.company.now) (length c.hear_all.new.company) r (sym (c.in-Err.ensures.many ∙ c.check.ensures.many)) c.in-Err.ensures.left

pub returns-then-heard-clause-goes : goal.returns-then-heard-clause-goes
returns-then-heard-clause-goes g c = λ trusted cap book ear works.
    c.in-Ok-lose_all.ensures.goes trusted cap book ear (c.in-Ok.ensures.goes trusted cap (with_got book (g.H.Hall.got c.args.hall.now)) ear (still_kept g.F.Commands.gives g.F.Commands.may_fail g.U.Link.tells trusted g.H.Way.Link.tells (seen_of g.H.Way.Link.history g.H.Way.Link.is_closed g.H.Way.Link.count g.H.Way.Link.idle_count) g.H.Way.Link.honest cap (with_got book (g.H.Hall.got c.args.hall.now)) (way_of g.U.Link.history g.U.Link.is_closed g.U.Link.count c.args.parent.now) ear c.args.core.now c.args.company.now c.check.new.self c.check.ensures works))

pub returns-else-heard-clause-goes : goal.returns-else-heard-clause-goes
returns-else-heard-clause-goes g c = λ trusted cap book ear works.
    c.in-Ok-lose_all.ensures.goes trusted cap book ear (c.in-Ok.ensures.goes trusted cap (with_got book (g.H.Hall.got c.args.hall.now)) ear (still_kept g.F.Commands.gives g.F.Commands.may_fail g.U.Link.tells trusted g.H.Way.Link.tells (seen_of g.H.Way.Link.history g.H.Way.Link.is_closed g.H.Way.Link.count g.H.Way.Link.idle_count) g.H.Way.Link.honest cap (with_got book (g.H.Hall.got c.args.hall.now)) (way_of g.U.Link.history g.U.Link.is_closed g.U.Link.count c.args.parent.now) ear c.args.core.now c.args.company.now c.check.new.self c.check.ensures works))

pub returns-in-Err-clause-goes : goal.returns-in-Err-clause-goes
returns-in-Err-clause-goes g c = λ trusted cap book ear works.
    c.in-Err.ensures.goes trusted cap (with_got book (g.H.Hall.got c.args.hall.now)) ear (still_kept g.F.Commands.gives g.F.Commands.may_fail g.U.Link.tells trusted g.H.Way.Link.tells (seen_of g.H.Way.Link.history g.H.Way.Link.is_closed g.H.Way.Link.count g.H.Way.Link.idle_count) g.H.Way.Link.honest cap (with_got book (g.H.Hall.got c.args.hall.now)) (way_of g.U.Link.history g.U.Link.is_closed g.U.Link.count c.args.parent.now) ear c.args.core.now c.args.company.now c.check.new.self c.check.ensures works)
