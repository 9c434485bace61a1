use Rattle.std.proofs.Common.{Bool, Result, Err, length, ◌∙◌}
use Rattle.foreman_run.specs.Tied.{with_hall}
use Rattle.foreman_run.specs.declared.stop.Stop.{Stop}
use Rattle.foreman_run.proofs.Hosted.{on_by, on_then}
use Rattle.foreman_run.proofs.rounds.lose_all.Goals as goal

pub lose_next-requires-clause-works : goal.lose_next-requires-clause-works
lose_next-requires-clause-works g c κs within =
    let w = c.requires.works.2 in
    (c.requires.works.0, c.requires.works.1, record { trusted = w.trusted; untrusted = w.untrusted; cap = w.cap; book = w.book; works = c.loop.invariant.goes w.trusted w.cap (with_hall w.book (g.H.Hall.got c.args.hall.now) c.requires.works.1) c.requires.works.0 w.works })

pub loop-preserved : goal.loop-preserved
loop-preserved g c = record {
  goes = λ trusted cap book ear works. c.in-Ok.ensures.goes trusted cap book ear (c.loop.invariant.goes trusted cap book ear works);
  hosts = on_then (g.H.Hall.count c.args.hall.now) (g.H.Hall.count c.loop.hall) (g.H.Hall.count c.lose_next.new.hall) (g.H.Hall.got c.args.hall.now) (g.H.Hall.got c.loop.hall) (g.H.Hall.got c.lose_next.new.hall) (g.H.Hall.given c.args.hall.now) (g.H.Hall.given c.loop.hall) (g.H.Hall.given c.lose_next.new.hall)
      (length c.args.company.now) (length c.loop.company) (length c.lose_next.new.company) c.in-Ok.lost c.loop.invariant.hosts c.in-Ok.ensures.hosts;
  given = c.in-Ok.ensures.given ∙ c.loop.invariant.given;
  listens = λ is. c.in-Ok.ensures.listens (c.loop.invariant.listens is);
  honest = λ is. c.in-Ok.ensures.honest (c.loop.invariant.honest is);
}

pub returns-in-Err-clause-goes : goal.returns-in-Err-clause-goes
returns-in-Err-clause-goes g c = λ trusted cap book ear works. c.in-Err.ensures.goes trusted cap book ear (c.loop.invariant.goes trusted cap book ear works)

pub returns-in-Err-clause-hosts : goal.returns-in-Err-clause-hosts
returns-in-Err-clause-hosts g c =
    let r : Result Bool Stop = Err c.in-Err.stop in
    on_by (g.H.Hall.count c.args.hall.now) (g.H.Hall.count c.loop.hall) (g.H.Hall.count c.lose_next.new.hall) (g.H.Hall.got c.args.hall.now) (g.H.Hall.got c.loop.hall) (g.H.Hall.got c.lose_next.new.hall) (g.H.Hall.given c.args.hall.now) (g.H.Hall.given c.loop.hall) (g.H.Hall.given c.lose_next.new.hall)
    (length c.args.company.now) (length c.loop.company) (length c.lose_next.new.company) r c.loop.invariant.hosts c.in-Err.ensures.hosts

pub returns-in-Err-clause-given : goal.returns-in-Err-clause-given
returns-in-Err-clause-given g c = c.in-Err.ensures.given ∙ c.loop.invariant.given
