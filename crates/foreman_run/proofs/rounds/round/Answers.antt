use Rattle.std.proofs.Common.{rules, ◌≡◌, Bool, [], false, Result, Err, length, refl, sym, subst}
use Rattle.foreman_run.specs.Lost.{seen_of}
use Rattle.foreman_run.specs.declared.stop.Stop.{Stop}
use Rattle.peer_run.specs.Works.{way_of}
use Rattle.foreman_run.specs.Looks.{is_over}
use Rattle.foreman_run.specs.Tied.{with_hall}
use Rattle.foreman_run.specs.Works.{Works}
use Rattle.foreman_run.proofs.Hosted.{by_left}
use Rattle.foreman_run.proofs.rounds.round.Goals as goal
use Rattle.foreman_run.proofs.rounds.round.Goals.{in-Message, in-Bytes, in-Nothing}

pub returns-in-Err-clause-goes : goal.returns-in-Err-clause-goes
returns-in-Err-clause-goes g c = λ trusted cap book trusts works. c.in-Err.ensures.goes trusted cap (with_hall book (g.H.Hall.got c.args.hall.now) c.args.numbered.now) c.args.ear.now c.args.core.now c.args.company.now works

pub returns-in-Err-clause-hosts : goal.returns-in-Err-clause-hosts
returns-in-Err-clause-hosts g c =
    let r : Result Bool Stop = Err c.in-Err.stop in
    by_left (g.H.Hall.count c.args.hall.now) (g.H.Hall.got c.args.hall.now) (g.H.Hall.given c.args.hall.now) (length c.args.company.now) (length c.args.company.now) r refl c.in-Err.ensures.left

pub attend_some-requires-clause-works : goal.attend_some-requires-clause-works
attend_some-requires-clause-works g c κs within =
    let w = c.requires.works in
    record { trusted = w.trusted; untrusted = w.untrusted; cap = w.cap; book = (with_hall w.book (g.H.Hall.got c.args.hall.now) c.args.numbered.now); works = c.in_default.ensures.goes w.trusted w.cap (with_hall w.book (g.H.Hall.got c.args.hall.now) c.args.numbered.now) c.args.ear.now c.args.core.now c.args.company.now w.works }

pub returns-in-Err-attend_some-clause-hosts : goal.returns-in-Err-attend_some-clause-hosts
returns-in-Err-attend_some-clause-hosts g c =
    let r : Result Bool Stop = Err c.in-Err-attend_some.stop in
    by_left (g.H.Hall.count c.args.hall.now) (g.H.Hall.got c.args.hall.now) (g.H.Hall.given c.args.hall.now) (length c.args.company.now) (length c.attend_some.new.company) r (sym c.in-Err-attend_some.ensures.many) c.in-Err-attend_some.ensures.left

pub host-requires-clause-works : goal.host-requires-clause-works
host-requires-clause-works g c κs within =
    let w = c.requires.works in
    let stays : is_over c.in-Ok.look ≡ false = elim c.match-look.branch [ in-Message v ↦ search rules | in-Bytes v ↦ search rules | in-Nothing v ↦ search rules ] in
    (c.attend_some.new.ear, record { trusted = w.trusted; untrusted = w.untrusted; cap = w.cap; book = w.book; works = subst (λ (b : Bool). Works g.F.Commands.gives g.F.Commands.may_fail g.U.Link.tells w.trusted g.H.Way.Link.tells (seen_of g.H.Way.Link.history g.H.Way.Link.is_closed g.H.Way.Link.count g.H.Way.Link.idle_count) g.H.Way.Link.honest w.cap (with_hall w.book (g.H.Hall.got c.args.hall.now) c.args.numbered.now) (way_of g.U.Link.history g.U.Link.is_closed g.U.Link.count c.attend_some.new.link) c.attend_some.new.ear c.attend_some.new.core c.attend_some.new.company [] [] b) stays (c.in-Ok.ensures.goes w.trusted w.cap (with_hall w.book (g.H.Hall.got c.args.hall.now) c.args.numbered.now) (c.in_default.ensures.goes w.trusted w.cap (with_hall w.book (g.H.Hall.got c.args.hall.now) c.args.numbered.now) c.args.ear.now c.args.core.now c.args.company.now w.works)) })

pub returns-in-Err-host-clause-goes : goal.returns-in-Err-host-clause-goes
returns-in-Err-host-clause-goes g c = λ trusted cap book trusts works.
    let stays : is_over c.in-Ok.look ≡ false = elim c.match-look.branch [ in-Message v ↦ search rules | in-Bytes v ↦ search rules | in-Nothing v ↦ search rules ] in
    c.in-Err-host.ensures.goes trusted cap book c.attend_some.new.ear trusts
    (subst (λ (b : Bool). Works g.F.Commands.gives g.F.Commands.may_fail g.U.Link.tells trusted g.H.Way.Link.tells (seen_of g.H.Way.Link.history g.H.Way.Link.is_closed g.H.Way.Link.count g.H.Way.Link.idle_count) g.H.Way.Link.honest cap (with_hall book (g.H.Hall.got c.args.hall.now) c.args.numbered.now) (way_of g.U.Link.history g.U.Link.is_closed g.U.Link.count c.attend_some.new.link) c.attend_some.new.ear c.attend_some.new.core c.attend_some.new.company [] [] b) stays (c.in-Ok.ensures.goes trusted cap (with_hall book (g.H.Hall.got c.args.hall.now) c.args.numbered.now) (c.in_default.ensures.goes trusted cap (with_hall book (g.H.Hall.got c.args.hall.now) c.args.numbered.now) c.args.ear.now c.args.core.now c.args.company.now works)))

pub returns-in-Err-attend_some-clause-goes : goal.returns-in-Err-attend_some-clause-goes
returns-in-Err-attend_some-clause-goes g c = λ trusted cap book trusts works.
    c.in-Err-attend_some.ensures.goes trusted cap (with_hall book (g.H.Hall.got c.args.hall.now) c.args.numbered.now) (c.in_default.ensures.goes trusted cap (with_hall book (g.H.Hall.got c.args.hall.now) c.args.numbered.now) c.args.ear.now c.args.core.now c.args.company.now works)
