use Rattle.std.proofs.Common.{None, sym, subst}
use Rattle.foreman_run.specs.Lost.{seen_of}
use Rattle.foreman_core.specs.declared.acts.ForemanActs.{ForemanActs}
use Rattle.foreman_run.specs.Says.{CanGoDown}
use Rattle.peer_run.specs.Says.{CanBeTold, Each}
use Rattle.peer_run.specs.Works.{way_of}
use Rattle.foreman_run.specs.Tied.{with_due}
use Rattle.foreman_run.proofs.Attending.{lost_there, lost_told}
use Rattle.foreman_run.proofs.Going.{lost_not}
use Rattle.foreman_run.proofs.hosting.lose.Goals as goal

pub perform-requires-clause-up : goal.perform-requires-clause-up
perform-requires-clause-up g c κs within =
    let w = c.requires.works.1 in
    subst (λ (a : ForemanActs). Each CanBeTold a.up) (sym c.in-Ok.ensures.0) (lost_told g.F.Commands.gives g.F.Commands.may_fail g.U.Link.tells w.trusted g.L.Link.tells (seen_of g.L.Link.history g.L.Link.is_closed g.L.Link.count g.L.Link.idle_count) g.L.Link.honest w.cap w.book (way_of g.U.Link.history g.U.Link.is_closed g.U.Link.count c.args.parent.now) c.requires.works.0 c.args.core.now c.args.company.now c.args.link w.works).0

pub perform-requires-clause-down : goal.perform-requires-clause-down
perform-requires-clause-down g c κs within =
    let w = c.requires.works.1 in
    subst (λ (a : ForemanActs). CanGoDown a.down) (sym c.in-Ok.ensures.0) (lost_told g.F.Commands.gives g.F.Commands.may_fail g.U.Link.tells w.trusted g.L.Link.tells (seen_of g.L.Link.history g.L.Link.is_closed g.L.Link.count g.L.Link.idle_count) g.L.Link.honest w.cap w.book (way_of g.U.Link.history g.U.Link.is_closed g.U.Link.count c.args.parent.now) c.requires.works.0 c.args.core.now c.args.company.now c.args.link w.works).1

pub returns-in-Ok-perform-clause-goes : goal.returns-in-Ok-perform-clause-goes
returns-in-Ok-perform-clause-goes g c = λ trusted cap book ear works.
    c.in-Ok-perform.ensures.goes trusted cap (with_due book None) ear c.on_lost.new.self
    (lost_there g.F.Commands.gives g.F.Commands.may_fail g.U.Link.tells trusted g.L.Link.tells (seen_of g.L.Link.history g.L.Link.is_closed g.L.Link.count g.L.Link.idle_count) g.L.Link.honest cap book (way_of g.U.Link.history g.U.Link.is_closed g.U.Link.count c.args.parent.now) ear c.args.core.now c.on_lost.new.self c.args.company.now c.args.link c.in-Ok.acts c.in-Ok.ensures.0 c.in-Ok.ensures.1 works)

pub returns-in-Err-clause-goes : goal.returns-in-Err-clause-goes
returns-in-Err-clause-goes g c = λ trusted cap book ear works.
    c.in-Err.ensures.goes trusted cap (with_due book None) ear c.on_lost.new.self
    (lost_there g.F.Commands.gives g.F.Commands.may_fail g.U.Link.tells trusted g.L.Link.tells (seen_of g.L.Link.history g.L.Link.is_closed g.L.Link.count g.L.Link.idle_count) g.L.Link.honest cap book (way_of g.U.Link.history g.U.Link.is_closed g.U.Link.count c.args.parent.now) ear c.args.core.now c.on_lost.new.self c.args.company.now c.args.link c.in-Ok.acts c.in-Ok.ensures.0 c.in-Ok.ensures.1 works)

pub returns-in_default-clause-goes : goal.returns-in_default-clause-goes
returns-in_default-clause-goes g c = λ trusted cap book ear works.
    lost_not g.F.Commands.gives g.F.Commands.may_fail g.U.Link.tells trusted g.L.Link.tells (seen_of g.L.Link.history g.L.Link.is_closed g.L.Link.count g.L.Link.idle_count) g.L.Link.honest cap book c.args.link (way_of g.U.Link.history g.U.Link.is_closed g.U.Link.count c.args.parent.now) ear c.args.core.now c.args.company.now works
