use Rattle.std.proofs.Common.{rules, ◌≡◌, length, true, sym, subst}
use Rattle.peer_run.specs.declared.halt.Halt.{Halt}
use Rattle.peer_run.specs.Ends.{HasLeft}
use Rattle.peer_run.specs.Works.{IsToldPool, way_of}
use Rattle.peer_run.proofs.Going.{is_over_at, leaves_so, wants}
use Rattle.peer_run.proofs.work.serve.Goals as goal

pub returns-then-is_none-clause-leaves : goal.returns-then-is_none-clause-leaves
returns-then-is_none-clause-leaves g c = λ first faults works.
    let told = IsToldPool g.F.Commands.gives g.F.Commands.may_fail g.B.Terms.fits in
    wants g.F.Commands.gives g.F.Commands.may_fail g.L.Link.tells told g.B.Terms.fits first faults (way_of g.L.Link.history g.L.Link.is_closed g.L.Link.count c.loop.link) c.loop.ear c.loop.core c.loop.pool.waiting c.loop.pool.heard c.loop.left (c.loop.invariant.works first faults works)

pub hear-requires-clause-running : goal.hear-requires-clause-running
hear-requires-clause-running g c κs within = (c.loop.invariant.works c.requires.works.0 c.requires.works.1 c.requires.works.2).running

pub returns-in-Err-clause-leaves : goal.returns-in-Err-clause-leaves
returns-in-Err-clause-leaves g c = λ first faults works.
    let told = IsToldPool g.F.Commands.gives g.F.Commands.may_fail g.B.Terms.fits in
    let way = way_of g.L.Link.history g.L.Link.is_closed g.L.Link.count c.hear.new.link in
    subst (λ (h : Halt). HasLeft g.F.Commands.gives g.F.Commands.may_fail g.L.Link.tells g.B.Terms.fits first faults way c.hear.new.pool.heard h) (sym c.leaving.ensures)
    (leaves_so g.F.Commands.gives g.F.Commands.may_fail g.L.Link.tells told g.B.Terms.fits first faults way c.hear.new.pool.heard c.loop.left c.in-Err.halt
    (c.in-Err.ensures.goes first faults c.loop.ear c.loop.left (c.loop.invariant.works first faults works)))

pub returns-in-Err-send_on-clause-leaves : goal.returns-in-Err-send_on-clause-leaves
returns-in-Err-send_on-clause-leaves g c = λ first faults works.
    let told = IsToldPool g.F.Commands.gives g.F.Commands.may_fail g.B.Terms.fits in
    let way = way_of g.L.Link.history g.L.Link.is_closed g.L.Link.count c.send_on.new.link in
    let pool = c.hear.new.pool in
    subst (λ (h : Halt). HasLeft g.F.Commands.gives g.F.Commands.may_fail g.L.Link.tells g.B.Terms.fits first faults way pool.heard h) (sym c.leaving-in-Err-send_on.ensures)
    (leaves_so g.F.Commands.gives g.F.Commands.may_fail g.L.Link.tells told g.B.Terms.fits first faults way pool.heard c.loop.left c.in-Err-send_on.halt
    (c.in-Err-send_on.ensures.goes first faults c.loop.ear c.hear.new.core pool.waiting pool.heard
    (c.in-Ok-false.ensures.goes first faults c.loop.ear c.loop.left (c.loop.invariant.works first faults works))))

pub returns-then-behind-eq0-clause-leaves : goal.returns-then-behind-eq0-clause-leaves
returns-then-behind-eq0-clause-leaves g c = λ first faults works.
    let told = IsToldPool g.F.Commands.gives g.F.Commands.may_fail g.B.Terms.fits in
    let way = way_of g.L.Link.history g.L.Link.is_closed g.L.Link.count c.send_on.new.link in
    let pool = c.hear.new.pool in
    let left : c.loop.left ≡ true = search rules in
    let none : length pool.waiting ≡ 0 = search rules in
    is_over_at g.F.Commands.gives g.F.Commands.may_fail g.L.Link.tells told g.B.Terms.fits first faults way c.loop.ear c.hear.new.core pool.waiting pool.heard c.loop.left left none
    (c.in_default.ensures.goes first faults c.loop.ear c.hear.new.core pool.waiting pool.heard
    (c.in-Ok-false.ensures.goes first faults c.loop.ear c.loop.left (c.loop.invariant.works first faults works)))

pub attend-requires-clause-going : goal.attend-requires-clause-going
attend-requires-clause-going g c κs within = (c.loop.invariant.works c.requires.works.0 c.requires.works.1 c.requires.works.2).going
