use Rattle.std.proofs.Common.{List, ap, arith, length, subst, sym, ◌<◌, ◌∙◌}
use Rattle.wq_run.specs.Calm.{IsSureOf}
use Rattle.wq_run.proofs.Companies.{inside_parts, met_then, still_met, valid_parts}
use Rattle.local_run.specs.Underway.{IsSurePool}
use Rattle.wq_run.specs.Dues.{IsIllLink, MayLeaveAt}
use Rattle.wq_run.specs.Seats.{CompanyState, IsPartingAt, PartsAt, SeatState}
use Rattle.wq_run.proofs.Duly.{but_left, left_met_as, may_leave}
use Rattle.wq_run.proofs.Duties.{at_ok, due_left, due_then_left, earns_then}
use Rattle.wq_run.proofs.Leaving.{left_kept}
use Rattle.wq_run.proofs.Calmly.{calm_leaves, calm_stays}
use Rattle.wq_run.proofs.company.visits.visit.Goals as goal

pub part_at-requires-clause-valid : goal.part_at-requires-clause-valid
part_at-requires-clause-valid g c κs within =
    let is = c.requires.manned in
    valid_parts is (c.in-Err.ensures.manned is.first is.waiting is.heard is.manned) c.requires.valid

pub part_at-requires-clause-inside : goal.part_at-requires-clause-inside
part_at-requires-clause-inside g c κs within =
    let is = c.requires.manned in
    subst (λ (xs : List (SeatState g.row.H-Way.Denot)). c.args.at < length xs) (sym (ap (λ (x : CompanyState g.row.H-Way.Denot). x.seats) c.leaves.ensures.left)) (inside_parts (c.in-Err.ensures.manned is.first is.waiting is.heard is.manned))

pub part_at-requires-clause-parting : goal.part_at-requires-clause-parting
part_at-requires-clause-parting g c κs within =
    let is = c.requires.manned in
    subst (λ (xs : List (SeatState g.row.H-Way.Denot)). IsPartingAt g.T.Terms.trust g.F.Commands.gives g.F.Commands.may_fail g.T.Terms.sources g.S.Site.tells g.T.Terms.kept (IsSurePool g.B.Terms.fits) g.S.Site.files g.S.Site.may_leave g.S.Site.moment g.S.Site.images_since c.hear_at.new.desk c.hear_at.new.held xs c.args.at) (sym (ap (λ (x : CompanyState g.row.H-Way.Denot). x.seats) c.leaves.ensures.left))
    (record { first = is.first; waiting = is.waiting; heard = is.heard; parts = c.in-Err.ensures.manned is.first is.waiting is.heard is.manned })

pub returns-in-Ok-clause-met : goal.returns-in-Ok-clause-met
returns-in-Ok-clause-met g c =
    let many = c.hear_at.ensures.many in
    let guests = ap length c.hear_at.ensures.guests in
    still_met (record { links = omega (arith, many, guests); fewer = λ k. let e = c.hear_at.ensures.numbers k in omega (arith, e); newest = c.hear_at.ensures.newest }) c.hear_at.ensures.failed c.hear_at.ensures.lost

pub returns-in-Err-clause-manned : goal.returns-in-Err-clause-manned
returns-in-Err-clause-manned g c first waiting heard m =
    c.part_at.ensures.manned first waiting heard
    (subst (λ (xs : List (SeatState g.row.H-Way.Denot)). PartsAt g.T.Terms.trust g.F.Commands.gives g.F.Commands.may_fail g.T.Terms.sources g.S.Site.tells g.T.Terms.kept (IsSurePool g.B.Terms.fits) g.S.Site.files g.S.Site.may_leave g.S.Site.moment g.S.Site.images_since first c.hear_at.new.desk c.hear_at.new.held waiting heard xs c.args.at) (sym (ap (λ (x : CompanyState g.row.H-Way.Denot). x.seats) c.leaves.ensures.left)) (c.in-Err.ensures.manned first waiting heard m))

pub returns-in-Err-clause-met : goal.returns-in-Err-clause-met
returns-in-Err-clause-met g c =
    let many = c.hear_at.ensures.many in
    let guests = ap length c.hear_at.ensures.guests in
    met_then (still_met (record { links = omega (arith, many, guests); fewer = λ k. let e = c.hear_at.ensures.numbers k in omega (arith, e); newest = c.hear_at.ensures.newest }) c.hear_at.ensures.failed c.hear_at.ensures.lost) (met_then (left_met_as c.in-Err.leave c.hear_at.new.company c.leaves.new.self c.leaves.ensures.left) c.part_at.ensures.met)

pub returns-in-Ok-clause-due : goal.returns-in-Ok-clause-due
returns-in-Ok-clause-due g c tells = at_ok _ _ _ (c.in-Ok.ensures.due tells)

pub returns-in-Err-clause-due : goal.returns-in-Err-clause-due
returns-in-Err-clause-due g c tells =
    let was = c.hear_at.new.company in
    let left = c.leaves.ensures.left in
    let keeps = c.in-Err.ensures.due tells in
    let dues = keeps.dues in
    due_then_left _ _ c.args.at (λ before first due. but_left _ _ c.hear_at.new.desk.moves first c.hear_at.new.held.halt (g.H.Hall.got c.args.hall.now) before c.args.at c.in-Err.leave was c.leaves.new.self left (dues.goes (g.H.Hall.got c.args.hall.now) before first due))
    (earns_then _ _ (keeps.earns (g.H.Hall.got c.args.hall.now)) (due_left _ _ c.in-Err.leave was c.leaves.new.self left (left_kept c.in-Err.leave was.lost)).earns)
    (c.part_at.ensures.due c.args.limit tells (λ none fine kept.
    subst (MayLeaveAt (IsIllLink g.F.Commands.gives g.F.Commands.may_fail g.H.Way.Link.history g.H.Way.Link.count g.H.Way.Link.idle_count g.H.Way.Link.is_closed c.args.limit) c.hear_at.new.desk.moves c.args.at) (sym (ap (λ (x : CompanyState g.row.H-Way.Denot). x.seats) c.leaves.ensures.left))
    (may_leave _ g.H.Way.Link.history c.hear_at.new.desk.moves c.args.at was.seats c.in-Err.leave was.lost (dues.leaves none) (sym (ap (λ (x : CompanyState g.row.H-Way.Denot). x.lost) left) ∙ kept))))

pub returns-in-Ok-clause-calm : goal.returns-in-Ok-clause-calm
returns-in-Ok-clause-calm g c asked tells = calm_stays g.F.Commands.gives g.F.Commands.may_fail g.H.Way.Link.history g.H.Way.Link.idle_count (IsSureOf g.H.Way.Link.sure g.H.Way.Link.offers asked) c.args.company.now c.hear_at.new.company (c.in-Ok.ensures.calm asked tells) c.hear_at.ensures.many c.hear_at.ensures.guests c.hear_at.ensures.failed c.hear_at.ensures.lost

pub returns-in-Err-clause-calm : goal.returns-in-Err-clause-calm
returns-in-Err-clause-calm g c asked tells =
    calm_leaves g.F.Commands.gives g.F.Commands.may_fail g.H.Way.Link.history g.H.Way.Link.idle_count (IsSureOf g.H.Way.Link.sure g.H.Way.Link.offers asked) c.args.company.now c.hear_at.new.company c.leaves.new.self c.part_at.new.company c.in-Err.leave (c.in-Err.ensures.calm asked tells) c.hear_at.ensures.failed c.hear_at.ensures.lost c.leaves.ensures.left c.part_at.ensures.met c.part_at.ensures.grows
